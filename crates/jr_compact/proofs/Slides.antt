-- An object moves down, element by element.
use Rattle.std.proofs.Common.{◌≡◌, ◌+◌, ◌<◌, ◌≤◌, ℕ, Option, Some, None, [], refl, sym, ap, subst, ◌∙◌, arith}
use mathlib.Core.Logic.{∥∥₁_map}
use Rattle.jr_word.specs.declared.header.HeaderParts.{HeaderParts}
use Rattle.jr_model.specs.declared.event.Role.TheVariants.{Collecting}
use Rattle.jr_model.specs.State.{Contents, HaveSameTables}
use Rattle.jr_steps.specs.declared.known.Known.{Known}
use Rattle.jr_steps.specs.declared.known.Holdings.{Holdings}
use Rattle.jr_steps.specs.declared.known.Move.{Move}
use Rattle.jr_steps.specs.Holdings.{with_move, with_header, header_in, move_of, HasDone}
use Rattle.jr_steps.specs.Collecting.{IsThere, ShowsElement, CanMove, ShowsMoved, placed, CanPlace, ShowsPlaced}
use Rattle.jr_steps.specs.Knowing.{AreOf, Leads, Facts, MayKnow, Sees, Took, state_of, keeps, KnowsHeader}
use Rattle.jr_steps.proofs.CollectorFacts.{tables_seen, there_left}
use Rattle.jr_compact.specs.Counting.{SawWithin, SeesWithin}
use Rattle.jr_compact.specs.Sliding.{CanSlide}
use Rattle.jr_compact.proofs.Counting.{within_more, within_most}

-- so many elements are moved, and nothing else that the pass holds is other
pub record IsSlidTo (o place i : ℕ) (k k' : Known) : Type 0 where
  pub done : HasDone k'.holdings.moving o place i
  pub others : with_move k'.holdings None ≡ with_move k.holdings None

-- the same of steps, no more than so many
pub record SlidTo {S : Type 0} (facts : S → Facts) (o : ℕ) (h : HeaderParts) (place : ℕ) (old new : S)
    (most i : ℕ) : Type 0 where
  pub stands_is : (facts new).stands ≡ (facts old).stands
  pub hint_is : (facts new).hint ≡ (facts old).hint
  pub did : Leads facts old new (CanSlide o h place) (SeesWithin most) (IsSlidTo o place i)

more_done : (m : Option Move) (o place i : ℕ) → m ≡ Some (move_of o place i) → HasDone m o place i
more_done m o place i e = subst (λ z. HasDone z o place i) (sym e) refl

module _ {S : Type 0} {facts : S → Facts} (fits : AreOf facts) (o : ℕ) (h : HeaderParts) (place : ℕ) where
  module _ {a b : S} {most i : ℕ} (p : SlidTo facts o h place a b most i) where
    known_still : (k k' : Known) → CanSlide o h place k → IsSlidTo o place i k k' → KnowsHeader o h k'
    known_still k k' can s = ap (λ (g : Holdings). header_in o g.headers) s.others ∙ can.known

    -- no more than a greater number of steps
    pub slid_within : (n : ℕ) → most ≤ n → SlidTo facts o h place a b n i
    slid_within n few = record {
      stands_is = p.stands_is;
      hint_is = p.hint_is;
      did = λ k s can. let x = p.did k s can in (x.0, x.1, within_most n few x.2, x.3);
    }

    -- the next element stands where its header says
    pub next_there : i < h.length → MayKnow facts a (CanSlide o h place) → MayKnow facts b (IsThere o h i)
    next_there l may = ∥∥₁_map may (λ k. let x = p.did k.0 k.1 k.2 in
        (x.0, x.1, there_left o i place i h x.0 (known_still k.0 x.0 k.2 x.3) l (x.3).done (omega arith)))

    -- and was looked at
    module _ {c : S} {v : ℕ} (collects : (facts a).stands.role ≡ Collecting) (l : i < h.length)
        (looked : Took facts b c [] (IsThere o h i) (λ j k. ShowsElement o i v k × keeps j k)) where
      seen_next : (k : Known) → (facts a).knows k → CanSlide o h place k → (k' : Known) × (facts c).knows k'
          × SeesWithin (most + 1) k k' × IsSlidTo o place i k k' × ShowsElement o i v k'
      seen_next k s can =
          let x = p.did k s can in
          let y =
          looked.goes x.0 x.1 (there_left o i place i h x.0 (known_still k x.0 can x.3) l (x.3).done (omega arith)) in (
            y.0,
            y.1,
            within_more x.2 y.2,
            record {
              done = subst (λ (g : Holdings). HasDone g.moving o place i) (sym y.3.1) (x.3).done;
              others = ap (λ g. with_move g None) y.3.1 ∙ (x.3).others;
            },
            y.3.0,
          )

      can_move : (k k' : Known) → (facts a).knows k → CanSlide o h place k → Sees k k' → IsSlidTo o place i k k'
          → ShowsElement o i v k' → CanMove o h place i v k'
      can_move k k' s can g slid element =
          let same : HaveSameTables (state_of k) (state_of k') = tables_seen g ((fits a k s).role ∙ collects) in
          let room = can.room i l in
          let down = can.down in
          let used = same.used in record {
            known = known_still k k' can slid;
            done = slid.done;
            element = element;
            room = omega arith;
            later = λ j m n e. absurd (omega arith);
            free = λ r x ne is some.
                let f = can.free i l r x ne (ap (λ (m : ℕ → Option Contents). m r) (sym same.objects) ∙ is) some in
                (f.0, ap (λ (y : Holdings). header_in r y.headers) slid.others ∙ f.1, f.2);
          }

      -- it may be moved
      pub next_movable : MayKnow facts a (CanSlide o h place) → MayKnow facts c (CanMove o h place i v)
      next_movable may =
          ∥∥₁_map may (λ k. let x = seen_next k.0 k.1 k.2 in (x.0, x.1, can_move k.0 x.0 k.1 k.2 (x.2).sees x.3 x.4))

      -- one more element is moved
      pub slid_more : {d : S} → Took facts c d [] (CanMove o h place i v) (ShowsMoved o place i)
          → SlidTo facts o h place a d (most + 1 + 1) (i + 1)
      slid_more t = record {
        stands_is = t.stands_is ∙ (looked.stands_is ∙ p.stands_is);
        hint_is = t.hint_is ∙ (looked.hint_is ∙ p.hint_is);
        did = λ k s can.
            let x = seen_next k s can in
            let y = t.goes x.0 x.1 (can_move k x.0 s can (x.2).sees x.3 x.4) in (
              y.0,
              y.1,
              within_more x.2 y.2,
              record {
                done = more_done (y.0).holdings.moving o place (i + 1) (ap (λ (g : Holdings). g.moving) y.3);
                others = ap (λ g. with_move g None) y.3 ∙ (x.3).others;
              },
            );
      }

    module _ (all : i ≡ h.length) where
      can_place : (k k' : Known) → CanSlide o h place k → IsSlidTo o place i k k' → CanPlace o h place k'
      can_place k k' can slid =
          record { known = known_still k k' can slid; done = subst (HasDone k'.holdings.moving o place) all slid.done }

      -- the header may be set once all elements are moved
      pub placeable : MayKnow facts a (CanSlide o h place) → MayKnow facts b (CanPlace o h place)
      placeable may = ∥∥₁_map may (λ k. let x = p.did k.0 k.1 k.2 in (x.0, x.1, can_place k.0 x.0 k.2 x.3))

      -- and then the object is moved
      pub slid_all : {c : S} → Took facts b c [] (CanPlace o h place) (ShowsPlaced o h place)
          → SawWithin facts (λ j. most + 1) a c (CanSlide o h place) (ShowsPlaced o h place)
      slid_all t = record {
        stands_is = t.stands_is ∙ p.stands_is;
        hint_is = t.hint_is ∙ p.hint_is;
        leads = λ k s can.
            let x = p.did k s can in
            let y = t.goes x.0 x.1 (can_place k x.0 can x.3) in
            (y.0, y.1, within_more x.2 y.2, y.3 ∙ ap (λ g. with_header g o (placed h place)) (x.3).others);
      }
