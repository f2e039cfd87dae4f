-- Objects are dropped, number by number.
use Rattle.std.proofs.Common.{option_to_list, ◌≡◌, ⊎_elim, inl, inr, ◌+◌, ◌<◌, ◌≤◌, ℕ, Bool}
use Rattle.std.proofs.Common.{Option, Some, None, IsSome, List, [], ◌∷◌, ◌++◌}
use Rattle.std.proofs.Common.{length, refl, sym, ap, subst, ◌∙◌, arith, nat_eq, ne_eqb}
use Rattle.std.proofs.lemmas.List.{map-id}
use mathlib.Core.Logic.{dite, ∥∥₁_map}
use native.Mathlib.Decide.{ℕ_discrete}
use Rattle.jr_word.specs.declared.config.Config.{Config}
use Rattle.jr_word.specs.declared.header.HeaderParts.{HeaderParts}
use Rattle.jr_model.specs.declared.event.Role.TheVariants.{Collecting}
use Rattle.jr_model.specs.declared.event.Found.{Found}
use Rattle.jr_model.specs.declared.event.Act.TheVariants.{Drop}
use Rattle.jr_model.specs.State.{Handle, Contents, State, IsPresent, IsClosed, from_element, HaveSameTables}
use Rattle.jr_model.specs.CollectionCalls.{IsToDrop}
use Rattle.jr_model.proofs.InRoom.{in_room}
use Rattle.jr_model.proofs.Stays.{did_nothing, did_then}
use Rattle.jr_model.proofs.Updates.{at_number, at_number_self}
use Rattle.jr_steps.specs.declared.known.Known.{Known}
use Rattle.jr_steps.specs.declared.known.Holdings.{Holdings}
use Rattle.jr_steps.specs.Collecting.{CanDrop, ShowsDropped}
use Rattle.jr_steps.specs.Knowing.{Facts, Standing, AreOf, MayKnow, Took, anything, view, state_of, ShowsHeader}
use Rattle.jr_steps.proofs.CollectorFacts.{same_tables}
use Rattle.jr_steps.proofs.StepFacts.{goes_did}
use Rattle.jr_weak.specs.Listing.{over_front}
use Rattle.jr_weak.specs.Marks.{IsMarked}
use Rattle.jr_weak.specs.Sweeping.{MayDrop, NumberIsSwept, SweepsNumber, AreCleared, AreDropped, DropsUnreached}
use Rattle.jr_weak.proofs.Kept.{DroppedFrom, dropped_from, exactly_same, exactly_dropped}
use Rattle.jr_weak.proofs.Leading.{reached_on, reached_present}
use Rattle.jr_weak.proofs.Sweeping.{SweepsTo, TakenTo, sweeps_may, sweeps_next, sweeps_none, taken_next}
use Rattle.jr_weak.proofs.Sweeping.{taken_none, told_at}

may_on : (marks : List Bool) (k k' : Known) → HaveSameTables (state_of k) (state_of k')
    → k'.holdings.moving ≡ k.holdings.moving → MayDrop marks k → MayDrop marks k'
may_on marks k k' same held m = record {
  exactly = exactly_same marks (state_of k) (state_of k') same m.exactly;
  named = λ h o kind is. m.named h o kind (ap (λ (f : Handle → Found). f h) (sym same.refs) ∙ is);
  settled = held ∙ m.settled;
}

shown_moving : (o : ℕ) (x : Option HeaderParts) (j k : Known) → ShowsHeader o x j k
    → k.holdings.moving ≡ j.holdings.moving
shown_moving o None j k s = ap (λ (g : Holdings). g.moving) s.1
shown_moving o (Some h) j k s = ap (λ (g : Holdings). g.moving) s.1

back_tables : {s t : State} → HaveSameTables s t → HaveSameTables t s
back_tables same = record {
  refs = sym same.refs;
  given = sym same.given;
  locals = sym same.locals;
  objects = sym same.objects;
  used = sym same.used;
}

absent : (s : State) (o : ℕ) → s.objects o ≡ None → ¬ (IsPresent s o)
absent s o e p = let z = subst (λ (x : Option Contents). IsSome x) e p in cc

module _ {S : Type 0} {facts : S → Facts} (fits : AreOf facts) (marks : List Bool) (o : ℕ) {a : S}
    (collects : (facts a).stands.role ≡ Collecting) where
  -- it is marked, and stays
  pub number_marked : IsMarked marks o → SweepsNumber facts marks o a a None
  number_marked marked = record {
    taken = None;
    told_is = refl;
    went = record {
      stands_is = refl;
      hint_is = refl;
      leads = λ k s m. (
        k,
        s,
        (did_nothing (view k) (fits a k s).legal, omega arith),
        record {
          may = m;
          others = λ r ne. refl;
          kept = λ x e. e;
          marked = λ p. marked;
          all = λ d. absurd (d.1 ((m.exactly o).0 marked));
          only = λ r e. absurd cc;
        },
      );
    };
  }

  -- none is there
  pub number_none : {b : S} → Took facts a b [] anything (ShowsHeader o None) → SweepsNumber facts marks o a b None
  number_none {b} t = record {
    taken = None;
    told_is = refl;
    went = record {
      stands_is = t.stands_is;
      hint_is = t.hint_is;
      leads = λ k s m.
          let y = t.goes k s tt in
          let same = same_tables y.2 ((fits a k s).role ∙ collects) in (
            y.0,
            y.1,
            (goes_did y.2, let one = (y.2).taken in omega arith),
            record {
              may = may_on marks k y.0 same (shown_moving o None k y.0 y.3) m;
              others = λ r ne. ap (λ (f : ℕ → Option Contents). f r) same.objects;
              kept = λ x e. ap (λ (f : ℕ → Option Contents). f o) (sym same.objects) ∙ e;
              marked = λ p. absurd (absent (state_of y.0) o y.3.0 p);
              all = λ d.
                  absurd (absent (state_of k) o (ap (λ (f : ℕ → Option Contents). f o) (sym same.objects) ∙ y.3.0) d.0);
              only = λ r e. absurd cc;
            },
          );
    };
  }

  module _ {b : S} (unmarked : ¬ (IsMarked marks o)) (h : HeaderParts)
      (t : Took facts a b [] anything (ShowsHeader o (Some h))) where
    can_drop : (k k' : Known) → MayDrop marks k → HaveSameTables (state_of k) (state_of k')
        → ShowsHeader o (Some h) k k' → CanDrop o k'
    can_drop k k' m same x = record {
      present = subst (λ (z : Option Contents). IsSome z) (sym (x.0).is) refl;
      unreached = λ r. unmarked ((m.exactly o).1 (reached_on (back_tables same) o r));
      unnamed = λ g kind is. unmarked (m.named g o kind (ap (λ (f : Handle → Found). f g) (sym same.refs) ∙ is));
      settled = shown_moving o (Some h) k k' x ∙ m.settled;
    }

    pub number_may : MayKnow facts a (MayDrop marks) → MayKnow facts b (CanDrop o)
    number_may may = ∥∥₁_map may (λ k. let y = t.goes k.0 k.1 tt in
        (y.0, y.1, can_drop k.0 y.0 k.2 (same_tables y.2 ((fits a k.0 k.1).role ∙ collects)) y.3))

    pub number_dropped : {c : S} → Took facts b c (Drop o ∷ []) (CanDrop o) (ShowsDropped o)
        → SweepsNumber facts marks o a c (Some o)
    number_dropped {c} u = record {
      taken = Some o;
      told_is = refl;
      went = record {
        stands_is = u.stands_is ∙ t.stands_is;
        hint_is = u.hint_is ∙ t.hint_is;
        leads = λ k s m.
            let y = t.goes k s tt in
            let same = same_tables y.2 ((fits a k s).role ∙ collects) in
            let can = can_drop k y.0 m same y.3 in
            let z = u.goes y.0 y.1 can in
            let from =
            dropped_from o z.2 ((fits b y.0 y.1).role ∙ (ap (λ (z : Standing). z.role) t.stands_is ∙ collects)) in (
              z.0,
              z.1,
              (
                did_then [] (Drop o ∷ []) (goes_did y.2) (goes_did z.2),
                let one = (y.2).taken in let two = (z.2).taken in omega arith,
              ),
              swept k y.0 z.0 same (may_on marks k y.0 same (shown_moving o (Some h) k y.0 y.3) m) can from
                  (ap (λ (g : Holdings). g.moving) z.3),
            );
      };
    }
      where
        gone : (y z : Known) → DroppedFrom o (state_of y) (state_of z) → (state_of z).objects o ≡ None
        gone y z from = ap (λ (f : ℕ → Option Contents). f o) from.objects ∙ at_number_self (state_of y).objects o None

        swept : (k y z : Known) → HaveSameTables (state_of k) (state_of y) → MayDrop marks y → CanDrop o y
            → DroppedFrom o (state_of y) (state_of z) → z.holdings.moving ≡ y.holdings.moving
            → NumberIsSwept marks o (Some o) k z
        swept k y z same m can from moving = record {
          may = record {
            exactly = exactly_dropped marks o (state_of y) (state_of z) can.unreached from m.exactly;
            named = λ g r kind is. m.named g r kind (ap (λ (f : Handle → Found). f g) (sym from.refs) ∙ is);
            settled = moving ∙ m.settled;
          };
          others = λ r ne. ap (λ (f : ℕ → Option Contents). f r) from.objects
              ∙ (at_number (λ x. x ≡ (state_of y).objects r) (state_of y).objects o r None (λ e. absurd (ne (sym e)))
              (λ q. refl) ∙ ap (λ (f : ℕ → Option Contents). f r) same.objects);
          kept = λ x e. absurd (let w = sym (gone y z from) ∙ e in cc);
          marked = λ p. absurd (absent (state_of z) o (gone y z from) p);
          all = λ d. refl;
          only = λ r e. let same_number : o ≡ r = cc in (
            subst (λ q. IsToDrop (state_of k) q) same_number (
              subst (λ (f : ℕ → Option Contents). IsSome (f o)) same.objects can.present,
              λ reached. can.unreached (reached_on same o reached),
            ),
            sym same_number,
          );
        }

-- THE NUMBERS up to n are swept
pub record DroppedTo (marks : List Bool) (n : ℕ) (dropped : List ℕ) (j k : Known) : Type 0 where
  pub may : MayDrop marks k
  pub ahead : (r : ℕ) → n < r → (state_of k).objects r ≡ (state_of j).objects r
  pub kept : (r : ℕ) (x : Contents) → (state_of k).objects r ≡ Some x → (state_of j).objects r ≡ Some x
  pub marked : (r : ℕ) → 1 ≤ r → r ≤ n → IsPresent (state_of k) r → IsMarked marks r
  pub taken : TakenTo (λ (r : ℕ). r) nat_eq (IsToDrop (state_of j)) n dropped

abbrev pub DropsTo : {S : Type 0} → (S → Facts) → List Bool → ℕ → S → S → ℕ → List ℕ → List ℕ → Type 0
DropsTo facts marks = SweepsTo facts Drop (λ r. r) (AreCleared marks) (DroppedTo marks)

to_may : (marks : List Bool) (k : Known) → AreCleared marks k → MayDrop marks k
to_may marks k m = record { exactly = m.marked.0; named = m.named; settled = m.marked.1.1 }

to_drop_on : (marks : List Bool) (j k : Known) (r : ℕ) → MayDrop marks k → MayDrop marks j
    → (state_of k).objects r ≡ (state_of j).objects r → IsToDrop (state_of j) r → IsToDrop (state_of k) r
to_drop_on marks j k r m m' same d = (
  subst (λ (x : Option Contents). IsSome x) (sym same) d.0,
  λ reached. d.1 ((m'.exactly r).0 ((m.exactly r).1 reached)),
)

module _ (marks : List Bool) where
  drops_begin : (k : Known) → AreCleared marks k → DroppedTo marks 0 [] k k
  drops_begin k m = record {
    may = to_may marks k m;
    ahead = λ r l. refl;
    kept = λ r x e. e;
    marked = λ r l n. absurd (omega arith);
    taken = taken_none;
  }

  -- one number more
  drops_turn : (i : ℕ) (l : List ℕ) (one : Option ℕ) (j k k' : Known) → AreCleared marks j → DroppedTo marks i l j k
      → NumberIsSwept marks (i + 1) one k k' → DroppedTo marks (i + 1) (l ++ option_to_list one) j k'
  drops_turn i l one j k k' m was z = record {
    may = z.may;
    ahead = λ r l. z.others r (λ e. absurd (omega arith)) ∙ was.ahead r (omega arith);
    kept = λ r x e. was.kept r x (dite (ℕ_discrete r (i + 1))
        (λ same. subst (λ q. (state_of k).objects q ≡ Some x) (sym same)
        (z.kept x (subst (λ q. (state_of k').objects q ≡ Some x) same e))) (λ ne. sym (z.others r ne) ∙ e));
    marked = λ r low high p. dite (ℕ_discrete r (i + 1))
        (λ same. subst (IsMarked marks) (sym same) (z.marked (subst (IsPresent (state_of k')) same p)))
        (λ ne. was.marked r low (omega arith) (subst (λ (x : Option Contents). IsSome x) (z.others r ne) p));
    taken = taken_next (λ r g low. ne_eqb r g (λ e. absurd (omega arith))) one was.taken
        (λ r e d. z.all (subst (IsToDrop (state_of k)) e
        (to_drop_on marks j k r was.may (to_may marks j m) (was.ahead r (omega arith)) d)) ∙ ap (λ q. Some q) (sym e))
        (λ r e. let only = z.only r e in let at = only.1 in (
          to_drop_on marks k j r (to_may marks j m) was.may (sym (was.ahead r (omega arith))) only.0,
          at,
        ));
  }

module _ {S : Type 0} {facts : S → Facts} (fits : AreOf facts) (marks : List Bool) where
  pub drops_none : (a : S) (buffer : List ℕ) → DropsTo facts marks 0 a a 0 buffer buffer
  drops_none = sweeps_none fits (drops_begin marks)

  pub drops_may : {a b : S} {i n : ℕ} {buffer buffer' : List ℕ} → MayKnow facts a (AreCleared marks)
      → DropsTo facts marks i a b n buffer buffer' → MayKnow facts b (MayDrop marks)
  drops_may {i = i} = sweeps_may (MayDrop marks) (λ l j k (was : DroppedTo marks i l j k). was.may)

  pub drops_next : {a b c : S} {n : ℕ} {buffer buffer' : List ℕ} (i : ℕ) (told : Option ℕ)
      → DropsTo facts marks i a b n buffer buffer' → SweepsNumber facts marks (i + 1) b c told
      → DropsTo facts marks (i + 1) a c (n + length (option_to_list told)) buffer (told_at buffer' n told)
  drops_next i told = sweeps_next i told (λ l j k (was : DroppedTo marks i l j k). was.may) (drops_turn marks i)

  pub drops_all : {a b : S} {n : ℕ} {buffer buffer' : List ℕ} (i : ℕ) → i ≡ (facts a).stands.config.objects
      → DropsTo facts marks i a b n buffer buffer'
      → (z : DropsUnreached facts marks a b n) × (buffer' ≡ over_front buffer z.dropped)
  drops_all {a} {b} {buffer = buffer} i end p = (
    record {
      dropped = p.taken;
      counted = p.counted;
      went = record {
        stands_is = p.went.stands_is;
        hint_is = p.went.hint_is;
        leads = λ k s m.
            let x = p.went.leads k s m in
            let z : DroppedTo marks i p.taken k x.0 = x.3 in
            let same = ap (λ (t : Standing). t.config.objects) p.went.stands_is in
            let size = ap (λ (c : Config). c.objects) (fits a k s).config in
            let some = x.2.1 in (
              x.0,
              x.1,
              (x.2.0, omega arith),
              (
                record {
                  all = λ o d. let row = number a k s o d.0 in let high = row.1 in
                      z.taken.all o row.0 (omega arith) d;
                  only = z.taken.only;
                  once = z.taken.once;
                },
                left k x.0 m z (λ o present. let row = number b x.0 x.1 o present in let high = row.1 in
                    z.marked o row.0 (omega arith) present),
              ),
            );
      };
    },
    p.listed_are ∙ ap (over_front buffer) (map-id p.taken),
  )
    where
      number : (d : S) (k : Known) → (facts d).knows k → (o : ℕ) → IsPresent (state_of k) o
          → (1 ≤ o) × (o ≤ (facts d).stands.config.objects)
      number d k s o present =
          let of = fits d k s in
          let row = (in_room k.config k.last k.seen of.legal).objects o present in
          (row.0, subst (λ (c : Config). o ≤ c.objects) of.config row.1)

      left : (j k : Known) → AreCleared marks j → DroppedTo marks i p.taken j k
          → ((o : ℕ) → IsPresent (state_of k) o → IsMarked marks o) → AreDropped marks k
      left j k m z marked = record {
        present = marked;
        marked = λ o q. reached_present (state_of k) o (((z.may).exactly o).0 q);
        can = (closed, (z.may).settled);
      }
        where
          closed : IsClosed (state_of k)
          closed r x is kind n v at =
              let was = z.kept r x is in
              let here : IsMarked marks r = marked r (subst (λ (y : Option Contents). IsSome y) (sym is) refl) in
              ⊎_elim (λ none. inl none) (λ present. inr (reached_present (state_of k) v (((z.may).exactly v).0
              ((m.marked.0 v).1 (from_element r n x ((m.marked.0 r).0 here) was kind at present)))))
              (m.marked.1.0 r x was kind n v at)
