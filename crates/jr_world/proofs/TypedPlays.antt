-- The type of a reference is told by its program's one step.
use Rattle.std.proofs.Common.{◌≡◌, inl, inr, ◌||◌, ℕ, zero, suc, Bool, true, false, cond, Option, Some, None, Result}
use Rattle.std.proofs.Common.{Ok, List, [], ◌∷◌, ◌++◌, map, slice_get, refl, sym, ap, subst, ◌∙◌}
use Rattle.jr_word.specs.declared.fault.Fault.{Fault}
use Rattle.jr_word.specs.declared.handle.RefKind.{RefKind}
use Rattle.jr_word.specs.declared.handle.RefKind.TheVariants.{Local}
use Rattle.jr_model.specs.declared.event.Act.{Act}
use Rattle.jr_model.specs.declared.event.Act.TheVariants.{Look}
use Rattle.jr_model.specs.declared.event.Found.{Found}
use Rattle.jr_model.specs.declared.event.Found.TheVariants.{Object, Cleared, Stale}
use Rattle.jr_model.specs.State.{Contents, Handle}
use Rattle.jr_model.specs.Frames.{Frames, object_of}
use Rattle.jr_model.specs.History.{History, by, state}
use Rattle.jr_model.specs.Checks.{Word, Nothing, Malformed, Parts, is_foreign, is_local, is_malformed, is_out_of_bounds}
use Rattle.jr_model.specs.Checks.{kind_number, type_found, type_local}
use Rattle.jr_model.specs.Calls.{◌>>=◌, done}
use Rattle.jr_model.specs.Parts.{look, type_at}
use Rattle.jr_model.specs.Programs.{Which, number, types}
use Rattle.jr_world.specs.World.{Ref, type_in, type_meant}
use Rattle.jr_world.specs.Births.{RefIsSo, births, found_at_place}
use Rattle.jr_world.specs.Doing.{Doing, Shared, as_left, as_seen, by_step, is_foreign_to, over_world, typed}
use Rattle.jr_world.specs.Doing.Doing.{ended}
use Rattle.jr_world.specs.Plays.{Plays, InStands}
use Rattle.jr_world.specs.Plays.Plays.{has_ended}
use Rattle.jr_world.specs.Playing.{AnsweredBy, WordIs}
use Rattle.jr_world.proofs.Births.BornFound.{found_row}
use Rattle.jr_world.proofs.BornHandles.{own_is_local, own_stands}
use Rattle.jr_world.proofs.InStay.{EndingPlays, IsAt, Scene, Then, at_now, at_within}
use Rattle.jr_world.proofs.NamedPlays.{ComesTo, comes_next, comes_now, foreign_is, owner_is, ref_is, told_so, word_then}
use Rattle.jr_world.proofs.NamedPlays.{word_within}
use Rattle.jr_world.proofs.LookStands.{look_stands}
use Rattle.jr_world.proofs.Standing.{next_needs, seen_keeps, seen_stands}
use Rattle.jr_world.proofs.TakenSteps.{does_so, moves_so}
use Rattle.one_order.specs.Orders.{Item}
use Rattle.one_order.specs.Orders.Item.{does as acting}

-- the acts and the answer where it is no other's
abbrev WasTyped : Word → Frames → List Act → Result ℕ Fault → Type 0
WasTyped (Parts h) f acts x = cond (is_local h) ((acts ≡ []) × (x ≡ Ok (type_local (object_of f h))))
    ((r : Found) × (acts ≡ Look h r ∷ []) × (x ≡ Ok (type_found h.kind r)))
WasTyped _ f acts x = (acts ≡ []) × (x ≡ Ok 0)

typed_row : (h : Handle) (f g : Frames) (acts : List Act) (x : Result ℕ Fault)
    → (look h >>= (λ r. done (type_found h.kind r))) f acts x g
    → ((r : Found) × (acts ≡ Look h r ∷ []) × (x ≡ Ok (type_found h.kind r))) × (g ≡ f)
typed_row h f g acts x (inl d) =
    let r = d.5.0 in
    let same : d.0 ≡ r = (let e = d.5.2 in cc) in (
      (
        r,
        d.4 ∙ ap (λ l. l ++ d.3) d.5.1 ∙ ap (λ l. Look h r ∷ l) d.6.0,
        d.6.1 ∙ ap (λ z. Ok (type_found h.kind z)) same,
      ),
      d.6.2 ∙ d.5.3,
    )
typed_row h f g acts x (inr d) = absurd (let bad = d.2.2 in cc)

typed_so : (w : Word) (f g : Frames) (acts : List Act) (x : Result ℕ Fault) → type_at w f acts x g
    → WasTyped w f acts x × (g ≡ f)
typed_so Nothing f g acts x d = ((d.0, d.1), d.2)
typed_so Malformed f g acts x d = ((d.0, d.1), d.2)
typed_so (Parts h) f g acts x d = go (is_local h) d
  where
    go : (b : Bool) → cond b (λ old. done (type_local (object_of old h)) old)
        (look h >>= (λ r. done (type_found h.kind r))) f acts x g
        → cond b ((acts ≡ []) × (x ≡ Ok (type_local (object_of f h))))
        ((r : Found) × (acts ≡ Look h r ∷ []) × (x ≡ Ok (type_found h.kind r))) × (g ≡ f)
    go true d = ((d.0, d.1), d.2)
    go false d = typed_row h f g acts x d

-- the last of three tests, where the others pass
last_of : (a b d : Bool) → a ≡ false → b ≡ false → (a || b || d) ≡ d
last_of a b d first second = ap (λ z. z || b || d) first ∙ ap (λ z. z || d) second

-- WHAT THE WORLD TELLS of the type

type_so : (objects : List (ℕ × Option Contents)) (kind : RefKind) (q : Option Ref) (r : Found)
    → RefIsSo objects kind q r → type_in q ≡ type_found kind r
type_so objects kind (Some r) (Object p) so = ap kind_number so.0
type_so objects kind (Some r) Cleared so = ap kind_number so.0
type_so objects kind (Some r) Stale so = absurd so
type_so objects kind None Stale so = refl
type_so objects kind None (Object p) so = absurd so
type_so objects kind None Cleared so = absurd so

local_type : (z : Option ℕ) → type_found Local (found_at_place z) ≡ type_local z
local_type None = refl
local_type (Some o) = refl

-- the step, where this is known of the reference
typed_is : (n t : ℕ) (s : Shared) (b : Bool) → is_foreign_to t s n ≡ b
    → typed n t true s ≡ cond b (Ok 0, s) (over_world (type_meant n) t true s)
typed_is n t s b is = ap (λ z. cond z (Ok 0, s) (over_world (type_meant n) t true s)) is

module _ (k : Scene) (x : Result ℕ Fault) (behind : List (Item Act)) where
  -- the answer is so at the end
  ends_so : (past later : History) (f : Frames) (r : Result ℕ Fault) → ComesTo k past [] later → x ≡ r
      → AnsweredBy number r later r
      → Plays k.config k.whole k.thread (Then k number x) f behind (ended r) later f []
  ends_so past later f r comes is so = has_ended r (
    comes.at.stays,
    comes.at.begins,
    subst (λ z. AnsweredBy number z later r) (sym is) so,
  )

  types_own : (w : Word) (n : ℕ) (past : History) (f : Frames) (acts : List Act) → IsAt k past acts → WordIs past w n
      → is_foreign k.thread w ≡ false → WasTyped w f acts x
      → Plays k.config k.whole k.thread (Then k number x) f behind (by_step (typed n)) past f (map acting acts)
  types_own Malformed n past f acts at word own was = absurd word
  types_own (Parts h) zero past f acts at word own was = absurd word
  types_own Nothing n past f acts at word own was =
      subst (λ l. Plays k.config k.whole k.thread (Then k number x) f behind (by_step (typed n)) past f (map acting l))
      (sym was.0)
      (moves_so k.config k.whole k.thread (Then k number x) f behind (typed n) (λ r. ended r) past f f []
      k.last k.legal (at_within k past acts at)
      (λ now s goes st. record {
        answer = Ok 0;
        left = as_left k.thread s (as_seen k.thread s);
        is = ap (λ m. typed m k.thread true s) word;
        stands = seen_stands k.config k.thread now f s st;
        keeps = seen_keeps k.thread s;
        plays = ends_so past now f (Ok 0) (comes_now k past now [] (subst (IsAt k past) was.0 at) goes) was.1 refl;
      }))
  types_own (Parts h) (suc i) past f acts at word own was = go (is_local h) refl was
    where
      program : Doing ℕ
      program = by_step (typed (suc i))

      -- what the step answers, where this is the reference
      answers : (now : History) (s : Shared) → InStands k.config k.thread now f s → WordIs now (Parts h) (suc i)
          → (q : Option Ref) → slice_get (births now).refs i ≡ Some (h, q)
          → typed (suc i) k.thread true s ≡ (Ok (type_in q), as_left k.thread s (as_seen k.thread s))
      answers now s st word q e =
          typed_is (suc i) k.thread s false (foreign_is k.config k.thread now f s st (Parts h) (suc i) word ∙ own)
          ∙ ap (λ z. (Ok (type_in z), as_left k.thread s (as_seen k.thread s)))
          (ref_is k.config k.thread now f s st i h q e)

      go : (b : Bool) → is_local h ≡ b → cond b ((acts ≡ []) × (x ≡ Ok (type_local (object_of f h))))
          ((r : Found) × (acts ≡ Look h r ∷ []) × (x ≡ Ok (type_found h.kind r)))
          → Plays k.config k.whole k.thread (Then k number x) f behind program past f (map acting acts)
      go true local did =
          subst (λ l. Plays k.config k.whole k.thread (Then k number x) f behind program past f (map acting l))
          (sym did.0)
          (moves_so k.config k.whole k.thread (Then k number x) f behind (typed (suc i)) (λ r. ended r) past f f []
          k.last k.legal (at_within k past acts at)
          (λ now s goes st.
          let comes = comes_now k past now [] (subst (IsAt k past) did.0 at) goes in
          let n = word_then k past now (Parts h) (suc i) goes word in
          let his = owner_is k.thread h local own in
          let told : type_in n.0 ≡ type_local (object_of f h) =
          type_so (births now).objects h.kind n.0 (found_at_place (object_of f h))
          (told_so k now [] comes.at i h n.0 (found_at_place (object_of f h)) n.1
          (own_stands k.config k.thread now f st h his))
          ∙ ap (λ z. type_found z (found_at_place (object_of f h))) (own_is_local h k.thread his).0
          ∙ local_type (object_of f h) in
          record {
            answer = Ok (type_in n.0);
            left = as_left k.thread s (as_seen k.thread s);
            is = answers now s st n n.0 n.1;
            stands = seen_stands k.config k.thread now f s st;
            keeps = seen_keeps k.thread s;
            plays = ends_so past now f (Ok (type_in n.0)) comes (did.1 ∙ ap (λ z. Ok z) (sym told)) refl;
          }))
      go false row did =
          subst (λ l. Plays k.config k.whole k.thread (Then k number x) f behind program past f (map acting l))
          (sym did.1)
          (does_so k.config k.whole k.thread (Then k number x) f behind (typed (suc i)) (λ r. ended r) past
          (Look h did.0) f f [] k.last k.legal (at_within k past acts at) refl
          (λ now s next_is st.
          let was_at = subst (IsAt k past) did.1 at in
          let here = at_now k past now (Look h did.0 ∷ []) was_at next_is.goes in
          let n = word_then k past now (Parts h) (suc i) next_is.goes word in
          let needs = next_needs k.config k.last k.whole k.thread k.legal past now (Look h did.0) next_is in
          let told : type_in n.0 ≡ type_found h.kind did.0 = type_so (births now).objects h.kind n.0 did.0
          (told_so k now (Look h did.0 ∷ []) here i h n.0 did.0 n.1
          (found_row (births now) (state now) h row ∙ needs.1.1)) in
          record {
            answer = Ok (type_in n.0);
            left = as_left k.thread s (as_seen k.thread s);
            is = answers now s st n n.0 n.1;
            stands = look_stands k.config k.thread now f
                (as_left k.thread s (as_seen k.thread s)) (Look h did.0) refl
                (seen_stands k.config k.thread now f s st);
            keeps = seen_keeps k.thread s;
            plays = ends_so past (now ++ by k.thread (Look h did.0) ∷ []) f (Ok (type_in n.0))
                (comes_next k past now (Look h did.0) [] was_at next_is refl) (did.2 ∙ ap (λ z. Ok z) (sym told)) refl;
          }))

  types_anothers : (w : Word) (n : ℕ) (past : History) (f : Frames) → IsAt k past [] → WordIs past w n
      → is_foreign k.thread w ≡ true → x ≡ Ok 0
      → Plays k.config k.whole k.thread (Then k number x) f behind (by_step (typed n)) past f []
  types_anothers w n past f at word foreign is =
      moves_so k.config k.whole k.thread (Then k number x) f behind (typed n) (λ r. ended r) past f f []
      k.last k.legal (at_within k past [] at)
      (λ now s goes st. record {
        answer = Ok 0;
        left = s;
        is = typed_is n k.thread s true
            (foreign_is k.config k.thread now f s st w n (word_then k past now w n goes word) ∙ foreign);
        stands = st;
        keeps = record { frames = λ u ne. refl; board = refl };
        plays = ends_so past now f (Ok 0) (comes_now k past now [] at goes) is refl;
      })

-- THE TYPE OF A REFERENCE
pub types_play : (k : Scene) (n : ℕ) (p : Which) → EndingPlays k {n = n} (types p)
types_play k n p words numbers known known' kind o o' past f g acts x behind at word known_so hand apt refuses is =
    let within = word_within k past acts (words p) (numbers p) at (word p) in
    let tests = last_of (is_malformed (words p)) (is_out_of_bounds k.config (words p)) (is_foreign k.thread (words p))
    within.0 within.1 in
    go (is_foreign k.thread (words p)) refl (subst (λ z. cond z (done 0) (type_at (words p)) f acts x g) tests is)
  where
    go : (b : Bool) → is_foreign k.thread (words p) ≡ b → cond b (done 0) (type_at (words p)) f acts x g
        → Plays k.config k.whole k.thread (Then k number x) g behind (by_step (typed (numbers p))) past f
        (map acting acts)
    go true foreign did =
        subst (λ z. Plays k.config k.whole k.thread (Then k number x) z behind (by_step (typed (numbers p))) past f
        (map acting acts)) (sym did.2)
        (subst (λ l. Plays k.config k.whole k.thread (Then k number x) f behind (by_step (typed (numbers p))) past f
        (map acting l)) (sym did.0)
        (types_anothers k x behind (words p) (numbers p) past f (subst (IsAt k past) did.0 at) (word p) foreign did.1))
    go false own did =
        let was = typed_so (words p) f g acts x did in
        subst (λ z. Plays k.config k.whole k.thread (Then k number x) z behind (by_step (typed (numbers p))) past f
        (map acting acts)) (sym was.1)
        (types_own k x behind (words p) (numbers p) past f acts at (word p) own was.0)
