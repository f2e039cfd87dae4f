-- Tests make objects of a kind, and read and write them.
use Rattle.std.proofs.Common.{zero, suc, ◌≡◌, ◌++◌, ℕ, Bool, true, false, length, Option, Some}
use Rattle.std.proofs.Common.{None, IsSome, List, [], ◌∷◌, Result, Ok, Err, IfOk, inl, inr, refl, sym, ap, subst, ◌∙◌}
use mathlib.Core.Logic.{∥∥₁_map}
use Rattle.jr_word.specs.declared.fault.Fault.{Fault}
use Rattle.jr_word.specs.declared.kind.Kind.{Kind}
use Rattle.jr_word.specs.declared.kind.Kind.TheVariants.{Plain}
use Rattle.jr_model.specs.declared.event.Role.TheVariants.{Within}
use Rattle.jr_model.specs.declared.event.Act.{Act}
use Rattle.jr_model.specs.declared.event.Act.TheVariants.{Read, Write}
use Rattle.jr_model.specs.State.{Contents, State}
use Rattle.jr_model.specs.Frames.{Frames}
use Rattle.jr_model.specs.Calls.{Call, ◌>>◌, act, some_act, refuse_if}
use Rattle.jr_model.specs.History.{role_of, Did}
use Rattle.jr_model.specs.Parts.{header, publish, read_element, read_tests, write_element, write_tests}
use Rattle.jr_model.specs.Tests.{Tests, tested}
use Rattle.jr_model.proofs.EachCall.{Stays}
use Rattle.jr_steps.specs.declared.known.Known.{Known}
use Rattle.jr_steps.specs.Knowing.{AreOf, Facts, MayKnow, view, state_of, HasObject}
use Rattle.jr_heap.specs.Heap.{Called, HasKind, IsOwn, IsReady, Publishes}
use Rattle.jr_heap.specs.Heap.{own_words, Relearns, MayBeNamed, MayBeNamedIn}
use Rattle.jr_heap.proofs.StayFacts.{NoLeave, still}

read_stays_in : (o i v : ℕ) → NoLeave (Read o i v ∷ [])
read_stays_in o i v = ((λ e. cc), tt)

write_stays_in : (o i v : ℕ) → NoLeave (Write o i v ∷ [])
write_stays_in o i v = ((λ e. cc), tt)

refused_none : (b : Bool) (e : Fault) (f g : Frames) (acts : List Act) (answer : Result (Unit {0}) Fault)
    → refuse_if b e f acts answer g → acts ≡ []
refused_none true e f g acts answer p = p.0
refused_none false e f g acts answer p = p.0

rest_stays : {A : Type 0} (b : Bool) (e : Fault) (next : Call A) (f g : Frames) (acts : List Act)
    (answer : Result A Fault) → ((h : Frames) (xs : List Act) → next h xs answer g → NoLeave xs)
    → (refuse_if b e >> next) f acts answer g → NoLeave acts
rest_stays b e next f g acts answer stays (inl p) =
    subst NoLeave (sym (p.4 ∙ ap (λ xs. xs ++ p.3) (refused_none b e f p.1 p.2 (Ok p.0) p.5))) (stays p.1 p.3 p.6)
rest_stays b e next f g acts answer stays (inr p) = subst NoLeave (sym (refused_none b e f g acts (Err p.0) p.2)) tt

tested_stays : {A : Type 0} (ts : Tests) (next : Call A) → Stays next → Stays (tested ts next)
tested_stays [] next stays f g acts answer p = stays f g acts answer p
tested_stays ((b, e) ∷ ts) next stays f g acts answer p =
    rest_stays b e (tested ts next) f g acts answer (λ h xs. tested_stays ts next stays h g xs answer) p

read_stays : (s : State) (o i : ℕ) → Stays (read_element s o i)
read_stays s o i f g acts answer p = tested_stays (read_tests i p.0.kind (length p.0.words)) (some_act (Read o i))
    (λ h k xs x r. subst NoLeave (sym r.1) (read_stays_in o i r.0)) f g acts answer p.2

write_stays : (s : State) (o i v : ℕ) → Stays (write_element s o i v)
write_stays s o i v f g acts answer p = tested_stays (write_tests i v p.0.kind (length p.0.words)) (act (Write o i v))
    (λ h k xs x r. subst NoLeave (sym r.0) (write_stays_in o i v)) f g acts answer p.2

kind_later : (k k' : Known) (acts : List Act) (o : ℕ) (kind : Kind) → Did (view k) (view k') acts
    → role_of (view k) ≡ Within → NoLeave acts → HasKind o kind k → HasKind o kind k'
kind_later k k' acts o kind d w q x = let y = (still k k' acts d w q).objects o x.0 x.1 in (y.0, y.1, y.2 ∙ x.2)

pub kind_present : (o : ℕ) (kind : Kind) (k : Known) → HasKind o kind k → HasObject o k
kind_present o kind k x = subst (λ y. IsSome y) (sym x.1) refl

abbrev kind_in : Option Contents → Kind
kind_in None = Plain
kind_in (Some x) = x.kind

kind_of_some : (k : Known) (o : ℕ) (kind : Kind) (v : ℕ) → HasKind o kind k → MayBeNamed kind v k → MayBeNamedIn o v k
kind_of_some k o kind v x m y e is = m (sym x.2 ∙ (ap kind_in (sym x.1 ∙ e) ∙ is))

module _ {S : Type 0} (facts : S → Facts) (fits : AreOf facts) (a : S) (o : ℕ) (kind : Kind) where
  pub may_be_read : MayKnow facts a (HasKind o kind) → MayKnow facts a (HasObject o)
  may_be_read may = ∥∥₁_map may (λ k. (k.0, k.1, kind_present o kind k.0 k.2))

  pub may_be_written : (v : ℕ) → ((k : Known) → MayBeNamed kind v k) → MayKnow facts a (HasKind o kind)
      → MayKnow facts a (λ k. HasObject o k × MayBeNamedIn o v k)
  may_be_written v named may =
      ∥∥₁_map may (λ k. (k.0, k.1, (kind_present o kind k.0 k.2, kind_of_some k.0 o kind v k.2 (named k.0))))

  module _ (b : S) (w : (facts a).stands.role ≡ Within) where
    pub kind_looked_up : {shows : Known → Known → Type 0} (answer : Result (Kind × ℕ) Fault)
        → Called facts a b (HasObject o) (λ j k. header (state_of k) o) answer shows → MayKnow facts a (HasKind o kind)
        → MayKnow facts b (HasKind o kind)
    kind_looked_up answer c may = ∥∥₁_map may (λ k.
        let r = c.ran k.0 k.1 (kind_present o kind k.0 k.2) in
        let f = r.2 (record { frames = []; given = [] }) in (
          r.0,
          r.1,
          kind_later k.0 r.0 f.acts o kind f.did ((fits a k.0 k.1).role ∙ w) (subst NoLeave (sym (f.is.2.0)) tt) k.2,
        ))

    pub kind_read : {shows : Known → Known → Type 0} (i : ℕ) (answer : Result ℕ Fault)
        → Called facts a b (HasObject o) (λ j k. read_element (state_of k) o i) answer shows
        → MayKnow facts a (HasKind o kind) → MayKnow facts b (HasKind o kind)
    kind_read i answer c may = ∥∥₁_map may (λ k.
        let r = c.ran k.0 k.1 (kind_present o kind k.0 k.2) in
        let f = r.2 (record { frames = []; given = [] }) in (
          r.0,
          r.1,
          kind_later k.0 r.0 f.acts o kind f.did ((fits a k.0 k.1).role ∙ w)
              (read_stays (state_of r.0) o i _ _ f.acts answer f.is) k.2,
        ))

    pub kind_written : (i v : ℕ) (answer : Result (Unit {0}) Fault) → ((k : Known) → MayBeNamed kind v k) → Called facts
        a b (λ k. HasObject o k × MayBeNamedIn o v k) (λ j k. write_element (state_of k) o i v) answer (Relearns o)
        → MayKnow facts a (HasKind o kind) → MayKnow facts b (HasKind o kind)
    kind_written i v answer named c may = ∥∥₁_map may (λ k.
        let r = c.ran k.0 k.1 (kind_present o kind k.0 k.2, kind_of_some k.0 o kind v k.2 (named k.0)) in
        let f = r.2 (record { frames = []; given = [] }) in (
          r.0,
          r.1,
          kind_later k.0 r.0 f.acts o kind f.did ((fits a k.0 k.1).role ∙ w)
              (write_stays (state_of r.0) o i v _ _ f.acts answer f.is) k.2,
        ))

-- what was published is of the kind
pub kind_made : {S : Type 0} (facts : S → Facts) (a b : S) (kind : Kind) (place n : ℕ) (answer : Result ℕ Fault)
    → Called facts a b (IsReady kind place n) (λ j k. publish kind (own_words place n j)) answer
    (Publishes kind place n answer) → MayKnow facts a (IsReady kind place n)
    → IfOk answer (λ o. MayKnow facts b (HasKind o kind))
kind_made facts a b kind place n (Ok o) c may = ∥∥₁_map may (λ k. let r = c.ran k.0 k.1 k.2 in
    (r.0, r.1, (record { kind = kind; words = own_words place n k.0 }, r.3.0, refl)))
kind_made facts a b kind place n (Err e) c may = tt

-- a plain object has no words
pub plain_ready : (place n : ℕ) (k : Known) → n ≡ 0 → IsOwn place n k → IsReady Plain place n k
plain_ready place zero k e o = record { long = refl; words = λ i v there. absurd cc }
plain_ready place (suc n) k e o = absurd cc
