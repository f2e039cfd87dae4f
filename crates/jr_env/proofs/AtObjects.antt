-- A call at an object, over any steps: tests by its kind and its length, and what follows where they are passed.
use Rattle.std.proofs.Common.{◌≡◌, ℕ, true, false, Option, Some, None, List, [], ◌∷◌, ◌++◌}
use Rattle.std.proofs.Common.{Result, Ok, Err, inl, inr, refl, subst, ◌∙◌}
use Rattle.std.specs.List.{AllByRecursion}
use Rattle.std.specs.Result.{IsErrAnd}
use Rattle.jr_word.specs.declared.config.Config.{Config}
use Rattle.jr_word.specs.declared.fault.Fault.{Fault}
use Rattle.jr_word.specs.declared.header.HeaderParts.{HeaderParts}
use Rattle.jr_word.specs.declared.kind.Kind.{Kind}
use Rattle.jr_model.specs.declared.event.Act.{Act}
use Rattle.jr_model.specs.declared.event.Role.TheVariants.{Within}
use Rattle.jr_model.specs.State.{State}
use Rattle.jr_model.specs.History.{PassView}
use Rattle.jr_model.specs.Frames.{Frames}
use Rattle.jr_model.specs.Calls.{Call, Ran, done, for_object, ◌>>=◌}
use Rattle.jr_model.specs.Checks.{Word}
use Rattle.jr_model.specs.Parts.{not_null}
use Rattle.jr_model.specs.Tests.{AreSilent, Tests, refused_by, tested}
use Rattle.jr_model.specs.Programs.{AnswerKind, AnswerOf, Program, Which, at_both, call_of, handed_one, looks, names}
use Rattle.jr_model.specs.Programs.{names_both, tests, wants}
use Rattle.jr_model.specs.CallPrograms.{at_wanted}
use Rattle.jr_model.proofs.Tests.{ran_stopped, ran_tested}
use Rattle.jr_model.specs.References.{resolved}
use Rattle.jr_model.proofs.EachCall.{program_stays}
use Rattle.jr_model.proofs.Runs.{ran_done}
use Rattle.jr_steps.specs.declared.known.Known.{Known}
use Rattle.jr_steps.specs.Knowing.{AreOf, Facts, Holds, state_of, view}
use Rattle.jr_gate.specs.Performing.{Performed}
use Rattle.jr_gate.proofs.HandedOn.{handed_on}
use Rattle.jr_gate.proofs.SameRoom.{nothing_changed}
use Rattle.jr_gate.proofs.Spending.{made_of, spend_none, spending}
use Rattle.jr_heap.specs.Heap.{HoldsHeader}
use Rattle.jr_heap.proofs.StayFacts.{object_later}
use Rattle.jr_frames.specs.Finding.{Finds}
use Rattle.jr_frames.specs.Reading.{IsReadAs}
use Rattle.jr_frames.proofs.FoundObject.{at_named, finds_next, finds_refused, ran_for}
use Rattle.jr_frames.proofs.Reading.{ran_at}
use Rattle.jr_env.specs.Requests.{at_word}
use Rattle.jr_env.specs.Works.{Serves}

-- THE TESTS

-- where none refuses, each is passed
pub passed : (ts : Tests) → refused_by ts ≡ Ok tt → AllByRecursion (λ t. t.0 ≡ false) ts
passed [] is = tt
passed ((true, e) ∷ ts) is = absurd cc
passed ((false, e) ∷ ts) is = (refl, passed ts is)

-- tests behind tests
pub first_refuse : (ts more : Tests) {e : Fault} → refused_by ts ≡ Err e → refused_by (ts ++ more) ≡ Err e
first_refuse [] more is = absurd cc
first_refuse ((true, e) ∷ ts) more is = is
first_refuse ((false, e) ∷ ts) more is = first_refuse ts more is

pub first_pass : (ts more : Tests) {answer : Result (Unit {0}) Fault} → refused_by ts ≡ Ok tt
    → refused_by more ≡ answer → refused_by (ts ++ more) ≡ answer
first_pass [] more is then = then
first_pass ((true, e) ∷ ts) more is then = absurd cc
first_pass ((false, e) ∷ ts) more is then = first_pass ts more is then

-- the tests of what is the same
pub same_tests : {X : Type 0} {x y : X} {answer : Result (Unit {0}) Fault} → x ≡ y → (ts : X → Tests)
    → refused_by (ts x) ≡ answer → refused_by (ts y) ≡ answer
same_tests {answer = answer} is ts refused = subst (λ z. refused_by (ts z) ≡ answer) is refused

module _ {S : Type 0} {facts : S → Facts} {A : Type 0} {b : S} {f : Frames} (ts : Tests) (next : State → Call A) where
  -- where they refuse, no step is taken
  pub stopped : AreOf facts → {met : Known → Type 0} {e : Fault} → AreSilent ts → refused_by ts ≡ Err e
      → ((k : Known) → met k → Holds f k)
      → Performed facts b b f f 0 met (λ s. tested ts (next s)) (Err e) (λ j k. Holds f k)
  stopped fits silent is holds = record {
    stands_is = nothing_changed;
    ran = λ k s m.
        let l = (fits b k s).legal in
        let ran = ran_stopped (view k) f ts (next (state_of k)) silent is l in
        (k, s, made_of (spend_none (facts b) k f f l) ran, holds k m);
  }

  -- and where they don't, what follows was done
  pub behind_tests : {c : S} {g : Frames} {n : ℕ} {met : Known → Type 0} {answer : Result A Fault}
      {shows : Known → Known → Type 0} → refused_by ts ≡ Ok tt → Performed facts b c f g n met next answer shows
      → Performed facts b c f g n met (λ s. tested ts (next s)) answer shows
  behind_tests is p = record {
    stands_is = p.stands_is;
    ran = λ k s m. let x = p.ran k s m in
        (x.0, x.1, made_of (spending x.2) (ran_tested ts (next (state_of x.0)) is x.2.ran), x.3);
  }

-- THE PARTS of a program at an object

-- what it does with the object, once that was looked at
abbrev pub looked_by : {n : ℕ} {a : AnswerKind} → Program n a → Kind → ℕ → Program n a
looked_by (names w (wants v (looks next))) = next
looked_by (names_both (wants v (looks next))) = next
looked_by p = λ k l. p

-- the tests at its head, and what follows them
abbrev pub tests_of : {n : ℕ} {a : AnswerKind} → Program n a → Tests
tests_of (tests ts silent p) = ts
tests_of _ = []

abbrev pub rest_of : {n : ℕ} {a : AnswerKind} → Program n a → Program n a
rest_of (tests ts silent p) = p
rest_of p = p

silent_of : {n : ℕ} {a : AnswerKind} (p : Program n a) → AreSilent (tests_of p)
silent_of (tests ts silent p) = silent
silent_of p = tt

-- the same of what it does with an object of this header
abbrev pub tests_at : {n : ℕ} {a : AnswerKind} → Program n a → HeaderParts → Tests
tests_at p h = tests_of (looked_by p h.kind h.length)

abbrev pub rest_at : {n : ℕ} {a : AnswerKind} → Program n a → HeaderParts → Program n a
rest_at p h = rest_of (looked_by p h.kind h.length)

-- a program is its tests, and what follows
ran_whole : {n : ℕ} {r : AnswerKind} {old new : PassView} {f g : Frames} {answer : Result (AnswerOf r) Fault}
    (c : Config) (last t : ℕ) (s : State) (words : Which → Word) (p : Program n r) (known : Which → Option ℕ) (o : ℕ)
    → Ran old new f g (tested (tests_of p) (call_of c last t s words (rest_of p) known o)) answer
    → Ran old new f g (call_of c last t s words p known o) answer
ran_whole c last t s words (tests ts silent p) known o r = r
ran_whole c last t s words p known o r = r

-- THE OBJECT of a reference

-- what follows may name the object by its place, too
named_so : {A : Type 0} (z : Option ℕ) (next : Option ℕ → ℕ → Call A) (f g : Frames) (acts : List Act)
    (answer : Result A Fault)
    → (not_null z >>= (λ q. next (Some q) q)) f acts answer g → (not_null z >>= next z) f acts answer g
named_so None next f g acts answer (inl y) = absurd (let e = y.5.1 in cc)
named_so None next f g acts answer (inr y) = inr y
named_so (Some o) next f g acts answer (inl y) = let same : y.0 ≡ o = let e = y.5.1 in cc in
    inl (y.0, y.1, y.2, y.3, y.4, y.5, subst (λ q. next (Some q) y.0 y.1 y.3 answer g) same y.6)
named_so (Some o) next f g acts answer (inr y) = inr y

-- one call, and others of which each is a way through the next
bound_by : {A B : Type 0} (first : Call A) (next other : A → Call B) → ((x : A) (f g : Frames) (acts : List Act)
    (answer : Result B Fault) → next x f acts answer g → other x f acts answer g)
    → (f g : Frames) (acts : List Act) (answer : Result B Fault) → (first >>= next) f acts answer g
    → (first >>= other) f acts answer g
bound_by first next other each f g acts answer (inl y) =
    inl (y.0, y.1, y.2, y.3, y.4, y.5, each y.0 y.1 g y.3 answer y.6)
bound_by first next other each f g acts answer (inr y) = inr y

module _ {S : Type 0} (facts : S → Facts) (a : S) (f : Frames) (w : Word) {n : ℕ} {r : AnswerKind}
    (p : Program n r) where
  -- the program is that of a request at the object
  abbrev pub ServesAt : ℕ → S → Frames → Result (AnswerOf r) Fault → Type 0
  ServesAt v c g answer =
      Serves facts a c f g (at_word 1 v (at_wanted (looked_by p))) answer

  -- what it does with an object that is known by its place, and what of that follows the tests
  abbrev part : State → Option ℕ → ℕ → Call (AnswerOf r)
  part s z q =
      let at = (facts a).stands in
      for_object s q (λ k l. call_of at.config at.last at.thread s (handed_one w) (looked_by p k l) (at_both z None) q)

  abbrev pub rest_there : ℕ → HeaderParts → State → Call (AnswerOf r)
  rest_there o h s =
      let at = (facts a).stands in
      call_of at.config at.last at.thread s (handed_one w) (rest_at p h) (at_both (Some o) None) o

  abbrev finding_part : State → Call (AnswerOf r)
  finding_part s = let at = (facts a).stands in
      at_named at.config at.last at.thread w (λ q. part s (Some q) q)

module _ {S : Type 0} {facts : S → Facts} {a : S} {f : Frames} {v : ℕ} (w : Word) (reads : IsReadAs v w) {n : ℕ}
    {r : AnswerKind} (p : Program n r) where
  serves_at : {c : S} {g : Frames} {answer : Result (AnswerOf r) Fault}
      → Performed facts a c f g 1 (Holds f) (finding_part facts a f w p) answer (λ j k. Unit {0} × Holds g k)
      → ServesAt facts a f w p v c g answer
  serves_at {g = g} {answer = answer} q = (
    w,
    reads,
    record {
      stands_is = q.stands_is;
      ran = λ k s m.
          let x = q.ran k s m in
          let there = part facts a f w p (state_of x.0) in
          let at = (facts a).stands in
          let first = resolved at.config at.last at.thread w in (
            x.0,
            x.1,
            made_of (spending x.2) (ran_at (first >>= (λ z. not_null z >>= there z)) (λ acts.
                bound_by first (λ z. not_null z >>= (λ q. there (Some q) q)) (λ z. not_null z >>= there z)
                (λ z. named_so z there) f g acts answer) x.2.ran),
            x.3,
          );
    },
  )

  -- NOTHING WAS FOUND
  pub finds_nothing : {b : S} {e : Fault} (answer : Result (AnswerOf r) Fault) → IsErrAnd answer (λ y. y ≡ e)
      → Finds facts a b f w (Err e) → ServesAt facts a f w p v b f answer
  finds_nothing answer given found =
      serves_at (finds_refused w (λ s q. part facts a f w p s (Some q) q) answer given found)

  module _ (fits : AreOf facts) {b : S} {o : ℕ} {h : HeaderParts} (found : Finds facts a b f w (Ok (o, h))) where
    -- what is done with the object takes as many steps as it has acts: no exit is among them,
    -- and so the object is the same behind it
    does_there : (facts a).stands.role ≡ Within → {c : S} {g : Frames} {answer : Result (AnswerOf r) Fault}
        → Performed facts b c f g 0 (λ k. HoldsHeader o h k × Holds f k)
        (λ s. tested (tests_at p h) (rest_there facts a f w p o h s)) answer (λ j k. Holds g k)
        → ServesAt facts a f w p v c g answer
    does_there within {c} {g} {answer} q =
        let at = (facts a).stands in
        serves_at (finds_next w {so = λ j k. Unit {0}} 0 (λ s q. part facts a f w p s (Some q) q) found (record {
          stands_is = q.stands_is;
          ran = λ k s m.
              let x = q.ran k s m in
              let to = state_of x.0 in
              let there : Kind → ℕ → Call (AnswerOf r) = λ l n.
              call_of at.config at.last at.thread to (handed_one w) (looked_by p l n) (at_both (Some o) None) o in
              let y = ran_whole at.config at.last at.thread to (handed_one w) (looked_by p h.kind h.length)
              (at_both (Some o) None) o x.2.ran in
              let stays = program_stays at.config at.last at.thread to (handed_one w) (looked_by p h.kind h.length)
              (at_both (Some o) None) o f g y.acts answer y.is in
              let role = (fits b k s).role ∙ (found.stands_is.role ∙ within) in (
                x.0,
                x.1,
                made_of (spending x.2)
                    (ran_for x.0 o h there (object_later k x.0 y.acts y.did role stays o h m.0.shown) y),
                (tt, x.3),
              );
        }))

    -- ITS TESTS REFUSE what was found
    pub refuses_there : {e : Fault} (answer : Result (AnswerOf r) Fault) → IsErrAnd answer (λ y. y ≡ e)
        → (facts a).stands.role ≡ Within → refused_by (tests_at p h) ≡ Err e → ServesAt facts a f w p v b f answer
    refuses_there answer given within is = does_there within (handed_on answer given (stopped (tests_at p h)
        (rest_there facts a f w p o h) fits (silent_of (looked_by p h.kind h.length)) is (λ k m. m.1)))

    -- IT PASSES THEM, and what follows was done
    pub passes_there : {c : S} {g : Frames} {answer : Result (AnswerOf r) Fault} → (facts a).stands.role ≡ Within
        → refused_by (tests_at p h) ≡ Ok tt
        → Performed facts b c f g 0 (λ k. HoldsHeader o h k × Holds f k) (rest_there facts a f w p o h) answer (λ j k.
        Holds g k)
        → ServesAt facts a f w p v c g answer
    passes_there within is q = does_there within (behind_tests (tests_at p h) (rest_there facts a f w p o h) is q)

-- an answer that takes no step
pub gives_at_once : {S : Type 0} {facts : S → Facts} {A : Type 0} {b : S} {f : Frames} {o : ℕ} {h : HeaderParts}
    → AreOf facts → (x : A)
    → Performed facts b b f f 0 (λ k. HoldsHeader o h k × Holds f k) (λ s. done x) (Ok x) (λ j k. Holds f k)
gives_at_once {facts = facts} {b = b} {f = f} fits x = record {
  stands_is = nothing_changed;
  ran = λ k s m. let l = (fits b k s).legal in
      (k, s, made_of (spend_none (facts b) k f f l) (ran_done (view k) f x l), m.1);
}
