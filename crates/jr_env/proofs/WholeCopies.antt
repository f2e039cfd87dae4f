-- All elements of an object are copied, or written back.
use Rattle.std.proofs.Common.{◌≡◌, ◌≢◌, ℕ, zero, suc, ◌==◌, true, false, not, List}
use Rattle.std.proofs.Common.{map, Result, Ok, Err, inl, inr, refl, sym, ap, subst, arith}
use Rattle.std.proofs.lemmas.Bool.Decides.{nat_tests}
use Rattle.std.proofs.lemmas.List.{map-id}
use Rattle.jr_word.specs.declared.fault.Fault.{Fault}
use Rattle.jr_word.specs.declared.fault.Fault.TheVariants.{Memory}
use Rattle.jr_word.specs.declared.header.HeaderParts.{HeaderParts}
use Rattle.jr_model.specs.declared.event.Act.{Act}
use Rattle.jr_model.specs.History.{PassView}
use Rattle.jr_model.specs.Frames.{Frames}
use Rattle.jr_model.specs.Calls.{Call, Ran, ◌>>◌, done, one_of, refuse, unless_memory_for}
use Rattle.jr_model.specs.Parts.{read}
use Rattle.jr_model.proofs.Runs.{ran_err, ran_give}
use Rattle.jr_steps.specs.Knowing.{Facts, Holds}
use Rattle.jr_gate.specs.Performing.{Performed}
use Rattle.jr_heap.specs.Heap.{Called, HoldsHeader, LeavesObject, by_steps}
use Rattle.jr_elements.specs.Copies.{answer_in, copy_steps}
use Rattle.jr_critical.proofs.SparedActs.{AreSpared, none_spared, read_spared}
use Rattle.jr_env.proofs.ArrayParts.{at_elements}

-- A BUFFER has as many words as the array

pub same_length : (m n : ℕ) → m ≡ n → not (m == n) ≡ false
same_length m n e = grind (arith, nat_tests)

pub other_length : (m n : ℕ) → m ≢ n → not (m == n) ≡ true
other_length m n e = grind (arith, nat_tests)

-- WHAT IS LEFT of the elements after they were written back

pub ran_left : {B : Type 0} {p q : PassView} {f g : Frames} {first : Call (Unit {0})} (left : B)
    (answer : Result (Unit {0}) Fault) → Ran p q f g first answer
    → Ran p q f g (first >> done left) (answer_in (λ u. left) answer)
ran_left left (Ok u) r = ran_give (λ y. left) u r
ran_left left (Err e) r = ran_err (λ u. done left) e r

-- A COPY: n elements, unless no memory is left

abbrev copied : ℕ → ℕ → Call (List ℕ)
copied o n = unless_memory_for n (read o 0 n)

-- the elements were read, or no memory was left
read_or_short : (o n : ℕ) (f g : Frames) (acts : List Act) (answer : Result (List ℕ) Fault) → copied o n f acts answer g
    → one_of (read o 0 n) (refuse Memory) f acts answer g
read_or_short o zero f g acts answer r = inl r
read_or_short o (suc n) f g acts answer r = r

-- it has as many acts as it has elements, and none where the memory was refused
spared_by : {A : Type 0} (form : A → List ℕ) (o n : ℕ) (f g : Frames) (acts : List Act) (answer : Result A Fault)
    → one_of (read o 0 n) (refuse Memory) f acts (answer_in form answer) g → AreSpared (copy_steps n answer) acts
spared_by form o n f g acts (Ok x) (inl r) = read_spared o 0 n f g acts (Ok (form x)) r
spared_by form o n f g acts (Ok x) (inr r) = absurd (let e = r.1 in cc)
spared_by form o n f g acts (Err e) (inl r) = absurd (let d = r.3 in cc)
spared_by form o n f g acts (Err e) (inr r) =
    subst (AreSpared 0) (sym r.0) none_spared

module _ {S : Type 0} {facts : S → Facts} {b c : S} {f : Frames} {o : ℕ} {h : HeaderParts} {V : Type 0}
    (form : V → List ℕ) (answer : Result V Fault) (same : (facts c).stands ≡ (facts b).stands) where
  pub copies_all : Called facts b c (HoldsHeader o h) (λ j k. copied o h.length) (answer_in form answer) (by_steps
      (copy_steps h.length answer) (LeavesObject o h))
      → Performed facts b c f f 0 (λ k. HoldsHeader o h k × Holds f k) (λ s. copied o h.length) (answer_in form answer)
      (λ j k. Holds f k)
  copies_all = at_elements same (copy_steps h.length answer) (copied o h.length) (answer_in form answer) (λ acts r.
      spared_by form o h.length f f acts answer (read_or_short o h.length f f acts (answer_in form answer) r))

-- the units' words are themselves
pub own_words : {V : Type 0} (units : V → List ℕ) (answer : Result V Fault)
    → answer_in (λ v. map (λ x. x) (units v)) answer ≡ answer_in units answer
own_words units (Ok v) = ap (λ xs. Ok xs) (map-id (units v))
own_words units (Err e) = refl
