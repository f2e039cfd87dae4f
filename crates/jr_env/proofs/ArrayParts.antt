-- Elements of an object that was found are read or written.
use Rattle.std.proofs.Common.{◌≡◌, ℕ, List, length, Result, Ok, Err, sym, ap, ◌∙◌, arith}
use Rattle.std.specs.Result.{IsErrAnd}
use Rattle.jr_word.specs.declared.fault.Fault.{Fault}
use Rattle.jr_word.specs.declared.header.HeaderParts.{HeaderParts}
use Rattle.jr_model.specs.declared.event.Act.{Act}
use Rattle.jr_model.specs.Frames.{Frames}
use Rattle.jr_model.specs.Calls.{Call}
use Rattle.jr_model.specs.Parts.{read, write}
use Rattle.jr_steps.specs.Knowing.{Facts, Standing, Holds}
use Rattle.jr_gate.specs.Performing.{Performed}
use Rattle.jr_gate.proofs.SameRoom.{as_before}
use Rattle.jr_gate.proofs.Spending.{made_of, spend_acts}
use Rattle.jr_heap.specs.Heap.{Called, HoldsHeader, LeavesObject, by_steps}
use Rattle.jr_frames.proofs.FramesAgree.{holds_did}
use Rattle.jr_critical.proofs.LevelParts.{all_written}
use Rattle.jr_critical.proofs.SparedActs.{AreSpared, read_spared}
use Rattle.jr_env.specs.Deeds.{read_answer}

module _ {S : Type 0} {facts : S → Facts} {b c : S} {f : Frames} {o : ℕ} {h : HeaderParts}
    (same : (facts c).stands ≡ (facts b).stands) where
  -- so many steps at the elements of an object
  pub at_elements : {A : Type 0} (n : ℕ) (call : Call A) (answer : Result A Fault)
      → ((acts : List Act) → call f acts answer f → AreSpared n acts)
      → Called facts b c (HoldsHeader o h) (λ j k. call) answer (by_steps n (LeavesObject o h))
      → Performed facts b c f f 0 (λ k. HoldsHeader o h k × Holds f k) (λ s. call) answer (λ j k. Holds f k)
  at_elements n call answer spared q = record {
    stands_is = as_before _ same;
    ran = λ k s m.
        let x = q.ran k s m.0 in
        let r = x.2 f in
        let are = spared r.acts r.is in
        let long = are.long in
        let steps = x.3.1 in (
          x.0,
          x.1,
          made_of (spend_acts f f 0 r.acts 0 (omega arith) r.did (omega arith)
              (ap (λ (z : Standing). z.fresh) same ∙ sym (are.fresh (facts b).stands.fresh)) (q.hint_is
              ∙ sym (are.hint k.config.slots (facts b).hint))) r,
          holds_did k x.0 f r.acts r.did are.spares m.1,
        );
  }

  -- they are read, from an index on
  pub reads_part : (start n : ℕ) (answer : Result (List ℕ) Fault)
      → Called facts b c (HoldsHeader o h) (λ j k. read o start n) answer (by_steps n (LeavesObject o h))
      → Performed facts b c f f 0 (λ k. HoldsHeader o h k × Holds f k) (λ s. read o start n) answer (λ j k. Holds f k)
  reads_part start n answer =
      at_elements n (read o start n) answer (λ acts. read_spared o start n f f acts answer)

  -- so many are written
  pub writes_part : (start : ℕ) (vs : List ℕ) (m : ℕ) → m ≡ length vs
      → Called facts b c (HoldsHeader o h) (λ j k. write o start vs) (Ok tt) (by_steps m (LeavesObject o h))
      → Performed facts b c f f 0 (λ k. HoldsHeader o h k × Holds f k) (λ s. write o start vs) (Ok tt) (λ j k.
      Holds f k)
  writes_part start vs m many =
      at_elements m (write o start vs) (Ok tt) (all_written start vs m many (Ok tt) f o)

-- a refusal is no answer, whatever words a call was to answer with
pub no_words : (e : Fault) (answer : Result (Unit {0}) Fault) (vs : List ℕ) → IsErrAnd answer (λ y. y ≡ e)
    → IsErrAnd (read_answer answer vs) (λ y. y ≡ e)
no_words e (Ok x) vs given = absurd given
no_words e (Err d) vs given = given
