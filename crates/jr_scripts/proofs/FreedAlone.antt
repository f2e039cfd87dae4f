-- The end of a thread that is alone: nothing is in the way of freeing its local references.
use Rattle.std.proofs.Common.{◌≡◌, ◌≢◌, ◌⊎◌, ⊎_elim, inl, inr, ℕ, zero, suc, false, List, Result, Ok, Err, refl, ap}
use Rattle.jr_word.specs.declared.fault.Fault.{Fault}
use Rattle.jr_word.specs.declared.fault.Fault.TheVariants.{Barred}
use Rattle.jr_syntax.specs.declared.command.Command.{Command}
use Rattle.jr_gate.specs.Performing.{ThreadState}
use Rattle.jr_env.specs.Deeds.{free_locals}
use Rattle.jr_env.specs.Tries.{is_tried_again}
use Rattle.jr_scripts.specs.Tries.{Tried, answered, again, gave_up}
use Rattle.jr_scripts.specs.Posting.{Speech}
use Rattle.jr_scripts.specs.Explains.{Explained}
use Rattle.jr_scripts.specs.AloneAnswers.{AnswersAlone}
use Rattle.jr_scripts.specs.Runs.{IsFreed}
use Rattle.jr_scripts.proofs.AloneCalls.{IsAlone, NoneLost}
use Rattle.jr_scripts.proofs.AloneParts.{was_alone, once_alone, tries_alone}
use Rattle.jr_scripts.proofs.AloneDeeds.{given_up_alone}
use Rattle.jr_scripts.proofs.AloneAnswers.{went_alone}
use Rattle.jr_env.specs.Requests.{for_free_locals}
use Rattle.jr_scripts.proofs.AloneParts.{whole_alone}

free_answers : (old new : ThreadState) (answer : Result (Unit {0}) Fault) → free_locals old answer new
    → (answer ≡ Ok tt) ⊎ (answer ≡ Err Barred)
free_answers old new answer d = ⊎_elim (λ x. inr x.1) (λ x. inl x.2.1) d.0.ran.is

barred_again : (answer : Result (Unit {0}) Fault) → is_tried_again answer ≡ false → answer ≡ Err Barred → answer ≡ Ok tt
barred_again answer final is = let again_is = ap is_tried_again is in absurd cc

-- where there is a turn, the references are freed
freed_all : (n : ℕ) (old new : ThreadState) (answer : Result (Unit {0}) Fault) → IsAlone new.pass
    → Tried free_locals n old answer new → n ≢ 0 → answer ≡ Ok tt
freed_all (suc n) old new answer alone (answered d final) some =
    ⊎_elim (λ e. e) (barred_again answer final) (free_answers old new answer d)
freed_all (suc n) old new answer alone (again {mid = mid} {once = once} d more rest) some =
    let y = tries_alone (whole_alone for_free_locals) n mid new answer alone rest in
    let x = (whole_alone for_free_locals).led old mid once (was_alone y alone) d in
    absurd (once_alone mid.pass once more x.fault)
freed_all zero old new answer alone gave_up some = absurd (some refl)

-- A LONE THREAD's commands, and its end
pub record EndedAlone {talk : Speech} {turns first : ℕ} {opening told left : ThreadState} {commands : List Command}
    {text : List ℕ} (e : Explained talk turns first opening commands text told)
    (f : IsFreed turns told left) : Type 0 where
  pub answers : AnswersAlone e.explains
  pub all : turns ≢ 0 → f.answer ≡ Ok tt
  pub none_lost : NoneLost opening.pass.seen → NoneLost left.pass.seen

pub ended_alone : {talk : Speech} (turns first : ℕ) (opening told left : ThreadState) (commands : List Command)
    (text : List ℕ) (e : Explained talk turns first opening commands text told) (f : IsFreed turns told left)
    → IsAlone left.pass → EndedAlone e f
ended_alone turns first opening told left commands text e f alone =
    let y = tries_alone (whole_alone for_free_locals) turns told left f.answer alone f.tries in
    let here = was_alone y alone in
    let g = (given_up_alone e.place.objects).led e.done told (Ok tt) here e.ended in
    let x = went_alone turns first opening e.done commands text e.place e.words e.explains (was_alone g here) in
    record {
      answers = x.answers;
      all = freed_all turns told left f.answer alone f.tries;
      none_lost = λ m. y.none_lost (g.none_lost (x.none_lost m));
    }
