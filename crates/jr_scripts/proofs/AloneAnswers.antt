-- The answers of a thread that is alone.
use Rattle.std.proofs.Common.{ℕ, None, List, [], ◌∷◌, subst}
use Rattle.std.specs.List.{AllByRecursion}
use Rattle.jr_model.specs.History.{History}
use Rattle.jr_model.proofs.ShownRefusals.{LosesOnly}
use Rattle.jr_gate.specs.Performing.{ThreadState}
use Rattle.jr_syntax.specs.declared.command.Command.{Command}
use Rattle.jr_scripts.specs.Places.{Place}
use Rattle.jr_scripts.specs.Posting.{Speech, ThreadWords}
use Rattle.jr_scripts.specs.Explains.{Explains, nothing, then}
use Rattle.jr_scripts.specs.AloneAnswers.{AnswersAlone}
use Rattle.jr_scripts.specs.Runs.{IsUnbarred}
use Rattle.jr_scripts.proofs.Alone.{IsUndisturbed}
use Rattle.jr_scripts.proofs.AloneCalls.{IsAlone, NoneLost}
use Rattle.jr_scripts.proofs.AloneParts.{was_alone}
use Rattle.jr_scripts.proofs.AloneDeeds.{place_alone}

-- each answer is a lone thread's, and no reservation was lost
pub record WentAlone {talk : Speech} {turns first : ℕ} {old new : ThreadState} {commands : List Command} {text : List ℕ}
    {place : Place} {words : ThreadWords}
    (e : Explains talk turns first old commands text new place words) : Type 0 where
  pub answers : AnswersAlone e
  pub none_lost : NoneLost old.pass.seen → NoneLost new.pass.seen

-- where all that was seen in the end is the thread's own, the commands went so
pub went_alone : {talk : Speech} (turns first : ℕ) (old new : ThreadState) (commands : List Command) (text : List ℕ)
    (place : Place) (words : ThreadWords) (e : Explains talk turns first old commands text new place words)
    → IsAlone new.pass
    → WentAlone e
went_alone turns first old new commands text place words nothing alone = record { answers = tt; none_lost = λ m. m }
went_alone turns first old new commands text place words
    (then {before = done} {text = lines} {mid = mid} {place = stood} {words = had} c answer before did said) alone =
    let y = (place_alone turns stood c).led mid new answer alone did in
    let x = went_alone turns first old mid done lines stood had before (was_alone y alone) in
    record { answers = (x.answers, y.fault); none_lost = λ m. y.none_lost (x.none_lost m) }

-- its events are its own, and nobody was in its way
pub unbarred : (es : History) → AllByRecursion IsUndisturbed es → NoneLost es → AllByRecursion IsUnbarred es
unbarred [] all none = tt
unbarred (e ∷ es) all none = (
  record {
    own = all.0.own;
    enters = all.0.enters;
    shuts = all.0.shuts;
    reserves = λ n looked found is. absurd (let lost = subst (LosesOnly None) is none.0 in cc);
  },
  unbarred es all.1 none.1,
)
