-- Copied elements are released.
use Rattle.std.proofs.Common.{◌≡◌, ◌≢◌, ℕ, Bool, true, false, List, Option, Some, None, Result, Ok, refl}
use Rattle.jr_word.specs.declared.fault.Fault.{Fault}
use Rattle.jr_word.specs.declared.kind.Kind.{Kind}
use Rattle.jr_model.specs.declared.frames.Mode.{Mode}
use Rattle.jr_model.specs.declared.frames.Mode.TheVariants.{Copy, Commit, Abort}
use Rattle.jr_model.specs.Calls.{Call, done, ◌>>◌}
use Rattle.jr_model.specs.Frames.{Frames}
use Rattle.jr_gate.specs.Performing.{IsMade, ThreadState}
use Rattle.jr_gate.proofs.Spending.{made_of, spending}
use Rattle.jr_steps.specs.Knowing.{Facts}
use Rattle.jr_elements.specs.Copies.{answer_in, kept}
use Rattle.jr_frames.specs.Table.{Table}
use Rattle.jr_env.specs.Works.{EndsStay}
use Rattle.jr_env.specs.Deeds.{DoesOutside, release_answer, release_array_elements, whole}
use Rattle.jr_env.specs.Requests.{for_copy_back}
use Rattle.jr_env.proofs.Carrying.{does_nothing}
use Rattle.jr_env.proofs.EnvCalls.{does_more}
use Rattle.jr_env.specs.Tries.{made_again, settled}
use Rattle.jr_env.proofs.MadeAgain.{tries_formed}
use Rattle.jr_env.proofs.WholeCopies.{ran_left}
use Rattle.jr_env.proofs.FrameCalls.{does_from}

-- the words of what is kept are what is kept of the words
pub kept_words : {A : Type 0} (words : A → List ℕ) (x : A) (mode : Mode)
    → Ok (kept mode (words x)) ≡ release_answer words (Ok (kept mode x))
kept_words words x Copy = refl
kept_words words x Commit = refl
kept_words words x Abort = refl

-- a release that gives the elements up does nothing
pub aborts : {S : Type 0} {facts : S → Facts} {o a : S} {r t : Table} (kind : Kind) (w : ℕ) (buffer : List ℕ)
    → EndsStay facts o a r t → (mode : Mode) → (mode ≢ Abort → ⊥)
    → DoesOutside facts o a r.frames t.frames (release_array_elements kind w buffer mode) (Ok None)
aborts kind w buffer e Copy never = absurd (never (λ i. cc))
aborts kind w buffer e Commit never = absurd (never (λ i. cc))
aborts kind w buffer e Abort never = does_from e (does_nothing (λ p. (refl, refl)))

-- what is left of the elements after they were written back
left_with : (left : Option (List ℕ)) (answer : Result (Unit {0}) Fault) {call : Call (Unit {0})} {p q : ThreadState}
    → IsMade 1 p q call answer → IsMade 1 p q (call >> done left) (answer_in (λ u. left) answer)
left_with left answer d = made_of (spending d) (ran_left left answer d.ran)

module _ (kind : Kind) (w : ℕ) (buffer : List ℕ) where
  -- what writes the elements back is a release of them
  written_back : (mode : Mode) → mode ≢ Abort → (p q : ThreadState) (answer : Result (Unit {0}) Fault)
      → whole (for_copy_back kind w buffer) p answer q
      → release_array_elements kind w buffer mode p (answer_in (λ u. kept mode buffer) answer) q
  written_back Copy ne p q answer x = (x.0, x.1, (left_with None answer x.2.0, x.2.1))
  written_back Commit ne p q answer x = (x.0, x.1, (left_with (Some buffer) answer x.2.0, x.2.1))
  written_back Abort ne p q answer x = absurd (ne refl)

  module _ {S : Type 0} {facts : S → Facts} {a b : S} {f g : Frames} (mode : Mode) (ne : mode ≢ Abort)
      (answer : Result (Unit {0}) Fault) where
    pub releases : DoesOutside facts a b f g (whole (for_copy_back kind w buffer)) answer
        → DoesOutside facts a b f g (release_array_elements kind w buffer mode)
        (answer_in (λ u. kept mode buffer) answer)
    releases = does_more (λ p q x. written_back mode ne p q answer x)

    -- the same, made again
    pub releases_again : (waits : Bool) (more : ℕ)
        → DoesOutside facts a b f g (made_again waits more (whole (for_copy_back kind w buffer))) answer
        → DoesOutside facts a b f g (made_again waits more (release_array_elements kind w buffer mode))
        (answer_in (λ u. kept mode buffer) answer)
    releases_again waits more = does_more (λ p q t. tries_formed (λ u. kept mode buffer) (λ p q r x.
        written_back mode ne p q r x) t)

-- a release that gives the elements up does nothing, however often it might be made
pub aborts_again : {S : Type 0} {facts : S → Facts} {o a : S} {r t : Table} (waits : Bool) (more : ℕ) (kind : Kind)
    (w : ℕ) (buffer : List ℕ) → EndsStay facts o a r t → (mode : Mode) → (mode ≢ Abort → ⊥)
    → DoesOutside facts o a r.frames t.frames (made_again waits more (release_array_elements kind w buffer mode))
    (Ok None)
aborts_again true more kind w buffer e mode never =
    does_more (λ p q x. settled x refl) (aborts kind w buffer e mode never)
aborts_again false more kind w buffer e mode never =
    does_more (λ p q x. settled x refl) (aborts kind w buffer e mode never)
