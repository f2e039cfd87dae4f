-- What a call is, over any steps, for whatever was known.
use Rattle.std.specs.Prelude.{◌≡◌, ◌≤◌, ◌+◌, ◌%◌, ℕ, Bool, Result, List, [], ◌∷◌, length}
use Rattle.jr_word.specs.declared.fault.Fault.{Fault}
use Rattle.jr_model.specs.declared.event.Act.{Act}
use Rattle.jr_model.specs.declared.event.Act.TheVariants.{Create}
use Rattle.jr_model.specs.State.{State}
use Rattle.jr_model.specs.History.{Did, PassView}
use Rattle.jr_model.specs.Frames.{Frames}
use Rattle.jr_model.specs.Calls.{Call, Ran}
use Rattle.jr_steps.specs.declared.known.Known.{Known}
use Rattle.jr_steps.specs.declared.known.Holdings.{Holdings}
use Rattle.jr_steps.specs.Knowing.{Facts, Leads, Standing, view, state_of, fresh_from}

-- the same room, thread and role, whether or not the pass is fresh
pub record IsAsBefore (old new : Standing) : Type 0 where
  pub room : new.room ≡ old.room
  pub config : new.config ≡ old.config
  pub last : new.last ≡ old.last
  pub thread : new.thread ≡ old.thread
  pub role : new.role ≡ old.role

-- where the next search for a free slot begins after an act:
-- behind the reference that it made, round the slots, and else where it began
abbrev pub hint_after : ℕ → ℕ → Act → ℕ
hint_after slots hint (Create h o) = (h.index + 1) % slots
hint_after slots hint _ = hint

-- the same after acts: behind the reference made last
abbrev pub hint_from : ℕ → ℕ → List Act → ℕ
hint_from slots hint [] = hint
hint_from slots hint (a ∷ acts) = hint_from slots (hint_after slots hint a) acts

-- THE STATE OF A THREAD between two steps of its own: what its pass has seen and holds, its frames, whether
-- the pass is fresh, where its next search for a free slot begins, and how many operations it has taken
pub record ThreadState : Type 0 where
  pub pass : PassView
  pub frames : Frames
  pub held : Holdings
  pub fresh : Bool
  pub hint : ℕ
  pub taken : ℕ

-- its state where so much is known of a pass that is fresh or not, and whose next search begins there
abbrev pub thread_state_with : Bool → ℕ → Known → Frames → ThreadState
thread_state_with fresh hint k f =
    record { pass = view k; frames = f; held = k.holdings; fresh = fresh; hint = hint; taken = k.taken }

-- its state where so much is known of such a pass
abbrev pub thread_state : Facts → Known → Frames → ThreadState
thread_state s = thread_state_with s.stands.fresh s.hint

-- A THREAD LEARNS:
-- all that others have done in between is seen, by at most one operation, and nothing else of it changes
pub record HasLearned (old new : ThreadState) : Type 0 where
  pub did : Did old.pass new.pass []
  pub frames : new.frames ≡ old.frames
  pub held : new.held ≡ old.held
  pub fresh : new.fresh ≡ old.fresh
  pub hint : new.hint ≡ old.hint
  pub without : ℕ
  pub most : without ≤ 1
  pub taken : new.taken ≡ old.taken + without

-- what acts take from a pass: one operation each, and at most so many more, of which nobody else could tell;
-- it is as fresh as they leave it, and its next search begins where they leave it
pub record Spends (silent : ℕ) (old new : ThreadState) (acts : List Act) : Type 0 where
  pub without : ℕ
  pub most : without ≤ silent
  pub taken : new.taken ≡ old.taken + (length acts + without)
  pub fresh : new.fresh ≡ fresh_from old.fresh acts
  pub hint : new.hint ≡ hint_from old.pass.config.slots old.hint acts

-- A CALL WAS MADE between two moments, with this answer, by one operation for each of its acts and at most so many more
pub record IsMade {A : Type 0} (silent : ℕ) (old new : ThreadState) (call : Call A)
    (answer : Result A Fault) : Type 0 where
  pub ran : Ran old.pass new.pass old.frames new.frames call answer
  pub spent : Spends silent old new ran.acts

module _ {S : Type 0} (facts : S → Facts) where
  -- a call was made: for whatever was known and meets the condition, something is known from which the thread
  -- did what the call does, with this answer, and which shows this. The call may name the state that it leaves
  pub record Performed {A : Type 0} (old new : S) (before after : Frames) (silent : ℕ) (met : Known → Type 0)
      (call : State → Call A) (answer : Result A Fault) (shows : Known → Known → Type 0) : Type 0 where
    pub stands_is : IsAsBefore (facts old).stands (facts new).stands
    pub ran : Leads facts old new met (λ k k'. IsMade silent (thread_state (facts old) k before)
        (thread_state (facts new) k' after) (call (state_of k')) answer) shows
