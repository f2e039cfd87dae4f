-- What each thread of a room did, in one legal history.
use Rattle.std.specs.Prelude.{◌≡◌, ◌<◌, ℕ, zero, suc, Bool, true, false, Result}
use Rattle.std.specs.Prelude.{Ok, List, [], ◌∷◌, ◌++◌, length, slice_index_or}
use mathlib.Core.List.{IsPrefix}
use Rattle.jr_word.specs.declared.config.Config.{Config}
use Rattle.jr_word.specs.declared.fault.Fault.{Fault}
use Rattle.jr_model.specs.declared.event.Act.{Act}
use Rattle.jr_model.specs.declared.event.Act.TheVariants.{Meet}
use Rattle.jr_model.specs.declared.summary.Summary.{Summary}
use Rattle.jr_model.specs.CollectionCalls.{collection_acts}
use Rattle.jr_model.specs.Frames.{Frames, fresh_frames}
use Rattle.jr_model.specs.History.{History, PassView, IsLegal, mine, state}
use Rattle.jr_model.specs.Laws.{KeepsTheLaws}
use Rattle.jr_model.specs.State.{Handle, not_outside, summary}
use Rattle.jr_steps.specs.Holdings.{empty}
use Rattle.jr_steps.specs.Knowing.{Facts, Spent}
use Rattle.jr_gate.specs.Performing.{ThreadState}
use Rattle.jr_rule.specs.declared.pass.Pass.{Pass}
use Rattle.jr_rule.specs.Passes.{Holder, facts_of, holder_of, standing_of}
use Rattle.jr_env.specs.Deeds.{Deed, DoesDeed}
use Rattle.jr_alive.specs.declared.dump.Dump.{Dump}
use Rattle.jr_threads.specs.Closing.{HasNoGarbage}
use Rattle.jr_threads.specs.Listing.{TellsLeft, listing_acts}

-- a pass of the thread, in a room of these sizes and this last serial, that has seen this
abbrev pub pass_that_saw : Config → ℕ → ℕ → History → PassView
pass_that_saw c last t seen = record { config = c; last = last; thread = t; seen = seen }

-- before the thread's first call: it has seen nothing, no local reference stands,
-- its pass is spent, and its first search for a free slot begins at slot 0
abbrev pub start_moment : Config → ℕ → ℕ → ThreadState
start_moment c last t = record {
  pass = pass_that_saw c last t [];
  frames = fresh_frames c.locals;
  held = empty;
  fresh = false;
  hint = 0;
  taken = 0;
}

-- THE DEED IS THE THREAD'S:
-- it leads from the thread's first moment, with this answer, to where the thread has seen this
pub record ComesOfDeed {A : Type 0} (c : Config) (last t : ℕ) (deed : Deed A) (x : A) (seen : History) : Type 0 where
  pub left : ThreadState
  pub does : deed (start_moment c last t) (Ok x) left
  pub saw : left.pass ≡ pass_that_saw c last t seen

-- what the room's close does in the thread of this number:
-- thread 0 collects, by these acts, and looks at the gate, and no other does anything
abbrev pub closing : List Act → ℕ → List Act
closing sweep zero = sweep ++ Meet ∷ []
closing sweep (suc t) = []

-- THE THREAD'S PART in the history, with this answer:
-- the history begins with all that it has seen, and has of its events those, the ones of the close, and no others;
-- and where the answer tells of the deed, it has done this and nothing else
pub record IsThreadPart {A : Type 0} (tells : A → Bool) (deed : ℕ → Deed A) (c : Config) (last : ℕ) (sweep : List Act)
    (whole : History) (t : ℕ) (x : A) : Type 0 where
  pub seen : History
  pub begins : IsPrefix seen whole
  pub own : mine whole t ≡ mine seen t ++ closing sweep t
  pub did : tells x ≡ true → ComesOfDeed c last t (deed t) x seen

-- NOBODY WAS INSIDE, knocking, announcing or collecting, where thread 0 had looked at the gate, as its last act
pub record IsLookedAt (c : Config) (whole : History) : Type 0 where
  pub seen : History
  pub begins : IsPrefix seen whole
  pub own : mine whole 0 ≡ mine seen 0
  pub nobody : not_outside c (state seen) ≡ 0

-- THE THREADS HAVE RUN: of one legal history, which keeps the laws, each thread of the room has
-- its part, with the answer at the place of its number. Behind its own part thread 0 does these acts, those of a
-- collection that cleared and dropped so, and any behind it, and looks at the gate. Nothing is left to collect at the
-- history's end; and the summary is of that end
pub record RanBy {A : Type 0} (acts : List Handle → List ℕ → ℕ → List Act) (tells : A → Bool) (deed : ℕ → Deed A)
    (c : Config) (last : ℕ) (answers : List A) (s : Summary) : Type 0 where
  pub whole : History
  pub legal : IsLegal c last whole
  pub lawful : KeepsTheLaws whole
  pub count : length answers ≡ c.threads
  pub cleared : List Handle
  pub dropped : List ℕ
  pub used : ℕ
  pub parts : (t : ℕ) (d : A) → t < c.threads
      → IsThreadPart tells deed c last (acts cleared dropped used) whole t (slice_index_or answers t d)
  pub looked : IsLookedAt c whole
  pub nothing : HasNoGarbage c (state whole)
  pub is : s ≡ summary c last (state whole)

-- and thread 0 collects alone
abbrev pub RanTogether : {A : Type 0} → (A → Bool) → (ℕ → Deed A) → Config → ℕ → List A → Summary → Type 0
RanTogether = RanBy collection_acts

-- THE THREADS HAVE RUN, and thread 0 collects, and then takes this dump, which tells what was left at the end
pub record RanListing {A : Type 0} (tells : A → Bool) (deed : ℕ → Deed A) (c : Config) (last : ℕ) (answers : List A)
    (s : Summary) (d : Dump) : Type 0 where
  pub ran : RanBy listing_acts tells deed c last answers s
  pub left : TellsLeft c last (state ran.whole) d

-- with its pass, which was spent first, a thread did this and nothing else, with this answer, and now has this
pub record DidWithPass {A : Type 0} (deed : Deed A) (old : Pass) (now : Holder) (x : A) : Type 0 where
  pub spent : Holder
  pub spends : Spent facts_of (holder_of old) spent
  pub frames : Frames
  pub did : DoesDeed facts_of spent now (fresh_frames (standing_of old).config.locals) frames deed (Ok x)

-- over these steps, which were spent first, native code did this and nothing else, with this answer, and left these
pub record DidOver {S A : Type 0} (facts : S → Facts) (deed : Deed A) (old new : S) (x : A) : Type 0 where
  pub spent : S
  pub spends : Spent facts old spent
  pub frames : Frames
  pub did : DoesDeed facts spent new (fresh_frames (facts old).stands.config.locals) frames deed (Ok x)

-- the reply of a deed, a refusal too, as the answer of native code
abbrev pub replied : {A : Type 0} → Deed A → Deed (Result A Fault)
replied first old answer new = (reply : Result _ Fault) × (answer ≡ Ok reply) × first old reply new
