-- What the calls of a critical region did that is kept from one function to the next: the region stands in the place
-- of its env, behind the handle.
use Rattle.std.specs.Prelude.{◌≡◌, ◌<◌, ◌≤◌, ℕ, Bool, true, false, List, Option, Some, None, Result, Ok, Err}
use Rattle.std.specs.Prelude.{IfErr, IfOk, length}
use Rattle.std.specs.Global.{Box}
use Rattle.jr_word.specs.declared.config.Config.{Config}
use Rattle.jr_word.specs.declared.fault.Fault.{Fault}
use Rattle.jr_word.specs.declared.fault.Fault.TheVariants.{InCritical, NotFresh, Stale}
use Rattle.jr_word.specs.declared.kind.Kind.{Kind}
use Rattle.jr_model.specs.State.{State}
use Rattle.jr_model.specs.Calls.{Call}
use Rattle.jr_model.specs.Checks.{Word}
use Rattle.jr_model.specs.CallPrograms.{get_array_critical, get_string_critical}
use Rattle.jr_critical.specs.declared.levels.Levels.{Levels}
use Rattle.jr_critical.specs.Levels.{GivesUpLastOver, LeavesBefore, NestsOver, ReadsAt, TellsLength, WasAdded, WritesAt}
use Rattle.jr_critical.specs.Levels.{nested_by, objects_of}
use Rattle.jr_critical.specs.LevelParts.{ReadsPartAt, WritesPartAt, part_read}
use Rattle.jr_env.specs.declared.levels_beside.First.{First}
use Rattle.jr_env.specs.declared.levels_beside.First.TheVariants.{Array, Text}
use Rattle.jr_env.specs.Criticals.{HasEntered, WasRefused}
use Rattle.jr_env.specs.Envs.{IsOutside}
use Rattle.jr_env.specs.StandingRegions.{EndsUndisturbed, StandsOn, StandsSince}
use Rattle.luthrady.specs.declared.handles.EnvHandle.{EnvHandle}
use Rattle.luthrady.specs.declared.held.InRegion.{InRegion}
use Rattle.luthrady.specs.declared.held.Native.{Native}
use Rattle.luthrady.specs.declared.held.Presence.{Presence}
use Rattle.luthrady.specs.declared.held.Presence.TheVariants.{Critical, Detached, Ready}
use Rattle.luthrady.specs.declared.reply.Reply.{Reply}
use Rattle.luthrady.specs.Places.{is_env}
use Rattle.luthrady.specs.Replies.{nothing_told, reply_of, the_number}

-- the call that adds a level over an array, over a string, and over what is to be the first
abbrev pub adding_array : Config → ℕ → ℕ → State → List ℕ → Word → Call (ℕ × List ℕ)
adding_array = nested_by get_array_critical

abbrev pub adding_string : Config → ℕ → ℕ → State → List ℕ → Word → Call (ℕ × List ℕ)
adding_string = nested_by get_string_critical

abbrev pub adding_first : First → Config → ℕ → ℕ → State → List ℕ → Word → Call (ℕ × List ℕ)
adding_first (Array h) = adding_array
adding_first (Text h) = adding_string

-- A REGION WAS ENTERED by an env, by this call, with one level, whose number is 0, and it stands since then;
-- or it was refused, and the env is ready for calls still; the marker is as it was
abbrev pub EntersRegion : (Config → ℕ → ℕ → State → Word → Call ℕ) → ℕ → Native → Presence → Result ℕ Fault → Type 0
EntersRegion call w n q (Ok level) = (r : InRegion) × (q ≡ Critical r) × (level ≡ 0)
    × HasEntered n.env r.native.value.env r.levels w call
    × (IsOutside n.env → StandsSince n.env.held r.native.value.env.held r.levels)
    × (r.native.value.marker ≡ n.marker)
EntersRegion call w n q (Err e) = (m : Box Native) × (q ≡ Ready m) × WasRefused n.env m.value.env w call e
    × (m.value.marker ≡ n.marker)

-- A REGION GOES ON from these levels to those: since whatever moment it stood, it stands; frames and marker are as
-- they were
abbrev pub RegionGoesOn : InRegion → InRegion → Type 0
RegionGoesOn r s = StandsOn r.native.value.env.held s.native.value.env.held r.levels s.levels
    × (s.native.value.env.held.frames ≡ r.native.value.env.held.frames)
    × (s.native.value.marker ≡ r.native.value.marker)

-- A LEVEL WAS ADDED by this call to a region, which goes on, and its number is the answer; or it was refused, and the
-- levels are as they were
abbrev pub AddsToRegion : (Config → ℕ → ℕ → State → List ℕ → Word → Call (ℕ × List ℕ)) → ℕ → InRegion → Presence
    → Result ℕ Fault → Type 0
AddsToRegion call w r q answer = (s : InRegion) × (q ≡ Critical s)
    × NestsOver r.native.value.env.held s.native.value.env.held w call r.levels s.levels answer
    × RegionGoesOn r s × IfOk answer (λ n. WasAdded r.levels s.levels n) × IfErr answer (λ e. s.levels ≡ r.levels)

-- A LEVEL WAS OPENED: of an env that is ready it is the first of a region, and in a region a further one;
-- of a thread that was detached it is E21, and nothing has changed
abbrev pub OpensLevel : (Config → ℕ → ℕ → State → Word → Call ℕ)
    → (Config → ℕ → ℕ → State → List ℕ → Word → Call (ℕ × List ℕ)) → ℕ → Presence → Presence → Result ℕ Fault → Type 0
OpensLevel first more w (Ready n) q answer = EntersRegion first w n.value q answer
OpensLevel first more w (Critical r) q answer = AddsToRegion more w r q answer
OpensLevel first more w Detached q answer = (answer ≡ Err NotFresh) × (q ≡ Detached)

-- how many levels are left
abbrev pub count_left : Option Levels → ℕ
count_left (Some v) = length (objects_of v)
count_left None = 0

-- of the levels of a region these are left, and it goes on; or none, and it ended with its exit: no collection
-- disturbed it since its entry, the thread stands outside, frames and marker are as they were, and the env is ready
abbrev pub LeavesRegion : InRegion → Presence → Option Levels → Type 0
LeavesRegion r q (Some v) = (s : InRegion) × (q ≡ Critical s) × (s.levels ≡ v)
    × GivesUpLastOver r.native.value.env.held s.native.value.env.held r.levels (Some v) × RegionGoesOn r s
LeavesRegion r q None = (m : Box Native) × (q ≡ Ready m)
    × GivesUpLastOver r.native.value.env.held m.value.env.held r.levels None
    × EndsUndisturbed r.native.value.env.held m.value.env.held r.levels
    × (m.value.env.held.frames ≡ r.native.value.env.held.frames) × IsOutside m.value.env
    × (m.value.marker ≡ r.native.value.marker)

-- THE LAST LEVEL WAS GIVEN UP, and how many are left is the answer; where no region stands it is E19, of a thread that
-- was detached E21, and nothing has changed
abbrev pub GivesUpLevel : Presence → Presence → Result ℕ Fault → Type 0
GivesUpLevel (Critical r) q answer = (left : Option Levels) × (answer ≡ Ok (count_left left))
    × LeavesBefore r.levels left × LeavesRegion r q left
GivesUpLevel (Ready n) q answer = (answer ≡ Err InCritical) × (q ≡ Ready n)
GivesUpLevel Detached q answer = (answer ≡ Err NotFresh) × (q ≡ Detached)

-- THIS WAS DONE AT THE LEVEL of a number, if it stands, and the region goes on with the same levels;
-- else it is E2, and nothing has changed
abbrev pub DoneAtLevel : {A : Type 0} → InRegion → InRegion → ℕ → Result A Fault → Type 0 → Type 0
DoneAtLevel r s level answer done = (s.levels ≡ r.levels) × RegionGoesOn r s
    × (length (objects_of r.levels) ≤ level → (answer ≡ Err Stale) × (s ≡ r))
    × (level < length (objects_of r.levels) → done)

-- this was done in a region; where none stands it is E19, of a thread that was detached E21, and nothing has changed
abbrev pub InItsRegion : {A : Type 0} → (InRegion → InRegion → Result A Fault → Type 0) → Presence → Presence
    → Result A Fault → Type 0
InItsRegion did (Critical r) q answer = (s : InRegion) × (q ≡ Critical s) × did r s answer
InItsRegion did (Ready n) q answer = (answer ≡ Err InCritical) × (q ≡ Ready n)
InItsRegion did Detached q answer = (answer ≡ Err NotFresh) × (q ≡ Detached)

-- a part of a level was read, so many elements of this kind from an index on: the words that the answer has
abbrev pub ReadsLevelPart : ℕ → Kind → ℕ → ℕ → InRegion → InRegion → Result (List ℕ) Fault → Type 0
ReadsLevelPart level kind start n r s answer = DoneAtLevel r s level answer
    (ReadsPartAt r.native.value.env.held s.native.value.env.held r.levels level kind start n answer)

-- a part of a level was written, with these words
abbrev pub WritesLevelPart : ℕ → Kind → ℕ → List ℕ → InRegion → InRegion → Result (Unit {0}) Fault → Type 0
WritesLevelPart level kind start words r s answer = DoneAtLevel r s level answer
    (WritesPartAt r.native.value.env.held s.native.value.env.held r.levels level kind start words answer)

-- an element of a level was read, as this word
abbrev pub ReadsLevelElement : ℕ → Kind → ℕ → InRegion → InRegion → Result ℕ Fault → Type 0
ReadsLevelElement level kind index r s answer = DoneAtLevel r s level answer
    (ReadsAt r.native.value.env.held s.native.value.env.held r.levels level kind index answer)

-- an element of a level was written, with this word
abbrev pub WritesLevelElement : ℕ → Kind → ℕ → ℕ → InRegion → InRegion → Result (Unit {0}) Fault → Type 0
WritesLevelElement level kind index word r s answer = DoneAtLevel r s level answer
    (WritesAt r.native.value.env.held s.native.value.env.held r.levels level kind index word answer)

-- the length of a level was told; where it does not stand it is E2
abbrev pub TellsLevelLength : Levels → ℕ → Result ℕ Fault → Type 0
TellsLevelLength v level (Ok n) = (level < length (objects_of v)) × TellsLength v level n
TellsLevelLength v level (Err e) = (length (objects_of v) ≤ level) × (e ≡ Stale)

-- by the env's place behind a handle, which holds an env's mark still; where none stands, it is E21, and nothing has
-- changed
abbrev pub ByEnvPlace : {A : Type 0} → Bool → (Presence → Presence → Result A Fault → Type 0) → EnvHandle → EnvHandle
    → Result A Fault → Type 0
ByEnvPlace true did old new answer = (is_env new ≡ true) × did old.value.presence new.value.presence answer
ByEnvPlace false did old new answer = (answer ≡ Err NotFresh) × (new ≡ old)

-- THIS WAS DONE WITH THE ENV behind the handle, wherever it is; the handle points where it did
abbrev pub WasDoneWith : {A : Type 0} → (Presence → Presence → Result A Fault → Type 0) → EnvHandle → EnvHandle
    → Result A Fault → Type 0
WasDoneWith did old new answer = (new.at ≡ old.at) × ByEnvPlace (is_env old) did old new answer

-- IT WAS, with an answer that the reply tells
abbrev pub RepliedWith : {A : Type 0} → (A → ℕ) → (Presence → Presence → Result A Fault → Type 0) → EnvHandle
    → EnvHandle → Reply → Type 0
RepliedWith {A} word did old new reply =
    (answer : Result A Fault) × (reply ≡ reply_of word answer) × WasDoneWith did old new answer

-- A LEVEL WAS OPENED at a word, and the reply tells its number
abbrev pub LevelReplied : (Config → ℕ → ℕ → State → Word → Call ℕ)
    → (Config → ℕ → ℕ → State → List ℕ → Word → Call (ℕ × List ℕ)) → ℕ → EnvHandle → EnvHandle → Reply → Type 0
LevelReplied first more w = RepliedWith the_number (OpensLevel first more w)

-- THE LENGTH OF A LEVEL WAS TOLD, and nothing has changed
abbrev pub LengthReplied : ℕ → EnvHandle → EnvHandle → Reply → Type 0
LengthReplied level =
    RepliedWith the_number (InItsRegion (λ r s answer. (s ≡ r) × TellsLevelLength r.levels level answer))

-- A PART OF A LEVEL WAS READ, and stands in the slice, which a refusal leaves
abbrev pub LevelPartReplied : ℕ → Kind → ℕ → ℕ → EnvHandle → EnvHandle → Reply → List ℕ → List ℕ → Type 0
LevelPartReplied level kind start n old new reply before after =
    (answer : Result (Unit {0}) Fault) × (reply ≡ reply_of nothing_told answer)
    × WasDoneWith (InItsRegion (ReadsLevelPart level kind start n)) old new (part_read answer after)
    × IfErr answer (λ e. after ≡ before)
