-- The passes that threads gave back, and the close behind them.
use Rattle.std.specs.Prelude.{◌≡◌, ◌≤◌, ℕ, Bool, true, Option, Some, None, List, [], ◌∷◌, map, length, vec_capacity}
use Rattle.std.specs.List.{AllZip}
use Rattle.atomic_table.specs.Seated.{TableId}
use Rattle.jr_word.specs.declared.config.Config.{Config}
use Rattle.jr_model.specs.declared.summary.Summary.{Summary}
use Rattle.jr_model.specs.declared.event.Role.TheVariants.{Outside}
use Rattle.jr_model.specs.History.{state}
use Rattle.jr_steps.specs.declared.known.Known.{Known}
use Rattle.jr_rule.specs.declared.pass.Pass.{Pass}
use Rattle.jr_threads.specs.declared.native.Ended.{Ended}
use Rattle.jr_threads.specs.declared.native.Place.{Place}
use Rattle.jr_threads.specs.declared.closing.Places.{Places}
use Rattle.jr_threads.specs.declared.running.Returned.{Returned}
use Rattle.jr_rule.specs.declared.room.Room.{Room}
use Rattle.jr_rule.specs.declared.row.Row.{Row}
use Rattle.jr_rule.specs.Passes.{known_of, holder_of, ClosesAll, HasEachPass, IsAt, IsOpened}
use Rattle.jr_env.specs.Deeds.{Deed}
use Rattle.jr_threads.specs.Closing.{HasNoGarbage}
use Rattle.jr_threads.specs.Parts.{DidWithPass}

-- THE TYPE STANDS FOR THE ROOM, by its table and its sizes
pub record IsSiteRoom {LAST : ℕ} (site : Option TableId) (sizes : Config) (room : Room LAST) : Type 0 where
  pub table_is : Some room.row.table.shared.table_id ≡ site
  pub sizes_are : room.row.config ≡ sizes

-- A PASS CAME BACK: it is one of the row's own, of the same thread, and stands outside
pub record IsBack (r : Row) (p q : Pass) : Type 0 where
  pub at : IsAt r q
  pub thread : (known_of q).thread ≡ (known_of p).thread
  pub outside : q.role ≡ Outside

-- A THREAD HAS RUN with its pass:
-- the pass came back, and where the answer tells of the deed, the thread did this and nothing else
pub record ThreadRan {A : Type 0} (tells : A → Bool) (deed : ℕ → Deed A) (r : Row) (p : Pass)
    (e : Ended A) : Type 0 where
  pub back : IsBack r p e.pass
  pub came : tells e.answer ≡ true → DidWithPass (deed p.thread) p (holder_of e.pass) e.answer

-- the passes that threads gave back
abbrev pub passes_in : {A : Type 0} → List (Ended A) → List Pass
passes_in es = map (λ e. e.pass) es

-- their answers
abbrev pub answers_in : {A : Type 0} → List (Ended A) → List A
answers_in es = map (λ e. e.answer) es

-- THE THREADS HAVE RUN with these passes of the row: what each answered, in their order, and
-- the passes that came back, the first apart
pub record HasRunEach {A : Type 0} (tells : A → Bool) (deed : ℕ → Deed A) (r : Row) (ps : List Pass) (x : Returned A)
    : Type 0 where
  pub ended : List (Ended A)
  pub ran : AllZip (ThreadRan tells deed r) ps ended
  pub answers : x.answers.items ≡ answers_in ended
  pub passes : x.first ∷ x.others.items ≡ passes_in ended

-- the threads have run, each with the pass at its place
abbrev pub ThreadsRan : {A : Type 0} → (A → Bool) → (ℕ → Deed A) → Row → List Pass → List (Ended A) → Type 0
ThreadsRan tells deed r ps es = AllZip (ThreadRan tells deed r) ps es

-- A ROOM WAS CLOSED with passes of it, one of each of its threads, of these sizes
-- and this last serial: what is told is what stands at the end of one legal history,
-- which begins with all that each of them has seen and has no more of their events.
-- Nothing is left to collect there
pub record IsClosedBehind (c : Config) (last : ℕ) (s : Summary) : Type 0 where
  pub first : Known
  pub others : List Known
  pub sizes : first.config ≡ c
  pub serials : first.last ≡ last
  pub each : HasEachPass c (first ∷ others)
  pub closes : ClosesAll first others s
  pub nothing : HasNoGarbage c (state closes.ends.whole)

-- THE THREAD WAITS at its place, with this pass
pub record IsWaiting {A : Type 0} (r : Row) (p : Place A) : Type 0 where
  pub pass : Pass
  pub is : p.waiting ≡ Some pass
  pub opened : IsOpened r pass

-- THE THREAD OF THE PLACE HAS ENDED, with what it gave back
pub record HasStopped {A : Type 0} (p : Place A) : Type 0 where
  pub ended : Ended A
  pub is : p.ended ≡ Some ended

-- the thread that waited at the place has run, with its pass
pub record PlaceRan {A : Type 0} (tells : A → Bool) (deed : ℕ → Deed A) (r : Row) (old new : Place A) : Type 0 where
  pub pass : Pass
  pub was : old.waiting ≡ Some pass
  pub ended : Ended A
  pub is : new.ended ≡ Some ended
  pub ran : ThreadRan tells deed r pass ended

-- so has each
abbrev pub PlacesRan : {A : Type 0} → (A → Bool) → (ℕ → Deed A) → Row → List (Place A) → List (Place A) → Type 0
PlacesRan tells deed r ps qs = AllZip (PlaceRan tells deed r) ps qs

-- a thread that waits
abbrev pub waiting_at : {A : Type 0} → Pass → Place A
waiting_at p = record { waiting = Some p; ended = None }

-- what the threads that have ended gave back
abbrev pub ended_by : {A : Type 0} → Option (Ended A) → List (Ended A) → List (Ended A)
ended_by None es = es
ended_by (Some e) es = e ∷ es

-- what the threads of places that have ended gave back, in the places' order
abbrev pub ended_in : {A : Type 0} → List (Place A) → List (Ended A)
ended_in [] = []
ended_in (p ∷ ps) = ended_by p.ended (ended_in ps)

-- no answer and no pass stands there yet, and as many as there are threads have room
pub record HasReserve {A : Type 0} (q : Places A) : Type 0 where
  pub no_answers : q.answers.items ≡ []
  pub no_passes : q.passes.items ≡ []
  pub for_answers : length q.threads.items ≤ vec_capacity q.answers
  pub for_passes : length q.threads.items ≤ vec_capacity q.passes

-- THE THREADS HAVE PLACES, where they wait with these passes, and what they give back has room
pub record HasPlace {A : Type 0} (ps : List Pass) (q : Places A) : Type 0 where
  pub threads : q.threads.items ≡ map waiting_at ps
  pub room : HasReserve q
