-- SEVERAL THREADS TAKE STEPS, one at a time: whose programs are played in one history run together to their ends.
use Rattle.std.specs.Prelude.{◌≡◌, ◌<◌, ℕ, Bool, Result, List, [], ◌∷◌, ◌++◌, map, length, nat_eq, slice_index_or}
use Rattle.std.specs.List.{AllByRecursion}
use Rattle.jr_word.specs.declared.config.Config.{Config}
use Rattle.jr_word.specs.declared.fault.Fault.{Fault}
use Rattle.jr_model.specs.declared.event.Act.{Act}
use Rattle.jr_model.specs.Maps.{update}
use Rattle.jr_model.specs.Frames.{Frames, fresh_frames}
use Rattle.jr_model.specs.History.{History, by}
use Rattle.jr_world.specs.Doing.{Doing, Shared, first_shared}
use Rattle.jr_world.specs.Doing.Doing.{ended, steps}
use Rattle.jr_world.specs.Board.{IsOnBoard}
use Rattle.jr_world.specs.Plays.{Plays, SharedStands}
use Rattle.one_order.specs.Orders.{AreStories, BoardOf, Item, done_by}
use Rattle.one_order.specs.Orders.Item.{does as acting, posts as posting, hears as hearing}

-- SEVERAL THREADS: the program that each has before it, and what they share
pub record Machine (A : Type 0) : Type 0 where
  pub programs : ℕ → Doing A
  pub shared : Shared

-- one step of thread t with its luck, where this is its program; none where it has ended
abbrev pub stepped : {A : Type 0} → Machine A → ℕ → Bool → Doing A → Machine A
stepped m t luck (ended r) = m
stepped m t luck (steps more leaves) =
    record { programs = update nat_eq m.programs t (more t luck m.shared); shared = leaves t luck m.shared }

-- A SCHEDULE: whose turn it is, one after the other, and with which luck
abbrev pub run : {A : Type 0} → List (ℕ × Bool) → Machine A → Machine A
run [] m = m
run (x ∷ xs) m = run xs (stepped m x.0 x.1 (m.programs x.0))

-- single steps of threads that have not ended lead from the one to the other, in some order
pub data Runs {A : Type 0} (end : Machine A) : Machine A → Type 0 where
  stops : Runs end end
  turn : {m : Machine A} {more : ℕ → Bool → Shared → Doing A} {leaves : ℕ → Bool → Shared → Shared} (t : ℕ)
      (luck : Bool) → m.programs t ≡ steps more leaves → Runs end (stepped m t luck (steps more leaves)) → Runs end m

-- THEY RUN TOGETHER, each to its end with its answer, and what they share then stands as in the whole history
pub record RunTogether {A : Type 0} (c : Config) (answers : ℕ → Result A Fault) (g : ℕ → Frames) (whole : History)
    (start : Machine A) : Type 0 where
  pub end : Machine A
  pub runs : Runs end start
  pub have_ended : (t : ℕ) → t < c.threads → end.programs t ≡ ended (answers t)
  pub stands : (t : ℕ) → t < c.threads → SharedStands c t whole (g t) end.shared

-- an item of thread t before these events: where it is an act, it is one more of them
abbrev pub event_before : ℕ → Item Act → History → History
event_before t (acting a) es = by t a ∷ es
event_before t (posting n w) es = es
event_before t (hearing n w) es = es

-- the events among the items of several threads
abbrev pub events_of : List (ℕ × Item Act) → History
events_of [] = []
events_of (x ∷ xs) = event_before x.0 x.1 (events_of xs)

-- the words on a board after an item
abbrev pub board_after : List (List ℕ × ℕ) → Item Act → List (List ℕ × ℕ)
board_after b (acting a) = b
board_after b (posting n w) = b ++ (n, w) ∷ []
board_after b (hearing n w) = b

-- .. and after the items of several threads
abbrev pub board_from : List (List ℕ × ℕ) → List (ℕ × Item Act) → List (List ℕ × ℕ)
board_from b [] = b
board_from b (x ∷ xs) = board_from (board_after b x.1) xs

-- who hears a word hears the one that was posted before under its name
abbrev pub AreHeard : List (List ℕ × ℕ) → List (ℕ × Item Act) → Type 0
AreHeard b all = (before after : List (ℕ × Item Act)) (t : ℕ) (n : List ℕ) (w : ℕ)
    → all ≡ before ++ (t, hearing n w) ∷ after → IsOnBoard (board_from b before) n w

-- PROGRAMS THAT ARE PLAYED IN ONE ORDER of acts, posts and hearings RUN TOGETHER
abbrev pub PlayersRunTo : Type 0 → Type 0
PlayersRunTo A = (c : Config) (answers : ℕ → Result A Fault) (f g : ℕ → Frames) (all : List (ℕ × Item Act))
    (start : Machine A) → AllByRecursion (λ x. x.0 < c.threads) all → AreHeard start.shared.board all
    → ((t : ℕ) → t < c.threads
    → Plays c (events_of all) t (λ later r. r ≡ answers t) (g t) [] (start.programs t) [] (f t) (done_by all t))
    → ((t : ℕ) → t < c.threads → SharedStands c t [] (f t) start.shared)
    → RunTogether c answers g (events_of all) start

-- the acts of a history, each behind its thread
abbrev pub pairs : History → List (ℕ × Act)
pairs es = map (λ e. (e.thread, e.act)) es

-- AND SO DO THOSE THAT ARE PLAYED BY THEIR THREADS' STORIES in one history, with one board, on which no word stands
-- at first
abbrev pub StoriesRunTo : Type 0 → Type 0
StoriesRunTo A = (c : Config) (answers : ℕ → Result A Fault) (f g : ℕ → Frames) (whole : History) (board : BoardOf Act)
    (rank : List ℕ → ℕ) (stories : List (List (Item Act))) (start : Machine A)
    → AreStories board rank (pairs whole) stories → length stories ≡ c.threads → start.shared.board ≡ []
    → ((t : ℕ) → t < c.threads
    → Plays c whole t (λ later r. r ≡ answers t) (g t) [] (start.programs t) [] (f t) (slice_index_or stories t []))
    → ((t : ℕ) → t < c.threads → SharedStands c t [] (f t) start.shared) → RunTogether c answers g whole start

-- BEFORE THE FIRST STEP what is shared stands as the empty history, for each thread with fresh frames
abbrev pub FirstStands : Type 0
FirstStands = (c : Config) (t : ℕ) → t < c.threads → SharedStands c t [] (fresh_frames c.locals)
    (first_shared c.threads)

-- WHAT RUNS, RUNS BY A SCHEDULE
abbrev pub RunsByASchedule : Type 0 → Type 0
RunsByASchedule A = (end start : Machine A) → Runs end start → (schedule : List (ℕ × Bool)) × (run schedule start ≡ end)
