-- For the crate's own functions: what the threads of a script are given, and what they give back.
use Rattle.std.specs.List.{All, AllByRecursion, AllZip}
use mathlib.Core.List.{IsPrefix}
use Rattle.std.specs.Prelude.{◌≡◌, ◌+◌, ◌<◌, ◌^◌, ℕ, Option, Some, None, List, [], ◌∷◌, ◌++◌, length, Ok, IsSome}
use Rattle.jr_model.specs.History.{History}
use Rattle.jr_syntax.specs.declared.command.Command.{Command}
use Rattle.jr_syntax.specs.declared.thread.ThreadPart.{ThreadPart}
use Rattle.jr_rule.specs.declared.pass.Pass.{Pass}
use Rattle.jr_rule.specs.declared.row.Row.{Row}
use Rattle.jr_rule.specs.Passes.{IsOpened}
use Rattle.jr_scripts.specs.declared.part.Job.{Job}
use Rattle.jr_scripts.specs.declared.part.ThreadRun.{ThreadRun}
use Rattle.jr_scripts.specs.Text.{heading}
use Rattle.jr_scripts.specs.Layouts.{Layout, cell_number, layout_of}
use Rattle.jr_scripts.specs.Posting.{Account, ThreadWords, said}
use Rattle.jr_scripts.specs.declared.board.Posts.{Posts}
use Rattle.jr_scripts.specs.declared.sighting.Sighting.{Sighting}
use Rattle.jr_scripts.specs.declared.sighting.Posted.{Posted}
use Rattle.jr_rule.specs.declared.site.Site.{Ghosts}
use Rattle.jr_rule.specs.declared.site.PinnedNoteOf.{PinnedNoteOf}
use Rattle.jr_scripts.specs.NotedWords.{posted_noted}
use Rattle.jr_rule.specs.Rooms.{seen_by_pinned}
use Rattle.jr_scripts.specs.Telling.{account_told, talk_told}
use Rattle.jr_scripts.specs.AllRuns.{RanPass}

module _ {Q : Type 0} {G : Ghosts Q} where
  -- what a thread's notes tell
  abbrev pub account_in : ThreadRun Q G → Account
  account_in r = account_told r.notes.is_lost r.notes.posts.now.numbers.entries r.notes.notes.items

  -- the thread did its job, with what its notes tell
  abbrev pub HasRun : Job → ThreadRun Q G → Type 0
  HasRun j r = RanPass (talk_told r.notes.is_lost r.notes.posts.now.numbers.entries r.notes.notes.items) j.task.turns
      j.task.first j.task.commands.now j.pass r.pass r.answer r.text.items

  -- the thread did its job, with what the board has
  abbrev pub HasSaid : (List ℕ → Option (ℕ × History)) → (List ℕ → ℕ) → Job → ThreadRun Q G → Type 0
  HasSaid board rank j r =
      RanPass (said board rank) j.task.turns j.task.first j.task.commands.now j.pass r.pass r.answer r.text.items

  -- what the thread's notes tell is what the board has
  pub record IsToldBy (board : List ℕ → Option (ℕ × History)) (rank : List ℕ → ℕ) (r : ThreadRun Q G) : Type 0 where
    pub posted : (words : ThreadWords) (n : List ℕ) (w : ℕ) (h : History) → (account_in r).posted words n w h
        → (board n ≡ Some (w, h)) × AllByRecursion (λ x. rank x.0 < rank n) words
    pub heard : (n : List ℕ) (w : ℕ) (h : History) → (account_in r).heard n w h
        → (begun : History) × (board n ≡ Some (w, begun)) × IsPrefix begun h

  -- the thread's notes are of this board
  abbrev pub IsOver : Layout → ThreadRun Q G → Type 0
  IsOver layout r = layout_of r.notes.posts.now ≡ layout

  -- the threads did their jobs, each with notes of the board
  pub record HaveRun (layout : Layout) (js : List Job) (rs : List (ThreadRun Q G)) : Type 0 where
    pub each : AllZip HasRun js rs
    pub over : All (IsOver layout) rs

-- the commands can be run in the room with this pass
pub record IsForCommands (r : Row) (first : ℕ) (commands : List Command) (p : Pass) : Type 0 where
  pub opened : IsOpened r p
  pub fits : first + length commands < 2 ^ 64

-- the job can be done in the room
abbrev pub IsFor : Row → Job → Type 0
IsFor r j = IsForCommands r j.task.first j.task.commands.now j.pass

-- the job is this part's, with this pass
pub record IsJobOf (turns line : ℕ) (p : Pass) (q : ThreadPart) (j : Job) : Type 0 where
  pub pass : j.pass ≡ p
  pub commands : j.task.commands.now ≡ q.commands
  pub line_is : j.task.first ≡ line + 1
  pub fits : line + 1 + length q.commands < 2 ^ 64
  pub same_turns : j.task.turns ≡ turns

-- the jobs of the parts, of which the first stands on this line
abbrev pub AreJobsOf : ℕ → ℕ → List Pass → List ThreadPart → List Job → Type 0
AreJobsOf turns line [] [] [] = Unit {0}
AreJobsOf turns line (p ∷ ps) (q ∷ qs) (j ∷ js) =
    IsJobOf turns line p q j × AreJobsOf turns (line + 1 + length q.commands) ps qs js
AreJobsOf turns line _ _ _ = ⊥

-- the stamp of what was posted
abbrev pub stamp_of : {T : Type 0} → Option (Posted T) → ℕ
stamp_of (Some p) = p.stamp
stamp_of None = 0

-- what was posted, and what its poster had seen
abbrev pub entry_of : {Q : Type 0} {G : Ghosts Q} → Option (Posted (PinnedNoteOf Q G)) → Option (ℕ × History)
entry_of (Some p) = Some (p.word, seen_by_pinned p.told.pinned)
entry_of None = None

module _ {Q : Type 0} {G : Ghosts Q} where
  -- the board that is noted
  abbrev pub board_noted : List (List ℕ × ℕ) → List (Option (Sighting (PinnedNoteOf Q G))) → List ℕ
      → Option (ℕ × History)
  board_noted numbers notes n = entry_of (posted_noted numbers notes n)

  -- the rank of a name is the stamp that is noted
  abbrev pub rank_noted : List (List ℕ × ℕ) → List (Option (Sighting (PinnedNoteOf Q G))) → List ℕ → ℕ
  rank_noted numbers notes n = stamp_of (posted_noted numbers notes n)

  -- the thread was not refused memory
  abbrev pub IsDone : ThreadRun Q G → Type 0
  IsDone r = r.answer ≡ Ok tt

  -- none of the threads was refused memory, these are their passes, and this is what they print
  abbrev pub AreTold : List ThreadPart → List (ThreadRun Q G) → List Pass → List ℕ → Type 0
  AreTold [] rs [] text = text ≡ []
  AreTold (q ∷ qs) (r ∷ rs) (p ∷ ps) text = IsDone r × (r.pass ≡ p) × (rest : List ℕ)
      × (text ≡ heading q.name ++ r.text.items ++ rest) × AreTold qs rs ps rest
  AreTold _ _ _ text = ⊥

  -- the same, and what each thread's notes tell is what one board has, in which only these names stand
  pub record AreToldAlike (numbers : List (List ℕ × ℕ)) (qs : List ThreadPart) (rs : List (ThreadRun Q G))
      (ps : List Pass) (text : List ℕ) : Type 0 where
    pub board : List ℕ → Option (ℕ × History)
    pub rank : List ℕ → ℕ
    pub told : AreTold qs rs ps text
    pub noted : AllByRecursion (IsToldBy board rank) rs
    pub named : (n : List ℕ) (x : ℕ × History) → board n ≡ Some x → IsSome (cell_number numbers n)

  -- the threads of the parts did their jobs, with notes of this board, and this is what is told of them
  pub record HaveTold (board : Posts (PinnedNoteOf Q G)) (js : List Job) (qs : List ThreadPart) (ps : List Pass)
      (text : List ℕ) : Type 0 where
    pub runs : List (ThreadRun Q G)
    pub ran : HaveRun (layout_of board) js runs
    pub alike : AreToldAlike board.numbers.entries qs runs ps text
