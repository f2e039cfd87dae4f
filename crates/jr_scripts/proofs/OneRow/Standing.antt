-- WHERE A MACHINE STANDS beside its row, between any two steps.
use Rattle.std.proofs.Common.{◌≡◌, ◌<◌, ℕ, Bool, true, false, Result, Option, Some, None, List, [], ◌∷◌}
use Rattle.std.specs.List.{AllByRecursion}
use Rattle.one_order.specs.Orders.{done_by}
use Rattle.jr_word.specs.declared.config.Config.{Config}
use Rattle.jr_word.specs.declared.fault.Fault.{Fault}
use Rattle.jr_world.specs.Board.{word_under}
use Rattle.jr_world.specs.Doing.{Doing, Shared, run_alone, whatever}
use Rattle.jr_world.specs.Schedules.{Machine}
use Rattle.jr_syntax.specs.declared.command.Command.{Command}
use Rattle.jr_scripts.specs.declared.reply.Reply.{Reply}
use Rattle.jr_scripts.specs.Together.{doing_at, lines_from}
use Rattle.jr_scripts.specs.OneRow.{Course, Manner, News, CommandRow, ThreadStand, course_of, is_ordered, manner_of}
use Rattle.jr_scripts.specs.OneRow.{stand_after}
use Rattle.jr_scripts.specs.OneRow.Manner.{collects}
use Rattle.jr_scripts.proofs.OneRow.Alike.{Alike, role_of}
use Rattle.jr_scripts.proofs.OneRow.Ends.{IsEnding}
use Rattle.jr_scripts.proofs.OneRow.Follows.{Gone, LeadsTo, Outcome, but, nobody}
use Rattle.jr_scripts.proofs.OneRow.Rows.{is_acting}
use Rattle.jr_scripts.proofs.OneRow.Swaps.{Good, SameCourse}

-- who may be at its end while this is done
abbrev pub beside : Manner → ℕ → Gone
beside collects u = nobody
beside _ u = but u

module _ (c : Config) (turns : ℕ) where
  -- what a thread does from where it stands
  abbrev pub goes_from : ThreadStand → List Command → Doing (List ℕ)
  goes_from p xs = lines_from c turns p.place p.words p.line p.text xs

  -- what a thread does first
  abbrev pub does_first : ThreadStand → Command → Doing Reply
  does_first p x = doing_at c turns p.place p.words p.place.objects x

  -- IN THE MIDDLE OF A COMMAND of thread u, which is the first in the row that takes steps
  pub record Midst (gone : ℕ → Bool) (todo : CommandRow) (w : Course) (m : Machine (List ℕ)) (u : ℕ) : Type 0 where
    pub command : Command
    pub rest : List Command
    pub is_first : done_by todo u ≡ command ∷ rest
    pub is_acting : is_acting (manner_of command) ≡ true
    pub may : beside (manner_of command) u gone
    pub work : Doing Reply
    pub stands : Shared
    pub reply : Result Reply Fault
    pub leaves : Shared
    pub does : m.programs u ≡ whatever work (λ answer. goes_from (stand_after command answer (w.threads u)) rest)
    pub alike : Alike gone m.shared stands
    pub others : (v : ℕ) → gone v ≡ false → (v ≡ u → ⊥) → role_of m.shared v ≡ role_of w.shared v
    pub leads : LeadsTo (beside (manner_of command) u) u (Outcome (beside (manner_of command) u) u reply leaves)
        work stands
    pub replies : reply ≡ (run_alone u true (does_first (w.threads u) command) w.shared).0
    pub left : Alike (λ t. false) leaves (run_alone u true (does_first (w.threads u) command) w.shared).1

  -- which thread is in the middle of a command, if any
  pub data Now (gone : ℕ → Bool) (todo : CommandRow) (w : Course) (m : Machine (List ℕ)) : Option ℕ → Type 0 where
    between : Alike gone m.shared w.shared → Now gone todo w m None
    within : (u : ℕ) → u < c.threads → gone u ≡ false → Midst gone todo w m u → Now gone todo w m (Some u)

  -- THE MACHINE STANDS SO: of the row this is to do, and from where it is done the course leads to the row's end
  pub record IsStanding (end : Course) (m : Machine (List ℕ)) : Type 0 where
    pub gone : ℕ → Bool
    pub todo : CommandRow
    pub news : News
    pub course : Course
    pub busy : Option ℕ
    pub of_threads : AllByRecursion (λ x. x.0 < c.threads) todo
    pub ordered : is_ordered c.threads news todo ≡ true
    pub good : Good course
    pub leads : SameCourse (course_of c turns todo course) end
    pub board : m.shared.board ≡ course.shared.board
    pub posted : (n : List ℕ) (w : ℕ) → word_under course.shared.board n ≡ Some w → news.is_spoken n ≡ true
    pub heard : (t : ℕ) (n : List ℕ) (w : ℕ) → word_under (course.threads t).words n ≡ Some w
        → news.is_spoken n ≡ true
    -- each thread is before its first command in it, or in the middle, or at its end
    pub now : Now gone todo course m busy
    pub goes : (t : ℕ) → t < c.threads → gone t ≡ false → (busy ≡ Some t → ⊥)
        → m.programs t ≡ goes_from (course.threads t) (done_by todo t)
    pub gone_by : (t : ℕ) → gone t ≡ true → t < c.threads
    pub ends : (t : ℕ) → gone t ≡ true → (done_by todo t ≡ [])
        × IsEnding t (course.threads t).text m.shared.owners (m.programs t)
