-- What is enough to show of a text, so that it is what its script means: one history, in which each thread's program is
-- played. The stories run together, by a schedule.
use Rattle.std.proofs.Common.{◌≡◌, ◌<◌, ◌++◌, ℕ, Result, Ok, List, [], map, length, slice_index_or, refl, sym, ap}
use Rattle.std.proofs.Common.{◌∙◌}
use Rattle.jr_word.specs.declared.fault.Fault.{Fault}
use Rattle.jr_model.specs.declared.event.Act.{Act}
use Rattle.jr_model.specs.Frames.{Frames, fresh_frames}
use Rattle.jr_model.specs.History.{History}
use Rattle.jr_world.specs.World.{World}
use Rattle.jr_world.specs.Births.{Births, births}
use Rattle.jr_world.specs.Doing.{as_seen}
use Rattle.jr_world.specs.Plays.{Plays, open_part}
use Rattle.jr_world.specs.Schedules.{Machine, pairs}
use Rattle.jr_world.proofs.Schedules.{first_stands, runs_by_a_schedule}
use Rattle.jr_world.proofs.Stories.{stories_run}
use Rattle.one_order.specs.Orders.{AreStories, BoardOf, Item}
use Rattle.jr_syntax.specs.declared.script.Script.{Script}
use Rattle.jr_scripts.specs.Together.{summary_of}
use Rattle.jr_scripts.specs.Text.{ending, text_of_parts}
use Rattle.jr_scripts.specs.Together.{MeansTogether, first_machine, thread_of}

-- what was born as a world, in which no thread has frames
abbrev pub world_born : Births → World
world_born b =
    record { objects = map (λ e. e.1) b.objects; refs = map (λ e. e.1) b.refs; frames = []; used = b.used }

-- A TEXT IS PLAYED: there are one history, one board, and a story for each thread. By it the thread's program is
-- played, and answers its lines. The last lines tell of what was born
pub record IsPlayed (turns : ℕ) (s : Script) (text : List ℕ) : Type 0 where
  pub whole : History
  pub board : BoardOf Act
  pub rank : List ℕ → ℕ
  pub stories : List (List (Item Act))
  pub right : AreStories board rank (pairs whole) stories
  pub many : length stories ≡ s.config.threads
  pub some_thread : 0 < s.config.threads
  pub lines : List (List ℕ)
  pub lines_each : length lines ≡ length s.threads
  pub left : ℕ → Frames
  pub plays : (t : ℕ) → t < s.config.threads
      → Plays s.config whole t (λ later answer. answer ≡ Ok (slice_index_or lines t [])) (left t) []
      (thread_of s.config turns 2 s.threads t) [] (fresh_frames s.config.locals) (slice_index_or stories t [])
  pub settled : open_part whole ≡ whole
  pub text_is : text ≡ text_of_parts s.threads lines ++ ending (summary_of (world_born (births whole)))

same_summary : (w v : World) → w.objects ≡ v.objects → w.refs ≡ v.refs → w.used ≡ v.used → summary_of w ≡ summary_of v
same_summary w v objects refs used =
    ap (λ x. summary_of (record w { objects = x })) objects
    ∙ ap (λ x. summary_of (record w { objects = v.objects; refs = x })) refs
    ∙ ap (λ x. summary_of (record w { objects = v.objects; refs = v.refs; used = x })) used

-- A TEXT THAT IS PLAYED is what its script means
pub played_means : (turns : ℕ) (s : Script) (text : List ℕ) → IsPlayed turns s text → MeansTogether turns s text
played_means turns s text p =
    let c = s.config in
    let answers : ℕ → Result (List ℕ) Fault = λ t. Ok (slice_index_or p.lines t []) in
    let start = first_machine turns s in
    let together = stories_run c answers (λ t. fresh_frames c.locals) p.left p.whole p.board p.rank p.stories start
    p.right p.many refl p.plays (λ t small. first_stands c t small) in
    let found = runs_by_a_schedule together.end start together.runs in
    let stands = together.stands 0 p.some_thread in
    record {
      schedule = found.0;
      lines = p.lines;
      one_each = p.lines_each;
      ended_all = λ t small. ap (λ (m : Machine (List ℕ)). m.programs t) found.1 ∙ together.have_ended t small;
      text_is = p.text_is ∙ ap (λ z. text_of_parts s.threads p.lines ++ ending z) (sym (
          ap (λ (m : Machine (List ℕ)). summary_of (as_seen 0 m.shared)) found.1
          ∙ same_summary (as_seen 0 together.end.shared) (world_born (births p.whole))
          (stands.objects ∙ ap (λ h. map (λ e. e.1) (Births.objects (births h))) p.settled)
          (stands.refs ∙ ap (λ h. map (λ e. e.1) (Births.refs (births h))) p.settled)
          (stands.used ∙ ap (λ h. Births.used (births h)) p.settled)));
    }
