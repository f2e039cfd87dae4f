-- A RUN OF A LONE THREAD is a run of all threads of its script, of which there is one: so its text is what they mean
-- together.
use Rattle.std.proofs.Common.{◌≡◌, ◌<◌, ◌≤◌, ◌^◌, ◌++◌, ◌∙◌, ℕ, true, List, [], ◌∷◌, Option}
use Rattle.std.proofs.Common.{refl, sym, ap, subst, append-nil, arith}
use Rattle.std.specs.List.{flat_map}
use Rattle.jr_word.specs.declared.config.Config.{Config}
use Rattle.jr_word.specs.Config.{in_limits}
use Rattle.jr_model.specs.declared.event.Act.TheVariants.{Meet}
use Rattle.jr_model.specs.State.{summary}
use Rattle.jr_model.specs.History.{History, by, state}
use Rattle.jr_model.proofs.Histories.{legal_push, mine_push, state_push}
use Rattle.jr_world.specs.World.{how_many}
use Rattle.jr_syntax.specs.declared.script.Script.{Script}
use Rattle.jr_syntax.specs.declared.thread.ThreadPart.{ThreadPart}
use Rattle.jr_syntax.specs.Script.{all_apart, posted, posts_of}
use Rattle.jr_scripts.specs.Commands.{gives_up}
use Rattle.jr_scripts.specs.PostedNames.{IsOfPosts}
use Rattle.jr_scripts.specs.Runs.{IsRun}
use Rattle.jr_scripts.specs.Text.{ending, heading}
use Rattle.jr_scripts.specs.Together.{MeansTogether}
use Rattle.jr_scripts.proofs.AloneCase.HeardByAll.{board_of, lines_before, of_posts, said_of_all}
use Rattle.jr_scripts.proofs.TogetherRun.AllMean.{parts_mean}
use Rattle.jr_scripts.proofs.TogetherRun.PartsRun.{IsRunOfParts}

-- the script of one thread with this part
abbrev script_of : Config → ThreadPart → Script
script_of c part = record { config = c; threads = part ∷ [] }

module _ (turns last : ℕ) (c : Config) (part : ThreadPart) (text : List ℕ) (one : c.threads ≡ 1)
    (limits : in_limits c ≡ true) (once : all_apart (posts_of (part ∷ [])) ≡ true)
    (run : IsRun turns last c part text) where
  all_of_part : part.commands ≡ part.commands ++ []
  all_of_part = sym (append-nil part.commands)

  apart : all_apart (flat_map posted part.commands) ≡ true
  apart = ap all_apart (sym (append-nil (flat_map posted part.commands))) ∙ once

  abbrev board : List ℕ → Option (ℕ × History)
  board = board_of run.explained.explains

  -- the thread's look as the room closes
  abbrev whole : History
  whole = run.seen ++ by 0 Meet ∷ []

  -- changes nothing
  same_text : text ≡ heading part.name ++ run.lines ++ [] ++ ending (summary c last (state whole))
  same_text = run.text_is
      ∙ (ap (λ s. heading part.name ++ run.lines ++ ending (summary c last s)) (sym (state_push run.seen (by 0 Meet)))
      ∙ ap (λ t. t ++ ending (summary c last (state whole))) (sym (append-nil (heading part.name ++ run.lines))))

  as_one_of_all : IsRunOfParts turns last (script_of c part) text
  as_one_of_all = record {
    whole = whole;
    legal = (legal_push c last run.seen (by 0 Meet)).1 (run.legal, ((omega (arith, one)), tt));
    lines = run.lines ∷ [];
    board = board;
    rank = lines_before part.commands;
    posted = subst (λ cs. IsOfPosts cs board) all_of_part (of_posts run.explained.explains);
    one_each = sym one;
    limits = limits;
    parts = (
      record {
        told = run.told;
        explained = record {
          place = run.explained.place;
          words = run.explained.words;
          done = run.explained.done;
          explains = said_of_all part.commands apart board [] all_of_part run.explained.explains (λ n x is. is);
          ended = run.explained.ended;
        };
        left = run.left;
        freed = run.freed;
        seen = run.seen;
        saw = run.saw;
        begins = (by 0 Meet ∷ [], refl);
        own = mine_push run.seen 0 Meet;
      },
      tt,
    );
    text_is = same_text;
  }

pub run_means : (turns last : ℕ) (c : Config) (part : ThreadPart) (text : List ℕ) → c.threads ≡ 1
    → in_limits c ≡ true → all_apart (posts_of (part ∷ [])) ≡ true → IsRun turns last c part text
    → last < 2 ^ 32 → how_many gives_up part.commands ≤ last
    → MeansTogether turns (record { config = c; threads = part ∷ [] }) text
run_means turns last c part text one limits once run few serials =
    let all = sym (append-nil part.commands) in
    parts_mean turns last (script_of c part) text (as_one_of_all turns last c part text one limits once run) few
    (subst (λ cs. how_many gives_up cs ≤ last) all serials)
