-- WHAT A RUN of several threads tells of its text. That of a lone thread tells it, too.
use Rattle.std.proofs.Common.{◌≡◌, ◌++◌, ℕ, true, List, length, Option}
use Rattle.jr_word.specs.Config.{in_limits}
use Rattle.jr_model.specs.State.{summary}
use Rattle.jr_model.specs.History.{History, IsLegal, state}
use Rattle.jr_syntax.specs.declared.script.Script.{Script}
use Rattle.jr_scripts.specs.PostedNames.{IsOfPosts, commands_of}
use Rattle.jr_scripts.specs.Text.{ending, text_of_parts}
use Rattle.jr_scripts.specs.AllRuns.{ArePartsOf, IsRunOfAll}

-- one legal history explains each thread's part of the text
pub record IsRunOfParts (turns last : ℕ) (s : Script) (text : List ℕ) : Type 0 where
  pub whole : History
  pub legal : IsLegal s.config last whole
  pub lines : List (List ℕ)
  pub board : List ℕ → Option (ℕ × History)
  pub rank : List ℕ → ℕ
  pub posted : IsOfPosts (commands_of s.threads) board
  pub one_each : length s.threads ≡ s.config.threads
  pub limits : in_limits s.config ≡ true
  pub parts : ArePartsOf board rank turns last s.config whole 0 2 s.threads lines
  pub text_is : text ≡ text_of_parts s.threads lines ++ ending (summary s.config last (state whole))

pub parts_of_all : (turns last : ℕ) (s : Script) (text : List ℕ) → IsRunOfAll turns last s text
    → IsRunOfParts turns last s text
parts_of_all turns last s text run = record {
  whole = run.whole;
  legal = run.legal;
  lines = run.lines;
  board = run.board;
  rank = run.rank;
  posted = run.posted;
  one_each = run.right.one_each;
  limits = run.right.limits;
  parts = run.parts;
  text_is = run.text_is;
}
