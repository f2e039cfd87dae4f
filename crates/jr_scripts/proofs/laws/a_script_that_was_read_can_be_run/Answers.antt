use Rattle.std.proofs.Common.{◌≡◌, ◌+◌, ◌<◌, ◌^◌, ℕ, suc, List, [], ◌∷◌, flat_map}
use Rattle.std.proofs.Common.{length, nat_le, true, refl, ap, ◌∙◌, arith}
use Rattle.std.proofs.lemmas.List.{length-map, length-append}
use Rattle.std.proofs.lemmas.Bool.Decides.{nat_tests}
use Rattle.jr_syntax.specs.declared.thread.ThreadPart.{ThreadPart}
use Rattle.jr_syntax.specs.declared.script.Script.{Script}
use Rattle.jr_syntax.specs.Script.{IsScript, part_lines, script_lines}
use Rattle.jr_scripts.specs.AllRuns.{CanBeRun, lines_of_parts}
use Rattle.jr_scripts.proofs.laws.a_script_that_was_read_can_be_run.Goals as goal

-- a part's lines are its own and its commands'
part_long : (p : ThreadPart) → length (part_lines p) ≡ 1 + length p.commands
part_long p = let one : suc (length p.commands) ≡ 1 + length p.commands = omega arith in
    ap suc (length-map p.commands _) ∙ one

parts_long : (ps : List ThreadPart) → length (flat_map part_lines ps) ≡ lines_of_parts ps
parts_long [] = refl
parts_long (p ∷ ps) =
    let both = length-append (part_lines p) (flat_map part_lines ps) in
    let one = part_long p in
    let rest = parts_long ps in
    omega arith

few : (n m : ℕ) → n ≡ 1 + m → nat_le n 4096 ≡ true → 2 + m < 2 ^ 64
few n m long is = grind (arith, nat_tests)

can_be_run : (s : Script) → IsScript s → CanBeRun s
can_be_run s is =
    let one : suc (lines_of_parts s.threads) ≡ 1 + lines_of_parts s.threads = omega arith in
    record {
      one_each = is.threads;
      limits = is.config;
      once = is.posts;
      numbered = few (length (script_lines s.config s.threads)) (lines_of_parts s.threads)
          (ap suc (parts_long s.threads) ∙ one) is.lines;
    }

pub returns : goal.returns
returns c = can_be_run
