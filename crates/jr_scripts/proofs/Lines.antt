-- How many lines the parts of a script are, and how many passes and runs it has.
use Rattle.std.proofs.Common.{◌≡◌, ◌+◌, ◌<◌, ◌≤◌, ℕ, zero, suc, true, List, []}
use Rattle.std.proofs.Common.{◌∷◌, length, drop, refl, sym, ap, ◌∙◌, arith}
use Rattle.std.proofs.lemmas.List.{length-map, length-append}
use Rattle.jr_word.specs.declared.config.Config.{Config}
use Rattle.jr_word.specs.Config.{in_limits}
use Rattle.jr_word.proofs.Limits.{limited}
use Rattle.jr_syntax.specs.declared.thread.ThreadPart.{ThreadPart}
use Rattle.jr_rule.specs.declared.pass.Pass.{Pass}
use Rattle.jr_rule.specs.declared.row.Row.{Row}
use Rattle.jr_rule.specs.Passes.{AreOpened, numbers_below}
use Rattle.jr_scripts.specs.declared.part.Job.{Job}
use Rattle.jr_rule.specs.declared.site.Site.{Ghosts}
use Rattle.jr_scripts.specs.declared.part.ThreadRun.{ThreadRun}
use Rattle.jr_scripts.specs.AllRuns.{lines_of_parts}
use Rattle.jr_scripts.specs.Jobs.{AreJobsOf, AreTold}
use Rattle.jr_scripts.proofs.JobLists.{nothing_left}

pub lines_end : (i : ℕ) (parts : List ThreadPart) → length parts ≤ i → lines_of_parts (drop i parts) ≡ 0
lines_end i parts all = ap lines_of_parts (nothing_left i parts all)

numbers_long : (n : ℕ) → length (numbers_below n) ≡ n
numbers_long zero = refl
numbers_long (suc n) = let e = length-append (numbers_below n) (n ∷ []) in let f = numbers_long n in omega arith

-- one pass a thread
pub passes_long : (c : Config) (last : ℕ) (r : Row) (ps : List Pass) → AreOpened c last r ps → length ps ≡ c.threads
passes_long c last r ps o =
    sym (length-map ps (λ (p : Pass). p.thread)) ∙ (ap (λ (ns : List ℕ). length ns) o.threads ∙ numbers_long c.threads)

pub jobs_long : (turns line : ℕ) (ps : List Pass) (qs : List ThreadPart) (js : List Job) → AreJobsOf turns line ps qs js
    → length js ≡ length qs
jobs_long turns line [] [] [] jobs = refl
jobs_long turns line (p ∷ ps) (q ∷ qs) (j ∷ js) jobs =
    ap suc (jobs_long turns (line + 1 + length q.commands) ps qs js jobs.1)
jobs_long turns line _ _ _ jobs = absurd jobs

ends_long : {Q : Type 0} {G : Ghosts Q} (qs : List ThreadPart) (xs : List (ThreadRun Q G)) (ends : List Pass)
    (text : List ℕ) → AreTold qs xs ends text → length ends ≡ length qs
ends_long [] xs [] text told = refl
ends_long (q ∷ qs) (x ∷ xs) (e ∷ ends) text told = ap suc (ends_long qs xs ends told.2 told.4)
ends_long _ _ _ text told = absurd told

-- there is a first pass
pub some_ends : {Q : Type 0} {G : Ghosts Q} (c : Config) (qs : List ThreadPart) (xs : List (ThreadRun Q G))
    (ends : List Pass) (text : List ℕ) → in_limits c ≡ true → length qs ≡ c.threads → AreTold qs xs ends text
    → 0 < length ends
some_ends c qs xs ends text limits long told =
    let least = (limited c limits).threads.0 in
    let same = ends_long qs xs ends text told in
    omega arith
