-- What is written of a script is what it means.
use Rattle.std.proofs.Common.{◌≡◌, ◌≢◌, ◌≤◌, ◌+◌, ℕ, suc, not, List, [], ◌∷◌, length, nat_le, true, Option, Some, codes}
use Rattle.std.proofs.Common.{refl, sym, ap, ◌∙◌, subst, arith}
use Rattle.std.specs.List.{flat_map}
use Rattle.std.proofs.lemmas.List.{append-nil, length-append, length-map}
use Rattle.std.proofs.lemmas.List.Filters.{length-filter_both}
use Rattle.std.proofs.lemmas.Bool.Decides.{nat_tests}
use Rattle.clap.specs.Words.{Text}
use Rattle.jr_word.specs.declared.config.Config.{Config}
use Rattle.jr_syntax.specs.declared.thread.ThreadPart.{ThreadPart}
use Rattle.jr_syntax.specs.declared.script.Script.{Script}
use Rattle.jr_syntax.specs.Script.{IsScript, part_lines, script_lines, text_of}
use Rattle.jr_syntax.specs.Faults.{first_fault}
use Rattle.jr_syntax.proofs.Texts.{no_fault, one_script}
use Rattle.jr_scripts.specs.AllRuns.{RunsAll}
use Rattle.jr_world.specs.World.{how_many}
use Rattle.jr_scripts.specs.Commands.{gives_up}
use Rattle.jr_scripts.specs.PostedNames.{commands_of}
use Rattle.jr_scripts.specs.Together.{MeansTogether}
use Rattle.jrefs.specs.declared.request.Request.{Request}
use Rattle.jrefs.specs.declared.request.Request.TheVariants.{Run}
use Rattle.jrefs.specs.declared.trouble.Trouble.{Trouble}
use Rattle.jrefs.specs.declared.trouble.Trouble.TheVariants as troubles
use Rattle.jrefs.specs.Act.{AnswersWords, IsOutput, IsOutputFor, LeavesWritten}
use Rattle.jrefs.specs.Meant.{IsTextOf, WritesText, WritesWhatIsMeant, single, stopped_before, stopped_within}
use Rattle.jrefs.specs.Meant.{wrote_all, wrote_nothing}
use Rattle.jrefs.specs.Trouble.{status_of}
use Rattle.jrefs.proofs.CommandLine.{asks_found}

-- ---- how many commands a script has

few : (all gone kept lines : ℕ) → gone + kept ≡ all → 1 + all ≤ lines → nat_le lines 4096 ≡ true → gone ≤ 4294967295
few all gone kept lines both long is = grind (arith, nat_tests)

-- a part's lines are its own and its commands'
part_long : (p : ThreadPart) → length (part_lines p) ≡ 1 + length p.commands
part_long p = let one : suc (length p.commands) ≡ 1 + length p.commands = omega arith in
    ap suc (length-map p.commands _) ∙ one

parts_long : (ps : List ThreadPart) → length (commands_of ps) ≤ length (flat_map part_lines ps)
parts_long [] = omega arith
parts_long (p ∷ ps) =
    let rest = parts_long ps in
    let here = part_long p in
    let commands = length-append p.commands (commands_of ps) in
    let lines = length-append (part_lines p) (flat_map part_lines ps) in
    omega (arith, rest, here, commands, lines)

-- fewer commands give up references than there are serials
few_given_up : (s : Script) → IsScript s → how_many gives_up (commands_of s.threads) ≤ 4294967295
few_given_up s is = few (length (commands_of s.threads)) (how_many gives_up (commands_of s.threads))
    (how_many (λ x. not (gives_up x)) (commands_of s.threads)) (length (script_lines s.config s.threads))
    (length-filter_both gives_up (λ x. not (gives_up x)) (λ x. refl) (commands_of s.threads))
    (let long = parts_long s.threads in omega arith) is.lines

-- ---- what a run prints

single_means : (c : Config) (part : ThreadPart) → IsScript (single c part) → (output : List ℕ)
    → RunsAll 10000000 4294967295 (single c part) [] output → IsTextOf c part output
single_means c part is output runs =
    let run = runs.alone (sym is.threads) in
    let same : run.part ≡ part = cc in
    let given_up = ap (how_many gives_up) (append-nil part.commands) in
    let means = run.means (omega arith)
    (subst (λ (p : ThreadPart). how_many gives_up p.commands ≤ 4294967295) (sym same)
    (subst (λ (n : ℕ). n ≤ 4294967295) given_up (few_given_up (single c part) is))) in
    subst (IsTextOf c part) (sym run.grew) (subst (λ (p : ThreadPart). IsTextOf c p run.text) same means)

all_mean : (s : Script) → IsScript s → (output : List ℕ) → RunsAll 10000000 4294967295 s [] output
    → MeansTogether 10000000 s output
all_mean s is output runs =
    subst (MeansTogether 10000000 s) (sym runs.grew) (runs.means (omega arith) (few_given_up s is))

-- ---- what is written

-- of a text of which what a run prints is one
module _ (s : Script) (IsText : List ℕ → Type 0)
    (meant : IsScript s → (output : List ℕ) → RunsAll 10000000 4294967295 s [] output → IsText output) where
  reply_is : (output : List ℕ) → IsScript s → IsOutput Run (Some (text_of s)) output → IsText output
  reply_is output is reply =
      let same : reply.reply.0 ≡ s =
      sym (one_script s reply.reply.0 is reply.reply.1 (reply.read ∙ reply.reply.2)) in
      meant is output (subst (λ (s : Script). RunsAll 10000000 4294967295 s [] output) same reply.reply.3)

  output_is : (words : List Text) (output : List ℕ) → words ≡ codes "run" ∷ [] → IsScript s
      → IsOutputFor words (Some (text_of s)) output → IsText output
  output_is words output run is reply =
      let found : Some reply.0 ≡ Some Run = sym reply.1 ∙ asks_found Run words run in
      let same : reply.0 ≡ Run = cc in
      reply_is output is (subst (λ (r : Request). IsOutput r (Some (text_of s)) output) same reply.2)

  by_answer : (words : List Text) (known old new : Option (List ℕ)) → AnswersWords words known old new
      → words ≡ codes "run" ∷ [] → IsScript s → known ≡ Some (text_of s) → WritesText IsText old new 0
  by_answer words known old new done run is there =
      let reply = subst (λ (o : Option (List ℕ)). IsOutput done.0 o done.2.output) there done.2.is_output in
      wrote_all done.2.output (output_is words done.2.output run is (done.0, done.1, reply)) done.2.written

  by_trouble : (t : Trouble) (words : List Text) (left old new : Option (List ℕ)) → status_of t ≢ 2
      → words ≡ codes "run" ∷ [] → IsScript s → LeavesWritten t words (Some (text_of s)) left old new
      → WritesText IsText old new (status_of t)
  by_trouble (troubles.Script line reason) words left old new apart run is leaves =
      let fault : first_fault (text_of s) ≡ Some (line, reason) = leaves.0.2.1 in
      let none = no_fault s is in
      cc
  by_trouble troubles.Usage words left old new apart run is leaves = absurd (apart refl)
  by_trouble troubles.Memory words left old new apart run is leaves = wrote_nothing leaves.1
  by_trouble troubles.Input words left old new apart run is leaves = stopped_before leaves.1
  by_trouble troubles.Output words left old new apart run is leaves =
      stopped_within leaves.0 (output_is words leaves.0 run is leaves.1) leaves.2

  by_failure : (t : Trouble) (words : List Text) (known left old new : Option (List ℕ))
      → (words ≡ codes "run" ∷ [] → status_of t ≢ 2) → LeavesWritten t words known left old new
      → words ≡ codes "run" ∷ [] → IsScript s → known ≡ Some (text_of s) → WritesText IsText old new (status_of t)
  by_failure t words known left old new apart leaves run is there =
      by_trouble t words left old new (apart run) run is
      (subst (λ (o : Option (List ℕ)). LeavesWritten t words o left old new) there leaves)

pub answer_writes : (words : List Text) (known old new : Option (List ℕ)) → AnswersWords words known old new
    → WritesWhatIsMeant words known old new 0
answer_writes words known old new done = (
  λ c part. by_answer (single c part) (IsTextOf c part) (single_means c part) words known old new done,
  λ s. by_answer s (MeansTogether 10000000 s) (all_mean s) words known old new done,
)

pub failure_writes : (t : Trouble) (words : List Text) (known left old new : Option (List ℕ))
    → (words ≡ codes "run" ∷ [] → status_of t ≢ 2) → LeavesWritten t words known left old new
    → WritesWhatIsMeant words known old new (status_of t)
failure_writes t words known left old new apart leaves = (
  λ c part. by_failure (single c part) (IsTextOf c part) (single_means c part) t words known left old new apart leaves,
  λ s. by_failure s (MeansTogether 10000000 s) (all_mean s) t words known left old new apart leaves,
)
