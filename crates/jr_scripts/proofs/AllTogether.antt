-- What all threads of a script did, in one history.
use Rattle.std.proofs.Common.{◌≡◌, inl, inr, Option, ◌+◌, ◌<◌, ◌≤◌, ◌++◌, ℕ, zero, suc, false}
use Rattle.std.proofs.Common.{List, [], ◌∷◌, map, length, Result, Ok, refl, sym, ap, subst, ◌∙◌, arith}
use Rattle.std.proofs.lemmas.List.{append-nil}
use Rattle.std.specs.List.{All, AllZip, AllByRecursion}
use Rattle.std.proofs.lemmas.List.Elements.{recursion_from_All, All-from_recursion, All-head, All-tail}
use Rattle.jr_word.specs.declared.config.Config.{Config}
use Rattle.jr_word.specs.declared.fault.Fault.{Fault}
use Rattle.jr_model.specs.declared.event.Act.TheVariants.{Meet}
use Rattle.jr_model.specs.declared.event.Role.TheVariants.{Outside}
use Rattle.jr_model.specs.Laws.{KeepsTheLaws}
use mathlib.Core.Logic.{dite}
use native.Mathlib.Decide.{ℕ_discrete}
use Rattle.jr_model.specs.declared.summary.Summary.{Summary}
use Rattle.jr_model.specs.State.{summary}
use Rattle.jr_model.specs.History.{History, state, mine, IsLegal, Did}
use Rattle.jr_model.specs.Frames.{fresh_frames}
use Rattle.jr_model.proofs.Agreement.{fresh_agree}
use Rattle.jr_model.proofs.Moments.{prefix_trans}
use Rattle.jr_syntax.specs.declared.command.Command.{Command}
use Rattle.jr_syntax.specs.declared.thread.ThreadPart.{ThreadPart}
use Rattle.jr_syntax.specs.declared.script.Script.{Script}
use Rattle.jr_steps.specs.declared.known.Known.{Known}
use Rattle.jr_rule.specs.declared.pass.Pass.{Pass}
use Rattle.jr_rule.specs.declared.row.Row.{Row}
use Rattle.jr_rule.proofs.PassOver.{opened_knows, still_of}
use Rattle.jr_steps.specs.Holdings.{empty}
use Rattle.jr_steps.specs.Knowing.{Standing, view, Holds}
use Rattle.jr_rule.specs.Rule.{known}
use Rattle.jr_rule.specs.Passes.{facts_of, holder_of, known_of, standing_of, IsAt, IsOpened}
use Rattle.jr_rule.specs.Passes.{AreOpened, numbers_below, HasEachPass, HasPass, IsSeenIn, ClosesAll}
use Rattle.jr_steps.proofs.StepFacts.{goes_did}
use Rattle.jr_scripts.specs.declared.part.Job.{Job}
use Rattle.jr_rule.specs.declared.site.Site.{Ghosts}
use Rattle.jr_scripts.specs.declared.part.ThreadRun.{ThreadRun}
use Rattle.jr_gate.specs.Performing.{ThreadState, thread_state, thread_state_with}
use Rattle.jr_env.specs.Deeds.{DoesDeed}
use Rattle.jr_scripts.specs.PostedNames.{IsOfPosts, commands_of}
use Rattle.jr_scripts.specs.Posting.{said}
use Rattle.jr_scripts.specs.Explains.{Explained}
use Rattle.jr_scripts.specs.Text.{heading, ending, text_of_parts}
use Rattle.jr_scripts.specs.Runs.{IsFreed, running_to_end}
use Rattle.jr_scripts.specs.AllRuns.{RanPass, seeing_as, opening_of, CanBeRun}
use Rattle.jr_scripts.specs.AllRuns.{IsPartOf, ArePartsOf, IsRunOfAll}
use Rattle.jr_scripts.proofs.OneOfAll.{pass_still}
use Rattle.jr_scripts.proofs.Speaking.{carried}
use Rattle.jr_scripts.specs.Jobs.{HasRun, HasSaid, IsToldBy, account_in, IsFor, IsJobOf, AreJobsOf, IsDone, AreTold}

-- what a thread did since its pass was opened
record Played (board : List ℕ → Option (ℕ × History)) (rank : List ℕ → ℕ) (turns last : ℕ) (c : Config) (t first : ℕ)
    (commands : List Command) (lines : List ℕ) (k : Known) : Type 0 where
  pub same_config : k.config ≡ c
  pub same_last : k.last ≡ last
  pub is_of : k.thread ≡ t
  pub told : ThreadState
  pub explained : Explained (said board rank) turns first (opening_of c last t) commands lines told
  pub left : ThreadState
  pub freed : IsFreed turns told left
  pub saw : left.pass ≡ seeing_as c last t k.seen

view_is : (c : Config) (last t : ℕ) (k : Known) → k.config ≡ c → k.last ≡ last → k.thread ≡ t
    → view k ≡ seeing_as c last t k.seen
view_is c last t k a b d = λ i. record { config = a i; last = b i; thread = d i; seen = k.seen }

played : (board : List ℕ → Option (ℕ × History)) (rank : List ℕ → ℕ) (turns last : ℕ) (c : Config) (r : Row)
    (p q : Pass) (first : ℕ) (commands : List Command) (answer : Result (Unit {0}) Fault) (lines : List ℕ)
    → r.config ≡ c → r.last ≡ last → IsOpened r p → RanPass (said board rank) turns first commands p q answer lines
    → answer ≡ Ok tt
    → Played board rank turns last c p.thread first commands lines (known_of q)
played board rank turns last c r p q first commands answer lines config_is last_is o x done =
    let t = p.thread in
    let k0 : Known = known c last t [] empty 0 in
    let knows0 : known_of p ≡ k0 = o.knows ∙ (λ i. known (config_is i) (last_is i) t [] empty 0) in
    let fresh : fresh_frames (standing_of p).config.locals ≡ fresh_frames c.locals =
    ap (λ (k : Known). fresh_frames k.config.locals) knows0 in
    let spent : (facts_of x.spent).stands ≡ record (standing_of p) { fresh = false } = (x.spends).stands_is in
    let ran : DoesDeed facts_of x.spent (holder_of q) (fresh_frames c.locals) x.frames
    (running_to_end (said board rank) turns first commands lines) (Ok tt)
    = subst (λ a. DoesDeed facts_of x.spent (holder_of q) (fresh_frames c.locals) x.frames
    (running_to_end (said board rank) turns first commands lines) a) done
    (subst (λ f. DoesDeed facts_of x.spent (holder_of q) f x.frames
    (running_to_end (said board rank) turns first commands lines) answer) fresh x.ran) in
    let holds0 : Holds (fresh_frames c.locals) k0 = fresh_agree c.locals t [] (λ place. refl) in
    let y = ran.did (known_of p) (((x.spends).same (known_of p)).0 (opened_knows r p o)).0
    (subst (Holds (fresh_frames c.locals)) (sym knows0) holds0) in
    let is : y.0 ≡ known_of q = (y.1).0 in
    let s = ran.stands_is in
    let same_config : (known_of q).config ≡ c =
    s.config ∙ (ap (λ (z : Standing). z.config) spent ∙ ap (λ (k : Known). k.config) knows0) in
    let same_last : (known_of q).last ≡ last =
    s.last ∙ (ap (λ (z : Standing). z.last) spent ∙ ap (λ (k : Known). k.last) knows0) in
    let is_of : (known_of q).thread ≡ t = s.thread ∙ (ap (λ (z : Standing). z.thread) spent ∙ p.held.thread_is) in
    let first_hint : (x.spent).hint ≡ 0 = (x.spends).hint_is ∙ o.hint in
    let end : Known → ThreadState = λ k. thread_state (facts_of (holder_of q)) k x.frames in
    let told = y.3.0 in
    let from : Explained (said board rank) turns first (opening_of c last t) commands lines told
    = subst (λ i. Explained (said board rank) turns first (thread_state_with false i k0 (fresh_frames c.locals))
    commands lines told) first_hint
    (subst (λ b. Explained (said board rank) turns first (thread_state_with b (x.spent).hint k0 (fresh_frames c.locals))
    commands lines told) (ap (λ (z : Standing). z.fresh) spent)
    (subst (λ (k : Known). Explained (said board rank) turns first
    (thread_state (facts_of x.spent) k (fresh_frames c.locals)) commands lines told) knows0 y.3.1)) in
    record {
      same_config = same_config;
      same_last = same_last;
      is_of = is_of;
      told = told;
      explained = from;
      left = end (known_of q);
      freed = subst (λ (k : Known). IsFreed turns told (end k)) is y.3.2;
      saw = view_is c last t (known_of q) same_config same_last is_of;
    }

-- the same of a job
job_played : {Q : Type 0} {G : Ghosts Q} (board : List ℕ → Option (ℕ × History)) (rank : List ℕ → ℕ) (turns last : ℕ)
    (c : Config) (r : Row) (line : ℕ) (p p' : Pass) (q : ThreadPart) (j : Job) (x : ThreadRun Q G) → r.config ≡ c
    → r.last ≡ last → IsOpened r p → IsJobOf turns line p q j → HasSaid board rank j x → IsDone x → x.pass ≡ p'
    → Played board rank turns last c p.thread (line + 1) q.commands x.text.items (known_of p')
job_played board rank turns last c r line p p' q j x config_is last_is o i ran done is =
    let one : RanPass (said board rank) j.task.turns j.task.first j.task.commands.now p x.pass x.answer x.text.items =
    subst (λ z. RanPass (said board rank) j.task.turns j.task.first j.task.commands.now z x.pass x.answer x.text.items)
    i.pass ran in
    let two : RanPass (said board rank) j.task.turns j.task.first q.commands p x.pass x.answer x.text.items =
    subst (λ cs. RanPass (said board rank) j.task.turns j.task.first cs p x.pass x.answer x.text.items) i.commands
    one in
    let three : RanPass (said board rank) j.task.turns (line + 1) q.commands p x.pass x.answer x.text.items =
    subst (λ n. RanPass (said board rank) j.task.turns n q.commands p x.pass x.answer x.text.items) i.line_is two in
    let four : RanPass (said board rank) turns (line + 1) q.commands p x.pass x.answer x.text.items =
    subst (λ n. RanPass (said board rank) n (line + 1) q.commands p x.pass x.answer x.text.items) i.same_turns three in
    let five : RanPass (said board rank) turns (line + 1) q.commands p p' x.answer x.text.items =
    subst (λ z. RanPass (said board rank) turns (line + 1) q.commands p z x.answer x.text.items) is four in
    played board rank turns last c r p p' (line + 1) q.commands x.answer x.text.items config_is last_is o five done

-- the part of a thread that is not the first
part_of_other : (board : List ℕ → Option (ℕ × History)) (rank : List ℕ → ℕ) (turns last : ℕ) (c : Config)
    (whole : History) (t first : ℕ) (part : ThreadPart) (lines : List ℕ) (k : Known) → 0 < t
    → Played board rank turns last c t first part.commands lines k → IsSeenIn whole k
    → IsPartOf board rank turns last c whole t first part lines
part_of_other board rank turns last c whole zero first part lines k some p s = absurd (omega arith)
part_of_other board rank turns last c whole (suc t) first part lines k some p s = record {
  told = p.told;
  explained = p.explained;
  left = p.left;
  freed = p.freed;
  seen = k.seen;
  saw = p.saw;
  begins = s.begins;
  own = ap (mine whole) (sym p.is_of) ∙ (s.own ∙ (ap (mine k.seen) p.is_of ∙ sym (append-nil (mine k.seen (suc t)))));
}

-- the part of the first, which looks at the gate at the end
part_of_first : (board : List ℕ → Option (ℕ × History)) (rank : List ℕ → ℕ) (turns last : ℕ) (c : Config)
    (whole : History) (first : ℕ) (part : ThreadPart) (lines : List ℕ) (k met : Known)
    → Played board rank turns last c 0 first part.commands lines k → Did (view k) (view met) (Meet ∷ [])
    → IsSeenIn whole met → IsPartOf board rank turns last c whole 0 first part lines
part_of_first board rank turns last c whole first part lines k met p d s = record {
  told = p.told;
  explained = p.explained;
  left = p.left;
  freed = p.freed;
  seen = k.seen;
  saw = p.saw;
  begins = prefix_trans k.seen met.seen whole d.begins s.begins;
  own = ap (mine whole) (sym (d.thread ∙ p.is_of))
      ∙ (s.own ∙ (ap (mine met.seen) d.thread ∙ (d.own ∙ ap (λ l. l ++ Meet ∷ []) (ap (mine k.seen) p.is_of))));
}

-- so many numbers from a on
abbrev counted : ℕ → ℕ → List ℕ
counted a zero = []
counted a (suc n) = a ∷ counted (suc a) n

counted_more : (a n : ℕ) → counted a (suc n) ≡ counted a n ++ (a + n) ∷ []
counted_more a zero = ap (λ b. b ∷ []) (omega arith)
counted_more a (suc n) = ap (λ l. a ∷ l) (counted_more (suc a) n ∙ ap (λ b. counted (suc a) n ++ b ∷ []) (omega arith))

numbers_counted : (n : ℕ) → numbers_below n ≡ counted 0 n
numbers_counted zero = refl
numbers_counted (suc n) = let same : n ≡ 0 + n = omega arith in
    ap (λ l. l ++ n ∷ []) (numbers_counted n) ∙ (ap (λ b. counted 0 n ++ b ∷ []) same ∙ sym (counted_more 0 n))

head_is : (x y : ℕ) (xs ys : List ℕ) → x ∷ xs ≡ y ∷ ys → x ≡ y
head_is x y xs ys e = cc

tail_is : (x y : ℕ) (xs ys : List ℕ) → x ∷ xs ≡ y ∷ ys → xs ≡ ys
tail_is x y xs ys e = cc

-- the lines of the threads
abbrev lines_of : {Q : Type 0} {G : Ghosts Q} → List (ThreadRun Q G) → List (List ℕ)
lines_of [] = []
lines_of (x ∷ xs) = x.text.items ∷ lines_of xs

module _ (board : List ℕ → Option (ℕ × History)) (rank : List ℕ → ℕ) (turns last : ℕ) (c : Config) (r : Row)
    (config_is : r.config ≡ c) (last_is : r.last ≡ last) (whole : History) where
  parts_of_others : {Q : Type 0} {G : Ghosts Q} (a n line : ℕ) (ps : List Pass) (qs : List ThreadPart) (js : List Job)
      (xs : List (ThreadRun Q G)) (ends : List Pass) (text : List ℕ) → 0 < a
      → map (λ (p : Pass). p.thread) ps ≡ counted a n
      → AllByRecursion (IsOpened r) ps → AreJobsOf turns line ps qs js → AllZip (HasSaid board rank) js xs
      → AreTold qs xs ends text → AllByRecursion (IsSeenIn whole) (map known_of ends)
      → ArePartsOf board rank turns last c whole a line qs (lines_of xs)
  parts_of_others a n line [] [] [] [] ends text some are o jobs ran told seen = tt
  parts_of_others a n line [] [] [] (x ∷ xs) ends text some are o jobs ran told seen = absurd ran
  parts_of_others a n line (p ∷ ps) (q ∷ qs) (j ∷ js) [] ends text some are o jobs ran told seen = absurd ran
  parts_of_others a n line (p ∷ ps) (q ∷ qs) (j ∷ js) (x ∷ xs) [] text some are o jobs ran told seen = absurd told
  parts_of_others a zero line (p ∷ ps) (q ∷ qs) (j ∷ js) (x ∷ xs) (e ∷ ends) text some are o jobs ran told seen =
      absurd cc
  parts_of_others a (suc n) line (p ∷ ps) (q ∷ qs) (j ∷ js) (x ∷ xs) (e ∷ ends) text some are o jobs ran told seen = (
    part_of_other board rank turns last c whole a (line + 1) q x.text.items (known_of e) some
        (subst (λ t. Played board rank turns last c t (line + 1) q.commands x.text.items (known_of e))
        (head_is p.thread a _ _ are)
        (job_played board rank turns last c r line p e q j x config_is last_is o.0 jobs.0 ran.0 told.0 told.1)) seen.0,
    parts_of_others (suc a) n (line + 1 + length q.commands) ps qs js xs ends told.2 (omega arith)
        (tail_is p.thread a _ _ are) o.1 jobs.1 ran.1 told.4 seen.1,
  )
  parts_of_others a n line _ _ _ xs ends text some are o jobs ran told seen = absurd jobs

text_told : {Q : Type 0} {G : Ghosts Q} (qs : List ThreadPart) (xs : List (ThreadRun Q G)) (ends : List Pass)
    (text : List ℕ) → AreTold qs xs ends text → text ≡ text_of_parts qs (lines_of xs)
text_told [] [] [] text t = t
text_told [] (x ∷ xs) [] text t = t
text_told (q ∷ qs) (x ∷ xs) (e ∷ ends) text t =
    t.3 ∙ ap (λ l. heading q.name ++ x.text.items ++ l) (text_told qs xs ends t.2 t.4)
text_told _ _ _ text t = absurd t

-- the jobs can be done in the room
jobs_for : (r : Row) (turns line : ℕ) (ps : List Pass) (qs : List ThreadPart) (js : List Job)
    → AllByRecursion (IsOpened r) ps → AreJobsOf turns line ps qs js → AllByRecursion (IsFor r) js
jobs_for r turns line [] [] [] o jobs = tt
jobs_for r turns line (p ∷ ps) (q ∷ qs) (j ∷ js) o jobs =
    let i = jobs.0 in
    let first = i.line_is in
    let long : length j.task.commands.now ≡ length q.commands = ap length i.commands in
    let few = i.fits in (
      record { opened = subst (IsOpened r) (sym i.pass) o.0; fits = omega arith },
      jobs_for r turns (line + 1 + length q.commands) ps qs js o.1 jobs.1,
    )
jobs_for r turns line _ _ _ o jobs = absurd jobs

pub all_for : (c : Config) (last : ℕ) (r : Row) (turns line : ℕ) (ps : List Pass) (qs : List ThreadPart) (js : List Job)
    → AreOpened c last r ps → AreJobsOf turns line ps qs js → All (IsFor r) js
all_for c last r turns line ps qs js o jobs =
    All-from_recursion (IsFor r) js (jobs_for r turns line ps qs js (recursion_from_All (IsOpened r) ps o.each) jobs)

-- the passes that are handed back are of the room
ends_at : {Q : Type 0} {G : Ghosts Q} (r : Row) (qs : List ThreadPart) (js : List Job) (xs : List (ThreadRun Q G))
    (ends : List Pass) (text : List ℕ) → AllByRecursion (IsFor r) js → AllZip HasRun js xs → AreTold qs xs ends text
    → AllByRecursion (IsAt r) ends
ends_at r qs js xs [] text for ran told = tt
ends_at r (q ∷ qs) [] (x ∷ xs) (e ∷ ends) text for ran told = absurd ran
ends_at r (q ∷ qs) (j ∷ js) (x ∷ xs) (e ∷ ends) text for ran told =
    let s = ((ran.0).ran).stands_is in
    let spent = ((ran.0).spends).stands_is in (
      subst (IsAt r) told.1 (still_of r j.pass x.pass (s.room ∙ ap (λ (z : Standing). z.room) spent) (s.config
          ∙ ap (λ (z : Standing). z.config) spent) (s.last ∙ ap (λ (z : Standing). z.last) spent) ((for.0).opened).row),
      ends_at r qs js xs ends told.2 for.1 ran.1 told.4,
    )
ends_at r _ js _ (e ∷ ends) text for ran told = absurd told

-- and stand outside, each of the thread whose pass was given
ends_out : {Q : Type 0} {G : Ghosts Q} (r : Row) (turns line : ℕ) (ps : List Pass) (qs : List ThreadPart)
    (js : List Job) (xs : List (ThreadRun Q G)) (ends : List Pass) (text : List ℕ) → AreJobsOf turns line ps qs js
    → AllByRecursion (IsFor r) js → AllZip HasRun js xs → AreTold qs xs ends text
    → AllByRecursion (λ (p : Pass). p.role ≡ Outside) ends
    × (map (λ (k : Known). k.thread) (map known_of ends) ≡ map (λ (p : Pass). p.thread) ps)
ends_out r turns line [] [] [] xs [] text jobs for ran told = (tt, refl)
ends_out r turns line [] [] [] [] (e ∷ ends) text jobs for ran told = absurd told
ends_out r turns line [] [] [] (x ∷ xs) (e ∷ ends) text jobs for ran told = absurd told
ends_out r turns line (p ∷ ps) (q ∷ qs) (j ∷ js) [] ends text jobs for ran told = absurd ran
ends_out r turns line (p ∷ ps) (q ∷ qs) (j ∷ js) (x ∷ xs) [] text jobs for ran told = absurd told
ends_out r turns line (p ∷ ps) (q ∷ qs) (j ∷ js) (x ∷ xs) (e ∷ ends) text jobs for ran told =
    let s = ((ran.0).ran).stands_is in
    let spent = ((ran.0).spends).stands_is in
    let rest = ends_out r turns (line + 1 + length q.commands) ps qs js xs ends told.2 jobs.1 for.1 ran.1 told.4 in
    let out : e.role ≡ Outside =
    ap (λ (z : Pass). z.role) (sym told.1) ∙ (s.role ∙ (ap (λ (z : Standing). z.role) spent ∙ ((for.0).opened).role)) in
    let thread : (known_of e).thread ≡ p.thread = ap (λ (z : Pass). (known_of z).thread) (sym told.1) ∙ (s.thread
    ∙ (ap (λ (z : Standing). z.thread) spent ∙ (j.pass.held.thread_is ∙ ap (λ (z : Pass). z.thread) (jobs.0).pass))) in
    ((out, rest.0), (λ i. thread i ∷ rest.1 i))
ends_out r turns line _ _ _ xs ends text jobs for ran told = absurd jobs

-- passes of the threads of so many numbers from a on
has_counted : (a n t : ℕ) → a ≤ t → t < a + n → (ks : List Known) → map (λ (k : Known). k.thread) ks ≡ counted a n
    → HasPass ks t
has_counted a zero t low high ks e = absurd (omega arith)
has_counted a (suc n) t low high [] e = absurd cc
has_counted a (suc n) t low high (k ∷ ks) e = dite (ℕ_discrete a t)
    (λ same. inl (head_is k.thread a _ _ e ∙ same))
    (λ other. inr (has_counted (suc a) n t (omega arith) (omega arith) ks (tail_is k.thread a _ _ e)))

module _ {Q : Type 0} {G : Ghosts Q} (c : Config) (last : ℕ) (r : Row) (turns line : ℕ) (ps : List Pass)
    (qs : List ThreadPart) (js : List Job) (xs : List (ThreadRun Q G)) (ends : List Pass) (text : List ℕ) (q : Pass)
    (others : List Pass)
    (o : AreOpened c last r ps) (jobs : AreJobsOf turns line ps qs js) (ran : AllZip HasRun js xs)
    (told : AreTold qs xs ends text) (is : ends ≡ q ∷ others) where
  all_at : All (IsAt r) (q ∷ others)
  all_at = subst (All (IsAt r)) is (All-from_recursion (IsAt r) ends (ends_at r qs js xs ends text
      (jobs_for r turns line ps qs js (recursion_from_All (IsOpened r) ps o.each) jobs) ran told))

  pub first_at : IsAt r q
  first_at = All-head (IsAt r) q others all_at

  pub others_at : All (IsAt r) others
  others_at = All-tail (IsAt r) q others all_at

  all_out : AllByRecursion (λ (p : Pass). p.role ≡ Outside) ends
      × (map (λ (k : Known). k.thread) (map known_of ends) ≡ map (λ (p : Pass). p.thread) ps)
  all_out = ends_out r turns line ps qs js xs ends text jobs
      (jobs_for r turns line ps qs js (recursion_from_All (IsOpened r) ps o.each) jobs) ran told

  pub each_out : AllByRecursion (λ (p : Pass). p.role ≡ Outside) (q ∷ others)
  each_out = subst (AllByRecursion (λ (p : Pass). p.role ≡ Outside)) is all_out.0

  pub each_has : HasEachPass r.config (map known_of (q ∷ others))
  each_has t l = let low : t < c.threads = subst (λ (d : Config). t < d.threads) o.same_config l in
      has_counted 0 c.threads t (omega arith) (omega arith) (map known_of (q ∷ others))
      (ap (λ zs. map (λ (k : Known). k.thread) (map known_of zs)) (sym is)
      ∙ (all_out.1 ∙ (o.threads ∙ numbers_counted c.threads)))

module _ (board : List ℕ → Option (ℕ × History)) (rank : List ℕ → ℕ) (turns last : ℕ) (c : Config) (r : Row)
    (config_is : r.config ≡ c) (last_is : r.last ≡ last) where
  all_parts : {Q : Type 0} {G : Ghosts Q} (n : ℕ) (ps : List Pass) (qs : List ThreadPart) (js : List Job)
      (xs : List (ThreadRun Q G)) (e : Pass) (ends : List Pass) (text : List ℕ) (s : Summary)
      → map (λ (p : Pass). p.thread) ps ≡ counted 0 n
      → AllByRecursion (IsOpened r) ps → AreJobsOf turns 2 ps qs js → AllZip (HasSaid board rank) js xs
      → AreTold qs xs (e ∷ ends) text → ClosesAll (known_of e) (map known_of ends) s
      → (whole : History) × IsLegal c last whole × KeepsTheLaws whole
      × ArePartsOf board rank turns last c whole 0 2 qs (lines_of xs) × (s ≡ summary c last (state whole))
  all_parts n [] [] js [] e ends text s are o jobs ran told closes = absurd told
  all_parts n [] [] js (x ∷ xs) e ends text s are o jobs ran told closes = absurd told
  all_parts n (p ∷ ps) (q ∷ qs) (j ∷ js) [] e ends text s are o jobs ran told closes = absurd ran
  all_parts zero (p ∷ ps) (q ∷ qs) (j ∷ js) (x ∷ xs) e ends text s are o jobs ran told closes = absurd cc
  all_parts (suc n) (p ∷ ps) (q ∷ qs) (j ∷ js) (x ∷ xs) e ends text s are o jobs ran told closes =
      let here : Played board rank turns last c 0 (2 + 1) q.commands x.text.items (known_of e)
      = subst (λ t. Played board rank turns last c t (2 + 1) q.commands x.text.items (known_of e)) (head_is p.thread 0 _
      _ are) (job_played board rank turns last c r 2 p e q j x config_is last_is o.0 jobs.0 ran.0 told.0 told.1) in
      let d = goes_did closes.goes in
      let end = closes.ends in
      let met = closes.met in
      let met_config : met.config ≡ c = d.config ∙ here.same_config in
      let met_last : met.last ≡ last = d.last ∙ here.same_last in (
        end.whole,
        subst (λ (z : Config × ℕ). IsLegal z.0 z.1 end.whole) (λ i. (met_config i, met_last i)) end.legal,
        end.lawful,
        (
          part_of_first board rank turns last c end.whole (2 + 1) q x.text.items (known_of e) met here d end.first,
          parts_of_others board rank turns last c r config_is last_is end.whole 1 n (2 + 1 + length q.commands) ps qs js
              xs ends told.2 (omega arith) (tail_is p.thread 0 _ _ are) o.1 jobs.1 ran.1 told.4 end.others,
        ),
        end.is ∙ ap (λ (z : Config × ℕ). summary z.0 z.1 (state end.whole)) (λ i. (met_config i, met_last i)),
      )
  all_parts n _ _ _ xs e ends text s are o jobs ran told closes = absurd jobs

-- what each thread's notes tell is what one board has
pub all_said : {Q : Type 0} {G : Ghosts Q} (board : List ℕ → Option (ℕ × History)) (rank : List ℕ → ℕ) (js : List Job)
    (xs : List (ThreadRun Q G)) → AllZip HasRun js xs → AllByRecursion (IsToldBy board rank) xs
    → AllZip (HasSaid board rank) js xs
all_said board rank [] [] ran told = tt
all_said board rank (j ∷ js) (x ∷ xs) ran told = (
  pass_still {u = said board rank} (carried (account_in x).posted _ (account_in x).heard _ _ _ (told.0).posted
      (told.0).heard (λ n v. tt)) j.task.turns j.task.first j.task.commands.now j.pass x.pass x.answer x.text.items
      ran.0,
  all_said board rank js xs ran.1 told.1,
)
all_said board rank _ _ ran told = absurd ran

-- ALL TOGETHER
pub together : {Q : Type 0} {G : Ghosts Q} (board : List ℕ → Option (ℕ × History)) (rank : List ℕ → ℕ) (turns last : ℕ)
    (script : Script) (r : Row) (ps : List Pass) (js : List Job) (xs : List (ThreadRun Q G)) (passes : List Pass)
    (e : Pass) (ends : List Pass) (text whole : List ℕ) (s : Summary)
    → CanBeRun script → AreOpened script.config last r ps → AreJobsOf turns 2 ps script.threads js
    → AllZip (HasSaid board rank) js xs → IsOfPosts (commands_of script.threads) board
    → AreTold script.threads xs passes text → passes ≡ e ∷ ends
    → ClosesAll (known_of e) (map known_of ends) s → whole ≡ text ++ ending s → IsRunOfAll turns last script whole
together board rank turns last script r ps js xs passes e ends text whole s right o jobs ran posted told is closes
    whole_is =
    let c = script.config in
    let told' : AreTold script.threads xs (e ∷ ends) text = subst (λ z. AreTold script.threads xs z text) is told in
    let x = all_parts board rank turns last c r o.same_config o.same_last c.threads ps script.threads js xs e ends text
    s (o.threads ∙ numbers_counted c.threads) (recursion_from_All (IsOpened r) ps o.each) jobs ran told' closes in
    record {
      whole = x.0;
      legal = x.1;
      lawful = x.2;
      lines = lines_of xs;
      board = board;
      rank = rank;
      posted = posted;
      right = right;
      parts = x.3;
      text_is = whole_is ∙ (ap (λ t. t ++ ending s) (text_told script.threads xs (e ∷ ends) text told')
          ∙ ap (λ v. text_of_parts script.threads (lines_of xs) ++ ending v) x.4);
    }
