-- The lists of jobs and of what threads gave back, as they grow.
use Rattle.std.specs.Prelude.{IfOk}
use Rattle.jr_word.specs.declared.fault.Fault.{Fault}
use Rattle.std.proofs.Common.{Result, Ok, Err, ◌≡◌, ◌+◌, ◌<◌, ◌≤◌, ◌++◌, ℕ, zero, suc, List, [], ◌∷◌}
use Rattle.std.proofs.Common.{length, drop, get_or, refl, sym, ap, subst, ◌∙◌, arith, append_assoc}
use Rattle.std.proofs.lemmas.List.{append-nil}
use Rattle.jr_syntax.specs.declared.thread.ThreadPart.{ThreadPart}
use Rattle.jr_rule.specs.declared.pass.Pass.{Pass}
use Rattle.jr_scripts.specs.declared.part.Job.{Job}
use Rattle.jr_rule.specs.declared.site.Site.{Ghosts}
use Rattle.jr_scripts.specs.declared.part.ThreadRun.{ThreadRun}
use Rattle.jr_scripts.specs.Text.{heading}
use Rattle.jr_scripts.specs.Jobs.{AreJobsOf, IsDone, AreTold}

pub nothing_left : {A : Type 0} (i : ℕ) (xs : List A) → length xs ≤ i → drop i xs ≡ []
nothing_left zero [] all = refl
nothing_left zero (x ∷ xs) all = absurd (omega arith)
nothing_left (suc i) [] all = refl
nothing_left (suc i) (x ∷ xs) all = nothing_left i xs (omega arith)

pub one_left : {A : Type 0} (i : ℕ) (xs : List A) (x : A) → i < length xs → x ≡ get_or xs i x
    → drop i xs ≡ x ∷ drop (suc i) xs
one_left zero [] x some is = absurd (omega arith)
one_left zero (y ∷ ys) x some is = λ j. sym is j ∷ ys
one_left (suc i) [] x some is = absurd (omega arith)
one_left (suc i) (y ∷ ys) x some is = one_left i ys x (omega arith) is

-- all jobs are made
pub jobs_end : (turns line i : ℕ) (passes first : List Pass) (parts : List ThreadPart) (jobs : List Job) → passes ≡ []
    → length parts ≤ i
    → ((js : List Job) → AreJobsOf turns line passes (drop i parts) js → AreJobsOf turns 2 first parts (jobs ++ js))
    → AreJobsOf turns 2 first parts jobs
jobs_end turns line i passes first parts jobs none all more =
    let here : AreJobsOf turns line passes (drop i parts) [] = subst (λ qs. AreJobsOf turns line passes qs [])
    (sym (nothing_left i parts all)) (subst (λ ps. AreJobsOf turns line ps [] []) (sym none) tt) in
    subst (AreJobsOf turns 2 first parts) (append-nil jobs) (more [] here)

-- one more thread is told of
pub told_more : {Q : Type 0} {G : Ghosts Q} (i : ℕ) (parts : List ThreadPart) (q : ThreadPart)
    (runs runs' first : List (ThreadRun Q G)) (x : ThreadRun Q G) (passes passes' : List Pass) (text text' : List ℕ)
    → i < length parts → q ≡ get_or parts i q → runs ≡ x ∷ runs' → IsDone x → passes' ≡ passes ++ x.pass ∷ []
    → text' ≡ (text ++ heading q.name) ++ x.text.items
    → ((ps : List Pass) (rest : List ℕ) → AreTold (drop i parts) runs ps rest
    → AreTold parts first (passes ++ ps) (text ++ rest))
    → (ps : List Pass) (rest : List ℕ) → AreTold (drop (i + 1) parts) runs' ps rest
    → AreTold parts first (passes' ++ ps) (text' ++ rest)
told_more i parts q runs runs' first x passes passes' text text' some is run_is done passes_are text_is more ps rest
    told =
    let next : i + 1 ≡ suc i = omega arith in
    let told' : AreTold (drop (suc i) parts) runs' ps rest =
    subst (λ n. AreTold (drop n parts) runs' ps rest) next told in
    let lines : List ℕ = heading q.name ++ x.text.items ++ rest in
    let here : AreTold (q ∷ drop (suc i) parts) (x ∷ runs') (x.pass ∷ ps) lines = (done, refl, rest, refl, told') in
    let there : AreTold (drop i parts) runs (x.pass ∷ ps) lines =
    subst (λ qs. AreTold qs runs (x.pass ∷ ps) lines) (sym (one_left i parts q some is))
    (subst (λ xs. AreTold (q ∷ drop (suc i) parts) xs (x.pass ∷ ps) lines) (sym run_is) here) in
    let passes_same : passes ++ x.pass ∷ ps ≡ passes' ++ ps =
    sym (append_assoc passes (x.pass ∷ []) ps) ∙ ap (λ l. l ++ ps) (sym passes_are) in
    let text_same : text ++ lines ≡ text' ++ rest = sym (append_assoc text (heading q.name ++ x.text.items) rest)
    ∙ ap (λ l. l ++ rest) (sym (append_assoc text (heading q.name) x.text.items) ∙ sym text_is) in
    subst (λ l. AreTold parts first (passes' ++ ps) l) text_same
    (subst (λ l. AreTold parts first l (text ++ lines)) passes_same (more (x.pass ∷ ps) lines there))

-- all are
pub told_end : {Q : Type 0} {G : Ghosts Q} (i : ℕ) (parts : List ThreadPart) (runs first : List (ThreadRun Q G))
    (passes : List Pass) (text : List ℕ) → length parts ≤ i
    → ((ps : List Pass) (rest : List ℕ) → AreTold (drop i parts) runs ps rest
    → AreTold parts first (passes ++ ps) (text ++ rest)) → AreTold parts first passes text
told_end i parts runs first passes text all more =
    let here : AreTold (drop i parts) runs [] [] =
    subst (λ qs. AreTold qs runs [] []) (sym (nothing_left i parts all)) refl in
    subst (λ l. AreTold parts first passes l) (append-nil text)
    (subst (λ l. AreTold parts first l (text ++ [])) (append-nil passes) (more [] [] here))

-- what follows from two facts of what was answered
pub if_ok_both : {A : Type 0} (P Q R : A → Type 0) → ((x : A) → P x → Q x → R x) → (r : Result A Fault) → IfOk r P
    → IfOk r Q → IfOk r R
if_ok_both P Q R f (Ok x) p q = f x p q
if_ok_both P Q R f (Err e) p q = tt
