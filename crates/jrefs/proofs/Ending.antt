-- How the program ends.
use Rattle.std.proofs.Common.{Result, Ok, Err, OnOk, OnErr, IfErr, IsErrAnd, ◌≡◌, ◌≢◌, ◌⊎◌, List, ℕ, Option}
use Rattle.std.proofs.Common.{Some, None, IfSome, IsSome, is_some, refl, sym, ap, ◌∙◌, subst, inl, inr}
use Rattle.std.specs.Io.KnownBytes.{Appends, Keeps}
use Rattle.std.proofs.lemmas.Bool.{false≢true}
use Rattle.clap.specs.Words.{Text}
use Rattle.jr_syntax.specs.Faults.{first_fault}
use Rattle.jr_syntax.proofs.Texts.{no_fault}
use Rattle.jrefs.specs.declared.request.Request.{Request}
use Rattle.jrefs.specs.declared.request.Request.TheVariants.{Run, Check, Word, Widen}
use Rattle.jrefs.specs.declared.trouble.Trouble.{Trouble}
use Rattle.jrefs.specs.declared.trouble.Trouble.TheVariants as troubles
use Rattle.jrefs.specs.Act.{AnswersWords, AppendsBeginning, IsOutput, IsOutputFor, LeavesWritten, Prevents, Stops}
use Rattle.jrefs.specs.Request.{Asks, AskNothing, AsksOfScript, asked_for}
use Rattle.jrefs.specs.Trouble.{status_of}
use Rattle.jrefs.proofs.CommandLine.{asks_found}

-- a status that a text with a fault may have
abbrev pub IsFaulty : ℕ → Option (List ℕ) → Option (List ℕ) → Type 0
IsFaulty status old new = (status ≡ 1) ⊎ (status ≡ 3) ⊎ ((status ≡ 4) × Keeps old new)

-- a text that is answered has no fault
answered_whole : (r : Request) (text output : List ℕ) → AsksOfScript r → IsOutput r (Some text) output
    → first_fault text ≡ None
answered_whole Run text output asks is = ap first_fault (is.read ∙ is.reply.2) ∙ no_fault is.reply.0 is.reply.1
answered_whole Check text output asks is = ap first_fault (is.read ∙ is.reply.2) ∙ no_fault is.reply.0 is.reply.1
answered_whole (Word w) text output asks is = absurd asks
answered_whole (Widen w) text output asks is = absurd asks

never_answered : (words : List Text) (text output : List ℕ) (r : Request) → Asks r words → AsksOfScript r
    → IsSome (first_fault text) → IsOutputFor words (Some text) output → ⊥
never_answered words text output r asks of_script some is =
    let found : Some is.0 ≡ Some r = sym is.1 ∙ asks_found r words asks in
    let same : is.0 ≡ r = cc in
    let reply = subst (λ (q : Request). IsOutput q (Some text) output) same is.2 in
    let none = answered_whole r text output of_script reply in
    false≢true (sym (ap is_some none) ∙ some)

pub faulty_not_answered : (words : List Text) (known old new : Option (List ℕ)) (r : Request) → Asks r words
    → AsksOfScript r → AnswersWords words known old new
    → IfSome known (λ text. IsSome (first_fault text) → IsFaulty 0 old new)
faulty_not_answered words None old new r asks of_script done = tt
faulty_not_answered words (Some text) old new r asks of_script done =
    λ some. absurd (never_answered words text done.2.output r asks of_script some (done.0, done.1, done.2.is_output))

stopped_by : (t : Trouble) (words : List Text) (text : List ℕ) (left old new : Option (List ℕ)) (r : Request)
    → Asks r words → AsksOfScript r → status_of t ≢ 2 → LeavesWritten t words (Some text) left old new
    → IsSome (first_fault text) → IsFaulty (status_of t) old new
stopped_by (troubles.Script line reason) words text left old new r asks of_script apart leaves some = inl refl
stopped_by troubles.Usage words text left old new r asks of_script apart leaves some = absurd (apart refl)
stopped_by troubles.Memory words text left old new r asks of_script apart leaves some = inr (inl refl)
stopped_by troubles.Input words text left old new r asks of_script apart leaves some = inr (inr (refl, leaves.1))
stopped_by troubles.Output words text left old new r asks of_script apart leaves some =
    absurd (never_answered words text leaves.0 r asks of_script some leaves.1)

pub faulty_stopped : (t : Trouble) (words : List Text) (known left old new : Option (List ℕ)) (r : Request)
    → Asks r words → AsksOfScript r → status_of t ≢ 2 → LeavesWritten t words known left old new
    → IfSome known (λ text. IsSome (first_fault text) → IsFaulty (status_of t) old new)
faulty_stopped t words None left old new r asks of_script apart leaves = tt
faulty_stopped t words (Some text) left old new r asks of_script apart leaves =
    stopped_by t words text left old new r asks of_script apart leaves

-- ---- what is written

-- what stops the request of words prevents their output
pub stopped_prevents : (t : Trouble) (words : List Text) (old new : Option (List ℕ)) (r : Request)
    → asked_for words ≡ Some r → Stops t r old new → Prevents t words old new
stopped_prevents (troubles.Script line reason) words old new r asked stops = (r, asked, stops)
stopped_prevents troubles.Usage words old new r asked stops = absurd stops
stopped_prevents troubles.Memory words old new r asked stops = tt
stopped_prevents troubles.Input words old new r asked stops = (r, asked, stops)
stopped_prevents troubles.Output words old new r asked stops = absurd stops

by_cause : (t : Trouble) (words : List Text) (old new : Option (List ℕ)) → (t ≡ troubles.Memory) ⊎ (t ≡ troubles.Usage)
    → (t ≡ troubles.Usage → AskNothing words) → Prevents t words old new
by_cause t words old new (inl memory) nothing = subst (λ (u : Trouble). Prevents u words old new) (sym memory) tt
by_cause t words old new (inr usage) nothing =
    subst (λ (u : Trouble). Prevents u words old new) (sym usage) (nothing usage)

-- words that are refused have no output
pub refused_prevents : {A : Type 0} (r : Result A Trouble) (t : Trouble) (words : List Text) (old new : Option (List ℕ))
    → IsErrAnd r (λ u. u ≡ t) → (t ≡ troubles.Memory) ⊎ (t ≡ troubles.Usage) → (t ≡ troubles.Usage → AskNothing words)
    → IfErr r (λ u. Prevents u words old new)
refused_prevents (Ok a) t words old new e why nothing = tt
refused_prevents (Err u) t words old new e why nothing =
    subst (λ (v : Trouble). Prevents v words old new) (sym e) (by_cause t words old new why nothing)

-- an output that was written whole
pub written_answers : (words : List Text) (known old new : Option (List ℕ)) (output bytes : List ℕ)
    (r : Result (Unit {0}) Trouble) → bytes ≡ output → IsOutputFor words known output → OnOk r (Appends old new bytes)
    → OnOk r (AnswersWords words known old new)
written_answers words known old new output bytes (Ok _) same is written =
    (is.0, is.1, record { output = output; is_output = is.2; written = subst (Appends old new) same written })
written_answers words known old new output bytes (Err _) same is written = tt

-- an output that was cut off
pub cut_off_leaves : (words : List Text) (known left old new : Option (List ℕ)) (output bytes : List ℕ)
    (r : Result (Unit {0}) Trouble) → bytes ≡ output → IsOutputFor words known output
    → OnErr r (AppendsBeginning old new bytes) → IfErr r (λ t. t ≡ troubles.Output)
    → IfErr r (λ t. LeavesWritten t words known left old new)
cut_off_leaves words known left old new output bytes (Ok _) same is begins fault = tt
cut_off_leaves words known left old new output bytes (Err t) same is begins fault =
    subst (λ (u : Trouble). LeavesWritten u words known left old new) (sym fault)
    (output, is, subst (AppendsBeginning old new) same begins)
