-- What a checked caller did: the call as the caller beneath makes it, and of a refusal what a watcher is told.
use Rattle.std.specs.Prelude.{◌≡◌, ℕ, Bool, true, false, cond, Option, Some, None, Result, Ok, Err, List, [], ◌∷◌}
use Rattle.jr_word.specs.declared.fault.Fault.{Fault}
use Rattle.jr_word.specs.declared.fault.Fault.TheVariants.{Range}
use Rattle.jr_frames.specs.declared.explaining.Explanation.{Explanation}
use Rattle.jr_env.specs.declared.checked.Checked.{Checked}
use Rattle.jr_env.specs.declared.checked.Evidence.{Evidence}
use Rattle.jr_env.specs.declared.checked.Evidence.TheVariants.{Nothing, One, Both}
use Rattle.jr_env.specs.declared.checked.Examined.{Examined}
use Rattle.jr_env.specs.declared.checked.Missed.{Missed}
use Rattle.jr_env.specs.declared.checked.Refusal.{Refusal}
use Rattle.jr_env.specs.declared.span.Span.{Span}
use Rattle.jr_env.specs.Requests.{Request, request_name, request_words}
use Rattle.jr_env.specs.Spans.{Spans}

-- the checked caller with this caller beneath
abbrev pub with_caller : {N W : Type 0} → Checked N W → N → Checked N W
with_caller checked beneath = record checked { caller = record checked.caller { now = beneath } }

-- THE CALLER BENEATH DID THIS, and the watcher was told nothing
pub record ActsBeneath {N W : Type 0} (act : N → N → Type 0) (old new : Checked N W) : Type 0 where
  pub same_reference : new.caller.ghost_name ≡ old.caller.ghost_name
  pub watcher : new.watcher ≡ old.watcher
  pub same_name : new.name ≡ old.name
  pub acts : act old.caller.now new.caller.now

-- the words that a watcher is told of, with what each is
abbrev pub evidence_of : Evidence → List Examined
evidence_of Nothing = []
evidence_of (One x) = x ∷ []
evidence_of (Both x y) = x ∷ y ∷ []

module _ {N : Type 0} (explained : N → N → ℕ → Result Explanation Fault → Type 0) where
  -- the caller told what a word is
  pub record Examines (old new : N) (w : ℕ) (x : Examined) : Type 0 where
    pub word : x.handle.0 ≡ w
    pub is : explained old new w x.is

  -- it told so of each of these words in turn
  abbrev pub ExaminesEach : N → N → List ℕ → List Examined → Type 0
  ExaminesEach old new [] xs = (xs ≡ []) × (new ≡ old)
  ExaminesEach old new (w ∷ ws) xs = (x : Examined) × (rest : List Examined) × (mid : N) × (xs ≡ x ∷ rest)
      × Examines old mid w x × ExaminesEach mid new ws rest

-- the refusal of an index or a part
abbrev pub is_range : Fault → Bool
is_range Range = true
is_range _ = false

-- the elements that a call misses, and the word of their object: where it is refused by E7, and says what it asks
abbrev pub missed_at : List ℕ → Option Span → Bool → Option (ℕ × Span)
missed_at [] span by_range = None
missed_at (w ∷ ws) None by_range = None
missed_at (w ∷ ws) (Some s) by_range = cond by_range (Some (w, s)) None

module _ {N : Type 0} (measured : N → N → ℕ → Result ℕ Fault → Type 0) where
  -- of the elements that are missed it is told which they are, and how many the object has as the caller told then;
  -- and where none are, nothing
  abbrev pub Measures : N → N → Option (ℕ × Span) → Option Missed → Type 0
  Measures old new None None = new ≡ old
  Measures old new None (Some m) = ⊥
  Measures old new (Some x) None = ⊥
  Measures old new (Some x) (Some m) = (m.span ≡ x.1) × measured old new x.0 m.length

module _ {N W : Type 0} (explained : N → N → ℕ → Result Explanation Fault → Type 0)
    (measured : N → N → ℕ → Result ℕ Fault → Type 0) (thread : N → ℕ) (hears : W → W → Refusal → Type 0) where
  -- THE WATCHER WAS TOLD of one refusal: by which name, whose it is, of which call, why, what each word is that was
  -- handed in, and of E7 which elements were asked and how many there are
  pub record HasTold (old new : Checked N W) (name words : List ℕ) (span : Option Span) (fault : Fault) : Type 0 where
    pub refusal : Refusal
    pub heard : hears old.watcher new.watcher refusal
    pub by_name : refusal.caller ≡ old.name
    pub same_name : new.name ≡ old.name
    pub whose : refusal.thread ≡ thread old.caller.now
    pub which : refusal.call.now ≡ name
    pub why : refusal.fault ≡ fault
    pub mid : N
    pub looks : ExaminesEach explained old.caller.now mid words (evidence_of refusal.evidence)
    pub missed : Measures measured mid new.caller.now (missed_at words span (is_range fault)) refusal.missed

  -- what stands behind the call beneath: where it was not refused that, and nothing was told; and else what was told
  abbrev pub TellsOf : {A : Type 0} → Checked N W → Checked N W → List ℕ → List ℕ → Option Span → Result A Fault
      → Type 0
  TellsOf old new name words span (Ok x) = new ≡ old
  TellsOf old new name words span (Err e) = HasTold old new name words span e

  -- THE CALL'S ANSWER IS THAT OF THE CALLER BENEATH, and the watcher was told of it just where it is a refusal,
  -- with elements that the call asks
  pub record WasWatched {A : Type 0} (made : N → N → Request A → Result A Fault → Type 0) (old new : Checked N W)
      (request : Request A) (answer : Result A Fault) : Type 0 where
    pub same_reference : new.caller.ghost_name ≡ old.caller.ghost_name
    pub mid : Checked N W
    pub call : made old.caller.now mid.caller.now request answer
    pub watcher : mid.watcher ≡ old.watcher
    pub same_name : mid.name ≡ old.name
    pub span : Option Span
    pub asks : Spans request span
    pub tells : TellsOf mid new (request_name request) (request_words request) span answer

  -- THE CALLER BENEATH DID THIS, and the watcher was told of it just where its answer is a refusal
  pub record WatchedBeneath {A : Type 0} (act : N → N → Type 0) (old new : Checked N W) (name words : List ℕ)
      (answer : Result A Fault) : Type 0 where
    pub same_reference : new.caller.ghost_name ≡ old.caller.ghost_name
    pub mid : N
    pub acts : act old.caller.now mid
    pub tells : TellsOf (with_caller old mid) new name words None answer

  -- WHO IS BENEATH TOLD of a refusal in its own way, and then the watcher was told
  pub record TellsBoth (beneath : N → N → List ℕ → List ℕ → Option Span → Fault → Type 0) (old new : Checked N W)
      (name words : List ℕ) (span : Option Span) (fault : Fault) : Type 0 where
    pub same_reference : new.caller.ghost_name ≡ old.caller.ghost_name
    pub mid : N
    pub first : beneath old.caller.now mid name words span fault
    pub then_watcher : HasTold (with_caller old mid) new name words span fault
