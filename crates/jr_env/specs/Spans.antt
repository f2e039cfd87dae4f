-- The elements that a call asks of its object: those that its program reads or writes, whatever the object is.
use Rattle.std.specs.Prelude.{◌≡◌, ℕ, Option, Some, None, length}
use Rattle.jr_word.specs.declared.kind.Kind.{Kind}
use Rattle.jr_model.specs.Checks.{Word}
use Rattle.jr_model.specs.Programs.{AnswerKind, Ending, Program, ends, finds, looks, names, names_both, reads}
use Rattle.jr_model.specs.Programs.{reads_from, tests, wants, writes, writes_from, writes_to}
use Rattle.jr_env.specs.declared.native_call.Handed.{Handed}
use Rattle.jr_env.specs.declared.native_call.Handed.TheVariants.{OneAt, BothAt}
use Rattle.jr_env.specs.declared.span.Span.{Span}
use Rattle.jr_env.specs.Requests.{Request, asks, gives, named, on_word, on_words, told_by}

-- the elements that an ending reads or writes: the index of the first, and how many
abbrev pub touched_by : {n : ℕ} {a : AnswerKind} → Ending n a → Option (ℕ × ℕ)
touched_by (reads i) = Some (i, 1)
touched_by (reads_from start n) = Some (start, n)
touched_by (writes i v) = Some (i, 1)
touched_by (writes_to i w) = Some (i, 1)
touched_by (writes_from start vs) = Some (start, length vs)
touched_by _ = None

-- the program reads or writes these elements of its object, of whatever kind and length that is
abbrev pub ReachesFor : {n : ℕ} {a : AnswerKind} → Program n a → Span → Type 0
ReachesFor (ends e) s = touched_by e ≡ Some (s.start, s.count)
ReachesFor (names w p) s = ReachesFor p s
ReachesFor (names_both p) s = ReachesFor p s
ReachesFor (wants w p) s = ReachesFor p s
ReachesFor (looks next) s = (k : Kind) → (n : ℕ) → ReachesFor (next k n) s
ReachesFor (tests ts _ p) s = ReachesFor p s
ReachesFor (finds i p) s = (s.start ≡ i) × (s.count ≡ 1)

-- so does that of a request, whatever its words say
abbrev pub AsksElements : {A : Type 0} → Request A → Span → Type 0
AsksElements (asks silent words p) s = ReachesFor p s
AsksElements (on_word w next) s = (a : Word) → AsksElements (next a) s
AsksElements (on_words v w next) s = (a b : Word) → AsksElements (next a b) s
AsksElements (gives form first) s = AsksElements first s
AsksElements (told_by form first) s = AsksElements first s
AsksElements (named name first) s = AsksElements first s

-- the elements that a call says it asks of the object of its first word
abbrev pub handed_span : Handed → Option Span
handed_span (OneAt h s) = Some s
handed_span (BothAt g h s) = Some s
handed_span _ = None

-- A REQUEST ASKS THESE ELEMENTS, where a call says which
abbrev pub Spans : {A : Type 0} → Request A → Option Span → Type 0
Spans request None = Unit {0}
Spans request (Some s) = AsksElements request s
