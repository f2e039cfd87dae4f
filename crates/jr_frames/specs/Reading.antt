-- A word as the calls read it.
use Rattle.std.specs.Prelude.{◌≡◌, ◌≢◌, ℕ}
use Rattle.jr_word.specs.declared.handle.RefKind.TheVariants.{Local}
use Rattle.jr_word.specs.Handle.{handle_word, IsHandle}
use Rattle.jr_model.specs.State.{Handle}
use Rattle.jr_model.specs.Checks.{Word, Nothing, Malformed, Parts}
use Rattle.jr_frames.specs.declared.reference.Reference.{Reference}
use Rattle.jr_frames.specs.declared.reference.Reference.TheVariants as reference

-- what a word says that is handed in as a reference: nothing for 0, the parts of a handle, or neither
abbrev pub IsReadAs : ℕ → Word → Type 0
IsReadAs w Nothing = w ≡ 0
IsReadAs w Malformed = (w ≢ 0) × ((h : Handle) → IsHandle h → w ≢ handle_word h)
IsReadAs w (Parts h) = IsHandle h × (w ≡ handle_word h)

-- a reference that was read, as the model has it
abbrev pub word_of : Reference → Word
word_of reference.Null = Nothing
word_of reference.Malformed = Malformed
word_of (reference.Parts h) = Parts h

-- only a local reference has an owner
abbrev pub OwnerFits : Reference → Type 0
OwnerFits (reference.Parts h) = h.kind ≢ Local → h.owner ≡ 0
OwnerFits _ = Unit {0}
