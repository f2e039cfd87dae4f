-- A word has one reading: of its parts as they are read, and of those that someone found without saying which.
use Rattle.std.proofs.Common.{◌≡◌, Option, Some, None, IsSome, refl, sym, subst, ◌∙◌, ◌<◌, ℕ, inl, inr}
use Rattle.std.proofs.Math.Logic.{∥∥₁_elim}
use Rattle.std.proofs.Props.{props}
use mathlib.Core.HLevel.{is_prop→PathP}
use mathlib.Core.Logic.{dite, ∥∥₁_map}
use native.Mathlib.Decide.{ℕ_discrete}
use Rattle.jr_word.specs.declared.header.HeaderParts.{HeaderParts}
use Rattle.jr_word.specs.declared.slot.SlotParts.{SlotParts}
use Rattle.jr_word.specs.declared.slot.SlotParts.TheVariants.{Free, Retired, Global, Weak}
use Rattle.jr_word.specs.Header.{header_word, IsHeader, IsHeaderOrZero, LengthFits, PlaceFits}
use Rattle.jr_word.specs.Slot.{slot_word, IsSlot, IsSlotWord, NamesObject}
use Rattle.jr_word.proofs.OneWord.{slot_word-injective, header_word-injective}
use Rattle.jr_steps.specs.declared.known.Known.{Known}
use Rattle.jr_model.specs.declared.event.Act.{Act}
use Rattle.std.specs.Prelude.{List}
use Rattle.jr_rule.specs.Cells.{Sight, May, HasStepped}

-- nothing is no value
pub none_some : {A : Type 0} (x : A) → None ≡ Some x → ⊥
none_some x e = cc

-- a word that has a reading is read
pub is_read : {A : Type 0} (r : Option A) (p : A) → r ≡ Some p → IsSome r
is_read r p e = subst (λ z. IsSome z) (sym e) refl

-- and as one thing only
pub read_once : {A : Type 0} (r : Option A) (p q : A) → r ≡ Some p → r ≡ Some q → q ≡ p
read_once r p q e f = let z = sym e ∙ f in cc

below_prop : (m n : ℕ) → IsProp (m < n)
below_prop m n = hlevel props

same_prop : (m n : ℕ) → IsProp (m ≡ n)
same_prop m n = hlevel props

names_prop : (p : SlotParts) → IsProp (NamesObject p)
names_prop (Free serial) = hlevel props
names_prop (Retired serial) = hlevel props
names_prop (Global serial o) = hlevel props
names_prop (Weak serial None) = hlevel props
names_prop (Weak serial (Some o)) = hlevel props

slot_prop : (p : SlotParts) → IsProp (IsSlot p)
slot_prop p x y = λ i. record {
  serial = below_prop _ _ x.serial y.serial i;
  object = below_prop _ _ x.object y.object i;
  names = names_prop p x.names y.names i;
}

lengths_prop : (p : HeaderParts) → IsProp (LengthFits p)
lengths_prop p = hlevel props

places_prop : (p : HeaderParts) → IsProp (PlaceFits p)
places_prop p = hlevel props

header_prop : (p : HeaderParts) → IsProp (IsHeader p)
header_prop p x y = λ i. record {
  length = below_prop _ _ x.length y.length i;
  place = below_prop _ _ x.place y.place i;
  length_fits = lengths_prop p x.length_fits y.length_fits i;
  place_fits = places_prop p x.place_fits y.place_fits i;
}

slot_once : (n : ℕ) → IsProp (IsSlotWord n)
slot_once n x y =
    let e : x.0 ≡ y.0 = slot_word-injective x.0 y.0 x.1 y.1 (sym x.2 ∙ y.2) in
    λ i. (
      e i,
      is_prop→PathP (λ j. IsSlot (e j)) (λ j. slot_prop (e j)) x.1 y.1 i,
      is_prop→PathP (λ j. n ≡ slot_word (e j)) (λ j. same_prop n (slot_word (e j))) x.2 y.2 i,
    )

pub one_slot : {n : ℕ} → ∥ IsSlotWord n ∥₁ → IsSlotWord n
one_slot {n} may = ∥∥₁_elim may (slot_once n) (λ x. x)

header_once : (n : ℕ) → IsProp ((p : HeaderParts) × IsHeader p × (n ≡ header_word p))
header_once n x y =
    let e : x.0 ≡ y.0 = header_word-injective x.0 y.0 x.1 y.1 (sym x.2 ∙ y.2) in
    λ i. (
      e i,
      is_prop→PathP (λ j. IsHeader (e j)) (λ j. header_prop (e j)) x.1 y.1 i,
      is_prop→PathP (λ j. n ≡ header_word (e j)) (λ j. same_prop n (header_word (e j))) x.2 y.2 i,
    )

pub one_header : {n : ℕ} → ∥ IsHeaderOrZero n ∥₁ → IsHeaderOrZero n
one_header {n} may = dite (ℕ_discrete n 0)
    (λ none. inl none)
    (λ some. inr (∥∥₁_elim may (header_once n) (λ x. other some x)))
  where
    other : (n ≡ 0 → ⊥) → IsHeaderOrZero n → (p : HeaderParts) × IsHeader p × (n ≡ header_word p)
    other some (inl e) = absurd (some e)
    other some (inr w) = w

-- WHAT A STEP SAYS OF THE NUMBER THAT IT FOUND is so, whatever was known
pub found_so : {z z' : Sight} {met : Known → Type 0} {told : Known → ℕ → List Act → Known → Type 0} {n : ℕ}
    → HasStepped z z' met told n → May z met → {P : Type 0} → ((k k' : Known) (done : List Act) → told k n done k' → P)
    → ∥ P ∥₁
found_so t may says = ∥∥₁_map may (λ k. let u = t.makes k.0 k.1 k.2 in says k.0 u.new u.acts u.says)
