-- THE PROGRAMS OF CALLS suit what is at hand: tests that let a program go on tell the kind.
use Rattle.std.proofs.Common.{◌≡◌, ◌∷◌, ℕ, Bool, true, false, not, Ok, refl, arith}
use Rattle.jr_word.specs.declared.fault.Fault.{Fault}
use Rattle.jr_word.specs.declared.handle.Handle.{Handle}
use Rattle.jr_word.specs.declared.kind.Kind.{Kind}
use Rattle.jr_word.specs.declared.kind.Kind.TheVariants.{Objects, Plain}
use Rattle.jr_model.specs.Checks.{is_array, is_objects, is_read_as, is_text, same_element}
use Rattle.jr_model.specs.Tests.{Tests, refused_by}
use Rattle.jr_model.specs.Programs.{Which, at_both, handle, one as first_place, other as second_place}
use Rattle.jr_syntax.specs.declared.verb.OpenLevel.{OpenLevel}
use Rattle.jr_syntax.specs.declared.verb.OpenLevel.TheVariants as at
use Rattle.jr_scripts.specs.Commands.{get_critical}
use Rattle.jr_scripts.specs.Names.{null}
use Rattle.jr_scripts.proofs.Apart.Numbers.{IsFor, Numbers, WordFor}
use Rattle.jr_scripts.proofs.Apart.Programs.{AtHand, EachSuits}

-- TESTS that let a program go on tell the kind
passed : (b : Bool) (e : Fault) (ts : Tests) → refused_by ((not b, e) ∷ ts) ≡ Ok tt
    → (b ≡ true) × (refused_by ts ≡ Ok tt)
passed true e ts is = (refl, is)
passed false e ts is = absurd cc

pub past : (b : Bool) (e : Fault) (ts : Tests) → refused_by ((b, e) ∷ ts) ≡ Ok tt → refused_by ts ≡ Ok tt
past true e ts is = absurd cc
past false e ts is = is

no_objects : (k l : Kind) → same_element k l ≡ true → is_objects l ≡ false
no_objects Plain Objects is = absurd cc
no_objects _ Objects is = absurd cc
no_objects k l is = refl

text_no_objects : (l : Kind) → is_text l ≡ true → is_objects l ≡ false
text_no_objects Objects is = absurd cc
text_no_objects l is = refl

read_no_objects : (k l : Kind) → is_read_as k l ≡ true → is_objects l ≡ false
read_no_objects Plain Objects is = absurd cc
read_no_objects _ Objects is = absurd cc
read_no_objects k l is = refl

-- an array of one element kind, whatever else is tested
pub array_suits : (k l : Kind) (e f : Fault) (ts : Tests)
    → refused_by ((not (is_array l), e) ∷ (not (same_element k l), f) ∷ ts) ≡ Ok tt → is_objects l ≡ false
array_suits k l e f ts is =
    no_objects k l (passed (same_element k l) f ts (passed (is_array l) e ((not (same_element k l), f) ∷ ts) is).1).0

pub objects_suit : (l : Kind) (e f : Fault) (ts : Tests)
    → refused_by ((not (is_array l), e) ∷ (not (is_objects l), f) ∷ ts) ≡ Ok tt → is_objects l ≡ true
objects_suit l e f ts is = (passed (is_objects l) f ts (passed (is_array l) e ((not (is_objects l), f) ∷ ts) is).1).0

pub text_suits : (l : Kind) (e : Fault) (ts : Tests) → refused_by ((not (is_text l), e) ∷ ts) ≡ Ok tt
    → is_objects l ≡ false
text_suits l e ts is = text_no_objects l (passed (is_text l) e ts is).0

pub read_suits : (k l : Kind) (e : Fault) (ts : Tests) → refused_by ((not (is_read_as k l), e) ∷ ts) ≡ Ok tt
    → is_objects l ≡ false
read_suits k l e ts is = read_no_objects k l (passed (is_read_as k l) e ts is).0

pub critical_suits : (hand : AtHand) (v : OpenLevel) (levels : ℕ) → EachSuits hand (get_critical v levels)
critical_suits hand at.Array levels = (tt, λ k n is. tt)
critical_suits hand at.Text levels = (tt, λ k n is. tt)

-- what is handed stands for what is handed alone
abbrev pub Handed : Numbers → (Which → ℕ) → (Which → ℕ) → Type 0
Handed k hands alone = (p : Which) → WordFor k (hands p) (alone p)

pub both_handed : (k : Numbers) (h g f e : Handle) → IsFor k handle h f → IsFor k handle g e
    → Handed k (at_both h.0 g.0) (at_both f.0 e.0)
both_handed k h g f e one other first_place = one
both_handed k h g f e one other second_place = other

pub null_for : (k : Numbers) → IsFor k handle null null
null_for k = (refl, omega arith)

pub one_handed : (k : Numbers) (h f : Handle) → IsFor k handle h f → Handed k (at_both h.0 0) (at_both f.0 0)
one_handed k h f it = both_handed k h null f null it (null_for k)

pub none_handed : (k : Numbers) → Handed k (at_both 0 0) (at_both 0 0)
none_handed k = one_handed k null null (null_for k)
