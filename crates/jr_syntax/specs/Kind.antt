-- Kinds of words and of arguments: how they are read, and how they are spelled.
use Rattle.std.specs.Prelude.{◌≡◌, Bool, true, false, List, ℕ, [], ◌∷◌, ◌&&◌, ◌==◌}
use Rattle.std.specs.Prelude.{nat_le, length, map, Result, Ok, Err, MatchOption, Option}
use Rattle.std.specs.List.{list_all}
use Rattle.jr_syntax.specs.declared.argument.LineError.{LineError}
use Rattle.jr_syntax.specs.declared.argument.LineError.TheVariants as errors
use Rattle.jr_syntax.specs.Name.{is_name}
use Rattle.jr_syntax.specs.Line.{word_at, behind}

-- How text W is read as an X: which text has the form, sizes of numbers aside; which of it has its numbers within
-- their bounds; what it stands for.
pub record Reading (W X : Type 0) : Type 0 where
  pub has_form : W → Bool
  pub in_range : W → Bool
  pub value : W → X

-- A kind of text W that stands for an X: how it is read, how an X is spelled, and which X there are.
pub record Kind (W X : Type 0) : Type 0 where
  pub has_form : W → Bool
  pub in_range : W → Bool
  pub value : W → X
  pub spell : X → W
  pub is_good : X → Bool

abbrev pub reading : {W X : Type 0} → Kind W X → Reading W X
reading k = record { has_form = k.has_form; in_range = k.in_range; value = k.value }

-- a kind of word
abbrev pub WordKind : Type 0 → Type 0
WordKind X = Kind (List ℕ) X

-- a kind of arguments, each one word
abbrev pub Arguments : Type 0 → Type 0
Arguments X = Kind (List (List ℕ)) X

-- a NAME
abbrev pub name : WordKind (List ℕ)
name = record { has_form = is_name; in_range = λ _. true; value = λ w. w; spell = λ n. n; is_good = is_name }

-- no argument
abbrev pub nothing : Arguments (Unit {0})
nothing = record {
  has_form = λ ws. length ws == 0;
  in_range = λ ws. true;
  value = λ ws. tt;
  spell = λ _. [];
  is_good = λ _. true;
}

-- one argument
abbrev pub one : {X : Type 0} → WordKind X → Arguments X
one k = record {
  has_form = λ ws. (length ws == 1) && k.has_form (word_at ws 0);
  in_range = λ ws. k.in_range (word_at ws 0);
  value = λ ws. k.value (word_at ws 0);
  spell = λ x. k.spell x ∷ [];
  is_good = k.is_good;
}

-- two arguments
abbrev pub two : {X Y : Type 0} → WordKind X → WordKind Y → Arguments (X × Y)
two k l = record {
  has_form = λ ws. (length ws == 2) && k.has_form (word_at ws 0) && l.has_form (word_at ws 1);
  in_range = λ ws. k.in_range (word_at ws 0) && l.in_range (word_at ws 1);
  value = λ ws. (k.value (word_at ws 0), l.value (word_at ws 1));
  spell = λ x. k.spell x.0 ∷ l.spell x.1 ∷ [];
  is_good = λ x. k.is_good x.0 && l.is_good x.1;
}

-- three arguments
abbrev pub three : {X Y Z : Type 0} → WordKind X → WordKind Y → WordKind Z → Arguments (X × Y × Z)
three k l m = record {
  has_form =
      λ ws. (length ws == 3) && k.has_form (word_at ws 0) && l.has_form (word_at ws 1) && m.has_form (word_at ws 2);
  in_range = λ ws. k.in_range (word_at ws 0) && l.in_range (word_at ws 1) && m.in_range (word_at ws 2);
  value = λ ws. (k.value (word_at ws 0), l.value (word_at ws 1), m.value (word_at ws 2));
  spell = λ x. k.spell x.0 ∷ l.spell x.1 ∷ m.spell x.2 ∷ [];
  is_good = λ x. k.is_good x.0 && l.is_good x.1 && m.is_good x.2;
}

-- any number of arguments of one kind, up to the most
abbrev pub up_to : {X : Type 0} → ℕ → WordKind X → Arguments (List X)
up_to most k = record {
  has_form = λ ws. nat_le (length ws) most && list_all k.has_form ws;
  in_range = λ ws. list_all k.in_range ws;
  value = λ ws. map k.value ws;
  spell = λ xs. map k.spell xs;
  is_good = λ xs. nat_le (length xs) most && list_all k.is_good xs;
}

-- an argument, and others behind it
abbrev pub before : {X Y : Type 0} → WordKind X → Arguments Y → Arguments (X × Y)
before k a = record {
  has_form = λ ws. nat_le 1 (length ws) && k.has_form (word_at ws 0) && a.has_form (behind ws);
  in_range = λ ws. k.in_range (word_at ws 0) && a.in_range (behind ws);
  value = λ ws. (k.value (word_at ws 0), a.value (behind ws));
  spell = λ x. k.spell x.0 ∷ a.spell x.1;
  is_good = λ x. k.is_good x.0 && a.is_good x.1;
}

-- What a word of the form was read as: nothing where a number is out of range.
abbrev pub ReadsWord : {X : Type 0} → WordKind X → List ℕ → Option X → Type 0
ReadsWord k w r = MatchOption r (k.in_range w ≡ false) (λ x. (k.in_range w ≡ true) × (x ≡ k.value w))

-- What text was read as, or the first of the two ways in which it fails.
abbrev pub Reads : {W X : Type 0} → Reading W X → W → Result X LineError → Type 0
Reads a ws (Ok x) = (a.has_form ws ≡ true) × (a.in_range ws ≡ true) × (x ≡ a.value ws)
Reads a ws (Err errors.Form) = a.has_form ws ≡ false
Reads a ws (Err errors.Range) = (a.has_form ws ≡ true) × (a.in_range ws ≡ false)
