-- References: what a command refers to.
use Rattle.std.specs.Prelude.{Bool, true, List, ℕ, codes, if◌then◌else◌}
use Rattle.std.specs.Str.{bytes_eq}
use Rattle.jr_syntax.specs.declared.name.Reference.{Reference}
use Rattle.jr_syntax.specs.declared.name.Reference.TheVariants.{Null, Named}
use Rattle.jr_syntax.specs.Name.{is_name, is_reference}
use Rattle.jr_syntax.specs.Kind.{WordKind}

-- what such a word refers to
abbrev pub reference_at : List ℕ → Reference
reference_at w = if bytes_eq w (codes "null") then Null else Named w

-- the word of a reference
abbrev pub reference_word : Reference → List ℕ
reference_word Null = codes "null"
reference_word (Named n) = n

-- whether its name is a name
abbrev pub is_good_reference : Reference → Bool
is_good_reference Null = true
is_good_reference (Named n) = is_name n

-- a REF
abbrev pub reference : WordKind Reference
reference = record {
  has_form = is_reference;
  in_range = λ _. true;
  value = reference_at;
  spell = reference_word;
  is_good = is_good_reference;
}
