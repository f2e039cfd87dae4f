-- What is read is good, and is spelled as it was.
use Rattle.std.proofs.Common.{◌≡◌, ℕ, ◌^◌, ◌<◌, Bool, true, false, cond, List, [], ◌∷◌}
use Rattle.std.proofs.Common.{length, map, Option, Some, None, refl, sym, ap, ◌∙◌, arith}
use Rattle.std.specs.Prelude.{◌||◌, codes, nat_le, if◌then◌else◌}
use Rattle.std.specs.Option.{option_map, option_map_or}
use Rattle.std.specs.List.{find, list_all}
use Rattle.std.specs.Str.{bytes_eq}
use Rattle.std.proofs.lemmas.Bool.{and_parts, and_from, eqb-true, false≢true}
use Rattle.std.proofs.lemmas.List.{length-map}
use Rattle.std.proofs.lemmas.Slice.Eq.{bytes_eq-Decides}
use Rattle.jr_syntax.specs.declared.verb.Verb.{Verb}
use Rattle.jr_syntax.specs.declared.verb.Verb.TheVariants.{Make, MakeFrom, On, OnBoth, OnName, WithCount, MakeSized}
use Rattle.jr_syntax.specs.declared.verb.Verb.TheVariants.{MakeFilled, MakeText, MakeAt, OnAt, SetAt, StoreAt, OnNameAt}
use Rattle.jr_syntax.specs.declared.verb.Verb.TheVariants.{PutAt, Release, OpenLevel, CloseLevel, OfRoom, WithTries}
use Rattle.jr_syntax.specs.declared.verb.TheConstants.{VERBS}
use Rattle.jr_syntax.specs.declared.command.Command.{Command}
use Rattle.jr_syntax.specs.declared.name.Reference.TheVariants.{Null, Named}
use Rattle.jr_syntax.specs.Name.{is_name}
use Rattle.jr_syntax.specs.Number.{number_of_digits}
use Rattle.jr_syntax.specs.Line.{word_at}
use Rattle.jr_syntax.specs.Kind.{Kind, WordKind, Arguments, name, nothing, one, two, three, up_to, before}
use Rattle.jr_syntax.specs.Reference.{reference, reference_word, is_good_reference}
use Rattle.jr_syntax.specs.Count.{number_if, most_count, count, is_tries, tries}
use Rattle.jr_syntax.specs.Units.{most_units, unit, units}
use Rattle.jr_syntax.specs.Value.{value}
use Rattle.jr_model.specs.declared.frames.Mode.TheVariants.{Copy, Commit, Abort}
use Rattle.jr_syntax.specs.Modes.{mode, word_of_mode}
use Rattle.jr_syntax.proofs.DecimalLaws.{few_bits, decimal_number}
use Rattle.jr_syntax.proofs.ValueLaws.{value_back}
use Rattle.jr_syntax.specs.Command.{verb_word, verb_of, behind_verb, spelling_of, words_of_command}
use Rattle.jr_syntax.specs.Command.{is_command, line_has_form, line_in_range, line_command}

-- reading and then spelling
pub record Takes {W X : Type 0} (k : Kind W X) : Type 0 where
  pub back : (w : W) → k.has_form w ≡ true → k.in_range w ≡ true → k.spell (k.value w) ≡ w
  pub good : (w : W) → k.has_form w ≡ true → k.in_range w ≡ true → k.is_good (k.value w) ≡ true

-- ---- words

name_takes : Takes name
name_takes = record { back = λ w f r. refl; good = λ w f r. f }

reference_back : (w : List ℕ) (b : Bool) → bytes_eq w (codes "null") ≡ b
    → reference_word (if b then Null else Named w) ≡ w
reference_back w true e = sym ((bytes_eq-Decides w (codes "null")).0 e)
reference_back w false e = refl

reference_good : (w : List ℕ) (b : Bool) → (b || is_name w) ≡ true
    → is_good_reference (if b then Null else Named w) ≡ true
reference_good w true f = refl
reference_good w false f = f

reference_takes : Takes reference
reference_takes = record {
  back = λ w f r. reference_back w (bytes_eq w (codes "null")) refl;
  good = λ w f r. reference_good w (bytes_eq w (codes "null")) f;
}

number_takes : (test : ℕ → Bool) → ((n : ℕ) → test n ≡ true → n < 2 ^ 64) → Takes (number_if test)
number_takes test few = record { back = λ w f r. decimal_number w f (few (number_of_digits w) r); good = λ w f r. r }

count_takes : Takes count
count_takes = number_takes _ (few_bits most_count (omega arith))

tries_takes : Takes tries
tries_takes = number_takes is_tries (λ n g. few_bits most_count (omega arith) n (and_parts _ _ g).1)

unit_takes : Takes unit
unit_takes = number_takes _ (few_bits 65535 (omega arith))

value_takes : Takes value
value_takes = record { back = value_back; good = λ w f r. r }

mode_back : (w : List ℕ) (a b c : Bool) → bytes_eq w (codes "copy") ≡ a → bytes_eq w (codes "commit") ≡ b
    → bytes_eq w (codes "abort") ≡ c → (a || b || c) ≡ true
    → word_of_mode (if a then Copy else (if b then Commit else Abort)) ≡ w
mode_back w true b c e f g h = sym ((bytes_eq-Decides w (codes "copy")).0 e)
mode_back w false true c e f g h = sym ((bytes_eq-Decides w (codes "commit")).0 f)
mode_back w false false true e f g h = sym ((bytes_eq-Decides w (codes "abort")).0 g)
mode_back w false false false e f g h = absurd (false≢true h)

mode_takes : Takes mode
mode_takes = record {
  back = λ w f r. mode_back w (bytes_eq w (codes "copy")) (bytes_eq w (codes "commit")) (bytes_eq w (codes "abort"))
      refl refl refl f;
  good = λ w f r. refl;
}

-- ---- arguments

pub words_1 : (ws : List (List ℕ)) → length ws ≡ 1 → word_at ws 0 ∷ [] ≡ ws
words_1 (a ∷ []) e = refl
words_1 [] e = absurd (omega arith)
words_1 (a ∷ b ∷ ws) e = absurd (omega arith)

words_2 : (ws : List (List ℕ)) → length ws ≡ 2 → word_at ws 0 ∷ word_at ws 1 ∷ [] ≡ ws
words_2 (a ∷ b ∷ []) e = refl
words_2 [] e = absurd (omega arith)
words_2 (a ∷ []) e = absurd (omega arith)
words_2 (a ∷ b ∷ c ∷ ws) e = absurd (omega arith)

words_0 : (ws : List (List ℕ)) → length ws ≡ 0 → [] ≡ ws
words_0 [] e = refl
words_0 (a ∷ ws) e = absurd (omega arith)

nothing_takes : Takes nothing
nothing_takes = record { back = λ ws f r. words_0 ws (eqb-true _ _ f); good = λ ws f r. refl }

one_takes : {X : Type 0} (k : WordKind X) → Takes k → Takes (one k)
one_takes k t = record {
  back = λ ws f r.
      let p = and_parts _ _ f in
      ap (λ (w : List ℕ). w ∷ []) (t.back (word_at ws 0) p.1 r) ∙ words_1 ws (eqb-true _ _ p.0);
  good = λ ws f r. t.good (word_at ws 0) (and_parts _ _ f).1 r;
}

two_takes : {X Y : Type 0} (k : WordKind X) (l : WordKind Y) → Takes k → Takes l → Takes (two k l)
two_takes k l t u = record {
  back = λ ws f r.
      let p = and_parts _ _ f in
      let q = and_parts _ _ p.0 in
      let s = and_parts _ _ r in
      rw (t.back (word_at ws 0) q.1 s.0, u.back (word_at ws 1) p.1 s.1) (words_2 ws (eqb-true _ _ q.0));
  good = λ ws f r.
      let p = and_parts _ _ f in
      let q = and_parts _ _ p.0 in
      let s = and_parts _ _ r in
      and_from _ _ (t.good (word_at ws 0) q.1 s.0) (u.good (word_at ws 1) p.1 s.1);
}

words_3 : (ws : List (List ℕ)) → length ws ≡ 3 → word_at ws 0 ∷ word_at ws 1 ∷ word_at ws 2 ∷ [] ≡ ws
words_3 (a ∷ b ∷ c ∷ []) e = refl
words_3 [] e = absurd (omega arith)
words_3 (a ∷ []) e = absurd (omega arith)
words_3 (a ∷ b ∷ []) e = absurd (omega arith)
words_3 (a ∷ b ∷ c ∷ d ∷ ws) e = absurd (omega arith)

three_takes : {X Y Z : Type 0} (k : WordKind X) (l : WordKind Y) (m : WordKind Z) → Takes k → Takes l → Takes m
    → Takes (three k l m)
three_takes k l m t u v = record {
  back = λ ws f r.
      let p = and_parts _ _ f in
      let q = and_parts _ _ p.0 in
      let o = and_parts _ _ q.0 in
      let s = and_parts _ _ r in
      let x = and_parts _ _ s.0 in
      rw (t.back (word_at ws 0) o.1 x.0, u.back (word_at ws 1) q.1 x.1, v.back (word_at ws 2) p.1 s.1)
      (words_3 ws (eqb-true _ _ o.0));
  good = λ ws f r.
      let p = and_parts _ _ f in
      let q = and_parts _ _ p.0 in
      let o = and_parts _ _ q.0 in
      let s = and_parts _ _ r in
      let x = and_parts _ _ s.0 in
      and_from _ _ (and_from _ _ (t.good (word_at ws 0) o.1 x.0) (u.good (word_at ws 1) q.1 x.1))
      (v.good (word_at ws 2) p.1 s.1);
}

all_back : {X : Type 0} (k : WordKind X) → Takes k → (ws : List (List ℕ)) → list_all k.has_form ws ≡ true
    → list_all k.in_range ws ≡ true → map k.spell (map k.value ws) ≡ ws
all_back k t [] f r = refl
all_back k t (w ∷ ws) f r =
    let p = and_parts _ _ f in
    let s = and_parts _ _ r in
    rw (t.back w p.0 s.0, all_back k t ws p.1 s.1) refl

all_good : {X : Type 0} (k : WordKind X) → Takes k → (ws : List (List ℕ)) → list_all k.has_form ws ≡ true
    → list_all k.in_range ws ≡ true → list_all k.is_good (map k.value ws) ≡ true
all_good k t [] f r = refl
all_good k t (w ∷ ws) f r =
    let p = and_parts _ _ f in
    let s = and_parts _ _ r in
    and_from _ _ (t.good w p.0 s.0) (all_good k t ws p.1 s.1)

up_to_takes : {X : Type 0} (most : ℕ) (k : WordKind X) → Takes k → Takes (up_to most k)
up_to_takes most k t = record {
  back = λ ws f r. all_back k t ws (and_parts _ _ f).1 r;
  good = λ ws f r.
      let p = and_parts _ _ f in
      and_from _ _ (ap (λ n. nat_le n most) (length-map ws k.value) ∙ p.0) (all_good k t ws p.1 r);
}

before_back : {X Y : Type 0} (k : WordKind X) (a : Arguments Y) → Takes k → Takes a → (ws : List (List ℕ))
    → (before k a).has_form ws ≡ true → (before k a).in_range ws ≡ true
    → (before k a).spell ((before k a).value ws) ≡ ws
before_back k a t u [] f r = absurd (false≢true f)
before_back k a t u (w ∷ ws) f r =
    let p = and_parts _ _ f in
    let q = and_parts _ _ p.0 in
    let s = and_parts _ _ r in
    rw (t.back w q.1 s.0, u.back ws p.1 s.1) refl

before_good : {X Y : Type 0} (k : WordKind X) (a : Arguments Y) → Takes k → Takes a → (ws : List (List ℕ))
    → (before k a).has_form ws ≡ true → (before k a).in_range ws ≡ true
    → (before k a).is_good ((before k a).value ws) ≡ true
before_good k a t u [] f r = absurd (false≢true f)
before_good k a t u (w ∷ ws) f r =
    let p = and_parts _ _ f in
    let q = and_parts _ _ p.0 in
    let s = and_parts _ _ r in
    and_from _ _ (t.good w q.1 s.0) (u.good ws p.1 s.1)

before_takes : {X Y : Type 0} (k : WordKind X) (a : Arguments Y) → Takes k → Takes a → Takes (before k a)
before_takes k a t u = record { back = before_back k a t u; good = before_good k a t u }

-- ---- commands

-- what a shape owes: the command behind a verb is spelled as it was, and is good
abbrev IsTaken : Verb → List (List ℕ) → Type 0
IsTaken v ws =
    (words_of_command ((behind_verb v).value ws) ≡ verb_word v ∷ ws) × (is_command ((behind_verb v).value ws) ≡ true)

by : {X : Type 0} (a : Arguments X) → Takes a → (word : List ℕ) (ws : List (List ℕ)) → a.has_form ws ≡ true
    → a.in_range ws ≡ true → (word ∷ a.spell (a.value ws) ≡ word ∷ ws) × (a.is_good (a.value ws) ≡ true)
by a t word ws f r = (ap (λ (x : List (List ℕ)). word ∷ x) (t.back ws f r), t.good ws f r)

-- a line for each shape
command_takes : (v : Verb) (ws : List (List ℕ)) → (behind_verb v).has_form ws ≡ true
    → (behind_verb v).in_range ws ≡ true → IsTaken v ws
unfolding behind_verb spelling_of
command_takes (Make v) = by _ (one_takes name name_takes) _
command_takes (MakeFrom v) = by _ (two_takes name reference name_takes reference_takes) _
command_takes (On v) = by _ (one_takes reference reference_takes) _
command_takes (OnBoth v) = by _ (two_takes reference reference reference_takes reference_takes) _
command_takes (OnName v) = by _ (one_takes name name_takes) _
command_takes (WithCount v) = by _ (one_takes count count_takes) _
command_takes (MakeSized v) = by _ (two_takes name count name_takes count_takes) _
command_takes (MakeFilled v) = by _ (three_takes name count reference name_takes count_takes reference_takes) _
command_takes (MakeText v) = by _ (before_takes name units name_takes (up_to_takes most_units unit unit_takes)) _
command_takes (MakeAt v) = by _ (three_takes name reference count name_takes reference_takes count_takes) _
command_takes (OnAt v) = by _ (two_takes reference count reference_takes count_takes) _
command_takes (SetAt v) = by _ (three_takes reference count reference reference_takes count_takes reference_takes) _
command_takes (StoreAt v) = by _ (three_takes reference count value reference_takes count_takes value_takes) _
command_takes (OnNameAt v) = by _ (two_takes name count name_takes count_takes) _
command_takes (PutAt v) = by _ (three_takes name count value name_takes count_takes value_takes) _
command_takes (Release v) = by _ (three_takes name reference mode name_takes reference_takes mode_takes) _
command_takes (OpenLevel v) = by _ (two_takes name reference name_takes reference_takes) _
command_takes (CloseLevel v) = by _ (one_takes mode mode_takes) _
command_takes (OfRoom v) = by _ nothing_takes _
command_takes (WithTries v) = by _ (one_takes tries tries_takes) _

-- ---- lines

-- what is found passes the test
found_at : {X : Type 0} (p : X → Bool) (y x : X) (rest : Option X) (b : Bool) → p y ≡ b → (rest ≡ Some x → p x ≡ true)
    → cond b (Some y) rest ≡ Some x → p x ≡ true
found_at p y x rest true h ih e = let same : y ≡ x = cc in rw (← same) h
found_at p y x rest false h ih e = ih e

found : {X : Type 0} (p : X → Bool) (xs : List X) (x : X) → find p xs ≡ Some x → p x ≡ true
found p [] x e = absurd cc
found p (y ∷ ys) x e = found_at p y x (find p ys) (p y) refl (found p ys x) e

-- the verb that was found has the word
verb_found : (w : List ℕ) (v : Verb) → verb_of w ≡ Some v → verb_word v ≡ w
unfolding verb_of
verb_found w v e = (bytes_eq-Decides (verb_word v) w).0 (found (λ u. bytes_eq (verb_word u) w) VERBS v e)

line_takes_at : (w : List ℕ) (ws : List (List ℕ)) (c : Command) (o : Option Verb) → verb_of w ≡ o
    → option_map_or (λ v. (behind_verb v).has_form ws) o false ≡ true
    → option_map_or (λ v. (behind_verb v).in_range ws) o false ≡ true
    → option_map (λ v. (behind_verb v).value ws) o ≡ Some c → (words_of_command c ≡ w ∷ ws) × (is_command c ≡ true)
line_takes_at w ws c None e f r k = absurd (false≢true f)
line_takes_at w ws c (Some v) e f r k =
    let same : (behind_verb v).value ws ≡ c = cc in
    let t = command_takes v ws f r in (
      ap words_of_command (sym same) ∙ t.0 ∙ ap (λ (x : List ℕ). x ∷ ws) (verb_found w v e),
      ap is_command (sym same) ∙ t.1,
    )

-- what is read as a command is spelled so, and is good
pub line_takes : (ws : List (List ℕ)) (c : Command) → line_has_form ws ≡ true → line_in_range ws ≡ true
    → line_command ws ≡ Some c → (words_of_command c ≡ ws) × (is_command c ≡ true)
unfolding line_has_form line_in_range line_command
line_takes [] c f r e = absurd (false≢true f)
line_takes (w ∷ ws) c f r e = line_takes_at w ws c (verb_of w) refl f r e
