-- What is spelled is read again, as what it was.
use Rattle.std.proofs.Common.{◌≡◌, ℕ, suc, ℤ, pos, negsuc, ◌^◌, ◌<◌, ◌≤◌, Bool, true, false, cond, List, []}
use Rattle.std.proofs.Common.{◌∷◌, ◌++◌, refl, ap, ◌∙◌, arith, inl, inr, leb, eqb, length, map, Option, Some}
use Rattle.std.specs.Prelude.{◌&&◌, not, nat_le, codes}
use Rattle.std.specs.Option.{option_map, option_map_or}
use Rattle.std.specs.Str.{bytes_eq}
use Rattle.std.specs.List.{find, list_all, slice_split}
use Rattle.std.specs.Fmt.{decimal, signed_decimal}
use Rattle.std.proofs.lemmas.Bool.{and_parts, and_from, leb-true, le-leb, eq-eqb, ne_eqb, not-true, or_cases}
use Rattle.std.proofs.lemmas.List.{length-map}
use Rattle.jr_word.specs.Config.{is_between}
use Rattle.jr_syntax.specs.declared.verb.Verb.{Verb}
use Rattle.jr_syntax.specs.declared.verb.Verb.TheVariants.{Make, MakeFrom, On, OnBoth, OnName, WithCount, MakeSized}
use Rattle.jr_syntax.specs.declared.verb.Verb.TheVariants.{MakeFilled, MakeText, MakeAt, OnAt, SetAt, StoreAt, OnNameAt}
use Rattle.jr_syntax.specs.declared.verb.Verb.TheVariants.{PutAt, Release, OpenLevel, CloseLevel, OfRoom, WithTries}
use Rattle.jr_syntax.specs.declared.verb.Make.TheVariants.{Plain}
use Rattle.jr_syntax.specs.declared.verb.MakeFrom.TheVariants.{Global}
use Rattle.jr_syntax.specs.declared.verb.On.TheVariants as on
use Rattle.jr_syntax.specs.declared.verb.OnBoth.TheVariants.{Same}
use Rattle.jr_syntax.specs.declared.verb.OnName.TheVariants.{Post}
use Rattle.jr_syntax.specs.declared.verb.WithCount.TheVariants.{Push}
use Rattle.jr_syntax.specs.declared.verb.MakeSized.TheVariants as sized
use Rattle.jr_syntax.specs.declared.verb.MakeFilled.TheVariants.{Objects}
use Rattle.jr_syntax.specs.declared.verb.MakeText.TheVariants as text
use Rattle.jr_syntax.specs.declared.verb.MakeAt.TheVariants.{Get}
use Rattle.jr_syntax.specs.declared.verb.OnAt.TheVariants.{Load}
use Rattle.jr_syntax.specs.declared.verb.SetAt.TheVariants as set_at
use Rattle.jr_syntax.specs.declared.verb.StoreAt.TheVariants.{Store}
use Rattle.jr_syntax.specs.declared.verb.OnNameAt.TheVariants as named_at
use Rattle.jr_syntax.specs.declared.verb.PutAt.TheVariants.{Put}
use Rattle.jr_syntax.specs.declared.verb.Release.TheVariants as releases
use Rattle.jr_syntax.specs.declared.verb.OpenLevel.TheVariants as opens
use Rattle.jr_syntax.specs.declared.verb.CloseLevel.TheVariants.{Newest}
use Rattle.jr_syntax.specs.declared.verb.OfRoom.TheVariants.{Collect}
use Rattle.jr_syntax.specs.declared.verb.WithTries.TheVariants.{CollectAnnounced}
use Rattle.jr_syntax.specs.declared.verb.TheConstants.{VERBS}
use Rattle.jr_syntax.specs.declared.command.Command.{Command}
use Rattle.jr_syntax.specs.declared.command.Command.TheVariants as commands
use Rattle.jr_syntax.specs.declared.name.Reference.{Reference}
use Rattle.jr_syntax.specs.declared.name.Reference.TheVariants.{Null, Named}
use Rattle.jr_syntax.specs.Name.{is_name, is_name_byte, is_digit, is_reference}
use Rattle.jr_syntax.specs.Number.{all_digits}
use Rattle.jr_syntax.specs.Line.{line, words_of}
use Rattle.jr_syntax.specs.Kind.{WordKind, Arguments, name, nothing, one, two, three, up_to, before}
use Rattle.jr_syntax.specs.Reference.{reference, reference_word, reference_at, is_good_reference}
use Rattle.jr_syntax.specs.Count.{number_if, most_count, count, is_tries, tries}
use Rattle.jr_syntax.specs.Units.{most_units, unit, units}
use Rattle.jr_syntax.specs.Value.{is_long, value}
use Rattle.jr_model.specs.declared.frames.Mode.{Mode}
use Rattle.jr_model.specs.declared.frames.Mode.TheVariants.{Copy, Commit, Abort}
use Rattle.jr_syntax.specs.Modes.{mode, is_mode_word, mode_of, word_of_mode}
use Rattle.jr_syntax.specs.Command.{verb_word, verb_of, behind_verb, spelling_of, words_of_command}
use Rattle.jr_syntax.specs.Command.{is_command, line_has_form, line_in_range, line_command}
use Rattle.jr_syntax.specs.Script.{thread}
use Rattle.jr_syntax.proofs.DecimalLaws.{few_bits, decimal_digits, decimal_form, number_decimal}
use Rattle.jr_syntax.proofs.ValueLaws.{or_right, long_above, long_below, value_form, value_again}
use Rattle.jr_syntax.proofs.VmLaws.{not_all}

-- ---- bytes that are seen: 33 to 126

abbrev pub is_solid : List ℕ → Bool
is_solid w = list_all (is_between 33 126) w

all_weaker : (p q : ℕ → Bool) → ((c : ℕ) → p c ≡ true → q c ≡ true) → (w : List ℕ) → list_all p w ≡ true
    → list_all q w ≡ true
all_weaker p q h [] f = refl
all_weaker p q h (c ∷ cs) f = let r = and_parts _ _ f in and_from _ _ (h c r.0) (all_weaker p q h cs r.1)

between : (low high lo hi c : ℕ) → lo ≤ low → high ≤ hi → is_between low high c ≡ true → is_between lo hi c ≡ true
between low high lo hi c l h f =
    let p = and_parts _ _ f in
    let a = leb-true low c p.0 in
    let b = leb-true c high p.1 in
    and_from _ _ (le-leb lo c (omega arith)) (le-leb c hi (omega arith))

name_byte_solid : (c : ℕ) → is_name_byte c ≡ true → is_between 33 126 c ≡ true
name_byte_solid c f =
    elim (or_cases _ _ f) [
      | inl l ↦ between 97 122 33 126 c (omega arith) (omega arith) l
      | inr d ↦ between 48 57 33 126 c (omega arith) (omega arith) d
    ]

pub name_solid : (w : List ℕ) → is_name w ≡ true → is_solid w ≡ true
name_solid w f = all_weaker is_name_byte (is_between 33 126) name_byte_solid w (and_parts _ _ (and_parts _ _ f).0).1

digits_solid : (w : List ℕ) → all_digits w ≡ true → is_solid w ≡ true
digits_solid w f =
    all_weaker is_digit (is_between 33 126) (λ c d. between 48 57 33 126 c (omega arith) (omega arith) d) w f

pub decimal_solid : (n : ℕ) → n < 2 ^ 64 → is_solid (decimal n) ≡ true
decimal_solid n h = digits_solid (decimal n) (decimal_digits n h)

-- ---- words

-- a word that is spelled and then read
record AgainWord {X : Type 0} (k : WordKind X) : Type 0 where
  solid : (x : X) → k.is_good x ≡ true → is_solid (k.spell x) ≡ true
  form : (x : X) → k.is_good x ≡ true → k.has_form (k.spell x) ≡ true
  range : (x : X) → k.is_good x ≡ true → k.in_range (k.spell x) ≡ true
  back : (x : X) → k.is_good x ≡ true → k.value (k.spell x) ≡ x

name_again : AgainWord name
name_again = record { solid = name_solid; form = λ x g. g; range = λ x g. refl; back = λ x g. refl }

no_null : (n : List ℕ) → is_name n ≡ true → bytes_eq n (codes "null") ≡ false
no_null n f = not-true _ (and_parts _ _ f).1

reference_solid : (x : Reference) → is_good_reference x ≡ true → is_solid (reference_word x) ≡ true
reference_solid Null g = refl
reference_solid (Named n) g = name_solid n g

reference_form : (x : Reference) → is_good_reference x ≡ true → is_reference (reference_word x) ≡ true
reference_form Null g = refl
reference_form (Named n) g = or_right (bytes_eq n (codes "null")) (is_name n) g

reference_back : (x : Reference) → is_good_reference x ≡ true → reference_at (reference_word x) ≡ x
reference_back Null g = refl
reference_back (Named n) g = rw (no_null n g) refl

reference_again : AgainWord reference
reference_again = record { solid = reference_solid; form = reference_form; range = λ x g. refl; back = reference_back }

number_again : (test : ℕ → Bool) → ((n : ℕ) → test n ≡ true → n < 2 ^ 64) → AgainWord (number_if test)
number_again test few = record {
  solid = λ n g. decimal_solid n (few n g);
  form = λ n g. decimal_form n (few n g);
  range = λ n g. ap test (number_decimal n (few n g)) ∙ g;
  back = λ n g. number_decimal n (few n g);
}

count_again : AgainWord count
count_again = number_again _ (few_bits most_count (omega arith))

tries_again : AgainWord tries
tries_again = number_again is_tries (λ n g. few_bits most_count (omega arith) n (and_parts _ _ g).1)

unit_again : AgainWord unit
unit_again = number_again _ (few_bits 65535 (omega arith))

value_solid : (z : ℤ) → is_long z ≡ true → is_solid (signed_decimal z) ≡ true
value_solid (pos n) g = let small = long_above n g in decimal_solid n (omega (arith, small))
value_solid (negsuc n) g = let small = long_below n g in decimal_solid (suc n) (omega (arith, small))

value_word_again : AgainWord value
value_word_again = record {
  solid = value_solid;
  form = value_form;
  range = λ z g. ap is_long (value_again z g) ∙ g;
  back = value_again;
}

mode_solid : (m : Mode) → is_solid (word_of_mode m) ≡ true
mode_solid Copy = refl
mode_solid Commit = refl
mode_solid Abort = refl

mode_form : (m : Mode) → is_mode_word (word_of_mode m) ≡ true
mode_form Copy = refl
mode_form Commit = refl
mode_form Abort = refl

mode_back : (m : Mode) → mode_of (word_of_mode m) ≡ m
mode_back Copy = refl
mode_back Commit = refl
mode_back Abort = refl

mode_again : AgainWord mode
mode_again =
    record { solid = λ m g. mode_solid m; form = λ m g. mode_form m; range = λ m g. refl; back = λ m g. mode_back m }

-- ---- arguments

-- arguments that are spelled and then read
record Again {X : Type 0} (a : Arguments X) : Type 0 where
  solid : (x : X) → a.is_good x ≡ true → list_all is_solid (a.spell x) ≡ true
  form : (x : X) → a.is_good x ≡ true → a.has_form (a.spell x) ≡ true
  range : (x : X) → a.is_good x ≡ true → a.in_range (a.spell x) ≡ true
  back : (x : X) → a.is_good x ≡ true → a.value (a.spell x) ≡ x

nothing_again : Again nothing
nothing_again = record { solid = λ x g. refl; form = λ x g. refl; range = λ x g. refl; back = λ x g. refl }

one_again : {X : Type 0} (k : WordKind X) → AgainWord k → Again (one k)
one_again k t = record {
  solid = λ x g. and_from _ _ (t.solid x g) refl;
  form = t.form;
  range = t.range;
  back = t.back;
}

two_again : {X Y : Type 0} (k : WordKind X) (l : WordKind Y) → AgainWord k → AgainWord l → Again (two k l)
two_again k l t u = record {
  solid = λ x g. let p = and_parts _ _ g in and_from _ _ (t.solid x.0 p.0) (and_from _ _ (u.solid x.1 p.1) refl);
  form = λ x g. let p = and_parts _ _ g in and_from _ _ (t.form x.0 p.0) (u.form x.1 p.1);
  range = λ x g. let p = and_parts _ _ g in and_from _ _ (t.range x.0 p.0) (u.range x.1 p.1);
  back = λ x g. let p = and_parts _ _ g in rw (t.back x.0 p.0, u.back x.1 p.1) refl;
}

three_again : {X Y Z : Type 0} (k : WordKind X) (l : WordKind Y) (m : WordKind Z) → AgainWord k → AgainWord l
    → AgainWord m → Again (three k l m)
three_again k l m t u v = record {
  solid = λ x g.
      let p = and_parts _ _ g in
      let q = and_parts _ _ p.0 in
      and_from _ _ (t.solid x.0 q.0) (and_from _ _ (u.solid x.1 q.1) (and_from _ _ (v.solid x.2 p.1) refl));
  form = λ x g. let p = and_parts _ _ g in let q = and_parts _ _ p.0 in
      and_from _ _ (and_from _ _ (t.form x.0 q.0) (u.form x.1 q.1)) (v.form x.2 p.1);
  range = λ x g. let p = and_parts _ _ g in let q = and_parts _ _ p.0 in
      and_from _ _ (and_from _ _ (t.range x.0 q.0) (u.range x.1 q.1)) (v.range x.2 p.1);
  back = λ x g. let p = and_parts _ _ g in let q = and_parts _ _ p.0 in
      rw (t.back x.0 q.0, u.back x.1 q.1, v.back x.2 p.1) refl;
}

-- what holds of each word that is spelled holds of all
all_spelled : {X : Type 0} (k : WordKind X) (p : List ℕ → Bool) → ((x : X) → k.is_good x ≡ true → p (k.spell x) ≡ true)
    → (xs : List X) → list_all k.is_good xs ≡ true → list_all p (map k.spell xs) ≡ true
all_spelled k p h [] g = refl
all_spelled k p h (x ∷ xs) g = let q = and_parts _ _ g in and_from _ _ (h x q.0) (all_spelled k p h xs q.1)

all_again : {X : Type 0} (k : WordKind X) → AgainWord k → (xs : List X) → list_all k.is_good xs ≡ true
    → map k.value (map k.spell xs) ≡ xs
all_again k t [] g = refl
all_again k t (x ∷ xs) g = let q = and_parts _ _ g in rw (t.back x q.0, all_again k t xs q.1) refl

up_to_again : {X : Type 0} (most : ℕ) (k : WordKind X) → AgainWord k → Again (up_to most k)
up_to_again most k t = record {
  solid = λ xs g. all_spelled k is_solid t.solid xs (and_parts _ _ g).1;
  form = λ xs g.
      let p = and_parts _ _ g in
      and_from _ _ (ap (λ n. nat_le n most) (length-map xs k.spell) ∙ p.0) (all_spelled k k.has_form t.form xs p.1);
  range = λ xs g. all_spelled k k.in_range t.range xs (and_parts _ _ g).1;
  back = λ xs g. all_again k t xs (and_parts _ _ g).1;
}

before_again : {X Y : Type 0} (k : WordKind X) (a : Arguments Y) → AgainWord k → Again a → Again (before k a)
before_again k a t u = record {
  solid = λ x g. let p = and_parts _ _ g in and_from _ _ (t.solid x.0 p.0) (u.solid x.1 p.1);
  form = λ x g.
      let p = and_parts _ _ g in
      and_from _ _ (and_from _ _ (le-leb 1 (length (k.spell x.0 ∷ a.spell x.1)) (omega arith)) (t.form x.0 p.0))
      (u.form x.1 p.1);
  range = λ x g. let p = and_parts _ _ g in and_from _ _ (t.range x.0 p.0) (u.range x.1 p.1);
  back = λ x g. let p = and_parts _ _ g in rw (t.back x.0 p.0, u.back x.1 p.1) refl;
}

-- ---- words, joined and cut again

-- a byte at which no solid word is cut
uncut : (c : ℕ) (w : List ℕ) → c ≤ 32 → is_solid w ≡ true → slice_split (λ b. eqb b c) w ≡ w ∷ []
uncut c [] le h = refl
uncut c (x ∷ xs) le h =
    let p = and_parts _ _ h in
    let q = and_parts _ _ p.0 in
    let low = leb-true 33 x q.0 in
    rw (ne_eqb x c (λ (z : x ≡ c). omega (arith, low, z)), uncut c xs le p.1) refl

cut_behind : (c : ℕ) (w rest : List ℕ) → c ≤ 32 → is_solid w ≡ true
    → slice_split (λ b. eqb b c) (w ++ c ∷ rest) ≡ w ∷ slice_split (λ b. eqb b c) rest
cut_behind c [] rest le h = rw (eq-eqb c c refl) refl
cut_behind c (x ∷ xs) rest le h =
    let p = and_parts _ _ h in
    let q = and_parts _ _ p.0 in
    let low = leb-true 33 x q.0 in
    rw (ne_eqb x c (λ (z : x ≡ c). omega (arith, low, z)), cut_behind c xs rest le p.1) refl

pub words_again : (w : List ℕ) (ws : List (List ℕ)) → list_all is_solid (w ∷ ws) ≡ true
    → words_of (line (w ∷ ws)) ≡ w ∷ ws
words_again w [] h = uncut 32 w (omega arith) (and_parts _ _ h).0
words_again w (v ∷ ws) h =
    let p = and_parts _ _ h in
    cut_behind 32 w (line (v ∷ ws)) (omega arith) p.0 ∙ ap (λ (x : List (List ℕ)). w ∷ x) (words_again v ws p.1)

-- a line of solid words is printable
printable : (w : List ℕ) → is_solid w ≡ true → list_all (is_between 32 126) w ≡ true
printable w h = all_weaker (is_between 33 126) (is_between 32 126)
    (λ c d. between 33 126 32 126 c (omega arith) (omega arith) d) w h

all_joined : (p : ℕ → Bool) (xs ys : List ℕ) → list_all p xs ≡ true → list_all p ys ≡ true
    → list_all p (xs ++ ys) ≡ true
all_joined p [] ys h g = g
all_joined p (x ∷ xs) ys h g = let q = and_parts _ _ h in and_from _ _ q.0 (all_joined p xs ys q.1 g)

pub line_printable : (ws : List (List ℕ)) → list_all is_solid ws ≡ true → list_all (is_between 32 126) (line ws) ≡ true
line_printable [] h = refl
line_printable (w ∷ []) h = printable w (and_parts _ _ h).0
line_printable (w ∷ v ∷ ws) h =
    let p = and_parts _ _ h in all_joined (is_between 32 126) w (32 ∷ line (v ∷ ws)) (printable w p.0)
    (and_from _ _ refl (line_printable (v ∷ ws) p.1))

-- ---- commands

-- every verb is found by its word, two lines for each shape: so each is in the list, and no two have one word
verb_again : (v : Verb) → verb_of (verb_word v) ≡ Some v
unfolding verb_of
verb_again (Make Plain) = refl
verb_again (Make _) = refl
verb_again (MakeFrom Global) = refl
verb_again (MakeFrom _) = refl
verb_again (On on.Drop) = refl
verb_again (On _) = refl
verb_again (OnBoth Same) = refl
verb_again (OnName Post) = refl
verb_again (WithCount Push) = refl
verb_again (WithCount _) = refl
verb_again (MakeSized sized.Boolean) = refl
verb_again (MakeSized _) = refl
verb_again (MakeFilled Objects) = refl
verb_again (MakeText text.String) = refl
verb_again (MakeAt Get) = refl
verb_again (OnAt Load) = refl
verb_again (SetAt set_at.Set) = refl
verb_again (StoreAt Store) = refl
verb_again (OnNameAt named_at.Get) = refl
verb_again (OnNameAt _) = refl
verb_again (PutAt Put) = refl
verb_again (PutAt _) = refl
verb_again (Release releases.Elements) = refl
verb_again (OpenLevel opens.Array) = refl
verb_again (OpenLevel _) = refl
verb_again (CloseLevel Newest) = refl
verb_again (OfRoom Collect) = refl
verb_again (WithTries CollectAnnounced) = refl

-- the word of a verb can be told from spaces, and from a thread line's
abbrev can_begin : Verb → Bool
can_begin v = is_solid (verb_word v) && not (bytes_eq (verb_word v) (codes "thread"))

begins_at : (p q : Verb → Bool) (u v : Verb) (rest : Option Verb) (b : Bool) → p u ≡ b → q u ≡ true
    → (rest ≡ Some v → q v ≡ true) → cond b (Some u) rest ≡ Some v → q v ≡ true
begins_at p q u v rest true h g ih e = let same : u ≡ v = cc in rw (← same) g
begins_at p q u v rest false h g ih e = ih e

-- what holds of each in a list holds of what is found in it
found_so : (p q : Verb → Bool) (vs : List Verb) (v : Verb) → list_all q vs ≡ true → find p vs ≡ Some v → q v ≡ true
found_so p q [] v h e = absurd cc
found_so p q (u ∷ vs) v h e = let a = and_parts _ _ h in
    begins_at p q u v (find p vs) (p u) refl a.0 (found_so p q vs v a.1) e

verb_begins : (v : Verb) → can_begin v ≡ true
unfolding verb_of
verb_begins v = found_so (λ u. bytes_eq (verb_word u) (verb_word v)) can_begin VERBS v refl (verb_again v)

-- what the line of a command is read as
pub record IsLineOf (ws : List (List ℕ)) (c : Command) : Type 0 where
  pub plain : thread.has_form ws ≡ false
  pub solid : list_all is_solid ws ≡ true
  pub form : line_has_form ws ≡ true
  pub range : line_in_range ws ≡ true
  pub command : line_command ws ≡ Some c

-- the line of a verb and its arguments
by : {X : Type 0} (a : Arguments X) → Again a → (v : Verb) → (make : X → Command)
    → ((ws : List (List ℕ)) → (behind_verb v).has_form ws ≡ a.has_form ws)
    → ((ws : List (List ℕ)) → (behind_verb v).in_range ws ≡ a.in_range ws)
    → ((ws : List (List ℕ)) → (behind_verb v).value ws ≡ make (a.value ws)) → (x : X) → a.is_good x ≡ true
    → IsLineOf (verb_word v ∷ a.spell x) (make x)
unfolding line_has_form line_in_range line_command
by a t v make f r m x g = let begins = and_parts _ _ (verb_begins v) in record {
  plain = not_all (leb 1 (length (verb_word v ∷ a.spell x))) (bytes_eq (verb_word v) (codes "thread")) _
      (not-true _ begins.1);
  solid = and_from _ _ begins.0 (t.solid x g);
  form = ap (λ o. option_map_or (λ u. (behind_verb u).has_form (a.spell x)) o false) (verb_again v) ∙ f (a.spell x)
      ∙ t.form x g;
  range = ap (λ o. option_map_or (λ u. (behind_verb u).in_range (a.spell x)) o false) (verb_again v) ∙ r (a.spell x)
      ∙ t.range x g;
  command = ap (λ o. option_map (λ u. (behind_verb u).value (a.spell x)) o) (verb_again v)
      ∙ ap (λ k. Some k) (m (a.spell x) ∙ ap make (t.back x g));
}

-- a line for each shape
pub command_again : (c : Command) → is_command c ≡ true → IsLineOf (words_of_command c) c
unfolding behind_verb spelling_of
command_again (commands.Make v n) g =
    by _ (one_again name name_again) (Make v) (λ x. commands.Make v x) (λ _. refl) (λ _. refl) (λ _. refl) n g
command_again (commands.MakeFrom v n r) g = by _ (two_again name reference name_again reference_again) (MakeFrom v)
    (λ x. commands.MakeFrom v x.0 x.1) (λ _. refl) (λ _. refl) (λ _. refl) (n, r) g
command_again (commands.On v r) g =
    by _ (one_again reference reference_again) (On v) (λ x. commands.On v x) (λ _. refl) (λ _. refl) (λ _. refl) r g
command_again (commands.OnBoth v l r) g = by _ (two_again reference reference reference_again reference_again)
    (OnBoth v) (λ x. commands.OnBoth v x.0 x.1) (λ _. refl) (λ _. refl) (λ _. refl) (l, r) g
command_again (commands.OnName v n) g =
    by _ (one_again name name_again) (OnName v) (λ x. commands.OnName v x) (λ _. refl) (λ _. refl) (λ _. refl) n g
command_again (commands.WithCount v n) g = by _ (one_again count count_again) (WithCount v)
    (λ x. commands.WithCount v x) (λ _. refl) (λ _. refl) (λ _. refl) n g
command_again (commands.MakeSized v n l) g = by _ (two_again name count name_again count_again) (MakeSized v)
    (λ x. commands.MakeSized v x.0 x.1) (λ _. refl) (λ _. refl) (λ _. refl) (n, l) g
command_again (commands.MakeFilled v n l r) g =
    by _ (three_again name count reference name_again count_again reference_again) (MakeFilled v)
    (λ x. commands.MakeFilled v x.0 x.1 x.2) (λ _. refl) (λ _. refl) (λ _. refl) (n, l, r) g
command_again (commands.MakeText v n us) g =
    by _ (before_again name units name_again (up_to_again most_units unit unit_again)) (MakeText v)
    (λ x. commands.MakeText v x.0 x.1) (λ _. refl) (λ _. refl) (λ _. refl) (n, us) g
command_again (commands.MakeAt v n r i) g =
    by _ (three_again name reference count name_again reference_again count_again) (MakeAt v)
    (λ x. commands.MakeAt v x.0 x.1 x.2) (λ _. refl) (λ _. refl) (λ _. refl) (n, r, i) g
command_again (commands.OnAt v r i) g = by _ (two_again reference count reference_again count_again) (OnAt v)
    (λ x. commands.OnAt v x.0 x.1) (λ _. refl) (λ _. refl) (λ _. refl) (r, i) g
command_again (commands.SetAt v r i q) g =
    by _ (three_again reference count reference reference_again count_again reference_again) (SetAt v)
    (λ x. commands.SetAt v x.0 x.1 x.2) (λ _. refl) (λ _. refl) (λ _. refl) (r, i, q) g
command_again (commands.StoreAt v r i x) g =
    by _ (three_again reference count value reference_again count_again value_word_again) (StoreAt v)
    (λ y. commands.StoreAt v y.0 y.1 y.2) (λ _. refl) (λ _. refl) (λ _. refl) (r, i, x) g
command_again (commands.OnNameAt v n i) g = by _ (two_again name count name_again count_again) (OnNameAt v)
    (λ x. commands.OnNameAt v x.0 x.1) (λ _. refl) (λ _. refl) (λ _. refl) (n, i) g
command_again (commands.PutAt v n i x) g = by _ (three_again name count value name_again count_again value_word_again)
    (PutAt v) (λ y. commands.PutAt v y.0 y.1 y.2) (λ _. refl) (λ _. refl) (λ _. refl) (n, i, x) g
command_again (commands.Release v n r m) g =
    by _ (three_again name reference mode name_again reference_again mode_again) (Release v)
    (λ x. commands.Release v x.0 x.1 x.2) (λ _. refl) (λ _. refl) (λ _. refl) (n, r, m) g
command_again (commands.OpenLevel v n r) g = by _ (two_again name reference name_again reference_again) (OpenLevel v)
    (λ x. commands.OpenLevel v x.0 x.1) (λ _. refl) (λ _. refl) (λ _. refl) (n, r) g
command_again (commands.CloseLevel v m) g = by _ (one_again mode mode_again) (CloseLevel v)
    (λ x. commands.CloseLevel v x) (λ _. refl) (λ _. refl) (λ _. refl) m g
command_again (commands.OfRoom v) g =
    by _ nothing_again (OfRoom v) (λ x. commands.OfRoom v) (λ _. refl) (λ _. refl) (λ _. refl) tt g
command_again (commands.WithTries v n) g = by _ (one_again tries tries_again) (WithTries v)
    (λ x. commands.WithTries v x) (λ _. refl) (λ _. refl) (λ _. refl) n g
