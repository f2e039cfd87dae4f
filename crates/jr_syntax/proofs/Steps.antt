-- A line behind the lines so far: what was read with it follows the lines with it.
use Rattle.std.proofs.Common.{◌≡◌, ℕ, zero, suc, ◌+◌, ◌<◌, ◌≤◌, Bool, true, false, cond, List, [], ◌∷◌, ◌++◌, length}
use Rattle.std.proofs.Common.{map, Option, Some, None, refl, sym, ap, subst, ◌∙◌, append_assoc, arith, leb, eqb}
use Rattle.std.specs.Prelude.{codes, ◌||◌, not, filter, is_none, if◌then◌else◌}
use Rattle.std.specs.Option.{option_map, option_map_or}
use Rattle.std.specs.List.{list_all, list_any, flat_map}
use Rattle.std.specs.Str.{bytes_eq}
use Rattle.std.proofs.lemmas.Bool.{and_parts, and_from, leb-false, eqb-true, false≢true, not-true, ne_eqb}
use Rattle.std.proofs.lemmas.List.{length-append, append-nil, map-append}
use Rattle.std.proofs.lemmas.List.Elements.{filter-append}
use Rattle.std.proofs.lemmas.List.Folds.{list_any-append}
use Rattle.std.proofs.lemmas.List.Splits.{join_with_byte-slice_split}
use Rattle.std.proofs.lemmas.Slice.Eq.{bytes_eq-Decides}
use Rattle.std.proofs.lemmas.Grind.{flat_map-append}
use Rattle.jr_word.specs.declared.config.Config.{Config}
use Rattle.jr_word.specs.Config.{in_limits}
use Rattle.jr_syntax.specs.declared.draft.Draft.{Draft}
use Rattle.jr_syntax.specs.declared.command.Command.{Command}
use Rattle.jr_syntax.specs.declared.command.Command.TheVariants as commands
use Rattle.jr_syntax.specs.declared.verb.OnName.TheVariants.{Post}
use Rattle.jr_syntax.specs.declared.thread.ThreadPart.{ThreadPart}
use Rattle.jr_syntax.specs.Name.{is_name}
use Rattle.jr_syntax.specs.Line.{Line, line, words_of, word_at}
use Rattle.jr_syntax.specs.Command.{line_has_form, line_in_range, line_command, is_command, words_of_command}
use Rattle.jr_syntax.specs.Script.{vm, thread, part_lines, script_lines, names_of, posted, posts_of, is_part, all_apart}
use Rattle.jr_syntax.specs.Faults.{first_fit, threads_in, names_in, posts_in, share, is_thread_line, second_word}
use Rattle.jr_syntax.specs.Draft.{parts_of, rows, thread_rows, command_rows, with_command, begun, Grown}
use Rattle.jr_syntax.proofs.ReadIsSpelled.{words_1, line_takes}
use Rattle.jr_syntax.proofs.Rows.{Follows, rows_none, thread_rows_none, command_rows_none}
use Rattle.jr_syntax.proofs.Posts.{posts_more, posted_of, thread_posts_nothing, posts_begun, posts_with}

-- the words of a line, joined again
pub joined : (l : List ℕ) → line (words_of l) ≡ l
joined l = join_with_byte-slice_split 32 l

-- ---- the names and threads of one more line

one_name : (l : List ℕ) (b : Bool) → map second_word (cond b (l ∷ []) []) ≡ cond b (second_word l ∷ []) []
one_name l true = refl
one_name l false = refl

pub names_more : (before : List (List ℕ)) (l : List ℕ)
    → names_in (before ++ l ∷ []) ≡ names_in before ++ cond (is_thread_line l) (second_word l ∷ []) []
names_more before l =
    ap (map second_word) (filter-append is_thread_line before (l ∷ []))
    ∙ map-append second_word (filter is_thread_line before) (filter is_thread_line (l ∷ []))
    ∙ ap (λ (x : List (List ℕ)). names_in before ++ x) (one_name l (is_thread_line l))

pub threads_more : (before : List (List ℕ)) (l : List ℕ) → 1 ≤ length before
    → threads_in (before ++ l ∷ []) ≡ threads_in before
threads_more [] l h = absurd (omega arith)
threads_more (x ∷ xs) l h = refl

-- ---- one more name

pub or_false : (a b : Bool) → (a || b) ≡ false → (a ≡ false) × (b ≡ false)
or_false true b h = absurd (false≢true (sym h))
or_false false b h = (refl, h)

pub or_from : (a b : Bool) → a ≡ false → b ≡ false → (a || b) ≡ false
or_from true b h g = h
or_from false b h g = g

pub other_way : (x y : List ℕ) (b : Bool) → bytes_eq y x ≡ b → bytes_eq x y ≡ false → b ≡ false
other_way x y false e h = refl
other_way x y true e h = absurd (false≢true (sym h ∙ (bytes_eq-Decides x y).1 (sym ((bytes_eq-Decides y x).0 e))))

not_from : (b : Bool) → b ≡ false → not b ≡ true
not_from b h = rw h refl

apart_more : (xs : List (List ℕ)) (x : List ℕ) → all_apart xs ≡ true → list_any (bytes_eq x) xs ≡ false
    → all_apart (xs ++ x ∷ []) ≡ true
apart_more [] x h n = refl
apart_more (y ∷ ys) x h n =
    let p = and_parts _ _ h in
    let q = or_false (bytes_eq x y) (list_any (bytes_eq x) ys) n in
    let new : list_any (bytes_eq y) (ys ++ x ∷ []) ≡ false = list_any-append (bytes_eq y) ys (x ∷ [])
    ∙ or_from _ _ (not-true _ p.0) (or_from _ _ (other_way x y (bytes_eq y x) refl q.0) refl) in
    and_from _ _ (not_from _ new) (apart_more ys x p.1 q.1)

-- what a command posts, where none of it was posted before
apart_posted : (xs : List (List ℕ)) (c : Command) → all_apart xs ≡ true → share (posted c) xs ≡ false
    → all_apart (xs ++ posted c) ≡ true
apart_posted xs (commands.OnName Post n) h new = apart_more xs n h (or_false (list_any (bytes_eq n) xs) false new).0
apart_posted xs _ h new = ap all_apart (append-nil xs) ∙ h

-- ---- one more part

all_append : {X : Type 0} (p : X → Bool) (xs : List X) (x : X) → list_all p xs ≡ true → p x ≡ true
    → list_all p (xs ++ x ∷ []) ≡ true
all_append p [] x h g = and_from _ _ g refl
all_append p (y ∷ ys) x h g = let q = and_parts _ _ h in and_from _ _ q.0 (all_append p ys x q.1 g)

thread_words : (ws : List (List ℕ)) → thread.has_form ws ≡ true
    → (thread.spell (thread.value ws) ≡ ws) × (is_name (thread.value ws) ≡ true)
thread_words [] h = absurd (false≢true h)
thread_words (w ∷ ws) h =
    let p = and_parts _ _ h in
    let q = and_parts _ _ p.0 in
    let r = and_parts _ _ p.1 in
    let first : w ≡ codes "thread" = (bytes_eq-Decides w (codes "thread")).0 q.1 in
    let second : word_at ws 0 ∷ [] ≡ ws = words_1 ws (eqb-true _ _ r.0) in
    (ap (λ (x : List (List ℕ)). codes "thread" ∷ x) second ∙ ap (λ (x : List ℕ). x ∷ ws) (sym first), r.1)

script_more : (c : Config) (ps qs : List ThreadPart) (before : List (List ℕ)) (l : List ℕ) → before ≡ script_lines c ps
    → flat_map part_lines qs ≡ flat_map part_lines ps ++ l ∷ [] → before ++ l ∷ [] ≡ script_lines c qs
script_more c ps qs before l e h =
    ap (λ (x : List (List ℕ)). x ++ l ∷ []) e ∙ ap (λ (x : List (List ℕ)). line (vm.spell c) ∷ x) (sym h)

lines_begun : (ps : List ThreadPart) (n : List ℕ)
    → flat_map part_lines (ps ++ begun n ∷ []) ≡ flat_map part_lines ps ++ line (thread.spell n) ∷ []
lines_begun ps n = flat_map-append part_lines ps (begun n ∷ [])

not_none : (n : ℕ) → eqb (n + 1) 0 ≡ false
not_none n = ne_eqb (n + 1) 0 (λ (z : n + 1 ≡ 0). omega (arith, z))

grown_thread : (before : List (List ℕ)) (d : Draft) (l : List ℕ) (new : Draft) → Follows before d
    → length before + 1 ≤ 4096 → thread.has_form (words_of l) ≡ true
    → first_fit (thread_rows d (thread.value (words_of l))) ≡ None → new.config ≡ d.config
    → parts_of new ≡ parts_of d ++ begun (thread.value (words_of l)) ∷ [] → is_none new.last ≡ false
    → Follows (before ++ l ∷ []) new
grown_thread before d l new f few t none same whole last =
    let ws = words_of l in
    let n = thread.value ws in
    let p = begun n in
    let w = thread_words ws t in
    let a = thread_rows_none (leb d.config.threads (length (parts_of d)))
    (list_any (bytes_eq n) (names_of (parts_of d))) none in
    let room : length (parts_of d) < d.config.threads = leb-false _ _ a.0 in
    let long : 1 ≤ length before = rw f.lines (omega arith) in
    let more : length (parts_of new) ≡ length (parts_of d) + 1 =
    ap length whole ∙ length-append (parts_of d) (p ∷ []) in
    let spelled : line (thread.spell n) ≡ l = ap line w.0 ∙ joined l in
    let P : Config → Type 0 = λ c. before ++ l ∷ [] ≡ script_lines c (parts_of new) in
    record {
      lines = subst P (sym same)
          (script_more d.config (parts_of d) (parts_of new) before l f.lines (ap (flat_map part_lines) whole
          ∙ lines_begun (parts_of d) n ∙ ap (λ (x : List ℕ). flat_map part_lines (parts_of d) ++ x ∷ []) spelled));
      few_lines = rw length-append (omega arith);
      threads = threads_more before l long ∙ f.threads ∙ ap (λ (c : Config). c.threads) (sym same);
      names = names_more before l
          ∙ rw (t, f.names) (sym (ap names_of whole ∙ map-append (λ (q : ThreadPart). q.name) (parts_of d) (p ∷ [])));
      config = ap in_limits same ∙ f.config;
      few = omega (arith, more, ap (λ (c : Config). c.threads) same);
      good = ap (list_all is_part) whole ∙ all_append is_part (parts_of d) p f.good (and_from _ _ w.1 refl);
      apart = ap (λ (x : List ThreadPart). all_apart (names_of x)) whole
          ∙ ap all_apart (map-append (λ (q : ThreadPart). q.name) (parts_of d) (p ∷ []))
          ∙ apart_more (names_of (parts_of d)) n f.apart a.1;
      posts = posts_more before l ∙ ap (λ (x : List (List ℕ)). posts_in before ++ x) (thread_posts_nothing l t)
          ∙ append-nil (posts_in before) ∙ f.posts ∙ sym (ap posts_of whole ∙ posts_begun (parts_of d) n);
      once = ap all_apart (ap posts_of whole ∙ posts_begun (parts_of d) n) ∙ f.once;
      opened = last ∙ sym (ap (λ k. eqb k 0) more ∙ not_none (length (parts_of d)));
    }

-- ---- a command more in the last part

lines_with : (ps : List ThreadPart) (c : Command) → 1 ≤ length ps
    → flat_map part_lines (with_command ps c) ≡ flat_map part_lines ps ++ line (words_of_command c) ∷ []
lines_with [] c h = absurd (omega arith)
lines_with (p ∷ []) c h = ap (λ (x : List (List ℕ)). line (thread.spell p.name) ∷ x) (append-nil _
    ∙ map-append (λ d. line (words_of_command d)) p.commands (c ∷ []) ∙ ap (λ (x : List (List ℕ)).
    x ++ line (words_of_command c) ∷ []) (sym (append-nil (map (λ d. line (words_of_command d)) p.commands))))
lines_with (p ∷ q ∷ ps) c h =
    ap (λ (x : List (List ℕ)). part_lines p ++ x) (lines_with (q ∷ ps) c (omega arith))
    ∙ sym (append_assoc (part_lines p) (flat_map part_lines (q ∷ ps)) (line (words_of_command c) ∷ []))

names_with : (ps : List ThreadPart) (c : Command) → names_of (with_command ps c) ≡ names_of ps
names_with [] c = refl
names_with (p ∷ []) c = refl
names_with (p ∷ q ∷ ps) c = ap (λ (x : List (List ℕ)). p.name ∷ x) (names_with (q ∷ ps) c)

length_with : (ps : List ThreadPart) (c : Command) → length (with_command ps c) ≡ length ps
length_with [] c = refl
length_with (p ∷ []) c = refl
length_with (p ∷ q ∷ ps) c = ap (λ n. suc n) (length_with (q ∷ ps) c)

good_with : (ps : List ThreadPart) (c : Command) → list_all is_part ps ≡ true → is_command c ≡ true
    → list_all is_part (with_command ps c) ≡ true
good_with [] c h g = refl
good_with (p ∷ []) c h g =
    let q = and_parts _ _ (and_parts _ _ h).0 in
    and_from _ _ (and_from _ _ q.0 (all_append is_command p.commands c q.1 g)) refl
good_with (p ∷ q ∷ ps) c h g = let r = and_parts _ _ h in and_from _ _ r.0 (good_with (q ∷ ps) c r.1 g)

at_least_one : (n : ℕ) → eqb n 0 ≡ false → 1 ≤ n
at_least_one zero h = absurd (false≢true (sym h))
at_least_one (suc n) h = omega arith

grown_command : (before : List (List ℕ)) (d : Draft) (l : List ℕ) (new : Draft) (c : Command) → Follows before d
    → length before + 1 ≤ 4096 → thread.has_form (words_of l) ≡ false → first_fit (command_rows d (words_of l)) ≡ None
    → line_command (words_of l) ≡ Some c → new.config ≡ d.config → parts_of new ≡ with_command (parts_of d) c
    → is_none new.last ≡ false → Follows (before ++ l ∷ []) new
grown_command before d l new c f few t none found same parts last =
    let ws = words_of l in
    let a = command_rows_none (is_none d.last) (line_has_form ws) (line_in_range ws)
    (share (option_map_or posted (line_command ws) []) (posts_of (parts_of d))) none in
    let fresh : share (posted c) (posts_of (parts_of d)) ≡ false =
    ap (λ (o : Option Command). share (option_map_or posted o []) (posts_of (parts_of d))) (sym found) ∙ a.3 in
    let w = line_takes ws c a.1 a.2 found in
    let some : 1 ≤ length (parts_of d) = at_least_one (length (parts_of d)) (sym f.opened ∙ a.0) in
    let long : 1 ≤ length before = rw f.lines (omega arith) in
    let more : length (parts_of new) ≡ length (parts_of d) = ap length parts ∙ length_with (parts_of d) c in
    let spelled : line (words_of_command c) ≡ l = ap line w.0 ∙ joined l in
    let P : Config → Type 0 = λ k. before ++ l ∷ [] ≡ script_lines k (parts_of new) in
    record {
      lines = subst P (sym same)
          (script_more d.config (parts_of d) (parts_of new) before l f.lines (ap (flat_map part_lines) parts
          ∙ lines_with (parts_of d) c some ∙ ap (λ (x : List ℕ). flat_map part_lines (parts_of d) ++ x ∷ []) spelled));
      few_lines = rw length-append (omega arith);
      threads = threads_more before l long ∙ f.threads ∙ ap (λ (k : Config). k.threads) (sym same);
      names = names_more before l ∙ rw t (append-nil (names_in before)) ∙ f.names
          ∙ sym (ap names_of parts ∙ names_with (parts_of d) c);
      config = ap in_limits same ∙ f.config;
      few = omega (arith, more, ap (λ (k : Config). k.threads) same);
      good = ap (list_all is_part) parts ∙ good_with (parts_of d) c f.good w.1;
      apart = ap all_apart (ap names_of parts ∙ names_with (parts_of d) c) ∙ f.apart;
      posts = posts_more before l ∙ ap (λ (x : List (List ℕ)). posts_in before ++ x) (posted_of l (Some c) found)
          ∙ ap (λ (x : List (List ℕ)). x ++ posted c) f.posts
          ∙ sym (ap posts_of parts ∙ posts_with (parts_of d) c some);
      once = ap all_apart (ap posts_of parts ∙ posts_with (parts_of d) c some)
          ∙ apart_posted (posts_of (parts_of d)) c f.once fresh;
      opened = last ∙ sym (ap (λ k. eqb k 0) more ∙ sym f.opened ∙ a.0);
    }

-- ---- either of them

grown_at : (before : List (List ℕ)) (d : Draft) (l : List ℕ) (new : Draft) (t : Bool) (o : Option Command)
    → Follows before d → length before + 1 ≤ 4096 → thread.has_form (words_of l) ≡ t → line_command (words_of l) ≡ o
    → first_fit (if t then thread_rows d (thread.value (words_of l)) else command_rows d (words_of l)) ≡ None
    → new.config ≡ d.config
    → Some (parts_of new) ≡ (if t then Some (parts_of d ++ begun (thread.value (words_of l)) ∷ [])
    else option_map (with_command (parts_of d)) o) → is_none new.last ≡ false → Follows (before ++ l ∷ []) new
grown_at before d l new true o f few t found none same parts last =
    grown_thread before d l new f few t none same (cc) last
grown_at before d l new false None f few t found none same parts last = absurd cc
grown_at before d l new false (Some c) f few t found none same parts last =
    grown_command before d l new c f few t none found same (cc) last

pub grown : (before : List (List ℕ)) (d : Draft) (l : Line) (number : ℕ) (new : Draft) → Follows before d
    → number ≡ length before + 1 → first_fit (rows number d l) ≡ None → Grown d l.0 new
    → Follows (before ++ l.0 ∷ []) new
grown before d l number new f e none g =
    let h = rows_none number d l none in
    grown_at before d l.0 new (thread.has_form (words_of l.0)) (line_command (words_of l.0)) f (omega (arith, h.0)) refl
    refl h.2 g.0 g.1 g.2
