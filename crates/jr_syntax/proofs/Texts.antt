-- The text of a script has no fault, and is the text of no other script.
use Rattle.std.proofs.Common.{◌≡◌, ℕ, suc, ◌+◌, ◌<◌, ◌≤◌, Bool, true, false, cond, List, []}
use Rattle.std.proofs.Common.{◌∷◌, ◌++◌, length, map, Option, Some, None, Result, Ok, Err}
use Rattle.std.proofs.Common.{refl, sym, ap, subst, ◌∙◌, append_assoc, arith, ltb, leb, eqb}
use Rattle.std.specs.Prelude.{codes, ◌&&◌, not, if◌then◌else◌, IfOk, IfErr}
use Rattle.std.specs.Option.{option_map_or}
use Rattle.std.specs.List.{list_all, list_any, flat_map, slice_split}
use Rattle.std.specs.Str.{bytes_eq}
use Rattle.std.proofs.lemmas.Bool.{and_parts, and_from, leb-true, lt-leb, le-ltb, ne_eqb, false≢true, not-true}
use Rattle.std.proofs.lemmas.List.{length-append, length-map, append-nil, map-append}
use Rattle.std.proofs.lemmas.List.Folds.{list_any-append}
use Rattle.jr_word.specs.declared.config.Config.{Config}
use Rattle.jr_word.specs.Config.{is_between, in_limits}
use Rattle.jr_syntax.specs.declared.command.Command.{Command}
use Rattle.jr_syntax.specs.declared.command.Command.TheVariants as commands
use Rattle.jr_syntax.specs.declared.verb.OnName.TheVariants.{Post}
use Rattle.jr_syntax.specs.declared.fault.Reason.{Reason}
use Rattle.jr_syntax.specs.declared.fault.Reason.TheVariants.{TooLong, UnfinishedLine, NotAscii, VmLineExpected}
use Rattle.jr_syntax.specs.declared.fault.Reason.TheVariants.{ThreadLineExpected, TooManyThreads, NameUsedTwice}
use Rattle.jr_syntax.specs.declared.fault.Reason.TheVariants.{CommandExpected, NumberOutOfRange, PostedTwice}
use Rattle.jr_syntax.specs.declared.fault.ScriptFault.{ScriptFault}
use Rattle.jr_syntax.specs.declared.fault.ScriptFault.TheVariants as script_faults
use Rattle.jr_syntax.specs.declared.thread.ThreadPart.{ThreadPart}
use Rattle.jr_syntax.specs.declared.script.Script.{Script}
use Rattle.jr_syntax.specs.Name.{is_name}
use Rattle.jr_syntax.specs.Line.{Line, line, lines_of, words_of, word_at}
use Rattle.jr_syntax.specs.Command.{words_of_command, is_command, line_has_form, line_in_range, line_command}
use Rattle.jr_syntax.specs.Script.{vm, thread, config_at, part_lines, script_lines, text_of}
use Rattle.jr_syntax.specs.Script.{names_of, posted, posts_of, is_part, all_apart, IsScript}
use Rattle.jr_syntax.specs.Faults.{first_fit, fault_of, first_fault_behind, first_fault}
use Rattle.jr_syntax.specs.Faults.{threads_in, names_in, posted_by, posts_in, share, second_word}
use Rattle.jr_syntax.specs.Parse.{IsFaultOf, ReadsAs}
use Rattle.jr_syntax.proofs.Cuts.{lines_of_more}
use Rattle.jr_syntax.proofs.DecimalLaws.{number_decimal, decimal_form}
use Rattle.jr_syntax.proofs.VmLaws.{vm_plain, config_fits}
use Rattle.jr_syntax.proofs.Steps.{names_more, threads_more, other_way, or_false, or_from}
use Rattle.jr_syntax.proofs.Posts.{posts_more, posted_of, thread_posts_nothing, vm_is_no_command}
use Rattle.jr_syntax.proofs.Reading.{finished, some_lines, table_first}
use Rattle.jr_syntax.proofs.SpelledIsRead.{is_solid, name_solid, decimal_solid}
use Rattle.jr_syntax.proofs.SpelledIsRead.{words_again, line_printable, command_again}

-- ---- lines, joined and cut again

cut_line : (l rest : List ℕ) → list_all (is_between 32 126) l ≡ true
    → slice_split (λ b. eqb b 10) (l ++ 10 ∷ rest) ≡ l ∷ slice_split (λ b. eqb b 10) rest
cut_line [] rest h = refl
cut_line (x ∷ xs) rest h =
    let p = and_parts _ _ h in
    let q = and_parts _ _ p.0 in
    let low = leb-true 32 x q.0 in
    rw (ne_eqb x 10 (λ (z : x ≡ 10). omega (arith, low, z)), cut_line xs rest p.1) refl

lines_again : (ls : List (List ℕ)) → list_all (list_all (is_between 32 126)) ls ≡ true
    → lines_of (flat_map (λ l. l ++ 10 ∷ []) ls) ≡ map finished ls
lines_again [] h = refl
lines_again (l ∷ ls) h =
    let p = and_parts _ _ h in
    let rest = flat_map (λ k. k ++ 10 ∷ []) ls in
    ap lines_of (append_assoc l (10 ∷ []) rest)
    ∙ lines_of_more (l ++ 10 ∷ rest) l rest (cut_line l rest p.0)
    ∙ ap (λ (x : List Line). finished l ∷ x) (lines_again ls p.1)

-- ---- a thread line and a command's line

thread_solid : (n : List ℕ) → is_name n ≡ true → list_all is_solid (thread.spell n) ≡ true
thread_solid n h = and_from _ _ refl (and_from _ _ (name_solid n h) refl)

thread_again : (n : List ℕ) → is_name n ≡ true → words_of (line (thread.spell n)) ≡ thread.spell n
thread_again n h = words_again (codes "thread") (n ∷ []) (thread_solid n h)

thread_form : (n : List ℕ) → is_name n ≡ true → thread.has_form (thread.spell n) ≡ true
thread_form n h = h

words_back : (ws : List (List ℕ)) → line_has_form ws ≡ true → list_all is_solid ws ≡ true → words_of (line ws) ≡ ws
unfolding line_has_form
words_back [] f h = absurd (false≢true f)
words_back (w ∷ ws) f h = words_again w ws h

command_words : (c : Command) → is_command c ≡ true → words_of (line (words_of_command c)) ≡ words_of_command c
command_words c h = let k = command_again c h in words_back (words_of_command c) k.form k.solid

-- ---- the lines of parts are read as the parts

-- the commands before the first thread line, and the parts
abbrev read_one : Option Command → List Command × List ThreadPart → List Command × List ThreadPart
read_one None r = r
read_one (Some c) r = (c ∷ r.0, r.1)

-- a part with commands
abbrev part : List ℕ → List Command → ThreadPart
part n cs = record { name = n; commands = cs }

-- a line of words is read by its words
abbrev read_words : List (List ℕ) → List Command × List ThreadPart → List Command × List ThreadPart
read_words ws r = if thread.has_form ws then ([], part (thread.value ws) r.0 ∷ r.1) else read_one (line_command ws) r

abbrev read_lines : List (List ℕ) → List Command × List ThreadPart
read_lines [] = ([], [])
read_lines (l ∷ ls) = read_words (words_of l) (read_lines ls)

read_commands : (cs : List Command) (rest : List (List ℕ)) (ps : List ThreadPart) → list_all is_command cs ≡ true
    → read_lines rest ≡ ([], ps) → read_lines (map (λ c. line (words_of_command c)) cs ++ rest) ≡ (cs, ps)
read_commands [] rest ps h e = e
read_commands (c ∷ cs) rest ps h e =
    let p = and_parts _ _ h in
    let k = command_again c p.0 in
    rw (command_words c p.0, k.plain, k.command, read_commands cs rest ps p.1 e) refl

read_named : (n : List ℕ) (r : List Command × List ThreadPart) → is_name n ≡ true
    → read_words (thread.spell n) r ≡ ([], part n r.0 ∷ r.1)
read_named n r h = rw h refl

read_thread : (n : List ℕ) (ls : List (List ℕ)) (cs : List Command) (ps : List ThreadPart) → is_name n ≡ true
    → read_lines ls ≡ (cs, ps) → read_lines (line (thread.spell n) ∷ ls) ≡ ([], part n cs ∷ ps)
read_thread n ls cs ps h e =
    ap (λ (ws : List (List ℕ)). read_words ws (read_lines ls)) (thread_again n h)
    ∙ ap (λ (r : List Command × List ThreadPart). read_words (thread.spell n) r) e
    ∙ read_named n (cs, ps) h

read_parts : (ps : List ThreadPart) → list_all is_part ps ≡ true → read_lines (flat_map part_lines ps) ≡ ([], ps)
read_parts [] h = refl
read_parts (p ∷ ps) h =
    let q = and_parts _ _ h in
    let r = and_parts _ _ q.0 in
    read_thread p.name (map (λ c. line (words_of_command c)) p.commands ++ flat_map part_lines ps) p.commands ps r.0
    (read_commands p.commands (flat_map part_lines ps) ps r.1 (read_parts ps q.1))

-- ---- the first line

vm_again : (c : Config) → in_limits c ≡ true
    → (config_at (vm.spell c) ≡ c) × (list_all is_solid (vm.spell c) ≡ true) × (vm.has_form (vm.spell c) ≡ true)
vm_again c h =
    let s = config_fits c h in (
      rw (
        number_decimal c.threads s.threads,
        number_decimal c.slots s.slots,
        number_decimal c.objects s.objects,
        number_decimal c.words s.words,
        number_decimal c.locals s.locals,
      ) refl,
      rw (
        decimal_solid c.threads s.threads,
        decimal_solid c.slots s.slots,
        decimal_solid c.objects s.objects,
        decimal_solid c.words s.words,
        decimal_solid c.locals s.locals,
      ) refl,
      rw (
        decimal_form c.threads s.threads,
        decimal_form c.slots s.slots,
        decimal_form c.objects s.objects,
        decimal_form c.words s.words,
        decimal_form c.locals s.locals,
      ) refl,
    )

vm_words_again : (c : Config) → in_limits c ≡ true → words_of (line (vm.spell c)) ≡ vm.spell c
vm_words_again c h = words_again (codes "vm") _ (vm_again c h).1

-- ---- every line is printable

commands_printable : (cs : List Command) → list_all is_command cs ≡ true
    → list_all (list_all (is_between 32 126)) (map (λ c. line (words_of_command c)) cs) ≡ true
commands_printable [] h = refl
commands_printable (c ∷ cs) h =
    let p = and_parts _ _ h in
    and_from _ _ (line_printable (words_of_command c) (command_again c p.0).solid) (commands_printable cs p.1)

all_both : {X : Type 0} (p : X → Bool) (xs ys : List X) → list_all p xs ≡ true → list_all p ys ≡ true
    → list_all p (xs ++ ys) ≡ true
all_both p [] ys h g = g
all_both p (x ∷ xs) ys h g = let q = and_parts _ _ h in and_from _ _ q.0 (all_both p xs ys q.1 g)

parts_printable : (ps : List ThreadPart) → list_all is_part ps ≡ true
    → list_all (list_all (is_between 32 126)) (flat_map part_lines ps) ≡ true
parts_printable [] h = refl
parts_printable (p ∷ ps) h =
    let q = and_parts _ _ h in
    let r = and_parts _ _ q.0 in
    and_from _ _ (line_printable (thread.spell p.name) (thread_solid p.name r.0))
    (all_both (list_all (is_between 32 126)) (map (λ c. line (words_of_command c)) p.commands) (flat_map part_lines ps)
    (commands_printable p.commands r.1) (parts_printable ps q.1))

script_printable : (s : Script) → IsScript s
    → list_all (list_all (is_between 32 126)) (script_lines s.config s.threads) ≡ true
script_printable s h =
    and_from _ _ (line_printable (vm.spell s.config) (vm_again s.config h.config).1) (parts_printable s.threads h.parts)

script_lines_again : (s : Script) → IsScript s → lines_of (text_of s) ≡ map finished (script_lines s.config s.threads)
script_lines_again s h = lines_again (script_lines s.config s.threads) (script_printable s h)

-- ---- one script

unfinished : (ls : List (List ℕ)) → map (λ (l : Line). l.0) (map finished ls) ≡ ls
unfinished [] = refl
unfinished (l ∷ ls) = ap (λ (x : List (List ℕ)). l ∷ x) (unfinished ls)

abbrev head : List (List ℕ) → List ℕ
head [] = []
head (l ∷ ls) = l

abbrev tail : List (List ℕ) → List (List ℕ)
tail [] = []
tail (l ∷ ls) = ls

pub one_script : (s t : Script) → IsScript s → IsScript t → text_of s ≡ text_of t → s ≡ t
one_script s t h k e =
    let lines : script_lines s.config s.threads ≡ script_lines t.config t.threads =
    sym (unfinished (script_lines s.config s.threads))
    ∙ ap (map (λ (l : Line). l.0)) (sym (script_lines_again s h) ∙ ap lines_of e ∙ script_lines_again t k)
    ∙ unfinished (script_lines t.config t.threads) in
    let first : line (vm.spell s.config) ≡ line (vm.spell t.config) = ap head lines in
    let config : s.config ≡ t.config = sym (vm_again s.config h.config).0
    ∙ ap config_at (sym (vm_words_again s.config h.config) ∙ ap words_of first ∙ vm_words_again t.config k.config)
    ∙ (vm_again t.config k.config).0 in
    let rest : flat_map part_lines s.threads ≡ flat_map part_lines t.threads = ap tail lines in
    let parts : s.threads ≡ t.threads = ap (λ (r : List Command × List ThreadPart). r.1)
    (sym (read_parts s.threads h.parts) ∙ ap read_lines rest ∙ read_parts t.threads k.parts) in
    let make : Config → List ThreadPart → Script = λ c ps. record { config = c; threads = ps } in
    ap (λ (c : Config). make c s.threads) config ∙ ap (λ (ps : List ThreadPart). make t.config ps) parts

-- ---- no line has a fault

-- a name that differs from those before it
apart_new : (xs : List (List ℕ)) (y : List ℕ) (ys : List (List ℕ)) → all_apart (xs ++ y ∷ ys) ≡ true
    → list_any (bytes_eq y) xs ≡ false
apart_new [] y ys h = refl
apart_new (x ∷ xs) y ys h =
    let p = and_parts _ _ h in
    let q = or_false _ _ (sym (list_any-append (bytes_eq x) xs (y ∷ ys)) ∙ not-true _ p.0) in
    let r = or_false (bytes_eq x y) (list_any (bytes_eq x) ys) q.1 in
    or_from _ _ (other_way x y (bytes_eq y x) refl r.0) (apart_new xs y ys p.1)

-- a command posts nothing that was posted before it
fresh_post : (xs : List (List ℕ)) (c : Command) (ys : List (List ℕ)) → all_apart (xs ++ (posted c ++ ys)) ≡ true
    → share (posted c) xs ≡ false
fresh_post xs (commands.OnName Post n) ys h = or_from _ _ (apart_new xs n ys h) refl
fresh_post xs _ ys h = refl

-- what the lines so far say
record SoFar (before : List (List ℕ)) (threads : ℕ) (names posts : List (List ℕ)) : Type 0 where
  threads_are : threads_in before ≡ threads
  names_are : names_in before ≡ names
  posts_are : posts_in before ≡ posts

thread_fits_none : (A C F V N T M U K R S P : Bool) → A ≡ false → C ≡ true → F ≡ false → T ≡ true → M ≡ false
    → U ≡ false
    → first_fit ((TooLong, A) ∷ (UnfinishedLine, false) ∷ (NotAscii, not C) ∷ (VmLineExpected, F && V)
    ∷ (ThreadLineExpected, N && not (not F && T)) ∷ (TooManyThreads, (not F && T) && M)
    ∷ (NameUsedTwice, (not F && T) && U) ∷ (CommandExpected, (not F && not (not F && T)) && K)
    ∷ (NumberOutOfRange, if F then R else ((not F && not (not F && T)) && S))
    ∷ (PostedTwice, (not F && not (not F && T)) && P) ∷ []) ≡ None
thread_fits_none A C F V true T M U K R S P a c f t m u = rw (a, c, f, t, m, u) refl
thread_fits_none A C F V false T M U K R S P a c f t m u = rw (a, c, f, t, m, u) refl

command_fits_none : (A C F V N T M U K R S P : Bool) → A ≡ false → C ≡ true → F ≡ false → N ≡ false → T ≡ false
    → K ≡ true → S ≡ true → P ≡ false
    → first_fit ((TooLong, A) ∷ (UnfinishedLine, false) ∷ (NotAscii, not C) ∷ (VmLineExpected, F && V)
    ∷ (ThreadLineExpected, N && not (not F && T)) ∷ (TooManyThreads, (not F && T) && M)
    ∷ (NameUsedTwice, (not F && T) && U) ∷ (CommandExpected, (not F && not (not F && T)) && not K)
    ∷ (NumberOutOfRange, if F then R else ((not F && not (not F && T)) && not S))
    ∷ (PostedTwice, (not F && not (not F && T)) && P) ∷ []) ≡ None
command_fits_none A C F V N T M U K R S P a c f n t k s p = rw (a, c, f, n, t, k, s, p) refl

-- a line behind lines that say so, as its words are
thread_fits : (before : List (List ℕ)) (l : List ℕ) (threads : ℕ) (names posts : List (List ℕ))
    → SoFar before threads names posts → 1 ≤ length before → length before + 1 ≤ 4096
    → list_all (is_between 32 126) l ≡ true → thread.has_form (words_of l) ≡ true → length names < threads
    → list_any (bytes_eq (word_at (words_of l) 1)) names ≡ false → fault_of before (finished l) ≡ None
thread_fits before l threads names posts s some few seen form room fresh =
    thread_fits_none (ltb 4096 (length before + 1)) (list_all (is_between 32 126) l) (eqb (length before + 1) 1) _ _
    (thread.has_form (words_of l)) (leb (threads_in before) (length (names_in before)))
    (list_any (bytes_eq (word_at (words_of l) 1)) (names_in before)) _ _ _ _
    (le-ltb 4096 (length before + 1) few)
    seen
    (ne_eqb (length before + 1) 1 (λ (z : length before + 1 ≡ 1). omega (arith, z, some)))
    form
    (lt-leb (threads_in before) (length (names_in before)) (omega (arith, s.threads_are, ap length s.names_are, room)))
    (ap (list_any (bytes_eq (word_at (words_of l) 1))) s.names_are ∙ fresh)

command_fits : (before : List (List ℕ)) (l : List ℕ) → 2 ≤ length before → length before + 1 ≤ 4096
    → list_all (is_between 32 126) l ≡ true → thread.has_form (words_of l) ≡ false → line_has_form (words_of l) ≡ true
    → line_in_range (words_of l) ≡ true → share (posted_by l) (posts_in before) ≡ false
    → fault_of before (finished l) ≡ None
command_fits before l two few seen plain form range fresh =
    command_fits_none (ltb 4096 (length before + 1)) (list_all (is_between 32 126) l) (eqb (length before + 1) 1) _
    (eqb (length before + 1) 2) (thread.has_form (words_of l)) _ _ (line_has_form (words_of l)) _
    (line_in_range (words_of l)) (share (posted_by l) (posts_in before))
    (le-ltb 4096 (length before + 1) few)
    seen
    (ne_eqb (length before + 1) 1 (λ (z : length before + 1 ≡ 1). omega (arith, z, two)))
    (ne_eqb (length before + 1) 2 (λ (z : length before + 1 ≡ 2). omega (arith, z, two)))
    plain
    form
    range
    fresh

-- one more line without a fault
skip : (before : List (List ℕ)) (l : List ℕ) (rest : List Line) → fault_of before (finished l) ≡ None
    → first_fault_behind (before ++ l ∷ []) rest ≡ None → first_fault_behind before (finished l ∷ rest) ≡ None
skip before l rest f k =
    ap (λ (o : Option Reason).
    option_map_or (λ r. Some (length before + 1, r)) o (first_fault_behind (before ++ l ∷ []) rest)) f ∙ k

commands_none : (cs : List Command) (rest : List Line) (before : List (List ℕ)) (threads : ℕ)
    (names posts later : List (List ℕ)) → SoFar before threads names posts → list_all is_command cs ≡ true
    → 2 ≤ length before → length before + length cs ≤ 4096 → all_apart (posts ++ (flat_map posted cs ++ later)) ≡ true
    → ((after : List (List ℕ)) → SoFar after threads names (posts ++ flat_map posted cs)
    → length after ≡ length before + length cs → first_fault_behind after rest ≡ None)
    → first_fault_behind before (map finished (map (λ c. line (words_of_command c)) cs) ++ rest) ≡ None
commands_none [] rest before threads names posts later s good two few apart k = k before
    (record { threads_are = s.threads_are; names_are = s.names_are; posts_are = s.posts_are ∙ sym (append-nil posts) })
    (omega arith)
commands_none (c ∷ cs) rest before threads names posts later s good two few apart k =
    let p = and_parts _ _ good in
    let a = command_again c p.0 in
    let l = line (words_of_command c) in
    let w = command_words c p.0 in
    let plain : thread.has_form (words_of l) ≡ false = ap (λ (ws : List (List ℕ)). thread.has_form ws) w ∙ a.plain in
    let posted_here : posted_by l ≡ posted c = posted_of l (Some c) (ap line_command w ∙ a.command) in
    let grouped : posts ++ ((posted c ++ flat_map posted cs) ++ later)
    ≡ posts ++ (posted c ++ (flat_map posted cs ++ later)) =
    ap (λ (x : List (List ℕ)). posts ++ x) (append_assoc (posted c) (flat_map posted cs) later) in
    let regrouped : (posts ++ posted c) ++ (flat_map posted cs ++ later)
    ≡ posts ++ (posted c ++ (flat_map posted cs ++ later)) =
    append_assoc posts (posted c) (flat_map posted cs ++ later) in
    let all : (posts ++ posted c) ++ flat_map posted cs ≡ posts ++ flat_map posted (c ∷ cs) =
    append_assoc posts (posted c) (flat_map posted cs) in
    let once : all_apart (posts ++ (posted c ++ (flat_map posted cs ++ later))) ≡ true =
    ap all_apart (sym grouped) ∙ apart in
    let fresh : share (posted_by l) (posts_in before) ≡ false =
    ap (λ (x : List (List ℕ)). share x (posts_in before)) posted_here ∙ ap (share (posted c)) s.posts_are
    ∙ fresh_post posts c (flat_map posted cs ++ later) once in
    let fits = command_fits before l two (omega arith) (line_printable (words_of_command c) a.solid) plain
    (ap line_has_form w ∙ a.form) (ap line_in_range w ∙ a.range) fresh in
    let long : length (before ++ l ∷ []) ≡ length before + 1 = length-append before (l ∷ []) in
    let next : SoFar (before ++ l ∷ []) threads names (posts ++ posted c) = record {
      threads_are = threads_more before l (omega arith) ∙ s.threads_are;
      names_are = names_more before l ∙ ap (λ b. names_in before ++ cond b (second_word l ∷ []) []) plain
          ∙ append-nil (names_in before) ∙ s.names_are;
      posts_are = posts_more before l ∙ ap (λ (x : List (List ℕ)). posts_in before ++ x) posted_here
          ∙ ap (λ (x : List (List ℕ)). x ++ posted c) s.posts_are;
    } in
    skip before l (map finished (map (λ d. line (words_of_command d)) cs) ++ rest) fits
    (commands_none cs rest (before ++ l ∷ []) threads names (posts ++ posted c) later next p.1 (omega (arith, long))
    (omega (arith, long)) (ap all_apart regrouped ∙ once) (λ after t e.
    k after (subst (SoFar after threads names) all t) (omega (arith, e, long))))

parts_none : (ps : List ThreadPart) (before : List (List ℕ)) (threads : ℕ) (names posts : List (List ℕ))
    → SoFar before threads names posts → list_all is_part ps ≡ true → 1 ≤ length before
    → length before + length (flat_map part_lines ps) ≤ 4096 → length names + length ps ≡ threads
    → all_apart (names ++ names_of ps) ≡ true → all_apart (posts ++ posts_of ps) ≡ true
    → first_fault_behind before (map finished (flat_map part_lines ps)) ≡ None
parts_none [] before threads names posts s good some few count apart once =
    rw (le-ltb (length (names_in before)) (threads_in before) (omega (arith, s.threads_are, ap length s.names_are)))
    refl
parts_none (p ∷ ps) before threads names posts s good some few count apart once =
    let q = and_parts _ _ good in
    let r = and_parts _ _ q.0 in
    let n = p.name in
    let cs = p.commands in
    let l = line (thread.spell n) in
    let lines = map (λ c. line (words_of_command c)) cs in
    let w = thread_again n r.0 in
    let form : thread.has_form (words_of l) ≡ true =
    ap (λ (ws : List (List ℕ)). thread.has_form ws) w ∙ thread_form n r.0 in
    let second : word_at (words_of l) 1 ≡ n = ap (λ (ws : List (List ℕ)). word_at ws 1) w in
    let fresh : list_any (bytes_eq (word_at (words_of l) 1)) names ≡ false =
    ap (λ (x : List ℕ). list_any (bytes_eq x) names) second ∙ apart_new names n (names_of ps) apart in
    let size : length (flat_map part_lines (p ∷ ps)) ≡ suc (length cs + length (flat_map part_lines ps)) =
    ap suc (length-append lines (flat_map part_lines ps)
    ∙ ap (λ k. k + length (flat_map part_lines ps)) (length-map cs (λ c. line (words_of_command c)))) in
    let fits = thread_fits before l threads names posts s some (omega (arith, size))
    (line_printable (thread.spell n) (thread_solid n r.0)) form (omega arith) fresh in
    let long : length (before ++ l ∷ []) ≡ length before + 1 = length-append before (l ∷ []) in
    let next : SoFar (before ++ l ∷ []) threads (names ++ n ∷ []) posts = record {
      threads_are = threads_more before l some ∙ s.threads_are;
      names_are = names_more before l ∙ ap (λ b. names_in before ++ cond b (second_word l ∷ []) []) form
          ∙ ap (λ (x : List ℕ). names_in before ++ x ∷ []) second ∙ ap (λ (x : List (List ℕ)). x ++ n ∷ []) s.names_are;
      posts_are = posts_more before l ∙ ap (λ (x : List (List ℕ)). posts_in before ++ x) (thread_posts_nothing l form)
          ∙ append-nil (posts_in before) ∙ s.posts_are;
    } in
    let grouped : (posts ++ flat_map posted cs) ++ posts_of ps ≡ posts ++ posts_of (p ∷ ps) =
    append_assoc posts (flat_map posted cs) (posts_of ps) in
    let regroup : (names ++ n ∷ []) ++ names_of ps ≡ names ++ n ∷ names_of ps =
    append_assoc names (n ∷ []) (names_of ps) in
    let joined : map finished (lines ++ flat_map part_lines ps)
    ≡ map finished lines ++ map finished (flat_map part_lines ps) =
    map-append finished lines (flat_map part_lines ps) in
    let more : length (names ++ n ∷ []) ≡ length names + 1 = length-append names (n ∷ []) in
    skip before l (map finished (lines ++ flat_map part_lines ps)) fits
    (ap (first_fault_behind (before ++ l ∷ [])) joined
    ∙ commands_none cs (map finished (flat_map part_lines ps)) (before ++ l ∷ []) threads (names ++ n ∷ []) posts
    (posts_of ps) next r.1 (omega (arith, long)) (omega (arith, long, size)) once
    (λ after t e.
    parts_none ps after threads (names ++ n ∷ []) (posts ++ flat_map posted cs) t q.1 (omega (arith, e, long))
    (omega (arith, e, long, size)) (omega (arith, more)) (ap all_apart regroup ∙ apart) (ap all_apart grouped ∙ once)))

first_fits : (a b c d : Bool) → a ≡ true → b ≡ true → c ≡ true → d ≡ true
    → first_fit ((UnfinishedLine, not a) ∷ (NotAscii, not b) ∷ (VmLineExpected, not c) ∷ (NumberOutOfRange, not d) ∷ [])
    ≡ None
first_fits a b c d p q r s = rw (p, q, r, s) refl

-- the text of a script has no fault
pub no_fault : (s : Script) → IsScript s → first_fault (text_of s) ≡ None
no_fault s h =
    let c = s.config in
    let l = line (vm.spell c) in
    let v = vm_again c h.config in
    let w = vm_words_again c h.config in
    let plain = vm_plain (words_of l) (ap (λ (ws : List (List ℕ)). word_at ws 0) w) in
    let seen = line_printable (vm.spell c) v.1 in
    let form : vm.has_form (words_of l) ≡ true = ap vm.has_form w ∙ v.2 in
    let range : vm.in_range (words_of l) ≡ true = ap vm.in_range w ∙ ap in_limits v.0 ∙ h.config in
    let fits : fault_of [] (finished l) ≡ None =
    table_first (finished l) ∙ first_fits true _ _ _ refl seen form range in
    let start : SoFar (l ∷ []) c.threads [] [] = record {
      threads_are = ap (λ (k : Config). k.threads) (ap config_at w ∙ v.0);
      names_are = ap (λ b. map second_word (cond b (l ∷ []) [])) plain;
      posts_are = ap (λ (x : List (List ℕ)). x ++ [])
          (posted_of l None (vm_is_no_command (words_of l) (ap (λ (ws : List (List ℕ)). word_at ws 0) w)));
    } in
    some_lines (text_of s) (finished l) (map finished (flat_map part_lines s.threads)) (leb-true _ _ h.bytes)
    (script_lines_again s h)
    ∙ skip [] l (map finished (flat_map part_lines s.threads)) fits
    (parts_none s.threads (l ∷ []) c.threads [] [] start h.parts (omega arith)
    (let few = leb-true _ _ h.lines in omega arith) (omega (arith, h.threads)) h.names h.posts)

-- what is read of the text of a script is the script
pub only_one : (text : List ℕ) (r : Result Script ScriptFault) → IfOk r (λ t. IsScript t × (text ≡ text_of t))
    → IfErr r (IsFaultOf text) → (s : Script) → IsScript s → text ≡ text_of s → ReadsAs s r
only_one text (Ok t) found fault s h e = one_script t s found.0 h (sym found.1 ∙ e)
only_one text (Err (script_faults.At n q)) found fault s h e =
    absurd (let z : Some (n, q) ≡ None = sym fault ∙ ap first_fault e ∙ no_fault s h in cc)
only_one text (Err script_faults.Memory) found fault s h e = tt
