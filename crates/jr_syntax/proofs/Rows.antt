-- The table's rows for a line behind the first, by what was read.
use Rattle.std.proofs.Common.{◌≡◌, ℕ, ◌+◌, ◌≤◌, Bool, true, false, List, [], ◌∷◌}
use Rattle.std.proofs.Common.{length, None, refl, sym, ap, ◌∙◌, arith, ltb, leb, eqb}
use Rattle.std.specs.Prelude.{◌&&◌, not, is_none, if◌then◌else◌}
use Rattle.std.specs.List.{list_all, list_any}
use Rattle.std.specs.Str.{bytes_eq}
use Rattle.std.proofs.lemmas.Bool.{ltb-false, ne_eqb}
use Rattle.std.proofs.lemmas.List.{length-map}
use Rattle.jr_word.specs.declared.config.Config.{Config}
use Rattle.jr_word.specs.Config.{is_between, in_limits}
use Rattle.jr_syntax.specs.declared.fault.Reason.{Reason}
use Rattle.jr_syntax.specs.declared.fault.Reason.TheVariants.{TooLong, UnfinishedLine, NotAscii, VmLineExpected}
use Rattle.jr_syntax.specs.declared.fault.Reason.TheVariants.{ThreadLineExpected, TooManyThreads, NameUsedTwice}
use Rattle.jr_syntax.specs.declared.fault.Reason.TheVariants.{CommandExpected, NumberOutOfRange, PostedTwice}
use Rattle.jr_syntax.specs.declared.draft.Draft.{Draft}
use Rattle.jr_syntax.specs.declared.thread.ThreadPart.{ThreadPart}
use Rattle.jr_syntax.specs.Line.{Line, words_of, word_at}
use Rattle.jr_syntax.specs.Script.{thread, script_lines, names_of, posts_of, is_part, all_apart}
use Rattle.jr_syntax.specs.Faults.{fault_table, first_fit, threads_in, names_in, posted_by, posts_in, share}
use Rattle.jr_syntax.specs.Draft.{parts_of, rows, thread_rows, command_rows}

-- What was read is the lines so far, which have no fault.
pub record Follows (before : List (List ℕ)) (d : Draft) : Type 0 where
  pub lines : before ≡ script_lines d.config (parts_of d)
  pub few_lines : length before ≤ 4096
  pub threads : threads_in before ≡ d.config.threads
  pub names : names_in before ≡ names_of (parts_of d)
  pub config : in_limits d.config ≡ true
  pub few : length (parts_of d) ≤ d.config.threads
  pub good : list_all is_part (parts_of d) ≡ true
  pub apart : all_apart (names_of (parts_of d)) ≡ true
  pub posts : posts_in before ≡ posts_of (parts_of d)
  pub once : all_apart (posts_of (parts_of d)) ≡ true
  pub opened : is_none d.last ≡ eqb (length (parts_of d)) 0

-- ---- the table is the rows

shape_at : (A B C T N M U K S P : Bool)
    → first_fit ((TooLong, A) ∷ (UnfinishedLine, B) ∷ (NotAscii, C) ∷ (VmLineExpected, false)
    ∷ (ThreadLineExpected, N && not T) ∷ (TooManyThreads, T && M) ∷ (NameUsedTwice, T && U)
    ∷ (CommandExpected, not T && K) ∷ (NumberOutOfRange, not T && S) ∷ (PostedTwice, not T && P) ∷ [])
    ≡ first_fit ((TooLong, A) ∷ (UnfinishedLine, B) ∷ (NotAscii, C) ∷ (if T
    then (TooManyThreads, M) ∷ (NameUsedTwice, U) ∷ []
    else ((ThreadLineExpected, N) ∷ (CommandExpected, K) ∷ (NumberOutOfRange, S) ∷ (PostedTwice, P) ∷ [])))
shape_at A B C true true M U K S P = refl
shape_at A B C true false M U K S P = refl
shape_at A B C false true M U K S P = refl
shape_at A B C false false M U K S P = refl

shape : (A A' B C F T N N' V M M' U U' K R S P P' : Bool) → A ≡ A' → F ≡ false → N ≡ N' → M ≡ M' → U ≡ U' → P ≡ P'
    → first_fit ((TooLong, A) ∷ (UnfinishedLine, B) ∷ (NotAscii, C) ∷ (VmLineExpected, F && V)
    ∷ (ThreadLineExpected, N && not (not F && T)) ∷ (TooManyThreads, (not F && T) && M)
    ∷ (NameUsedTwice, (not F && T) && U) ∷ (CommandExpected, (not F && not (not F && T)) && K)
    ∷ (NumberOutOfRange, if F then R else ((not F && not (not F && T)) && S))
    ∷ (PostedTwice, (not F && not (not F && T)) && P) ∷ [])
    ≡ first_fit ((TooLong, A') ∷ (UnfinishedLine, B) ∷ (NotAscii, C) ∷ (if T
    then (TooManyThreads, M') ∷ (NameUsedTwice, U') ∷ []
    else ((ThreadLineExpected, N') ∷ (CommandExpected, K) ∷ (NumberOutOfRange, S) ∷ (PostedTwice, P') ∷ [])))
shape A A' B C F T N N' V M M' U U' K R S P P' a f n m u p = rw (a, f, n, m, u, p) (shape_at A' B C T N' M' U' K S P')

-- how many lines there are tells whether there is a part
part_yet : (config : Config) (parts : List ThreadPart)
    → eqb (length (script_lines config parts) + 1) 2 ≡ eqb (length parts) 0
part_yet config [] = refl
part_yet config (p ∷ ps) = ne_eqb _ _ (λ e. omega arith) ∙ sym (ne_eqb _ _ (λ e. omega arith))

pub table_rows : (before : List (List ℕ)) (d : Draft) (l : Line) (number : ℕ) → Follows before d
    → number ≡ length before + 1 → first_fit (fault_table before l) ≡ first_fit (rows number d l)
table_rows before d l number f e =
    let ws = words_of l.0 in
    let long : 1 ≤ length before = rw f.lines (omega arith) in
    shape _ _ _ _ _ (thread.has_form ws) _ _ _ _ _ _ _ _ _ _ _ _
    (ap (λ n. ltb 4096 n) (sym e))
    (ne_eqb (length before + 1) 1 (λ (z : length before + 1 ≡ 1). omega (arith, z, long)))
    (ap (λ (ls : List (List ℕ)). eqb (length ls + 1) 2) f.lines ∙ part_yet d.config (parts_of d) ∙ sym f.opened)
    (ap (λ t. leb t (length (names_in before))) f.threads
    ∙ ap (λ (ns : List (List ℕ)). leb d.config.threads (length ns)) f.names
    ∙ ap (λ n. leb d.config.threads n) (length-map (parts_of d) (λ p. p.name)))
    (ap (λ (ns : List (List ℕ)). list_any (bytes_eq (word_at ws 1)) ns) f.names)
    (ap (share (posted_by l.0)) f.posts)

-- ---- no row fits

three_rows : (a b c : Bool) (rest : List (Reason × Bool))
    → first_fit ((TooLong, a) ∷ (UnfinishedLine, b) ∷ (NotAscii, c) ∷ rest) ≡ None
    → (a ≡ false) × (b ≡ false) × (first_fit rest ≡ None)
three_rows true b c rest h = absurd cc
three_rows false true c rest h = absurd cc
three_rows false false true rest h = absurd cc
three_rows false false false rest h = (refl, refl, h)

pub thread_rows_none : (a b : Bool) → first_fit ((TooManyThreads, a) ∷ (NameUsedTwice, b) ∷ []) ≡ None
    → (a ≡ false) × (b ≡ false)
thread_rows_none true b h = absurd cc
thread_rows_none false true h = absurd cc
thread_rows_none false false h = (refl, refl)

pub command_rows_none : (a b c d : Bool)
    → first_fit ((ThreadLineExpected, a) ∷ (CommandExpected, not b) ∷ (NumberOutOfRange, not c) ∷ (PostedTwice, d) ∷ [])
    ≡ None → (a ≡ false) × (b ≡ true) × (c ≡ true) × (d ≡ false)
command_rows_none true b c d h = absurd cc
command_rows_none false false c d h = absurd cc
command_rows_none false true false d h = absurd cc
command_rows_none false true true true h = absurd cc
command_rows_none false true true false h = (refl, refl, refl, refl)

pub rows_none : (number : ℕ) (d : Draft) (l : Line) → first_fit (rows number d l) ≡ None
    → (number ≤ 4096) × (not l.1 ≡ false) × (first_fit (if thread.has_form (words_of l.0)
    then thread_rows d (thread.value (words_of l.0)) else command_rows d (words_of l.0)) ≡ None)
rows_none number d l none =
    let a =
    three_rows (ltb 4096 number) (not l.1) (not (list_all (is_between 32 126) l.0)) (if thread.has_form (words_of l.0)
    then thread_rows d (thread.value (words_of l.0)) else command_rows d (words_of l.0)) none in
    (ltb-false _ _ a.0, a.1, a.2)
