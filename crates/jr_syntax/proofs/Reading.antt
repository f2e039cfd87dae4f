-- A text as it is read, line by line.
use Rattle.std.proofs.Common.{◌≡◌, ℕ, ◌+◌, ◌≤◌, Bool, true, false, cond, List, [], ◌∷◌, ◌++◌, length, map, Option}
use Rattle.std.proofs.Common.{Some, None, Ok, Err, refl, sym, ap, subst, ◌∙◌, append_assoc, arith, leb, eqb}
use Rattle.std.specs.Prelude.{not, is_none}
use Rattle.std.specs.Option.{option_map_or}
use Rattle.std.specs.List.{flat_map, join_with_byte, slice_split, list_all}
use Rattle.std.proofs.lemmas.Bool.{le-ltb, leb-true, le-leb, ne_eqb, not-false}
use Rattle.std.proofs.lemmas.List.{length-append, append-nil, map-append}
use Rattle.std.proofs.lemmas.List.Splits.{join_with_byte-slice_split}
use Rattle.jr_word.specs.declared.config.Config.{Config}
use Rattle.jr_word.specs.Config.{is_between, in_limits}
use Rattle.jr_syntax.specs.declared.fault.Reason.{Reason}
use Rattle.jr_syntax.specs.declared.fault.Reason.TheVariants.{EmptyInput, UnfinishedLine, NotAscii}
use Rattle.jr_syntax.specs.declared.fault.Reason.TheVariants.{VmLineExpected, NumberOutOfRange}
use Rattle.jr_syntax.specs.declared.fault.ScriptFault.{ScriptFault}
use Rattle.jr_syntax.specs.declared.fault.ScriptFault.TheVariants as script_faults
use Rattle.jr_syntax.specs.declared.draft.LineFault.{LineFault}
use Rattle.jr_syntax.specs.declared.draft.LineFault.TheVariants as faults
use Rattle.jr_syntax.specs.declared.draft.Draft.{Draft}
use Rattle.jr_syntax.specs.declared.thread.ThreadPart.{ThreadPart}
use Rattle.jr_syntax.specs.declared.script.Script.{Script}
use Rattle.jr_syntax.specs.Line.{Line, line, words_of, lines_of, lines_of_pieces}
use Rattle.jr_syntax.specs.Script.{vm, part_lines, names_of, posts_of, is_part}
use Rattle.jr_syntax.specs.Script.{all_apart, script_lines, IsScript, text_of}
use Rattle.jr_syntax.specs.Faults.{fault_table, first_fit, fault_of, first_fault_behind, first_fault, second_word}
use Rattle.jr_syntax.specs.Parse.{IsFaultOf}
use Rattle.jr_syntax.specs.Draft.{Gave, GaveSome, Grown, parts_of, rows, first_rows, fault_at}
use Rattle.jr_syntax.proofs.Rows.{Follows, table_rows, rows_none}
use Rattle.jr_syntax.proofs.Posts.{posted_of, vm_is_no_command}
use Rattle.jr_syntax.proofs.Steps.{grown, joined}
use Rattle.jr_syntax.proofs.VmLaws.{vm_taken, vm_plain}

-- ---- a text is its lines

abbrev pub finished : List ℕ → Line
finished l = (l, true)

abbrev line_text : Line → List ℕ
line_text l = l.0 ++ cond l.1 (10 ∷ []) []

pieces_joined : (pieces : List (List ℕ)) → flat_map line_text (lines_of_pieces pieces) ≡ join_with_byte 10 pieces
pieces_joined [] = refl
pieces_joined ([] ∷ []) = refl
pieces_joined ((c ∷ cs) ∷ []) =
    rw (ne_eqb (length (c ∷ cs)) 0 (λ (z : length (c ∷ cs) ≡ 0). omega arith)) (append-nil _ ∙ append-nil (c ∷ cs))
pieces_joined (x ∷ y ∷ more) =
    ap (λ (t : List ℕ). (x ++ 10 ∷ []) ++ t) (pieces_joined (y ∷ more))
    ∙ append_assoc x (10 ∷ []) (join_with_byte 10 (y ∷ more))

text_joined : (text : List ℕ) → flat_map line_text (lines_of text) ≡ text
text_joined text = pieces_joined (slice_split (λ c. eqb c 10) text) ∙ join_with_byte-slice_split 10 text

all_finished : (ls : List (List ℕ)) → flat_map line_text (map finished ls) ≡ flat_map (λ l. l ++ 10 ∷ []) ls
all_finished [] = refl
all_finished (l ∷ ls) = ap (λ (x : List ℕ). (l ++ 10 ∷ []) ++ x) (all_finished ls)

-- ---- the loop

-- what was read, and what is left
pub record IsRead (text : List ℕ) (number : ℕ) (d : Draft) (lines : List Line) : Type 0 where
  pub follows : Follows (script_lines d.config (parts_of d)) d
  pub counted : number ≡ length (script_lines d.config (parts_of d))
  pub whole : lines_of text ≡ map finished (script_lines d.config (parts_of d)) ++ lines
  pub fault : first_fault text ≡ first_fault_behind (script_lines d.config (parts_of d)) lines

-- a line with a fault
pub fault_here : (text : List ℕ) (number : ℕ) (d : Draft) (l : Line) (ls : List Line) (r : Reason)
    → IsRead text number d (l ∷ ls) → first_fit (rows (number + 1) d l) ≡ Some r
    → first_fault text ≡ Some (number + 1, r)
fault_here text number d l ls r h e =
    let before = script_lines d.config (parts_of d) in
    let n : number + 1 ≡ length before + 1 = ap (λ k. k + 1) h.counted in
    let fits : fault_of before l ≡ Some r = table_rows before d l (number + 1) h.follows n ∙ e in
    h.fault ∙ ap (λ (o : Option Reason). option_map_or (λ q. Some (length before + 1, q)) o
    (first_fault_behind (before ++ l.0 ∷ []) ls)) fits ∙ ap (λ k. Some (k, r)) (sym n)

-- a line with none
pub next_line : (text : List ℕ) (number : ℕ) (d new : Draft) (l : Line) (ls : List Line) → IsRead text number d (l ∷ ls)
    → first_fit (rows (number + 1) d l) ≡ None → Grown d l.0 new → IsRead text (number + 1) new ls
next_line text number d new l ls h none g =
    let before = script_lines d.config (parts_of d) in
    let n : number + 1 ≡ length before + 1 = ap (λ k. k + 1) h.counted in
    let fits : fault_of before l ≡ None = table_rows before d l (number + 1) h.follows n ∙ none in
    let f : Follows (before ++ l.0 ∷ []) new = grown before d l (number + 1) new h.follows n none g in
    let P : List (List ℕ) → Type 0 = λ b. Follows b new in
    let after : before ++ l.0 ∷ [] ≡ script_lines new.config (parts_of new) = f.lines in
    let fed : l ≡ finished l.0 = ap (λ b. (l.0, b)) (not-false l.1 (rows_none (number + 1) d l none).1) in
    record {
      follows = subst P after f;
      counted = n ∙ sym (length-append before (l.0 ∷ [])) ∙ ap length after;
      whole =
          h.whole
          ∙ ap (λ (x : Line). map finished before ++ x ∷ ls) fed
          ∙ sym (append_assoc (map finished before) (finished l.0 ∷ []) ls)
          ∙ ap (λ (x : List Line). x ++ ls) (sym (map-append finished before (l.0 ∷ [])) ∙ ap (map finished) after);
      fault =
          h.fault
          ∙ ap (λ (o : Option Reason).
          option_map_or (λ q. Some (length before + 1, q)) o (first_fault_behind (before ++ l.0 ∷ []) ls)) fits
          ∙ ap (λ (b : List (List ℕ)). first_fault_behind b ls) after;
    }

-- the end
pub script_read : (text : List ℕ) (number : ℕ) (d : Draft) → IsRead text number d [] → length text ≤ 65536
    → leb d.config.threads (length (parts_of d)) ≡ true → IsScript (record { config = d.config; threads = parts_of d })
    × (text ≡ text_of (record { config = d.config; threads = parts_of d }))
script_read text number d h short e =
    let before = script_lines d.config (parts_of d) in
    let f = h.follows in
    let ge : d.config.threads ≤ length (parts_of d) = leb-true _ _ e in
    let whole : text ≡ flat_map (λ l. l ++ 10 ∷ []) before = sym (text_joined text)
    ∙ ap (flat_map line_text) (h.whole ∙ append-nil (map finished before)) ∙ all_finished before in (
      record {
        config = f.config;
        threads = omega (arith, f.few);
        parts = f.good;
        names = f.apart;
        posts = f.once;
        lines = le-leb _ _ f.few_lines;
        bytes = ap (λ (t : List ℕ). leb (length t) 65536) (sym whole) ∙ le-leb _ _ short;
      },
      whole,
    )

-- ---- the first line

-- a text of some lines that is not too long
pub some_lines : (text : List ℕ) (l : Line) (ls : List Line) → length text ≤ 65536 → lines_of text ≡ l ∷ ls
    → first_fault text ≡ first_fault_behind [] (l ∷ ls)
some_lines [] l ls short e = absurd cc
some_lines (c ∷ cs) l ls short e =
    rw (le-ltb 65536 (length (c ∷ cs)) short, ne_eqb (length (c ∷ cs)) 0 (λ (z : length (c ∷ cs) ≡ 0). omega arith))
    (ap (first_fault_behind []) e)

pub table_first : (l : Line) → first_fit (fault_table [] l) ≡ first_fit (first_rows l)
table_first l = refl

first_rows_none : (a b c d : Bool)
    → first_fit ((UnfinishedLine, not a) ∷ (NotAscii, not b) ∷ (VmLineExpected, not c) ∷ (NumberOutOfRange, not d) ∷ [])
    ≡ None → (a ≡ true) × (c ≡ true) × (d ≡ true)
first_rows_none false b c d h = absurd cc
first_rows_none true false c d h = absurd cc
first_rows_none true true false d h = absurd cc
first_rows_none true true true false h = absurd cc
first_rows_none true true true true h = (refl, refl, refl)

pub first_read : (text : List ℕ) (l : Line) (ls : List Line) (d : Draft) → length text ≤ 65536 → lines_of text ≡ l ∷ ls
    → first_fit (first_rows l) ≡ None → d.config ≡ vm.value (words_of l.0) → parts_of d ≡ [] → is_none d.last ≡ true
    → IsRead text 1 d ls
first_read text l ls d short e none same parts last =
    let ws = words_of l.0 in
    let a = first_rows_none l.1 (list_all (is_between 32 126) l.0) (vm.has_form ws) (vm.in_range ws) none in
    let v = vm_taken ws a.1 in
    let plain = vm_plain ws v.first in
    let spelled : line (vm.spell d.config) ≡ l.0 =
    ap (λ (c : Config). line (vm.spell c)) same ∙ ap line (v.back a.2) ∙ joined l.0 in
    let lines : l.0 ∷ [] ≡ script_lines d.config (parts_of d) =
    ap (λ (x : List ℕ). x ∷ []) (sym spelled)
    ∙ ap (λ (ps : List ThreadPart). line (vm.spell d.config) ∷ flat_map part_lines ps) (sym parts) in
    let P : List (List ℕ) → Type 0 = λ b. Follows b d in
    record {
      follows = subst P lines (record {
        lines = lines;
        few_lines = omega arith;
        threads = ap (λ (c : Config). c.threads) (sym same);
        names = ap (λ b. map second_word (cond b (l.0 ∷ []) [])) plain ∙ ap names_of (sym parts);
        config = ap in_limits same ∙ a.2;
        few = omega (arith, ap length parts);
        good = ap (list_all is_part) parts;
        apart = ap (λ (ps : List ThreadPart). all_apart (names_of ps)) parts;
        posts = ap (λ (x : List (List ℕ)). x ++ []) (posted_of l.0 None (vm_is_no_command ws v.first))
            ∙ ap posts_of (sym parts);
        once = ap (λ (ps : List ThreadPart). all_apart (posts_of ps)) parts;
        opened = last ∙ sym (ap (λ (ps : List ThreadPart). eqb (length ps) 0) parts);
      });
      counted = ap length lines;
      whole = e ∙ ap (λ (x : Line). x ∷ ls) (ap (λ b. (l.0, b)) a.0)
          ∙ ap (λ (b : List (List ℕ)). map finished b ++ ls) lines;
      fault =
          some_lines text l ls short e
          ∙ ap (λ (o : Option Reason). option_map_or (λ q. Some (1, q)) o (first_fault_behind (l.0 ∷ []) ls))
          (table_first l ∙ none)
          ∙ ap (λ (b : List (List ℕ)). first_fault_behind b ls) lines;
    }

pub no_lines : (text : List ℕ) → lines_of text ≡ [] → first_fault text ≡ Some (1, EmptyInput)
no_lines text e =
    let nothing : text ≡ [] = sym (text_joined text) ∙ ap (flat_map line_text) e in
    ap first_fault nothing

-- ---- as the loop says it

pub taken_fault : (text : List ℕ) (number : ℕ) (d : Draft) (lines : List Line) (l : Line) (ls : List Line)
    (q : LineFault) (x : ScriptFault) (P : Type 0) → IsRead text number d lines → lines ≡ l ∷ ls
    → Gave (rows (number + 1) d l) (Err q) P → x ≡ fault_at (number + 1) q → IsFaultOf text x
taken_fault text number d lines l ls (faults.Fault r) x P h e g is =
    let R : List Line → Type 0 = λ k. IsRead text number d k in
    let here : IsFaultOf text (script_faults.At (number + 1) r) = fault_here text number d l ls r (subst R e h) g in
    subst (λ (y : ScriptFault). IsFaultOf text y) (sym is) here
taken_fault text number d lines l ls faults.Memory x P h e g is =
    let here : IsFaultOf text script_faults.Memory = tt in
    subst (λ (y : ScriptFault). IsFaultOf text y) (sym is) here

pub taken_line : (text : List ℕ) (number : ℕ) (d new : Draft) (lines : List Line) (l : Line) (ls : List Line)
    (u : Unit {0}) → IsRead text number d lines → lines ≡ l ∷ ls → Gave (rows (number + 1) d l) (Ok u) (Grown d l.0 new)
    → IsRead text (number + 1) new ls
taken_line text number d new lines l ls u h e g =
    let R : List Line → Type 0 = λ k. IsRead text number d k in
    next_line text number d new l ls (subst R e h) g.0 g.1

pub taken_first : (text : List ℕ) (lines : List Line) (l : Line) (ls : List Line) (d : Draft) (config : Config)
    → length text ≤ 65536 → lines ≡ lines_of text → lines ≡ l ∷ ls
    → GaveSome (first_rows l) (Ok config) (Some (vm.value (words_of l.0)))
    → (d.config ≡ config) × (parts_of d ≡ []) × (is_none d.last ≡ true) → IsRead text 1 d ls
taken_first text lines l ls d config short all e g n =
    let same : vm.value (words_of l.0) ≡ config = cc in
    first_read text l ls d short (sym all ∙ e) g.0 (n.0 ∙ sym same) n.1 n.2

pub taken_all : (text : List ℕ) (number : ℕ) (d : Draft) (lines : List Line) (s : Script) → IsRead text number d lines
    → lines ≡ [] → length text ≤ 65536 → leb d.config.threads (length (parts_of d)) ≡ true
    → s ≡ record { config = d.config; threads = parts_of d } → IsScript s × (text ≡ text_of s)
taken_all text number d lines s h e short full is =
    let R : List Line → Type 0 = λ k. IsRead text number d k in
    let P : Script → Type 0 = λ k. IsScript k × (text ≡ text_of k) in
    subst P (sym is) (script_read text number d (subst R e h) short full)
