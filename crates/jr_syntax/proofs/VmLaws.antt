-- The first line.
use Rattle.std.proofs.Common.{◌≡◌, ℕ, ◌^◌, ◌<◌, Bool, true, false, List, [], ◌∷◌, length}
use Rattle.std.proofs.Common.{Ok, Err, refl, sym, ap, subst, ◌∙◌, arith, leb, eqb}
use Rattle.std.specs.Prelude.{◌&&◌, codes}
use Rattle.std.specs.Str.{bytes_eq}
use Rattle.std.proofs.lemmas.Bool.{and_parts, eqb-true, false≢true}
use Rattle.std.proofs.lemmas.Slice.Eq.{bytes_eq-Decides}
use Rattle.jr_word.specs.declared.config.Config.{Config}
use Rattle.jr_word.specs.Config.{IsLimited, in_limits}
use Rattle.jr_word.proofs.Limits.{limited}
use Rattle.jr_syntax.specs.declared.argument.LineError.TheVariants as errors
use Rattle.jr_syntax.specs.Line.{word_at, behind}
use Rattle.jr_syntax.specs.Number.{is_number}
use Rattle.jr_syntax.specs.Kind.{reading, Reads}
use Rattle.jr_syntax.specs.Script.{vm, thread, is_pair, config_at}
use Rattle.jr_syntax.specs.VmLine.{vm_words, AreNumbers}
use Rattle.jr_syntax.proofs.DecimalLaws.{decimal_number}

-- ---- the words of its sizes

-- they have its form
vm_form : (a b c d e : List ℕ) → AreNumbers a b c d e → vm.has_form (vm_words a b c d e) ≡ true
vm_form a b c d e h = rw (h.threads, h.slots, h.objects, h.words, h.locals) refl

-- what they are read as
pub vm_read : (ws : List (List ℕ)) (a b c d e : List ℕ) (k : Config) → ws ≡ vm_words a b c d e → AreNumbers a b c d e
    → k ≡ vm.value (vm_words a b c d e) → in_limits k ≡ true → Reads (reading vm) ws (Ok k)
vm_read ws a b c d e k is h v l =
    let P : List (List ℕ) → Type 0 = λ x. Reads (reading vm) x (Ok k) in
    subst P (sym is) (vm_form a b c d e h, ap in_limits (sym v) ∙ l, v)

-- where a size is out of its bounds
pub vm_out : (ws : List (List ℕ)) (a b c d e : List ℕ) → ws ≡ vm_words a b c d e → AreNumbers a b c d e
    → vm.in_range (vm_words a b c d e) ≡ false → Reads (reading vm) ws (Err errors.Range)
vm_out ws a b c d e is h o =
    let P : List (List ℕ) → Type 0 = λ x. Reads (reading vm) x (Err errors.Range) in
    subst P (sym is) (vm_form a b c d e h, o)

-- ---- a first line is its words

pair_words : (key : List ℕ) (ws : List (List ℕ)) → is_pair key ws ≡ true
    → (ws ≡ key ∷ word_at ws 1 ∷ behind (behind ws)) × (is_number (word_at ws 1) ≡ true)
pair_words key [] h = absurd (false≢true h)
pair_words key (a ∷ []) h = absurd (false≢true h)
pair_words key (a ∷ b ∷ ws) h =
    let p = and_parts _ _ h in
    let q = and_parts _ _ p.0 in
    let e : a ≡ key = (bytes_eq-Decides a key).0 q.1 in
    (ap (λ (x : List ℕ). x ∷ b ∷ ws) e, p.1)

no_words : (ws : List (List ℕ)) → eqb (length ws) 0 ≡ true → ws ≡ []
no_words [] h = refl
no_words (w ∷ ws) h = let e : length (w ∷ ws) ≡ 0 = eqb-true (length (w ∷ ws)) 0 h in absurd (omega arith)

-- the sizes of a configuration are numbers of 64 bits
pub record FitWords (c : Config) : Type 0 where
  pub threads : c.threads < 2 ^ 64
  pub slots : c.slots < 2 ^ 64
  pub objects : c.objects < 2 ^ 64
  pub words : c.words < 2 ^ 64
  pub locals : c.locals < 2 ^ 64

sizes_fit : (c : Config) → IsLimited c → FitWords c
sizes_fit c m = record {
  threads = omega (arith, m.threads.1);
  slots = omega (arith, m.slots.1);
  objects = omega (arith, m.objects.1);
  words = omega (arith, m.words);
  locals = omega (arith, m.locals.1);
}

pub config_fits : (c : Config) → in_limits c ≡ true → FitWords c
config_fits c h = sizes_fit c (limited c h)

-- what the first line is
pub record IsVm (ws : List (List ℕ)) : Type 0 where
  pub first : word_at ws 0 ≡ codes "vm"
  pub back : in_limits (config_at ws) ≡ true → vm.spell (config_at ws) ≡ ws

vm_back : (a b c d e : List ℕ) → AreNumbers a b c d e → in_limits (config_at (vm_words a b c d e)) ≡ true
    → vm.spell (config_at (vm_words a b c d e)) ≡ vm_words a b c d e
vm_back a b c d e n h =
    let s = config_fits (config_at (vm_words a b c d e)) h in
    rw (
      decimal_number a n.threads s.threads,
      decimal_number b n.slots s.slots,
      decimal_number c n.objects s.objects,
      decimal_number d n.words s.words,
      decimal_number e n.locals s.locals,
    ) refl

pub vm_taken : (ws : List (List ℕ)) → vm.has_form ws ≡ true → IsVm ws
vm_taken [] h = absurd (false≢true h)
vm_taken (w ∷ r0) h =
    let p = and_parts _ _ h in
    let q = and_parts _ _ p.0 in
    let first : w ≡ codes "vm" = (bytes_eq-Decides w (codes "vm")).0 q.1 in
    let r1 = behind (behind r0) in
    let r2 = behind (behind r1) in
    let r3 = behind (behind r2) in
    let r4 = behind (behind r3) in
    let u0 = and_parts _ _ p.1 in
    let w0 = pair_words (codes "threads") r0 u0.0 in
    let u1 = and_parts _ _ u0.1 in
    let w1 = pair_words (codes "slots") r1 u1.0 in
    let u2 = and_parts _ _ u1.1 in
    let w2 = pair_words (codes "objects") r2 u2.0 in
    let u3 = and_parts _ _ u2.1 in
    let w3 = pair_words (codes "words") r3 u3.0 in
    let u4 = and_parts _ _ u3.1 in
    let w4 = pair_words (codes "locals") r4 u4.0 in
    let end = no_words (behind (behind r4)) u4.1 in
    let a = word_at r0 1 in
    let b = word_at r1 1 in
    let c = word_at r2 1 in
    let d = word_at r3 1 in
    let e = word_at r4 1 in
    let e4 : r4 ≡ codes "locals" ∷ e ∷ [] = w4.0 ∙ ap (λ (x : List (List ℕ)). codes "locals" ∷ e ∷ x) end in
    let e3 : r3 ≡ codes "words" ∷ d ∷ codes "locals" ∷ e ∷ [] =
    w3.0 ∙ ap (λ (x : List (List ℕ)). codes "words" ∷ d ∷ x) e4 in
    let e2 : r2 ≡ codes "objects" ∷ c ∷ codes "words" ∷ d ∷ codes "locals" ∷ e ∷ [] =
    w2.0 ∙ ap (λ (x : List (List ℕ)). codes "objects" ∷ c ∷ x) e3 in
    let e1 : r1 ≡ codes "slots" ∷ b ∷ codes "objects" ∷ c ∷ codes "words" ∷ d ∷ codes "locals" ∷ e ∷ [] =
    w1.0 ∙ ap (λ (x : List (List ℕ)). codes "slots" ∷ b ∷ x) e2 in
    let e0 : r0
    ≡ codes "threads" ∷ a ∷ codes "slots" ∷ b ∷ codes "objects" ∷ c ∷ codes "words" ∷ d ∷ codes "locals" ∷ e ∷ [] =
    w0.0 ∙ ap (λ (x : List (List ℕ)). codes "threads" ∷ a ∷ x) e1 in
    let whole : w ∷ r0 ≡ vm_words a b c d e =
    ap (λ (x : List ℕ). x ∷ r0) first ∙ ap (λ (x : List (List ℕ)). codes "vm" ∷ x) e0 in
    let numbers : AreNumbers a b c d e =
    record { threads = w0.1; slots = w1.1; objects = w2.1; words = w3.1; locals = w4.1 } in
    subst IsVm (sym whole) (record { first = refl; back = vm_back a b c d e numbers })

-- ---- it is no thread line

pub not_all : (a b c : Bool) → b ≡ false → ((a && b) && c) ≡ false
not_all a true c h = absurd (false≢true (sym h))
not_all true false c h = refl
not_all false false c h = refl

pub vm_plain : (ws : List (List ℕ)) → word_at ws 0 ≡ codes "vm" → thread.has_form ws ≡ false
vm_plain [] e = refl
vm_plain (w ∷ ws) e = not_all (leb 1 (length (w ∷ ws))) (bytes_eq w (codes "thread")) _ (rw e refl)
