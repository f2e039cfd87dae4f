-- The space after one word was changed.
use Rattle.std.proofs.Common.{◌≡◌, ◌≢◌, ◌+◌, ◌*◌, ◌<◌, ◌≤◌, ℕ, cond, Option, List, get_or, slice_set}
use Rattle.std.proofs.Common.{eq-eqb, ne_eqb, refl, sym, ap, subst, ◌∙◌, arith, get_or-set_other}
use mathlib.Core.Logic.{dite}
use native.Mathlib.Decide.{ℕ_discrete}
use Rattle.jr_word.specs.declared.config.Config.{Config}
use Rattle.jr_model.specs.State.{Contents}
use Rattle.jr_steps.specs.declared.known.Holdings.{Holdings}
use Rattle.jr_steps.specs.declared.known.Move.{Move}
use Rattle.jr_steps.specs.Holdings.{empty, words_at, header_in, hold}
use Rattle.jr_steps.specs.Says.{element_spot}
use Rattle.jr_rule.specs.Image.{header_at, element_at, Owner, of_object, of_range, Stands, IsSpace}

-- the words before the headers
abbrev pub before_headers : Config → ℕ
before_headers c = 2 + c.slots + c.threads * c.locals

module _ (c : Config) (words : List ℕ) (i n : ℕ) (low : i < before_headers c) where
  -- a word before the headers changes no header and no element
  pub header_stays : (o : ℕ) → 1 ≤ o → get_or (slice_set words i n) (header_at c o) 0 ≡ get_or words (header_at c o) 0
  header_stays o some = get_or-set_other words i (header_at c o) n 0 (λ e. absurd (omega arith))

  pub element_stays : (x : ℕ) → get_or (slice_set words i n) (element_at c x) 0 ≡ get_or words (element_at c x) 0
  element_stays x = get_or-set_other words i (element_at c x) n 0 (λ e. absurd (omega arith))

  stands_low : (owner : ℕ → Owner) (whose : ℕ → Owner) (at : ℕ → ℕ) (items : List ℕ)
      → Stands c owner words whose at items → Stands c owner (slice_set words i n) whose at items
  stands_low owner whose at items s = record { owns = s.owns; reads = λ j l. element_stays (at j) ∙ s.reads j l }

  -- so the space stays
  pub space_low : (objects : ℕ → Option Contents) (area : ℕ → Type 0) (moving : Option Move) (held : ℕ → Holdings)
      → IsSpace c words objects area moving held → IsSpace c (slice_set words i n) objects area moving held
  space_low objects area moving held s = record {
    owner = s.owner;
    inside = s.inside;
    object = λ o x h some few is fits word. stands_low s.owner (of_object o) (element_spot moving o h.place) x.words
        (s.object o x h some few is fits (sym (header_stays o some) ∙ word));
    low = λ o x h some few is fits word. s.low o x h some few is fits (sym (header_stays o some) ∙ word);
    range = λ t p. stands_low s.owner (of_range t p) (λ j. p + j) _ (s.range t p);
    header = λ t o h e. let k = s.header t o h e in
        record { number = k.number; fits = k.fits; word = header_stays o k.number.0 ∙ k.word };
  }

-- what one thread holds afterwards, and what the others do
pub hold_here : (held : ℕ → Holdings) (t : ℕ) (g : Holdings) → hold held t g t ≡ g
hold_here held t g = ap (λ b. cond b g (held t)) (eq-eqb t t refl)

pub hold_else : (held : ℕ → Holdings) (t u : ℕ) (g : Holdings) → u ≢ t → hold held t g u ≡ held u
hold_else held t u g ne = ap (λ b. cond b g (held u)) (ne_eqb u t ne)

pub hold_same : (held : ℕ → Holdings) (t : ℕ) (g : Holdings) → held t ≡ g → (u : ℕ) → hold held t g u ≡ held u
hold_same held t g is u = dite (ℕ_discrete u t)
    (λ e. ap (hold held t g) e ∙ (hold_here held t g ∙ (sym is ∙ ap held (sym e))))
    (λ ne. hold_else held t u g ne)

-- a thread that held something else in between
pub hold_again : (held : ℕ → Holdings) (t : ℕ) (g y z : Holdings) → z ≡ y → (u : ℕ)
    → hold held t y u ≡ hold (hold held t g) t z u
hold_again held t g y z is u = dite (ℕ_discrete u t)
    (λ e. ap (hold held t y) e
    ∙ (hold_here held t y ∙ (sym is ∙ (sym (hold_here (hold held t g) t z) ∙ ap (hold (hold held t g) t z) (sym e)))))
    (λ ne. hold_else held t u y ne ∙ (sym (hold_else held t u g ne) ∙ sym (hold_else (hold held t g) t u z ne)))

module _ (c : Config) (words : List ℕ) (objects : ℕ → Option Contents) (area : ℕ → Type 0) (moving : Option Move)
    (held : ℕ → Holdings) (s : IsSpace c words objects area moving held) where
  -- who holds the same
  pub space_same : (held' : ℕ → Holdings) → ((u : ℕ) → held' u ≡ held u) → IsSpace c words objects area moving held'
  space_same held' same = record {
    owner = s.owner;
    inside = s.inside;
    object = s.object;
    low = s.low;
    range = λ t p. subst (λ (g : Holdings). Stands c s.owner words (of_range t p) (λ j. p + j) (words_at p g.ranges))
        (sym (same t)) (s.range t p);
    header = λ t o h e. s.header t o h (ap (λ (g : Holdings). header_in o g.headers) (sym (same t)) ∙ e);
  }

  -- a thread holds nothing any more
  pub space_let_go : (t : ℕ) → IsSpace c words objects area moving (hold held t empty)
  space_let_go t = record {
    owner = s.owner;
    inside = s.inside;
    object = s.object;
    low = s.low;
    range = λ u p. dite (ℕ_discrete u t)
        (λ e. subst (λ (g : Holdings). Stands c s.owner words (of_range u p) (λ j. p + j) (words_at p g.ranges))
        (sym (ap (hold held t empty) e ∙ hold_here held t empty))
        (record { owns = λ j l. absurd (omega arith); reads = λ j l. absurd (omega arith) }))
        (λ ne. subst (λ (g : Holdings). Stands c s.owner words (of_range u p) (λ j. p + j) (words_at p g.ranges))
        (sym (hold_else held t u empty ne)) (s.range u p));
    header = λ u o h e. dite (ℕ_discrete u t)
        (λ q. absurd (let z = ap (λ (g : Holdings). header_in o g.headers)
        (sym (ap (hold held t empty) q ∙ hold_here held t empty)) ∙ e in cc))
        (λ ne. s.header u o h (ap (λ (g : Holdings). header_in o g.headers) (sym (hold_else held t u empty ne)) ∙ e));
  }
