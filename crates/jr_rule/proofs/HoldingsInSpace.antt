-- What a thread holds stands in the space.
use Rattle.std.proofs.Common.{◌≡◌, ◌⊎◌, ⊎_elim, inl, inr, ◌+◌, ◌<◌, ◌≤◌, ℕ, Some}
use Rattle.std.proofs.Common.{None, List, refl, sym, ap, subst, ◌∙◌, arith}
use Rattle.jr_word.specs.declared.config.Config.{Config}
use Rattle.jr_word.specs.Config.{row_words}
use Rattle.jr_word.specs.declared.header.HeaderParts.{HeaderParts}
use Rattle.jr_model.specs.declared.event.Role.{Role}
use Rattle.jr_model.specs.declared.event.Role.TheVariants.{Outside, Within, Knocking, Announcing, Collecting}
use Rattle.jr_model.specs.State.{State}
use Rattle.jr_model.specs.History.{History, state, IsLegal}
use Rattle.jr_model.proofs.Gates.{apart_state}
use Rattle.jr_model.proofs.Lengths.{lengths_fit}
use Rattle.jr_steps.specs.declared.known.Holdings.{Holdings}
use Rattle.jr_steps.specs.Holdings.{InSpace, ShareNoWord, empty, header_in}
use Rattle.jr_steps.specs.Says.{element_spot}
use Rattle.jr_rule.specs.Image.{element_at, of_object, MayHold, IsImage}
use Rattle.jr_rule.proofs.Readings.{none_some}
use Rattle.jr_rule.proofs.HeapImages.{there, own_element, known_element}

pub holdings_in_space : (c : Config) (last : ℕ) (log : History) (words : List ℕ) (held : ℕ → Holdings)
    → IsLegal c last log → IsImage c last words (state log) held → (t : ℕ) (g : Holdings) → held t ≡ g → InSpace c g
holdings_in_space c last log words held legal image t g is = subst (InSpace c) is (record {
  own = λ p i l. let below = own_element c last words s held image t p i l in omega (arith, fit);
  good = λ o h e. (image.space.header t o h e).fits;
  elements = λ o h e i l. let below = known_element c last words s held image o h i (image.space.header t o h e) l in
      omega (arith, fit);
  apart = λ none. apart (at_headers (s.role t) refl (image.held_by_role.each t) none);
})
  where
    s : State
    s = state log

    -- the objects stand at their headers, or nothing is held
    at_headers : (r : Role) → s.role t ≡ r → MayHold image.moving r (held t) → (held t).moving ≡ None
        → (image.moving ≡ None) ⊎ (held t ≡ empty)
    at_headers Within e h none =
        inl (image.held_by_role.still (λ u collects. (apart_state c last log legal).apart u t collects e))
    at_headers Collecting e h none = inl (sym h.0 ∙ none)
    at_headers Outside e h none = inr h
    at_headers Knocking e h none = inr h
    at_headers Announcing e h none = inr h

    one : (o r i j : ℕ) → of_object o i ≡ of_object r j → o ≡ r
    one o r i j e = cc

    owned : (o : ℕ) (h : HeaderParts) (i : ℕ) → image.moving ≡ None → header_in o (held t).headers ≡ Some h
        → i < h.length → image.space.owner (h.place + i) ≡ of_object o i
    owned o h i none e l =
        let x = there c last words s held image o h (image.space.header t o h e) in
        let long = x.long in
        subst (λ m. image.space.owner (element_spot m o h.place i) ≡ of_object o i) none (x.stands.owns i (omega arith))

    apart : (image.moving ≡ None) ⊎ (held t ≡ empty) → ShareNoWord (held t)
    apart which o r h k i j ne e f l m same = ⊎_elim
        (λ none. ne (one o r i j (sym (owned o h i none e l) ∙ (ap image.space.owner same ∙ owned r k j none f m))))
        (λ nothing. let z = sym (ap (λ (z : Holdings). header_in o z.headers) nothing) ∙ e in absurd (none_some h z))
        which

    fit : s.used ≤ c.words
    fit = (lengths_fit c last log legal).1

-- the words of the space are words of the row
pub element_in_row : (c : Config) (x : ℕ) → x < c.words → element_at c x < row_words c
element_in_row c x l = omega arith
