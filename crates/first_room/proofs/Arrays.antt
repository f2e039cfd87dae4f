-- Arrays of ints go by the acts that make and write them, in their order.
use Rattle.std.proofs.Common.{◌≡◌, ◌≢◌, ◌∙◌, ℕ, Bool, true, false, cond, Option, Some, None, List, [], ◌∷◌, slice_get}
use Rattle.std.proofs.Common.{ap, refl, subst, sym}
use mathlib.Core.Logic.{dite}
use native.Mathlib.Decide.{ℕ_discrete}
use Rattle.jr_word.specs.declared.kind.Kind.{Kind}
use Rattle.jr_word.specs.declared.kind.Kind.TheVariants.{Int}
use Rattle.jr_model.specs.declared.event.Act.{Act}
use Rattle.jr_model.specs.declared.event.Act.TheVariants.{Drop, New, Write}
use Rattle.jr_model.specs.Checks.{same_element}
use Rattle.jr_model.specs.State.{Contents, State, opening}
use Rattle.jr_model.specs.Steps.{act_after, after, written}
use Rattle.jr_model.specs.History.{History, state, state_from}
use Rattle.jr_model.proofs.Updates.{at_number, at_number_self, eq_other}
use Rattle.first_room.proofs.Touching.{touches}

-- the acts of all threads that make an array of ints, or write
abbrev pub touched : History → List Act
touched [] = []
touched (e ∷ es) = cond (touches e.act) (e.act ∷ touched es) (touched es)

-- the state that these acts alone would leave
abbrev pub left_by : State → List Act → State
left_by s [] = s
left_by s (a ∷ acts) = left_by (act_after s 0 a) acts

-- each array of ints of the one stands in the other
abbrev pub AreIn : State → State → Type 0
AreIn s z = (p : ℕ) (x : Contents) → s.objects p ≡ Some x → x.kind ≡ Int → z.objects p ≡ Some x

other_kind : (k : Kind) → same_element Int k ≡ false → k ≢ Int
other_kind k e is = absurd (let same : same_element Int Int ≡ false = ap (same_element Int) (sym is) ∙ e in cc)

-- what is written has its kind still
was : (m : Option Contents) (i v : ℕ) (x : Contents) → written m i v ≡ Some x
    → (y : Contents) × (m ≡ Some y) × (y.kind ≡ x.kind)
was None i v x e = absurd cc
was (Some y) i v x e = (y, refl, cc)

in_act : (s z : State) (t : ℕ) (a : Act) → AreIn s z
    → AreIn (act_after s t a) (cond (touches a) (act_after z 0 a) z)
in_act s z t (New q k ws) i p x = go (same_element Int k) refl
  where
    made : Option Contents
    made = Some (record { kind = k; words = ws })

    go : (b : Bool) → same_element Int k ≡ b → (act_after s t (New q k ws)).objects p ≡ Some x → x.kind ≡ Int
        → (cond b (act_after z 0 (New q k ws)) z).objects p ≡ Some x
    go true is = at_number (λ m. m ≡ Some x → x.kind ≡ Int → (act_after z 0 (New q k ws)).objects p ≡ Some x)
        s.objects q p made
        (λ e at ints. subst (λ n. (act_after z 0 (New q k ws)).objects n ≡ Some x) e
        (at_number_self z.objects q made ∙ at))
        (λ ne at ints. at_number (λ m. m ≡ Some x) z.objects q p made (λ e. absurd (ne e)) (λ n. i p x at ints))
    go false is = at_number (λ m. m ≡ Some x → x.kind ≡ Int → z.objects p ≡ Some x) s.objects q p made
        (λ e at ints.
        let same : record { kind = k; words = ws } ≡ x = cc in
        absurd (other_kind k is (ap (λ (y : Contents). y.kind) same ∙ ints)))
        (λ ne at ints. i p x at ints)
in_act s z t (Write q j v) i p x =
    at_number (λ m. m ≡ Some x → x.kind ≡ Int → (act_after z 0 (Write q j v)).objects p ≡ Some x) s.objects q p
    (written (s.objects q) j v)
    (λ e at ints.
    let y = was (s.objects q) j v x at in
    let there = i q y.0 y.1 (y.2 ∙ ints) in
    subst (λ n. (act_after z 0 (Write q j v)).objects n ≡ Some x) e
    (at_number_self z.objects q (written (z.objects q) j v)
    ∙ (ap (λ m. written m j v) (there ∙ sym y.1) ∙ at)))
    (λ ne at ints. at_number (λ m. m ≡ Some x) z.objects q p (written (z.objects q) j v) (λ e. absurd (ne e)) (λ n.
    i p x at ints))
in_act s z t (Drop q) i p x =
    at_number (λ m. m ≡ Some x → x.kind ≡ Int → z.objects p ≡ Some x) s.objects q p None (λ e at ints. absurd cc)
    (λ ne at ints. i p x at ints)
in_act s z t _ i p x = λ at ints. i p x at ints

in_all : (s z : State) (es : History) → AreIn s z → AreIn (state_from s es) (left_by z (touched es))
in_all s z [] i = i
in_all s z (e ∷ es) i = go (touches e.act) (in_act s z e.thread e.act i) (λ u. in_all (after s e) u es)
  where
    go : (b : Bool) → AreIn (after s e) (cond b (act_after z 0 e.act) z)
        → ((u : State) → AreIn (after s e) u → AreIn (state_from (after s e) es) (left_by u (touched es)))
        → AreIn (state_from s (e ∷ es)) (left_by z (cond b (e.act ∷ touched es) (touched es)))
    go true next rest = rest (act_after z 0 e.act) next
    go false next rest = rest z next

-- OF A HISTORY with these acts
pub arrays_in : (es : History) (acts : List Act) → touched es ≡ acts → AreIn (state es) (left_by opening acts)
arrays_in es acts is = subst (λ l. AreIn (state es) (left_by opening l)) is
    (in_all opening opening es (λ p x at ints. absurd cc))

-- ONE ARRAY WAS MADE, and then three elements of one were written
abbrev pub filling : ℕ → ℕ → List Act
filling o p = New o Int (0 ∷ 0 ∷ 0 ∷ []) ∷ Write p 0 10 ∷ Write p 1 20 ∷ Write p 2 30 ∷ []

module _ (o p : ℕ) where
  abbrev made : State
  made = act_after opening 0 (New o Int (0 ∷ 0 ∷ 0 ∷ []))

  abbrev filled : State
  filled = left_by opening (filling o p)

  abbrev thrice : Option Contents → Option Contents
  thrice m = written (written (written m 0 10) 1 20) 2 30

  nothing_else : (q : ℕ) → o ≢ q → made.objects q ≡ None
  nothing_else q ne = rw (eq_other o q ne) refl

  at_own : filled.objects p ≡ thrice (made.objects p)
  at_own =
      let one = act_after made 0 (Write p 0 10) in
      let two = act_after one 0 (Write p 1 20) in
      at_number_self two.objects p _ ∙ ap (λ m. written m 2 30)
      (at_number_self one.objects p _ ∙ ap (λ m. written m 1 20) (at_number_self made.objects p _))

  at_other : (q : ℕ) → p ≢ q → filled.objects q ≡ made.objects q
  at_other q ne = rw (eq_other p q ne) refl

  -- where they were written into an array of ints, each array of ints has this as its second element
  pub second_is_twenty : (q : ℕ) (y x : Contents) → filled.objects p ≡ Some y → filled.objects q ≡ Some x
      → slice_get x.words 1 ≡ Some 20
  second_is_twenty q y x stands found = dite (ℕ_discrete p q)
      (λ e.
      let there : made.objects p ≡ Some (record { kind = Int; words = 0 ∷ 0 ∷ 0 ∷ [] }) =
      ap made.objects (sym same) ∙ at_number_self opening.objects o _ in
      let is : Some (record { kind = Int; words = 10 ∷ 20 ∷ 30 ∷ [] }) ≡ Some x =
      sym (at_own ∙ ap thrice there) ∙ (ap filled.objects e ∙ found) in
      let contents : record { kind = Int; words = 10 ∷ 20 ∷ 30 ∷ [] } ≡ x = cc in
      ap (λ (c : Contents). slice_get c.words 1) (sym contents))
      (λ ne. absurd (let bad : ◌≡◌ {A = Option Contents} None (Some x) =
      sym (at_other q ne ∙ nothing_else q (λ e. ne (sym same ∙ e))) ∙ found in cc))
    where
      same : o ≡ p
      same = dite (ℕ_discrete o p) (λ e. e) (λ ne. absurd (let bad : ◌≡◌ {A = Option Contents} None (Some y) =
          sym (at_own ∙ ap thrice (nothing_else p ne)) ∙ stands in cc))
