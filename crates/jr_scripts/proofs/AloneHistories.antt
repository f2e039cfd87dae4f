-- Histories whose events are all one thread's.
use Rattle.std.proofs.Common.{◌≡◌, ⊎_elim, inl, inr, ℕ, ◌==◌, Bool, true, false, cond, IsSome}
use Rattle.std.proofs.Common.{List, [], ◌∷◌, ◌++◌, refl, sym, ap, subst, ◌∙◌, append_assoc}
use Rattle.std.specs.List.{AllByRecursion}
use mathlib.Core.List.{IsPrefix}
use Rattle.jr_word.specs.declared.fault.Fault.{Fault}
use Rattle.jr_word.specs.declared.fault.Fault.TheVariants.{ObjectsFull}
use Rattle.jr_model.specs.declared.event.Event.{Event}
use Rattle.jr_model.specs.declared.event.Act.{Act}
use Rattle.jr_model.specs.declared.event.Act.TheVariants.{Reserve}
use Rattle.jr_model.specs.State.{State, IsPresent, IsOccupied}
use Rattle.jr_model.specs.Steps.{act_after, after}
use Rattle.jr_model.specs.History.{History, mine, state, state_from}
use Rattle.jr_model.specs.Refusals.{Sometime}
use Rattle.jr_model.specs.RefusedCalls.{is_harmless, may_precede}
use Rattle.jr_model.proofs.Histories.{state_append}
use Rattle.jr_model.proofs.RefusedCalls.{harmless_changes_nothing}
use Rattle.jr_model.proofs.Stays.{append_cancel}
use Rattle.jr_model.proofs.Moments.{prefix_trans}
use Rattle.jr_model.proofs.Updates.{eq_self}

pub all_map : {X : Type 0} {P Q : X → Type 0} → ((x : X) → P x → Q x) → (xs : List X) → AllByRecursion P xs
    → AllByRecursion Q xs
all_map f [] h = tt
all_map f (x ∷ xs) h = (f x h.0, all_map f xs h.1)

pub all_front : {X : Type 0} (P : X → Type 0) (xs ys : List X) → AllByRecursion P (xs ++ ys) → AllByRecursion P xs
all_front P [] ys h = tt
all_front P (x ∷ xs) ys h = (h.0, all_front P xs ys h.1)

pub all_back : {X : Type 0} (P : X → Type 0) (xs ys : List X) → AllByRecursion P (xs ++ ys) → AllByRecursion P ys
all_back P [] ys h = h
all_back P (x ∷ xs) ys h = all_back P xs ys h.1

one_act : (P : Act → Type 0) (b : Bool) (a : Act) (acts : List Act) → P a → AllByRecursion P acts
    → AllByRecursion P (cond b (a ∷ acts) acts)
one_act P true a acts p h = (p, h)
one_act P false a acts p h = h

-- what is so of each event is so of each own act
pub own_acts : (P : Act → Type 0) (t : ℕ) (es : History) → AllByRecursion (λ e. P e.act) es
    → AllByRecursion P (mine es t)
own_acts P t [] h = tt
own_acts P t (e ∷ es) h = one_act P (e.thread == t) e.act (mine es t) h.0 (own_acts P t es h.1)

-- and where all events are own, the other way round
pub own_events : (P : Act → Type 0) (t : ℕ) (es : History) → AllByRecursion (λ e. e.thread ≡ t) es
    → AllByRecursion P (mine es t) → AllByRecursion (λ e. P e.act) es
own_events P t [] own h = tt
own_events P t (e ∷ es) own h =
    let here : mine (e ∷ es) t ≡ e.act ∷ mine es t =
    ap (λ b. cond b (e.act ∷ mine es t) (mine es t)) (ap (λ u. u == t) own.0 ∙ eq_self t) in
    let k = subst (AllByRecursion P) here h in
    (k.0, own_events P t es own.1 k.1)

module _ (P : Event → Type 0) (Q : State → Type 0) (stays : (s : State) (e : Event) → P e → Q s → Q (after s e)) where
  stays_along : (s : State) (es : History) → AllByRecursion P es → Q s → Q (state_from s es)
  stays_along s [] h q = q
  stays_along s (e ∷ es) h q = stays_along (after s e) es h.1 (stays s e h.0 q)

  -- what was so at a moment, and no event since changed, is so at the end
  pub still_so : (old from new : History) (begins : IsPrefix old new) → AllByRecursion P begins.0 → IsPrefix old from
      → Sometime Q from new → Q (state new)
  still_so old from new begins all before m =
      let front : IsPrefix old m.moment = prefix_trans old from m.moment before m.from in
      let xs = front.0 in
      let ys = m.to.0 in
      let cut : old ++ (xs ++ ys) ≡ old ++ begins.0 =
      sym (append_assoc old xs ys) ∙ (ap (λ es. es ++ ys) front.1 ∙ (m.to.1 ∙ sym begins.1)) in
      let same : begins.0 ≡ xs ++ ys = sym (append_cancel old (xs ++ ys) begins.0 cut) in
      let since = all_back P xs ys (subst (AllByRecursion P) same all) in
      subst Q (sym (state_append m.moment ys) ∙ ap (λ es. state es) m.to.1)
      (stays_along (state m.moment) ys since m.met)

-- a harmless act leaves an index occupied
pub stays_occupied : (last i : ℕ) (s : State) (e : Event) → is_harmless e.act ≡ true → IsOccupied last s i
    → IsOccupied last (after s e) i
stays_occupied last i s e h o =
    let same = harmless_changes_nothing s e.thread e.act h in
    ⊎_elim
    (λ x. inl (x.0, x.1, λ stale. x.2 (sym (ap (λ f. f x.0) same.refs) ∙ stale)))
    (λ all. inr (λ serial small. let y = all serial small in (y.0, y.1, y.2, ap (λ f. f y.0) same.given ∙ y.3)))
    o

objects_stay : (e : Fault) (s : State) (t : ℕ) (a : Act) → may_precede e a ≡ true
    → (act_after s t a).objects ≡ s.objects
objects_stay ObjectsFull s t (Reserve n) h = refl
objects_stay ObjectsFull s t a h = (harmless_changes_nothing s t a h).objects
objects_stay e s t a h = (harmless_changes_nothing s t a h).objects

-- an act of a refused call leaves an object present
pub stays_present : (fault : Fault) (o : ℕ) (s : State) (e : Event) → may_precede fault e.act ≡ true → IsPresent s o
    → IsPresent (after s e) o
stays_present fault o s e h p = subst (λ objects. IsSome (objects o)) (sym (objects_stay fault s e.thread e.act h)) p
