-- The roles of the threads exclude each other.
use Rattle.std.proofs.Common.{◌≡◌, ◌≢◌, ◌⊎◌, inl, inr, ⊎_elim, ℕ, ◌==◌, Bool, true}
use Rattle.std.proofs.Common.{false, ◌∷◌, ◌++◌, refl, sym, ap, subst, ◌∙◌, nat_eq}
use Rattle.jr_word.specs.declared.config.Config.{Config}
use Rattle.jr_model.specs.declared.event.Role.{Role}
use Rattle.jr_model.specs.declared.event.Role.TheVariants.{Outside, Within, Knocking, Announcing, Collecting}
use Rattle.jr_model.specs.declared.event.Event.{Event}
use Rattle.jr_model.specs.declared.event.Act.{Act}
use Rattle.jr_model.specs.declared.event.Act.TheVariants.{Gate, ShutBusy, Clear, Drop, Settle, Meet}
use Rattle.jr_model.specs.declared.event.GateAct.TheVariants.{Enter, Knock, Leave, Withdraw}
use Rattle.jr_model.specs.declared.event.GateAct.TheVariants.{Announce, Cancel, Shut, Reopen}
use Rattle.jr_model.specs.Maps.{update}
use Rattle.jr_model.specs.State.{State, opening, is_barring}
use Rattle.jr_model.specs.Steps.{Needs, MayShut, ActNeeds, act_after, after}
use Rattle.jr_model.specs.History.{History, by, state, IsLegalFrom, IsLegal, is_collection_step, is_waiting}
use Rattle.jr_model.specs.Laws.{NoCollectionInside, OthersWait}
use Rattle.jr_model.proofs.Updates.{at_number, at_number_self, eq_true, eq_false}
use Rattle.jr_model.proofs.Histories.{legal_append, kept_from, shown_along}

-- one thread at most keeps the gate closed, and nobody is within while one collects
pub record IsApart (role : ℕ → Role) : Type 0 where
  pub alone : (t u : ℕ) → role t ≡ Collecting → role u ≡ Collecting → t ≡ u
  pub apart : (t u : ℕ) → role t ≡ Collecting → role u ≢ Within
  pub announced : (t u : ℕ) → role t ≡ Announcing → is_barring (role u) ≡ true → t ≡ u

-- a thread takes another role than Collecting, Within only where nobody
-- collects, and Announcing only where nobody keeps the gate closed
apart_quiet : (role : ℕ → Role) (t : ℕ) (r : Role) → r ≢ Collecting → (r ≡ Within → (u : ℕ) → role u ≢ Collecting)
    → (is_barring r ≡ true → (u : ℕ) → is_barring (role u) ≡ false) → IsApart role → IsApart (update nat_eq role t r)
apart_quiet role t r quiet may closes i = record {
  alone = λ u v. at_number (λ x. x ≡ Collecting → update nat_eq role t r v ≡ Collecting → u ≡ v) role t u r
      (λ e p. absurd (quiet p))
      (λ ne p. at_number (λ x. x ≡ Collecting → u ≡ v) role t v r (λ e q. absurd (quiet q)) (λ ne' q. i.alone u v p q));
  apart = λ u v. at_number (λ x. x ≡ Collecting → update nat_eq role t r v ≢ Within) role t u r
      (λ e p. absurd (quiet p))
      (λ ne p. at_number (λ x. x ≢ Within) role t v r (λ e q. may q u p) (λ ne' q. i.apart u v p q));
  announced = λ u v. at_number (λ x. x ≡ Announcing → is_barring (update nat_eq role t r v) ≡ true → u ≡ v) role t u r
      (λ e p. at_number (λ x. is_barring x ≡ true → u ≡ v) role t v r (λ e' q. sym e ∙ e') (λ ne q.
      absurd (let none = closes (ap is_barring p) v in cc)))
      (λ ne p. at_number (λ x. is_barring x ≡ true → u ≡ v) role t v r
      (λ e q. absurd (let none = closes q u in let some = ap is_barring p in cc)) (λ ne' q. i.announced u v p q));
}

apart_shut : (role : ℕ → Role) (t : ℕ) → ((u : ℕ) → u ≢ t → role u ≡ Outside)
    → IsApart (update nat_eq role t Collecting)
apart_shut role t out = record {
  alone = λ u v.
      at_number (λ x. x ≡ Collecting → update nat_eq role t Collecting v ≡ Collecting → u ≡ v) role t u Collecting
      (λ e p. at_number (λ x. x ≡ Collecting → u ≡ v) role t v Collecting (λ e' q. sym e ∙ e') (λ ne q.
      absurd (let o = out v (λ z. ne (sym z)) in cc)))
      (λ ne p. absurd (let o = out u (λ z. ne (sym z)) in cc));
  apart = λ u v. at_number (λ x. x ≡ Collecting → update nat_eq role t Collecting v ≢ Within) role t u Collecting
      (λ e p. at_number (λ x. x ≢ Within) role t v Collecting (λ e' q. cc) (λ ne q. let o = out v (λ z. ne (sym z)) in
      cc))
      (λ ne p. absurd (let o = out u (λ z. ne (sym z)) in cc));
  announced = λ u v. at_number (λ x. x ≡ Announcing → is_barring (update nat_eq role t Collecting v) ≡ true → u ≡ v)
      role t u Collecting
      (λ e p. absurd cc)
      (λ ne p. absurd (let o = out u (λ z. ne (sym z)) in cc));
}

-- where a thread may shut, everybody is outside or has announced it
pub all_may_shut : (role : ℕ → Role) (t : ℕ) → MayShut (role t) → ((u : ℕ) → u ≢ t → role u ≡ Outside) → (u : ℕ)
    → MayShut (role u)
all_may_shut role t from others u = go (u == t) refl
  where
    go : (b : Bool) → (u == t) ≡ b → MayShut (role u)
    go true e = subst (λ v. MayShut (role v)) (sym (eq_true u t e)) from
    go false e = inl (others u (eq_false u t e))

module _ (c : Config) (last : ℕ) where
  apart_act : (s : State) (t : ℕ) (a : Act) → IsApart s.role → ActNeeds c last s t a → IsApart (act_after s t a).role
  apart_act s t (Gate Enter) i n =
      apart_quiet s.role t Within (λ e. cc) (λ e u p. let none = n.1 u in cc) (λ e. absurd cc) i
  apart_act s t (Gate Knock) i n = apart_quiet s.role t Knocking (λ e. cc) (λ e. absurd cc) (λ e. absurd cc) i
  apart_act s t (Gate Leave) i n = apart_quiet s.role t Outside (λ e. cc) (λ e. absurd cc) (λ e. absurd cc) i
  apart_act s t (Gate Withdraw) i n = apart_quiet s.role t Outside (λ e. cc) (λ e. absurd cc) (λ e. absurd cc) i
  apart_act s t (Gate Announce) i n = apart_quiet s.role t Announcing (λ e. cc) (λ e. absurd cc) (λ e. n.1) i
  apart_act s t (Gate Cancel) i n = apart_quiet s.role t Outside (λ e. cc) (λ e. absurd cc) (λ e. absurd cc) i
  apart_act s t (Gate Shut) i n = apart_shut s.role t n.1
  apart_act s t (Gate Reopen) i n = apart_quiet s.role t Outside (λ e. cc) (λ e. absurd cc) (λ e. absurd cc) i
  apart_act s t _ i n = i

  pub apart_opening : IsApart opening.role
  apart_opening = record { alone = λ t u p q. absurd cc; apart = λ t u p q. cc; announced = λ t u p q. absurd cc }

  pub apart_after : (s : State) (e : Event) → IsApart s.role → Needs c last s e → IsApart (after s e).role
  apart_after s e i n = apart_act s e.thread e.act i n.1

  -- at most one thread collects, and nobody is within then
  pub apart_state : (es : History) → IsLegal c last es → IsApart (state es).role
  apart_state es l = kept_from c last (λ s. IsApart s.role) apart_after opening es apart_opening l

  pub stay_act : (t : ℕ) (s : State) (u : ℕ) (a : Act) → IsApart s.role → s.role t ≡ Within → by u a ≢ by t (Gate Leave)
      → ActNeeds c last s u a → ((act_after s u a).role t ≡ Within) × (is_collection_step a ≡ false)
  stay_act t s u (Gate Enter) i w q n = (at_number (λ x. x ≡ Within) s.role u t Within (λ e. refl) (λ ne. w), refl)
  stay_act t s u (Gate Knock) i w q n =
      (at_number (λ x. x ≡ Within) s.role u t Knocking (λ e. let o = n.0 in absurd (cc)) (λ ne. w), refl)
  stay_act t s u (Gate Leave) i w q n =
      (at_number (λ x. x ≡ Within) s.role u t Outside (λ e. absurd (q (ap (λ v. by v (Gate Leave)) e))) (λ ne. w), refl)
  stay_act t s u (Gate Withdraw) i w q n =
      (at_number (λ x. x ≡ Within) s.role u t Outside (λ e. absurd (cc)) (λ ne. w), refl)
  stay_act t s u (Gate Announce) i w q n =
      (at_number (λ x. x ≡ Within) s.role u t Announcing (λ e. let o = n.0 in absurd (cc)) (λ ne. w), refl)
  stay_act t s u (Gate Cancel) i w q n =
      (at_number (λ x. x ≡ Within) s.role u t Outside (λ e. absurd (cc)) (λ ne. w), refl)
  stay_act t s u (Gate Shut) i w q n = absurd (⊎_elim (λ e. cc) (λ e. cc) (all_may_shut s.role u n.0 n.1 t))
  stay_act t s u (Gate Reopen) i w q n = absurd (i.apart u t n.0 w)
  stay_act t s u (Clear h) i w q n = absurd (i.apart u t n.0 w)
  stay_act t s u (Drop o) i w q n = absurd (i.apart u t n.0 w)
  stay_act t s u (Settle m) i w q n = absurd (i.apart u t n.0 w)
  stay_act t s u _ i w q n = (w, refl)

  pub collection_act : (t : ℕ) (s : State) (u : ℕ) (a : Act) → IsApart s.role → s.role t ≡ Collecting
      → by u a ≢ by t (Gate Reopen) → ActNeeds c last s u a
      → ((act_after s u a).role t ≡ Collecting) × ((u ≡ t) ⊎ (is_waiting a ≡ true))
  collection_act t s u (Gate Enter) i w q n = absurd (let none = n.1 t in cc)
  collection_act t s u (Gate Knock) i w q n =
      (at_number (λ x. x ≡ Collecting) s.role u t Knocking (λ e. let o = n.0 in absurd (cc)) (λ ne. w), inr refl)
  collection_act t s u (Gate Leave) i w q n = absurd (i.apart t u w n.0)
  collection_act t s u (Gate Withdraw) i w q n =
      (at_number (λ x. x ≡ Collecting) s.role u t Outside (λ e. absurd (cc)) (λ ne. w), inr refl)
  collection_act t s u (Gate Announce) i w q n = absurd (let none = n.1 t in cc)
  collection_act t s u (Gate Cancel) i w q n =
      absurd (let same = i.announced u t n.0 (ap is_barring w) in let here = ap s.role same in cc)
  collection_act t s u (Gate Shut) i w q n = absurd (⊎_elim (λ e. cc) (λ e. cc) (all_may_shut s.role u n.0 n.1 t))
  collection_act t s u (ShutBusy m) i w q n = (w, inr refl)
  collection_act t s u (Gate Reopen) i w q n = absurd (q (ap (λ v. by v (Gate Reopen)) (i.alone u t n.0 w)))
  collection_act t s u (Clear h) i w q n = (w, inl (i.alone u t n.0 w))
  collection_act t s u (Drop o) i w q n = (w, inl (i.alone u t n.0 w))
  collection_act t s u (Settle m) i w q n = (w, inl (i.alone u t n.0 w))
  collection_act t s u Meet i w q n = (w, inr refl)
  collection_act t s u _ i w q n = absurd (i.apart t u w n.0)

  -- a legal history, cut after the event e
  pub legal_inside : (es before : History) (e : Event) (inside rest : History) → IsLegal c last es
      → es ≡ before ++ e ∷ inside ++ rest → IsLegal c last before × IsLegalFrom c last (state before) (e ∷ inside)
  legal_inside es before e inside rest l is = (legal_append c last before (e ∷ inside)).0
      ((legal_append c last (before ++ e ∷ inside) rest).0 (subst (IsLegal c last) is l)).0

  pub no_collection_inside : NoCollectionInside c last
  no_collection_inside t es before inside rest l k =
      let p = legal_inside es before (by t (Gate Enter)) inside rest l k.parts in
      shown_along c last (λ s. IsApart s.role × (s.role t ≡ Within)) (λ e. e ≢ by t (Gate Leave)) (λ e.
      is_collection_step e.act ≡ false)
      (λ s e i q n. let r = stay_act t s e.thread e.act i.0 i.1 q n.1 in ((apart_after s e i.0 n, r.0), r.1))
      (after (state before) (by t (Gate Enter))) inside (
        apart_after (state before) (by t (Gate Enter)) (apart_state before p.0) p.1.0,
        at_number_self (state before).role t Within,
      )
      k.stays p.1.1

  pub others_wait : OthersWait c last
  others_wait t es before inside rest l k =
      let p = legal_inside es before (by t (Gate Shut)) inside rest l k.parts in
      shown_along c last (λ s. IsApart s.role × (s.role t ≡ Collecting)) (λ e. e ≢ by t (Gate Reopen)) (λ e.
      (e.thread ≡ t) ⊎ (is_waiting e.act ≡ true))
      (λ s e i q n. let r = collection_act t s e.thread e.act i.0 i.1 q n.1 in ((apart_after s e i.0 n, r.0), r.1))
      (after (state before) (by t (Gate Shut))) inside (
        apart_after (state before) (by t (Gate Shut)) (apart_state before p.0) p.1.0,
        at_number_self (state before).role t Collecting,
      )
      k.stays p.1.1
