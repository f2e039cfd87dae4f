-- Histories that grow at their end.
use Rattle.std.proofs.Common.{◌≡◌, ◌↔◌, ◌==◌, ℕ, Bool, true, false, cond, List}
use Rattle.std.proofs.Common.{[], ◌∷◌, ◌++◌, map, refl, sym, subst, append_assoc}
use Rattle.std.proofs.lemmas.List.{append-nil}
use Rattle.std.specs.List.{AllByRecursion}
use Rattle.jr_word.specs.declared.config.Config.{Config}
use Rattle.jr_model.specs.declared.event.Event.{Event}
use Rattle.jr_model.specs.State.{State, opening}
use Rattle.jr_model.specs.Steps.{Needs, after}
use Rattle.jr_model.specs.History.{History, state_from, state, IsLegalFrom, IsLegal, mine, by}
use Rattle.jr_model.specs.declared.event.Act.{Act}
use Rattle.jr_model.specs.Laws.{LegalGoesByStep}
use Rattle.jr_model.proofs.Updates.{eq_self}

pub state_from_append : (s : State) (xs ys : History) → state_from s (xs ++ ys) ≡ state_from (state_from s xs) ys
state_from_append s [] ys = refl
state_from_append s (x ∷ xs) ys = state_from_append (after s x) xs ys

pub state_append : (xs ys : History) → state (xs ++ ys) ≡ state_from (state xs) ys
state_append xs ys = state_from_append opening xs ys

-- the state after one more event
pub state_push : (xs : History) (e : Event) → state (xs ++ e ∷ []) ≡ after (state xs) e
state_push xs e = state_append xs (e ∷ [])

choice_append : (b : Bool) (x : Act) (xs ys : List Act) → cond b (x ∷ (xs ++ ys)) (xs ++ ys) ≡ cond b (x ∷ xs) xs ++ ys
choice_append true x xs ys = refl
choice_append false x xs ys = refl

pub mine_append : (xs ys : History) (t : ℕ) → mine (xs ++ ys) t ≡ mine xs t ++ mine ys t
mine_append [] ys t = refl
mine_append (x ∷ xs) ys t = rw (mine_append xs ys t) (choice_append (x.thread == t) x.act (mine xs t) (mine ys t))

-- one more event of t is one more act of its own, and none of another thread's
pub mine_push : (xs : History) (t : ℕ) (a : Act) → mine (xs ++ by t a ∷ []) t ≡ mine xs t ++ a ∷ []
mine_push xs t a = rw (mine_append xs (by t a ∷ []) t, eq_self t) refl

-- a list of events of t alone
pub mine_all : (t : ℕ) (acts : List Act) → mine (map (by t) acts) t ≡ acts
mine_all t [] = refl
mine_all t (a ∷ acts) = rw (eq_self t, mine_all t acts) refl

pub all_push : (P : Event → Type 0) (xs : History) (e : Event) → AllByRecursion P xs → P e
    → AllByRecursion P (xs ++ e ∷ [])
all_push P [] e h p = (p, tt)
all_push P (x ∷ xs) e h p = (h.0, all_push P xs e h.1 p)

module _ (c : Config) (last : ℕ) where
  pub legal_from_append : (s : State) (xs ys : History)
      → IsLegalFrom c last s (xs ++ ys) ↔ IsLegalFrom c last s xs × IsLegalFrom c last (state_from s xs) ys
  legal_from_append s [] ys = (λ l. (tt, l), λ l. l.1)
  legal_from_append s (x ∷ xs) ys =
      let rest = legal_from_append (after s x) xs ys in
      (λ l. ((l.0, (rest.0 l.1).0), (rest.0 l.1).1), λ l. (l.0.0, rest.1 (l.0.1, l.1)))

  pub legal_append : (xs ys : History)
      → IsLegal c last (xs ++ ys) ↔ IsLegal c last xs × IsLegalFrom c last (state xs) ys
  legal_append xs ys = legal_from_append opening xs ys

  -- a history with one more event is legal where the event is a step
  pub legal_push : (xs : History) (e : Event)
      → IsLegal c last (xs ++ e ∷ []) ↔ IsLegal c last xs × Needs c last (state xs) e
  legal_push xs e =
      let both = legal_append xs (e ∷ []) in
      (λ l. ((both.0 l).0, (both.0 l).1.0), λ l. both.1 (l.0, (l.1, tt)))

  extend : (I : History → Type 0)
      → ((es : History) (e : Event) → IsLegal c last es → I es → Needs c last (state es) e → I (es ++ e ∷ []))
      → (xs ys : History) → IsLegal c last xs → I xs → IsLegalFrom c last (state xs) ys → I (xs ++ ys)
  extend I each xs [] l i m = subst I (sym (append-nil xs)) i
  extend I each xs (y ∷ ys) l i m =
      subst I (append_assoc xs (y ∷ []) ys)
      (extend I each (xs ++ y ∷ []) ys ((legal_push xs y).1 (l, m.0)) (each xs y l i m.0)
      (subst (λ s. IsLegalFrom c last s ys) (sym (state_push xs y)) m.1))

  -- what holds of the empty history, and goes on at each step, holds of each legal history
  pub legal_induction : (I : History → Type 0) → I []
      → ((es : History) (e : Event) → IsLegal c last es → I es → Needs c last (state es) e → I (es ++ e ∷ []))
      → (es : History) → IsLegal c last es → I es
  legal_induction I i each es l = extend I each [] es tt i l

  -- what holds of a state, and is kept by each step, holds of each state after it
  pub kept_from : (I : State → Type 0) → ((s : State) (e : Event) → I s → Needs c last s e → I (after s e))
      → (s : State) (es : History) → I s → IsLegalFrom c last s es → I (state_from s es)
  kept_from I each s [] i l = i
  kept_from I each s (e ∷ es) i l = kept_from I each (after s e) es (each s e i l.0) l.1

  -- the same along events that each meet Q, with what each of them shows
  pub shown_along : (I : State → Type 0) (Q P : Event → Type 0)
      → ((s : State) (e : Event) → I s → Q e → Needs c last s e → I (after s e) × P e) → (s : State) (es : History)
      → I s → AllByRecursion Q es → IsLegalFrom c last s es → AllByRecursion P es
  shown_along I Q P each s [] i q l = tt
  shown_along I Q P each s (e ∷ es) i q l =
      let here = each s e i q.0 l.0 in
      (here.1, shown_along I Q P each (after s e) es here.0 q.1 l.1)

  -- a legal history in which f comes after e, cut at both
  pub record IsCut (before : History) (e : Event) (between : History) (f : Event) : Type 0 where
    pub legal_before : IsLegal c last before
    pub first : Needs c last (state before) e
    pub legal_between : IsLegalFrom c last (after (state before) e) between
    pub second : Needs c last (state_from (after (state before) e) between) f

  pub cut : (before : History) (e : Event) (between : History) (f : Event) (rest : History)
      → IsLegal c last (before ++ e ∷ between ++ f ∷ rest) → IsCut before e between f
  cut before e between f rest l =
      let p = (legal_append (before ++ e ∷ between) (f ∷ rest)).0 l in
      let q = (legal_append before (e ∷ between)).0 p.0 in
      record {
        legal_before = q.0;
        first = q.1.0;
        legal_between = q.1.1;
        second = subst (λ s. Needs c last s f) (state_append before (e ∷ between)) p.1.0;
      }

  pub legal_goes_by_step : LegalGoesByStep c last
  legal_goes_by_step = (
    tt,
    λ es e. (
      λ l. let p = (legal_push es e).0 l in (p.0, (p.1, state_push es e)),
      λ l. (legal_push es e).1 (l.0, l.1.0),
    ),
  )
