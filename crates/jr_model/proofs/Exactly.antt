-- A collection clears and drops exactly what is to be.
use Rattle.std.proofs.Common.{◌≡◌, ◌≢◌, ℕ, zero, suc, ◌==◌, Bool, true, false, cond, Option, Some, None, IsSome, List}
use Rattle.std.proofs.Common.{[], ◌∷◌, ◌++◌, map, Contains, nat_eq, refl, sym, ap, subst, ◌∙◌, arith, append_assoc}
use Rattle.std.specs.List.{AllByRecursion, IsDistinct}
use Rattle.jr_word.specs.declared.config.Config.{Config}
use Rattle.jr_model.specs.declared.event.Role.TheVariants.{Collecting}
use Rattle.jr_model.specs.declared.event.Found.TheVariants.{Object, Cleared}
use Rattle.jr_model.specs.declared.event.Event.{Event}
use Rattle.jr_model.specs.declared.event.Act.{Act}
use Rattle.jr_model.specs.declared.event.Act.TheVariants.{Gate, Create, Delete, Clear, New, Write, Drop, Settle}
use Rattle.jr_model.specs.declared.event.GateAct.TheVariants.{Shut, Reopen}
use Rattle.jr_model.specs.State.{Handle, same_handle, Contents, State, IsReached, present_words}
use Rattle.jr_model.specs.Steps.{Needs, ActNeeds, act_after, after}
use Rattle.jr_model.specs.History.{History, by, state, state_from, IsLegalFrom, mine}
use Rattle.jr_model.specs.CollectionCalls.{IsToClear, IsToDrop, IsWhole, IsExact, KeepsReached, sweeping_acts}
use Rattle.jr_model.specs.Laws.{CollectionIsExact}
use Rattle.jr_model.proofs.Updates.{at_number, at_number_self, at_handle, at_handle_self}
use Rattle.jr_model.proofs.Updates.{eq_self, eq_true, eq_false, handle_true}
use Rattle.jr_model.proofs.Histories.{legal_append, legal_from_append, state_append, state_from_append, mine_append}
use Rattle.jr_model.proofs.Gates.{IsApart, apart_after, apart_state, collection_act}
use Rattle.jr_model.proofs.Stays.{never, same_along}
use Rattle.jr_model.proofs.Moments.{first_act}
use Rattle.jr_model.proofs.Collections.{IsSameReach, same_reach_act, same_trans, reached_mono, contents}

-- LISTS OF ACTS

all_append : {X : Type 0} (P : X → Type 0) (xs ys : List X) → AllByRecursion P (xs ++ ys)
    → AllByRecursion P xs × AllByRecursion P ys
all_append P [] ys h = (tt, h)
all_append P (x ∷ xs) ys h = let r = all_append P xs ys h.1 in ((h.0, r.0), r.1)

pub append_all : {X : Type 0} (P : X → Type 0) (xs ys : List X) → AllByRecursion P xs → AllByRecursion P ys
    → AllByRecursion P (xs ++ ys)
append_all P [] ys h k = k
append_all P (x ∷ xs) ys h k = (h.0, append_all P xs ys h.1 k)

pub all_map : {X Y : Type 0} (P : Y → Type 0) (f : X → Y) (xs : List X) → ((x : X) → P (f x))
    → AllByRecursion P (map f xs)
all_map P f [] h = tt
all_map P f (x ∷ xs) h = (h x, all_map P f xs h)

map_all : {X Y : Type 0} (P : Y → Type 0) (Q : X → Type 0) (f : X → Y) (xs : List X) → ((x : X) → P (f x) → Q x)
    → AllByRecursion P (map f xs) → AllByRecursion Q xs
map_all P Q f [] each h = tt
map_all P Q f (x ∷ xs) each h = (each x h.0, map_all P Q f xs each h.1)

sweeping_on : (cleared : List Handle) (dropped : List ℕ) (used : ℕ)
    → AllByRecursion (λ a. a ≢ Gate Reopen) (sweeping_acts cleared dropped used)
sweeping_on cleared dropped used =
    append_all _ (map Clear cleared ++ map Drop dropped) (Settle used ∷ [])
    (append_all _ (map Clear cleared) (map Drop dropped) (all_map _ Clear cleared (λ h e. cc))
    (all_map _ Drop dropped (λ o e. cc)))
    ((λ e. cc), tt)

-- the events cut at an own act
pub record OwnCut (t : ℕ) (xs : List Act) (a : Act) (ys : List Act) (es : History) : Type 0 where
  pub before : History
  pub since : History
  pub parts : es ≡ before ++ by t a ∷ since
  pub first : mine before t ≡ xs
  pub rest : mine since t ≡ ys

pub own_cut : (t : ℕ) (xs : List Act) (a : Act) (ys : List Act) (es : History) → mine es t ≡ xs ++ a ∷ ys
    → OwnCut t xs a ys es
own_cut t [] a ys es is = let f = first_act t a ys es is in
    record { before = f.before; since = f.since; parts = f.parts; first = f.none; rest = f.rest }
own_cut t (x ∷ xs) a ys es is =
    let f = first_act t x (xs ++ a ∷ ys) es is in
    let r = own_cut t xs a ys f.since f.rest in
    record {
      before = f.before ++ by t x ∷ r.before;
      since = r.since;
      parts = f.parts ∙ (ap (λ l. f.before ++ by t x ∷ l) r.parts
          ∙ sym (append_assoc f.before (by t x ∷ r.before) (by t a ∷ r.since)));
      first = mine_append f.before (by t x ∷ r.before) t
          ∙ (ap (λ l. l ++ mine (by t x ∷ r.before) t) f.none ∙ own_head x r.before xs r.first);
      rest = r.rest;
    }
  where
    own_head : (x : Act) (es : History) (xs : List Act) → mine es t ≡ xs → mine (by t x ∷ es) t ≡ x ∷ xs
    own_head x es xs e = rw (eq_self t, e) refl

-- where t did nothing, all events are of others
pub all_others : (t : ℕ) (es : History) → mine es t ≡ [] → AllByRecursion (λ e. e.thread ≢ t) es
all_others t [] is = tt
all_others t (e ∷ es) is = go (e.thread == t) refl is (all_others t es)
  where
    go : (b : Bool) → (e.thread == t) ≡ b → cond b (e.act ∷ mine es t) (mine es t) ≡ []
        → (mine es t ≡ [] → AllByRecursion (λ f. f.thread ≢ t) es) → AllByRecursion (λ f. f.thread ≢ t) (e ∷ es)
    go true same is rest = absurd cc
    go false same is rest = (eq_false e.thread t same, rest is)

-- WHAT HOLDS ALONG A COLLECTION

module _ (c : Config) (last : ℕ) (t : ℕ) where
  -- t collects, and nobody else is in the way
  pub record IsSweeping (s : State) : Type 0 where
    pub apart : IsApart s.role
    pub collecting : s.role t ≡ Collecting

  -- each step of a collection of t keeps what I says
  abbrev Keeps : (State → Type 0) → Type 0
  Keeps I = (s : State) (u : ℕ) (a : Act) → IsSweeping s → ActNeeds c last s u a → I s → I (act_after s u a)

  sweeping_after : (s : State) (e : Event) → IsSweeping s → e ≢ by t (Gate Reopen) → Needs c last s e
      → IsSweeping (after s e)
  sweeping_after s e i q n = record {
    apart = apart_after c last s e i.apart n;
    collecting = (collection_act c last t s e.thread e.act i.apart i.collecting q n.1).0;
  }

  -- what is kept holds at the end
  kept_along : (I : State → Type 0) → Keeps I → (s : State) (es : History) → IsSweeping s
      → AllByRecursion (λ e. e ≢ by t (Gate Reopen)) es → I s → IsLegalFrom c last s es
      → IsSweeping (state_from s es) × I (state_from s es)
  kept_along I keeps s [] w q i l = (w, i)
  kept_along I keeps s (e ∷ es) w q i l =
      kept_along I keeps (after s e) es (sweeping_after s e w q.0 l.0) q.1 (keeps s e.thread e.act w l.0.1 i) l.1

  -- the act was taken in some state of which I holds
  abbrev Taken : (State → Type 0) → Act → Type 0
  Taken I a = (s : State) × I s × ActNeeds c last s t a

  -- what is kept holds where each own act is taken
  taken_along : (I : State → Type 0) → Keeps I → (s : State) (es : History) → IsSweeping s
      → AllByRecursion (λ e. e ≢ by t (Gate Reopen)) es → I s → IsLegalFrom c last s es
      → AllByRecursion (Taken I) (mine es t)
  taken_along I keeps s [] w q i l = tt
  taken_along I keeps s (e ∷ es) w q i l = go (e.thread == t) refl
      (taken_along I keeps (after s e) es (sweeping_after s e w q.0 l.0) q.1 (keeps s e.thread e.act w l.0.1 i) l.1)
    where
      go : (b : Bool) → (e.thread == t) ≡ b → AllByRecursion (Taken I) (mine es t)
          → AllByRecursion (Taken I) (cond b (e.act ∷ mine es t) (mine es t))
      go true same rest = ((s, i, subst (λ u. ActNeeds c last s u e.act) (eq_true e.thread t same) l.0.1), rest)
      go false same rest = rest

  -- the state goes back to S: what stands stood there, and the same is reached
  pub record IsSwept (S s : State) : Type 0 where
    pub reach : IsSameReach S s
    pub names : (h : Handle) (o : ℕ) → s.refs h ≡ Object o → S.refs h ≡ Object o
    pub objects : (o : ℕ) (x : Contents) → s.objects o ≡ Some x → S.objects o ≡ Some x

  swept_act : (S : State) → Keeps (IsSwept S)
  swept_act S s u (Clear h) w n i = record {
    reach =
        same_trans S s (act_after s u (Clear h)) i.reach (same_reach_act c last t s u (Clear h) w.apart w.collecting n);
    names = λ g o. at_handle (λ x. x ≡ Object o → S.refs g ≡ Object o) s.refs h g Cleared (λ e r. absurd cc) (λ ne r.
        i.names g o r);
    objects = i.objects;
  }
  swept_act S s u (Drop p) w n i = record {
    reach =
        same_trans S s (act_after s u (Drop p)) i.reach (same_reach_act c last t s u (Drop p) w.apart w.collecting n);
    names = i.names;
    objects = λ o x. at_number (λ y. y ≡ Some x → S.objects o ≡ Some x) s.objects p o None (λ e r. absurd cc) (λ ne r.
        i.objects o x r);
  }
  swept_act S s u (Create h o) w n i = absurd (w.apart.apart t u w.collecting n.0)
  swept_act S s u (Delete h) w n i = absurd (w.apart.apart t u w.collecting n.0)
  swept_act S s u (New o k ws) w n i = absurd (w.apart.apart t u w.collecting n.0)
  swept_act S s u (Write o j v) w n i = absurd (w.apart.apart t u w.collecting n.0)
  swept_act S s u a w n i = record {
    reach = same_trans S s (act_after s u a) i.reach (same_reach_act c last t s u a w.apart w.collecting n);
    names = i.names;
    objects = i.objects;
  }

  cleared_act : (h : Handle) → Keeps (λ s. s.refs h ≡ Cleared)
  cleared_act h s u (Clear g) w n i = at_handle (λ x. x ≡ Cleared) s.refs g h Cleared (λ e. refl) (λ ne. i)
  cleared_act h s u (Create g o) w n i = absurd (w.apart.apart t u w.collecting n.0)
  cleared_act h s u (Delete g) w n i = absurd (w.apart.apart t u w.collecting n.0)
  cleared_act h s u _ w n i = i

  dropped_act : (o : ℕ) → Keeps (λ s. s.objects o ≡ None)
  dropped_act o s u (Drop p) w n i = at_number (λ x. x ≡ None) s.objects p o None (λ e. refl) (λ ne. i)
  dropped_act o s u (New p k ws) w n i = absurd (w.apart.apart t u w.collecting n.0)
  dropped_act o s u (Write p j v) w n i = absurd (w.apart.apart t u w.collecting n.0)
  dropped_act o s u _ w n i = i

  -- acts that each leave a mark, which stays and keeps the like from being taken again, are all different
  module _ {X : Type 0} (same : X → X → Bool) (make : X → Act) (Mark : X → State → Type 0)
      (keeps : (x : X) → Keeps (Mark x)) (leaves : (x : X) (s : State) → Mark x (act_after s t (make x)))
      (clash : (x y : X) (s : State) → Mark x s → ActNeeds c last s t (make y) → same x y ≡ true → ⊥) where
    differs : (x y : X) → Taken (Mark x) (make y) → same x y ≡ false
    differs x y k = go (same x y) refl
      where
        go : (b : Bool) → same x y ≡ b → b ≡ false
        go true e = absurd (clash x y k.0 k.1 k.2 e)
        go false e = refl

    once : (front : List Act) (xs : List X) (rest : List Act) (s : State) (es : History) → IsSweeping s
        → AllByRecursion (λ e. e ≢ by t (Gate Reopen)) es → IsLegalFrom c last s es
        → mine es t ≡ front ++ (map make xs ++ rest) → IsDistinct same xs
    unfolding IsDistinct
    once front [] rest s es w q l is = tt
    once front (x ∷ xs) rest s es w q l is =
        let k = own_cut t front (make x) (map make xs ++ rest) es is in
        let both =
        (legal_from_append c last s k.before (by t (make x) ∷ k.since)).0 (subst (IsLegalFrom c last s) k.parts l) in
        let never_reopens = all_append _ k.before (by t (make x) ∷ k.since)
        (subst (AllByRecursion (λ e. e ≢ by t (Gate Reopen))) k.parts q) in
        let here = kept_along (λ z. Unit {0}) (λ z u a w n i. tt) s k.before w never_reopens.0 tt both.0 in
        let there = sweeping_after (state_from s k.before) (by t (make x)) here.0 never_reopens.1.0 both.1.0 in
        let taken = taken_along (Mark x) (keeps x) (after (state_from s k.before) (by t (make x))) k.since there
        never_reopens.1.1 (leaves x (state_from s k.before)) both.1.1 in (
          map_all (Taken (Mark x)) (λ y. same x y ≡ false) make xs (differs x)
              (all_append (Taken (Mark x)) (map make xs) rest (subst (AllByRecursion (Taken (Mark x))) k.rest taken)).0,
          once [] xs rest (after (state_from s k.before) (by t (make x))) k.since there never_reopens.1.1 both.1.1
              k.rest,
        )

  module _ (S s : State) (swept : IsSwept S s) (es : History) (cleared : List Handle) (dropped : List ℕ) (used : ℕ)
      (w : IsSweeping s) (l : IsLegalFrom c last s es) (own : mine es t ≡ sweeping_acts cleared dropped used) where
    goes_on : AllByRecursion (λ e. e ≢ by t (Gate Reopen)) es
    goes_on = never (Gate Reopen) es t
        (subst (AllByRecursion (λ a. a ≢ Gate Reopen)) (sym own) (sweeping_on cleared dropped used))

    taken : AllByRecursion (Taken (IsSwept S)) (map Clear cleared)
        × AllByRecursion (Taken (IsSwept S)) (map Drop dropped)
    taken =
        let all =
        subst (AllByRecursion (Taken (IsSwept S))) own (taken_along (IsSwept S) (swept_act S) s es w goes_on swept l) in
        all_append _ (map Clear cleared) (map Drop dropped)
        (all_append _ (map Clear cleared ++ map Drop dropped) (Settle used ∷ []) all).0

    to_clear : (h : Handle) → Taken (IsSwept S) (Clear h) → IsToClear S h
    to_clear h k = (k.2.1, k.2.2, k.1.names h k.2.2 k.2.3, λ r. k.2.4 (reached_mono S k.0 k.1.reach.forth r))

    to_drop : (o : ℕ) → Taken (IsSwept S) (Drop o) → IsToDrop S o
    to_drop o k =
        let x = contents (k.0.objects o) k.2.1 in
        (subst (λ y. IsSome y) (sym (k.1.objects o x.0 x.1)) refl, λ r. k.2.2 (reached_mono S k.0 k.1.reach.forth r))

    pub exact : IsWhole S cleared dropped → IsExact S cleared dropped
    exact whole = record {
      whole = whole;
      clears_only = map_all _ (IsToClear S) Clear cleared to_clear taken.0;
      clears_once =
          once same_handle Clear (λ h s. s.refs h ≡ Cleared) cleared_act (λ h s. at_handle_self s.refs h Cleared)
          (λ h g s mark n e. let same = handle_true h g e in let found = n.3 in let here = ap s.refs same in absurd cc)
          [] cleared (map Drop dropped ++ Settle used ∷ []) s es w goes_on l (own
          ∙ append_assoc (map Clear cleared) (map Drop dropped) (Settle used ∷ []));
      drops_only = map_all _ (IsToDrop S) Drop dropped to_drop taken.1;
      drops_once = once nat_eq Drop (λ o s. s.objects o ≡ None) dropped_act (λ o s. at_number_self s.objects o None)
          (λ o p s mark n e. let same = eq_true o p e in let there = contents (s.objects p) n.1 in
          let found = there.1 in let here = ap s.objects same in absurd cc)
          (map Clear cleared) dropped (Settle used ∷ []) s es w goes_on l (own
          ∙ append_assoc (map Clear cleared) (map Drop dropped) (Settle used ∷ []));
    }

    -- a dropped object is present no more
    dropped_gone : (front : List Act) (o : ℕ) (rest : List Act) → mine es t ≡ front ++ Drop o ∷ rest
        → (state_from s es).objects o ≡ None
    dropped_gone front o rest is =
        let k = own_cut t front (Drop o) rest es is in
        let both =
        (legal_from_append c last s k.before (by t (Drop o) ∷ k.since)).0 (subst (IsLegalFrom c last s) k.parts l) in
        let on = all_append _ k.before (by t (Drop o) ∷ k.since)
        (subst (AllByRecursion (λ e. e ≢ by t (Gate Reopen))) k.parts goes_on) in
        let here = kept_along (λ z. Unit {0}) (λ z u a w n i. tt) s k.before w on.0 tt both.0 in
        let taken = state_from s k.before in
        let there = sweeping_after taken (by t (Drop o)) here.0 on.1.0 both.1.0 in
        let end = kept_along (λ z. z.objects o ≡ None) (dropped_act o) (after taken (by t (Drop o))) k.since there
        on.1.1 (at_number_self taken.objects o None) both.1.1 in
        ap (λ (z : State). z.objects o)
        (ap (state_from s) k.parts ∙ state_from_append s k.before (by t (Drop o) ∷ k.since)) ∙ end.1

    -- so is each that was to be dropped
    listed_gone : (front : List Act) (os : List ℕ) (rest : List Act) (o : ℕ)
        → mine es t ≡ front ++ (map Drop os ++ rest) → Contains os o → (state_from s es).objects o ≡ None
    listed_gone front [] rest o is (i, few, at) = absurd (omega arith)
    listed_gone front (p ∷ os) rest o is (zero, few, at) =
        ap (state_from s es).objects (sym at) ∙ dropped_gone front p (map Drop os ++ rest) is
    listed_gone front (p ∷ os) rest o is (suc i, few, at) = listed_gone (front ++ Drop p ∷ []) os rest o
        (is ∙ sym (append_assoc front (Drop p ∷ []) (map Drop os ++ rest))) (i, omega arith, at)

    all_gone : IsWhole S cleared dropped → (o : ℕ) → ¬ (IsReached S o) → (z : Option Contents)
        → (state_from s es).objects o ≡ z → (state_from s es).objects o ≡ None
    all_gone whole o unreached None e = e
    all_gone whole o unreached (Some x) e =
        let end = kept_along (IsSwept S) (swept_act S) s es w goes_on swept l in
        listed_gone (map Clear cleared) dropped (Settle used ∷ []) o
        (own ∙ append_assoc (map Clear cleared) (map Drop dropped) (Settle used ∷ []))
        (whole.drops o (subst IsSome (sym (end.1.objects o x e)) refl, unreached))

    pub keeps : IsWhole S cleared dropped → KeepsReached c S (state_from s es) used
    keeps whole =
        let end = kept_along (IsSwept S) (swept_act S) s es w goes_on swept l in
        let k = own_cut t (map Clear cleared ++ map Drop dropped) (Settle used) [] es own in
        let both = (legal_from_append c last s k.before (by t (Settle used) ∷ k.since)).0
        (subst (IsLegalFrom c last s) k.parts l) in
        let before = all_append _ k.before (by t (Settle used) ∷ k.since)
        (subst (AllByRecursion (λ e. e ≢ by t (Gate Reopen))) k.parts goes_on) in
        let here = kept_along (λ z. Unit {0}) (λ z u a w n i. tt) s k.before w before.0 tt both.0 in
        let settled = after (state_from s k.before) (by t (Settle used)) in
        let there = sweeping_after (state_from s k.before) (by t (Settle used)) here.0 before.1.0 both.1.0 in
        let tables =
        same_along c last t settled k.since there.apart there.collecting (all_others t k.since k.rest) both.1.1 in
        let last_state : state_from s es ≡ state_from settled k.since =
        ap (state_from s) k.parts ∙ state_from_append s k.before (by t (Settle used) ∷ k.since) in
        record {
          objects = end.1.reach.forth.objects;
          gone = λ o unreached. all_gone whole o unreached ((state_from s es).objects o) refl;
          used_is = ap (λ (z : State). z.used) last_state ∙ tables.used;
          words_are = ap (present_words c) last_state
              ∙ (words_same (state_from settled k.since) (state_from s k.before) tables.objects ∙ sym both.1.0.1.1);
        }
      where
        words_same : (a b : State) → a.objects ≡ b.objects → present_words c a ≡ present_words c b
        words_same a b e = ap (λ (f : ℕ → Option Contents). present_words c (record b { objects = f })) e

module _ (c : Config) (last : ℕ) where
  pub collection_is_exact : CollectionIsExact c last
  collection_is_exact t before inside rest cleared dropped used l own whole =
      let front = ((legal_append c last (before ++ by t (Gate Shut) ∷ inside) (by t (Gate Reopen) ∷ rest)).0 l).0 in
      let both = (legal_append c last before (by t (Gate Shut) ∷ inside)).0 front in
      let s = after (state before) (by t (Gate Shut)) in
      let w : IsSweeping c last t s = record {
        apart = apart_after c last (state before) (by t (Gate Shut)) (apart_state c last before both.0) both.1.0;
        collecting = at_number_self (state before).role t Collecting;
      } in
      let swept : IsSwept c last t (state before) s = record {
        reach = record {
          forth = record { globals = λ h o g r. r; locals = λ u p o r. r; objects = λ o x r e. e };
          back = record { globals = λ h o g r. r; locals = λ u p o r. r; objects = λ o x r e. e };
        };
        names = λ h o e. e;
        objects = λ o x e. e;
      } in (
        exact c last t (state before) s swept inside cleared dropped used w both.1.1 own whole,
        subst (λ z. KeepsReached c (state before) z used) (sym (state_append before (by t (Gate Shut) ∷ inside)))
            (keeps c last t (state before) s swept inside cleared dropped used w both.1.1 own whole),
      )
