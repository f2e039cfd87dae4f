-- Behind a collection nothing is left to collect.
use Rattle.std.proofs.Common.{◌≡◌, ◌≢◌, ℕ, Bool, true, false, None, IsSome, List, [], ◌∷◌, ◌++◌}
use Rattle.std.proofs.Common.{refl, sym, ap, subst, ◌∙◌, append_assoc, map, Decides, cond, length, arith}
use Rattle.std.proofs.lemmas.List.{append-nil, length-append}
use Rattle.std.specs.List.{AllByRecursion}
use Rattle.jr_word.specs.declared.config.Config.{Config}
use Rattle.jr_model.specs.declared.event.Role.TheVariants.{Collecting}
use Rattle.jr_model.specs.declared.event.Act.{Act}
use Rattle.jr_model.specs.declared.event.Act.TheVariants.{Gate, Clear, Drop, Settle}
use Rattle.jr_model.specs.declared.event.GateAct.TheVariants.{Shut, Reopen}
use Rattle.jr_model.specs.State.{Handle, State, IsPresent, IsReached}
use Rattle.jr_model.specs.Decided.{given_from, is_reached}
use Rattle.jr_model.specs.Steps.{after}
use Rattle.jr_model.specs.History.{History, by, state, state_from, IsLegal, IsLegalFrom, PassView, mine}
use Rattle.jr_model.specs.CollectionCalls.{Collects, IsWhole, KeepsReached, collection_acts, sweeping_acts}
use Rattle.jr_model.specs.Windows.{IsWindow}
use Rattle.jr_model.proofs.Collections.{IsKeptFrom, IsSameReach, reached_mono, same_reach_act, same_trans}
use Rattle.jr_model.proofs.Deciding.{within}
use Rattle.jr_model.proofs.Exactly.{all_map, append_all, collection_is_exact}
use Rattle.jr_model.proofs.Gates.{IsApart, apart_after, apart_state, collection_act}
use Rattle.jr_model.proofs.Histories.{legal_append, mine_append, mine_push, state_append, state_push}
use Rattle.jr_model.proofs.Presence.{named_is_present}
use Rattle.jr_model.proofs.Reaching.{reached_is}
use Rattle.jr_model.proofs.Stays.{never}
use Rattle.jr_model.proofs.Windows.{ends_last}
use Rattle.jr_model.proofs.Updates.{at_number_self, eq_self}
use Rattle.jr_threads.specs.Closing.{HasNoGarbage}

-- the gate's acts change nothing that is reached
pub same_tables : (s s' : State) → s'.refs ≡ s.refs → s'.locals ≡ s.locals → s'.objects ≡ s.objects → IsKeptFrom s s'
same_tables s s' refs locals objects = record {
  globals = λ h o g r. ap (λ f. f h) refs ∙ r;
  locals = λ t p o r. ap (λ f. f t p) locals ∙ r;
  objects = λ o x r e. ap (λ f. f o) objects ∙ e;
}

no_length : {A : Type 0} (xs : List A) → length xs ≡ 0 → xs ≡ []
no_length [] e = refl
no_length (x ∷ xs) e = absurd (omega arith)

nil_right : {A : Type 0} (xs ys : List A) → xs ++ ys ≡ [] → ys ≡ []
nil_right [] ys e = e
nil_right (x ∷ xs) ys e = absurd cc

push_not_none : {A : Type 0} (xs : List A) (x : A) → xs ++ x ∷ [] ≡ [] → ⊥
push_not_none [] x e = absurd cc
push_not_none (y ∷ xs) x e = absurd cc

-- an own event is an own act
pub own_first : (t : ℕ) (a : Act) (es : History) → mine (by t a ∷ es) t ≡ a ∷ mine es t
own_first t a es = ap (λ b. cond b (a ∷ mine es t) (mine es t)) (eq_self t)

sweeping_on : (cleared : List Handle) (dropped : List ℕ) (used : ℕ)
    → AllByRecursion (λ a. a ≢ Gate Reopen) (sweeping_acts cleared dropped used)
sweeping_on cleared dropped used =
    append_all _ (map Clear cleared ++ map Drop dropped) (Settle used ∷ [])
    (append_all _ (map Clear cleared) (map Drop dropped) (all_map _ Clear cleared (λ h e. cc))
    (all_map _ Drop dropped (λ o e. cc)))
    ((λ e. cc), tt)

module _ (c : Config) (last t : ℕ) where
  -- while t collects, what is reached stays so
  kept_reach : (s : State) (es : History) → IsApart s.role → s.role t ≡ Collecting
      → AllByRecursion (λ e. e ≢ by t (Gate Reopen)) es → IsLegalFrom c last s es → IsSameReach s (state_from s es)
  kept_reach s [] a w q l = record {
    forth = record { globals = λ h o g r. r; locals = λ u p o r. r; objects = λ o x r e. e };
    back = record { globals = λ h o g r. r; locals = λ u p o r. r; objects = λ o x r e. e };
  }
  kept_reach s (e ∷ es) a w q l =
      let r = collection_act c last t s e.thread e.act a w q.0 l.0.1 in
      same_trans s (after s e) (state_from (after s e) es) (same_reach_act c last t s e.thread e.act a w l.0.1)
      (kept_reach (after s e) es (apart_after c last s e a l.0) r.0 q.1 l.1)

  module _ (before inside : History) (cleared : List Handle) (dropped : List ℕ) (used : ℕ)
      (legal : IsLegal c last (before ++ by t (Gate Shut) ∷ inside ++ by t (Gate Reopen) ∷ []))
      (own : mine inside t ≡ sweeping_acts cleared dropped used) (whole : IsWhole (state before) cleared dropped) where
    -- the state that the reopening finds
    abbrev met : History
    met = before ++ by t (Gate Shut) ∷ inside

    abbrev end : History
    end = before ++ by t (Gate Shut) ∷ inside ++ by t (Gate Reopen) ∷ []

    legal_met : IsLegal c last met
    legal_met = ((legal_append c last met (by t (Gate Reopen) ∷ [])).0 legal).0

    parts : IsLegal c last before × IsLegalFrom c last (state before) (by t (Gate Shut) ∷ inside)
    parts = (legal_append c last before (by t (Gate Shut) ∷ inside)).0 legal_met

    keeps : KeepsReached c (state before) (state met) used
    keeps = (collection_is_exact c last t before inside [] cleared dropped used legal own whole).1

    reach : IsKeptFrom (state before) (state met)
    reach =
        let s = after (state before) (by t (Gate Shut)) in
        let on = kept_reach s inside
        (apart_after c last (state before) (by t (Gate Shut)) (apart_state c last before parts.0) parts.1.0)
        (at_number_self (state before).role t Collecting)
        (never (Gate Reopen) inside t (subst (AllByRecursion (λ a. a ≢ Gate Reopen)) (sym own)
        (sweeping_on cleared dropped used))) parts.1.1 in
        let first : IsSameReach (state before) s = record {
          forth = same_tables (state before) s refl refl refl;
          back = same_tables s (state before) refl refl refl;
        } in
        subst (IsKeptFrom (state before)) (sym (state_append before (by t (Gate Shut) ∷ inside)))
        (same_trans (state before) s (state_from s inside) first on).forth

    reached_there : (o : ℕ) → IsPresent (state met) o → IsReached (state met) o
    reached_there o p = go (is_reached c (given_from [] met) (state met) o) refl
      where
        decides : Decides (is_reached c (given_from [] met) (state met) o) (IsReached (state met) o)
        decides = reached_is c (given_from [] met) (state met) (within c last met legal_met) o

        go : (b : Bool) → is_reached c (given_from [] met) (state met) o ≡ b → IsReached (state met) o
        go true e = decides.0 e
        go false e =
            let gone : (state met).objects o ≡ None = keeps.gone o (λ r.
            let again = decides.1 (reached_mono (state before) (state met) reach r) in absurd cc) in
            let none = subst IsSome gone p in absurd cc

    -- NOTHING IS LEFT right behind a collection
    pub nothing_left : HasNoGarbage c (state end)
    nothing_left = subst (HasNoGarbage c) (sym is) (record {
      objects = λ o p. reached_mono (state met) (after (state met) (by t (Gate Reopen))) kept (reached_there o p);
      weaks = λ h o k r. reached_mono (state met) (after (state met) (by t (Gate Reopen))) kept
          (reached_there o ((named_is_present c last met legal_met).0 h o r));
      words = keeps.used_is ∙ sym keeps.words_are;
    }) where
      is : state end ≡ after (state met) (by t (Gate Reopen))
      is = state_push met (by t (Gate Reopen))

      kept : IsKeptFrom (state met) (after (state met) (by t (Gate Reopen)))
      kept = same_tables (state met) (after (state met) (by t (Gate Reopen))) refl refl refl

-- the last event of those that are seen is the thread's own: so none of others' lies behind its acts
last_own : (t : ℕ) (a : Act) (front rest before : History) → front ++ rest ≡ before ++ by t a ∷ [] → mine rest t ≡ []
    → rest ≡ []
last_own t a [] rest before is none = absurd (push_not_none (mine before t) a
    (sym (mine_push before t a) ∙ (ap (λ es. mine es t) (sym is) ∙ none)))
last_own t a (x ∷ front) rest [] is none = nil_right front rest cc
last_own t a (x ∷ front) rest (y ∷ before) is none = last_own t a front rest before (cc) none

module _ (old new : PassView) (cleared : List Handle) (dropped : List ℕ) (used : ℕ)
    (collects : Collects old new cleared dropped used) (begun : History)
    (window : IsWindow old new (collection_acts cleared dropped used) begun) where
  -- the acts behind the reopening are none of the thread's
  none_behind : mine collects.place.rest old.thread ≡ []
  none_behind =
      let p = collects.place in
      let t = old.thread in
      let d = p.from.0 in
      let first : mine p.before t ≡ mine old.seen t ++ mine d t =
      ap (λ es. mine es t) (sym p.from.1) ∙ mine_append old.seen d t in
      let all : mine new.seen t ≡ (mine p.before t ++ mine (by t (Gate Shut) ∷ p.inside) t)
      ++ mine (by t (Gate Reopen) ∷ p.rest) t =
      ap (λ es. mine es t) p.parts
      ∙ (mine_append (p.before ++ by t (Gate Shut) ∷ p.inside) (by t (Gate Reopen) ∷ p.rest) t
      ∙ ap (λ l. l ++ mine (by t (Gate Reopen) ∷ p.rest) t) (mine_append p.before (by t (Gate Shut) ∷ p.inside) t)) in
      let shut : mine (by t (Gate Shut) ∷ p.inside) t ≡ Gate Shut ∷ mine p.inside t =
      own_first t (Gate Shut) p.inside in
      let opened : mine (by t (Gate Reopen) ∷ p.rest) t ≡ Gate Reopen ∷ mine p.rest t =
      own_first t (Gate Reopen) p.rest in
      counted (mine old.seen t) (mine d t) (mine p.before t) (mine p.inside t) (mine p.rest t)
      (sweeping_acts cleared dropped used) (mine new.seen t) (mine (by t (Gate Shut) ∷ p.inside) t)
      (mine (by t (Gate Reopen) ∷ p.rest) t) first all shut opened p.own collects.did.own
    where
      counted : (o d b i r s n x y : List Act) → b ≡ o ++ d → n ≡ (b ++ x) ++ y → x ≡ Gate Shut ∷ i
          → y ≡ Gate Reopen ∷ r → i ≡ s → n ≡ o ++ (Gate Shut ∷ s ++ Gate Reopen ∷ []) → r ≡ []
      counted o d b i r s n x y eb en ex ey ei es =
          let lb = ap (λ l. length l) eb ∙ length-append o d in
          let ln = ap (λ l. length l) en ∙ length-append (b ++ x) y in
          let lbx = length-append b x in
          let lx = ap (λ l. length l) ex in
          let ly = ap (λ l. length l) ey in
          let li = ap (λ l. length l) ei in
          let ls = ap (λ l. length l) es ∙ length-append o (Gate Shut ∷ s ++ Gate Reopen ∷ []) in
          let lc = length-append (Gate Shut ∷ s) (Gate Reopen ∷ []) in
          no_length r (omega arith)

  -- A COLLECTION LEAVES NOTHING that is not reached
  pub leaves_nothing : HasNoGarbage new.config (state new.seen)
  leaves_nothing =
      let p = collects.place in
      let t = old.thread in
      let seen = ends_last old new (Gate Shut ∷ sweeping_acts cleared dropped used) (Gate Reopen) window.last refl in
      let front = p.before ++ by t (Gate Shut) ∷ p.inside ++ by t (Gate Reopen) ∷ [] in
      let is : front ++ p.rest ≡ new.seen =
      append_assoc (p.before ++ by t (Gate Shut) ∷ p.inside) (by t (Gate Reopen) ∷ []) p.rest ∙ sym p.parts in
      let own : front ++ p.rest ≡ seen.before ++ by t (Gate Reopen) ∷ [] =
      is ∙ (seen.is ∙ ap (λ u. seen.before ++ by u (Gate Reopen) ∷ []) collects.did.thread) in
      let none = last_own t (Gate Reopen) front p.rest seen.before own none_behind in
      let same : new.seen ≡ front = sym is ∙ (ap (λ l. front ++ l) none ∙ append-nil front) in
      subst (λ (z : Config × History). HasNoGarbage z.0 (state z.1)) (λ i. (sym collects.did.config i, sym same i))
      (nothing_left old.config old.last t p.before p.inside cleared
      dropped used (subst (IsLegal old.config old.last) same collects.did.legal) p.own collects.whole)
