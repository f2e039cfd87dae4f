-- Windows of calls, one after the other.
use Rattle.std.proofs.Common.{◌≡◌, Bool, true, false, List, [], ◌∷◌, ◌++◌, refl, sym, ap, subst, ◌∙◌, append_assoc}
use Rattle.std.proofs.lemmas.List.{append-nil}
use Rattle.std.specs.List.{AllByRecursion}
use mathlib.Core.List.{IsPrefix}
use Rattle.jr_model.specs.declared.event.Role.{Role}
use Rattle.jr_model.specs.declared.event.Role.TheVariants.{Outside, Within}
use Rattle.jr_model.specs.declared.event.Act.{Act}
use Rattle.jr_model.specs.declared.event.Act.TheVariants.{Gate}
use Rattle.jr_model.specs.History.{History, by, mine, state, PassView, role_of, role_after, role_from, Did}
use Rattle.jr_model.specs.Windows.{IsBehind, IsLastSeen, BeginsWith, Begins, EndsWith, Ends, IsWindow, Stepped}
use Rattle.jr_model.proofs.Histories.{mine_append, mine_push}
use Rattle.jr_model.proofs.Moments.{prefix_self, prefix_trans}
use Rattle.jr_model.proofs.Stays.{mine_did, role_did, role_of_state, role_from_append}

-- who goes out is outside
out_role : (new : PassView) (a : Act) → ((r : Role) → role_after r a ≡ Outside) → IsLastSeen new a
    → role_of new ≡ Outside
out_role new a out l =
    ap (λ es. (state es).role new.thread) l.is
    ∙ (role_of_state (l.before ++ by new.thread a ∷ []) new.thread
    ∙ (ap (role_from Outside) (mine_push l.before new.thread a)
    ∙ (role_from_append Outside (mine l.before new.thread) (a ∷ [])
    ∙ out (role_from Outside (mine l.before new.thread)))))

-- what is seen last stays so where nothing more is seen
last_seen : (mid new : PassView) (a : Act) → new.thread ≡ mid.thread → new.seen ≡ mid.seen → IsLastSeen mid a
    → IsLastSeen new a
last_seen mid new a t e l =
    record { before = l.before; is = subst (λ u. new.seen ≡ l.before ++ by u a ∷ []) (sym t) (e ∙ l.is) }

module _ (mid new : PassView) (t : new.thread ≡ mid.thread) (same : role_of mid ≡ role_of new)
    (still : role_of new ≡ Outside → new.seen ≡ mid.seen) where
  out_still : (a : Act) → ((r : Role) → role_after r a ≡ Outside) → IsLastSeen mid a → IsLastSeen new a
  out_still a out l = last_seen mid new a t (still (sym same ∙ out_role mid a out l)) l

  end_still : (a : Act) → EndsWith mid a → EndsWith new a
  end_still (Gate a) l = λ e. out_still (Gate a) (λ r. e) (l e)
  end_still _ l = tt

  -- what ends stays ended where nothing more was done
  ends_still : (old : PassView) (x : Act) (xs : List Act) → Ends old mid (x ∷ xs) → Ends old new (x ∷ xs)
  ends_still old x [] e = end_still x e
  ends_still old x (y ∷ ys) e = ends_still old y ys e

ends_other : (old mid new : PassView) (y : Act) (ys : List Act) → Ends mid new (y ∷ ys) → Ends old new (y ∷ ys)
ends_other old mid new y [] e = e
ends_other old mid new y (z ∷ zs) e = ends_other old mid new z zs e

-- how the last part ends is how the whole ends
pub ends_behind : (old new : PassView) (xs : List Act) (y : Act) (ys : List Act) → Ends old new (y ∷ ys)
    → Ends old new (xs ++ y ∷ ys)
ends_behind old new [] y ys e = e
ends_behind old new (x ∷ []) y ys e = e
ends_behind old new (x ∷ z ∷ zs) y ys e = ends_behind old new (z ∷ zs) y ys e

-- how the whole ends is how its last act ends
pub ends_last : (old new : PassView) (xs : List Act) (y : Act) → Ends old new (xs ++ y ∷ []) → EndsWith new y
ends_last old new [] y e = e
ends_last old new (x ∷ []) y e = e
ends_last old new (x ∷ z ∷ zs) y e = ends_last old new (z ∷ zs) y e

behind_earlier : (old mid : PassView) (a : Act) (moment : History) → Did old mid [] → IsBehind mid a moment
    → IsBehind old a moment
behind_earlier old mid a moment d b = record {
  between = d.begins.0 ++ b.between;
  others = mine_append d.begins.0 b.between old.thread ∙ (ap (λ l. l ++ mine b.between old.thread) (mine_did [] d)
      ∙ subst (λ t. mine b.between t ≡ []) d.thread b.others);
  is = subst (λ t. moment ≡ (mid.seen ++ b.between) ++ by t a ∷ []) d.thread b.is
      ∙ ap (λ l. l ++ by old.thread a ∷ []) (ap (λ l. l ++ b.between) (sym d.begins.1)
      ∙ append_assoc old.seen d.begins.0 b.between);
}

begins_earlier : (old mid : PassView) (acts : List Act) (moment : History) → Did old mid [] → Begins mid acts moment
    → Begins old acts moment
begins_earlier old mid [] moment d b = tt
begins_earlier old mid (Gate a ∷ acts) moment d b = λ out. behind_earlier old mid (Gate a) moment d (b out)
begins_earlier old mid (_ ∷ acts) moment d b = tt

-- two windows, one after the other, are one, which begins no later than the second
pub record Joined (old new : PassView) (acts : List Act) (second : History) : Type 0 where
  pub begun : History
  pub window : IsWindow old new acts begun
  pub later : IsPrefix begun second

module _ (p q r : PassView) where
  ends_none : Did p q [] → (role_of q ≡ Outside → q.seen ≡ p.seen) → (ys : List Act) → Did q r ys → Ends q r ys
      → Ends p r ys
  ends_none d v [] e w = λ out. w out ∙ v (sym (role_did [] e) ∙ out)
  ends_none d v (y ∷ ys) e w = ends_other p q r y ys w

  ends_then : (x : Act) (xs ys : List Act) → Ends p q (x ∷ xs) → Did q r ys → Ends q r ys → Ends p r ((x ∷ xs) ++ ys)
  ends_then x xs [] v e w =
      subst (Ends p r) (sym (append-nil (x ∷ xs))) (ends_still q r e.thread (sym (role_did [] e)) w p x xs v)
  ends_then x xs (y ∷ ys) v e w = ends_behind p r (x ∷ xs) y ys (ends_other p q r y ys w)

module _ {p q r : PassView} {first second : History} where
  pub window_then : (xs ys : List Act) → Did p q xs → Did q r ys → IsWindow p q xs first → IsWindow q r ys second
      → Joined p r (xs ++ ys) second
  window_then [] ys d e v w = record {
    begun = second;
    window = record {
      from = prefix_trans p.seen q.seen second d.begins w.from;
      to = w.to;
      first = begins_earlier p q ys second d w.first;
      last = ends_none p q r d v.last ys e w.last;
    };
    later = prefix_self second;
  }
  window_then (x ∷ xs) ys d e v w = record {
    begun = first;
    window = record {
      from = v.from;
      to = prefix_trans first q.seen r.seen v.to e.begins;
      first = v.first;
      last = ends_then p q r x xs ys v.last e w.last;
    };
    later = prefix_trans first q.seen second v.to w.from;
  }

-- a pass that takes no step
pub window_nothing : (p : PassView) → IsWindow p p [] p.seen
window_nothing p = record { from = prefix_self p.seen; to = prefix_self p.seen; first = tt; last = λ out. refl }

-- one act
pub window_act : {old new : PassView} (a : Act) → Did old new (a ∷ []) → BeginsWith old a old.seen → EndsWith new a
    → IsWindow old new (a ∷ []) old.seen
window_act {old} {new} a d b e = record { from = prefix_self old.seen; to = d.begins; first = b; last = e }

-- an act that is none of the gate
abbrev pub is_within : Act → Bool
is_within (Gate a) = false
is_within _ = true

abbrev pub AreWithin : List Act → Type 0
AreWithin acts = AllByRecursion (λ a. is_within a ≡ true) acts

pub within_both : (xs ys : List Act) → AreWithin xs → AreWithin ys → AreWithin (xs ++ ys)
within_both [] ys h k = k
within_both (x ∷ xs) ys h k = (h.0, within_both xs ys h.1 k)

within_begins : (old : PassView) (acts : List Act) → AreWithin acts → Begins old acts old.seen
within_begins old [] h = tt
within_begins old (Gate a ∷ acts) h = absurd (let e = h.0 in cc)
within_begins old (_ ∷ acts) h = tt

within_end : (new : PassView) (a : Act) → is_within a ≡ true → EndsWith new a
within_end new (Gate a) e = absurd cc
within_end new _ e = tt

within_ends_some : (old new : PassView) (x : Act) (xs : List Act) → AreWithin (x ∷ xs) → Ends old new (x ∷ xs)
within_ends_some old new x [] h = within_end new x h.0
within_ends_some old new x (y ∷ ys) h = within_ends_some old new y ys h.1

within_ends : (old new : PassView) (acts : List Act) → (role_of new ≡ Outside → new.seen ≡ old.seen) → AreWithin acts
    → Ends old new acts
within_ends old new [] still h = still
within_ends old new (x ∷ xs) still h = within_ends_some old new x xs h

within_after : (r : Role) (a : Act) → is_within a ≡ true → role_after r a ≡ r
within_after r (Gate a) e = absurd cc
within_after r _ e = refl

within_from : (r : Role) (acts : List Act) → AreWithin acts → role_from r acts ≡ r
within_from r [] h = refl
within_from r (a ∷ acts) h = ap (λ s. role_from s acts) (within_after r a h.0) ∙ within_from r acts h.1

-- acts within a stay
pub window_within : {old new : PassView} (acts : List Act) → Did old new acts → role_of old ≡ Within → AreWithin acts
    → IsWindow old new acts old.seen
window_within {old} {new} acts d w h =
    let role : role_of new ≡ Within = role_did acts d ∙ (ap (λ r. role_from r acts) w ∙ within_from Within acts h) in
    record {
      from = prefix_self old.seen;
      to = d.begins;
      first = within_begins old acts h;
      last = within_ends old new acts (λ out. absurd cc) h;
    }

-- the same for one act at least
pub window_some : {old new : PassView} (x : Act) (xs : List Act) → Did old new (x ∷ xs) → AreWithin (x ∷ xs)
    → IsWindow old new (x ∷ xs) old.seen
window_some {old} {new} x xs d h = record {
  from = prefix_self old.seen;
  to = d.begins;
  first = within_begins old (x ∷ xs) h;
  last = within_ends_some old new x xs h;
}

-- an act that is the last event that is seen
pub stepped_last : {old new : PassView} {a : Act} → Stepped old new a → IsLastSeen new a
stepped_last {old} {new} {a} s = record {
  before = old.seen ++ s.behind.between;
  is = subst (λ t. new.seen ≡ (old.seen ++ s.behind.between) ++ by t a ∷ []) (sym s.did.thread) s.behind.is;
}

module _ {p q r s : PassView} where
  -- a way in, some acts, and a way out
  pub window_stay : (x : Act) (xs : List Act) (y : Act) → Stepped p q x → BeginsWith p x q.seen → Did q r xs
      → Stepped r s y → EndsWith s y → IsWindow p s (x ∷ xs ++ y ∷ []) q.seen
  window_stay x xs y a b d e l = record {
    from = a.did.begins;
    to = prefix_trans q.seen r.seen s.seen d.begins e.did.begins;
    first = b;
    last = ends_behind p s (x ∷ xs) y [] l;
  }
