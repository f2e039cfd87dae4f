-- What stands while a thread stays in the gate, whatever others do; and steps that only look.
use Rattle.std.proofs.Common.{◌≡◌, ◌≢◌, ℕ, Bool, true, false, Option, Some}
use Rattle.std.proofs.Common.{Result, List, [], ◌∷◌, ◌++◌, map, length, drop, slice_get, slice_index_or}
use Rattle.std.proofs.Common.{refl, sym, ap, subst, ◌∙◌, arith, append_assoc, append-nil}
use Rattle.std.specs.List.{AllByRecursion}
use Rattle.std.proofs.lemmas.List.{set-get_or, length-map, length-set, drop_all}
use mathlib.Core.List.{IsPrefix}
use Rattle.jr_word.specs.declared.config.Config.{Config}
use Rattle.jr_word.specs.declared.fault.Fault.{Fault}
use Rattle.jr_model.specs.declared.event.Role.TheVariants.{Within}
use Rattle.jr_model.specs.declared.event.GateAct.TheVariants.{Leave}
use Rattle.jr_model.specs.declared.event.Act.{Act}
use Rattle.jr_model.specs.declared.event.Act.TheVariants.{Gate}
use Rattle.jr_model.specs.State.{Contents}
use Rattle.jr_model.specs.Steps.{Needs}
use Rattle.jr_model.specs.Frames.{Frames}
use Rattle.jr_model.specs.History.{History, IsLegal, by, mine, role_from, role_after, state}
use Rattle.jr_model.specs.declared.event.Role.TheVariants.{Outside}
use Rattle.jr_model.proofs.Histories.{legal_append, legal_push, mine_append, mine_push, state_append}
use Rattle.jr_model.proofs.Gates.{apart_state}
use Rattle.jr_model.proofs.Stays.{IsStill, append_cancel, never, role_from_append, role_of_state, still_along}
use Rattle.jr_world.specs.World.{Ref, World, found}
use Rattle.jr_world.specs.Births.{Births, births}
use Rattle.jr_world.proofs.Births.BornStays.{StandsLike, stands_within}
use Rattle.jr_world.specs.Doing.{Doing, Shared, as_left, as_seen, atom, owner_if, whatever}
use Rattle.jr_world.specs.Plays.{AreFrames, OthersGoOn, ActsNext, LeavesOthers, Plays, SharedStands, StandsBy}
use Rattle.jr_world.specs.Plays.{owner_of_handle}
use Rattle.jr_world.specs.Plays.Plays.{moves}
use Rattle.one_order.specs.Orders.{Item}

-- the act is one at the gate
abbrev pub is_of_gate : Act → Bool
is_of_gate (Gate a) = true
is_of_gate _ = false

role_of_rest : (acts : List Act) → AllByRecursion (λ a. is_of_gate a ≡ false) acts → role_from Within acts ≡ Within
role_of_rest [] none = refl
role_of_rest (a ∷ acts) none = ap (λ r. role_from r acts) (same a none.0) ∙ role_of_rest acts none.1
  where
    same : (a : Act) → is_of_gate a ≡ false → role_after Within a ≡ Within
    same (Gate a) e = absurd cc
    same _ e = refl

no_leave : (acts : List Act) → AllByRecursion (λ a. is_of_gate a ≡ false) acts
    → AllByRecursion (λ a. a ≢ Gate Leave) acts
no_leave [] none = tt
no_leave (a ∷ acts) none = (λ is. let bad = ap is_of_gate (sym is) ∙ none.0 in absurd cc, no_leave acts none.1)

all_two : {A : Type 0} (P : A → Type 0) (xs ys : List A) → AllByRecursion P xs → AllByRecursion P ys
    → AllByRecursion P (xs ++ ys)
all_two P [] ys first second = second
all_two P (x ∷ xs) ys first second = (first.0, all_two P xs ys first.1 second)

all_first : {A : Type 0} (P : A → Type 0) (xs ys : List A) → AllByRecursion P (xs ++ ys) → AllByRecursion P xs
all_first P [] ys both = tt
all_first P (x ∷ xs) ys both = (both.0, all_first P xs ys both.1)

all_second : {A : Type 0} (P : A → Type 0) (xs ys : List A) → AllByRecursion P (xs ++ ys) → AllByRecursion P ys
all_second P [] ys both = both
all_second P (x ∷ xs) ys both = all_second P xs ys both.1

module _ (c : Config) (last : ℕ) (whole : History) (t : ℕ) (legal : IsLegal c last whole) where
  -- a beginning of the whole is legal
  pub front_legal : (now : History) → IsPrefix now whole → IsLegal c last now
  front_legal now (rest, is) = ((legal_append c last now rest).0 (subst (IsLegal c last) (sym is) legal)).0

  -- the next act has what it needs
  pub next_needs : (past now : History) (a : Act) → ActsNext c whole t past now a → Needs c last (state now) (by t a)
  next_needs past now a next =
      ((legal_push c last now (by t a)).0 (front_legal (now ++ by t a ∷ []) next.next)).1

  -- A STAY GOES ON from one moment to another: the thread is within, and does nothing at the gate
  pub record Stays (from to : History) : Type 0 where
    pub since : History
    pub is : to ≡ from ++ since
    pub within : (state from).role t ≡ Within
    pub none : AllByRecursion (λ a. is_of_gate a ≡ false) (mine since t)

  pub stays_here : (now : History) → (state now).role t ≡ Within → Stays now now
  stays_here now within = record { since = []; is = sym (append-nil now); within = within; none = tt }

  -- the thread is within at the end of it too
  pub still_within : (from to : History) → Stays from to → (state to).role t ≡ Within
  still_within from to stays =
      role_of_state to t ∙ ap (λ h. role_from Outside (mine h t)) stays.is
      ∙ ap (role_from Outside) (mine_append from stays.since t)
      ∙ role_from_append Outside (mine from t) (mine stays.since t)
      ∙ ap (λ r. role_from r (mine stays.since t)) (sym (role_of_state from t) ∙ stays.within)
      ∙ role_of_rest (mine stays.since t) stays.none

  pub stays_then : (from mid to : History) → Stays from mid → Stays mid to → Stays from to
  stays_then from mid to first second = record {
    since = first.since ++ second.since;
    is = second.is ∙ ap (λ h. h ++ second.since) first.is ∙ append_assoc from first.since second.since;
    within = first.within;
    none = subst (AllByRecursion (λ a. is_of_gate a ≡ false)) (sym (mine_append first.since second.since t))
        (all_two (λ a. is_of_gate a ≡ false) (mine first.since t) (mine second.since t) first.none second.none);
  }

  -- .. and from one moment of it to a later one
  pub stays_between : (from mid to : History) → Stays from mid → Stays from to → IsPrefix mid to → Stays mid to
  stays_between from mid to first second (rest, is) = record {
    since = rest;
    is = sym is;
    within = still_within from mid first;
    none = all_second (λ a. is_of_gate a ≡ false) (mine first.since t) (mine rest t)
        (subst (AllByRecursion (λ a. is_of_gate a ≡ false))
        (ap (λ h. mine h t) (sym whole_since) ∙ mine_append first.since rest t) second.none);
  }
    where
      whole_since : first.since ++ rest ≡ second.since
      whole_since = append_cancel from (first.since ++ rest) second.since
          (sym (append_assoc from first.since rest) ∙ ap (λ h. h ++ rest) (sym first.is) ∙ is ∙ second.is)

  -- .. and from its beginning to an earlier moment of it
  pub stays_front : (from mid to : History) → Stays from to → IsPrefix from mid → IsPrefix mid to → Stays from mid
  stays_front from mid to stays (since, is) (rest, is') = record {
    since = since;
    is = sym is;
    within = stays.within;
    none = all_first (λ a. is_of_gate a ≡ false) (mine since t) (mine rest t)
        (subst (AllByRecursion (λ a. is_of_gate a ≡ false))
        (ap (λ h. mine h t) (sym whole_since) ∙ mine_append since rest t) stays.none);
  }
    where
      whole_since : since ++ rest ≡ stays.since
      whole_since = append_cancel from (since ++ rest) stays.since
          (sym (append_assoc from since rest) ∙ ap (λ h. h ++ rest) is ∙ is' ∙ stays.is)

  -- others' events leave it
  pub stays_by_others : (from past now : History) → Stays from past → OthersGoOn c whole t past now → Stays from now
  stays_by_others from past now stays goes = stays_then from past now stays (record {
    since = goes.since;
    is = goes.is;
    within = still_within from past stays;
    none = subst (AllByRecursion (λ a. is_of_gate a ≡ false)) (sym goes.others) tt;
  })

  -- and so does an act of the thread that is none at the gate
  pub stays_by_act : (from past now : History) (a : Act) → Stays from past → ActsNext c whole t past now a
      → is_of_gate a ≡ false → Stays from (now ++ by t a ∷ [])
  stays_by_act from past now a stays next no_gate =
      let so = stays_by_others from past now stays next.goes in
      stays_then from now (now ++ by t a ∷ []) so (record {
        since = by t a ∷ [];
        is = refl;
        within = still_within from now so;
        none = subst (AllByRecursion (λ b. is_of_gate b ≡ false)) (sym (mine_push [] t a)) (no_gate, tt);
      })

  -- what is present at its beginning is present at its end, of the same kind and length
  pub still_between : (from to : History) → Stays from to → IsPrefix to whole → IsStill (state from) (state to)
  still_between from to stays begins =
      let both = (legal_append c last from stays.since).0
      (subst (IsLegal c last) stays.is (front_legal to begins)) in
      subst (IsStill (state from)) (sym (ap state stays.is ∙ state_append from stays.since))
      (still_along c last t (state from) stays.since (apart_state c last from both.0) stays.within
      (never (Gate Leave) stays.since t (no_leave (mine stays.since t) stays.none)) both.1)

  -- and what stands where it was born stands there at its end
  pub like_between : (from to : History) → Stays from to → IsPrefix to whole → (o j : ℕ) (x : Contents)
      → slice_get (births from).objects j ≡ Some (o, Some x) → StandsLike (births to) j o x
  like_between from to stays begins o j x e =
      subst (λ h. StandsLike (births h) j o x) (sym stays.is)
      (stands_within c last t from stays.since (subst (IsLegal c last) stays.is (front_legal to begins)) stays.within
      (never (Gate Leave) stays.since t (no_leave (mine stays.since t) stays.none)) j o x e)

-- A STEP THAT ONLY LOOKS leaves what stands
module _ (c : Config) (t : ℕ) (now : History) (f : Frames) where
  pub both_long : {b : Births} (s : Shared) → StandsBy b c t now f s → length s.refs ≡ length s.owners
  both_long {b} s st = ap length st.refs ∙ (length-map b.refs (λ e. e.1)
      ∙ sym (ap length st.owners ∙ length-map b.refs (λ e. owner_of_handle e.0)))

  -- where no reference came, no owner comes
  pub no_more_owners : (s : Shared) (refs : List (Option Ref)) → length refs ≡ length s.owners
      → s.owners ++ map (owner_if t) (drop (length s.owners) refs) ≡ s.owners
  no_more_owners s refs long = ap (λ l. s.owners ++ map (owner_if t) l) (drop_all (length s.owners) refs (omega arith))
      ∙ append-nil s.owners

  pub seen_stands : {b : Births} (s : Shared) → StandsBy b c t now f s
      → StandsBy b c t now f (as_left t s (as_seen t s))
  seen_stands {b} s st = record {
    objects = st.objects;
    refs = st.refs;
    owners = no_more_owners s s.refs (both_long s st) ∙ st.owners;
    used = st.used;
    many = st.many;
    roles = st.roles;
    lists = length-set s.frames t (slice_index_or s.frames t []) ∙ st.lists;
    frames = subst (λ l. AreFrames t b.refs (slice_index_or l t []) f.frames)
        (sym (set-get_or s.frames t [])) st.frames;
    posted = st.posted;
    places = st.places;
    agreed = st.agreed;
    sound = st.sound;
  }

pub seen_keeps : (t : ℕ) (s : Shared) → LeavesOthers t s (as_left t s (as_seen t s))
seen_keeps t s =
    record { frames = λ u ne. ap (λ l. slice_index_or l u []) (set-get_or s.frames t []); board = refl }

-- a step that looks at the world, and what follows by what it found there
pub looks_then : {X A : Type 0} (c : Config) (whole : History) (t : ℕ) (V : History → Result A Fault → Type 0)
    (g : Frames)
    (behind : List (Item Act)) (look : World → Result X Fault) (next : Result X Fault → Doing A) (past : History)
    (f : Frames) (items : List (Item Act))
    → ((now : History) (s : Shared) → OthersGoOn c whole t past now → SharedStands c t now f s
    → Plays c whole t V g behind (next (look (as_seen t s))) now f items)
    → Plays c whole t V g behind (whatever (atom (found look)) next) past f items
looks_then c whole t V g behind look next past f items goes_on = moves true f
    (λ now s goes st. (seen_stands c t now f s st, seen_keeps t s))
    (λ now s goes st. goes_on now s goes st)
