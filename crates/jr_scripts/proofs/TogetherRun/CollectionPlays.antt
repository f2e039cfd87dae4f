-- THE COLLECTING COMMAND IS PLAYED: its shut, the sweep where the gate is open again, and a shut that is kept out.
use Rattle.std.proofs.Common.{◌≡◌, ◌≢◌, ◌≤◌, ◌<◌, ◌+◌, ◌==◌, ◌⊎◌, ℕ, zero, suc, Bool, true, false, cond, not}
use Rattle.std.proofs.Common.{nat_eq}
use Rattle.std.proofs.Common.{if◌then◌else◌, inl, inr, Option, Some, Result, Ok, Err, List, [], ◌∷◌, ◌++◌, map}
use Rattle.std.proofs.Common.{length, slice_index_or, slice_set, refl, sym, ap, subst, ◌∙◌, arith, append_assoc}
use Rattle.std.proofs.Common.{append-nil}
use Rattle.std.specs.List.{AllByRecursion, flat_map, list_any, sum_by}
use Rattle.std.proofs.lemmas.List.{get_or-set_same, get_or-set_other, length-map, length-set, map-append, set-get_or}
use mathlib.Core.List.{IsPrefix}
use Rattle.jr_word.specs.declared.config.Config.{Config}
use Rattle.jr_word.specs.declared.fault.Fault.{Fault}
use Rattle.jr_word.specs.declared.fault.Fault.TheVariants as fault
use Rattle.jr_model.specs.declared.event.Role.{Role}
use Rattle.jr_model.specs.declared.event.Role.TheVariants.{Outside, Collecting}
use Rattle.jr_model.specs.declared.event.GateAct.TheVariants.{Knock, Reopen, Shut, Withdraw}
use Rattle.jr_model.specs.declared.event.Act.{Act}
use Rattle.jr_model.specs.declared.event.Act.TheVariants.{Clear, Drop, Gate, Meet, Settle, ShutBusy}
use Rattle.jr_model.specs.declared.event.Event.{Event}
use Rattle.jr_model.specs.Maps.{update, sum_below, count_below}
use Rattle.jr_model.specs.State.{AreOthers, Handle, State, is_outside, length_of}
use Rattle.jr_model.specs.Steps.{MayShut, act_after}
use Rattle.jr_model.specs.Frames.{Frames, stored_at}
use Rattle.jr_model.specs.History.{History, IsLegal, by, is_waiting, mine, state}
use Rattle.jr_model.specs.CollectionCalls.{IsWhole, collection_acts, sweeping_acts}
use Rattle.jr_model.proofs.Counts.{bit, count_all_false, count_role}
use Rattle.jr_model.proofs.Gates.{apart_state, collection_act}
use Rattle.jr_model.proofs.Histories.{legal_append, legal_push, mine_append, mine_push, state_push}
use Rattle.jr_model.proofs.Lengths.{sum_same}
use Rattle.jr_model.proofs.Updates.{at_number_self, eq_false, eq_other, eq_self, eq_true}
use Rattle.jr_weak.specs.declared.collecting.Collected.{Collected}
use Rattle.jr_world.specs.World.{World, how_many, standing_at}
use Rattle.jr_world.specs.Births.{Births, births}
use Rattle.jr_world.specs.Doing.{Doing, Shared, as_seen, by_step, in_role, whatever}
use Rattle.jr_world.specs.Doing.Doing.{ended}
use Rattle.jr_world.specs.Plays.{ActsNext, AreFrames, LeavesOthers, OthersGoOn, Plays, SharedStands, StandsBy}
use Rattle.jr_world.specs.Plays.{open_or, open_part, owner_of_handle, sweep_of, under_way}
use Rattle.jr_world.specs.Plays.Plays.{does, has_ended, unseen}
use Rattle.jr_world.proofs.Births.BornLists.{births_push}
use Rattle.jr_world.proofs.GatePlays.{role_by}
use Rattle.jr_world.proofs.LookStands.{agreed_behind, look_shows}
use Rattle.jr_world.proofs.OpenParts.{none_collects, sweep_push}
use Rattle.jr_world.proofs.GatePlays.{role_by}
use Rattle.jr_world.proofs.Standing.{both_long, front_legal, next_needs, no_more_owners}
use Rattle.jr_world.proofs.TogetherRuns.{frames_shown}
use Rattle.one_order.specs.Orders.{Item}
use Rattle.one_order.specs.Orders.Item.{does as acting}
use Rattle.jr_scripts.specs.Sweeps.{elements_of, is_found_reached, kept_objects, kept_ref, reached_by, rooted, swept}
use Rattle.jr_scripts.specs.Sweeps.{told_of}
use Rattle.jr_scripts.specs.Together.{others_in, shuts, sweeps_out}
use Rattle.jr_scripts.proofs.TogetherRun.PlayedTexts.{world_born}
use Rattle.jr_scripts.proofs.TogetherRun.SweptBirths.{BornRef, SweepsTo, collection_sweeps, each_on, empty_one}
use Rattle.jr_scripts.proofs.TogetherRun.SweptBirths.{many_next}

-- WHAT A SWEEP LEAVES is told by objects and references alone

reached_alike : (w v : World) → w.objects ≡ v.objects → (k : ℕ) (os : List ℕ) → reached_by w k os ≡ reached_by v k os
reached_alike w v same zero os = refl
reached_alike w v same (suc k) os =
    ap (λ l. os ++ reached_by w k (flat_map (λ o. elements_of (standing_at l o)) os)) same
    ∙ ap (λ l. os ++ l) (reached_alike w v same k (flat_map (λ o. elements_of (standing_at v.objects o)) os))

found_alike : (w v : World) → w.objects ≡ v.objects → w.refs ≡ v.refs → is_found_reached w ≡ is_found_reached v
found_alike w v objects refs = ap {B = ℕ → Bool} (λ (l : List ℕ) (o : ℕ). list_any (λ p. p == o) l)
    (reached_alike w v objects (length w.objects) (flat_map rooted w.refs)
    ∙ ap (λ l. reached_by v (length l) (flat_map rooted w.refs)) objects
    ∙ ap (λ l. reached_by v (length v.objects) (flat_map rooted l)) refs)

told_alike : (w v : World) → w.objects ≡ v.objects → w.refs ≡ v.refs
    → told_of w (swept (is_found_reached w) w) ≡ told_of v (swept (is_found_reached v) v)
told_alike w v objects refs =
    ap (λ f. told_of w (swept f w)) (found_alike w v objects refs)
    ∙ ap (λ l. told_of (record w { objects = l }) (swept (is_found_reached v) (record w { objects = l }))) objects
    ∙ ap (λ l. told_of (record w { objects = v.objects; refs = l })
    (swept (is_found_reached v) (record w { objects = v.objects; refs = l }))) refs

-- what a thread has done is no more where others went on
pub others_own : (c : Config) (whole : History) (t : ℕ) (past now : History) → OthersGoOn c whole t past now
    → mine now t ≡ mine past t
others_own c whole t past now goes = ap (λ h. mine h t) goes.is ∙ mine_append past goes.since t
    ∙ ap (λ l. mine past t ++ l) goes.others ∙ append-nil (mine past t)

-- a sweep keeps whose references are
same_owner : (hs : List Handle) (e : BornRef) → (each_on empty_one hs e).0 ≡ e.0
same_owner [] e = refl
same_owner (h ∷ hs) e = same_owner hs (empty_one h e)

same_owners : (hs : List Handle) (es : List BornRef)
    → map (λ e. owner_of_handle e.0) (map (each_on empty_one hs) es) ≡ map (λ e. owner_of_handle e.0) es
same_owners hs [] = refl
same_owners hs (e ∷ es) = ap (λ h. owner_of_handle h ∷ map (λ e. owner_of_handle e.0) (map (each_on empty_one hs) es))
    (same_owner hs e) ∙ ap (λ l. owner_of_handle e.0 ∷ l) (same_owners hs es)

-- what a collection answers
abbrev pub found_by : List Handle → List ℕ → ℕ → Collected
found_by cleared dropped used = record { cleared = length cleared; dropped = length dropped; used = used }

-- HOW MANY OTHERS ARE IN

pub sum_first : (n : ℕ) (f : ℕ → ℕ) → sum_below (suc n) f ≡ f 0 + sum_below n (λ k. f (suc k))
unfolding sum_below
sum_first zero f = omega arith
sum_first (suc n) f = let rest = sum_first n f in omega (arith, rest)

-- of a list there pass as many as of its numbers
many_roles : (p : Role → Bool) (rs : List Role)
    → how_many p rs ≡ count_below (length rs) (λ u. p (slice_index_or rs u Outside))
unfolding sum_below
many_roles p [] = refl
many_roles p (r ∷ rs) =
    let first = many_next p r rs in
    let rest = many_roles p rs in
    let split = sum_first (length rs) (λ u. bit (p (slice_index_or (r ∷ rs) u Outside))) in
    omega (arith, first, rest, split)

-- a thread takes another role
set_role : (role : ℕ → Role) (rs : List Role) (t : ℕ) (r : Role) → t < length rs
    → ((u : ℕ) → slice_index_or rs u Outside ≡ role u) → (u : ℕ)
    → slice_index_or (slice_set rs t r) u Outside ≡ update nat_eq role t r u
set_role role rs t r small are u = go (t == u) refl
  where
    go : (d : Bool) → (t == u) ≡ d → slice_index_or (slice_set rs t r) u Outside ≡ update nat_eq role t r u
    go true e = subst (λ z. slice_index_or (slice_set rs t r) z Outside ≡ r) (eq_true t u e)
        (get_or-set_same rs t r Outside small) ∙ sym (ap (λ b. cond b r (role u)) e)
    go false e = get_or-set_other rs t u r Outside (λ same. eq_false t u e (sym same))
        ∙ are u ∙ sym (ap (λ b. cond b r (role u)) e)

abbrev is_in : Role → Bool
is_in r = not (is_outside r)

module _ (c : Config) (last : ℕ) (whole : History) (t : ℕ) (legal : IsLegal c last whole) where
  others_counted : {b : Births} (now : History) (f : Frames) (s : Shared) → t < c.threads → StandsBy b c t now f s
      → others_in t s ≡ count_below c.threads (λ u. is_in (update nat_eq (state now).role t Outside u))
  others_counted now f s small st =
      let long : length (slice_set s.roles t Outside) ≡ c.threads = length-set s.roles t Outside ∙ st.many in
      many_roles is_in (slice_set s.roles t Outside)
      ∙ (ap (λ n. count_below n (λ u. is_in (slice_index_or (slice_set s.roles t Outside) u Outside))) long
      ∙ sum_same c.threads (λ u. bit (is_in (update nat_eq (state now).role t Outside u)))
      (λ u. bit (is_in (slice_index_or (slice_set s.roles t Outside) u Outside)))
      (λ u l. ap (λ r. bit (is_in r)) (set_role (state now).role s.roles t Outside
      (let many = st.many in omega (arith, many, small)) st.roles u)))

  -- as many as the refused shut tells
  pub others_told : {b : Births} (now : History) (f : Frames) (s : Shared) (n : ℕ) → t < c.threads
      → AreOthers c (state now) t n → StandsBy b c t now f s → others_in t s ≡ n
  others_told now f s n small are st =
      let counted = others_counted now f s small st in
      let role = count_role c.threads is_in (state now).role t Outside small in
      go (is_outside ((state now).role t)) (others_in t s) (count_below c.threads (λ u. is_in ((state now).role u)))
      (ap (λ z. z + bit (is_in ((state now).role t))) counted ∙ role) are
    where
      go : (d : Bool) (m k : ℕ) → m + bit (not d) ≡ k + 0 → k ≡ n + (if d then 0 else 1) → m ≡ n
      go true m k first second = omega arith
      go false m k first second = omega arith

  -- none where the gate is shut
  none_told : {b : Births} (now : History) (f : Frames) (s : Shared) → t < c.threads
      → ((u : ℕ) → u ≢ t → (state now).role u ≡ Outside) → StandsBy b c t now f s → others_in t s ≡ 0
  none_told now f s small out st = others_counted now f s small st
      ∙ count_all_false c.threads (λ u. is_in (update nat_eq (state now).role t Outside u))
      (λ u l. go u (t == u) refl)
    where
      go : (u : ℕ) (d : Bool) → (t == u) ≡ d → is_in (update nat_eq (state now).role t Outside u) ≡ false
      go u true e = ap (λ b. is_in (cond b Outside ((state now).role u))) e
      go u false e = ap (λ b. is_in (cond b Outside ((state now).role u))) e
          ∙ ap is_in (out u (λ same. eq_false t u e (sym same)))

  -- THE STEP OF THE SHUT, by what it finds
  abbrev shut_by : Shared → ℕ → Result (Unit {0}) Fault × Shared
  shut_by s n = cond (n == 0) (Ok tt, in_role Collecting t s) (Err (fault.Busy n), s)

  kept_by : (s : Shared) (n : ℕ) → 1 ≤ n → shut_by s n ≡ (Err (fault.Busy n), s)
  kept_by s n some = ap (λ b. cond b (Ok tt, in_role Collecting t s) (Err (fault.Busy n), s))
      (eq_other n 0 (λ e. absurd (omega (arith, e, some))))

  -- A SHUT shows what stood before it
  shut_open : (now : History) → open_part (now ++ by t (Gate Shut) ∷ []) ≡ now
  shut_open now = ap (open_or (now ++ by t (Gate Shut) ∷ [])) (sweep_push now (by t (Gate Shut)))

  -- .. which was all, as nobody collected
  all_out : (now : History) → IsLegal c last now → (state now).role t ≢ Collecting
      → ((u : ℕ) → u ≢ t → (state now).role u ≡ Outside) → open_part now ≡ now
  all_out now l own out = ap (open_or now) (none_collects c last now l (λ u. go u (t == u) refl))
    where
      go : (u : ℕ) (d : Bool) → (t == u) ≡ d → (state now).role u ≢ Collecting
      go u true e collects = own (ap (state now).role (eq_true t u e) ∙ collects)
      go u false e collects =
          let bad = sym (out u (λ same. eq_false t u e (sym same))) ∙ collects in absurd cc

  pub shut_stands : (now : History) (f : Frames) (s : Shared) → t < c.threads → open_part now ≡ now
      → SharedStands c t now f s → SharedStands c t (now ++ by t (Gate Shut) ∷ []) f (in_role Collecting t s)
  shut_stands now f s small all st =
      subst (λ h. StandsBy (births h) c t (now ++ by t (Gate Shut) ∷ []) f (in_role Collecting t s))
      (all ∙ sym (shut_open now)) (role_by c last whole t legal now f s Shut small st)

  -- WHILE A COLLECTION of this thread is under way, since its shut at a moment, and it has done so much
  pub record IsUnder (before now : History) (did : List Act) : Type 0 where
    pub inside : History
    pub is : now ≡ before ++ by t (Gate Shut) ∷ inside
    pub own : mine inside t ≡ did
    pub sweep : sweep_of now ≡ Some before
    pub role : (state now).role t ≡ Collecting

  under_shut : (now : History) → IsUnder now (now ++ by t (Gate Shut) ∷ []) []
  under_shut now = record {
    inside = [];
    is = refl;
    own = refl;
    sweep = sweep_push now (by t (Gate Shut));
    role = ap (λ (m : State). m.role t) (state_push now (by t (Gate Shut)))
        ∙ at_number_self (state now).role t Collecting;
  }

  -- it neither begins a collection nor ends one
  abbrev IsQuiet : Act → Type 0
  IsQuiet a = (seen : History) (shut : Option History) → under_way seen shut a ≡ shut

  waiting_quiet : (a : Act) → is_waiting a ≡ true → IsQuiet a
  waiting_quiet (Gate Knock) is seen shut = refl
  waiting_quiet (Gate Withdraw) is seen shut = refl
  waiting_quiet (ShutBusy n) is seen shut = refl
  waiting_quiet Meet is seen shut = refl
  waiting_quiet _ is seen shut = absurd cc

  not_reopen : (e : Event) → (e.thread ≡ t → IsQuiet e.act) → e ≢ by t (Gate Reopen)
  not_reopen e quiet same =
      let bad = sym (ap (λ (x : Event). under_way [] (Some []) x.act) same)
      ∙ quiet (ap (λ (x : Event). x.thread) same) [] (Some []) in absurd cc

  under_by : (before now : History) (did : List Act) (e : Event) → IsLegal c last (now ++ e ∷ [])
      → (e.thread ≡ t → IsQuiet e.act) → IsUnder before now did
      → IsUnder before (now ++ e ∷ []) (did ++ mine (e ∷ []) t)
  under_by before now did e l quiet under =
      let pushed = (legal_push c last now e).0 l in
      let on = collection_act c last t (state now) e.thread e.act (apart_state c last now pushed.0) under.role
      (not_reopen e quiet) pushed.1.1 in
      record {
        inside = under.inside ++ e ∷ [];
        is = ap (λ h. h ++ e ∷ []) under.is ∙ append_assoc before (by t (Gate Shut) ∷ under.inside) (e ∷ []);
        own = mine_append under.inside (e ∷ []) t ∙ ap (λ l. l ++ mine (e ∷ []) t) under.own;
        sweep = sweep_push now e ∙ (go on.1 now (sweep_of now) ∙ under.sweep);
        role = ap (λ (m : State). m.role t) (state_push now e) ∙ on.0;
      }
    where
      go : (e.thread ≡ t) ⊎ (is_waiting e.act ≡ true) → IsQuiet e.act
      go (inl same) = quiet same
      go (inr waits) = waiting_quiet e.act waits

  under_along : (before past : History) (did : List Act) (since : History) → IsLegal c last (past ++ since)
      → mine since t ≡ [] → IsUnder before past did → IsUnder before (past ++ since) did
  under_along before past did [] l none under = subst (λ h. IsUnder before h did) (sym (append-nil past)) under
  under_along before past did (e ∷ es) l none under =
      let parts : (past ++ e ∷ []) ++ es ≡ past ++ e ∷ es = append_assoc past (e ∷ []) es in
      let all : IsLegal c last ((past ++ e ∷ []) ++ es) = subst (IsLegal c last) (sym parts) l in
      let front = ((legal_append c last (past ++ e ∷ []) es).0 all).0 in
      go (e.thread == t) refl none parts front (λ own u. under_along before (past ++ e ∷ []) did es all own u)
    where
      go : (d : Bool) → (e.thread == t) ≡ d → cond (e.thread == t) (e.act ∷ mine es t) (mine es t) ≡ []
          → (past ++ e ∷ []) ++ es ≡ past ++ e ∷ es → IsLegal c last (past ++ e ∷ [])
          → (mine es t ≡ [] → IsUnder before (past ++ e ∷ []) did → IsUnder before ((past ++ e ∷ []) ++ es) did)
          → IsUnder before (past ++ e ∷ es) did
      go true is none' parts front rest =
          let bad = sym (ap (λ b. cond b (e.act ∷ mine es t) (mine es t)) is) ∙ none' in absurd cc
      go false is none' parts front rest = subst (λ h. IsUnder before h did) parts
          (rest (sym (ap (λ b. cond b (e.act ∷ mine es t) (mine es t)) is) ∙ none')
          (subst (IsUnder before (past ++ e ∷ []))
          (ap (λ b. did ++ cond b (e.act ∷ []) []) is ∙ append-nil did)
          (under_by before past did e front (λ same. absurd (eq_false e.thread t is same)) under)))

  under_others : (before past now : History) (did : List Act) → OthersGoOn c whole t past now
      → IsUnder before past did → IsUnder before now did
  under_others before past now did goes under = subst (λ h. IsUnder before h did) (sym goes.is)
      (under_along before past did goes.since
      (subst (IsLegal c last) goes.is (front_legal c last whole t legal now goes.begins)) goes.others under)

  -- WHAT A COLLECTION DOES between
  abbrev pub is_sweep : Act → Bool
  is_sweep (Clear h) = true
  is_sweep (Drop o) = true
  is_sweep (Settle n) = true
  is_sweep _ = false

  all_sweep : (cleared : List Handle) (dropped : List ℕ) (used : ℕ)
      → AllByRecursion (λ a. is_sweep a ≡ true) (sweeping_acts cleared dropped used)
  all_sweep [] [] used = (refl, tt)
  all_sweep [] (o ∷ os) used = (refl, all_sweep [] os used)
  all_sweep (h ∷ hs) dropped used = (refl, all_sweep hs dropped used)

  sweep_quiet : (a : Act) → is_sweep a ≡ true → IsQuiet a
  sweep_quiet (Gate g) is seen shut = absurd cc
  sweep_quiet _ is seen shut = refl

  sweep_locals : (m : State) (a : Act) → is_sweep a ≡ true → (act_after m t a).locals ≡ m.locals
  sweep_locals m (Clear h) is = refl
  sweep_locals m (Drop o) is = refl
  sweep_locals m (Settle n) is = refl
  sweep_locals m _ is = absurd cc

  sweep_roles : (m : State) (a : Act) → is_sweep a ≡ true → (act_after m t a).role ≡ m.role
  sweep_roles m (Clear h) is = refl
  sweep_roles m (Drop o) is = refl
  sweep_roles m (Settle n) is = refl
  sweep_roles m _ is = absurd cc

  sweep_stores : (p : ℕ) (a : Act) → is_sweep a ≡ true → stored_at p (a ∷ []) ≡ 0
  sweep_stores p (Clear h) is = refl
  sweep_stores p (Drop o) is = refl
  sweep_stores p (Settle n) is = refl
  sweep_stores p _ is = absurd cc

  sweep_by : {b : Births} (now : History) (f : Frames) (s : Shared) (a : Act) → is_sweep a ≡ true
      → StandsBy b c t now f s → StandsBy b c t (now ++ by t a ∷ []) f s
  sweep_by now f s a is st = record {
    objects = st.objects;
    refs = st.refs;
    owners = st.owners;
    used = st.used;
    many = st.many;
    roles = λ u. st.roles u ∙ sym (ap (λ (z : State). z.role u) (state_push now (by t a))
        ∙ ap (λ (g : ℕ → Role). g u) (sweep_roles (state now) a is));
    lists = st.lists;
    frames = st.frames;
    posted = st.posted;
    places = st.places;
    agreed = agreed_behind t now f a (sweep_locals (state now) a is) (λ p. sweep_stores p a is) st.agreed;
    sound = st.sound;
  }

  -- .. is not shown
  sweep_shows : (before now : History) (did : List Act) (f : Frames) (s : Shared) (a : Act) → is_sweep a ≡ true
      → IsUnder before now did → SharedStands c t now f s → SharedStands c t (now ++ by t a ∷ []) f s
  sweep_shows before now did f s a is under st = subst (λ h. StandsBy (births h) c t (now ++ by t a ∷ []) f s)
      (ap (open_or now) under.sweep ∙ sym (ap (open_or (now ++ by t a ∷ []))
      (sweep_push now (by t a) ∙ (sweep_quiet a is now (sweep_of now) ∙ under.sweep))))
      (sweep_by now f s a is st)

  -- WHERE THE GATE IS OPEN AGAIN, what was born is what the page's sweep leaves
  reopen_swept : (before now : History) (cleared : List Handle) (dropped : List ℕ) (used : ℕ)
      → IsWhole (state before) cleared dropped → IsUnder before now (sweeping_acts cleared dropped used)
      → IsPrefix (now ++ by t (Gate Reopen) ∷ []) whole → SweepsTo (births before) (births now) cleared dropped used
  reopen_swept before now cleared dropped used complete under begins =
      subst (λ h. SweepsTo (births before) (births h) cleared dropped used) (sym under.is)
      (collection_sweeps c last t before under.inside [] cleared dropped used
      (subst (IsLegal c last) (ap (λ h. h ++ by t (Gate Reopen) ∷ []) under.is)
      (front_legal c last whole t legal (now ++ by t (Gate Reopen) ∷ []) begins)) under.own complete)

  -- .. and all is shown
  reopen_open : (now : History) → births (open_part (now ++ by t (Gate Reopen) ∷ [])) ≡ births now
  reopen_open now = ap (λ z. births (open_or (now ++ by t (Gate Reopen) ∷ []) z)) (sweep_push now (by t (Gate Reopen)))
      ∙ births_push now (by t (Gate Reopen))

  -- OPEN AGAIN: the page's sweep leaves what the collection left
  module _ (before now : History) (f : Frames) (s : Shared) (cleared : List Handle) (dropped : List ℕ) (used : ℕ)
      (complete : IsWhole (state before) cleared dropped)
      (under : IsUnder before now (sweeping_acts cleared dropped used))
      (begins : IsPrefix (now ++ by t (Gate Reopen) ∷ []) whole) (st : SharedStands c t now f s) where
    -- what the thread sees
    abbrev seen : World
    seen = as_seen t (in_role Outside t s)

    abbrev left : World
    left = swept (is_found_reached seen) seen

    -- what is shown is what stood at the shut
    shown : open_part now ≡ before
    shown = ap (open_or now) under.sweep

    there : StandsBy (births before) c t now f s
    there = subst (λ h. StandsBy (births h) c t now f s) shown st

    sweeps : SweepsTo (births before) (births now) cleared dropped used
    sweeps = reopen_swept before now cleared dropped used complete under begins

    left_is : swept (is_found_reached (world_born (births before))) (world_born (births before))
        ≡ world_born (births now)
    left_is = sym sweeps.world

    -- .. it tells as much
    reopen_told : (sweeps_out t true s).0
        ≡ Ok (record { cleared = length cleared; dropped = length dropped; used = used })
    reopen_told = ap Ok (told_alike seen (world_born (births before)) there.objects there.refs ∙ sweeps.told)

    objects_left : left.objects ≡ map (λ e. e.1) (births now).objects
    objects_left = ap (λ f. kept_objects f 0 s.objects)
        (found_alike seen (world_born (births before)) there.objects there.refs)
        ∙ ap (kept_objects (is_found_reached (world_born (births before))) 0) there.objects
        ∙ ap (λ (w : World). w.objects) left_is

    refs_left : left.refs ≡ map (λ e. e.1) (births now).refs
    refs_left = ap (λ f. map (kept_ref f) s.refs)
        (found_alike seen (world_born (births before)) there.objects there.refs)
        ∙ ap (map (kept_ref (is_found_reached (world_born (births before))))) there.refs
        ∙ ap (λ (w : World). w.refs) left_is

    used_left : left.used ≡ (births now).used
    used_left = ap (sum_by length_of) (ap (λ f. kept_objects f 0 s.objects)
        (found_alike seen (world_born (births before)) there.objects there.refs)
        ∙ ap (kept_objects (is_found_reached (world_born (births before))) 0) there.objects)
        ∙ ap (λ (w : World). w.used) left_is

    -- references keep their owners
    owners_left : map (λ e. owner_of_handle e.0) (births now).refs ≡ map (λ e. owner_of_handle e.0) (births before).refs
    owners_left = ap (λ (b : Births). map (λ e. owner_of_handle e.0) b.refs) sweeps.births_are
        ∙ same_owners cleared (births before).refs

    many_refs : length (births now).refs ≡ length (births before).refs
    many_refs = sym (length-map (births now).refs (λ e. owner_of_handle e.0)) ∙ ap length owners_left
        ∙ length-map (births before).refs (λ e. owner_of_handle e.0)

    long : length left.refs ≡ length s.owners
    long = length-map s.refs (kept_ref (is_found_reached seen)) ∙ both_long c t now f s there

    small : t < c.threads
    small = let pushed = (legal_push c last now (by t (Gate Reopen))).0
        (front_legal c last whole t legal (now ++ by t (Gate Reopen) ∷ []) begins) in pushed.1.0

    reopen_stands : SharedStands c t (now ++ by t (Gate Reopen) ∷ []) f (sweeps_out t true s).1
        × LeavesOthers t s (sweeps_out t true s).1
    reopen_stands =
        let out = role_by c last whole t legal now f s Reopen small there in (
          record {
            objects = objects_left ∙ ap (λ (b : Births). map (λ e. e.1) b.objects) (sym (reopen_open now));
            refs = refs_left ∙ ap (λ (b : Births). map (λ e. e.1) b.refs) (sym (reopen_open now));
            owners = no_more_owners c t now f s left.refs long ∙ there.owners ∙ sym owners_left
                ∙ ap (λ (b : Births). map (λ e. owner_of_handle e.0) b.refs) (sym (reopen_open now));
            used = used_left ∙ ap (λ (b : Births). b.used) (sym (reopen_open now));
            many = out.many;
            roles = out.roles;
            lists = length-set s.frames t (slice_index_or s.frames t []) ∙ out.lists;
            frames = subst (λ l. AreFrames t (births (open_part (now ++ by t (Gate Reopen) ∷ []))).refs
                (slice_index_or l t []) f.frames) (sym (set-get_or s.frames t []))
                (frames_shown t now (by t (Gate Reopen) ∷ []) st.frames);
            posted = subst (λ n. AllByRecursion (λ x. x.1 ≤ n) s.board)
                (sym (ap (λ (b : Births). length b.refs) (reopen_open now) ∙ many_refs)) there.posted;
            places = out.places;
            agreed = out.agreed;
            sound = out.sound;
          },
          record { frames = λ u ne. ap (λ l. slice_index_or l u []) (set-get_or s.frames t []); board = refl },
        )

  module _ {A : Type 0} (V : History → Result A Fault → Type 0) (g : Frames) (behind : List (Item Act)) where
    -- A TRY TO SHUT THE GATE is kept out, and then the rest
    pub kept_plays : (next : Result (Unit {0}) Fault → Doing A) (past : History) (f : Frames)
        (items : List (Item Act)) (n : ℕ)
        → ((now : History) → ActsNext c whole t past now (ShutBusy n)
        → Plays c whole t V g behind (next (Err (fault.Busy n))) (now ++ by t (ShutBusy n) ∷ []) f items)
        → Plays c whole t V g behind (whatever (by_step shuts) next) past f (acting (ShutBusy n) ∷ items)
    kept_plays next past f items n goes_on = does true (ShutBusy n) f
        (λ now s goes st. subst (λ (z : Result (Unit {0}) Fault × Shared).
        SharedStands c t (now ++ by t (ShutBusy n) ∷ []) f z.1 × LeavesOthers t s z.1) (sym (found now s goes st))
        (look_shows c t now f s (ShutBusy n) refl st, record { frames = λ u ne. refl; board = refl }))
        (λ now s goes st. subst (λ (z : Result (Unit {0}) Fault × Shared).
        Plays c whole t V g behind (next z.0) (now ++ by t (ShutBusy n) ∷ []) f items) (sym (found now s goes st))
        (goes_on now goes))
      where
        found : (now : History) (s : Shared) → ActsNext c whole t past now (ShutBusy n) → SharedStands c t now f s
            → shuts t true s ≡ (Err (fault.Busy n), s)
        found now s goes st =
            let needs = next_needs c last whole t legal past now (ShutBusy n) goes in
            ap (shut_by s) (others_told now f s n needs.0 (needs.1).1 st) ∙ kept_by s n (needs.1).2

    -- THE GATE IS SHUT, and then the rest
    pub shut_plays : (next : Result (Unit {0}) Fault → Doing A) (past : History) (f : Frames) (items : List (Item Act))
        → ((now : History) → ActsNext c whole t past now (Gate Shut)
        → Plays c whole t V g behind (next (Ok tt)) (now ++ by t (Gate Shut) ∷ []) f items)
        → Plays c whole t V g behind (whatever (by_step shuts) next) past f (acting (Gate Shut) ∷ items)
    shut_plays next past f items goes_on = does true (Gate Shut) f
        (λ now s goes st.
        let needs = next_needs c last whole t legal past now (Gate Shut) goes in
        subst (λ (z : Result (Unit {0}) Fault × Shared).
        SharedStands c t (now ++ by t (Gate Shut) ∷ []) f z.1 × LeavesOthers t s z.1) (sym (found now s goes st)) (
          shut_stands now f s needs.0 (all_out now (front_legal c last whole t legal now goes.goes.begins)
              (not_yet ((state now).role t) (needs.1).0) (needs.1).1) st,
          record { frames = λ u ne. refl; board = refl },
        ))
        (λ now s goes st. subst (λ (z : Result (Unit {0}) Fault × Shared).
        Plays c whole t V g behind (next z.0) (now ++ by t (Gate Shut) ∷ []) f items)
        (sym (found now s goes st)) (goes_on now goes))
      where
        not_yet : (r : Role) → MayShut r → r ≢ Collecting
        not_yet r (inl out) e = let bad = sym out ∙ e in absurd cc
        not_yet r (inr announced) e = let bad = sym announced ∙ e in absurd cc

        found : (now : History) (s : Shared) → ActsNext c whole t past now (Gate Shut) → SharedStands c t now f s
            → shuts t true s ≡ (Ok tt, in_role Collecting t s)
        found now s goes st =
            let needs = next_needs c last whole t legal past now (Gate Shut) goes in
            ap (shut_by s) (none_told now f s needs.0 (needs.1).1 st)

    -- THE SWEEP, act by act, and then the rest
    sweep_plays : (d : Doing A) (before past : History) (f : Frames) (did acts : List Act)
        (items : List (Item Act)) → AllByRecursion (λ a. is_sweep a ≡ true) acts → IsUnder before past did
        → ((now : History) → IsUnder before now (did ++ acts) → Plays c whole t V g behind d now f items)
        → Plays c whole t V g behind d past f (map acting acts ++ items)
    sweep_plays d before past f did [] items all under next =
        next past (subst (IsUnder before past) (sym (append-nil did)) under)
    sweep_plays d before past f did (a ∷ acts) items all under next = unseen a
        (λ now s goes st.
        sweep_shows before now did f s a all.0 (under_others before past now did goes.goes under) st)
        (λ now goes. sweep_plays d before (now ++ by t a ∷ []) f (did ++ a ∷ []) acts items all.1
        (subst (λ b. IsUnder before (now ++ by t a ∷ []) (did ++ cond b (a ∷ []) [])) (eq_self t)
        (under_by before now did (by t a) (front_legal c last whole t legal (now ++ by t a ∷ []) goes.next)
        (λ same. sweep_quiet a all.0) (under_others before past now did goes.goes under)))
        (λ later since. next later (subst (IsUnder before later) (append_assoc did (a ∷ []) acts) since)))

    -- A COLLECTION from its shut on, by a program that shuts, sweeps, and then ends so
    pub collected_plays : (form : Result Collected Fault → Result A Fault) (next : Result (Unit {0}) Fault → Doing A)
        (past : History) (cleared : List Handle) (dropped : List ℕ) (used : ℕ)
        → next (Ok tt) ≡ whatever (by_step sweeps_out) (λ counts. ended (form counts))
        → ((before : History) → ActsNext c whole t past before (Gate Shut) → IsWhole (state before) cleared dropped)
        → ((later : History) → IsPrefix later whole
        → mine later t ≡ mine past t ++ collection_acts cleared dropped used
        → V later (form (Ok (found_by cleared dropped used))))
        → Plays c whole t V g behind (whatever (by_step shuts) next) past g
        (map acting (collection_acts cleared dropped used))
    collected_plays form next past cleared dropped used is complete so =
        subst (λ l. Plays c whole t V g behind (whatever (by_step shuts) next) past g (acting (Gate Shut) ∷ l))
        (sym (map-append acting (sweeping_acts cleared dropped used) (Gate Reopen ∷ [])))
        (shut_plays next past g (map acting (sweeping_acts cleared dropped used) ++ acting (Gate Reopen) ∷ [])
        (λ before goes. subst (λ d. Plays c whole t V g behind d (before ++ by t (Gate Shut) ∷ []) g
        (map acting (sweeping_acts cleared dropped used) ++ acting (Gate Reopen) ∷ [])) (sym is)
        (sweep_plays (whatever (by_step sweeps_out) tells) before (before ++ by t (Gate Shut) ∷ []) g []
        (sweeping_acts cleared dropped used) (acting (Gate Reopen) ∷ []) (all_sweep cleared dropped used)
        (under_shut before)
        (λ later under. does true (Gate Reopen) g
        (λ now s on st. reopen_stands before now g s cleared dropped used (complete before goes)
        (under_others before later now (sweeping_acts cleared dropped used) on.goes under) on.next st)
        (λ now s on st. subst (λ (x : Result Collected Fault).
        Plays c whole t V g behind (tells x) (now ++ by t (Gate Reopen) ∷ []) g [])
        (sym (reopen_told before now g s cleared dropped used (complete before goes)
        (under_others before later now (sweeping_acts cleared dropped used) on.goes under) on.next st))
        (has_ended (form (Ok (found_by cleared dropped used))) (so (now ++ by t (Gate Reopen) ∷ []) on.next
        (own_there before now goes
        (under_others before later now (sweeping_acts cleared dropped used) on.goes under)))))))))
      where
        tells : Result Collected Fault → Doing A
        tells counts = ended (form counts)

        own_there : (before now : History) → ActsNext c whole t past before (Gate Shut)
            → IsUnder before now (sweeping_acts cleared dropped used)
            → mine (now ++ by t (Gate Reopen) ∷ []) t ≡ mine past t ++ collection_acts cleared dropped used
        own_there before now goes under =
            mine_push now t (Gate Reopen)
            ∙ ap (λ l. l ++ Gate Reopen ∷ []) (ap (λ h. mine h t) under.is
            ∙ mine_append before (by t (Gate Shut) ∷ under.inside) t
            ∙ ap (λ l. l ++ mine (by t (Gate Shut) ∷ under.inside) t) (others_own c whole t past before goes.goes)
            ∙ ap (λ b. mine past t ++ cond b (Gate Shut ∷ mine under.inside t) (mine under.inside t)) (eq_self t)
            ∙ ap (λ l. mine past t ++ Gate Shut ∷ l) under.own)
            ∙ append_assoc (mine past t) (Gate Shut ∷ sweeping_acts cleared dropped used) (Gate Reopen ∷ [])
