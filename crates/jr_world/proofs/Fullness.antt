-- A window in which each index was occupied has as many references as there are slots.
pub mod Counting
pub mod RowBirths
pub mod RowRoom
use Rattle.std.proofs.Common.{◌≡◌, ◌≢◌, ◌⊎◌, inl, inr, ⊎_elim, ◌<◌, ◌≤◌, ◌+◌, ◌==◌, ℕ, zero, suc, Bool, true, false}
use Rattle.std.proofs.Common.{List, [], ◌∷◌, ◌++◌, map, length, refl, sym, ap, subst, ◌∙◌, arith, append_assoc}
use Rattle.jr_word.specs.declared.config.Config.{Config}
use Rattle.jr_word.specs.declared.handle.RefKind.{RefKind}
use Rattle.jr_word.specs.declared.handle.RefKind.TheVariants.{Local, Global, Weak}
use Rattle.jr_model.specs.declared.event.Act.{Act}
use Rattle.jr_model.specs.declared.event.Act.TheVariants.{Create, Delete, Clear, Gate, Probe}
use Rattle.jr_model.specs.declared.event.GateAct.TheVariants.{Leave}
use Rattle.jr_model.specs.declared.event.Found.{Found}
use Rattle.jr_model.specs.declared.event.Found.TheVariants.{Object, Cleared, Stale}
use Rattle.jr_model.specs.Maps.{sum_below, count_below}
use Rattle.jr_model.specs.State.{Handle, State, IsOccupied, is_there, opening}
use Rattle.jr_model.specs.Steps.{ActNeeds, IsInRow, after, act_after}
use Rattle.jr_model.specs.History.{History, IsLegal, IsLegalFrom, by, state, state_from}
use Rattle.jr_model.specs.Refusals.{Sometime}
use Rattle.jr_model.specs.Examples.{one_slot, thrice}
use Rattle.jr_model.proofs.Updates.{at_handle, eq_true, eq_false, same_parts}
use Rattle.jr_model.proofs.Histories.{legal_append, state_append}
use Rattle.jr_model.proofs.References.{IsKept, kept_state}
use Rattle.jr_model.proofs.Moments.{sometime_wider, prefix_self, prefix_trans}
use Rattle.jr_model.proofs.WorkedExamples.{thrice_is_legal}
use Rattle.jr_world.specs.Fullness.{created_by, creations, deleted_by, deletions, row_references, WindowsAreFull}
use Rattle.jr_world.specs.Fullness.{FullBeforeExit, NotFullWithoutTheBound, RefusedForAWindow}
use Rattle.jr_world.proofs.Fullness.Counting.{IsOneOf, both_long, creations_append, creations_long, deletions_long}
use Rattle.jr_world.proofs.Fullness.Counting.{each_so_often, enough, map_long, one_counts, one_of_left, one_of_map}
use Rattle.jr_world.proofs.Fullness.Counting.{one_of_right, so_often_has, so_often_long}

-- who stands behind an act stood before, or was created by it
stood_act : (c : Config) (last : ℕ) (s : State) (t : ℕ) (a : Act) (h : Handle) → ActNeeds c last s t a
    → (act_after s t a).refs h ≢ Stale → IsOneOf h (created_by a) ⊎ (s.refs h ≢ Stale)
stood_act c last s t (Create g o) h n = at_handle (λ x. x ≢ Stale → IsOneOf h (g ∷ []) ⊎ (s.refs h ≢ Stale)) s.refs g h
    (Object o) (λ e p. inl (inl e)) (λ ne p. inr p)
stood_act c last s t (Delete g) h n = at_handle (λ x. x ≢ Stale → IsOneOf h [] ⊎ (s.refs h ≢ Stale)) s.refs g h Stale
    (λ e p. absurd (p refl)) (λ ne p. inr p)
stood_act c last s t (Clear g) h n =
    let stands : s.refs g ≢ Stale = λ e. let o = n.3 in cc in
    at_handle (λ x. x ≢ Stale → IsOneOf h [] ⊎ (s.refs h ≢ Stale)) s.refs g h Cleared
    (λ e p. inr (subst (λ k. s.refs k ≢ Stale) e stands)) (λ ne p. inr p)
stood_act c last s t _ h n = λ p. inr p

-- who stands behind a part of a history stood before, or was created in it
stood : (c : Config) (last : ℕ) (s : State) (es : History) (h : Handle) → IsLegalFrom c last s es
    → (state_from s es).refs h ≢ Stale → IsOneOf h (creations es) ⊎ (s.refs h ≢ Stale)
stood c last s [] h l p = inr p
stood c last s (e ∷ es) h l p =
    ⊎_elim (λ (i : IsOneOf h (creations es)). inl (one_of_right h (created_by e.act) (creations es) i)) earlier
    (stood c last (after s e) es h l.1 p)
  where
    earlier : (after s e).refs h ≢ Stale → IsOneOf h (created_by e.act ++ creations es) ⊎ (s.refs h ≢ Stale)
    earlier q =
        ⊎_elim (λ (i : IsOneOf h (created_by e.act)). inl (one_of_left h (created_by e.act) (creations es) i))
        (λ (r : s.refs h ≢ Stale). inr r) (stood_act c last s e.thread e.act h l.0.1 q)

-- a handle was given, and is gone
abbrev IsPast : State → Handle → Type 0
IsPast s h = (s.given h ≡ true) × (s.refs h ≡ Stale)

-- who is gone behind an act was so before, or was deleted by it
past_act : (s : State) (t : ℕ) (a : Act) (h : Handle) → (act_after s t a).given h ≡ true
    → (act_after s t a).refs h ≡ Stale → IsOneOf h (deleted_by a) ⊎ IsPast s h
past_act s t (Create g o) h p = at_handle (λ x. x ≡ Stale → IsOneOf h [] ⊎ IsPast s h) s.refs g h (Object o)
    (λ e q. absurd cc)
    (λ ne q. inr (
      at_handle (λ x. x ≡ true → s.given h ≡ true) s.given g h true (λ e r. absurd (ne e)) (λ ne' r. r) p,
      q,
    ))
past_act s t (Delete g) h p = at_handle (λ x. x ≡ Stale → IsOneOf h (g ∷ []) ⊎ IsPast s h) s.refs g h Stale
    (λ e q. inl (inl e)) (λ ne q. inr (p, q))
past_act s t (Clear g) h p = at_handle (λ x. x ≡ Stale → IsOneOf h [] ⊎ IsPast s h) s.refs g h Cleared
    (λ e q. absurd cc) (λ ne q. inr (p, q))
past_act s t _ h p = λ q. inr (p, q)

past : (s : State) (es : History) (h : Handle) → IsPast (state_from s es) h → IsOneOf h (deletions es) ⊎ IsPast s h
past s [] h p = inr p
past s (e ∷ es) h p =
    ⊎_elim (λ (i : IsOneOf h (deletions es)). inl (one_of_right h (deleted_by e.act) (deletions es) i)) earlier
    (past (after s e) es h p)
  where
    earlier : IsPast (after s e) h → IsOneOf h (deleted_by e.act ++ deletions es) ⊎ IsPast s h
    earlier q =
        ⊎_elim (λ (i : IsOneOf h (deleted_by e.act)). inl (one_of_left h (deleted_by e.act) (deletions es) i))
        (λ (r : IsPast s h). inr r) (past_act s e.thread e.act h q.0 q.1)

was_deleted : (es : History) (h : Handle) → IsPast (state es) h → IsOneOf h (deletions es)
was_deleted es h p = ⊎_elim (λ (i : IsOneOf h (deletions es)). i)
    (λ (q : IsPast opening h). let given = q.0 in absurd cc) (past opening es h p)

-- a reference of the index stands
abbrev StandsAt : State → ℕ → Type 0
StandsAt s i = (h : Handle) × (h.index ≡ i) × (s.refs h ≢ Stale)

-- of each serial below n a handle is gone
abbrev ArePast : State → ℕ → Type 0
ArePast s n = (k : ℕ) → k < n → (h : Handle) × (h.serial ≡ k) × IsPast s h

test_stale : (r : Found) → (r ≡ Stale) ⊎ (r ≢ Stale)
test_stale Stale = inl refl
test_stale Cleared = inr (λ e. cc)
test_stale (Object o) = inr (λ e. cc)

-- of the handles of an index with these serials one stands, or all are gone
search_serials : (s : State) (i n : ℕ)
    → ((k : ℕ) → k < n → (h : Handle) × (h.index ≡ i) × (h.serial ≡ k) × (s.given h ≡ true))
    → ArePast s n ⊎ StandsAt s i
search_serials s i zero f = inl (λ k l. absurd (omega arith))
search_serials s i (suc n) f =
    let top = f n (omega arith) in
    ⊎_elim (λ (all : ArePast s n). ⊎_elim (λ (is : s.refs top.0 ≡ Stale). inl (more top all is))
    (λ (ne : s.refs top.0 ≢ Stale). inr (top.0, top.1, ne)) (test_stale (s.refs top.0)))
    (λ (there : StandsAt s i). inr there) (search_serials s i n (λ k l. f k (omega arith)))
  where
    more : (top : (h : Handle) × (h.index ≡ i) × (h.serial ≡ n) × (s.given h ≡ true)) → ArePast s n
        → s.refs top.0 ≡ Stale → ArePast s (suc n)
    more top all is k l = go (k == n) refl
      where
        go : (b : Bool) → (k == n) ≡ b → (h : Handle) × (h.serial ≡ k) × IsPast s h
        go true e = (top.0, top.2 ∙ sym (eq_true k n e), (top.3, is))
        go false e = all k (let ne = eq_false k n e in omega arith)

abbrev serials : List Handle → List ℕ
serials = map (λ (h : Handle). h.serial)

-- an index that is occupied has a reference that stands, where too few were deleted to use up its serials
occupied_stands : (last : ℕ) (es : History) (i : ℕ) → length (deletions es) ≤ last → IsOccupied last (state es) i
    → StandsAt (state es) i
occupied_stands last es i few (inl h) = h
occupied_stands last es i few (inr f) =
    ⊎_elim (λ (all : ArePast (state es) (suc last)). absurd (too_many all)) (λ (there : StandsAt (state es) i). there)
    (search_serials (state es) i (suc last) (λ k l. f k (omega arith)))
  where
    too_many : ArePast (state es) (suc last) → ⊥
    too_many all =
        let each : (k : ℕ) → k < suc last → IsOneOf k (serials (deletions es))
        = λ k l.
        let h = all k l in
        subst (λ j. IsOneOf j (serials (deletions es))) h.1
        (one_of_map (λ (h : Handle). h.serial) h.0 (deletions es) (was_deleted es h.0 h.2)) in
        let le = enough (suc last) (serials (deletions es)) each in
        let is = map_long (λ (h : Handle). h.serial) (deletions es) in
        omega (arith, le, is, few)

-- how many references of the kind stand at an index
of_kind : Config → ℕ → RefKind → State → ℕ → ℕ
of_kind c last k s i =
    count_below (last + 1) (λ n. is_there (s.refs (record { kind = k; serial = n; index = i; owner = 0 })))

there_is : (r : Found) → r ≢ Stale → is_there r ≡ true
there_is Stale ne = absurd (ne refl)
there_is Cleared ne = refl
there_is (Object o) ne = refl

module _ (c : Config) (last : ℕ) (s : State) (kept : IsKept c last s) where
  -- THE INDEXES at which references stand
  abbrev standing_indexes : List ℕ
  standing_indexes = each_so_often c.slots (of_kind c last Global s) ++ each_so_often c.slots (of_kind c last Weak s)

  standing_long : length standing_indexes ≡ row_references c last s
  unfolding of_kind
  standing_long =
      let a =
      both_long (each_so_often c.slots (of_kind c last Global s)) (each_so_often c.slots (of_kind c last Weak s)) in
      let b = so_often_long c.slots (of_kind c last Global s) in
      let d = so_often_long c.slots (of_kind c last Weak s) in
      omega (arith, a, b, d)

  counts : (k : RefKind) (h : Handle) → h.kind ≡ k → IsInRow c last h → s.refs h ≢ Stale
      → 1 ≤ of_kind c last k s h.index
  unfolding of_kind
  counts k h is row ne = one_counts (last + 1)
      (λ n. is_there (s.refs (record { kind = k; serial = n; index = h.index; owner = 0 })))
      h.serial (let m = row.3 in omega (arith, m))
      (subst (λ g. is_there (s.refs g) ≡ true) (same h k is row.1) (there_is (s.refs h) ne))
    where
      same : (h : Handle) (k : RefKind) → h.kind ≡ k → h.owner ≡ 0
          → ◌≡◌ {A = Handle} h (record { kind = k; serial = h.serial; index = h.index; owner = 0 })
      same h k e f = same_parts h.kind k h.serial h.serial h.index h.index h.owner 0 e refl refl f

  stands_among : (h : Handle) → s.refs h ≢ Stale → IsOneOf h.index standing_indexes
  stands_among h ne = go h.kind refl
    where
      row : IsInRow c last h
      row = kept.in_row h (kept.was_given h ne)

      go : (k : RefKind) → h.kind ≡ k → IsOneOf h.index
          (each_so_often c.slots (of_kind c last Global s) ++ each_so_often c.slots (of_kind c last Weak s))
      go Local e = absurd (row.0 e)
      go Global e = one_of_left h.index (each_so_often c.slots (of_kind c last Global s))
          (each_so_often c.slots (of_kind c last Weak s))
          (so_often_has c.slots (of_kind c last Global s) h.index row.2 (counts Global h e row ne))
      go Weak e = one_of_right h.index (each_so_often c.slots (of_kind c last Global s))
          (each_so_often c.slots (of_kind c last Weak s))
          (so_often_has c.slots (of_kind c last Weak s) h.index row.2 (counts Weak h e row ne))

created_left : (xs ys : History) (h : Handle) → IsOneOf h (creations xs) → IsOneOf h (creations (xs ++ ys))
created_left xs ys h i =
    subst (IsOneOf h) (sym (creations_append xs ys)) (one_of_left h (creations xs) (creations ys) i)

left_same : (xs ys zs : History) → xs ++ ys ≡ xs ++ zs → ys ≡ zs
left_same [] ys zs e = e
left_same (x ∷ xs) ys zs e = left_same xs ys zs cc

module _ (c : Config) (last : ℕ) (begun since : History) (l : IsLegal c last (begun ++ since))
    (few : length (deletions (begun ++ since)) ≤ last) where
  -- who stands at a moment of the window stood at its beginning, or was created in it
  in_window : (i : ℕ) → Sometime (λ s. IsOccupied last s i) begun (begun ++ since)
      → (h : Handle) × (h.index ≡ i) × (IsOneOf h (creations since) ⊎ ((state begun).refs h ≢ Stale))
  in_window i m =
      let mid = m.from.0 in
      let rest = m.to.0 in
      let parts : begun ++ (mid ++ rest) ≡ begun ++ since
      = sym (append_assoc begun mid rest) ∙ (ap (λ z. z ++ rest) m.from.1 ∙ m.to.1) in
      let same : mid ++ rest ≡ since = left_same begun (mid ++ rest) since parts in
      let less = deletions_long m.moment rest in
      let whole : length (deletions (m.moment ++ rest)) ≤ last
      = subst (λ z. length (deletions z) ≤ last) (sym m.to.1) few in
      let there = occupied_stands last m.moment i (omega (arith, less, whole)) m.met in
      let moved : state m.moment ≡ state_from (state begun) mid = ap state (sym m.from.1) ∙ state_append begun mid in
      let all : IsLegal c last ((begun ++ mid) ++ rest)
      = subst (IsLegal c last) (sym (append_assoc begun mid rest ∙ parts)) l in
      let from = ((legal_append c last begun mid).0 ((legal_append c last (begun ++ mid) rest).0 all).0).1 in
      let either = stood c last (state begun) mid there.0 from
      (subst (λ (s : State). s.refs there.0 ≢ Stale) moved there.2) in
      let created : IsOneOf there.0 (creations mid) → IsOneOf there.0 (creations since)
      = λ h. subst (λ z. IsOneOf there.0 (creations z)) same (created_left mid rest there.0 h) in (
        there.0,
        there.1,
        ⊎_elim (λ (h : IsOneOf there.0 (creations mid)). inl (created h))
            (λ (q : (state begun).refs there.0 ≢ Stale). inr q) either,
      )

pub windows_are_full : WindowsAreFull
windows_are_full c last begun since l few full =
    let kept = kept_state c last begun ((legal_append c last begun since).0 l).0 in
    let all = standing_indexes c last (state begun) kept in
    let new = map (λ (h : Handle). h.index) (creations since) in
    let each : (i : ℕ) → i < c.slots → IsOneOf i (all ++ new)
    = λ i s.
    let h = in_window c last begun since l few i (full i s) in
    subst (λ j. IsOneOf j (all ++ new)) h.1 (⊎_elim
    (λ (q : IsOneOf h.0 (creations since)). one_of_right h.0.index all new
    (one_of_map (λ (g : Handle). g.index) h.0 (creations since) q))
    (λ (q : (state begun).refs h.0 ≢ Stale). one_of_left h.0.index all new
    (stands_among c last (state begun) kept h.0 q)) h.2) in
    let le = enough c.slots (all ++ new) each in
    let a = both_long all new in
    let b = standing_long c last (state begun) kept in
    let d = map_long (λ (h : Handle). h.index) (creations since) in
    omega (arith, le, a, b, d)

pub refused_for_a_window : RefusedForAWindow
refused_for_a_window begun since new is legal few full =
    windows_are_full new.config new.last begun since (subst (IsLegal new.config new.last) is legal)
    (subst (λ z. length (deletions z) ≤ new.last) is few)
    (λ i l. subst (Sometime (λ s. IsOccupied new.last s i) begun) is (in_call i l))
  where
    in_call : (i : ℕ) → i < new.config.slots → Sometime (λ s. IsOccupied new.last s i) begun new.seen
    in_call i l =
        let w = full i l in
        let before = w.probed.before in
        let probe = by new.thread (Probe i w.found) ∷ [] in
        sometime_wider (prefix_trans begun before (before ++ probe) w.probed.from (probe, refl)) (prefix_self new.seen)
        w.occupied

-- an exit creates nothing, so that what was created in the call was created before it
pub full_before_exit : FullBeforeExit
full_before_exit begun mid new is legal few full =
    let exit = by new.thread (Gate Leave) ∷ [] in
    let le = refused_for_a_window begun (mid ++ exit) new (is ∙ append_assoc begun mid exit) legal few full in
    let same = creations_long mid exit in
    omega (arith, le, same)

nothing_stands : row_references one_slot 2 (state thrice) ≡ 0
unfolding sum_below
nothing_stands = refl

used_up : IsLegal one_slot 2 thrice × IsOccupied 2 (state thrice) 0
used_up =
    let l = (legal_append one_slot 2 thrice (by 0 (Probe 0 true) ∷ [])).0 thrice_is_legal in
    (l.0, l.1.0.1.1.0 refl)

-- the only index of a row, created and deleted with each of its serials
pub not_full_without_the_bound : NotFullWithoutTheBound
not_full_without_the_bound f =
    let le : 1 ≤ row_references one_slot 2 (state thrice) + 0 = f one_slot 2 thrice [] used_up.0 at_end in
    let none = nothing_stands in
    omega (arith, le, none)
  where
    at_end : (i : ℕ) → i < 1 → Sometime (λ s. IsOccupied 2 s i) thrice thrice
    at_end i l = record {
      moment = thrice;
      from = ([], refl);
      to = ([], refl);
      met = subst (IsOccupied 2 (state thrice)) (let z : 0 ≡ i = omega (arith, l) in z) used_up.1;
    }
