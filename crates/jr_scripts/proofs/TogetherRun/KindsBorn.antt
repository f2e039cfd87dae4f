-- As many global references stand, and as many weak ones, as were born and stand.
use Rattle.std.proofs.Common.{◌≡◌, ◌≢◌, ◌+◌, ◌&&◌, ℕ, zero, suc, Bool, true, false, Option, Some, None}
use Rattle.std.proofs.Common.{List, [], ◌∷◌, map, slice_get, refl, sym, ap, subst, ◌∙◌, arith}
use Rattle.std.proofs.lemmas.Bool.{false_from_ne_true}
use Rattle.jr_word.specs.declared.config.Config.{Config}
use Rattle.jr_word.specs.declared.handle.RefKind.{RefKind}
use Rattle.jr_word.specs.declared.handle.RefKind.TheVariants.{Local}
use Rattle.jr_model.specs.declared.event.Found.{Found}
use Rattle.jr_model.specs.declared.event.Found.TheVariants.{Object, Cleared, Stale}
use Rattle.jr_model.specs.Maps.{sum_below}
use Rattle.jr_model.specs.State.{Handle, State, is_there, references, same_handle, same_kind}
use Rattle.jr_model.specs.Checks.{is_local}
use Rattle.jr_model.specs.Steps.{IsInRow}
use Rattle.jr_model.specs.History.{History, IsLegal, state}
use Rattle.jr_model.proofs.Counts.{bit, sum_at, sum_split}
use Rattle.jr_model.proofs.Lengths.{sum_none, sum_same, sum_zero}
use Rattle.jr_model.proofs.References.{IsKept, kept_state}
use Rattle.jr_model.proofs.Updates.{and_left, and_right, handle_self, handle_true, kind_self, kind_true, same_parts}
use Rattle.jr_world.specs.World.{Ref, how_many, is_ref_of}
use Rattle.jr_world.specs.Births.{Births, IsAs, RefIsSo, births, found_in}
use Rattle.jr_world.proofs.Births.{worlds_are_so}
use Rattle.jr_world.proofs.Fullness.RowBirths.{Entry, found_row, how_many_first}

abbrev is_with : RefKind → Handle → Entry → Bool
is_with k h e = is_ref_of k e.1 && same_handle h e.0

-- HOW OFTEN a handle is that of an entry which stands as of the kind
times : RefKind → List Entry → Handle → ℕ
times k [] h = 0
times k (e ∷ es) h = bit (is_with k h e) + times k es h

times_none : (k : RefKind) (es : List Entry) (h : Handle)
    → ((j : ℕ) (e : Entry) → slice_get es j ≡ Some e → is_with k h e ≡ true → ⊥) → times k es h ≡ 0
unfolding times
times_none k [] h none = refl
times_none k (e ∷ es) h none = go (is_with k h e) refl (times_none k es h (λ j f is. none (suc j) f is))
  where
    go : (b : Bool) → is_with k h e ≡ b → times k es h ≡ 0 → bit (is_with k h e) + times k es h ≡ 0
    go true is rest = absurd (none 0 e refl is)
    go false is rest = let z : bit (is_with k h e) ≡ 0 = ap bit is in omega (arith, z, rest)

times_one : (k : RefKind) (es : List Entry) (h : Handle) (i : ℕ) (e : Entry) → slice_get es i ≡ Some e
    → is_with k h e ≡ true → ((j : ℕ) (f : Entry) → slice_get es j ≡ Some f → is_with k h f ≡ true → j ≡ i)
    → times k es h ≡ 1
unfolding times
times_one k [] h i e at is others = absurd cc
times_one k (x ∷ xs) h zero e at is others =
    let here : bit (is_with k h x) ≡ 1 = ap bit (ap (is_with k h) (head x e at) ∙ is) in
    let none : (j : ℕ) (f : Entry) → slice_get xs j ≡ Some f → is_with k h f ≡ true → ⊥
    = λ j f there with'. let bad = others (suc j) f there with' in omega (arith, bad) in
    let rest = times_none k xs h none in
    omega (arith, here, rest)
  where
    head : (x e : Entry) → ◌≡◌ {A = Option Entry} (Some x) (Some e) → x ≡ e
    head x e same = cc
times_one k (x ∷ xs) h (suc i) e at is others = go (is_with k h x) refl (times_one k xs h i e at is rest)
  where
    rest : (j : ℕ) (f : Entry) → slice_get xs j ≡ Some f → is_with k h f ≡ true → j ≡ i
    rest j f there with' = let same = others (suc j) f there with' in omega (arith, same)

    go : (b : Bool) → is_with k h x ≡ b → times k xs h ≡ 1 → bit (is_with k h x) + times k xs h ≡ 1
    go true here r = absurd (let bad = others 0 x refl here in omega (arith, bad))
    go false here r = let z : bit (is_with k h x) ≡ 0 = ap bit here in omega (arith, z, r)

module _ (c : Config) (last : ℕ) (k : RefKind) where
  abbrev handle_at : ℕ → ℕ → Handle
  handle_at i n = record { kind = k; serial = n; index = i; owner = 0 }

  -- SUMS over all handles of the kind
  abbrev over_kind : (Handle → ℕ) → ℕ
  over_kind f = sum_below c.slots (λ i. sum_below (last + 1) (λ n. f (handle_at i n)))

  over_same : (f g : Handle → ℕ) → ((i n : ℕ) → g (handle_at i n) ≡ f (handle_at i n)) → over_kind g ≡ over_kind f
  over_same f g e = sum_same c.slots (λ i. sum_below (last + 1) (λ n. f (handle_at i n)))
      (λ i. sum_below (last + 1) (λ n. g (handle_at i n)))
      (λ i l. sum_same (last + 1) (λ n. f (handle_at i n)) (λ n. g (handle_at i n)) (λ n m. e i n))

  over_both : (f g : Handle → ℕ) → over_kind (λ h. f h + g h) ≡ over_kind f + over_kind g
  over_both f g = sum_split c.slots (λ i. sum_below (last + 1) (λ n. f (handle_at i n)))
      (λ i. sum_below (last + 1) (λ n. g (handle_at i n)))
      (λ i. sum_below (last + 1) (λ n. f (handle_at i n) + g (handle_at i n)))
      (λ i. sum_split (last + 1) (λ n. f (handle_at i n)) (λ n. g (handle_at i n))
      (λ n. f (handle_at i n) + g (handle_at i n)) (λ n. refl))

  over_none : over_kind (λ h. 0) ≡ 0
  over_none = sum_zero c.slots (λ i. sum_below (last + 1) (λ n. 0)) (λ i. sum_none (last + 1))

  -- one handle alone counts
  over_one : (h : Handle) (f : Handle → ℕ) → h.kind ≡ k → IsInRow c last h → f h ≡ 1
      → ((g : Handle) → g ≢ h → f g ≡ 0) → over_kind f ≡ 1
  over_one h f is row one others =
      let same : ◌≡◌ {A = Handle} h (handle_at h.index h.serial)
      = same_parts h.kind k h.serial h.serial h.index h.index h.owner 0 is refl refl row.1 in
      let here : f (handle_at h.index h.serial) ≡ 1 = sym (ap f same) ∙ one in
      let inner = sum_at (last + 1) (λ n. 0) (λ n. f (handle_at h.index n)) h.serial
      (let most = row.3 in omega (arith, most))
      (λ n ne. others (handle_at h.index n) (λ e. ne (sym (ap (λ (g : Handle). g.serial) e)))) in
      let outer = sum_at c.slots (λ i. 0) (λ i. sum_below (last + 1) (λ n. f (handle_at i n))) h.index row.2
      (λ i ne. sum_zero (last + 1) (λ n. f (handle_at i n))
      (λ n. others (handle_at i n) (λ e. ne (sym (ap (λ (g : Handle). g.index) e))))) in
      let x = sum_none (last + 1) in
      let y = sum_none c.slots in
      omega (arith, here, inner, outer, x, y)

  -- an entry counts once, where it stands as of the kind
  one_entry : (e : Entry) → (is_ref_of k e.1 ≡ true → (e.0.kind ≡ k) × IsInRow c last e.0)
      → over_kind (λ h. bit (is_with k h e)) ≡ bit (is_ref_of k e.1)
  one_entry e row = go (is_ref_of k e.1) row
    where
      go : (b : Bool) → (b ≡ true → (e.0.kind ≡ k) × IsInRow c last e.0)
          → over_kind (λ h. bit (b && same_handle h e.0)) ≡ bit b
      go true r = over_one e.0 (λ h. bit (same_handle h e.0)) (r refl).0 (r refl).1 (ap bit (handle_self e.0))
          (λ g ne. ap bit (false_from_ne_true (same_handle g e.0) (λ is. ne (handle_true g e.0 is))))
      go false r = over_none

  -- the entries that stand as of the kind, counted by their handles
  counted : (es : List Entry)
      → ((i : ℕ) (e : Entry) → slice_get es i ≡ Some e → is_ref_of k e.1 ≡ true
      → (e.0.kind ≡ k) × IsInRow c last e.0)
      → over_kind (times k es) ≡ how_many (is_ref_of k) (map (λ (e : Entry). e.1) es)
  unfolding times
  counted [] row = over_none
  counted (e ∷ es) row =
      let rest = counted es (λ i f is. row (suc i) f is) in
      let one = one_entry e (row 0 e refl) in
      let x = over_both (λ h. bit (is_with k h e)) (times k es) in
      let more = how_many_first (is_ref_of k) e.1 (map (λ (e : Entry). e.1) es) in
      omega (arith, rest, one, x, more)

  module _ (b : Births) (s : State) (a : IsAs b s) (kept : IsKept c last s) (row : same_kind Local k ≡ false) where
    not_local : (h : Handle) → h.kind ≡ k → is_local h ≡ false
    not_local h is = ap (same_kind Local) is ∙ row

    -- an entry that stands as of the kind has such a handle, and its reference stands
    stands_so : (i : ℕ) (e : Entry) → slice_get b.refs i ≡ Some e → is_ref_of k e.1 ≡ true
        → (e.0.kind ≡ k) × (s.refs e.0 ≢ Stale)
    stands_so i e at is = (
      kind,
      λ stale. gone e.1 is (found_in b s e.0)
          (found_row b s e.0 (not_local e.0 kind) ∙ stale) (a.told i e.0 e.1 at),
    )
      where
        of_kind : (r : Option Ref) → is_ref_of k r ≡ true → (f : Found) → RefIsSo b.objects e.0.kind r f → e.0.kind ≡ k
        of_kind None some f so = absurd cc
        of_kind (Some r) some (Object o) so = sym so.0 ∙ sym (kind_true k r.kind some)
        of_kind (Some r) some Cleared so = sym so.0 ∙ sym (kind_true k r.kind some)
        of_kind (Some r) some Stale so = absurd so

        kind : e.0.kind ≡ k
        kind = of_kind e.1 is (found_in b s e.0) (a.told i e.0 e.1 at)

        gone : (r : Option Ref) → is_ref_of k r ≡ true → (f : Found) → f ≡ Stale → RefIsSo b.objects e.0.kind r f → ⊥
        gone None some f is so = absurd cc
        gone (Some r) some Stale is so = so
        gone (Some r) some Cleared is so = cc
        gone (Some r) some (Object o) is so = cc

    -- each handle of the kind has as many entries that stand as references
    times_so : (h : Handle) → h.kind ≡ k → times k b.refs h ≡ bit (is_there (s.refs h))
    times_so h of_kind = go (s.refs h) refl
      where
        same : (e : Entry) → is_with k h e ≡ true → h ≡ e.0
        same e is = handle_true h e.0 (and_right (is_ref_of k e.1) (same_handle h e.0) is)

        stands : (e : Entry) → is_with k h e ≡ true → is_ref_of k e.1 ≡ true
        stands e is = and_left (is_ref_of k e.1) (same_handle h e.0) is

        told_so : (r : Option Ref) (f : Found) → f ≢ Stale → RefIsSo b.objects h.kind r f → is_ref_of k r ≡ true
        told_so (Some r) (Object o) ne so = ap (same_kind k) (so.0 ∙ of_kind) ∙ kind_self k
        told_so (Some r) Cleared ne so = ap (same_kind k) (so.0 ∙ of_kind) ∙ kind_self k
        told_so (Some r) Stale ne so = absurd so
        told_so None Stale ne so = absurd (ne refl)
        told_so None Cleared ne so = absurd so
        told_so None (Object o) ne so = absurd so

        with_h : (r : Option Ref) → is_ref_of k r ≡ true → is_with k h (h, r) ≡ true
        with_h r some = rw (some, handle_self h) refl

        one : s.refs h ≢ Stale → times k b.refs h ≡ 1
        one ne =
            let there : found_in b s h ≢ Stale = λ e. ne (sym (found_row b s h (not_local h of_kind)) ∙ e) in
            let y = a.refs h there in
            let some = told_so y.1 (found_in b s h) there (a.told y.0 h y.1 y.2) in
            times_one k b.refs h y.0 (h, y.1) y.2 (with_h y.1 some)
            (λ j e at is. a.one_ref j y.0 h e.1 y.1
            (subst (λ g. slice_get b.refs j ≡ Some (g, e.1)) (sym (same e is)) at) y.2)

        none : s.refs h ≡ Stale → times k b.refs h ≡ 0
        none gone = times_none k b.refs h (λ j e at is. (stands_so j e at (stands e is)).1
            (subst (λ g. s.refs g ≡ Stale) (same e is) gone))

        go : (f : Found) → s.refs h ≡ f → times k b.refs h ≡ bit (is_there (s.refs h))
        go Stale is = none is ∙ sym (ap (λ f. bit (is_there f)) is)
        go Cleared is = one (λ e. cc) ∙ sym (ap (λ f. bit (is_there f)) is)
        go (Object o) is = one (λ e. cc) ∙ sym (ap (λ f. bit (is_there f)) is)

-- AS MANY of a kind of the row stand as were born and stand
pub kind_is_born : (c : Config) (last : ℕ) (k : RefKind) (es : History) → same_kind Local k ≡ false
    → IsLegal c last es → references c last k (state es)
    ≡ how_many (is_ref_of k) (map (λ (e : Entry). e.1) (births es).refs)
kind_is_born c last k es row l =
    let b = births es in
    let s = state es in
    let a = worlds_are_so c last es l in
    let kept = kept_state c last es l in
    sym (over_same c last k (λ h. bit (is_there (s.refs h))) (times k b.refs)
    (λ i n. times_so c last k b s a kept row (handle_at c last k i n) refl))
    ∙ counted c last k b.refs (λ i e at is. let so = stands_so c last k b s a kept row i e at is in
    (so.0, kept.in_row e.0 (kept.was_given e.0 so.1)))
