-- References that are born, cleared, or go: what is told of each is what is found.
use Rattle.std.proofs.Common.{◌≡◌, ◌≢◌, ◌⊎◌, inl, inr, ◌<◌, ◌==◌, ◌&&◌, ◌++◌, ℕ, suc, Bool, true, false}
use Rattle.std.proofs.Common.{cond, nat_eq, Option, Some, None, [], ◌∷◌, length, slice_get}
use Rattle.std.proofs.Common.{refl, sym, ap, subst, ◌∙◌, arith}
use Rattle.jr_word.specs.declared.config.Config.{Config}
use Rattle.jr_word.specs.declared.handle.RefKind.{RefKind}
use Rattle.jr_word.specs.declared.handle.RefKind.TheVariants.{Local, Weak}
use Rattle.jr_model.specs.declared.event.Act.TheVariants.{Create, Delete, Clear, LocalPut, LocalDrop}
use Rattle.jr_model.specs.declared.event.Found.{Found}
use Rattle.jr_model.specs.declared.event.Found.TheVariants.{Object, Cleared, Stale}
use Rattle.jr_model.specs.Maps.{update}
use Rattle.jr_model.specs.State.{Handle, State, same_handle, IsPresent}
use Rattle.jr_model.specs.Steps.{act_after, ActNeeds}
use Rattle.jr_model.specs.Checks.{is_local}
use Rattle.jr_model.proofs.Updates.{at_handle, at_handle_self, eq_true, eq_self, handle_true, kind_true, same_parts}
use Rattle.jr_world.specs.World.{Ref}
use Rattle.jr_world.specs.Births.{Births, birth_of, gone_where, is_at, next_of_place, ref_to, emptied, born_by}
use Rattle.jr_world.specs.Births.{found_at_place, found_in, RefIsSo, HasBeenGiven, IsAs}
use Rattle.jr_world.proofs.Births.BornLists.{by_test, get_old, get_new, get_either, get_map, map_get}
use Rattle.jr_world.proofs.Births.BornFound.{so_gone, found_row, found_place, found_alike, found_same, not_local}
use Rattle.jr_world.proofs.Births.BornFound.{was_row, row_was, was_place, place_was, was_kept}
use Rattle.jr_world.proofs.Births.BornFound.{at_place, off_place, and_yes, and_no}
use Rattle.jr_world.proofs.Births.BornObjects.{contents_stay, present_at}

-- an entry of references
abbrev pub Entry : Type 0
Entry = Handle × Option Ref

-- the world with one more reference
abbrev with_born : Births → Handle → Option Ref → (ℕ → ℕ → ℕ) → Births
with_born b h r puts_then = record b { refs = b.refs ++ (h, r) ∷ []; puts = puts_then }

-- what is told of the entry's reference is what is found
abbrev EntryIsSo : Births → State → Births → Entry → Type 0
EntryIsSo told s found e = RefIsSo told.objects e.0.kind e.1 (found_in found s e.0)

module _ (b : Births) (s : State) (a : IsAs b s) (s' : State) (objects_same : s'.objects ≡ s.objects)
    (used_same : s'.used ≡ s.used) where
  -- SOME REFERENCES ARE GONE
  gone_as : (p : Handle → Bool) → ((h : Handle) → s.given h ≡ true → s'.given h ≡ true)
      → ((h : Handle) → p h ≡ true → found_in b s' h ≡ Stale)
      → ((h : Handle) → p h ≡ false → found_in b s' h ≡ found_in b s h)
      → ((h : Handle) → s'.refs h ≢ Stale → s.refs h ≢ Stale) → IsAs (record b { refs = gone_where p b.refs }) s'
  gone_as p given_on stale other row_on = record {
    contents = contents_stay b (record b { refs = gone_where p b.refs }) s s' a refl objects_same;
    objects = λ q x e. a.objects q x (ap (λ f. f q) (sym objects_same) ∙ e);
    one_object = a.one_object;
    given = λ i h r e.
        let y = get_map one b.refs i (h, r) e in
        subst (HasBeenGiven b s') (ap (λ z. z.0) y.2)
        (was_kept b s s' y.0.0 (given_on y.0.0) (a.given i y.0.0 y.0.1 y.1));
    told = λ i h r e.
        let y = get_map one b.refs i (h, r) e in
        subst (EntryIsSo b s' b) y.2
        (so_gone b.objects y.0.0.kind y.0.1 (found_in b s y.0.0) (found_in b s' y.0.0) (p y.0.0)
        (a.told i y.0.0 y.0.1 y.1) (stale y.0.0) (other y.0.0));
    one_ref = λ i j h r q e f.
        let y = get_map one b.refs i (h, r) e in
        let z = get_map one b.refs j (h, q) f in
        let same : z.0.0 ≡ y.0.0 = ap (λ u. u.0) z.2 ∙ sym (ap (λ u. u.0) y.2) in
        a.one_ref i j y.0.0 y.0.1 z.0.1 y.1 (subst (λ g. slice_get b.refs j ≡ Some (g, z.0.1)) same z.1);
    refs = λ h ne. by_test (p h) (λ e. absurd (ne (stale h e)))
        (λ e. let y = a.refs h (λ is. ne (other h e ∙ is)) in
        (y.0, cond (p h) None y.1, map_get one b.refs y.0 (h, y.1) y.2));
    row = λ h ne. a.row h (row_on h ne);
    used = used_same ∙ a.used;
  }
    where
      one : Entry → Entry
      one e = (e.0, cond (p e.0) None e.1)

  -- ONE IS BORN
  module _ (h : Handle) (r : Option Ref) (puts_then : ℕ → ℕ → ℕ) where
    abbrev more : Births
    more = with_born b h r puts_then

    -- the entry stood before, or is the new one
    abbrev StoodOrNew : ℕ → Entry → Type 0
    StoodOrNew i e = (slice_get b.refs i ≡ Some e) ⊎ (i ≡ length b.refs) × (◌≡◌ {A = Entry} (h, r) e)

    born_as : ((g : Handle) → HasBeenGiven b s g → HasBeenGiven more s' g) → (HasBeenGiven b s h → ⊥)
        → HasBeenGiven more s' h
        → RefIsSo b.objects h.kind r (found_in more s' h)
        → ((g : Handle) → HasBeenGiven b s g → found_in more s' g ≡ found_in b s g)
        → ((g : Handle) → found_in more s' g ≢ Stale → (g ≡ h) ⊎ (found_in b s g ≢ Stale))
        → ((g : Handle) → s'.refs g ≢ Stale → is_local g ≡ false) → IsAs more s'
    born_as given_on fresh here so same all row_on = record {
      contents = contents_stay b more s s' a refl objects_same;
      objects = λ q x e. a.objects q x (ap (λ f. f q) (sym objects_same) ∙ e);
      one_object = a.one_object;
      given = λ i g q e. given_at i g q (get_either b.refs (h, r) i (g, q) e);
      told = λ i g q e. told_at i g q (get_either b.refs (h, r) i (g, q) e);
      one_ref = λ i j g q v e f.
          one_at i j g q v (get_either b.refs (h, r) i (g, q) e) (get_either b.refs (h, r) j (g, v) f);
      refs = λ g ne. refs_at g (all g ne);
      row = row_on;
      used = used_same ∙ a.used;
    }
      where
        given_at : (i : ℕ) (g : Handle) (q : Option Ref) → StoodOrNew i (g, q) → HasBeenGiven more s' g
        given_at i g q (inl e) = given_on g (a.given i g q e)
        given_at i g q (inr e) = subst (HasBeenGiven more s') (ap (λ z. z.0) e.1) here

        told_at : (i : ℕ) (g : Handle) (q : Option Ref) → StoodOrNew i (g, q)
            → RefIsSo b.objects g.kind q (found_in more s' g)
        told_at i g q (inl e) = subst (RefIsSo b.objects g.kind q) (sym (same g (a.given i g q e))) (a.told i g q e)
        told_at i g q (inr e) = subst (EntryIsSo b s' more) e.1 so

        -- the new handle was not given before
        not_new : (i : ℕ) (g : Handle) (q v : Option Ref) → slice_get b.refs i ≡ Some (g, q)
            → ◌≡◌ {A = Entry} (h, r) (g, v) → ⊥
        not_new i g q v e is = fresh (subst (HasBeenGiven b s) (sym (ap (λ z. z.0) is)) (a.given i g q e))

        one_at : (i j : ℕ) (g : Handle) (q v : Option Ref) → StoodOrNew i (g, q) → StoodOrNew j (g, v) → i ≡ j
        one_at i j g q v (inl e) (inl f) = a.one_ref i j g q v e f
        one_at i j g q v (inl e) (inr f) = absurd (not_new i g q v e f.1)
        one_at i j g q v (inr e) (inl f) = absurd (not_new j g v q f e.1)
        one_at i j g q v (inr e) (inr f) = e.0 ∙ sym f.0

        refs_at : (g : Handle) → (g ≡ h) ⊎ (found_in b s g ≢ Stale)
            → (i : ℕ) × (q : Option Ref) × (slice_get (b.refs ++ (h, r) ∷ []) i ≡ Some (g, q))
        refs_at g (inl e) = (length b.refs, r, get_new b.refs (h, r) ∙ ap (λ z. Some (z, r)) (sym e))
        refs_at g (inr ne) = let y = a.refs g ne in (y.0, y.1, get_old b.refs ((h, r) ∷ []) y.0 (g, y.1) y.2)

-- NOTHING CHANGES but roles and what is used
pub still_as : (b : Births) (s s' : State) (u : ℕ) → IsAs b s → s'.objects ≡ s.objects → s'.refs ≡ s.refs
    → s'.given ≡ s.given → s'.locals ≡ s.locals → s'.used ≡ u → IsAs (record b { used = u }) s'
still_as b s s' u a objects refs given locals used = record {
  contents = contents_stay b (record b { used = u }) s s' a refl objects;
  objects = λ q x e. a.objects q x (ap (λ f. f q) (sym objects) ∙ e);
  one_object = a.one_object;
  given = λ i h r e. was_kept b s s' h (λ w. ap (λ f. f h) given ∙ w) (a.given i h r e);
  told = λ i h r e. subst (RefIsSo b.objects h.kind r) (sym (found_same b s s' h refs locals)) (a.told i h r e);
  one_ref = a.one_ref;
  refs = λ h ne. a.refs h (λ is. ne (found_same b s s' h refs locals ∙ is));
  row = λ h ne. a.row h (λ is. ne (ap (λ f. f h) refs ∙ is));
  used = used;
}

-- what a new reference is to
so_new : (b : Births) (s : State) → IsAs b s → (k : RefKind) (o : ℕ) → IsPresent s o → (f : Found) → f ≡ Object o
    → RefIsSo b.objects k (ref_to k (birth_of b.objects o)) f
so_new b s a k o there f is =
    let x = present_at b s a o there in
    subst (RefIsSo b.objects k (ref_to k (birth_of b.objects o))) (sym is) (refl, birth_of b.objects o, refl, x.0, x.1)

-- what stands at the handle is another, and at others what stood there
at_others : (s : State) (h : Handle) (f : Found) (g : Handle) → same_handle h g ≡ false
    → update same_handle s.refs h f g ≡ s.refs g
at_others s h f g e = ap (λ z. cond z f (s.refs g)) e

at_itself : (s : State) (h : Handle) (f : Found) (g : Handle) → same_handle h g ≡ true
    → update same_handle s.refs h f g ≡ f
at_itself s h f g e = ap (λ z. cond z f (s.refs g)) e

module _ (c : Config) (last : ℕ) (b : Births) (s : State) (a : IsAs b s) (t : ℕ) (h : Handle) where
  -- A GLOBAL OR WEAK REFERENCE IS BORN
  module _ (o : ℕ) (needs : ActNeeds c last s t (Create h o)) where
    abbrev with_it : State
    with_it = act_after s t (Create h o)

    new_row : is_local h ≡ false
    new_row = not_local h (needs.2).0

    was_not_given : s.given h ≡ true → ⊥
    was_not_given old = absurd (let fresh = needs.4 h refl refl in cc)

    given_before : (g : Handle) → is_local g ≡ false → HasBeenGiven b s g → same_handle h g ≡ false
    given_before g l w = by_test (same_handle h g)
        (λ e. absurd (was_not_given (ap s.given (handle_true h g e) ∙ was_row b s g l w))) (λ e. e)

    same_before : (g : Handle) → (is_local g ≡ false → same_handle h g ≡ false)
        → found_in b with_it g ≡ found_in b s g
    same_before g other = found_alike b b s with_it g (λ l. refl) (λ l. at_others s h (Object o) g (other l))

    pub create_as : IsAs (born_by b t (Create h o)) with_it
    create_as = born_as b s a with_it refl refl h (ref_to h.kind (birth_of b.objects o)) b.puts
        (λ g. was_kept b s with_it g (λ w. at_handle (λ z. z ≡ true) s.given h g true (λ e. refl) (λ ne. w)))
        (λ w. was_not_given (was_row b s h new_row w))
        (row_was b with_it h new_row (at_handle_self s.given h true))
        (so_new b s a h.kind o needs.1 (found_in b with_it h)
        (found_row b with_it h new_row ∙ at_handle_self s.refs h (Object o)))
        (λ g w. same_before g (λ l. given_before g l w))
        (λ g ne. by_test (same_handle h g) (λ e. inl (sym (handle_true h g e)))
        (λ e. inr (λ is. ne (same_before g (λ l. e) ∙ is))))
        (λ g ne. by_test (same_handle h g) (λ e. ap is_local (sym (handle_true h g e)) ∙ new_row)
        (λ e. a.row g (λ is. ne (at_others s h (Object o) g e ∙ is))))

  -- A REFERENCE IS DELETED
  module _ (needs : ActNeeds c last s t (Delete h)) where
    abbrev without_it : State
    without_it = act_after s t (Delete h)

    pub delete_as : IsAs (born_by b t (Delete h)) without_it
    delete_as = gone_as b s a without_it refl refl (same_handle h) (λ g w. w)
        (λ g e. found_row b without_it g (ap is_local (sym (handle_true h g e)) ∙ a.row h needs.1)
        ∙ at_itself s h Stale g e)
        (λ g e. found_alike b b s without_it g (λ l. refl) (λ l. at_others s h Stale g e))
        (λ g ne. by_test (same_handle h g) (λ e. absurd (ne (at_itself s h Stale g e)))
        (λ e is. ne (at_others s h Stale g e ∙ is)))

stale_either : (d : Bool) (f : Found) → f ≡ Stale → cond d f Stale ≡ Stale
stale_either true f e = e
stale_either false f e = refl

module _ (b : Births) (s : State) (a : IsAs b s) (t p : ℕ) where
  -- the handle is of the place
  abbrev is_here : Handle → Bool
  is_here g = (t == g.owner) && (p == g.index)

  abbrev left_empty : State
  left_empty = act_after s t (LocalDrop p)

  here_stale : (g : Handle) → is_at t p g ≡ true → found_in b left_empty g ≡ Stale
  here_stale g e =
      let d = and_yes (is_local g) (is_here g) e in
      found_place b left_empty g d.0
      ∙ stale_either (suc g.serial == b.puts g.owner g.index) (found_at_place (left_empty.locals g.owner g.index))
      (ap found_at_place (at_place s.locals t p None g.owner g.index d.1))

  there_same : (g : Handle) → is_at t p g ≡ false → found_in b left_empty g ≡ found_in b s g
  there_same g e = found_alike b b s left_empty g
      (λ l. ap (λ z. cond (suc g.serial == b.puts g.owner g.index) (found_at_place z) Stale)
      (off_place s.locals t p None g.owner g.index (and_no (is_local g) (is_here g) l e)))
      (λ l. refl)

  -- A PLACE IS LEFT EMPTY
  pub local_drop_as : IsAs (born_by b t (LocalDrop p)) left_empty
  local_drop_as = gone_as b s a left_empty refl refl (is_at t p) (λ g w. w) here_stale there_same (λ g ne. ne)

  module _ (o : ℕ) (there : IsPresent s o) where
    abbrev n : ℕ
    n = b.puts t p

    abbrev filled : State
    filled = act_after s t (LocalPut p o)

    abbrev puts_then : ℕ → ℕ → ℕ
    puts_then = update nat_eq b.puts t (update nat_eq (b.puts t) p (suc (b.puts t p)))

    abbrev the_new : Handle
    the_new = next_of_place t p (b.puts t p)

    abbrev born_empty : Births
    born_empty = born_by b t (LocalDrop p)

    abbrev born_filled : Births
    born_filled = born_by b t (LocalPut p o)

    itself : ((t == t) && (p == p)) ≡ true
    itself = ap (λ z. z && (p == p)) (eq_self t) ∙ eq_self p

    puts_here : (u q : ℕ) → ((t == u) && (p == q)) ≡ true → (puts_then u q ≡ suc n) × (b.puts u q ≡ n)
    puts_here u q e = let d = and_yes (t == u) (p == q) e in (
      at_place b.puts t p (suc n) u q e,
      ap (λ z. b.puts z q) (sym (eq_true t u d.0)) ∙ ap (b.puts t) (sym (eq_true p q d.1)),
    )

    grows : (g : Handle) → g.serial < b.puts g.owner g.index → g.serial < puts_then g.owner g.index
    grows g l = by_test (is_here g)
        (λ e. let d = puts_here g.owner g.index e in let x = d.0 in let y = d.1 in omega arith)
        (λ e. let x = off_place b.puts t p (suc n) g.owner g.index e in omega arith)

    -- what is found at the handle, where its place has given so many
    abbrev found_of : Handle → ℕ → Option ℕ → Found
    found_of g many x = cond (suc g.serial == many) (found_at_place x) Stale

    -- another place
    place_off : (g : Handle) → (is_local g ≡ true → is_here g ≡ false)
        → found_in born_filled filled g ≡ found_in born_empty left_empty g
    place_off g other = found_alike born_empty born_filled left_empty filled g
        (λ l. ap (λ z. found_of g z (filled.locals g.owner g.index))
        (off_place b.puts t p (suc n) g.owner g.index (other l))
        ∙ ap (found_of g (b.puts g.owner g.index)) (off_place s.locals t p (Some o) g.owner g.index (other l)
        ∙ sym (off_place s.locals t p None g.owner g.index (other l))))
        (λ l. refl)

    new_found : found_in born_filled filled the_new ≡ Object o
    new_found = found_place born_filled filled the_new refl
        ∙ (ap (λ z. cond (suc n == z) (found_at_place (filled.locals t p)) Stale) (puts_here t p itself).0
        ∙ (ap (λ z. cond z (found_at_place (filled.locals t p)) Stale) (eq_self (suc n))
        ∙ ap found_at_place (at_place s.locals t p (Some o) t p itself)))

    not_equal : (m k : ℕ) → m < k → (suc m == suc k) ≡ false
    not_equal m k l = by_test (suc m == suc k) (λ e. absurd (let x = eq_true (suc m) (suc k) e in omega arith)) (λ e. e)

    -- a handle of the place that is not its newest
    not_newest : (g : Handle) → is_local g ≡ true → is_here g ≡ true → (suc g.serial == suc n) ≡ false
        → found_in born_filled filled g ≡ Stale
    not_newest g l e other = found_place born_filled filled g l
        ∙ (ap (λ z. found_of g z (filled.locals g.owner g.index)) (puts_here g.owner g.index e).0
        ∙ ap (λ z. cond z (found_at_place (filled.locals g.owner g.index)) Stale) other)

    old_here : (g : Handle) → is_local g ≡ true → is_here g ≡ true → g.serial < b.puts g.owner g.index
        → found_in born_filled filled g ≡ Stale
    old_here g l e less =
        let d = puts_here g.owner g.index e in
        let below : g.serial < n = (let x = d.1 in omega arith) in
        not_newest g l e (not_equal g.serial n below)

    is_new : (g : Handle) → is_local g ≡ true → is_here g ≡ true → suc g.serial ≡ suc n → g ≡ the_new
    is_new g l e same =
        let d = and_yes (t == g.owner) (p == g.index) e in
        same_parts g.kind Local g.serial n g.index p g.owner t (sym (kind_true Local g.kind l)) (omega arith)
        (sym (eq_true p g.index d.1)) (sym (eq_true t g.owner d.0))

    kept_given : (g : Handle) → HasBeenGiven born_empty left_empty g → HasBeenGiven born_filled filled g
    kept_given g w = by_test (is_local g)
        (λ l. place_was born_filled filled g l (grows g (was_place born_empty left_empty g l w)))
        (λ l. row_was born_filled filled g l (was_row born_empty left_empty g l w))

    given_same : (g : Handle) → HasBeenGiven born_empty left_empty g
        → found_in born_filled filled g ≡ found_in born_empty left_empty g
    given_same g w = by_test (is_at t p g)
        (λ e. let d = and_yes (is_local g) (is_here g) e in
        old_here g d.0 d.1 (was_place born_empty left_empty g d.0 w) ∙ sym (here_stale g e))
        (λ e. place_off g (λ l. and_no (is_local g) (is_here g) l e))

    new_or_old : (g : Handle) → found_in born_filled filled g ≢ Stale
        → (g ≡ the_new) ⊎ (found_in born_empty left_empty g ≢ Stale)
    new_or_old g ne = by_test (is_at t p g)
        (λ e. let d = and_yes (is_local g) (is_here g) e in
        by_test (suc g.serial == suc n) (λ same. inl (is_new g d.0 d.1 (eq_true (suc g.serial) (suc n) same)))
        (λ other. absurd (ne (not_newest g d.0 d.1 other))))
        (λ e. inr (λ is. ne (place_off g (λ l. and_no (is_local g) (is_here g) l e) ∙ is)))

    -- A PLACE IS FILLED
    pub local_put_as : IsAs born_filled filled
    local_put_as = born_as born_empty left_empty local_drop_as filled refl refl the_new
        (ref_to Local (birth_of b.objects o)) puts_then kept_given (λ w. omega arith)
        (let d = puts_here t p itself in let x = d.0 in omega arith)
        (so_new born_empty left_empty local_drop_as Local o there (found_in born_filled filled the_new) new_found)
        given_same new_or_old (λ g ne. a.row g ne)

-- A WEAK REFERENCE IS CLEARED
module _ (b : Births) (s : State) (a : IsAs b s) (t : ℕ) (h : Handle) (o : ℕ) (weak : h.kind ≡ Weak)
    (stood : s.refs h ≡ Object o) where
  abbrev when_cleared : State
  when_cleared = act_after s t (Clear h)

  abbrev one_emptied : Entry → Entry
  one_emptied e = (e.0, cond (same_handle h e.0) (emptied e.1) e.1)

  weak_row : is_local h ≡ false
  weak_row = not_local h (λ e. absurd (let bad = sym weak ∙ e in weak_not_local bad))
    where
      weak_not_local : ◌≡◌ {A = RefKind} Weak Local → ⊥
      weak_not_local e = cc

  found_here : (g : Handle) → same_handle h g ≡ true
      → (found_in b when_cleared g ≡ Cleared) × (found_in b s g ≡ Object o)
  found_here g e =
      let same = handle_true h g e in
      let row : is_local g ≡ false = ap is_local (sym same) ∙ weak_row in (
        found_row b when_cleared g row ∙ at_itself s h Cleared g e,
        found_row b s g row ∙ (ap s.refs (sym same) ∙ stood),
      )

  found_there : (g : Handle) → same_handle h g ≡ false → found_in b when_cleared g ≡ found_in b s g
  found_there g e = found_alike b b s when_cleared g (λ l. refl) (λ l. at_others s h Cleared g e)

  so_emptied : (k : RefKind) (r : Option Ref) (f f' : Found) → f ≡ Object o → f' ≡ Cleared → RefIsSo b.objects k r f
      → RefIsSo b.objects k (emptied r) f'
  so_emptied k (Some r) f f' e e' d = subst (λ z. RefIsSo b.objects k (emptied (Some r)) z) (sym e')
      ((subst (λ z. RefIsSo b.objects k (Some r) z) e d).0, refl)
  so_emptied k None f f' e e' d = absurd (subst (λ z. RefIsSo b.objects k None z) e d)

  pub clear_as : IsAs (born_by b t (Clear h)) when_cleared
  clear_as = record {
    contents = contents_stay b (born_by b t (Clear h)) s when_cleared a refl refl;
    objects = a.objects;
    one_object = a.one_object;
    given = λ i g r e. let y = get_map one_emptied b.refs i (g, r) e in
        subst (HasBeenGiven b s) (ap (λ z. z.0) y.2) (a.given i y.0.0 y.0.1 y.1);
    told = λ i g r e. let y = get_map one_emptied b.refs i (g, r) e in
        subst (EntryIsSo b when_cleared b) y.2
        (told_at y.0.0 y.0.1 (same_handle h y.0.0) refl (a.told i y.0.0 y.0.1 y.1));
    one_ref = λ i j g r q e f.
        let y = get_map one_emptied b.refs i (g, r) e in
        let z = get_map one_emptied b.refs j (g, q) f in
        let same : z.0.0 ≡ y.0.0 = ap (λ u. u.0) z.2 ∙ sym (ap (λ u. u.0) y.2) in
        a.one_ref i j y.0.0 y.0.1 z.0.1 y.1 (subst (λ g. slice_get b.refs j ≡ Some (g, z.0.1)) same z.1);
    refs = λ g ne. let y = a.refs g (λ is. stands g ne is) in
        (y.0, cond (same_handle h g) (emptied y.1) y.1, map_get one_emptied b.refs y.0 (g, y.1) y.2);
    row = λ g ne. by_test (same_handle h g) (λ e. ap is_local (sym (handle_true h g e)) ∙ weak_row)
        (λ e. a.row g (λ is. ne (at_others s h Cleared g e ∙ is)));
    used = a.used;
  }
    where
      told_at : (g : Handle) (r : Option Ref) (d : Bool) → same_handle h g ≡ d
          → RefIsSo b.objects g.kind r (found_in b s g)
          → RefIsSo b.objects g.kind (cond d (emptied r) r) (found_in b when_cleared g)
      told_at g r true e so =
          let x = found_here g e in so_emptied g.kind r (found_in b s g) (found_in b when_cleared g) x.1 x.0 so
      told_at g r false e so = subst (RefIsSo b.objects g.kind r) (sym (found_there g e)) so

      object_not_stale : ◌≡◌ {A = Found} (Object o) Stale → ⊥
      object_not_stale e = cc

      stands : (g : Handle) → found_in b when_cleared g ≢ Stale → found_in b s g ≡ Stale → ⊥
      stands g ne is = by_test (same_handle h g) (λ e. object_not_stale (sym (found_here g e).1 ∙ is))
          (λ e. ne (found_there g e ∙ is))
