use Rattle.std.proofs.Common.{rules, ◌≡◌, ◌==◌, ◌+◌, ◌<◌, ◌≤◌, ◌∷◌, ℕ, List, cond, length}
use Rattle.std.proofs.Common.{None, IsSome, slice_set, refl, sym, ap, subst, ◌∙◌, lit<, arith}
use Rattle.std.proofs.lemmas.List.{get_or-set_same}
use Rattle.arrayvec.specs.ArrayVec.{ArrayVec}
use Rattle.jr_model.specs.State.{Handle}
use Rattle.jr_model.specs.Frames.{object_at, object_of, without_local}
use Rattle.jr_frames.specs.declared.place.Place.{Place}
use Rattle.jr_frames.specs.declared.frames.Frames.TheInside.{Inside as Fields}
use Rattle.jr_frames.specs.Table.{Table, IsOnly}
use Rattle.jr_frames.specs.Places.{given_of, unused, place_at}
use Rattle.linked_lists.specs.Lists.{Lists, with_free}
use Rattle.jr_frames.specs.Arrangements.{table, IsTable}
use Rattle.jr_frames.proofs.FreePlaces.{free_few}
use Rattle.jr_frames.proofs.Changing.{changed, with_place, with_place_is, changed_only}
use Rattle.jr_frames.proofs.Still.{may_put}
use Rattle.jr_frames.proofs.Deleting.{standing_index, in_order, order_freed, emptied}
use Rattle.jr_frames.proofs.Deleting.{retired_shows, freed_shows, is_deleted}
use Rattle.jr_frames.proofs.frames.Frames.delete.Goals as goal

-- the reference stands in the table inside
stands_inside : (t : Table) (a : Fields) (h : Handle) → table a ≡ t → IsSome (object_of t.frames h)
    → IsSome (object_of (table a).frames h)
stands_inside t a h e s = subst (λ (u : Table). IsSome (object_of u.frames h)) (sym e) s

pub bounds-deref_mut-from : goal.bounds-deref_mut-from
bounds-deref_mut-from c =
    rw (c.from.ensures, c.deref_mut.ensures.value)
    (standing_index c.self.inside c.self.invariant c.args.handle
    (stands_inside _ c.self.inside c.args.handle c.self.view_is c.requires))

pub take_out-requires : goal.take_out-requires
take_out-requires c = (
  lit< tt,
  in_order c.self.inside c.self.invariant c.args.handle
      (stands_inside _ c.self.inside c.args.handle c.self.view_is c.requires),
)

-- the places once one was emptied, through the slice of them
abbrev places_of : Fields → List Place → ℕ → ArrayVec Place
places_of a seen i = with_place a.places seen i (λ place. record { low = place.low; high = place.high; object = 0 })

places_are : (a : Fields) (seen : List Place) (i j : ℕ) → seen ≡ a.places.items → i ≡ j
    → (places_of a seen i).items ≡ slice_set a.places.items j (emptied a j)
places_are a seen i j e f =
    with_place_is a.places seen i j (λ place. record { low = place.low; high = place.high; object = 0 }) e f

-- the emptied place has given as many handles
given_same : (a : Fields) (seen read : List Place) (i j k n : ℕ) → seen ≡ a.places.items → i ≡ j
    → j < length a.places.items → read ≡ (places_of a seen i).items → k ≡ j → n ≡ given_of (place_at read k)
    → n ≡ given_of (place_at a.places.items j)
given_same a seen read i j k n e f l now same is =
    is ∙ (ap (λ ps. given_of (place_at ps k)) (now ∙ places_are a seen i j e f)
    ∙ (ap (λ q. given_of (place_at (slice_set a.places.items j (emptied a j)) q)) same
    ∙ ap given_of (get_or-set_same a.places.items j (emptied a j) unused l)))

pub put_free-requires : goal.put_free-requires
put_free-requires c =
    let may = may_put c.self.inside c.self.invariant c.args.handle.index
    (standing_index c.self.inside c.self.invariant c.args.handle
    (stands_inside _ c.self.inside c.args.handle c.self.view_is c.requires)) c.take_out.new.self c.take_out.ensures in
    (lit< tt, (may.0, may.1))

pub overflow_add-self : goal.overflow_add-self
overflow_add-self c =
    let few = free_few c.self.inside c.self.invariant in
    let most = c.self.invariant.few in
    search rules

-- WHERE THE PLACE IS FREE AGAIN

some : (c : goal.After-self-then-given-from-1) → IsSome (object_of (table c.self.inside).frames c.args.handle)
some c = stands_inside _ c.self.inside c.args.handle c.self.view_is c.requires

freed : (c : goal.After-self-then-given-from-1)
    → c.put_free.new.self ≡ order_freed c.self.inside c.self.invariant c.args.handle (some c)
freed c = c.put_free.ensures ∙ ap (λ (l : Lists). with_free l (c.args.handle.index ∷ l.free)) c.take_out.ensures

given_low : (c : goal.After-self-then-given-from-1)
    → given_of (place_at c.self.inside.places.items c.args.handle.index) ≤ c.self.inside.last
given_low c =
    let index = standing_index c.self.inside c.self.invariant
    c.args.handle (some c) in
    let same =
    given_same c.self.inside c.deref_mut.result.now c.deref.result.now c.from.result c.args.handle.index c.from-2.result
    c.given.result c.deref_mut.ensures.value c.from.ensures index c.deref.ensures.0 c.from-2.ensures c.given.ensures in
    let low = c.if-given-from.true in
    let last = c.from-3.ensures in
    omega arith

abbrev inside_free : goal.After-self-then-given-from-1 → Fields
inside_free c = changed c.self.inside (c.self.inside.free + 1)
    (places_of c.self.inside c.deref_mut.result.now c.from.result) c.put_free.new.self

shows_free : (c : goal.After-self-then-given-from-1) → IsTable (inside_free c)
shows_free c = freed_shows c.self.inside c.self.invariant c.args.handle (some c)
    (places_of c.self.inside c.deref_mut.result.now c.from.result) (places_are c.self.inside c.deref_mut.result.now
    c.from.result c.args.handle.index c.deref_mut.ensures.value c.from.ensures)
    c.put_free.new.self (freed c) (given_low c)

pub invariant_of-self : goal.invariant_of-self
invariant_of-self c = shows_free c

pub returns-then-given-from-clause-deleted : goal.returns-then-given-from-clause-deleted
returns-then-given-from-clause-deleted c =
    is_deleted c.self.inside c.self.invariant c.args.handle (some c)
    (places_of c.self.inside c.deref_mut.result.now c.from.result) (places_are c.self.inside c.deref_mut.result.now
    c.from.result c.args.handle.index c.deref_mut.ensures.value c.from.ensures)
    (c.self.inside.free + 1) c.put_free.new.self (ap (λ (l : Lists). l.lists) (freed c))
    ∙ ap (λ (t : Table). without_local t.frames c.args.handle) c.self.view_is

-- where one place is emptied, another object stands there alone
only_emptied : (a : Fields) (is : IsTable a) (t : Table) → table a ≡ t → (h : Handle) → h.index < length a.places.items
    → (seen : List Place) (i : ℕ) → seen ≡ a.places.items → i ≡ h.index
    → (now : Fields) → now ≡ changed a now.free (places_of a seen i) now.order → IsTable now
    → IsOnly t.frames h.index None (table now).frames
only_emptied a is t e h l seen i same at now parts shows =
    let only : IsOnly (table a).frames h.index None (table (changed a now.free (places_of a seen i) now.order)).frames =
    changed_only a is h.index l (emptied a h.index) (places_of a seen i)
    (places_are a seen i h.index same at) now.free now.order (subst IsTable parts shows) in
    λ p. ap (λ (b : Fields). object_at (table b).frames p) parts
    ∙ (only p ∙ ap (λ (u : Table). cond (h.index == p) None (object_at u.frames p)) e)

pub returns-then-given-from-clause-only : goal.returns-then-given-from-clause-only
returns-then-given-from-clause-only c =
    let index = standing_index c.self.inside c.self.invariant
    c.args.handle (some c) in
    only_emptied c.self.inside c.self.invariant _ c.self.view_is c.args.handle index c.deref_mut.result.now
    c.from.result c.deref_mut.ensures.value c.from.ensures (inside_free c) refl (shows_free c)

-- WHERE THE PLACE IS RETIRED

some_else : (c : goal.Else-given-from) → IsSome (object_of (table c.self.inside).frames c.args.handle)
some_else c = stands_inside _ c.self.inside c.args.handle c.self.view_is c.requires

given_high : (c : goal.Else-given-from)
    → c.self.inside.last < given_of (place_at c.self.inside.places.items c.args.handle.index)
given_high c =
    let index = standing_index c.self.inside c.self.invariant
    c.args.handle (some_else c) in
    let same =
    given_same c.self.inside c.deref_mut.result.now c.deref.result.now c.from.result c.args.handle.index c.from-2.result
    c.given.result c.deref_mut.ensures.value c.from.ensures index c.deref.ensures.0 c.from-2.ensures c.given.ensures in
    let high = c.if-given-from.false in
    let last = c.from-3.ensures in
    omega arith

abbrev inside_retired : goal.Else-given-from → Fields
inside_retired c = changed c.self.inside c.self.inside.free
    (places_of c.self.inside c.deref_mut.result.now c.from.result) c.take_out.new.self

shows_retired : (c : goal.Else-given-from) → IsTable (inside_retired c)
shows_retired c = retired_shows c.self.inside c.self.invariant c.args.handle (some_else c)
    (places_of c.self.inside c.deref_mut.result.now c.from.result) (places_are c.self.inside c.deref_mut.result.now
    c.from.result c.args.handle.index c.deref_mut.ensures.value c.from.ensures)
    c.take_out.new.self c.take_out.ensures (given_high c)

pub invariant_of-self-else-given-from : goal.invariant_of-self-else-given-from
invariant_of-self-else-given-from c = shows_retired c

pub returns-else-given-from-clause-deleted : goal.returns-else-given-from-clause-deleted
returns-else-given-from-clause-deleted c =
    is_deleted c.self.inside c.self.invariant c.args.handle (some_else c)
    (places_of c.self.inside c.deref_mut.result.now c.from.result) (places_are c.self.inside c.deref_mut.result.now
    c.from.result c.args.handle.index c.deref_mut.ensures.value c.from.ensures)
    c.self.inside.free c.take_out.new.self (ap (λ (l : Lists). l.lists) c.take_out.ensures)
    ∙ ap (λ (t : Table). without_local t.frames c.args.handle) c.self.view_is

pub returns-else-given-from-clause-only : goal.returns-else-given-from-clause-only
returns-else-given-from-clause-only c =
    let index = standing_index c.self.inside c.self.invariant
    c.args.handle (some_else c) in
    only_emptied c.self.inside c.self.invariant _ c.self.view_is c.args.handle index c.deref_mut.result.now
    c.from.result c.deref_mut.ensures.value c.from.ensures (inside_retired c) refl (shows_retired c)
