use Rattle.std.proofs.Common.{◌≡◌, ◌==◌, ◌+◌, ◌-◌, cond, None, Some, slice_set, sym, ap, subst, ◌∙◌, lit<}
use Rattle.arrayvec.specs.ArrayVec.{ArrayVec}
use Rattle.linked_lists.specs.Lists.{Lists, with_end, with_lists}
use Rattle.jr_model.specs.declared.frames.LocalRef.{LocalRef}
use Rattle.jr_model.specs.State.{Handle}
use Rattle.jr_model.specs.Frames.{Frames, IsAdded, object_at}
use Rattle.jr_frames.specs.declared.place.Place.{Place}
use Rattle.jr_frames.specs.declared.frames.Frames.TheInside.{Inside as Fields}
use Rattle.jr_frames.specs.Table.{Table, IsNext, IsOnly}
use Rattle.jr_frames.specs.Places.{given_of, place_at}
use Rattle.jr_frames.specs.Arrangements.{table, IsTable}
use Rattle.jr_frames.proofs.Adding.{next_index, in_order, some_free, order_added, added_shows, is_added}
use Rattle.jr_frames.proofs.Still.{may_put}
use Rattle.jr_frames.proofs.Changing.{changed, with_place, with_place_is, changed_only}
use Rattle.jr_frames.proofs.Named.{not_zero}
use Rattle.jr_frames.proofs.frames.Frames.add.Goals as goal

at_inside : (t : Table) (a : Fields) (h : Handle) → table a ≡ t → IsNext t h → IsNext (table a) h
at_inside t a h e n = subst (λ u. IsNext u h) (sym e) n

pub take_out-requires : goal.take_out-requires
take_out-requires c = (
  lit< tt,
  in_order c.self.inside c.self.invariant c.args.handle
      (at_inside _ c.self.inside c.args.handle c.self.view_is c.requires.next),
)

pub put_last-requires : goal.put_last-requires
put_last-requires c =
    let may = may_put c.self.inside c.self.invariant c.args.handle.index
    (next_index c.self.inside c.self.invariant c.args.handle
    (at_inside _ c.self.inside c.args.handle c.self.view_is c.requires.next)) c.take_out.new.self c.take_out.ensures in
    (lit< tt, (may.0, (may.1, may.2)))

pub overflow_sub-self : goal.overflow_sub-self
overflow_sub-self c = some_free c.self.inside c.self.invariant c.args.handle
    (at_inside _ c.self.inside c.args.handle c.self.view_is c.requires.next)

abbrev places : goal.After-self-2-1 → ArrayVec Place
places c = with_place c.self.inside.places c.deref_mut.result.now c.from.result (λ place. c.give.new.self)

places_are : (c : goal.After-self-2-1)
    → (places c).items ≡ slice_set c.self.inside.places.items c.args.handle.index c.give.new.self
places_are c = with_place_is c.self.inside.places c.deref_mut.result.now c.from.result c.args.handle.index
    (λ place. c.give.new.self) c.deref_mut.ensures.value c.from.ensures

given_more : (c : goal.After-self-2-1) → given_of c.give.new.self
    ≡ given_of (place_at c.self.inside.places.items c.args.handle.index) + 1
given_more c = c.give.ensures.given
    ∙ ap (λ n. n + 1) (ap given_of (ap (λ ps. place_at ps c.from.result) c.deref_mut.ensures.value
    ∙ ap (place_at c.self.inside.places.items) c.from.ensures))

next : (c : goal.After-self-2-1) → IsNext (table c.self.inside) c.args.handle
next c = at_inside _ c.self.inside c.args.handle c.self.view_is c.requires.next

order_is : (c : goal.After-self-2-1)
    → c.put_last.new.self ≡ order_added c.self.inside c.self.invariant c.args.handle (next c)
order_is c = c.put_last.ensures
    ∙ ap (λ (l : Lists). with_lists l (with_end l.lists c.args.handle.index)) c.take_out.ensures

abbrev inside_now : goal.After-self-2-1 → Fields
inside_now c = changed c.self.inside (c.self.inside.free - 1) (places c) c.put_last.new.self

shows : (c : goal.After-self-2-1) → IsTable (inside_now c)
shows c = added_shows c.self.inside c.self.invariant c.args.handle (next c) c.args.object c.give.new.self
    (given_more c) c.give.ensures.object (places c) (places_are c) c.put_last.new.self (order_is c) c.requires.object

pub invariant_of-self : goal.invariant_of-self
invariant_of-self c = shows c

at_view : (t u : Table) (r : LocalRef) (f : Frames) → t ≡ u → IsAdded t.last t.thread t.frames r f
    → IsAdded u.last u.thread u.frames r f
at_view t u r f e h = subst (λ (v : Table). IsAdded v.last v.thread v.frames r f) e h

pub returns-clause-added : goal.returns-clause-added
returns-clause-added c = at_view _ _ _ _ c.self.view_is
    (is_added c.self.inside c.self.invariant c.args.handle (next c) c.args.object c.give.new.self (given_more c)
    c.give.ensures.object (places c) (places_are c) c.put_last.new.self (order_is c) (c.self.inside.free - 1))

pub returns-clause-only : goal.returns-clause-only
returns-clause-only c =
    let only : IsOnly (table c.self.inside).frames c.args.handle.index
    (cond (c.give.new.self.object == 0) None (Some c.give.new.self.object)) (table (inside_now c)).frames =
    changed_only c.self.inside c.self.invariant c.args.handle.index
    (next_index c.self.inside c.self.invariant c.args.handle (next c)) c.give.new.self (places c) (places_are c)
    (c.self.inside.free - 1) c.put_last.new.self (shows c) in
    λ p. only p
    ∙ (ap (λ n. cond (c.args.handle.index == p) (cond (n == 0) None (Some n))
    (object_at (table c.self.inside).frames p)) c.give.ensures.object
    ∙ (ap (λ b. cond (c.args.handle.index == p) (cond b None (Some c.args.object))
    (object_at (table c.self.inside).frames p)) (not_zero c.args.object c.requires.object)
    ∙ ap (λ (t : Table). cond (c.args.handle.index == p) (Some c.args.object) (object_at t.frames p)) c.self.view_is))
