use Rattle.std.proofs.Common.{[], ◌≡◌, ◌-◌, ◌<◌, ◌≤◌, ℕ, length, Some, IsSome, lit<, sym, ap, subst, ◌∙◌, arith}
use Rattle.std.proofs.lemmas.List.{length-map}
use Rattle.jr_word.specs.declared.handle.RefKind.TheVariants.{Local}
use Rattle.jr_model.specs.State.{Handle}
use Rattle.jr_model.specs.Frames.{object_of}
use Rattle.jr_frames.specs.declared.frames.Frames.TheInside.{Inside as Fields}
use Rattle.jr_frames.specs.Table.{Table, TakesOldestOf, frame_at, oldest_handle}
use Rattle.jr_frames.specs.Places.{given_of, place_at}
use Rattle.jr_frames.specs.Arrangements.{table}
use Rattle.jr_frames.proofs.Oldest.{IsOldest, empty_at, oldest_at, oldest_low, oldest_given}
use Rattle.jr_frames.proofs.Oldest.{is_oldest, oldest_stands, takes_oldest}
use Rattle.jr_frames.proofs.frames.Frames.oldest_of.Goals as goal

-- there is a frame of the number
frame_low : (t : Table) (a : Fields) (k : ℕ) → table a ≡ t → k < length t.frames.frames → k < length a.order.lists
frame_low t a k e l =
    let shown : k < length (table a).frames.frames = subst (λ (u : Table). k < length u.frames.frames) (sym e) l in
    rw length-map at shown

pub first-requires : goal.first-requires
first-requires c = (lit< tt, frame_low _ c.self.inside c.args.frame c.self.view_is c.requires)

-- WHERE THE FRAME IS EMPTY

empty : (c : goal.In_default) → frame_at c.args.self.now.frames.frames c.args.frame ≡ []
empty c = sym (ap (λ (t : Table). frame_at t.frames.frames c.args.frame) c.self.view_is)
    ∙ empty_at c.self.inside c.self.invariant c.args.frame (sym c.in_default.is ∙ c.first.ensures)

pub returns-in_default-clause-oldest : goal.returns-in_default-clause-oldest
returns-in_default-clause-oldest c = sym (ap oldest_handle (empty c))

pub returns-in_default-clause-empty : goal.returns-in_default-clause-empty
returns-in_default-clause-empty c = empty c

-- WHERE A REFERENCE IS LEFT

oldest : (c : goal.After-given) → IsOldest c.self.inside c.args.frame c.in-Some.index
oldest c = oldest_at c.self.inside c.self.invariant c.args.frame c.in-Some.index (sym c.in-Some.is ∙ c.first.ensures)

pub bounds-deref-from : goal.bounds-deref-from
bounds-deref-from c = rw (c.from.ensures, c.deref.ensures.0)
    (oldest_low c.self.inside c.self.invariant c.args.frame c.in-Some.index
    (oldest_at c.self.inside c.self.invariant c.args.frame c.in-Some.index (sym c.in-Some.is ∙ c.first.ensures)))

number : (c : goal.After-given) → c.given.result ≡ given_of (place_at c.self.inside.places.items c.in-Some.index)
number c = c.given.ensures ∙ (ap (λ ps. given_of (place_at ps c.from.result)) c.deref.ensures.0
    ∙ ap (λ k. given_of (place_at c.self.inside.places.items k)) c.from.ensures)

once : (c : goal.After-given) → 1 ≤ given_of (place_at c.self.inside.places.items c.in-Some.index)
once c = oldest_given c.self.inside c.self.invariant c.args.frame
    c.in-Some.index (oldest c)

pub overflow_sub-result : goal.overflow_sub-result
overflow_sub-result c = let n = number c in let one = once c in omega arith

abbrev handle_of : goal.After-given → ℕ → Handle
handle_of c n = record { kind = Local; serial = n - 1; index = c.in-Some.index; owner = c.self.inside.thread }

pub returns-clause-oldest : goal.returns-clause-oldest
returns-clause-oldest c =
    ap (λ n. Some (handle_of c n)) (number c)
    ∙ (sym (is_oldest c.self.inside c.self.invariant c.args.frame
    c.in-Some.index (oldest c))
    ∙ ap (λ (t : Table). oldest_handle (frame_at t.frames.frames c.args.frame)) c.self.view_is)

pub returns-clause-stands : goal.returns-clause-stands
returns-clause-stands c =
    subst (λ (t : Table). IsSome (object_of t.frames (handle_of c c.given.result))) c.self.view_is
    (subst (λ n. IsSome (object_of (table c.self.inside).frames (handle_of c n))) (sym (number c))
    (oldest_stands c.self.inside c.self.invariant c.args.frame
    c.in-Some.index (oldest c)))

pub returns-clause-rest : goal.returns-clause-rest
returns-clause-rest c =
    subst (λ (t : Table). TakesOldestOf t.frames c.args.frame (handle_of c c.given.result)) c.self.view_is
    (subst (λ n. TakesOldestOf (table c.self.inside).frames c.args.frame (handle_of c n)) (sym (number c))
    (takes_oldest c.self.inside c.self.invariant c.args.frame
    c.in-Some.index (oldest c)))
