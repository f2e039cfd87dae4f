use Rattle.std.proofs.Common.{◌≡◌, ◌≢◌, ◌≤◌, ℕ, List, cond, length, None, Some, sym, ap, subst, ◌∙◌}
use Rattle.std.proofs.lemmas.List.{get_or_past}
use Rattle.jr_model.specs.Frames.{object_at, object_of}
use Rattle.jr_frames.specs.declared.place.Place.{Place}
use Rattle.jr_frames.specs.Table.{Table}
use Rattle.jr_frames.specs.Places.{given_of, unused, place_at}
use Rattle.jr_frames.specs.Arrangements.{table}
use Rattle.jr_frames.proofs.Places.{object_in, object_at_place}
use Rattle.jr_frames.proofs.Named.{not_zero, named_object, empty_object, unnamed_object}
use Rattle.jr_frames.proofs.frames.Frames.object_of.Goals as goal
use Rattle.jr_frames.proofs.frames.Frames.object_of.Goals.{else-place-ne0-via-then-place-ne0+else-gave_last}
use Rattle.jr_frames.proofs.frames.Frames.object_of.Goals.{else-place-ne0-via-else-place-ne0}

past_end : (seen places : List Place) (i j : ℕ) → seen ≡ places → i ≡ j → length seen ≤ i → place_at places j ≡ unused
past_end seen places i j same is past = get_or_past places j unused (rw (same, is) at past)

seen_place : (place : Place) (seen places : List Place) (i j : ℕ) → place ≡ place_at seen i → seen ≡ places → i ≡ j
    → place ≡ place_at places j
seen_place place seen places i j here same is = here ∙ ap (λ ps. place_at ps i) same ∙ ap (λ k. place_at places k) is

pub returns-in_err-place-clause-object : goal.returns-in_err-place-clause-object
returns-in_err-place-clause-object c =
    let none = past_end _ _ _ _ c.deref.ensures.0 c.from.ensures c.in_err-place.ensures.lookup.3 in
    c.from_residual.ensures
    ∙ sym (empty_object c.self.inside c.self.invariant c.args.handle
    (ap (λ (x : Place). x.object) none))
    ∙ ap (λ (t : Table). object_of t.frames c.args.handle) c.self.view_is

pub returns-then-gave_last-clause-object : goal.returns-then-gave_last-clause-object
returns-then-gave_last-clause-object c =
    let place = seen_place _ _ _ _ _ (c.in_ok-place.ensures.lookup.3.1 _) c.deref.ensures.0 c.from.ensures in
    let last = c.gave_last.ensures.0 c.if-gave_last.true in
    ap (λ (x : Place). Some x.object) place
    ∙ sym (named_object c.self.inside c.self.invariant c.args.handle
    (subst (λ (x : Place). x.object ≢ 0) place c.if-place-ne0.true) last.0 (last.1 ∙ ap given_of place) last.2)
    ∙ ap (λ (t : Table). object_of t.frames c.args.handle) c.self.view_is

pub returns-then-gave_last-clause-place : goal.returns-then-gave_last-clause-place
returns-then-gave_last-clause-place c =
    let place = seen_place _ _ _ _ _ (c.in_ok-place.ensures.lookup.3.1 _) c.deref.ensures.0 c.from.ensures in
    sym (ap (λ (t : Table). object_at t.frames c.args.handle.index) c.self.view_is)
    ∙ object_at_place c.self.inside c.self.invariant
    c.args.handle.index
    ∙ sym (ap (λ (x : Place). object_in x) place)
    ∙ ap (λ b. cond b None (Some c.in_ok-place.place.now.object)) (not_zero _ c.if-place-ne0.true)

pub returns-else-place-ne0-clause-object : goal.returns-else-place-ne0-clause-object
returns-else-place-ne0-clause-object c =
    let place = seen_place _ _ _ _ _ (c.in_ok-place.ensures.lookup.3.1 _) c.deref.ensures.0 c.from.ensures in
    let none : object_of (table c.self.inside).frames c.args.handle ≡ None = elim c.else-place-ne0.branch [
      | else-place-ne0-via-then-place-ne0+else-gave_last w ↦
          unnamed_object c.self.inside c.self.invariant c.args.handle
          (λ l. let last = w.gave_last.ensures.1 (l.0, l.1 ∙ sym (ap given_of place), l.2) in
          let other = w.if-gave_last.false in absurd (cc (last, other)))
      | else-place-ne0-via-else-place-ne0 w ↦
          empty_object c.self.inside c.self.invariant c.args.handle
          (sym (ap (λ (x : Place). x.object) place) ∙ w.if-place-ne0.false)
    ] in
    sym none ∙ ap (λ (t : Table). object_of t.frames c.args.handle) c.self.view_is
