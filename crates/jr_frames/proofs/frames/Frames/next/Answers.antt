use Rattle.std.proofs.Common.{rules, ◌≡◌, ℕ, refl, sym, ap, subst, ◌∙◌}
use Rattle.jr_word.specs.declared.handle.RefKind.TheVariants.{Local}
use Rattle.jr_model.specs.State.{Handle}
use Rattle.jr_model.specs.Frames.{free_places}
use Rattle.jr_frames.specs.Table.{Table, IsNext}
use Rattle.jr_frames.specs.Places.{given_of, place_at}
use Rattle.jr_frames.specs.Arrangements.{table}
use Rattle.jr_frames.proofs.FreePlaces.{free_counted, free_next, next_idle, none_free, IsIdle}
use Rattle.jr_frames.proofs.frames.Frames.next.Goals as goal

pub returns-in_default-clause-none : goal.returns-in_default-clause-none
returns-in_default-clause-none c =
    sym (ap (λ (t : Table). free_places t.last t.frames) c.self.view_is)
    ∙ (free_counted c.self.inside c.self.invariant
    ∙ none_free c.self.inside c.self.invariant _ refl (sym c.in_default.is ∙ c.first_free.ensures))

pub bounds-deref-from : goal.bounds-deref-from
bounds-deref-from c =
    let idle = next_idle c.self.inside c.self.invariant c.in-Some.index _ refl
    (sym c.in-Some.is ∙ c.first_free.ensures) in
    let place = idle.place in
    rw (c.from.ensures, c.deref.ensures.0) place

idle_at : (c : goal.After-given) → IsIdle c.self.inside.last c.self.inside.places.items c.in-Some.index
idle_at c = next_idle c.self.inside c.self.invariant c.in-Some.index _ refl
    (sym c.in-Some.is ∙ c.first_free.ensures)

number : (c : goal.After-given) → c.given.result ≡ given_of (place_at c.self.inside.places.items c.in-Some.index)
number c = c.given.ensures ∙ (ap (λ ps. given_of (place_at ps c.from.result)) c.deref.ensures.0
    ∙ ap (λ k. given_of (place_at c.self.inside.places.items k)) c.from.ensures)

pub overflow_cast-result : goal.overflow_cast-result
overflow_cast-result c = let n = number c in let low = (idle_at c).low in let small = c.self.invariant.last_fits in
    search rules

abbrev next_of : goal.After-given → ℕ → Handle
next_of c n = record { kind = Local; serial = n; index = c.in-Some.index; owner = c.self.inside.thread }

pub returns-clause-some : goal.returns-clause-some
returns-clause-some c =
    subst (λ t. IsNext t (next_of c c.given.result)) c.self.view_is
    (subst (λ n. IsNext (table c.self.inside) (next_of c n)) (sym (number c))
    (free_next c.self.inside c.self.invariant c.in-Some.index
    (idle_at c)))
