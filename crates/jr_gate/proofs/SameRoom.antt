-- The same room, thread and role, from moment to moment.
use Rattle.std.proofs.Common.{◌≡◌, Bool, refl, ap, ◌∙◌}
use Rattle.jr_steps.specs.Knowing.{Standing}
use Rattle.jr_gate.specs.Performing.{IsAsBefore}

pub nothing_changed : {s : Standing} → IsAsBefore s s
nothing_changed = record { room = refl; config = refl; last = refl; thread = refl; role = refl }

-- whether or not the pass is fresh afterwards
pub as_before : (s : Standing) {t : Standing} {f : Bool} → t ≡ record s { fresh = f } → IsAsBefore s t
as_before s e = record {
  room = ap (λ (u : Standing). u.room) e;
  config = ap (λ (u : Standing). u.config) e;
  last = ap (λ (u : Standing). u.last) e;
  thread = ap (λ (u : Standing). u.thread) e;
  role = ap (λ (u : Standing). u.role) e;
}

pub still_before : {s t u : Standing} → IsAsBefore s t → IsAsBefore t u → IsAsBefore s u
still_before p q = record {
  room = q.room ∙ p.room;
  config = q.config ∙ p.config;
  last = q.last ∙ p.last;
  thread = q.thread ∙ p.thread;
  role = q.role ∙ p.role;
}

-- all but whether the pass is fresh
pub but_fresh : {s t : Standing} → IsAsBefore s t → t ≡ record s { fresh = t.fresh }
but_fresh {s} {t} p =
    ap (λ z. record { room = z; config = t.config; last = t.last; thread = t.thread; role = t.role; fresh = t.fresh })
    p.room
    ∙ (ap (λ z. record { room = s.room; config = z; last = t.last; thread = t.thread; role = t.role; fresh = t.fresh })
    p.config
    ∙ (ap (λ z.
    record { room = s.room; config = s.config; last = z; thread = t.thread; role = t.role; fresh = t.fresh }) p.last
    ∙ (ap (λ z. record { room = s.room; config = s.config; last = s.last; thread = z; role = t.role; fresh = t.fresh })
    p.thread
    ∙ ap (λ z. record { room = s.room; config = s.config; last = s.last; thread = s.thread; role = z; fresh = t.fresh })
    p.role)))
