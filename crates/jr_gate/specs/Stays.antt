-- Whose a stay, a collection and an announcement are: by the number of the thread and the role of the
-- steps, and nothing else. One that the thread had earlier, or that a thread of this number has in
-- another room, is its own, too: what is done in a stay rests on the role, whichever is handed in.
use Rattle.std.specs.Prelude.{◌≡◌}
use Rattle.jr_model.specs.declared.event.Role.TheVariants.{Within, Announcing, Collecting}
use Rattle.jr_steps.specs.Knowing.{Standing}
use Rattle.jr_gate.specs.declared.announced.Announced.{Announced}
use Rattle.jr_gate.specs.declared.inside.Inside.{Inside}
use Rattle.jr_gate.specs.declared.shut.Shut.{Shut}

-- the stay has the number of the thread, which is within
abbrev pub IsOwnStay : Inside → Standing → Type 0
IsOwnStay i s = (i.thread ≡ s.thread) × (s.role ≡ Within)

-- the collection has the number of the thread, which collects
abbrev pub IsOwnCollection : Shut → Standing → Type 0
IsOwnCollection c s = (c.thread ≡ s.thread) × (s.role ≡ Collecting)

-- the announcement has the number of the thread, which is announcing
abbrev pub IsOwnAnnouncement : Announced → Standing → Type 0
IsOwnAnnouncement a s = (a.thread ≡ s.thread) × (s.role ≡ Announcing)
