-- The last owner of a room collects, takes a dump, and closes it.
use Rattle.std.specs.Prelude.{◌≡◌, ◌⊎◌, ◌≤◌, ℕ, Option, Some, [], ◌∷◌}
use Rattle.atomic_table.specs.Seated.{TableId}
use Rattle.jr_word.specs.declared.fault.Fault.{Fault}
use Rattle.jr_word.specs.declared.fault.Fault.TheVariants.{Busy, Memory}
use Rattle.jr_model.specs.declared.event.Act.TheVariants.{ShutBusy}
use Rattle.jr_model.specs.declared.summary.Summary.{Summary}
use Rattle.jr_steps.specs.declared.known.Known.{Known}
use Rattle.jr_steps.specs.Knowing.{anything, keeps, view, Took}
use Rattle.jr_rule.specs.declared.closing.Left.{Left}
use Rattle.jr_rule.specs.declared.room.Room.{Room}
use Rattle.jr_rule.specs.Passes.{Holder, facts_of, holder_of, IsAt}
use Rattle.jr_rule.specs.Rule.{stepping_pass}
use Rattle.jr_alive.specs.declared.dump.Dump.{Dump}
use Rattle.jr_threads.specs.Closing.{HasSweptAll, IsNotCollected}
use Rattle.jr_threads.specs.Listing.{ClosesListed, TookDump}
use Rattle.jr_owned.specs.Owners.{IsLeftByOwner}

-- IT COLLECTED, AND THEN TOOK THIS DUMP, between two moments
abbrev pub HasDumped : Known → Known → Dump → Type 0
HasDumped k k' d = (swept : Known) × HasSweptAll (view k) (view swept) × TookDump (view swept) (view k') d

-- IT TOOK NO DUMP, with this refusal: memory was refused, and nothing was done; or it did not collect; or it
-- did, and by its next step so many threads were not outside
abbrev pub IsNotDumped : ℕ → ℕ → Holder → Holder → Fault → Type 0
IsNotDumped fits objects old new e = ((e ≡ Memory) × (new ≡ old)) ⊎ (IsNotCollected fits objects old new e
    ⊎ ((swept : Holder) × HasSweptAll (view (stepping_pass old.seat.me)) (view (stepping_pass swept.seat.me))
    × (n : ℕ) × (e ≡ Busy n) × (1 ≤ n) × Took facts_of swept new (ShutBusy n ∷ []) anything keeps))

-- A ROOM WAS NOT CLOSED by its last owner, who was to collect with a marker for so many objects, and to take a dump:
-- the room is as it was. He took no dump, or he did, and found threads inside then
pub record IsLeftListing (fits : ℕ) (r : Room 4294967295) (h : Holder) (l : Left 4294967295) : Type 0 where
  pub same : l.room ≡ r
  pub of_room : IsAt r.row l.pass
  pub why : IsNotDumped fits r.row.config.objects h (holder_of l.pass) l.fault
      ⊎ ((listed : Holder) × (d : Dump) × HasDumped (stepping_pass h.seat.me) (stepping_pass listed.seat.me) d
      × IsLeftByOwner r listed l)

-- THE SITE'S ROOM IS CLOSED, by an owner of it who had collected and taken this dump
pub record ClosesListedAt (site : Option TableId) (s : Summary) (d : Dump) : Type 0 where
  pub owner : Holder
  pub site_is : Some owner.seat.table_id ≡ site
  pub closes : ClosesListed (stepping_pass owner.seat.me) s d

-- THE SITE'S ROOM WAS NOT CLOSED by its last owner, who was to collect and to take a dump
pub record IsLeftListingAt (site : Option TableId) (fits : ℕ) (l : Left 4294967295) : Type 0 where
  pub site_is : Some l.room.row.table.shared.table_id ≡ site
  pub owner : Holder
  pub left : IsLeftListing fits l.room owner l
