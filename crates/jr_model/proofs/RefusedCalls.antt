-- The acts that change nothing do change nothing.
use Rattle.std.proofs.Common.{refl}
use Rattle.jr_model.specs.declared.event.Act.TheVariants.{Gate, ShutBusy, Meet, Look, Probe}
use Rattle.jr_model.specs.declared.event.Act.TheVariants.{DeleteStale, ReserveFull, ReserveLost, Read}
use Rattle.jr_model.specs.State.{HaveSameTables, State}
use Rattle.jr_model.specs.RefusedCalls.{HarmlessChangesNothing}

-- tables that are left as they are
same_tables : {s : State} → HaveSameTables s s
same_tables = record { refs = refl; given = refl; locals = refl; objects = refl; used = refl }

-- what the harmless acts leave
pub harmless_changes_nothing : HarmlessChangesNothing
harmless_changes_nothing s t (Gate a) h =
    record { refs = refl; given = refl; locals = refl; objects = refl; used = refl }
harmless_changes_nothing s t (ShutBusy n) h = same_tables
harmless_changes_nothing s t (Look g r) h = same_tables
harmless_changes_nothing s t (Probe i b) h = same_tables
harmless_changes_nothing s t (DeleteStale g) h = same_tables
harmless_changes_nothing s t (ReserveFull n u) h = same_tables
harmless_changes_nothing s t (ReserveLost n l f) h = same_tables
harmless_changes_nothing s t (Read o i v) h = same_tables
harmless_changes_nothing s t Meet h = same_tables
harmless_changes_nothing s t _ h = absurd cc
