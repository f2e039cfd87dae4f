-- A room that was opened for a pool, and a type that stands for it.
use Rattle.std.specs.Prelude.{Option}
use Rattle.atomic_table.specs.Seated.{TableId}
use Rattle.jr_threads.specs.Sites.{IsSiteRoom}
use Rattle.jr_owned.specs.declared.pool_room.PoolRoom.{PoolRoom}

-- THE ROOM IS THE SITE'S, whatever its sizes
abbrev pub IsRoomOfSite : Option TableId → PoolRoom → Type 0
IsRoomOfSite site p = IsSiteRoom site p.room.row.config p.room
