-- The words for conditions that calls have, and that a function of one's own hands on to its callers.
pub use Rattle.jr_env.specs.Collections.{FitsRoom}
pub use Rattle.jr_env.specs.Envs.{IsOutside}
pub use Rattle.jr_rule.specs.Rooms.{AreInOneRoom, IsNoteThere, IsOfRoom, IsPinnedThere}
pub use Rattle.jr_owned.specs.PoolRooms.{IsRoomOfSite}
