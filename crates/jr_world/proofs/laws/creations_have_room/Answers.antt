use Rattle.jr_world.proofs.Fullness.RowRoom.{creations_have_room}
use Rattle.jr_world.proofs.laws.creations_have_room.Goals as goal

pub returns : goal.returns
returns c = creations_have_room
