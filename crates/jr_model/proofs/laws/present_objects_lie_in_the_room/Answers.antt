use Rattle.jr_model.proofs.InRoom.{present_is_in_room}
use Rattle.jr_model.proofs.laws.present_objects_lie_in_the_room.Goals as goal

pub returns : goal.returns
returns c = present_is_in_room
