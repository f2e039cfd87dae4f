use Rattle.std.proofs.Common.{ap, ◌∙◌}
use Rattle.luthrady.specs.Behind.{with_room_of}
use Rattle.luthrady.proofs.behind.has_attached.Goals as goal

-- src/behind.rt
pub returns-clause-unchanged : goal.returns-clause-unchanged
returns-clause-unchanged c =
    ap (with_room_of c.is_room.new.handle) c.room_of.ensures.value ∙ c.is_room.ensures.unchanged
