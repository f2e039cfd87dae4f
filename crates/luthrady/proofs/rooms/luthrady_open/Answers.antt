use Rattle.luthrady.proofs.rooms.luthrady_open.Goals as goal

-- src/rooms.rt
pub returns : goal.returns
returns c = (
  c.open_room.result,
  c.opened.ensures,
  c.open_room.ensures.size,
  c.open_room.ensures.memory,
  c.open_room.ensures.opened,
)
