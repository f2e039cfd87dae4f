use Rattle.std.proofs.Common.{◌∙◌, ap, sym}
use Rattle.luthrady.specs.Behind.{with_room_of}
use Rattle.luthrady.specs.declared.handles.RoomHandle.{RoomHandle}
use Rattle.luthrady.specs.declared.held.Opened.{Opened}
use Rattle.luthrady.proofs.Pooling.{held}
use Rattle.luthrady.proofs.rooms.luthrady_free_room.Goals as goal

-- src/rooms.rt
pub returns-then-attached-ne0 : goal.returns-then-attached-ne0
returns-then-attached-ne0 c =
    let is = sym c.is_room.ensures.value ∙ c.if-not-is_room.false in
    let same = c.is_room.ensures.unchanged in
    let lent = c.room_of.ensures.value in
    let attached = ap (λ (o : Opened). o.attached) (lent ∙ ap (λ (h : RoomHandle). h.value) same) in
    held _ _ _ _ _ is attached c.if-attached-ne0.true c.nothing_reply-then-attached-ne0.ensures
    (ap (with_room_of c.is_room.new.handle) lent ∙ same)
