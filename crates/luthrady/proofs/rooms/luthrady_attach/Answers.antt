use Rattle.std.proofs.Common.{◌∙◌, Bool, Err, ap, refl, subst, sym}
use Rattle.jr_word.specs.declared.fault.Fault.TheVariants.{NotFresh}
use Rattle.luthrady.specs.Behind.{with_room_of}
use Rattle.luthrady.specs.declared.handles.RoomHandle.{RoomHandle}
use Rattle.luthrady.specs.declared.held.Opened.{Opened}
use Rattle.luthrady.specs.Threads.{ByPlace, IsAttached}
use Rattle.luthrady.proofs.rooms.luthrady_attach.Goals as goal

-- src/rooms.rt
pub returns-then-not-is_room : goal.returns-then-not-is_room
returns-then-not-is_room c =
    let is = sym c.is_room.ensures.value ∙ c.if-not-is_room.true in
    let same = c.is_room.ensures.unchanged in (
      Err NotFresh,
      c.nothing_reply.ensures,
      ap (λ (x : RoomHandle). x.at) same,
      subst (λ (b : Bool). ByPlace b c.args.room.now c.is_room.new.handle (Err NotFresh)) (sym is) (refl, same),
    )

pub returns : goal.returns
returns c =
    let a = c.attach.result in
    let is = sym c.is_room.ensures.value ∙ c.if-not-is_room.false in
    let same = c.is_room.ensures.unchanged in
    let now = c.attach.new.self in
    let there = subst (λ (o : Opened). IsAttached o now a)
    (c.room_of.ensures.value ∙ ap (λ (x : RoomHandle). x.value) same) c.attach.ensures in (
      a,
      c.attached.ensures,
      ap (λ (x : RoomHandle). x.at) same,
      subst (λ (b : Bool). ByPlace b c.args.room.now (with_room_of c.is_room.new.handle now) a) (sym is) there,
    )
