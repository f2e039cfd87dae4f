use Rattle.std.proofs.Common.{◌∙◌, ◌==◌, ℕ, ap, subst, sym}
use Rattle.luthrady.specs.declared.handles.EnvHandle.{EnvHandle}
use Rattle.luthrady.specs.declared.handles.RoomHandle.{RoomHandle}
use Rattle.luthrady.specs.declared.held.EnvPlace.{EnvPlace}
use Rattle.luthrady.specs.declared.held.Opened.{Opened}
use Rattle.luthrady.specs.Behind.{with_env_of, with_room_of}
use Rattle.luthrady.specs.Places.{at_place, env_mark, is_env}
use Rattle.luthrady.specs.Threads.{TakesBack}
use Rattle.luthrady.proofs.Pooling.{gone, idle_freed, stays, went}
use Rattle.luthrady.proofs.ThroughPointers.{stood}
use Rattle.luthrady.proofs.rooms.detach.Goals as goal

-- src/rooms.rt
pub returns-in-Err : goal.returns-in-Err
returns-in-Err c =
    let can = sym c.has_attached.ensures.value ∙ c.if-not-has_attached.false in
    let same = c.has_attached.ensures.unchanged in (
      ap (λ (x : RoomHandle). x.at) same,
      c.make.ensures.0,
      stays _ _ _ _ _ _ _ _ can same c.make.ensures.1 c.in-Err.is,
    )

pub take_back-requires-clause-idle : goal.take_back-requires-clause-idle
take_back-requires-clause-idle c =
    let is = sym c.is_env.ensures.value ∙ c.if-not-is_env.false in
    let there = sym c.leave.ensures.ready ∙ c.in-Some.is in
    let stands = stood _ _ _ _ is c.is_env.ensures.unchanged c.env_of.ensures.value there in
    let by = went _ c.args.handle.now c.make.new.handle _ _ c.make.ensures.1 c.in_default.is stands in
    idle_freed by.0.value.env c.in-Some.native.value.env by.2

pub returns : goal.returns
returns c =
    let can = sym c.has_attached.ensures.value ∙ c.if-not-has_attached.false in
    let same = c.has_attached.ensures.unchanged in
    let is = sym c.is_env.ensures.value ∙ c.if-not-is_env.false in
    let lent = c.env_of.ensures.value in
    let there = sym c.leave.ensures.ready ∙ c.in-Some.is in
    let by = went _ c.args.handle.now c.make.new.handle _ _ c.make.ensures.1 c.in_default.is
    (stood _ _ _ _ is c.is_env.ensures.unchanged lent there) in
    let place = ap (λ (k : ℕ). at_place c.is_env.new.handle.at (k == env_mark)) c.leave.ensures.mark
    ∙ ap (λ (x : EnvPlace). at_place c.is_env.new.handle.at (x.mark == env_mark)) lent
    ∙ ap is_env c.is_env.ensures.unchanged ∙ is in
    let takes = subst (λ (o : Opened). TakesBack o c.take_back.new.self c.in-Some.native.value c.take_back.result)
    (c.room_of.ensures.value ∙ ap (λ (x : RoomHandle). x.value) same) c.take_back.ensures in (
      ap (λ (x : RoomHandle). x.at) same,
      ap (λ (x : EnvHandle). x.at) c.is_env.ensures.unchanged ∙ c.make.ensures.0,
      gone _ _ c.args.room.now
          (with_room_of c.has_attached.new.handle c.take_back.new.self) c.args.handle.now
          (with_env_of c.is_env.new.handle c.leave.new.self) _ by.0 c.in-Some.native can by.1 by.2 place
          c.in-Some.ensures.gone takes,
    )
