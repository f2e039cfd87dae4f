-- A call that enters no gate is played at any moment.
use Rattle.jr_word.specs.declared.kind.Kind.TheVariants.{Plain}
use Rattle.jr_model.specs.Programs.{nothing}
use Rattle.jr_model.specs.Programs.Ending.{asks_room, pushes}
use Rattle.jr_model.specs.Programs.Program.{ends}
use Rattle.jr_world.specs.Playing.{AnsweredBy, OutsidePlays}
use Rattle.jr_world.proofs.EndedCalls.{call_ends}
use Rattle.jr_world.proofs.FramePlays.{frame_pushed}
use Rattle.jr_world.proofs.LocalPlays.{room_asked}

pub calls_outside_play : OutsidePlays
calls_outside_play c last whole old new past f g n a (ends (asks_room m)) words numbers from answer behind lies come
    none apt r = call_ends c last whole old new past f g nothing answer behind lies come r
    (room_asked c last whole old.thread m (AnsweredBy nothing answer) past f g r.acts answer behind
    (λ now x goes so. so) (apt Plain) r.is)
calls_outside_play c last whole old new past f g n a (ends (pushes m)) words numbers from answer behind lies come
    none apt r = call_ends c last whole old new past f g nothing answer behind lies come r
    (frame_pushed c last whole old.thread lies.small m (AnsweredBy nothing answer) past f g r.acts answer behind
    (λ now x goes so. so) (apt Plain) r.is)
calls_outside_play c last whole old new past f g n a p words numbers from answer behind lies come none apt r =
    absurd none
