use Rattle.jr_model.proofs.Agreement.{fresh_are_sound, frames_stay_sound, frames_stay_agreed, handle_is_at_place}
use Rattle.jr_model.proofs.laws.frames_agree_with_the_machine.Goals as goal

pub returns-clause-fresh : goal.returns-clause-fresh
returns-clause-fresh c = fresh_are_sound

pub returns-clause-sound : goal.returns-clause-sound
returns-clause-sound c = frames_stay_sound

pub returns-clause-agreed : goal.returns-clause-agreed
returns-clause-agreed c = frames_stay_agreed

pub returns-clause-place : goal.returns-clause-place
returns-clause-place c = handle_is_at_place
