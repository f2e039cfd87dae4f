use Rattle.std.proofs.Common.{ap}
use Rattle.jr_frames.specs.Table.{Table}
use Rattle.jr_scripts.proofs.Within.{did_nest}
use Rattle.jr_scripts.proofs.commands.regions.add.Goals as goal

pub returns-in-Array-clause-does : goal.returns-in-Array-clause-does
returns-in-Array-clause-does g c = did_nest g.S.Steps.facts g.met.S.Steps.fits _ _ _ _ _ c.in-Array.is c.requires
    (ap (λ (t : Table). t.frames) c.nest_array.ensures.frames) c.nest_array.ensures.call

pub returns-in-Text-clause-does : goal.returns-in-Text-clause-does
returns-in-Text-clause-does g c = did_nest g.S.Steps.facts g.met.S.Steps.fits _ _ _ _ _ c.in-Text.is c.requires
    (ap (λ (t : Table). t.frames) c.nest_string.ensures.frames) c.nest_string.ensures.call
