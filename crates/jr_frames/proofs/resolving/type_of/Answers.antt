use Rattle.std.proofs.Common.{Ok, sym, subst}
use Rattle.jr_frames.specs.Reading.{word_of}
use Rattle.jr_model.specs.References.{typing}
use Rattle.jr_frames.specs.OverSteps.{Calls}
use Rattle.jr_frames.specs.declared.reference.Reference.{Reference}
use Rattle.jr_frames.proofs.Resolution.{types_void}
use Rattle.jr_frames.proofs.resolving.type_of.Goals as goal

pub returns-in-Null : goal.returns-in-Null
returns-in-Null g c = let s = (g.S.Steps.facts c.args.steps.now).stands in types_void g.met.S.Steps.fits
    c.args.steps.now c.args.frames.now.frames s.config s.thread c.args.reference c.in-Null.is

pub returns-in-Parts : goal.returns-in-Parts
returns-in-Parts g c = let T = g.S.Steps in let s = (T.facts c.args.steps.now).stands in
    let f = c.args.frames.now.frames in
    subst (λ (r : Reference). Calls T.facts c.args.steps.now c.type_of_parts.new.steps f f
    (typing s.config s.thread (word_of r)) (Ok c.type_of_parts.result)) (sym c.in-Parts.is) c.type_of_parts.ensures
