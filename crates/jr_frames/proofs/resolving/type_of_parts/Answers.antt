use Rattle.std.proofs.Common.{ℕ, Ok, sym, subst}
use Rattle.jr_model.specs.Checks.{Parts, is_out_of_bounds, is_foreign}
use Rattle.jr_model.specs.Parts.{type_at}
use Rattle.jr_model.specs.References.{typing}
use Rattle.jr_frames.specs.OverSteps.{Calls}
use Rattle.jr_frames.proofs.Reading.{either_first, either_second}
use Rattle.jr_frames.proofs.Resolution.{types_none, types_local, types_some, types_remote}
use Rattle.jr_frames.proofs.resolving.type_of_parts.Goals as goal

pub returns-then-lies_outside : goal.returns-then-lies_outside
returns-then-lies_outside g c = let s = (g.S.Steps.facts c.args.steps.now).stands in let h = c.args.handle in
    types_none g.met.S.Steps.fits c.args.steps.now c.args.frames.now.frames (is_out_of_bounds s.config (Parts h))
    (is_foreign s.thread (Parts h)) (type_at (Parts h))
    (either_first (is_out_of_bounds s.config (Parts h)) (is_foreign s.thread (Parts h)) (cc))

pub returns-then-belongs_elsewhere : goal.returns-then-belongs_elsewhere
returns-then-belongs_elsewhere g c = let s = (g.S.Steps.facts c.args.steps.now).stands in let h = c.args.handle in
    types_none g.met.S.Steps.fits c.args.steps.now c.args.frames.now.frames (is_out_of_bounds s.config (Parts h))
    (is_foreign s.thread (Parts h)) (type_at (Parts h))
    (either_second (is_out_of_bounds s.config (Parts h)) (is_foreign s.thread (Parts h)) (cc))

pub returns-then-names_local : goal.returns-then-names_local
returns-then-names_local g c = let T = g.S.Steps in let s = (T.facts c.args.steps.now).stands in
    let f = c.args.frames.now.frames in let h = c.args.handle in
    types_some (is_out_of_bounds s.config (Parts h)) (is_foreign s.thread (Parts h)) (type_at (Parts h)) (cc) (cc)
    (types_local g.met.S.Steps.fits c.args.steps.now f h c.object_of.result c.type_of_local.result (cc)
    c.object_of.ensures.object c.type_of_local.ensures)

pub returns-else-names_local : goal.returns-else-names_local
returns-else-names_local g c = let T = g.S.Steps in let s = (T.facts c.args.steps.now).stands in
    let f = c.args.frames.now.frames in let h = c.args.handle in
    subst (λ (n : ℕ). Calls T.facts c.args.steps.now c.look.new.steps f f (typing s.config s.thread (Parts h)) (Ok n))
    (sym c.type_of_found.ensures)
    (types_some (is_out_of_bounds s.config (Parts h)) (is_foreign s.thread (Parts h)) (type_at (Parts h)) (cc) (cc)
    (types_remote f h c.look.result (cc) c.look.ensures))
