use Rattle.std.proofs.Common.{ℕ, Option, Result, sym, subst}
use Rattle.jr_word.specs.declared.fault.Fault.{Fault}
use Rattle.jr_model.specs.Parts.{looked_at}
use Rattle.jr_frames.specs.OverSteps.{Resolves}
use Rattle.jr_frames.proofs.Resolution.{resolves_local, resolves_remote}
use Rattle.jr_frames.proofs.resolving.look_at.Goals as goal

pub returns-then-names_local : goal.returns-then-names_local
returns-then-names_local g c = let T = g.S.Steps in let f = c.args.frames.now.frames in
    subst (λ (r : Result (Option ℕ) Fault).
    Resolves T.facts c.args.steps.now c.args.steps.now f (looked_at c.args.handle) r) (sym c.object_local.ensures)
    (resolves_local g.met.S.Steps.fits c.args.steps.now f c.args.handle c.object_of.result
    (sym c.if-names_local.ensures) c.object_of.ensures.object c.object_of.ensures.place)

pub returns-else-names_local : goal.returns-else-names_local
returns-else-names_local g c = let T = g.S.Steps in let f = c.args.frames.now.frames in
    subst (λ (r : Result (Option ℕ) Fault).
    Resolves T.facts c.args.steps.now c.look.new.steps f (looked_at c.args.handle) r) (sym c.object_found.ensures)
    (resolves_remote f c.args.handle c.look.result (sym c.if-names_local.ensures) c.look.ensures)
