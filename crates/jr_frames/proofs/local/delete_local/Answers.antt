use Rattle.std.proofs.Common.{sym, ◌∙◌}
use Rattle.jr_frames.proofs.DeletingLocal.{removes_local, local_other, local_outside, local_foreign, local_absent}
use Rattle.jr_frames.proofs.local.delete_local.Goals as goal

pub returns-then-not-names_local-clause-call : goal.returns-then-not-names_local-clause-call
returns-then-not-names_local-clause-call g c = let s = (g.S.Steps.facts c.args.steps.now).stands in
    local_other g.met.S.Steps.fits c.args.steps.now c.args.frames.now.frames s.config s.thread c.args.handle (cc)

pub returns-then-lies_outside-clause-call : goal.returns-then-lies_outside-clause-call
returns-then-lies_outside-clause-call g c = let s = (g.S.Steps.facts c.args.steps.now).stands in
    local_outside g.met.S.Steps.fits c.args.steps.now c.args.frames.now.frames s.config s.thread c.args.handle (cc) (cc)

pub returns-then-belongs_elsewhere-clause-call : goal.returns-then-belongs_elsewhere-clause-call
returns-then-belongs_elsewhere-clause-call g c = let s = (g.S.Steps.facts c.args.steps.now).stands in
    local_foreign g.met.S.Steps.fits c.args.steps.now c.args.frames.now.frames s.config s.thread c.args.handle (cc) (cc)
    (cc)

pub returns-in_default-clause-call : goal.returns-in_default-clause-call
returns-in_default-clause-call g c = let s = (g.S.Steps.facts c.args.steps.now).stands in
    local_absent g.met.S.Steps.fits c.args.steps.now c.args.frames.now.frames s.config s.thread c.args.handle (cc) (cc)
    (cc) (sym c.in_default.is ∙ c.object_of.ensures.object)

pub put_local-requires-clause-object : goal.put_local-requires-clause-object
put_local-requires-clause-object g c = g.met.S.Steps.some_known c.args.steps.now

pub returns-clause-call : goal.returns-clause-call
returns-clause-call g c = let s = (g.S.Steps.facts c.args.steps.now).stands in
    removes_local g.met.S.Steps.fits s.config s.thread c.args.handle c.in-Some.field-0 (cc) (cc) (cc)
    (sym c.in-Some.is ∙ c.object_of.ensures.object) c.put_local.ensures c.delete.ensures.deleted c.delete.ensures.only
