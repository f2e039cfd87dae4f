use Rattle.std.proofs.Common.{None, refl, ◌∙◌}
use Rattle.jr_frames.specs.declared.explaining.Explanation.TheVariants as explained
use Rattle.jr_frames.specs.declared.explaining.Told.TheVariants as told
use Rattle.jr_frames.proofs.Resolution.ToldWords.{explains_object, explains_told, may_look_at, tells_as}
use Rattle.jr_frames.proofs.explaining.explain_own.Goals as goal

pub header-header-requires-clause-object : goal.header-header-requires-clause-object
header-header-requires-clause-object g c =
    may_look_at (tells_as c.in-Object.is c.tell.ensures) c.requires.ready.own.agrees

pub returns-in-Object : goal.returns-in-Object
returns-in-Object g c =
    explains_object g.met.S.Steps.fits c.args.frames.now.frames c.args.handle c.in-Object.object c.header-header.result
    c.requires.bounds c.requires.own (c.tell.ensures.stands_is.role ∙ c.requires.ready.role_is)
    (tells_as c.in-Object.is c.tell.ensures) c.header-header.ensures.stands
    c.header-header.ensures.call

pub returns-in-Cleared : goal.returns-in-Cleared
returns-in-Cleared g c = explains_told g.met.S.Steps.fits c.args.frames.now.frames c.args.handle told.Cleared
    (explained.Standing c.args.handle.kind None) c.requires.bounds c.requires.own (λ s so. (refl, so))
    (tells_as c.in-Cleared.is c.tell.ensures)

pub returns-in-OtherKind : goal.returns-in-OtherKind
returns-in-OtherKind g c = explains_told g.met.S.Steps.fits c.args.frames.now.frames c.args.handle told.OtherKind
    explained.OtherKind c.requires.bounds c.requires.own (λ s so. so) (tells_as c.in-OtherKind.is c.tell.ensures)

pub returns-in-Gone : goal.returns-in-Gone
returns-in-Gone g c = explains_told g.met.S.Steps.fits c.args.frames.now.frames c.args.handle told.Gone explained.Gone
    c.requires.bounds c.requires.own (λ s so. so) (tells_as c.in-Gone.is c.tell.ensures)

pub returns-in-NotGiven : goal.returns-in-NotGiven
returns-in-NotGiven g c = explains_told g.met.S.Steps.fits c.args.frames.now.frames c.args.handle told.NotGiven
    explained.NotGiven c.requires.bounds c.requires.own (λ s so. so) (tells_as c.in-NotGiven.is c.tell.ensures)
