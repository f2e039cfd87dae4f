use Rattle.std.proofs.Common.{sym, subst, ◌∙◌}
use Rattle.jr_frames.specs.declared.explaining.Told.{Told}
use Rattle.jr_frames.specs.Explaining.{TellsHandle}
use Rattle.jr_frames.proofs.Resolution.ToldWords.{is_shared, tells_local, tells_slot}
use Rattle.jr_frames.proofs.explaining.tell.Goals as goal

pub returns-then-names_local : goal.returns-then-names_local
returns-then-names_local g c = let T = g.S.Steps in let f = c.args.frames.now.frames in
    subst (λ (x : Told). TellsHandle T.facts c.args.steps.now c.args.steps.now f c.args.handle x)
    (sym c.told_by_place.ensures)
    (tells_local g.met.S.Steps.fits c.args.steps.now f c.args.handle c.object_of.result c.has_given.result
    (sym c.names_local.ensures ∙ c.if-names_local.true) c.requires.bounds c.object_of.ensures.object
    c.object_of.ensures.place c.has_given.ensures)

pub returns : goal.returns
returns g c = let T = g.S.Steps in let f = c.args.frames.now.frames in
    let shared = sym c.names_local.ensures ∙ c.if-names_local.false in
    subst (λ (x : Told). TellsHandle T.facts c.args.steps.now c.see_slot-word.new.self f c.args.handle x)
    (sym c.told_by_slot.ensures)
    (tells_slot g.met.S.Steps.fits f c.args.handle c.see_slot-word.result shared
    (c.requires.owner (is_shared c.args.handle shared)) c.requires.bounds c.see_slot-word.ensures)
