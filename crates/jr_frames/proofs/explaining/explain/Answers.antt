use Rattle.std.proofs.Common.{refl, sym, subst}
use Rattle.jr_model.specs.Checks.{Malformed, Nothing}
use Rattle.jr_frames.specs.declared.explaining.Explanation.TheVariants as explained
use Rattle.jr_frames.specs.declared.reference.Reference.{Reference}
use Rattle.jr_frames.specs.Explaining.{ExplainsWord, malformed, null}
use Rattle.jr_frames.specs.Reading.{word_of}
use Rattle.jr_frames.proofs.Resolution.ToldWords.{explains_none}
use Rattle.jr_frames.proofs.explaining.explain.Goals as goal

pub returns-in-Null : goal.returns-in-Null
returns-in-Null g c = let T = g.S.Steps in let f = c.args.frames.now.frames in
    subst (λ (r : Reference). ExplainsWord T.facts c.args.steps.now c.args.steps.now f (word_of r) explained.Null)
    (sym c.in-Null.is)
    (explains_none g.met.S.Steps.fits c.args.steps.now f Nothing explained.Null refl (λ s. null))

pub returns-in-Malformed : goal.returns-in-Malformed
returns-in-Malformed g c = let T = g.S.Steps in let f = c.args.frames.now.frames in
    subst (λ (r : Reference). ExplainsWord T.facts c.args.steps.now c.args.steps.now f (word_of r) explained.Malformed)
    (sym c.in-Malformed.is)
    (explains_none g.met.S.Steps.fits c.args.steps.now f Malformed explained.Malformed refl (λ s. malformed))

pub returns-in-Parts : goal.returns-in-Parts
returns-in-Parts g c = let T = g.S.Steps in let f = c.args.frames.now.frames in
    subst (λ (r : Reference). ExplainsWord T.facts c.args.steps.now c.explain_parts.new.steps f (word_of r)
    c.explain_parts.result) (sym c.in-Parts.is) c.explain_parts.ensures
