use Rattle.std.proofs.Common.{[], ◌∷◌, sym, subst}
use Rattle.jr_model.specs.declared.event.Act.TheVariants.{Look}
use Rattle.jr_steps.specs.Knowing.{anything, keeps, ShowsSlot, Took}
use Rattle.jr_steps.proofs.StepFacts.{took_less}
use Rattle.jr_row.proofs.looking.look.Goals as goal

pub returns : goal.returns
returns g c = took_less (λ k k' z. z.1)
    (subst (λ r. Took g.S.Steps.facts c.args.steps.now c.see_slot-word.new.self (Look c.args.handle r ∷ []) anything
    (λ j k. ShowsSlot c.args.handle.index c.see_slot-word.result k × keeps j k)) (sym c.found.ensures)
    c.see_slot-word.ensures)
