use Rattle.std.proofs.Common.{ap, ◌∙◌}
use Rattle.jr_steps.specs.Knowing.{Standing}
use Rattle.jr_steps.proofs.StepFacts.{used_seen}
use Rattle.jr_heap_tests.proofs.last_words.is_overtaken.Goals as goal

pub claim_top-requires-clause-looked : goal.claim_top-requires-clause-looked
claim_top-requires-clause-looked g c =
    used_seen (g.met.S.Steps.fits c.see_top-used.new.self) (g.met.S.Steps.some_known c.args.second.now)
    (ap (λ (s : Standing). s.role) c.see_top-used.ensures.stands_is ∙ c.requires.second) c.see_top-used.ensures
