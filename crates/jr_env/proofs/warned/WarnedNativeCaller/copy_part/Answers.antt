use Rattle.std.proofs.Common.{refl, rules}
use Rattle.jr_word.specs.declared.kind.Kind.TheVariants.{Plain}
use Rattle.jr_env.specs.declared.demand.Demand.TheVariants.{Nothing}
use Rattle.jr_env.proofs.Warning.{tells_locals}
use Rattle.jr_env.proofs.warned.WarnedNativeCaller.copy_part.Goals as goal

pub returns-clause-call : goal.returns-clause-call
returns-clause-call g c = tells_locals _ (record {
  demand = Nothing;
  asked = λ a. (Plain, 0, refl);
  made = record { same_reference = refl; warner = refl; reserve = refl; acts = c.copy_part-answer.ensures.call };
}) (search rules) c.locals_left-before.ensures c.warn_of_locals.ensures
