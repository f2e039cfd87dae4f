use Rattle.std.proofs.Common.{ap, map, refl}
use Rattle.jr_word.specs.declared.kind.Kind.TheVariants.{Plain}
use Rattle.jr_env.specs.Deeds.{read_answer}
use Rattle.jr_stressed.proofs.Begun.{handed, refused_first}
use Rattle.jr_stressed.proofs.stressed.StressedNativeCaller.copy_part.Goals as goal

pub returns-in_err-begin-clause-call : goal.returns-in_err-begin-clause-call
returns-in_err-begin-clause-call g c = refused_first (λ a. (Plain, 0, refl)) c.in_err-begin.ensures.begun
    c.in_err-begin.ensures.listed (ap (λ r. read_answer r (map g.E.Elem.word_of c.args.elements.now))
    (handed c.from_residual.result c.from_residual.ensures.1))
