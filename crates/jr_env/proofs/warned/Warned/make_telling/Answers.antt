use Rattle.std.proofs.Common.{refl, rules}
use Rattle.jr_env.proofs.Warning.{tells_words}
use Rattle.jr_env.proofs.warned.Warned.make_telling.Goals as goal

pub returns : goal.returns
returns g c = tells_words _ c.demand.result c.demand.ensures (search rules)
    (record { same_reference = refl; warner = refl; reserve = refl; acts = c.in_ok-answer.ensures.made })
    c.name-name.ensures c.warn_of_words.ensures
