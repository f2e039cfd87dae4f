use Rattle.std.proofs.Common.{subst, sym}
use Rattle.jr_critical.specs.Levels.{NestsOver}
use Rattle.jr_env.specs.declared.levels_beside.First.{First}
use Rattle.jr_env.specs.Retried.{first_word}
use Rattle.luthrady.specs.KeptRegions.{adding_first}
use Rattle.luthrady.proofs.in_region.nest_by.Goals as goal

-- src/in_region.rt
pub returns-in-Array-clause-call : goal.returns-in-Array-clause-call
returns-in-Array-clause-call c = subst (λ (first : First). NestsOver c.args.native.now.env.held
    c.nest_array.new.env.held (first_word first) (adding_first first) c.args.levels.now c.nest_array.new.levels
    c.nest_array.result) (sym c.in-Array.is) c.nest_array.ensures.call

pub returns-in-Text-clause-call : goal.returns-in-Text-clause-call
returns-in-Text-clause-call c = subst (λ (first : First). NestsOver c.args.native.now.env.held
    c.nest_string.new.env.held (first_word first) (adding_first first) c.args.levels.now c.nest_string.new.levels
    c.nest_string.result) (sym c.in-Text.is) c.nest_string.ensures.call
