use Rattle.std.proofs.Common.{subst, sym}
use Rattle.jr_critical.specs.Levels.{StandOver}
use Rattle.jr_env.specs.Retried.{first_word}
use Rattle.luthrady.specs.KeptRegions.{adding_first}
use Rattle.luthrady.specs.declared.held.Native.{Native}
use Rattle.luthrady.proofs.KeepingRegions.{added_by}
use Rattle.luthrady.proofs.held.InRegion.nested.Goals as goal

-- src/held.rt
pub nest_by-answer-requires : goal.nest_by-answer-requires
nest_by-answer-requires c = subst (λ (n : Native). StandOver c.args.self.levels n.env.held)
    (sym c.deref_mut.ensures.value) c.args.self.stand

pub returns : goal.returns
returns c = added_by (adding_first c.args.first) (first_word c.args.first) c.args.self _ _ _
    c.deref_mut.ensures.value c.nest_by-answer.ensures.call c.nest_by-answer.ensures.region
    c.nest_by-answer.ensures.frames c.nest_by-answer.ensures.marker c.nest_by-answer.ensures.added
    c.nest_by-answer.ensures.err
