use Rattle.std.proofs.Common.{rules, refl, sym, subst}
use Rattle.jr_steps.specs.Acts.{GateLoadFits}
use Rattle.jr_rule.proofs.ActEffects.{gate_load_role, gate_load_fresh}
use Rattle.jr_rule.proofs.GateOwed.{sees_gate}
use Rattle.jr_rule.proofs.Told.{gate_load, look_leaves, looked_so, word_read}
use Rattle.jr_rule.proofs.StepTaken.{known_any, known_in, owing, stood, took}
use Rattle.jr_rule.proofs.over.StepsOver.look.Goals as goal

pub load-found-requires-clause-owed : goal.load-found-requires-clause-owed
load-found-requires-clause-owed g c =
    let s = c.args.self.now in
    owing s refl (known_any s) (search rules) (λ k among role m.
    sees_gate k c.args.name (subst (λ r. GateLoadFits r c.args.name) (sym role) c.requires))

pub invariant_of-self : goal.invariant_of-self
invariant_of-self g c = let s = c.args.self.now in stood s refl (known_any s)
    c.load-found.ensures.there c.load-found.ensures.step (look_leaves c.args.name)

pub unwrap-requires : goal.unwrap-requires
unwrap-requires g c = let s = c.args.self.now in
    word_read c.load-found.ensures.step (known_in s refl (known_any s))
    (λ k k' done t. (t.0, t.1, t.2)) c.parts.result c.parts.ensures.complete

pub returns-clause-step : goal.returns-clause-step
returns-clause-step g c =
    let s = c.args.self.now in
    took s _ c.load-found.ensures.step refl refl _ (gate_load _ c.parts.ensures.complete _ c.unwrap.ensures c.args.name)
    (gate_load_role c.args.name c.unwrap.result s.role) (gate_load_fresh c.args.name c.unwrap.result s.fresh)

pub returns-clause-seen : goal.returns-clause-seen
returns-clause-seen g c = looked_so c.args.name c.load-found.ensures.step
    (gate_load _ c.parts.ensures.complete _ c.unwrap.ensures c.args.name)
