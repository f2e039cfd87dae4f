use Rattle.std.proofs.Common.{◌≡◌, ◌+◌, ℕ, rules, refl, sym, ◌∙◌, arith}
use Rattle.jr_steps.specs.declared.loads.GateLoad.TheVariants as gate
use Rattle.jr_rule.proofs.ActEffects.{gate_load_role, gate_load_fresh}
use Rattle.jr_rule.proofs.GateOwed.{announces_shut}
use Rattle.jr_rule.proofs.Told.{Announced, announced, announcement_lost, lost_leaves, word_read}
use Rattle.jr_rule.proofs.StepTaken.{exchange_at, its_acts, known_any, known_in, leaves, owing, stood, took}
use Rattle.jr_rule.proofs.over.StepsOverSteps.announce.Goals as goal

-- the word of an open gate is its count
open_is : {word count : ℕ} → word ≡ count + 0 → word ≡ count
open_is e = omega (arith, e)

pub exchange-found-requires-clause-owed : goal.exchange-found-requires-clause-owed
exchange-found-requires-clause-owed g c =
    let s = c.args.self.now in
    owing s c.requires (known_any s) (search rules) (λ k among role m.
    exchange_at k (Announced c.args.looked k) refl (sym (open_is c.pack-open.ensures)) (sym c.pack-announced.ensures)
    (announces_shut k c.args.looked (search rules) role))

pub invariant_of-self : goal.invariant_of-self
invariant_of-self g c = let s = c.args.self.now in stood s c.requires (known_any s)
    c.exchange-found.ensures.there c.exchange-found.ensures.step (lost_leaves c.args.looked (λ e. c.if-found-open.true
    (e ∙ sym (open_is c.pack-open.ensures))))

pub unwrap-requires : goal.unwrap-requires
unwrap-requires g c = let s = c.args.self.now in
    word_read c.exchange-found.ensures.step (known_in s c.requires (known_any s))
    (λ k k' done t. let u = t.1 (λ e. c.if-found-open.true (e ∙ sym (open_is c.pack-open.ensures))) in (u.0, u.1, u.2))
    c.parts.result c.parts.ensures.complete

pub returns-then-found-open-clause-step : goal.returns-then-found-open-clause-step
returns-then-found-open-clause-step g c =
    let s = c.args.self.now in
    took s _ c.exchange-found.ensures.step refl c.requires _ (announcement_lost _ c.parts.ensures.complete _
    c.unwrap.ensures c.args.looked (λ e. c.if-found-open.true (e ∙ sym (open_is c.pack-open.ensures))))
    (gate_load_role gate.Busy c.unwrap.result s.role) (gate_load_fresh gate.Busy c.unwrap.result s.fresh)

pub returns-then-found-open-clause-seen : goal.returns-then-found-open-clause-seen
returns-then-found-open-clause-seen g c =
    let s = c.args.self.now in
    c.exchange-found.ensures.seen _ (its_acts (announcement_lost _ c.parts.ensures.complete _ c.unwrap.ensures
    c.args.looked (λ e. c.if-found-open.true (e ∙ sym (open_is c.pack-open.ensures)))))

pub invariant_of-self-2 : goal.invariant_of-self-2
invariant_of-self-2 g c = let s = c.args.self.now in stood s c.requires (known_any s)
    c.exchange-found.ensures.there c.exchange-found.ensures.step (leaves (announced c.args.looked (c.if-found-open.false
    ∙ open_is c.pack-open.ensures)) (λ k. refl) (λ k. refl))

pub returns-clause-step : goal.returns-clause-step
returns-clause-step g c = let s = c.args.self.now in took s _ c.exchange-found.ensures.step refl c.requires _
    (announced c.args.looked (c.if-found-open.false ∙ open_is c.pack-open.ensures)) refl refl

pub returns-clause-seen : goal.returns-clause-seen
returns-clause-seen g c = let s = c.args.self.now in c.exchange-found.ensures.seen _
    (its_acts (announced c.args.looked (c.if-found-open.false ∙ open_is c.pack-open.ensures)))
