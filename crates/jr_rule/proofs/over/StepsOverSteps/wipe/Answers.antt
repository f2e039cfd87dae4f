use Rattle.std.proofs.Common.{rules, refl, sym, subst, ◌<◌}
use Rattle.jr_word.specs.declared.config.Config.{Config}
use Rattle.jr_rule.proofs.CollectOwed.{wipes_slot}
use Rattle.jr_rule.proofs.Told.{wiped_some, plainly, Wiped}
use Rattle.jr_steps.specs.Knowing.{keeps}
use Rattle.jr_rule.proofs.FromMayKnow.{wipe_is}
use Rattle.jr_rule.proofs.StepTaken.{exchange_at, its_acts, leaves, owing, stood, took}
use Rattle.jr_rule.proofs.over.StepsOverSteps.wipe.Goals as goal

pub pack-looked-requires : goal.pack-looked-requires
pack-looked-requires g c = wiped_some c.args.index c.args.serial c.args.object c.requires.can

pub exchange-requires-clause-owed : goal.exchange-requires-clause-owed
exchange-requires-clause-owed g c =
    let s = c.args.self.now in
    let i = c.args.index in
    owing s c.requires.role c.requires.can (search rules) (λ k among role m.
    exchange_at k (Wiped i c.args.serial k) (sym c.slot_at-at.ensures) (sym c.pack-looked.ensures)
    (sym c.pack-cleared.ensures)
    (wipes_slot k role i c.args.serial c.args.object (subst (λ (z : Config). i < z.slots) (sym among.config)
    c.requires.row) (wipe_is k i c.args.serial c.args.object m)))

pub invariant_of-self : goal.invariant_of-self
invariant_of-self g c = let s = c.args.self.now in stood s c.requires.role c.requires.can
    c.exchange.ensures.there c.exchange.ensures.step (leaves (plainly (λ k k' done t. t)) (λ k. refl) (λ k. refl))

pub returns-clause-step : goal.returns-clause-step
returns-clause-step g c = let s = c.args.self.now in
    took s _ c.exchange.ensures.step refl c.requires.role _ (plainly (λ k k' done t. t)) refl refl

pub returns-clause-seen : goal.returns-clause-seen
returns-clause-seen g c = let s = c.args.self.now in c.exchange.ensures.seen _ (its_acts
    {told = Wiped c.args.index c.args.serial} {n = c.exchange.result} {shows = keeps} (plainly (λ k k' done t. t)))
