use Rattle.std.proofs.Common.{◌≡◌, ℕ, sym, ap, subst, ◌∙◌}
use Rattle.jr_steps.proofs.StepFacts.{took_less}
use Rattle.jr_steps.specs.declared.known.Known.{Known}
use Rattle.jr_rule.specs.Passes.{Holder, known_of}
use Rattle.jr_rule.specs.Rooms.{holder_over, CountsInside}
use Rattle.jr_rule.specs.Rule.{joints_at, stepping_pass}
use Rattle.jr_rule.proofs.GateSteps.{counted_after}
use Rattle.jr_rule.proofs.PassOver.{stays_of, took_there}
use Rattle.jr_rule.proofs.room.Room.look.Goals as goal

pub returns-clause-step : goal.returns-clause-step
returns-clause-step g c = took_there holder_over c.new-steps.ensures.pass (sym c.into_pass.ensures.pass)
    (took_less (λ k new s. s.1) c.look.ensures.step)

pub returns-clause-room : goal.returns-clause-room
returns-clause-room g c =
    stays_of c.args.self.now.row c.args.pass c.into_pass.result (returns-clause-step g c) c.requires

pub returns-clause-seen : goal.returns-clause-seen
returns-clause-seen g c =
    let first = ap (λ (h : Holder). stepping_pass h.seat.me) c.new-steps.ensures.pass in
    let role = ap (λ (h : Holder). h.role) c.new-steps.ensures.pass in
    let s = c.look.ensures.seen (known_of c.args.pass) (record {
      is = sym first;
      config = ap (λ (k : Known). k.config) (sym first);
      last = ap (λ (k : Known). k.last) (sym first);
      thread = ap (λ (k : Known). k.thread) (sym first);
    }) (c.args.pass.held.role_is ∙ sym role) in
    let last : s.0 ≡ known_of c.into_pass.result =
    s.1.is ∙ ap (λ (h : Holder). stepping_pass h.seat.me) (sym c.into_pass.ensures.pass) in
    subst (λ k. CountsInside (known_of c.args.pass) k c.all_counted-inside.result) last
    (record { goes = s.2; is = c.all_counted-inside.ensures ∙ counted_after _ s.2 s.3 })

pub returns-clause-counted : goal.returns-clause-counted
returns-clause-counted g c =
    let count : Holder → ℕ = λ h. joints_at h.seat.me in
    ap count c.into_pass.ensures.pass ∙ (c.look.ensures.counted ∙ ap count c.new-steps.ensures.pass)
