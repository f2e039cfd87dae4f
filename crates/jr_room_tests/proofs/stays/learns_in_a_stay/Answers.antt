use Rattle.std.proofs.Common.{◌≡◌, ◌∷◌, [], true, ap, subst, ◌∙◌}
use Rattle.jr_model.specs.declared.event.Role.TheVariants.{Within}
use Rattle.jr_model.specs.History.{role_from}
use Rattle.jr_model.specs.OpenStays.{HasStayed}
use Rattle.jr_steps.specs.Acts.{act_of_entry, act_of_exit}
use Rattle.jr_steps.specs.Knowing.{Goes, Standing, view}
use Rattle.jr_steps.proofs.StepFacts.{goes_did, goes_stepped}
use Rattle.jr_rule.specs.Rule.{stepping_pass}
use Rattle.jr_room_tests.proofs.stays.learns_in_a_stay.Goals as goal

pub returns : goal.returns
returns c was =
    let law = c.open_stays_exclude_collections.ensures in
    let first = stepping_pass c.args.steps.now.cells.seat.me in
    let second = stepping_pass c.go_in.new.self.cells.seat.me in
    let third = stepping_pass c.learn.new.self.cells.seat.me in
    let fourth = stepping_pass c.go_out-2.new.self.cells.seat.me in
    let came : c.go_in.result ≡ true = c.if-not-go_in.false in
    let entered : HasStayed (view first) (view second) = record {
      acts = [];
      did = goes_did (subst (λ b. Goes first (act_of_entry b ∷ []) second) came c.go_in.ensures.seen);
      stays = tt;
    } in
    let learned = law.goes (view first) (view second) (view third) entered [] (goes_did c.learn.ensures.seen) tt in
    let within : c.learn.new.self.role ≡ Within = ap (λ (s : Standing). s.role) c.learn.ensures.step.stands_is
    ∙ (ap (λ (s : Standing). s.role) c.go_in.ensures.step.stands_is
    ∙ ap (λ b. role_from c.args.steps.now.role (act_of_entry b ∷ [])) came) in
    law.left (view first) (view third) (view fourth) learned.0
    (goes_stepped (subst (λ r. Goes third (act_of_exit r ∷ []) fourth) within c.go_out-2.ensures.seen))
