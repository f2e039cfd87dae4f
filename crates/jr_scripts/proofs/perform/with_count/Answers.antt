use Rattle.std.proofs.Common.{◌≡◌, rules, of_calls, refl}
use Rattle.jr_env.proofs.Carrying.{did_answer, did_refuse}
use Rattle.jr_scripts.specs.declared.reply.Reply.TheVariants.{Done}
use Rattle.jr_scripts.proofs.Retries.{does_tried}
use Rattle.jr_scripts.proofs.perform.with_count.Goals as goal

pub returns-in_err-pushed-in-Push : goal.returns-in_err-pushed-in-Push
returns-in_err-pushed-in-Push g c = rw c.in-Push.is
    (did_refuse (λ _. Done) c.from_residual.result c.from_residual.ensures.1
    (does_tried (λ x. x.1.held.steps) (λ x. x.1.held.frames.frames) (λ x. x.0.0.now ≡ c.args.count)
    (λ x y r s o. search (rules, of_calls)) refl c.requires c.in_err-pushed-in-Push.ensures.1))

pub returns-in_ok-pushed-in-Push : goal.returns-in_ok-pushed-in-Push
returns-in_ok-pushed-in-Push g c = rw c.in-Push.is (did_answer (λ _. Done) c.into_reply.ensures
    (does_tried (λ x. x.1.held.steps) (λ x. x.1.held.frames.frames) (λ x. x.0.0.now ≡ c.args.count)
    (λ x y r s o. search (rules, of_calls)) refl c.requires c.in_ok-pushed-in-Push.ensures.1))

pub returns-in_err-ensured-in-Ensure : goal.returns-in_err-ensured-in-Ensure
returns-in_err-ensured-in-Ensure g c = rw c.in-Ensure.is
    (did_refuse (λ _. Done) c.from_residual-in_err-ensured-in-Ensure.result
    c.from_residual-in_err-ensured-in-Ensure.ensures.1
    (does_tried (λ x. x.1.held.steps) (λ x. x.1.held.frames.frames) (λ x. x.0.0.now ≡ c.args.count)
    (λ x y r s o. search (rules, of_calls)) refl c.requires c.in_err-ensured-in-Ensure.ensures.1))

pub returns-in_ok-ensured-in-Ensure : goal.returns-in_ok-ensured-in-Ensure
returns-in_ok-ensured-in-Ensure g c = rw c.in-Ensure.is (did_answer (λ _. Done) c.into_reply-in-Ensure.ensures
    (does_tried (λ x. x.1.held.steps) (λ x. x.1.held.frames.frames) (λ x. x.0.0.now ≡ c.args.count)
    (λ x y r s o. search (rules, of_calls)) refl c.requires c.in_ok-ensured-in-Ensure.ensures.1))
