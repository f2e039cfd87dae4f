use Rattle.std.proofs.Common.{◌≡◌, of_calls, refl, rules}
use Rattle.jr_scripts.specs.Commands.{ReadsNumber}
use Rattle.jr_scripts.specs.Numbers.{first_number, kind_numbered}
use Rattle.jr_env.specs.Deeds.{get_array_region}
use Rattle.jr_scripts.specs.declared.reply.Reply.TheVariants.{Value}
use Rattle.jr_scripts.proofs.CommandDeeds.{does_tried_form}
use Rattle.jr_scripts.proofs.Retries.{does_tried}
use Rattle.jr_scripts.proofs.commands.elements.load_as.Goals as goal

pub returns : goal.returns
returns g c =
    does_tried_form c.args.turns (λ words. Value (first_number (kind_numbered c.args.at.kind) words))
    (get_array_region (kind_numbered c.args.at.kind) c.args.at.array.0 c.args.at.index 1)
    (does_tried (λ x. x.1.held.steps) (λ x. x.1.held.frames.frames) (λ x. x.0.0.now ≡ c.args.at)
    (λ x y r s o.
    let d : ReadsNumber {S = g.row.S.Denot} {G = g.S.Steps} c.args.at x.1 y.1 r = search (rules, of_calls) in
    (d.does, search (rules, of_calls)))
    refl c.requires c.in_turns.ensures.1)
