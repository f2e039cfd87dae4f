use Rattle.std.proofs.Common.{ap, ◌≡◌, ◌∙◌, rules, to_z, of_z, w64, length}
use Rattle.jr_scripts.specs.Numbers.{first_number}
use Rattle.jr_scripts.specs.declared.reply.Reply.TheVariants.{Value}
use Rattle.jr_env.proofs.EnvCalls.{does_answer, does_refuse}
use Rattle.jr_scripts.proofs.CommandDeeds.{does_read_one, number_of_one}
use Rattle.jr_scripts.proofs.commands.elements.read_number.Goals as goal

pub returns-in_err-get_array_region : goal.returns-in_err-get_array_region
returns-in_err-get_array_region g c =
    does_refuse (λ words. Value (first_number g.E.Elem.KIND words)) c.from_residual.result c.from_residual.ensures.1
    (does_read_one g.E.Elem.KIND c.args.array.0 c.args.index _ c.requires c.in_err-get_array_region.ensures.call)

pub returns : goal.returns
returns g c =
    let back : to_z w64 (of_z w64 c.to_number.result) ≡ c.to_number.result = search rules in
    let one : length c.get_array_region.new.elements ≡ 1 = c.in_ok-get_array_region.ensures.size ∙ c.requires in
    does_answer (λ words. Value (first_number g.E.Elem.KIND words)) (ap (λ z. Value z) (back ∙ (c.to_number.ensures
    ∙ number_of_one g.E.Elem.KIND g.E.Elem.word_of c.get_array_region.new.elements c.index-elements-0.result one
    (search rules))))
    (does_read_one g.E.Elem.KIND c.args.array.0 c.args.index _ c.requires c.in_ok-get_array_region.ensures.call)
