use Rattle.std.proofs.Common.{◌∙◌, Some, None, ap, sym}
use Rattle.jr_scripts.specs.Names.{word_of_reference}
use Rattle.jr_scripts.proofs.NameMaps.{stands_as}
use Rattle.jr_scripts.proofs.names.Names.word.Goals as goal

pub returns-in-Some : goal.returns-in-Some
returns-in-Some c = c.word.ensures ∙ ap word_of_reference (sym (stands_as c.self.inside.bindings.entries c.args.self.now
    c.args.name.now c.self.view_is (Some c.in-Some.binding.now) (sym c.in-Some.ensures.value)))

pub returns-in-None : goal.returns-in-None
returns-in-None c = ap word_of_reference (sym (stands_as c.self.inside.bindings.entries c.args.self.now c.args.name.now
    c.self.view_is None (sym c.in-None.ensures.value)))
