-- A script has no more commands than lines.
use Rattle.jrefs.proofs.CommandCount.{few_commands}
use Rattle.jrefs.proofs.check.check_of.Goals as goal

pub commands_in-commands-requires : goal.commands_in-commands-requires
commands_in-commands-requires c =
    rw c.as_slice-threads.ensures (few_commands c.in_ok-script.script c.in_ok-script.ensures.read.0)
