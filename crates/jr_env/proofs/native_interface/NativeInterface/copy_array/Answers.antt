use Rattle.std.proofs.Common.{inl}
use Rattle.jr_env.proofs.native_interface.NativeInterface.copy_array.Goals as goal

pub returns-clause-call : goal.returns-clause-call
returns-clause-call g c = inl (c.copy_part.new.self, c.in_ok-copy_part.ensures.call, c.make.ensures)
