use Rattle.std.proofs.Common.{sym}
use Rattle.jr_scripts.proofs.perform.make_sized.Goals as goal

pub returns-in-Boolean : goal.returns-in-Boolean
returns-in-Boolean g c = rw c.in-Boolean.is (rw (sym c.of.ensures) c.ask.ensures)

pub returns-in-Byte : goal.returns-in-Byte
returns-in-Byte g c = rw c.in-Byte.is (rw (sym c.of-in-Byte.ensures) c.ask-in-Byte.ensures)

pub returns-in-Char : goal.returns-in-Char
returns-in-Char g c = rw c.in-Char.is (rw (sym c.of-in-Char.ensures) c.ask-in-Char.ensures)

pub returns-in-Short : goal.returns-in-Short
returns-in-Short g c = rw c.in-Short.is (rw (sym c.of-in-Short.ensures) c.ask-in-Short.ensures)

pub returns-in-Int : goal.returns-in-Int
returns-in-Int g c = rw c.in-Int.is (rw (sym c.of-in-Int.ensures) c.ask-in-Int.ensures)

pub returns-in-Long : goal.returns-in-Long
returns-in-Long g c = rw c.in-Long.is (rw (sym c.of-in-Long.ensures) c.ask-in-Long.ensures)
