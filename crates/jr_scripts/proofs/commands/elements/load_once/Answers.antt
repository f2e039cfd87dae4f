use Rattle.jr_scripts.proofs.commands.elements.load_once.Goals as goal

pub returns-in-Boolean : goal.returns-in-Boolean
returns-in-Boolean g c = record { does = rw c.in-Boolean.is c.read_number.ensures }

pub returns-in-Byte : goal.returns-in-Byte
returns-in-Byte g c = record { does = rw c.in-Byte.is c.read_number-in-Byte.ensures }

pub returns-in-Char : goal.returns-in-Char
returns-in-Char g c = record { does = rw c.in-Char.is c.read_number-in-Char.ensures }

pub returns-in-Short : goal.returns-in-Short
returns-in-Short g c = record { does = rw c.in-Short.is c.read_number-in-Short.ensures }

pub returns-in-Int : goal.returns-in-Int
returns-in-Int g c = record { does = rw c.in-Int.is c.read_number-in-Int.ensures }

pub returns-in-Long : goal.returns-in-Long
returns-in-Long g c = record { does = rw c.in-Long.is c.read_number-in-Long.ensures }
