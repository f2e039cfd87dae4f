use Rattle.std.proofs.Common.{◌≡◌, rules, sym, to_z, of_z, w8, w16, w32, w64}
use Rattle.jr_scripts.proofs.commands.elements.store_as.Goals as goal

pub returns-in-Boolean : goal.returns-in-Boolean
returns-in-Boolean g c = rw c.in-Boolean.is c.ask.ensures

pub returns-in-Byte : goal.returns-in-Byte
returns-in-Byte g c =
    let back : to_z w8 (of_z w8 c.in-Byte.element) ≡ c.in-Byte.element = search rules in
    rw c.in-Byte.is (rw (sym back) c.ask-in-Byte.ensures)

pub returns-in-Char : goal.returns-in-Char
returns-in-Char g c = rw c.in-Char.is c.ask-in-Char.ensures

pub returns-in-Short : goal.returns-in-Short
returns-in-Short g c =
    let back : to_z w16 (of_z w16 c.in-Short.element) ≡ c.in-Short.element = search rules in
    rw c.in-Short.is (rw (sym back) c.ask-in-Short.ensures)

pub returns-in-Int : goal.returns-in-Int
returns-in-Int g c =
    let back : to_z w32 (of_z w32 c.in-Int.element) ≡ c.in-Int.element = search rules in
    rw c.in-Int.is (rw (sym back) c.ask-in-Int.ensures)

pub returns-in-Long : goal.returns-in-Long
returns-in-Long g c =
    let back : to_z w64 (of_z w64 c.in-Long.element) ≡ c.in-Long.element = search rules in
    rw c.in-Long.is (rw (sym back) c.ask-in-Long.ensures)
