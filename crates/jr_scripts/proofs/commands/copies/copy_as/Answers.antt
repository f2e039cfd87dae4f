use Rattle.std.proofs.Common.{refl, w8, w16, w32, w64}
use Rattle.jr_word.specs.Elem.{bool_word, signed_word}
use Rattle.jr_word.specs.declared.kind.Kind.TheVariants.{Boolean, Byte, Char, Short, Int, Long}
use Rattle.jr_scripts.specs.declared.buffer.CopiedElements.TheVariants as elements
use Rattle.jr_scripts.proofs.CopyDeeds.{does_copied}
use Rattle.jr_scripts.proofs.commands.copies.copy_as.Goals as goal

pub returns-in-Boolean : goal.returns-in-Boolean
returns-in-Boolean g c = rw c.in-Boolean.is
    (does_copied c.args.turns c.args.array.0 Boolean bool_word (λ vs. elements.Boolean vs) (λ vs. refl)
    c.copy_elements.result c.map.result c.copied.result c.copy_elements.ensures
    c.map.ensures.cases c.copied.ensures)

pub returns-in-Byte : goal.returns-in-Byte
returns-in-Byte g c = rw c.in-Byte.is
    (does_copied c.args.turns c.args.array.0 Byte (signed_word w8) (λ vs. elements.Byte vs) (λ vs. refl)
    c.copy_elements-in-Byte.result c.map-in-Byte.result c.copied-in-Byte.result c.copy_elements-in-Byte.ensures
    c.map-in-Byte.ensures.cases c.copied-in-Byte.ensures)

pub returns-in-Char : goal.returns-in-Char
returns-in-Char g c = rw c.in-Char.is
    (does_copied c.args.turns c.args.array.0 Char (λ unit. unit) (λ vs. elements.Char vs) (λ vs. refl)
    c.copy_elements-in-Char.result c.map-in-Char.result c.copied-in-Char.result c.copy_elements-in-Char.ensures
    c.map-in-Char.ensures.cases c.copied-in-Char.ensures)

pub returns-in-Short : goal.returns-in-Short
returns-in-Short g c = rw c.in-Short.is
    (does_copied c.args.turns c.args.array.0 Short (signed_word w16) (λ vs. elements.Short vs) (λ vs. refl)
    c.copy_elements-in-Short.result c.map-in-Short.result c.copied-in-Short.result c.copy_elements-in-Short.ensures
    c.map-in-Short.ensures.cases c.copied-in-Short.ensures)

pub returns-in-Int : goal.returns-in-Int
returns-in-Int g c = rw c.in-Int.is
    (does_copied c.args.turns c.args.array.0 Int (signed_word w32) (λ vs. elements.Int vs) (λ vs. refl)
    c.copy_elements-in-Int.result c.map-in-Int.result c.copied-in-Int.result c.copy_elements-in-Int.ensures
    c.map-in-Int.ensures.cases c.copied-in-Int.ensures)

pub returns-in-Long : goal.returns-in-Long
returns-in-Long g c = rw c.in-Long.is
    (does_copied c.args.turns c.args.array.0 Long (signed_word w64) (λ vs. elements.Long vs) (λ vs. refl)
    c.copy_elements-in-Long.result c.map-in-Long.result c.copied-in-Long.result c.copy_elements-in-Long.ensures
    c.map-in-Long.ensures.cases c.copied-in-Long.ensures)
