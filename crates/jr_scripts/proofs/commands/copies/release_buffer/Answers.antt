use Rattle.std.proofs.Common.{◌∙◌, refl, w8, w16, w32, w64}
use Rattle.jr_word.specs.Elem.{bool_word, signed_word}
use Rattle.jr_word.specs.declared.kind.Kind.TheVariants as kinds
use Rattle.jr_scripts.specs.declared.buffer.CopiedElements.TheVariants as elements
use Rattle.jr_scripts.proofs.CopyDeeds.{does_release_of, left_mapped, of_buffer}
use Rattle.jr_scripts.proofs.commands.copies.release_buffer.Goals as goal

pub returns-in-Boolean-clause-call : goal.returns-in-Boolean-clause-call
returns-in-Boolean-clause-call g c =
    let is = of_buffer c.in-Boolean.is c.into_elements.ensures in
    let put = c.release_elements-left in
    does_release_of c.args.turns c.args.array.0 c.args.mode _ c.args.buffer put.result.1
    c.with_left.result.answer is c.with_left.ensures.answer put.ensures.call

pub returns-in-Boolean-clause-left : goal.returns-in-Boolean-clause-left
returns-in-Boolean-clause-left g c =
    let is = of_buffer c.in-Boolean.is c.into_elements.ensures in
    let put = c.release_elements-left in
    let left = c.with_left in
    left.ensures.left ∙ left_mapped kinds.Boolean bool_word (λ vs. elements.Boolean vs) (λ vs. refl)
    c.args.mode put.result.1 left.result.answer c.in-Boolean.elements put.result.0 c.map.result c.args.buffer is
    put.ensures.left c.map.ensures.cases left.ensures.answer

pub returns-in-Byte-clause-call : goal.returns-in-Byte-clause-call
returns-in-Byte-clause-call g c =
    let is = of_buffer c.in-Byte.is c.into_elements.ensures in
    let put = c.release_elements-left-in-Byte in
    does_release_of c.args.turns c.args.array.0 c.args.mode _ c.args.buffer put.result.1
    c.with_left-in-Byte.result.answer is c.with_left-in-Byte.ensures.answer put.ensures.call

pub returns-in-Byte-clause-left : goal.returns-in-Byte-clause-left
returns-in-Byte-clause-left g c =
    let is = of_buffer c.in-Byte.is c.into_elements.ensures in
    let put = c.release_elements-left-in-Byte in
    let left = c.with_left-in-Byte in
    left.ensures.left ∙ left_mapped kinds.Byte (signed_word w8) (λ vs. elements.Byte vs) (λ vs. refl)
    c.args.mode put.result.1 left.result.answer c.in-Byte.elements put.result.0 c.map-in-Byte.result c.args.buffer is
    put.ensures.left c.map-in-Byte.ensures.cases left.ensures.answer

pub returns-in-Char-clause-call : goal.returns-in-Char-clause-call
returns-in-Char-clause-call g c =
    let is = of_buffer c.in-Char.is c.into_elements.ensures in
    let put = c.release_elements-left-in-Char in
    does_release_of c.args.turns c.args.array.0 c.args.mode _ c.args.buffer put.result.1
    c.with_left-in-Char.result.answer is c.with_left-in-Char.ensures.answer put.ensures.call

pub returns-in-Char-clause-left : goal.returns-in-Char-clause-left
returns-in-Char-clause-left g c =
    let is = of_buffer c.in-Char.is c.into_elements.ensures in
    let put = c.release_elements-left-in-Char in
    let left = c.with_left-in-Char in
    left.ensures.left ∙ left_mapped kinds.Char (λ unit. unit) (λ vs. elements.Char vs) (λ vs. refl)
    c.args.mode put.result.1 left.result.answer c.in-Char.elements put.result.0 c.map-in-Char.result c.args.buffer is
    put.ensures.left c.map-in-Char.ensures.cases left.ensures.answer

pub returns-in-Short-clause-call : goal.returns-in-Short-clause-call
returns-in-Short-clause-call g c =
    let is = of_buffer c.in-Short.is c.into_elements.ensures in
    let put = c.release_elements-left-in-Short in
    does_release_of c.args.turns c.args.array.0 c.args.mode _ c.args.buffer put.result.1
    c.with_left-in-Short.result.answer is c.with_left-in-Short.ensures.answer put.ensures.call

pub returns-in-Short-clause-left : goal.returns-in-Short-clause-left
returns-in-Short-clause-left g c =
    let is = of_buffer c.in-Short.is c.into_elements.ensures in
    let put = c.release_elements-left-in-Short in
    let left = c.with_left-in-Short in
    left.ensures.left ∙ left_mapped kinds.Short (signed_word w16) (λ vs. elements.Short vs) (λ vs. refl)
    c.args.mode put.result.1 left.result.answer c.in-Short.elements put.result.0 c.map-in-Short.result c.args.buffer is
    put.ensures.left c.map-in-Short.ensures.cases left.ensures.answer

pub returns-in-Int-clause-call : goal.returns-in-Int-clause-call
returns-in-Int-clause-call g c =
    let is = of_buffer c.in-Int.is c.into_elements.ensures in
    let put = c.release_elements-left-in-Int in
    does_release_of c.args.turns c.args.array.0 c.args.mode _ c.args.buffer put.result.1
    c.with_left-in-Int.result.answer is c.with_left-in-Int.ensures.answer put.ensures.call

pub returns-in-Int-clause-left : goal.returns-in-Int-clause-left
returns-in-Int-clause-left g c =
    let is = of_buffer c.in-Int.is c.into_elements.ensures in
    let put = c.release_elements-left-in-Int in
    let left = c.with_left-in-Int in
    left.ensures.left ∙ left_mapped kinds.Int (signed_word w32) (λ vs. elements.Int vs) (λ vs. refl)
    c.args.mode put.result.1 left.result.answer c.in-Int.elements put.result.0 c.map-in-Int.result c.args.buffer is
    put.ensures.left c.map-in-Int.ensures.cases left.ensures.answer

pub returns-in-Long-clause-call : goal.returns-in-Long-clause-call
returns-in-Long-clause-call g c =
    let is = of_buffer c.in-Long.is c.into_elements.ensures in
    let put = c.release_elements-left-in-Long in
    does_release_of c.args.turns c.args.array.0 c.args.mode _ c.args.buffer put.result.1
    c.with_left-in-Long.result.answer is c.with_left-in-Long.ensures.answer put.ensures.call

pub returns-in-Long-clause-left : goal.returns-in-Long-clause-left
returns-in-Long-clause-left g c =
    let is = of_buffer c.in-Long.is c.into_elements.ensures in
    let put = c.release_elements-left-in-Long in
    let left = c.with_left-in-Long in
    left.ensures.left ∙ left_mapped kinds.Long (signed_word w64) (λ vs. elements.Long vs) (λ vs. refl)
    c.args.mode put.result.1 left.result.answer c.in-Long.elements put.result.0 c.map-in-Long.result c.args.buffer is
    put.ensures.left c.map-in-Long.ensures.cases left.ensures.answer
