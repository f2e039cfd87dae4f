use Rattle.std.proofs.Common.{Err, Global, Vec, ℕ, map, refl, sym, ◌∙◌}
use Rattle.jr_word.specs.declared.fault.Fault.TheVariants.{WrongKind}
use Rattle.jr_model.specs.CallPrograms.{get_string_chars}
use Rattle.jr_elements.specs.Copies.{answer_in}
use Rattle.jr_frames.specs.Reading.{word_of}
use Rattle.jr_env.proofs.AtObjects.{finds_nothing, passes_there, refuses_there}
use Rattle.jr_env.proofs.Served.{answered_as, kept_is}
use Rattle.jr_env.proofs.WholeCopies.{copies_all, own_words}
use Rattle.jr_env.proofs.calls.strings.GetStringCharsNativeCall.work.Goals as goal

pub returns-in_err-object-clause-call : goal.returns-in_err-object-clause-call
returns-in_err-object-clause-call g c = finds_nothing (word_of c.of-string.result) c.of-string.ensures.reads
    get_string_chars (answer_in (λ units. units.items) c.from_residual.result)
    (kept_is _ (λ units. units.items) c.from_residual.result c.from_residual.ensures.1) c.in_err-object.ensures.call

pub returns-then-not-is_text-clause-call : goal.returns-then-not-is_text-clause-call
returns-then-not-is_text-clause-call g c =
    refuses_there (word_of c.of-string.result) c.of-string.ensures.reads get_string_chars g.met.S.Steps.fits
    c.in_ok-object.ensures.call (Err WrongKind) refl c.requires.ready.role_is
    (rw (sym c.is_text.ensures ∙ c.if-not-is_text.true) refl)

pub returns-clause-call : goal.returns-clause-call
returns-clause-call g c =
    passes_there (word_of c.of-string.result) c.of-string.ensures.reads get_string_chars g.met.S.Steps.fits
    c.in_ok-object.ensures.call c.requires.ready.role_is (rw (sym c.is_text.ensures ∙ c.if-not-is_text.false) refl)
    (answered_as (sym (own_words (λ (v : Vec ℕ Global). v.items) c.read_all.result))
    (copies_all (λ (v : Vec ℕ Global). map (λ x. x) v.items) c.read_all.result c.read_all.ensures.stands
    c.read_all.ensures.call))
