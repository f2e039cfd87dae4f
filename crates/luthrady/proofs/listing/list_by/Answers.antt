use Rattle.std.proofs.Common.{◌∙◌, ℕ, inr, subst}
use Rattle.jr_weak.specs.Markers.{marks_of}
use Rattle.jr_weak.specs.Listing.{ListsTell}
use Rattle.jr_env.specs.Envs.{Does}
use Rattle.jr_env.specs.Listings.{listed_in_turn}
use Rattle.jr_env.proofs.EnvCalls.{does_more}
use Rattle.luthrady.specs.Listed.{WordsTell}
use Rattle.luthrady.proofs.ListedWords.{in_turn_more, lent_whole, on_refusal, same_words, told_in_words}
use Rattle.luthrady.proofs.listing.list_by.Goals as goal

-- src/listing.rt
pub returns-clause-call : goal.returns-clause-call
returns-clause-call c =
    let call = c.collect_until_served-answer in
    let are = c.deref_mut-2.ensures.value
    ∙ lent_whole c.args.words.now _ _ _ _ c.deref_mut.ensures.value c.deref_mut.ensures.len c.in-Ok.ensures.len
    c.write_rows.ensures in
    let marks = marks_of call.new.marker in
    let other = WordsTell c.args.words.now c.args.numbers.now c.write_rows-2.new.rows call.new.numbers in
    inr (
      λ fits. subst (λ (n : ℕ). Does c.args.native.now.env call.new.env
          (listed_in_turn n c.args.turns.1 marks other) call.result) c.some.ensures.tries
          (does_more (λ p q z. in_turn_more c.some.result c.args.turns.1 marks
          (ListsTell c.deref_mut-2.result.now c.args.numbers.now call.new.handles call.new.numbers) other
          (told_in_words _ _ _ _ _ _ _ are c.in-Ok.ensures.len c.deref.ensures.value c.write_rows-2.ensures) p q
          call.result z) (call.ensures.call fits)),
      call.ensures.room,
    )

pub returns-clause-unlisted : goal.returns-clause-unlisted
returns-clause-unlisted c =
    let call = c.collect_until_served-answer in
    let are = c.deref_mut-2.ensures.value
    ∙ lent_whole c.args.words.now _ _ _ _ c.deref_mut.ensures.value c.deref_mut.ensures.len c.in-Ok.ensures.len
    c.write_rows.ensures in
    on_refusal call.result (λ same. (
      same_words _ _ _ _ _ _ _ are c.in-Ok.ensures.len c.deref.ensures.value c.write_rows-2.ensures same.0,
      same.1,
    )) call.ensures.unlisted
