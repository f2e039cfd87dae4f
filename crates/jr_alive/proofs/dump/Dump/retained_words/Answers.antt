use Rattle.std.proofs.Common.{◌≡◌, ◌<◌, ◌+◌, None, if◌then◌else◌, length, slice_index_or, sym, ap, subst, ◌∙◌, arith}
use Rattle.std.proofs.lemmas.List.{get_or_read}
use Rattle.jr_model.specs.Maps.{sum_below}
use Rattle.jr_census.specs.Dumps.{noted_length}
use Rattle.jr_alive.specs.Searching.{goes_with}
use Rattle.jr_alive.proofs.Kept.{retained_exactly, sum_next, sum_none}
use Rattle.jr_alive.proofs.dump.Dump.retained_words.Goals as goal

pub loop-index-init : goal.loop-index-init
loop-index-init c = record { sum = sym (sum_none _); few = omega arith }

pub loop-index-preserved : goal.loop-index-preserved
loop-index-preserved c =
    let d = c.args.self.now in
    let long = d.headers.ok.0 in
    let there : c.loop-index.index < length d.headers.items =
    let l = c.len-index-end.ensures in let t = c.loop-index-test.true in omega arith in
    let read : c.index-header.result.now ≡ slice_index_or d.headers.items c.loop-index.index None =
    get_or_read d.headers.items c.loop-index.index c.index-header.result.now there c.index-header.ensures None in
    record {
      sum = sum_next _ _ _ _ c.loop-index.invariant.sum (c.from-words.ensures ∙ (c.words_lost.ensures ∙ ap (λ h.
          if goes_with c.in_ok-all.all.entries.items c.in_ok-rest.rest.entries.items (c.loop-index.index + 1)
          then noted_length h else 0) read));
      few =
          let w = c.words_lost.type_inv in
          let f = c.from-words.ensures in
          let i = c.loop-index.invariant.few in
          omega arith;
    }

pub returns : goal.returns
returns c =
    let d = c.args.self.now in
    let all = c.in_ok-all.all.entries.items in
    let rest = c.in_ok-rest.rest.entries.items in
    let few = c.loop-index.auto.index-end in
    let end = c.loop-index-test.false in
    let long = d.headers.ok.0 in
    let last : c.loop-index.index ≡ length d.headers.items = let l = c.len-index-end.ensures in omega arith in
    record {
      retains = goes_with all rest;
      exactly = retained_exactly d c.args.object all rest c.in_ok-all.ensures c.in_ok-rest.ensures;
      words = subst (λ n. c.loop-index.words ≡ sum_below n (λ j. if goes_with all rest (j + 1)
          then noted_length (slice_index_or d.headers.items j None) else 0)) last c.loop-index.invariant.sum;
    }
