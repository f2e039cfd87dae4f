use Rattle.std.proofs.Common.{sym, refl, ap, subst, ◌∙◌}
use mathlib.Core.Logic.{∥∥₁_map}
use Rattle.jr_word.specs.declared.config.Config.{Config}
use Rattle.jr_steps.specs.declared.known.Known.{Known}
use Rattle.jr_heap.specs.Heap.{IsOwn}
use Rattle.jr_heap.specs.Ranges.{place_of}
use Rattle.jr_heap.proofs.Reserving.{reserve_none, over, within, reserve_full, may_reserve}
use Rattle.jr_heap.proofs.Reserving.{reserve_won, reserve_owned, reserve_lost, never_lost}
use Rattle.jr_heap.proofs.space.reserve.Goals as goal

pub returns-then-words-eq0-clause-own : goal.returns-then-words-eq0-clause-own
returns-then-words-eq0-clause-own g c = ∥∥₁_map (g.met.S.Steps.some_known c.args.steps.now) (λ k.
    (k.0, k.1, subst (λ n. IsOwn (place_of c.empty.result) n k.0) (sym c.empty.ensures.size) refl))

pub returns-then-words-from-clause-err : goal.returns-then-words-from-clause-err
returns-then-words-from-clause-err g c =
    reserve_full g.met.S.Steps.fits c.requires.role c.args.words c.see_top-used.result
    (g.S.Steps.facts c.args.steps.now).stands.config.words (search) c.see_top-used.ensures (over c.see_top-used.result
    c.from.ensures c.saturating_sub.ensures (ap (λ (z : Config). z.words) c.config-space.ensures) c.if-words-from.true)

pub claim_top-requires-clause-looked : goal.claim_top-requires-clause-looked
claim_top-requires-clause-looked g c = may_reserve g.met.S.Steps.fits c.requires.role c.args.words c.see_top-used.result
    (g.S.Steps.facts c.args.steps.now).stands.config.words (search) c.see_top-used.ensures (within c.see_top-used.result
    c.from.ensures c.saturating_sub.ensures (ap (λ (z : Config). z.words) c.config-space.ensures) (search)
    c.if-words-from.false) (g.met.S.Steps.some_known c.args.steps.now)

pub returns-in-Ok-clause-ok : goal.returns-in-Ok-clause-ok
returns-in-Ok-clause-ok g c = (
  refl,
  reserve_won g.met.S.Steps.fits c.requires.role c.args.words c.see_top-used.result
      (g.S.Steps.facts c.args.steps.now).stands.config.words (search) c.see_top-used.ensures
      (within c.see_top-used.result c.from.ensures c.saturating_sub.ensures
      (ap (λ (z : Config). z.words) c.config-space.ensures) (search) c.if-words-from.false) c.in-Ok.ensures,
)

pub returns-in-Ok-clause-own : goal.returns-in-Ok-clause-own
returns-in-Ok-clause-own g c =
    reserve_owned c.args.words c.see_top-used.result (may_reserve g.met.S.Steps.fits c.requires.role c.args.words
    c.see_top-used.result (g.S.Steps.facts c.args.steps.now).stands.config.words (search) c.see_top-used.ensures (within
    c.see_top-used.result c.from.ensures c.saturating_sub.ensures (ap (λ (z : Config). z.words) c.config-space.ensures)
    (search) c.if-words-from.false) (g.met.S.Steps.some_known c.args.steps.now)) c.in-Ok.ensures

pub returns-in-Err-clause-err : goal.returns-in-Err-clause-err
returns-in-Err-clause-err g c =
    reserve_lost g.met.S.Steps.fits c.requires.role c.args.words c.see_top-used.result
    (g.S.Steps.facts c.args.steps.now).stands.config.words (search) c.see_top-used.ensures
    (within c.see_top-used.result c.from.ensures c.saturating_sub.ensures
    (ap (λ (z : Config). z.words) c.config-space.ensures) (search) c.if-words-from.false) c.in-Err.found
    (λ (k : Known) s. ap (λ (z : Config). z.words) (g.met.S.Steps.fits c.args.steps.now k s).config) c.in-Err.ensures

pub returns-then-words-eq0-clause-ok : goal.returns-then-words-eq0-clause-ok
returns-then-words-eq0-clause-ok g c = (
  c.empty.ensures.size ∙ sym c.if-words-eq0.true,
  reserve_none g.met.S.Steps.fits c.args.steps.now c.args.words (place_of c.empty.result) c.if-words-eq0.true,
)

pub returns-then-words-from-clause-alone : goal.returns-then-words-from-clause-alone
returns-then-words-from-clause-alone g c = λ none looked found e. cc

pub returns-in-Err-clause-alone : goal.returns-in-Err-clause-alone
returns-in-Err-clause-alone g c = λ none. absurd (never_lost g.met.S.Steps.fits c.requires.role c.args.words
    c.see_top-used.result (g.S.Steps.facts c.args.steps.now).stands.config.words (search) c.see_top-used.ensures
    (within c.see_top-used.result c.from.ensures c.saturating_sub.ensures
    (ap (λ (z : Config). z.words) c.config-space.ensures) (search) c.if-words-from.false) g.met.S.Steps.lone
    c.in-Err.found none (g.met.S.Steps.some_known c.args.steps.now) c.in-Err.ensures)
