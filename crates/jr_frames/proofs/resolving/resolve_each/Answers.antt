use Rattle.std.proofs.Common.{ℕ, ◌||◌, sym, ap, ◌∙◌}
use Rattle.jr_word.specs.declared.config.Config.{Config}
use Rattle.jr_model.specs.Checks.{is_foreign, is_out_of_bounds}
use Rattle.jr_frames.specs.Reading.{word_of}
use Rattle.jr_frames.proofs.Reading.{not_first, not_second}
use Rattle.jr_frames.proofs.ResolutionOfBoth.{passes, both_malformed, both_outside, both_foreign}
use Rattle.jr_frames.proofs.ResolutionOfBoth.{both_err_left, both_err_right, both_looked}
use Rattle.jr_frames.proofs.resolving.resolve_each.Goals as goal

pub returns-then-is_one_malformed : goal.returns-then-is_one_malformed
returns-then-is_one_malformed g c = let s = (g.S.Steps.facts c.args.steps.now).stands in let v = word_of c.args.left in
    let w = word_of c.args.right in
    both_malformed s.config s.last s.thread v w g.met.S.Steps.fits c.args.steps.now c.args.frames.now.frames
    (sym c.is_one_malformed.ensures ∙ c.if-is_one_malformed.true)

pub returns-then-lies_one_outside : goal.returns-then-lies_one_outside
returns-then-lies_one_outside g c = let s = (g.S.Steps.facts c.args.steps.now).stands in let v = word_of c.args.left in
    let w = word_of c.args.right in
    both_outside s.config s.last s.thread v w g.met.S.Steps.fits c.args.steps.now c.args.frames.now.frames
    (sym c.is_one_malformed.ensures ∙ c.if-is_one_malformed.false)
    (ap (λ (k : Config). is_out_of_bounds k v || is_out_of_bounds k w) (sym c.config-config.ensures)
    ∙ (sym c.lies_one_outside.ensures ∙ c.if-lies_one_outside.true))

pub returns-then-belongs_one_elsewhere : goal.returns-then-belongs_one_elsewhere
returns-then-belongs_one_elsewhere g c = let s = (g.S.Steps.facts c.args.steps.now).stands in
    let v = word_of c.args.left in let w = word_of c.args.right in
    both_foreign s.config s.last s.thread v w g.met.S.Steps.fits c.args.steps.now c.args.frames.now.frames
    (sym c.is_one_malformed.ensures ∙ c.if-is_one_malformed.false)
    (ap (λ (k : Config). is_out_of_bounds k v || is_out_of_bounds k w) (sym c.config-config.ensures)
    ∙ (sym c.lies_one_outside.ensures ∙ c.if-lies_one_outside.false))
    (ap (λ (t : ℕ). is_foreign t v || is_foreign t w) (sym c.thread-thread.ensures)
    ∙ (sym c.belongs_one_elsewhere.ensures ∙ c.if-belongs_one_elsewhere.true))

pub look_up-requires-clause-bounds : goal.look_up-requires-clause-bounds
look_up-requires-clause-bounds g c = let s = (g.S.Steps.facts c.args.steps.now).stands in let v = word_of c.args.left in
    let w = word_of c.args.right in
    not_first (is_out_of_bounds s.config v) (is_out_of_bounds s.config w)
    (ap (λ (k : Config). is_out_of_bounds k v || is_out_of_bounds k w) (sym c.config-config.ensures)
    ∙ (sym c.lies_one_outside.ensures ∙ c.if-lies_one_outside.false))

pub look_up-requires-2-clause-stay : goal.look_up-requires-2-clause-stay
look_up-requires-2-clause-stay g c = let same = c.in_ok-first.ensures.stands_is in
    (c.requires.stay.0 ∙ sym same.thread, same.role ∙ c.requires.stay.1)

pub look_up-requires-2-clause-bounds : goal.look_up-requires-2-clause-bounds
look_up-requires-2-clause-bounds g c = let s = (g.S.Steps.facts c.args.steps.now).stands in
    let v = word_of c.args.left in let w = word_of c.args.right in
    ap (λ (k : Config). is_out_of_bounds k w) c.in_ok-first.ensures.stands_is.config
    ∙ not_second (is_out_of_bounds s.config v) (is_out_of_bounds s.config w)
    (ap (λ (k : Config). is_out_of_bounds k v || is_out_of_bounds k w) (sym c.config-config.ensures)
    ∙ (sym c.lies_one_outside.ensures ∙ c.if-lies_one_outside.false))

pub returns-in_err-first : goal.returns-in_err-first
returns-in_err-first g c = let s = (g.S.Steps.facts c.args.steps.now).stands in let v = word_of c.args.left in
    let w = word_of c.args.right in
    both_err_left s.config s.last s.thread v w (passes s.config s.last s.thread v w c.config-config.ensures
    c.thread-thread.ensures (sym c.is_one_malformed.ensures ∙ c.if-is_one_malformed.false)
    (sym c.lies_one_outside.ensures ∙ c.if-lies_one_outside.false) (sym c.belongs_one_elsewhere.ensures
    ∙ c.if-belongs_one_elsewhere.false))
    c.from_residual.result c.from_residual.ensures.1 c.in_err-first.ensures

pub returns-in_err-second : goal.returns-in_err-second
returns-in_err-second g c = let s = (g.S.Steps.facts c.args.steps.now).stands in let v = word_of c.args.left in
    let w = word_of c.args.right in
    both_err_right s.config s.last s.thread v w (passes s.config s.last s.thread v w c.config-config.ensures
    c.thread-thread.ensures (sym c.is_one_malformed.ensures ∙ c.if-is_one_malformed.false)
    (sym c.lies_one_outside.ensures ∙ c.if-lies_one_outside.false) (sym c.belongs_one_elsewhere.ensures
    ∙ c.if-belongs_one_elsewhere.false))
    c.from_residual-in_err-second.result c.from_residual-in_err-second.ensures.1 c.in_ok-first.ensures
    c.in_err-second.ensures

pub returns : goal.returns
returns g c = let s = (g.S.Steps.facts c.args.steps.now).stands in let v = word_of c.args.left in
    let w = word_of c.args.right in
    both_looked s.config s.last s.thread v w (passes s.config s.last s.thread v w c.config-config.ensures
    c.thread-thread.ensures (sym c.is_one_malformed.ensures ∙ c.if-is_one_malformed.false)
    (sym c.lies_one_outside.ensures ∙ c.if-lies_one_outside.false) (sym c.belongs_one_elsewhere.ensures
    ∙ c.if-belongs_one_elsewhere.false))
    g.met.S.Steps.fits c.requires.stay.1 c.in_ok-first.ensures c.in_ok-second.ensures
