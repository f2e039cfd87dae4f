use Rattle.std.proofs.Common.{◌∙◌, ap, inr, length, sym}
use Rattle.std.proofs.lemmas.List.{length-map}
use Rattle.jr_owned.proofs.Owners.{are_started, passes_long}
use Rattle.jr_owned.proofs.code.spawn_owned.Goals as goal

pub returns-in-Ok-start_each-clause-count : goal.returns-in-Ok-start_each-clause-count
returns-in-Ok-start_each-clause-count g c =
    sym (length-map c.in-Ok-start_each.threads.items (λ h. h.promise.pass.value))
    ∙ (ap (λ xs. length xs) c.in-Ok-start_each.ensures.passes
    ∙ passes_long c.args.config 4294967295 c.in-Ok.opened.0.row c.in-Ok.opened.1.items c.in-Ok.ensures.opened)

pub returns-in-Ok-start_each-clause-started : goal.returns-in-Ok-start_each-clause-started
returns-in-Ok-start_each-clause-started g c =
    are_started c.args.config c.in-Ok.opened.0.row c.in-Ok.opened.1.items _ c.in-Ok.ensures.opened
    c.in-Ok-start_each.ensures.passes

pub returns-in-Err-start_each-clause-started : goal.returns-in-Err-start_each-clause-started
returns-in-Err-start_each-clause-started g c = inr (
  c.in-Err-start_each.ensures.passes.0,
  are_started c.args.config c.in-Ok.opened.0.row c.in-Ok.opened.1.items _ c.in-Ok.ensures.opened
      c.in-Err-start_each.ensures.passes.1,
)
