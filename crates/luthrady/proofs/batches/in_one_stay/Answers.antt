-- What the stay's calls say of the env that it borrowed, which its end hands back.
use Rattle.std.proofs.Common.{◌∙◌, Ok, subst, sym}
use Rattle.jr_env.specs.declared.env.Env.{Env}
use Rattle.luthrady.specs.Batches.{WasStayed}
use Rattle.luthrady.proofs.batches.in_one_stay.Goals as goal

-- src/batches.rt
pub returns-in-Ok : goal.returns-in-Ok
returns-in-Ok g c =
    let same = c.end.ensures.same_reference ∙ c.make_all.ensures.same_reference ∙ c.in-Ok.ensures.same_reference in
    subst (λ (e : Env g.row.S.Denot g.S.Steps).
    WasStayed c.args.env.now e c.args.calls.now c.make_all.new.calls (Ok tt)) (sym (c.env-1.given.1 (sym same))) (
      c.in-Ok.stay,
      c.make_all.new.stay,
      c.in-Ok.ensures.entered,
      c.make_all.ensures.made,
      c.end.ensures.call,
      c.end.ensures.one_stay,
      c.end.ensures.frames,
      c.end.ensures.outside,
    )
