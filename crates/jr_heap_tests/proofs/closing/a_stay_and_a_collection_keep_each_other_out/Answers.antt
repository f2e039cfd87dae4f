use Rattle.std.proofs.Common.{◌∙◌, sym, subst}
use Rattle.jr_steps.specs.Knowing.{CanReopen, MayKnow}
use Rattle.jr_rule.specs.Passes.{Holder, facts_of}
use Rattle.jr_heap_tests.proofs.closing.a_stay_and_a_collection_keep_each_other_out.Goals as goal

pub reopen-requires-clause-closed : goal.reopen-requires-clause-closed
reopen-requires-clause-closed g c = subst (λ (h : Holder). MayKnow facts_of h CanReopen)
    (sym (c.new-second-2.ensures.pass ∙ c.into_pass-second.ensures.pass)) c.in_ok-collection.ensures.closed
