use Rattle.std.proofs.Common.{arith, true, false, ap, sym, subst, ◌∙◌}
use Rattle.jr_word.specs.declared.config.Config.{Config}
use Rattle.jr_word.specs.declared.header.HeaderParts.{HeaderParts}
use Rattle.jr_steps.specs.declared.known.Known.{Known}
use Rattle.jr_steps.specs.Knowing.{MayKnow, IsFilled}
use Rattle.jr_heap.specs.Heap.{header_of}
use Rattle.jr_heap.proofs.Publishing.{tried, passed_more, passed_new, passed_present}
use Rattle.jr_heap.proofs.Publishing.{passed_held, passed_ready, passed_all}
use Rattle.jr_heap.proofs.object.publish.Goals as goal

pub claim_header-requires-clause-filled : goal.claim_header-requires-clause-filled
claim_header-requires-clause-filled g c =
    subst (λ (h : HeaderParts). MayKnow g.S.Steps.facts c.loop-turn.steps (IsFilled h)) (sym c.header-header.ensures)
    (passed_ready g.met.S.Steps.fits (header_of c.args.kind c.args.range.place c.args.range.length) c.first-first.result
    c.config-objects.result.objects c.requires.ready c.loop-turn.invariant)

pub returns-then-claim_header-clause-call : goal.returns-then-claim_header-clause-call
returns-then-claim_header-clause-call g c =
    passed_new g.met.S.Steps.fits (header_of c.args.kind c.args.range.place c.args.range.length) c.first-first.result
    c.config-objects.result.objects c.number-number.result (g.S.Steps.facts c.args.steps.now).stands.config.objects
    (ap (λ (z : Config). z.objects) c.config-objects.ensures) c.loop-turn-test.true c.loop-turn.invariant
    (tried c.number-number.result true (header_of c.args.kind c.args.range.place c.args.range.length)
    c.header-header.result c.header-header.ensures c.if-claim_header.ensures)

pub returns-then-claim_header-clause-object : goal.returns-then-claim_header-clause-object
returns-then-claim_header-clause-object g c =
    passed_present g.met.S.Steps.fits (header_of c.args.kind c.args.range.place c.args.range.length)
    c.first-first.result c.config-objects.result.objects c.number-number.result c.requires.ready c.loop-turn.invariant
    (tried c.number-number.result true (header_of c.args.kind c.args.range.place c.args.range.length)
    c.header-header.result c.header-header.ensures c.if-claim_header.ensures)

pub returns-then-claim_header-clause-known : goal.returns-then-claim_header-clause-known
returns-then-claim_header-clause-known g c =
    passed_held g.met.S.Steps.fits (header_of c.args.kind c.args.range.place c.args.range.length) c.first-first.result
    c.config-objects.result.objects c.number-number.result c.requires.ready c.loop-turn.invariant
    (tried c.number-number.result true (header_of c.args.kind c.args.range.place c.args.range.length)
    c.header-header.result c.header-header.ensures c.if-claim_header.ensures)

pub loop-turn-preserved : goal.loop-turn-preserved
loop-turn-preserved g c = passed_more g.met.S.Steps.fits (header_of c.args.kind c.args.range.place c.args.range.length)
    c.first-first.result c.config-objects.result.objects c.loop-turn.turn c.number-number.result c.requires.role
    c.number-number.ensures.number c.loop-turn.invariant (tried c.number-number.result false (header_of c.args.kind
    c.args.range.place c.args.range.length) c.header-header.result c.header-header.ensures c.if-claim_header.ensures)

pub returns-clause-call : goal.returns-clause-call
returns-clause-call g c =
    passed_all g.met.S.Steps.fits (header_of c.args.kind c.args.range.place c.args.range.length) c.first-first.result
    c.config-objects.result.objects c.loop-turn.turn (g.S.Steps.facts c.args.steps.now).stands.config.objects
    (ap (λ (z : Config). z.objects) c.config-objects.ensures) c.requires.role
    (let e = c.loop-turn.auto.turn-end in omega arith) c.loop-turn-test.false
    (λ (k : Known) s. ap (λ (z : Config). z.objects) ((g.met.S.Steps.fits c.args.steps.now k s).config
    ∙ sym c.config-objects.ensures)) c.first-first.ensures c.loop-turn.invariant
