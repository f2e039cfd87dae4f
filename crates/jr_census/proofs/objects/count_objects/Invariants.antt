use Rattle.jr_weak.specs.Markers.{marks_of}
use Rattle.jr_census.specs.Telling.{LoadsTell}
use Rattle.jr_census.proofs.HeadersCounted.{FewHeaders, HeadersTo}
use Rattle.jr_census.proofs.objects.count_objects.Given as goal

abbrev pub invariant-loop-index : goal.invariant-loop-index
invariant-loop-index g l = LoadsTell g.S.Steps.facts (λ j. l.index) l.fn.steps l.steps
    (HeadersTo (marks_of l.marker) l.index l.present l.unreached) × FewHeaders l.index l.present l.unreached
