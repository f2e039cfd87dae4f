use Rattle.std.proofs.Common.{◌∙◌, sym}
use Rattle.jr_syntax.specs.Line.{Line}
use Rattle.jr_syntax.specs.Draft.{Grown}
use Rattle.jr_syntax.proofs.Reading.{taken_fault, taken_line, taken_first, taken_all, no_lines}
use Rattle.jr_syntax.proofs.reader.read.Goals as goal

pub returns-in_default-clause-fault : goal.returns-in_default-clause-fault
returns-in_default-clause-fault c = no_lines c.args.text.now (sym c.new-lines.ensures ∙ c.in_default.ensures.none)

pub loop-line-init : goal.loop-line-init
loop-line-init c =
    taken_first c.args.text.now c.new-lines.result (c.in-Some.line.now, c.in-Some.finished) c.next.new.self
    c.new-draft.result c.in-Ok.config c.if-text-gt-MOST_BYTES.false c.new-lines.ensures c.in-Some.ensures.some
    c.in-Ok.ensures c.new-draft.ensures

pub returns-in-Err-take-clause-fault : goal.returns-in-Err-take-clause-fault
returns-in-Err-take-clause-fault c =
    let l : Line = (c.in-Some-next.line.now, c.in-Some-next.finished) in
    taken_fault c.args.text.now c.loop-line.number c.loop-line.draft c.loop-line.lines l c.next-in-loop-line.new.self
    c.in-Err-take.fault c.at.result (Grown c.loop-line.draft l.0 c.take.new.self) c.loop-line.invariant
    c.in-Some-next.ensures.some c.in-Err-take.ensures c.at.ensures

pub loop-line-preserved : goal.loop-line-preserved
loop-line-preserved c =
    let l : Line = (c.in-Some-next.line.now, c.in-Some-next.finished) in
    taken_line c.args.text.now c.loop-line.number c.loop-line.draft c.take.new.self c.loop-line.lines l
    c.next-in-loop-line.new.self c.in_default-take.field-0 c.loop-line.invariant c.in-Some-next.ensures.some
    c.in_default-take.ensures

pub returns-in-Ok-into_script-clause-read : goal.returns-in-Ok-into_script-clause-read
returns-in-Ok-into_script-clause-read c =
    taken_all c.args.text.now c.loop-line.number c.loop-line.draft c.loop-line.lines c.in-Ok-into_script.script
    c.loop-line.invariant c.in_default-next.ensures.none c.if-text-gt-MOST_BYTES.false
    (sym c.is_full.ensures ∙ c.if-not-is_full.false) c.in-Ok-into_script.ensures
