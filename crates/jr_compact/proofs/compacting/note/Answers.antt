use Rattle.std.proofs.Common.{◌≤◌, ◌<◌, ◌+◌, ◌++◌, ◌∙◌, List, ap, sym, subst, take}
use Rattle.jr_compact.specs.declared.placed.PlacedObject.{PlacedObject}
use Rattle.std.proofs.Common.{length, arith, rules, append-nil, option_to_list}
use Rattle.std.proofs.lemmas.List.{take_more_set}
use Rattle.jr_steps.specs.Knowing.{Standing}
use Rattle.jr_compact.specs.Compacting.{CanCompact}
use Rattle.jr_compact.specs.Counting.{SawWithin}
use Rattle.jr_compact.proofs.Noted.{IsNotedTo, listed_number, noted_none, noted_more, noted_at_end}
use Rattle.jr_compact.proofs.compacting.note.Goals.{in-Some, in_default}
use Rattle.jr_compact.proofs.compacting.note.Goals as goal

pub loop-object-init : goal.loop-object-init
loop-object-init g c = ((omega arith), noted_none g.met.S.Steps.fits c.args.present.now c.args.steps.now)

pub scan_header-header-requires-clause-role : goal.scan_header-header-requires-clause-role
scan_header-header-requires-clause-role g c =
    ap (λ (s : Standing). s.role) (c.loop-object.invariant.1).stands_is ∙ c.requires.role

pub scan_header-header-requires-clause-number : goal.scan_header-header-requires-clause-number
scan_header-header-requires-clause-number g c =
    let n = listed_number g.S.Steps.facts g.met.S.Steps.fits c.args.present.now c.args.steps.now
    c.loop-object.object-index 0 c.loop-object-test.true c.requires.can in
    let e = ap (λ (s : Standing). s.config.objects) (c.loop-object.invariant.1).stands_is in
    (n.0, let m = n.1 in omega arith)

pub offset_bounds-noted-count : goal.offset_bounds-noted-count
offset_bounds-noted-count g c =
    let below : c.loop-object.count ≤ c.loop-object.object-index = c.loop-object.invariant.0 in
    let test = c.loop-object-test.true in
    let room = c.requires.room in
    let long = c.loop-object.auto.noted in
    let inside : c.loop-object.count < length c.loop-object.noted = omega arith in
    search rules

pub bounds-noted-count : goal.bounds-noted-count
bounds-noted-count g c =
    let below = c.loop-object.invariant.0 in
    let test = c.loop-object-test.true in
    let room = c.requires.room in
    let long = c.loop-object.auto.noted in
    omega arith

pub overflow_add-count : goal.overflow_add-count
overflow_add-count g c =
    let below : c.loop-object.count ≤ c.loop-object.object-index = c.loop-object.invariant.0 in
    let test = c.loop-object-test.true in
    let room = c.requires.room in
    let long = c.loop-object.auto.noted in
    let inside : c.loop-object.count < length c.loop-object.noted = omega arith in
    search rules

pub loop-object-preserved : goal.loop-object-preserved
loop-object-preserved g c =
    let below = c.loop-object.invariant.0 in
    let noted = take c.loop-object.count c.loop-object.noted in
    let Noted : List PlacedObject → Type 0 = λ es. SawWithin g.S.Steps.facts (λ j. c.loop-object.object-index + 1)
    c.args.steps.now c.scan_header-header.new.self (CanCompact c.args.present.now)
    (IsNotedTo c.args.present.now (c.loop-object.object-index + 1) es) in
    let more = noted_more g.met.S.Steps.fits c.args.present.now c.loop-object.invariant.1 0 c.scan_header-header.result
    c.loop-object-test.true c.requires.role c.scan_header-header.ensures in
    elim c.match-of.branch [
      | in-Some w ↦
          let test = c.loop-object-test.true in
          let room = c.requires.room in
          let long = c.loop-object.auto.noted in
          let count = w.count-is in (
            (omega arith),
            subst Noted (ap (λ r. noted ++ option_to_list r) (sym c.of.ensures ∙ w.in-Some.is)
                ∙ (sym (take_more_set c.loop-object.noted c.loop-object.count w.in-Some.entry (omega arith))
                ∙ (λ i. take (sym w.count-is i) (sym w.noted-is i)))) more,
          )
      | in_default w ↦
          let count = w.count-is in (
            (omega arith),
            subst Noted (ap (λ r. noted ++ option_to_list r) (sym c.of.ensures ∙ w.in_default.is)
                ∙ (append-nil noted ∙ (λ i. take (sym w.count-is i) (sym w.noted-is i)))) more,
          )
    ]

pub returns-clause-count : goal.returns-clause-count
returns-clause-count g c =
    let below = c.loop-object.invariant.0 in
    let end = c.loop-object.auto.object-index-end in
    let room = c.requires.room in
    omega arith

pub returns-clause-noted : goal.returns-clause-noted
returns-clause-noted g c =
    let end = c.loop-object.auto.object-index-end in
    let test = c.loop-object-test.false in
    noted_at_end g.met.S.Steps.fits c.args.present.now (omega arith) c.requires.role c.loop-object.invariant.1
