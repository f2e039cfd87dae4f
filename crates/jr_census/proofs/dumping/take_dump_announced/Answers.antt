use Rattle.jr_census.specs.Taking.{IsDumpOf, noting_steps}
use Rattle.jr_census.proofs.Takes.{dump_on, takes_act_by_act, takes_announced}
use Rattle.jr_census.proofs.dumping.take_dump_announced.Goals as goal

pub returns-clause-ok : goal.returns-clause-ok
returns-clause-ok g c =
    let slots = c.note.new.slots in
    let locals = c.note.new.locals in
    let headers = c.note.new.headers in
    let words = c.note.new.words in
    takes_announced g.S.Steps.facts noting_steps (λ k last s. IsDumpOf k last s slots locals headers words)
    (dump_on slots locals headers words) c.requires.outside c.in_ok-shut.ensures.ok c.note.ensures.all

pub returns-clause-counted : goal.returns-clause-counted
returns-clause-counted g c =
    let new = c.note.new in
    takes_act_by_act g.S.Steps.facts noting_steps (λ k last s.
    IsDumpOf k last s new.slots new.locals new.headers new.words) c.in_ok-shut.ensures.ok c.note.ensures.all
