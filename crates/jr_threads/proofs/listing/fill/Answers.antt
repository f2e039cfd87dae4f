use Rattle.std.proofs.Common.{◌≡◌, drop, length, rules}
use Rattle.std.proofs.lemmas.List.{take_at}
use Rattle.jr_threads.proofs.Dumped.{takes_lent}
use Rattle.jr_threads.proofs.listing.fill.Goals as goal

pub returns-clause-ok : goal.returns-clause-ok
returns-clause-ok g c =
    let slots = c.take_dump.new.slots in
    let locals = c.take_dump.new.locals in
    let headers = c.take_dump.new.headers in
    let words = c.take_dump.new.words in
    let old = c.args.dump in
    let a : length slots ≡ c.args.dump.slots.len = search rules in
    let b : length locals ≡ c.args.dump.locals.len = search rules in
    let e : length headers ≡ c.args.dump.headers.len = search rules in
    let f : length words ≡ c.args.dump.words.len = search rules in
    takes_lent (take_at slots (drop (length slots) old.slots.items) old.slots.len a)
    (take_at locals (drop (length locals) old.locals.items) old.locals.len b)
    (take_at headers (drop (length headers) old.headers.items) old.headers.len e)
    (take_at words (drop (length words) old.words.items) old.words.len f) c.in_ok-take_dump.ensures.ok
