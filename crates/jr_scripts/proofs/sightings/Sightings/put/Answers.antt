use Rattle.std.proofs.Common.{◌≡◌, suc, refl, rules}
use Rattle.jr_scripts.proofs.Noted.{noted_at}
use Rattle.jr_scripts.proofs.sightings.Sightings.put.Goals as goal

pub returns-in-Some-posted-clause-noted : goal.returns-in-Some-posted-clause-noted
returns-in-Some-posted-clause-noted g c =
    let p = c.in-Some-posted.note.token.value in
    noted_at c.hear.new.self.notes.items c.args.name.now c.in-Some-number.number p p c.args.word
    (λ q. (q.told ≡ c.args.told) × (q.stamp ≡ suc c.args.self.now.heard)) refl (c.in-Some-number.ensures).0
    (search rules) (search rules) refl c.hear.ensures.noted
