use Rattle.std.proofs.Common.{◌≡◌, ◌++◌, [], ◌∷◌, None, rules, sym, subst}
use Rattle.jr_scripts.specs.NotedWords.{IsBlank}
use Rattle.jr_scripts.proofs.Noted.{blank_more, blank_none}
use Rattle.jr_scripts.proofs.sightings.blank.Goals as goal

pub loop-init : goal.loop-init
loop-init g c = subst (IsBlank {T = g.row.T.Denot}) (sym c.new-notes.ensures.items) (blank_none {T = g.row.T.Denot})

pub loop-preserved : goal.loop-preserved
loop-preserved g c =
    let more : c.push.new.self.items ≡ c.loop.notes.items ++ None ∷ [] = search rules in
    subst (IsBlank {T = g.row.T.Denot}) (sym more) (blank_more c.loop.notes.items c.loop.invariant)
