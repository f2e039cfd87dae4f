use Rattle.std.proofs.Common.{◌<◌, None, length, rules, sym, ◌∙◌}
use Rattle.std.proofs.lemmas.List.{get_or_read}
use Rattle.jr_scripts.proofs.sightings.Sightings.keep.Goals as goal

pub has_same-requires : goal.has_same-requires
has_same-requires g c =
    let s = c.args.self.now in
    let there : c.args.number < length s.notes.items = search rules in
    λ n is. s.of c.args.number n
    (sym (get_or_read s.notes.items c.args.number c.index.result.now there c.index.ensures None) ∙ is) ∙ sym c.requires
