use Rattle.std.proofs.Common.{◌<◌, ◌≤◌, None, length, rules, sym, ap, ◌∙◌}
use Rattle.std.proofs.lemmas.List.{get_or_read}
use Rattle.jr_scripts.specs.Layouts.{Layout}
use Rattle.jr_scripts.specs.NotedWords.{cell_at}
use Rattle.jr_scripts.proofs.Noted.{has_all}
use Rattle.jr_scripts.proofs.sightings.Sightings.has_all_of.Goals as goal

pub has_note-requires : goal.has_note-requires
has_note-requires g c =
    let s = c.args.self.now in
    let o = c.args.other.now in
    let i = c.loop-number.number in
    let ours : i < length s.notes.items = search rules in
    let theirs : i < length o.notes.items = search rules in
    λ m n a b. s.of i m (sym (get_or_read s.notes.items i c.index.result.now ours c.index.ensures None) ∙ a)
    ∙ (sym (ap (λ (l : Layout). cell_at l.cells i) c.requires) ∙ sym (o.of i n (sym
    (get_or_read o.notes.items i c.index-in-loop-number.result.now theirs c.index-in-loop-number.ensures None) ∙ b)))

pub returns : goal.returns
returns g c t =
    let all : length c.args.other.now.notes.items ≤ c.loop-number.number = search rules in
    record {
      safe = search rules;
      kept = has_all c.args.self.now.notes.items c.args.other.now.notes.items c.loop-number.number all
          c.loop-number.invariant;
    }
