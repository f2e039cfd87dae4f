-- The answers are of the two threads.
use Rattle.std.proofs.Common.{◌≡◌, Ok, of_z, rules, slice_index_or, subst, sym, to_z}
use Rattle.std.specs.Int.{w32}
use Rattle.first_room.specs.declared.message.Found.TheVariants.{Shared, Visited}
use Rattle.first_room.specs.Hour.{IsTrueReport}
use Rattle.first_room.proofs.ReadIsWritten.{is_true}
use Rattle.first_room.proofs.gathered.Goals as goal

pub returns : goal.returns
returns c =
    let r = c.in-Shared-Visited in
    let x = Shared r.inside r.cleared r.kind in
    let y = Visited r.read in
    let first : slice_index_or c.args.answers.now 0 (Ok x) ≡ Ok x = search rules in
    let second : slice_index_or c.args.answers.now 1 (Ok y) ≡ Ok y = search rules in
    let same : to_z w32 (of_z w32 r.read) ≡ r.read = search rules in
    subst (λ z. IsTrueReport (record {
      read = z;
      inside = r.inside;
      cleared = r.cleared;
      kind = r.kind;
      left = c.args.left;
    })) (sym same) (is_true c.args.answers.now c.args.left r.inside r.cleared r.kind r.read c.requires first second)
