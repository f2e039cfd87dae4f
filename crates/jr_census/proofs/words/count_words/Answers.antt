use Rattle.std.proofs.Common.{◌-◌, arith}
use Rattle.jr_census.specs.declared.words.WordCounts.{WordCounts}
use Rattle.jr_census.specs.Counts.{HaveWords}
use Rattle.jr_census.proofs.WordsCounted.{used_most, words_told}
use Rattle.jr_census.proofs.words.count_words.Goals as goal

pub overflow_sub-reached : goal.overflow_sub-reached
overflow_sub-reached g c = (used_most g.met.S.Steps.fits c.args.present c.args.unreached c.scan_top-used.result
    c.requires.role c.requires.few c.scan_top-used.ensures).0

pub overflow_sub-result : goal.overflow_sub-result
overflow_sub-result g c = (used_most g.met.S.Steps.fits c.args.present c.args.unreached c.scan_top-used.result
    c.requires.role c.requires.few c.scan_top-used.ensures).1

pub overflow_sub-result-2 : goal.overflow_sub-result-2
overflow_sub-result-2 g c = let most = (used_most g.met.S.Steps.fits c.args.present c.args.unreached
    c.scan_top-used.result c.requires.role c.requires.few c.scan_top-used.ensures).1 in omega arith

pub returns : goal.returns
returns g c =
    let used = c.scan_top-used.result in
    let present = c.args.present in
    let unreached = c.args.unreached in
    let most =
    used_most g.met.S.Steps.fits present unreached used c.requires.role c.requires.few c.scan_top-used.ensures in
    let fit = most.0 in
    let room = most.1 in
    let words : WordCounts = record {
      used = used;
      lost = used - present;
      reached = present - unreached;
      freed = used - (present - unreached);
    } in
    let have : HaveWords present unreached words =
    record { lost = omega arith; reached = omega arith; freed = omega arith } in
    words_told g.met.S.Steps.fits present unreached words c.requires.role c.scan_top-used.ensures have
