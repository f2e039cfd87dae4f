-- A configuration within its limits, limit by limit.
use Rattle.std.proofs.Common.{◌≡◌, true, arith}
use Rattle.std.proofs.lemmas.Bool.Decides.{nat_tests}
use Rattle.jr_word.specs.declared.config.Config.{Config}
use Rattle.jr_word.specs.Config.{in_limits, IsLimited}

pub limited : (c : Config) → in_limits c ≡ true → IsLimited c
limited c e = record {
  threads = (grind (arith, nat_tests), grind (arith, nat_tests));
  slots = (grind (arith, nat_tests), grind (arith, nat_tests));
  objects = (grind (arith, nat_tests), grind (arith, nat_tests));
  words = grind (arith, nat_tests);
  locals = (grind (arith, nat_tests), grind (arith, nat_tests));
}
