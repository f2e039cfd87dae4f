use Rattle.std.proofs.Common.{◌≡◌, ◌≤◌, drop}
use Rattle.jr_syntax.specs.Number.{number_from, number_of_digits}
use Rattle.jr_syntax.proofs.number.long_up_to.Given as goal

-- the number so far, and the digits that are left, are the number
abbrev pub invariant-loop-digit : goal.invariant-loop-digit
invariant-loop-digit l = record {
  total : number_from l.n (drop l.digit-index l.digits) ≡ number_of_digits l.digits;
  small : l.n ≤ l.limit;
}
