-- How much was taken from a reader whose bytes are known, and what was written of bytes.
use Rattle.std.proofs.Common.{◌≤◌, ◌+◌, ℕ, List, ◌++◌, length, Option, Result}
use Rattle.std.proofs.Common.{Ok, Err, OnOk, OnErr, arith, subst, sym, take_all}
use Rattle.std.proofs.lemmas.List.{length-append}
use Rattle.std.specs.Io.KnownBytes.{Appends, Consumes}
use Rattle.std.proofs.KnownBytes.{Consumes-trans}
use Rattle.jrefs.specs.declared.trouble.Trouble.{Trouble}
use Rattle.jrefs.specs.Act.{AppendsBeginning, ReadsAtMost}

pub takes_more : (some most all : ℕ) (old mid new : Option (List ℕ)) (bytes : List ℕ) → Consumes old mid bytes
    → length bytes ≤ some → ReadsAtMost most mid new → some + most ≤ all → ReadsAtMost all old new
takes_more some most all old mid new bytes first short rest within = (
  bytes ++ rest.0,
  omega (arith, length-append bytes rest.0, short, rest.1),
  Consumes-trans old mid new bytes rest.0 first rest.2,
)

-- all is a beginning
pub begins_with_all : (old new : Option (List ℕ)) (bytes : List ℕ) → Appends old new bytes
    → AppendsBeginning old new bytes
begins_with_all old new bytes appends =
    (length bytes, subst (Appends old new) (sym (take_all (length bytes) bytes (omega arith))) appends)

pub begins_either_way : (old new : Option (List ℕ)) (bytes : List ℕ) (r : Result (Unit {0}) Trouble)
    → OnOk r (Appends old new bytes) → OnErr r (AppendsBeginning old new bytes) → AppendsBeginning old new bytes
begins_either_way old new bytes (Ok _) all cut_off = begins_with_all old new bytes all
begins_either_way old new bytes (Err _) all cut_off = cut_off
