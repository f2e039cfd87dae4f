-- Whether so many elements are all of an array.
use Rattle.std.proofs.Common.{◌≡◌, ◌≢◌, ◌==◌, ℕ, Bool, true, false, List, Some, Result, Ok, Err, arith, sym, subst}
use Rattle.std.proofs.Common.{ap, length, refl}
use Rattle.std.proofs.lemmas.Bool.Decides.{nat_tests}
use Rattle.jr_word.specs.declared.fault.Fault.{Fault}
use Rattle.jr_word.specs.declared.fault.Fault.TheVariants.{WrongElement}
use Rattle.jr_word.specs.declared.kind.Kind.{Kind}
use Rattle.jr_model.specs.declared.frames.Mode.{Mode}
use Rattle.jr_model.specs.declared.frames.Mode.TheVariants.{Copy, Commit, Abort}
use Rattle.jr_steps.specs.declared.steps.Steps.{Ghosts}
use Rattle.jr_frames.specs.declared.held.Held.{Held}
use Rattle.jr_critical.specs.declared.levels.Levels.{Levels}
use Rattle.jr_critical.specs.Levels.{TellsLength}
use Rattle.jr_critical.specs.LevelParts.{ReadsPartAt, WritesPartAt, part_read}
use Rattle.jr_env.specs.declared.env.Env.{Env}
use Rattle.luthrady.specs.Copies.{CopiesBack, ReleasesBy}
use Rattle.luthrady.specs.InRegions.{AreAll, AreSoMany, ReadsAll, WritesAll, so_many_or_refused}

-- two numbers are one, or two
pub one_number : (m n : ℕ) → m ≡ n → (m == n) ≡ true
one_number m n e = grind (arith, nat_tests)

pub two_numbers : (m n : ℕ) → m ≢ n → (m == n) ≡ false
two_numbers m n e = grind (arith, nat_tests)

-- they are of another kind
pub of_other_kind : (is : Bool) (v : Levels) (n : ℕ) → is ≡ false → AreSoMany is v n (Err WrongElement)
of_other_kind is v n e = subst (λ b. AreSoMany b v n (Err WrongElement)) (sym e) refl

-- they are of the kind, and their number is tested
pub of_the_kind : (is : Bool) (v : Levels) (m n : ℕ) (r : Result (Unit {0}) Fault) → is ≡ true → TellsLength v 0 m
    → r ≡ so_many_or_refused (m == n) → AreSoMany is v n r
of_the_kind is v m n r e tells so = subst (λ b. AreSoMany b v n r) (sym e) (m, tells, so)

-- a copy that is released by a mode: it is written back but to abort
pub released : {S : Type 0} {G : Ghosts S} (m : Mode) (kind : Kind) (old new : Env S G) (w : ℕ) (words : List ℕ)
    (answer : Result (Unit {0}) Fault) → m ≢ Abort → CopiesBack kind old new w words answer
    → ReleasesBy (Some m) kind old new w words answer
released Copy kind old new w words answer some did = did
released Commit kind old new w words answer some did = did
released Abort kind old new w words answer some did = absurd (some refl)

pub let_alone : {S : Type 0} {G : Ghosts S} (m : Mode) (kind : Kind) (env : Env S G) (w : ℕ) (words : List ℕ)
    → (m ≢ Abort → ⊥) → ReleasesBy (Some m) kind env env w words (Ok tt)
let_alone Copy kind env w words none = absurd (none (λ e. cc))
let_alone Commit kind env w words none = absurd (none (λ e. cc))
let_alone Abort kind env w words none = (refl, refl)

module _ {S : Type 0} {G : Ghosts S} where
  -- all elements were read or written, or they are not all
  pub read_none : (k kind : Kind) (v : Levels) (n : ℕ) (old new : Held S G) (r : Result (Unit {0}) Fault) (ws : List ℕ)
      (e : Fault) → k ≡ kind → AreAll v k n (Err e) → r ≡ Err e → new ≡ old → ReadsAll kind n old new v (part_read r ws)
  read_none k kind v n old new r ws e is all refused same =
      (Err e, subst (λ x. AreAll v x n (Err e)) is all, (ap (λ x. part_read x ws) refused, same))

  pub read_these : (k kind : Kind) (v : Levels) (n : ℕ) (old new : Held S G) (answer : Result (List ℕ) Fault) → k ≡ kind
      → AreAll v k n (Ok tt) → ReadsPartAt old new v 0 kind 0 n answer → ReadsAll kind n old new v answer
  read_these k kind v n old new answer is all did = (Ok tt, subst (λ x. AreAll v x n (Ok tt)) is all, did)

  pub written_none : (k kind : Kind) (v : Levels) (n : ℕ) (words : List ℕ) (old new : Held S G)
      (r : Result (Unit {0}) Fault) (e : Fault) → k ≡ kind → n ≡ length words → AreAll v k n (Err e) → r ≡ Err e
      → new ≡ old → WritesAll kind words old new v r
  written_none k kind v n words old new r e is long all refused same =
      (Err e, subst (λ m. AreAll v kind m (Err e)) long (subst (λ x. AreAll v x n (Err e)) is all), (refused, same))

  pub written_these : (k kind : Kind) (v : Levels) (n : ℕ) (words : List ℕ) (old new : Held S G)
      (answer : Result (Unit {0}) Fault) → k ≡ kind → n ≡ length words → AreAll v k n (Ok tt)
      → WritesPartAt old new v 0 kind 0 words answer → WritesAll kind words old new v answer
  written_these k kind v n words old new answer is long all did =
      (Ok tt, subst (λ m. AreAll v kind m (Ok tt)) long (subst (λ x. AreAll v x n (Ok tt)) is all), did)
