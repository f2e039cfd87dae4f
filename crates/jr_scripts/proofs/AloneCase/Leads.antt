-- STEPS OF A THREAD ALONE: where they lead.
use Rattle.std.proofs.Common.{ℕ, Bool, false, Result}
use Rattle.jr_word.specs.declared.fault.Fault.{Fault}
use Rattle.jr_world.specs.Doing.{Doing, Shared, whatever}
use Rattle.jr_world.specs.Doing.Doing.{ended, steps}
use Rattle.jr_scripts.proofs.OneRow.Alike.{Kept, Tidy, kept_itself, kept_through}
use Rattle.jr_scripts.proofs.OneRow.Follows.{Gone, LeadsTo, with_luck}

-- the first thread's steps, with nobody between, lead to an end with this answer
pub data EndsIn {A : Type 0} (r : Result A Fault) (z : Shared) : Doing A → Shared → Type 0 where
  at_end : EndsIn r z (ended r) z
  by_luck : {s : Shared} {more : ℕ → Bool → Shared → Doing A} {leaves : ℕ → Bool → Shared → Shared} (luck : Bool)
      → EndsIn r z (more 0 luck s) (leaves 0 luck s) → EndsIn r z (steps more leaves) s

-- what one step leads to
pub step_of : {A : Type 0} {r : Result A Fault} {z s : Shared} {more : ℕ → Bool → Shared → Doing A}
    {leaves : ℕ → Bool → Shared → Shared} → EndsIn r z (steps more leaves) s
    → (luck : Bool) × EndsIn r z (more 0 luck s) (leaves 0 luck s)
step_of (by_luck luck e) = (luck, e)

-- THE PARTS of one program and then the other: what the one ends with, and what it leaves
pub record Parts {A B : Type 0} (K : Result A Fault → Shared → Type 0) (r : Result B Fault) (z : Shared)
    (next : Result A Fault → Doing B) (s : Shared) : Type 0 where
  pub answer : Result A Fault
  pub between : Shared
  pub so : K answer between
  pub tidy : Tidy between
  pub kept : Kept 0 s between
  pub rest : EndsIn r z (next answer) between

pub parts_of : {A B : Type 0} {r : Result B Fault} {z : Shared} (P : Gone) → P (λ t. false)
    → (K : Result A Fault → Shared → Type 0) (d : Doing A) (next : Result A Fault → Doing B) (s : Shared) → Tidy s
    → LeadsTo P 0 K d s → EndsIn r z (whatever d next) s → Parts K r z next s
parts_of P may K (ended q) next s tidy leads e =
    record { answer = q; between = s; so = leads; tidy = tidy; kept = kept_itself 0 s; rest = e }
parts_of P may K (steps more leaves) next s tidy leads e =
    let one = step_of e in
    let x = with_luck P 0 may K more leaves s tidy leads one.0 in
    let p = parts_of P may K (more 0 one.0 s) next (leaves 0 one.0 s) x.1 x.0 one.1 in record {
      answer = p.answer;
      between = p.between;
      so = p.so;
      tidy = p.tidy;
      kept = kept_through 0 s (leaves 0 one.0 s) p.between x.2 p.kept;
      rest = p.rest;
    }
