-- What runs has a schedule; and what threads share stands before their first step.
use Rattle.std.proofs.Common.{◌≡◌, ◌<◌, ℕ, zero, suc, [], ◌∷◌, replicate, slice_index_or}
use Rattle.std.proofs.Common.{refl, sym, ap, subst, ◌∙◌, arith}
use Rattle.std.proofs.lemmas.List.{length-replicate}
use Rattle.jr_model.specs.declared.event.Role.TheVariants.{Outside}
use Rattle.jr_model.proofs.Agreement.{fresh_agree, fresh_are_sound}
use Rattle.jr_world.specs.Doing.Doing.{steps}
use Rattle.jr_world.specs.Plays.{AreFrames}
use Rattle.jr_world.specs.Plays.AreNamed.{no_local}
use Rattle.jr_world.specs.Plays.AreFrames.{no_frame, one_frame}
use Rattle.jr_world.specs.Schedules.{FirstStands, RunsByASchedule, run, stepped}
use Rattle.jr_world.specs.Schedules.Runs.{stops, turn}

-- what is read of a list of equal elements
pub get_replicate : {X : Type 0} (n t : ℕ) (x d : X) → t < n → slice_index_or (replicate n x) t d ≡ x
get_replicate zero t x d l = absurd (omega arith)
get_replicate (suc n) zero x d l = refl
get_replicate (suc n) (suc t) x d l = get_replicate n t x d (omega arith)

pub get_default : {X : Type 0} (n t : ℕ) (x : X) → slice_index_or (replicate n x) t x ≡ x
get_default zero t x = refl
get_default (suc n) zero x = refl
get_default (suc n) (suc t) x = get_default n t x

pub first_stands : FirstStands
first_stands c t l = record {
  objects = refl;
  refs = refl;
  owners = refl;
  used = refl;
  many = length-replicate c.threads Outside;
  roles = λ u. get_default c.threads u Outside;
  lists = length-replicate c.threads ([] ∷ []);
  frames = subst (λ z. AreFrames t [] z ([] ∷ [])) (sym (get_replicate c.threads t ([] ∷ []) [] l))
      (one_frame no_local no_frame);
  posted = tt;
  places = length-replicate c.locals 0;
  agreed = fresh_agree c.locals t [] (λ p. refl);
  sound = fresh_are_sound c.locals;
}

pub runs_by_a_schedule : {A : Type 0} → RunsByASchedule A
runs_by_a_schedule end start stops = ([], refl)
runs_by_a_schedule end start (turn {more = more} {leaves = leaves} t luck is r) =
    let rest = runs_by_a_schedule end (stepped start t luck (steps more leaves)) r in
    ((t, luck) ∷ rest.0, ap (λ d. run rest.0 (stepped start t luck d)) is ∙ rest.1)
