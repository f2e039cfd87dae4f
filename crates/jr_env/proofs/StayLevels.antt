-- A critical region that is opened in a stay, and given up there, for whatever was known.
use Rattle.std.proofs.Common.{◌≡◌, ℕ, Result, Ok, Err, IfOk, IfErr, length, sym, ap, subst, ◌∙◌}
use Rattle.jr_word.specs.declared.config.Config.{Config}
use Rattle.jr_word.specs.declared.fault.Fault.{Fault}
use Rattle.jr_model.specs.State.{State}
use Rattle.jr_model.specs.Calls.{Call}
use Rattle.jr_model.specs.Checks.{Word}
use Rattle.jr_model.specs.Programs.{Program, handed_one, none_known, object}
use Rattle.jr_model.proofs.EachCall.{program_stays}
use Rattle.jr_model.proofs.OpenStays.{one_stay, stays_more}
use Rattle.jr_steps.specs.declared.steps.Steps.{Ghosts}
use Rattle.jr_steps.specs.Knowing.{state_of, Holds}
use Rattle.jr_gate.specs.declared.inside.Inside.{Inside}
use Rattle.jr_frames.specs.declared.held.Held.{Held}
use Rattle.jr_frames.specs.Table.{Table}
use Rattle.jr_critical.specs.declared.levels.Levels.{Levels}
use Rattle.jr_critical.specs.Levels.{level_object, objects_of, opened_within, without_stay, KnowsLevels}
use Rattle.jr_critical.specs.Levels.{OpensWithinOver, StandOver}
use Rattle.jr_env.specs.declared.critical_region.Region.{Region}
use Rattle.jr_env.specs.declared.env.Env.{Env}
use Rattle.jr_env.specs.declared.stay.Stay.{Stay}
use Rattle.jr_env.specs.Criticals.{env_of, held_of, levels_of}
use Rattle.jr_env.specs.LentStays.{env_in, frames_in, held_in}
use Rattle.jr_env.specs.OpenStays.{StaysOn}
use Rattle.jr_env.specs.StayLevels.{StaysWith, StaysWithout, WasNotOpenedIn, WasOpenedIn}

module _ {S : Type 0} {G : Ghosts S} (old new : Held S G) (same : new.frames ≡ old.frames) (w : ℕ)
    (p : Program 0 object) where
  with_level : (v : Levels) → OpensWithinOver old new w (opened_within p) (Ok v) → StaysWith old new v
  with_level v e begun since i s m =
      let x = since i s m in
      let y = e.2.ran x.0 x.1 x.3.1 in
      let r = y.2.ran in
      let at = (G.facts old.steps).stands in
      let none = program_stays at.config at.last at.thread (state_of y.0) (handed_one e.0) p none_known 0
      old.frames.frames old.frames.frames r.acts (Ok (level_object v 0)) r.is in
      let stay = stays_more x.2 r.acts r.did none in
      (y.0, y.1, stay, (one_stay stay, subst (λ (t : Table). KnowsLevels v t.frames y.0) (sym same) y.3))

  without_level : (d : Fault) → OpensWithinOver old new w (opened_within p) (Err d) → StaysOn old new
  without_level d e begun since i s m =
      let x = since i s m in
      let y = e.2.ran x.0 x.1 x.3.1 in
      let r = y.2.ran in
      let at = (G.facts old.steps).stands in
      let none = program_stays at.config at.last at.thread (state_of y.0) (handed_one e.0) p none_known 0
      old.frames.frames old.frames.frames r.acts (Err d) r.is in
      let stay = stays_more x.2 r.acts r.did none in
      (y.0, y.1, stay, (one_stay stay, subst (λ (t : Table). Holds t.frames y.0) (sym same) y.3))

  pub level_opened : (answer : Result Levels (Inside × Fault))
      → OpensWithinOver old new w (opened_within p) (without_stay answer) → IfOk answer (λ v. StaysWith old new v)
  level_opened (Ok v) e = with_level v e
  level_opened (Err d) e = tt

  pub level_refused : (answer : Result Levels (Inside × Fault))
      → OpensWithinOver old new w (opened_within p) (without_stay answer) → IfErr answer (λ d. StaysOn old new)
  level_refused (Ok v) e = tt
  level_refused (Err d) e = without_level d.1 e

-- the levels are given up, and the stay goes on
pub given_up : {S : Type 0} {G : Ghosts S} (old : Held S G) (v : Levels) → StaysWithout old old v
given_up old v begun since i s m = let x = since i s m in (x.0, x.1, x.2, (x.3.0, x.3.1.1))

-- what such an opening left, in the region, and in the stay where it was refused
module _ {S : Type 0} {G : Ghosts S} (old : Stay S G) (env : Env S G) (same : env.held.frames ≡ frames_in old) (w : ℕ)
    (call : Config → ℕ → ℕ → State → Word → Call ℕ) where
  pub opened_in : (v : Levels) → OpensWithinOver (held_in old) env.held w call (Ok v)
      → StandOver v env.held × (length (objects_of v) ≡ 1) → StaysWith (held_in old) env.held v → (r : Region S G)
      → (env_of r).now ≡ env → levels_of r ≡ v → WasOpenedIn old r w call
  opened_in v opens stand on r env_is levels_is = record {
    opens = subst (λ (x : Levels). OpensWithinOver (held_in old) (held_of r) w call (Ok x)) (sym levels_is)
        (subst (λ (e : Env S G). OpensWithinOver (held_in old) e.held w call (Ok v)) (sym env_is) opens);
    one = ap (λ (x : Levels). length (objects_of x)) levels_is ∙ stand.1;
    on = subst (λ (x : Levels). StaysWith (held_in old) (held_of r) x) (sym levels_is)
        (subst (λ (e : Env S G). StaysWith (held_in old) e.held v) (sym env_is) on);
    frames = ap (λ (e : Env S G). e.held.frames) env_is ∙ same;
  }

  pub refused_in : (e : Fault) → OpensWithinOver (held_in old) env.held w call (Err e) → StaysOn (held_in old) env.held
      → (r : Stay S G) → (env_in r).now ≡ env → WasNotOpenedIn old r w call e
  refused_in e refuses on r env_is = record {
    refuses = subst (λ (x : Env S G). OpensWithinOver (held_in old) x.held w call (Err e)) (sym env_is) refuses;
    on = subst (λ (x : Env S G). StaysOn (held_in old) x.held) (sym env_is) on;
    frames = ap (λ (x : Env S G). x.held.frames) env_is ∙ same;
  }
