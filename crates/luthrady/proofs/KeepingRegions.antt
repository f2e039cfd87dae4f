-- A critical region that is kept behind a handle from one function to the next.
use Rattle.std.proofs.Common.{◌≡◌, ◌<◌, ◌∙◌, ◌==◌, ℕ, Bool, true, List, Option, Some, None, Result, Ok, Err, ap, arith}
use Rattle.std.proofs.Common.{length, refl, subst, sym}
use Rattle.std.specs.Prelude.{IfErr, IfOk}
use Rattle.std.specs.Box.{with_value}
use Rattle.std.specs.Global.{Box}
use Rattle.jr_word.specs.declared.config.Config.{Config}
use Rattle.jr_word.specs.declared.fault.Fault.{Fault}
use Rattle.jr_model.specs.State.{State}
use Rattle.jr_model.specs.Calls.{Call}
use Rattle.jr_model.specs.Checks.{Word}
use Rattle.jr_steps.specs.declared.steps.Steps.{Ghosts}
use Rattle.jr_critical.specs.declared.levels.Levels.{Levels}
use Rattle.jr_critical.specs.Levels.{GivesUpLastOver, LeavesBefore, NestsOver, WasAdded, objects_of}
use Rattle.jr_env.specs.declared.env.Env.{Env}
use Rattle.jr_env.specs.declared.levels_beside.First.{First}
use Rattle.jr_env.specs.Criticals.{HasEntered, WasRefused}
use Rattle.jr_env.specs.Envs.{IsOutside}
use Rattle.jr_env.specs.Retried.{TriesToOpen, first_call, first_word}
use Rattle.jr_env.specs.StandingRegions.{EndsUndisturbed, StandsOn, StandsSince}
use Rattle.luthrady.specs.declared.handles.EnvHandle.{EnvHandle}
use Rattle.luthrady.specs.declared.held.EnvPlace.{EnvPlace}
use Rattle.luthrady.specs.declared.held.InRegion.{InRegion}
use Rattle.luthrady.specs.declared.held.Native.{Native}
use Rattle.luthrady.specs.declared.held.Presence.{Presence}
use Rattle.luthrady.specs.declared.held.Presence.TheVariants.{Critical, Ready}
use Rattle.luthrady.specs.Behind.{with_env_of}
use Rattle.luthrady.specs.KeptRegions.{AddsToRegion, ByEnvPlace, DoneAtLevel, EntersRegion, InItsRegion, LeavesRegion}
use Rattle.luthrady.specs.KeptRegions.{TellsLevelLength, WasDoneWith, count_left}
use Rattle.luthrady.specs.Places.{at_place, env_mark, is_env}

-- what was done with the env of a place that was lent was done with the env behind the handle
pub done_with : {A : Type 0} (did : Presence → Presence → Result A Fault → Type 0) (h h' : EnvHandle) (a b : EnvPlace)
    (answer : Result A Fault) → is_env h ≡ true → h' ≡ h → a ≡ h'.value → b.mark ≡ a.mark
    → did a.presence b.presence answer → WasDoneWith did h (with_env_of h' b) answer
done_with did h h' a b answer is same lent marked done = (
  ap (λ (x : EnvHandle). x.at) same,
  subst (λ (t : Bool). ByEnvPlace t did h (with_env_of h' b) answer) (sym is) (
    ap (λ (k : ℕ). at_place h'.at (k == env_mark)) marked
        ∙ ap (λ (x : EnvPlace). at_place h'.at (x.mark == env_mark)) lent ∙ ap is_env same ∙ is,
    subst (λ (p : Presence). did p b.presence answer)
        (ap (λ (x : EnvPlace). x.presence) (lent ∙ ap (λ (x : EnvHandle). x.value) same)) done,
  ),
)

-- what was done by the env of a region at a level that stands was done at that level
pub done_at_level : {A : Type 0} (done : Native → Type 0) (r s : InRegion) (k : Native) (level : ℕ)
    (answer : Result A Fault) → k ≡ r.native.value → s.levels ≡ r.levels
    → StandsOn k.env.held s.native.value.env.held r.levels s.levels
    → s.native.value.env.held.frames ≡ k.env.held.frames → s.native.value.marker ≡ k.marker
    → level < length (objects_of r.levels) → done k → DoneAtLevel r s level answer (done r.native.value)
done_at_level done r s k level answer same levels on frames marker fits did =
    let there = subst (λ (n : Native). (StandsOn n.env.held s.native.value.env.held r.levels s.levels
    × (s.native.value.env.held.frames ≡ n.env.held.frames) × (s.native.value.marker ≡ n.marker)) × done n) same
    ((on, frames, marker), did) in
    (levels, there.0, (λ few. absurd (omega arith)), (λ _. there.1))

-- a try to open a region, by what each answer says
pub tried_to_open : {S : Type 0} {G : Ghosts S} (first : First) (old new : Env S G) (r : Result Levels Fault)
    → IfOk r (λ v. HasEntered old new v (first_word first) (first_call first))
    → IfOk r (λ v. IsOutside old → StandsSince old.held new.held v)
    → IfErr r (λ e. WasRefused old new (first_word first) (first_call first) e) → TriesToOpen first old r new
tried_to_open first old new (Ok v) entered since refused = (entered, since)
tried_to_open first old new (Err e) entered since refused = refused

-- what was tried with an env that was lent was tried with the env
pub entered_by : (first : First) (k : Native) (n : Native) (r : InRegion) → k ≡ n
    → TriesToOpen first k.env (Ok r.levels) r.native.value.env → r.native.value.marker ≡ k.marker
    → EntersRegion (first_call first) (first_word first) n (Critical r) (Ok 0)
entered_by first k n r same tried marker =
    let there = subst (λ (x : Native). TriesToOpen first x.env (Ok r.levels) r.native.value.env
    × (r.native.value.marker ≡ x.marker)) same (tried, marker) in
    (r, refl, refl, there.0.0, there.0.1, there.1)

pub refused_by_env : (first : First) (k : Native) (n : Native) (m : Box Native) (e : Fault) → k ≡ n
    → TriesToOpen first k.env (Err e) m.value.env → m.value.marker ≡ k.marker
    → EntersRegion (first_call first) (first_word first) n (Ready m) (Err e)
refused_by_env first k n m e same tried marker =
    let there = subst (λ (x : Native). TriesToOpen first x.env (Err e) m.value.env × (m.value.marker ≡ x.marker)) same
    (tried, marker) in
    (m, refl, there.0, there.1)

-- so with a level that was added
pub added_by : (call : Config → ℕ → ℕ → State → List ℕ → Word → Call (ℕ × List ℕ)) (w : ℕ) (r s : InRegion)
    (k : Native) (answer : Result ℕ Fault) → k ≡ r.native.value
    → NestsOver k.env.held s.native.value.env.held w call r.levels s.levels answer
    → StandsOn k.env.held s.native.value.env.held r.levels s.levels
    → s.native.value.env.held.frames ≡ k.env.held.frames → s.native.value.marker ≡ k.marker
    → IfOk answer (λ n. WasAdded r.levels s.levels n) → IfErr answer (λ e. s.levels ≡ r.levels)
    → AddsToRegion call w r (Critical s) answer
added_by call w r s k answer same nests on frames marker added kept =
    let there = subst (λ (n : Native). NestsOver n.env.held s.native.value.env.held w call r.levels s.levels answer
    × (StandsOn n.env.held s.native.value.env.held r.levels s.levels
    × (s.native.value.env.held.frames ≡ n.env.held.frames) × (s.native.value.marker ≡ n.marker))) same
    (nests, (on, frames, marker)) in
    (s, refl, there.0, there.1, added, kept)

-- and with the last level that was given up
pub some_left : (r s : InRegion) (k : Native) (n : ℕ) → k ≡ r.native.value
    → GivesUpLastOver k.env.held s.native.value.env.held r.levels (Some s.levels)
    → StandsOn k.env.held s.native.value.env.held r.levels s.levels
    → s.native.value.env.held.frames ≡ k.env.held.frames → s.native.value.marker ≡ k.marker
    → LeavesBefore r.levels (Some s.levels) → n ≡ length (objects_of s.levels)
    → (left : Option Levels) × (n ≡ count_left left) × LeavesBefore r.levels left × LeavesRegion r (Critical s) left
some_left r s k n same gives on frames marker before many =
    let there = subst (λ (x : Native). GivesUpLastOver x.env.held s.native.value.env.held r.levels (Some s.levels)
    × (StandsOn x.env.held s.native.value.env.held r.levels s.levels
    × (s.native.value.env.held.frames ≡ x.env.held.frames) × (s.native.value.marker ≡ x.marker))) same
    (gives, (on, frames, marker)) in
    (Some s.levels, many, before, (s, refl, refl, there.0, there.1))

pub none_left : (r : InRegion) (m : Box Native) (k : Native) → k ≡ r.native.value
    → GivesUpLastOver k.env.held m.value.env.held r.levels None
    → EndsUndisturbed k.env.held m.value.env.held r.levels
    → m.value.env.held.frames ≡ k.env.held.frames → IsOutside m.value.env → m.value.marker ≡ k.marker
    → LeavesBefore r.levels None
    → (left : Option Levels) × (0 ≡ count_left left) × LeavesBefore r.levels left × LeavesRegion r (Ready m) left
none_left r m k same gives undisturbed frames outside marker before =
    let there = subst (λ (x : Native). GivesUpLastOver x.env.held m.value.env.held r.levels None
    × EndsUndisturbed x.env.held m.value.env.held r.levels
    × (m.value.env.held.frames ≡ x.env.held.frames) × (m.value.marker ≡ x.marker)) same
    (gives, undisturbed, frames, marker) in
    (None, refl, before, (m, refl, there.0, there.1, there.2, outside, there.3))

-- what was done in a region that stands in a place
pub done_in_its_region : {A : Type 0} (did : InRegion → InRegion → Result A Fault → Type 0) (p : Presence)
    (r s : InRegion) (answer : Result A Fault) → p ≡ Critical r → did r s answer
    → InItsRegion did p (Critical s) answer
done_in_its_region did p r s answer is done =
    subst (λ (x : Presence). InItsRegion did x (Critical s) answer) (sym is) (s, refl, done)

pub told_in_its_region : (level : ℕ) (p : Presence) (r : InRegion) (answer : Result ℕ Fault) → p ≡ Critical r
    → TellsLevelLength r.levels level answer
    → InItsRegion (λ (x y : InRegion) (a : Result ℕ Fault). (y ≡ x) × TellsLevelLength x.levels level a) p p answer
told_in_its_region level p r answer is tells = subst (λ (q : Presence).
    InItsRegion (λ (x y : InRegion) (a : Result ℕ Fault). (y ≡ x) × TellsLevelLength x.levels level a) q q answer)
    (sym is) (r, refl, (refl, tells))
