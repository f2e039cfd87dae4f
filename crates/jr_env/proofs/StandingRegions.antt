-- The calls of a region, for whatever was known, make one stay, which no collection disturbs.
use Rattle.std.proofs.Common.{◌≡◌, ◌≤◌, ◌+◌, ◌∷◌, ◌++◌, [], ℕ, zero, suc, length, List, Option, Some, None}
use Rattle.std.proofs.Common.{Result, Ok, Err, IfErr, IfOk, IfNone, IfSome, inl, inr, refl, sym, ap, subst, ◌∙◌, arith}
use Rattle.std.proofs.lemmas.List.{append-nil, length-append, length-map}
use Rattle.jr_word.specs.declared.config.Config.{Config}
use Rattle.jr_word.specs.declared.fault.Fault.{Fault}
use Rattle.jr_model.specs.declared.event.Role.TheVariants.{Outside}
use Rattle.jr_model.specs.declared.event.Act.{Act}
use Rattle.jr_model.specs.declared.event.Act.TheVariants.{Gate}
use Rattle.jr_model.specs.declared.event.GateAct.TheVariants.{Leave}
use Rattle.jr_model.specs.State.{State}
use Rattle.jr_model.specs.Frames.{Frames}
use Rattle.jr_model.specs.History.{by, Did, PassView}
use Rattle.jr_model.specs.Calls.{Call, Ran, opened, ◌>>=◌}
use Rattle.jr_model.specs.Checks.{Word}
use Rattle.jr_model.specs.Parts.{nested, region_release}
use Rattle.jr_model.specs.Programs.{AnswerKind, AnswerOf, Program, at_object, handed_none, handed_one, none_known}
use Rattle.jr_model.specs.Programs.{object, work_of}
use Rattle.jr_model.specs.Windows.{Ends as Last}
use Rattle.jr_model.specs.OpenStays.{HasStayed, IsOneStay, NoneLeaves}
use Rattle.jr_model.proofs.OpenStays.{one_stay, one_stay_left, stays_more}
use Rattle.jr_model.proofs.EachCall.{Stays, program_stays}
use Rattle.jr_steps.specs.declared.known.Known.{Known}
use Rattle.jr_steps.specs.declared.steps.Steps.{Ghosts}
use Rattle.jr_steps.specs.Knowing.{Facts, Leads, view, state_of, Holds}
use Rattle.jr_frames.specs.declared.held.Held.{Held}
use Rattle.jr_frames.specs.Table.{Table}
use Rattle.jr_critical.specs.declared.level.Level.{Level}
use Rattle.jr_critical.specs.declared.levels.Levels.{Levels}
use Rattle.jr_critical.specs.Levels.{GivesUpAll, GivesUpAllOver, GivesUpLast, GivesUpLastOver, KnowsLevels}
use Rattle.jr_critical.specs.Levels.{LeavesBefore, Nests, NestsOver, Opens, OpensOver, Reaches}
use Rattle.jr_critical.specs.Levels.{StandOver, StandsOutside, level_nested, level_object, nested_by, objects_of}
use Rattle.jr_critical.specs.Levels.{opened_by}
use Rattle.jr_env.specs.StandingRegions.{EndsUndisturbed, StandsOn, StandsSince}
use Rattle.jr_env.specs.declared.critical_region.Region.{Region}
use Rattle.jr_env.specs.declared.env.Env.{Env}
use Rattle.jr_env.specs.Criticals.{HasEntered, WasRefused, env_of, held_of, levels_of}
use Rattle.jr_env.specs.Envs.{IsOutside}
use Rattle.jr_env.specs.OpenStays.{BehindExit}
use Rattle.jr_env.specs.Works.{EndsStayOver}
use Rattle.jr_env.proofs.EndedStays.{leaves}

-- an opening that was answered enters, and its work has no exit
was_opened : {old new : PassView} {f g : Frames} {o : ℕ} (work : Call ℕ) → Stays work
    → Ran old new f g (opened work) (Ok o) → HasStayed old new
was_opened {old} {new} {f} {g} {o} work stays r = go r.is
  where
    go : opened work f r.acts (Ok o) g → HasStayed old new
    go (inl bad) = absurd (let e = bad.1 in cc)
    go (inr is) = record { acts = is.0; did = subst (Did old new) is.1.0 r.did; stays = stays f g is.0 (Ok o) is.1.1 }

-- a call of a region was made between what was known and what is
record Continues (j k : Known) : Type 0 where
  acts : List Act
  did : Did (view j) (view k) acts
  stays : NoneLeaves acts

-- a level more adds no act
nests_stay : (levels : List ℕ) (first : Call ℕ) → Stays first → Stays (first >>= nested levels)
nests_stay levels first stays f g acts answer (inl y) =
    subst NoneLeaves (sym (y.4 ∙ (ap (λ l. y.2 ++ l) y.6.0 ∙ append-nil y.2))) (stays f y.1 y.2 (Ok y.0) y.5)
nests_stay levels first stays f g acts answer (inr y) = stays f g acts (Err y.0) y.2

-- with a level left, a release is no exit
gives_up : (f g : Frames) (acts : List Act) (n : ℕ) → 2 ≤ n → region_release n f acts (Ok tt) g → NoneLeaves acts
gives_up f g acts zero few is = absurd (omega arith)
gives_up f g acts (suc zero) few is = absurd (omega arith)
gives_up f g acts (suc (suc n)) few is = subst NoneLeaves (sym is.0) tt

-- how many levels there were, where these are left
two_levels : (v w : Levels) → LeavesBefore v (Some w) → 1 ≤ length (objects_of w) → 2 ≤ length (objects_of v)
two_levels v w before some =
    let longer : length v.levels.items ≡ length w.levels.items + 1 =
    ap length before.1 ∙ length-append w.levels.items (before.0 ∷ []) in
    let left : 1 ≤ length w.levels.items =
    subst (λ n. 1 ≤ n) (length-map w.levels.items (λ (l : Level). l.object)) some in
    subst (λ n. 2 ≤ n) (sym (length-map v.levels.items (λ (l : Level). l.object))) (omega arith)

module _ {S : Type 0} (facts : S → Facts) where
  -- the region stands, over steps and frames
  abbrev Since : S → S → Frames → Frames → Levels → Type 0
  Since o a g f v = Leads facts o a (Holds g) (λ j k. HasStayed (view j) (view k)) (λ j k.
      IsOneStay (view j) (view k) [] × KnowsLevels v f k)

  -- it was not disturbed up to its end
  abbrev Undisturbed : S → S → Frames → Frames → Type 0
  Undisturbed o a g f =
      Leads facts o a (Holds g) (λ j k. IsOneStay (view j) (view k) (by j.thread (Gate Leave) ∷ [])) (λ j k. Holds f k)

  -- what a call of the region makes of what is known
  abbrev Further : S → S → Frames → Levels → Levels → Type 0
  Further a b f v u = Leads facts a b (KnowsLevels v f) (λ j k. Continues j k) (λ j k. KnowsLevels u f k)

  -- what its end makes of it
  abbrev Ends : S → S → Frames → Levels → Type 0
  Ends a b f v =
      Leads facts a b (KnowsLevels v f) (λ j k. Ran (view j) (view k) f f (region_release 1) (Ok tt)) (λ j k. Holds f k)

  module _ (o a b : S) (g f : Frames) (v : Levels) where
    further : (u : Levels) → Further a b f v u → Since o a g f v → Since o b g f u
    further u next p i s m =
        let x = p i s m in
        let y = next x.0 x.1 x.3.1 in
        let stay = stays_more x.2 y.2.acts y.2.did y.2.stays in
        (y.0, y.1, stay, (one_stay stay, y.3))

    ends : Ends a b f v → Since o a g f v → Undisturbed o b g f
    ends next p i s m =
        let x = p i s m in
        let y = next x.0 x.1 x.3.1 in (
          y.0,
          y.1,
          one_stay_left x.2 (subst (Did (view x.0) (view y.0)) y.2.is.0 y.2.did)
              (subst (Last (view x.0) (view y.0)) y.2.is.0 y.2.window.last refl),
          y.3,
        )

  module _ (a b : S) (f : Frames) (v : Levels) where
    all_end : GivesUpAll facts a b f v → Ends a b f v
    all_end e j s m = let x = e.ran j s m in (x.0, x.1, x.2.ran, x.3.1)

    last_ends : LeavesBefore v None → GivesUpLast facts a b f v None → Ends a b f v
    last_ends one e j s m =
        let x = e.ran j s m in
        (x.0, x.1, subst (λ n. Ran (view j) (view x.0) f f (region_release n) (Ok tt)) one x.2.ran, x.3.1)

    level_gives_up : (w : Levels) → LeavesBefore v (Some w) → 1 ≤ length (objects_of w)
        → GivesUpLast facts a b f v (Some w) → Further a b f v w
    level_gives_up w before some e j s m =
        let x = e.ran j s m in
        let r = x.2.ran in (
          x.0,
          x.1,
          record {
            acts = r.acts;
            did = r.did;
            stays = gives_up f f r.acts (length (objects_of v)) (two_levels v w before some) r.is;
          },
          (x.3.0.0, x.3.1),
        )

    opens_at : (p : Program 0 object) (w : ℕ) → Opens facts a b f w (opened_by p) (Ok v) → Since a b f f v
    opens_at p w e j s m =
        let x = e.2.ran j s m in
        let at = (facts a).stands in
        let to = state_of x.0 in
        let stay = was_opened (work_of at.config at.last at.thread to (handed_one e.0) p)
        (program_stays at.config at.last at.thread to (handed_one e.0) p none_known 0) x.2.ran in
        (x.0, x.1, stay, (one_stay stay, (x.3.0.0, x.3.1)))

    level_nests : (p : ℕ → Program 0 object) (w : ℕ) (u : Levels) (answer : Result ℕ Fault)
        → Nests facts a b f w (nested_by p) v u answer → Further a b f v u
    level_nests p w u answer e j s m =
        let x = e.2.ran j s m in
        let r = x.2.ran in
        let at = (facts a).stands in
        let to = state_of x.0 in
        let q = p (length (objects_of v)) in
        let none = nests_stay (objects_of v) (work_of at.config at.last at.thread to (handed_one e.0) q) (program_stays
        at.config at.last at.thread to (handed_one e.0) q none_known 0) f f r.acts (level_nested answer u) r.is in
        (x.0, x.1, record { acts = r.acts; did = r.did; stays = none }, x.3)

    level_reached : {n : ℕ} {r : AnswerKind} (p : Program n r) (level : ℕ) (answer : Result (AnswerOf r) Fault)
        → Reaches facts a b f v (λ c last t s. at_object c last t s (level_object v level) p) answer
        → Further a b f v v
    level_reached p level answer e j s m =
        let x = e.ran j s m in
        let r = x.2.ran in
        let at = (facts a).stands in
        let none = program_stays at.config at.last at.thread (state_of x.0) handed_none p none_known
        (level_object v level) f f r.acts answer r.is in
        (x.0, x.1, record { acts = r.acts; did = r.did; stays = none }, x.3.1)

-- THE CALLS OF AN ENV, whose frames stay as they were

module _ {S : Type 0} {G : Ghosts S} (old new : Held S G) (same : new.frames ≡ old.frames) (v : Levels) where
  goes : (u : Levels) → Further G.facts old.steps new.steps old.frames.frames v u → StandsOn old new v u
  goes u next begun p = subst (λ (t : Table). Since G.facts begun.steps new.steps begun.frames.frames t.frames u)
      (sym same) (further G.facts begun.steps old.steps new.steps begun.frames.frames old.frames.frames v u next p)

  undisturbed : Ends G.facts old.steps new.steps old.frames.frames v → EndsUndisturbed old new v
  undisturbed next begun p =
      subst (λ (t : Table). Undisturbed G.facts begun.steps new.steps begun.frames.frames t.frames) (sym same)
      (ends G.facts begun.steps old.steps new.steps begun.frames.frames old.frames.frames v next p)

  pub all_undisturbed : GivesUpAllOver old new v → EndsUndisturbed old new v
  all_undisturbed e = undisturbed (all_end G.facts old.steps new.steps old.frames.frames v e)

  pub last_undisturbed : (left : Option Levels) → LeavesBefore v left → GivesUpLastOver old new v left
      → IfNone left (EndsUndisturbed old new v)
  last_undisturbed None one e = undisturbed (last_ends G.facts old.steps new.steps old.frames.frames v one e)
  last_undisturbed (Some w) before e = tt

  pub stands_before : (left : Option Levels) → LeavesBefore v left → IfSome left (λ w. StandOver w new)
      → GivesUpLastOver old new v left → IfSome left (λ w. StandsOn old new v w)
  stands_before None one stand e = tt
  stands_before (Some w) before stand e =
      goes w (level_gives_up G.facts old.steps new.steps old.frames.frames v w before stand.some e)

  pub stands_over : (p : ℕ → Program 0 object) (w : ℕ) (u : Levels) (answer : Result ℕ Fault)
      → NestsOver old new w (nested_by p) v u answer → StandsOn old new v u
  stands_over p w u answer e = goes u (level_nests G.facts old.steps new.steps old.frames.frames v p w u answer e)

  pub stands_reached : {n : ℕ} {r : AnswerKind} (p : Program n r) (level : ℕ) (answer : Result (AnswerOf r) Fault)
      → Reaches G.facts old.steps new.steps old.frames.frames v
      (λ c last t s. at_object c last t s (level_object v level) p) answer
      → StandsOn old new v v
  stands_reached p level answer e =
      goes v (level_reached G.facts old.steps new.steps old.frames.frames v p level answer e)

-- the opening, once a stay that was left has been ended
module _ {S : Type 0} {G : Ghosts S} (old mid new : Held S G) (ended : EndsStayOver old mid)
    (same : new.frames ≡ mid.frames) where
  stands_from : (p : Program 0 object) (w : ℕ) (v : Levels) → OpensOver mid new w (opened_by p) (Ok v)
      → (G.facts old.steps).stands.role ≡ Outside → StandsSince old new v
  stands_from p w v opens out =
      subst (λ (a : S). Since G.facts a new.steps old.frames.frames new.frames.frames v) (ended.same out)
      (subst (λ (t : Table). Since G.facts mid.steps new.steps t.frames new.frames.frames v) ended.frames
      (subst (λ (t : Table). Since G.facts mid.steps new.steps mid.frames.frames t.frames v) (sym same)
      (opens_at G.facts mid.steps new.steps mid.frames.frames v p w opens)))

  pub stands_at : (p : Program 0 object) (w : ℕ) (answer : Result Levels Fault)
      → OpensOver mid new w (opened_by p) answer
      → IfOk answer (λ v. (G.facts old.steps).stands.role ≡ Outside → StandsSince old new v)
  stands_at p w (Ok v) opens = stands_from p w v opens
  stands_at p w (Err e) opens = tt

-- what such an opening left, over an env
module _ {S : Type 0} {G : Ghosts S} (old new : Env S G) (mid : Held S G) (ended : EndsStayOver old.held mid)
    (same : new.held.frames ≡ mid.frames) (call : Config → ℕ → ℕ → State → Word → Call ℕ) (w : ℕ) where
  opens_from : (answer : Result Levels Fault) → OpensOver mid new.held w call answer → IsOutside old
      → OpensOver old.held new.held w call answer
  opens_from answer p out =
      subst (λ (a : S). Opens G.facts a new.held.steps old.held.frames.frames w call answer) (ended.same out)
      (subst (λ (t : Table). Opens G.facts mid.steps new.held.steps t.frames w call answer) ended.frames p)

  opens_behind : (answer : Result Levels Fault) → OpensOver mid new.held w call answer
      → BehindExit old.held (λ m. Opens G.facts m new.held.steps old.held.frames.frames w call answer)
  opens_behind answer p inside = (
    mid.steps,
    leaves G.facts old.held.steps mid.steps old.held.frames.frames (ended.left inside),
    subst (λ (t : Table). Opens G.facts mid.steps new.held.steps t.frames w call answer) ended.frames p,
  )

  pub has_entered : (answer : Result Levels Fault) → OpensOver mid new.held w call answer
      → IfOk answer (λ v. StandOver v new.held × (length (objects_of v) ≡ 1))
      → IfOk answer (λ v. HasEntered old new v w call)
  has_entered (Ok v) p ok = record {
    opens = opens_from (Ok v) p;
    left = opens_behind (Ok v) p;
    one = ok.1;
    frames = same ∙ ended.frames;
    stand = ok.0;
  }
  has_entered (Err e) p ok = tt

  pub was_refused : (answer : Result Levels Fault) → OpensOver mid new.held w call answer
      → IfErr answer (λ e. StandsOutside new.held) → IfErr answer (λ e. WasRefused old new w call e)
  was_refused (Ok v) p err = tt
  was_refused (Err e) p err = record {
    refuses = opens_from (Err e) p;
    left = opens_behind (Err e) p;
    frames = same ∙ ended.frames;
    outside = err.role_is;
  }

-- a region over an env and levels which stand since an entry stands since then
pub since_over : {S : Type 0} {G : Ghosts S} (begun : Held S G) (env : Env S G) (v : Levels) (r : Region S G)
    → (env_of r).now ≡ env → levels_of r ≡ v → StandsSince begun env.held v
    → StandsSince begun (held_of r) (levels_of r)
since_over {S} {G} begun env v r same levels =
    subst (λ (x : Env S G × Levels). StandsSince begun (x.0).held x.1) (λ i. (sym same i, sym levels i))
