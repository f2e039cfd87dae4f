-- How threads come to the place of a room, and go.
use Rattle.std.proofs.Common.{◌≡◌, ◌∙◌, ◌==◌, ◌+◌, ◌↔◌, ℕ, zero, suc, Bool, true, false, List, [], ◌∷◌}
use Rattle.std.proofs.Common.{length}
use Rattle.std.proofs.Common.{Result, Ok, Err, Option, None, ⊎_elim, Some, ap, arith, refl, rules, subst, sym}
use Rattle.std.proofs.Math.Logic.{∥∥₁_elim}
use Rattle.std.proofs.Props.{props}
use Rattle.std.specs.Prelude.{◌≤◌, IfErr}
use Rattle.std.proofs.lemmas.Bool.{false≢true}
use Rattle.std.specs.Global.{Box}
use Rattle.std.specs.List.{All, AllZip}
use Rattle.std.proofs.lemmas.List.{length-append, length-map}
use Rattle.std.proofs.lemmas.List.Elements.{All-nil, All-cons}
use Rattle.jr_word.specs.declared.config.Config.{Config}
use Rattle.jr_word.specs.declared.fault.Fault.{Fault}
use Rattle.jr_word.specs.declared.fault.Fault.TheVariants.{Barred, InCritical, LeftInside, NotFresh, Size}
use Rattle.jr_word.specs.Config.{in_limits}
use Rattle.jr_word.proofs.Limits.{limited}
use Rattle.jr_model.specs.declared.summary.Summary.{Summary}
use Rattle.jr_model.specs.declared.event.Act.{Act}
use Rattle.jr_model.specs.Frames.{Frames}
use Rattle.jr_model.specs.Calls.{entered}
use Rattle.jr_model.specs.References.{freeing}
use Rattle.jr_steps.specs.declared.steps.Steps.{Ghosts as StepsGhosts}
use Rattle.jr_rule.specs.declared.cells.Cells.{Ghosts}
use Rattle.jr_rule.specs.declared.over.StepsOver.{StepsOver}
use Rattle.jr_rule.specs.declared.owned_cells.OwnedCells.{OwnedCells}
use Rattle.jr_rule.specs.Passes.{numbers_below}
use Rattle.jr_env.specs.declared.env.Env.{Env}
use Rattle.jr_env.specs.Deeds.{free_locals}
use Rattle.jr_env.specs.Envs.{Does}
use Rattle.jr_env.proofs.EnvCalls.{outside_or}
use Rattle.jr_owned.specs.Owners.{AreEnvsOpened, IsEnvOver}
use Rattle.jr_owned.specs.Pools.{IsIdle}
use Rattle.luthrady.specs.declared.handles.EnvHandle.{EnvHandle}
use Rattle.luthrady.specs.declared.handles.RoomHandle.{RoomHandle}
use Rattle.luthrady.specs.declared.held.Native.{Native}
use Rattle.luthrady.specs.declared.held.Opened.{Opened}
use Rattle.luthrady.specs.declared.held.Presence.{Presence}
use Rattle.luthrady.specs.declared.held.Presence.TheVariants.{Critical, Detached, Ready}
use Rattle.luthrady.specs.Threads.{ComesBack, EndsAs, EnvIsFreed, IsDetachedBy, LeavesSome, RoomIsFreed, TakesBack}
use Rattle.luthrady.specs.Threads.{UnlessAttached, WasClosedBy}
use Rattle.luthrady.specs.Behind.{is_attached}
use Rattle.luthrady.specs.Replies.{nothing_told, reply_of}
use Rattle.luthrady.specs.declared.reply.Reply.{Reply}
use Rattle.luthrady.specs.Calls.{ByThread}
use Rattle.luthrady.specs.Places.{absence, is_env, native_behind}

freed_frames : (old new : Frames) (acts : List Act) → entered freeing old acts (Ok tt) new → new.frames ≡ [] ∷ []
freed_frames old new acts d = ⊎_elim
    (λ x. let no : ◌≡◌ {A = Result (Unit {0}) Fault} (Ok tt) (Err Barred) = x.1 in absurd cc)
    (λ x. ap (λ (f : Frames). f.frames) x.2.2) d

-- the envs over the steps of owners are idle, one an owner; so is one whose local references were freed
module _ {S : Type 0} {G : StepsGhosts S} where
  idle_over : (s : S) (env : Env S G) → IsEnvOver s env → IsIdle env
  idle_over s env over =
      record { outside = over.outside; frames = ap (λ (f : Frames). f.frames) over.frames }

  pub idle_freed : (old new : Env S G) → Does old new free_locals (Ok tt) → IsIdle new
  idle_freed old new d = record {
    outside = d.outside;
    frames = ∥∥₁_elim old.held.own.agrees (hlevel props) (λ k. ⊎_elim
        (λ out. let x = (d.does out).did k.0 k.1 k.2 in
        freed_frames _ new.held.frames.frames x.3.0.ran.acts x.3.0.ran.is)
        (λ no. let x = (d.left no).did k.0 k.1 k.2 in
        freed_frames _ new.held.frames.frames x.3.2.0.ran.acts x.3.2.0.ran.is)
        (outside_or (G.facts old.held.steps).stands.role));
  }

  all_idle : (owners : List S) (envs : List (Env S G)) → AllZip IsEnvOver owners envs → All (λ e. IsIdle e) envs
  all_idle [] [] z = All-nil (λ e. IsIdle e)
  all_idle (s ∷ ss) (e ∷ es) z = All-cons (λ x. IsIdle x) e es (idle_over s e z.0) (all_idle ss es z.1)
  all_idle [] (e ∷ es) z = absurd z
  all_idle (s ∷ ss) [] z = absurd z

  as_many : (owners : List S) (envs : List (Env S G)) → AllZip IsEnvOver owners envs → length envs ≡ length owners
  as_many [] [] z = refl
  as_many (s ∷ ss) (e ∷ es) z = ap (λ n. suc n) (as_many ss es z.1)
  as_many [] (e ∷ es) z = absurd z
  as_many (s ∷ ss) [] z = absurd z

long : (n : ℕ) → length (numbers_below n) ≡ n
long zero = refl
long (suc n) = let e = length-append (numbers_below n) (n ∷ []) in let f = long n in omega arith

-- what was opened is within the limits
pub in_limits_met : {A : Type 0} (r : Result A Fault) (x : A) (b : Bool) → (r ≡ Err Size) ↔ (b ≡ false) → r ≡ Ok x
    → b ≡ true
in_limits_met r x true i is = refl
in_limits_met {A} r x false i is =
    let no : ◌≡◌ {A = Result A Fault} (Ok x) (Err Size) = sym is ∙ i.1 refl in absurd cc

module _ {P : Type 0} {G : Ghosts (OwnedCells 4294967295) P} {H : StepsGhosts (StepsOver (OwnedCells 4294967295) P G)}
    (c : Config) (envs : List (Env (StepsOver (OwnedCells 4294967295) P G) H)) (o : AreEnvsOpened c envs) where
  pub opened_idle : All (λ e. IsIdle e) envs
  opened_idle = all_idle o.owners envs o.each

  pub opened_few : in_limits c ≡ true → length envs + 0 ≤ 4294967295
  opened_few l =
      let at_most = (limited c l).threads.1 in
      let many = as_many o.owners envs o.each in
      let owners = sym (length-map o.owners (λ s. s.cells.cells.thread))
      ∙ ap (λ (ns : List ℕ). length ns) o.opened.threads
      ∙ long c.threads in
      omega arith

-- an env that is let go closes the room where no thread is attached any more
pub let_go : (old new : Opened) (n : Native) (answer : Result (Option Summary) Fault) → old.released ≡ true
    → new.envs.items ≡ old.envs.items → EndsAs (new.attached == 0) n answer → ComesBack old.released old new n answer
let_go old new n answer gone same ends = subst (λ (b : Bool). ComesBack b old new n answer) (sym gone) (same, ends)

pub ends_beside : (others : ℕ) (n : Native) → (others ≡ 0 → ⊥) → EndsAs (others == 0) n (Ok None)
ends_beside others n some =
    let apart : (others == 0) ≡ false = search rules in
    subst (λ (b : Bool). EndsAs b n (Ok None)) (sym apart) refl

pub ends_last : (others : ℕ) (n : Native) (answer : Result (Option Summary) Fault) → others ≡ 0
    → WasClosedBy n answer → IfErr answer (λ e. LeavesSome n.env.held.steps e)
    → EndsAs (others == 0) n answer
ends_last others n answer none closed left =
    subst (λ (k : ℕ). EndsAs (k == 0) n answer) (sym none) (closed, left)

-- the refusal that is told
abbrev refusal : {A : Type 0} → Result A Fault → Fault
refusal (Ok x) = NotFresh
refusal (Err e) = e

-- what is there, or else this
abbrev found_or : {A : Type 0} → A → Option A → A
found_or a (Some x) = x
found_or a None = a

-- a thread whose local references could not be freed is still attached
stays_by : (o : Option (Box Native)) (room room' : RoomHandle) (old new : EnvHandle) (answer : Result (Unit {0}) Fault)
    (e : Fault) → room' ≡ room → ByThread old new o free_locals answer → answer ≡ Err e
    → IsDetachedBy true o room room' old new (Err e)
stays_by None room room' old new answer e same by is =
    (ap (λ (f : Fault). Err f) (ap refusal (sym is ∙ by.0)), same, by.1)
stays_by (Some n) room room' old new answer e same by is = (
  by.0,
  Err e,
  subst (λ (r : Result (Unit {0}) Fault). Does n.value.env by.0.value.env free_locals r) is by.2,
  (refl, same, by.1, by.3),
)

pub stays : (b : Bool) (o : Option (Box Native)) (room room' : RoomHandle) (old new : EnvHandle)
    (answer : Result (Unit {0}) Fault) (e : Fault) → b ≡ true → room' ≡ room → ByThread old new o free_locals answer
    → answer ≡ Err e → IsDetachedBy b o room room' old new (Err e)
stays b o room room' old new answer e can same by is =
    subst (λ (x : Bool). IsDetachedBy x o room room' old new (Err e)) (sym can)
    (stays_by o room room' old new answer e same by is)

-- one whose were freed had an env, which is idle then
pub went : (o : Option (Box Native)) (old mid : EnvHandle) (answer : Result (Unit {0}) Fault) (m : Box Native)
    → ByThread old mid o free_locals answer → answer ≡ Ok tt → native_behind mid ≡ Some m
    → (n : Box Native) × (o ≡ Some n) × Does n.value.env m.value.env free_locals (Ok tt)
went None old mid answer m by is there =
    let no : ◌≡◌ {A = Result (Unit {0}) Fault} (Ok tt) (Err (absence old)) = sym is ∙ by.0 in absurd cc
went (Some n) old mid answer m by is there =
    let one = ap (found_or by.0) (sym by.1 ∙ there) in (
      n,
      refl,
      subst (λ (r : Result (Unit {0}) Fault). Does n.value.env m.value.env free_locals r) is
          (subst (λ (x : Box Native). Does n.value.env x.value.env free_locals answer) one by.2),
    )

-- and the room takes it back
pub gone : (b : Bool) (o : Option (Box Native)) (room room' : RoomHandle) (old new : EnvHandle)
    (answer : Result (Option Summary) Fault) (n m : Box Native) → b ≡ true → o ≡ Some n
    → Does n.value.env m.value.env free_locals (Ok tt) → is_env new ≡ true → new.value.presence ≡ Detached
    → TakesBack room.value room'.value m.value answer → IsDetachedBy b o room room' old new answer
gone b o room room' old new answer n m can some does place none takes =
    subst (λ (x : Bool). IsDetachedBy x o room room' old new answer) (sym can)
    (subst (λ (y : Option (Box Native)). IsDetachedBy true y room room' old new answer) (sym some)
    (m, Ok tt, does, (place, none, idle_freed n.value.env m.value.env does, takes)))

-- an env's place in which an env stands is not freed, nor is a room's with attached threads
pub kept : (b : Bool) (p : Presence) (old new : EnvHandle) (reply : Reply) → b ≡ true → is_attached p ≡ true
    → reply ≡ reply_of nothing_told (Err InCritical) → new ≡ old → EnvIsFreed b p old new reply
kept true (Ready n) old new reply is some told same = (told, same)
kept true (Critical r) old new reply is some told same = (told, same)
kept true Detached old new reply is some told same = absurd (false≢true some)
kept false p old new reply is some told same = absurd (false≢true is)

pub held : (b : Bool) (old new : RoomHandle) (k : ℕ) (reply : Reply) → b ≡ true → k ≡ old.value.attached → (k ≡ 0 → ⊥)
    → reply ≡ reply_of nothing_told (Err (LeftInside k)) → new ≡ old → RoomIsFreed b old new reply
held b old new k reply is has some told same =
    let apart : (k == 0) ≡ false = search rules in
    subst (λ (x : Bool). RoomIsFreed x old new reply) (sym is)
    (subst (λ (x : Bool). UnlessAttached x old new reply) (sym (ap (λ (j : ℕ). j == 0) (sym has) ∙ apart))
    (subst (λ (j : ℕ). reply ≡ reply_of nothing_told (Err (LeftInside j))) has told, same))
