-- WHAT COLLECTIONS COUNT: nothing. They store no local reference and delete none, and who began one has ended it.
use Rattle.std.proofs.Common.{◌≡◌, ◌<◌, ◌+◌, ℕ, List, [], ◌∷◌, ◌++◌, map, Result, Ok, Err, refl, sym, subst, ◌∙◌}
use Rattle.std.proofs.Common.{arith}
use Rattle.jr_word.specs.declared.fault.Fault.{Fault}
use Rattle.jr_word.specs.declared.fault.Fault.TheVariants.{Busy}
use Rattle.jr_model.specs.declared.event.Act.{Act}
use Rattle.jr_model.specs.declared.event.Act.TheVariants.{Clear, Drop, Gate, Meet, Settle, ShutBusy}
use Rattle.jr_model.specs.declared.event.GateAct.TheVariants.{Announce, Cancel, Reopen}
use Rattle.jr_model.specs.declared.event.Role.TheVariants.{Collecting}
use Rattle.jr_model.specs.State.{Handle}
use Rattle.jr_model.specs.Frames.{Frames}
use Rattle.jr_model.specs.Calls.{Call, ◌>>=◌, act, refuse, some_act}
use Rattle.jr_model.specs.CollectionCalls.{collection_acts, sweeping_acts}
use Rattle.jr_model.specs.Parts as parts
use Rattle.jr_model.proofs.Composed.{Gives, act_gives, bind_gives, either_gives, refuse_gives, some_act_gives}
use Rattle.jr_model.proofs.Exactly.{all_map, append_all}
use Rattle.jr_model.proofs.Stays.{role_from_append}
use Rattle.jr_scripts.proofs.TogetherRun.Moments.{Settles}
use Rattle.jr_scripts.proofs.TogetherRun.ProgramsCount.{AreUncounted, CallCounts, Counted, IsUncounted, both_count}
use Rattle.jr_scripts.proofs.TogetherRun.ProgramsCount.{same_counts, settled_counts, uncounted}

-- behind the shut there is none of the acts that count
behind_uncounted : (cleared : List Handle) (dropped : List ℕ) (used : ℕ)
    → AreUncounted (sweeping_acts cleared dropped used ++ Gate Reopen ∷ [])
behind_uncounted cleared dropped used = append_all IsUncounted (sweeping_acts cleared dropped used) (Gate Reopen ∷ [])
    (append_all IsUncounted (map Clear cleared ++ map Drop dropped) (Settle used ∷ [])
    (append_all IsUncounted (map Clear cleared) (map Drop dropped)
    (all_map IsUncounted Clear cleared (λ h. tt)) (all_map IsUncounted Drop dropped (λ o. tt))) (tt, tt)) (tt, tt)

-- the gate is open again behind a collection
collection_settles : (cleared : List Handle) (dropped : List ℕ) (used : ℕ)
    → Settles (collection_acts cleared dropped used)
collection_settles cleared dropped used r out e =
    let bad = sym (role_from_append Collecting (sweeping_acts cleared dropped used) (Gate Reopen ∷ [])) ∙ e in cc

busies_uncounted : (counts : List ℕ) → AreUncounted (map ShutBusy counts)
busies_uncounted counts = all_map IsUncounted ShutBusy counts (λ n. tt)

module _ (last : ℕ) where
  -- however a call ends it counts nothing
  abbrev IsQuiet : {A : Type 0} → Call A → Type 0
  IsQuiet call = Gives (Counted last 1 1 0) (λ f acts e g. Counted last 1 1 0 f acts g) call

  then_quiet : {A B : Type 0} {first : Call A} {next : A → Call B} → IsQuiet first → ((x : A) → IsQuiet (next x))
      → IsQuiet (first >>= next)
  then_quiet p q = bind_gives (record {
    joins = λ f g h xs ys a b. both_count {m = 0} {n = 0} (omega arith) f g h xs ys a b;
    behind = λ f g h xs ys e a b. both_count {m = 0} {n = 0} (omega arith) f g h xs ys a b;
  }) p q

  act_quiet : (a : Act) → IsUncounted a → IsQuiet (act a)
  act_quiet a none = act_gives a (λ f. same_counts (none, tt) refl)

  busy_quiet : IsQuiet (some_act ShutBusy)
  busy_quiet = some_act_gives ShutBusy (λ n f. same_counts (tt, tt) refl)

  refuse_quiet : {A : Type 0} (e : Fault) → IsQuiet (refuse {A = A} e)
  refuse_quiet e = refuse_gives e (λ f. same_counts tt refl)

  closed_quiet : {A : Type 0} → IsQuiet (parts.found_closed {A = A})
  closed_quiet = then_quiet busy_quiet (λ n. refuse_quiet (Busy n))

  collected_quiet : IsQuiet parts.collected
  collected_quiet = record {
    goes = λ old new acts x d. quiet old new acts d.0 d.1 d.2 d.3 d.5;
    fails = λ old new acts e d. absurd (let bad = d.4 in cc);
  }
    where
      quiet : (old new : Frames) (acts : List Act) (cleared : List Handle) (dropped : List ℕ) (used : ℕ)
          → acts ≡ collection_acts cleared dropped used → new ≡ old → Counted last 1 1 0 old acts new
      quiet old new acts cleared dropped used is same =
          let none = uncounted (sweeping_acts cleared dropped used ++ Gate Reopen ∷ [])
          (behind_uncounted cleared dropped used) in
          subst (λ l. Counted last 1 1 0 old l new) (sym is)
          (settled_counts {acts = collection_acts cleared dropped used} none.0 none.1
          (collection_settles cleared dropped used) same)

  shuts_quiet : (many : ℕ → Type 0) → IsQuiet (parts.refused_shuts many)
  shuts_quiet many = record {
    goes = λ old new acts x d. same_counts (subst AreUncounted (sym d.2) (busies_uncounted d.0)) d.4;
    fails = λ old new acts e d. absurd (let bad = d.3 in cc);
  }

  moved_quiet : IsQuiet parts.found_moved
  moved_quiet = record {
    goes = λ old new acts x d. absurd (let bad = d.2.1 in cc);
    fails = λ old new acts e d. same_counts (subst AreUncounted (sym d.2.0) tt) d.2.2;
  }

  announce_quiet : IsQuiet parts.announce
  announce_quiet = either_gives closed_quiet (then_quiet (act_quiet Meet tt) (λ u.
      either_gives (act_quiet (Gate Announce) tt) (either_gives closed_quiet
      (then_quiet (act_quiet Meet tt) (λ v. moved_quiet)))))

  quiet_counts : {A : Type 0} {call : Call A} → IsQuiet call → CallCounts last 0 call
  quiet_counts {A} {call} quiet = record { counts = counts; refuses = quiet.fails }
    where
      counts : (old new : Frames) (acts : List Act) (answer : Result A Fault) → call old acts answer new
          → Counted last 1 1 0 old acts new
      counts old new acts (Ok x) r = quiet.goes old new acts x r
      counts old new acts (Err e) r = quiet.fails old new acts e r

  -- A COLLECTION COUNTS NOTHING
  pub collection_counts : CallCounts last 0 parts.collect
  collection_counts = quiet_counts (either_gives collected_quiet closed_quiet)

  -- .. nor does one that is announced
  pub announced_collection_counts : (tries : ℕ) → CallCounts last 0 (parts.collect_announced tries)
  announced_collection_counts tries = quiet_counts (then_quiet announce_quiet (λ u. either_gives
      (then_quiet (shuts_quiet (λ n. n < tries)) (λ v. collected_quiet))
      (then_quiet (shuts_quiet (λ n. n + 1 ≡ tries)) (λ v. then_quiet busy_quiet (λ n.
      then_quiet (act_quiet (Gate Cancel) tt) (λ w. refuse_quiet (Busy n)))))))
