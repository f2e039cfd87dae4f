-- A level is added to those that stand.
use Rattle.std.proofs.Common.{◌≡◌, ◌++◌, ℕ, List, [], ◌∷◌, map, length, Result}
use Rattle.std.proofs.Common.{Ok, Err, refl, sym, ap, subst, ◌∙◌, arith}
use Rattle.std.specs.Result.{IsErrAnd}
use Rattle.std.proofs.lemmas.List.{length-append, map-append}
use Rattle.std.proofs.lemmas.Result.{err_from_is_err_and}
use mathlib.Core.Logic.{∥∥₁_map}
use Rattle.jr_word.specs.declared.config.Config.{Config}
use Rattle.jr_word.specs.declared.fault.Fault.{Fault}
use Rattle.jr_model.specs.declared.event.Role.TheVariants.{Within}
use Rattle.jr_model.specs.declared.event.Act.{Act}
use Rattle.jr_model.specs.State.{State}
use Rattle.jr_model.specs.Frames.{Frames}
use Rattle.jr_model.specs.Calls.{Ran}
use Rattle.jr_model.specs.Checks.{Word}
use Rattle.jr_model.specs.Parts.{nested}
use Rattle.jr_model.specs.Programs.{handed_one, none_known}
use Rattle.jr_model.specs.CallPrograms.{get_array_critical, get_string_critical}
use Rattle.jr_model.proofs.EachCall.{program_stays}
use Rattle.jr_model.proofs.Lawful.{NoLeave}
use Rattle.jr_model.proofs.Runs.{ran_err, ran_give}
use Rattle.jr_steps.specs.declared.known.Known.{Known}
use Rattle.jr_steps.specs.Knowing.{AreOf, Facts, view, state_of}
use Rattle.jr_gate.specs.Performing.{Performed}
use Rattle.jr_gate.specs.declared.inside.Inside.{Inside}
use Rattle.jr_gate.specs.Stays.{IsOwnStay}
use Rattle.jr_gate.proofs.Spending.{made_of, spending}
use Rattle.jr_heap.specs.Laws.{GoesOnKnowing}
use Rattle.jr_heap.proofs.Headers.{learnt}
use Rattle.jr_heap.proofs.KnownHeaders.{calls_keep_headers}
use Rattle.jr_frames.specs.Ready.{StandsReady}
use Rattle.jr_frames.specs.Table.{Table}
use Rattle.jr_frames.proofs.StillReady.{ready_after, same_owner}
use Rattle.jr_critical.specs.declared.level.Level.{Level}
use Rattle.jr_critical.specs.declared.level.Wanted.{Wanted}
use Rattle.jr_critical.specs.declared.level.Wanted.TheVariants.{Array, Text}
use Rattle.jr_critical.specs.declared.levels.Levels.{Levels}
use Rattle.jr_critical.specs.Finding.{level_nesting, level_work, object_found, FindsLevel, LearnsLevel}
use Rattle.jr_critical.specs.Levels.{AreKnown, KnowsLevels, Stand, level_nested, objects_of}
use Rattle.jr_critical.proofs.Closing.{count}
use Rattle.jr_critical.proofs.KnownLevels.{known_later, known_more}

-- to find the object of a level takes no leave
level_stays : (wanted : Wanted) (c : Config) (last t : ℕ) (s : State) (n : ℕ) (a : Word) (f g : Frames)
    (acts : List Act) (answer : Result ℕ Fault) → level_work wanted c last t s n a f acts answer g → NoLeave acts
level_stays Array c last t s n a f g acts answer is =
    program_stays c last t s (handed_one a) (get_array_critical n) none_known 0 f g acts answer is
level_stays Text c last t s n a f g acts answer is =
    program_stays c last t s (handed_one a) (get_string_critical n) none_known 0 f g acts answer is

-- what is learned of a level, and what a refusal leaves, lets each header be known that was
still_knowing : (r : Result Level Fault) (j k : Known) → LearnsLevel r j k → GoesOnKnowing j k
still_knowing (Ok l) j k x = calls_keep_headers.learned j k l.object l.header x
still_knowing (Err e) j k x = x

module _ {S : Type 0} {facts : S → Facts} (fits : AreOf facts) {a b : S} {t : Table} {v : Levels}
    (stand : Stand facts v a t) (wanted : Wanted) (w : Word) {n : ℕ} (all : n ≡ length v.levels.items)
    (r : Result Level Fault) (p : FindsLevel facts a b t.frames wanted n w r) where
  -- as many levels stand as there are objects
  among : FindsLevel facts a b t.frames wanted (length (objects_of v)) w r
  among = subst (λ m. FindsLevel facts a b t.frames wanted m w r) (all ∙ sym (count v)) p

  -- the headers of the levels hold still
  known_still : (k : Known) (s : (facts a).knows k) (m : KnowsLevels v t.frames k)
      → AreKnown v.levels.items (among.ran k s m.1).0
  known_still k s m =
      let x = among.ran k s m.1 in
      let stays = level_stays wanted (facts a).stands.config (facts a).stands.last (facts a).stands.thread
      (state_of x.0) (length (objects_of v)) w t.frames t.frames x.2.ran.acts (object_found r) x.2.ran.is in
      known_later v.levels.items k x.0 x.2.ran.acts x.2.ran.did ((fits a k s).role ∙ stand.ready.role_is) stays
      (still_knowing r k x.0 x.3.0) m.0

  pub ready_still : StandsReady facts Within b t
  ready_still = ready_after {so = λ j k. LearnsLevel r j k} stand.ready (same_owner t) p

  stay_still : (u : Levels) → u.inside ≡ v.inside → IsOwnStay u.inside (facts b).stands
  stay_still u same =
      (ap (λ (i : Inside). i.thread) same ∙ (stand.stay.0 ∙ sym p.stands_is.thread), p.stands_is.role ∙ stand.stay.1)

  -- a level was refused
  module _ {e : Fault} (is : r ≡ Err e) where
    pub nests_not : (answer : Result ℕ Fault) → IsErrAnd answer (λ y. y ≡ e)
        → Performed facts a b t.frames t.frames 1 (KnowsLevels v t.frames) (λ s.
        level_nesting wanted (facts a).stands.config (facts a).stands.last (facts a).stands.thread s (objects_of v) w)
        (level_nested answer v) (λ j k. KnowsLevels v t.frames k)
    nests_not answer given =
        let why = err_from_is_err_and answer given in
        subst (λ (z : Result ℕ Fault). Performed facts a b t.frames t.frames 1 (KnowsLevels v t.frames) (λ s.
        level_nesting wanted (facts a).stands.config (facts a).stands.last (facts a).stands.thread s (objects_of v) w)
        (level_nested z v) (λ j k. KnowsLevels v t.frames k)) (sym (why.1 ∙ ap (λ (y : Fault). Err y) why.2)) (record {
          stands_is = p.stands_is;
          ran = λ k s m.
              let x = among.ran k s m.1 in
              let c = (facts a).stands.config in
              let last = (facts a).stands.last in
              let thread = (facts a).stands.thread in
              let run = subst (λ (z : Result Level Fault). Ran (view k) (view x.0) t.frames t.frames
              (level_work wanted c last thread (state_of x.0) (length (objects_of v)) w) (object_found z)) is
              x.2.ran in (
                x.0,
                x.1,
                made_of (spending x.2) (ran_err (nested (objects_of v)) e run),
                (known_still k s m, x.3.1),
              );
        })

    pub stand_unchanged : Stand facts v b t
    stand_unchanged = record {
      stay = stay_still v refl;
      ready = ready_still;
      some = stand.some;
      known =
          ∥∥₁_map stand.known (λ k. let x = among.ran k.0 k.1 k.2.1 in (x.0, x.1, (known_still k.0 k.1 k.2, x.3.1)));
    }

  -- it was found
  module _ {l : Level} (is : r ≡ Ok l) (u : Levels) (items : u.levels.items ≡ v.levels.items ++ l ∷ []) where
    objects_more : objects_of u ≡ objects_of v ++ l.object ∷ []
    objects_more =
        ap (λ ls. map (λ (x : Level). x.object) ls) items ∙ map-append (λ (x : Level). x.object) v.levels.items (l ∷ [])

    known_now : (k : Known) (s : (facts a).knows k) (m : KnowsLevels v t.frames k)
        → KnowsLevels u t.frames (among.ran k s m.1).0
    known_now k s m =
        let x = among.ran k s m.1 in
        let learns = subst (λ (z : Result Level Fault). LearnsLevel z k x.0) is x.3.0 in (
          subst (λ ls. AreKnown ls x.0) (sym items)
              (known_more v.levels.items l x.0 (known_still k s m) (learnt l.object l.header k x.0 learns)),
          x.3.1,
        )

    pub nests : Performed facts a b t.frames t.frames 1 (KnowsLevels v t.frames) (λ s.
        level_nesting wanted (facts a).stands.config (facts a).stands.last (facts a).stands.thread s (objects_of v) w)
        (level_nested (Ok n) u) (λ j k. KnowsLevels u t.frames k)
    nests = record {
      stands_is = p.stands_is;
      ran = λ k s m.
          let x = among.ran k s m.1 in
          let c = (facts a).stands.config in
          let last = (facts a).stands.last in
          let thread = (facts a).stands.thread in
          let run = subst (λ (z : Result Level Fault). Ran (view k) (view x.0) t.frames t.frames
          (level_work wanted c last thread (state_of x.0) (length (objects_of v)) w) (object_found z)) is x.2.ran in
          let next : ℕ → ℕ × List ℕ = λ o. (length (objects_of v), objects_of v ++ o ∷ []) in
          let answer : ◌≡◌ {A = Result (ℕ × List ℕ) Fault} (Ok (length (objects_of v), objects_of v ++ l.object ∷ []))
          (Ok (n, objects_of u)) = ap (λ i. Ok (i, objects_of v ++ l.object ∷ [])) (count v ∙ sym all)
          ∙ ap (λ os. Ok (n, os)) (sym objects_more) in (
            x.0,
            x.1,
            made_of (spending x.2) (subst (λ (z : Result (ℕ × List ℕ) Fault). Ran (view k) (view x.0) t.frames t.frames
                (level_nesting wanted c last thread (state_of x.0) (objects_of v) w) z) answer
                (ran_give next l.object run)),
            known_now k s m,
          );
    }

    pub stand_more : u.inside ≡ v.inside → Stand facts u b t
    stand_more same = record {
      stay = stay_still u same;
      ready = ready_still;
      some = let e = ap length objects_more ∙ length-append (objects_of v) (l.object ∷ []) in omega arith;
      known = ∥∥₁_map stand.known (λ k. let x = among.ran k.0 k.1 k.2.1 in (x.0, x.1, known_now k.0 k.1 k.2));
    }
