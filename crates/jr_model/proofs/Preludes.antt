-- The parts of calls that come before anything is changed.
use Rattle.std.proofs.Common.{◌≡◌, ℕ, Bool, true, nat_lt, Option}
use Rattle.std.proofs.Common.{Some, None, List, [], ◌∷◌, map, refl, sym, subst}
use Rattle.jr_word.specs.declared.fault.Fault.{Fault}
use Rattle.jr_word.specs.declared.fault.Fault.TheVariants.{Busy, Moved, LocalsFull}
use Rattle.jr_word.specs.declared.config.Config.{Config}
use Rattle.jr_model.specs.declared.event.Act.{Act}
use Rattle.jr_model.specs.declared.event.Act.TheVariants.{Gate, ShutBusy, Meet, Look, Probe}
use Rattle.jr_model.specs.declared.event.GateAct.TheVariants.{Announce}
use Rattle.jr_model.specs.declared.event.Found.{Found}
use Rattle.jr_model.specs.declared.event.Found.TheVariants.{Object, Cleared, Stale}
use Rattle.jr_model.specs.State.{Handle}
use Rattle.jr_model.specs.Frames.{Frames, free_places, object_of}
use Rattle.jr_model.specs.Calls.{act, done, refuse, refuse_if, some_act}
use Rattle.jr_model.specs.Checks.{Word, Nothing, Malformed, Parts, is_local, type_local}
use Rattle.jr_model.specs.Parts.{announce, found_closed, found_moved, found_object}
use Rattle.jr_model.specs.Parts.{local_object, look, looked, looked_at, not_null, probes, refused_shuts, type_at}
use Rattle.jr_model.specs.References.{resolved, resolved_both, room_for}
use Rattle.jr_model.specs.RefusedCalls.{is_harmless}
use Rattle.jr_model.proofs.Exactly.{all_map}
use Rattle.jr_model.proofs.Composed.{act_gives, cond_gives, done_gives, either_gives, framed_gives}
use Rattle.jr_model.proofs.Composed.{refuse_gives, refuse_if_gives, some_act_gives, some_act_then}
use Rattle.jr_model.proofs.ShownRefusals.{LoseOnly, Purpose, unshown_is, is_unshown}
use Rattle.jr_model.proofs.Lawful.{AreHarmless, IsInside, IsPrelude, NoLeave, Quiet, Refused, bind_prelude, inside_all}

all_probes : (looks : List (ℕ × Bool)) → AreHarmless (map (λ l. Probe l.0 l.1) looks)
all_probes [] = tt
all_probes (l ∷ looks) = (refl, all_probes looks)

all_busy : (counts : List ℕ) → AreHarmless (map ShutBusy counts)
all_busy [] = tt
all_busy (n ∷ counts) = (refl, all_busy counts)

at_rest : (f : Frames) → Quiet f [] f
at_rest f = record { same = refl; harmless = tt; lose = tt; stays = tt }

acted : (a : Act) → is_harmless a ≡ true → IsInside a → (f : Frames) → Quiet f (a ∷ []) f
acted a h inside f = let all = inside_all (a ∷ []) (inside, tt) in
    record { same = refl; harmless = (h, tt); lose = all.0; stays = all.1 }

-- any number of acts of one sort
acts_prelude : {X : Type 0} (f : X → Act) (xs : List X) → AreHarmless (map f xs) → ((x : X) → IsInside (f x))
    → {old new : Frames} {acts : List Act} → acts ≡ map f xs → new ≡ old → Quiet old acts new
acts_prelude f xs harmless inside is same =
    let all = inside_all (map f xs) (all_map IsInside f xs inside) in record {
      same = same;
      harmless = subst AreHarmless (sym is) harmless;
      lose = subst (LoseOnly None) (sym is) all.0;
      stays = subst NoLeave (sym is) all.1;
    }

module _ {asked : Purpose} where
  unshown : (e : Fault) → is_unshown e ≡ true → (f : Frames) → Refused NoLeave asked f [] e f
  unshown e any f = record { same = refl; before = tt; shown = unshown_is asked e any; are = tt }

  pub done_prelude : {A : Type 0} (x : A) → IsPrelude asked (done x)
  done_prelude x = done_gives x at_rest

  -- a refusal that no act shows
  pub refuse_prelude : {A : Type 0} (e : Fault) → is_unshown e ≡ true → IsPrelude asked (refuse {A = A} e)
  refuse_prelude e any = refuse_gives e (unshown e any)

  pub check : (b : Bool) (e : Fault) → is_unshown e ≡ true → IsPrelude asked (refuse_if b e)
  check b e any = refuse_if_gives b e at_rest (λ is. unshown e any)

  pub act_prelude : (a : Act) → is_harmless a ≡ true → IsInside a → IsPrelude asked (act a)
  act_prelude a h inside = act_gives a (acted a h inside)

  pub some_act_prelude : {X : Type 0} (a : X → Act) → ((x : X) → is_harmless (a x) ≡ true)
      → ((x : X) → IsInside (a x)) → IsPrelude asked (some_act a)
  some_act_prelude a h inside = some_act_gives a (λ x. acted (a x) (h x) (inside x))

  -- REFERENCES

  local_prelude : (o : Option ℕ) → IsPrelude asked (local_object o)
  local_prelude (Some o) = done_prelude (Some o)
  local_prelude None = refuse_prelude _ refl

  found_prelude : (r : Found) → IsPrelude asked (found_object r)
  found_prelude (Object o) = done_prelude (Some o)
  found_prelude Cleared = done_prelude None
  found_prelude Stale = refuse_prelude _ refl

  pub look_prelude : (h : Handle) → IsPrelude asked (look h)
  look_prelude h = some_act_prelude (Look h) (λ r. refl) (λ r. tt)

  pub looked_at_prelude : (h : Handle) → IsPrelude asked (looked_at h)
  looked_at_prelude h = cond_gives (is_local h) (framed_gives (λ old. local_object (object_of old h))
      (λ f. local_prelude (object_of f h))) (bind_prelude (look_prelude h) found_prelude)

  looked_prelude : (a : Word) → IsPrelude asked (looked a)
  looked_prelude Nothing = done_prelude None
  looked_prelude Malformed = done_prelude None
  looked_prelude (Parts h) = looked_at_prelude h

  pub not_null_prelude : (o : Option ℕ) → IsPrelude asked (not_null o)
  not_null_prelude (Some o) = done_prelude o
  not_null_prelude None = refuse_prelude _ refl

  pub type_prelude : (a : Word) → IsPrelude asked (type_at a)
  type_prelude Nothing = done_prelude 0
  type_prelude Malformed = done_prelude 0
  type_prelude (Parts h) = cond_gives (is_local h) (framed_gives (λ old. done (type_local (object_of old h)))
      (λ f. done_prelude (type_local (object_of f h)))) (bind_prelude (look_prelude h) (λ r. done_prelude _))

  pub probes_prelude : IsPrelude asked probes
  probes_prelude = record {
    goes = λ old new acts x r. acts_prelude (λ (l : ℕ × Bool). Probe l.0 l.1) r.0 (all_probes r.0) (λ l. tt) r.1 r.3;
    fails = λ old new acts e r. absurd (let bad = r.2 in cc);
  }

  -- THE GATE

  -- found closed, by another thread
  pub closed_prelude : {A : Type 0} → IsPrelude asked (found_closed {A = A})
  closed_prelude = some_act_then ShutBusy (λ n. refuse_gives (Busy n) (λ f.
      record { same = refl; before = (refl, tt); shown = (([], [], refl), (tt, tt), tt); are = ((λ e. cc), tt) }))

  moved_prelude : asked.announces ≡ true → IsPrelude asked found_moved
  moved_prelude announces = record {
    goes = λ old new acts x r. absurd (let bad = r.2.1 in cc);
    fails = λ old new acts e r. (refuse_gives {Good = Quiet} {Bad = Refused NoLeave asked} {A = Unit {0}}
        (Moved r.0 r.1) (λ f. record { same = refl; before = tt; shown = (tt, tt, announces); are = tt })).fails old new
        acts e r.2;
  }

  meet_prelude : IsPrelude asked (act Meet)
  meet_prelude = act_prelude Meet refl tt

  pub announce_prelude : asked.announces ≡ true → IsPrelude asked announce
  announce_prelude announces =
      either_gives closed_prelude (bind_prelude meet_prelude (λ x. either_gives (act_prelude (Gate Announce) refl tt)
      (either_gives closed_prelude (bind_prelude meet_prelude (λ y. moved_prelude announces)))))

  pub shuts_prelude : (many : ℕ → Type 0) → IsPrelude asked (refused_shuts many)
  shuts_prelude many = record {
    goes = λ old new acts x r. acts_prelude ShutBusy r.0 (all_busy r.0) (λ n. tt) r.2 r.4;
    fails = λ old new acts e r. absurd (let bad = r.3 in cc);
  }

  -- FRAMES

  module _ (c : Config) (last thread : ℕ) where
    pub resolved_prelude : (a : Word) → IsPrelude asked (resolved c last thread a)
    resolved_prelude a = bind_prelude (check _ _ refl) (λ x.
        bind_prelude (check _ _ refl) (λ y. bind_prelude (check _ _ refl) (λ z. looked_prelude a)))

    pub both_prelude : (a b : Word) → IsPrelude asked (resolved_both c last thread a b)
    both_prelude a b =
        bind_prelude (check _ _ refl) (λ x1.
        bind_prelude (check _ _ refl) (λ x2. bind_prelude (check _ _ refl) (λ x3. bind_prelude (check _ _ refl) (λ x4.
        bind_prelude (check _ _ refl) (λ x5. bind_prelude (check _ _ refl) (λ x6.
        bind_prelude (looked_prelude a) (λ x. bind_prelude (looked_prelude b) (λ y. done_prelude _))))))))

    pub room_prelude : (n : ℕ) → IsPrelude asked (room_for c last thread n)
    room_prelude n = framed_gives (λ old. refuse_if (nat_lt (free_places last old) n) LocalsFull) (λ f.
        check (nat_lt (free_places last f) n) LocalsFull refl)
