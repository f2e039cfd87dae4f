-- Each ending is played.
use Rattle.std.proofs.Common.{◌≡◌, ◌⊎◌, inl, inr, ◌==◌, ℕ, Bool, true, false, Option, Some, None, Result, Ok}
use Rattle.std.proofs.Common.{List, [], map, slice_get, refl, sym, ap, subst, ◌∙◌}
use mathlib.Core.List.{IsPrefix}
use Rattle.jr_word.specs.declared.fault.Fault.{Fault}
use Rattle.jr_word.specs.declared.kind.Kind.{Kind}
use Rattle.jr_model.specs.declared.event.Act.{Act}
use Rattle.jr_model.specs.State.{Contents, State}
use Rattle.jr_model.specs.Frames.{Frames}
use Rattle.jr_model.specs.History.{History, state}
use Rattle.jr_model.specs.Checks.{same_object}
use Rattle.jr_model.specs.Programs.{AnswerKind, AnswerOf, Ending}
use Rattle.jr_model.specs.Programs.AnswerKind.{truth, number, object, object_kind}
use Rattle.jr_model.specs.Programs.Which.{one, other}
use Rattle.jr_model.specs.Programs.Ending.{gives_kind, gives_number, gives_object, compares, types, creates, refers}
use Rattle.jr_model.specs.Programs.Ending.{deletes}
use Rattle.jr_model.specs.Programs.Ending.{deletes_local, asks_room, pushes, pops_to, frees, makes, fills, reads}
use Rattle.jr_model.specs.Programs.Ending.{reads_from, copies, writes, writes_to, writes_from}
use Rattle.jr_model.proofs.Updates.{eq_false, eq_other, eq_self, eq_true}
use Rattle.jr_world.specs.World.{MeantOf, done}
use Rattle.jr_world.specs.Births.{births}
use Rattle.jr_world.specs.Doing.{atom}
use Rattle.jr_world.specs.Doing.Doing.{ended}
use Rattle.jr_world.specs.Plays.{Plays}
use Rattle.jr_world.specs.Plays.Plays.{has_ended}
use Rattle.jr_world.specs.Playing.{AnswerIs, BothAre, ObjectIs}
use Rattle.jr_world.proofs.Births.BornLists.{some_same}
use Rattle.jr_world.proofs.BothNamedPlays.{both_named_plays}
use Rattle.jr_world.proofs.CreatedPlays.{creates_plays}
use Rattle.jr_world.proofs.DeletedPlays.{deletes_play}
use Rattle.jr_world.proofs.ElementPlays.{copies_play, element_found, header_now, reads_from_play, reads_play}
use Rattle.jr_world.proofs.ElementPlays.{writes_from_play, writes_play, writes_to_play}
use Rattle.jr_world.proofs.FramePlays.{asks_room_plays, frees_play, pushes_play}
use Rattle.jr_world.proofs.LocalDrops.{deletes_local_plays}
use Rattle.jr_world.proofs.LocalPlays.{refers_play}
use Rattle.jr_world.proofs.MadePlays.{fills_plays, makes_plays}
use Rattle.jr_world.proofs.NamedPlays.{named_plays}
use Rattle.jr_world.proofs.PopPlays.{pops_to_plays}
use Rattle.jr_world.proofs.ProgramPlays.{PartsPlay}
use Rattle.jr_world.proofs.TypedPlays.{types_play}
use Rattle.jr_world.proofs.InStay.{EndingPlays, HandIs, InOneStay, IsAt, Scene, Then, at_births, at_now}
use Rattle.jr_world.proofs.InStay.{object_now}
use Rattle.jr_world.proofs.Standing.{looks_then, stays_between}
use Rattle.one_order.specs.Orders.{Item}
use Rattle.one_order.specs.Orders.Item.{does as acting}

pair_same : (o p : ℕ) (x y : Option Contents) → ◌≡◌ {A = Option (ℕ × Option Contents)} (Some (o, x)) (Some (p, y))
    → o ≡ p
pair_same o p x y e = ap (λ z. z.0) (some_same (o, x) (p, y) e)

module _ (k : Scene) where
  -- an answer that no act gives
  given_plays : (a : AnswerKind) (x : AnswerOf a) (y : MeantOf a) (past : History) (f g : Frames) (acts : List Act)
      (answer : Result (AnswerOf a) Fault) (behind : List (Item Act)) → IsAt k past acts
      → ((now : History) → IsAt k now [] → IsPrefix past now → AnswerIs now a x y)
      → (acts ≡ []) × (answer ≡ Ok x) × (g ≡ f)
      → Plays k.config k.whole k.thread (Then k a answer) g behind (atom (done y)) past f (map acting acts)
  given_plays a x y past f g acts answer behind at so (none, is, same) =
      subst (λ l. Plays k.config k.whole k.thread (Then k a answer) g behind (atom (done y)) past f (map acting l))
      (sym none)
      (subst (λ r. Plays k.config k.whole k.thread (Then k a r) g behind (atom (done y)) past f []) (sym is)
      (subst (λ h. Plays k.config k.whole k.thread (Then k a (Ok x)) h behind (atom (done y)) past f []) (sym same)
      (looks_then k.config k.whole k.thread (Then k a (Ok x)) f behind (λ w. Ok y) (λ r. ended r) past f []
      (λ now s goes st.
      let here = at_now k past now [] (subst (IsAt k past) none at) goes in
      has_ended (Ok y) (here.stays, here.begins, so now here (goes.since, sym goes.is))))))

  gives_kind_plays : (n : ℕ) (kind : Kind) → EndingPlays k {n = n} (gives_kind kind)
  gives_kind_plays n kind words numbers known known' of_kind o o' past f g acts answer behind at words_are are hand apt
      may ran = given_plays object_kind kind kind past f g acts answer behind at (λ now here begins. refl) ran

  gives_number_plays : (n m : ℕ) → EndingPlays k {n = n} (gives_number m)
  gives_number_plays n m words numbers known known' of_kind o o' past f g acts answer behind at words_are are hand apt
      may ran = given_plays number m m past f g acts answer behind at (λ now here begins. refl) ran

  -- an object stands where it was born, at a later moment of the call too
  still_there : (past now : History) (acts rest : List Act) → IsAt k past acts → IsAt k now rest → IsPrefix past now
      → (o j : ℕ) → ObjectIs past o j → ObjectIs now o j
  still_there past now acts rest at here begins o j so =
      let it = object_now k past now
      (stays_between k.config k.last k.whole k.thread k.legal k.entry past now at.stays here.stays begins)
      here.begins
      o j so.0 so.1 in
      (it.0, it.1)

  gives_object_plays : (n : ℕ) → EndingPlays k {n = n} gives_object
  gives_object_plays n words numbers known known' of_kind o o' past f g acts answer behind at words_are are hand apt
      may ran = given_plays object o o' past f g acts answer behind at (λ now here begins. go now here begins hand) ran
    where
      go : (now : History) → IsAt k now [] → IsPrefix past now → HandIs k past of_kind o o'
          → (o ≡ 0) ⊎ ObjectIs now o o'
      go now here begins (inl none) = inl none
      go now here begins (inr (x, is, same)) = inr (still_there past now acts [] at here begins o o' (x, is))

  -- two objects are one where they were born as one
  same_there : (past : History) (acts : List Act) → IsAt k past acts → (x y x' y' : Option ℕ)
      → BothAre (ObjectIs past) x x' → BothAre (ObjectIs past) y y' → same_object x y ≡ same_object x' y'
  same_there past acts at None None None None first second = refl
  same_there past acts at None (Some o) None (Some j) first second = refl
  same_there past acts at (Some o) None (Some j) None first second = refl
  same_there past acts at (Some o) (Some p) (Some i) (Some j) first second = go (o == p) refl
    where
      go : (b : Bool) → (o == p) ≡ b → (o == p) ≡ (i == j)
      go true e = e ∙ sym (subst (λ z. (i == z) ≡ true)
          ((at_births k past acts at).one_object i j p first.0 second.0
          (subst (λ z. slice_get (births past).objects i ≡ Some (z, Some first.0)) (eq_true o p e) first.1) second.1)
          (eq_self i))
      go false e = e ∙ sym (eq_other i j (λ same. eq_false o p e
          (pair_same o p (Some first.0) (Some second.0)
          (sym (subst (λ z. slice_get (births past).objects z ≡ Some (o, Some first.0)) same first.1) ∙ second.1))))
  same_there past acts at None y (Some j) y' first second = absurd first
  same_there past acts at (Some o) y None y' first second = absurd first
  same_there past acts at None None None (Some j) first second = absurd second
  same_there past acts at None (Some o) None None first second = absurd second
  same_there past acts at (Some p) None (Some i) (Some j) first second = absurd second
  same_there past acts at (Some p) (Some o) (Some i) None first second = absurd second

  pub compares_plays : (n : ℕ) → EndingPlays k {n = n} compares
  compares_plays n words numbers known known' of_kind o o' past f g acts answer behind at words_are are hand apt
      may ran = given_plays truth (same_object (known one) (known other)) (same_object (known' one) (known' other)) past
      f
      g acts answer behind at
      (λ now here begins. same_there past acts at (known one) (known other) (known' one) (known' other) (are one)
      (are other)) ran

  -- EACH ENDING
  pub each_ending : {n : ℕ} {a : AnswerKind} (e : Ending n a) → EndingPlays k e
  each_ending (gives_kind {n = n} kind) = gives_kind_plays n kind
  each_ending (gives_number {n = n} m) = gives_number_plays n m
  each_ending (gives_object {n = n}) = gives_object_plays n
  each_ending (compares {n = n}) = compares_plays n
  each_ending (types {n = n} p) = types_play k n p
  each_ending (creates {n = n} kind p) = creates_plays k n kind p
  each_ending (refers {n = n} p) = refers_play k n p
  each_ending (deletes {n = n} kind p) = deletes_play k n kind p
  each_ending (deletes_local {n = n} p) = deletes_local_plays k n p
  each_ending (asks_room {n = n} m) = asks_room_plays k n m
  each_ending (pushes {n = n} m) = pushes_play k n m
  each_ending (pops_to {n = n} p) = pops_to_plays k n p
  each_ending (frees {n = n}) = frees_play k n
  each_ending (makes kind words) = makes_plays k kind words
  each_ending (fills kind n p) = fills_plays k kind n p
  each_ending (reads {n = n} i) = reads_play k n i
  each_ending (reads_from {n = n} i m) = reads_from_play k n i m
  each_ending (copies {n = n} m) = copies_play k n m
  each_ending (writes {n = n} i v) = writes_play k n i v
  each_ending (writes_to {n = n} i p) = writes_to_play k n i p
  each_ending (writes_from {n = n} i vs) = writes_from_play k n i vs

  pub parts_play : (z : State) (exit : History) → InOneStay k exit → IsPrefix exit k.whole
      → z.objects ≡ (state exit).objects → PartsPlay k z
  parts_play z exit stays begins same = record {
    name = named_plays k;
    both = both_named_plays k;
    find = element_found k;
    header = header_now k z exit stays begins same;
    ending = each_ending;
  }
