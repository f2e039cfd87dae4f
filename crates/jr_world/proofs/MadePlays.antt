-- New objects are made, step by step.
use Rattle.std.proofs.Common.{◌≡◌, ◌⊎◌, inl, inr, ◌<◌, ◌≤◌, ◌+◌, ◌==◌, ℕ, zero, suc, Bool, true, false, cond, nat_lt}
use Rattle.std.proofs.Common.{slice_get, replicate, is_some, Option, Some, None, Result, Ok, Err, IfErr, List, [], ◌∷◌}
use Rattle.std.proofs.Common.{◌++◌, map, length, refl, sym, ap, subst, ◌∙◌, arith, append_assoc, append-nil}
use Rattle.std.proofs.lemmas.Bool.Decides.{nat_tests}
use Rattle.std.proofs.lemmas.List.{length-map, map-append}
use Rattle.std.specs.List.{AllByRecursion}
use mathlib.Core.List.{IsPrefix}
use Rattle.jr_word.specs.declared.config.Config.{Config}
use Rattle.jr_word.specs.declared.fault.Fault.{Fault}
use Rattle.jr_word.specs.declared.fault.Fault.TheVariants.{ObjectsFull, Raced, RowFull, SpaceFull}
use Rattle.jr_word.specs.declared.kind.Kind.{Kind}
use Rattle.jr_model.specs.declared.event.Act.{Act}
use Rattle.jr_model.specs.declared.event.Act.TheVariants.{Gate, New, Reserve, ReserveFull, ReserveLost}
use Rattle.jr_model.specs.declared.event.GateAct.TheVariants.{Leave}
use Rattle.jr_model.specs.State.{Contents}
use Rattle.jr_model.specs.Frames.{Frames}
use Rattle.jr_model.specs.History.{History, IsLegal, by, mine, state}
use Rattle.jr_model.specs.Parts.{publish, reserve}
use Rattle.jr_model.specs.References as References
use Rattle.jr_model.specs.Tests.{is_silent}
use Rattle.jr_model.specs.Calls.{refuse_if}
use Rattle.jr_model.specs.Calls as call
use Rattle.jr_model.specs.Programs.{AnswerOf, Which, fills, handle, makes, nothing}
use Rattle.jr_model.specs.Checks.{element_word, is_objects}
use Rattle.jr_model.proofs.InRoom.{present_is_in_room}
use Rattle.jr_model.proofs.Updates.{eq_other, eq_self}
use Rattle.jr_world.specs.World.{element_to, standing}
use Rattle.jr_world.specs.World as world
use Rattle.jr_world.specs.Births.{Births, IsAs, birth_of, births, born_by, born_word, word_of_kind, words_of_kind}
use Rattle.jr_world.specs.Doing.{Noted, Shared, as_left, as_seen, atom, made_in_steps, over_world, reserved}
use Rattle.jr_world.specs.Doing.{taken_or_lost, ◌>>=◌}
use Rattle.jr_world.specs.Plays.{OthersGoOn, ActsNext, LeavesOthers, Plays, InStands}
use Rattle.jr_world.specs.Plays.Plays.{has_ended}
use Rattle.jr_world.specs.Playing.{AnsweredBy, BothAre, FreeHaveSerials, ObjectIs, SameFault}
use Rattle.jr_world.proofs.Births.{worlds_are_so}
use Rattle.jr_world.proofs.Births.BornObjects.{born_at}
use Rattle.jr_world.proofs.Coming.{then_plays}
use Rattle.jr_world.proofs.StandingBirths.{Born, standing_fewer, standing_full}
use Rattle.jr_world.proofs.InStay.{EndingPlays, Grounded, IsAt, MayRefuse, Scene, StaysOn, Then, at_births, at_legal}
use Rattle.jr_world.proofs.InStay.{at_now, at_within, object_now}
use Rattle.jr_world.proofs.LocalPlays.{added_plays, room_plays}
use Rattle.jr_world.proofs.NextActs.{born_next, next_keeps, next_stands, same_stands}
use Rattle.jr_world.proofs.Standing.{front_legal, is_of_gate, next_needs, seen_keeps, seen_stands, stays_by_others}
use Rattle.jr_world.proofs.Standing.{stays_here, stays_then}
use Rattle.jr_world.proofs.OpenParts.{does_in, waits_in}
use Rattle.one_order.specs.Orders.{Item}
use Rattle.one_order.specs.Orders.Item.{does as acting}

-- THE ACTS OF A RESERVATION of more than no words
abbrev WasReserved : ℕ → List Act → Result (Unit {0}) Fault → Type 0
WasReserved n acts answer = (acts ≡ Reserve n ∷ []) × (answer ≡ Ok tt)

abbrev WasTooMuch : ℕ → List Act → Result (Unit {0}) Fault → Type 0
WasTooMuch n acts answer = (u : ℕ) × (acts ≡ ReserveFull n u ∷ []) × (answer ≡ Err (SpaceFull u))

abbrev WasRaced : ℕ → List Act → Result (Unit {0}) Fault → Type 0
WasRaced n acts answer = (l m : ℕ) × (acts ≡ ReserveLost n l m ∷ []) × (answer ≡ Err (Raced l m))

abbrev Reserves : ℕ → List Act → Result (Unit {0}) Fault → Type 0
Reserves n acts answer = WasReserved n acts answer ⊎ (WasTooMuch n acts answer ⊎ WasRaced n acts answer)

pub reserves : (n : ℕ) (f g : Frames) (acts : List Act) (answer : Result (Unit {0}) Fault)
    → reserve (suc n) f acts answer g → Reserves (suc n) acts answer × (g ≡ f)
reserves n f g acts answer (inl d) = (inl (d.0, d.1), d.2)
reserves n f g acts answer (inr (inl (inl d))) =
    let same : d.0 ≡ d.5.0 = (let e = d.5.2 in cc) in (
      inr (inl (
        d.0,
        d.4 ∙ ap (λ l. l ++ d.3) d.5.1 ∙ ap (λ l. ReserveFull (suc n) d.5.0 ∷ l) d.6.0
            ∙ ap (λ u. ReserveFull (suc n) u ∷ []) (sym same),
        d.6.1,
      )),
      d.6.2 ∙ d.5.3,
    )
reserves n f g acts answer (inr (inl (inr d))) = absurd (let bad = d.2.2 in cc)
reserves n f g acts answer (inr (inr (inl d))) =
    let same : ◌≡◌ {A = ℕ × ℕ} d.0 d.5.0 = (let e = d.5.2 in cc) in (
      inr (inr (
        d.0.0,
        d.0.1,
        d.4 ∙ ap (λ l. l ++ d.3) d.5.1
            ∙ ap (λ l. ReserveLost (suc n) d.5.0.0 d.5.0.1 ∷ l) d.6.0
            ∙ ap (λ (u : ℕ × ℕ). ReserveLost (suc n) u.0 u.1 ∷ []) (sym same),
        d.6.1,
      )),
      d.6.2 ∙ d.5.3,
    )
reserves n f g acts answer (inr (inr (inr d))) = absurd (let bad = d.2.2 in cc)

few : (n m : ℕ) → m ≤ n → nat_lt n m ≡ false
few n m le = grind (arith, nat_tests)

many : (n m : ℕ) → n < m → nat_lt n m ≡ true
many n m l = grind (arith, nat_tests)

module _ (c : Config) (from : Noted) (n t : ℕ) (s : Shared) where
  -- there is room for the words
  taken_is : nat_lt c.words (s.used + suc n) ≡ false → taken_or_lost c from (suc n) t true s
      ≡ (Ok tt, as_left t s (record (as_seen t s) { objects = s.objects; used = s.used + suc n }))
  taken_is fits = rw fits refl

  -- there is none
  full_is : nat_lt c.words (s.used + suc n) ≡ true → taken_or_lost c from (suc n) t true s
      ≡ (Err (SpaceFull s.used), as_left t s (as_seen t s))
  full_is over = rw over refl

  -- others were faster
  lost_is : nat_lt from.used s.used ≡ true → taken_or_lost c from (suc n) t false s
      ≡ (Err (Raced from.used s.used), s)
  lost_is other = rw other refl

module _ (k : Scene) where
  -- as many words are used as in the state
  used_now : (past now : History) (acts : List Act) (f : Frames) (s : Shared) → IsAt k past acts
      → OthersGoOn k.config k.whole k.thread past now → InStands k.config k.thread now f s
      → s.used ≡ (state now).used
  used_now past now acts f s at goes st = st.used ∙ sym (at_births k now acts (at_now k past now acts at goes)).used

  -- and as many were noted at the entry
  used_noted : (past : History) (acts : List Act) → IsAt k past acts → k.noted.used ≡ (state k.entry).used
  used_noted past acts at =
      let begins : IsPrefix k.entry k.whole = (
        at.stays.since ++ at.begins.0,
        sym (append_assoc k.entry at.stays.since at.begins.0) ∙ ap (λ h. h ++ at.begins.0) (sym at.stays.is)
            ∙ at.begins.1,
      ) in
      k.noted_so.used ∙ sym (worlds_are_so k.config k.last k.entry
      (front_legal k.config k.last k.whole k.thread k.legal k.entry begins)).used

  abbrev pub Reserved : ℕ → Result (Unit {0}) Fault → Frames → List (Item Act) → History → Frames → List Act → Type 0
  Reserved n answer g behind past f acts = Plays k.config k.whole k.thread (AnsweredBy nothing answer) g behind
      (reserved k.config k.noted n) past f (map acting acts)

  taken_plays : (n : ℕ) (past : History) (f : Frames) (left : List Act) (behind : List (Item Act))
      → IsAt k past (Reserve (suc n) ∷ left) → Reserved (suc n) (Ok tt) f behind past f (Reserve (suc n) ∷ [])
  taken_plays n past f left behind at =
      does_in k.config k.last k.whole k.thread k.legal (at_within k past (Reserve (suc n) ∷ left) at) true
      (Reserve (suc n)) f refl
      (λ now s next st.
      let is = taken now s next st in (
        subst (λ (z : Result (Unit {0}) Fault × Shared).
            InStands k.config k.thread (now ++ by k.thread (Reserve (suc n)) ∷ []) f z.1) (sym is)
            (next_stands k.config k.thread now f (Reserve (suc n)) true s s.objects (s.used + suc n) st refl refl refl
            refl st.objects (ap (λ u. u + suc n) st.used)),
        subst (λ (z : Result (Unit {0}) Fault × Shared). LeavesOthers k.thread s z.1) (sym is)
            (next_keeps k.thread true s s.objects (s.used + suc n)),
      ))
      (λ now s next st. has_ended (taken_or_lost k.config k.noted (suc n) k.thread true s).0
      (subst (λ (z : Result (Unit {0}) Fault × Shared).
      AnsweredBy nothing (Ok tt) (now ++ by k.thread (Reserve (suc n)) ∷ []) z.0) (sym (taken now s next st)) tt))
    where
      taken : (now : History) (s : Shared) → ActsNext k.config k.whole k.thread past now (Reserve (suc n))
          → InStands k.config k.thread now f s → taken_or_lost k.config k.noted (suc n) k.thread true s
          ≡ (
            Ok tt,
            as_left k.thread s
                (record (as_seen k.thread s) { objects = s.objects; used = s.used + suc n }),
          )
      taken now s next st =
          let needs = next_needs k.config k.last k.whole k.thread k.legal past now (Reserve (suc n)) next in
          let fits : (state now).used + suc n ≤ k.config.words = needs.1.1 in
          let used : s.used ≡ (state now).used = used_now past now (Reserve (suc n) ∷ left) f s at next.goes st in
          taken_is k.config k.noted n k.thread s (few k.config.words (s.used + suc n) (omega arith))

  full_plays : (n u : ℕ) (past : History) (f : Frames) (left : List Act) (behind : List (Item Act))
      → IsAt k past (ReserveFull (suc n) u ∷ left)
      → Reserved (suc n) (Err (SpaceFull u)) f behind past f (ReserveFull (suc n) u ∷ [])
  full_plays n u past f left behind at =
      does_in k.config k.last k.whole k.thread k.legal (at_within k past (ReserveFull (suc n) u ∷ left) at) true
      (ReserveFull (suc n) u) f refl
      (λ now s next st.
      let is = full now s next st in (
        subst (λ (z : Result (Unit {0}) Fault × Shared).
            InStands k.config k.thread (now ++ by k.thread (ReserveFull (suc n) u) ∷ []) f z.1) (sym is)
            (next_stands k.config k.thread now f (ReserveFull (suc n) u) true s s.objects s.used st refl refl refl
            refl st.objects st.used),
        subst (λ (z : Result (Unit {0}) Fault × Shared). LeavesOthers k.thread s z.1) (sym is)
            (seen_keeps k.thread s),
      ))
      (λ now s next st. has_ended (taken_or_lost k.config k.noted (suc n) k.thread true s).0
      (subst (λ (z : Result (Unit {0}) Fault × Shared).
      AnsweredBy nothing (Err (SpaceFull u)) (now ++ by k.thread (ReserveFull (suc n) u) ∷ []) z.0)
      (sym (full now s next st)) (ap SpaceFull (same now s next st))))
    where
      same : (now : History) (s : Shared) → ActsNext k.config k.whole k.thread past now (ReserveFull (suc n) u)
          → InStands k.config k.thread now f s → u ≡ s.used
      same now s next st =
          let needs = next_needs k.config k.last k.whole k.thread k.legal past now (ReserveFull (suc n) u) next in
          needs.1.1 ∙ sym (used_now past now (ReserveFull (suc n) u ∷ left) f s at next.goes st)

      full : (now : History) (s : Shared) → ActsNext k.config k.whole k.thread past now (ReserveFull (suc n) u)
          → InStands k.config k.thread now f s → taken_or_lost k.config k.noted (suc n) k.thread true s
          ≡ (Err (SpaceFull s.used), as_left k.thread s (as_seen k.thread s))
      full now s next st =
          let needs = next_needs k.config k.last k.whole k.thread k.legal past now (ReserveFull (suc n) u) next in
          let over : k.config.words < u + suc n = needs.1.2 in
          let used : u ≡ s.used = same now s next st in
          full_is k.config k.noted n k.thread s (many k.config.words (s.used + suc n) (omega arith))

  lost_plays : (n l m : ℕ) (past : History) (f : Frames) (left : List Act) (behind : List (Item Act))
      → IsAt k past (ReserveLost (suc n) l m ∷ left) → (state k.entry).used < m
      → Reserved (suc n) (Err (Raced l m)) f behind past f (ReserveLost (suc n) l m ∷ [])
  lost_plays n l m past f left behind at more =
      does_in k.config k.last k.whole k.thread k.legal (at_within k past (ReserveLost (suc n) l m ∷ left) at) false
      (ReserveLost (suc n) l m) f refl
      (λ now s next st.
      let is = lost now s next st in (
        subst (λ (z : Result (Unit {0}) Fault × Shared).
            InStands k.config k.thread (now ++ by k.thread (ReserveLost (suc n) l m) ∷ []) f z.1) (sym is)
            (same_stands k.config k.thread now f (ReserveLost (suc n) l m) s st refl refl refl),
        subst (λ (z : Result (Unit {0}) Fault × Shared). LeavesOthers k.thread s z.1) (sym is)
            (record { frames = λ u ne. refl; board = refl }),
      ))
      (λ now s next st. has_ended (taken_or_lost k.config k.noted (suc n) k.thread false s).0
      (subst (λ (z : Result (Unit {0}) Fault × Shared).
      AnsweredBy nothing (Err (Raced l m)) (now ++ by k.thread (ReserveLost (suc n) l m) ∷ []) z.0)
      (sym (lost now s next st)) tt))
    where
      lost : (now : History) (s : Shared) → ActsNext k.config k.whole k.thread past now (ReserveLost (suc n) l m)
          → InStands k.config k.thread now f s → taken_or_lost k.config k.noted (suc n) k.thread false s
          ≡ (Err (Raced k.noted.used s.used), s)
      lost now s next st =
          let needs = next_needs k.config k.last k.whole k.thread k.legal past now (ReserveLost (suc n) l m) next in
          let found : m ≡ (state now).used = needs.1.1 in
          let used : s.used ≡ (state now).used =
          used_now past now (ReserveLost (suc n) l m ∷ left) f s at next.goes st in
          let noted : k.noted.used ≡ (state k.entry).used = used_noted past (ReserveLost (suc n) l m ∷ left) at in
          lost_is k.config k.noted n k.thread s (many k.noted.used s.used (omega arith))

  -- by its acts
  by_acts : (n : ℕ) (past : History) (f g : Frames) (acts left : List Act) (answer : Result (Unit {0}) Fault)
      (behind : List (Item Act)) → IsAt k past (acts ++ left) → IfErr answer (λ e. Grounded k e) → g ≡ f
      → Reserves (suc n) acts answer → Reserved (suc n) answer g behind past f acts
  by_acts n past f g acts left answer behind at grounds same (inl d) =
      rw (same, d.1, d.0) (taken_plays n past f left behind (subst (λ l. IsAt k past (l ++ left)) d.0 at))
  by_acts n past f g acts left answer behind at grounds same (inr (inl d)) =
      rw (same, d.2, d.1) (full_plays n d.0 past f left behind (subst (λ l. IsAt k past (l ++ left)) d.1 at))
  by_acts n past f g acts left answer behind at grounds same (inr (inr d)) =
      rw (same, d.3, d.2) (lost_plays n d.0 d.1 past f left behind (subst (λ l. IsAt k past (l ++ left)) d.2 at)
      (subst (λ r. IfErr r (λ e. Grounded k e)) d.3 grounds))

  -- A RESERVATION IS PLAYED, of whatever acts are left behind it
  pub reserved_plays : (n : ℕ) (past : History) (f g : Frames) (acts left : List Act) (answer : Result (Unit {0}) Fault)
      (behind : List (Item Act)) → IsAt k past (acts ++ left) → IfErr answer (λ e. Grounded k e)
      → reserve n f acts answer g → Reserved n answer g behind past f acts
  reserved_plays zero past f g acts left answer behind at grounds d =
      rw (d.2, d.1, d.0) (has_ended (Ok tt) tt)
  reserved_plays (suc n) past f g acts left answer behind at grounds d =
      let by = reserves n f g acts answer d in
      by_acts n past f g acts left answer behind at grounds by.1 by.0

-- A NEW OBJECT

-- it is as the birth at that number, or refused alike
abbrev pub IsMadeAs : Result ℕ Fault → History → Result ℕ Fault → Type 0
IsMadeAs (Ok o) h (Ok y) = ObjectIs h o y
IsMadeAs (Err e) h (Err d) = SameFault e d
IsMadeAs _ h _ = ⊥

module _ (c : Config) (kind : Kind) (words : List ℕ) (t : ℕ) (s : Shared) where
  -- one more may stand
  new_is : (standing s.objects == c.objects) ≡ false → over_world (world.new_object c kind words) t true s
      ≡ (
        Ok (length s.objects),
        as_left t s (record (as_seen t s) {
          objects = s.objects ++ Some (record { kind = kind; words = words }) ∷ [];
          used = s.used;
        }),
      )
  new_is fits = rw fits refl

  -- as many stand as may be
  none_is : (standing s.objects == c.objects) ≡ true → over_world (world.new_object c kind words) t true s
      ≡ (Err ObjectsFull, as_left t s (as_seen t s))
  none_is full = rw full refl

get_last : {X : Type 0} (xs : List X) (x : X) → slice_get (xs ++ x ∷ []) (length xs) ≡ Some x
get_last [] x = refl
get_last (y ∷ xs) x = get_last xs x

module _ (k : Scene) (kind : Kind) (words words' : List ℕ) where
  -- these are the words by the births, as long as the stay lasts
  abbrev pub AreWordsFrom : History → Type 0
  AreWordsFrom past = (now : History) → StaysOn k past now → IsPrefix now k.whole
      → words' ≡ words_of_kind (births now).objects kind words

  abbrev pub Published : Result ℕ Fault → Frames → List (Item Act) → History → Frames → List Act → Type 0
  Published answer g behind past f acts = Plays k.config k.whole k.thread (IsMadeAs answer) g behind
      (atom (world.new_object k.config kind words')) past f (map acting acts)

  module _ (past : History) (f : Frames) (behind : List (Item Act)) where
    pub new_plays : (o : ℕ) (left : List Act) → IsAt k past (New o kind words ∷ left) → AreWordsFrom past
        → Published (Ok o) f behind past f (New o kind words ∷ [])
    new_plays o left at told =
        does_in k.config k.last k.whole k.thread k.legal (at_within k past (New o kind words ∷ left) at) true
        (New o kind words) f refl
        (λ now s next st.
        let is = new now s next st in (
          subst (λ (z : Result ℕ Fault × Shared).
              InStands k.config k.thread (now ++ by k.thread (New o kind words) ∷ []) f z.1) (sym is)
              (next_stands k.config k.thread now f (New o kind words) true s
              (s.objects ++ Some (record { kind = kind; words = words' }) ∷ []) s.used st refl refl refl refl
              (more now s next st) st.used),
          subst (λ (z : Result ℕ Fault × Shared). LeavesOthers k.thread s z.1) (sym is)
              (next_keeps k.thread true s (s.objects ++ Some (record { kind = kind; words = words' }) ∷ []) s.used),
        ))
        (λ now s next st. has_ended (over_world (world.new_object k.config kind words') k.thread true s).0
        (subst (λ (z : Result ℕ Fault × Shared). IsMadeAs (Ok o) (now ++ by k.thread (New o kind words) ∷ []) z.0)
        (sym (new now s next st)) (born now s next st)))
      where
        told_now : (now : History) → ActsNext k.config k.whole k.thread past now (New o kind words)
            → words' ≡ words_of_kind (births now).objects kind words
        told_now now next = told now
            (stays_by_others k.config k.last k.whole k.thread k.legal past past now
            (stays_here k.config k.last k.whole k.thread k.legal past
            (at_within k past (New o kind words ∷ left) at)) next.goes) next.goes.begins

        more : (now : History) (s : Shared) → ActsNext k.config k.whole k.thread past now (New o kind words)
            → InStands k.config k.thread now f s → s.objects ++ Some (record { kind = kind; words = words' }) ∷ []
            ≡ map (λ e. e.1) (born_by (births now) k.thread (New o kind words)).objects
        more now s next st =
            ap (λ l. l ++ Some (record { kind = kind; words = words' }) ∷ []) st.objects
            ∙ ap (λ ws. map (λ e. e.1) (births now).objects ++ Some (record { kind = kind; words = ws }) ∷ [])
            (told_now now next)
            ∙ sym (map-append (λ (e : ℕ × Option Contents). e.1) (births now).objects
            ((o, Some (record { kind = kind; words = words_of_kind (births now).objects kind words })) ∷ []))

        new : (now : History) (s : Shared) → ActsNext k.config k.whole k.thread past now (New o kind words)
            → InStands k.config k.thread now f s → over_world (world.new_object k.config kind words') k.thread true
            s
            ≡ (
              Ok (length s.objects),
              as_left k.thread s (record (as_seen k.thread s) {
                objects = s.objects ++ Some (record { kind = kind; words = words' }) ∷ [];
                used = s.used;
              }),
            )
        new now s next st =
            let needs = next_needs k.config k.last k.whole k.thread k.legal past now (New o kind words) next in
            let here = at_now k past now (New o kind words ∷ left) at next.goes in
            let least : 1 ≤ o = needs.1.1 in
            let most : o ≤ k.config.objects = needs.1.2 in
            let fewer = standing_fewer k.config k.last now (at_legal k now (New o kind words ∷ left) here)
            (at_births k now (New o kind words ∷ left) here) o least most needs.1.3 in
            new_is k.config kind words' k.thread s
            (ap (λ l. standing l == k.config.objects) st.objects
            ∙ eq_other (standing (map (λ e. e.1) (births now).objects)) k.config.objects (λ e. absurd (omega arith)))

        born : (now : History) (s : Shared) → ActsNext k.config k.whole k.thread past now (New o kind words)
            → InStands k.config k.thread now f s
            → ObjectIs (now ++ by k.thread (New o kind words) ∷ []) o (length s.objects)
        born now s next st =
            let x : Contents = record { kind = kind; words = words_of_kind (births now).objects kind words } in
            let long : length s.objects ≡ length (births now).objects =
            ap length st.objects ∙ length-map (births now).objects (λ e. e.1) in (
              x,
              ap (λ (b : Births). slice_get b.objects (length s.objects))
                  (born_next k.config k.thread now f (New o kind words))
                  ∙ ap (slice_get ((births now).objects ++ (o, Some x) ∷ [])) long
                  ∙ get_last (births now).objects (o, Some x),
            )

    pub none_plays : IsAt k past [] → MayRefuse k {A = ℕ} behind (Err ObjectsFull)
        → Published (Err ObjectsFull) f behind past f []
    none_plays at may =
        waits_in k.config k.last k.whole k.thread k.legal (at_within k past [] at) true (Gate Leave) f (may refl).2
        (λ now s next st.
        let is = none now s next st in (
          subst (λ (z : Result ℕ Fault × Shared). InStands k.config k.thread now f z.1) (sym is)
              (seen_stands k.config k.thread now f s st),
          subst (λ (z : Result ℕ Fault × Shared). LeavesOthers k.thread s z.1) (sym is) (seen_keeps k.thread s),
        ))
        (λ now s next st. has_ended (over_world (world.new_object k.config kind words') k.thread true s).0
        (subst (λ (z : Result ℕ Fault × Shared). IsMadeAs (Err ObjectsFull) now z.0) (sym (none now s next st)) refl))
      where
        none : (now : History) (s : Shared) → ActsNext k.config k.whole k.thread past now (Gate Leave)
            → InStands k.config k.thread now f s → over_world (world.new_object k.config kind words') k.thread true
            s
            ≡ (Err ObjectsFull, as_left k.thread s (as_seen k.thread s))
        none now s next st =
            let here = at_now k past now [] at next.goes in
            let each = (may refl).0 now next.next (sym (append-nil (mine now k.thread)) ∙ here.own) in
            let full = standing_full k.config k.last now (at_legal k now [] here) (at_births k now [] here) each in
            none_is k.config kind words' k.thread s
            (ap (λ l. standing l == k.config.objects) st.objects ∙ ap (λ n. n == k.config.objects) full
            ∙ eq_self k.config.objects)

  -- PUBLISHING IS PLAYED, of whatever acts are left behind it: none where it is refused
  pub published_plays : (past : History) (f g : Frames) (acts left : List Act) (answer : Result ℕ Fault)
      (behind : List (Item Act)) → IsAt k past (acts ++ left) → IfErr answer (λ e. left ≡ [])
      → MayRefuse k behind answer
      → AreWordsFrom past → publish kind words f acts answer g
      → AllByRecursion (λ b. is_of_gate b ≡ false) acts × Published answer g behind past f acts
  published_plays past f g acts left answer behind at whole may told (inl d) = (
    subst (AllByRecursion (λ b. is_of_gate b ≡ false)) (sym d.1) (refl, tt),
    rw (d.3, d.2, d.1) (new_plays past f behind d.0 left (subst (λ l. IsAt k past (l ++ left)) d.1 at) told),
  )
  published_plays past f g acts left answer behind at whole may told (inr d) = (
    subst (AllByRecursion (λ b. is_of_gate b ≡ false)) (sym d.0) tt,
    rw (d.2, d.1, d.0) (none_plays past f behind
        (subst (IsAt k past) (ap (λ l. l ++ left) d.0 ∙ subst (λ r. IfErr r (λ e. left ≡ [])) d.1 whole) at)
        (subst (λ r. MayRefuse k behind r) d.1 may)),
  )

no_act : (b : Bool) (e : Fault) (f g : Frames) (acts : List Act) (r : Result (Unit {0}) Fault)
    → refuse_if b e f acts r g → acts ≡ []
no_act true e f g acts r d = d.0
no_act false e f g acts r d = d.0

-- A NEW OBJECT, AND A LOCAL REFERENCE TO IT
module _ (k : Scene) (kind : Kind) (words words' : List ℕ) where
  -- the last part
  publishes : (past : History) (f g : Frames) (acts : List Act) (answer : Result (AnswerOf handle) Fault)
      (behind : List (Item Act)) → IsAt k past acts → MayRefuse k behind answer → AreWordsFrom k kind words words' past
      → call.◌>>=◌ (publish kind words) (λ o. References.added k.config k.last k.thread o) f acts answer g
      → Plays k.config k.whole k.thread (Then k handle answer) g behind
      (atom (world.new_object k.config kind words') >>= (λ o. atom (world.added o))) past f (map acting acts)
  publishes past f g acts answer behind at may told d =
      then_plays k IsMadeAs (λ x later e v. v) (λ e later y v. v) (λ e d later v. v) handle (publish kind words)
      (λ o. References.added k.config k.last k.thread o) (atom (world.new_object k.config kind words'))
      (λ o. atom (world.added o)) past f g answer behind acts at may
      (λ mid front left r behind' here whole refused part.
      published_plays k kind words words' past f mid front left r behind' here whole refused told part)
      (λ o o' mid later left is stays here rest.
      added_plays k o o' later mid g left answer behind here is rest) d

  -- what was told stays told
  told_later : (past later : History) → StaysOn k past later → AreWordsFrom k kind words words' past
      → AreWordsFrom k kind words words' later
  told_later past later stays told now since begins =
      told now (stays_then k.config k.last k.whole k.thread k.legal past later now stays since) begins

  -- with the reservation before it
  takes_space : (past : History) (f g : Frames) (acts : List Act) (answer : Result (AnswerOf handle) Fault)
      (behind : List (Item Act)) → IsAt k past acts → MayRefuse k behind answer → AreWordsFrom k kind words words' past
      → call.◌>>=◌ (reserve (length words)) (λ _. call.◌>>=◌ (publish kind words)
      (λ o. References.added k.config k.last k.thread o)) f acts answer g
      → Plays k.config k.whole k.thread (Then k handle answer) g behind
      (reserved k.config k.noted (length words) >>= (λ _. atom (world.new_object k.config kind words')
      >>= (λ o. atom (world.added o)))) past f (map acting acts)
  takes_space past f g acts answer behind at may told d =
      then_plays k (AnsweredBy nothing) (λ x later e v. v) (λ e later y v. v) (λ e d later v. v) handle
      (reserve (length words)) (λ _. call.◌>>=◌ (publish kind words)
      (λ o. References.added k.config k.last k.thread o)) (reserved k.config k.noted (length words))
      (λ _. atom (world.new_object k.config kind words') >>= (λ o. atom (world.added o))) past f g answer behind acts
      at may
      (λ mid front left r behind' here whole refused part. (
        no_gate (length words) f mid front r part,
        reserved_plays k (length words) past f mid front left r behind' here (grounds_of r behind' refused) part,
      ))
      (λ x y mid later left v stays here rest.
      publishes later mid g left answer behind here may (told_later past later stays told) rest) d
    where
      grounds_of : (r : Result (Unit {0}) Fault) (behind' : List (Item Act)) → MayRefuse k behind' r
          → IfErr r (λ e. Grounded k e)
      grounds_of (Ok x) behind' may = tt
      grounds_of (Err e) behind' may = go e (λ loud. (may loud).0)
        where
          go : (d : Fault) → (is_silent d ≡ false → Grounded k d) → Grounded k d
          go RowFull so = so refl
          go ObjectsFull so = so refl
          go (Raced looked found) so = so refl
          go _ so = tt

      by_acts_no_gate : (n : ℕ) (front : List Act) (r : Result (Unit {0}) Fault) → Reserves n front r
          → AllByRecursion (λ b. is_of_gate b ≡ false) front
      by_acts_no_gate n front r (inl d) = subst (AllByRecursion (λ b. is_of_gate b ≡ false)) (sym d.0) (refl, tt)
      by_acts_no_gate n front r (inr (inl d)) =
          subst (AllByRecursion (λ b. is_of_gate b ≡ false)) (sym d.1) (refl, tt)
      by_acts_no_gate n front r (inr (inr d)) =
          subst (AllByRecursion (λ b. is_of_gate b ≡ false)) (sym d.2) (refl, tt)

      no_gate : (n : ℕ) (f mid : Frames) (front : List Act) (r : Result (Unit {0}) Fault) → reserve n f front r mid
          → AllByRecursion (λ b. is_of_gate b ≡ false) front
      no_gate zero f mid front r part = subst (AllByRecursion (λ b. is_of_gate b ≡ false)) (sym part.0) tt
      no_gate (suc n) f mid front r part = by_acts_no_gate (suc n) front r (reserves n f mid front r part).0

  -- and with the room before both
  makes_all : (past : History) (f g : Frames) (acts : List Act) (answer : Result (AnswerOf handle) Fault)
      (behind : List (Item Act)) → IsAt k past acts → FreeHaveSerials k.last f → MayRefuse k behind answer
      → AreWordsFrom k kind words words' past → References.made k.config k.last k.thread kind words f acts answer g
      → Plays k.config k.whole k.thread (Then k handle answer) g behind
      (atom (world.room_for k.config 1) >>= (λ _. reserved k.config k.noted (length words)
      >>= (λ _. atom (world.new_object k.config kind words') >>= (λ o. atom (world.added o))))) past f (map acting acts)
  makes_all past f g acts answer behind at serials may told d =
      then_plays k (λ r later y. Then k nothing r later y) (λ x later e v. v.2) (λ e later y v. v.2)
      (λ e d later v. v.2) handle (References.room_for k.config k.last k.thread 1)
      (λ _. call.◌>>=◌ (reserve (length words)) (λ _. call.◌>>=◌ (publish kind words)
      (λ o. References.added k.config k.last k.thread o))) (atom (world.room_for k.config 1))
      (λ _. reserved k.config k.noted (length words)
      >>= (λ _. atom (world.new_object k.config kind words') >>= (λ o. atom (world.added o)))) past f g answer behind
      acts at may
      (λ mid front left r behind' here whole refused part. (
        subst (AllByRecursion (λ b. is_of_gate b ≡ false)) (sym (no_act _ _ f mid front r part)) tt,
        room_plays (record k { own = mine past k.thread ++ front }) 1 past f mid front r behind'
            (record { stays = here.stays; begins = here.begins; own = refl }) serials part,
      ))
      (λ x y mid later left v stays here rest.
      takes_space later mid g left answer behind here may (told_later past later stays told) rest) d

  -- A NEW OBJECT IS MADE, with a local reference to it
  pub made_in_stay : (past : History) (f g : Frames) (acts : List Act) (answer : Result (AnswerOf handle) Fault)
      (behind : List (Item Act)) → IsAt k past acts → FreeHaveSerials k.last f → MayRefuse k behind answer
      → AreWordsFrom k kind words words' past → References.made k.config k.last k.thread kind words f acts answer g
      → Plays k.config k.whole k.thread (Then k handle answer) g behind (made_in_steps k.config k.noted kind words')
      past f (map acting acts)
  made_in_stay past f g acts answer behind at serials may told d =
      subst (λ n. Plays k.config k.whole k.thread (Then k handle answer) g behind
      (atom (world.room_for k.config 1) >>= (λ _. reserved k.config k.noted n
      >>= (λ _. atom (world.new_object k.config kind words') >>= (λ o. atom (world.added o))))) past f
      (map acting acts))
      (sym (ap length (told past (stays_here k.config k.last k.whole k.thread k.legal past (at_within k past acts at))
      at.begins) ∙ length-map words (word_of_kind (births past).objects kind)))
      (makes_all past f g acts answer behind at serials may told d)

-- THE WORDS BY THE BIRTHS

-- elements that name no objects are the same
plain_words : (objects : Born) (kind : Kind) (words : List ℕ) → is_objects kind ≡ false
    → words_of_kind objects kind words ≡ words
plain_words objects kind [] none = refl
plain_words objects kind (v ∷ words) none =
    ap (λ b. cond b (born_word objects v) v ∷ words_of_kind objects kind words) none
    ∙ ap (λ l. v ∷ l) (plain_words objects kind words none)

same_words : (objects : Born) (kind : Kind) (n v : ℕ)
    → words_of_kind objects kind (replicate n v) ≡ replicate n (word_of_kind objects kind v)
same_words objects kind zero v = refl
same_words objects kind (suc n) v = ap (λ l. word_of_kind objects kind v ∷ l) (same_words objects kind n v)

-- none is none
no_element : (objects : Born) (kind : Kind) → word_of_kind objects kind 0 ≡ 0
no_element objects kind = go (is_objects kind)
  where
    go : (b : Bool) → cond b (born_word objects 0) 0 ≡ 0
    go true = refl
    go false = refl

module _ (k : Scene) (kind : Kind) where
  -- an element that names an object names where it was born
  element_is : (past now : History) (x y : Option ℕ) → is_objects kind ≡ true → BothAre (ObjectIs past) x y
      → StaysOn k past now → IsPrefix now k.whole
      → word_of_kind (births now).objects kind (element_word x) ≡ element_to y
  element_is past now None None is both stays begins = no_element (births now).objects kind
  element_is past now (Some o) (Some y) is both stays begins =
      ap (λ b. cond b (born_word (births now).objects o) o) is ∙ named o here small
    where
      legal : IsLegal k.config k.last now
      legal = front_legal k.config k.last k.whole k.thread k.legal now begins

      so : IsAs (births now) (state now)
      so = worlds_are_so k.config k.last now legal

      here : ObjectIs now o y
      here = let found = object_now k past now stays begins o y both.0 both.1 in (found.0, found.1)

      small : 1 ≤ o
      small = let there = so.contents y o here.0 here.1 in
          (present_is_in_room k.config k.last now o legal (ap is_some there.1)).0

      named : (o : ℕ) → ObjectIs now o y → 1 ≤ o → born_word (births now).objects o ≡ suc y
      named zero at least = absurd (omega arith)
      named (suc o) at least =
          let born = born_at (births now).objects y (suc o) at.0 at.1 in
          ap suc (so.one_object (birth_of (births now).objects (suc o)) y (suc o) born.0 at.0 born.1 at.1)
  element_is past now None (Some y) is both stays begins = absurd both
  element_is past now (Some o) None is both stays begins = absurd both

-- ENDINGS THAT MAKE AN OBJECT ARE PLAYED
module _ (k : Scene) where
  pub makes_plays : (kind : Kind) (words : List ℕ) → EndingPlays k (makes kind words)
  makes_plays kind words ws ns known known' kind' o o' past f g acts answer behind at named are hand apt may d =
      made_in_stay k kind words words past f g acts answer behind at apt.0 may
      (λ now stays begins. sym (plain_words (births now).objects kind words apt.1)) d

  pub fills_plays : (kind : Kind) (n : ℕ) (w : Option Which) → EndingPlays k (fills kind n w)
  fills_plays kind n None ws ns known known' kind' o o' past f g acts answer behind at named are hand apt may d =
      made_in_stay k kind (replicate n 0) (replicate n 0) past f g acts answer behind at apt may
      (λ now stays begins. ap (λ v. replicate n v) (sym (no_element (births now).objects kind))
      ∙ sym (same_words (births now).objects kind n 0)) d
  fills_plays kind n (Some w) ws ns known known' kind' o o' past f g acts answer behind at named are hand apt may d =
      made_in_stay k kind (replicate n (element_word (known w)))
      (replicate n (element_to (known' w))) past f g acts answer behind at apt.0 may
      (λ now stays begins.
      ap (λ v. replicate n v) (sym (element_is k kind past now (known w) (known' w) apt.1 (are w) stays begins))
      ∙ sym (same_words (births now).objects kind n (element_word (known w)))) d
