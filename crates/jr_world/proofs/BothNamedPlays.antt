-- Two references are resolved as their program's four steps do it: whose each is, and what each is to.
use Rattle.std.proofs.Common.{◌≡◌, ◌⊎◌, inl, inr, ℕ, Bool, true, false, cond, Option, Result, Ok, Err, List, [], ◌++◌}
use Rattle.std.proofs.Common.{map, refl, sym, ap, subst, ◌∙◌, append_assoc, append-nil}
use Rattle.std.proofs.lemmas.List.{map-append}
use Rattle.jr_word.specs.declared.fault.Fault.{Fault}
use Rattle.jr_word.specs.declared.fault.Fault.TheVariants as fault
use Rattle.jr_model.specs.declared.event.Act.{Act}
use Rattle.jr_model.specs.Frames.{Frames}
use Rattle.jr_model.specs.History.{History}
use Rattle.jr_model.specs.Checks.{Word, is_foreign, is_malformed, is_out_of_bounds}
use Rattle.jr_model.specs.Calls.{Call, ◌>>=◌, done, refuse_if}
use Rattle.jr_model.specs.Parts.{looked}
use Rattle.jr_model.specs.References.{resolved_both}
use Rattle.jr_world.specs.World.{object}
use Rattle.jr_world.specs.Doing.{Doing, atom, own_or_shared, unless_refused}
use Rattle.jr_world.specs.Plays.{Plays}
use Rattle.jr_world.specs.Playing.{BothAre, ObjectIs, WordIs}
use Rattle.jr_world.proofs.ElementPlays.{both_later}
use Rattle.jr_world.proofs.InStay.{IsAt, Scene}
use Rattle.jr_world.specs.Plays.Plays.{has_ended}
use Rattle.jr_world.proofs.ProgramPlays.{FoundBoth, GoesOnWithBoth}
use Rattle.jr_world.proofs.NamedPlays.{AreBoth, ComesTo, Resolved, Told, WasLooked, WasRefused, comes_then, look_stage}
use Rattle.jr_world.proofs.NamedPlays.{looked_so, own_or, own_stage, passed_then, tested_then, word_later, word_within}
use Rattle.jr_world.specs.Doing as doing
use Rattle.jr_world.specs.Doing.Doing.{ended}
use Rattle.one_order.specs.Orders.{Item}
use Rattle.one_order.specs.Orders.Item.{does as acting}

-- the first is known, and the second answered so
abbrev pub paired : {X : Type 0} → X → Result X Fault → Result (X × X) Fault
paired x (Ok y) = Ok (x, y)
paired x (Err e) = Err e

told_paired : {X Y : Type 0} (So : X → Y → Type 0) (x : X) (y : Y) (z : Result X Fault) (r : Result Y Fault) → So x y
    → Told So z r → Told (λ (a : X × X) (b : Y × Y). So a.0 b.0 × So a.1 b.1) (paired x z) (paired y r)
told_paired So x y (Ok a) (Ok b) first second = (first, second)
told_paired So x y (Err e) (Err d) first second = second
told_paired So x y (Ok a) (Err d) first second = absurd second
told_paired So x y (Err e) (Ok b) first second = absurd second

-- BOTH LOOKS taken apart: the first answered and the second followed, or the first refused
abbrev BothLooked : Word → Word → Frames → List Act → Result (Option ℕ × Option ℕ) Fault → Type 0
BothLooked v w f acts x =
    ((y : Option ℕ) × (z : Result (Option ℕ) Fault) × (front : List Act) × (back : List Act) × (acts ≡ front ++ back)
    × WasLooked v f front (Ok y) × WasLooked w f back z × (x ≡ paired y z))
    ⊎ ((e : Fault) × (x ≡ Err e) × WasLooked v f acts (Err e))

both_looked : (v w : Word) (f g : Frames) (acts : List Act) (x : Result (Option ℕ × Option ℕ) Fault)
    → (looked v >>= (λ y. looked w >>= (λ z. done (y, z)))) f acts x g → BothLooked v w f acts x × (g ≡ f)
both_looked v w f g acts x (inr d) = let was = looked_so v f g acts (Err d.0) d.2 in (inr (d.0, d.1, was.0), was.1)
both_looked v w f g acts x (inl d) = go (looked_so v f d.1 d.2 (Ok d.0) d.5) d.6
  where
    go : WasLooked v f d.2 (Ok d.0) × (d.1 ≡ f) → (looked w >>= (λ z. done (d.0, z))) d.1 d.3 x g
        → BothLooked v w f acts x × (g ≡ f)
    go first (inl e) =
        let second = looked_so w d.1 e.1 e.2 (Ok e.0) e.5 in
        let back : d.3 ≡ e.2 = e.4 ∙ ap (λ l. e.2 ++ l) e.6.0 ∙ append-nil e.2 in (
          inl (
            d.0,
            Ok e.0,
            d.2,
            e.2,
            d.4 ∙ ap (λ l. d.2 ++ l) back,
            first.0,
            subst (λ z. WasLooked w z e.2 (Ok e.0)) first.1 second.0,
            e.6.1,
          ),
          e.6.2 ∙ second.1 ∙ first.1,
        )
    go first (inr e) =
        let second = looked_so w d.1 g d.3 (Err e.0) e.2 in (
          inl (d.0, Err e.0, d.2, d.3, d.4, first.0, subst (λ z. WasLooked w z d.3 (Err e.0)) first.1 second.0, e.1),
          second.1 ∙ first.1,
        )

module _ (k : Scene) where
  found_both : (later : History) (x r : Result (Option ℕ × Option ℕ) Fault) → Told (AreBoth later) x r
      → FoundBoth k later x r
  found_both later (Ok x) (Ok y) told = told
  found_both later (Err e) (Err d) told = told
  found_both later (Ok x) (Err d) told = absurd told
  found_both later (Err e) (Ok y) told = absurd told

  module _ (v w : Word) (m n : ℕ) (past : History) (f : Frames) (acts rest : List Act)
      (x : Result (Option ℕ × Option ℕ) Fault) (behind : List (Item Act)) (at : IsAt k past (acts ++ rest))
      (first : WordIs past v m) (second : WordIs past w n)
    where
      -- both answers, once the first is known, and the looks that find them
      abbrev with_first : Option ℕ → Doing (Option ℕ × Option ℕ)
      with_first y = doing.◌>>=◌ (atom (object n)) (λ z. doing.done (y, z))

      abbrev both_objects : Doing (Option ℕ × Option ℕ)
      both_objects = doing.◌>>=◌ (atom (object m)) with_first

      abbrev Naming : Doing (Option ℕ × Option ℕ) → History → List (Item Act) → Type 0
      Naming d now items = Plays k.config k.whole k.thread (GoesOnWithBoth k rest x) f behind d now f items

      -- what is told of the second, where this is known of the first
      behind_second : (mid later : History) (y y' : Option ℕ) (z r : Result (Option ℕ) Fault) → x ≡ paired y z
          → BothAre (ObjectIs mid) y y' → Resolved k mid rest z later r
          → Naming (unless_refused (λ b. doing.done (y', b)) r) later []
      behind_second mid later y y' z r answer so resolved =
          go r (has_ended (paired y' r) (
            resolved.0.at,
            found_both later x (paired y' r)
                (subst (λ a. Told (AreBoth later) a (paired y' r)) (sym answer)
                (told_paired (BothAre (ObjectIs later)) y y' z r
                (both_later k mid later y y' resolved.0.stays resolved.0.at.begins so) resolved.1)),
          ))
        where
          go : (r : Result (Option ℕ) Fault) → Naming (ended (paired y' r)) later []
              → Naming (unless_refused (λ b. doing.done (y', b)) r) later []
          go (Ok b) plays = plays
          go (Err e) plays = plays

      looks_at_both : (now : History) → ComesTo k past (acts ++ rest) now → is_foreign k.thread v ≡ false
          → is_foreign k.thread w ≡ false → BothLooked v w f acts x → Naming both_objects now (map acting acts)
      looks_at_both now comes own other (inr d) =
          subst (Naming both_objects now) (append-nil (map acting acts))
          (look_stage k (GoesOnWithBoth k rest x) f behind v m now f acts rest [] (Err d.0) (unless_refused with_first)
          comes.at (word_later k past now v m comes.stays first) own d.2 (λ later r resolved. go later r resolved))
        where
          go : (later : History) (r : Result (Option ℕ) Fault) → Resolved k now rest (Err d.0) later r
              → Naming (unless_refused with_first r) later []
          go later (Ok y) resolved = absurd resolved.1
          go later (Err e) resolved = has_ended (Err e) (
            resolved.0.at,
            subst (λ a. FoundBoth k later a (Err e)) (sym d.1) resolved.1,
          )
      looks_at_both now comes own other (inl d) =
          subst (Naming both_objects now) (sym (map-append acting d.2 d.3) ∙ ap (map acting) (sym d.4))
          (look_stage k (GoesOnWithBoth k rest x) f behind v m now f d.2 (d.3 ++ rest) (map acting d.3) (Ok d.0)
          (unless_refused with_first)
          (subst (IsAt k now) (ap (λ l. l ++ rest) d.4 ∙ append_assoc d.2 d.3 rest) comes.at)
          (word_later k past now v m comes.stays first) own d.5 (λ mid r resolved. go mid r resolved))
        where
          go : (mid : History) (r : Result (Option ℕ) Fault) → Resolved k now (d.3 ++ rest) (Ok d.0) mid r
              → Naming (unless_refused with_first r) mid (map acting d.3)
          go mid (Err e) resolved = absurd resolved.1
          go mid (Ok b) resolved =
              subst (Naming (with_first b) mid) (append-nil (map acting d.3))
              (look_stage k (GoesOnWithBoth k rest x) f behind w n mid f d.3 rest [] d.1
              (unless_refused (λ c. doing.done (b, c))) resolved.0.at
              (word_later k past mid w n
              (comes_then k past now mid (acts ++ rest) (d.3 ++ rest) comes resolved.0).stays second) other d.6
              (λ later r then. behind_second mid later d.0 b d.1 r d.7 resolved.1 then))

      -- another's is refused
      refused_so : (g : Frames) (now : History) → ComesTo k past (acts ++ rest) now
          → WasRefused fault.Foreign f acts x g
          → Naming (ended (Err fault.Foreign)) now (map acting acts)
      refused_so g now comes did = subst (λ l. Naming (ended (Err fault.Foreign)) now (map acting l)) (sym did.0)
          (has_ended (Err fault.Foreign) (
            subst (λ l. IsAt k now (l ++ rest)) did.0 comes.at,
            subst (λ z. FoundBoth k now z (Err fault.Foreign)) (sym did.1) refl,
          ))

      -- whose the second is, and what follows
      second_stage : (now : History) (b : Bool) → ComesTo k past (acts ++ rest) now → is_foreign k.thread w ≡ b
          → ((later : History) → ComesTo k past (acts ++ rest) later
          → Naming (unless_refused (λ u. both_objects) (own_or b)) later (map acting acts))
          → Naming (doing.◌>>◌ (own_or_shared n) both_objects) now (map acting acts)
      second_stage now b comes is follows = own_stage k (GoesOnWithBoth k rest x) f behind w n now f (acts ++ rest)
          (map acting acts) (unless_refused (λ u. both_objects)) comes.at (word_later k past now w n comes.stays second)
          (λ later goes. subst (λ d. Naming (unless_refused (λ u. both_objects) (own_or d)) later (map acting acts))
          (sym is) (follows later (comes_then k past now later (acts ++ rest) (acts ++ rest) comes goes)))

      -- whose the first is, and what follows
      first_stage : (b : Bool) → is_foreign k.thread v ≡ b
          → ((now : History) → ComesTo k past (acts ++ rest) now
          → Naming (unless_refused (λ u. doing.◌>>◌ (own_or_shared n) both_objects) (own_or b)) now (map acting acts))
          → Naming (doing.named_both m n) past (map acting acts)
      first_stage b is follows = own_stage k (GoesOnWithBoth k rest x) f behind v m past f (acts ++ rest)
          (map acting acts) (unless_refused (λ u. doing.◌>>◌ (own_or_shared n) both_objects)) at first (λ now comes.
          subst (λ d. Naming (unless_refused (λ u. doing.◌>>◌ (own_or_shared n) both_objects) (own_or d)) now
          (map acting acts)) (sym is) (follows now comes))

      -- the call behind the tests that don't refuse
      abbrev both_looks : Unit {0} → Call (Option ℕ × Option ℕ)
      both_looks u = looked v >>= (λ y. looked w >>= (λ z. done (y, z)))

      abbrev second_owned : Unit {0} → Call (Option ℕ × Option ℕ)
      second_owned u = refuse_if (is_foreign k.thread w) fault.Foreign >>= both_looks

      abbrev first_owned : Unit {0} → Call (Option ℕ × Option ℕ)
      first_owned u = refuse_if (is_foreign k.thread v) fault.Foreign >>= second_owned

      second_play : (g : Frames) (b : Bool) → is_foreign k.thread v ≡ false → is_foreign k.thread w ≡ b
          → cond b (WasRefused fault.Foreign f acts x g) (both_looks tt f acts x g)
          → (g ≡ f) × Naming (doing.named_both m n) past (map acting acts)
      second_play g true own foreign did = (
        did.2,
        first_stage false own (λ now comes.
            second_stage now true comes foreign (λ later goes. refused_so g later goes did)),
      )
      second_play g false own other did =
          let was = both_looked v w f g acts x did in (
            was.1,
            first_stage false own (λ now comes. second_stage now false comes other (λ later goes.
                looks_at_both later goes own other was.0)),
          )

      first_play : (g : Frames) (b : Bool) → is_foreign k.thread v ≡ b
          → cond b (WasRefused fault.Foreign f acts x g) (second_owned tt f acts x g)
          → (g ≡ f) × Naming (doing.named_both m n) past (map acting acts)
      first_play g true foreign did = (did.2, first_stage true foreign (λ now comes. refused_so g now comes did))
      first_play g false own did = second_play g (is_foreign k.thread w) own refl
          (tested_then (is_foreign k.thread w) fault.Foreign both_looks f g acts x did)

      both_play : (g : Frames) → resolved_both k.config k.last k.thread v w f acts x g
          → (g ≡ f) × Naming (doing.named_both m n) past (map acting acts)
      both_play g is =
          let one = word_within k past (acts ++ rest) v m at first in
          let two = word_within k past (acts ++ rest) w n at second in
          first_play g (is_foreign k.thread v) refl
          (tested_then (is_foreign k.thread v) fault.Foreign second_owned f g acts x
          (passed_then (is_out_of_bounds k.config w) fault.Stale first_owned f g acts x two.1
          (passed_then (is_out_of_bounds k.config v) fault.Stale
          (λ u. refuse_if (is_out_of_bounds k.config w) fault.Stale >>= first_owned) f g acts x one.1
          (passed_then (is_malformed w) fault.Stale (λ u. refuse_if (is_out_of_bounds k.config v) fault.Stale
          >>= (λ u. refuse_if (is_out_of_bounds k.config w) fault.Stale >>= first_owned)) f g acts x two.0
          (passed_then (is_malformed v) fault.Stale (λ u. refuse_if (is_malformed w) fault.Stale
          >>= (λ u. refuse_if (is_out_of_bounds k.config v) fault.Stale
          >>= (λ u. refuse_if (is_out_of_bounds k.config w) fault.Stale >>= first_owned))) f g acts x one.0 is)))))

  -- BOTH ARE RESOLVED by the four steps that name them
  pub both_named_plays : (v w : Word) (m n : ℕ) (past : History) (f g : Frames) (acts rest : List Act)
      (x : Result (Option ℕ × Option ℕ) Fault) (behind : List (Item Act)) → IsAt k past (acts ++ rest) → WordIs past v m
      → WordIs past w n → resolved_both k.config k.last k.thread v w f acts x g
      → (g ≡ f) × Plays k.config k.whole k.thread (GoesOnWithBoth k rest x) f behind (doing.named_both m n) past f
      (map acting acts)
  both_named_plays v w m n past f g acts rest x behind at first second is =
      both_play v w m n past f acts rest x behind at first second g is
