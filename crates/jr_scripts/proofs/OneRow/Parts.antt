-- THE PARTS OF CALLS follow: references that are handed in, created and given up, frames, new objects and elements.
use Rattle.std.proofs.Common.{◌≡◌, ◌+◌, ◌==◌, ◌&&◌, ℕ, zero, suc, Bool, true, false, cond, not, nat_lt, nat_le, Option}
use Rattle.std.proofs.Common.{Some, None, is_some, Result, Ok, Err, List, [], ◌∷◌, length, slice_index, refl, sym, ap}
use Rattle.std.proofs.Common.{subst, ◌∙◌, inl, inr, arith}
use Rattle.std.specs.List.{AllByRecursion, flat_map, sum_by}
use Rattle.std.proofs.lemmas.Bool.Decides.{nat_tests}
use Rattle.jr_word.specs.declared.config.Config.{Config}
use Rattle.jr_word.specs.declared.fault.Fault.{Fault}
use Rattle.jr_word.specs.declared.fault.Fault.TheVariants.{Foreign, LocalsFull, NoFrame, Raced, RowFull}
use Rattle.jr_word.specs.declared.handle.Handle.{Handle}
use Rattle.jr_word.specs.declared.handle.RefKind.{RefKind}
use Rattle.jr_word.specs.declared.handle.RefKind.TheVariants.{Local}
use Rattle.jr_word.specs.declared.kind.Kind.{Kind}
use Rattle.jr_model.specs.State.{Contents}
use Rattle.jr_world.specs.World.{all_but_last, contents, contents_in, delete, found, held, new_ref, newest_frame}
use Rattle.jr_world.specs.World.{object, overwritten, refused_if, reserve, room_for, standing_at, type_meant}
use Rattle.jr_world.specs.Doing.{Doing, Noted, Shared, atom, by_step, copied_in_steps, created_in_steps}
use Rattle.jr_world.specs.Doing.{as_seen, created_or_full, deleted_in_steps, element_read, finds_memory, freed_in_steps}
use Rattle.jr_world.specs.Doing.{given_up_in_steps, in_row, is_foreign_to, made_in_steps, made_since, named, named_both}
use Rattle.jr_world.specs.Doing.{over_world, own_or_shared, popped_in_steps, read_in_steps, reserved}
use Rattle.jr_world.specs.Doing.{taken_or_lost, typed, unless_refused, written_in_steps, ◌>>=◌, ◌>>◌}
use Rattle.jr_world.specs.Doing.Doing.{ended}
use Rattle.jr_scripts.proofs.OneRow.Alike.{Alike, Tidy, kept_itself}
use Rattle.jr_scripts.proofs.OneRow.Blind.{Beside, Blind, added_blind, delete_alike, foreign_alike, frames_blind}
use Rattle.jr_scripts.proofs.OneRow.Blind.{look_blind, new_local_blind, new_object_blind, new_ref_blind, object_alike}
use Rattle.jr_scripts.proofs.OneRow.Blind.{removed_blind, reserve_blind, rewrites_blind, room_blind, row_alike}
use Rattle.jr_scripts.proofs.OneRow.Blind.{step_alike, type_alike}
use Rattle.jr_scripts.proofs.OneRow.Follows.{Also, LeadsOnce, but, once_then}
use Rattle.jr_scripts.proofs.OneRow.Goes.{Goes, NothingCame, Stands, act_goes, act_leads, atom_goes}
use Rattle.jr_scripts.proofs.OneRow.Goes.{ended_goes, goes_bind, goes_less, look_goes, seen_is, stands, step_leads}

-- WHOSE A REFERENCE IS that is handed in: behind this test it is known to be no other's
own_then : {A : Type 0} (u : ℕ) (K : Result A Fault → Shared → Type 0) (n : ℕ) (d : Doing A) (z : Shared)
    → K (Err Foreign) z → (is_foreign_to u z n ≡ false → LeadsOnce (but u) u false K d z)
    → LeadsOnce (but u) u false K (own_or_shared n >> d) z
own_then {A} u K n d z foreign rest = inl (
  λ luck gone s mine alike. (
    ap (λ b. tested b) (foreign_alike u luck mine alike n),
    alike,
    kept_itself u s,
  ),
  go (is_foreign_to u z n) refl,
)
  where
    tested : Bool → Doing A
    tested b = unless_refused (λ (v : Unit {0}). d) (cond b (Err Foreign) (Ok tt))

    go : (b : Bool) → is_foreign_to u z n ≡ b → LeadsOnce (but u) u false K (tested b) z
    go true is = foreign
    go false is = rest is

-- its object is only looked at
pub object_is : (u n : ℕ) (luck : Bool) (z : Shared) → Tidy z → (over_world (object n) u luck z).1 ≡ z
object_is u zero luck z tidy = seen_is u z tidy
object_is u (suc n) luck z tidy = seen_is u z tidy

object_then : {A : Type 0} (u : ℕ) (K : Result A Fault → Shared → Type 0) (n : ℕ) (next : Option ℕ → Doing A)
    (z : Shared) → Tidy z → is_foreign_to u z n ≡ false → ((e : Fault) → K (Err e) z)
    → ((x : Option ℕ) → LeadsOnce (but u) u false K (next x) z)
    → LeadsOnce (but u) u false K (atom (object n) >>= next) z
object_then u K n next z tidy own refused rest = inl (
  λ luck gone s mine alike. let both = object_alike u luck mine alike n own in
      (ap (unless_refused next) both.0, both.1, both.2),
  subst (λ y. LeadsOnce (but u) u false K (unless_refused next (over_world (object n) u true z).0) y)
      (sym (object_is u n true z tidy)) (go (over_world (object n) u true z).0),
)
  where
    go : (r : Result (Option ℕ) Fault) → LeadsOnce (but u) u false K (unless_refused next r) z
    go (Ok x) = rest x
    go (Err e) = refused e

-- what is read is an answer, and only looked at
abbrev Tells : {A : Type 0} → Shared → Result A Fault → Shared → Type 0
Tells z (Ok x) y = y ≡ z
Tells z (Err e) y = ⊥

element_blind : (o i : ℕ) → Blind (found (λ w. Ok (slice_index (contents w o).words i)))
element_blind o i = look_blind _ (λ hidden w v views.
    ap (λ (objects : List (Option Contents)). Ok (slice_index (contents_in (standing_at objects o)).words i))
    views.objects)

read_leads : (u o i n : ℕ) (K : Result (List ℕ) Fault → Shared → Type 0) (z : Shared) → Tidy z
    → ((vs : List ℕ) → K (Ok vs) z) → LeadsOnce (but u) u false K (read_in_steps o i n) z
read_leads u o i zero K z tidy so = so []
read_leads u o i (suc n) K z tidy so = inl (
  λ luck gone s mine alike. let both = step_alike u luck mine alike (element_blind o i) in
      (ap (unless_refused next) both.0, both.1, both.2),
  subst (LeadsOnce (but u) u false K (next v)) (sym (seen_is u z tidy))
      (once_then (but u) u false false (λ is. is) (Tells z) K (read_in_steps o (i + 1) n) _ z
      (read_leads u o (i + 1) n (Tells z) z tidy (λ vs. refl)) go (λ bad. absurd cc)),
)
  where
    v : ℕ
    v = slice_index (contents (as_seen u z) o).words i

    next : ℕ → Doing (List ℕ)
    next v = read_in_steps o (i + 1) n >>= (λ vs. ended (Ok (v ∷ vs)))

    go : (r : Result (List ℕ) Fault) (y : Shared) → Tells z r y
        → LeadsOnce (but u) u false K (unless_refused (λ vs. ended (Ok (v ∷ vs))) r) y
    go (Ok vs) y is = subst (K (Ok (v ∷ vs))) (sym is) (so (v ∷ vs))
    go (Err e) y none = absurd none

given_up_goes : {u : ℕ} {before : Option Noted} (ns : List ℕ) → Goes false u before None (given_up_in_steps ns)
given_up_goes {before = before} [] = goes_less (ended_goes {before = before} (Ok tt))
given_up_goes (n ∷ ns) = goes_bind (atom_goes (removed_blind n)) (λ v. given_up_goes ns)

pub written_goes : {u : ℕ} {before : Option Noted} (o i : ℕ) (vs : List ℕ)
    → Goes false u before None (written_in_steps o i vs)
written_goes {before = before} o i [] = goes_less (ended_goes {before = before} (Ok tt))
written_goes o i (v ∷ vs) =
    goes_bind (atom_goes (rewrites_blind (overwritten i (v ∷ [])) o)) (λ x. written_goes o (i + 1) vs)

-- what only frames tell
frames_look : {A : Type 0} {u : ℕ} {before : Option Noted} (f : List (List ℕ) → Result A Fault)
    → Goes false u before before (atom (found (λ w. f w.frames)))
frames_look f = look_goes (λ w. f w.frames) (look_blind _ (λ hidden w v views. ap f views.frames))

module _ {u : ℕ} {before : Option Noted} where
  pub named_goes : (n : ℕ) → Goes false u before before (named n)
  named_goes n = record {
    so = λ z tidy noted. own_then u (Stands before) n (atom (object n)) z tidy (λ own. step_leads u (Stands before)
        (over_world (object n)) z (λ gone s mine alike luck. object_alike u luck mine alike n own)
        (subst (Stands before (over_world (object n) u true z).0) (sym (object_is u n true z tidy))
        (stands before (over_world (object n) u true z).0 z tidy noted)));
  }

  pub both_goes : (m n : ℕ) → Goes false u before before (named_both m n)
  both_goes m n = record {
    so = λ z tidy noted. own_then u (Stands before) m _ z tidy (λ one. own_then u (Stands before) n _ z tidy
        (λ other. object_then u (Stands before) m _ z tidy one (λ e. tidy) (λ x. object_then u (Stands before) n _ z
        tidy other (λ e. tidy) (λ y. (tidy, noted)))));
  }

  pub typed_goes : (n : ℕ) → Goes false u before None (by_step (typed n))
  typed_goes n = act_goes (typed n) (λ gone s z mine alike noted luck. go gone s z mine alike luck
      (is_foreign_to u s n) (is_foreign_to u z n) (foreign_alike u luck mine alike n) refl)
    where
      go : (gone : ℕ → Bool) (s z : Shared) → gone u ≡ false → Alike gone s z → (luck : Bool) → (b d : Bool) → b ≡ d
          → is_foreign_to u z n ≡ d → Beside u gone s (cond b (Ok 0, s) (over_world (type_meant n) u luck s))
          (cond d (Ok 0, z) (over_world (type_meant n) u true z))
      go gone s z mine alike luck true true same is = (refl, alike, kept_itself u s)
      go gone s z mine alike luck false false same is = type_alike u luck mine alike n is
      go gone s z mine alike luck true false same is = absurd cc
      go gone s z mine alike luck false true same is = absurd cc

  pub deleted_goes : (n : ℕ) → Goes false u before None (deleted_in_steps n)
  deleted_goes n = record {
    so = λ z tidy noted. own_then u (Stands None) n (atom (delete n)) z tidy (λ own. act_leads u (over_world (delete n))
        z tidy (λ gone s mine alike luck. delete_alike u luck mine alike n own));
  }

  pub room_goes : (c : Config) (n : ℕ) → Goes false u before before (atom (room_for c n))
  room_goes c n = look_goes (λ w. refused_if (nat_lt c.locals (held w + n)) LocalsFull) (room_blind c n)

  -- ELEMENTS
  pub element_goes : (o i : ℕ) → Goes false u before before (element_read o i)
  element_goes o i = look_goes (λ w. Ok (slice_index (contents w o).words i)) (element_blind o i)

  pub read_goes : (o i n : ℕ) → Goes false u before before (read_in_steps o i n)
  read_goes o i n =
      record { so = λ z tidy noted. read_leads u o i n (Stands before) z tidy (λ vs. (tidy, noted)) }

  -- a copy's luck counts: without it the copy is refused by E16
  pub copied_goes : (o n : ℕ) → Goes true u before None (copied_in_steps o n)
  copied_goes o zero = goes_less (ended_goes {before = before} (Ok []))
  copied_goes o (suc n) = record {
    so = λ z tidy noted. inr (refl, λ luck. ((λ gone s mine alike. (refl, alike, kept_itself u s)), go z tidy luck));
  }
    where
      go : (z : Shared) → Tidy z → (luck : Bool) → LeadsOnce (but u) u false (Also luck (Stands None))
          (unless_refused (λ (v : Unit {0}). read_in_steps o 0 (suc n)) (finds_memory u luck z).0) z
      go z tidy true = read_leads u o 0 (suc n) (Also true (Stands None)) z tidy (λ vs. ((tidy, tt), refl))
      go z tidy false = (tidy, refl)

  -- FRAMES
  pub popped_goes : (c : Config) (n : ℕ) → Goes false u before None (popped_in_steps c n)
  popped_goes c n = goes_bind (frames_look (λ fs. refused_if (nat_lt (length fs) 2) NoFrame))
      (λ v. goes_bind (named_goes n) (λ o. goes_bind (frames_look
      (λ fs. refused_if (is_some o && (sum_by length fs == length (newest_frame fs) + c.locals)) LocalsFull))
      (λ x. goes_bind (frames_look (λ fs. Ok (newest_frame fs))) (λ ns. goes_bind (given_up_goes ns)
      (λ y. goes_bind (atom_goes (frames_blind all_but_last fewer)) (λ a. atom_goes (new_local_blind c o)))))))
    where
      fewer : (Q : ℕ → Type 0) (fs : List (List ℕ)) → AllByRecursion (AllByRecursion Q) fs
          → AllByRecursion (AllByRecursion Q) (all_but_last fs)
      fewer Q [] all = tt
      fewer Q (f ∷ []) all = tt
      fewer Q (f ∷ g ∷ fs) all = (all.0, fewer Q (g ∷ fs) all.1)

  pub freed_goes : Goes false u before None freed_in_steps
  freed_goes = goes_bind (frames_look (λ fs. Ok (flat_map (λ f. f) fs)))
      (λ ns. goes_bind (given_up_goes ns) (λ x. atom_goes (frames_blind (λ fs. [] ∷ []) (λ Q fs all. (tt, tt)))))

-- CREATION: as many slots are free as were at the entry
module _ {u : ℕ} (c : Config) (from : Noted) where
  pub created_goes : (k : RefKind) (x : Option ℕ) → (k ≡ Local → ⊥)
      → Goes false u (Some from) None (created_in_steps c from k x)
  created_goes k None shared = goes_less (ended_goes {before = Some from} (Ok None))
  created_goes k (Some o) shared =
      goes_bind (act_goes (created_or_full c from k o) same) (λ h. ended_goes (Ok (Some h)))
    where
      full : (row slots : ℕ) → nat_le slots row ≡ not (nat_lt row slots)
      full row slots = grind (arith, nat_tests)

      the_row : (z : Shared) → in_row z ≡ from.standing → made_since from.made z.owners ≡ 0
          → from.standing + made_since from.made z.owners ≡ in_row z
      the_row z standing none = omega arith

      settled : {X : Type 0} (luck lt le : Bool) (x y : X) → le ≡ not lt
          → cond (luck && lt) x (cond le y x) ≡ cond lt x y
      settled true true le x y is = refl
      settled true false le x y is = ap (λ b. cond b y x) is
      settled false true le x y is = ap (λ b. cond b y x) is
      settled false false le x y is = ap (λ b. cond b y x) is

      -- so luck counts for nothing
      created_is : (luck : Bool) (s z : Shared) → in_row s ≡ in_row z → s.owners ≡ z.owners → NothingCame from z
          → ◌≡◌ {A = Result Handle Fault × Shared} (created_or_full c from k o u luck s)
          (cond (nat_lt (in_row z) c.slots) (over_world (new_ref k o) u luck s) (Err RowFull, s))
      created_is luck s z row owners came = settled luck (nat_lt (in_row s) c.slots)
          (nat_le c.slots (from.standing + made_since from.made s.owners)) (over_world (new_ref k o) u luck s)
          (Err RowFull, s)
          (ap (λ l. nat_le c.slots (from.standing + made_since from.made l)) owners
          ∙ (ap (λ n. nat_le c.slots n) (the_row z came.standing came.made) ∙ (full (in_row z) c.slots
          ∙ ap (λ n. not (nat_lt n c.slots)) (sym row)))) ∙ ap (λ n. cond {A = Result Handle Fault × Shared}
          (nat_lt n c.slots) (over_world (new_ref k o) u luck s) (Err RowFull, s)) row

      same : (gone : ℕ → Bool) (s z : Shared) → gone u ≡ false → Alike gone s z → NothingCame from z → (luck : Bool)
          → Beside u gone s (created_or_full c from k o u luck s) (created_or_full c from k o u true z)
      same gone s z mine alike came luck =
          subst (λ x. Beside u gone s x (created_or_full c from k o u true z))
          (sym (created_is luck s z (row_alike u luck mine alike) alike.owners came))
          (subst (λ y. Beside u gone s (cond (nat_lt (in_row z) c.slots) (over_world (new_ref k o) u luck s)
          (Err RowFull, s)) y) (sym (created_is true z z refl refl came)) (go (nat_lt (in_row z) c.slots)))
        where
          go : (b : Bool) → Beside u gone s (cond b (over_world (new_ref k o) u luck s) (Err RowFull, s))
              (cond b (over_world (new_ref k o) u true z) (Err RowFull, z))
          go true = step_alike u luck mine alike (new_ref_blind k o shared)
          go false = (refl, alike, kept_itself u s)

  -- NEW OBJECTS: no more words are used than were at the entry
  reserved_goes : (n : ℕ) → Goes false u (Some from) None (reserved c from n)
  reserved_goes zero = goes_less (ended_goes {before = Some from} (Ok tt))
  reserved_goes (suc n) = act_goes (taken_or_lost c from (suc n)) same
    where
      not_less : (n : ℕ) → nat_lt n n ≡ false
      not_less n = grind (arith, nat_tests)

      taken : {X : Type 0} (luck lt : Bool) (x y : X) → lt ≡ false → cond (not luck && lt) x y ≡ y
      taken true lt x y is = refl
      taken false lt x y is = ap (λ b. cond b x y) is

      same : (gone : ℕ → Bool) (s z : Shared) → gone u ≡ false → Alike gone s z → NothingCame from z → (luck : Bool)
          → Beside u gone s (taken_or_lost c from (suc n) u luck s) (taken_or_lost c from (suc n) u true z)
      same gone s z mine alike came luck =
          subst (λ x. Beside u gone s x (over_world (reserve c (suc n)) u true z))
          (sym (taken luck (nat_lt from.used s.used) (Err (Raced from.used s.used), s)
          (over_world (reserve c (suc n)) u luck s)
          (ap (λ m. nat_lt from.used m) (alike.used ∙ sym came.used) ∙ not_less from.used)))
          (step_alike u luck mine alike (reserve_blind c (suc n)))

  pub made_goes : (k : Kind) (words : List ℕ) → Goes false u (Some from) None (made_in_steps c from k words)
  made_goes k words = goes_bind (room_goes c 1)
      (λ v. goes_bind (reserved_goes (length words)) (λ x. goes_bind (atom_goes (new_object_blind c k words))
      (λ o. atom_goes (added_blind o))))
