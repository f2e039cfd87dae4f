-- What a census tells of what nothing reaches, and of words, is what a collection drops and frees.
use Rattle.std.proofs.Common.{◌≡◌, ◌≤◌, ◌+◌, ◌==◌, ℕ, Bool, true, false, not, Option, Some, None}
use Rattle.std.proofs.Common.{IsSome, is_some, List, [], ◌∷◌, ◌++◌, length, get_or, slice_index_or}
use Rattle.std.proofs.Common.{sum_by, Contains, refl, sym, ap, subst, ◌∙◌, arith, eq-eqb}
use Rattle.std.specs.List.{AllByRecursion, list_any}
use Rattle.std.proofs.lemmas.List.Folds.{list_any_at}
use Rattle.std.proofs.lemmas.List.Sums.{sum_by-cons}
use Rattle.jr_word.specs.declared.config.Config.{Config}
use Rattle.jr_model.specs.declared.event.Act.TheVariants.{Gate}
use Rattle.jr_model.specs.declared.event.GateAct.TheVariants.{Shut, Reopen}
use Rattle.jr_model.specs.Maps.{sum_below}
use Rattle.jr_model.specs.State.{Contents, Handle, HaveSameTables, IsPresent}
use Rattle.jr_model.specs.State.{IsReached, State, length_of, present_words}
use Rattle.jr_model.specs.History.{by, state}
use Rattle.jr_model.specs.CollectionCalls.{IsExact, IsToDrop, KeepsReached}
use Rattle.jr_model.proofs.Counts.{bit}
use Rattle.jr_model.proofs.Exactly.{collection_is_exact}
use Rattle.jr_model.proofs.Histories.{legal_append}
use Rattle.jr_model.proofs.InRoom.{in_room}
use Rattle.jr_model.proofs.Lengths.{sum_same}
use Rattle.jr_compact.proofs.Listed.{sum_listed}
use Rattle.jr_weak.specs.Marks.{IsExactly}
use Rattle.jr_weak.proofs.Leading.{reached_present}
use Rattle.jr_census.specs.Counts.{AreObjects, is_present_as, marked, unless, unmarked}
use Rattle.jr_census.specs.Laws.{AreListed, CollectionIsForetold}
use Rattle.jr_census.specs.declared.objects.Objects.{Objects as ObjectCounts}
use Rattle.jr_census.proofs.WordsCounted.{exactly_on}

-- SUMS OVER A LIST

all_so : {P Q : ℕ → Type 0} (xs : List ℕ) → ((o : ℕ) → P o → Q o) → AllByRecursion P xs → AllByRecursion Q xs
all_so [] each h = tt
all_so (x ∷ xs) each h = (each x h.0, all_so xs each h.1)

sum_by_same : (xs : List ℕ) (f g : ℕ → ℕ) → AllByRecursion (λ o. f o ≡ g o) xs → sum_by f xs ≡ sum_by g xs
sum_by_same [] f g h = refl
sum_by_same (x ∷ xs) f g h =
    let rest = sum_by_same xs f g h.1 in
    let here = h.0 in
    let a = sum_by-cons f x xs in
    let b = sum_by-cons g x xs in
    omega arith

sum_by_ones : (xs : List ℕ) → sum_by (λ o. 1) xs ≡ length xs
sum_by_ones [] = refl
sum_by_ones (x ∷ xs) = let rest = sum_by_ones xs in let a = sum_by-cons (λ (o : ℕ). 1) x xs in omega arith

listed_in : (xs : List ℕ) (o : ℕ) → Contains xs o → list_any (λ y. y == o) xs ≡ true
listed_in xs o there = list_any_at (λ y. y == o) xs there.0 o there.1 (eq-eqb (get_or xs there.0 o) o there.2)

module _ (c : Config) (s S : State) (same : HaveSameTables s S)
    (room : (o : ℕ) → IsPresent S o → (1 ≤ o) × (o ≤ c.objects)) where
  -- marked means reached there, too
  not_marked : (marks : List Bool) → IsExactly marks s → (o : ℕ) → ¬ (IsReached S o)
      → slice_index_or marks o false ≡ false
  not_marked marks exactly o unreached = go (slice_index_or marks o false) refl
    where
      go : (b : Bool) → slice_index_or marks o false ≡ b → b ≡ false
      go true e = absurd (unreached ((exactly_on marks same exactly o).0 e))
      go false e = refl

  not_reached : (marks : List Bool) → IsExactly marks s → (o : ℕ) → slice_index_or marks o false ≡ false
      → ¬ (IsReached S o)
  not_reached marks exactly o e r = let m = sym ((exactly_on marks same exactly o).1 r) ∙ e in cc

  module _ (cleared : List Handle) (dropped : List ℕ) (exact : IsExact S cleared dropped) (marks : List Bool)
      (exactly : IsExactly marks s) where
    -- what is not dropped is marked, or no object
    kept_none : (f : Option Contents → ℕ) → f None ≡ 0 → (o : ℕ) → list_any (λ y. y == o) dropped ≡ false
        → f (unmarked marks s.objects o) ≡ 0
    kept_none f none o out = go (slice_index_or marks o false) refl (s.objects o) refl
      where
        go : (b : Bool) → slice_index_or marks o false ≡ b → (z : Option Contents) → s.objects o ≡ z
            → f (unless b z) ≡ 0
        go true e z q = none
        go false e None q = none
        go false e (Some x) q =
            let present : IsPresent S o =
            subst IsSome (sym (ap (λ (g : ℕ → Option Contents). g o) same.objects ∙ q)) refl in
            let there = listed_in dropped o (exact.whole.drops o (present, not_reached marks exactly o e)) in
            absurd (let z = sym there ∙ out in cc)

    -- SO THE UNREACHED ARE the dropped, whatever is summed of them
    over_dropped : (f : Option Contents → ℕ) → f None ≡ 0
        → sum_below (c.objects + 1) (λ o. f (unmarked marks s.objects o)) ≡ sum_by (λ o. f (s.objects o)) dropped
    over_dropped f none =
        let all : sum_by (λ o. f (unmarked marks s.objects o)) dropped
        ≡ sum_below (c.objects + 1) (λ o. f (unmarked marks s.objects o)) =
        sum_listed dropped (c.objects + 1) (λ o. f (unmarked marks s.objects o)) exact.drops_once
        (all_so dropped (λ o d. let few = (room o d.0).1 in omega arith) exact.drops_only) (kept_none f none) in
        let each : sum_by (λ o. f (s.objects o)) dropped ≡ sum_by (λ o. f (unmarked marks s.objects o)) dropped =
        sum_by_same dropped (λ o. f (s.objects o)) (λ o. f (unmarked marks s.objects o)) (all_so dropped
        (λ o d. ap (λ b. f (unless b (s.objects o))) (sym (not_marked marks exactly o d.1))) exact.drops_only) in
        sym all ∙ sym each

    present_once : (o : ℕ) → IsToDrop S o → bit (is_some (s.objects o)) ≡ 1
    present_once o d = ap bit (subst (λ (g : ℕ → Option Contents). IsSome (g o)) same.objects d.0)

    drops : (x : ObjectCounts) → AreObjects c.objects (unmarked marks s.objects) x → AreListed dropped s.objects x
    drops x are = record {
      kinds = λ kind. are.kinds kind ∙ over_dropped (λ z. bit (is_present_as kind z)) refl;
      live = are.live ∙ (over_dropped (λ z. bit (is_some z)) refl ∙ (sum_by_same dropped (λ o.
          bit (is_some (s.objects o))) (λ o. 1) (all_so dropped present_once exact.drops_only) ∙ sum_by_ones dropped));
      words = are.words ∙ over_dropped length_of refl;
    }

  -- what is marked is what is present at its end
  module _ (end : State) (used : ℕ) (keeps : KeepsReached c S end used) (marks : List Bool)
      (exactly : IsExactly marks s) where
    left_at : (o : ℕ) → length_of (end.objects o) ≡ length_of (marked marks s.objects o)
    left_at o = go (slice_index_or marks o false) refl (s.objects o) refl
      where
        go : (b : Bool) → slice_index_or marks o false ≡ b → (z : Option Contents) → s.objects o ≡ z
            → length_of (end.objects o) ≡ length_of (unless (not b) z)
        go true e None q =
            let present = reached_present S o ((exactly_on marks same exactly o).0 e) in
            absurd (let there = subst IsSome (ap (λ (g : ℕ → Option Contents). g o) same.objects ∙ q) present in cc)
        go true e (Some x) q = ap length_of (keeps.objects o x ((exactly_on marks same exactly o).0 e)
            (ap (λ (g : ℕ → Option Contents). g o) same.objects ∙ q))
        go false e z q = ap length_of (keeps.gone o (not_reached marks exactly o e))

    leaves : present_words c (record s { objects = marked marks s.objects }) ≡ used
    leaves = sym (sum_same (c.objects + 1) (λ o. length_of (marked marks s.objects o)) (λ o. length_of (end.objects o))
        (λ o l. left_at o)) ∙ keeps.words_are

pub collection_is_foretold : (c : Config) (last : ℕ) → CollectionIsForetold c last
collection_is_foretold c last s x t before inside rest cleared dropped used told same l own whole =
    let e = collection_is_exact c last t before inside rest cleared dropped used l own whole in
    let front = ((legal_append c last (before ++ by t (Gate Shut) ∷ inside) (by t (Gate Reopen) ∷ rest)).0 l).0 in
    let room = (in_room c last before ((legal_append c last before (by t (Gate Shut) ∷ inside)).0 front).0).objects in
    let end = state (before ++ by t (Gate Shut) ∷ inside) in
    let unreached = told.unreached in
    let reached = told.words.reached in
    let left : x.words.reached ≡ used =
    reached.2 ∙ leaves c s (state before) same room end used e.1 reached.0 reached.1 in
    let all = told.words.freed in
    record {
      drops = drops c s (state before) same room cleared dropped e.0 unreached.0 unreached.1 x.unreached unreached.2;
      leaves = left;
      frees = omega (arith, left, all);
    }
