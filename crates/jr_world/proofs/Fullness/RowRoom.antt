-- What was born and stands in the row: at a refusal it fills the row, at a creation it leaves room, and its kinds.
use Rattle.std.proofs.Common.{◌≡◌, ◌≢◌, inl, inr, ⊎_elim, ◌<◌, ◌+◌, ◌&&◌, ℕ, suc, Bool, true, false}
use Rattle.std.proofs.Common.{cond, drop, not, is_some, Option, Some, None, List, [], ◌∷◌, ◌++◌, map, length}
use Rattle.std.proofs.Common.{slice_get, refl, sym, ap, subst, ◌∙◌, arith}
use Rattle.std.specs.List.{filter}
use Rattle.std.proofs.lemmas.List.{drop-map}
use Rattle.jr_word.specs.declared.config.Config.{Config}
use Rattle.jr_word.specs.declared.handle.RefKind.{RefKind}
use Rattle.jr_word.specs.declared.handle.RefKind.TheVariants.{Local, Global, Weak}
use Rattle.jr_model.specs.declared.event.Act.TheVariants.{Gate}
use Rattle.jr_model.specs.declared.event.GateAct.TheVariants.{Leave}
use Rattle.jr_model.specs.declared.event.Found.{Found}
use Rattle.jr_model.specs.declared.event.Found.TheVariants.{Object, Cleared, Stale}
use Rattle.jr_model.specs.State.{Handle, State, same_kind}
use Rattle.jr_model.specs.Checks.{is_local}
use Rattle.jr_model.specs.History.{History, IsLegal, by, state}
use Rattle.jr_model.proofs.Counts.{bit}
use Rattle.jr_model.proofs.Histories.{legal_append}
use Rattle.jr_model.proofs.References.{IsKept, kept_state}
use Rattle.jr_world.specs.World.{Ref, how_many, is_ref_of}
use Rattle.jr_world.specs.Births.{Births, IsAs, RefIsSo, births, found_in}
use Rattle.jr_world.specs.Fullness.{BirthsFillTheRow, CreationsHaveRoom, creations, is_of_row, row_births}
use Rattle.jr_world.specs.Fullness.{row_references, stands_in_row}
use Rattle.jr_world.specs.Doing.{has_no_owner, made_since}
use Rattle.jr_world.specs.Plays.{owner_of_handle}
use Rattle.jr_world.proofs.Fullness.Counting.{AreDistinct, IsOneOf, at_most}
use Rattle.jr_world.proofs.Fullness.{full_before_exit}
use Rattle.jr_world.proofs.Fullness.RowBirths.{Entry, creations_are_born, how_many_first, row_is_born, stands_there}

pub births_fill_the_row : BirthsFillTheRow
births_fill_the_row begun mid new is legal few full as_born =
    let c = new.config in
    let whole = (legal_append c new.last (begun ++ mid) (by new.thread (Gate Leave) ∷ [])).0
    (subst (IsLegal c new.last) is legal) in
    let first = (legal_append c new.last begun mid).0 whole.0 in
    let le = full_before_exit begun mid new is legal few full in
    let x = row_is_born c new.last begun first.0 as_born in
    let y = creations_are_born c new.last begun mid whole.0 in
    omega (arith, le, x, y)

-- THE INDEXES of the entries that stand in the row, each once

row_indexes : List Entry → List ℕ
row_indexes [] = []
row_indexes (e ∷ es) = cond (stands_in_row e) (e.0.index ∷ row_indexes es) (row_indexes es)

row_long : (es : List Entry) → length (row_indexes es) ≡ how_many stands_in_row es
unfolding row_indexes
row_long [] = refl
row_long (e ∷ es) = go (stands_in_row e) (row_long es)
  where
    go : (b : Bool) → length (row_indexes es) ≡ how_many stands_in_row es
        → length (cond b (e.0.index ∷ row_indexes es) (row_indexes es))
        ≡ length (cond b (e ∷ filter stands_in_row es) (filter stands_in_row es))
    go true h = ap suc h
    go false h = h

-- at this place an entry stands in the row, with this index
record StandsWith (es : List Entry) (i n : ℕ) : Type 0 where
  entry : Entry
  at : slice_get es i ≡ Some entry
  stands : stands_in_row entry ≡ true
  index : entry.0.index ≡ n

one_further : (e : Entry) (es : List Entry) (i n : ℕ) → StandsWith es i n → StandsWith (e ∷ es) (suc i) n
one_further e es i n y = record { entry = y.entry; at = y.at; stands = y.stands; index = y.index }

row_at : (es : List Entry) (n : ℕ) → IsOneOf n (row_indexes es) → (i : ℕ) × StandsWith es i n
unfolding row_indexes
row_at [] n h = absurd h
row_at (e ∷ es) n h = go (stands_in_row e) refl h (row_at es n)
  where
    later : (i : ℕ) × StandsWith es i n → (i : ℕ) × StandsWith (e ∷ es) i n
    later y = (suc y.0, one_further e es y.0 n y.1)

    go : (b : Bool) → stands_in_row e ≡ b → IsOneOf n (cond b (e.0.index ∷ row_indexes es) (row_indexes es))
        → (IsOneOf n (row_indexes es) → (i : ℕ) × StandsWith es i n) → (i : ℕ) × StandsWith (e ∷ es) i n
    go true is (inl here) r = (0, record { entry = e; at = refl; stands = is; index = here })
    go true is (inr there) r = later (r there)
    go false is there r = later (r there)

row_distinct : (es : List Entry) → ((i j n : ℕ) → StandsWith es i n → StandsWith es j n → i ≡ j)
    → AreDistinct (row_indexes es)
unfolding row_indexes
row_distinct [] once = tt
row_distinct (e ∷ es) once = go (stands_in_row e) refl (row_distinct es rest)
  where
    rest : (i j n : ℕ) → StandsWith es i n → StandsWith es j n → i ≡ j
    rest i j n x y =
        let same = once (suc i) (suc j) n (one_further e es i n x) (one_further e es j n y) in
        omega (arith, same)

    not_later : stands_in_row e ≡ true → (i : ℕ) × StandsWith es i e.0.index → ⊥
    not_later is y =
        let bad = once 0 (suc y.0) e.0.index (record { entry = e; at = refl; stands = is; index = refl })
        (one_further e es y.0 e.0.index y.1) in
        omega (arith, bad)

    go : (b : Bool) → stands_in_row e ≡ b → AreDistinct (row_indexes es)
        → AreDistinct (cond b (e.0.index ∷ row_indexes es) (row_indexes es))
    go true is d = (λ h. not_later is (row_at es e.0.index h), d)
    go false is d = d

module _ (c : Config) (last : ℕ) (b : Births) (s : State) (a : IsAs b s) (kept : IsKept c last s) where
  there : (i n : ℕ) (y : StandsWith b.refs i n) → s.refs y.entry.0 ≢ Stale
  there i n y = stands_there b s a i y.entry y.at y.stands

  each_once : (i j n : ℕ) → StandsWith b.refs i n → StandsWith b.refs j n → i ≡ j
  each_once i j n x y =
      let same = kept.one x.entry.0 y.entry.0 (there i n x) (there j n y) (x.index ∙ sym y.index) in
      a.one_ref i j x.entry.0 x.entry.1 y.entry.1 x.at
      (subst (λ h. slice_get b.refs j ≡ Some (h, y.entry.1)) (sym same) y.at)

  -- an index at which nothing stands is one more than those at which something does
  leaves_room : (k : ℕ) → k < c.slots → ((g : Handle) → g.index ≡ k → s.refs g ≡ Stale) → row_births b < c.slots
  leaves_room k l free =
      let new : IsOneOf k (row_indexes b.refs) → ⊥
      = λ h. let y = row_at b.refs k h in there y.0 k y.1 (free y.1.entry.0 y.1.index) in
      let below : (n : ℕ) → IsOneOf n (row_indexes b.refs) → n < c.slots
      = λ n h.
      let y = row_at b.refs n h in
      subst (λ m. m < c.slots) y.1.index (kept.in_row y.1.entry.0 (kept.was_given y.1.entry.0 (there y.0 n y.1))).2 in
      let le = at_most c.slots (k ∷ row_indexes b.refs) (new, row_distinct b.refs each_once)
      (λ n h. ⊎_elim (λ (e : k ≡ n). subst (λ m. m < c.slots) e l)
      (λ (q : IsOneOf n (row_indexes b.refs)). below n q) h) in
      let same = row_long b.refs in
      omega (arith, le, same)

pub creations_have_room : CreationsHaveRoom
creations_have_room c last t o h es l a n =
    leaves_room c last (births es) (state es) a (kept_state c last es l) h.index n.1.2.2 n.1.3

-- THE KINDS of the references that stand in the row: those that are global, and those that are weak

abbrev references_of : List Entry → List (Option Ref)
references_of es = map (λ (e : Entry). e.1) es

one_kind : (e : Entry) → ((r : Ref) → e.1 ≡ Some r → r.kind ≡ e.0.kind)
    → bit (is_ref_of Global e.1) + bit (is_ref_of Weak e.1) ≡ bit (stands_in_row e)
one_kind e same = go e.1 same
  where
    by_kind : (k : RefKind)
        → bit (same_kind Global k) + bit (same_kind Weak k) ≡ bit (true && not (same_kind Local k))
    by_kind Local = refl
    by_kind Global = refl
    by_kind Weak = refl

    go : (o : Option Ref) → ((r : Ref) → o ≡ Some r → r.kind ≡ e.0.kind)
        → bit (is_ref_of Global o) + bit (is_ref_of Weak o) ≡ bit (is_some o && not (same_kind Local e.0.kind))
    go None is = refl
    go (Some r) is = by_kind r.kind ∙ ap (λ k. bit (true && not (same_kind Local k))) (is r refl)

both_kinds : (es : List Entry) → ((i : ℕ) (e : Entry) (r : Ref) → slice_get es i ≡ Some e → e.1 ≡ Some r
    → r.kind ≡ e.0.kind)
    → how_many stands_in_row es
    ≡ how_many (is_ref_of Global) (references_of es) + how_many (is_ref_of Weak) (references_of es)
both_kinds [] same = refl
both_kinds (e ∷ es) same =
    let rest = both_kinds es (λ i f r at. same (suc i) f r at) in
    let one = one_kind e (λ r. same 0 e r refl) in
    let x = how_many_first stands_in_row e es in
    let y = how_many_first (is_ref_of Global) e.1 (references_of es) in
    let z = how_many_first (is_ref_of Weak) e.1 (references_of es) in
    omega (arith, rest, one, x, y, z)

-- what was born and stands in the row is what a world with the same references counts as global and as weak
pub row_by_kind : (b : Births) (s : State) → IsAs b s → row_births b
    ≡ how_many (is_ref_of Global) (map (λ e. e.1) b.refs) + how_many (is_ref_of Weak) (map (λ e. e.1) b.refs)
row_by_kind b s a = both_kinds b.refs (λ i e r at is. so r e.0.kind (found_in b s e.0)
    (subst (λ o. RefIsSo b.objects e.0.kind o (found_in b s e.0)) is (a.told i e.0 e.1 at)))
  where
    so : (r : Ref) (k : RefKind) (f : Found) → RefIsSo b.objects k (Some r) f → r.kind ≡ k
    so r k (Object p) h = h.0
    so r k Cleared h = h.0
    so r k Stale h = absurd h

-- WHAT A CALL NOTES of the row at a moment: how many stand of each kind
pub row_noted : (c : Config) (last : ℕ) (es : History) → IsLegal c last es → IsAs (births es) (state es)
    → row_references c last (state es)
    ≡ how_many (is_ref_of Global) (map (λ e. e.1) (births es).refs)
    + how_many (is_ref_of Weak) (map (λ e. e.1) (births es).refs)
row_noted c last es l a = row_is_born c last es l a ∙ row_by_kind (births es) (state es) a

-- who has no owner is not local
by_owners : (es : List Entry) → how_many has_no_owner (map (λ (e : Entry). owner_of_handle e.0) es)
    ≡ how_many is_of_row es
by_owners [] = refl
by_owners (e ∷ es) =
    let x = how_many_first has_no_owner (owner_of_handle e.0) (map (λ (e : Entry). owner_of_handle e.0) es) in
    let y = how_many_first is_of_row e es in
    let same = same_test (is_local e.0) in
    let rest = by_owners es in
    omega (arith, x, y, same, rest)
  where
    same_test : (b : Bool) → bit (not (is_some (cond b (Some e.0.owner) None))) ≡ bit (not b)
    same_test true = refl
    same_test false = refl

-- and how many it finds to be made since
pub created_by_owners : (c : Config) (last : ℕ) (begun since : History) → IsLegal c last (begun ++ since)
    → length (creations since)
    ≡ made_since (length (births begun).refs) (map (λ e. owner_of_handle e.0) (births (begun ++ since)).refs)
created_by_owners c last begun since l =
    let n = length (births begun).refs in
    let refs = (births (begun ++ since)).refs in
    creations_are_born c last begun since l
    ∙ (sym (by_owners (drop n refs))
    ∙ sym (ap (how_many has_no_owner) (drop-map (λ (e : Entry). owner_of_handle e.0) n refs)))
