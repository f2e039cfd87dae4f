-- As many references stand in the row, and are created there, as by what was born.
use Rattle.std.proofs.Common.{◌≡◌, ◌≢◌, ◌+◌, ◌==◌, ◌&&◌, ℕ, zero, suc, Bool, true, false, cond}
use Rattle.std.proofs.Common.{not, is_some, Option, Some, None, List, [], ◌∷◌, ◌++◌, map, length, drop, slice_get}
use Rattle.std.proofs.Common.{refl, sym, ap, subst, ◌∙◌, arith, append_assoc, append-nil}
use Rattle.std.specs.List.{filter}
use Rattle.std.proofs.lemmas.List.{drop-map}
use Rattle.std.proofs.Math.Seq.{drop-append_seam}
use Rattle.jr_word.specs.declared.config.Config.{Config}
use Rattle.jr_word.specs.declared.handle.RefKind.{RefKind}
use Rattle.jr_word.specs.declared.handle.RefKind.TheVariants.{Local, Global, Weak}
use Rattle.jr_model.specs.declared.event.Act.{Act}
use Rattle.jr_model.specs.declared.event.Act.TheVariants.{Create, Delete, Clear, LocalPut, LocalDrop}
use Rattle.jr_model.specs.declared.event.Found.{Found}
use Rattle.jr_model.specs.declared.event.Found.TheVariants.{Object, Cleared, Stale}
use Rattle.jr_model.specs.Maps.{sum_below}
use Rattle.jr_model.specs.State.{Handle, State, is_there, same_handle, same_kind}
use Rattle.jr_model.specs.Checks.{is_local}
use Rattle.jr_model.specs.Steps.{ActNeeds, IsInRow, after}
use Rattle.jr_model.specs.History.{History, IsLegalFrom, state}
use Rattle.jr_model.proofs.Counts.{bit, sum_at, sum_split}
use Rattle.jr_model.proofs.Lengths.{sum_none, sum_same, sum_zero}
use Rattle.jr_model.proofs.Histories.{legal_append}
use Rattle.jr_model.proofs.References.{kept_state}
use Rattle.jr_model.proofs.Updates.{handle_self, handle_true, and_left, and_right, same_parts}
use Rattle.jr_world.specs.World.{Ref, how_many}
use Rattle.jr_world.specs.Births.{Births, IsAs, RefIsSo, births, births_from, born_by, emptied, found_in}
use Rattle.jr_world.specs.Births.{found_at_place}
use Rattle.jr_world.specs.Births.{gone_where, is_at, next_of_place, no_births, ref_to, birth_of}
use Rattle.jr_world.proofs.Births.BornLists.{births_append}
use Rattle.jr_world.specs.Fullness.{CreationsAreBorn, RowIsBorn, created_by, creations, is_of_row}
use Rattle.jr_world.specs.Fullness.{stands_in_row}

abbrev pub Entry : Type 0
Entry = Handle × Option Ref

-- SUMS over all handles of the row

abbrev row_handle : RefKind → ℕ → ℕ → Handle
row_handle k i n = record { kind = k; serial = n; index = i; owner = 0 }

module _ (c : Config) (last : ℕ) where
  abbrev over_row : RefKind → (Handle → ℕ) → ℕ
  over_row k f = sum_below c.slots (λ i. sum_below (last + 1) (λ n. f (row_handle k i n)))

  over_same : (k : RefKind) (f g : Handle → ℕ) → ((i n : ℕ) → g (row_handle k i n) ≡ f (row_handle k i n))
      → over_row k g ≡ over_row k f
  over_same k f g e = sum_same c.slots (λ i. sum_below (last + 1) (λ n. f (row_handle k i n)))
      (λ i. sum_below (last + 1) (λ n. g (row_handle k i n)))
      (λ i l. sum_same (last + 1) (λ n. f (row_handle k i n)) (λ n. g (row_handle k i n)) (λ n m. e i n))

  over_both : (k : RefKind) (f g : Handle → ℕ) → over_row k (λ h. f h + g h) ≡ over_row k f + over_row k g
  over_both k f g = sum_split c.slots (λ i. sum_below (last + 1) (λ n. f (row_handle k i n)))
      (λ i. sum_below (last + 1) (λ n. g (row_handle k i n)))
      (λ i. sum_below (last + 1) (λ n. f (row_handle k i n) + g (row_handle k i n)))
      (λ i. sum_split (last + 1) (λ n. f (row_handle k i n)) (λ n. g (row_handle k i n))
      (λ n. f (row_handle k i n) + g (row_handle k i n)) (λ n. refl))

  over_none : (k : RefKind) (f : Handle → ℕ) → ((i n : ℕ) → f (row_handle k i n) ≡ 0) → over_row k f ≡ 0
  over_none k f none = sum_zero c.slots (λ i. sum_below (last + 1) (λ n. f (row_handle k i n)))
      (λ i. sum_zero (last + 1) (λ n. f (row_handle k i n)) (λ n. none i n))

  -- one handle alone counts
  over_one : (k : RefKind) (h : Handle) (f : Handle → ℕ) → h.kind ≡ k → IsInRow c last h → f h ≡ 1
      → ((g : Handle) → g ≢ h → f g ≡ 0) → over_row k f ≡ 1
  over_one k h f is row one others =
      let same : ◌≡◌ {A = Handle} h (row_handle k h.index h.serial)
      = same_parts h.kind k h.serial h.serial h.index h.index h.owner 0 is refl refl row.1 in
      let here : f (row_handle k h.index h.serial) ≡ 1 = sym (ap f same) ∙ one in
      let inner = sum_at (last + 1) (λ n. 0) (λ n. f (row_handle k h.index n)) h.serial
      (let most = row.3 in omega (arith, most))
      (λ n ne. others (row_handle k h.index n) (λ e. ne (sym (ap (λ (g : Handle). g.serial) e)))) in
      let outer = sum_at c.slots (λ i. 0) (λ i. sum_below (last + 1) (λ n. f (row_handle k i n))) h.index row.2
      (λ i ne. sum_zero (last + 1) (λ n. f (row_handle k i n))
      (λ n. others (row_handle k i n) (λ e. ne (sym (ap (λ (g : Handle). g.index) e))))) in
      let x = sum_none (last + 1) in
      let y = sum_none c.slots in
      omega (arith, here, inner, outer, x, y)

-- how many pass, with one more before them
pub how_many_first : {X : Type 0} (p : X → Bool) (x : X) (xs : List X) → how_many p (x ∷ xs) ≡ bit (p x) + how_many p xs
how_many_first p x xs = go (p x)
  where
    go : (b : Bool) → length (cond b (x ∷ filter p xs) (filter p xs)) ≡ bit b + how_many p xs
    go true = omega arith
    go false = omega arith

-- HOW OFTEN a handle is that of an entry which stands in the row

abbrev is_with : Handle → Entry → Bool
is_with h e = stands_in_row e && same_handle h e.0

handle_other : (g h : Handle) → g ≢ h → same_handle g h ≡ false
handle_other g h ne = go (same_handle g h) refl
  where
    go : (b : Bool) → same_handle g h ≡ b → b ≡ false
    go true e = absurd (ne (handle_true g h e))
    go false e = refl

times : List Entry → Handle → ℕ
times [] h = 0
times (e ∷ es) h = bit (is_with h e) + times es h

times_none : (es : List Entry) (h : Handle)
    → ((j : ℕ) (e : Entry) → slice_get es j ≡ Some e → is_with h e ≡ true → ⊥) → times es h ≡ 0
unfolding times
times_none [] h none = refl
times_none (e ∷ es) h none = go (is_with h e) refl (times_none es h (λ j f is. none (suc j) f is))
  where
    go : (b : Bool) → is_with h e ≡ b → times es h ≡ 0 → bit (is_with h e) + times es h ≡ 0
    go true is rest = absurd (none 0 e refl is)
    go false is rest = let z : bit (is_with h e) ≡ 0 = ap bit is in omega (arith, z, rest)

times_one : (es : List Entry) (h : Handle) (i : ℕ) (e : Entry) → slice_get es i ≡ Some e → is_with h e ≡ true
    → ((j : ℕ) (f : Entry) → slice_get es j ≡ Some f → is_with h f ≡ true → j ≡ i) → times es h ≡ 1
unfolding times
times_one [] h i e at is others = absurd cc
times_one (x ∷ xs) h zero e at is others =
    let here : bit (is_with h x) ≡ 1 = ap bit (ap (is_with h) (head x e at) ∙ is) in
    let none : (j : ℕ) (f : Entry) → slice_get xs j ≡ Some f → is_with h f ≡ true → ⊥
    = λ j f there with'. let bad = others (suc j) f there with' in omega (arith, bad) in
    let rest = times_none xs h none in
    omega (arith, here, rest)
  where
    head : (x e : Entry) → ◌≡◌ {A = Option Entry} (Some x) (Some e) → x ≡ e
    head x e same = cc
times_one (x ∷ xs) h (suc i) e at is others = go (is_with h x) refl (times_one xs h i e at is rest)
  where
    rest : (j : ℕ) (f : Entry) → slice_get xs j ≡ Some f → is_with h f ≡ true → j ≡ i
    rest j f there with' = let same = others (suc j) f there with' in omega (arith, same)

    go : (b : Bool) → is_with h x ≡ b → times xs h ≡ 1 → bit (is_with h x) + times xs h ≡ 1
    go true here r = absurd (let bad = others 0 x refl here in omega (arith, bad))
    go false here r = let z : bit (is_with h x) ≡ 0 = ap bit here in omega (arith, z, r)

module _ (c : Config) (last : ℕ) where
  -- an entry counts once, where it stands in the row
  one_entry : (e : Entry) → (stands_in_row e ≡ true → IsInRow c last e.0)
      → over_row c last Global (λ h. bit (is_with h e)) + over_row c last Weak (λ h. bit (is_with h e))
      ≡ bit (stands_in_row e)
  one_entry e row = go (stands_in_row e) row
    where
      self : bit (true && same_handle e.0 e.0) ≡ 1
      self = ap bit (handle_self e.0)

      other : (g : Handle) → g ≢ e.0 → bit (true && same_handle g e.0) ≡ 0
      other g ne = ap bit (handle_other g e.0 ne)

      by_kind : (k : RefKind) → e.0.kind ≡ k → IsInRow c last e.0
          → over_row c last Global (λ h. bit (true && same_handle h e.0))
          + over_row c last Weak (λ h. bit (true && same_handle h e.0)) ≡ 1
      by_kind Local is r = absurd (r.0 is)
      by_kind Global is r =
          let x = over_one c last Global e.0 (λ h. bit (true && same_handle h e.0)) is r self other in
          let y = over_none c last Weak (λ h. bit (true && same_handle h e.0))
          (λ i n. other (row_handle Weak i n) (λ z. let k = ap (λ (g : Handle). g.kind) z ∙ is in absurd cc)) in
          omega (arith, x, y)
      by_kind Weak is r =
          let x = over_one c last Weak e.0 (λ h. bit (true && same_handle h e.0)) is r self other in
          let y = over_none c last Global (λ h. bit (true && same_handle h e.0))
          (λ i n. other (row_handle Global i n) (λ z. let k = ap (λ (g : Handle). g.kind) z ∙ is in absurd cc)) in
          omega (arith, x, y)

      go : (b : Bool) → (b ≡ true → IsInRow c last e.0)
          → over_row c last Global (λ h. bit (b && same_handle h e.0))
          + over_row c last Weak (λ h. bit (b && same_handle h e.0)) ≡ bit b
      go true r = by_kind e.0.kind refl (r refl)
      go false r =
          let x = over_none c last Global (λ h. bit (false && same_handle h e.0)) (λ i n. refl) in
          let y = over_none c last Weak (λ h. bit (false && same_handle h e.0)) (λ i n. refl) in
          omega (arith, x, y)

  -- the entries that stand in the row, counted by their handles
  counted : (es : List Entry)
      → ((i : ℕ) (e : Entry) → slice_get es i ≡ Some e → stands_in_row e ≡ true → IsInRow c last e.0)
      → over_row c last Global (times es) + over_row c last Weak (times es) ≡ how_many stands_in_row es
  unfolding times
  counted [] row =
      let x = over_none c last Global (λ h. 0) (λ i n. refl) in
      let y = over_none c last Weak (λ h. 0) (λ i n. refl) in
      omega (arith, x, y)
  counted (e ∷ es) row =
      let rest = counted es (λ i f is. row (suc i) f is) in
      let one = one_entry e (row 0 e refl) in
      let x = over_both c last Global (λ h. bit (is_with h e)) (times es) in
      let y = over_both c last Weak (λ h. bit (is_with h e)) (times es) in
      let more = how_many_first stands_in_row e es in
      omega (arith, rest, one, x, y, more)

-- WHAT STANDS in the row was born, and stands among what was born

-- what is found at a handle that is not local
pub found_row : (b : Births) (s : State) (h : Handle) → is_local h ≡ false → found_in b s h ≡ s.refs h
found_row b s h e = ap (λ z. cond z
    (cond (suc h.serial == b.puts h.owner h.index) (found_at_place (s.locals h.owner h.index)) Stale) (s.refs h)) e

not_false : (b : Bool) → not b ≡ true → b ≡ false
not_false true e = cc
not_false false e = refl

module _ (b : Births) (s : State) (a : IsAs b s) where
  -- an entry that stands has its reference
  pub stands_there : (i : ℕ) (e : Entry) → slice_get b.refs i ≡ Some e → stands_in_row e ≡ true → s.refs e.0 ≢ Stale
  stands_there i e at is stale =
      none e.1 (and_left (is_some e.1) (not (is_local e.0)) is) (found_in b s e.0)
      (found_row b s e.0 (not_false (is_local e.0) (and_right (is_some e.1) (not (is_local e.0)) is)) ∙ stale)
      (a.told i e.0 e.1 at)
    where
      none : (r : Option Ref) → is_some r ≡ true → (f : Found) → f ≡ Stale → RefIsSo b.objects e.0.kind r f → ⊥
      none None some f gone so = absurd cc
      none (Some r) some Stale gone so = so
      none (Some r) some Cleared gone so = cc
      none (Some r) some (Object o) gone so = cc

  -- each handle that is not local has as many entries that stand as references
  times_so : (h : Handle) → is_local h ≡ false → times b.refs h ≡ bit (is_there (s.refs h))
  times_so h row = go (s.refs h) refl
    where
      same : (e : Entry) → is_with h e ≡ true → h ≡ e.0
      same e is = handle_true h e.0 (and_right (stands_in_row e) (same_handle h e.0) is)

      stands : (e : Entry) → is_with h e ≡ true → stands_in_row e ≡ true
      stands e is = and_left (stands_in_row e) (same_handle h e.0) is

      told_some : (r : Option Ref) (f : Found) → f ≢ Stale → RefIsSo b.objects h.kind r f → is_some r ≡ true
      told_some (Some r) f ne so = refl
      told_some None Stale ne so = absurd (ne refl)
      told_some None Cleared ne so = absurd so
      told_some None (Object o) ne so = absurd so

      with_h : (r : Option Ref) → is_some r ≡ true → is_with h (h, r) ≡ true
      with_h r some = rw (some, row, handle_self h) refl

      one : s.refs h ≢ Stale → times b.refs h ≡ 1
      one ne =
          let there : found_in b s h ≢ Stale = λ e. ne (sym (found_row b s h row) ∙ e) in
          let y = a.refs h there in
          let some = told_some y.1 (found_in b s h) there (a.told y.0 h y.1 y.2) in
          times_one b.refs h y.0 (h, y.1) y.2 (with_h y.1 some)
          (λ j e at is. a.one_ref j y.0 h e.1 y.1
          (subst (λ g. slice_get b.refs j ≡ Some (g, e.1)) (sym (same e is)) at) y.2)

      none : s.refs h ≡ Stale → times b.refs h ≡ 0
      none gone = times_none b.refs h (λ j e at is. stands_there j e at (stands e is)
          (subst (λ g. s.refs g ≡ Stale) (same e is) gone))

      go : (f : Found) → s.refs h ≡ f → times b.refs h ≡ bit (is_there (s.refs h))
      go Stale is = none is ∙ sym (ap (λ f. bit (is_there f)) is)
      go Cleared is = one (λ e. cc) ∙ sym (ap (λ f. bit (is_there f)) is)
      go (Object o) is = one (λ e. cc) ∙ sym (ap (λ f. bit (is_there f)) is)

pub row_is_born : RowIsBorn
row_is_born c last es l a =
    let b = births es in
    let s = state es in
    let kept = kept_state c last es l in
    let x = over_same c last Global (λ h. bit (is_there (s.refs h))) (times b.refs)
    (λ i n. times_so b s a (row_handle Global i n) refl) in
    let y = over_same c last Weak (λ h. bit (is_there (s.refs h))) (times b.refs)
    (λ i n. times_so b s a (row_handle Weak i n) refl) in
    let z = counted c last b.refs
    (λ i e at is. kept.in_row e.0 (kept.was_given e.0 (stands_there b s a i e at is))) in
    omega (arith, x, y, z)

-- WHAT WAS CREATED was born

-- the handles of what was born
abbrev handles_of : List Entry → List Handle
handles_of es = map (λ (e : Entry). e.0) es

handles_same : (f : Entry → Option Ref) (xs : List Entry) → handles_of (map (λ e. (e.0, f e)) xs) ≡ handles_of xs
handles_same f [] = refl
handles_same f (x ∷ xs) = ap (λ l. x.0 ∷ l) (handles_same f xs)

handles_both : (xs ys : List Entry) → handles_of (xs ++ ys) ≡ handles_of xs ++ handles_of ys
handles_both [] ys = refl
handles_both (x ∷ xs) ys = ap (λ l. x.0 ∷ l) (handles_both xs ys)

abbrev not_local : Handle → Bool
not_local h = not (is_local h)

filter_both : {X : Type 0} (p : X → Bool) (xs ys : List X) → filter p (xs ++ ys) ≡ filter p xs ++ filter p ys
filter_both p [] ys = refl
filter_both p (x ∷ xs) ys = go (p x) (filter_both p xs ys)
  where
    go : (b : Bool) → filter p (xs ++ ys) ≡ filter p xs ++ filter p ys
        → cond b (x ∷ filter p (xs ++ ys)) (filter p (xs ++ ys)) ≡ cond b (x ∷ filter p xs) (filter p xs) ++ filter p ys
    go true h = ap (λ l. x ∷ l) h
    go false h = h

-- some handles more, of which these are not local
abbrev HasMore : List Entry → List Entry → List Handle → Type 0
HasMore old new made =
    (more : List Handle) × (handles_of new ≡ handles_of old ++ more) × (filter not_local more ≡ made)

has_no_more : (old new : List Entry) → handles_of new ≡ handles_of old → HasMore old new []
has_no_more old new same = ([], same ∙ sym (append-nil (handles_of old)), refl)

more_act : (c : Config) (last : ℕ) (b : Births) (s : State) (t : ℕ) (a : Act) → ActNeeds c last s t a
    → HasMore b.refs (born_by b t a).refs (created_by a)
more_act c last b s t (Create h o) n = (
  h ∷ [],
  handles_both b.refs ((h, ref_to h.kind (birth_of b.objects o)) ∷ []),
  ap (λ d. cond (not d) (h ∷ []) []) (row h.kind n.2.0),
)
  where
    row : (k : RefKind) → k ≢ Local → same_kind Local k ≡ false
    row Local other = absurd (other refl)
    row Global other = refl
    row Weak other = refl
more_act c last b s t (Delete h) n = has_no_more b.refs (gone_where (same_handle h) b.refs)
    (handles_same (λ e. cond (same_handle h e.0) None e.1) b.refs)
more_act c last b s t (Clear h) n =
    has_no_more b.refs (map (λ e. (e.0, cond (same_handle h e.0) (emptied e.1) e.1)) b.refs)
    (handles_same (λ e. cond (same_handle h e.0) (emptied e.1) e.1) b.refs)
more_act c last b s t (LocalPut p o) n =
    let next = next_of_place t p (b.puts t p) in (
      next ∷ [],
      handles_both (gone_where (is_at t p) b.refs) ((next, ref_to Local (birth_of b.objects o)) ∷ [])
          ∙ ap (λ z. z ++ next ∷ []) (handles_same (λ e. cond (is_at t p e.0) None e.1) b.refs),
      refl,
    )
more_act c last b s t (LocalDrop p) n = has_no_more b.refs (gone_where (is_at t p) b.refs)
    (handles_same (λ e. cond (is_at t p e.0) None e.1) b.refs)
more_act c last b s t _ n = has_no_more b.refs b.refs refl

more_born : (c : Config) (last : ℕ) (b : Births) (s : State) (es : History) → IsLegalFrom c last s es
    → HasMore b.refs (births_from b es).refs (creations es)
more_born c last b s [] l = has_no_more b.refs b.refs refl
more_born c last b s (e ∷ es) l =
    let x = more_act c last b s e.thread e.act l.0.1 in
    let y = more_born c last (born_by b e.thread e.act) (after s e) es l.1 in (
      x.0 ++ y.0,
      y.1 ∙ (ap (λ l. l ++ y.0) x.1 ∙ append_assoc (handles_of b.refs) x.0 y.0),
      filter_both not_local x.0 y.0 ∙ (ap (λ z. z ++ filter not_local y.0) x.2 ∙ ap (λ z. created_by e.act ++ z) y.2),
    )

handles_long : (es : List Entry) → length (handles_of es) ≡ length es
handles_long [] = refl
handles_long (e ∷ es) = ap suc (handles_long es)

by_handles : (es : List Entry) → how_many is_of_row es ≡ length (filter not_local (handles_of es))
by_handles [] = refl
by_handles (e ∷ es) = go (not_local e.0) (by_handles es)
  where
    go : (b : Bool) → how_many is_of_row es ≡ length (filter not_local (handles_of es))
        → length (cond b (e ∷ filter is_of_row es) (filter is_of_row es))
        ≡ length (cond b (e.0 ∷ filter not_local (handles_of es)) (filter not_local (handles_of es)))
    go true h = ap suc h
    go false h = h

pub creations_are_born : CreationsAreBorn
creations_are_born c last begun since l =
    let old = (births begun).refs in
    let new = (births (begun ++ since)).refs in
    let m = more_born c last (births begun) (state begun) since ((legal_append c last begun since).0 l).1 in
    let parts : handles_of new ≡ handles_of old ++ m.0
    = ap (λ (b : Births). handles_of b.refs) (births_append no_births begun since) ∙ m.1 in
    let rest : handles_of (drop (length old) new) ≡ m.0
    = sym (drop-map (λ (e : Entry). e.0) (length old) new)
    ∙ (ap (λ n. drop n (handles_of new)) (sym (handles_long old))
    ∙ (ap (drop (length (handles_of old))) parts ∙ drop-append_seam (handles_of old) m.0)) in
    sym (by_handles (drop (length old) new) ∙ (ap (λ z. length (filter not_local z)) rest ∙ ap length m.2))
