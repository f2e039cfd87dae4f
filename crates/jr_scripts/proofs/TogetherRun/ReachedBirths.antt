-- What is reached in a room is what the page finds reached in the world of what was born.
use Rattle.std.proofs.Common.{◌≡◌, ◌≢◌, inl, inr, ℕ, zero, suc, ◌<◌, ◌≤◌, ◌==◌, Bool, true, false, cond, Option}
use Rattle.std.proofs.Common.{Some, None, IsSome, List, [], ◌∷◌, map, length, slice_get, slice_index, refl}
use Rattle.std.proofs.Common.{sym, ap, subst, ◌∙◌, arith}
use Rattle.std.specs.List.{flat_map}
use Rattle.std.proofs.lemmas.Option.{get_or_from_slice_get, slice_get-get_or, slice_get_within}
use Rattle.jr_word.specs.declared.config.Config.{Config}
use Rattle.jr_word.specs.declared.handle.RefKind.{RefKind}
use Rattle.jr_word.specs.declared.handle.RefKind.TheVariants.{Local, Global, Weak}
use Rattle.jr_word.specs.declared.kind.Kind.TheVariants.{Objects}
use Rattle.jr_model.specs.declared.event.Act.{Act}
use Rattle.jr_model.specs.declared.event.Act.TheVariants.{Clear, Create, Delete, Drop, Gate, LocalDrop, LocalPut}
use Rattle.jr_model.specs.declared.event.Act.TheVariants.{New, Reserve, Settle, Write}
use Rattle.jr_model.specs.declared.event.Found.{Found}
use Rattle.jr_model.specs.declared.event.Found.TheVariants.{Object, Cleared, Stale}
use Rattle.jr_model.specs.State.{Contents, Handle, State, IsPresent, IsReached, from_element, from_global, from_local}
use Rattle.jr_model.specs.State.{opening, same_kind}
use Rattle.jr_model.specs.Steps.{act_after}
use Rattle.jr_model.specs.History.{History, IsLegal, state, state_from}
use Rattle.jr_model.specs.Checks.{is_local, is_objects}
use Rattle.jr_model.proofs.InRoom.{present_is_in_room}
use Rattle.jr_model.proofs.Reaching.{is_objects_is}
use Rattle.jr_model.proofs.Updates.{eq_self, eq_true}
use Rattle.jr_world.specs.World.{World, Ref, named_by, standing_at}
use Rattle.jr_world.specs.Births.{AreContents, Births, IsAs, NamesBirth, RefIsSo, births, births_from, born_by}
use Rattle.jr_world.specs.Births.{found_at_place, found_in, next_of_place, no_births}
use Rattle.jr_world.proofs.Births.{worlds_are_so}
use Rattle.jr_world.proofs.Births.BornFound.{found_place, found_row, not_local}
use Rattle.jr_world.proofs.Births.BornLists.{by_test, get_map, map_get, some_same}
use Rattle.jr_scripts.specs.Sweeps.{elements_of, is_found_reached, listed, reached_by, rooted}
use Rattle.jr_scripts.proofs.TogetherRun.PlayedTexts.{world_born}
use Rattle.jr_scripts.proofs.TogetherRun.ReachedRounds.{IsIn, all_found, closed, flat_in, found_in as test_found}
use Rattle.jr_scripts.proofs.TogetherRun.ReachedRounds.{in_flat, in_found, named, roots_found}

-- WHAT STANDS at a number of a list, some or none
at_get : {A : Type 0} (xs : List (Option A)) (i : ℕ) (y : A) → slice_get xs i ≡ Some (Some y)
    → standing_at xs i ≡ Some y
at_get xs i y e = get_or_from_slice_get xs i (Some y) None e

get_at : {A : Type 0} (xs : List (Option A)) (i : ℕ) (y : A) → standing_at xs i ≡ Some y
    → slice_get xs i ≡ Some (Some y)
get_at [] i y e = absurd cc
get_at (x ∷ xs) zero y e = ap Some e
get_at (x ∷ xs) (suc i) y e = get_at xs i y e

-- the same of what was born under a number or a handle
pub born_at : {N A : Type 0} (xs : List (N × Option A)) (i : ℕ) (n : N) (y : A) → slice_get xs i ≡ Some (n, Some y)
    → standing_at (map (λ e. e.1) xs) i ≡ Some y
born_at xs i n y e = at_get (map (λ z. z.1) xs) i y (map_get (λ z. z.1) xs i (n, Some y) e)

pub at_born : {N A : Type 0} (xs : List (N × Option A)) (i : ℕ) (y : A) → standing_at (map (λ e. e.1) xs) i ≡ Some y
    → (n : N) × (slice_get xs i ≡ Some (n, Some y))
at_born {N} {A} xs i y e =
    let z = get_map (λ (x : N × Option A). x.1) xs i (Some y) (get_at (map (λ x. x.1) xs) i y e) in
    (z.0.0, z.1 ∙ ap (λ o. Some (z.0.0, o)) z.2)

-- the number that is listed
listed_is : (x : Option ℕ) (o : ℕ) → IsIn o (listed x) → x ≡ Some o
listed_is None o i = absurd i
listed_is (Some p) o (inl e) = ap Some e
listed_is (Some p) o (inr i) = absurd i

-- the first of a pair of births
pub same_number : {A : Type 0} (p q : ℕ) (x y : A) → ◌≡◌ {A = Option (ℕ × A)} (Some (p, x)) (Some (q, y)) → p ≡ q
same_number {A} p q x y e = ap number e
  where
    number : Option (ℕ × A) → ℕ
    number None = 0
    number (Some z) = z.0

-- an element of an array of objects: at this index
pub record IsElement (x : Contents) (o : ℕ) : Type 0 where
  pub objects : is_objects x.kind ≡ true
  pub index : ℕ
  pub small : index < length x.words
  pub is : slice_index x.words index ≡ suc o

element_in : (x : Contents) (o : ℕ) → IsIn o (elements_of (Some x)) → IsElement x o
element_in x o = go (is_objects x.kind) refl
  where
    word : (v : ℕ) → named_by v ≡ Some o → v ≡ suc o
    word zero e = absurd cc
    word (suc p) e = ap suc cc

    go : (b : Bool) → is_objects x.kind ≡ b
        → IsIn o (cond b (flat_map (λ v. listed (named_by v)) x.words) []) → IsElement x o
    go false e there = absurd there
    go true e there =
        let i = flat_in (λ v. listed (named_by v)) x.words 0 o there in
        record {
          objects = e;
          index = i.0;
          small = i.1;
          is = word (slice_index x.words i.0) (listed_is (named_by (slice_index x.words i.0)) o i.2);
        }

element_out : (x : Contents) (o : ℕ) → IsElement x o → IsIn o (elements_of (Some x))
element_out x o e = subst (λ b. IsIn o (cond b (flat_map (λ v. listed (named_by v)) x.words) [])) (sym e.objects)
    (in_flat (λ v. listed (named_by v)) x.words e.index 0 o e.small
    (subst (λ v. IsIn o (listed (named_by v))) (sym e.is) (inl refl)))

-- THE BIRTHS are as the state; a place where a local reference stands has given a handle, and no object has number 0
pub record AreBorn (b : Births) (s : State) : Type 0 where
  pub alike : IsAs b s
  pub put : (t p o : ℕ) → s.locals t p ≡ Some o → 1 ≤ b.puts t p
  pub none : IsPresent s 0 → ⊥

module _ (b : Births) (s : State) (a : AreBorn b s) where
  abbrev w : World
  w = world_born b

  -- what is found at a reference that roots an object is reached
  pub by_handle : (h : Handle) (o : ℕ) → h.kind ≢ Weak → found_in b s h ≡ Object o → IsPresent s o → IsReached s o
  by_handle h o root e there = by_test (is_local h)
      (λ l. at h.owner h.index (suc h.serial == b.puts h.owner h.index) (s.locals h.owner h.index) refl
      (sym (found_place b s h l) ∙ e))
      (λ l. row h.kind refl l (sym (found_row b s h l) ∙ e))
    where
      at : (t p : ℕ) (d : Bool) (y : Option ℕ) → s.locals t p ≡ y → cond d (found_at_place y) Stale ≡ Object o
          → IsReached s o
      at t p true (Some q) is e = from_local t p (is ∙ ap (λ z. Some z) (object_same q o e)) there
        where
          object_same : (q o : ℕ) → ◌≡◌ {A = Found} (Object q) (Object o) → q ≡ o
          object_same q o e = cc
      at t p true None is e = absurd cc
      at t p false y is e = absurd cc

      row : (k : RefKind) → h.kind ≡ k → is_local h ≡ false → s.refs h ≡ Object o → IsReached s o
      row Local is l e = absurd (let bad = sym (ap (same_kind Local) is) ∙ l in cc)
      row Global is l e = from_global h is e there
      row Weak is l e = absurd (root is)

  -- WHERE THE OBJECT THAT WAS BORN THERE STANDS it is reached
  abbrev IsKept : ℕ → Type 0
  IsKept i = (p : ℕ) (y : Contents) → slice_get b.objects i ≡ Some (p, Some y) → IsReached s p

  root_kept : (i o : ℕ) → IsIn o (rooted (standing_at w.refs i)) → IsKept o
  root_kept i o = go (standing_at w.refs i) refl
    where
      root : (kind : RefKind) (x : Option ℕ) → IsIn o (cond (same_kind Weak kind) [] (listed x))
          → (kind ≢ Weak) × (x ≡ Some o)
      root Weak x i = absurd i
      root Local x i = ((λ e. absurd cc), listed_is x o i)
      root Global x i = ((λ e. absurd cc), listed_is x o i)

      named_there : (h : Handle) (r : Ref) (l : Found) → found_in b s h ≡ l → RefIsSo b.objects h.kind (Some r) l
          → r.kind ≢ Weak → r.object ≡ Some o → IsKept o
      named_there h r (Object q) is so other object p y e =
          let same : so.1 ≡ o = some_same so.1 o (sym so.2 ∙ object) in
          let there : slice_get b.objects o ≡ Some (q, Some so.3) =
          subst (λ z. slice_get b.objects z ≡ Some (q, Some so.3)) same so.4 in
          let one : q ≡ p = same_number q p (Some so.3) (Some y) (sym there ∙ e) in
          let x = a.alike.contents o p y e in
          by_handle h p (λ z. absurd (other (so.0 ∙ z))) (is ∙ ap Object one) (subst IsSome (sym x.1) refl)
      named_there h r Cleared is so other object p y e = absurd (let bad = sym so.1 ∙ object in cc)
      named_there h r Stale is so other object p y e = absurd so

      go : (r : Option Ref) → standing_at w.refs i ≡ r → IsIn o (rooted r) → IsKept o
      go None e there = absurd there
      go (Some r) e there =
          let h = at_born b.refs i r e in
          let r' = root r.kind r.object there in
          named_there h.0 r (found_in b s h.0) refl (a.alike.told i h.0 (Some r) h.1) r'.0 r'.1

  element_kept : (i j : ℕ) → IsKept i → IsIn j (named w i) → IsKept j
  element_kept i j kept = go (standing_at w.objects i) refl
    where
      go : (x : Option Contents) → standing_at w.objects i ≡ x → IsIn j (elements_of x) → IsKept j
      go None e there = absurd there
      go (Some y) e there = λ q z at.
          let p = at_born b.objects i y e in
          let x = a.alike.contents i p.0 y p.1 in
          let el = element_in y j there in
          let kind : x.0.kind ≡ Objects = (is_objects_is x.0.kind).0 (ap is_objects (sym x.2.kind) ∙ el.objects) in
          let small : el.index < length x.0.words =
          (let l = el.small in let long = x.2.long in omega (arith, l, long)) in
          let here = slice_get-get_or x.0.words el.index 0 small in
          let names : NamesBirth b s (slice_index x.0.words el.index) (suc j) = x.2.named
          (ap is_objects (sym x.2.kind) ∙ el.objects) el.index (slice_index x.0.words el.index) (suc j) here
          (slice_get-get_or y.words el.index 0 el.small ∙ ap Some el.is) in
          let one : slice_index x.0.words el.index ≡ q =
          same_number (slice_index x.0.words el.index) q names.0 (Some z) (sym names.1 ∙ at) in
          from_element p.0 el.index x.0 (kept p.0 y p.1) x.1 kind (here ∙ ap Some one)
          (subst IsSome (sym (a.alike.contents j q z at).1) refl)

  -- WHAT IS FOUND IN THE WORLD is reached in the room
  pub found_kept : (i : ℕ) → is_found_reached w i ≡ true → IsKept i
  found_kept i is = all_found w IsKept element_kept (length w.objects) (flat_map rooted w.refs)
      (λ o there. let r = flat_in rooted w.refs None o there in root_kept r.0 o r.2) i
      (test_found i (reached_by w (length w.objects) (flat_map rooted w.refs)) is)

  -- AND WHAT IS REACHED IN THE ROOM is found in the world
  pub record WasFound (p : ℕ) : Type 0 where
    pub birth : ℕ
    pub contents : Contents
    pub stands : slice_get b.objects birth ≡ Some (p, Some contents)
    pub found : IsIn birth (reached_by w (length w.objects) (flat_map rooted w.refs))

  from_handle : (h : Handle) (p : ℕ) → h.kind ≢ Weak → found_in b s h ≡ Object p → WasFound p
  from_handle h p root is =
      let i = a.alike.refs h (λ e. absurd (let bad = sym is ∙ e in cc)) in
      go i.0 i.1 i.2 (subst (RefIsSo b.objects h.kind i.1) is (a.alike.told i.0 h i.1 i.2))
    where
      listed_root : (kind : RefKind) (x : Option ℕ) (o : ℕ) → kind ≢ Weak → x ≡ Some o
          → IsIn o (cond (same_kind Weak kind) [] (listed x))
      listed_root Weak x o other e = absurd (other refl)
      listed_root Local x o other e = subst (λ z. IsIn o (listed z)) (sym e) (inl refl)
      listed_root Global x o other e = subst (λ z. IsIn o (listed z)) (sym e) (inl refl)

      go : (i : ℕ) (r : Option Ref) → slice_get b.refs i ≡ Some (h, r) → RefIsSo b.objects h.kind r (Object p)
          → WasFound p
      go i None at so = absurd so
      go i (Some r) at so =
          let small = slice_get_within w.refs i (Some r) (map_get (λ z. z.1) b.refs i (h, Some r) at) in
          record {
            birth = so.1;
            contents = so.3;
            stands = so.4;
            found = roots_found w (flat_map rooted w.refs) so.1 (in_flat rooted w.refs i None so.1 small
                (subst (λ z. IsIn so.1 (rooted z)) (sym (born_at b.refs i h r at))
                (listed_root r.kind r.object so.1 (λ z. absurd (root (sym so.0 ∙ z))) so.2)));
          }

  from_object : (p : ℕ) → IsPresent s p → (q : ℕ) → WasFound q → (k : ℕ) (x : Contents) → s.objects q ≡ Some x
      → x.kind ≡ Objects → slice_get x.words k ≡ Some p → WasFound p
  from_object p there q f k x is kind at =
      let z = a.alike.contents f.birth q f.contents f.stands in
      let same : z.0 ≡ x = some_same z.0 x (sym z.1 ∙ is) in
      let are = subst (λ u. AreContents b s u f.contents) same z.2 in
      let objects : is_objects x.kind ≡ true = ap is_objects kind in
      let low : k < length x.words = slice_get_within x.words k p at in
      let small : k < length f.contents.words = (let long = are.long in omega (arith, low, long)) in
      element are (ap is_objects are.kind ∙ objects) small (slice_index f.contents.words k) refl
      (are.named objects k p (slice_index f.contents.words k) at (slice_get-get_or f.contents.words k 0 small))
    where
      some_of : (y : Option Contents) → IsSome y → (u : Contents) × (y ≡ Some u)
      some_of (Some u) e = (u, refl)
      some_of None e = absurd cc

      element : AreContents b s x f.contents → is_objects f.contents.kind ≡ true → k < length f.contents.words
          → (v : ℕ) → slice_index f.contents.words k ≡ v → NamesBirth b s p v → WasFound p
      element are objects small zero word names = absurd (a.none (subst (IsPresent s) names there))
      element are objects small (suc j) word names =
          let here = some_of (s.objects p) there in
          let born = names.2 here.0 here.1 in
          record {
            birth = j;
            contents = born.0;
            stands = born.1;
            found = closed w (flat_map rooted w.refs) f.birth j f.found
                (subst (λ z. IsIn j (elements_of z)) (sym (born_at b.objects f.birth q f.contents f.stands))
                (element_out f.contents j (record { objects = objects; index = k; small = small; is = word })))
                (slice_get_within w.objects j (Some born.0) (map_get (λ z. z.1) b.objects j (p, Some born.0) born.1));
          }

  -- at a place where a local reference stands is the last handle that it gave
  from_place : (t q p : ℕ) → s.locals t q ≡ Some p → WasFound p
  from_place t q p is = go (b.puts t q) refl (a.put t q p is)
    where
      go : (n : ℕ) → b.puts t q ≡ n → 1 ≤ n → WasFound p
      go zero e some = absurd (omega (arith, some))
      go (suc n) e some = from_handle (next_of_place t q n) p (λ z. absurd cc)
          (ap (λ d. cond d (found_at_place (s.locals t q)) Stale) (ap (λ z. suc n == z) e ∙ eq_self (suc n))
          ∙ ap found_at_place is)

  pub reached_found : {p : ℕ} → IsReached s p → WasFound p
  reached_found {p} (from_global h kind is there) =
      from_handle h p (λ z. absurd (let bad = sym kind ∙ z in cc))
      (found_row b s h (not_local h (λ z. absurd (let bad = sym kind ∙ z in cc))) ∙ is)
  reached_found {p} (from_local t q is there) = from_place t q p is
  reached_found {p} (from_element o k x r is kind at there) = from_object p there o (reached_found r) k x is kind at

  -- AN OBJECT THAT STANDS IS FOUND JUST WHERE IT IS REACHED
  pub found_if : (i p : ℕ) (y : Contents) → slice_get b.objects i ≡ Some (p, Some y) → IsReached s p
      → is_found_reached w i ≡ true
  found_if i p y at r =
      let f = reached_found r in
      let same : f.birth ≡ i = a.alike.one_object f.birth i p f.contents y f.stands at in
      in_found i (reached_by w (length w.objects) (flat_map rooted w.refs))
      (subst (λ z. IsIn z (reached_by w (length w.objects) (flat_map rooted w.refs))) same f.found)

-- WHERE A LOCAL REFERENCE STANDS its place has given a handle
abbrev HavePut : Births → State → Type 0
HavePut b s = (t p o : ℕ) → s.locals t p ≡ Some o → 1 ≤ b.puts t p

put_act : (b : Births) (s : State) → HavePut b s → (t : ℕ) (x : Act) → HavePut (born_by b t x) (act_after s t x)
put_act b s puts t (LocalPut q o) = λ u p r. outer u p r (t == u)
  where
    inner : (p r : ℕ) (d : Bool) → cond d (Some o) (s.locals t p) ≡ Some r → 1 ≤ cond d (suc (b.puts t q)) (b.puts t p)
    inner p r true is = omega arith
    inner p r false is = puts t p r is

    outer : (u p r : ℕ) (d : Bool) → cond d (λ j. cond (q == j) (Some o) (s.locals t j)) (s.locals u) p ≡ Some r
        → 1 ≤ cond d (λ j. cond (q == j) (suc (b.puts t q)) (b.puts t j)) (b.puts u) p
    outer u p r true is = inner p r (q == p) is
    outer u p r false is = puts u p r is
put_act b s puts t (LocalDrop q) = λ u p r is. puts u p r (outer u p r (t == u) refl is)
  where
    inner : (p r : ℕ) (d : Bool) → ◌≡◌ {A = Option ℕ} (cond d None (s.locals t p)) (Some r) → s.locals t p ≡ Some r
    inner p r true is = absurd cc
    inner p r false is = is

    outer : (u p r : ℕ) (d : Bool) → (t == u) ≡ d
        → cond d (λ j. cond (q == j) None (s.locals t j)) (s.locals u) p ≡ Some r → s.locals u p ≡ Some r
    outer u p r true e is = subst (λ z. s.locals z p ≡ Some r) (eq_true t u e) (inner p r (q == p) is)
    outer u p r false e is = is
put_act b s puts t (Gate _) = puts
put_act b s puts t (Create _ _) = puts
put_act b s puts t (Delete _) = puts
put_act b s puts t (Clear _) = puts
put_act b s puts t (Reserve _) = puts
put_act b s puts t (New _ _ _) = puts
put_act b s puts t (Write _ _ _) = puts
put_act b s puts t (Drop _) = puts
put_act b s puts t (Settle _) = puts
put_act b s puts t _ = puts

put_along : (b : Births) (s : State) → HavePut b s → (es : History) → HavePut (births_from b es) (state_from s es)
put_along b s puts [] = puts
put_along b s puts (e ∷ es) =
    put_along (born_by b e.thread e.act) (act_after s e.thread e.act) (put_act b s puts e.thread e.act) es

-- so it is of each legal history
pub are_born : (c : Config) (last : ℕ) (es : History) → IsLegal c last es → AreBorn (births es) (state es)
are_born c last es legal = record {
  alike = worlds_are_so c last es legal;
  put = put_along no_births opening (λ t p o e. absurd cc) es;
  none = λ there. let low = (present_is_in_room c last es 0 legal there).0 in omega (arith, low);
}
