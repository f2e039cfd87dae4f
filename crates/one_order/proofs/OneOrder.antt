-- There is one order of what several threads do.
use Rattle.std.proofs.Common.{◌≡◌, ◌⊎◌, inl, inr, ◌<◌, ◌≤◌, ◌==◌, ◌+◌, ◌*◌, ℕ, zero, suc, Bool, true, false, cond}
use Rattle.std.proofs.Common.{Option, Some, None, List, [], ◌∷◌, ◌++◌, map, length, get_or, Contains}
use Rattle.std.proofs.Common.{refl, sym, ap, subst, subst₂, ◌∙◌, arith, zero-add}
use Rattle.std.proofs.lemmas.Bool.{cases_lt}
use Rattle.std.proofs.lemmas.List.Elements.{All-contains, All-from_recursion, Contains-append_right}
use Rattle.std.proofs.lemmas.List.Elements.{Contains-append_cases}
use Rattle.std.specs.List.{AllByRecursion}
use Rattle.one_order.specs.Orders.{done_by, Item, BoardOf, NamedWords, Story, AreStories, IsOneOrder}
use Rattle.one_order.specs.Orders.Item.{posts, hears}
use Rattle.one_order.proofs.Lists.{all_map, none_chosen, tagged, contains_first, contains_behind, contains_cases}
use Rattle.one_order.proofs.Lists.{contains_map, contains_from_map, contains_done}
use Rattle.one_order.proofs.Merging.{Time, Le, AreInOrder, Gathered, Each, IsReady, gathered}
use Rattle.one_order.proofs.Timing.{Timed, TimedStory, IsTimely, acts_in, placed, timed_story}
use Rattle.one_order.proofs.Histories.{same_first, is_placed, acts_placed, acts_done, acts_rise, untimed, unplaced}
use Rattle.one_order.proofs.Histories.{acts_untimed, placed_unplaced, done_untimed}

-- WHERE SOMETHING STANDS in a list that is made of another, it stands in that

record CutAt {X Y : Type 0} (f : X → Y) (xs : List X) (before : List Y) (y : Y) : Type 0 where
  pub front : List X
  pub here : X
  pub back : List X
  pub whole : xs ≡ front ++ here ∷ back
  pub front_is : map f front ≡ before
  pub here_is : f here ≡ y

cut_at : {X Y : Type 0} (f : X → Y) (xs : List X) (before after : List Y) (y : Y) → map f xs ≡ before ++ y ∷ after
    → CutAt f xs before y
cut_at f [] [] after y e = absurd cc
cut_at f [] (b ∷ before) after y e = absurd cc
cut_at f (x ∷ xs) [] after y e = record {
  front = [];
  here = x;
  back = xs;
  whole = refl;
  front_is = refl;
  here_is = (same_first (f x) y (map f xs) after e).0;
}
cut_at f (x ∷ xs) (b ∷ before) after y e =
    let d = same_first (f x) b (map f xs) (before ++ y ∷ after) e in
    let c = cut_at f xs before after y d.1 in record {
      front = x ∷ c.front;
      here = c.here;
      back = c.back;
      whole = ap (λ l. x ∷ l) c.whole;
      front_is = ap (λ z. z ∷ map f c.front) d.0 ∙ ap (λ l. b ∷ l) c.front_is;
      here_is = c.here_is;
    }

order_cut : {X : Type 0} (when : X → Time) (front back : List X) (x : X) → AreInOrder when (front ++ x ∷ back)
    → AllByRecursion (λ y. Le (when x) (when y)) back
order_cut when [] back x h = h.0
order_cut when (y ∷ front) back x h = order_cut when front back x h.1

abbrev is_post : {A : Type 0} → Item A → Bool
is_post (posts n w) = true
is_post _ = false

-- how many acts a poster had seen
abbrev seen_by_poster : {X : Type 0} → Option (ℕ × List X) → ℕ
seen_by_poster (Some x) = length x.1
seen_by_poster None = 0

-- ALL, EACH WITH ITS TIME

module _ {A : Type 0} (board : BoardOf A) (rank : List ℕ → ℕ) (whole : List (ℕ × A)) where
  abbrev Timely : ℕ × Timed A → Type 0
  Timely x = IsTimely board rank x.1.time x.1.item

  tagged_order : (t : ℕ) (xs : List (Timed A)) → AreInOrder (λ x. x.time) xs
      → AreInOrder (λ x. x.1.time) (tagged t xs)
  tagged_order t [] h = tt
  tagged_order t (x ∷ xs) h = (all_map (λ z. (t, z)) (λ y. Le x.time y.1.time) xs h.0, tagged_order t xs h.1)

  -- the stories from thread t on, each with its times
  record TimedAll (t : ℕ) (stories : List (List (Item A))) : Type 0 where
    pub lists : List (List (Timed A))
    pub ready : Each (λ x. x.1.time) (IsReady (λ x. x.1.time) Timely) t lists
    pub items_are : (i : ℕ) → map (λ x. x.item) (get_or lists i []) ≡ get_or stories i []
    pub acts_are : (i : ℕ) → i < length stories → acts_in (get_or lists i []) ≡ done_by (placed 1 whole) (t + i)
    pub none_behind : (i : ℕ) → length stories ≤ i → get_or lists i [] ≡ []

  -- a story of a thread up to the whole history, with the words that it has by then
  abbrev WholeStory : ℕ → List (Item A) → Type 0
  WholeStory t items = (words : NamedWords) × Story board rank t items whole words

  timed_all : (t : ℕ) (stories : List (List (Item A)))
      → ((i : ℕ) → i < length stories → WholeStory (t + i) (get_or stories i [])) → TimedAll t stories
  timed_all t [] told = record {
    lists = [];
    ready = tt;
    items_are = λ i. refl;
    acts_are = λ i l. absurd (omega arith);
    none_behind = λ i l. refl;
  }
  timed_all t (items ∷ stories) told =
      let first : WholeStory t items = subst (λ u. WholeStory u items) (omega arith) (told 0 (omega arith)) in
      let s : TimedStory board rank t items whole first.0 = timed_story board rank first.1 in
      let rest = timed_all (suc t) stories (λ i l. subst (λ u. WholeStory u (get_or stories i [])) (shifted i)
      (told (suc i) (omega arith))) in
      record {
        lists = s.timed ∷ rest.lists;
        ready = ((tagged_order t s.timed s.in_order, all_map (λ z. (t, z)) Timely s.timed s.timely), rest.ready);
        items_are = items_at s rest;
        acts_are = acts_at s rest;
        none_behind = none_at s rest;
      }
    where
      shifted : (i : ℕ) → t + suc i ≡ suc t + i
      shifted i = omega arith

      items_at : {words : NamedWords} (s : TimedStory board rank t items whole words) (r : TimedAll (suc t) stories)
          (i : ℕ) → map (λ x. x.item) (get_or (s.timed ∷ r.lists) i []) ≡ get_or (items ∷ stories) i []
      items_at s r zero = s.items_are
      items_at s r (suc i) = r.items_are i

      acts_at : {words : NamedWords} (s : TimedStory board rank t items whole words) (r : TimedAll (suc t) stories)
          (i : ℕ) → i < suc (length stories)
          → acts_in (get_or (s.timed ∷ r.lists) i []) ≡ done_by (placed 1 whole) (t + i)
      acts_at s r zero l = s.acts_are ∙ ap (done_by (placed 1 whole)) (let e : t ≡ t + 0 = omega arith in e)
      acts_at s r (suc i) l = r.acts_are i (omega arith) ∙ ap (done_by (placed 1 whole)) (sym (shifted i))

      none_at : {words : NamedWords} (s : TimedStory board rank t items whole words) (r : TimedAll (suc t) stories)
          (i : ℕ) → suc (length stories) ≤ i → get_or (s.timed ∷ r.lists) i [] ≡ []
      none_at s r zero l = absurd (omega arith)
      none_at s r (suc i) l = r.none_behind i (omega arith)

  -- who has no act has none with a place
  none_placed : (k : ℕ) (es : List (ℕ × A)) (t : ℕ) → done_by es t ≡ [] → done_by (placed k es) t ≡ []
  none_placed k [] t h = refl
  none_placed k (e ∷ es) t h =
      let d = none_chosen (e.0 == t) e.1 (done_by es t) h in
      let rest = done_by (placed (suc k) es) t in
      ap (λ b. cond b ((k, e.1) ∷ rest) rest) d.0 ∙ none_placed (suc k) es t d.1

  module _ (stories : List (List (Item A))) (a : AreStories board rank whole stories) where
    timed : TimedAll 0 stories
    timed = timed_all 0 stories (λ i l. subst (λ u. WholeStory u (get_or stories i [])) (sym (zero-add i)) (a.told i l))

    together : Gathered (λ x. x.1.time) Timely 0 timed.lists
    together = gathered (λ x. x.1.time) Timely 0 timed.lists timed.ready

    each_timed : (t : ℕ) → done_by together.all t ≡ get_or timed.lists t []
    each_timed t = ap (done_by together.all) (sym (zero-add t)) ∙ together.each t

    items_each : (t : ℕ) → map (λ x. x.item) (done_by together.all t) ≡ get_or stories t []
    items_each t = ap (map (λ x. x.item)) (each_timed t) ∙ timed.items_are t

    acts_each : (t : ℕ) → done_by (acts_placed together.all) t ≡ done_by (placed 1 whole) t
    acts_each t = acts_done together.all t ∙ (ap acts_in (each_timed t) ∙ go (cases_lt t (length stories)))
      where
        go : (t < length stories) ⊎ (length stories ≤ t)
            → acts_in (get_or timed.lists t []) ≡ done_by (placed 1 whole) t
        go (inl l) = timed.acts_are t l ∙ ap (done_by (placed 1 whole)) (zero-add t)
        go (inr l) = ap acts_in (timed.none_behind t l) ∙ sym (none_placed 1 whole t (a.no_others t l))

    -- an item of a story stands among all
    stands : (u : ℕ) (x : Item A) → Contains (get_or stories u []) x
        → (z : ℕ × Timed A) × (untimed z ≡ (u, x)) × Contains together.all z
    stands u x h = contains_from_map untimed together.all (u, x) (contains_done (map untimed together.all) u x
        (subst (λ l. Contains l x) (sym (done_untimed together.all u ∙ items_each u)) h))

    timely_in : (front back : List (ℕ × Timed A)) (x : ℕ × Timed A) → AllByRecursion Timely (front ++ back)
        → Contains back x → Timely x
    timely_in front back x told h = All-contains Timely (front ++ back) x
        (All-from_recursion Timely (front ++ back) told) (Contains-append_right front back x h)

    later_in : (m : Time) (back : List (ℕ × Timed A)) (x : ℕ × Timed A) → AllByRecursion (λ y. Le m y.1.time) back
        → Contains back x → Le m x.1.time
    later_in m back x told h = All-contains (λ y. Le m y.1.time) back x
        (All-from_recursion (λ y. Le m y.1.time) back told) h

    -- no post is later than its hearing
    not_behind : (x y : Time) (r n : ℕ) → Le x y → n ≤ x.at → 2 * r + 2 ≤ x.sub → y.at ≡ n → y.sub ≡ 2 * r + 1 → ⊥
    not_behind x y r n (inl l) m s e f = omega arith
    not_behind x y r n (inr l) m s e f = let p = l.0 in let q = l.1 in omega arith

    -- nor is it the same
    not_both : {t u : ℕ} {n : List ℕ} {w : ℕ} (x : ℕ × Timed A) → untimed x ≡ (t, hears n w)
        → untimed x ≡ (u, posts n w) → ⊥
    not_both x h p = let bad : false ≡ true = sym (ap (λ z. is_post z.1) h) ∙ ap (λ z. is_post z.1) p in absurd cc

    post_first : (before after : List (ℕ × Item A)) (t : ℕ) (n : List ℕ) (w : ℕ)
        → map untimed together.all ≡ before ++ (t, hears n w) ∷ after → (u : ℕ) × Contains before (u, posts n w)
    post_first before after t n w e =
        let c = cut_at untimed together.all before after (t, hears n w) e in
        let told = subst (AllByRecursion Timely) c.whole together.right in
        let order = subst (AreInOrder (λ x. x.1.time)) c.whole together.in_order in
        let here : Timely c.here = timely_in c.front (c.here ∷ c.back) c.here told (contains_first c.here c.back) in
        let hearing : IsTimely board rank c.here.1.time (hears n w) =
        subst (IsTimely board rank c.here.1.time) (ap (λ z. z.1) c.here_is) here in
        from_post c told order hearing (a.posted n w hearing.0 hearing.1)
      where
        go : {u : ℕ} (c : CutAt untimed together.all before (t, hears n w))
            → AllByRecursion Timely (c.front ++ c.here ∷ c.back)
            → AreInOrder (λ x. x.1.time) (c.front ++ c.here ∷ c.back)
            → IsTimely board rank c.here.1.time (hears n w) → (x : ℕ × Timed A) → untimed x ≡ (u, posts n w)
            → Contains c.front x ⊎ Contains (c.here ∷ c.back) x → Contains before (u, posts n w)
        go c told order hearing x is (inl h) = subst₂ Contains c.front_is is (contains_map untimed c.front x h)
        go {u} c told order hearing x is (inr h) = absurd (behind (contains_cases c.here c.back x h))
          where
            behind : (c.here ≡ x) ⊎ Contains c.back x → ⊥
            behind (inl e) = not_both c.here c.here_is (ap untimed e ∙ is)
            behind (inr k) =
                let later = later_in c.here.1.time c.back x (order_cut (λ x. x.1.time) c.front c.back c.here order) k in
                let posting : IsTimely board rank x.1.time (posts n w) =
                subst (IsTimely board rank x.1.time) (ap (λ z. z.1) is)
                (timely_in c.front (c.here ∷ c.back) x told (contains_behind c.here c.back x k)) in
                let same : length hearing.0 ≡ length posting.0 = ap seen_by_poster (sym hearing.1 ∙ posting.1) in
                not_behind c.here.1.time x.1.time (rank n) (length hearing.0) later hearing.2 hearing.3
                (posting.2 ∙ sym same) posting.3

        from_post : (c : CutAt untimed together.all before (t, hears n w))
            → AllByRecursion Timely (c.front ++ c.here ∷ c.back)
            → AreInOrder (λ x. x.1.time) (c.front ++ c.here ∷ c.back)
            → IsTimely board rank c.here.1.time (hears n w)
            → (u : ℕ) × Contains (get_or stories u []) (posts n w) → (u : ℕ) × Contains before (u, posts n w)
        from_post c told order hearing p =
            let x = stands p.0 (posts n w) p.1 in (
              p.0,
              go c told order hearing x.0 x.1
                  (Contains-append_cases c.front (c.here ∷ c.back) x.0 (subst (λ l. Contains l x.0) c.whole x.2)),
            )

    -- THERE IS ONE ORDER
    pub one_order : (all : List (ℕ × Item A)) × IsOneOrder whole stories all
    one_order = (
      map untimed together.all,
      record {
        each = λ t. done_untimed together.all t ∙ items_each t;
        history = acts_untimed together.all ∙ (ap (map unplaced)
            (is_placed 1 whole (acts_placed together.all) (acts_rise together.all together.in_order) acts_each)
            ∙ placed_unplaced 1 whole);
        heard = post_first;
      },
    )
