-- When each thing of a thread's story was done.
use Rattle.std.proofs.Common.{◌≡◌, ◌⊎◌, inl, inr, ◌<◌, ◌≤◌, ◌==◌, ◌+◌, ◌*◌, max, ℕ, suc, Bool, true, false, cond}
use Rattle.std.proofs.Common.{Some, List, [], ◌∷◌, ◌++◌, map, length, refl, sym, ap, ◌∙◌, arith, append-nil}
use Rattle.std.proofs.lemmas.Bool.{cases_lt}
use Rattle.std.proofs.lemmas.List.{length-append, map-append}
use Rattle.std.specs.List.{AllByRecursion}
use Rattle.one_order.specs.Orders.{done_by, Item, BoardOf, NamedWords, Story}
use Rattle.one_order.specs.Orders.Item.{does, posts, hears}
use Rattle.one_order.specs.Orders.Story.{begins, goes_on, has_posted, has_heard}
use Rattle.one_order.proofs.Lists.{all_weaker, all_append, all_map, all_choice, done_append}
use Rattle.one_order.proofs.Merging.{Time, Le, le_same, le_then, AreInOrder, order_append}

-- a thing that was done, and when
pub record Timed (A : Type 0) : Type 0 where
  pub time : Time
  pub item : Item A

abbrev pub time_at : ℕ → ℕ → Time
time_at n r = record { at = n; sub = r }

-- THE ACTS OF A HISTORY, and their places

-- each act with its place, of which the first is k
abbrev pub placed : {A : Type 0} → ℕ → List (ℕ × A) → List (ℕ × (ℕ × A))
placed k [] = []
placed k (e ∷ es) = (e.0, (k, e.1)) ∷ placed (suc k) es

-- an item's act, if it is one, with this place before these acts
abbrev pub act_placed : {A : Type 0} → ℕ → Item A → List (ℕ × A) → List (ℕ × A)
act_placed k (does a) es = (k, a) ∷ es
act_placed k _ es = es

-- the acts among timed things, each with its place
abbrev pub acts_in : {A : Type 0} → List (Timed A) → List (ℕ × A)
acts_in [] = []
acts_in (x ∷ xs) = act_placed x.time.at x.item (acts_in xs)

act_append : {A : Type 0} (k : ℕ) (x : Item A) (xs ys : List (ℕ × A))
    → act_placed k x (xs ++ ys) ≡ act_placed k x xs ++ ys
act_append k (does a) xs ys = refl
act_append k (posts n w) xs ys = refl
act_append k (hears n w) xs ys = refl

acts_append : {A : Type 0} (xs ys : List (Timed A)) → acts_in (xs ++ ys) ≡ acts_in xs ++ acts_in ys
acts_append [] ys = refl
acts_append (x ∷ xs) ys = ap (act_placed x.time.at x.item) (acts_append xs ys)
    ∙ act_append x.time.at x.item (acts_in xs) (acts_in ys)

-- an act is done when its place of the history is reached, before all that is posted or heard there
abbrev timed_act : {A : Type 0} → ℕ × A → Timed A
timed_act p = record { time = time_at p.0 0; item = does p.1 }

acts_of_acts : {A : Type 0} (xs : List (ℕ × A)) → acts_in (map timed_act xs) ≡ xs
acts_of_acts [] = refl
acts_of_acts (x ∷ xs) = ap (λ l. x ∷ l) (acts_of_acts xs)

placed_append : {A : Type 0} (k : ℕ) (xs ys : List (ℕ × A))
    → placed k (xs ++ ys) ≡ placed k xs ++ placed (k + length xs) ys
placed_append k [] ys = ap (λ n. placed n ys) (let e : k ≡ k + 0 = omega arith in e)
placed_append k (x ∷ xs) ys = ap (λ l. (x.0, (k, x.1)) ∷ l) (placed_append (suc k) xs ys
    ∙ ap (λ n. placed (suc k) xs ++ placed n ys) (let e : suc k + length xs ≡ k + suc (length xs) = omega arith in e))

-- the items of a thread's acts are these acts
placed_acts : {A : Type 0} (k : ℕ) (es : List (ℕ × A)) (t : ℕ)
    → map (λ p. p.item) (map timed_act (done_by (placed k es) t)) ≡ map does (done_by es t)
placed_acts k [] t = refl
placed_acts {A} k (e ∷ es) t = go (e.0 == t) (placed_acts (suc k) es t)
  where
    rest : List (ℕ × A)
    rest = done_by (placed (suc k) es) t

    go : (b : Bool) → map (λ p. p.item) (map timed_act rest) ≡ map does (done_by es t)
        → map (λ p. p.item) (map timed_act (cond b ((k, e.1) ∷ rest) rest))
        ≡ map does (cond b (e.1 ∷ done_by es t) (done_by es t))
    go true h = ap (λ l. does e.1 ∷ l) h
    go false h = h

-- their places are among those of the history
pub placed_from : {A : Type 0} (k : ℕ) (es : List (ℕ × A)) (t : ℕ)
    → AllByRecursion (λ p. (k ≤ p.0) × (p.0 < k + length es)) (done_by (placed k es) t)
placed_from k [] t = tt
placed_from k (e ∷ es) t =
    let rest = done_by (placed (suc k) es) t in
    all_choice (λ p. (k ≤ p.0) × (p.0 < k + suc (length es))) (e.0 == t) (k, e.1) rest (omega arith, omega arith)
    (all_weaker (λ p h. ((let a = h.0 in omega arith), (let a = h.1 in omega arith))) rest (placed_from (suc k) es t))

-- and rise
placed_order : {A : Type 0} (k : ℕ) (es : List (ℕ × A)) (t : ℕ)
    → AreInOrder (λ x. x.time) (map timed_act (done_by (placed k es) t))
placed_order k [] t = tt
placed_order {A} k (e ∷ es) t = go (e.0 == t) (placed_order (suc k) es t)
  where
    rest : List (ℕ × A)
    rest = done_by (placed (suc k) es) t

    later : AllByRecursion (λ p. Le (time_at k 0) (time_at p.0 0)) rest
    later = all_weaker (λ p h. inl (let a = h.0 in omega arith)) rest (placed_from (suc k) es t)

    go : (b : Bool) → AreInOrder (λ x. x.time) (map timed_act rest)
        → AreInOrder (λ x. x.time) (map timed_act (cond b ((k, e.1) ∷ rest) rest))
    go true h = (all_map timed_act (λ y. Le (time_at k 0) y.time) rest later, h)
    go false h = h

-- RANKS: what a thread has posted or heard is below a level, to which the next post rises

-- one more than the greatest rank of words, 0 of none
abbrev pub level : (List ℕ → ℕ) → NamedWords → ℕ
level rank [] = 0
level rank (x ∷ xs) = max (suc (rank x.0)) (level rank xs)

level_more : (rank : List ℕ → ℕ) (words : NamedWords) (n : List ℕ) (w : ℕ)
    → (level rank words ≤ level rank (words ++ (n, w) ∷ [])) × (rank n < level rank (words ++ (n, w) ∷ []))
level_more rank [] n w = (omega arith, omega arith)
level_more rank (x ∷ xs) n w =
    let h = level_more rank xs n w in
    ((let a = h.0 in omega arith), (let a = h.1 in omega arith))

level_below : (rank : List ℕ → ℕ) (words : NamedWords) (n : List ℕ) → AllByRecursion (λ x. rank x.0 < rank n) words
    → level rank words ≤ rank n
level_below rank [] n h = omega arith
level_below rank (x ∷ xs) n h = let i = level_below rank xs n h.1 in let j = h.0 in omega arith

le_at : (m n r s : ℕ) → m ≤ n → r ≤ s → Le (time_at m r) (time_at n s)
le_at m n r s l k = go (cases_lt m n)
  where
    go : (m < n) ⊎ (n ≤ m) → Le (time_at m r) (time_at n s)
    go (inl a) = inl a
    go (inr a) = inr (omega arith, k)

all_true : {A : Type 0} (acts : List (ℕ × A)) → AllByRecursion (λ x. Unit {0}) acts
all_true [] = tt
all_true (x ∷ xs) = (tt, all_true xs)

-- TIMES OF ITEMS: at each place of the history the acts come first. A post stands behind all that is below its name's
-- rank, and a hearing behind all that is not above it, so that a hearing is later than its post
module _ {A : Type 0} (board : BoardOf A) (rank : List ℕ → ℕ) where
  -- an item is done at a time that fits it: a post when its poster had seen what the board says, by its rank; a hearing
  -- not before that, and behind its rank
  abbrev pub IsTimely : Time → Item A → Type 0
  IsTimely x (does a) = Unit {0}
  IsTimely x (posts n w) = (seen : List (ℕ × A)) × (board n ≡ Some (w, seen)) × (x.at ≡ length seen)
      × (x.sub ≡ 2 * rank n + 1)
  IsTimely x (hears n w) = (begun : List (ℕ × A)) × (board n ≡ Some (w, begun)) × (length begun ≤ x.at)
      × (2 * rank n + 2 ≤ x.sub)

  -- the time up to which a thread has come
  abbrev now : List (ℕ × A) → NamedWords → Time
  now seen words = time_at (length seen) (2 * level rank words)

  -- thread t's items, each with its time, up to this moment
  pub record TimedStory (t : ℕ) (items : List (Item A)) (seen : List (ℕ × A)) (words : NamedWords) : Type 0 where
    pub timed : List (Timed A)
    pub items_are : map (λ x. x.item) timed ≡ items
    pub in_order : AreInOrder (λ x. x.time) timed
    pub so_far : AllByRecursion (λ x. Le x.time (now seen words)) timed
    pub acts_are : acts_in timed ≡ done_by (placed 1 seen) t
    pub timely : AllByRecursion (λ x. IsTimely x.time x.item) timed

  -- one item more, which is no act
  one_more : {t : ℕ} {items : List (Item A)} {seen : List (ℕ × A)} {words : NamedWords}
      (s : TimedStory t items seen words) (x : Timed A) (words' : NamedWords) → Le (now seen words) x.time
      → Le x.time (now seen words') → level rank words ≤ level rank words'
      → act_placed x.time.at x.item [] ≡ [] → IsTimely x.time x.item
      → TimedStory t (items ++ x.item ∷ []) seen words'
  one_more {t} {items} {seen} {words} s x words' before behind more silent timely =
      let b : Time = now seen words in
      let e : Time = now seen words' in
      let up = all_weaker (λ y h. le_then y.time b e h (inr (refl, omega arith))) s.timed s.so_far in
      record {
        timed = s.timed ++ x ∷ [];
        items_are = map-append (λ y. y.item) s.timed (x ∷ []) ∙ ap (λ l. l ++ x.item ∷ []) s.items_are;
        in_order = order_append (λ y. y.time) x.time s.timed (x ∷ []) s.in_order (tt, tt)
            (all_weaker (λ y l. le_then y.time b x.time l before) s.timed s.so_far) (le_same x.time, tt);
        so_far = all_append (λ y. Le y.time e) s.timed (x ∷ []) up (behind, tt);
        acts_are = acts_append s.timed (x ∷ []) ∙ (ap (λ l. acts_in s.timed ++ l) silent
            ∙ (append-nil (acts_in s.timed) ∙ s.acts_are));
        timely = all_append (λ y. IsTimely y.time y.item) s.timed (x ∷ []) s.timely (timely, tt);
      }

  -- the history goes on
  more_acts : {t : ℕ} {items : List (Item A)} {seen : List (ℕ × A)} {words : NamedWords} (since : List (ℕ × A))
      → TimedStory t items seen words → TimedStory t (items ++ map does (done_by since t)) (seen ++ since) words
  more_acts {t} {items} {seen} {words} since s =
      let k = 1 + length seen in
      let acts = done_by (placed k since) t in
      let then : List (Timed A) = map timed_act acts in
      let r = 2 * level rank words in
      let b : Time = now seen words in
      let e : Time = now (seen ++ since) words in
      let long = length-append seen since in
      let later : Le b e = le_at (length seen) (length (seen ++ since)) r r (omega arith) (omega arith) in
      record {
        timed = s.timed ++ then;
        items_are = map-append (λ y. y.item) s.timed then ∙ (ap (λ l. l ++ map (λ y. y.item) then) s.items_are
            ∙ ap (λ l. items ++ l) (placed_acts k since t));
        in_order = order_append (λ y. y.time) b s.timed then s.in_order (placed_order k since t) s.so_far
            (all_map timed_act (λ y. Le b y.time) acts
            (all_weaker (λ p h. inl (let l = h.0 in omega arith)) acts (placed_from k since t)));
        so_far = all_append (λ y. Le y.time e) s.timed then
            (all_weaker (λ y h. le_then y.time b e h later) s.timed s.so_far)
            (all_map timed_act (λ y. Le y.time e) acts
            (all_weaker (λ p h. le_at p.0 (length (seen ++ since)) 0 r (let l = h.1 in omega arith) (omega arith)) acts
            (placed_from k since t)));
        acts_are = acts_append s.timed then ∙ (ap (λ l. l ++ acts_in then) s.acts_are
            ∙ (ap (λ l. done_by (placed 1 seen) t ++ l) (acts_of_acts acts)
            ∙ (sym (done_append (placed 1 seen) (placed k since) t)
            ∙ ap (λ l. done_by l t) (sym (placed_append 1 seen since)))));
        timely = all_append (λ y. IsTimely y.time y.item) s.timed then s.timely
            (all_map timed_act (λ y. IsTimely y.time y.item) acts (all_true acts));
      }

  pub timed_story : {t : ℕ} {items : List (Item A)} {seen : List (ℕ × A)} {words : NamedWords}
      → Story board rank t items seen words → TimedStory t items seen words
  timed_story begins = record { timed = []; items_are = refl; in_order = tt; so_far = tt; acts_are = refl; timely = tt }
  timed_story (goes_on since s) = more_acts since (timed_story s)
  timed_story (has_posted {seen = seen} {words = words} n w s on below) =
      let h = level_below rank words n below in
      let up = level_more rank words n w in
      let x : Timed A = record { time = time_at (length seen) (2 * rank n + 1); item = posts n w } in
      one_more (timed_story s) x (words ++ (n, w) ∷ []) (inr (refl, omega arith))
      (inr (refl, (let a = up.1 in omega arith))) up.0 refl (seen, on, refl, refl)
  timed_story (has_heard {seen = seen} {words = words} n w begun since s on so) =
      let up = level_more rank words n w in
      let long = ap length (sym so) ∙ length-append begun since in
      let x : Timed A = record { time = now seen (words ++ (n, w) ∷ []); item = hears n w } in
      one_more (timed_story s) x (words ++ (n, w) ∷ []) (inr (refl, (let a = up.0 in omega arith)))
      (inr (refl, omega arith)) up.0 refl (begun, on, omega arith, (let a = up.1 in omega arith))
