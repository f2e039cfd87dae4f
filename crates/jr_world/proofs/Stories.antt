-- Programs that are played by their threads' stories run together.
use Rattle.std.proofs.Common.{◌≡◌, ◌⊎◌, inl, inr, ◌<◌, ◌≤◌, ◌==◌, ℕ, zero, suc, Bool, true, false, cond, Some, None}
use Rattle.std.proofs.Common.{List, [], ◌∷◌, ◌++◌, map}
use Rattle.std.proofs.Common.{length, slice_index_or, Contains, refl, sym, ap, subst, ◌∙◌, arith}
use Rattle.std.proofs.lemmas.Bool.{cases_lt}
use Rattle.std.proofs.lemmas.List.Elements.{Contains-append_cases, Contains-append_left, Contains-push_cases}
use Rattle.std.proofs.lemmas.Slice.Eq.{bytes_eq-Decides}
use Rattle.std.specs.List.{AllByRecursion}
use Rattle.std.specs.Str.{bytes_eq}
use Rattle.jr_model.specs.declared.event.Act.{Act}
use Rattle.jr_model.specs.History.{History, by}
use Rattle.jr_model.proofs.Updates.{eq_self}
use Rattle.jr_world.specs.Board.{IsOnBoard, word_under}
use Rattle.jr_world.specs.Plays.{Plays}
use Rattle.jr_world.specs.Schedules.{RunTogether, StoriesRunTo}
use Rattle.jr_world.specs.Schedules.{board_after, board_from, event_before, events_of, pairs}
use Rattle.jr_world.proofs.Births.BornLists.{some_same}
use Rattle.jr_world.proofs.TogetherRuns.{players_run}
use Rattle.one_order.specs.Orders.{AreStories, BoardOf, Item, NamedWords, Story, act_before, acts_of, done_by}
use Rattle.one_order.specs.Orders.Story.{begins, goes_on, has_posted, has_heard}
use Rattle.one_order.specs.Orders.Item.{does as acting, posts as posting, hears as hearing}
use Rattle.one_order.proofs.Lists.{contains_behind, contains_cases, contains_first, contains_from_map, none_chosen}
use Rattle.one_order.proofs.OneOrder.{one_order}

-- THE EVENTS OF ALL are those of their acts

event_is : (t : ℕ) (x : Item Act) (es : History) (ps : List (ℕ × Act)) → es ≡ map (λ p. by p.0 p.1) ps
    → event_before t x es ≡ map (λ p. by p.0 p.1) (act_before t x ps)
event_is t (acting a) es ps e = ap (λ l. by t a ∷ l) e
event_is t (posting n w) es ps e = e
event_is t (hearing n w) es ps e = e

events_are : (all : List (ℕ × Item Act)) → events_of all ≡ map (λ p. by p.0 p.1) (acts_of all)
events_are [] = refl
events_are (x ∷ xs) = event_is x.0 x.1 (events_of xs) (acts_of xs) (events_are xs)

unpaired : (es : History) → map (λ (p : ℕ × Act). by p.0 p.1) (pairs es) ≡ es
unpaired [] = refl
unpaired (e ∷ es) = ap (λ l. e ∷ l) (unpaired es)

-- WHO ACTS, of the threads that have stories

get_past : {X : Type 0} (xs : List X) (t : ℕ) (d : X) → length xs ≤ t → slice_index_or xs t d ≡ d
get_past [] t d l = refl
get_past (x ∷ xs) zero d l = absurd (omega arith)
get_past (x ∷ xs) (suc t) d l = get_past xs t d (omega arith)

all_small : {X : Type 0} (n : ℕ) (xs : List (ℕ × X)) → ((t : ℕ) → n ≤ t → done_by xs t ≡ [])
    → AllByRecursion (λ x. x.0 < n) xs
all_small n [] h = tt
all_small n (x ∷ xs) h =
    (head (cases_lt x.0 n), all_small n xs (λ t l. (none_chosen (x.0 == t) x.1 (done_by xs t) (h t l)).1))
  where
    head : (x.0 < n) ⊎ (n ≤ x.0) → x.0 < n
    head (inl l) = l
    head (inr l) = absurd (let bad = sym (ap (λ z. cond z (x.1 ∷ done_by xs x.0) (done_by xs x.0)) (eq_self x.0))
        ∙ h x.0 l in cc)

-- WHAT WAS POSTED IN A STORY stands on the board of all

no_posts : {A : Type 0} (acts : List A) (n : List ℕ) (w : ℕ) → Contains (map acting acts) (posting n w) → ⊥
no_posts acts n w has = let r = contains_from_map acting acts (posting n w) has in let bad = r.1 in cc

same_post : {A : Type 0} (m n : List ℕ) (v w : ℕ) → ◌≡◌ {A = Item A} (posting m v) (posting n w) → (m ≡ n) × (v ≡ w)
same_post m n v w e = (cc, cc)

heard_no_post : {A : Type 0} (m n : List ℕ) (v w : ℕ) → ◌≡◌ {A = Item A} (hearing m v) (posting n w) → ⊥
heard_no_post m n v w e = cc

-- the board has this word under the name
abbrev HasWord : {A : Type 0} → BoardOf A → List ℕ → ℕ → Type 0
HasWord {A} board n w = (begun : List (ℕ × A)) × (board n ≡ Some (w, begun))

by_case : {P Q R : Type 0} → (P → R) → (Q → R) → P ⊎ Q → R
by_case f g (inl p) = f p
by_case f g (inr q) = g q

-- .. as it has each that a story has posted
has_word : {A : Type 0} (board : BoardOf A) (rank : List ℕ → ℕ) (t : ℕ) {items : List (Item A)} {seen : List (ℕ × A)}
    {words : NamedWords} → Story board rank t items seen words → (n : List ℕ) (w : ℕ) → Contains items (posting n w)
    → HasWord board n w
has_word board rank t begins n w has = absurd (let less = has.1 in omega arith)
has_word board rank t (goes_on {items = items} since story) n w has =
    by_case (has_word board rank t story n w) (λ act. absurd (no_posts (done_by since t) n w act))
    (Contains-append_cases items (map acting (done_by since t)) (posting n w) has)
has_word board rank t (has_posted {items = items} {seen = seen} m v story is higher) n w has =
    by_case (has_word board rank t story n w) (λ e.
    let same = same_post m n v w e in
    (seen, subst (λ z. board z ≡ Some (w, seen)) same.0 (is ∙ ap (λ z. Some (z, seen)) same.1)))
    (Contains-push_cases items (posting m v) (posting n w) has)
has_word board rank t (has_heard {items = items} m v begun since story is all) n w has =
    by_case (has_word board rank t story n w) (λ e. absurd (heard_no_post m n v w e))
    (Contains-push_cases items (hearing m v) (posting n w) has)

-- .. so the words that stories of one board have posted under a name are one
one_word : {A : Type 0} (board : BoardOf A) (rank : List ℕ → ℕ) (whole : List (ℕ × A))
    (stories : List (List (Item A)))
    → AreStories board rank whole stories → (t u : ℕ) (n : List ℕ) (v w : ℕ)
    → Contains (slice_index_or stories t []) (posting n v) → Contains (slice_index_or stories u []) (posting n w)
    → v ≡ w
one_word board rank whole stories all t u n v w there here =
    let a = has_at t v there in
    let b = has_at u w here in ap (λ x. x.0) (some_same (v, a.0) (w, b.0) (sym a.1 ∙ b.1))
  where
    has_at : (t w : ℕ) → Contains (slice_index_or stories t []) (posting n w) → HasWord board n w
    has_at t w has = by_case (λ small. has_word board rank t (all.told t small).1 n w has) (λ big.
        let none = ap length (get_past stories t [] big) in
        let less = has.1 in absurd (omega arith)) (cases_lt t (length stories))

-- WHAT WAS POSTED FIRST under a name is the word under it

itself : (n : List ℕ) → bytes_eq n n ≡ true
itself n = (bytes_eq-Decides n n).1 refl

stays_on : (b more : List (List ℕ × ℕ)) (n : List ℕ) (w : ℕ) → IsOnBoard b n w → IsOnBoard (b ++ more) n w
stays_on [] more n w p = absurd cc
stays_on (x ∷ b) more n w p = go (bytes_eq n x.0) p (stays_on b more n w)
  where
    go : (d : Bool) → cond d (Some x.1) (word_under b n) ≡ Some w → (IsOnBoard b n w → IsOnBoard (b ++ more) n w)
        → cond d (Some x.1) (word_under (b ++ more) n) ≡ Some w
    go true p rest = p
    go false p rest = rest p

stays_after : (b : List (List ℕ × ℕ)) (x : Item Act) (n : List ℕ) (w : ℕ) → IsOnBoard b n w
    → IsOnBoard (board_after b x) n w
stays_after b (acting a) n w p = p
stays_after b (posting m v) n w p = stays_on b ((m, v) ∷ []) n w p
stays_after b (hearing m v) n w p = p

stays_from : (xs : List (ℕ × Item Act)) (b : List (List ℕ × ℕ)) (n : List ℕ) (w : ℕ) → IsOnBoard b n w
    → IsOnBoard (board_from b xs) n w
stays_from [] b n w p = p
stays_from (x ∷ xs) b n w p = stays_from xs (board_after b x.1) n w (stays_after b x.1 n w p)

-- the word is on the board, or none is under its name
abbrev IsOnItOrNone : List (List ℕ × ℕ) → List ℕ → ℕ → Type 0
IsOnItOrNone b n w = IsOnBoard b n w ⊎ (word_under b n ≡ None)

posted_last : (b : List (List ℕ × ℕ)) (n : List ℕ) (w : ℕ) → word_under b n ≡ None → IsOnBoard (b ++ (n, w) ∷ []) n w
posted_last [] n w none = ap (λ d. cond d (Some w) None) (itself n)
posted_last (x ∷ b) n w none = go (bytes_eq n x.0) none (posted_last b n w)
  where
    go : (d : Bool) → cond d (Some x.1) (word_under b n) ≡ None
        → (word_under b n ≡ None → IsOnBoard (b ++ (n, w) ∷ []) n w)
        → cond d (Some x.1) (word_under (b ++ (n, w) ∷ []) n) ≡ Some w
    go true none rest = absurd cc
    go false none rest = rest none

posted_now : (b : List (List ℕ × ℕ)) (n : List ℕ) (w : ℕ) → IsOnItOrNone b n w → IsOnBoard (b ++ (n, w) ∷ []) n w
posted_now b n w (inl p) = stays_on b ((n, w) ∷ []) n w p
posted_now b n w (inr none) = posted_last b n w none

none_with : (b : List (List ℕ × ℕ)) (m n : List ℕ) (v : ℕ) → bytes_eq n m ≡ false → word_under b n ≡ None
    → word_under (b ++ (m, v) ∷ []) n ≡ None
none_with [] m n v other none = ap (λ d. cond d (Some v) None) other
none_with (x ∷ b) m n v other none = go (bytes_eq n x.0) none (none_with b m n v other)
  where
    go : (d : Bool) → cond d (Some x.1) (word_under b n) ≡ None
        → (word_under b n ≡ None → word_under (b ++ (m, v) ∷ []) n ≡ None)
        → cond d (Some x.1) (word_under (b ++ (m, v) ∷ []) n) ≡ None
    go true none rest = absurd cc
    go false none rest = rest none

-- an item that posts no other word under the name leaves it so
so_after : (b : List (List ℕ × ℕ)) (x : Item Act) (n : List ℕ) (w : ℕ) → ((v : ℕ) → x ≡ posting n v → v ≡ w)
    → IsOnItOrNone b n w → IsOnItOrNone (board_after b x) n w
so_after b x n w one (inl p) = inl (stays_after b x n w p)
so_after b (acting a) n w one (inr none) = inr none
so_after b (posting m v) n w one (inr none) = by_name (bytes_eq n m) refl
  where
    by_name : (d : Bool) → bytes_eq n m ≡ d → IsOnItOrNone (b ++ (m, v) ∷ []) n w
    by_name true is = let same : n ≡ m = (bytes_eq-Decides n m).0 is in
        let as_posted = one v (ap (λ z. posting z v) (sym same)) in
        let pair = ap (λ z. (z, w)) same ∙ ap (λ z. (m, z)) (sym as_posted) in
        inl (subst (λ z. IsOnBoard (b ++ z ∷ []) n w) pair (posted_last b n w none))
    by_name false is = inr (none_with b m n v is none)
so_after b (hearing m v) n w one (inr none) = inr none

posted_from : (xs : List (ℕ × Item Act)) (b : List (List ℕ × ℕ)) (u : ℕ) (n : List ℕ) (w : ℕ)
    → ((t v : ℕ) → Contains xs (t, posting n v) → v ≡ w) → IsOnItOrNone b n w
    → Contains xs (u, posting n w) → IsOnBoard (board_from b xs) n w
posted_from [] b u n w one so has = absurd (let less = has.1 in omega arith)
posted_from (x ∷ xs) b u n w one so has = go (contains_cases x xs (u, posting n w) has)
    (posted_from xs (board_after b x.1) u n w (λ t v there. one t v (contains_behind x xs (t, posting n v) there))
    (so_after b x.1 n w (λ v e. one x.0 v (subst (Contains (x ∷ xs)) (ap (λ i. (x.0, i)) e) (contains_first x xs))) so))
  where
    go : (x ≡ (u, posting n w)) ⊎ Contains xs (u, posting n w)
        → (Contains xs (u, posting n w) → IsOnBoard (board_from (board_after b x.1) xs) n w)
        → IsOnBoard (board_from (board_after b x.1) xs) n w
    go (inl e) rest = stays_from xs (board_after b x.1) n w
        (subst (λ (y : ℕ × Item Act). IsOnBoard (board_after b y.1) n w) (sym e) (posted_now b n w so))
    go (inr has) rest = rest has

-- what is there is done by its thread
done_there : {X : Type 0} (xs : List (ℕ × X)) (t : ℕ) (x : X) → Contains xs (t, x) → Contains (done_by xs t) x
done_there [] t x has = absurd (let less = has.1 in omega arith)
done_there (y ∷ xs) t x has = go (contains_cases y xs (t, x) has) (done_there xs t x)
  where
    chosen : (d : Bool) → Contains (done_by xs t) x → Contains (cond d (y.1 ∷ done_by xs t) (done_by xs t)) x
    chosen true there = contains_behind y.1 (done_by xs t) x there
    chosen false there = there

    go : (y ≡ (t, x)) ⊎ Contains xs (t, x) → (Contains xs (t, x) → Contains (done_by xs t) x)
        → Contains (cond (y.0 == t) (y.1 ∷ done_by xs t) (done_by xs t)) x
    go (inl e) rest = subst (λ z. Contains (cond (z.0 == t) (z.1 ∷ done_by xs t) (done_by xs t)) x) (sym e)
        (subst (λ d. Contains (cond d (x ∷ done_by xs t) (done_by xs t)) x) (sym (eq_self t))
        (contains_first x (done_by xs t)))
    go (inr has) rest = chosen (y.0 == t) (rest has)

pub stories_run : {A : Type 0} → StoriesRunTo A
stories_run c answers f g whole board rank stories start told many empty plays stands =
    let o = one_order board rank (pairs whole) stories told in
    let all = o.0 in
    let events : events_of all ≡ whole =
    events_are all ∙ (ap (map (λ p. by p.0 p.1)) o.1.history ∙ unpaired whole) in
    subst (λ h. RunTogether c answers g h start) events
    (players_run c answers f g all start
    (all_small c.threads all (λ t l. o.1.each t ∙ get_past stories t [] (let m = many in omega arith)))
    (λ before after t n w is.
    let p = o.1.heard before after t n w is in
    let in_story : (u v : ℕ) → Contains before (u, posting n v) → Contains (slice_index_or stories u []) (posting n v)
    = (λ u v there. subst (λ l. Contains l (posting n v)) (o.1.each u) (done_there all u (posting n v)
    (subst (λ l. Contains l (u, posting n v)) (sym is)
    (Contains-append_left before ((t, hearing n w) ∷ after) (u, posting n v) there)))) in
    posted_from before start.shared.board p.0 n w
    (λ u v there. one_word board rank (pairs whole) stories told u p.0 n v w (in_story u v there)
    (in_story p.0 w p.1))
    (inr (ap (λ b. word_under b n) empty)) p.1)
    (λ t l. subst (λ h. Plays c h t (λ later r. r ≡ answers t) (g t) [] (start.programs t) [] (f t) (done_by all t))
    (sym events)
    (subst (Plays c whole t (λ later r. r ≡ answers t) (g t) [] (start.programs t) [] (f t)) (sym (o.1.each t))
    (plays t l))) stands)
