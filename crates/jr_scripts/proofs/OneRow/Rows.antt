-- ROWS THAT ARE ORDERED, and what is left of one where a thread's first command is done before its turn.
use Rattle.std.proofs.Common.{◌≡◌, ◌⊎◌, ◌<◌, ◌++◌, ◌==◌, ◌&&◌, ◌||◌, ℕ, zero, suc, Bool, true, false, cond, not, List}
use Rattle.std.proofs.Common.{[], ◌∷◌, get_or, drop, refl, sym, ap, subst, ◌∙◌, inl, inr, arith, bytes_eq, eqb-true}
use Rattle.std.proofs.Common.{eq-eqb, ne_eqb}
use Rattle.std.proofs.lemmas.Bool.{and_from, and_parts, and_right, cases_eq, false_from_ne_true, not-true, or_from}
use Rattle.std.proofs.lemmas.Bool.{or_left, or_parts, or_right}
use Rattle.std.proofs.lemmas.Slice.Eq.{bytes_eq-Decides}
use Rattle.std.specs.List.{AllByRecursion}
use Rattle.one_order.specs.Orders.{done_by}
use Rattle.one_order.proofs.Lists.{done_append, done_elsewhere, none_chosen}
use Rattle.jr_syntax.specs.declared.command.Command.{Command}
use Rattle.jr_scripts.specs.OneRow.{Manner, News, CommandRow, and_name, each_hears, hears, is_ordered, manner_of}
use Rattle.jr_scripts.specs.OneRow.{may_come}
use Rattle.jr_scripts.specs.OneRow.{news_after, news_of}
use Rattle.jr_scripts.specs.OneRow.Manner.{acts, apart, collects, posts, waits}

-- it takes steps of another kind than posts and waits
abbrev pub is_acting : Manner → Bool
is_acting acts = true
is_acting collects = true
is_acting _ = false

-- a command of this manner may be done before its turn: if it waits for a name, that was spoken
abbrev pub MayBeFirst : News → Manner → Type 0
MayBeFirst k (waits n) = k.is_spoken n ≡ true
MayBeFirst k _ = Unit {0}

-- no command of these takes steps, or has to do with this name
abbrev pub AreQuiet : CommandRow → Type 0
AreQuiet row = AllByRecursion (λ y. is_acting (manner_of y.1) ≡ false) row

abbrev pub IsOfOther : List ℕ → Manner → Type 0
IsOfOther n (posts m) = (m ≡ n → ⊥)
IsOfOther n (waits m) = (m ≡ n → ⊥)
IsOfOther n _ = Unit {0}

-- TESTS
or_less : (a b c d : Bool) → (a ≡ true → c ≡ true) → (b ≡ true → d ≡ true) → (a || b) ≡ true → (c || d) ≡ true
or_less true b c d f g e = or_left c d (f refl)
or_less false b c d f g e = or_right c d (g e)

and_less : (a b c d : Bool) → (a ≡ true → c ≡ true) → (b ≡ true → d ≡ true) → (a && b) ≡ true → (c && d) ≡ true
and_less true b c d f g e = and_from c d (f refl) (g e)
and_less false b c d f g e = absurd cc

or_swap : (a b c : Bool) → (a || (b || c)) ≡ true → (b || (a || c)) ≡ true
or_swap true b c e = or_right b true refl
or_swap false b c e = e

or_only : (a b c : Bool) → b ≡ false → ((a && b) || c) ≡ true → c ≡ true
or_only true true c is e = absurd cc
or_only true false c is e = e
or_only false b c is e = e

not_both : (b : Bool) → b ≡ true → b ≡ false → ⊥
not_both b is isnt = let bad = sym is ∙ isnt in absurd cc

unlike : (n m : List ℕ) → (n ≡ m → ⊥) → bytes_eq n m ≡ false
unlike n m never = false_from_ne_true (bytes_eq n m) (λ is. never ((bytes_eq-Decides n m).0 is))

differ : (t u : ℕ) → (t == u) ≡ false → (u == t) ≡ false
differ t u isnt = false_from_ne_true (u == t) (λ is. not_both (t == u) (eq-eqb t u (sym (eqb-true u t is))) isnt)

-- WHAT A POST TELLS
told_less : (b c : Bool) (n : List ℕ) (f g : List ℕ → Bool) → (b ≡ true → c ≡ true)
    → ((m : List ℕ) → f m ≡ true → g m ≡ true) → (m : List ℕ) → cond b (and_name n f) f m ≡ true
    → cond c (and_name n g) g m ≡ true
told_less true true n f g known told m e =
    or_less (bytes_eq m n) (f m) (bytes_eq m n) (g m) (λ is. is) (told m) e
told_less true false n f g known told m e = let bad = known refl in absurd cc
told_less false true n f g known told m e = or_right (bytes_eq m n) (g m) (told m e)
told_less false false n f g known told m e = told m e

told_more : (b : Bool) (n : List ℕ) (f : List ℕ → Bool) (m : List ℕ) → f m ≡ true → cond b (and_name n f) f m ≡ true
told_more true n f m e = or_right (bytes_eq m n) (f m) e
told_more false n f m e = e

-- .. of another name, or by who doesn't know
told_only : (b : Bool) (n : List ℕ) (f : List ℕ → Bool) (m : List ℕ) → bytes_eq m n ≡ false
    → cond b (and_name n f) f m ≡ true → f m ≡ true
told_only true n f m other e = sym (ap (λ b. b || f m) other) ∙ e
told_only false n f m other e = e

told_before : (b : Bool) (n : List ℕ) (f : List ℕ → Bool) (m : List ℕ) → b ≡ false
    → cond b (and_name n f) f m ≡ true → f m ≡ true
told_before true n f m isnt e = absurd cc
told_before false n f m isnt e = e

told_none : (b : Bool) (n : List ℕ) (f : List ℕ → Bool) (m : List ℕ) → bytes_eq m n ≡ false → f m ≡ false
    → cond b (and_name n f) f m ≡ false
told_none true n f m other isnt = or_from (bytes_eq m n) (f m) other isnt
told_none false n f m other isnt = isnt

told_swap : (b c : Bool) (n p : List ℕ) (f : List ℕ → Bool) (m : List ℕ)
    → cond b (and_name n (cond c (and_name p f) f)) (cond c (and_name p f) f) m ≡ true
    → cond c (and_name p (cond b (and_name n f) f)) (cond b (and_name n f) f) m ≡ true
told_swap true true n p f m e = or_swap (bytes_eq m n) (bytes_eq m p) (f m) e
told_swap _ _ n p f m e = e

-- MORE NEWS: at least as many know of it, under at least as many names
record Knows (j k : News) : Type 0 where
  known : (u : ℕ) → j.is_known_to u ≡ true → k.is_known_to u ≡ true
  told : (n : List ℕ) → j.is_told_by n ≡ true → k.is_told_by n ≡ true

-- .. and no more names were spoken
abbrev SpeaksLess : News → News → Type 0
SpeaksLess j k = (n : List ℕ) → k.is_spoken n ≡ true → j.is_spoken n ≡ true

knows_after : (j k : News) → Knows j k → (t : ℕ) (m : Manner) → Knows (news_after t m j) (news_after t m k)
knows_after j k r t (posts n) = record {
  known = r.known;
  told = told_less (j.is_known_to t) (k.is_known_to t) n j.is_told_by k.is_told_by (r.known t) r.told;
}
knows_after j k r t (waits n) = record {
  known = λ u. or_less (j.is_told_by n && (u == t)) (j.is_known_to u) (k.is_told_by n && (u == t)) (k.is_known_to u)
      (and_less (j.is_told_by n) (u == t) (k.is_told_by n) (u == t) (r.told n) (λ is. is)) (r.known u);
  told = r.told;
}
knows_after j k r t apart = r
knows_after j k r t _ = record { known = λ u is. is; told = λ n is. is }

-- the names that a command speaks of
abbrev names : Manner → List ℕ → Bool
names (posts n) p = bytes_eq p n
names (waits n) p = bytes_eq p n
names _ p = false

spoken_is : (t : ℕ) (m : Manner) (k : News) (p : List ℕ)
    → (news_after t m k).is_spoken p ≡ (names m p || k.is_spoken p)
spoken_is t (posts n) k p = refl
spoken_is t (waits n) k p = refl
spoken_is t _ k p = refl

speaks_after : (j k : News) → SpeaksLess j k → (t : ℕ) (m : Manner) → SpeaksLess (news_after t m j) (news_after t m k)
speaks_after j k r t m p e = spoken_is t m j p ∙ or_less (names m p) (k.is_spoken p) (names m p) (j.is_spoken p)
    (λ is. is) (r p) (sym (spoken_is t m k p) ∙ e)

hears_more : (u : ℕ) (j k : News) → Knows j k → (row : CommandRow) → hears u j row ≡ true → hears u k row ≡ true
hears_more u j k r [] e = r.known u e
hears_more u j k r (y ∷ row) e =
    let j1 = news_after y.0 (manner_of y.1) j in
    let k1 = news_after y.0 (manner_of y.1) k in
    or_less (j.is_known_to u) (hears u j1 row) (k.is_known_to u) (hears u k1 row) (r.known u)
    (hears_more u j1 k1 (knows_after j k r y.0 (manner_of y.1)) row) e

each_hears_more : (n : ℕ) (j k : News) → Knows j k → (row : CommandRow) → each_hears n j row ≡ true
    → each_hears n k row ≡ true
each_hears_more zero j k r row e = refl
each_hears_more (suc n) j k r row e = and_less (each_hears n j row) (hears n j row) (each_hears n k row) (hears n k row)
    (each_hears_more n j k r row) (hears_more n j k r row) e

not_less : (a b : Bool) → (b ≡ true → a ≡ true) → not a ≡ true → not b ≡ true
not_less a true f e = let bad = f refl in ap not (sym bad) ∙ e
not_less a false f e = refl

may_come_more : (threads : ℕ) (t : ℕ) (m : Manner) (j k : News) → Knows j k → SpeaksLess j k → (row : CommandRow)
    → may_come threads t m j row ≡ true → may_come threads t m k row ≡ true
may_come_more threads t (posts n) j k r s row e = not_less (j.is_spoken n) (k.is_spoken n) (s n) e
may_come_more threads t collects j k r s row e = and_less (j.is_known_to t) (each_hears threads (news_of t j) row)
    (k.is_known_to t) (each_hears threads (news_of t k) row) (r.known t)
    (each_hears_more threads (news_of t j) (news_of t k) (knows_after j k r t acts) row) e
may_come_more threads t acts j k r s row e = r.known t e
may_come_more threads t _ j k r s row e = refl

ordered_more : (threads : ℕ) (j k : News) → Knows j k → SpeaksLess j k → (row : CommandRow)
    → is_ordered threads j row ≡ true
    → is_ordered threads k row ≡ true
ordered_more threads j k r s [] e = refl
ordered_more threads j k r s (y ∷ row) e =
    let m = manner_of y.1 in
    let j1 = news_after y.0 m j in
    let k1 = news_after y.0 m k in
    and_less (may_come threads y.0 m j row) (is_ordered threads j1 row) (may_come threads y.0 m k row)
    (is_ordered threads k1 row) (may_come_more threads y.0 m j k r s row)
    (ordered_more threads j1 k1 (knows_after j k r y.0 m) (speaks_after j k s y.0 m) row) e

-- WHO ISN'T KNOWN TO, and whose turn it isn't, is known to no more
still_unknown : (t u : ℕ) (m : Manner) (k : News) → (u == t) ≡ false → k.is_known_to t ≡ false
    → (news_after u m k).is_known_to t ≡ false
still_unknown t u (waits n) k isnt unknown = or_from (k.is_told_by n && (t == u)) (k.is_known_to t)
    (and_right (k.is_told_by n) (t == u) (differ u t isnt)) unknown
still_unknown t u collects k isnt unknown = differ u t isnt
still_unknown t u acts k isnt unknown = differ u t isnt
still_unknown t u _ k isnt unknown = unknown

-- A COMMAND DONE BEFORE THE ONE THAT STANDS BEFORE IT
abbrev IsNoPost : List ℕ → Manner → Type 0
IsNoPost n (posts m) = (m ≡ n → ⊥)
IsNoPost n _ = Unit {0}

-- .. may come by its manner
abbrev MayPass : Manner → Manner → Type 0
MayPass (posts n) l = IsOfOther n l
MayPass (waits n) l = IsNoPost n l
MayPass apart l = Unit {0}
MayPass collects l = is_acting l ≡ false
MayPass acts l = is_acting l ≡ false

abbrev MayPassAll : Manner → CommandRow → Type 0
MayPassAll m row = AllByRecursion (λ y. MayPass m (manner_of y.1)) row

-- .. and tells no less
module _ (t u : ℕ) (other : (u == t) ≡ false) (k : News) where
  news_swapped : (m l : Manner) → MayPass m l
      → Knows (news_after t m (news_after u l k)) (news_after u l (news_after t m k))
  news_swapped (posts n) (posts p) may = record {
    known = λ w is. is;
    told = told_swap (k.is_known_to t) (k.is_known_to u) n p k.is_told_by;
  }
  news_swapped (posts n) (waits p) may = record {
    known = λ w. or_less (k.is_told_by p && (w == u)) (k.is_known_to w) (after.is_told_by p && (w == u))
        (k.is_known_to w) (and_less (k.is_told_by p) (w == u) (after.is_told_by p) (w == u)
        (told_more (k.is_known_to t) n k.is_told_by p) (λ is. is)) (λ is. is);
    told = told_less ((k.is_told_by p && (t == u)) || k.is_known_to t) (k.is_known_to t) n k.is_told_by k.is_told_by
        (or_only (k.is_told_by p) (t == u) (k.is_known_to t) (differ u t other)) (λ q is. is);
  }
    where
      after : News
      after = news_after t (posts n) k
  news_swapped (posts n) collects may = record {
    known = λ w is. is;
    told = λ q. told_before (t == u) n (λ r. false) q (differ u t other);
  }
  news_swapped (posts n) acts may = record {
    known = λ w is. is;
    told = λ q. told_before (t == u) n (λ r. false) q (differ u t other);
  }
  news_swapped (waits n) (posts p) may = record {
    known = λ w. or_less (before.is_told_by n && (w == t)) (k.is_known_to w) (k.is_told_by n && (w == t))
        (k.is_known_to w) (and_less (before.is_told_by n) (w == t) (k.is_told_by n) (w == t)
        (told_only (k.is_known_to u) p k.is_told_by n (unlike n p (λ is. may (sym is)))) (λ is. is)) (λ is. is);
    told = told_less (k.is_known_to u) ((k.is_told_by n && (u == t)) || k.is_known_to u) p k.is_told_by k.is_told_by
        (or_right (k.is_told_by n && (u == t)) (k.is_known_to u)) (λ q is. is);
  }
    where
      before : News
      before = news_after u (posts p) k
  news_swapped (waits n) (waits p) may = record {
    known = λ w. or_swap (k.is_told_by n && (w == t)) (k.is_told_by p && (w == u)) (k.is_known_to w);
    told = λ q is. is;
  }
  news_swapped collects (posts p) may = record { known = λ w is. is; told = λ q bad. absurd cc }
  news_swapped acts (posts p) may = record { known = λ w is. is; told = λ q bad. absurd cc }
  news_swapped collects collects may = absurd cc
  news_swapped collects acts may = absurd cc
  news_swapped acts collects may = absurd cc
  news_swapped acts acts may = absurd cc
  news_swapped _ _ may = record { known = λ w is. is; told = λ q is. is }

-- .. and speaks of the same
spoken_swapped : (t u : ℕ) (m l : Manner) (k : News)
    → SpeaksLess (news_after t m (news_after u l k)) (news_after u l (news_after t m k))
spoken_swapped t u m l k p e =
    spoken_is t m (news_after u l k) p ∙ ap (λ b. names m p || b) (spoken_is u l k p)
    ∙ or_swap (names l p) (names m p) (k.is_spoken p)
    (sym (spoken_is u l (news_after t m k) p ∙ ap (λ b. names l p || b) (spoken_is t m k p)) ∙ e)

-- WHO HEARS still hears where one command is left out, of a thread that knows nothing
abbrev TellsNothing : Manner → News → Type 0
TellsNothing (waits n) k = k.is_told_by n ≡ false
TellsNothing _ k = Unit {0}

nothing_after : (t u : ℕ) (m l : Manner) (k : News) → MayPass m l → TellsNothing m k
    → TellsNothing m (news_after u l k)
nothing_after t u (waits n) (posts p) k may none =
    told_none (k.is_known_to u) p k.is_told_by n (unlike n p (λ is. may (sym is))) none
nothing_after t u (waits n) collects k may none = refl
nothing_after t u (waits n) acts k may none = refl
nothing_after t u (waits n) _ k may none = none
nothing_after t u _ l k may none = tt

untold : (t : ℕ) (m : Manner) (k : News) → is_acting m ≡ false → TellsNothing m k → k.is_known_to t ≡ false
    → Knows (news_after t m k) k
untold t (posts n) k quiet none unknown = record {
  known = λ u is. is;
  told = λ q. told_before (k.is_known_to t) n k.is_told_by q unknown;
}
untold t (waits n) k quiet none unknown = record {
  known = λ u is. known u is;
  told = λ q is. is;
}
  where
    known : (u : ℕ) → ((k.is_told_by n && (u == t)) || k.is_known_to u) ≡ true → k.is_known_to u ≡ true
    known u is = sym (ap (λ b. (b && (u == t)) || k.is_known_to u) none) ∙ is
untold t apart k quiet none unknown = record { known = λ u is. is; told = λ q is. is }
untold t _ k quiet none unknown = absurd cc

hears_at_once : (u : ℕ) (k : News) (row : CommandRow) → k.is_known_to u ≡ true → hears u k row ≡ true
hears_at_once u k [] is = is
hears_at_once u k (y ∷ row) is = or_left (k.is_known_to u) (hears u (news_after y.0 (manner_of y.1) k) row) is

either_way : (a b : Bool) {P : Type 0} → (a ≡ true → P) → (b ≡ true → P) → (a || b) ≡ true → P
either_way true b f g e = f refl
either_way false b f g e = g e

module _ (t : ℕ) (x : Command) (quiet : is_acting (manner_of x) ≡ false) where
  hears_without : (w : ℕ) (k : News) (pre post : CommandRow) → done_by pre t ≡ [] → MayPassAll (manner_of x) pre
      → TellsNothing (manner_of x) k → k.is_known_to t ≡ false → hears w k (pre ++ (t, x) ∷ post) ≡ true
      → hears w k (pre ++ post) ≡ true
  hears_without w k [] post first may none unknown e =
      either_way (k.is_known_to w) (hears w (news_after t (manner_of x) k) post) (hears_at_once w k post)
      (hears_more w (news_after t (manner_of x) k) k (untold t (manner_of x) k quiet none unknown) post) e
  hears_without w k (y ∷ pre) post first may none unknown e =
      let m = manner_of y.1 in
      let k1 = news_after y.0 m k in
      let apart = none_chosen (y.0 == t) y.1 (done_by pre t) first in
      or_less (k.is_known_to w) (hears w k1 (pre ++ (t, x) ∷ post)) (k.is_known_to w) (hears w k1 (pre ++ post))
      (λ is. is) (hears_without w k1 pre post apart.1 may.1 (nothing_after t y.0 (manner_of x) m k may.0 none)
      (still_unknown t y.0 m k apart.0 unknown)) e

  each_hears_without : (n : ℕ) (k : News) (pre post : CommandRow) → done_by pre t ≡ [] → MayPassAll (manner_of x) pre
      → TellsNothing (manner_of x) k → k.is_known_to t ≡ false → each_hears n k (pre ++ (t, x) ∷ post) ≡ true
      → each_hears n k (pre ++ post) ≡ true
  each_hears_without zero k pre post first may none unknown e = refl
  each_hears_without (suc n) k pre post first may none unknown e =
      and_less (each_hears n k (pre ++ (t, x) ∷ post)) (hears n k (pre ++ (t, x) ∷ post)) (each_hears n k (pre ++ post))
      (hears n k (pre ++ post)) (each_hears_without n k pre post first may none unknown)
      (hears_without n k pre post first may none unknown) e

-- before who takes steps nobody comes who does
quiet_before : (m l : Manner) → is_acting l ≡ true → MayPass m l → is_acting m ≡ false
quiet_before collects l acting may = absurd (not_both (is_acting l) acting may)
quiet_before acts l acting may = absurd (not_both (is_acting l) acting may)
quiet_before _ l acting may = refl

-- .. and who is known to, still is
still_known : (t : ℕ) (k : News) (u : ℕ) (m : Manner) → is_acting m ≡ false → k.is_known_to u ≡ true
    → (news_after t m k).is_known_to u ≡ true
still_known t k u (posts n) quiet is = is
still_known t k u (waits n) quiet is = or_right (k.is_told_by n && (u == t)) (k.is_known_to u) is
still_known t k u apart quiet is = is
still_known t k u _ quiet is = absurd cc

-- WHO NEVER HEARS
none_last : (xs ys : List Command) → xs ++ ys ≡ [] → ys ≡ []
none_last [] ys e = e
none_last (x ∷ xs) ys e = absurd cc

never_hears : (u : ℕ) (k : News) (row : CommandRow) → done_by row u ≡ [] → k.is_known_to u ≡ false
    → hears u k row ≡ false
never_hears u k [] none unknown = unknown
never_hears u k (y ∷ row) none unknown =
    let m = manner_of y.1 in
    let parts = none_chosen (y.0 == u) y.1 (done_by row u) none in
    or_from (k.is_known_to u) (hears u (news_after y.0 m k) row) unknown
    (never_hears u (news_after y.0 m k) row parts.1 (still_unknown u y.0 m k parts.0 unknown))

each_hears_at : (n : ℕ) (k : News) (row : CommandRow) (u : ℕ) → each_hears n k row ≡ true → u < n → hears u k row ≡ true
each_hears_at zero k row u e below = absurd (omega arith)
each_hears_at (suc n) k row u e below =
    let parts = and_parts (each_hears n k row) (hears n k row) e in
    go (cases_eq u n) (each_hears_at n k row u parts.0) parts.1
  where
    go : (u ≡ n) ⊎ (u ≡ n → ⊥) → (u < n → hears u k row ≡ true) → hears n k row ≡ true → hears u k row ≡ true
    go (inl is) before last = subst (λ w. hears w k row ≡ true) (sym is) last
    go (inr isnt) before last = before (omega arith)

ordered_behind : (threads : ℕ) (k : News) (pre rest : CommandRow) → is_ordered threads k (pre ++ rest) ≡ true
    → (j : News) × (is_ordered threads j rest ≡ true)
ordered_behind threads k [] rest ordered = (k, ordered)
ordered_behind threads k (y ∷ pre) rest ordered =
    let m = manner_of y.1 in ordered_behind threads (news_after y.0 m k) pre rest
    (and_parts (may_come threads y.0 m k (pre ++ rest)) _ ordered).1

-- WHAT STANDS BEFORE a thread's first command
acts_before : (threads : ℕ) (k : News) (t : ℕ) (x : Command) (pre post : CommandRow)
    → is_ordered threads k (pre ++ (t, x) ∷ post) ≡ true → done_by pre t ≡ [] → is_acting (manner_of x) ≡ true
    → AreQuiet pre × (k.is_known_to t ≡ true)
acts_before threads k t x [] post ordered first acting =
    (tt, knows (manner_of x) acting (and_parts (may_come threads t (manner_of x) k post) _ ordered).0)
  where
    knows : (m : Manner) → is_acting m ≡ true → may_come threads t m k post ≡ true → k.is_known_to t ≡ true
    knows collects acting may = (and_parts (k.is_known_to t) (each_hears threads (news_of t k) post) may).0
    knows acts acting may = may
    knows _ acting may = absurd cc
acts_before threads k t x (y ∷ pre) post ordered first acting =
    let m = manner_of y.1 in
    let none = none_chosen (y.0 == t) y.1 (done_by pre t) first in
    let rest = (and_parts (may_come threads y.0 m k (pre ++ (t, x) ∷ post)) _ ordered).1 in
    let behind = acts_before threads (news_after y.0 m k) t x pre post rest none.1 acting in
    let is = before m y.0 (differ y.0 t none.0) behind.1 in ((is.0, behind.0), is.1)
  where
    before : (m : Manner) (u : ℕ) → (t == u) ≡ false → (news_after u m k).is_known_to t ≡ true
        → (is_acting m ≡ false) × (k.is_known_to t ≡ true)
    before (waits n) u other known = (refl, or_only (k.is_told_by n) (t == u) (k.is_known_to t) other known)
    before collects u other known = absurd (not_both (t == u) known other)
    before acts u other known = absurd (not_both (t == u) known other)
    before _ u other known = (refl, known)

posts_before : (threads : ℕ) (k : News) (t : ℕ) (x : Command) (pre post : CommandRow)
    → is_ordered threads k (pre ++ (t, x) ∷ post) ≡ true → (n : List ℕ) → manner_of x ≡ posts n
    → (k.is_spoken n ≡ false) × AllByRecursion (λ y. IsOfOther n (manner_of y.1)) pre
posts_before threads k t x [] post ordered n is =
    let may = (and_parts (may_come threads t (manner_of x) k post) _ ordered).0 in
    (not-true (k.is_spoken n) (subst (λ m. may_come threads t m k post ≡ true) is may), tt)
posts_before threads k t x (y ∷ pre) post ordered n is =
    let m = manner_of y.1 in
    let rest = (and_parts (may_come threads y.0 m k (pre ++ (t, x) ∷ post)) _ ordered).1 in
    let behind = posts_before threads (news_after y.0 m k) t x pre post rest n is in
    let new = before m y.0 behind.0 in (new.0, (new.1, behind.1))
  where
    apart_from : (p : List ℕ) → (bytes_eq n p || k.is_spoken n) ≡ false → (k.is_spoken n ≡ false) × (p ≡ n → ⊥)
    apart_from p no_one = let parts = or_parts (bytes_eq n p) (k.is_spoken n) no_one in
        (parts.1, λ same. not_both (bytes_eq n p) ((bytes_eq-Decides n p).1 (sym same)) parts.0)

    before : (m : Manner) (u : ℕ) → (news_after u m k).is_spoken n ≡ false
        → (k.is_spoken n ≡ false) × IsOfOther n m
    before (posts p) u new = apart_from p new
    before (waits p) u new = apart_from p new
    before _ u new = (new, tt)

-- of a name that was spoken there is no post
spoken_before : (threads : ℕ) (k : News) (n : List ℕ) → k.is_spoken n ≡ true → (pre rest : CommandRow)
    → is_ordered threads k (pre ++ rest) ≡ true → AllByRecursion (λ y. IsNoPost n (manner_of y.1)) pre
spoken_before threads k n spoken [] rest ordered = tt
spoken_before threads k n spoken (y ∷ pre) rest ordered =
    let m = manner_of y.1 in
    let parts = and_parts (may_come threads y.0 m k (pre ++ rest)) _ ordered in (
      here m y.0 (pre ++ rest) parts.0,
      spoken_before threads (news_after y.0 m k) n
          (spoken_is y.0 m k n ∙ or_right (names m n) (k.is_spoken n) spoken) pre rest parts.1,
    )
  where
    here : (m : Manner) (u : ℕ) (row : CommandRow) → may_come threads u m k row ≡ true → IsNoPost n m
    here (posts p) u row may = λ same. not_both (k.is_spoken n) spoken
        (sym (ap k.is_spoken same) ∙ not-true (k.is_spoken p) may)
    here _ u row may = tt

all_pass : (row : CommandRow) → MayPassAll apart row
all_pass [] = tt
all_pass (y ∷ row) = (tt, all_pass row)

module _ (threads t : ℕ) (x : Command) where
  -- .. whatever stands before it still may come
  still_comes : (k : News) (u : ℕ) (l : Manner) (pre post : CommandRow) → (u == t) ≡ false → MayPass (manner_of x) l
      → MayPassAll (manner_of x) pre → done_by pre t ≡ []
      → may_come threads u l k (pre ++ (t, x) ∷ post) ≡ true
      → may_come threads u l (news_after t (manner_of x) k) (pre ++ post) ≡ true
  still_comes k u (posts p) pre post other may all first e = ap not (spoken_is t (manner_of x) k p
      ∙ or_from (names (manner_of x) p) (k.is_spoken p) (new (manner_of x) may) (not-true (k.is_spoken p) e))
    where
      new : (m : Manner) → MayPass m (posts p) → names m p ≡ false
      new (posts n) may = unlike p n may
      new (waits n) may = unlike p n may
      new _ may = refl
  still_comes k u collects pre post other may all first e =
      let after = news_after t (manner_of x) k in
      and_less (k.is_known_to u) (each_hears threads (news_of u k) (pre ++ (t, x) ∷ post)) (after.is_known_to u)
      (each_hears threads (news_of u after) (pre ++ post)) (still_known t k u (manner_of x) quiet) go e
    where
      quiet : is_acting (manner_of x) ≡ false
      quiet = quiet_before (manner_of x) collects refl may

      nothing : (m : Manner) → TellsNothing m (news_of u k)
      nothing (waits n) = refl
      nothing _ = tt

      go : each_hears threads (news_of u k) (pre ++ (t, x) ∷ post) ≡ true
          → each_hears threads (news_of u (news_after t (manner_of x) k)) (pre ++ post) ≡ true
      go h = each_hears_more threads (news_of u k) (news_of u (news_after t (manner_of x) k))
          (record { known = λ w is. is; told = λ q is. is }) (pre ++ post)
          (each_hears_without t x quiet threads (news_of u k) pre post first all
          (nothing (manner_of x)) (differ u t other) h)
  still_comes k u acts pre post other may all first e =
      still_known t k u (manner_of x) (quiet_before (manner_of x) acts refl may) e
  still_comes k u _ pre post other may all first e = refl

  without : (k : News) (pre post : CommandRow) → is_ordered threads k (pre ++ (t, x) ∷ post) ≡ true → done_by pre t ≡ []
      → MayPassAll (manner_of x) pre → is_ordered threads (news_after t (manner_of x) k) (pre ++ post) ≡ true
  without k [] post ordered first all = (and_parts (may_come threads t (manner_of x) k post) _ ordered).1
  without k (y ∷ pre) post ordered first all =
      let m = manner_of x in
      let l = manner_of y.1 in
      let none = none_chosen (y.0 == t) y.1 (done_by pre t) first in
      let parts = and_parts (may_come threads y.0 l k (pre ++ (t, x) ∷ post)) _ ordered in
      and_from _ _ (still_comes k y.0 l pre post none.0 all.0 all.1 none.1 parts.0)
      (ordered_more threads (news_after t m (news_after y.0 l k)) (news_after y.0 l (news_after t m k))
      (news_swapped t y.0 none.0 k m l all.0) (spoken_swapped t y.0 m l k) (pre ++ post)
      (without (news_after y.0 l k) pre post parts.1 none.1 all.1))

module _ (threads : ℕ) (k : News) (t : ℕ) (x : Command) (pre post : CommandRow)
    (ordered : is_ordered threads k (pre ++ (t, x) ∷ post) ≡ true) (first : done_by pre t ≡ []) where
  -- who takes steps is the first who does
  pub acts_first : is_acting (manner_of x) ≡ true → AreQuiet pre × (k.is_known_to t ≡ true)
  acts_first = acts_before threads k t x pre post ordered first

  -- what is posted is a new name, of which nothing before speaks
  pub posts_new : (n : List ℕ) → manner_of x ≡ posts n
      → (k.is_spoken n ≡ false) × AllByRecursion (λ y. IsOfOther n (manner_of y.1)) pre
  posts_new = posts_before threads k t x pre post ordered

  -- WHAT IS LEFT IS ORDERED, behind the news of it
  pub ordered_without : MayBeFirst k (manner_of x)
      → is_ordered threads (news_after t (manner_of x) k) (pre ++ post) ≡ true
  ordered_without may = without threads t x k pre post ordered first (go (manner_of x) refl may)
    where
      go : (m : Manner) → manner_of x ≡ m → MayBeFirst k m → MayPassAll m pre
      go (posts n) is may = (posts_new n is).1
      go (waits n) is may = spoken_before threads k n may pre ((t, x) ∷ post) ordered
      go apart is may = all_pass pre
      go collects is may = (acts_first (ap is_acting is)).0
      go acts is may = (acts_first (ap is_acting is)).0

  -- while a thread collects each other has a command to come
  pub others_come : manner_of x ≡ collects → (u : ℕ) → u < threads → (u ≡ t → ⊥) → done_by (pre ++ post) u ≡ [] → ⊥
  others_come is u below other none =
      let at = ordered_behind threads k pre ((t, x) ∷ post) ordered in
      let j = at.0 in
      let may = (and_parts (may_come threads t (manner_of x) j post) _ at.1).0 in
      let each = (and_parts (j.is_known_to t) _ (subst (λ m. may_come threads t m j post ≡ true) is may)).1 in
      not_both (hears u (news_of t j) post) (each_hears_at threads (news_of t j) post u each below)
      (never_hears u (news_of t j) post (none_last (done_by pre u) (done_by post u)
      (sym (done_append pre post u) ∙ none)) (ne_eqb u t other))

-- a thread's first command in a row
pub record First (row : CommandRow) (t : ℕ) (x : Command) (xs : List Command) : Type 0 where
  pub pre : CommandRow
  pub post : CommandRow
  pub is : row ≡ pre ++ (t, x) ∷ post
  pub none : done_by pre t ≡ []
  pub rest : done_by (pre ++ post) t ≡ xs
  pub others : (u : ℕ) → (u ≡ t → ⊥) → done_by (pre ++ post) u ≡ done_by row u

pub first_of : (row : CommandRow) (t : ℕ) (x : Command) (xs : List Command) → done_by row t ≡ x ∷ xs → First row t x xs
first_of [] t x xs e = absurd cc
first_of (y ∷ row) t x xs e = go (y.0 == t) refl e (first_of row t x xs)
  where
    same : (y.0 == t) ≡ true → y.1 ≡ x → y ≡ (t, x)
    same here is = ap (λ z. (z, y.1)) (eqb-true y.0 t here) ∙ ap (λ z. (t, z)) is

    go : (b : Bool) → (y.0 == t) ≡ b → cond b (y.1 ∷ done_by row t) (done_by row t) ≡ x ∷ xs
        → (done_by row t ≡ x ∷ xs → First row t x xs) → First (y ∷ row) t x xs
    go true here e more = record {
      pre = [];
      post = row;
      is = ap (λ z. z ∷ row) (same here (ap (λ l. get_or l 0 x) e));
      none = refl;
      rest = ap (drop 1) e;
      others = λ u other. sym (done_elsewhere u y row (ne_eqb y.0 u (λ is. other (sym is ∙ eqb-true y.0 t here))));
    }
    go false there e more = let r = more e in record {
      pre = y ∷ r.pre;
      post = r.post;
      is = ap (λ l. y ∷ l) r.is;
      none = done_elsewhere t y r.pre there ∙ r.none;
      rest = done_elsewhere t y (r.pre ++ r.post) there ∙ r.rest;
      others = λ u other. ap (λ l. cond (y.0 == u) (y.1 ∷ l) l) (r.others u other);
    }

-- in two ways at the first of two places
same_place : (p q p' q' : CommandRow) (a b : ℕ × Command) → p ++ a ∷ p' ≡ q ++ b ∷ q' → AreQuiet p → AreQuiet q
    → is_acting (manner_of a.1) ≡ true → is_acting (manner_of b.1) ≡ true → a.0 ≡ b.0
same_place [] [] p' q' a b e f g h i = ap (λ l. (get_or l 0 a).0) e
same_place [] (c ∷ q) p' q' a b e f g h i = absurd (not_both (is_acting (manner_of c.1))
    (sym (ap (λ l. is_acting (manner_of (get_or l 0 a).1)) e) ∙ h) g.0)
same_place (c ∷ p) [] p' q' a b e f g h i = absurd (not_both (is_acting (manner_of c.1))
    (ap (λ l. is_acting (manner_of (get_or l 0 a).1)) e ∙ i) f.0)
same_place (c ∷ p) (d ∷ q) p' q' a b e f g h i = same_place p q p' q' a b (ap (drop 1) e) f.1 g.1 h i

-- two threads' first commands don't both take steps
pub one_acts : (threads : ℕ) (k : News) (row : CommandRow) → is_ordered threads k row ≡ true → (t u : ℕ) (x y : Command)
    (xs ys : List Command) → done_by row t ≡ x ∷ xs → done_by row u ≡ y ∷ ys → (t ≡ u → ⊥)
    → is_acting (manner_of x) ≡ true → is_acting (manner_of y) ≡ true → ⊥
one_acts threads k row ordered t u x y xs ys mine yours other acting too =
    let f = first_of row t x xs mine in
    let g = first_of row u y ys yours in
    let quiet = (acts_first threads k t x f.pre f.post (subst (λ r. is_ordered threads k r ≡ true) f.is ordered) f.none
    acting).0 in
    let still = (acts_first threads k u y g.pre g.post (subst (λ r. is_ordered threads k r ≡ true) g.is ordered) g.none
    too).0 in
    other (same_place f.pre g.pre f.post g.post (t, x) (u, y) (sym f.is ∙ g.is) quiet still acting too)

-- what is said of each command of a row is said of what is left
pub all_without : (Q : (ℕ × Command) → Type 0) (pre post : CommandRow) (y : ℕ × Command)
    → AllByRecursion Q (pre ++ y ∷ post) → AllByRecursion Q (pre ++ post)
all_without Q [] post y all = all.1
all_without Q (z ∷ pre) post y all = (all.0, all_without Q pre post y all.1)
