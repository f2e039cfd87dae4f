-- How a sweep goes on: place by place, where at the most one thing is taken.
use Rattle.std.proofs.Common.{option_map, option_to_list, ◌≡◌, ◌+◌, ◌<◌, ◌≤◌, ℕ, Bool, false, Option, Some, None}
use Rattle.std.proofs.Common.{List, [], ◌∷◌, ◌++◌, length, map, slice_set, Contains, refl, sym, ap, subst, ◌∙◌, arith}
use Rattle.std.specs.List.{AllByRecursion, IsDistinct}
use Rattle.std.proofs.lemmas.List.{append-nil, map-append, length-append, length-map}
use Rattle.std.proofs.lemmas.List.Elements.{Contains-push, Contains-append_left}
use mathlib.Core.Logic.{dite, ∥∥₁_map}
use native.Mathlib.Decide.{ℕ_discrete}
use Rattle.jr_model.specs.declared.event.Act.{Act}
use Rattle.jr_model.specs.History.{Did}
use Rattle.jr_model.proofs.Stays.{did_nothing, did_then}
use Rattle.jr_steps.specs.declared.known.Known.{Known}
use Rattle.jr_steps.specs.Knowing.{Facts, AreOf, MayKnow, Went, view}
use Rattle.jr_compact.specs.Counting.{TakesWithin}
use Rattle.jr_weak.specs.Listing.{over_front}
use Rattle.jr_weak.specs.Sweeping.{Sweeps}
use Rattle.jr_weak.proofs.OverFront.{over_more, over_none}

all_more : {X : Type 0} (P : X → Type 0) (xs : List X) (x : X) → AllByRecursion P xs → P x
    → AllByRecursion P (xs ++ x ∷ [])
all_more P [] x a p = (p, tt)
all_more P (y ∷ xs) x a p = (a.0, all_more P xs x a.1 p)

all_weaker : {X : Type 0} (P Q : X → Type 0) (xs : List X) → ((x : X) → P x → Q x) → AllByRecursion P xs
    → AllByRecursion Q xs
all_weaker P Q [] f a = tt
all_weaker P Q (y ∷ xs) f a = (f y a.0, all_weaker P Q xs f a.1)

distinct_more : {X : Type 0} (same : X → X → Bool) (xs : List X) (x : X) → IsDistinct same xs
    → AllByRecursion (λ y. same y x ≡ false) xs → IsDistinct same (xs ++ x ∷ [])
unfolding IsDistinct
distinct_more same [] x d a = (tt, tt)
distinct_more same (y ∷ xs) x d a = (all_more (λ z. same y z ≡ false) xs x d.0 a.0, distinct_more same xs x d.1 a.1)

distinct_none : {X : Type 0} (same : X → X → Bool) → IsDistinct same []
unfolding IsDistinct
distinct_none same = tt

-- WHAT WAS TAKEN of the first n places, where a thing is at a place from 1 on:
-- exactly what was to be, each once
pub record TakenTo {X : Type 0} (at : X → ℕ) (same : X → X → Bool) (IsTo : X → Type 0) (n : ℕ)
    (taken : List X) : Type 0 where
  pub all : (x : X) → 1 ≤ at x → at x ≤ n → IsTo x → Contains taken x
  pub only : AllByRecursion IsTo taken
  pub low : AllByRecursion (λ x. at x ≤ n) taken
  pub once : IsDistinct same taken

pub taken_none : {X : Type 0} {at : X → ℕ} {same : X → X → Bool} {IsTo : X → Type 0} → TakenTo at same IsTo 0 []
taken_none {same = same} =
    record { all = λ x low high. absurd (omega arith); only = tt; low = tt; once = distinct_none same }

-- one place more
pub taken_next : {X : Type 0} {at : X → ℕ} {same : X → X → Bool} {IsTo : X → Type 0} {n : ℕ} {taken : List X}
    → ((x y : X) → at x < at y → same x y ≡ false) → (one : Option X) → TakenTo at same IsTo n taken
    → ((x : X) → at x ≡ n + 1 → IsTo x → one ≡ Some x) → ((x : X) → one ≡ Some x → IsTo x × (at x ≡ n + 1))
    → TakenTo at same IsTo (n + 1) (taken ++ option_to_list one)
taken_next {at = at} {same = same} {IsTo = IsTo} {n = n} {taken = taken} apart None was all only =
    subst (TakenTo at same IsTo (n + 1)) (sym (append-nil taken)) (record {
      all = λ x low high to. dite (ℕ_discrete (at x) (n + 1)) (λ e. absurd (let bad = all x e to in cc))
          (λ ne. was.all x low (omega arith) to);
      only = was.only;
      low = all_weaker (λ x. at x ≤ n) (λ x. at x ≤ n + 1) taken (λ x l. omega arith) was.low;
      once = was.once;
    })
taken_next {at = at} {same = same} {IsTo = IsTo} {n = n} {taken = taken} apart (Some g) was all only =
    let here = only g refl in
    let place = here.1 in
    record {
      all = λ x low high to. dite (ℕ_discrete (at x) (n + 1))
          (λ e. subst (Contains (taken ++ g ∷ [])) (let is = all x e to in cc) (Contains-push taken g))
          (λ ne. Contains-append_left taken (g ∷ []) x (was.all x low (omega arith) to));
      only = all_more IsTo taken g was.only here.0;
      low = all_more (λ x. at x ≤ n + 1) taken g
          (all_weaker (λ x. at x ≤ n) (λ x. at x ≤ n + 1) taken (λ x l. omega arith) was.low) (omega arith);
      once = distinct_more same taken g was.once
          (all_weaker (λ x. at x ≤ n) (λ x. same x g ≡ false) taken (λ x l. apart x g (omega arith)) was.low);
    }

-- the buffer, with one thing more where one was told
abbrev pub told_at : {Y : Type 0} → List Y → ℕ → Option Y → List Y
told_at buffer n None = buffer
told_at buffer n (Some y) = slice_set buffer n y

-- what is listed of one thing more
told_more : {X Y : Type 0} (tell : X → Y) (buffer buffer' : List Y) (taken : List X) (n : ℕ) (one : Option X)
    → length taken ≡ n → buffer' ≡ over_front buffer (map tell taken)
    → told_at buffer' n (option_map tell one) ≡ over_front buffer (map tell (taken ++ option_to_list one))
told_more tell buffer buffer' taken n None long is =
    is ∙ ap (λ xs. over_front buffer (map tell xs)) (sym (append-nil taken))
told_more tell buffer buffer' taken n (Some x) long is =
    ap (λ b. slice_set b n (tell x)) is
    ∙ (ap (λ m. slice_set (over_front buffer (map tell taken)) m (tell x)) (sym (length-map taken tell ∙ long))
    ∙ (sym (over_more buffer (map tell taken) (tell x))
    ∙ ap (over_front buffer) (sym (map-append tell taken (x ∷ [])))))

long : {X Y : Type 0} (tell : X → Y) (one : Option X)
    → length (option_to_list one) ≡ length (option_to_list (option_map tell one))
long tell None = refl
long tell (Some x) = refl

-- THE FIRST PLACES ARE SWEPT, by two steps each at the most, and so many things were taken, and listed
pub record SweepsTo {X Y S : Type 0} (facts : S → Facts) (act : X → Act) (tell : X → Y) (met : Known → Type 0)
    (past : ℕ → List X → Known → Known → Type 0) (i : ℕ) (old new : S) (count : ℕ) (buffer buffer' : List Y)
    : Type 0 where
  pub taken : List X
  pub counted : length taken ≡ count
  pub listed_are : buffer' ≡ over_front buffer (map tell taken)
  pub went : Went facts old new (facts old).stands met
      (λ j k. Did (view j) (view k) (map act taken) × TakesWithin (i + i) j k) (past i taken)

module _ {X Y S : Type 0} {facts : S → Facts} {act : X → Act} {tell : X → Y} {met : Known → Type 0}
    {past : ℕ → List X → Known → Known → Type 0} where
  pub sweeps_none : AreOf facts → ((k : Known) → met k → past 0 [] k k) → (a : S) (buffer : List Y)
      → SweepsTo facts act tell met past 0 a a 0 buffer buffer
  sweeps_none fits begins a buffer = record {
    taken = [];
    counted = refl;
    listed_are = sym (over_none buffer);
    went = record {
      stands_is = refl;
      hint_is = refl;
      leads = λ k s m. (k, s, (did_nothing (view k) (fits a k s).legal, omega arith), begins k m);
    };
  }

  pub sweeps_may : {a b : S} {i n : ℕ} {buffer buffer' : List Y} (can : Known → Type 0)
      → ((l : List X) (j k : Known) → past i l j k → can k) → MayKnow facts a met
      → SweepsTo facts act tell met past i a b n buffer buffer' → MayKnow facts b can
  sweeps_may can gives may p = ∥∥₁_map may (λ k. let x = p.went.leads k.0 k.1 k.2 in
      (x.0, x.1, gives p.taken k.0 x.0 x.3))

  -- one place more
  pub sweeps_next : {can : Known → Type 0} {shows : Option X → Known → Known → Type 0} {a b c : S} {n : ℕ}
      {buffer buffer' : List Y} (i : ℕ) (told : Option Y) → ((l : List X) (j k : Known) → past i l j k → can k)
      → ((l : List X) (one : Option X) (j k k' : Known) → met j → past i l j k → shows one k k'
      → past (i + 1) (l ++ option_to_list one) j k')
      → SweepsTo facts act tell met past i a b n buffer buffer' → Sweeps facts act tell can shows b c told
      → SweepsTo facts act tell met past (i + 1) a c (n + length (option_to_list told)) buffer (told_at buffer' n told)
  sweeps_next {n = n} {buffer = buffer} {buffer' = buffer'} i told gives turn p q = record {
    taken = p.taken ++ option_to_list q.taken;
    counted = length-append p.taken (option_to_list q.taken)
        ∙ (ap (λ m. m + length (option_to_list q.taken)) p.counted
        ∙ ap (λ m. n + m) (long tell q.taken ∙ ap (λ (z : Option Y). length (option_to_list z)) q.told_is));
    listed_are = ap (told_at buffer' n) (sym q.told_is)
        ∙ told_more tell buffer buffer' p.taken n q.taken p.counted p.listed_are;
    went = record {
      stands_is = q.went.stands_is ∙ p.went.stands_is;
      hint_is = q.went.hint_is ∙ p.went.hint_is;
      leads = λ k s m.
          let x = p.went.leads k s m in
          let y = q.went.leads x.0 x.1 (gives p.taken k x.0 x.3) in (
            y.0,
            y.1,
            (
              subst (Did (view k) (view y.0)) (sym (map-append act p.taken (option_to_list q.taken)))
                  (did_then (map act p.taken) (map act (option_to_list q.taken)) x.2.0 y.2.0),
              let some = x.2.1 in let two = y.2.1 in omega arith,
            ),
            turn p.taken q.taken k x.0 y.0 m x.3 y.3,
          );
    };
  }
