-- The links of a new ring of all numbers.
use Rattle.std.proofs.Common.{◌≡◌, ◌≢◌, ◌==◌, ◌+◌, ◌-◌, ◌^◌, ◌<◌, ◌≤◌, ⊎_elim, ℕ, zero, suc, if◌then◌else◌, List}
use Rattle.std.proofs.Common.{[], ◌∷◌, ◌++◌, length, slice_index_or, refl, sym, ap, subst, ◌∙◌, arith}
use Rattle.std.proofs.lemmas.List.{length-append, get_or_append_left}
use Rattle.std.proofs.lemmas.Bool.{cases_lt}
use Rattle.std.proofs.Math.Seq.{get_or-append_seam}
use Rattle.linked_lists.specs.Lists.{count_up, times}
use Rattle.linked_lists.specs.declared.links.Link.{Link}
use Rattle.linked_lists.specs.Links.{next_at, previous_at, no_link, AreShown, Follow}
use Rattle.linked_lists.proofs.Times.{pick_other, times_append, times_here, times_there}

pub length_up : (k m : ℕ) → length (count_up k m) ≡ m
length_up k zero = refl
length_up k (suc m) = ap suc (length_up (suc k) m)

times_under : (q k m : ℕ) → q < k → times q (count_up k m) ≡ 0
times_under q k zero l = refl
times_under q k (suc m) l =
    times_there q k (count_up (suc k) m) (λ e. absurd (omega arith)) ∙ times_under q (suc k) m (omega arith)

pub times_over : (q k m : ℕ) → k + m ≤ q → times q (count_up k m) ≡ 0
times_over q k zero l = refl
times_over q k (suc m) l =
    times_there q k (count_up (suc k) m) (λ e. absurd (omega arith)) ∙ times_over q (suc k) m (omega arith)

pub times_among : (q k m : ℕ) → k ≤ q → q < k + m → times q (count_up k m) ≡ 1
times_among q k zero l h = absurd (omega arith)
times_among q k (suc m) l h = ⊎_elim
    (λ (less : k < q). times_there q k (count_up (suc k) m) (λ e. absurd (omega arith))
    ∙ times_among q (suc k) m (omega arith) (omega arith))
    (λ (more : q ≤ k). let same : k ≡ q = omega arith in
    subst (λ j. times q (j ∷ count_up (suc k) m) ≡ 1) (sym same)
    (omega (arith, times_here q (count_up (suc k) m), times_under q (suc k) m (omega arith))))
    (cases_lt k q)

abbrev pub link : ℕ → ℕ → Link
link previous next = record { previous = previous; next = next }

-- the number before, round a ring up to the last
abbrev pub before_of : ℕ → ℕ → ℕ
before_of q last = if q == 0 then last else q - 1

-- the links of the first numbers, all in one ring
pub record AreFirst (numbers n : ℕ) (links : List Link) : Type 0 where
  pub size : length links ≡ n
  pub each : (q : ℕ) → q < n → slice_index_or links q no_link ≡ link (before_of q numbers) (q + 1)

module _ (old new : List Link) (x : Link) (more : new ≡ old ++ x ∷ []) where
  read_before : (q : ℕ) → q < length old → slice_index_or new q no_link ≡ slice_index_or old q no_link
  read_before q l = ap (λ ls. slice_index_or ls q no_link) more ∙ get_or_append_left old (x ∷ []) no_link q l

  read_last : (n : ℕ) → length old ≡ n → slice_index_or new n no_link ≡ x
  read_last n e = ap (λ ls. slice_index_or ls n no_link) more
      ∙ subst (λ k. slice_index_or (old ++ x ∷ []) k no_link ≡ x) e (get_or-append_seam old x [] no_link)

  longer : length new ≡ length old + 1
  longer = ap length more ∙ length-append old (x ∷ [])

pub one_more : (numbers n : ℕ) (old new : List Link) (x : Link) → AreFirst numbers n old → new ≡ old ++ x ∷ []
    → x ≡ link (before_of n numbers) (n + 1) → AreFirst numbers (n + 1) new
one_more numbers n old new x first more is = record {
  size = omega (arith, longer _ _ _ more, first.size);
  each = λ q l. ⊎_elim
      (λ (m : q < n). read_before _ _ _ more q (omega (arith, first.size)) ∙ first.each q m)
      (λ (m : n ≤ q). let same : n ≡ q = omega arith in
      subst (λ k. slice_index_or new k no_link ≡ link (before_of k numbers) (k + 1)) same
      (read_last _ _ _ more n first.size ∙ is))
      (cases_lt q n);
}

module _ (n : ℕ) (first links : List Link) (x : Link) (are : AreFirst n n first) (more : links ≡ first ++ x ∷ [])
    (closes : x ≡ link (before_of n n) 0) where
  next_is : (q : ℕ) → q < n → next_at links q ≡ q + 1
  next_is q l =
      ap (λ (z : Link). z.next) (read_before _ _ _ more q (omega (arith, are.size)) ∙ are.each q l)

  previous_is : (q : ℕ) → q ≤ n → previous_at links q ≡ before_of q n
  previous_is q l = ⊎_elim
      (λ (m : q < n). ap (λ (z : Link). z.previous) (read_before _ _ _ more q (omega (arith, are.size)) ∙ are.each q m))
      (λ (m : n ≤ q). let same : n ≡ q = omega arith in
      subst (λ k. previous_at links k ≡ before_of k n) same
      (ap (λ (z : Link). z.previous) (read_last _ _ _ more n are.size ∙ closes)))
      (cases_lt q n)

  back_one : (q : ℕ) → q ≤ n → q ≢ 0 → previous_at links q ≡ q - 1
  back_one q l some = previous_is q l ∙ pick_other q 0 n (q - 1) some

  follow_up : (k m : ℕ) → suc k + m ≡ n → Follow links k (count_up (suc k) m ++ n ∷ [])
  follow_up k zero e = (
    omega (arith, next_is k (omega arith)),
    omega (arith, back_one n (omega arith) (λ z. absurd (omega arith))),
    tt,
  )
  follow_up k (suc m) e = (
    omega (arith, next_is k (omega arith)),
    omega (arith, back_one (suc k) (omega arith) (λ z. absurd (omega arith))),
    follow_up (suc k) m (omega arith),
  )

  closed : next_at links n ≡ 0
  closed = ap (λ (z : Link). z.next) (read_last _ _ _ more n are.size ∙ closes)

  -- all numbers in order
  follow_all : (m : ℕ) → m ≡ n → Follow links n (count_up 0 m ++ n ∷ [])
  follow_all zero e =
      let back : previous_at links n ≡ n = subst (λ k. previous_at links k ≡ n) e (previous_is 0 (omega arith)) in
      (closed ∙ e, back, tt)
  follow_all (suc m) e = (closed, previous_is 0 (omega arith), follow_up 0 m (omega arith))

  one_of : (q : ℕ) → times q (count_up 0 n) ≤ 1
  one_of q = ⊎_elim (λ (l : q < n). omega (arith, times_among q 0 n (omega arith) (omega arith)))
      (λ (g : n ≤ q). omega (arith, times_over q 0 n (omega arith))) (cases_lt q n)

  pub fresh_shown : (most : ℕ) → n < most → most ≤ 2 ^ 16
      → AreShown most links (record { numbers = n; free = count_up 0 n; lists = [] })
  fresh_shown most room small =
      let size : length links ≡ n + 1 = omega (arith, longer _ _ _ more, are.size) in
      record {
        size = omega arith;
        fits = omega arith;
        small = small;
        rings = (follow_all n refl, tt);
        once = λ q. omega (arith, times_append q (count_up 0 n) [], one_of q);
        below = λ q g. omega (arith, times_append q (count_up 0 n) [], times_over q 0 n (omega arith));
      }
