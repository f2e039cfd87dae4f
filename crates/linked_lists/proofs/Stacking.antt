-- An empty list is added to those that links show, or taken away.
use Rattle.std.proofs.Common.{◌≡◌, ◌+◌, ◌-◌, ◌<◌, ◌≤◌, ℕ, suc, List, [], ◌∷◌, ◌++◌, length, slice_index_or, take}
use Rattle.std.proofs.Common.{refl, sym, ap, ◌∙◌, arith}
use Rattle.std.proofs.lemmas.List.{length-append, length-take-le, get_or_append_left, get_or-take}
use Rattle.std.proofs.Math.Seq.{get_or-append_seam}
use Rattle.std.specs.List.{concat}
use Rattle.linked_lists.specs.Lists.{Lists, all_numbers, last_list, lists_before, times, with_lists}
use Rattle.linked_lists.specs.declared.links.Link.{Link}
use Rattle.linked_lists.specs.Links.{next_at, previous_at, no_link, AreRings, AreShown}
use Rattle.linked_lists.proofs.Times.{times_append}
use Rattle.linked_lists.proofs.LastList.{length_before, rings_before, times_parts}
use Rattle.linked_lists.proofs.Shown.{rings_below}

-- the link of an end whose ring is empty
abbrev pub closed_link : ℕ → Link
closed_link end = record { previous = end; next = end }

pub concat_push : (rs : List (List ℕ)) → concat (rs ++ [] ∷ []) ≡ concat rs
concat_push [] = refl
concat_push (x ∷ xs) = ap (λ l. x ++ l) (concat_push xs)

-- one more ring, of the next end
rings_push : (links : List Link) (end : ℕ) (rs : List (List ℕ)) → AreRings links end rs
    → next_at links (end + length rs) ≡ end + length rs → previous_at links (end + length rs) ≡ end + length rs
    → AreRings links end (rs ++ [] ∷ [])
rings_push links end [] r n o = (
  (
    ap (next_at links) (omega arith) ∙ n ∙ omega arith,
    ap (previous_at links) (omega arith) ∙ o
        ∙ omega arith,
    tt,
  ),
  tt,
)
rings_push links end (xs ∷ rest) r n o =
    let same : suc end + length rest ≡ end + length (xs ∷ rest) = omega arith in (
      r.0,
      rings_push links (suc end) rest r.1 (ap (next_at links) same ∙ n ∙ sym same)
          (ap (previous_at links) same ∙ o ∙ sym same),
    )

-- where as many numbers stand in the other lists, as many stand in all
same_times : (l : Lists) (rs : List (List ℕ)) → ((q : ℕ) → times q (concat rs) ≡ times q (concat l.lists)) → (q : ℕ)
    → times q (all_numbers (with_lists l rs)) ≡ times q (all_numbers l)
same_times l rs same q =
    omega (arith, times_append q l.free (concat rs), times_append q l.free (concat l.lists), same q)

module _ {most : ℕ} {old : List Link} {l : Lists} (shown : AreShown most old l) where
  module _ {new : List Link} (end : ℕ) (is : end ≡ length old) (more : new ≡ old ++ closed_link end ∷ []) where
    below_same : (q : ℕ) → q < length old
        → (next_at new q ≡ next_at old q) × (previous_at new q ≡ previous_at old q)
    below_same q low =
        let read = ap (λ ls. slice_index_or ls q no_link) more
        ∙ get_or_append_left old (closed_link end ∷ []) no_link q low in
        (ap (λ (x : Link). x.next) read, ap (λ (x : Link). x.previous) read)

    at_seam : (e : ℕ) → e ≡ length old → (next_at new e ≡ e) × (previous_at new e ≡ e)
    at_seam e here =
        let read = ap (λ ls. slice_index_or ls e no_link) more
        ∙ ap (λ i. slice_index_or (old ++ closed_link end ∷ []) i no_link) here
        ∙ get_or-append_seam old (closed_link end) [] no_link in
        let same : end ≡ e = is ∙ sym here in
        (ap (λ (x : Link). x.next) read ∙ same, ap (λ (x : Link). x.previous) read ∙ same)

    pub push_shown : l.numbers + 1 + length l.lists < most → AreShown most new (with_lists l (l.lists ++ [] ∷ []))
    push_shown room =
        let size = shown.size in
        let longer : length new ≡ length old + 1 = ap length more ∙ length-append old (closed_link end ∷ []) in
        let lists = length-append l.lists ([] ∷ []) in
        let seam = at_seam (l.numbers + length (l.free ∷ l.lists)) (omega arith) in
        let times_same = same_times l (l.lists ++ [] ∷ []) (λ q. ap (times q) (concat_push l.lists)) in
        record {
          size = omega arith;
          fits = omega arith;
          small = shown.small;
          rings = rings_push new l.numbers (l.free ∷ l.lists)
              (rings_below old l.numbers new (length old) l.numbers (l.free ∷ l.lists) below_same (omega arith)
              (omega arith) shown.below shown.rings) seam.0 seam.1;
          once = λ q. omega (arith, times_same q, shown.once q);
          below = λ q g. times_same q ∙ shown.below q g;
        }

  module _ {new : List Link} (less : new ≡ take (length old - 1) old) (some : 1 ≤ length l.lists)
      (empty : last_list l.lists ≡ []) where
    kept_same : (q : ℕ) → q < length old - 1
        → (next_at new q ≡ next_at old q) × (previous_at new q ≡ previous_at old q)
    kept_same q low =
        let read = ap (λ ls. slice_index_or ls q no_link) less ∙ get_or-take (length old - 1) old q no_link low in
        (ap (λ (x : Link). x.next) read, ap (λ (x : Link). x.previous) read)

    both : (rs : List (List ℕ)) → 1 ≤ length rs → AreRings old l.numbers (l.free ∷ rs)
        → AreRings old l.numbers (l.free ∷ lists_before rs)
    both [] n r = absurd (omega arith)
    both (x ∷ xs) n r = rings_before old l.numbers (l.free ∷ x ∷ xs) r

    pub pop_shown : AreShown most new (with_lists l (lists_before l.lists))
    pop_shown =
        let size = shown.size in
        let fits = shown.fits in
        let shorter : length new ≡ length old - 1 = ap length less
        ∙ length-take-le (length old - 1) old (omega arith) in
        let lists = length_before l.lists some in
        let times_same = same_times l (lists_before l.lists)
        (λ q. omega (arith, times_parts q l.lists, ap (times q) empty)) in
        record {
          size = omega arith;
          fits = omega arith;
          small = shown.small;
          rings = rings_below old l.numbers new (length old - 1) l.numbers (l.free ∷ lists_before l.lists) kept_same
              (omega arith) (omega arith) (λ q g. times_same q ∙ shown.below q g) (both l.lists some shown.rings);
          once = λ q. omega (arith, times_same q, shown.once q);
          below = λ q g. times_same q ∙ shown.below q g;
        }
