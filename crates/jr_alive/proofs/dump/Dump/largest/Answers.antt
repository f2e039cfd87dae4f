use Rattle.std.proofs.Common.{◌≡◌, ◌<◌, ◌-◌, ℕ, length, slice_index_or, vec_len, subst, rules, arith}
use Rattle.std.proofs.lemmas.List.Sorted.{IsNonDecreasingBy-from_sort_by_key, IsPermutation-trans}
use Rattle.std.specs.List.Sorted.{IsPermutation}
use Rattle.jr_alive.specs.Groups.{noted_size}
use Rattle.jr_alive.proofs.Falling.{falls_reversed}
use Rattle.jr_alive.proofs.dump.Dump.largest.Goals as goal

pub returns : goal.returns
returns c =
    let d = c.args.self.now in
    let sorted = c.sort_unstable_by_key.new.self in
    let all = c.reverse.new.self in
    let long : length all.items ≡ length sorted.items =
    let a = all.ok.0 in let s = sorted.ok.0 in let l = c.reverse.ensures.len in omega arith in
    let same : vec_len sorted ≡ length sorted.items = let s = sorted.ok.0 in omega arith in
    record {
      all = all.items;
      each = IsPermutation-trans _ _ _ (subst (λ xs. IsPermutation xs sorted.items) c.in_ok-numbers.ensures
          c.sort_unstable_by_key.ensures.permutation) c.reverse.ensures.permutation;
      falls = falls_reversed (noted_size d) sorted.items all.items
          (IsNonDecreasingBy-from_sort_by_key (noted_size d) _ c.sort_unstable_by_key.ensures.sorted
          (λ a r q k. search rules))
          long (subst (λ n. (k d : ℕ) → k < n
          → slice_index_or all.items k d ≡ slice_index_or sorted.items (n - 1 - k) d) same c.reverse.ensures.by_index);
      first = c.truncate.ensures.items;
    }
