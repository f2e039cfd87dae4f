use Rattle.std.proofs.Common.{◌≡◌, ℕ, List, [], ◌∷◌, map, subst, rules}
use Rattle.std.proofs.lemmas.List.Sorted.{IsNonDecreasingBy-from_sort_by_key, IsPermutation-trans}
use Rattle.std.specs.List.Sorted.{IsPermutation}
use Rattle.jr_alive.specs.declared.groups.Group.{Group}
use Rattle.jr_census.specs.Printed.{all_kinds}
use Rattle.jr_alive.specs.Groups.{group_of}
use Rattle.jr_alive.proofs.Falling.{falls_reversed}
use Rattle.jr_alive.proofs.dump.Dump.groups.Goals as goal

pub returns-clause-each : goal.returns-clause-each
returns-clause-each c =
    let made : List Group = c.group.result ∷ c.group-2.result ∷ c.group-3.result ∷ c.group-4.result ∷ c.group-5.result
    ∷ c.group-6.result ∷ c.group-7.result ∷ c.group-8.result ∷ c.group-9.result ∷ [] in
    let same : made ≡ map (group_of c.args.self.now) all_kinds = cc in
    IsPermutation-trans _ _ _ (subst (λ xs. IsPermutation xs c.sort_unstable_by_key.new.self) same
    c.sort_unstable_by_key.ensures.permutation) c.reverse.ensures.permutation

pub returns-clause-largest : goal.returns-clause-largest
returns-clause-largest c =
    let words : Group → ℕ = λ g. g.words in
    falls_reversed words c.sort_unstable_by_key.new.self c.reverse.new.self
    (IsNonDecreasingBy-from_sort_by_key words _ c.sort_unstable_by_key.ensures.sorted (λ a r q k. search rules))
    c.reverse.ensures.len c.reverse.ensures.by_index
