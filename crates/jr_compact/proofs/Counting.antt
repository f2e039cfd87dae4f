-- Steps without an act, one after the other, and how many they are.
use Rattle.std.proofs.Common.{◌≡◌, ◌≤◌, ◌+◌, ℕ, [], ◌++◌, refl, sym, ap, subst, ◌∙◌, append_assoc, arith}
use Rattle.std.proofs.lemmas.List.{append-nil}
use Rattle.jr_word.specs.declared.config.Config.{Config}
use Rattle.jr_model.specs.History.{IsLegal, mine}
use Rattle.jr_model.proofs.Histories.{mine_append}
use Rattle.jr_steps.specs.declared.known.Known.{Known}
use Rattle.jr_steps.specs.Knowing.{Facts, Goes, Sees}
use Rattle.jr_steps.proofs.CollectorFacts.{goes_sees, sees_more}
use Rattle.jr_compact.specs.Counting.{SawWithin, SeesWithin}

sees_then : {k k' k'' : Known} → Sees k k' → Sees k' k'' → Sees k k''
sees_then {k} {k'} {k''} a b = record {
  config = b.config ∙ a.config;
  last = b.last ∙ a.last;
  thread = b.thread ∙ a.thread;
  between = a.between ++ b.between;
  seen = b.seen ∙ (ap (λ es. es ++ b.between) a.seen ∙ append_assoc k.seen a.between b.between);
  others = mine_append a.between b.between k.thread
      ∙ (ap (λ l. l ++ mine b.between k.thread) a.others ∙ subst (λ t. mine b.between t ≡ []) a.thread b.others);
  legal = subst (λ (z : Config × ℕ). IsLegal z.0 z.1 k''.seen) (λ i. (a.config i, a.last i)) b.legal;
}

-- none
pub within_none : (k : Known) → IsLegal k.config k.last k.seen → SeesWithin 0 k k
within_none k l = record {
  sees = record {
    config = refl;
    last = refl;
    thread = refl;
    between = [];
    seen = sym (append-nil k.seen);
    others = refl;
    legal = l;
  };
  within = omega arith;
}

-- one
pub within_one : {k k' : Known} → Goes k [] k' → SeesWithin 1 k k'
within_one g = let one = g.taken in record { sees = goes_sees g; within = omega arith }

-- and one more
pub within_more : {k k' k'' : Known} {m : ℕ} → SeesWithin m k k' → Goes k' [] k'' → SeesWithin (m + 1) k k''
within_more a g = let some = a.within in let one = g.taken in record { sees = sees_more a.sees g; within = omega arith }

-- and more
pub within_then : {k k' k'' : Known} {m n : ℕ} → SeesWithin m k k' → SeesWithin n k' k'' → SeesWithin (m + n) k k''
within_then a b = let some = a.within in let more = b.within in
    record { sees = sees_then a.sees b.sees; within = omega arith }

-- of at most so many there are no more than a greater number
pub within_most : {k k' : Known} {m : ℕ} (n : ℕ) → m ≤ n → SeesWithin m k k' → SeesWithin n k k'
within_most n few a = let some = a.within in record { sees = a.sees; within = omega arith }

module _ {S : Type 0} {facts : S → Facts} {a b : S} {met : Known → Type 0} {shows : Known → Known → Type 0} where
  -- or a greater number, as what was known says
  pub saw_most : {m : Known → ℕ} (n : Known → ℕ) → ((k : Known) → m k ≤ n k) → SawWithin facts m a b met shows
      → SawWithin facts n a b met shows
  saw_most n few p = record {
    stands_is = p.stands_is;
    hint_is = p.hint_is;
    leads = λ k s h. let x = p.leads k s h in (x.0, x.1, within_most (n k) (few k) x.2, x.3);
  }
