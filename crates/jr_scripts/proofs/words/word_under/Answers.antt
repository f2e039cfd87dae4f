use Rattle.std.proofs.Common.{◌≡◌, ◌≤◌, length, refl, rules, true, false, ◌<◌, ◌+◌, ◌++◌, ◌∙◌, ℕ, suc, Bool}
use Rattle.std.proofs.Common.{cond, List, [], ◌∷◌, Some, None, take, drop, get_or, sym, ap}
use Rattle.std.specs.Str.{bytes_eq}
use Rattle.std.proofs.lemmas.List.{take-append-drop, take_all, take_more}
use Rattle.jr_world.specs.Board.{word_under}
use Rattle.jr_scripts.specs.Posting.{ThreadWords}
use Rattle.jr_scripts.proofs.JobLists.{one_left}
use Rattle.jr_scripts.proofs.words.word_under.Goals as goal

-- behind words of other names
past : (xs ys : ThreadWords) (n : List ℕ) → word_under xs n ≡ None → word_under (xs ++ ys) n ≡ word_under ys n
past [] ys n none = refl
past (x ∷ xs) ys n none = go (bytes_eq n x.0) refl (past xs ys n)
  where
    go : (b : Bool) → bytes_eq n x.0 ≡ b → (word_under xs n ≡ None → word_under (xs ++ ys) n ≡ word_under ys n)
        → word_under ((x ∷ xs) ++ ys) n ≡ word_under ys n
    go true is again = let bad = sym (ap (λ b. cond b (Some x.1) (word_under xs n)) is) ∙ none in absurd cc
    go false is again = ap (λ b. cond b (Some x.1) (word_under (xs ++ ys) n)) is
        ∙ again (sym (ap (λ b. cond b (Some x.1) (word_under xs n)) is) ∙ none)

module _ (words : ThreadWords) (i : ℕ) (x : List ℕ × ℕ) (n : List ℕ) where
  found_there : i < length words → x ≡ get_or words i x → word_under (take i words) n ≡ None → bytes_eq n x.0 ≡ true
      → Some x.1 ≡ word_under words n
  found_there some is none same =
      let parts : words ≡ take i words ++ (x ∷ drop (suc i) words) =
      sym (take-append-drop i words) ∙ ap (λ l. take i words ++ l) (one_left i words x some is) in
      sym (ap (λ l. word_under l n) parts ∙ (past (take i words) (x ∷ drop (suc i) words) n none
      ∙ ap (λ b. cond b (Some x.1) (word_under (drop (suc i) words) n)) same))

  none_more : i < length words → x ≡ get_or words i x → word_under (take i words) n ≡ None → bytes_eq n x.0 ≡ false
      → word_under (take (i + 1) words) n ≡ None
  none_more some is none other =
      ap (λ l. word_under l n) (take_more words i x some ∙ ap (λ y. take i words ++ y ∷ []) (sym is))
      ∙ (past (take i words) (x ∷ []) n none ∙ ap (λ b. cond b (Some x.1) None) other)

none_there : (words : ThreadWords) (i : ℕ) (n : List ℕ) → length words ≤ i → word_under (take i words) n ≡ None
    → None ≡ word_under words n
none_there words i n all none = sym (sym (ap (λ l. word_under l n) (take_all i words all)) ∙ none)

pub loop-entry-init : goal.loop-entry-init
loop-entry-init c = refl

pub loop-entry-preserved : goal.loop-entry-preserved
loop-entry-preserved c =
    let other : bytes_eq c.args.name.now c.entry-item.result.0 ≡ false = search rules in
    none_more c.args.words.now c.loop-entry.entry-index c.entry-item.result c.args.name.now c.loop-entry-test.true
    c.entry-item.is c.loop-entry.invariant other

pub returns-then-is : goal.returns-then-is
returns-then-is c =
    let same : bytes_eq c.args.name.now c.entry-item.result.0 ≡ true = search rules in
    found_there c.args.words.now c.loop-entry.entry-index c.entry-item.result c.args.name.now c.loop-entry-test.true
    c.entry-item.is c.loop-entry.invariant same

pub returns : goal.returns
returns c =
    let all : length c.args.words.now ≤ c.loop-entry.entry-index = search rules in
    none_there c.args.words.now c.loop-entry.entry-index c.args.name.now all c.loop-entry.invariant
