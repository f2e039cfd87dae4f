-- WORDS THAT A THREAD ALONE POSTS AND HEARS: under a name under which it has none, none is on the board.
use Rattle.std.proofs.Common.{◌≡◌, ◌++◌, ℕ, Bool, true, false, cond, Option, Some, None, is_some, Result, Ok, List, []}
use Rattle.std.proofs.Common.{◌∷◌, refl, sym, ap, ◌∙◌, ◌⊎◌, inl, inr}
use Rattle.std.specs.Str.{bytes_eq}
use Rattle.std.proofs.lemmas.Slice.Eq.{bytes_eq-Decides}
use Rattle.jr_word.specs.declared.fault.Fault.{Fault}
use Rattle.jr_world.specs.Board.{word_under}
use Rattle.jr_syntax.specs.declared.command.Command.{Command}
use Rattle.jr_syntax.specs.declared.command.Command.TheVariants as commands
use Rattle.jr_syntax.specs.declared.verb.Make.TheVariants as make
use Rattle.jr_scripts.specs.declared.reply.Reply.{Reply}
use Rattle.jr_scripts.specs.declared.reply.Reply.TheVariants as replies
use Rattle.jr_scripts.specs.Names.{Names}
use Rattle.jr_scripts.specs.Posting.{ThreadWords, words_after, words_with}

abbrev pub AreOwn : ThreadWords → List (List ℕ × ℕ) → Type 0
AreOwn words board = (n : List ℕ) → word_under words n ≡ None → word_under board n ≡ None

-- WORDS OF TWO LISTS, one behind the other: the first under a name counts
abbrev pub or_else : Option ℕ → Option ℕ → Option ℕ
or_else None y = y
or_else (Some v) y = Some v

pub under_both : (xs ys : List (List ℕ × ℕ)) (n : List ℕ)
    → word_under (xs ++ ys) n ≡ or_else (word_under xs n) (word_under ys n)
under_both [] ys n = refl
under_both (x ∷ xs) ys n = ap (cond (bytes_eq n x.0) (Some x.1)) (under_both xs ys n) ∙ go (bytes_eq n x.0)
  where
    go : (b : Bool) → cond b (Some x.1) (or_else (word_under xs n) (word_under ys n))
        ≡ or_else (cond b (Some x.1) (word_under xs n)) (word_under ys n)
    go true = refl
    go false = refl

-- a word more is under its name
pub under_one_more : (words : List (List ℕ × ℕ)) (n m : List ℕ) (w v : ℕ)
    → word_under (words ++ (n, w) ∷ []) m ≡ Some v → (word_under words m ≡ Some v) ⊎ (m ≡ n)
under_one_more words n m w v is =
    go (word_under words m) (bytes_eq m n) refl (sym (under_both words ((n, w) ∷ []) m) ∙ is)
  where
    go : (o : Option ℕ) (b : Bool) → bytes_eq m n ≡ b → or_else o (cond b (Some w) None) ≡ Some v
        → (o ≡ Some v) ⊎ (m ≡ n)
    go (Some x) b same is = inl is
    go None true same is = inr ((bytes_eq-Decides m n).0 same)
    go None false same is = absurd cc

pub under_words_with : (words : ThreadWords) (n m : List ℕ) (w v : ℕ) → word_under (words_with words n w) m ≡ Some v
    → (word_under words m ≡ Some v) ⊎ (m ≡ n)
under_words_with words n m w v is = go (is_some (word_under words n)) is
  where
    go : (b : Bool) → word_under (cond b words (words ++ (n, w) ∷ [])) m ≡ Some v
        → (word_under words m ≡ Some v) ⊎ (m ≡ n)
    go true is = inl is
    go false is = under_one_more words n m w v is

neither : (x y : Option ℕ) → or_else x y ≡ None → (x ≡ None) × (y ≡ None)
neither None y none = (refl, none)
neither (Some v) y none = absurd cc

none_in_either : (xs ys : List (List ℕ × ℕ)) (n : List ℕ) → word_under (xs ++ ys) n ≡ None
    → (word_under xs n ≡ None) × (word_under ys n ≡ None)
none_in_either xs ys n none = neither (word_under xs n) (word_under ys n) (sym (under_both xs ys n) ∙ none)

-- A WORD MORE of the thread leaves it so
none_less : (words : ThreadWords) (n : List ℕ) (w : ℕ) (m : List ℕ) → word_under (words_with words n w) m ≡ None
    → word_under words m ≡ None
none_less words n w m none = go (is_some (word_under words n)) none
  where
    go : (b : Bool) → word_under (cond b words (words ++ (n, w) ∷ [])) m ≡ None → word_under words m ≡ None
    go true none = none
    go false none = (none_in_either words ((n, w) ∷ []) m none).0

pub own_after : (names : Names) (x : Command) (answer : Result Reply Fault) (words : ThreadWords)
    (board : List (List ℕ × ℕ)) → AreOwn words board → AreOwn (words_after names x answer words) board
own_after names (commands.OnName v n) answer words board own m none = own m (none_less words n _ m none)
own_after names (commands.Make make.Wait n) (Ok (replies.Made (Some h))) words board own m none =
    own m (none_less words n h.0 m none)
own_after names _ _ words board own m none = own m none

-- .. and so does the word that it posts
pub own_posted : (words : ThreadWords) (board : List (List ℕ × ℕ)) (n : List ℕ) (w : ℕ) → AreOwn words board
    → AreOwn (words_with words n w) (board ++ (n, w) ∷ [])
own_posted words board n w own m none =
    under_both board ((n, w) ∷ []) m ∙ ap (λ o. or_else o (word_under ((n, w) ∷ []) m))
    (own m (none_less words n w m none)) ∙ go (word_under words n) refl none
  where
    apart : (b : Bool) → bytes_eq m n ≡ b → word_under words m ≡ None → is_some (word_under words n) ≡ true
        → cond b (Some w) None ≡ None
    apart false is none stands = refl
    apart true is none stands =
        let same = ap (word_under words) ((bytes_eq-Decides m n).0 is) in
        let bad = sym stands ∙ ap is_some (sym same ∙ none) in absurd cc

    go : (o : Option ℕ) → word_under words n ≡ o
        → word_under (cond (is_some o) words (words ++ (n, w) ∷ [])) m ≡ None → word_under ((n, w) ∷ []) m ≡ None
    go None is none = (none_in_either words ((n, w) ∷ []) m none).1
    go (Some v) is none = apart (bytes_eq m n) refl none (ap is_some is)
