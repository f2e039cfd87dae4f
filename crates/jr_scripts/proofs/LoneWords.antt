-- A thread that nobody posts anything beside: what it hears, it posted before.
use Rattle.std.proofs.Common.{◌≡◌, ◌⊎◌, ◌<◌, ◌++◌, ◌∙◌, ℕ, Bool, true, false, cond, is_some, List, [], ◌∷◌}
use Rattle.std.proofs.Common.{Option, Some, None, Result, Ok, Err, inl, inr, refl, sym, ap, subst, arith}
use Rattle.std.specs.List.{AllByRecursion}
use mathlib.Core.List.{IsPrefix}
use Rattle.std.specs.Str.{bytes_eq}
use Rattle.std.proofs.lemmas.Slice.Eq.{bytes_eq-Decides}
use Rattle.std.proofs.lemmas.List.Elements.{Contains-push_cases}
use Rattle.jr_word.specs.declared.fault.Fault.{Fault}
use Rattle.jr_model.specs.History.{History}
use Rattle.jr_gate.specs.Performing.{ThreadState}
use Rattle.jr_syntax.specs.declared.command.Command.{Command}
use Rattle.jr_syntax.specs.declared.command.Command.TheVariants as commands
use Rattle.jr_syntax.specs.declared.verb.Make.TheVariants as make
use Rattle.jr_syntax.specs.declared.verb.OnName.TheVariants as on_name
use Rattle.jr_world.specs.Board.{word_under}
use Rattle.jr_scripts.specs.declared.reply.Reply.{Reply}
use Rattle.jr_scripts.specs.declared.reply.Reply.TheVariants as replies
use Rattle.jr_scripts.specs.Names.{Names, word_posted}
use Rattle.jr_scripts.specs.Places.{Place}
use Rattle.jr_scripts.specs.Explains.{Explains, nothing, then}
use Rattle.jr_scripts.specs.PostedNames.{IsPosted}
use Rattle.jr_scripts.specs.Posting.{IsAnswered, ThreadWords, said, said_alone, words_after, words_with}
use Rattle.jr_scripts.proofs.Speaking.{found_words}

-- a word is under the name
abbrev pub Has : ThreadWords → List ℕ → Type 0
Has words n = is_some (word_under words n) ≡ true

pub same_name : (n m : List ℕ) → bytes_eq n m ≡ true → n ≡ m
same_name n m = (bytes_eq-Decides n m).0

pub itself : (n : List ℕ) → bytes_eq n n ≡ true
itself n = (bytes_eq-Decides n n).1 refl

some_or_none : (o : Option ℕ) → o ≡ None → is_some o ≡ true → ⊥
some_or_none o none some = let bad = sym (ap is_some none) ∙ some in absurd cc

some_is : (o : Option ℕ) (w : ℕ) → o ≡ Some w → is_some o ≡ true
some_is o w is = ap is_some is

-- what holds of each name with a word
pub ranked_below : (rank : List ℕ → ℕ) (words : ThreadWords) (n : List ℕ) (r : ℕ)
    → AllByRecursion (λ (x : List ℕ × ℕ). rank x.0 < r) words → Has words n → rank n < r
ranked_below rank [] n r all has = absurd cc
ranked_below rank (x ∷ xs) n r all has = go (bytes_eq n x.0) refl (ranked_below rank xs n r all.1)
  where
    go : (b : Bool) → bytes_eq n x.0 ≡ b → (Has xs n → rank n < r) → rank n < r
    go true is again = subst (λ m. rank m < r) (sym (same_name n x.0 is)) all.0
    go false is again = again (sym (ap (λ b. is_some (cond b (Some x.1) (word_under xs n))) is) ∙ has)

-- ONE WORD MORE

had_before : (xs ys : ThreadWords) (n : List ℕ) → Has xs n → Has (xs ++ ys) n
had_before [] ys n has = absurd cc
had_before (x ∷ xs) ys n has = go (bytes_eq n x.0) refl (had_before xs ys n)
  where
    go : (b : Bool) → bytes_eq n x.0 ≡ b → (Has xs n → Has (xs ++ ys) n) → Has ((x ∷ xs) ++ ys) n
    go true is again = ap (λ b. is_some (cond b (Some x.1) (word_under (xs ++ ys) n))) is
    go false is again = ap (λ b. is_some (cond b (Some x.1) (word_under (xs ++ ys) n))) is
        ∙ again (sym (ap (λ b. is_some (cond b (Some x.1) (word_under xs n))) is) ∙ has)

has_last : (xs : ThreadWords) (n : List ℕ) (w : ℕ) → Has (xs ++ (n, w) ∷ []) n
has_last [] n w = ap (λ b. is_some (cond b (Some w) None)) (itself n)
has_last (x ∷ xs) n w = go (bytes_eq n x.0) refl (has_last xs n w)
  where
    go : (b : Bool) → bytes_eq n x.0 ≡ b → Has (xs ++ (n, w) ∷ []) n → Has ((x ∷ xs) ++ (n, w) ∷ []) n
    go true is again = ap (λ b. is_some (cond b (Some x.1) (word_under (xs ++ (n, w) ∷ []) n))) is
    go false is again = ap (λ b. is_some (cond b (Some x.1) (word_under (xs ++ (n, w) ∷ []) n))) is ∙ again

had_or_last : (xs : ThreadWords) (m : List ℕ) (w : ℕ) (n : List ℕ) → Has (xs ++ (m, w) ∷ []) n → Has xs n ⊎ (n ≡ m)
had_or_last [] m w n has = go (bytes_eq n m) refl
  where
    go : (b : Bool) → bytes_eq n m ≡ b → Has [] n ⊎ (n ≡ m)
    go true is = inr (same_name n m is)
    go false is = let bad = sym (ap (λ b. is_some (cond b (Some w) None)) is) ∙ has in absurd cc
had_or_last (x ∷ xs) m w n has = go (bytes_eq n x.0) refl (had_or_last xs m w n)
  where
    back : bytes_eq n x.0 ≡ false → Has xs n ⊎ (n ≡ m) → Has (x ∷ xs) n ⊎ (n ≡ m)
    back is (inl h) = inl (ap (λ b. is_some (cond b (Some x.1) (word_under xs n))) is ∙ h)
    back is (inr e) = inr e

    go : (b : Bool) → bytes_eq n x.0 ≡ b → (Has (xs ++ (m, w) ∷ []) n → Has xs n ⊎ (n ≡ m)) → Has (x ∷ xs) n ⊎ (n ≡ m)
    go true is again = inl (ap (λ b. is_some (cond b (Some x.1) (word_under xs n))) is)
    go false is again =
        back is (again (sym (ap (λ b. is_some (cond b (Some x.1) (word_under (xs ++ (m, w) ∷ []) n))) is) ∙ has))

has_still : (words : ThreadWords) (m : List ℕ) (w : ℕ) (n : List ℕ) → Has words n → Has (words_with words m w) n
has_still words m w n has = go (is_some (word_under words m))
  where
    go : (b : Bool) → Has (cond b words (words ++ (m, w) ∷ [])) n
    go true = has
    go false = had_before words ((m, w) ∷ []) n has

pub has_now : (words : ThreadWords) (n : List ℕ) (w : ℕ) → Has (words_with words n w) n
has_now words n w = go (is_some (word_under words n)) refl
  where
    go : (b : Bool) → is_some (word_under words n) ≡ b → Has (cond b words (words ++ (n, w) ∷ [])) n
    go true is = is
    go false is = has_last words n w

had_or_now : (words : ThreadWords) (m : List ℕ) (w : ℕ) (n : List ℕ) → Has (words_with words m w) n → Has words n ⊎
    (n ≡ m)
had_or_now words m w n = go (is_some (word_under words m))
  where
    go : (b : Bool) → Has (cond b words (words ++ (m, w) ∷ [])) n → Has words n ⊎ (n ≡ m)
    go true has = inl has
    go false has = had_or_last words m w n has

-- BEHIND A COMMAND

pub has_after : (names : Names) (c : Command) (answer : Result Reply Fault) (words : ThreadWords) (n : List ℕ)
    → Has words n → Has (words_after names c answer words) n
has_after names (commands.OnName v m) answer words n has = has_still words m (word_posted names m) n has
has_after names (commands.Make make.Wait m) (Ok (replies.Made (Some h))) words n has = has_still words m h.0 n has
has_after names (commands.Make make.Wait m) (Ok (replies.Made None)) words n has = has
has_after names (commands.Make make.Wait m) (Ok _) words n has = has
has_after names (commands.Make make.Wait m) (Err e) words n has = has
has_after names _ answer words n has = has

module _ {board : List ℕ → Option (ℕ × History)} {rank : List ℕ → ℕ} {turns first : ℕ} {old : ThreadState} where
  -- what a line posted has a word
  posted_has : {cs : List Command} {text : List ℕ} {new : ThreadState} {place : Place} {words : ThreadWords}
      → Explains (said board rank) turns first old cs text new place words → (n : List ℕ) → IsPosted cs n → Has words n
  posted_has nothing n posted = let bad = posted.1 in absurd (omega arith)
  posted_has (then {before = done} {place = place} {words = had} c answer before did spoke) n posted =
      go (posted_has before n) (Contains-push_cases done c (commands.OnName on_name.Post n) posted)
    where
      go : (IsPosted done n → Has had n) → IsPosted done n ⊎ (c ≡ commands.OnName on_name.Post n)
          → Has (words_after place.names c answer had) n
      go known (inl p) = has_after place.names c answer had n (known p)
      go known (inr is) =
          subst (λ d. Has (words_after place.names d answer had) n) (sym is) (has_now had n (word_posted place.names n))

  -- a name that has a word has one on the board
  pub on_board : {cs : List Command} {text : List ℕ} {new : ThreadState} {place : Place} {words : ThreadWords}
      → Explains (said board rank) turns first old cs text new place words → (n : List ℕ) → Has words n
      → (x : ℕ × History) × (board n ≡ Some x)
  on_board nothing n has = absurd cc
  on_board (then {mid = mid} {new = new} {place = place} {words = had} c answer before did spoke) n has =
      by_command (on_board before) c spoke has
    where
      Known : Type 0
      Known = (m : List ℕ) → Has had m → (x : ℕ × History) × (board m ≡ Some x)

      earlier : Known → (m : List ℕ) (w : ℕ) → (x : ℕ × History) × (board m ≡ Some x) → Has (words_with had m w) n
          → (x : ℕ × History) × (board n ≡ Some x)
      earlier known m w there h = go (had_or_now had m w n h)
        where
          go : Has had n ⊎ (n ≡ m) → (x : ℕ × History) × (board n ≡ Some x)
          go (inl k) = known n k
          go (inr is) = (there.0, ap board is ∙ there.1)

      waited : Known → (m : List ℕ) (o : Option ℕ) → word_under had m ≡ o → IsAnswered o (λ w. (begun : History)
          × (board m ≡ Some (w, begun)) × IsPrefix begun new.pass.seen) (Unit {0}) answer
          → Has (words_after place.names (commands.Make make.Wait m) answer had) n
          → (x : ℕ × History) × (board n ≡ Some x)
      waited known m (Some w) is x h = earlier known m w (known m (some_is (word_under had m) w is))
          (subst (λ ws. Has ws n) (found_words place.names m (Some w) answer had x) h)
      waited known m None is (Some w, e, x) h =
          earlier known m w ((w, x.0), x.1) (subst (λ ws. Has ws n) (found_words place.names m (Some w) answer had e) h)
      waited known m None is (None, e, x) h =
          known n (subst (λ ws. Has ws n) (found_words place.names m None answer had e) h)

      by_command : Known → (d : Command) → said board rank place.names had d mid.pass.seen answer new.pass.seen
          → Has (words_after place.names d answer had) n → (x : ℕ × History) × (board n ≡ Some x)
      by_command known (commands.OnName v m) x h =
          earlier known m (word_posted place.names m) ((word_posted place.names m, mid.pass.seen), x.0) h
      by_command known (commands.Make make.Wait m) x h = waited known m (word_under had m) refl x h
      by_command known _ x h = known n h

  -- where each word is of a name that a line before posted, the thread hears nothing of others
  pub heard_alone : {cs : List Command} {text : List ℕ} {new : ThreadState} {place : Place} {words : ThreadWords}
      → Explains (said board rank) turns first old cs text new place words
      → ((n : List ℕ) → Has words n → IsPosted cs n) → Explains said_alone turns first old cs text new place words
  heard_alone nothing all = nothing
  heard_alone (then {before = done} {mid = mid} {new = new} {place = place} {words = had} c answer before did spoke)
      all = then c answer (heard_alone before posted_before) did (by_command c refl spoke)
    where
      -- no later line posts a name that has a word
      posted_before : (n : List ℕ) → Has had n → IsPosted done n
      posted_before n has = go (Contains-push_cases done c (commands.OnName on_name.Post n)
          (all n (has_after place.names c answer had n has)))
        where
          go : IsPosted done n ⊎ (c ≡ commands.OnName on_name.Post n) → IsPosted done n
          go (inl p) = p
          go (inr is) =
              let post : said board rank place.names had (commands.OnName on_name.Post n) mid.pass.seen answer
              new.pass.seen =
              subst (λ d. said board rank place.names had d mid.pass.seen answer new.pass.seen) is spoke in
              let less : rank n < rank n = ranked_below rank had n (rank n) post.1 has in
              absurd (omega arith)

      waited : (m : List ℕ) → c ≡ commands.Make make.Wait m → (o : Option ℕ) → word_under had m ≡ o
          → IsAnswered o (λ w. (begun : History) × (board m ≡ Some (w, begun))
          × IsPrefix begun new.pass.seen) (Unit {0}) answer → IsAnswered o (λ w. ⊥) (Unit {0}) answer
      waited m at (Some w) is x = x
      waited m at None is (None, e, x) = (None, e, x)
      waited m at None is (Some w, e, x) = absurd (some_or_none (word_under had m) is
          (go (Contains-push_cases done c (commands.OnName on_name.Post m) (all m here))))
        where
          here : Has (words_after place.names c answer had) m
          here = subst (λ d. Has (words_after place.names d answer had) m) (sym at)
              (subst (λ ws. Has ws m) (sym (found_words place.names m (Some w) answer had e)) (has_now had m w))

          go : IsPosted done m ⊎ (c ≡ commands.OnName on_name.Post m) → Has had m
          go (inl p) = posted_has before m p
          go (inr post) = let bad = sym at ∙ post in absurd cc

      by_command : (d : Command) → c ≡ d → said board rank place.names had d mid.pass.seen answer new.pass.seen
          → said_alone place.names had d mid.pass.seen answer new.pass.seen
      by_command (commands.OnName v m) at x = tt
      by_command (commands.Make make.Wait m) at x = waited m at (word_under had m) refl x
      by_command _ at x = tt
