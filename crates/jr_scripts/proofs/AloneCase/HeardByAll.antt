-- A THREAD THAT HEARS NOTHING OF OTHERS, told as one of several. The board has each word that a line posted, with what
-- the thread had seen there. The rank of a name is how many lines stand before the one that posts it.
use Rattle.std.proofs.Common.{◌≡◌, ◌≤◌, ◌<◌, ◌++◌, ◌∙◌, ◌&&◌, ◌||◌, not, ℕ, zero, suc, Bool, true, false, cond, is_some}
use Rattle.std.proofs.Common.{List, [], ◌∷◌, length, Option, Some, None, refl, sym, ap, subst, append_assoc, arith}
use Rattle.std.specs.List.{AllByRecursion, flat_map, list_any}
use mathlib.Core.List.{IsPrefix}
use Rattle.std.specs.Str.{bytes_eq}
use Rattle.std.proofs.lemmas.List.Elements.{Contains-append_left, Contains-append_right, Contains-push}
use Rattle.jr_model.specs.History.{History}
use Rattle.jr_model.proofs.Exactly.{append_all}
use Rattle.jr_gate.specs.Performing.{ThreadState}
use Rattle.jr_syntax.specs.declared.command.Command.{Command}
use Rattle.jr_syntax.specs.declared.command.Command.TheVariants as commands
use Rattle.jr_syntax.specs.declared.verb.Make.TheVariants as make
use Rattle.jr_syntax.specs.declared.verb.OnName.TheVariants as on_name
use Rattle.jr_syntax.specs.Script.{all_apart, posted}
use Rattle.jr_world.specs.Board.{word_under}
use Rattle.jr_scripts.specs.Names.{Names, word_posted}
use Rattle.jr_scripts.specs.Places.{Place}
use Rattle.jr_scripts.specs.Explains.{Explains, nothing, then}
use Rattle.jr_scripts.specs.PostedNames.{IsOfPosts, IsPosted}
use Rattle.jr_scripts.specs.Posting.{IsAnswered, ThreadWords, said, said_alone, words_after}
use Rattle.jr_scripts.proofs.AloneHistories.{all_map}
use Rattle.jr_scripts.proofs.LoneWords.{itself, same_name}
use Rattle.jr_scripts.proofs.Speaking.{found_words, known_words}

-- NAMES THAT ARE POSTED

both_parts : (a b : Bool) → (a && b) ≡ true → (a ≡ true) × (b ≡ true)
both_parts true b is = (refl, is)
both_parts false b is = absurd cc

-- whether the command posts the name
abbrev posts_it : Command → List ℕ → Bool
posts_it (commands.OnName v m) n = bytes_eq n m
posts_it _ n = false

it_posts : (c : Command) (n : List ℕ) → posts_it c n ≡ true → c ≡ commands.OnName on_name.Post n
it_posts (commands.OnName on_name.Post m) n is = ap (λ z. commands.OnName on_name.Post z) (sym (same_name n m is))
it_posts _ n is = absurd cc

posts_its_name : (c : Command) (n : List ℕ) → c ≡ commands.OnName on_name.Post n → posts_it c n ≡ true
posts_its_name c n is = ap (λ d. posts_it d n) is ∙ itself n

any_behind : (n : List ℕ) (xs ys : List (List ℕ)) → list_any (bytes_eq n) ys ≡ true
    → list_any (bytes_eq n) (xs ++ ys) ≡ true
any_behind n [] ys any = any
any_behind n (x ∷ xs) ys any = go (bytes_eq n x) (any_behind n xs ys any)
  where
    go : (b : Bool) → list_any (bytes_eq n) (xs ++ ys) ≡ true → (b || list_any (bytes_eq n) (xs ++ ys)) ≡ true
    go true rest = refl
    go false rest = rest

apart_behind : (xs ys : List (List ℕ)) → all_apart (xs ++ ys) ≡ true → all_apart ys ≡ true
apart_behind [] ys apart = apart
apart_behind (x ∷ xs) ys apart = apart_behind xs ys
    (both_parts (not (list_any (bytes_eq x) (xs ++ ys))) (all_apart (xs ++ ys)) apart).1

-- a name that a command posts is one of those posted
among_posted : (cs : List Command) (n : List ℕ) → IsPosted cs n → list_any (bytes_eq n) (flat_map posted cs) ≡ true
among_posted [] n (i, small, is) = absurd (omega arith)
among_posted (c ∷ cs) n (zero, small, is) = subst
    (λ (d : Command). list_any (bytes_eq n) (posted d ++ flat_map posted cs) ≡ true) (sym is)
    (ap (λ b. b || list_any (bytes_eq n) (flat_map posted cs)) (itself n))
among_posted (c ∷ cs) n (suc i, small, is) =
    any_behind n (posted c) (flat_map posted cs) (among_posted cs n (i, (omega arith), is))

-- where no name is posted twice, what a command posts none before it does
posted_once : (done rest : List Command) (c : Command) (n : List ℕ)
    → all_apart (flat_map posted (done ++ c ∷ rest)) ≡ true → c ≡ commands.OnName on_name.Post n → IsPosted done n → ⊥
posted_once [] rest c n apart at (i, small, is) = omega arith
posted_once (d ∷ ds) rest c n apart at (zero, small, is) =
    let again = among_posted (ds ++ c ∷ rest) n
    (Contains-append_right ds (c ∷ rest) (commands.OnName on_name.Post n) (0, (omega arith), at)) in
    let here : all_apart (n ∷ flat_map posted (ds ++ c ∷ rest)) ≡ true
    = subst (λ (x : Command). all_apart (posted x ++ flat_map posted (ds ++ c ∷ rest)) ≡ true) is apart in
    let bad = sym (ap not again) ∙ (both_parts (not (list_any (bytes_eq n) (flat_map posted (ds ++ c ∷ rest))))
    (all_apart (flat_map posted (ds ++ c ∷ rest))) here).0 in
    absurd cc
posted_once (d ∷ ds) rest c n apart at (suc i, small, is) = posted_once ds rest c n
    (apart_behind (posted d) (flat_map posted (ds ++ c ∷ rest)) apart) at (i, (omega arith), is)

-- RANKS

-- how many commands stand before the first one that posts the name
abbrev pub lines_before : List Command → List ℕ → ℕ
lines_before [] n = 0
lines_before (c ∷ cs) n = cond (posts_it c n) 0 (suc (lines_before cs n))

-- a name that one of the first commands posts has a lower rank than they are many
posted_below : (done rest : List Command) (n : List ℕ) → IsPosted done n → lines_before (done ++ rest) n < length done
posted_below [] rest n (i, small, is) = absurd (omega arith)
posted_below (c ∷ cs) rest n (zero, small, is) =
    let here : lines_before ((c ∷ cs) ++ rest) n ≡ 0
    = ap (λ b. cond b 0 (suc (lines_before (cs ++ rest) n))) (posts_its_name c n is) in
    omega (arith, here)
posted_below (c ∷ cs) rest n (suc i, small, is) =
    go (posts_it c n) (posted_below cs rest n (i, (omega arith), is))
  where
    go : (b : Bool) → lines_before (cs ++ rest) n < length cs
        → cond b 0 (suc (lines_before (cs ++ rest) n)) < suc (length cs)
    go true less = omega arith
    go false less = omega arith

-- and a name that none of them posts has no lower one
unposted_above : (done rest : List Command) (n : List ℕ) → (IsPosted done n → ⊥)
    → length done ≤ lines_before (done ++ rest) n
unposted_above [] rest n none = omega arith
unposted_above (c ∷ cs) rest n none = go (posts_it c n) refl
    (unposted_above cs rest n (λ p. none (suc p.0, (let small = p.1 in omega (arith, small)), p.2)))
  where
    go : (b : Bool) → posts_it c n ≡ b → length cs ≤ lines_before (cs ++ rest) n
        → suc (length cs) ≤ cond b 0 (suc (lines_before (cs ++ rest) n))
    go true is most = absurd (none (0, (omega arith), it_posts c n is))
    go false is most = omega arith

-- THE BOARD

-- what a line posts
abbrev posted_by : Command → Names → History → List ℕ → Option (ℕ × History)
posted_by c names seen n = cond (posts_it c n) (Some (word_posted names n, seen)) None

abbrev else_that : {A : Type 0} → Option A → Option A → Option A
else_that (Some x) o = Some x
else_that None o = o

module _ {turns first : ℕ} {old : ThreadState} where
  -- each name has the word that the first line posted that did, with what the thread had seen there
  pub board_of : {cs : List Command} {text : List ℕ} {new : ThreadState} {place : Place} {words : ThreadWords}
      → Explains said_alone turns first old cs text new place words → List ℕ → Option (ℕ × History)
  board_of nothing n = None
  board_of (then {mid = mid} {place = place} c answer before did spoke) n =
      else_that (board_of before n) (posted_by c place.names mid.pass.seen n)

  pub of_posts : {cs : List Command} {text : List ℕ} {new : ThreadState} {place : Place} {words : ThreadWords}
      (e : Explains said_alone turns first old cs text new place words) → IsOfPosts cs (board_of e)
  unfolding board_of
  of_posts nothing n x is = absurd cc
  of_posts (then {before = done} {mid = mid} {place = place} c answer before did spoke) n x is =
      go (board_of before n) refl (of_posts before n) is
    where
      by_it : (b : Bool) → posts_it c n ≡ b → cond b (Some (word_posted place.names n, mid.pass.seen)) None ≡ Some x
          → IsPosted (done ++ c ∷ []) n
      by_it true at there = subst (λ d. IsPosted (done ++ d ∷ []) n) (sym (it_posts c n at))
          (Contains-push done (commands.OnName on_name.Post n))
      by_it false at there = absurd cc

      go : (o : Option (ℕ × History)) → board_of before n ≡ o
          → ((y : ℕ × History) → board_of before n ≡ Some y → IsPosted done n)
          → else_that o (posted_by c place.names mid.pass.seen n) ≡ Some x → IsPosted (done ++ c ∷ []) n
      go (Some y) was known there =
          Contains-append_left done (c ∷ []) (commands.OnName on_name.Post n) (known y was)
      go None was known there = by_it (posts_it c n) refl there

  -- THE WORDS of a thread that hears nothing are those that it posted
  own_words : {cs : List Command} {text : List ℕ} {new : ThreadState} {place : Place} {words : ThreadWords}
      → Explains said_alone turns first old cs text new place words → AllByRecursion (λ x. IsPosted cs x.0) words
  own_words nothing = tt
  own_words (then {before = done} {mid = mid} {new = new} {place = place} {words = had} c answer before did spoke) =
      by_command c refl spoke
      (all_map (λ x p. Contains-append_left done (c ∷ []) (commands.OnName on_name.Post x.0) p) had
      (own_words before))
    where
      Own : ThreadWords → Type 0
      Own = AllByRecursion (λ x. IsPosted (done ++ c ∷ []) x.0)

      one_more : (m : List ℕ) (w : ℕ) (b : Bool) → c ≡ commands.OnName on_name.Post m → Own had
          → Own (cond b had (had ++ (m, w) ∷ []))
      one_more m w true at own = own
      one_more m w false at own = append_all (λ x. IsPosted (done ++ c ∷ []) x.0) had ((m, w) ∷ []) own
          (subst (λ d. IsPosted (done ++ d ∷ []) m) (sym at) (Contains-push done (commands.OnName on_name.Post m)), tt)

      waited : (m : List ℕ) (o : Option ℕ) → word_under had m ≡ o → IsAnswered o (λ w. ⊥) (Unit {0}) answer → Own had
          → Own (words_after place.names (commands.Make make.Wait m) answer had)
      waited m (Some w) is x own =
          subst Own (known_words m w had is ∙ sym (found_words place.names m (Some w) answer had x)) own
      waited m None is (None, e, x) own = subst Own (sym (found_words place.names m None answer had e)) own
      waited m None is (Some w, e, x) own = absurd x

      by_command : (d : Command) → c ≡ d → said_alone place.names had d mid.pass.seen answer new.pass.seen → Own had
          → Own (words_after place.names d answer had)
      by_command (commands.OnName on_name.Post m) at x own =
          one_more m (word_posted place.names m) (is_some (word_under had m)) at own
      by_command (commands.Make make.Wait m) at x own = waited m (word_under had m) refl x own
      by_command _ at x own = own

module _ (all : List Command) (apart : all_apart (flat_map posted all) ≡ true) {turns first : ℕ} {old : ThreadState}
    (board : List ℕ → Option (ℕ × History)) where
  -- WHAT A THREAD SAYS that hears nothing of others, it says of a board with its words
  pub said_of_all : {cs : List Command} {text : List ℕ} {new : ThreadState} {place : Place} {words : ThreadWords}
      (rest : List Command) → all ≡ cs ++ rest → (e : Explains said_alone turns first old cs text new place words)
      → ((n : List ℕ) (x : ℕ × History) → board_of e n ≡ Some x → board n ≡ Some x)
      → Explains (said board (lines_before all)) turns first old cs text new place words
  unfolding board_of
  said_of_all rest is nothing has = nothing
  said_of_all rest is
      (then {before = done} {mid = mid} {new = new} {place = place} {words = had} c answer before did spoke) has =
      then c answer (said_of_all (c ∷ rest) split before (λ n x there. has n x
      (ap (λ o. else_that o (posted_by c place.names mid.pass.seen n)) there))) did (by_command c refl spoke)
    where
      split : all ≡ done ++ c ∷ rest
      split = is ∙ append_assoc done (c ∷ []) rest

      fresh : (m : List ℕ) → c ≡ commands.OnName on_name.Post m → IsPosted done m → ⊥
      fresh m at = posted_once done rest c m (ap (λ cs. all_apart (flat_map posted cs)) (sym split) ∙ apart) at

      -- the board has what it posts
      on_board : (m : List ℕ) → c ≡ commands.OnName on_name.Post m
          → board m ≡ Some (word_posted place.names m, mid.pass.seen)
      on_board m at = has m (word_posted place.names m, mid.pass.seen) (go (board_of before m) refl
          ∙ ap (λ b. cond b (Some (word_posted place.names m, mid.pass.seen)) None) (posts_its_name c m at))
        where
          go : (o : Option (ℕ × History)) → board_of before m ≡ o
              → else_that o (posted_by c place.names mid.pass.seen m) ≡ posted_by c place.names mid.pass.seen m
          go (Some y) was = absurd (fresh m at (of_posts before m y was))
          go None was = refl

      ranked : (m : List ℕ) → c ≡ commands.OnName on_name.Post m
          → AllByRecursion (λ x. lines_before all x.0 < lines_before all m) had
      ranked m at =
          let high = subst (λ cs. length done ≤ lines_before cs m) (sym split)
          (unposted_above done (c ∷ rest) m (fresh m at)) in
          all_map (λ (x : List ℕ × ℕ) p. (
          let low = subst (λ cs. lines_before cs x.0 < length done) (sym split)
          (posted_below done (c ∷ rest) x.0 p) in
          omega (arith, high, low))) had (own_words before)

      waited : (m : List ℕ) (o : Option ℕ) → IsAnswered o (λ w. ⊥) (Unit {0}) answer
          → IsAnswered o (λ w. (begun : History) × (board m ≡ Some (w, begun))
          × IsPrefix begun new.pass.seen) (Unit {0}) answer
      waited m (Some w) x = x
      waited m None (None, e, x) = (None, e, x)
      waited m None (Some w, e, x) = absurd x

      by_command : (d : Command) → c ≡ d → said_alone place.names had d mid.pass.seen answer new.pass.seen
          → said board (lines_before all) place.names had d mid.pass.seen answer new.pass.seen
      by_command (commands.OnName on_name.Post m) at x = (on_board m at, ranked m at)
      by_command (commands.Make make.Wait m) at x = waited m (word_under had m) x
      by_command _ at x = tt
