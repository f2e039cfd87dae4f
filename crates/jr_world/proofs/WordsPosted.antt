-- The words that were posted are 0, or those of references that were born.
use Rattle.std.proofs.Common.{◌≡◌, ◌≤◌, ℕ, Bool, true, false, cond, Some, List, [], ◌∷◌, ◌++◌, length, subst, arith}
use Rattle.std.specs.Str.{bytes_eq}
use Rattle.jr_model.specs.History.{History}
use Rattle.jr_world.specs.Births.{births}
use Rattle.jr_world.specs.Board.{IsOnBoard, word_under}
use Rattle.jr_world.specs.Plays.{WereBorn}
use Rattle.jr_world.proofs.Births.BornLists.{refs_stay, some_same}

-- they are so later
pub posted_later : (now since : History) (board : List (List ℕ × ℕ)) → WereBorn now board
    → WereBorn (now ++ since) board
posted_later now since [] born = tt
posted_later now since (x ∷ board) born =
    let more = refs_stay now since in
    let small : x.1 ≤ length (births now).refs = born.0 in (omega arith, posted_later now since board born.1)

-- .. and with one more
pub posted_with : (now : History) (board : List (List ℕ × ℕ)) (n : List ℕ) (w : ℕ) → WereBorn now board
    → w ≤ length (births now).refs → WereBorn now (board ++ (n, w) ∷ [])
posted_with now [] n w born small = (small, tt)
posted_with now (x ∷ board) n w born small = (born.0, posted_with now board n w born.1 small)

-- so who hears a word knows that it was born
pub heard_born : (now : History) (board : List (List ℕ × ℕ)) (n : List ℕ) (w : ℕ) → WereBorn now board
    → IsOnBoard board n w → w ≤ length (births now).refs
heard_born now [] n w born there = absurd cc
heard_born now (x ∷ board) n w born there = go (bytes_eq n x.0) there (heard_born now board n w born.1)
  where
    go : (d : Bool) → cond d (Some x.1) (word_under board n) ≡ Some w
        → (IsOnBoard board n w → w ≤ length (births now).refs)
        → w ≤ length (births now).refs
    go true there rest = subst (λ v. v ≤ length (births now).refs) (some_same x.1 w there) born.0
    go false there rest = rest there
