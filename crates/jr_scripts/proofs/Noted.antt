-- What is noted, once one note more is kept.
use Rattle.std.proofs.lemmas.Bool.Decides.{nat_tests}
use Rattle.std.specs.Prelude.{cond, is_some}
use Rattle.std.specs.List.{AllByRecursion}
use mathlib.Core.List.{IsPrefix}
use Rattle.std.proofs.Common.{◌≡◌, ◌⊎◌, ◌<◌, ◌≤◌, ◌++◌, ◌∙◌, ℕ, zero, suc, Bool, true, false, List, [], ◌∷◌}
use Rattle.std.proofs.Common.{Option, Some, None, inl, inr, get_or, length, nat_lt, refl, sym, ap, subst, arith}
use Rattle.jr_world.specs.Board.{word_under}
use Rattle.jr_scripts.specs.declared.sighting.Sighting.{Sighting}
use Rattle.jr_scripts.specs.declared.sighting.Posted.{Posted}
use Rattle.jr_scripts.specs.Layouts.{cell_number}
use Rattle.jr_scripts.specs.NotedWords.{AreBelow, HasAllOf, IsBlank, HasNoted, StaysNoted}
use Rattle.jr_scripts.specs.NotedWords.{posted_by_number, posted_in, posted_noted, words_noted}
use Rattle.jr_model.specs.History.{History}
use Rattle.jr_rule.specs.Rooms.{seen_by_pinned}
use Rattle.jr_rule.specs.declared.site.Site.{Ghosts}
use Rattle.jr_rule.specs.declared.site.PinnedNoteOf.{PinnedNoteOf}
use Rattle.jr_scripts.specs.declared.part.ThreadRun.{ThreadRun}
use Rattle.jr_scripts.specs.Posting.{ThreadWords, words_with}
use Rattle.jr_scripts.specs.Telling.{has_seen, have_seen}
use Rattle.jr_scripts.specs.Jobs.{IsToldBy, board_noted, entry_of, rank_noted, stamp_of}

module _ {T : Type 0} where
  -- nothing is noted at first
  pub blank_none : IsBlank {T = T} []
  blank_none i = refl

  pub blank_more : (notes : List (Option (Sighting T))) → IsBlank notes → IsBlank (notes ++ None ∷ [])
  blank_more [] blank zero = refl
  blank_more [] blank (suc i) = refl
  blank_more (x ∷ xs) blank zero = blank zero
  blank_more (x ∷ xs) blank (suc i) = blank_more xs (λ k. blank (suc k)) i

  -- what is noted under a name
  kept_at : (old new : List (Option (Sighting T))) → StaysNoted old new → (number : Option ℕ) (p : Posted T)
      → posted_by_number old number ≡ Some p → posted_by_number new number ≡ Some p
  kept_at old new kept None p is = is
  kept_at old new kept (Some i) p is = kept i p is

  pub kept_under : (numbers : List (List ℕ × ℕ)) (old new : List (Option (Sighting T))) → StaysNoted old new
      → (n : List ℕ) (p : Posted T) → posted_noted numbers old n ≡ Some p → posted_noted numbers new n ≡ Some p
  kept_under numbers old new kept n p is = kept_at old new kept (cell_number numbers n) p is

  -- a word that is noted is noted still, on the same board
  pub noted_still : {numbers numbers' : List (List ℕ × ℕ)} {old new : List (Option (Sighting T))} {n : List ℕ} {w : ℕ}
      {so so' : Posted T → Type 0} → numbers' ≡ numbers → StaysNoted old new → ((t : Posted T) → so t → so' t)
      → HasNoted numbers old n w so → HasNoted numbers' new n w so'
  noted_still {numbers} {numbers'} {old} {new} {n} same kept on x = record {
    posted = x.posted;
    is = subst (λ z. posted_noted z new n ≡ Some x.posted) (sym same) (kept_under numbers old new kept n x.posted x.is);
    word = x.word;
    says = on x.posted x.says;
  }

  -- the same, where notes may be lost
  pub told_still : {lost lost' : Bool} {numbers numbers' : List (List ℕ × ℕ)} {old new : List (Option (Sighting T))}
      {n : List ℕ} {w : ℕ} {so so' : Posted T → Type 0} → (lost ≡ true → lost' ≡ true) → numbers' ≡ numbers
      → StaysNoted old new → ((p : Posted T) → so p → so' p)
      → (lost ≡ true) ⊎ HasNoted numbers old n w so → (lost' ≡ true) ⊎ HasNoted numbers' new n w so'
  told_still gone same kept on (inl x) = inl (gone x)
  told_still gone same kept on (inr x) = inr (noted_still same kept on x)

  -- what was kept at the number of a name is noted under it
  pub noted_at : {lost : Bool} {numbers numbers' : List (List ℕ × ℕ)} (notes : List (Option (Sighting T))) (n : List ℕ)
      (i : ℕ) (p q : Posted T) (w : ℕ) (so : Posted T → Type 0) → numbers' ≡ numbers → cell_number numbers n ≡ Some i
      → p.word ≡ w → so p → p ≡ q
      → (lost ≡ true) ⊎ (posted_in (get_or notes i None) ≡ Some q) → (lost ≡ true) ⊎ HasNoted numbers' notes n w so
  noted_at notes n i p q w so same is word says found (inl x) = inl x
  noted_at {numbers = numbers} {numbers'} notes n i p q w so same is word says found (inr x) =
      let here : posted_noted numbers notes n ≡ Some p =
      ap (posted_by_number notes) is ∙ (x ∙ ap (λ (z : Posted T). Some z) (sym found)) in
      inr (record {
        posted = p;
        is = subst (λ z. posted_noted z notes n ≡ Some p) (sym same) here;
        word = word;
        says = says;
      })

  -- WORDS THAT ARE NOTED

  -- they are still, below the same stamp or a greater one
  pub below_still : {numbers numbers' : List (List ℕ × ℕ)} (old new : List (Option (Sighting T))) {stamp stamp' : ℕ}
      (words : ThreadWords) → numbers' ≡ numbers → StaysNoted old new → stamp ≤ stamp'
      → AreBelow numbers old stamp words
      → AreBelow numbers' new stamp' words
  below_still old new [] same kept more below = tt
  below_still {numbers} {numbers'} old new (x ∷ xs) same kept more below =
      let one = below.0 in
      let less = one.2 in (
        (
          one.0,
          subst (λ z. posted_noted z new x.0 ≡ Some one.0) (sym same) (kept_under numbers old new kept x.0 one.0 one.1),
          omega arith,
        ),
        below_still old new xs same kept more below.1,
      )

  below_last : (numbers : List (List ℕ × ℕ)) (notes : List (Option (Sighting T))) (stamp : ℕ) (words : ThreadWords)
      (x : List ℕ × ℕ) → (p : Posted T) × (posted_noted numbers notes x.0 ≡ Some p) × (p.stamp < stamp)
      → AreBelow numbers notes stamp words → AreBelow numbers notes stamp (words ++ x ∷ [])
  below_last numbers notes stamp [] x one below = (one, tt)
  below_last numbers notes stamp (y ∷ ys) x one below = (below.0, below_last numbers notes stamp ys x one below.1)

  -- one word more, under a name that has none
  below_with : (numbers : List (List ℕ × ℕ)) (notes : List (Option (Sighting T))) (stamp : ℕ) (words : ThreadWords)
      (n : List ℕ)
      (w : ℕ) (p : Posted T) → posted_noted numbers notes n ≡ Some p → p.stamp < stamp
      → AreBelow numbers notes stamp words → AreBelow numbers notes stamp (words_with words n w)
  below_with numbers notes stamp words n w p is less below = go (is_some (word_under words n))
    where
      go : (known : Bool) → AreBelow numbers notes stamp (cond known words (words ++ (n, w) ∷ []))
      go true = below
      go false = below_last numbers notes stamp words (n, w) (p, is, less) below

  -- the words of a thread that posted or heard one
  pub words_more : {lost lost' : Bool} {numbers numbers' : List (List ℕ × ℕ)} (old : List (Option (Sighting T)))
      {new : List (Option (Sighting T))} {heard heard' : ℕ} {so : Posted T → Type 0} (words : ThreadWords)
      (n : List ℕ) (w : ℕ)
      → (lost ≡ true → lost' ≡ true) → numbers' ≡ numbers → StaysNoted old new
      → ((p : Posted T) → so p → p.stamp ≤ heard')
      → (lost' ≡ true) ⊎ (heard ≤ heard') → (lost' ≡ true) ⊎ HasNoted numbers' new n w so
      → words_noted lost numbers old heard words → words_noted lost' numbers' new heard' (words_with words n w)
  words_more old words n w gone same kept few more (inl x) had = inl x
  words_more old words n w gone same kept few more (inr x) (inl y) = inl (gone y)
  words_more old words n w gone same kept few (inl z) (inr x) (inr y) = inl z
  words_more {numbers' = numbers'} old {new} {heard' = heard'} words n w gone same kept few (inr z) (inr x) (inr y) =
      let top = few x.posted x.says in
      inr (below_with numbers' new (suc heard') words n w x.posted x.is (omega arith)
      (below_still old new words same kept (omega arith) y))

  -- of one that posted
  pub put_words : {lost lost' : Bool} {numbers numbers' : List (List ℕ × ℕ)} (old : List (Option (Sighting T)))
      {new : List (Option (Sighting T))} {heard heard' : ℕ} {told : T} (words : ThreadWords) (n : List ℕ) (w : ℕ)
      → (lost ≡ true → lost' ≡ true) → numbers' ≡ numbers → StaysNoted old new
      → (lost' ≡ true) ⊎ (suc heard ≤ heard')
      → (lost' ≡ true) ⊎ HasNoted numbers new n w (λ p. (p.told ≡ told) × (p.stamp ≡ suc heard))
      → words_noted lost numbers old heard words → words_noted lost' numbers' new heard' (words_with words n w)
  put_words old words n w gone same kept (inl x) noted had = inl x
  put_words old {heard = heard} {heard'} words n w gone same kept (inr x) noted had =
      words_more old {so = λ p. p.stamp ≡ suc heard} words n w gone same kept (λ p e. omega arith) (inr (omega arith))
      (told_still (λ z. z) same (λ i p is. is) (λ p e. e.1) noted) had

  -- what is told with a word that was posted behind these
  pub posted_behind : {lost lost' : Bool} {numbers numbers' : List (List ℕ × ℕ)} (old : List (Option (Sighting T)))
      {new : List (Option (Sighting T))} {heard : ℕ} {told : T} (so : T → Type 0) (words : ThreadWords) (n : List ℕ)
      (w : ℕ)
      → (lost ≡ true → lost' ≡ true) → numbers' ≡ numbers → StaysNoted old new → so told
      → (lost' ≡ true) ⊎ HasNoted numbers new n w (λ p. (p.told ≡ told) × (p.stamp ≡ suc heard))
      → words_noted lost numbers old heard words
      → (lost' ≡ true) ⊎ HasNoted numbers' new n w (λ p. so p.told × AreBelow numbers' new p.stamp words)
  posted_behind old so words n w gone same kept says (inl x) had = inl x
  posted_behind old so words n w gone same kept says (inr x) (inl y) = inl (gone y)
  posted_behind {numbers' = numbers'} old {new} so words n w gone same kept says (inr x) (inr y) =
      inr (noted_still same (λ i p is. is)
      (λ p e. let up = e.1 in (subst so (sym e.0) says, below_still old new words same kept (omega arith) y)) x)

  -- ALL THAT ANOTHER NOTED

  nothing_past : (notes : List (Option (Sighting T))) (i : ℕ) → length notes ≤ i → get_or notes i None ≡ None
  nothing_past [] i past = refl
  nothing_past (x ∷ xs) zero past = absurd (omega arith)
  nothing_past (x ∷ xs) (suc i) past = nothing_past xs i (omega arith)

  pub has_all : (ours theirs : List (Option (Sighting T))) (k : ℕ) → length theirs ≤ k → ((i : ℕ) (p : Posted T) → i < k
      → posted_in (get_or theirs i None) ≡ Some p → posted_in (get_or ours i None) ≡ Some p) → StaysNoted theirs ours
  has_all ours theirs k all so i p is = go (nat_lt i k) refl
    where
      go : (b : Bool) → nat_lt i k ≡ b → posted_in (get_or ours i None) ≡ Some p
      go true l = so i p (grind (arith, nat_tests)) is
      go false l = let past : length theirs ≤ i = grind (arith, nat_tests) in let none = nothing_past theirs i past in
          let bad = ap posted_in none in absurd cc

  -- what a thread's notes tell, those tell that have all of them
  pub told_by_all : {numbers : List (List ℕ × ℕ)} {ours theirs : List (Option (Sighting T))} {lost : Bool} {n : List ℕ}
      {w : ℕ} {so so' : Posted T → Type 0} → HasAllOf ours lost theirs → ((p : Posted T) → so p → so' p)
      → (lost ≡ true) ⊎ HasNoted numbers theirs n w so → HasNoted numbers ours n w so'
  told_by_all h on (inl x) = let safe = h.safe in absurd cc
  told_by_all h on (inr x) = noted_still refl h.kept on x

-- THE BOARD OF A ROOM

module _ {Q : Type 0} {G : Ghosts Q} (numbers : List (List ℕ × ℕ))
    (notes : List (Option (Sighting (PinnedNoteOf Q G)))) where
  -- names that are noted below a stamp have a lower rank
  ranked : (stamp : ℕ) (words : ThreadWords) → AreBelow numbers notes stamp words
      → AllByRecursion (λ (x : List ℕ × ℕ). rank_noted numbers notes x.0 < stamp) words
  ranked stamp [] below = tt
  ranked stamp (x ∷ xs) below = let one = below.0 in
      (subst (λ r. r < stamp) (sym (ap stamp_of one.1)) one.2, ranked stamp xs below.1)

  entry_posted : (words : ThreadWords) (n : List ℕ) (w : ℕ) (h : History)
      → HasNoted numbers notes n w (λ p. has_seen p.told h × AreBelow numbers notes p.stamp words)
      → (board_noted numbers notes n ≡ Some (w, h))
      × AllByRecursion (λ (x : List ℕ × ℕ). rank_noted numbers notes x.0 < rank_noted numbers notes n) words
  entry_posted words n w h x = (
    ap (entry_of {Q = Q} {G = G}) x.is ∙ (λ i. Some (x.word i, x.says.0 i)),
    subst (λ r. AllByRecursion (λ (x : List ℕ × ℕ). rank_noted numbers notes x.0 < r) words) (sym (ap stamp_of x.is))
        (ranked (x.posted).stamp words x.says.1),
  )

  entry_heard : (n : List ℕ) (w : ℕ) (h : History) → HasNoted numbers notes n w (λ p. have_seen p.told h)
      → (begun : History) × (board_noted numbers notes n ≡ Some (w, begun)) × IsPrefix begun h
  entry_heard n w h x = (
    seen_by_pinned (x.posted).told.pinned,
    (ap (entry_of {Q = Q} {G = G}) x.is ∙ λ i. Some (x.word i, seen_by_pinned (x.posted).told.pinned)),
    x.says,
  )

-- what a thread's notes tell is what the board has whose notes have all of them
pub told_by_board : {Q : Type 0} {G : Ghosts Q} (numbers : List (List ℕ × ℕ))
    (notes : List (Option (Sighting (PinnedNoteOf Q G)))) (r : ThreadRun Q G)
    → r.notes.posts.now.numbers.entries ≡ numbers
    → HasAllOf notes r.notes.is_lost r.notes.notes.items
    → IsToldBy (board_noted numbers notes) (rank_noted numbers notes) r
told_by_board numbers notes r same has =
    subst (λ z. IsToldBy (board_noted z notes) (rank_noted z notes) r) same (record {
      posted = λ words n w h x. entry_posted r.notes.posts.now.numbers.entries notes words n w h
          (told_by_all has (λ p e. (e.0, below_still r.notes.notes.items notes words refl has.kept (omega arith) e.1))
          x);
      heard = λ n w h x. entry_heard r.notes.posts.now.numbers.entries notes n w h (told_by_all has (λ p e. e) x);
    })
