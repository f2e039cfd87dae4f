-- ONE ORDER of what several threads do in one history, and of the words that they post and hear
use Rattle.std.specs.Prelude.{◌≡◌, ◌<◌, ◌≤◌, ◌==◌, ℕ, cond, Option, Some, List, [], ◌∷◌, ◌++◌, map, length}
use Rattle.std.specs.Prelude.{slice_index_or, Contains}
use Rattle.std.specs.List.{AllByRecursion}

-- of what several threads do, each thing behind its thread, what thread t does
abbrev pub done_by : {X : Type 0} → List (ℕ × X) → ℕ → List X
done_by [] t = []
done_by (x ∷ xs) t = cond (x.0 == t) (x.1 ∷ done_by xs t) (done_by xs t)

-- one thing that a thread does: an act of the history, the post of a word under a name, or the hearing of the word that
-- was posted under a name
pub data Item (A : Type 0) : Type 0 where
  does : A → Item A
  posts : List ℕ → ℕ → Item A
  hears : List ℕ → ℕ → Item A

-- thread t's item put before these acts: where it is an act, it is one more of them
abbrev pub act_before : {A : Type 0} → ℕ → Item A → List (ℕ × A) → List (ℕ × A)
act_before t (does a) acts = (t, a) ∷ acts
act_before t (posts n w) acts = acts
act_before t (hears n w) acts = acts

-- the acts among the items of several threads, each behind its thread
abbrev pub acts_of : {A : Type 0} → List (ℕ × Item A) → List (ℕ × A)
acts_of [] = []
acts_of (x ∷ xs) = act_before x.0 x.1 (acts_of xs)

-- A BOARD: under a name the word that was posted, with the acts that its poster had seen at the post; None where nobody
-- posts
abbrev pub BoardOf : Type 0 → Type 0
BoardOf A = List ℕ → Option (ℕ × List (ℕ × A))

-- words, each behind the name that it was posted under
abbrev pub NamedWords : Type 0
NamedWords = List (List ℕ × ℕ)

module _ {A : Type 0} (board : BoardOf A) (rank : List ℕ → ℕ) (t : ℕ) where
  -- THE STORY OF THREAD t up to a moment: its items in their order, the beginning of the history that it has seen by
  -- then, and the words that it has posted or heard. It begins with nothing, and goes on in one of three ways:
  -- it sees the acts that come next in the history, and of them does its own;
  -- it posts a word, which stands on the board with just what it has seen, under a name of a higher rank than those of
  -- all words that it has;
  -- it hears a word that stands on the board, and by then has seen all that the poster had seen at the post
  pub data Story : List (Item A) → List (ℕ × A) → NamedWords → Type 0 where
    begins : Story [] [] []
    goes_on : {items : List (Item A)} {seen : List (ℕ × A)} {words : NamedWords} (since : List (ℕ × A))
        → Story items seen words → Story (items ++ map does (done_by since t)) (seen ++ since) words
    has_posted : {items : List (Item A)} {seen : List (ℕ × A)} {words : NamedWords} (n : List ℕ) (w : ℕ)
        → Story items seen words → board n ≡ Some (w, seen) → AllByRecursion (λ x. rank x.0 < rank n) words
        → Story (items ++ posts n w ∷ []) seen (words ++ (n, w) ∷ [])
    has_heard : {items : List (Item A)} {seen : List (ℕ × A)} {words : NamedWords} (n : List ℕ) (w : ℕ)
        (begun since : List (ℕ × A))
        → Story items seen words → board n ≡ Some (w, begun) → begun ++ since ≡ seen
        → Story (items ++ hears n w ∷ []) seen (words ++ (n, w) ∷ [])

-- THE STORIES ARE OF ONE HISTORY AND ONE BOARD: the story at place t is thread t's, up to the end of the history. No
-- other thread acts in the history, and each word that stands on the board is posted in a story
pub record AreStories {A : Type 0} (board : BoardOf A) (rank : List ℕ → ℕ) (whole : List (ℕ × A))
    (stories : List (List (Item A))) : Type 0 where
  pub told : (t : ℕ) → t < length stories
      → (words : NamedWords) × Story board rank t (slice_index_or stories t []) whole words
  pub no_others : (t : ℕ) → length stories ≤ t → done_by whole t ≡ []
  pub posted : (n : List ℕ) (w : ℕ) (seen : List (ℕ × A)) → board n ≡ Some (w, seen)
      → (t : ℕ) × Contains (slice_index_or stories t []) (posts n w)

-- ALL IS ONE ORDER of these stories and this history. What each thread does in it is its story, one thing after the
-- other; its acts are the history, one after the other; and before each hearing of a word stands a post of this word
-- under this name
pub record IsOneOrder {A : Type 0} (whole : List (ℕ × A)) (stories : List (List (Item A)))
    (all : List (ℕ × Item A)) : Type 0 where
  pub each : (t : ℕ) → done_by all t ≡ slice_index_or stories t []
  pub history : acts_of all ≡ whole
  pub heard : (before after : List (ℕ × Item A)) (t : ℕ) (n : List ℕ) (w : ℕ) → all ≡ before ++ (t, hears n w) ∷ after
      → (u : ℕ) × Contains before (u, posts n w)

-- THERE IS ONE ORDER of stories that are of one history and one board, whatever ranks the names have
abbrev pub ThereIsOneOrder : Type 0 → Type 0
ThereIsOneOrder A = (board : BoardOf A) (rank : List ℕ → ℕ) (whole : List (ℕ × A)) (stories : List (List (Item A)))
    → AreStories board rank whole stories → (all : List (ℕ × Item A)) × IsOneOrder whole stories all
