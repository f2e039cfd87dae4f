-- Lists of handles that are written as words of the caller's.
use Rattle.std.proofs.Common.{◌≡◌, ◌++◌, ◌∙◌, ℕ, zero, suc, Bool, true, List, [], ◌∷◌}
use Rattle.std.proofs.Common.{Option, Some, None, Result, Ok, Err, OnErr}
use Rattle.std.proofs.Common.{ap, refl, sym, subst, drop, length, map, take}
use Rattle.std.proofs.lemmas.List.{append-nil, length-map, take_at}
use Rattle.std.proofs.Math.Seq.{drop-length, take-length}
use Rattle.std.specs.Box.{with_value}
use Rattle.std.specs.Global.{Box}
use Rattle.jr_word.specs.declared.fault.Fault.{Fault}
use Rattle.jr_word.specs.declared.handle.Handle.{Handle as HandleWord}
use Rattle.jr_model.specs.State.{Handle}
use Rattle.jr_weak.specs.declared.collecting.Collected.{Collected}
use Rattle.jr_weak.specs.Listing.{ListsTell, native_handle, over_front}
use Rattle.jr_env.specs.Deeds.{Deed}
use Rattle.jr_env.specs.Listings.{listed_announced, listed_in_turn}
use Rattle.jr_env.proofs.Remedies.{until_each}
use Rattle.luthrady.specs.declared.handles.EnvHandle.{EnvHandle}
use Rattle.luthrady.specs.declared.held.EnvPlace.{EnvPlace}
use Rattle.luthrady.specs.declared.held.Native.{Native}
use Rattle.luthrady.specs.declared.held.Presence.{Presence}
use Rattle.luthrady.specs.declared.held.Presence.TheVariants.{Ready}
use Rattle.luthrady.specs.Behind.{with_env_of}
use Rattle.luthrady.specs.Listed.{ByLister, ListedBy, WordsTell, as_handle}
use Rattle.luthrady.specs.Places.{absence_in, is_env, native_behind, ready_in}
use Rattle.luthrady.specs.Replies.{the_word}
use Rattle.luthrady.proofs.ThroughPointers.{absent, as_it_was, empty, stands, stood}

-- a list as long as the buffer is all that stands there then
pub over_whole : {X : Type 0} (buffer xs : List X) → length buffer ≡ length xs → over_front buffer xs ≡ xs
over_whole buffer xs same =
    ap (λ n. take n xs ++ drop (length xs) buffer) same
    ∙ ap (λ n. take (length xs) xs ++ drop n buffer) (sym same)
    ∙ ap (λ l. take (length xs) xs ++ l) (drop-length buffer) ∙ append-nil (take (length xs) xs) ∙ take-length xs

drop_nothing : {X : Type 0} (n : ℕ) → drop {A = X} n [] ≡ []
drop_nothing zero = refl
drop_nothing (suc n) = refl

-- the buffer keeps its length
pub over_length : {X : Type 0} (buffer xs : List X) → length (over_front buffer xs) ≡ length buffer
over_length [] xs = ap length (drop_nothing (length xs))
over_length (b ∷ bs) [] = refl
over_length (b ∷ bs) (x ∷ xs) = ap suc (over_length bs xs)

words_back : (ws : List ℕ) → map the_word (map as_handle ws) ≡ ws
words_back [] = refl
words_back (w ∷ ws) = ap (λ l. w ∷ l) (words_back ws)

handles_back : (hs : List HandleWord) → map as_handle (map the_word hs) ≡ hs
handles_back [] = refl
handles_back (h ∷ hs) = ap (λ l. h ∷ l) (handles_back hs)

-- room for as many handles as there are words has those of the words
pub lent_whole : (words : List ℕ) (items slice new : List HandleWord) (len : ℕ) → slice ≡ items → length slice ≡ len
    → len ≡ length words → new ≡ over_front slice (map as_handle words)
    → take len (new ++ drop (length new) items) ≡ map as_handle words
lent_whole words items slice new len at long so_many written =
    let all = map as_handle words in
    let is : new ≡ all =
    written ∙ over_whole slice all (long ∙ so_many ∙ sym (length-map words as_handle)) in
    let size : length new ≡ len = ap length is ∙ length-map words as_handle ∙ sym so_many in
    take_at new (drop (length new) items) len size ∙ is

module _ (words words' : List ℕ) (handles listed items left : List HandleWord) (len : ℕ)
    (are : handles ≡ map as_handle words) (so_many : len ≡ length words)
    (kept : left ≡ take len (listed ++ drop (length listed) items))
    (written : words' ≡ over_front words (map the_word left)) where
  as_long : length listed ≡ length handles → length listed ≡ length words
  as_long long = long ∙ ap length are ∙ length-map words as_handle

  -- the words are those of what the handles were left as
  these : length listed ≡ length handles → words' ≡ map the_word listed
  these long =
      let is : left ≡ listed = kept ∙ take_at listed (drop (length listed) items) len (as_long long ∙ sym so_many) in
      let size : length words ≡ length (map the_word left) =
      sym (length-map left the_word ∙ ap length is ∙ as_long long) in
      written ∙ over_whole words (map the_word left) size ∙ ap (map the_word) is

  -- handles that were left alone leave the words
  pub same_words : listed ≡ handles → words' ≡ words
  same_words same = these (ap length same) ∙ ap (map the_word) (same ∙ are) ∙ words_back words

  -- what the handles tell, the words do
  pub told_in_words : {numbers numbers' : List ℕ} (cleared : List Handle) (dropped : List ℕ)
      → ListsTell handles numbers listed numbers' cleared dropped
      → WordsTell words numbers words' numbers' cleared dropped
  told_in_words cleared dropped t =
      let tells = map native_handle cleared in
      let long : length listed ≡ length handles = ap length t.handles_are ∙ over_length handles tells in
      record {
        handles_are = ap (map as_handle) (these long) ∙ handles_back listed ∙ t.handles_are
            ∙ ap (λ b. over_front b tells) are;
        numbers_are = t.numbers_are;
      }

-- what a refusal leaves, in other words
pub on_refusal : {A P Q : Type 0} (r : Result A Fault) → (P → Q) → OnErr r P → OnErr r Q
on_refusal (Ok x) w p = p
on_refusal (Err e) w p = w p

-- what is told of an announced collection may be said in other words
announced_more : (tries : ℕ) (marks : List Bool) (tells other : List Handle → List ℕ → Type 0)
    → ((c : List Handle) (d : List ℕ) → tells c d → other c d) → (p q : _) (r : Result Collected Fault)
    → listed_announced tries marks tells p r q → listed_announced tries marks other p r q
announced_more tries marks tells other w p q (Ok c) z = record {
  refused = z.refused;
  few = z.few;
  done = ((z.done).0, w ((z.done).0).cleared ((z.done).0).dropped (z.done).1);
}
announced_more tries marks tells other w p q (Err e) z = z

pub in_turn_more : (tries more : ℕ) (marks : List Bool) (tells other : List Handle → List ℕ → Type 0)
    → ((c : List Handle) (d : List ℕ) → tells c d → other c d) → (p q : _) (r : Result Collected Fault)
    → listed_in_turn tries more marks tells p r q → listed_in_turn tries more marks other p r q
in_turn_more tries more marks tells other w p q r z =
    until_each (λ p' q' r' y. announced_more tries marks tells other w p' q' r' y) z

-- what the env listed that stood there is the thread's
pub by_lister : (deed : List Bool → Deed Collected) {answer : Result Collected Fault} (old new : EnvHandle)
    (o : Option (Box Native)) (n m : Box Native) (k : Native)
    → o ≡ Some n → native_behind new ≡ Some m → k ≡ n.value → ListedBy k m.value deed answer
    → ByLister old new o deed answer
by_lister deed {answer} old new o n m k is left same listed =
    let there = subst (λ (x : Native). ListedBy x m.value deed answer) same listed in
    subst (λ (x : Option (Box Native)). ByLister old new x deed answer) (sym is) (m, left, there)

-- so of an env that is ready behind a handle, and was asked
pub by_ready_lister : (deed : List Bool → Deed Collected) {answer : Result Collected Fault} (h h' : EnvHandle)
    (a : EnvPlace) (n : Box Native) (k v : Native) → is_env h ≡ true → h' ≡ h → a ≡ h'.value → a.presence ≡ Ready n
    → k ≡ n.value → ListedBy k v deed answer
    → (h'.at ≡ h.at) × ByLister h
    (with_env_of h' (record { mark = a.mark; presence = Ready (with_value n v) })) (native_behind h) deed answer
by_ready_lister deed {answer} h h' a n k v is same lent there at listed = (
  ap (λ (x : EnvHandle). x.at) same,
  by_lister deed h (with_env_of h' (record { mark = a.mark; presence = Ready (with_value n v) }))
      (native_behind h) n (with_value n v) k (stood h h' a n is same lent (ap ready_in there))
      (stands h h' a (Some (with_value n v)) is same lent) at listed,
)

-- where no env is ready, it is refused, and nothing has changed
pub lists_nobody : (deed : List Bool → Deed Collected) (h h' : EnvHandle) (a : EnvPlace) (p : Presence)
    → is_env h ≡ true → h' ≡ h → a ≡ h'.value → a.presence ≡ p → ready_in p ≡ None
    → (h'.at ≡ h.at) × ByLister h (with_env_of h' a) (native_behind h) deed (Err (absence_in p))
lists_nobody deed h h' a p is same lent there none = (
  ap (λ (x : EnvHandle). x.at) same,
  subst (λ (o : Option (Box Native)). ByLister h (with_env_of h' a) o deed (Err (absence_in p)))
      (sym (empty h h' a p is same lent there none))
      (ap (λ (e : Fault). Err e) (absent h h' a p is same lent there), as_it_was h h' a same lent),
)
