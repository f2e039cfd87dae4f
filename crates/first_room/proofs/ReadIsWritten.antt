-- The element that the second thread read is the one that the first wrote.
use Rattle.std.proofs.Common.{◌≡◌, ◌≢◌, ◌<◌, ◌≤◌, ◌∙◌, ◌++◌, ◌==◌, ℕ, zero, suc, ℤ, pos, Bool, true, false, cond, Some}
use Rattle.std.proofs.Common.{List, [], ◌∷◌, length, length-append, slice_get, slice_index_or, Result, Ok}
use Rattle.std.proofs.Common.{append_assoc, arith}
use Rattle.std.proofs.Common.{ap, refl, subst, sym}
use Rattle.std.proofs.Math.Logic.{∥∥₁_elim}
use Rattle.std.proofs.Props.{props}
use Rattle.std.proofs.lemmas.List.{append-nil}
use Rattle.std.specs.Int.{w32}
use Rattle.std.specs.List.{AllByRecursion}
use mathlib.Core.List.{IsPrefix}
use Rattle.jr_word.specs.declared.config.Config.{Config}
use Rattle.jr_word.specs.declared.fault.Fault.{Fault}
use Rattle.jr_word.specs.declared.kind.Kind.TheVariants.{Int}
use Rattle.jr_word.specs.Elem.{signed_of}
use Rattle.jr_model.specs.CollectionCalls.{collection_acts}
use Rattle.jr_model.specs.declared.event.Act.{Act}
use Rattle.jr_model.specs.declared.event.Act.TheVariants.{Gate, Meet, Read}
use Rattle.jr_model.specs.declared.event.Event.{Event}
use Rattle.jr_model.specs.declared.event.GateAct.TheVariants.{Leave}
use Rattle.jr_model.specs.declared.summary.Summary.{Summary}
use Rattle.jr_model.specs.State.{Contents, State}
use Rattle.jr_model.specs.Steps.{after}
use Rattle.jr_model.specs.History.{Did, History, IsLegal, IsLegalFrom, PassView, by, mine, state}
use Rattle.jr_model.proofs.Exactly.{all_others, own_cut}
use Rattle.jr_model.proofs.Gates.{apart_state}
use Rattle.jr_model.proofs.Histories.{legal_append, mine_append, state_append}
use Rattle.jr_model.proofs.Moments.{prefix_trans}
use Rattle.jr_model.proofs.Stays.{mine_did, still_along}
use Rattle.jr_gate.specs.Performing.{ThreadState}
use Rattle.jr_env.specs.Deeds.{Deed}
use Rattle.jr_threads.specs.Parts.{ComesOfDeed, IsThreadPart, RanTogether, pass_that_saw, replied}
use Rattle.jr_threads.specs.Parts.{start_moment}
use Rattle.first_room.specs.declared.TheConstants.{SIZES}
use Rattle.first_room.specs.declared.message.Found.{Found}
use Rattle.first_room.specs.declared.message.Found.TheVariants.{Shared, Visited}
use Rattle.first_room.specs.Calls.{has_found, sharing, story_of, visiting}
use Rattle.first_room.specs.Hour.{IsTrueReport}
use Rattle.first_room.proofs.Arrays.{arrays_in, filling, second_is_twenty, touched}
use Rattle.first_room.proofs.Touching.{HasInts, sweeps_none, touches, touching, touching_append}
use Rattle.first_room.proofs.Traces.{DidJust, HasShared, HasVisited, has_shared, has_visited, so_then, traced}

-- which acts of a thread do
abbrev own : History → ℕ → List Act
own es t = touching (mine es t)

own_append : (xs ys : History) (t : ℕ) → own (xs ++ ys) t ≡ own xs t ++ own ys t
own_append xs ys t = ap touching (mine_append xs ys t) ∙ touching_append (mine xs t) (mine ys t)

both_none : (xs ys : List Act) → xs ++ ys ≡ [] → (xs ≡ []) × (ys ≡ [])
both_none [] ys e = (refl, e)
both_none (x ∷ xs) ys e = absurd cc

none_left : (xs ys zs : List Act) → xs ++ ys ≡ zs → length xs ≡ length zs → ys ≡ []
none_left xs [] zs e l = refl
none_left xs (y ∷ ys) zs e l = absurd (let n = length-append xs (y ∷ ys) in
    let m = ap (λ (k : List Act). length k) e in omega arith)

one_none : (a : Act) (l : List Act) → cond (touches a) (a ∷ l) l ≡ [] → (touches a ≡ false) × (l ≡ [])
one_none a l e = go (touches a) e
  where
    go : (b : Bool) → cond b (a ∷ l) l ≡ [] → (b ≡ false) × (l ≡ [])
    go true e = absurd cc
    go false e = (refl, e)

module _ (c : Config) (last : ℕ) (two : c.threads ≡ 2) where
  -- of two threads, of which the second does nothing of the sort, the first alone does
  only_first : (s : State) (es : History) → IsLegalFrom c last s es → own es 1 ≡ [] → touched es ≡ own es 0
  only_first s [] l none = refl
  only_first s (e ∷ es) l none = go e.thread refl (only_first (after s e) es l.1)
    where
      all : List Act
      all = cond (touches e.act) (e.act ∷ touched es) (touched es)

      by_one : (n : ℕ) → e.thread ≡ n → touching (cond (n == 1) (e.act ∷ mine es 1) (mine es 1)) ≡ []
      by_one n is = subst (λ m. touching (cond (m == 1) (e.act ∷ mine es 1) (mine es 1)) ≡ []) is none

      go : (n : ℕ) → e.thread ≡ n → (own es 1 ≡ [] → touched es ≡ own es 0) → touched (e ∷ es) ≡ own (e ∷ es) 0
      go zero is rest = subst (λ n. all ≡ touching (cond (n == 0) (e.act ∷ mine es 0) (mine es 0))) (sym is)
          (ap (λ l. cond (touches e.act) (e.act ∷ l) l) (rest (by_one zero is)))
      go (suc zero) is rest =
          let z = one_none e.act (own es 1) (by_one (suc zero) is) in
          subst (λ n. all ≡ touching (cond (n == 0) (e.act ∷ mine es 0) (mine es 0))) (sym is)
          (ap (λ b. cond b (e.act ∷ touched es) (touched es)) z.0 ∙ rest z.1)
      go (suc (suc n)) is rest = absurd (let below = l.0.0 in omega arith)

  module _ (whole : History) (legal : IsLegal c last whole) (none : own whole 1 ≡ []) where
    prefix_legal : (es : History) → IsPrefix es whole → IsLegal c last es
    prefix_legal es p = ((legal_append c last es p.0).0 (subst (IsLegal c last) (sym p.1) legal)).0

    -- at each moment
    touched_by : (es : History) → IsPrefix es whole → touched es ≡ own es 0
    touched_by es p = only_first (state []) es (prefix_legal es p)
        (both_none (own es 1) (own p.0 1) (sym (own_append es p.0 1) ∙ (ap (λ l. own l 1) p.1 ∙ none))).0

    -- once the first has done all that it does, nothing more is done
    touched_since : (noted es : History) (p : IsPrefix noted es) (q : IsPrefix es whole)
        → length (own noted 0) ≡ length (own whole 0) → touched es ≡ own noted 0
    touched_since noted es p q long =
        let rest : own noted 0 ++ own (p.0 ++ q.0) 0 ≡ own whole 0 = sym (own_append noted (p.0 ++ q.0) 0)
        ∙ ap (λ l. own l 0) (sym (append_assoc noted p.0 q.0) ∙ (ap (λ l. l ++ q.0) p.1 ∙ q.1)) in
        let later = none_left (own noted 0) (own (p.0 ++ q.0) 0) (own whole 0) rest long in
        let between = (both_none (own p.0 0) (own q.0 0) (sym (own_append p.0 q.0 0) ∙ later)).0 in
        touched_by es q ∙ (ap (λ l. own l 0) (sym p.1)
        ∙ (own_append noted p.0 0 ∙ (ap (λ l. own noted 0 ++ l) between ∙ append-nil (own noted 0))))

-- what a thread did from its first moment
from_start : {l : List Act} {c : Config} {last t : ℕ} {v : PassView} → DidJust l (pass_that_saw c last t []) v
    → own v.seen t ≡ l
from_start d = ap touching d.did.own ∙ d.so

did_own : {l : List Act} {c : Config} {last t : ℕ} {seen : History} {v : PassView} → v ≡ pass_that_saw c last t seen
    → DidJust l (pass_that_saw c last t []) v → own seen t ≡ l
did_own {t = t} is d = ap (λ (z : PassView). own z.seen t) (sym is) ∙ from_start d

pub served : {A : Type 0} (deed : Deed A) {old new : ThreadState} (x : A) → replied deed old (Ok (Ok x)) new
    → deed old (Ok x) new
served {A} deed {old} {new} x was = subst (λ r. deed old r new) (same was.0 was.1) was.2
  where
    same : (r : Result A Fault) → ◌≡◌ {A = Result (Result A Fault) Fault} (Ok (Ok x)) (Ok r) → r ≡ Ok x
    same r e = cc

-- the object is an array of ints where its element is read
record IsReadThere (c : Config) (last o word : ℕ) (opened read : History) : Type 0 where
  there : History
  begins : IsPrefix opened there
  ends : IsPrefix there read
  contents : Contents
  is : (state there).objects o ≡ Some contents
  ints : contents.kind ≡ Int
  word_is : slice_get contents.words 1 ≡ Some word

read_there : (opened read : PassView) (o word : ℕ) → Did opened read (Read o 1 word ∷ []) → HasInts o (state read.seen)
    → IsReadThere opened.config opened.last o word opened.seen read.seen
read_there opened read o word d ints =
    let t = opened.thread in
    let event = by t (Read o 1 word) in
    let k = own_cut t [] (Read o 1 word) [] d.begins.0 (mine_did (Read o 1 word ∷ []) d) in
    let front = opened.seen ++ k.before in
    let is : front ++ event ∷ k.since ≡ read.seen = append_assoc opened.seen k.before (event ∷ k.since)
    ∙ (ap (λ l. opened.seen ++ l) (sym k.parts) ∙ d.begins.1) in
    let l = (legal_append opened.config opened.last front (event ∷ k.since)).0
    (subst (IsLegal opened.config opened.last) (sym is) d.legal) in
    let n = l.1.0.1 in
    let stays = others_stay t k.since (all_others t k.since k.rest) in
    let still = still_along opened.config opened.last t (state front) k.since
    (apart_state opened.config opened.last front l.0) n.0 stays l.1.1 in
    let later = still.objects o n.1 n.2 in
    let end : (state read.seen).objects o ≡ Some later.0 = ap (λ l. (state l).objects o) (sym is)
    ∙ (ap (λ s. s.objects o) (state_append front (event ∷ k.since)) ∙ later.1) in
    let contents : Some later.0 ≡ Some ints.contents = sym end ∙ ints.is in
    let same : later.0 ≡ ints.contents = cc in
    record {
      there = front;
      begins = (k.before, refl);
      ends = (event ∷ k.since, is);
      contents = n.1;
      is = n.2;
      ints = sym later.2 ∙ (ap (λ (z : Contents). z.kind) same ∙ ints.ints);
      word_is = n.3;
    }
  where
    others_stay : (t : ℕ) (es : History) → AllByRecursion (λ e. e.thread ≢ t) es
        → AllByRecursion (λ e. e ≢ by t (Gate Leave)) es
    others_stay t [] h = tt
    others_stay t (e ∷ es) h = ((λ is. h.0 (ap (λ (z : Event). z.thread) is)), others_stay t es h.1)

-- THE ELEMENT THAT WAS READ IS THE ONE THAT WAS WRITTEN
pub read_is_written : (sweep : List Act) (whole : History) (y : Found) (read : ℤ) → IsLegal SIZES 4294967295 whole
    → touching sweep ≡ [] → IsThreadPart has_found story_of SIZES 4294967295 sweep whole 0 (Ok y)
    → IsThreadPart has_found story_of SIZES 4294967295 sweep whole 1 (Ok (Visited read)) → read ≡ pos 20
read_is_written sweep whole y read legal no_touch one two = told ∙ ap (signed_of w32) twenty
  where
    e : ComesOfDeed SIZES 4294967295 0 (story_of 0) (Ok y) one.seen
    e = one.did refl

    d : ComesOfDeed SIZES 4294967295 1 (story_of 1) (Ok (Visited read)) two.seen
    d = two.did refl

    s : HasShared y (pass_that_saw SIZES 4294967295 0 []) (e.left).pass
    s = has_shared (start_moment SIZES 4294967295 0) e.left y (served sharing y e.does)

    h : HasVisited (Visited read) SIZES (pass_that_saw SIZES 4294967295 1 []) (d.left).pass
    h = has_visited (start_moment SIZES 4294967295 1) d.left (Visited read) (served visiting (Visited read) d.does)

    told : read ≡ signed_of w32 h.word
    told = let is = h.is in cc

    r : IsReadThere (h.opened).config (h.opened).last h.o h.word (h.opened).seen (h.read).seen
    r = read_there h.opened h.read h.o h.word h.reads h.ints

    ends : IsPrefix (d.left).pass.seen whole
    ends = subst (λ (v : PassView). IsPrefix v.seen whole) (sym d.saw) two.begins

    first_own : own whole 0 ≡ filling (s.traced).o (s.traced).p
    first_own = ap touching one.own ∙ (touching_append (mine one.seen 0) (sweep ++ Meet ∷ [])
        ∙ (ap (λ l. own one.seen 0 ++ l) (touching_append sweep (Meet ∷ []) ∙ ap (λ l. l ++ []) no_touch)
        ∙ (append-nil (own one.seen 0) ∙ did_own e.saw (so_then (s.traced).fills (so_then (s.traced).ends s.ends)))))

    second_none : own whole 1 ≡ []
    second_none =
        let learned : DidJust [] (pass_that_saw SIZES 4294967295 1 []) h.mid =
        record { acts = []; did = h.learned; so = refl } in
        let reads : DidJust [] h.opened h.read = record { acts = Read h.o 1 h.word ∷ []; did = h.reads; so = refl } in
        ap touching (two.own ∙ append-nil (mine two.seen 1))
        ∙ did_own d.saw (so_then learned (so_then h.first (so_then reads h.last)))

    twenty : h.word ≡ 20
    twenty = ∥∥₁_elim h.prepared (hlevel props) (λ z.
        let d = z.1 in
        let t = traced (start_moment SIZES 4294967295 0) d.left (z.0, h.global) d.does in
        let noted_own = did_own d.saw (so_then t.fills t.ends) in
        let filled_own = from_start t.fills in
        let up : IsPrefix r.there whole =
        prefix_trans _ _ whole r.ends (prefix_trans _ _ whole h.last.did.begins ends) in
        let begins : IsPrefix h.noted r.there = prefix_trans h.noted _ r.there h.begins
        (prefix_trans _ _ r.there h.first.did.begins r.begins) in
        let long : length (own h.noted 0) ≡ length (own whole 0) =
        ap (λ (l : List Act). length l) noted_own ∙ sym (ap (λ (l : List Act). length l) first_own) in
        let read_by = touched_since SIZES 4294967295 refl whole legal second_none h.noted r.there begins up long
        ∙ noted_own in
        let filled_up : IsPrefix t.filled.seen whole = prefix_trans _ _ whole
        (subst (λ (v : PassView). IsPrefix t.filled.seen v.seen) d.saw t.ends.did.begins)
        (prefix_trans h.noted r.there whole begins up) in
        let filled_by = touched_by SIZES 4294967295 refl whole legal second_none t.filled.seen filled_up ∙ filled_own in
        let there = arrays_in t.filled.seen (filling t.o t.p) filled_by t.p t.ints.contents t.ints.is t.ints.ints in
        let found = arrays_in r.there (filling t.o t.p) read_by h.o r.contents r.is r.ints in
        let both : Some h.word ≡ Some 20 = sym r.word_is
        ∙ second_is_twenty t.o t.p h.o t.ints.contents r.contents there found in
        cc)

-- THE REPORT IS TRUE of what the two threads answered
pub is_true : (answers : List (Result Found Fault)) (left : Summary) (inside : ℕ) (cleared : Bool) (kind : ℕ) (read : ℤ)
    → RanTogether has_found story_of SIZES 4294967295 answers left
    → slice_index_or answers 0 (Ok (Shared inside cleared kind)) ≡ Ok (Shared inside cleared kind)
    → slice_index_or answers 1 (Ok (Visited read)) ≡ Ok (Visited read)
    → IsTrueReport (record { read = read; inside = inside; cleared = cleared; kind = kind; left = left })
is_true answers left inside cleared kind read ran first second =
    let x = Shared inside cleared kind in
    let part : (t : ℕ) (y : Found) → t < 2 → slice_index_or answers t (Ok y) ≡ Ok y
    → IsThreadPart has_found story_of SIZES 4294967295 (collection_acts ran.cleared ran.dropped ran.used) ran.whole t
    (Ok y) =
    λ t y below is. subst (IsThreadPart has_found story_of SIZES 4294967295
    (collection_acts ran.cleared ran.dropped ran.used) ran.whole t) is (ran.parts t (Ok y) below) in
    let one = part 0 x (omega arith) first in
    let d = one.did refl in
    let s = has_shared (start_moment SIZES 4294967295 0) d.left x (served sharing x d.does) in
    let same : s.inside ≡ inside = let is = s.is in cc in record {
      ran = subst (λ l. RanTogether has_found story_of SIZES 4294967295 l left)
          (both answers (Ok x) (Ok (Visited read)) ran.count first second) ran;
      is_read = read_is_written (collection_acts ran.cleared ran.dropped ran.used) ran.whole x read ran.legal
          (sweeps_none ran.cleared ran.dropped ran.used) one (part 1 (Visited read) (omega arith) second);
      some = subst (λ n. 1 ≤ n) same s.some;
    }
  where
    both : {A : Type 0} (xs : List A) (x y : A) → length xs ≡ 2 → slice_index_or xs 0 x ≡ x → slice_index_or xs 1 y ≡ y
        → xs ≡ x ∷ y ∷ []
    both [] x y long one two = absurd (omega arith)
    both (a ∷ []) x y long one two = absurd (omega arith)
    both (a ∷ b ∷ []) x y long one two = λ i. one i ∷ two i ∷ []
    both (a ∷ b ∷ c ∷ rest) x y long one two = absurd (omega arith)
