-- WHAT THREADS HAND EACH OTHER is played: posts and waits, with the words as they are told. The story of a thread goes
-- on by each command.
use Rattle.std.proofs.Common.{◌≡◌, ◌<◌, ◌≤◌, ◌==◌, ℕ, zero, suc, Bool, true, false, cond}
use Rattle.std.proofs.Common.{Option, Some, None, Result, Ok, List, [], ◌∷◌, ◌++◌, map, length, slice_get}
use Rattle.std.proofs.Common.{inl, inr, refl, sym, ap, subst, ◌∙◌, arith, append-nil}
use Rattle.std.specs.Str.{bytes_eq}
use Rattle.std.specs.List.{AllByRecursion}
use mathlib.Core.List.{IsPrefix}
use Rattle.std.proofs.lemmas.Option.{slice_get_within}
use Rattle.jr_word.specs.declared.fault.Fault.{Fault}
use Rattle.jr_word.specs.declared.config.Config.{Config}
use Rattle.jr_word.specs.declared.handle.RefKind.{RefKind}
use Rattle.jr_word.specs.declared.handle.RefKind.TheVariants.{Local, Global, Weak}
use Rattle.jr_word.specs.Handle.{IsHandle, handle_word, reference_code}
use Rattle.jr_word.proofs.OneWord.{handle_word-injective}
use Rattle.jr_model.specs.declared.event.Act.{Act}
use Rattle.jr_model.specs.State.{Handle}
use Rattle.jr_model.specs.Frames.{Frames}
use Rattle.jr_model.specs.History.{Did, History, PassView, mine}
use Rattle.jr_model.proofs.Histories.{mine_append}
use Rattle.jr_model.proofs.Stays.{append_cancel}
use Rattle.jr_model.proofs.Updates.{eq_self, eq_true}
use Rattle.jr_model.proofs.Moments.{prefix_self}
use Rattle.jr_gate.specs.Performing.{ThreadState}
use Rattle.jr_world.specs.World.{Ref}
use Rattle.jr_world.specs.Births.{births}
use Rattle.jr_world.specs.Board.{word_under}
use Rattle.jr_world.specs.Doing.{Doing, Shared, by_step}
use Rattle.jr_world.specs.Doing.Doing.{ended}
use Rattle.jr_world.specs.Plays.{OthersGoOn, Plays, SharedStands, open_part}
use Rattle.jr_world.specs.Plays.Plays.{has_ended, listens, moves, says}
use Rattle.jr_world.specs.Playing.{HasComeTo}
use Rattle.jr_world.specs.Schedules.{pairs}
use Rattle.jr_world.proofs.Births.{worlds_are_so}
use Rattle.jr_world.proofs.Births.BornLists.{entry_stays, refs_stay, some_same}
use Rattle.jr_world.proofs.WordsPosted.{heard_born, posted_with}
use Rattle.jr_world.proofs.OpenParts.{open_long}
use Rattle.jr_world.proofs.Standing.{front_legal}
use Rattle.one_order.specs.Orders.{BoardOf, Item, NamedWords, Story}
use Rattle.one_order.specs.Orders.Story.{goes_on, has_heard, has_posted}
use Rattle.one_order.specs.Orders.Item.{does as acting, posts as posting, hears as hearing}
use Rattle.one_order.proofs.Lists.{all_append, all_weaker}
use Rattle.jr_syntax.specs.declared.command.Command.{Command}
use Rattle.jr_syntax.specs.declared.command.Command.TheVariants as commands
use Rattle.jr_syntax.specs.declared.verb.Make.TheVariants as make
use Rattle.jr_syntax.specs.declared.verb.OnName.TheVariants as on_name
use Rattle.jr_scripts.specs.declared.reply.Reply.{Reply}
use Rattle.jr_scripts.specs.declared.reply.Reply.TheVariants as replies
use Rattle.jr_scripts.specs.Commands.{awaited, deed}
use Rattle.jr_scripts.specs.Names.{Names, word_posted}
use Rattle.jr_scripts.specs.Places.{Place, by_region}
use Rattle.jr_scripts.specs.Posting.{IsAnswered, ThreadWords, reply_to_wait, said, words_after, words_with}
use Rattle.jr_scripts.specs.RegionCommands.{deed_at, deed_within}
use Rattle.jr_scripts.specs.Together.{posts_word, waits_for}
use Rattle.jr_scripts.proofs.LoneWords.{Has, has_after, has_now, ranked_below}
use Rattle.jr_scripts.proofs.TogetherRun.Moments.{EndsSo, HandleIs, IsPass, ReplyIs, Room, WordsAre, made_too, the_same}
use Rattle.jr_scripts.proofs.TogetherRun.Lists.{done_pairs}
use Rattle.jr_scripts.proofs.TogetherRun.Values.{born_handle, handle_later}
use Rattle.jr_scripts.proofs.TogetherRun.PlayedDeeds.{come_later}

-- THE NUMBER OF A WORD by births: 0 for NULL, and else one more than where it was born. A word that was never born has
-- one beyond all births
abbrev pub number_born : List (Handle × Option Ref) → ℕ → ℕ
number_born [] w = 1
number_born (e ∷ es) w = cond (handle_word e.0 == w) 1 (suc (number_born es w))

abbrev pub number_of : List (Handle × Option Ref) → ℕ → ℕ
number_of refs zero = 0
number_of refs w = number_born refs w

-- it is one more than the first place with the word
first_place : (refs : List (Handle × Option Ref)) (w i : ℕ) (g : Handle) (q : Option Ref)
    → slice_get refs i ≡ Some (g, q) → handle_word g ≡ w
    → ((j : ℕ) (h : Handle) (p : Option Ref) → slice_get refs j ≡ Some (h, p) → handle_word h ≡ w → i ≡ j)
    → number_born refs w ≡ suc i
first_place [] w i g q at is one = absurd cc
first_place (e ∷ es) w zero g q at is one =
    let here : handle_word e.0 ≡ w = ap (λ (z : Handle × Option Ref). handle_word z.0) (some_same e (g, q) at) ∙ is in
    ap (λ b. cond b 1 (suc (number_born es w))) (ap (λ v. v == w) here ∙ eq_self w)
first_place (e ∷ es) w (suc i) g q at is one = go (handle_word e.0 == w) refl
    (first_place es w i g q at is (λ j h p there so. let behind = one (suc j) h p there so in omega (arith, behind)))
  where
    go : (b : Bool) → (handle_word e.0 == w) ≡ b → number_born es w ≡ suc i
        → cond b 1 (suc (number_born es w)) ≡ suc (suc i)
    go true same rest = let bad = one 0 e.0 e.1 refl (eq_true (handle_word e.0) w same) in absurd cc
    go false other rest = ap suc rest

-- n is one more than a place with the word
abbrev HasPlace : List (Handle × Option Ref) → ℕ → ℕ → Type 0
HasPlace refs w n = (i : ℕ) × (g : Handle) × (q : Option Ref) × (n ≡ suc i) × (slice_get refs i ≡ Some (g, q))
    × (handle_word g ≡ w)

-- a number no more than the list is long is such a one
place_of : (refs : List (Handle × Option Ref)) (w : ℕ) → number_born refs w ≤ length refs
    → HasPlace refs w (number_born refs w)
place_of [] w small = absurd (omega (arith, small))
place_of (e ∷ es) w small = go (handle_word e.0 == w) refl small (place_of es w)
  where
    behind : HasPlace es w (number_born es w) → HasPlace (e ∷ es) w (suc (number_born es w))
    behind (i, g, q, is, at, so) = (suc i, g, q, ap suc is, at, so)

    go : (b : Bool) → (handle_word e.0 == w) ≡ b → cond b 1 (suc (number_born es w)) ≤ suc (length es)
        → (number_born es w ≤ length es → HasPlace es w (number_born es w))
        → HasPlace (e ∷ es) w (cond b 1 (suc (number_born es w)))
    go true same few rest = (0, e.0, e.1, refl, refl, eq_true (handle_word e.0) w same)
    go false other few rest = behind (rest (omega (arith, few)))

-- the word of no handle is 0
some_word : (g : Handle) → 0 < handle_word g
some_word g = let code = by_kind g.kind in omega (arith, code)
  where
    by_kind : (k : RefKind) → 0 < reference_code k
    by_kind Local = omega arith
    by_kind Global = omega arith
    by_kind Weak = omega arith

born_number : (refs : List (Handle × Option Ref)) (w : ℕ) → 0 < w → number_of refs w ≡ number_born refs w
born_number refs zero more = absurd (omega (arith, more))
born_number refs (suc w) more = refl

-- an entry of a moment stands in the whole
entry_whole : (r : Room) (h : History) → IsPrefix h r.whole → (i : ℕ) (g : Handle) (q : Option Ref)
    → slice_get (births h).refs i ≡ Some (g, q)
    → (p : Option Ref) × (slice_get (births r.whole).refs i ≡ Some (g, p))
entry_whole r h (rest, is) i g q at =
    subst (λ es. (p : Option Ref) × (slice_get (births es).refs i ≡ Some (g, p))) is (entry_stays h rest i g (q, at))

-- it is the one by which the word is told
number_is : (r : Room) (h : History) → IsPrefix h r.whole → (w n : ℕ) → HandleIs h w n
    → number_of (births r.whole).refs w ≡ n
number_is r h begins w zero is = ap (number_of (births r.whole).refs) is
number_is r h begins w (suc i) (g, q, at, is) =
    let there = entry_whole r h begins i g q at in
    let more : 0 < w = subst (λ v. 0 < v) (sym is) (some_word g) in
    born_number (births r.whole).refs w more
    ∙ first_place (births r.whole).refs w i g there.0 there.1 (sym is) (one there.0 there.1)
  where
    born : (j : ℕ) (x : Handle) (p : Option Ref) → slice_get (births r.whole).refs j ≡ Some (x, p)
        → IsHandle x
    born = born_handle r r.whole (prefix_self r.whole)

    one : (s : Option Ref) → slice_get (births r.whole).refs i ≡ Some (g, s)
        → (j : ℕ) (x : Handle) (p : Option Ref) → slice_get (births r.whole).refs j ≡ Some (x, p) → handle_word x ≡ w
        → i ≡ j
    one s here j x p there so =
        let same : x ≡ g = handle_word-injective x g (born j x p there) (born i g s here) (so ∙ is) in
        (worlds_are_so r.config r.last r.whole r.legal).one_ref i j g s p here
        (subst (λ (z : Handle). slice_get (births r.whole).refs j ≡ Some (z, p)) same there)

get_within : {X : Type 0} (xs : List X) (i : ℕ) → i < length xs → (x : X) × (slice_get xs i ≡ Some x)
get_within [] i less = absurd (omega (arith, less))
get_within (x ∷ xs) zero less = (x, refl)
get_within (x ∷ xs) (suc i) less = get_within xs i (omega (arith, less))

-- a word whose number counts no more than were born by then is told by it
told_is : (r : Room) (now : History) → IsPrefix now r.whole → (w : ℕ)
    → number_of (births r.whole).refs w ≤ length (births now).refs
    → HandleIs now w (number_of (births r.whole).refs w)
told_is r now begins zero small = refl
told_is r now (rest, is) (suc v) small =
    let all : length (births now).refs ≤ length (births r.whole).refs =
    subst (λ es. length (births now).refs ≤ length (births es).refs) is (refs_stay now rest) in
    go (place_of (births r.whole).refs (suc v) (omega (arith, small, all)))
  where
    go : HasPlace (births r.whole).refs (suc v) (number_born (births r.whole).refs (suc v))
        → HandleIs now (suc v) (number_born (births r.whole).refs (suc v))
    go (i, g, q, number, at, so) =
        let less : i < length (births now).refs =
        (let few : suc i ≤ length (births now).refs = subst (λ k. k ≤ length (births now).refs) number small in
        omega (arith, few)) in
        let there = get_within (births now).refs i less in
        let whole = entry_whole r now (rest, is) i there.0.0 there.0.1 there.1 in
        let same : (there.0.0, whole.0) ≡ (g, q) =
        some_same (there.0.0, whole.0) (g, q) (sym whole.1 ∙ at) in
        subst (HandleIs now (suc v)) (sym number) (
          there.0.0,
          there.0.1,
          there.1,
          sym so ∙ ap (λ (z : Handle × Option Ref). handle_word z.0) (sym same),
        )

-- the number by which a word is told counts no more than were born
told_small : (h : History) (w n : ℕ) → HandleIs h w n → n ≤ length (births h).refs
told_small h w zero is = omega arith
told_small h w (suc i) (g, q, at, is) = let less = slice_get_within (births h).refs i (g, q) at in omega (arith, less)

-- the board of a run, with words as they are told
abbrev pub told_of_board : List (Handle × Option Ref) → Option (ℕ × History) → Option (ℕ × List (ℕ × Act))
told_of_board refs None = None
told_of_board refs (Some (w, seen)) = Some (number_of refs w, pairs seen)

abbrev pub told_board : List (Handle × Option Ref) → (List ℕ → Option (ℕ × History)) → BoardOf Act
told_board refs board n = told_of_board refs (board n)

-- what a wait did: it heard the word that it answers, where the thread had none; else nothing
abbrev pub waited_items : List (Handle × Option Ref) → List ℕ → Option ℕ → Result Reply Fault → List (Item Act)
waited_items refs n None (Ok (replies.Made (Some h))) = hearing n (number_of refs h.0) ∷ []
waited_items refs n _ _ = []

-- what a thread did by a command, of which these are the acts
abbrev pub items_of : List (Handle × Option Ref) → Names → ThreadWords → Command → Result Reply Fault → List (Item Act)
    → List (Item Act)
items_of refs names words (commands.OnName v n) answer acts = posting n (number_of refs (word_posted names n)) ∷ []
items_of refs names words (commands.Make make.Wait n) answer acts = waited_items refs n (word_under words n) answer
items_of refs names words _ answer acts = acts

-- WHAT IS SHARED STANDS with one more word on the board
with_word : (c : Config) (t : ℕ) (now : History) (f : Frames) (s : Shared) (n : List ℕ) (k : ℕ)
    → SharedStands c t now f s → k ≤ length (births (open_part now)).refs
    → SharedStands c t now f (record s { board = s.board ++ (n, k) ∷ [] })
with_word c t now f s n k st small = record {
  objects = st.objects;
  refs = st.refs;
  owners = st.owners;
  used = st.used;
  many = st.many;
  roles = st.roles;
  lists = st.lists;
  frames = st.frames;
  posted = posted_with (open_part now) s.board n k st.posted small;
  places = st.places;
  agreed = st.agreed;
  sound = st.sound;
}

-- where others went on, the thread has come there with what it has
come_with_others : (c : Config) (whole : History) (t : ℕ) (pass : PassView) (past now : History) → pass.thread ≡ t
    → HasComeTo whole pass past → OthersGoOn c whole t past now → HasComeTo whole pass now
come_with_others c whole t pass past now is come goes = record {
  begins = goes.begins;
  own = ap (λ es. mine es pass.thread) goes.is ∙ mine_append past goes.since pass.thread
      ∙ ap (λ acts. mine past pass.thread ++ acts) (ap (mine goes.since) is ∙ goes.others)
      ∙ append-nil (mine past pass.thread) ∙ come.own;
}

-- the word that a name has, as it is told
word_told : (h : History) (had told : ThreadWords) → WordsAre h had told → (n : List ℕ) (w : ℕ)
    → word_under had n ≡ Some w → (k : ℕ) × (word_under told n ≡ Some k) × HandleIs h w k
word_told h [] [] are n w is = absurd cc
word_told h [] (y ∷ ys) are n w is = absurd are
word_told h (x ∷ xs) [] are n w is = absurd are
word_told h (x ∷ xs) (y ∷ ys) are n w is = go (bytes_eq n x.0) refl (word_told h xs ys are.2 n w)
  where
    also : (b : Bool) → bytes_eq n x.0 ≡ b → bytes_eq n y.0 ≡ b
    also b same = ap (bytes_eq n) (sym are.0) ∙ same

    go : (b : Bool) → bytes_eq n x.0 ≡ b
        → (word_under xs n ≡ Some w → (k : ℕ) × (word_under ys n ≡ Some k) × HandleIs h w k)
        → (k : ℕ) × (word_under (y ∷ ys) n ≡ Some k) × HandleIs h w k
    go true same rest =
        let here : x.1 ≡ w = some_same x.1 w (sym (ap (λ b. cond b (Some x.1) (word_under xs n)) same) ∙ is) in (
          y.1,
          ap (λ b. cond b (Some y.1) (word_under ys n)) (also true same),
          subst (λ v. HandleIs h v y.1) here are.1,
        )
    go false other rest =
        let found = rest (sym (ap (λ b. cond b (Some x.1) (word_under xs n)) other) ∙ is) in
        (found.0, ap (λ b. cond b (Some y.1) (word_under ys n)) (also false other) ∙ found.1, found.2)

none_told : (h : History) (had told : ThreadWords) → WordsAre h had told → (n : List ℕ)
    → word_under had n ≡ None → word_under told n ≡ None
none_told h [] [] are n is = refl
none_told h [] (y ∷ ys) are n is = absurd are
none_told h (x ∷ xs) [] are n is = absurd are
none_told h (x ∷ xs) (y ∷ ys) are n is = go (bytes_eq n x.0) refl (none_told h xs ys are.2 n)
  where
    go : (b : Bool) → bytes_eq n x.0 ≡ b → (word_under xs n ≡ None → word_under ys n ≡ None)
        → word_under (y ∷ ys) n ≡ None
    go true same rest = let bad = sym (ap (λ b. cond b (Some x.1) (word_under xs n)) same) ∙ is in absurd cc
    go false other rest =
        ap (λ b. cond b (Some y.1) (word_under ys n)) (ap (bytes_eq n) (sym are.0) ∙ other)
        ∙ rest (sym (ap (λ b. cond b (Some x.1) (word_under xs n)) other) ∙ is)

-- what a wait learned, whatever it answered
record Waited (old new : ThreadState) : Type 0 where
  pub did : Did old.pass new.pass []
  pub frames : new.frames ≡ old.frames

-- of one that was answered by a word
has_waited : (old new : ThreadState) (w : ℕ) (answer : Result Reply Fault) → awaited old answer new
    → answer ≡ reply_to_wait (Some w) → Waited old new
has_waited old new w answer (inl (h, is, learned)) found = record { did = learned.did; frames = learned.frames }
has_waited old new w answer (inr (is, same)) found = let bad = sym is ∙ found in absurd cc

-- .. and of one that was not
waited_in_vain : (old new : ThreadState) (answer : Result Reply Fault) → awaited old answer new
    → answer ≡ reply_to_wait None → new ≡ old
waited_in_vain old new answer (inl (h, is, learned)) found = let bad = sym is ∙ found in absurd cc
waited_in_vain old new answer (inr (is, same)) found = same

-- WHAT A THREAD DOES of what is seen, as pairs

pairs_append : (xs ys : History) → pairs (xs ++ ys) ≡ pairs xs ++ pairs ys
pairs_append [] ys = refl
pairs_append (x ∷ xs) ys = ap (λ l. (x.thread, x.act) ∷ l) (pairs_append xs ys)

-- a story goes on by what its thread did, and saw of others
story_since : (board : BoardOf Act) (rank : List ℕ → ℕ) (t : ℕ) (old new : PassView) (acts : List Act)
    (items : List (Item Act)) (ws : NamedWords) → old.thread ≡ t → Did old new acts
    → Story board rank t items (pairs old.seen) ws
    → Story board rank t (items ++ map acting acts) (pairs new.seen) ws
story_since board rank t old new acts items ws is moved story =
    subst (λ seen. Story board rank t (items ++ map acting acts) seen ws)
    (sym (pairs_append old.seen moved.begins.0) ∙ ap pairs moved.begins.1)
    (subst (λ l. Story board rank t (items ++ map acting l) (pairs old.seen ++ pairs moved.begins.0) ws)
    (done_pairs moved.begins.0 t ∙ own) (goes_on (pairs moved.begins.0) story))
  where
    own : mine moved.begins.0 t ≡ acts
    own = append_cancel (mine old.seen t) (mine moved.begins.0 t) acts (sym (mine_append old.seen moved.begins.0 t)
        ∙ ap (λ es. mine es t) moved.begins.1 ∙ subst (λ u. mine new.seen u ≡ mine old.seen u ++ acts) is moved.own)

-- .. and where it did nothing, it goes on with no item more
story_learned : (board : BoardOf Act) (rank : List ℕ → ℕ) (t : ℕ) (old new : PassView) (items : List (Item Act))
    (ws : NamedWords) → old.thread ≡ t → Did old new [] → Story board rank t items (pairs old.seen) ws
    → Story board rank t items (pairs new.seen) ws
story_learned board rank t old new items ws is moved story =
    subst (λ l. Story board rank t l (pairs new.seen) ws) (append-nil items)
    (story_since board rank t old new [] items ws is moved story)

module _ (r : Room) (t : ℕ) (small : t < r.config.threads) where
  -- A POST
  pub post_plays : (m : ThreadState) (past : History) (f : Frames) (n : List ℕ) (w k : ℕ) (behind : List (Item Act))
      → IsPass r.config r.last t m.pass → HasComeTo r.whole m.pass past → HandleIs past w k
      → Plays r.config r.whole t (λ later x. IsPrefix past later × EndsSo r t ReplyIs m (Ok replies.Done) later x) f
      behind
      (by_step (posts_word n k)) past f (posting n (number_of (births r.whole).refs w) ∷ [])
  post_plays m past f n w k behind is come told =
      subst (λ v. Plays r.config r.whole t (λ later x. IsPrefix past later
      × EndsSo r t ReplyIs m (Ok replies.Done) later x) f behind (by_step (posts_word n k)) past f (posting n v ∷ []))
      (sym (number_is r past come.begins w k told))
      (says true n k (λ now s goes st. (
        with_word r.config t now f s n k st (subst (λ m. k ≤ m)
            (sym (open_long r.config r.last now (front_legal r.config r.last r.whole t r.legal now goes.begins)))
            (told_small now w k (handle_later past now (goes.since, sym goes.is) w k told))),
        record { frames = λ u. refl; board = refl },
      )) (λ now s goes st. has_ended (Ok replies.Done) (
        (goes.since, sym goes.is),
        (come_with_others r.config r.whole t m.pass past now is.thread come goes, the_same replies.Done refl),
      )))

  -- A WAIT
  pub wait_plays : (old new : ThreadState) (past : History) (n : List ℕ) (had told : ThreadWords)
      (answer : Result Reply Fault) (behind : List (Item Act)) (heard : ℕ → Type 0)
      → IsPass r.config r.last t old.pass → IsPrefix new.pass.seen r.whole → HasComeTo r.whole old.pass past
      → WordsAre past had told → awaited old answer new → IsAnswered (word_under had n) heard (Unit {0}) answer
      → Plays r.config r.whole t (λ later x. IsPrefix past later × EndsSo r t ReplyIs new answer later x) new.frames
      behind (waits_for (word_under told n) n) past old.frames
      (waited_items (births r.whole).refs n (word_under had n) answer)
  wait_plays old new past n had told answer behind heard is begins come are did answered =
      go (word_under had n) refl answered
    where
      Refs : List (Handle × Option Ref)
      Refs = (births r.whole).refs

      So : History → Result Reply Fault → Doing Reply → Frames → List (Item Act) → Type 0
      So now reply d f items = Plays r.config r.whole t
          (λ later x. IsPrefix past later × EndsSo r t ReplyIs new reply later x) new.frames behind d now f items

      -- a pass that learned, and did nothing, has come to where it had
      learned_there : Did old.pass new.pass [] → HasComeTo r.whole new.pass past
      learned_there did = come_later old.pass new.pass [] past past is did come come.begins
          (sym (append-nil (mine past t)))

      -- at once the word that the thread has
      at_once : (w : ℕ) → answer ≡ reply_to_wait (Some w) → (k : ℕ) × (word_under told n ≡ Some k) × HandleIs past w k
          → So past answer (waits_for (word_under told n) n) old.frames (waited_items Refs n (Some w) answer)
      at_once w found (k, under, so) =
          let waited = has_waited old new w answer did found in
          subst (λ o. So past answer (waits_for o n) old.frames []) (sym under)
          (subst (λ f. So past answer (waits_for (Some k) n) f []) waited.frames
          (subst (λ z. So past z (waits_for (Some k) n) new.frames []) (sym found)
          (has_ended (reply_to_wait (Some k)) (
            ([], append-nil past),
            (
              learned_there waited.did,
              made_too so,
            ),
          ))))

      -- a word that it heard
      hears : (w : ℕ) → answer ≡ reply_to_wait (Some w)
          → So past answer (waits_for None n) old.frames (waited_items Refs n None answer)
      hears w found =
          let waited = has_waited old new w answer did found in
          let there = learned_there waited.did in
          subst (λ z. So past z (waits_for None n) old.frames (waited_items Refs n None z)) (sym found)
          (subst (λ f. So past (reply_to_wait (Some w)) (waits_for None n) f (hearing n (number_of Refs w) ∷ []))
          waited.frames (listens true n (number_of Refs w)
          (λ now s goes st on. (st, record { frames = λ u ne. refl; board = refl }))
          (λ now s goes st on. subst (λ o. So now (reply_to_wait (Some w)) (ended (reply_to_wait o)) new.frames [])
          (sym on) (has_ended (reply_to_wait (Some (number_of Refs w))) (
            (goes.since, sym goes.is),
            (
              come_with_others r.config r.whole t new.pass past now (waited.did.thread ∙ is.thread) there goes,
              made_too (told_is r now goes.begins w (subst (λ m. number_of Refs w ≤ m)
                  (open_long r.config r.last now (front_legal r.config r.last r.whole t r.legal now goes.begins))
                  (heard_born (open_part now) s.board n (number_of Refs w) st.posted on))),
            ),
          )))))

      -- no word
      in_vain : answer ≡ reply_to_wait None
          → So past answer (waits_for None n) old.frames (waited_items Refs n None answer)
      in_vain found =
          let same = waited_in_vain old new answer did found in
          let there = subst (λ (m : ThreadState). HasComeTo r.whole m.pass past) (sym same) come in
          subst (λ z. So past z (waits_for None n) old.frames (waited_items Refs n None z)) (sym found)
          (subst (λ (m : ThreadState). So past (reply_to_wait None) (waits_for None n) m.frames []) same
          (moves false new.frames (λ now s goes st. (st, record { frames = λ u ne. refl; board = refl }))
          (λ now s goes st. has_ended (reply_to_wait None) (
            (goes.since, sym goes.is),
            (
              come_with_others r.config r.whole t new.pass past now
                  (ap (λ (m : ThreadState). m.pass.thread) same ∙ is.thread) there goes,
              refl,
            ),
          ))))

      go : (o : Option ℕ) → word_under had n ≡ o → IsAnswered o heard (Unit {0}) answer
          → So past answer (waits_for (word_under told n) n) old.frames (waited_items Refs n o answer)
      go (Some w) under found = at_once w found (word_told past had told are n w under)
      go None under (Some w, found, x) =
          subst (λ o. So past answer (waits_for o n) old.frames (waited_items Refs n None answer))
          (sym (none_told past had told are n under)) (hears w found)
      go None under (None, found, x) =
          subst (λ o. So past answer (waits_for o n) old.frames (waited_items Refs n None answer))
          (sym (none_told past had told are n under)) (in_vain found)

  -- THE STORY GOES ON by a command
  abbrev pub NamesIn : NamedWords → ThreadWords → Type 0
  NamesIn ws had = AllByRecursion (λ x. Has had x.0) ws

  -- one command more
  pub story_goes_on : (board : List ℕ → Option (ℕ × History)) (rank : List ℕ → ℕ) (turns : ℕ) (p : Place)
      (had : ThreadWords) (x : Command) (old new : ThreadState) (answer : Result Reply Fault) (acts : List Act)
      (items : List (Item Act)) (ws : NamedWords) → IsPass r.config r.last t old.pass
      → deed_at turns p x old answer new → Did old.pass new.pass acts
      → said board rank p.names had x old.pass.seen answer new.pass.seen → NamesIn ws had
      → Story (told_board (births r.whole).refs board) rank t items (pairs old.pass.seen) ws
      → (ws' : NamedWords) × NamesIn ws' (words_after p.names x answer had)
      × Story (told_board (births r.whole).refs board) rank t
      (items ++ items_of (births r.whole).refs p.names had x answer (map acting acts))
      (pairs new.pass.seen) ws'
  story_goes_on board rank turns p had x old new answer acts items ws is did moved spoke named story =
      by_command x did spoke
    where
      Refs : List (Handle × Option Ref)
      Refs = (births r.whole).refs

      So : History → List (Item Act) → NamedWords → Type 0
      So seen all words = Story (told_board Refs board) rank t all (pairs seen) words

      Next : Command → Type 0
      Next c = (ws' : NamedWords) × NamesIn ws' (words_after p.names c answer had)
          × So new.pass.seen (items ++ items_of Refs p.names had c answer (map acting acts)) ws'

      -- the words that it had
      still : (c : Command) → NamesIn ws (words_after p.names c answer had)
      still c = all_weaker (λ y has. has_after p.names c answer had y.0 has) ws named

      post_leaves : (n : List ℕ) (os : List ℕ) → by_region os (deed turns p.names (commands.OnName on_name.Post n))
          (deed_within p (commands.OnName on_name.Post n)) old answer new → new ≡ old
      post_leaves n [] d = d.1
      post_leaves n (o ∷ os) d = d.1

      posted : (n : List ℕ) → new ≡ old
          → (board n ≡ Some (word_posted p.names n, old.pass.seen)) × AllByRecursion (λ y. rank y.0 < rank n) had
          → Next (commands.OnName on_name.Post n)
      posted n same said_so =
          let k = number_of Refs (word_posted p.names n) in (
            ws ++ (n, k) ∷ [],
            all_append (λ y. Has (words_with had n (word_posted p.names n)) y.0) ws ((n, k) ∷ [])
                (still (commands.OnName on_name.Post n)) (has_now had n (word_posted p.names n), tt),
            subst (λ (m : ThreadState). So m.pass.seen (items ++ posting n k ∷ []) (ws ++ (n, k) ∷ [])) (sym same)
                (has_posted n k story (ap (told_of_board Refs) said_so.0)
                (all_weaker (λ y has. ranked_below rank had y.0 (rank n) said_so.1 has) ws named)),
          )

      wait_is : (n : List ℕ) (os : List ℕ) → by_region os (deed turns p.names (commands.Make make.Wait n))
          (deed_within p (commands.Make make.Wait n)) old answer new → awaited old answer new
      wait_is n [] d = d
      wait_is n (o ∷ os) d = d

      -- no word more
      without : (n : List ℕ) → waited_items Refs n (word_under had n) answer ≡ [] → So new.pass.seen items ws
          → Next (commands.Make make.Wait n)
      without n none goes = (
        ws,
        still (commands.Make make.Wait n),
        subst (λ l. So new.pass.seen (items ++ l) ws) (sym none)
            (subst (λ l. So new.pass.seen l ws) (sym (append-nil items)) goes),
      )

      learned : (w : ℕ) → awaited old answer new → answer ≡ reply_to_wait (Some w) → So new.pass.seen items ws
      learned w waits found = story_learned (told_board Refs board) rank t old.pass new.pass items ws is.thread
          (has_waited old new w answer waits found).did story

      heard : (n : List ℕ) (w : ℕ) → word_under had n ≡ None → awaited old answer new
          → answer ≡ reply_to_wait (Some w)
          → (begun : History) × (board n ≡ Some (w, begun)) × IsPrefix begun new.pass.seen
          → Next (commands.Make make.Wait n)
      heard n w under waits found (begun, on, (rest, begins)) =
          let k = number_of Refs w in
          let answer_is = reply_to_wait (Some w) in
          subst (λ (a : Result Reply Fault). (ws' : NamedWords)
          × NamesIn ws' (words_after p.names (commands.Make make.Wait n) a had)
          × So new.pass.seen (items ++ waited_items Refs n (word_under had n) a) ws') (sym found)
          (subst (λ o. (ws' : NamedWords) × NamesIn ws' (words_with had n w)
          × So new.pass.seen (items ++ waited_items Refs n o answer_is) ws') (sym under) (
            ws ++ (n, k) ∷ [],
            all_append (λ y. Has (words_with had n w) y.0) ws ((n, k) ∷ [])
                (all_weaker (λ y has. has_after p.names (commands.Make make.Wait n) answer_is had y.0 has) ws named)
                (has_now had n w, tt),
            has_heard n k (pairs begun) (pairs rest) (learned w waits found) (ap (told_of_board Refs) on)
                (sym (pairs_append begun rest) ∙ ap pairs begins),
          ))

      waited : (n : List ℕ) (o : Option ℕ) → word_under had n ≡ o → awaited old answer new
          → IsAnswered o (λ w. (begun : History) × (board n ≡ Some (w, begun)) × IsPrefix begun new.pass.seen)
          (Unit {0}) answer → Next (commands.Make make.Wait n)
      waited n (Some w) under waits found =
          without n (ap (λ z. waited_items Refs n z answer) under) (learned w waits found)
      waited n None under waits (Some w, found, there) = heard n w under waits found there
      waited n None under waits (None, found, there) = without n
          (ap (λ z. waited_items Refs n z answer) under
          ∙ ap (λ (a : Result Reply Fault). waited_items Refs n None a) found)
          (subst (λ (m : ThreadState). So m.pass.seen items ws) (sym (waited_in_vain old new answer waits found)) story)

      by_command : (c : Command) → deed_at turns p c old answer new
          → said board rank p.names had c old.pass.seen answer new.pass.seen → Next c
      by_command (commands.OnName on_name.Post n) d so = posted n (post_leaves n p.objects d) so
      by_command (commands.Make make.Wait n) d so = waited n (word_under had n) refl (wait_is n p.objects d) so
      by_command c d so = (
        ws,
        still c,
        story_since (told_board Refs board) rank t old.pass new.pass acts items ws is.thread moved story,
      )
