-- A THREAD'S TEXT IS PLAYED: its commands, one after the other, and then its end.
use Rattle.std.proofs.Common.{◌≡◌, ◌≢◌, ◌⊎◌, ◌≤◌, ◌<◌, ◌+◌, ℕ, zero, suc, length, Option, Some, Result, Ok, Err}
use Rattle.std.proofs.Common.{List, [], ◌∷◌, ◌++◌, map, Contains, inl, inr, refl, sym, ap, subst, ◌∙◌, arith}
use Rattle.std.proofs.Common.{append_assoc, append-nil}
use Rattle.std.proofs.lemmas.List.{map-append}
use Rattle.std.proofs.lemmas.List.Elements.{Contains-append_left, Contains-append_right, Contains-push_cases}
use Rattle.std.specs.FinMap.{get-empty}
use Rattle.std.specs.List.{AllByRecursion}
use mathlib.Core.List.{IsPrefix}
use Rattle.jr_word.specs.declared.fault.Fault.{Fault}
use Rattle.jr_model.specs.declared.event.Act.{Act}
use Rattle.jr_model.specs.declared.event.Act.TheVariants.{Meet}
use Rattle.jr_model.specs.declared.event.Role.TheVariants.{Within}
use Rattle.jr_model.specs.Frames.{Frames, fresh_frames}
use Rattle.jr_model.specs.History.{Did, History, PassView, mine, state}
use Rattle.jr_model.specs.CallPrograms as programs
use Rattle.jr_model.specs.Programs.{handed_none, nothing}
use Rattle.jr_model.proofs.Histories.{mine_append}
use Rattle.jr_model.proofs.Moments.{prefix_self, prefix_trans}
use Rattle.jr_model.proofs.Stays.{append_cancel, did_then}
use Rattle.jr_gate.specs.Performing.{ThreadState}
use Rattle.jr_env.specs.Deeds.{free_locals}
use Rattle.jr_world.specs.World.{how_many}
use Rattle.jr_world.specs.Births.{births}
use Rattle.jr_world.specs.Doing.{done as doing_done, unless_refused}
use Rattle.jr_world.specs.Plays.{Plays}
use Rattle.jr_world.specs.Plays.Plays.{has_ended, unseen}
use Rattle.jr_world.specs.Playing.{HasComeTo}
use Rattle.jr_world.specs.Schedules.{pairs}
use Rattle.jr_world.proofs.Joining.{joined_later, weakened}
use Rattle.jr_world.proofs.LookStands.{look_shows}
use Rattle.jr_world.proofs.Fullness.Counting.{both_long}
use Rattle.one_order.specs.Orders.{BoardOf, Item, NamedWords, Story, done_by}
use Rattle.one_order.specs.Orders.Item.{does as acting, posts as posting}
use Rattle.one_order.specs.Orders.Story.{begins as story_begins, goes_on as story_goes}
use Rattle.jr_syntax.specs.declared.command.Command.{Command}
use Rattle.jr_syntax.specs.declared.command.Command.TheVariants as commands
use Rattle.jr_syntax.specs.declared.verb.OnName.TheVariants as on_name
use Rattle.jr_syntax.specs.declared.thread.ThreadPart.{ThreadPart}
use Rattle.jr_scripts.specs.declared.binding.Binding.{Binding}
use Rattle.jr_scripts.specs.declared.reply.Reply.{Reply}
use Rattle.jr_scripts.specs.AllRuns.{IsPartOf, closing_acts, opening_of}
use Rattle.jr_scripts.specs.Explains.{Explained, Explains, nothing as no_command, then}
use Rattle.jr_scripts.specs.Commands.{gives_up}
use Rattle.jr_scripts.specs.Names.{Names, name_order, or_nothing, word_posted}
use Rattle.jr_scripts.specs.Places.{Place, nowhere, place_after}
use Rattle.jr_scripts.specs.PostedNames.{IsPosted}
use Rattle.jr_scripts.specs.Posting.{ThreadWords, said, words_after}
use Rattle.jr_scripts.specs.RegionCommands.{deed_at, giving_up, giving_up_all}
use Rattle.jr_scripts.specs.Runs.{IsFreed}
use Rattle.jr_scripts.specs.Text.{printed}
use Rattle.jr_scripts.specs.Together.{calls_on_none, closes_level, doing_at, ends_thread, lines_from}
use Rattle.jr_scripts.proofs.LoneWords.{Has}
use Rattle.jr_scripts.proofs.TogetherRun.Moments.{BindingIs, Counts, EndsSo, HasDid, HasLeft, IsPass, LevelsAre, Meant}
use Rattle.jr_scripts.proofs.TogetherRun.Moments.{Room, Stands, any_frames, times}
use Rattle.jr_scripts.proofs.TogetherRun.Lists.{done_pairs, given_up_more, none_given}
use Rattle.jr_scripts.proofs.TogetherRun.PlayedDeeds.{own_acts, pass_later, tried_did, tried_plays}
use Rattle.jr_scripts.proofs.TogetherRun.PlayedCalls.{entering_did, entering_refused, entering_none_plays}
use Rattle.jr_scripts.proofs.TogetherRun.RegionCommands.{giving_up_did, giving_up_plays, role_after}
use Rattle.jr_scripts.proofs.TogetherRun.HandedOn.{items_of, number_of, story_goes_on, told_board, told_of_board}
use Rattle.jr_scripts.proofs.TogetherRun.EachCommand.{HasEndedSo, command_did, command_plays}
use Rattle.jr_scripts.proofs.TogetherRun.SerialsLeft.{command_counts}

module _ (r : Room) (t : ℕ) (small : t < r.config.threads) (turns : ℕ) (board : List ℕ → Option (ℕ × History))
    (rank : List ℕ → ℕ) where
  -- what came of a thread's part: its story up to the end of the history, in which each name that it posts is posted.
  -- By it the part's program is played, and answers its lines
  pub record PartPlays (first : ℕ) (part : ThreadPart) (lines : List ℕ) : Type 0 where
    pub items : List (Item Act)
    pub words : NamedWords
    pub story : Story (told_board (births r.whole).refs board) rank t items (pairs r.whole) words
    pub posts : (n : List ℕ) → IsPosted part.commands n → (w : ℕ) × (seen : List (ℕ × Act))
        × (told_board (births r.whole).refs board n ≡ Some (w, seen)) × Contains items (posting n w)
    pub left : Frames
    pub plays : Plays r.config r.whole t (λ later answer. answer ≡ Ok lines) left []
        (lines_from r.config turns nowhere [] first [] part.commands) [] (fresh_frames r.config.locals) items

  abbrev Board : BoardOf Act
  Board = told_board (births r.whole).refs board

  -- a name is posted among the items
  abbrev IsAmong : List (Item Act) → List ℕ → Type 0
  IsAmong items n =
      (w : ℕ) × (seen : List (ℕ × Act)) × (Board n ≡ Some (w, seen)) × Contains items (posting n w)

  among_first : (items more : List (Item Act)) (n : List ℕ) → IsAmong items n → IsAmong (items ++ more) n
  among_first items more n (w, seen, is, at) = (w, seen, is, Contains-append_left items more (posting n w) at)

  among_last : (items more : List (Item Act)) (n : List ℕ) → IsAmong more n → IsAmong (items ++ more) n
  among_last items more n (w, seen, is, at) = (w, seen, is, Contains-append_right items more (posting n w) at)

  -- .. what a command posts
  post_among : (names : Names) (had : ThreadWords) (n : List ℕ) (seen after : History) (answer : Result Reply Fault)
      (acts : List (Item Act)) → said board rank names had (commands.OnName on_name.Post n) seen answer after
      → IsAmong (items_of (births r.whole).refs names had (commands.OnName on_name.Post n) answer acts) n
  post_among names had n seen after answer acts spoke = (
    number_of (births r.whole).refs (word_posted names n),
    pairs seen,
    ap (told_of_board (births r.whole).refs) spoke.0,
    (0, omega arith, refl),
  )

  -- THE COMMANDS
  module _ (first : ℕ) (V : History → Result (List ℕ) Fault → Type 0) (g : Frames) where
    -- the rest is played from each moment to which the thread has come
    abbrev RestPlays : List (Item Act) → ℕ → List ℕ → ThreadState → Place → ThreadWords → List Command → Type 0
    RestPlays more line text m place had rest = (later : History) (q : Place) (told : ThreadWords)
        → HasComeTo r.whole m.pass later → Stands later place q had told
        → Plays r.config r.whole t V g [] (lines_from r.config turns q told line text rest) later m.frames more

    -- commands are played from the thread's beginning
    abbrev PlayAtFirst : List Command → List (Item Act) → Type 0
    PlayAtFirst commands items = Plays r.config r.whole t V g []
        (lines_from r.config turns nowhere [] first [] commands) [] (fresh_frames r.config.locals) items

    -- what came of the commands so far
    record Reached (before : List Command) (text : List ℕ) (m : ThreadState) (place : Place) (had : ThreadWords)
        : Type 0 where
      pub pass : IsPass r.config r.last t m.pass
      pub items : List (Item Act)
      pub words : NamedWords
      pub known : AllByRecursion (λ x. Has had x.0) words
      pub story : Story Board rank t items (pairs m.pass.seen) words
      pub posts : (n : List ℕ) → IsPosted before n → IsAmong items n
      pub role : place.objects ≢ [] → (state m.pass.seen).role t ≡ Within
      pub left : (k : ℕ) → how_many gives_up before + k ≤ r.last → HasLeft r.last k m.frames
      pub plays : (more : List (Item Act)) (rest : List Command) → IsPrefix m.pass.seen r.whole
          → RestPlays more (first + length before) text m place had rest → PlayAtFirst (before ++ rest) (items ++ more)

    -- before the first command
    none_yet : Reached [] [] (opening_of r.config r.last t) nowhere []
    none_yet = record {
      pass = record { config = refl; last_is = refl; thread = refl; legal = tt };
      items = [];
      words = [];
      known = tt;
      story = story_begins;
      posts = λ n has. absurd (let less = has.1 in omega arith);
      role = λ some. absurd (some refl);
      left = λ k le. record {
        some_frame = omega arith;
        free = λ p held. let none = none_given r.config.locals p in omega (arith, none, le);
        all = λ p. let none = none_given r.config.locals p in omega (arith, none, le);
      };
      plays = λ more rest begins follows. subst (λ line. Plays r.config r.whole t V g []
          (lines_from r.config turns nowhere [] line [] rest) [] (fresh_frames r.config.locals) more)
          (let same : first + 0 ≡ first = omega arith in same)
          (follows [] nowhere [] (record { begins = (r.whole, refl); own = refl }) (record {
            names = λ n. subst (λ (o : Option Binding). BindingIs [] (or_nothing o) (or_nothing o))
                (sym (get-empty name_order n)) tt;
            levels = refl;
            objects = tt;
            words = tt;
          }));
    }

    -- one command more
    one_more : (before : List Command) (text : List ℕ) (mid new : ThreadState) (place : Place) (had : ThreadWords)
        (x : Command) (answer : Result Reply Fault) → Reached before text mid place had
        → deed_at turns place x mid answer new
        → said board rank place.names had x mid.pass.seen answer new.pass.seen
        → how_many gives_up (before ++ x ∷ []) ≤ r.last
        → Reached (before ++ x ∷ []) (text ++ printed (first + length before) x answer) new (place_after x answer place)
        (words_after place.names x answer had)
    one_more before text mid new place had x answer so did spoke few = record {
      pass = pass_later acts done so.pass;
      items = so.items ++ more_items;
      words = goes.0;
      known = goes.1;
      story = goes.2;
      posts = λ n has. by_cases n (Contains-push_cases before x (commands.OnName on_name.Post n) has);
      role = role_after r t small turns place x mid new answer so.pass so.role did;
      left = λ k le. counts.left k (so.left (times (gives_up x) + k) (omega (arith, many, le)));
      plays = plays;
    }
      where
        did_acts : (acts : List Act) × Did mid.pass new.pass acts
        did_acts = command_did r t small turns place x mid new answer so.pass did

        acts : List Act
        acts = did_acts.0

        done : Did mid.pass new.pass acts
        done = did_acts.1

        more_items : List (Item Act)
        more_items = items_of (births r.whole).refs place.names had x answer (map acting acts)

        many : how_many gives_up (before ++ x ∷ []) ≡ how_many gives_up before + times (gives_up x)
        many = given_up_more before x

        counts : Counts r.last (times (gives_up x)) mid new
        counts = command_counts r.config r.last t turns place x mid new answer so.pass did

        goes : (words : NamedWords)
            × AllByRecursion (λ y. Has (words_after place.names x answer had) y.0) words
            × Story Board rank t (so.items ++ more_items) (pairs new.pass.seen) words
        goes = story_goes_on r t small board rank turns place had x mid new answer acts so.items so.words so.pass did
            done spoke so.known so.story

        by_cases : (n : List ℕ) → IsPosted before n ⊎ (x ≡ commands.OnName on_name.Post n)
            → IsAmong (so.items ++ more_items) n
        by_cases n (inl has) = among_first so.items more_items n (so.posts n has)
        by_cases n (inr is) = among_last so.items more_items n
            (subst (λ y. IsAmong (items_of (births r.whole).refs place.names had y answer (map acting acts)) n) (sym is)
            (post_among place.names had n mid.pass.seen new.pass.seen answer (map acting acts)
            (subst (λ y. said board rank place.names had y mid.pass.seen answer new.pass.seen) is spoke)))

        plays : (more : List (Item Act)) (rest : List Command) → IsPrefix new.pass.seen r.whole
            → RestPlays more (first + length (before ++ x ∷ [])) (text ++ printed (first + length before) x answer) new
            (place_after x answer place) (words_after place.names x answer had) rest
            → PlayAtFirst ((before ++ x ∷ []) ++ rest) ((so.items ++ more_items) ++ more)
        plays more rest begins follows =
            subst (λ l. PlayAtFirst l ((so.items ++ more_items) ++ more)) (sym (append_assoc before (x ∷ []) rest))
            (subst (PlayAtFirst (before ++ x ∷ rest)) (sym (append_assoc so.items more_items more))
            (so.plays (more_items ++ more) (x ∷ rest)
            (prefix_trans mid.pass.seen new.pass.seen r.whole done.begins begins) from_here))
          where
            line : first + length before + 1 ≡ first + length (before ++ x ∷ [])
            line = let long = both_long before (x ∷ []) in omega (arith, long)

            from_here : RestPlays (more_items ++ more) (first + length before) text mid place had (x ∷ rest)
            from_here later q told come stands = joined_later r.config r.whole t
                (HasEndedSo r.whole new place q had told x answer) V new.frames g
                (λ a. lines_from r.config turns (place_after x a q) (words_after q.names x a told)
                (first + length before + 1) (text ++ printed (first + length before) x a) rest) more []
                (doing_at r.config turns q told q.objects x) later mid.frames more_items
                (command_plays r t small turns board rank place q had told x mid new later answer acts (more ++ [])
                so.pass did done spoke begins come stands (so.left (times (gives_up x)) (omega (arith, many, few)))
                so.role)
                (λ after a since ended. subst (λ l. Plays r.config r.whole t V g []
                (lines_from r.config turns (place_after x a q) (words_after q.names x a told)
                (first + length before + 1) l rest) after new.frames more)
                (ap (λ l. text ++ l) (ended.text (first + length before)))
                (subst (λ k. Plays r.config r.whole t V g []
                (lines_from r.config turns (place_after x a q) (words_after q.names x a told) k
                (text ++ printed (first + length before) x answer) rest) after new.frames more) (sym line)
                (follows after (place_after x a q) (words_after q.names x a told) ended.come ended.stands)))

    -- all of them
    reached : {before : List Command} {text : List ℕ} {m : ThreadState} {place : Place} {had : ThreadWords}
        → Explains (said board rank) turns first (opening_of r.config r.last t) before text m place had
        → how_many gives_up before ≤ r.last → Reached before text m place had
    reached no_command few = none_yet
    reached (then {before = before} {text = text} {mid = mid} {new = new} {place = place} {words = had} x answer earlier
        did spoke) few =
        let many = given_up_more before x in
        one_more before text mid new place had x answer (reached earlier (omega (arith, many, few))) did spoke few

  -- THE END: a region's, where one stands, and then the local references are freed
  record Ends (os : List ℕ) (done left : ThreadState) : Type 0 where
    pub acts : List Act
    pub did : Did done.pass left.pass acts
    pub plays : (names : Names) (words : ThreadWords) (js : List ℕ) (later : History) (behind : List (Item Act))
        → LevelsAre later os js → HasComeTo r.whole done.pass later
        → Plays r.config r.whole t (λ after x. Unit {0}) left.frames behind
        (ends_thread r.config turns names words js) later done.frames (map acting acts)

  -- the call that frees them
  free_did : HasDid r t free_locals
  free_did = entering_did r t small programs.free_locals (λ c. 0) handed_none

  freed_did : (told left : ThreadState) → IsPass r.config r.last t told.pass → IsFreed turns told left
      → (acts : List Act) × Did told.pass left.pass acts
  freed_did told left pass freed = tried_did r t turns free_did told left freed.answer pass freed.tries

  freed_plays : (told left : ThreadState) (later : History) (acts : List Act) (behind : List (Item Act)) (names : Names)
      (words : ThreadWords) → IsPass r.config r.last t told.pass → (freed : IsFreed turns told left)
      → Did told.pass left.pass acts → IsPrefix left.pass.seen r.whole → HasComeTo r.whole told.pass later
      → Plays r.config r.whole t (EndsSo r t (Meant r t nothing) left freed.answer) left.frames behind
      (calls_on_none r.config turns names words programs.free_locals) later told.frames (map acting acts)
  freed_plays told left later acts behind names words pass freed did begins come =
      (tried_plays r t {h = later} {F = any_frames} {V = Meant r t nothing} turns free_did
      (entering_refused r t small programs.free_locals (λ c. 0) handed_none)
      (λ after since. entering_none_plays r t small programs.free_locals (λ c. 0) (λ f any kind. tt))).plays told left
      later freed.answer acts behind pass freed.tries did begins come (prefix_self later, refl) tt

  -- .. where no region stands
  frees_all : (told left : ThreadState) → IsPass r.config r.last t told.pass → IsFreed turns told left
      → IsPrefix left.pass.seen r.whole → Ends [] told left
  frees_all told left pass freed begins = record { acts = did_acts.0; did = did_acts.1; plays = go }
    where
      did_acts : (acts : List Act) × Did told.pass left.pass acts
      did_acts = freed_did told left pass freed

      go : (names : Names) (words : ThreadWords) (js : List ℕ) (later : History) (behind : List (Item Act))
          → LevelsAre later [] js → HasComeTo r.whole told.pass later
          → Plays r.config r.whole t (λ after x. Unit {0}) left.frames behind
          (ends_thread r.config turns names words js) later told.frames (map acting did_acts.0)
      go names words [] later behind are come = weakened r.config r.whole t
          (EndsSo r t (Meant r t nothing) left freed.answer) (λ after x. Unit {0}) left.frames behind later
          (λ after x since end. tt) (prefix_self later)
          (freed_plays told left later did_acts.0 behind names words pass freed did_acts.1 begins come)
      go names words (j ∷ js) later behind are come = absurd are

  -- .. where one does: the thread has left the gate
  abbrev HaveGone : ThreadState → History → Result (Unit {0}) Fault → Type 0
  HaveGone told = EndsSo r t {A = Unit {0}} {B = Unit {0}} (λ after x y. Unit {0}) told (Ok tt)

  leaves_first : (o : ℕ) (os : List ℕ) (done told left : ThreadState) → IsPass r.config r.last t done.pass
      → giving_up 1 done (Ok tt) told → IsFreed turns told left → IsPrefix left.pass.seen r.whole
      → Ends (o ∷ os) done left
  leaves_first o os done told left pass gave freed begins = record {
    acts = left_acts.0 ++ frees.acts;
    did = did_then left_acts.0 frees.acts left_acts.1 frees.did;
    plays = go;
  }
    where
      left_acts : (acts : List Act) × Did done.pass told.pass acts
      left_acts = giving_up_did r t small 1 done told (Ok tt) pass gave

      frees : Ends [] told left
      frees = frees_all told left (pass_later left_acts.0 left_acts.1 pass) freed begins

      then_free : (names : Names) (words : ThreadWords) (behind : List (Item Act)) (after : History)
          (x : Result (Unit {0}) Fault) → HaveGone told after x
          → Plays r.config r.whole t (λ after x. Unit {0}) left.frames behind
          (unless_refused (λ u. calls_on_none r.config turns names words programs.free_locals) x) after told.frames
          (map acting frees.acts)
      then_free names words behind after (Ok u) end = frees.plays names words [] after behind tt end.0
      then_free names words behind after (Err e) end = absurd end.1

      go : (names : Names) (words : ThreadWords) (js : List ℕ) (later : History) (behind : List (Item Act))
          → LevelsAre later (o ∷ os) js → HasComeTo r.whole done.pass later
          → Plays r.config r.whole t (λ after x. Unit {0}) left.frames behind
          (ends_thread r.config turns names words js) later done.frames (map acting (left_acts.0 ++ frees.acts))
      go names words (j ∷ js) later behind are come = subst
          (Plays r.config r.whole t (λ after x. Unit {0}) left.frames behind
          (ends_thread r.config turns names words (j ∷ js)) later done.frames)
          (sym (map-append acting left_acts.0 frees.acts))
          (joined_later r.config r.whole t (HaveGone told) (λ after x. Unit {0}) told.frames left.frames
          (unless_refused (λ u. calls_on_none r.config turns names words programs.free_locals))
          (map acting frees.acts) behind (closes_level r.config turns names words 1) later done.frames
          (map acting left_acts.0)
          ((giving_up_plays r t small turns names words 1 later).plays done told later (Ok tt) left_acts.0
          (map acting frees.acts ++ behind) pass gave left_acts.1
          (prefix_trans told.pass.seen left.pass.seen r.whole frees.did.begins begins) come (prefix_self later, refl)
          tt)
          (λ after x since end. then_free names words behind after x end))
      go names words [] later behind are come = absurd are

  ends_so : (os : List ℕ) (done told left : ThreadState) → IsPass r.config r.last t done.pass
      → giving_up_all os done (Ok tt) told → IsFreed turns told left → IsPrefix left.pass.seen r.whole
      → Ends os done left
  ends_so [] done told left pass gave freed begins = subst (λ m. Ends [] m left) gave.1
      (frees_all told left (subst (λ (m : ThreadState). IsPass r.config r.last t m.pass) (sym gave.1) pass) freed
      begins)
  ends_so (o ∷ os) done told left pass gave freed begins = leaves_first o os done told left pass gave freed begins

  -- the look as the room closes is seen by nobody
  closing_plays : (u : ℕ) (lines : List ℕ) (g : Frames) (later : History)
      → Plays r.config r.whole t (λ later answer. answer ≡ Ok lines) g [] (doing_done lines) later g
      (map acting (closing_acts u))
  closing_plays zero lines g later = unseen Meet (λ now s next st. look_shows r.config t now g s Meet refl st)
      (λ now next. has_ended (Ok lines) refl)
  closing_plays (suc u) lines g later = has_ended (Ok lines) refl

  -- THE WHOLE PART
  pub part_plays : (first : ℕ) (part : ThreadPart) (lines : List ℕ)
      → IsPartOf board rank turns r.last r.config r.whole t first part lines
      → how_many gives_up part.commands ≤ r.last → PartPlays first part lines
  part_plays first part lines is few = record {
    items = so.items ++ map acting (end.acts ++ closing_acts t);
    words = so.words;
    story = story;
    posts = λ n has. among_first so.items (map acting (end.acts ++ closing_acts t)) n (so.posts n has);
    left = is.left.frames;
    plays = subst (λ l. PlayAtFirst first V is.left.frames l (so.items ++ map acting (end.acts ++ closing_acts t)))
        (append-nil part.commands) (so.plays (map acting (end.acts ++ closing_acts t)) [] begins_done to_end);
  }
    where
      V : History → Result (List ℕ) Fault → Type 0
      V later answer = answer ≡ Ok lines

      explained : Explained (said board rank) turns first (opening_of r.config r.last t) part.commands lines is.told
      explained = is.explained

      so : Reached first V is.left.frames part.commands lines explained.done explained.place explained.words
      so = reached first V is.left.frames explained.explains few

      seen_is : is.left.pass.seen ≡ is.seen
      seen_is = ap (λ (p : PassView). p.seen) is.saw

      begins : IsPrefix is.left.pass.seen r.whole
      begins = subst (λ h. IsPrefix h r.whole) (sym seen_is) is.begins

      end : Ends explained.place.objects explained.done is.left
      end = ends_so explained.place.objects explained.done is.told is.left so.pass explained.ended is.freed begins

      begins_done : IsPrefix explained.done.pass.seen r.whole
      begins_done = prefix_trans explained.done.pass.seen is.left.pass.seen r.whole end.did.begins begins

      own_rest : mine begins_done.0 t ≡ end.acts ++ closing_acts t
      own_rest = append_cancel (mine explained.done.pass.seen t) (mine begins_done.0 t) (end.acts ++ closing_acts t)
          (sym (mine_append explained.done.pass.seen begins_done.0 t)
          ∙ (ap (λ h. mine h t) begins_done.1
          ∙ (is.own
          ∙ (ap (λ l. l ++ closing_acts t) (ap (λ h. mine h t) (sym seen_is)
          ∙ own_acts end.acts so.pass end.did)
          ∙ append_assoc (mine explained.done.pass.seen t) end.acts (closing_acts t)))))

      story : Story Board rank t (so.items ++ map acting (end.acts ++ closing_acts t)) (pairs r.whole) so.words
      story = subst (λ l. Story Board rank t (so.items ++ map acting l) (pairs r.whole) so.words)
          (done_pairs begins_done.0 t ∙ own_rest)
          (subst (λ h. Story Board rank t (so.items ++ map acting (done_by (pairs begins_done.0) t)) h so.words)
          (sym (map-append (λ e. (e.thread, e.act)) explained.done.pass.seen begins_done.0)
          ∙ ap pairs begins_done.1)
          (story_goes (pairs begins_done.0) so.story))

      to_end : RestPlays first V is.left.frames (map acting (end.acts ++ closing_acts t))
          (first + length part.commands) lines explained.done explained.place explained.words []
      to_end later q told come stands = subst
          (Plays r.config r.whole t V is.left.frames []
          (lines_from r.config turns q told (first + length part.commands) lines []) later explained.done.frames)
          (sym (map-append acting end.acts (closing_acts t)))
          (joined_later r.config r.whole t (λ after x. Unit {0}) V is.left.frames is.left.frames
          (λ answer. doing_done lines) (map acting (closing_acts t)) []
          (ends_thread r.config turns q.names told q.objects) later explained.done.frames (map acting end.acts)
          (end.plays q.names told q.objects later (map acting (closing_acts t) ++ []) stands.objects come)
          (λ after x since unit. closing_plays t lines is.left.frames after))
