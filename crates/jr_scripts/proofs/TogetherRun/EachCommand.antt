-- EACH COMMAND IS PLAYED, wherever its thread stands.
use Rattle.std.proofs.Common.{◌≡◌, ◌≢◌, ◌<◌, ◌++◌, ℕ, suc, false, Option, Some, List, [], ◌∷◌, map, length, Result, Ok}
use Rattle.std.proofs.Common.{Err, inl, inr, refl, sym, ap, subst, ◌∙◌}
use Rattle.std.specs.List.{AllByRecursion}
use mathlib.Core.List.{IsPrefix}
use Rattle.jr_word.specs.declared.fault.Fault.{Fault}
use Rattle.jr_model.specs.declared.event.Act.{Act}
use Rattle.jr_model.specs.declared.frames.Mode.{Mode}
use Rattle.jr_model.specs.declared.event.Role.TheVariants.{Outside, Within}
use Rattle.jr_model.specs.History.{Did, History, mine, role_from, state}
use Rattle.jr_model.proofs.Histories.{mine_append}
use Rattle.jr_model.proofs.Moments.{prefix_self}
use Rattle.jr_model.proofs.Stays.{append_cancel, role_of_state}
use Rattle.jr_gate.specs.Performing.{ThreadState}
use Rattle.jr_world.specs.World.{all_but_last}
use Rattle.jr_world.specs.Births.{births}
use Rattle.jr_world.specs.Doing.{Doing}
use Rattle.jr_world.specs.Plays.{Plays}
use Rattle.jr_world.specs.Playing.{HasComeTo}
use Rattle.jr_world.proofs.Joining.{weakened}
use Rattle.jr_world.proofs.Standing.{Stays, is_of_gate}
use Rattle.one_order.specs.Orders.{Item}
use Rattle.one_order.specs.Orders.Item.{does as acting}
use Rattle.jr_syntax.specs.declared.command.Command.{Command}
use Rattle.jr_syntax.specs.declared.command.Command.TheVariants as commands
use Rattle.jr_syntax.specs.declared.verb.CloseLevel.{CloseLevel}
use Rattle.jr_syntax.specs.declared.verb.Make.TheVariants as make
use Rattle.jr_syntax.specs.declared.verb.OnName.TheVariants as on_name
use Rattle.jr_scripts.specs.declared.binding.Binding.{Binding}
use Rattle.jr_scripts.specs.declared.binding.Binding.TheVariants as bound
use Rattle.jr_scripts.specs.declared.reply.Reply.{Reply}
use Rattle.jr_scripts.specs.declared.reply.Reply.TheVariants as replies
use Rattle.jr_scripts.specs.Commands.{awaited, deed}
use Rattle.jr_scripts.specs.Commands.{gives_up}
use Rattle.jr_scripts.specs.Names.{Names, binding, word_of_reference, word_posted}
use Rattle.jr_scripts.specs.Places.{Place, by_region, objects_after, place_after}
use Rattle.jr_scripts.specs.Posting.{ThreadWords, said, words_after}
use Rattle.jr_scripts.specs.RegionCommands.{deed_at, deed_within, giving_up}
use Rattle.jr_scripts.specs.Text.{printed}
use Rattle.jr_scripts.specs.Together.{closes_level, doing_at, doing_outside, doing_within}
use Rattle.jr_scripts.proofs.TogetherRun.Moments.{AnswerSo, BindingIs, DeedPlays, EndsSo, HandleIs, HasDid, HasLeft}
use Rattle.jr_scripts.proofs.TogetherRun.Moments.{IsPass, LevelsAre, ReplyIs, Room, Stands, any_frames, times}
use Rattle.jr_scripts.proofs.TogetherRun.Moments.ReplyIs.{the_same}
use Rattle.jr_scripts.proofs.TogetherRun.Values.{levels_later, levels_long, printed_alike, stands_after, stands_later}
use Rattle.jr_scripts.proofs.TogetherRun.PlayedDeeds.{awaited_did, decided_did, formed_did, nothing_did, one_did}
use Rattle.jr_scripts.proofs.TogetherRun.PlayedDeeds.{own_come, own_since, replied_plays}
use Rattle.jr_scripts.proofs.TogetherRun.OutsideCommands.{outside_did, outside_plays}
use Rattle.jr_scripts.proofs.TogetherRun.RegionCommands.{gives_up_level, giving_up_did, giving_up_plays, inside_did}
use Rattle.jr_scripts.proofs.TogetherRun.RegionCommands.{inside_plays, inside_stays}
use Rattle.jr_scripts.proofs.TogetherRun.CollectedCommand.{collecting_did, collecting_plays}
use Rattle.jr_scripts.proofs.TogetherRun.AnnouncedCommand.{announced_did, announced_plays}
use Rattle.jr_scripts.proofs.TogetherRun.HandedOn.{items_of, post_plays, wait_plays}

-- WHERE A COMMAND HAS ENDED: its thread has come there with the pass. The text is the same, and the place and the words
-- behind it are as they are told
pub record HasEndedSo (whole : History) (new : ThreadState) (p q : Place) (had told : ThreadWords) (x : Command)
    (answer : Result Reply Fault) (later : History) (a : Result Reply Fault) : Type 0 where
  pub come : HasComeTo whole new.pass later
  pub text : (line : ℕ) → printed line x answer ≡ printed line x a
  pub stands : Stands later (place_after x answer p) (place_after x a q) (words_after p.names x answer had)
      (words_after q.names x a told)

-- the word that is posted, and the number by which it is told
posted_is : (h : History) (b d : Binding) → BindingIs h b d → HandleIs h (word_of_reference b) (word_of_reference d)
posted_is h bound.Nothing bound.Nothing is = refl
posted_is h (bound.Reference a) (bound.Reference b) is = is
posted_is h (bound.Buffer b) (bound.Buffer d) is = refl
posted_is h _ _ is = absurd is

but_last : (h : History) (os js : List ℕ) → LevelsAre h os js → LevelsAre h (all_but_last os) (all_but_last js)
but_last h [] [] are = tt
but_last h (o ∷ []) (j ∷ []) are = tt
but_last h (o ∷ a ∷ os) (j ∷ b ∷ js) are = (are.0, but_last h (a ∷ os) (b ∷ js) are.1)
but_last h (o ∷ []) (j ∷ b ∷ js) are = absurd are.1
but_last h (o ∷ a ∷ os) (j ∷ []) are = absurd are.1
but_last h _ _ are = absurd are

-- where it isn't the first level, the thread does nothing
keeps_first : (n : ℕ) (old new : ThreadState) (x : Result (Unit {0}) Fault) → giving_up (suc (suc n)) old x new
    → Did old.pass new.pass []
keeps_first n old new x gave =
    let made = (gave.0).ran in subst (Did old.pass new.pass) (made.is).0 made.did

-- the objects that stand behind
closed_levels : (h : History) (v : CloseLevel) (mode : Mode) (answer a : Result Reply Fault) (os js : List ℕ)
    → AnswerSo ReplyIs h answer a → answer ≡ Ok replies.Done → LevelsAre h (all_but_last os) (all_but_last js)
    → LevelsAre h (objects_after (commands.CloseLevel v mode) answer os)
    (objects_after (commands.CloseLevel v mode) a js)
closed_levels h v mode (Ok x) (Ok y) os js so is are = are
closed_levels h v mode (Ok x) (Err e) os js so is are = absurd so
closed_levels h v mode (Err e) a os js so is are = absurd cc

module _ (r : Room) (t : ℕ) (small : t < r.config.threads) (turns : ℕ) where
  -- WHAT A COMMAND DOES are acts of its thread
  outside_acts : (names : Names) (x : Command) → HasDid r t (deed turns names x)
  outside_acts names (commands.Make make.Wait n) =
      λ old new answer pass did. ([], awaited_did old new answer pass did)
  outside_acts names (commands.OnName on_name.Post n) = decided_did r t (Ok replies.Done)
  outside_acts names (commands.OfRoom v) = collecting_did r t small
  outside_acts names (commands.WithTries v tries) = announced_did r t small turns tries
  outside_acts names x = outside_did r t small turns names x tt

  inside_acts : (p : Place) (x : Command) → HasDid r t (deed_within p x)
  inside_acts p (commands.Make make.Wait n) = λ old new answer pass did. ([], awaited_did old new answer pass did)
  inside_acts p (commands.OnName on_name.Post n) = decided_did r t (Ok replies.Done)
  inside_acts p (commands.CloseLevel v mode) =
      formed_did r t (λ u. replies.Done) (giving_up_did r t small (length p.objects))
  inside_acts p x = inside_did r t small p x tt

  pub command_did : (p : Place) (x : Command) → HasDid r t (deed_at turns p x)
  command_did p x = go p.objects
    where
      go : (os : List ℕ) → HasDid r t (by_region os (deed turns p.names x) (deed_within p x))
      go [] = outside_acts p.names x
      go (o ∷ os) = inside_acts p x

  -- BETWEEN THE MOMENTS of a command
  module _ (old new : ThreadState) (past : History) (acts : List Act) (pass : IsPass r.config r.last t old.pass)
      (did : Did old.pass new.pass acts) (come : HasComeTo r.whole old.pass past) where
    -- the thread has done just the command's acts
    own_there : (later : History) → HasComeTo r.whole new.pass later → mine later t ≡ mine past t ++ acts
    own_there later there = own_since acts past later pass did come there

    within_past : (state old.pass.seen).role t ≡ Within → (state past).role t ≡ Within
    within_past role = role_of_state past t
        ∙ (ap (role_from Outside) (own_come old.pass past pass come)
        ∙ (sym (role_of_state old.pass.seen t) ∙ role))

    -- objects of levels stand, where it did nothing at the gate
    levels_still : (state old.pass.seen).role t ≡ Within → AllByRecursion (λ a. is_of_gate a ≡ false) acts
        → (os js : List ℕ) → LevelsAre past os js → (later : History) → IsPrefix past later
        → HasComeTo r.whole new.pass later → LevelsAre later os js
    levels_still role none os js are later begins there = levels_later r t past later stays there.begins os js are
      where
        since_is : mine begins.0 t ≡ acts
        since_is = append_cancel (mine past t) (mine begins.0 t) acts (sym (mine_append past begins.0 t)
            ∙ (ap (λ h. mine h t) begins.1 ∙ own_there later there))

        stays : Stays r.config r.last r.whole t r.legal past later
        stays = record {
          since = begins.0;
          is = sym begins.1;
          within = within_past role;
          none = subst (AllByRecursion (λ a. is_of_gate a ≡ false)) (sym since_is) none;
        }

  -- A COMMAND
  module _ (board : List ℕ → Option (ℕ × History)) (rank : List ℕ → ℕ) (p q : Place) (had told : ThreadWords)
      (old new : ThreadState) (past : History) (answer : Result Reply Fault) (acts : List Act)
      (behind : List (Item Act)) (pass : IsPass r.config r.last t old.pass) (did : Did old.pass new.pass acts)
      (begins : IsPrefix new.pass.seen r.whole) (come : HasComeTo r.whole old.pass past)
      (stands : Stands past p q had told) where
    abbrev PlaysOn : Command → Doing Reply → List (Item Act) → Type 0
    PlaysOn x d items = Plays r.config r.whole t (HasEndedSo r.whole new p q had told x answer) new.frames behind d past
        old.frames items

    -- at its end the objects of the levels stand
    abbrev LevelsStand : Type 0
    LevelsStand = (later : History) → IsPrefix past later → HasComeTo r.whole new.pass later
        → LevelsAre later p.objects q.objects

    -- a command that is played so ends so
    ends_so : (x : Command) → LevelsStand → {d : Doing Reply} {items : List (Item Act)}
        (V : History → Result Reply Fault → Type 0)
        → ((later : History) (a : Result Reply Fault) → V later a → EndsSo r t ReplyIs new answer later a)
        → Plays r.config r.whole t V new.frames behind d past old.frames items → PlaysOn x d items
    ends_so x levels V so = weakened r.config r.whole t V (HasEndedSo r.whole new p q had told x answer) new.frames
        behind past
        (λ later a since is.
        let end = so later a is in
        let still = stands_later past later p q had told since (levels later since end.0) stands in
        record {
          come = end.0;
          text = λ line. printed_alike later line x answer a end.1;
          stands = stands_after later x answer a p q had told end.1 still;
        })
        (prefix_self past)

    -- .. a wait
    waits_on : (n : List ℕ) → LevelsStand → awaited old answer new
        → said board rank p.names had (commands.Make make.Wait n) old.pass.seen answer new.pass.seen
        → PlaysOn (commands.Make make.Wait n) (doing_at r.config turns q told [] (commands.Make make.Wait n))
        (items_of (births r.whole).refs p.names had (commands.Make make.Wait n) answer (map acting acts))
    waits_on n levels waited spoke = ends_so (commands.Make make.Wait n) levels
        (λ later a. IsPrefix past later × EndsSo r t ReplyIs new answer later a) (λ later a both. both.1)
        (wait_plays r t small old new past n had told answer behind
        (λ w. (begun : History) × (board n ≡ Some (w, begun)) × IsPrefix begun new.pass.seen) pass begins come
        stands.words waited spoke)

    -- .. a post
    posts_on : (n : List ℕ) → LevelsStand → answer ≡ Ok replies.Done → new ≡ old
        → PlaysOn (commands.OnName on_name.Post n) (doing_at r.config turns q told [] (commands.OnName on_name.Post n))
        (items_of (births r.whole).refs p.names had (commands.OnName on_name.Post n) answer (map acting acts))
    posts_on n levels is same = ends_so (commands.OnName on_name.Post n) levels
        (λ later a. IsPrefix past later × EndsSo r t ReplyIs old (Ok replies.Done) later a)
        (λ later a both. subst (λ m. EndsSo r t ReplyIs m answer later a) (sym same)
        (subst (λ z. EndsSo r t ReplyIs old z later a) (sym is) both.1))
        (subst (λ (m : ThreadState). Plays r.config r.whole t
        (λ later a. IsPrefix past later × EndsSo r t ReplyIs old (Ok replies.Done) later a) m.frames behind
        (doing_at r.config turns q told [] (commands.OnName on_name.Post n)) past old.frames
        (items_of (births r.whole).refs p.names had (commands.OnName on_name.Post n) answer (map acting acts)))
        (sym same)
        (post_plays r t small old past old.frames n (word_posted p.names n) (word_posted q.names n) behind pass come
        (posted_is past (binding p.names n) (binding q.names n) (stands.names n))))

    -- WHERE NO REGION STANDS
    outside_on : (x : Command) → LevelsStand → deed turns p.names x old answer new
        → said board rank p.names had x old.pass.seen answer new.pass.seen
        → HasLeft r.last (times (gives_up x)) old.frames
        → PlaysOn x (doing_outside r.config turns q.names told x)
        (items_of (births r.whole).refs p.names had x answer (map acting acts))
    outside_on (commands.Make make.Wait n) levels done spoke left = waits_on n levels done spoke
    outside_on (commands.OnName on_name.Post n) levels done spoke left = posts_on n levels done.0 done.1
    outside_on (commands.OfRoom v) levels done spoke left = ends_so (commands.OfRoom v) levels
        (EndsSo r t ReplyIs new answer) (λ later a is. is)
        ((collecting_plays r t small {h = past} {F = any_frames}).plays old new past answer acts behind pass done did
        begins come (prefix_self past, refl) tt)
    outside_on (commands.WithTries v tries) levels done spoke left = ends_so (commands.WithTries v tries) levels
        (EndsSo r t ReplyIs new answer) (λ later a is. is)
        ((announced_plays r t small turns tries {h = past} {F = any_frames}).plays old new past answer acts behind pass
        done did begins come (prefix_self past, refl) tt)
    outside_on x levels done spoke left = ends_so x levels (EndsSo r t ReplyIs new answer) (λ later a is. is)
        ((outside_plays r t small turns p.names past q.names told stands.names x tt).plays old new past answer acts
        behind pass done did begins come (prefix_self past, refl) left)

    -- IN A REGION
    levels_on : (state old.pass.seen).role t ≡ Within → AllByRecursion (λ a. is_of_gate a ≡ false) acts → LevelsStand
    levels_on role none later since there =
        levels_still old new past acts pass did come role none p.objects q.objects stands.objects later since there

    -- .. the levels stand where nothing was done
    levels_left : (state old.pass.seen).role t ≡ Within → Did old.pass new.pass [] → LevelsStand
    levels_left role idle = levels_on role
        (subst (AllByRecursion (λ a. is_of_gate a ≡ false)) (one_did [] acts idle did) tt)

    -- .. and a level is given up
    closing_on : (v : CloseLevel) (mode : Mode) → (state old.pass.seen).role t ≡ Within
        → deed_within p (commands.CloseLevel v mode) old answer new
        → PlaysOn (commands.CloseLevel v mode)
        (doing_within r.config turns q.names told q.levels q.objects (commands.CloseLevel v mode)) (map acting acts)
    closing_on v mode role done = weakened r.config r.whole t (EndsSo r t ReplyIs new answer)
        (HasEndedSo r.whole new p q had told (commands.CloseLevel v mode) answer) new.frames behind past
        (λ later a since end. record {
          come = end.0;
          text = λ line. printed_alike later line (commands.CloseLevel v mode) answer a end.1;
          stands = stands_behind later a since end;
        })
        (prefix_self past)
        ((replied_plays r t (λ u. replies.Done) (λ u. replies.Done) (giving_up_did r t small (length p.objects))
        (λ later x y u. the_same replies.Done refl) program).plays old new past answer acts behind pass done did
        begins come (prefix_self past, refl) tt)
      where
        program : DeedPlays r t past any_frames (λ later x y. Unit {0}) (giving_up (length p.objects))
            (closes_level r.config turns q.names told (length q.objects))
        program = subst (λ n. DeedPlays r t past any_frames (λ later x y. Unit {0}) (giving_up (length p.objects))
            (closes_level r.config turns q.names told n)) (levels_long past p.objects q.objects stands.objects)
            (giving_up_plays r t small turns q.names told (length p.objects) past)

        is_done : answer ≡ Ok replies.Done
        is_done = go done
          where
            go : deed_within p (commands.CloseLevel v mode) old answer new → answer ≡ Ok replies.Done
            go (inl (x, mid, gave, is)) = is.0
            go (inr (e, is, gave)) =
                let bad = gives_up_level (length p.objects) old new (Err e) gave in absurd cc

        idle : (n : ℕ) → length p.objects ≡ suc (suc n) → Did old.pass new.pass []
        idle n long = go done
          where
            go : deed_within p (commands.CloseLevel v mode) old answer new → Did old.pass new.pass []
            go (inl (x, mid, gave, is)) = subst (λ (m : ThreadState). Did old.pass m.pass []) (sym is.1)
                (keeps_first n old mid (Ok x) (subst (λ k. giving_up k old (Ok x) mid) long gave))
            go (inr (e, is, gave)) =
                let bad = gives_up_level (length p.objects) old new (Err e) gave in absurd cc

        still_behind : (os js : List ℕ) → p.objects ≡ os → LevelsAre past os js → (later : History)
            → IsPrefix past later → HasComeTo r.whole new.pass later
            → LevelsAre later (all_but_last os) (all_but_last js)
        still_behind [] [] is are later since there = tt
        still_behind (o ∷ []) (j ∷ []) is are later since there = tt
        still_behind (o ∷ a ∷ os) (j ∷ b ∷ js) is are later since there =
            but_last later (o ∷ a ∷ os) (j ∷ b ∷ js) (levels_still old new past acts pass did come role
            (subst (AllByRecursion (λ a. is_of_gate a ≡ false))
            (one_did [] acts (idle (length os) (ap length is)) did) tt) (o ∷ a ∷ os) (j ∷ b ∷ js) are later since there)
        still_behind (o ∷ []) (j ∷ b ∷ js) is are later since there = absurd are.1
        still_behind (o ∷ a ∷ os) (j ∷ []) is are later since there = absurd are.1
        still_behind _ _ is are later since there = absurd are

        -- where these are the places, but for the levels' objects
        bare : Place → Place
        bare z = record { names = z.names; levels = z.levels; objects = [] }

        stands_behind : (later : History) (a : Result Reply Fault) → IsPrefix past later
            → EndsSo r t ReplyIs new answer later a
            → Stands later (place_after (commands.CloseLevel v mode) answer p)
            (place_after (commands.CloseLevel v mode) a q) had told
        stands_behind later a since end =
            let bare_past : Stands past (bare p) (bare q) had told = record {
              names = stands.names;
              levels = stands.levels;
              objects = tt;
              words = stands.words;
            } in
            let s = stands_after later (commands.CloseLevel v mode) answer a (bare p) (bare q) had told end.1
            (stands_later past later (bare p) (bare q) had told since tt bare_past) in
            record {
              names = s.names;
              levels = s.levels;
              objects = closed_levels later v mode answer a p.objects q.objects end.1 is_done
                  (still_behind p.objects q.objects refl stands.objects later since end.0);
              words = s.words;
            }

    inside_on : (x : Command) → (state old.pass.seen).role t ≡ Within → deed_within p x old answer new
        → said board rank p.names had x old.pass.seen answer new.pass.seen
        → PlaysOn x (doing_within r.config turns q.names told q.levels q.objects x)
        (items_of (births r.whole).refs p.names had x answer (map acting acts))
    inside_on (commands.Make make.Wait n) role done spoke =
        waits_on n (levels_left role (awaited_did old new answer pass done)) done spoke
    inside_on (commands.OnName on_name.Post n) role done spoke =
        posts_on n (levels_left role (nothing_did old new pass done.1)) done.0 done.1
    inside_on (commands.CloseLevel v mode) role done spoke = closing_on v mode role done
    inside_on x role done spoke = ends_so x
        (levels_on role (inside_stays r t small p x tt old new answer acts pass done did role))
        (EndsSo r t ReplyIs new answer) (λ later a is. is)
        ((inside_plays r t small turns p q told past stands.names stands.levels stands.objects
        (within_past old new past acts pass did come role) x tt).plays old new past answer acts behind pass done did
        begins come (prefix_self past, refl) tt)

  pub command_plays : (board : List ℕ → Option (ℕ × History))
      (rank : List ℕ → ℕ) (p q : Place) (had told : ThreadWords) (x : Command)
      → (old new : ThreadState) (past : History) (answer : Result Reply Fault) (acts : List Act)
      (behind : List (Item Act)) → IsPass r.config r.last t old.pass → deed_at turns p x old answer new
      → Did old.pass new.pass acts → said board rank p.names had x old.pass.seen answer new.pass.seen
      → IsPrefix new.pass.seen r.whole → HasComeTo r.whole old.pass past → Stands past p q had told
      → HasLeft r.last (times (gives_up x)) old.frames
      → (p.objects ≢ [] → (state old.pass.seen).role t ≡ Within)
      → Plays r.config r.whole t (HasEndedSo r.whole new p q had told x answer) new.frames behind
      (doing_at r.config turns q told q.objects x) past old.frames
      (items_of (births r.whole).refs p.names had x answer (map acting acts))
  command_plays board rank p q had told x old new past answer acts behind pass done did spoke begins come stands
      left role = go p.objects q.objects refl refl stands.objects done
    where
      go : (os js : List ℕ) → p.objects ≡ os → q.objects ≡ js → LevelsAre past os js
          → by_region os (deed turns p.names x) (deed_within p x) old answer new
          → Plays r.config r.whole t (HasEndedSo r.whole new p q had told x answer) new.frames behind
          (doing_at r.config turns q told js x) past old.frames
          (items_of (births r.whole).refs p.names had x answer (map acting acts))
      go [] [] is is' are done = outside_on board rank p q had told old new past answer acts behind pass did begins come
          stands x
          (λ later since there. subst (λ l. LevelsAre later l q.objects) (sym is)
          (subst (λ l. LevelsAre later [] l) (sym is') tt)) done spoke left
      go (o ∷ os) (j ∷ js) is is' are done = inside_on board rank p q had told old new past answer acts behind pass did
          begins come stands x (role (λ bad. let no_levels = sym is ∙ bad in absurd cc)) done spoke
      go _ _ is is' are done = absurd are
