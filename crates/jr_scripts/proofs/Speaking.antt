-- What commands say and hear of a board, and what else may be told in its place.
use Rattle.std.proofs.Common.{◌≡◌, ◌∙◌, ℕ, suc, true, false, Option, Some, None, List, Result}
use Rattle.std.proofs.Common.{Ok, Err, inl, inr, refl, sym, ap, subst, arith, ◌+◌, ◌∷◌, [], ◌++◌}
use Rattle.std.specs.Prelude.{IfNone, cond, is_some}
use mathlib.Core.Logic.{∥∥₁_map}
use Rattle.jr_word.specs.declared.fault.Fault.{Fault}
use Rattle.jr_model.specs.declared.event.Role.{Role}
use Rattle.jr_model.specs.declared.event.Role.TheVariants.{Within}
use Rattle.jr_model.specs.Frames.{Frames}
use Rattle.jr_model.specs.History.{History, role_of}
use Rattle.jr_model.proofs.Stays.{did_nothing}
use Rattle.jr_steps.specs.declared.steps.Steps.{Ghosts}
use Rattle.jr_steps.specs.declared.known.Known.{Known}
use Rattle.jr_steps.specs.Knowing.{AreOf, Facts, Holds, MayKnow, Standing, Took, Went, anything, keeps, view, IsOf}
use Rattle.jr_gate.specs.Performing.{ThreadState, thread_state, thread_state_with}
use Rattle.jr_gate.specs.Stays.{IsOwnStay}
use Rattle.jr_steps.specs.Holdings.{header_in}
use Rattle.jr_frames.specs.Table.{Table}
use Rattle.jr_frames.specs.Ready.{AreOwn}
use Rattle.jr_frames.proofs.FramesAgree.{holds_did}
use Rattle.jr_critical.specs.declared.levels.Levels.{Levels}
use Rattle.jr_critical.specs.Levels.{KnowsLevels}
use Rattle.jr_critical.proofs.KnownLevels.{known_later}
use Rattle.jr_env.specs.declared.env.Env.{Env}
use Rattle.jr_env.specs.Deeds.{CarriedOut}
use Rattle.jr_env.proofs.Carrying.{did_more}
use Rattle.jr_syntax.specs.declared.command.Command.{Command}
use Rattle.jr_syntax.specs.declared.command.Command.TheVariants as commands
use Rattle.jr_syntax.specs.declared.verb.Make.{Make}
use Rattle.jr_syntax.specs.declared.verb.Make.TheVariants as make
use Rattle.jr_syntax.specs.declared.verb.OnName.{OnName}
use Rattle.jr_syntax.specs.declared.verb.OnName.TheVariants as on_name
use Rattle.jr_world.specs.Board.{word_under}
use Rattle.jr_scripts.specs.declared.region.NamedLevels.{NamedLevels}
use Rattle.jr_scripts.specs.declared.reply.Reply.{Reply}
use Rattle.jr_scripts.specs.declared.reply.Reply.TheVariants as replies
use Rattle.jr_scripts.specs.Layouts.{Layout}
use Rattle.jr_scripts.specs.Names.{Names, word_posted}
use Rattle.jr_scripts.specs.Commands.{awaited, deed}
use Rattle.jr_scripts.specs.RegionCommands.{deed_at, deed_within}
use Rattle.jr_scripts.specs.Places.{Place, by_region, is_speaking, levels_after, objects_after}
use Rattle.jr_scripts.specs.Text.{buffers_after}
use Rattle.jr_scripts.specs.Posting.{Account, Awaits, HasLookedFor, HasPosted, HasSpoken, HasWaited, IsAnswered}
use Rattle.jr_scripts.specs.Posting.{LearnsByLook, LearnsOf, LooksInVain, Keeps, SaysSo, Speech, WasInVain, ThreadWords}
use Rattle.jr_scripts.specs.Posting.{one_more, reply_to_wait, speaks, talk_of}
use Rattle.jr_scripts.specs.Posting.{words_after, words_found, words_with}
use Rattle.jr_scripts.specs.Explains.{Explains, IsCutOff, LeavesText, nothing, then, unwritten, written}
use Rattle.jr_scripts.specs.Advancing.{KnowsWith, StandsWith, deed_spoken, place_with, role_with}
use mathlib.Core.List.{IsPrefix}
use Rattle.jr_steps.proofs.StepFacts.{goes_did}
use Rattle.jr_rule.specs.declared.cells.Cells.{Ghosts as CellGhosts}
use Rattle.jr_rule.specs.declared.over.StepsOver.{StepsOver}
use Rattle.jr_rule.specs.declared.pinned_note.PinnedNote.{PinnedNote}
use Rattle.jr_rule.specs.declared.row.RoomCells.{RoomCells}
use Rattle.jr_rule.specs.Passes.{facts_of}
use Rattle.jr_rule.specs.Rooms.{AreAsBefore, LearnedPinned, WasPinned, holder_over, seen_by_pinned}

-- two boards, and then another that tells more
pub still_more : {B : Type 0} (layout : B → Layout) (tells : B → Account) {old mid new : B} → Keeps layout tells old mid
    → Keeps layout tells mid new → Keeps layout tells old new
still_more layout tells a b = record {
  same = b.same ∙ a.same;
  serves = λ room s. b.serves room (a.serves room s);
  posted = λ words n w h t. b.posted words n w h (a.posted words n w h t);
  heard = λ n w h t. b.heard n w h (a.heard n w h t);
}

pub keeps_all : {B : Type 0} {layout : B → Layout} {tells : B → Account} {old : B} → Keeps layout tells old old
keeps_all = record { same = refl; serves = λ room s. s; posted = λ words n w h t. t; heard = λ n w h t. t }

-- whatever the one says, the other says too
pub record Carries (t u : Speech) : Type 0 where
  pub still : (names : Names) (words : ThreadWords) (c : Command) (before : History) (answer : Result Reply Fault)
      (after : History) → t names words c before answer after → u names words c before answer after

answered_still : (known : Option ℕ) (heard heard' : ℕ → Type 0) (vain vain' : Type 0) (answer : Result Reply Fault)
    → ((w : ℕ) → heard w → heard' w) → (vain → vain') → IsAnswered known heard vain answer
    → IsAnswered known heard' vain' answer
answered_still (Some w) heard heard' vain vain' answer more none x = x
answered_still None heard heard' vain vain' answer more none (Some w, is, x) = (Some w, is, more w x)
answered_still None heard heard' vain vain' answer more none (None, is, x) = (None, is, none x)

-- whoever says it by these says it by those that follow from them
pub carried : (posted posted' : ThreadWords → List ℕ → ℕ → History → Type 0)
    (heard heard' : List ℕ → ℕ → History → Type 0) (vain vain' : List ℕ → Type 0)
    → ((words : ThreadWords) (n : List ℕ) (w : ℕ) (h : History) → posted words n w h → posted' words n w h)
    → ((n : List ℕ) (w : ℕ) (h : History) → heard n w h → heard' n w h) → ((n : List ℕ) → vain n → vain' n)
    → Carries (speaks posted heard vain) (speaks posted' heard' vain')
carried posted posted' heard heard' vain vain' p h v =
    record { still = λ names words c before answer after x. go names words c before answer after x }
  where
    go : (names : Names) (words : ThreadWords) (c : Command) (before : History) (answer : Result Reply Fault)
        (after : History) → speaks posted heard vain names words c before answer after
        → speaks posted' heard' vain' names words c before answer after
    go names words (commands.OnName v n) before answer after x = p words n (word_posted names n) before x
    go names words (commands.Make make.Wait n) before answer after x = answered_still (word_under words n)
        (λ w. heard n w after) (λ w. heard' n w after) (vain n) (vain' n) answer (λ w y. h n w after y) (v n) x
    go names words _ before answer after x = tt

-- a board that tells more
pub carries_on : {B : Type 0} (layout : B → Layout) (tells : B → Account) (looked : B → List ℕ → Option ℕ → B → Type 0)
    (turns : ℕ) (old new : B) → Keeps layout tells old new
    → Carries (talk_of tells looked turns old) (talk_of tells looked turns new)
carries_on layout tells looked turns old new keeps = carried (tells old).posted (tells new).posted (tells old).heard
    (tells new).heard (WasInVain looked turns) (WasInVain looked turns) keeps.posted keeps.heard (λ n v. v)

-- a command that is none of those by which threads hand each other something
silent : (posted : ThreadWords → List ℕ → ℕ → History → Type 0) (heard : List ℕ → ℕ → History → Type 0)
    (vain : List ℕ → Type 0) (names : Names) (words : ThreadWords) (c : Command) (before : History)
    (answer : Result Reply Fault) (after : History) → is_speaking c ≡ false
    → speaks posted heard vain names words c before answer after
silent posted heard vain names words (commands.OnName v n) before answer after is = absurd cc
silent posted heard vain names words (commands.Make make.Wait n) before answer after is = absurd cc
silent posted heard vain names words _ before answer after is = tt

-- so it does, with what it says, what it does
pub did_silent : {S B : Type 0} {facts : S → Facts} {a b : S} {f g : Frames} {met shown : Known → Type 0} {role : Role}
    {answer : Result Reply Fault} (tells : B → Account) (looked : B → List ℕ → Option ℕ → B → Type 0) (board : B)
    (turns : ℕ) (p : Place) (words : ThreadWords) (c : Command) → is_speaking c ≡ false
    → CarriedOut facts a b f g role met shown (deed_at turns p c) answer
    → CarriedOut facts a b f g role met shown (deed_spoken (talk_of tells looked turns board) turns p words c) answer
did_silent {answer = answer} tells looked board turns p words c is = did_more (λ old new d. (
  d,
  silent (tells board).posted (tells board).heard (WasInVain looked turns) p.names words c old.pass.seen answer
      new.pass.seen is,
))

-- and the thread has the words that it had
pub silent_words : (names : Names) (c : Command) (answer : Result Reply Fault) (words : ThreadWords)
    → is_speaking c ≡ false → words ≡ words_after names c answer words
silent_words names (commands.OnName v n) answer words is = absurd cc
silent_words names (commands.Make make.Wait n) answer words is = absurd cc
silent_words names _ answer words is = refl

-- what a command sets besides is no matter for the word that it posts or hears
pub words_same : (names between : Names) (c : Command) (answer : Result Reply Fault) (words : ThreadWords)
    → between ≡ buffers_after c answer names → words_after between c answer words ≡ words_after names c answer words
words_same names between (commands.OnName v n) answer words is =
    ap (λ (z : Names). words_with words n (word_posted z n)) is
words_same names between (commands.Make make.Wait n) answer words is =
    ap (λ (z : Names). words_after z (commands.Make make.Wait n) answer words) is
words_same names between _ answer words is = refl

-- a wait that found this has these words behind it
pub found_words : (names : Names) (n : List ℕ) (found : Option ℕ) (answer : Result Reply Fault) (words : ThreadWords)
    → answer ≡ reply_to_wait found
    → words_after names (commands.Make make.Wait n) answer words ≡ words_found n found words
found_words names n (Some w) answer words is =
    ap (λ (z : Result Reply Fault). words_after names (commands.Make make.Wait n) z words) is
found_words names n None answer words is =
    ap (λ (z : Result Reply Fault). words_after names (commands.Make make.Wait n) z words) is

-- a word that the thread has is no more
pub known_words : (n : List ℕ) (w : ℕ) (words : ThreadWords) → word_under words n ≡ Some w
    → words ≡ words_found n (Some w) words
known_words n w words is = sym (ap (λ o. cond (is_some o) words (words ++ (n, w) ∷ [])) is)

-- SO MANY LOOKS

module _ {B : Type 0} {looked : B → List ℕ → Option ℕ → B → Type 0} {n : List ℕ} {first : B} where
  pub looked_again : {mid last : B} (k : ℕ) → LooksInVain looked n first k mid → looked mid n None last
      → LooksInVain looked n first (k + 1) last
  looked_again {last = last} k looks once = let next : suc k ≡ k + 1 = omega arith in
      subst (λ m. LooksInVain looked n first m last) next (one_more looks once)

  pub looked_all : {last : B} (k turns : ℕ) → k ≡ turns → LooksInVain looked n first k last
      → LooksInVain looked n first turns last
  looked_all {last = last} k turns all looks = subst (λ m. LooksInVain looked n first m last) all looks

module _ {S : Type 0} (facts : S → Facts) where
  -- the steps stand as they did, and know what they knew
  pub record IsAsItWas (old new : S) : Type 0 where
    pub stands_is : (facts new).stands ≡ (facts old).stands
    pub hint_is : (facts new).hint ≡ (facts old).hint
    pub same : (k : Known) → (facts old).knows k → (facts new).knows k

  pub as_it_was : {a : S} → IsAsItWas a a
  as_it_was = record { stands_is = refl; hint_is = refl; same = λ k s. s }

  -- a look that found nothing left them so
  pub found_none : {a b : S} {shows : Known → Known → Type 0}
      → Went facts a b (facts a).stands anything (λ k k'. k' ≡ k) shows → IsAsItWas a b
  found_none {b = b} l = record {
    stands_is = l.stands_is;
    hint_is = l.hint_is;
    same = λ k s. let x = l.leads k s tt in subst (λ z. (facts b).knows z) x.2 x.1;
  }

  pub as_it_was_then : {a b c : S} → IsAsItWas a b → IsAsItWas b c → IsAsItWas a c
  as_it_was_then x y = record {
    stands_is = y.stands_is ∙ x.stands_is;
    hint_is = y.hint_is ∙ x.hint_is;
    same = λ k s. y.same k (x.same k s);
  }

  -- a look behind looks that found nothing
  pub looked_then : {a b c : S} {made shows : Known → Known → Type 0} → IsAsItWas a b
      → Went facts b c (facts b).stands anything made shows → Went facts a c (facts a).stands anything made shows
  looked_then x l = record {
    stands_is = l.stands_is ∙ x.stands_is;
    hint_is = l.hint_is ∙ x.hint_is;
    leads = λ k s m. l.leads k (x.same k s) tt;
  }

  -- all of them found nothing
  pub looked_none : {a b : S} {shows : Known → Known → Type 0} → IsAsItWas a b → ((k : Known) → shows k k)
      → Went facts a b (facts a).stands anything (λ k k'. k' ≡ k) shows
  looked_none x shown =
      record { stands_is = x.stands_is; hint_is = x.hint_is; leads = λ k s m. (k, x.same k s, refl, shown k) }

  -- WHAT THE COMMANDS DO

  waits : {a b : S} (account : Account) (n : List ℕ) (vain : Type 0) (known : Option ℕ) (found : Option ℕ)
      (answer : Result Reply Fault) → known ≡ None → answer ≡ reply_to_wait found
      → HasLookedFor facts a b account n found → IfNone found vain → HasWaited facts a b account vain n known answer
  waits account n vain known (Some w) answer none says l no_word = record {
    stands_is = l.stands_is;
    hint_is = l.hint_is;
    leads = λ k s m. let x = l.leads k s tt in (
      x.0,
      x.1,
      inl (record { 0 = w }, says, x.2),
      subst (λ o. IsAnswered o (λ w. account.heard n w (x.0).seen) vain answer) (sym none) (Some w, says, x.3),
    );
  }
  waits account n vain known None answer none says l no_word = record {
    stands_is = l.stands_is;
    hint_is = l.hint_is;
    leads = λ k s m. let x = l.leads k s tt in (
      x.0,
      x.1,
      inr (says, x.2),
      subst (λ o. IsAnswered o (λ w. account.heard n w (x.0).seen) vain answer) (sym none) (None, says, no_word),
    );
  }

  -- a wait for a name without a word is answered by what was found
  pub has_waited : {a b : S} (account : Account) (n : List ℕ) (vain : Type 0) (known : Option ℕ) (found : Option ℕ)
      (answer : Result Reply Fault) → known ≡ None → answer ≡ reply_to_wait found
      → HasLookedFor facts a b account n found → IfNone found vain → HasWaited facts a b account vain n known answer
  has_waited account n vain known found answer none says l no_word =
      waits account n vain known found answer none says l no_word

  -- a thread that did nothing learns nothing
  pub learns_nothing : AreOf facts → (a : S) (k : Known) → (facts a).knows k → LearnsOf k k
  learns_nothing fits a k s = record {
    did = did_nothing (view k) (fits a k s).legal;
    held = refl;
    without = 0;
    most = omega arith;
    taken = omega arith;
  }

  -- one for a name that has a word, by that
  pub has_known : AreOf facts → (a : S) (n : List ℕ) (account : Account) (vain : Type 0) (known : Option ℕ) (w : ℕ)
      (answer : Result Reply Fault) → known ≡ Some w → answer ≡ reply_to_wait (Some w)
      → HasWaited facts a a account vain n known answer
  has_known fits a n account vain known w answer is says = record {
    stands_is = refl;
    hint_is = refl;
    leads = λ k s m. (
      k,
      s,
      inl (record { 0 = w }, says, learns_nothing fits a k s),
      subst (λ o. IsAnswered o (λ v. account.heard n v k.seen) vain answer) (sym is) says,
    );
  }

  -- a wait is a command by which threads hand each other something
  pub spoke_waiting : {B : Type 0} {a b : S} {n : List ℕ} (tells : B → Account)
      (looked : B → List ℕ → Option ℕ → B → Type 0) (turns : ℕ) (board : B) (names : Names) (words : ThreadWords)
      (c : Command) (v : Make) (answer : Result Reply Fault) → c ≡ commands.Make v n → is_speaking c ≡ true
      → HasWaited facts a b (tells board) (WasInVain looked turns n) n (word_under words n) answer
      → HasSpoken facts a b (talk_of tells looked turns board) names words c answer
  spoke_waiting {B} {a} {b} {n} tells looked turns board names words c make.Plain answer is speaks w =
      let bad : is_speaking (commands.Make make.Plain n) ≡ true = subst (λ d. is_speaking d ≡ true) is speaks in
      absurd cc
  spoke_waiting {B} {a} {b} {n} tells looked turns board names words c make.Wait answer is speaks w =
      subst (λ d. HasSpoken facts a b (talk_of tells looked turns board) names words d answer) (sym is)
      (record { stands_is = w.stands_is; hint_is = w.hint_is; leads = w.leads })

  -- and so is a post
  pub spoke_posting : {B : Type 0} {a b : S} {n : List ℕ} {w : ℕ} (tells : B → Account)
      (looked : B → List ℕ → Option ℕ → B → Type 0) (turns : ℕ) (board : B) (names : Names) (words : ThreadWords)
      (c : Command) (v : OnName) → c ≡ commands.OnName v n → w ≡ word_posted names n
      → HasPosted facts a b (tells board) words n w
      → HasSpoken facts a b (talk_of tells looked turns board) names words c (Ok replies.Done)
  spoke_posting {a = a} {b = b} {n = n} tells looked turns board names words c v is word p =
      subst (λ d. HasSpoken facts a b (talk_of tells looked turns board) names words d (Ok replies.Done)) (sym is)
      (record {
        stands_is = p.stands_is;
        hint_is = p.hint_is;
        leads = λ k s m. let x = p.leads k s tt in
            (x.0, x.1, (refl, x.2), subst (λ z. (tells board).posted words n z k.seen) word x.3);
      })

  -- WHAT THEY LEAVE AS IT IS

  -- the frames hold still
  holds_said : (f : Frames) (c : Command) (answer : Result Reply Fault) (k k' : Known) → SaysSo c answer k k'
      → Holds f k → Holds f k'
  holds_said f (commands.OnName v n) answer k k' x m = subst (Holds f) (sym x.1) m
  holds_said f (commands.Make make.Wait n) answer k k' (inl x) m = holds_did k k' f [] x.2.did tt m
  holds_said f (commands.Make make.Wait n) answer k k' (inr x) m = subst (Holds f) (sym x.1) m
  holds_said f _ answer k k' x m = absurd x

  holds_looked : (f : Frames) (found : Option ℕ) (k k' : Known) → LearnsByLook found k k' → Holds f k → Holds f k'
  holds_looked f (Some w) k k' x m = holds_did k k' f [] x.did tt m
  holds_looked f None k k' x m = subst (Holds f) (sym x) m

  levels_said : (v : Levels) (f : Frames) (c : Command) (answer : Result Reply Fault) (k k' : Known)
      → SaysSo c answer k k' → role_of (view k) ≡ Within → KnowsLevels v f k → KnowsLevels v f k'
  levels_said v f (commands.OnName w n) answer k k' x within m = subst (KnowsLevels v f) (sym x.1) m
  levels_said v f (commands.Make make.Wait n) answer k k' (inl x) within m = (
    known_later v.levels.items k k' [] x.2.did within tt (λ o h is. ap (λ g. header_in o g.headers) x.2.held ∙ is) m.0,
    holds_did k k' f [] x.2.did tt m.1,
  )
  levels_said v f (commands.Make make.Wait n) answer k k' (inr x) within m = subst (KnowsLevels v f) (sym x.1) m
  levels_said v f _ answer k k' x within m = absurd x

  -- what is known where the thread stands is known there still
  knows_said : (region : Option NamedLevels) (f : Frames) (c : Command) (answer : Result Reply Fault) (k k' : Known)
      → SaysSo c answer k k' → role_of (view k) ≡ role_with region → KnowsWith region f k → KnowsWith region f k'
  knows_said None f c answer k k' x role m = holds_said f c answer k k' x m
  knows_said (Some r) f c answer k k' x role m = levels_said r.levels f c answer k k' x role m

  state_same : (a b : S) (f : Frames) (k k' : Known) → (facts b).stands ≡ (facts a).stands
      → (facts b).hint ≡ (facts a).hint → k' ≡ k → thread_state (facts b) k' f ≡ thread_state (facts a) k f
  state_same a b f k k' stands hint is = λ i. thread_state_with (stands i).fresh (hint i) (is i) f

  awaited_so : (a b : S) (f : Frames) (answer : Result Reply Fault) (k k' : Known) → (facts b).stands ≡ (facts a).stands
      → (facts b).hint ≡ (facts a).hint → Awaits answer k k'
      → awaited (thread_state (facts a) k f) answer (thread_state (facts b) k' f)
  awaited_so a b f answer k k' stands hint (inl x) =
      let l = x.2 in
      inl (
        x.0,
        x.1,
        record {
          did = l.did;
          frames = refl;
          held = l.held;
          fresh = ap (λ (s : Standing). s.fresh) stands;
          hint = hint;
          without = l.without;
          most = l.most;
          taken = l.taken;
        },
      )
  awaited_so a b f answer k k' stands hint (inr x) = inr (x.0, state_same a b f k k' stands hint x.1)

  said_at : (a b : S) (f : Frames) (turns : ℕ) (p : Place) (c : Command) (answer : Result Reply Fault) (k k' : Known)
      → (facts b).stands ≡ (facts a).stands → (facts b).hint ≡ (facts a).hint → SaysSo c answer k k'
      → deed_at turns p c (thread_state (facts a) k f) answer (thread_state (facts b) k' f)
  said_at a b f turns p c answer k k' stands hint says = go p.objects c says
    where
      go : (os : List ℕ) (c : Command) → SaysSo c answer k k' → by_region os (deed turns p.names c) (deed_within p c)
          (thread_state (facts a) k f) answer (thread_state (facts b) k' f)
      go [] (commands.OnName on_name.Post n) x = (x.0, state_same a b f k k' stands hint x.1)
      go (o ∷ os) (commands.OnName on_name.Post n) x = (x.0, state_same a b f k k' stands hint x.1)
      go [] (commands.Make make.Wait n) x = awaited_so a b f answer k k' stands hint x
      go (o ∷ os) (commands.Make make.Wait n) x = awaited_so a b f answer k k' stands hint x
      go os _ x = absurd x

  -- the frames are the thread's own still, where what is known of them holds still
  own_still : {a b : S} {t : Table} {made shows : Known → Known → Type 0}
      → Went facts a b (facts a).stands anything made shows
      → ((k k' : Known) → made k k' → Holds t.frames k → Holds t.frames k') → AreOwn facts a t → AreOwn facts b t
  own_still w held own = record {
    owner = own.owner ∙ sym (ap (λ (z : Standing). z.thread) w.stands_is);
    last = own.last ∙ sym (ap (λ (z : Standing). z.last) w.stands_is);
    places = own.places ∙ sym (ap (λ (z : Standing). z.config.locals) w.stands_is);
    agrees = ∥∥₁_map own.agrees (λ k. let x = w.leads k.0 k.1 tt in (x.0, x.1, held k.0 x.0 x.2 k.2));
  }

  pub own_said : {a b : S} {t : Table} (talk : Speech) (names : Names) (words : ThreadWords) (c : Command)
      (answer : Result Reply Fault) → HasSpoken facts a b talk names words c answer → AreOwn facts a t
      → AreOwn facts b t
  own_said {t = t} talk names words c answer w own = own_still w (holds_said t.frames c answer) own

  pub own_posted : {a b : S} {t : Table} (account : Account) (words : ThreadWords) (n : List ℕ) (w : ℕ)
      → HasPosted facts a b account words n w → AreOwn facts a t → AreOwn facts b t
  own_posted {t = t} account words n w p own = own_still p (λ k k' same. subst (Holds t.frames) (sym same)) own

  pub own_looked : {a b : S} {t : Table} (account : Account) (n : List ℕ) (found : Option ℕ)
      → HasLookedFor facts a b account n found → AreOwn facts a t → AreOwn facts b t
  own_looked {t = t} account n found l own = own_still l (holds_looked t.frames found) own

module _ {S : Type 0} {G : Ghosts S} where
  stands_role : (region : Option NamedLevels) (env : Env S G) → StandsWith region env
      → (G.facts env.held.steps).stands.role ≡ role_with region
  stands_role None env stands = stands
  stands_role (Some r) env stands = stands.stand.ready.role_is

module _ {S : Type 0} {G : Ghosts S} (fits : AreOf G.facts) where
  -- what such a command does, with what it says
  pub did_speak : (talk : Speech) (turns : ℕ) (names : Names) (words : ThreadWords) (region : Option NamedLevels)
      (old new : Env S G) (c : Command) (answer : Result Reply Fault) → StandsWith region old
      → new.held.frames ≡ old.held.frames → HasSpoken G.facts old.held.steps new.held.steps talk names words c answer
      → CarriedOut G.facts old.held.steps new.held.steps old.held.frames.frames new.held.frames.frames
      (role_with region) (KnowsWith region old.held.frames.frames) (KnowsWith region new.held.frames.frames)
      (deed_spoken talk turns (place_with names region) words c) answer
  did_speak talk turns names words region old new c answer stands frames w =
      let a = old.held.steps in
      let b = new.held.steps in
      let f = old.held.frames.frames in
      let role = stands_role region old stands in
      subst (λ (t : Table). CarriedOut G.facts a b f t.frames (role_with region) (KnowsWith region f) (KnowsWith region
      t.frames) (deed_spoken talk turns (place_with names region) words c) answer) (sym frames) (record {
        stands_is = record {
          room = ap (λ (z : Standing). z.room) w.stands_is;
          config = ap (λ (z : Standing). z.config) w.stands_is;
          last = ap (λ (z : Standing). z.last) w.stands_is;
          thread = ap (λ (z : Standing). z.thread) w.stands_is;
          role = ap (λ (z : Standing). z.role) w.stands_is ∙ role;
        };
        did = λ k s m. let x = w.leads k s tt in (
          x.0,
          x.1,
          knows_said G.facts region f c answer k x.0 x.2 ((fits a k s).role ∙ role) m,
          (said_at G.facts a b f turns (place_with names region) c answer k x.0 w.stands_is w.hint_is x.2, x.3),
        );
      })

  -- where the thread stood it stands
  pub stands_still : (talk : Speech) (names : Names) (words : ThreadWords)
      (region : Option NamedLevels) (old new : Env S G)
      (c : Command) (answer : Result Reply Fault) → StandsWith region old → new.held.frames ≡ old.held.frames
      → HasSpoken G.facts old.held.steps new.held.steps talk names words c answer → StandsWith region new
  stands_still talk names words None old new c answer stands frames w =
      ap (λ (z : Standing). z.role) w.stands_is ∙ stands
  stands_still talk names words (Some r) old new c answer stands frames w =
      let stand = stands.stand in
      let ready = stand.ready in
      let role = ready.role_is in
      let own : AreOwn G.facts new.held.steps new.held.frames = subst (λ (t : Table). AreOwn G.facts new.held.steps t)
      (sym frames) (own_said G.facts talk names words c answer w ready.own) in
      record {
        stand = record {
          stay = subst (λ (z : Standing). IsOwnStay r.levels.inside z) (sym w.stands_is) stand.stay;
          ready = record {
            role_is = ap (λ (z : Standing). z.role) w.stands_is ∙ role;
            spent = ap (λ (z : Standing). z.fresh) w.stands_is ∙ ready.spent;
            own = own;
          };
          some = stand.some;
          known = subst (λ (t : Table). MayKnow G.facts new.held.steps (KnowsLevels r.levels t.frames)) (sym frames)
              (∥∥₁_map stand.known (λ k. let x = w.leads k.0 k.1 tt in (
                x.0,
                x.1,
                levels_said G.facts r.levels old.held.frames.frames c answer k.0 x.0 x.2
                    ((fits old.held.steps k.0 k.1).role ∙ role) k.2,
              )));
        };
        named = stands.named;
      }

pub said_levels : (c : Command) (answer : Result Reply Fault) (levels : List (List ℕ)) → is_speaking c ≡ true
    → levels ≡ levels_after c answer levels
said_levels (commands.OnName v n) answer levels said = refl
said_levels (commands.Make make.Wait n) answer levels said = refl
said_levels _ answer levels said = absurd cc

pub said_objects : (c : Command) (answer : Result Reply Fault) (objects : List ℕ) → is_speaking c ≡ true
    → objects ≡ objects_after c answer objects
said_objects (commands.OnName v n) answer objects said = refl
said_objects (commands.Make make.Wait n) answer objects said = refl
said_objects _ answer objects said = absurd cc

pub said_buffers : (c : Command) (answer : Result Reply Fault) (names : Names) → is_speaking c ≡ true
    → names ≡ buffers_after c answer names
said_buffers (commands.OnName v n) answer names said = refl
said_buffers (commands.Make make.Wait n) answer names said = refl
said_buffers _ answer names said = absurd cc

-- WHAT ELSE MAY BE TOLD

module _ {t u : Speech} (s : Carries t u) {turns first : ℕ} {old : ThreadState} where
  pub explains_still : {commands : List Command} {text : List ℕ} {new : ThreadState} {place : Place}
      {words : ThreadWords} → Explains t turns first old commands text new place words
      → Explains u turns first old commands text new place words
  explains_still nothing = nothing
  explains_still (then {mid = mid} {new = new} {place = place} {words = words} c answer before did said) =
      then c answer (explains_still before) did (s.still place.names words c mid.pass.seen answer new.pass.seen said)

  cut_off_still : {commands : List Command} {text : List ℕ} {new : ThreadState}
      → IsCutOff t turns first old commands text new → IsCutOff u turns first old commands text new
  cut_off_still (written before rest place words done are e ended) =
      written before rest place words done are (explains_still e) ended
  cut_off_still (unwritten before last rest mid done place words answer are e did said ended) =
      unwritten before last rest mid done place words answer are (explains_still e) did
      (s.still place.names words last mid.pass.seen answer done.pass.seen said) ended

pub leaves_still : {t u : Speech} (s : Carries t u) (turns first : ℕ) (old : ThreadState) (commands : List Command)
    (text : List ℕ) (new : ThreadState) (answer : Result (Unit {0}) Fault)
    → LeavesText t turns first old commands answer text new → LeavesText u turns first old commands answer text new
leaves_still s turns first old commands text new (Ok x) e =
    record { place = e.place; words = e.words; done = e.done; explains = explains_still s e.explains; ended = e.ended }
leaves_still s turns first old commands text new (Err f) e = (e.0, cut_off_still s e.1)

-- IN A ROOM

module _ {P : Type 0} {G : CellGhosts RoomCells P} where
  abbrev facts_there : StepsOver RoomCells P G → Facts
  facts_there s = facts_of (holder_over s)

  -- steps that are as they were know what they knew
  pub room_as_it_was : {s u : StepsOver RoomCells P G} → AreAsBefore s u
      → IsAsItWas (λ (x : StepsOver RoomCells P G). facts_of (holder_over x)) s u
  room_as_it_was {s = s} {u} a =
      let stands : (facts_there u).stands ≡ (facts_there s).stands =
      λ i. record {
        room = Some (a.room i);
        config = (a.knows i).config;
        last = (a.knows i).last;
        thread = (a.knows i).thread;
        role = a.role i;
        fresh = a.fresh i;
      } in
      record {
        stands_is = stands;
        hint_is = a.hint;
        same = λ k s. (s.0 ∙ sym a.knows, subst (λ (z : Standing). IsOf z k) (sym stands) s.1);
      }

  -- a word was posted with all that the thread has seen
  pub room_posted : {s u : StepsOver RoomCells P G} (account : Account) (words : ThreadWords) (n : List ℕ) (w : ℕ)
      (p : PinnedNote) → AreAsBefore s u → WasPinned s p
      → ((h : History) → seen_by_pinned p ≡ h → account.posted words n w h)
      → HasPosted (λ (x : StepsOver RoomCells P G). facts_of (holder_over x)) s u account words n w
  room_posted {s = s} account words n w p a told posted =
      let same = room_as_it_was a in
      record {
        stands_is = same.stands_is;
        hint_is = same.hint_is;
        leads =
            λ k knows m. (k, same.same k knows, refl, posted k.seen (told ∙ ap (λ (z : Known). z.seen) (sym knows.0)));
      }

  -- a look found a word, and what was told with it was heard
  pub room_heard : {s u : StepsOver RoomCells P G} (account : Account) (n : List ℕ) (w : ℕ) (p : PinnedNote)
      → Took facts_of (holder_over s) (holder_over u) [] anything keeps → LearnedPinned p u
      → ((h : History) → IsPrefix (seen_by_pinned p) h → account.heard n w h)
      → HasLookedFor (λ (x : StepsOver RoomCells P G). facts_of (holder_over x)) s u account n (Some w)
  room_heard {u = u} account n w p took learned heard = record {
    stands_is = took.stands_is;
    hint_is = took.hint_is;
    leads = λ k knows m.
        let x = took.goes k knows tt in (
          x.0,
          x.1,
          record { did = goes_did x.2; held = x.3; without = 1; most = omega arith; taken = (x.2).taken },
          heard (x.0).seen (subst (λ (z : Known). IsPrefix (seen_by_pinned p) z.seen) (sym (x.1).0) learned),
        );
  }
