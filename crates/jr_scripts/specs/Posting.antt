-- What threads hand each other by `post` and `wait`: what a board tells, and what the commands say and hear.
use Rattle.std.specs.Prelude.{◌≡◌, ◌⊎◌, ◌≤◌, ◌<◌, ◌+◌, ◌++◌, ℕ, suc, cond, is_some, List, []}
use Rattle.std.specs.Prelude.{◌∷◌, Option, Some, None, Result, Ok, Err, IfSome, MatchOption}
use Rattle.std.specs.List.{AllByRecursion}
use mathlib.Core.List.{IsPrefix}
use Rattle.atomic_table.specs.Seated.{TableId}
use Rattle.jr_word.specs.declared.fault.Fault.{Fault}
use Rattle.jr_word.specs.declared.fault.Fault.TheVariants as fault
use Rattle.jr_word.specs.declared.handle.Handle.{Handle}
use Rattle.jr_model.specs.History.{History, Did}
use Rattle.jr_steps.specs.declared.known.Known.{Known}
use Rattle.jr_steps.specs.Knowing.{Facts, Went, anything, view}
use Rattle.jr_world.specs.Board.{word_under}
use Rattle.jr_syntax.specs.declared.command.Command.{Command}
use Rattle.jr_syntax.specs.declared.command.Command.TheVariants as commands
use Rattle.jr_syntax.specs.declared.verb.Make.TheVariants as make
use Rattle.jr_scripts.specs.declared.reply.Reply.{Reply}
use Rattle.jr_scripts.specs.declared.reply.Reply.TheVariants as replies
use Rattle.jr_scripts.specs.Layouts.{Layout}
use Rattle.jr_scripts.specs.Names.{Names, word_posted}

-- the reply to a wait that found this word, or none in all its turns
abbrev pub reply_to_wait : Option ℕ → Result Reply Fault
reply_to_wait (Some w) = Ok (replies.Made (Some (record { 0 = w })))
reply_to_wait None = Err fault.Turns

-- the words of a thread: those that it posted and heard so far, each with its name
abbrev pub ThreadWords : Type 0
ThreadWords = List (List ℕ × ℕ)

-- they are one more, under a name that has none
abbrev pub words_with : ThreadWords → List ℕ → ℕ → ThreadWords
words_with words n w = cond (is_some (word_under words n)) words (words ++ (n, w) ∷ [])

-- THE WORDS AFTER A COMMAND, before which the names stand for this: one more where it posted or heard one
abbrev pub words_after : Names → Command → Result Reply Fault → ThreadWords → ThreadWords
words_after names (commands.OnName v n) answer words = words_with words n (word_posted names n)
words_after names (commands.Make make.Wait n) (Ok (replies.Made (Some h))) words = words_with words n h.0
words_after names _ _ words = words

-- what commands may say and hear: before which names stand for this, and of a thread
-- with these words, between two moments of which it has seen this, with this answer
abbrev pub Speech : Type 1
Speech = Names → ThreadWords → Command → History → Result Reply Fault → History → Type 0

-- THE ANSWER TO A WAIT: at once the word that the thread has;
-- else one that it heard, or E20, where it looked for one in vain
abbrev pub IsAnswered : Option ℕ → (ℕ → Type 0) → Type 0 → Result Reply Fault → Type 0
IsAnswered (Some w) heard vain answer = answer ≡ reply_to_wait (Some w)
IsAnswered None heard vain answer = (found : Option ℕ) × (answer ≡ reply_to_wait found) × MatchOption found vain heard

-- WHAT A COMMAND SAYS AND HEARS: `post` has posted the word of the reference for which its name
-- stands, 0 where it stands for none, with the thread's words and all that was seen before it,
-- and `wait` is answered by a word that is heard of behind it; no other command does either
abbrev pub speaks : (ThreadWords → List ℕ → ℕ → History → Type 0) → (List ℕ → ℕ → History → Type 0) → (List ℕ → Type 0)
    → Speech
speaks posted heard vain names words (commands.OnName v n) before answer after =
    posted words n (word_posted names n) before
speaks posted heard vain names words (commands.Make make.Wait n) before answer after =
    IsAnswered (word_under words n) (λ w. heard n w after) (vain n) answer
speaks posted heard vain names words _ before answer after = Unit {0}

-- OF SEVERAL THREADS IT IS SAID which words a board has under which names, and what each poster had seen then:
-- whoever hears a word has seen that.
-- Each name has a rank, and what is posted has a higher one than all whose words its poster has
abbrev pub said : (List ℕ → Option (ℕ × History)) → (List ℕ → ℕ) → Speech
said board rank = speaks (λ words n w seen. (board n ≡ Some (w, seen)) × AllByRecursion (λ x. rank x.0 < rank n) words)
    (λ n w seen. (begun : History) × (board n ≡ Some (w, begun)) × IsPrefix begun seen) (λ n. Unit {0})

-- OF ONE THREAD IT IS SAID that it hears nothing of others
abbrev pub said_alone : Speech
said_alone = speaks (λ words n w seen. Unit {0}) (λ n w seen. ⊥) (λ n. Unit {0})

-- WHAT A BOARD TELLS: threads of which room it serves (none over plain words);
-- that a word was posted under a name by a thread that had these words and had seen this;
-- and that whoever has seen this has heard of a word that was posted under a name
pub record Account : Type 1 where
  pub serves : Option TableId → Type 0
  pub posted : ThreadWords → List ℕ → ℕ → History → Type 0
  pub heard : List ℕ → ℕ → History → Type 0

-- so many looks at a board for a name, one after the other, of which each found nothing
pub data LooksInVain {B : Type 0} (looked : B → List ℕ → Option ℕ → B → Type 0) (n : List ℕ) (first : B) : ℕ → B
    → Type 0 where
  no_look : LooksInVain looked n first 0 first
  one_more : {k : ℕ} {mid last : B} → LooksInVain looked n first k mid → looked mid n None last
      → LooksInVain looked n first (suc k) last

-- a name was looked for as often as there are turns, and each look found nothing
abbrev pub WasInVain : {B : Type 0} → (B → List ℕ → Option ℕ → B → Type 0) → ℕ → List ℕ → Type 0
WasInVain {B} looked turns n = (first : B) × (last : B) × LooksInVain looked n first turns last

-- WHAT IS TOLD of a board, of which these are the words and the looks, to a thread with so many turns
abbrev pub talk_of : {B : Type 0} → (B → Account) → (B → List ℕ → Option ℕ → B → Type 0) → ℕ → B → Speech
talk_of tells looked turns board = speaks (tells board).posted (tells board).heard (WasInVain looked turns)

-- the words of a thread that looked for a name, and found this
abbrev pub words_found : List ℕ → Option ℕ → ThreadWords → ThreadWords
words_found n (Some w) words = words_with words n w
words_found n None words = words

-- where the thread of a board had words, it has these now
abbrev pub Follows : {B : Type 0} → (B → ThreadWords → Type 0) → B → B → (ThreadWords → ThreadWords) → Type 0
Follows follows old new now = (words : ThreadWords) → follows old words → follows new (now words)

-- WHAT STAYS of a board, whatever a thread posts or looks for: how it is laid out, whom it serves, and what it told
pub record Keeps {B : Type 0} (layout : B → Layout) (tells : B → Account) (old new : B) : Type 0 where
  pub same : layout new ≡ layout old
  pub serves : (room : Option TableId) → (tells old).serves room → (tells new).serves room
  pub posted : (words : ThreadWords) (n : List ℕ) (w : ℕ) (h : History) → (tells old).posted words n w h
      → (tells new).posted words n w h
  pub heard : (n : List ℕ) (w : ℕ) (h : History) → (tells old).heard n w h → (tells new).heard n w h

-- WHAT A THREAD LEARNS of others:
-- they did something in between, by at most one operation of its own, and it holds what it held
pub record LearnsOf (k k' : Known) : Type 0 where
  pub did : Did (view k) (view k') []
  pub held : k'.holdings ≡ k.holdings
  pub without : ℕ
  pub most : without ≤ 1
  pub taken : k'.taken ≡ k.taken + without

-- what a look makes of what was known: where it found nothing, nothing
abbrev pub LearnsByLook : Option ℕ → Known → Known → Type 0
LearnsByLook (Some w) k k' = LearnsOf k k'
LearnsByLook None k k' = k' ≡ k

-- the answer to a wait, and what it makes of what was known
abbrev pub Awaits : Result Reply Fault → Known → Known → Type 0
Awaits answer k k' =
    ((w : Handle) × (answer ≡ Ok (replies.Made (Some w))) × LearnsOf k k') ⊎ ((answer ≡ Err fault.Turns) × (k' ≡ k))

-- what a command makes of what was known by which threads hand each other something, and its answer:
-- `post` is done and leaves it, and `wait` may learn
abbrev pub SaysSo : Command → Result Reply Fault → Known → Known → Type 0
SaysSo (commands.OnName v n) answer k k' = (answer ≡ Ok replies.Done) × (k' ≡ k)
SaysSo (commands.Make make.Wait n) answer k k' = Awaits answer k k'
SaysSo _ answer k k' = ⊥

module _ {S : Type 0} (facts : S → Facts) where
  -- A WORD WAS POSTED under a name by a thread with these words:
  -- it stands as it did, and knows what it knew, which is told with the word
  abbrev pub HasPosted : S → S → Account → ThreadWords → List ℕ → ℕ → Type 0
  HasPosted old new account words n w =
      Went facts old new (facts old).stands anything (λ k k'. k' ≡ k) (λ k k'. account.posted words n w k.seen)

  -- A NAME WAS LOOKED FOR, and this was found: what was told with the word is seen then
  abbrev pub HasLookedFor : S → S → Account → List ℕ → Option ℕ → Type 0
  HasLookedFor old new account n found = Went facts old new (facts old).stands anything (LearnsByLook found) (λ k k'.
      IfSome found (λ w. account.heard n w k'.seen))

  -- A NAME WAS WAITED FOR by a thread that has this word under it, with this answer
  abbrev pub HasWaited : S → S → Account → Type 0 → List ℕ → Option ℕ → Result Reply Fault → Type 0
  HasWaited old new account vain n known answer = Went facts old new (facts old).stands anything (Awaits answer)
      (λ k k'. IsAnswered known (λ w. account.heard n w k'.seen) vain answer)

  -- A COMMAND WAS DONE by which threads hand each other something
  abbrev pub HasSpoken : S → S → Speech → Names → ThreadWords → Command → Result Reply Fault → Type 0
  HasSpoken old new speech names words c answer = Went facts old new (facts old).stands anything (SaysSo c answer)
      (λ k k'. speech names words c k.seen answer k'.seen)
