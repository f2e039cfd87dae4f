-- HOW A THREAD STANDS at a moment of a run of several, beside what is told of it by births. What it is for a deed to be
-- played by a program of steps.
use Rattle.std.proofs.Common.{◌≡◌, ◌≢◌, ◌⊎◌, ◌≤◌, ◌<◌, ◌+◌, ◌^◌, ℕ, zero, suc, Bool, true, false, Option, Some, None}
use Rattle.std.proofs.Common.{Result, Ok, Err, List, [], ◌∷◌, ◌++◌, map, length, slice_get, slice_index}
use mathlib.Core.List.{IsPrefix}
use Rattle.jr_word.specs.declared.config.Config.{Config}
use Rattle.jr_word.specs.declared.fault.Fault.{Fault}
use Rattle.jr_word.specs.declared.handle.Handle.{Handle as HandleWord}
use Rattle.jr_word.specs.Config.{IsLimited}
use Rattle.jr_word.specs.Handle.{handle_word}
use Rattle.jr_model.specs.declared.event.Act.{Act}
use Rattle.jr_model.specs.declared.event.Role.{Role}
use Rattle.jr_model.specs.declared.event.Role.TheVariants.{Collecting}
use Rattle.jr_model.specs.State.{Handle}
use Rattle.jr_model.specs.Frames.{Frames, all_refs, is_held, stored_at}
use Rattle.jr_model.specs.History.{Did, History, IsLegal, PassView, mine, role_from}
use Rattle.jr_model.specs.Programs.{AnswerKind, AnswerOf}
use Rattle.jr_gate.specs.Performing.{ThreadState}
use Rattle.jr_env.specs.Deeds.{Deed}
use Rattle.jr_world.specs.World.{MeantOf, Ref}
use Rattle.jr_world.specs.Births.{births}
use Rattle.jr_world.specs.Doing.{Doing}
use Rattle.jr_world.specs.Fullness.{deleted_by, deletions}
use Rattle.jr_world.specs.Plays.{Plays}
use Rattle.jr_world.specs.Playing.{AnswerIs, HasComeTo, ObjectIs, SameFault}
use Rattle.one_order.specs.Orders.{Item}
use Rattle.one_order.specs.Orders.Item.{does as acting}
use Rattle.jr_scripts.specs.declared.reply.Reply.{Reply}
use Rattle.jr_scripts.specs.declared.reply.Reply.TheVariants as replies
use Rattle.jr_scripts.specs.declared.binding.Binding.{Binding}
use Rattle.jr_scripts.specs.declared.binding.Binding.TheVariants as bound
use Rattle.jr_scripts.specs.Names.{Names, binding}
use Rattle.jr_scripts.specs.Places.{Place}
use Rattle.jr_scripts.specs.Posting.{ThreadWords}

-- THE ROOM of a run: its sizes and its whole history, in which no handle is given beyond the last serial
pub record Room : Type 0 where
  pub config : Config
  pub last : ℕ
  pub whole : History
  pub legal : IsLegal config last whole
  pub limits : IsLimited config
  pub few : last < 2 ^ 32
  pub serials : length (deletions whole) ≤ last
  pub puts : (u p : ℕ) → stored_at p (mine whole u) ≤ suc last

-- WHAT IS TOLD OF VALUES BY BIRTHS

-- the word of a reference, and the number by which it is told: 0 for NULL, and else one more than where it was born
abbrev pub HandleIs : History → ℕ → ℕ → Type 0
HandleIs h w zero = w ≡ 0
HandleIs h w (suc i) =
    (g : Handle) × (q : Option Ref) × (slice_get (births h).refs i ≡ Some (g, q)) × (w ≡ handle_word g)

abbrev pub HandleIfIs : History → Option HandleWord → Option HandleWord → Type 0
HandleIfIs h None None = Unit {0}
HandleIfIs h (Some a) (Some b) = HandleIs h a.0 b.0
HandleIfIs h _ _ = ⊥

-- what a name stands for
abbrev pub BindingIs : History → Binding → Binding → Type 0
BindingIs h bound.Nothing bound.Nothing = Unit {0}
BindingIs h (bound.Reference a) (bound.Reference b) = HandleIs h a.0 b.0
BindingIs h (bound.Buffer b) (bound.Buffer d) = b ≡ d
BindingIs h _ _ = ⊥

abbrev pub NamesAre : History → Names → Names → Type 0
NamesAre h names names' = (n : List ℕ) → BindingIs h (binding names n) (binding names' n)

-- the words that were posted or heard, under the same names
abbrev pub WordsAre : History → ThreadWords → ThreadWords → Type 0
WordsAre h [] [] = Unit {0}
WordsAre h (x ∷ xs) (y ∷ ys) = (x.0 ≡ y.0) × HandleIs h x.1 y.1 × WordsAre h xs ys
WordsAre h _ _ = ⊥

-- the object of a level
abbrev pub LevelIs : History → ℕ → ℕ → Type 0
LevelIs h o j = (o ≡ 0) ⊎ ObjectIs h o j

abbrev pub LevelsAre : History → List ℕ → List ℕ → Type 0
LevelsAre h [] [] = Unit {0}
LevelsAre h (o ∷ os) (j ∷ js) = LevelIs h o j × LevelsAre h os js
LevelsAre h _ _ = ⊥

-- a reply with neither a reference nor an object
abbrev pub is_plain : Reply → Bool
is_plain (replies.Made h) = false
is_plain (replies.Level o) = false
is_plain _ = true

-- A REPLY, and what is told of it
pub data ReplyIs (h : History) : Reply → Reply → Type 0 where
  made_too : {a b : Option HandleWord} → HandleIfIs h a b → ReplyIs h (replies.Made a) (replies.Made b)
  level_too : {o j : ℕ} → LevelIs h o j → ReplyIs h (replies.Level o) (replies.Level j)
  the_same : (a : Reply) → is_plain a ≡ true → ReplyIs h a a

-- the answer of a deed, and that of its program
abbrev pub AnswerSo : {A B : Type 0} → (History → A → B → Type 0) → History → Result A Fault → Result B Fault → Type 0
AnswerSo V h (Ok x) (Ok y) = V h x y
AnswerSo V h (Err e) (Err d) = SameFault e d
AnswerSo V h _ _ = ⊥

-- so far the place and the words of a thread are as they are told
pub record Stands (h : History) (p q : Place) (had told : ThreadWords) : Type 0 where
  pub names : NamesAre h p.names q.names
  pub levels : p.levels ≡ q.levels
  pub objects : LevelsAre h p.objects q.objects
  pub words : WordsAre h had told

-- WHAT IS LEFT OF SERIALS: references may be given up so often yet, and each place has serials left then.
-- There is a frame: without one a new reference would be in none, and its place be free again
pub record HasLeft (last k : ℕ) (f : Frames) : Type 0 where
  pub some_frame : 1 ≤ length f.frames
  pub free : (p : ℕ) → is_held (all_refs f) p ≡ false → slice_index f.given p + k ≤ last
  pub all : (p : ℕ) → slice_index f.given p + k ≤ suc last

-- the references that acts deleted
abbrev pub deleted_in : List Act → List Handle
deleted_in [] = []
deleted_in (a ∷ acts) = deleted_by a ++ deleted_in acts

-- who wasn't collecting before these acts isn't behind them
abbrev pub Settles : List Act → Type 0
Settles acts = (r : Role) → r ≢ Collecting → role_from r acts ≢ Collecting

-- as often as the test says references are given up
abbrev pub times : Bool → ℕ
times true = 1
times false = 0

module _ (c : Config) (last t : ℕ) where
  -- the pass of thread t in a room
  pub record IsPass (p : PassView) : Type 0 where
    pub config : p.config ≡ c
    pub last_is : p.last ≡ last
    pub thread : p.thread ≡ t
    pub legal : IsLegal c last p.seen

-- WHAT A DEED COUNTS: what it adds to the serials that are given, where it gives up references so often at the most.
-- A collection that it begins it also ends
pub record Counts (last n : ℕ) (old new : ThreadState) : Type 0 where
  pub acts : List Act
  pub did : Did old.pass new.pass acts
  pub given : (p : ℕ) → slice_index new.frames.given p ≡ slice_index old.frames.given p + stored_at p acts
  pub left : (k : ℕ) → HasLeft last (n + k) old.frames → HasLeft last k new.frames
  pub deletes : length (deleted_in acts) ≤ n
  pub settles : Settles acts

-- nothing is asked of frames
abbrev pub any_frames : Frames → Type 0
any_frames f = Unit {0}

module _ (r : Room) (t : ℕ) where
  -- where the deed has ended: its thread has come there with the pass, and was answered so
  abbrev pub EndsSo : {A B : Type 0} → (History → A → B → Type 0) → ThreadState → Result A Fault → History
      → Result B Fault → Type 0
  EndsSo V new answer later x = HasComeTo r.whole new.pass later × AnswerSo V later answer x

  -- the thread has done nothing between these moments
  abbrev pub Since : History → History → Type 0
  Since h later = IsPrefix h later × (mine later t ≡ mine h t)

  -- what a deed does are acts of its thread
  abbrev pub HasDid : {A : Type 0} → Deed A → Type 0
  HasDid {A} deed = (old new : ThreadState) (answer : Result A Fault) → IsPass r.config r.last t old.pass
      → deed old answer new → (acts : List Act) × Did old.pass new.pass acts

  -- A DEED IS PLAYED by a program of steps, whatever others do between, where this is so of its frames. It begins at
  -- this moment, or at any later one to which the thread has come with nothing done
  pub record DeedPlays {A B : Type 0} (h : History) (F : Frames → Type 0) (V : History → A → B → Type 0)
      (deed : Deed A) (d : Doing B) : Type 0 where
    pub plays : (old new : ThreadState) (past : History) (answer : Result A Fault) (acts : List Act)
        (behind : List (Item Act)) → IsPass r.config r.last t old.pass → deed old answer new
        → Did old.pass new.pass acts → IsPrefix new.pass.seen r.whole → HasComeTo r.whole old.pass past → Since h past
        → F old.frames
        → Plays r.config r.whole t (EndsSo V new answer) new.frames behind d past old.frames (map acting acts)

  -- the answer of a call, and what is meant by it
  abbrev pub Meant : (a : AnswerKind) → History → AnswerOf a → MeantOf a → Type 0
  Meant a h x y = AnswerIs h a x y
