-- What is known of a call while it is in its stay, and what it is for an ending to be played there.
use Rattle.std.proofs.Common.{◌≡◌, ◌⊎◌, ◌<◌, ◌≤◌, ◌+◌, ℕ, Option, Some, Result, IfErr}
use Rattle.std.proofs.Common.{List, [], ◌∷◌, ◌++◌, map, length, slice_get, zero, suc, false, ap, subst, ◌∙◌}
use Rattle.std.proofs.Common.{append_assoc, append-nil}
use mathlib.Core.List.{IsPrefix}
use Rattle.jr_word.specs.declared.config.Config.{Config}
use Rattle.jr_word.specs.declared.fault.Fault.{Fault}
use Rattle.jr_word.specs.declared.fault.Fault.TheVariants.{ObjectsFull, Raced, RowFull}
use Rattle.jr_word.specs.declared.kind.Kind.{Kind}
use Rattle.jr_model.specs.declared.event.Act.{Act}
use Rattle.jr_model.specs.declared.event.Act.TheVariants.{Gate}
use Rattle.jr_model.specs.declared.event.GateAct.TheVariants.{Leave}
use Rattle.jr_model.specs.State.{Contents, EachPresent}
use Rattle.jr_model.specs.Frames.{Frames}
use Rattle.jr_model.specs.History.{History, IsLegal, by, mine, state}
use Rattle.jr_model.specs.Checks.{Word, Nothing, Malformed, Parts}
use Rattle.jr_model.specs.declared.event.Role.TheVariants.{Within}
use Rattle.jr_model.proofs.Histories.{mine_append, mine_push}
use Rattle.jr_model.specs.Tests.{is_silent}
use Rattle.jr_model.specs.Programs.{AnswerKind, AnswerOf, Which, Ending, ended as ended_as}
use Rattle.jr_world.specs.World.{MeantOf}
use Rattle.jr_world.specs.Births.{births}
use Rattle.jr_world.specs.Fullness.{creations, deletions, row_references}
use Rattle.jr_world.specs.Doing.{Noted, ending_steps}
use Rattle.jr_world.specs.Plays.{Plays}
use Rattle.jr_world.specs.Playing.{AnsweredBy, BothAre, EndsApt, IsNotedAt, ObjectIs, WordIs}
use Rattle.jr_world.specs.Births.{IsAs}
use Rattle.jr_world.specs.Plays.{OthersGoOn, ActsNext}
use Rattle.jr_world.proofs.Births.{worlds_are_so}
use Rattle.jr_world.proofs.Births.BornLists.{entry_stays}
use Rattle.jr_world.proofs.Standing.{Stays, like_between, front_legal, is_of_gate, stays_by_act, stays_by_others}
use Rattle.jr_world.proofs.Standing.{still_within}
use Rattle.one_order.specs.Orders.{Item}
use Rattle.one_order.specs.Orders.Item.{does as acting}

-- A CALL IN ITS STAY: the history of its room, the moment right behind its entry, what it noted then, and what the
-- thread has done in all when its work is done
pub record Scene : Type 0 where
  pub config : Config
  pub last : ℕ
  pub whole : History
  pub thread : ℕ
  pub legal : IsLegal config last whole
  pub small : thread < config.threads
  pub serials : length (deletions whole) ≤ last
  pub entry : History
  pub noted : Noted
  pub noted_so : IsNotedAt entry noted
  pub own : List Act

-- no other thread's event is the thread's own
module _ (k : Scene) where
  same_own : (past now : History) → OthersGoOn k.config k.whole k.thread past now
      → mine now k.thread ≡ mine past k.thread
  same_own past now goes = ap (λ h. mine h k.thread) goes.is ∙ mine_append past goes.since k.thread
      ∙ ap (λ l. mine past k.thread ++ l) goes.others ∙ append-nil (mine past k.thread)

word_along : (past rest : History) (w : Word) (n : ℕ) → WordIs past w n → WordIs (past ++ rest) w n
word_along past rest Nothing n word = word
word_along past rest Malformed n word = word
word_along past rest (Parts h) zero word = word
word_along past rest (Parts h) (suc i) word = entry_stays past rest i h word

module _ (k : Scene) where
  abbrev pub StaysOn : History → History → Type 0
  StaysOn from to = Stays k.config k.last k.whole k.thread k.legal from to

  -- between this moment and the entry the thread stays, whichever is the earlier
  abbrev pub InOneStay : History → Type 0
  InOneStay moment = StaysOn k.entry moment ⊎ StaysOn moment k.entry

  -- the call has come so far, and these acts are left of its work
  pub record IsAt (past : History) (acts : List Act) : Type 0 where
    pub stays : StaysOn k.entry past
    pub begins : IsPrefix past k.whole
    pub own : mine past k.thread ++ acts ≡ k.own

  -- what a refusal says of the moment right before the exit, and of a reservation that was lost
  abbrev pub Grounded : Fault → Type 0
  Grounded RowFull = (mid : History) → IsPrefix ((k.entry ++ mid) ++ by k.thread (Gate Leave) ∷ []) k.whole
      → mine (k.entry ++ mid) k.thread ≡ k.own
      → k.config.slots ≤ row_references k.config k.last (state k.entry) + length (creations mid)
  Grounded ObjectsFull = (now : History) → IsPrefix (now ++ by k.thread (Gate Leave) ∷ []) k.whole
      → mine now k.thread ≡ k.own → EachPresent k.config (state now)
  Grounded (Raced looked found) = (state k.entry).used < found
  Grounded _ = Unit {0}

  -- a refusal that speaks of the room has its grounds, and the thread leaves behind it
  abbrev pub MayRefuse : {A : Type 0} → List (Item Act) → Result A Fault → Type 0
  MayRefuse behind answer = IfErr answer (λ e. is_silent e ≡ false
      → Grounded e × (later : List (Item Act)) × (behind ≡ acting (Gate Leave) ∷ later))

  -- what is known of the places, and of the object at hand
  abbrev pub KnownAre : History → (Which → Option ℕ) → (Which → Option ℕ) → Type 0
  KnownAre past known known' = (p : Which) → BothAre (ObjectIs past) (known p) (known' p)

  abbrev pub HandIs : History → Kind → ℕ → ℕ → Type 0
  HandIs past kind o o' =
      (o ≡ 0) ⊎ (x : Contents) × (slice_get (births past).objects o' ≡ Some (o, Some x)) × (x.kind ≡ kind)

  -- the call is still in its stay, in a moment of the whole, and answered so
  abbrev pub Then : (a : AnswerKind) → Result (AnswerOf a) Fault → History → Result (MeantOf a) Fault → Type 0
  Then a answer later r = StaysOn k.entry later × IsPrefix later k.whole × AnsweredBy a answer later r

  -- AN ENDING IS PLAYED by its steps
  abbrev pub EndingPlays : {n : ℕ} {a : AnswerKind} → Ending n a → Type 0
  EndingPlays {n} {a} e = (words : Which → Word) (numbers : Which → ℕ) (known known' : Which → Option ℕ) (kind : Kind)
      (o o' : ℕ) (past : History) (f g : Frames) (acts : List Act) (answer : Result (AnswerOf a) Fault)
      (behind : List (Item Act)) → IsAt past acts → ((p : Which) → WordIs past (words p) (numbers p))
      → KnownAre past known known' → HandIs past kind o o' → EndsApt k.last f words kind e → MayRefuse behind answer
      → ended_as k.config k.last k.thread words e known o f acts answer g
      → Plays k.config k.whole k.thread (Then a answer) g behind
      (ending_steps k.config k.noted numbers e known' o') past f (map acting acts)

  -- others' events, and an act of the thread that is none at the gate, leave the call in its stay
  pub at_now : (past now : History) (acts : List Act) → IsAt past acts → OthersGoOn k.config k.whole k.thread past now
      → IsAt now acts
  at_now past now acts at goes = record {
    stays = stays_by_others k.config k.last k.whole k.thread k.legal k.entry past now at.stays goes;
    begins = goes.begins;
    own = ap (λ l. l ++ acts) (same_own k past now goes) ∙ at.own;
  }

  pub at_next : (past now : History) (a : Act) (acts : List Act) → IsAt past (a ∷ acts)
      → ActsNext k.config k.whole k.thread past now a → is_of_gate a ≡ false → IsAt (now ++ by k.thread a ∷ []) acts
  at_next past now a acts at next no_gate = record {
    stays = stays_by_act k.config k.last k.whole k.thread k.legal k.entry past now a at.stays next no_gate;
    begins = next.next;
    own = ap (λ l. l ++ acts) (mine_push now k.thread a ∙ ap (λ l. l ++ a ∷ []) (same_own k past now next.goes))
        ∙ append_assoc (mine past k.thread) (a ∷ []) acts ∙ at.own;
  }

  -- at a moment of the call its thread is within
  pub at_within : (past : History) (acts : List Act) → IsAt past acts → (state past).role k.thread ≡ Within
  at_within past acts at = still_within k.config k.last k.whole k.thread k.legal k.entry past at.stays

  -- and its history is legal, so that its births are as its state
  pub at_legal : (past : History) (acts : List Act) → IsAt past acts → IsLegal k.config k.last past
  at_legal past acts at = front_legal k.config k.last k.whole k.thread k.legal past at.begins

  pub at_births : (past : History) (acts : List Act) → IsAt past acts → IsAs (births past) (state past)
  at_births past acts at = worlds_are_so k.config k.last past (at_legal past acts at)

  -- WHAT IS KNOWN STAYS KNOWN
  pub word_now : (past now : History) → IsPrefix past now → (w : Word) (n : ℕ) → WordIs past w n → WordIs now w n
  word_now past now (rest, is) w n word = subst (λ h. WordIs h w n) is (word_along past rest w n word)

  pub object_now : (past now : History) → StaysOn past now → IsPrefix now k.whole → (o j : ℕ) (x : Contents)
      → slice_get (births past).objects j ≡ Some (o, Some x)
      → (y : Contents) × (slice_get (births now).objects j ≡ Some (o, Some y)) × (y.kind ≡ x.kind)
      × (length y.words ≡ length x.words)
  object_now past now stays begins o j x e =
      like_between k.config k.last k.whole k.thread k.legal past now stays begins o j x e
