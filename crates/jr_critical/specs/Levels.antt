-- The levels of a critical region, over any steps and frames, for whatever was known.
use Rattle.std.specs.Prelude.{◌≡◌, ◌<◌, ◌≤◌, ◌++◌, ◌∷◌, ℕ, Option, Some, None}
use Rattle.std.specs.Prelude.{Result, Ok, Err, List, [], map, length, slice_index_or}
use Rattle.std.specs.List.{AllByRecursion}
use Rattle.jr_word.specs.declared.config.Config.{Config}
use Rattle.jr_word.specs.declared.fault.Fault.{Fault}
use Rattle.jr_word.specs.declared.kind.Kind.{Kind}
use Rattle.jr_word.specs.declared.kind.Kind.TheVariants.{Plain}
use Rattle.jr_model.specs.declared.event.Role.{Role}
use Rattle.jr_model.specs.declared.frames.TheConstants.{LEVELS}
use Rattle.jr_model.specs.declared.event.Role.TheVariants.{Outside, Within}
use Rattle.jr_model.specs.State.{State}
use Rattle.jr_model.specs.Frames.{Frames}
use Rattle.jr_model.specs.Calls.{Call}
use Rattle.jr_model.specs.Checks.{Word}
use Rattle.jr_model.specs.Parts.{region_release}
use Rattle.jr_model.specs.Programs.{Program, at_object, handed_one, object, work_of}
use Rattle.jr_model.specs.CallPrograms.{region_get, region_kind, region_length, region_set}
use Rattle.jr_model.specs.AllCalls.{means, nests, opens}
use Rattle.jr_steps.specs.declared.known.Known.{Known}
use Rattle.jr_steps.specs.declared.steps.Steps.{Ghosts}
use Rattle.jr_steps.specs.Knowing.{Facts, Leads, MayKnow, state_of, keeps, lets_go, Holds}
use Rattle.jr_gate.specs.declared.inside.Inside.{Inside}
use Rattle.jr_gate.specs.Performing.{IsAsBefore, IsMade, Performed, thread_state}
use Rattle.jr_gate.specs.Stays.{IsOwnStay}
use Rattle.jr_heap.specs.Heap.{HoldsHeader, Learns}
use Rattle.jr_frames.specs.declared.held.Held.{Held}
use Rattle.jr_frames.specs.Reading.{IsReadAs}
use Rattle.jr_frames.specs.Ready.{StandsReady}
use Rattle.jr_frames.specs.Table.{Table}
use Rattle.jr_critical.specs.declared.level.Level.{Level}
use Rattle.jr_critical.specs.declared.levels.Levels.{Levels}

-- what it means to open a region by a program at a word, to open one in a stay that goes on, and to add a level
abbrev pub opened_by : Program 0 object → Config → ℕ → ℕ → State → Word → Call ℕ
opened_by p c last t s a = means c last t s (opens (handed_one a) p)

abbrev pub opened_within : Program 0 object → Config → ℕ → ℕ → State → Word → Call ℕ
opened_within p c last t s a = work_of c last t s (handed_one a) p

abbrev pub nested_by : (ℕ → Program 0 object) → Config → ℕ → ℕ → State → List ℕ → Word → Call (ℕ × List ℕ)
nested_by p c last t s levels a = means c last t s (nests levels (handed_one a) (p (length levels)))

-- the objects of the levels, the first first
abbrev pub objects_of : Levels → List ℕ
objects_of v = map (λ (l : Level). l.object) v.levels.items

-- the level of a number, one of no object beyond the last
abbrev pub level_at : Levels → ℕ → Level
level_at v i =
    slice_index_or v.levels.items i (record { object = 0; header = record { kind = Plain; length = 0; place = 0 } })

-- its object
abbrev pub level_object : Levels → ℕ → ℕ
level_object v i = (level_at v i).object

-- the stay that they stand in
abbrev pub stay_of : Levels → Inside
stay_of v = v.inside

-- the pass knows the header of each level
abbrev pub AreKnown : List Level → Known → Type 0
AreKnown levels k = AllByRecursion (λ (l : Level). HoldsHeader l.object l.header k) levels

-- it does, and the frames are those of the thread's locals
abbrev pub KnowsLevels : Levels → Frames → Known → Type 0
KnowsLevels v f k = AreKnown v.levels.items k × Holds f k

-- an element as its word
abbrev pub in_words : {E : Type 0} → (E → ℕ) → Result E Fault → Result ℕ Fault
in_words word (Ok x) = Ok (word x)
in_words word (Err e) = Err e

-- a region that was opened, as the call answers it
abbrev pub object_opened : Result Levels Fault → Result ℕ Fault
object_opened (Ok v) = Ok (level_object v 0)
object_opened (Err e) = Err e

-- the thread is within where the region was opened, and outside where it was refused
abbrev pub role_opened : Result Levels Fault → Role
role_opened (Ok v) = Within
role_opened (Err e) = Outside

-- the pass holds the header of the first level beside what it held, and nothing where the region was refused
abbrev pub LearnsFirst : Result Levels Fault → Known → Known → Type 0
LearnsFirst (Ok v) j k = AreKnown v.levels.items k × Learns (level_at v 0).object (level_at v 0).header j k
LearnsFirst (Err e) j k = lets_go j k

-- a region that was opened in a stay, without the stay that is handed back where it was refused
abbrev pub without_stay : Result Levels (Inside × Fault) → Result Levels Fault
without_stay (Ok v) = Ok v
without_stay (Err e) = Err e.1

-- the header of the first level is known where the region was opened
abbrev pub KnowsFirst : Result Levels Fault → Frames → Known → Type 0
KnowsFirst (Ok v) f k = KnowsLevels v f k
KnowsFirst (Err e) f k = Holds f k

-- a new level, as the call answers it: its number, and the objects then
abbrev pub level_nested : Result ℕ Fault → Levels → Result (ℕ × List ℕ) Fault
level_nested (Ok n) v = Ok (n, objects_of v)
level_nested (Err e) v = Err e

-- the thread is within while a level is left, and outside then
abbrev pub role_left : Option Levels → Role
role_left (Some v) = Within
role_left None = Outside

-- the pass holds what it held while a level is left, and nothing then
abbrev pub HoldsLeft : Option Levels → Known → Known → Type 0
HoldsLeft (Some v) j k = AreKnown v.levels.items k × keeps j k
HoldsLeft None j k = lets_go j k

-- the levels that are left are all but the last: none where there was one alone
abbrev pub LeavesBefore : Levels → Option Levels → Type 0
LeavesBefore v (Some w) = (l : Level) × (v.levels.items ≡ w.levels.items ++ l ∷ [])
LeavesBefore v None = length (objects_of v) ≡ 1

-- A LEVEL WAS ADDED behind those that stood, each of which stays as it was:
-- its number is how many they were, fewer than there may be
pub record WasAdded (v w : Levels) (n : ℕ) : Type 0 where
  pub number : n ≡ length (objects_of v)
  pub fits : n < LEVELS
  pub behind : LeavesBefore w (Some v)

-- whatever is known with the headers of the levels: this is the kind of the level's object still
abbrev pub TellsKind : Levels → ℕ → Kind → Type 0
TellsKind v i kind = (c : Config) (last t : ℕ) (k : Known) (f : Frames) → AreKnown v.levels.items k
    → at_object c last t (state_of k) (level_object v i) region_kind f [] (Ok kind) f

-- and this is its length
abbrev pub TellsLength : Levels → ℕ → ℕ → Type 0
TellsLength v i n = (c : Config) (last t : ℕ) (k : Known) (f : Frames) → AreKnown v.levels.items k
    → at_object c last t (state_of k) (level_object v i) region_length f [] (Ok n) f

module _ {S : Type 0} (facts : S → Facts) where
  -- THE LEVELS STAND over these steps and frames: the stay is the steps' own, there is a level at least, the
  -- thread stands ready within, and something that may be known has each level's header and agrees with the frames
  pub record Stand (v : Levels) (s : S) (t : Table) : Type 0 where
    pub stay : IsOwnStay v.inside (facts s).stands
    pub ready : StandsReady facts Within s t
    pub some : 1 ≤ length (objects_of v)
    pub known : MayKnow facts s (KnowsLevels v t.frames)

  -- A REGION WAS OPENED, or refused: for whatever was known something is known from which
  -- the thread did what the call does, with this answer, by at most one operation beside
  -- its acts. The stay goes on where it was opened, and has ended where it was refused
  pub record HasOpened (old new : S) (f : Frames) (call : State → Call ℕ) (answer : Result Levels Fault) : Type 0 where
    pub stands_is : IsAsBefore (record ((facts old).stands) { role = role_opened answer }) (facts new).stands
    pub ran : Leads facts old new (Holds f) (λ k k'. IsMade 1 (thread_state (facts old) k f)
        (thread_state (facts new) k' f) (call (state_of k')) (object_opened answer)) (λ j k. LearnsFirst answer j k
        × Holds f k)

  -- the same, by a reference word that was read
  abbrev pub Opens : S → S → Frames → ℕ → (Config → ℕ → ℕ → State → Word → Call ℕ) → Result Levels Fault → Type 0
  Opens old new f w call answer = (a : Word) × IsReadAs w a × HasOpened old new f
      (λ s. call (facts old).stands.config (facts old).stands.last (facts old).stands.thread s a) answer

  -- A REGION WAS OPENED IN A STAY that goes on, by a reference word that was read, or
  -- refused, by at most one operation beside the acts: the header of its level is known
  abbrev pub OpensWithin : S → S → Frames → ℕ → (Config → ℕ → ℕ → State → Word → Call ℕ) → Result Levels Fault → Type 0
  OpensWithin old new f w call answer =
      (a : Word) × IsReadAs w a × Performed facts old new f f 1 (Holds f) (λ s. call (facts old).stands.config
      (facts old).stands.last (facts old).stands.thread s a) (object_opened answer) (λ j k. KnowsFirst answer f k)

  -- A LEVEL WAS ADDED to these levels, or refused, in their stay, by at most one operation beside the acts:
  -- the header of each level is known
  abbrev pub Nests : S → S → Frames → ℕ → (Config → ℕ → ℕ → State → List ℕ → Word → Call (ℕ × List ℕ)) → Levels → Levels
      → Result ℕ Fault → Type 0
  Nests old new f w call v v' answer = (a : Word) × IsReadAs w a
      × Performed facts old new f f 1 (KnowsLevels v f) (λ s. call (facts old).stands.config (facts old).stands.last
      (facts old).stands.thread s (objects_of v) a) (level_nested answer v') (λ j k. KnowsLevels v' f k)

  -- A CALL AT AN ELEMENT of a level's object was made in their stay, by no operation beside its act:
  -- the pass holds what it held
  abbrev pub Reaches : {A : Type 0} → S → S → Frames → Levels → (Config → ℕ → ℕ → State → Call A) → Result A Fault
      → Type 0
  Reaches old new f v call answer = Performed facts old new f f 0 (KnowsLevels v f)
      (λ s. call (facts old).stands.config (facts old).stands.last (facts old).stands.thread s) answer (λ j k. keeps j k
      × KnowsLevels v f k)

  -- THE LAST LEVEL WAS GIVEN UP: with the first one the stay has ended, by one operation, and else no step was taken
  pub record GivesUpLast (old new : S) (f : Frames) (v : Levels) (left : Option Levels) : Type 0 where
    pub stands_is : IsAsBefore (record ((facts old).stands) { role = role_left left }) (facts new).stands
    pub ran : Leads facts old new (KnowsLevels v f) (λ k k'. IsMade 0 (thread_state (facts old) k f)
        (thread_state (facts new) k' f) (region_release (length (objects_of v))) (Ok tt)) (λ j k. HoldsLeft left j k
        × Holds f k)

  -- ALL LEVELS WERE GIVEN UP at once: the stay has ended, by one operation, as where the first alone is given up
  pub record GivesUpAll (old new : S) (f : Frames) (v : Levels) : Type 0 where
    pub stands_is : IsAsBefore (record ((facts old).stands) { role = Outside }) (facts new).stands
    pub ran : Leads facts old new (KnowsLevels v f) (λ k k'. IsMade 0 (thread_state (facts old) k f)
        (thread_state (facts new) k' f) (region_release 1) (Ok tt)) (λ j k. lets_go j k × Holds f k)

-- the same of the steps and frames that a thread holds together, as contracts say it
module _ {S : Type 0} {G : Ghosts S} where
  -- THE THREAD STANDS OUTSIDE, ready for its next call
  abbrev pub StandsOutside : Held S G → Type 0
  StandsOutside held = StandsReady G.facts Outside held.steps held.frames

  -- the thread stands within, ready for its next call there
  abbrev pub StandsWithin : Held S G → Type 0
  StandsWithin held = StandsReady G.facts Within held.steps held.frames

  -- the levels stand over what the thread holds
  abbrev pub StandOver : Levels → Held S G → Type 0
  StandOver v held = Stand G.facts v held.steps held.frames

  -- a region was opened, or refused, by a reference word that was read
  abbrev pub OpensOver : Held S G → Held S G → ℕ → (Config → ℕ → ℕ → State → Word → Call ℕ) → Result Levels Fault
      → Type 0
  OpensOver old new w call answer = Opens G.facts old.steps new.steps old.frames.frames w call answer

  -- a region was opened in a stay, or refused
  abbrev pub OpensWithinOver : Held S G → Held S G → ℕ → (Config → ℕ → ℕ → State → Word → Call ℕ) → Result Levels Fault
      → Type 0
  OpensWithinOver old new w call answer = OpensWithin G.facts old.steps new.steps old.frames.frames w call answer

  -- a level was added to these levels, or refused
  abbrev pub NestsOver : Held S G → Held S G → ℕ → (Config → ℕ → ℕ → State → List ℕ → Word → Call (ℕ × List ℕ)) → Levels
      → Levels → Result ℕ Fault → Type 0
  NestsOver old new w call v v' answer = Nests G.facts old.steps new.steps old.frames.frames w call v v' answer

  -- AN ELEMENT OF A LEVEL WAS READ as one of this kind, or refused
  abbrev pub ReadsAt : Held S G → Held S G → Levels → ℕ → Kind → ℕ → Result ℕ Fault → Type 0
  ReadsAt old new v level kind index answer = Reaches G.facts old.steps new.steps old.frames.frames v
      (λ c last t s. at_object c last t s (level_object v level) (region_get kind index)) answer

  -- AN ELEMENT OF A LEVEL WAS WRITTEN as one of this kind, or refused
  abbrev pub WritesAt : Held S G → Held S G → Levels → ℕ → Kind → ℕ → ℕ → Result (Unit {0}) Fault → Type 0
  WritesAt old new v level kind index word answer = Reaches G.facts old.steps new.steps old.frames.frames v
      (λ c last t s. at_object c last t s (level_object v level) (region_set kind index word)) answer

  -- the last level was given up
  abbrev pub GivesUpLastOver : Held S G → Held S G → Levels → Option Levels → Type 0
  GivesUpLastOver old new v left = GivesUpLast G.facts old.steps new.steps old.frames.frames v left

  -- all levels were given up at once
  abbrev pub GivesUpAllOver : Held S G → Held S G → Levels → Type 0
  GivesUpAllOver old new v = GivesUpAll G.facts old.steps new.steps old.frames.frames v
