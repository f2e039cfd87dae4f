-- THE RULE OF THE ROW: its words are the image of the machine's state after one legal history, the
-- longest that any pass has seen, and each pass has seen a beginning of it, with all its own events.
use Rattle.std.specs.Prelude.{◌≡◌, ◌+◌, ◌<◌, ◌^◌, ◌==◌, ℕ, zero, suc, Bool, true}
use Rattle.std.specs.Prelude.{cond, List, [], ◌∷◌, ◌++◌, map, slice_index, slice_set}
use mathlib.Core.List.{IsPrefix}
use mathlib.Core.Option.{some}
use lib.ListN.{get_elem?}
use Rattle.atomic_table.specs.Table.{State as Table, Me}
use Rattle.jr_word.specs.declared.config.Config.{Config}
use Rattle.jr_word.specs.Config.{in_limits, IsLimited}
use Rattle.jr_word.specs.declared.gate.GateParts.{GateParts}
use Rattle.jr_word.specs.Gate.{gate_word, IsGate}
use Rattle.jr_model.specs.declared.event.Act.{Act}
use Rattle.jr_model.specs.declared.event.Act.TheVariants.{Meet}
use Rattle.jr_model.specs.declared.event.Role.{Role}
use Rattle.jr_model.specs.State.{not_outside}
use Rattle.jr_model.specs.History.{History, by, state, IsLegal, mine, role_of}
use Rattle.jr_steps.specs.declared.known.Known.{Known}
use Rattle.jr_rule.specs.declared.rule.View.{View}
use Rattle.jr_rule.specs.declared.rule.Sizes.{Sizes}
use Rattle.jr_steps.specs.declared.known.Holdings.{Holdings}
use Rattle.jr_steps.specs.Holdings.{InSpace, empty, hold}
use Rattle.jr_rule.specs.Image.{IsImage}
use Rattle.jr_steps.specs.Knowing.{Goes, ShowsGate, view, keeps, HasStoredNone, state_of}

abbrev pub sizes : Config → ℕ → Sizes
sizes c last = record { config = c; last = last }

abbrev pub known : Config → ℕ → ℕ → History → Holdings → ℕ → Known
known c last t seen holdings taken =
    record { config = c; last = last; thread = t; seen = seen; holdings = holdings; taken = taken }

-- what a seat stands for that has the count of so many joins and partings, these passes, and these notes
abbrev pub view_at : ℕ → List Known → List Known → View
view_at n ks ns = record { passes = ks; notes = ns; joints = n }

-- that has no note, and no count yet
abbrev pub view_of : List Known → View
view_of ks = view_at 0 ks []

-- the sizes of a room, and its last serial
pub record IsSized (c : Config) (last : ℕ) : Type 0 where
  pub limits : in_limits c ≡ true
  pub limited : IsLimited c
  pub serials : last < 2 ^ 32

-- A PASS has seen a beginning of the history, in which all its own events stand, and holds what its thread does
pub record Fits (c : Config) (last : ℕ) (log : History) (held : ℕ → Holdings) (k : Known) : Type 0 where
  pub same_config : k.config ≡ c
  pub same_last : k.last ≡ last
  pub row : k.thread < c.threads
  pub begins : IsPrefix k.seen log
  pub own : mine log k.thread ≡ mine k.seen k.thread
  pub holdings : held k.thread ≡ k.holdings

abbrev pub EachFits : Config → ℕ → History → (ℕ → Holdings) → List Known → Type 0
EachFits c last log held [] = Unit {0}
EachFits c last log held (k ∷ ks) = Fits c last log held k × EachFits c last log held ks

-- A NOTE says what a pass of the room had seen: a beginning of the history. (`nobody` has
-- other sizes, so that no seat without a pass can be cut for a note)
abbrev pub AreBeginnings : Config → History → List Known → Type 0
AreBeginnings c log [] = Unit {0}
AreBeginnings c log (n ∷ ns) = ((n.config ≡ c) × IsPrefix n.seen log) × AreBeginnings c log ns

abbrev pub total : {A : Type 0} → (A → ℕ) → List A → ℕ
total f [] = 0
total f (x ∷ xs) = f x + total f xs

-- how many passes of the thread a view stands for
abbrev pub is_of : ℕ → Known → ℕ
is_of t k = cond (k.thread == t) 1 0

abbrev pub passes_of : ℕ → View → ℕ
passes_of t v = total (is_of t) v.passes

-- the row, with what each seat at it knows
abbrev pub Row : Type 0
Row = Table (Unit {0}) View

pub record Kept (last : ℕ) (c : Config) (r : Row) : Type 0 where
  pub log : History
  pub held : ℕ → Holdings
  pub legal : IsLegal c last log
  pub sized : IsSized c last
  pub image : IsImage c last r.words (state log) held
  pub each : (j : ℕ) (v : View) → get_elem? r.views j ≡ some v → EachFits c last log held v.passes
  pub noted : (j : ℕ) (v : View) → get_elem? r.views j ≡ some v → AreBeginnings c log v.notes
  pub once : (t : ℕ) → t < c.threads → total (passes_of t) r.views ≡ 1

-- AT THE OPENING the one seat stands for all passes, of so many threads from t on, which have seen nothing
abbrev pub newcomers : Config → ℕ → ℕ → ℕ → List Known
newcomers c last zero t = []
newcomers c last (suc n) t = known c last t [] empty 0 ∷ newcomers c last n (suc t)

-- a seat, without slots of its own
abbrev pub SeatState : Type 0
SeatState = Me (Unit {0}) View

abbrev pub nobody : Known
nobody = known (record { threads = 0; slots = 0; objects = 0; words = 0; locals = 0 }) 0 0 [] empty 0

abbrev pub first_of : List Known → Known
first_of [] = nobody
first_of (k ∷ ks) = k

abbrev pub others_of : List Known → List Known
others_of [] = []
others_of (k ∷ ks) = ks

-- the first of a seat's passes is the one that steps
abbrev pub stepping_pass : SeatState → Known
stepping_pass m = first_of m.0.passes

-- ---- for the crate's own functions

-- the count of joins and partings that a seat has
abbrev pub joints_at : SeatState → ℕ
joints_at m = m.0.joints

-- a seat of one pass
abbrev pub IsAlone : SeatState → Type 0
IsAlone m = m ≡ (view_at (joints_at m) (stepping_pass m ∷ []) [], [])

-- the seat has a pass to step, and no slots
abbrev pub IsSeated : SeatState → Type 0
IsSeated m = m ≡ (view_at (joints_at m) (stepping_pass m ∷ others_of m.0.passes) [], [])

-- WHAT A PASS HOLDS beside its seat:
-- it sits alone, its thread, role and freshness are those of what it knows, and its hint is one of its room's slots
pub record IsHeld (m : SeatState) (thread : ℕ) (role : Role) (fresh : Bool) (hint : ℕ) : Type 0 where
  pub alone : IsAlone m
  pub thread_is : (stepping_pass m).thread ≡ thread
  pub role_is : role_of (view (stepping_pass m)) ≡ role
  pub legal : ∥ IsLegal (stepping_pass m).config (stepping_pass m).last (stepping_pass m).seen ∥₁
  pub sized : IsSized (stepping_pass m).config (stepping_pass m).last
  pub row : thread < (stepping_pass m).config.threads
  pub few : thread < 64
  pub unused : fresh ≡ true → HasStoredNone (stepping_pass m)
  pub space : InSpace (stepping_pass m).config (stepping_pass m).holdings
  pub below : hint < (stepping_pass m).config.slots

-- WHAT A STEP TELLS: its pass has then seen what it had, what others did since, and last the step's acts, none or one;
-- and this holds of the number that it found. It neither joins seats nor cuts one
pub record Tells (told : Known → ℕ → List Act → Known → Type 0) (m : SeatState) (n : ℕ) (m' : SeatState) : Type 0 where
  pub acts : List Act
  pub new : Known
  pub is : m' ≡ (view_at (joints_at m) (new ∷ others_of m.0.passes) [], m.1)
  pub goes : Goes (stepping_pass m) acts new
  pub says : told (stepping_pass m) n acts new
  pub space : InSpace (stepping_pass m).config new.holdings
  pub held : ℕ → Holdings
  pub others : EachFits (stepping_pass m).config (stepping_pass m).last new.seen held (others_of m.0.passes)
  pub noted : AreBeginnings (stepping_pass m).config new.seen m.0.notes

-- the seat with another count
abbrev pub counting : ℕ → SeatState → SeatState
counting n m = (view_at n m.0.passes m.0.notes, m.1)

-- a pass has looked at the gate by these acts, beside another that it meets or beside a note, and holds what it held
abbrev pub LookedBy : List Act → Known → ℕ → List Act → Known → Type 0
LookedBy acts k n done k' = (done ≡ acts) × keeps k k'

-- (before the look and after it the seat may have been joined and cut)
abbrev pub LooksBy : List Act → SeatState → SeatState → Type 0
LooksBy acts m m' = (n : ℕ) × Tells (LookedBy acts) (counting (joints_at m') m) n m'

-- a pass has looked at the gate beside others with which it closes its room, and holds what it held:
-- it found the word of a gate that says this
abbrev pub CountedBy : Known → ℕ → List Act → Known → Type 0
CountedBy k n acts k' =
    (p : GateParts) × IsGate p × (n ≡ gate_word p) × (acts ≡ Meet ∷ []) × ShowsGate p k' × keeps k k'

-- PASSES AT ONE SEAT COUNTED the threads inside, knocking, announcing or collecting, by one look at the gate
pub record HasCounted (m m' : SeatState) (count : ℕ) : Type 0 where
  pub found : ℕ
  pub tells : Tells CountedBy m found m'
  pub is : count ≡ not_outside (stepping_pass m').config (state_of (stepping_pass m'))

-- a seat has passes alone, without a note and without slots
abbrev pub IsCrowd : SeatState → Type 0
IsCrowd m = m ≡ (view_at (joints_at m) m.0.passes [], [])

-- the seat of a pass, of more passes, and of those of another seat;
-- the more passes brought this count, and one more join was needed
abbrev pub crowd_of : ℕ → SeatState → List Known → SeatState → SeatState
crowd_of n first ks rest =
    (view_at (joints_at first + (n + joints_at rest) + 1) (stepping_pass first ∷ (ks ++ rest.0.passes)) [], [])

-- HOW A SEAT IS CUT: the first pass alone, and the others. The count, with this
-- parting, goes with the first pass, so that no count is lost while it is somebody's
abbrev pub first_alone : View → View
first_alone v = view_at (v.joints + 1) (first_of v.passes ∷ []) []

abbrev pub without_first : View → View
without_first v = view_of (others_of v.passes)

-- a seat of no pass, with a note of what the first pass has seen, and without a count
abbrev pub note_of : View → View
note_of v = view_at 0 [] (first_of v.passes ∷ [])

-- the same seat, with one parting more
abbrev pub once_more : View → View
once_more v = view_at (v.joints + 1) v.passes v.notes

-- a note that leaves a seat again which it joined. Where the seat has no pass
-- it would be `nobody`'s, so that each cut is in the count of a seat with a pass
abbrev pub note_beside : List Known → Known → Known
note_beside [] n = nobody
note_beside (k ∷ ks) n = n

abbrev pub note_again : View → View
note_again v = view_at 0 [] (note_beside v.passes (first_of v.notes) ∷ [])

-- what the pass knew of which a seat has a note
abbrev pub noted_pass : SeatState → Known
noted_pass m = first_of m.0.notes

-- THE SEAT IS A NOTE'S: of one pass, with nothing beside, and without a count
abbrev pub IsNote : SeatState → Type 0
IsNote m = m ≡ (view_at 0 [] (noted_pass m ∷ []), [])

-- HOW TWO SEATS ARE JOINED: one stands for the passes of both, with the notes of both,
-- and with both their counts and this join; the other stands for none, without a count
abbrev pub together : View → View → View
together v w = view_at (v.joints + w.joints + 1) (v.passes ++ w.passes) (v.notes ++ w.notes)

abbrev pub spent : View
spent = view_of []

-- WHAT A KIND OF STEP OWES, which turns the word i into f of what it finds: whatever the history and the
-- words are, its acts are steps of the machine, the words are then the image, and what it tells is so
pub record IsFound (k : Known) (log : History) (words : List ℕ) (held : ℕ → Holdings) : Type 0 where
  pub fits : Fits k.config k.last log held k
  pub legal : IsLegal k.config k.last log
  pub sized : IsSized k.config k.last
  pub image : IsImage k.config k.last words (state log) held

-- what is known after a step, with its acts at the end of the history
abbrev pub known_at : Known → History → List Act → Holdings → Known
known_at k log acts holdings = known k.config k.last k.thread (log ++ map (by k.thread) acts) holdings (k.taken + 1)

pub record Makes (k : Known) (log : History) (words : List ℕ) (held : ℕ → Holdings)
    (told : List Act → Known → Type 0) : Type 0 where
  pub acts : List Act
  pub holdings : Holdings
  pub legal : IsLegal k.config k.last (log ++ map (by k.thread) acts)
  pub image : IsImage k.config k.last words (state (log ++ map (by k.thread) acts)) (hold held k.thread holdings)
  pub says : told acts (known_at k log acts holdings)

abbrev pub Owes : Known → ℕ → (ℕ → ℕ) → (ℕ → List Act → Known → Type 0) → Type 0
Owes k i f told = (log : History) (words : List ℕ) (held : ℕ → Holdings) → IsFound k log words held
    → Makes k log (slice_set words i (f (slice_index words i))) held (told (slice_index words i))
