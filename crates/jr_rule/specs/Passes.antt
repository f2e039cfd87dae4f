-- What a pass shows, and what a room gives.
use Rattle.std.specs.Prelude.{◌≡◌, ◌⊎◌, ◌+◌, ◌<◌, ℕ, zero, suc, Bool, true, List, [], ◌∷◌, ◌++◌, map}
use Rattle.std.specs.List.{All, AllByRecursion}
use mathlib.Core.List.{IsPrefix}
use Rattle.atomic_table.specs.declared.shared.Seat.{Seat}
use Rattle.atomic_table.specs.Seated.{TableId}
use Rattle.jr_word.specs.declared.config.Config.{Config}
use Rattle.jr_model.specs.declared.event.Role.{Role}
use Rattle.jr_model.specs.declared.event.Role.TheVariants.{Outside}
use Rattle.jr_model.specs.declared.event.Act.TheVariants.{Meet}
use Rattle.jr_model.specs.declared.summary.Summary.{Summary}
use Rattle.jr_model.specs.State.{not_outside, summary}
use Rattle.jr_model.specs.History.{History, state, mine, IsLegal}
use Rattle.jr_model.specs.Laws.{KeepsTheLaws}
use Rattle.jr_steps.specs.declared.known.Known.{Known}
use Rattle.jr_rule.specs.declared.pass.Pass.{Pass}
use Rattle.jr_rule.specs.declared.row.Row.{Row}
use Rattle.jr_steps.specs.Knowing.{Facts, Standing, Goes, state_of}
use Rattle.jr_steps.specs.Holdings.{empty}
use Rattle.jr_rule.specs.declared.rule.View.{View}
use Rattle.jr_rule.specs.Cells.{facts_at}
use Rattle.jr_rule.specs.Sights.{sight_of_seat}
use Rattle.jr_rule.specs.Rule.{joints_at, known, stepping_pass, total}

-- what a pass knows: its room and thread, and what it has seen
abbrev pub known_of : Pass → Known
known_of p = stepping_pass p.seat.me

-- the count of joins and partings of seats that a pass has
abbrev pub joints_of : Pass → ℕ
joints_of p = joints_at p.seat.me

-- what passes bring that come together: the count that each has, and its join
abbrev pub gathered : List Pass → ℕ
gathered ps = total (λ p. joints_of p + 1) ps

-- WHAT A PASS IS MADE OF: a seat, the thread, and how it stands
pub record Holder : Type 0 where
  pub seat : Seat (Unit {0}) View
  pub thread : ℕ
  pub role : Role
  pub fresh : Bool
  pub hint : ℕ

abbrev pub holder_of : Pass → Holder
holder_of p = record { seat = p.seat; thread = p.thread; role = p.role; fresh = p.fresh; hint = p.hint }

-- what it is, what it knows, and where its next search begins: what holds of steps over its seat's words
abbrev pub facts_of : Holder → Facts
facts_of h = facts_at (sight_of_seat h.seat.table_id h.seat.me) h.role h.fresh h.hint

abbrev pub standing_of : Pass → Standing
standing_of p = (facts_of (holder_of p)).stands

-- THE PASS IS ONE OF THE ROW'S OWN
pub record IsAt (r : Row) (p : Pass) : Type 0 where
  pub row : p.seat.table_id ≡ r.table.shared.table_id
  pub config : (known_of p).config ≡ r.config
  pub last : (known_of p).last ≡ r.last

-- a pass of the row, as it was opened: it left the first seat by one parting
pub record IsOpened (r : Row) (p : Pass) : Type 0 where
  pub row : IsAt r p
  pub knows : known_of p ≡ known r.config r.last p.thread [] empty 0
  pub role : p.role ≡ Outside
  pub fresh : p.fresh ≡ true
  pub hint : p.hint ≡ 0
  pub dealt : joints_of p ≡ 1

abbrev pub numbers_below : ℕ → List ℕ
numbers_below zero = []
numbers_below (suc n) = numbers_below n ++ n ∷ []

-- A ROW AS IT WAS OPENED: one pass a thread, from thread 0 upward
pub record AreOpened (c : Config) (last : ℕ) (r : Row) (passes : List Pass) : Type 0 where
  pub same_config : r.config ≡ c
  pub same_last : r.last ≡ last
  pub threads : map (λ (p : Pass). p.thread) passes ≡ numbers_below c.threads
  pub each : All (λ p. IsOpened r p) passes

-- a pass is as it was
pub record IsSame (old new : Pass) : Type 0 where
  pub knows : known_of new ≡ known_of old
  pub thread : new.thread ≡ old.thread
  pub role : new.role ≡ old.role
  pub fresh : new.fresh ≡ old.fresh
  pub hint : new.hint ≡ old.hint

-- HOW A PASS STANDS:
-- its room, what it knows, its thread and role, whether it is fresh, and where its next search begins
pub record PassStands : Type 0 where
  pub room : TableId
  pub knows : Known
  pub thread : ℕ
  pub role : Role
  pub fresh : Bool
  pub hint : ℕ

abbrev pub stands_of : Pass → PassStands
stands_of p = record {
  room = p.seat.table_id;
  knows = known_of p;
  thread = p.thread;
  role = p.role;
  fresh = p.fresh;
  hint = p.hint;
}

-- AT THE END the summary is that of one legal history, which keeps the laws,
-- begins with all that the pass has seen and has no more of its events
pub record SumsUp (k : Known) (s : Summary) : Type 0 where
  pub whole : History
  pub legal : IsLegal k.config k.last whole
  pub lawful : KeepsTheLaws whole
  pub begins : IsPrefix k.seen whole
  pub own : mine whole k.thread ≡ mine k.seen k.thread
  pub is : s ≡ summary k.config k.last (state whole)

-- A ROOM IS CLOSED: the pass found nobody inside, knocking, announcing or collecting, and then it ends
pub record Closes (k : Known) (s : Summary) : Type 0 where
  pub met : Known
  pub goes : Goes k (Meet ∷ []) met
  pub nobody : not_outside k.config (state_of met) ≡ 0
  pub ends : SumsUp met s

-- what a pass has seen begins the history, which has no more of its events
pub record IsSeenIn (whole : History) (k : Known) : Type 0 where
  pub begins : IsPrefix k.seen whole
  pub own : mine whole k.thread ≡ mine k.seen k.thread

-- one of these passes is the thread's
abbrev pub HasPass : List Known → ℕ → Type 0
HasPass [] t = ⊥
HasPass (k ∷ ks) t = (k.thread ≡ t) ⊎ HasPass ks t

-- each thread of the room has its pass among these
abbrev pub HasEachPass : Config → List Known → Type 0
HasEachPass c ks = (t : ℕ) → t < c.threads → HasPass ks t

-- each event is of a thread that has its pass among these
abbrev pub HasNoOthers : History → List Known → Type 0
HasNoOthers es ks = AllByRecursion (λ e. HasPass ks e.thread) es

-- AT THE END OF ALL PASSES the summary is that of one legal history, which keeps the
-- laws, begins with all that each of them has seen and has no more of their events;
-- and where each thread of the room has its pass among them, it has no others
pub record EndsAll (k : Known) (ks : List Known) (s : Summary) : Type 0 where
  pub whole : History
  pub legal : IsLegal k.config k.last whole
  pub lawful : KeepsTheLaws whole
  pub first : IsSeenIn whole k
  pub others : AllByRecursion (IsSeenIn whole) ks
  pub alone : HasEachPass k.config (k ∷ ks) → HasNoOthers whole (k ∷ ks)
  pub is : s ≡ summary k.config k.last (state whole)

-- A ROOM IS CLOSED WITH ALL THESE PASSES:
-- the first found nobody inside, knocking, announcing or collecting, and then they end together
pub record ClosesAll (k : Known) (ks : List Known) (s : Summary) : Type 0 where
  pub met : Known
  pub goes : Goes k (Meet ∷ []) met
  pub nobody : not_outside k.config (state_of met) ≡ 0
  pub ends : EndsAll met ks s

-- ALL THESE PASSES SAW ONE HISTORY: the first looked at the gate, and there is a legal
-- history that keeps the laws, begins with all that each of them has seen and has no more of
-- their events; and where each thread of the room has its pass among them, it has no others
pub record SawOneHistory (k : Known) (ks : List Known) : Type 0 where
  pub met : Known
  pub goes : Goes k (Meet ∷ []) met
  pub whole : History
  pub legal : IsLegal met.config met.last whole
  pub lawful : KeepsTheLaws whole
  pub each : AllByRecursion (IsSeenIn whole) (met ∷ ks)
  pub alone : HasEachPass met.config (met ∷ ks) → HasNoOthers whole (met ∷ ks)

-- one of these passes is the thread's, and all that it has seen is seen
abbrev pub IsSeenOf : Known → ℕ → List Known → Type 0
IsSeenOf k t [] = ⊥
IsSeenOf k t (p ∷ ps) = ((p.thread ≡ t) × IsPrefix p.seen k.seen) ⊎ IsSeenOf k t ps

-- ALL WERE MET:
-- each thread of the room is the pass's own, or one of these passes is its, and all that it has seen is seen
abbrev pub HasSeenAll : Known → List Known → Type 0
HasSeenAll k others = (t : ℕ) → t < k.config.threads → (t ≡ k.thread) ⊎ IsSeenOf k t others
