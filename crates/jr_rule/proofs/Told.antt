-- What each kind of step tells of the number that it found, and how that is read:
-- as its acts, what they show, and what they leave of role and freshness.
use Rattle.std.specs.Prelude.{◌≡◌, ◌≢◌, ◌<◌, ◌^◌, ℕ, true, false, not, Ok, Err, Option, Some, None, List, [], ◌∷◌}
use Rattle.jr_word.specs.declared.gate.GateParts.{GateParts}
use Rattle.jr_word.specs.declared.header.HeaderParts.{HeaderParts}
use Rattle.jr_word.specs.Header.{header_word, IsHeader}
use Rattle.jr_word.specs.Top.{top_word, IsTop}
use Rattle.jr_steps.specs.declared.loads.TopLoad.{TopLoad}
use Rattle.jr_word.specs.declared.handle.RefKind.{RefKind}
use Rattle.jr_word.specs.declared.slot.SlotParts.{SlotParts}
use Rattle.jr_word.specs.declared.gate.GateState.{GateState}
use Rattle.jr_word.specs.declared.gate.GateState.TheVariants.{Open}
use Rattle.jr_word.specs.Gate.{gate_word, state_bits, IsGate}
use Rattle.jr_word.specs.Slot.{slot_word, IsSlot}
use Rattle.jr_model.specs.declared.event.Act.{Act}
use Rattle.jr_model.specs.declared.event.Act.TheVariants.{Gate, ShutBusy, Read, Write, Clear}
use Rattle.jr_model.specs.declared.event.Act.TheVariants.{Drop, Settle, Reserve, ReserveLost}
use Rattle.jr_model.specs.declared.event.GateAct.TheVariants.{Announce, Cancel, Shut, Reopen}
use Rattle.jr_model.specs.State.{Handle}
use Rattle.jr_model.specs.History.{role_of, role_from}
use Rattle.jr_steps.specs.declared.known.Known.{Known}
use Rattle.jr_steps.specs.declared.loads.GateLoad.{GateLoad}
use Rattle.jr_steps.specs.declared.loads.GateLoad.TheVariants as gate
use Rattle.jr_steps.specs.declared.loads.SlotLoad.{SlotLoad}
use Rattle.jr_steps.specs.Acts.{act_of_entry, act_of_exit, act_of_announcement, others_counted, is_closed}
use Rattle.jr_steps.specs.Acts.{act_of_gate_load, act_of_slot_load, act_of_claim, act_of_free, act_of_put}
use Rattle.jr_steps.specs.Acts.{acts_of_publication, acts_of_top_load, act_of_reservation, handle_of, found_of}
use Rattle.jr_steps.specs.Holdings.{header_in, with_header}
use Rattle.jr_steps.specs.Knowing.{view, keeps, lets_go, words_for, without_range_of, ShowsHeader, ShowsUsed}
use Rattle.jr_steps.specs.Knowing.{ShowsRange, ShowsWord, HasObject, IsFreeSlot, ShowsGate, ShowsAnnounced}
use Rattle.jr_steps.specs.Knowing.{ShowsSlot, LostClaim, fresh_from, ShowsPublished, anything, CanReopen}
use Rattle.jr_steps.specs.Knowing.{Goes, HasOptional, HasLooked, IsFilled, WasUsed, IsOf, Standing}
use Rattle.jr_word.specs.declared.handle.RefKind.TheVariants.{Weak}
use Rattle.jr_word.specs.declared.local.LocalParts.{LocalParts}
use Rattle.jr_word.specs.Local.{local_word, IsLocalPlace}
use Rattle.jr_steps.specs.Collecting.{ShowsLocal, ShowsElement, ShowsDropped, ShowsMoved, ShowsPlaced, CanWipe}
use Rattle.std.proofs.Common.{◌≡◌, ◌<◌, ◌==◌, ◌^◌, ℕ, Bool, Option, Some, None, IsSome, List, [], ◌∷◌}
use Rattle.std.proofs.Common.{eq-eqb, ne_eqb, refl, sym, ap, subst, ◌∙◌, Result, Ok, Err, ◌≢◌, not, arith}
use mathlib.Core.Logic.{dite}
use native.Mathlib.Decide.{ℕ_discrete}
use Rattle.jr_word.specs.declared.top.TopParts.{TopParts}
use Rattle.jr_model.specs.declared.event.Role.{Role}
use Rattle.jr_rule.proofs.Readings.{is_read, read_once}
use Rattle.std.proofs.Math.Logic.{∥∥₁_elim}
use Rattle.std.proofs.Props.{props}
use Rattle.jr_model.specs.declared.event.Role.TheVariants.{Outside, Announcing, Collecting, Within}
use Rattle.jr_rule.specs.Cells.{Sight, InRole, May, HasStepped}
use Rattle.jr_rule.specs.Over.{LooksSo}
use Rattle.jr_rule.specs.declared.cells.StepKind.{Ghosts}
use Rattle.jr_rule.proofs.StepTaken.{Reads, Leaves}
use Rattle.jr_rule.proofs.ActEffects.{gate_load_role, gate_load_fresh, slot_load_role, slot_load_fresh}
use Rattle.jr_rule.proofs.ActEffects.{claiming_role, claiming_fresh, top_load_role, top_load_fresh}
use Rattle.jr_model.proofs.InRoom.{in_room}
use Rattle.jr_model.proofs.Presence.{named_is_present}
use Rattle.jr_word.specs.declared.slot.SlotParts.TheVariants as slot

-- what is told of the number found, where its word has these parts
abbrev pub Told : Type 1
Told = Known → ℕ → List Act → Known → Type 0

-- what a kind of step picks: what it asks, in a role, and what it tells
abbrev pub in_role : {X : Type 0} → Role → (Known → Type 0) → Told → Ghosts X
in_role r met told = record { met = InRole r met; told = told }

abbrev pub within : {X : Type 0} → (Known → Type 0) → Told → Ghosts X
within = in_role Within

abbrev pub collecting : {X : Type 0} → (Known → Type 0) → Told → Ghosts X
collecting = in_role Collecting

abbrev pub Entered : Told
Entered k n acts k' =
    (p : GateParts) × IsGate p × (n ≡ gate_word p) × (acts ≡ act_of_entry (not (is_closed p.state)) ∷ []) × keeps k k'

abbrev pub Exited : Told
Exited k n acts k' = (acts ≡ act_of_exit (role_of (view k)) ∷ []) × lets_go k k'

-- a gate that was found empty, and in this state, is shut
abbrev pub Barred : GateState → Told
Barred from k n acts k' = (n ≡ state_bits from → (acts ≡ Gate Shut ∷ []) × lets_go k k') × (n ≢ state_bits from
    → (p : GateParts) × IsGate p × (n ≡ gate_word p) × (acts ≡ ShutBusy (others_counted from p) ∷ []) × keeps k k')

-- a gate that was found open with this count is announced to be shut
abbrev pub Announced : ℕ → Told
Announced looked k n acts k' = (n ≡ looked → (acts ≡ Gate Announce ∷ []) × lets_go k k') × (n ≢ looked → (p : GateParts)
    × IsGate p × (n ≡ gate_word p) × (acts ≡ act_of_announcement (Err p) ∷ []) × ShowsGate p k' × keeps k k')

abbrev pub Cancelled : Told
Cancelled k n acts k' = (acts ≡ Gate Cancel ∷ []) × lets_go k k'

abbrev pub Reopened : Told
Reopened k n acts k' = (acts ≡ Gate Reopen ∷ []) × lets_go k k'

abbrev pub SawGate : GateLoad → Told
SawGate name k n acts k' =
    (p : GateParts) × IsGate p × (n ≡ gate_word p) × (acts ≡ act_of_gate_load name p ∷ []) × ShowsGate p k' × keeps k k'

abbrev pub SawSlot : ℕ → SlotLoad → Told
SawSlot i name k n acts k' = (p : SlotParts) × IsSlot p × (n ≡ slot_word p) × (acts ≡ act_of_slot_load i name p ∷ [])
    × ShowsSlot i p k' × keeps k k'

-- a slot that was found free with the serial has the reference
abbrev pub Claimed : ℕ → ℕ → RefKind → ℕ → Told
Claimed i serial kind o k n acts k' =
    (n ≡ slot_word (slot.Free serial) → acts ≡ act_of_claim i serial kind o (Ok tt) ∷ [])
    × (n ≢ slot_word (slot.Free serial) → (p : SlotParts) × IsSlot p × (n ≡ slot_word p)
    × (acts ≡ act_of_claim i serial kind o (Err p) ∷ []) × (IsFreeSlot i serial k → LostClaim i (Err p) k k'))
    × keeps k k'

-- a slot that was found with the word of the reference is free of it
abbrev pub Freed : Handle → ℕ → Told
Freed h w k n acts k' =
    (n ≡ w → acts ≡ act_of_free h true ∷ []) × (n ≢ w → acts ≡ act_of_free h false ∷ []) × keeps k k'

abbrev pub Put : ℕ → Option ℕ → Told
Put p o k n acts k' = (acts ≡ act_of_put p o ∷ []) × keeps k k'

-- a header that was found 0 is the object's, with the words of the pass's own range
abbrev pub Published : ℕ → HeaderParts → Told
Published o h k n acts k' =
    (n ≡ 0 → (acts ≡ acts_of_publication o h.kind (words_for h k) true)
    × (k'.holdings ≡ with_header (without_range_of h k.holdings) o h) × (header_in o k.holdings.headers ≡ None))
    × (n ≢ 0 → (acts ≡ acts_of_publication o h.kind (words_for h k) false) × keeps k k')
    × HasObject o k'

-- the word of a header, 0 where there is none
abbrev pub IsHeaderWord : Option HeaderParts → ℕ → Type 0
IsHeaderWord None n = n ≡ 0
IsHeaderWord (Some h) n = IsHeader h × (n ≡ header_word h)

abbrev pub SawHeader : ℕ → Told
SawHeader o k n acts k' = (r : Option HeaderParts) × IsHeaderWord r n × (acts ≡ []) × ShowsHeader o r k k'

-- the word of a top that has so many words used
abbrev pub used_word : ℕ → ℕ
used_word u = top_word (record { used = u })

abbrev pub SawTop : TopLoad → Told
SawTop name k n acts k' = (u : ℕ) × (u < 2 ^ 24) × (n ≡ used_word u) × (acts ≡ acts_of_top_load k.config.words name u)
    × ShowsUsed u k' × keeps k k'

-- a top that was found as it was looked at goes up
abbrev pub ClaimedTop : ℕ → ℕ → Told
ClaimedTop looked more k n acts k' =
    (n ≡ used_word looked → (acts ≡ act_of_reservation looked more (Ok tt) ∷ []) × ShowsRange looked more (Ok tt) k k')
    × (n ≢ used_word looked
    → (u : ℕ) × (u < 2 ^ 24) × (n ≡ used_word u) × (acts ≡ act_of_reservation looked more (Err u) ∷ []) × keeps k k')

abbrev pub SawElement : ℕ → ℕ → Told
SawElement o i k n acts k' = (acts ≡ Read o i n ∷ []) × keeps k k'

abbrev pub PutElement : ℕ → ℕ → ℕ → Told
PutElement o i v k n acts k' = (acts ≡ Write o i v ∷ []) × keeps k k'

abbrev pub PutOwn : ℕ → ℕ → ℕ → Told
PutOwn place i v k n acts k' = (acts ≡ []) × ShowsWord place i v k k'

abbrev pub ScannedSlot : ℕ → Told
ScannedSlot i k n acts k' = (p : SlotParts) × IsSlot p × (n ≡ slot_word p) × (acts ≡ []) × ShowsSlot i p k' × keeps k k'

abbrev pub ScannedLocal : ℕ → ℕ → Told
ScannedLocal t p k n acts k' =
    (l : LocalParts) × IsLocalPlace l × (n ≡ local_word l) × (acts ≡ []) × ShowsLocal t p l k' × keeps k k'

abbrev pub ScannedElement : ℕ → ℕ → Told
ScannedElement o i k n acts k' = (acts ≡ []) × ShowsElement o i n k' × keeps k k'

abbrev pub ScannedTop : Told
ScannedTop k n acts k' = (u : ℕ) × (u < 2 ^ 24) × (n ≡ used_word u) × (acts ≡ []) × ShowsUsed u k' × keeps k k'

abbrev pub Wiped : ℕ → ℕ → Told
Wiped i serial k n acts k' = (acts ≡ Clear (handle_of Weak serial i) ∷ []) × keeps k k'

abbrev pub Dropped : ℕ → Told
Dropped o k n acts k' = (acts ≡ Drop o ∷ []) × ShowsDropped o k k'

abbrev pub Moved : ℕ → ℕ → ℕ → Told
Moved o place i k n acts k' = (acts ≡ []) × ShowsMoved o place i k k'

abbrev pub Placed : ℕ → HeaderParts → ℕ → Told
Placed o h place k n acts k' = (acts ≡ []) × ShowsPlaced o h place k k'

abbrev pub SettledTop : ℕ → Told
SettledTop used k n acts k' = (acts ≡ Settle used ∷ []) × keeps k k'

-- what was done, by the number found
pub claim_done : (i serial : ℕ) (kind : RefKind) (o : ℕ) (k : Known) (n : ℕ) (acts : List Act) (k' : Known)
    → Claimed i serial kind o k n acts k'
    → (x : Result (Unit {0}) SlotParts) × (acts ≡ act_of_claim i serial kind o x ∷ [])
claim_done i serial kind o k n acts k' told =
    dite (ℕ_discrete n (slot_word (slot.Free serial))) (λ e. (Ok tt, told.0 e)) (λ ne. let s = told.1 ne in
    (Err s.0, s.3))

pub free_done : (h : Handle) (w : ℕ) (k : Known) (n : ℕ) (acts : List Act) (k' : Known) → Freed h w k n acts k'
    → acts ≡ act_of_free h (n == w) ∷ []
free_done h w k n acts k' told =
    dite (ℕ_discrete n w) (λ e. told.0 e ∙ ap (λ b. act_of_free h b ∷ []) (sym (eq-eqb n w e))) (λ ne. told.1 ne
    ∙ ap (λ b. act_of_free h b ∷ []) (sym (ne_eqb n w ne)))

pub header_known : (q r : Option HeaderParts) (n : ℕ) → IsHeaderWord r n → (n ≡ 0 → q ≡ None)
    → ((p : HeaderParts) → IsHeader p → n ≡ header_word p → q ≡ Some p) → q ≡ r
header_known q (Some h) n is none some = some h is.0 is.1
header_known q None n is none some = none is

pub top_some : (n : ℕ) (q : Option TopParts) (u : ℕ) → u < 2 ^ 24 → n ≡ used_word u
    → ((p : TopParts) → IsTop p → n ≡ top_word p → q ≡ Some p) → IsSome q
top_some n q u few is complete =
    is_read q (record { used = u }) (complete (record { used = u }) (record { used = few }) is)

pub top_is : (n : ℕ) (q : Option TopParts) (u : ℕ) (p : TopParts) → u < 2 ^ 24 → n ≡ used_word u
    → ((p : TopParts) → IsTop p → n ≡ top_word p → q ≡ Some p) → q ≡ Some p → p.used ≡ u
top_is n q u p few is complete read = ap (λ (z : TopParts). z.used)
    (read_once q (record { used = u }) p (complete (record { used = u }) (record { used = few }) is) read)

-- the acts of an exchange of the top, which leave the role and the freshness
pub claimed_acts : (looked more : ℕ) (k : Known) (n : ℕ) (acts : List Act) (k' : Known)
    → ClaimedTop looked more k n acts k'
    → (a : List Act) × (acts ≡ a) × ((r : Role) → r ≡ role_from r a) × ((f : Bool) → f ≡ fresh_from f a)
claimed_acts looked more k n acts k' says = dite (ℕ_discrete n (used_word looked))
    (λ e. (Reserve more ∷ [], (says.0 e).0, λ r. refl, λ f. refl))
    (λ ne. let s = says.1 ne in (ReserveLost more looked s.0 ∷ [], s.3, λ r. refl, λ f. refl))

-- the acts of an exchange of a header
pub published_acts : (o : ℕ) (h : HeaderParts) (k : Known) (n : ℕ) (acts : List Act) (k' : Known)
    → Published o h k n acts k' → acts ≡ acts_of_publication o h.kind (words_for h k) (n == 0)
published_acts o h k n acts k' says = dite (ℕ_discrete n 0)
    (λ e. (says.0 e).0 ∙ ap (acts_of_publication o h.kind (words_for h k)) (sym (eq-eqb n 0 e)))
    (λ ne. (says.1 ne).0 ∙ ap (acts_of_publication o h.kind (words_for h k)) (sym (ne_eqb n 0 ne)))

-- what it shows
pub published_shows : (o : ℕ) (h : HeaderParts) (k : Known) (n : ℕ) (acts : List Act) (k' : Known)
    → Published o h k n acts k' → ShowsPublished o h (n == 0) k k'
published_shows o h k n acts k' says = dite (ℕ_discrete n 0)
    (λ e. subst (λ b. ShowsPublished o h b k k') (sym (eq-eqb n 0 e)) (says.2, (says.0 e).1, (says.0 e).2))
    (λ ne. subst (λ b. ShowsPublished o h b k k') (sym (ne_eqb n 0 ne)) (says.2, (says.1 ne).1))

pub entry : {z : Sight} {n : ℕ} (shut b : Bool)
    → ((p : GateParts) → IsGate p → n ≡ gate_word p → shut ≡ is_closed p.state) → shut ≡ b
    → Reads z Outside anything Entered n (λ k. act_of_entry (not b) ∷ []) keeps
entry shut b is e = record {
  read = λ k k' done among role met s. (s.3 ∙ ap (λ x. act_of_entry (not x) ∷ []) (sym (is s.0 s.1 s.2) ∙ e), s.4);
}

pub exit : {z : Sight} (r : Role) {n : ℕ} → Reads z r anything Exited n (λ k. act_of_exit r ∷ []) lets_go
exit r = record { read = λ k k' done among role met s. (s.0 ∙ ap (λ x. act_of_exit x ∷ []) role, s.1) }

pub barred : {z : Sight} {n : ℕ} (from : GateState) (role : Role) → n ≡ state_bits from
    → Reads z role anything (Barred from) n (λ k. Gate Shut ∷ []) lets_go
barred from role none = record { read = λ k k' done among here met s. s.0 none }

pub announced : {z : Sight} {n : ℕ} (looked : ℕ) → n ≡ looked
    → Reads z Outside anything (Announced looked) n (λ k. Gate Announce ∷ []) lets_go
announced looked same = record { read = λ k k' done among here met s. s.0 same }

pub cancelled : {z : Sight} {n : ℕ} → Reads z Announcing anything Cancelled n (λ k. Gate Cancel ∷ []) lets_go
cancelled = record { read = λ k k' done among here met s. s }

-- a word of the gate has one reading
module _ {n : ℕ} (r : Option GateParts) (complete : (p : GateParts) → IsGate p → n ≡ gate_word p → r ≡ Some p)
    (q : GateParts) (is : r ≡ Some q) where
  one_reading : (p : GateParts) → IsGate p → n ≡ gate_word p → p ≡ q
  one_reading p fits word = sym (read_once r p q (complete p fits word) is)

  pub bar_lost : {z : Sight} (from : GateState) (role : Role) → n ≢ state_bits from → (m : ℕ)
      → m ≡ others_counted from q → Reads z role anything (Barred from) n (λ k. ShutBusy m ∷ []) keeps
  bar_lost from role some m counts = record {
    read = λ k k' done among here met s. let t = s.1 some in
        (t.3 ∙ ap (λ z. ShutBusy z ∷ []) (ap (others_counted from) (one_reading t.0 t.1 t.2) ∙ sym counts), t.4);
  }

  -- an announcement that was lost found other parts than were looked at
  pub announcement_lost : {z : Sight} (looked : ℕ) → n ≢ looked
      → Reads z Outside anything (Announced looked) n (λ k. act_of_announcement (Err q) ∷ []) (ShowsAnnounced looked
      (Err q))
  announcement_lost looked other = record {
    read = λ k k' done among here met s.
        let t = s.1 other in
        let e = one_reading t.0 t.1 t.2 in (
          t.3 ∙ ap (λ z. act_of_announcement (Err z) ∷ []) e,
          ((λ z. other (t.2 ∙ (ap gate_word (e ∙ z) ∙ plain looked))), subst (λ z. ShowsGate z k') e t.4, t.5),
        );
  }
    where
      plain : (looked : ℕ) → gate_word (record { count = looked; state = Open }) ≡ looked
      plain looked = omega arith

  pub gate_load : {z : Sight} (name : GateLoad) {role : Role}
      → Reads z role anything (SawGate name) n (λ k. act_of_gate_load name q ∷ []) (λ j k. ShowsGate q k × keeps j k)
  gate_load name = record {
    read = λ k k' done among role met s.
        let e = one_reading s.0 s.1 s.2 in
        (s.3 ∙ ap (λ z. act_of_gate_load name z ∷ []) e, (subst (λ z. ShowsGate z k') e s.4, s.5));
  }

-- whatever was known, the look makes something of it that shows what it found
pub looked_so : {z z' : Sight} {r : Role} {n : ℕ} {q : GateParts} (name : GateLoad)
    → HasStepped z z' (InRole r anything) (SawGate name) n
    → Reads z r anything (SawGate name) n (λ k. act_of_gate_load name q ∷ []) (λ j k. ShowsGate q k × keeps j k)
    → LooksSo z z' r name q
looked_so name t reads k among role =
    let u = t.makes k among (role, tt) in
    let read = reads.read k u.new u.acts among role tt u.says in
    (u.new, u.is, subst (λ done. Goes k done u.new) read.0 u.goes, read.1.0)

pub reopening : {z : Sight} {n : ℕ} → Reads z Collecting CanReopen Reopened n (λ k. Gate Reopen ∷ []) lets_go
reopening = record { read = λ k k' done among role met s. s }

-- whoever stepped was told of a word with a reading, so it has one
pub word_read : {z z' : Sight} {met : Known → Type 0} {told : Known → ℕ → List Act → Known → Type 0} {n : ℕ}
    → HasStepped z z' met told n → May z met → {A : Type 0} {Fits : A → Type 0} {word : A → ℕ}
    → ((k k' : Known) (done : List Act) → told k n done k' → (p : A) × Fits p × (n ≡ word p)) → (r : Option A)
    → ((p : A) → Fits p → n ≡ word p → r ≡ Some p) → IsSome r
word_read t may says r complete = ∥∥₁_elim may (hlevel props) (λ k.
    let u = t.makes k.0 k.1 k.2 in
    let s = says k.0 u.new u.acts u.says in
    is_read r s.0 (complete s.0 s.1 s.2))

-- what is left of the thread where its gate was busy, or was looked at
pub busy_leaves : {z : Sight} {n : ℕ} (from : GateState) (r : Role) → n ≢ state_bits from → {role : Role} {fresh : Bool}
    → Leaves z r anything (Barred from) n role role fresh fresh
busy_leaves from r some {role} {fresh} = record {
  left = λ k k' done among e met s. let t = s.1 some in
      (ap (role_from role) (sym t.3), ap (fresh_from fresh) (sym t.3));
}

pub lost_leaves : {z : Sight} {n : ℕ} (looked : ℕ) → n ≢ looked → {role : Role} {fresh : Bool}
    → Leaves z Outside anything (Announced looked) n role role fresh fresh
lost_leaves looked other {role} {fresh} = record {
  left = λ k k' done among e met s.
      let t = s.1 other in (
        gate_load_role gate.Busy t.0 role ∙ ap (role_from role) (sym t.3),
        gate_load_fresh gate.Busy t.0 fresh ∙ ap (fresh_from fresh) (sym t.3),
      );
}

pub look_leaves : {z : Sight} (name : GateLoad) {r : Role} {n : ℕ} {role : Role} {fresh : Bool}
    → Leaves z r anything (SawGate name) n role role fresh fresh
look_leaves name {role = role} {fresh} = record {
  left = λ k k' done among e met s. (
    gate_load_role name s.0 role ∙ ap (role_from role) (sym s.3),
    gate_load_fresh name s.0 fresh ∙ ap (fresh_from fresh) (sym s.3),
  );
}

module _ {n : ℕ} {met : Known → Type 0} {r : Role} where
  pub slot_load : {z : Sight} (i : ℕ) (name : SlotLoad) (q : SlotParts)
      → ((p : SlotParts) → IsSlot p → n ≡ slot_word p → q ≡ p)
      → Reads z r met (SawSlot i name) n (λ k. act_of_slot_load i name q ∷ []) (λ j k. ShowsSlot i q k × keeps j k)
  slot_load i name q is = record {
    read = λ k k' done among e m s.
        let read = is s.0 s.1 s.2 in (
          s.3 ∙ ap (λ z. act_of_slot_load i name z ∷ []) (sym read),
          (subst (λ z. ShowsSlot i z k') (sym read) s.4, s.5),
        );
  }

  pub slot_look_leaves : {z : Sight} (i : ℕ) (name : SlotLoad) {role : Role} {fresh : Bool}
      → Leaves z r met (SawSlot i name) n role role fresh fresh
  slot_look_leaves i name {role} {fresh} = record {
    left = λ k k' done among e m s. (
      slot_load_role i name s.0 role ∙ ap (role_from role) (sym s.3),
      slot_load_fresh i name s.0 fresh ∙ ap (fresh_from fresh) (sym s.3),
    );
  }

  pub claim_leaves : {z : Sight} (i serial : ℕ) (kind : RefKind) (o : ℕ) {role : Role} {fresh : Bool}
      → Leaves z r met (Claimed i serial kind o) n role role fresh fresh
  claim_leaves i serial kind o {role} {fresh} = record {
    left = λ k k' done among e m s.
        let d = claim_done i serial kind o k n done k' s in (
          claiming_role i serial kind o d.0 role ∙ ap (role_from role) (sym d.1),
          claiming_fresh i serial kind o d.0 fresh ∙ ap (fresh_from fresh) (sym d.1),
        );
  }

pub claim_won : {z : Sight} {n : ℕ} (i serial : ℕ) (kind : RefKind) (o : ℕ) → n ≡ slot_word (slot.Free serial)
    → Reads z Within (λ k. HasObject o k × IsFreeSlot i serial k) (Claimed i serial kind o) n
    (λ k. act_of_claim i serial kind o (Ok tt) ∷ []) (λ j k. LostClaim i (Ok tt) j k × keeps j k)
claim_won i serial kind o won = record { read = λ k k' done among e m s. (s.0 won, (tt, s.2)) }

pub claim_lost : {z : Sight} {n : ℕ} (i serial : ℕ) (kind : RefKind) (o : ℕ) → n ≢ slot_word (slot.Free serial)
    → (q : SlotParts) → ((p : SlotParts) → IsSlot p → n ≡ slot_word p → q ≡ p)
    → Reads z Within (λ k. HasObject o k × IsFreeSlot i serial k) (Claimed i serial kind o) n
    (λ k. act_of_claim i serial kind o (Err q) ∷ []) (λ j k. LostClaim i (Err q) j k × keeps j k)
claim_lost i serial kind o lost q is = record {
  read = λ k k' done among e m s.
      let t = s.1 lost in
      let read = is t.0 t.1 t.2 in (
        t.3 ∙ ap (λ z. act_of_claim i serial kind o (Err z) ∷ []) (sym read),
        (subst (λ z. LostClaim i (Err z) k k') (sym read) (t.4 m.1), s.2),
      );
}

pub freeing : {z : Sight} {n : ℕ} (h : Handle) (o : Option ℕ) (w : ℕ)
    → Reads z Within (HasLooked h (found_of o)) (Freed h w) n (λ k. act_of_free h (n == w) ∷ []) keeps
freeing {n = n} h o w = record { read = λ k k' done among e m s. (free_done h w k n done k' s, s.2) }

pub putting : {z : Sight} {n : ℕ} (p : ℕ) (o : Option ℕ)
    → Reads z Within (HasOptional o) (Put p o) n (λ k. act_of_put p o ∷ []) keeps
putting p o = record { read = λ k k' done among e m s. s }

module _ {n : ℕ} {r : Role} where
  pub header_load : {z : Sight} (o : ℕ) (q : Option HeaderParts) → (n ≡ 0 → q ≡ None)
      → ((p : HeaderParts) → IsHeader p → n ≡ header_word p → q ≡ Some p)
      → Reads z r anything (SawHeader o) n (λ k. []) (ShowsHeader o q)
  header_load o q none some = record {
    read = λ k k' done among e m s.
        (s.2, subst (λ z. ShowsHeader o z k k') (sym (header_known q s.0 n s.1 none some)) s.3);
  }

  pub header_look_leaves : {z : Sight} (o : ℕ) {met : Known → Type 0} {role : Role} {fresh : Bool}
      → Leaves z r met (SawHeader o) n role role fresh fresh
  header_look_leaves o {role = role} {fresh} =
      record { left = λ k k' done among e m s. (ap (role_from role) (sym s.2), ap (fresh_from fresh) (sym s.2)) }

pub publishing : {z : Sight} {n : ℕ} (o : ℕ) (h : HeaderParts) → Reads z Within (IsFilled h) (Published o h) n
    (λ k. acts_of_publication o h.kind (words_for h k) (n == 0)) (ShowsPublished o h (n == 0))
publishing {n = n} o h =
    record { read = λ k k' done among e m s. (published_acts o h k n done k' s, published_shows o h k n done k' s) }

-- a word of the top has one reading
module _ {n : ℕ} (q : Option TopParts) (complete : (p : TopParts) → IsTop p → n ≡ top_word p → q ≡ Some p)
    (p : TopParts) (is : q ≡ Some p) where
  pub top_load : {z : Sight} (name : TopLoad)
      → Reads z Within anything (SawTop name) n (λ k. acts_of_top_load z.first.config.words name p.used) (λ j k.
      ShowsUsed p.used k × keeps j k)
  top_load {z} name = record {
    read = λ k k' done among e m s.
        let read = top_is n q s.0 p s.1 s.2 complete is in (
          s.3 ∙ (λ i. acts_of_top_load (among.config i).words name (sym read i)),
          (subst (λ u. ShowsUsed u k') (sym read) s.4, s.5),
        );
  }

  pub top_scan : {z : Sight}
      → Reads z Collecting anything ScannedTop n (λ k. []) (λ j k. ShowsUsed p.used k × keeps j k)
  top_scan = record {
    read = λ k k' done among e m s.
        (s.3, (subst (λ u. ShowsUsed u k') (sym (top_is n q s.0 p s.1 s.2 complete is)) s.4, s.5));
  }

  pub reserve_lost : {z : Sight} (looked more : ℕ) → n ≢ used_word looked
      → Reads z Within (WasUsed looked) (ClaimedTop looked more) n (λ k.
      act_of_reservation looked more (Err p.used) ∷ []) (ShowsRange looked more (Err p.used))
  reserve_lost looked more lost = record {
    read = λ k k' done among e m s.
        let t = s.1 lost in
        (t.3 ∙ ap (λ u. act_of_reservation looked more (Err u) ∷ []) (sym (top_is n q t.0 p t.1 t.2 complete is)), t.4);
  }

pub reserve_won : {z : Sight} {n : ℕ} (looked more : ℕ) → n ≡ used_word looked → Reads z Within (WasUsed looked)
    (ClaimedTop looked more) n (λ k. act_of_reservation looked more (Ok tt) ∷ []) (ShowsRange looked more (Ok tt))
reserve_won looked more won = record { read = λ k k' done among e m s. s.0 won }

pub reserve_leaves : {z : Sight} {n : ℕ} {met : Known → Type 0} (looked more : ℕ) {role : Role} {fresh : Bool}
    → Leaves z Within met (ClaimedTop looked more) n role role fresh fresh
reserve_leaves {n = n} looked more {role} {fresh} = record {
  left = λ k k' done among e m s.
      let d = claimed_acts looked more k n done k' s in
      (d.2 role ∙ ap (role_from role) (sym d.1), d.3 fresh ∙ ap (fresh_from fresh) (sym d.1));
}

-- a step that is told its acts, which change neither role nor freshness, and what they show
pub plainly : {z : Sight} {r : Role} {met : Known → Type 0} {told : Known → ℕ → List Act → Known → Type 0} {n : ℕ}
    {acts : List Act} {shows : Known → Known → Type 0}
    → ((k k' : Known) (done : List Act) → told k n done k' → (done ≡ acts) × shows k k')
    → Reads z r met told n (λ k. acts) shows
plainly says = record { read = λ k k' done among e m s. says k k' done s }

pub top_look_leaves : {z : Sight} {n : ℕ} (name : TopLoad) {met : Known → Type 0} {role : Role} {fresh : Bool}
    → Leaves z Within met (SawTop name) n role role fresh fresh
top_look_leaves name {role = role} {fresh} = record {
  left = λ k k' done among e m s. (
    top_load_role k.config.words name s.0 role ∙ ap (role_from role) (sym s.3),
    top_load_fresh k.config.words name s.0 fresh ∙ ap (fresh_from fresh) (sym s.3),
  );
}

-- whoever stepped was told of a word of the top with a reading, so it has one
pub top_word_read : {z z' : Sight} {met : Known → Type 0} {told : Known → ℕ → List Act → Known → Type 0} {n : ℕ}
    → HasStepped z z' met told n → May z met
    → ((k k' : Known) (done : List Act) → told k n done k' → (u : ℕ) × (u < 2 ^ 24) × (n ≡ used_word u))
    → (q : Option TopParts) → ((p : TopParts) → IsTop p → n ≡ top_word p → q ≡ Some p) → IsSome q
top_word_read {n = n} t may says q complete = ∥∥₁_elim may (hlevel props) (λ k.
    let u = t.makes k.0 k.1 k.2 in
    let s = says k.0 u.new u.acts u.says in
    top_some n q s.0 s.1 s.2 complete)

pub slot_scan : {z : Sight} {n : ℕ} (i : ℕ) (q : SlotParts) → ((p : SlotParts) → IsSlot p → n ≡ slot_word p → q ≡ p)
    → Reads z Collecting anything (ScannedSlot i) n (λ k. []) (λ j k. ShowsSlot i q k × keeps j k)
slot_scan i q is =
    record { read = λ k k' done among e m s. (s.3, (subst (λ x. ShowsSlot i x k') (sym (is s.0 s.1 s.2)) s.4, s.5)) }

pub slot_scan_leaves : {z : Sight} {n : ℕ} (i : ℕ) {met : Known → Type 0} {role : Role} {fresh : Bool}
    → Leaves z Collecting met (ScannedSlot i) n role role fresh fresh
slot_scan_leaves i {role = role} {fresh = fresh} =
    record { left = λ k k' done among e m s. (ap (role_from role) (sym s.3), ap (fresh_from fresh) (sym s.3)) }

pub local_scan : {z : Sight} {n : ℕ} (t place : ℕ) (r : Option LocalParts)
    → ((p : LocalParts) → IsLocalPlace p → n ≡ local_word p → r ≡ Some p) → (q : LocalParts) → r ≡ Some q
    → Reads z Collecting anything (ScannedLocal t place) n (λ k. []) (λ j k. ShowsLocal t place q k × keeps j k)
local_scan t place r complete q is = record {
  read = λ k k' done among e m s.
      (s.3, (subst (λ x. ShowsLocal t place x k') (sym (read_once r s.0 q (complete s.0 s.1 s.2) is)) s.4, s.5));
}

pub local_scan_leaves : {z : Sight} {n : ℕ} (t place : ℕ) {met : Known → Type 0} {role : Role} {fresh : Bool}
    → Leaves z Collecting met (ScannedLocal t place) n role role fresh fresh
local_scan_leaves t place {role = role} {fresh = fresh} =
    record { left = λ k k' done among e m s. (ap (role_from role) (sym s.3), ap (fresh_from fresh) (sym s.3)) }

-- the object of a weak reference that may be cleared has a number that is not 0
pub wiped_some : {knows : Known → Type 0} {s : Standing} (i serial o : ℕ)
    → ∥ ((k : Known) × (knows k × IsOf s k) × CanWipe i serial o k) ∥₁ → 0 < o
wiped_some i serial o may = ∥∥₁_elim may (hlevel props) (λ k.
    let legal = (k.1).1.legal in
    let present = (named_is_present k.0.config k.0.last k.0.seen legal).0 (handle_of Weak serial i) o k.2.0 in
    let low = ((in_room k.0.config k.0.last k.0.seen legal).objects o present).0 in omega arith)

pub element_scan : {z : Sight} {n : ℕ} {met : Known → Type 0} (o i : ℕ)
    → Reads z Collecting met (ScannedElement o i) n (λ k. []) (λ j k. ShowsElement o i n k × keeps j k)
element_scan o i = record { read = λ k k' done among e m s. (s.0, (s.1, s.2)) }

pub top_scan_leaves : {z : Sight} {n : ℕ} {met : Known → Type 0} {role : Role} {fresh : Bool}
    → Leaves z Collecting met ScannedTop n role role fresh fresh
top_scan_leaves {role = role} {fresh = fresh} =
    record { left = λ k k' done among e m s. (ap (role_from role) (sym s.3), ap (fresh_from fresh) (sym s.3)) }
