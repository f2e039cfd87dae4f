-- Legal steps at the gate, over any words and any history.
use Rattle.std.proofs.Common.{◌≡◌, ◌≢◌, ◌⊎◌, inl, inr, ⊎_elim, ◌↔◌, ◌+◌, ◌^◌, ◌<◌, ◌≤◌, ℕ, zero}
use Rattle.std.proofs.Common.{suc, Bool, true, false, not, if◌then◌else◌, Option, None, List, []}
use Rattle.std.proofs.Common.{◌∷◌, get_or, slice_set, refl, sym, ap, subst, ◌∙◌, arith, nat_eq}
use Rattle.std.proofs.lemmas.Bool.{cases_lt}
use mathlib.Core.Logic.{dite}
use native.Mathlib.Decide.{ℕ_discrete}
use Rattle.jr_word.specs.declared.config.Config.{Config}
use Rattle.jr_word.specs.declared.gate.GateParts.{GateParts}
use Rattle.jr_word.specs.declared.gate.GateState.{GateState}
use Rattle.jr_word.specs.declared.gate.GateState.TheVariants.{Open, Announced, Shut as Closed}
use Rattle.jr_word.specs.Gate.{gate_word, state_bits, IsGate}
use Rattle.jr_word.proofs.OneWord.{gate_word-injective}
use Rattle.jr_model.specs.declared.event.Act.{Act}
use Rattle.jr_model.specs.declared.event.Role.{Role}
use Rattle.jr_model.specs.declared.event.Role.TheVariants.{Outside, Within, Knocking, Announcing, Collecting}
use Rattle.jr_model.specs.declared.event.Act.TheVariants.{Gate, ShutBusy, Meet}
use Rattle.jr_model.specs.declared.event.GateAct.TheVariants.{Enter, Knock, Leave, Withdraw}
use Rattle.jr_model.specs.declared.event.GateAct.TheVariants.{Announce, Cancel, Shut, Reopen}
use Rattle.jr_model.specs.Maps.{update, sum_below, count_below}
use Rattle.jr_model.specs.State.{State, IsClosed, is_barring, is_inside, is_outside, not_outside, AreOthers}
use Rattle.jr_model.specs.Steps.{MayShut}
use Rattle.jr_model.specs.History.{History, state, IsLegal}
use Rattle.jr_model.proofs.Announcements.{one_closes}
use Rattle.jr_model.proofs.Counts.{bit, count_role, count_none, count_all_false}
use Rattle.jr_model.proofs.Counts.{count_single, not_outside_split, not_true, outside_beyond}
use Rattle.jr_model.proofs.Gates.{IsApart, apart_state}
use Rattle.jr_model.proofs.Updates.{at_number, at_number_self}
use Rattle.jr_steps.specs.declared.known.Known.{Known}
use Rattle.jr_steps.specs.declared.loads.GateLoad.{GateLoad}
use Rattle.jr_steps.specs.declared.loads.GateLoad.TheVariants as gate
use Rattle.jr_steps.specs.Acts.{act_of_entry, act_of_exit, all_counted, others_counted}
use Rattle.jr_steps.specs.Acts.{is_closed, act_of_gate_load, GateLoadFits}
use Rattle.jr_steps.specs.declared.known.Holdings.{Holdings}
use Rattle.jr_steps.specs.declared.known.Move.{Move}
use Rattle.jr_steps.specs.Holdings.{empty}
use Rattle.jr_steps.specs.Says.{SaysOfGate}
use Rattle.jr_rule.specs.Image.{MayHold, AreHeld, IsGateOf, IsImage}
use Rattle.jr_steps.specs.Knowing.{state_of, Goes, ShowsGate}
use Rattle.jr_steps.proofs.GateFacts.{nobody_closes, somebody_closes}
use Rattle.jr_rule.proofs.LegalSteps.{LegalStep, one_legal}
use Rattle.jr_rule.proofs.Images.{gate_set}

pub bit_most : (b : Bool) → bit b ≤ 1
bit_most true = omega arith
bit_most false = omega arith

count_most : (n : ℕ) (p : ℕ → Bool) → count_below n p ≤ n
unfolding sum_below
count_most zero p = omega arith
count_most (suc n) p = let rest = count_most n p in let one = bit_most (p n) in omega arith

bits_most : (st : GateState) → state_bits st ≤ 131072
bits_most Open = omega arith
bits_most Announced = omega arith
bits_most Closed = omega arith

module _ (c : Config) (role : ℕ → Role) (w : ℕ) (few : c.threads ≤ 64) (g : IsGateOf c role w) where
  -- the parts of the gate are those that a gate can have
  pub gate_fits : IsGate g.parts
  gate_fits = let most = count_most c.threads (λ t. is_inside (role t)) in let is = g.says.count in
      record { count = omega arith }

  pub gate_most : w ≤ 131136
  gate_most = let most = count_most c.threads (λ t. is_inside (role t)) in let is = g.says.count in let e = g.word in
      let bits = bits_most g.parts.state in omega arith

-- the state in which a thread of this role leaves the gate
abbrev pub left_by : Role → GateState
left_by Announcing = Announced
left_by Collecting = Closed
left_by _ = Open

left_shut : (r : Role) → left_by r ≡ Closed → r ≡ Collecting
left_shut Outside e = absurd cc
left_shut Within e = absurd cc
left_shut Knocking e = absurd cc
left_shut Announcing e = absurd cc
left_shut Collecting e = refl

left_announced : (r : Role) → left_by r ≡ Announced → r ≡ Announcing
left_announced Outside e = absurd cc
left_announced Within e = absurd cc
left_announced Knocking e = absurd cc
left_announced Announcing e = refl
left_announced Collecting e = absurd cc

left_open : (r : Role) → r ≢ Collecting → r ≢ Announcing → Open ≡ left_by r
left_open Outside p q = refl
left_open Within p q = refl
left_open Knocking p q = refl
left_open Announcing p q = absurd (q refl)
left_open Collecting p q = absurd (p refl)

-- nobody but this thread keeps the gate closed
abbrev NoOther : (ℕ → Role) → ℕ → Type 0
NoOther role t = (u : ℕ) → u ≢ t → is_barring (role u) ≡ false

no_other : {role : ℕ → Role} (t : ℕ) → IsApart role → is_barring (role t) ≡ true → NoOther role t
no_other {role} t apart closing u ne = not_true (is_barring (role u)) (λ e. ne (one_closes apart u t e closing))

-- so the gate is in the state in which that thread leaves it
state_is : (c : Config) (role : ℕ → Role) (p : GateParts) (t : ℕ) → SaysOfGate c role p → NoOther role t
    → p.state ≡ left_by (role t)
state_is c role p t says none = go p.state refl
  where
    here : (x : Role) → is_barring x ≡ true → (u : ℕ) → role u ≡ x → role t ≡ x
    here x closing u is = dite (ℕ_discrete u t) (λ e. sym (ap role e) ∙ is) (λ ne. absurd (let quiet = none u ne in
        let loud = ap is_barring is ∙ closing in cc))

    go : (st : GateState) → p.state ≡ st → st ≡ left_by (role t)
    go Open e =
        left_open (role t) (λ z. let shut = says.shut.1 (t, z) in cc) (λ z. let announced = says.announced.1 (t, z) in
        cc)
    go Announced e = let u = says.announced.0 e in ap left_by (sym (here Announcing refl u.0 u.1))
    go Closed e = let u = says.shut.0 e in ap left_by (sym (here Collecting refl u.0 u.1))

-- a thread that does not keep the gate closed takes another such role
kept_by : (x : Role) {B : Type 0} (role : ℕ → Role) (t : ℕ) (new : Role) → role t ≢ x → new ≢ x
    → (B ↔ ((u : ℕ) × (role u ≡ x))) → B ↔ ((u : ℕ) × (update nat_eq role t new u ≡ x))
kept_by x role t new was still says = (
  λ b. let u = says.0 b in
      (u.0, at_number (λ r. r ≡ x) role t u.0 new (λ e. absurd (was (ap role e ∙ u.1))) (λ ne. u.1)),
  λ u. says.1 (u.0, at_number (λ r. r ≡ x → role u.0 ≡ x) role t u.0 new (λ e q. absurd (still q)) (λ ne q. q) u.1),
)

moved_gate : (c : Config) (role : ℕ → Role) (t : ℕ) (old new : Role) (w n : ℕ) → t < c.threads → role t ≡ old
    → is_barring old ≡ false → is_barring new ≡ false
    → n + bit (is_inside old) ≡ w + bit (is_inside new) → IsGateOf c role w → IsGateOf c (update nat_eq role t new) n
moved_gate c role t old new w n row was quiet still word g = record {
  parts = record { count = count_below c.threads (λ u. is_inside (update nat_eq role t new u)); state = g.parts.state };
  word =
      let count = count_role c.threads is_inside role t new row in
      let here = ap (λ r. bit (is_inside r)) was in
      let a = g.says.count in
      let b = g.word in omega arith;
  says = record {
    count = refl;
    shut = kept_by Collecting role t new (λ e. let z = ap is_barring (sym was ∙ e) in cc)
        (λ e. let z = ap is_barring e in cc) g.says.shut;
    announced = kept_by Announcing role t new (λ e. let z = ap is_barring (sym was ∙ e) in cc)
        (λ e. let z = ap is_barring e in cc) g.says.announced;
  };
}

-- a thread beside which nobody keeps the gate closed takes another role, and leaves the gate so
closing_gate : (c : Config) (role : ℕ → Role) (t : ℕ) (old new : Role) (w n : ℕ) → t < c.threads → role t ≡ old
    → NoOther role t
    → n + bit (is_inside old) + state_bits (left_by old) ≡ w + bit (is_inside new) + state_bits (left_by new)
    → IsGateOf c role w → IsGateOf c (update nat_eq role t new) n
closing_gate c role t old new w n row was none word g = record {
  parts = record { count = count_below c.threads (λ u. is_inside (update nat_eq role t new u)); state = left_by new };
  word =
      let count = count_role c.threads is_inside role t new row in
      let here = ap (λ r. bit (is_inside r)) was in
      let bits = ap state_bits (state_is c role g.parts t g.says none ∙ ap left_by was) in
      let a = g.says.count in
      let b = g.word in omega arith;
  says = record {
    count = refl;
    shut = (λ e. (t, at_number_self role t new ∙ left_shut new e), λ u. ap left_by (it Collecting refl u.0 u.1));
    announced =
        (λ e. (t, at_number_self role t new ∙ left_announced new e), λ u. ap left_by (it Announcing refl u.0 u.1));
  };
}
  where
    it : (x : Role) → is_barring x ≡ true → (u : ℕ) → update nat_eq role t new u ≡ x → new ≡ x
    it x closing u = at_number (λ r. r ≡ x → new ≡ x) role t u new (λ e p. p) (λ ne p.
        absurd (let quiet = none u (λ z. ne (sym z)) in let loud = ap is_barring p ∙ closing in cc))

-- what the threads hold, once one that did not collect takes another role in which it may hold what it does
held_by_role_quiet : (role : ℕ → Role) (moving : Option Move) (held : ℕ → Holdings) (t : ℕ) (new : Role)
    → role t ≢ Collecting → MayHold moving new (held t) → AreHeld role moving held
    → AreHeld (update nat_eq role t new) moving held
held_by_role_quiet role moving held t new quiet may a = record {
  each = λ u. at_number (λ r. MayHold moving r (held u)) role t u new
      (λ e. subst (λ v. MayHold moving new (held v)) e may) (λ ne. a.each u);
  still = λ nobody. a.still (λ u q.
      nobody u (at_number (λ r. r ≡ Collecting) role t u new (λ e. absurd (quiet (ap role e ∙ q))) (λ ne. q)));
}

-- one thread keeps the gate closed where it is not open, and none where it is
count_closing : (n : ℕ) (role : ℕ → Role) (closed : Bool) → IsApart role → ((t : ℕ) → n ≤ t → role t ≡ Outside)
    → (closed ≡ true → (t : ℕ) × (is_barring (role t) ≡ true))
    → (closed ≡ false → (t : ℕ) → is_barring (role t) ≡ false)
    → count_below n (λ t. is_barring (role t)) ≡ bit closed
count_closing n role true apart beyond some none =
    let u = some refl in
    let row : u.0 < n = ⊎_elim (λ (l : u.0 < n). l)
    (λ (l : n ≤ u.0). absurd (let o = ap is_barring (beyond u.0 l) in let k = u.1 in cc)) (cases_lt u.0 n) in
    count_single n (λ t. is_barring (role t)) u.0 row u.1 (λ j ne.
    not_true (is_barring (role j)) (λ e. ne (one_closes apart u.0 j u.1 e)))
count_closing n role false apart beyond some none = count_all_false n (λ t. is_barring (role t)) (λ t l. none refl t)

-- a word of 0 counts nobody, and no other word does
pub somebody : (p : GateParts) → gate_word p ≢ 0 → 1 ≤ all_counted p
somebody p ne = go p.count p.state ne
  where
    go : (n : ℕ) (st : GateState) → n + state_bits st ≢ 0 → 1 ≤ n + bit (is_closed st)
    go n Open ne = omega arith
    go n Announced ne = omega arith
    go n Closed ne = omega arith

-- the gate counts the threads that are not outside
pub all_counted_is : (c : Config) (last : ℕ) (log : History) → IsLegal c last log → (p : GateParts)
    → SaysOfGate c (state log).role p → all_counted p ≡ not_outside c (state log)
all_counted_is c last log legal p g =
    let split = not_outside_split c (state log) in
    let one = count_closing c.threads (state log).role (is_closed p.state) (apart_state c last log legal)
    (outside_beyond c last log legal) (somebody_closes g) (nobody_closes g) in
    let a = g.count in omega arith

-- and so it does after a load
pub counted_after : {k k' : Known} {acts : List Act} (p : GateParts) → Goes k acts k' → ShowsGate p k'
    → all_counted p ≡ not_outside k'.config (state_of k')
counted_after {k} {k'} p g s =
    all_counted_is k'.config k.last k'.seen (subst (λ c. IsLegal c k.last k'.seen) (sym g.config) g.legal) p s

-- what its parts show
pub shows_gate : (p : GateParts) (c : Config) (s : State) (k : Known) → SaysOfGate c s.role p → k.config ≡ c
    → state_of k ≡ s → ShowsGate p k
shows_gate p c s k g room same =
    subst (λ (z : Config × State). SaysOfGate z.0 (z.1).role p) (λ i. (sym room i, sym same i)) g

at_least : (n : ℕ) → n ≢ 0 → 1 ≤ n
at_least n ne = omega arith

-- who is neither inside nor keeps the gate closed is outside
outside_by : (r : Role) → is_inside r ≡ false → is_barring r ≡ false → r ≡ Outside
outside_by Outside p q = refl
outside_by Within p q = absurd cc
outside_by Knocking p q = absurd cc
outside_by Announcing p q = absurd cc
outside_by Collecting p q = absurd cc

-- the role in which a thread shuts the gate from this state
abbrev pub shutter : GateState → Role
shutter Announced = Announcing
shutter _ = Outside

-- it is open, or announced to be shut
abbrev pub CanShutFrom : GateState → Type 0
CanShutFrom from = (from ≡ Open) ⊎ (from ≡ Announced)

module _ (c : Config) (last : ℕ) (log : History) (t : ℕ) (words : List ℕ) (legal : IsLegal c last log)
    (held : ℕ → Holdings) (image : IsImage c last words (state log) held) (row : t < c.threads) where
  -- who is outside holds nothing
  nothing : (state log).role t ≡ Outside → held t ≡ empty
  nothing out = subst (λ r. MayHold image.moving r (held t)) out (image.held_by_role.each t)

  -- who announces holds nothing
  nothing_yet : (state log).role t ≡ Announcing → held t ≡ empty
  nothing_yet yet = subst (λ r. MayHold image.moving r (held t)) yet (image.held_by_role.each t)

  -- an entry adds 1, and goes in where the gate is open
  pub goes_in : (found : ℕ) (closed : Bool) → found ≡ get_or words 0 0 → closed ≡ is_closed image.gate.parts.state
      → (state log).role t ≡ Outside
      → LegalStep c last log t (act_of_entry (not closed) ∷ []) (slice_set words 0 (found + 1)) held
  goes_in found true is same out = one_legal c last log t (slice_set words 0 (found + 1)) held legal (Gate Knock)
      (row, (out, somebody_closes image.gate.says (sym same)))
      (gate_set c last words (state log) held image (found + 1) (update nat_eq (state log).role t Knocking)
      (held_by_role_quiet (state log).role image.moving held t Knocking (λ e. let z = sym out ∙ e in cc) (nothing out)
      image.held_by_role)
      (moved_gate c (state log).role t Outside Knocking (get_or words 0 0) (found + 1) row out refl refl (omega arith)
      image.gate))
  goes_in found false is same out = one_legal c last log t (slice_set words 0 (found + 1)) held legal (Gate Enter)
      (row, (out, nobody_closes image.gate.says (sym same)))
      (gate_set c last words (state log) held image (found + 1) (update nat_eq (state log).role t Within)
      (held_by_role_quiet (state log).role image.moving held t Within (λ e. let z = sym out ∙ e in cc)
      (ap (λ (g : Holdings). g.moving) (nothing out)) image.held_by_role)
      (moved_gate c (state log).role t Outside Within (get_or words 0 0) (found + 1) row out refl refl (omega arith)
      image.gate))

  -- an exit takes 1 away, of a thread that holds nothing any more
  pub goes_out : (role : Role) (n : ℕ) → held t ≡ empty → n + 1 ≡ get_or words 0 0 → (role ≡ Within) ⊎ (role ≡ Knocking)
      → (state log).role t ≡ role
      → LegalStep c last log t (act_of_exit role ∷ []) (slice_set words 0 n) held
  goes_out Within n none is counts at =
      one_legal c last log t (slice_set words 0 n) held legal (Gate Leave) (row, (at, tt))
      (gate_set c last words (state log) held image n (update nat_eq (state log).role t Outside) (held_by_role_quiet
      (state log).role image.moving held t Outside (λ e. let z = sym at ∙ e in cc) none image.held_by_role)
      (moved_gate c (state log).role t Within Outside (get_or words 0 0) n row at refl refl (omega arith) image.gate))
  goes_out Knocking n none is counts at =
      one_legal c last log t (slice_set words 0 n) held legal (Gate Withdraw) (row, (at, tt))
      (gate_set c last words (state log) held image n (update nat_eq (state log).role t Outside) (held_by_role_quiet
      (state log).role image.moving held t Outside (λ e. let z = sym at ∙ e in cc) none image.held_by_role)
      (moved_gate c (state log).role t Knocking Outside (get_or words 0 0) n row at refl refl (omega arith) image.gate))
  goes_out Outside n none is counts at = absurd (⊎_elim (λ e. cc) (λ e. cc) counts)
  goes_out Announcing n none is counts at = absurd (⊎_elim (λ e. cc) (λ e. cc) counts)
  goes_out Collecting n none is counts at = absurd (⊎_elim (λ e. cc) (λ e. cc) counts)

  -- whoever is inside is counted
  pub counted : (role : Role) → (role ≡ Within) ⊎ (role ≡ Knocking) → (state log).role t ≡ role → 1 ≤ get_or words 0 0
  counted role counts at =
      let count = count_role c.threads is_inside (state log).role t Outside row in
      let one : bit (is_inside ((state log).role t)) ≡ 1 = ap (λ r. bit (is_inside r)) at
      ∙ ⊎_elim (λ e. ap (λ r. bit (is_inside r)) e) (λ e. ap (λ r. bit (is_inside r)) e) counts in
      let a = image.gate.says.count in
      let b = image.gate.word in omega arith

  -- who collects is counted
  pub shut_counted : (state log).role t ≡ Collecting → 65536 ≤ get_or words 0 0
  shut_counted at =
      let shut = ap state_bits (image.gate.says.shut.1 (t, at)) in
      let b = image.gate.word in omega arith

  pub announced_counted : (state log).role t ≡ Announcing → 131072 ≤ get_or words 0 0
  announced_counted at =
      let announced = ap state_bits (image.gate.says.announced.1 (t, at)) in
      let b = image.gate.word in omega arith

  -- a load of the gate counts as what it is named
  others : (n : ℕ) → (state log).role t ≡ Outside → n ≡ not_outside c (state log) → AreOthers c (state log) t n
  others n out is = let own : ◌≡◌ {A = ℕ} (if is_outside ((state log).role t) then 0 else 1) 0 =
      ap (λ r. if is_outside r then 0 else 1) out in omega (arith, is, own)

  pub gate_seen : (name : GateLoad) → GateLoadFits ((state log).role t) name
      → LegalStep c last log t (act_of_gate_load name image.gate.parts ∷ []) words held
  gate_seen gate.Meet fits = one_legal c last log t words held legal Meet (row, tt) image
  gate_seen gate.Busy out = go (is_closed image.gate.parts.state) image.gate.parts.count
      (all_counted_is c last log legal image.gate.parts image.gate.says)
    where
      go : (closed : Bool) (count : ℕ) → count + bit closed ≡ not_outside c (state log)
          → LegalStep c last log t ((if closed then ShutBusy (count + bit closed) else Meet) ∷ []) words held
      go true count is = one_legal c last log t words held legal (ShutBusy (count + 1))
          (row, (inl out, others (count + 1) out is, omega arith)) image
      go false count is = one_legal c last log t words held legal Meet (row, tt) image

  -- whoever shuts the gate is outside or has announced it, and nobody else keeps it closed
  shutter_is : (from : GateState) → CanShutFrom from → (state log).role t ≡ shutter from → MayShut ((state log).role t)
  shutter_is Open can at = inl at
  shutter_is Announced can at = inr at
  shutter_is Closed can at = absurd (⊎_elim (λ e. cc) (λ e. cc) can)

  -- the parts of a gate whose word this is
  parts_are : (few : c.threads ≤ 64) (count : ℕ) (st : GateState) → count < 2 ^ 16
      → get_or words 0 0 ≡ count + state_bits st → image.gate.parts ≡ record { count = count; state = st }
  parts_are few count st fits is = gate_word-injective image.gate.parts (record { count = count; state = st })
      (gate_fits c (state log).role (get_or words 0 0) few image.gate) (record { count = fits }) (sym image.gate.word
      ∙ is)

  module _ (few : c.threads ≤ 64) (from : GateState) (can : CanShutFrom from)
      (at : (state log).role t ≡ shutter from) where
    pub holds_nothing : held t ≡ empty
    holds_nothing = go from can at
      where
        go : (st : GateState) → CanShutFrom st → (state log).role t ≡ shutter st → held t ≡ empty
        go Open z is = nothing is
        go Announced z is = nothing_yet is
        go Closed z is = absurd (⊎_elim (λ e. cc) (λ e. cc) z)

    nobody_else : image.gate.parts.state ≡ from → NoOther (state log).role t
    nobody_else is = go from can at is
      where
        go : (st : GateState) → CanShutFrom st → (state log).role t ≡ shutter st → image.gate.parts.state ≡ st
            → NoOther (state log).role t
        go Open z at' is' = λ u ne. nobody_closes image.gate.says (ap is_closed is') u
        go Announced z at' is' = no_other t (apart_state c last log legal) (ap is_barring at')
        go Closed z at' is' = absurd (⊎_elim (λ e. cc) (λ e. cc) z)

    -- a gate that counts nobody else is shut
    pub bars : get_or words 0 0 ≡ state_bits from
        → LegalStep c last log t (Gate Shut ∷ []) (slice_set words 0 65536) held
    bars none = one_legal c last log t (slice_set words 0 65536) held legal (Gate Shut)
        (row, (shutter_is from can at, outside))
        (gate_set c last words (state log) held image 65536 (update nat_eq (state log).role t Collecting)
        record {
          each = λ u. at_number (λ r. MayHold image.moving r (held u)) (state log).role t u Collecting
              (λ e. subst (λ v. MayHold image.moving Collecting (held v)) e (
                ap (λ (g : Holdings). g.moving) holds_nothing ∙ sym still,
                ap (λ (g : Holdings). g.ranges) holds_nothing,
              ))
              (λ ne. image.held_by_role.each u);
          still = λ nobody'. absurd (nobody' t (at_number_self (state log).role t Collecting));
        }
        (closing_gate c (state log).role t (shutter from) Collecting (get_or words 0 0) 65536 row at others
        (go from can none) image.gate))
      where
        parts : image.gate.parts ≡ record { count = 0; state = from }
        parts = parts_are few 0 from (omega arith) (omega (arith, none))

        others : NoOther (state log).role t
        others = nobody_else (ap (λ (p : GateParts). p.state) parts)

        inside : (u : ℕ) → u < c.threads → is_inside ((state log).role u) ≡ false
        inside = count_none c.threads (λ u. is_inside ((state log).role u)) (sym image.gate.says.count
            ∙ ap (λ (p : GateParts). p.count) parts)

        outside : (u : ℕ) → u ≢ t → (state log).role u ≡ Outside
        outside u ne = ⊎_elim
            (λ (l : u < c.threads). outside_by ((state log).role u) (inside u l) (others u ne))
            (λ (l : c.threads ≤ u). outside_beyond c last log legal u l)
            (cases_lt u c.threads)

        quiet : (u : ℕ) → (state log).role u ≢ Collecting
        quiet u e = dite (ℕ_discrete u t)
            (λ same. ⊎_elim (λ z. let k = sym (sym (ap (state log).role same) ∙ e) in let o = z in cc)
            (λ z. let k = sym (sym (ap (state log).role same) ∙ e) in let o = z in cc) (shutter_is from can at))
            (λ ne. let o = outside u ne in cc)

        still : image.moving ≡ None
        still = image.held_by_role.still quiet

        go : (st : GateState) → CanShutFrom st → get_or words 0 0 ≡ state_bits st
            → 65536 + bit (is_inside (shutter st)) + state_bits (left_by (shutter st))
            ≡ get_or words 0 0 + bit (is_inside Collecting) + state_bits (left_by Collecting)
        go Open z is = omega (arith, is)
        go Announced z is = omega (arith, is)
        go Closed z is = absurd (⊎_elim (λ e. cc) (λ e. cc) z)

    -- a gate that counts somebody else is not
    pub bars_lost : get_or words 0 0 ≢ state_bits from
        → LegalStep c last log t (ShutBusy (others_counted from image.gate.parts) ∷ []) words held
    bars_lost busy = one_legal c last log t words held legal (ShutBusy (others_counted from image.gate.parts))
        (row, go from can at busy) image
      where
        all : all_counted image.gate.parts ≡ not_outside c (state log)
        all = all_counted_is c last log legal image.gate.parts image.gate.says

        go : (st : GateState) → CanShutFrom st → (state log).role t ≡ shutter st → get_or words 0 0 ≢ state_bits st
            → MayShut ((state log).role t) × AreOthers c (state log) t (others_counted st image.gate.parts)
            × (1 ≤ others_counted st image.gate.parts)
        go Open z is ne =
            let own : ◌≡◌ {A = ℕ} (if is_outside ((state log).role t) then 0 else 1) 0 =
            ap (λ r. if is_outside r then 0 else 1) is in
            (inl is, omega (arith, all, own), somebody image.gate.parts (λ e. ne (image.gate.word ∙ e)))
        go Announced z is ne =
            let own : ◌≡◌ {A = ℕ} (if is_outside ((state log).role t) then 0 else 1) 1 =
            ap (λ r. if is_outside r then 0 else 1) is in
            let state = image.gate.says.announced.1 (t, is) in
            let closed : ◌≡◌ {A = ℕ} (if is_closed image.gate.parts.state then 1 else 0) 1 =
            ap (λ st. if is_closed st then 1 else 0) state in
            let bits = ap state_bits state in
            let word = image.gate.word in (
              inr is,
              omega (arith, all, own, closed),
              at_least image.gate.parts.count (λ e. ne (word ∙ omega (arith, bits, e))),
            )
        go Closed z is ne = absurd (⊎_elim (λ e. cc) (λ e. cc) z)

  -- an open gate that counts as many as were looked at is announced to be shut
  pub announces : (few : c.threads ≤ 64) (looked : ℕ) → looked < 2 ^ 16 → get_or words 0 0 ≡ looked
      → (state log).role t ≡ Outside
      → LegalStep c last log t (Gate Announce ∷ []) (slice_set words 0 (looked + 131072)) held
  announces few looked fits is out =
      one_legal c last log t (slice_set words 0 (looked + 131072)) held legal (Gate Announce)
      (row, (out, none))
      (gate_set c last words (state log) held image (looked + 131072) (update nat_eq (state log).role t Announcing)
      (held_by_role_quiet (state log).role image.moving held t Announcing (λ e. let z = sym out ∙ e in cc) (nothing out)
      image.held_by_role)
      (closing_gate c (state log).role t Outside Announcing (get_or words 0 0) (looked + 131072) row out
      (λ u ne. none u) (omega (arith, is)) image.gate))
    where
      none : (u : ℕ) → is_barring ((state log).role u) ≡ false
      none = nobody_closes image.gate.says
          (ap (λ (p : GateParts). is_closed p.state) (parts_are few looked Open fits (omega (arith, is))))

  -- an announcement is taken back
  pub cancels : (n : ℕ) → n + 131072 ≡ get_or words 0 0 → (state log).role t ≡ Announcing
      → LegalStep c last log t (Gate Cancel ∷ []) (slice_set words 0 n) held
  cancels n is at = one_legal c last log t (slice_set words 0 n) held legal (Gate Cancel)
      (row, (at, tt))
      (gate_set c last words (state log) held image n (update nat_eq (state log).role t Outside) (held_by_role_quiet
      (state log).role image.moving held t Outside (λ e. let z = sym at ∙ e in cc) (nothing_yet at) image.held_by_role)
      (closing_gate c (state log).role t Announcing Outside (get_or words 0 0) n row at
      (no_other t (apart_state c last log legal) (ap is_barring at)) (omega (arith, is)) image.gate))

  -- a shut gate is opened by a thread that holds nothing any more
  pub unbars : (n : ℕ) → held t ≡ empty → n + 65536 ≡ get_or words 0 0 → (state log).role t ≡ Collecting
      → IsClosed (state log) → LegalStep c last log t (Gate Reopen ∷ []) (slice_set words 0 n) held
  unbars n none is at closed = one_legal c last log t (slice_set words 0 n) held legal (Gate Reopen)
      (row, (at, closed))
      (gate_set c last words (state log) held image n (update nat_eq (state log).role t Outside)
      record {
        each = λ u. at_number (λ r. MayHold image.moving r (held u)) (state log).role t u Outside
            (λ e. subst (λ v. held v ≡ empty) e none) (λ ne. image.held_by_role.each u);
        still = λ nobody'. sym own.0 ∙ ap (λ (g : Holdings). g.moving) none;
      }
      (closing_gate c (state log).role t Collecting Outside (get_or words 0 0) n row at
      (no_other t (apart_state c last log legal) (ap is_barring at)) (omega (arith, is)) image.gate))
    where
      own : MayHold image.moving Collecting (held t)
      own = subst (λ r. MayHold image.moving r (held t)) at (image.held_by_role.each t)
