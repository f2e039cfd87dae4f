-- What was so at some moment, and the grounds of refusals.
use Rattle.std.proofs.Common.{◌≡◌, ◌+◌, ◌<◌, ◌≤◌, ℕ, ◌==◌, Bool, true, false, cond, List, [], ◌∷◌}
use Rattle.std.proofs.Common.{◌++◌, Result, Ok, Err, IfErr, refl, sym, ap, subst, ◌∙◌, append_assoc}
use Rattle.std.proofs.lemmas.List.{append-nil}
use mathlib.Core.List.{IsPrefix}
use Rattle.jr_word.specs.declared.config.Config.{Config}
use Rattle.jr_word.specs.declared.fault.Fault.{Fault}
use Rattle.jr_word.specs.declared.fault.Fault.TheVariants.{RowFull, SpaceFull, ObjectsFull, Raced, Moved}
use Rattle.jr_model.specs.declared.event.Event.{Event}
use Rattle.jr_model.specs.declared.event.Act.{Act}
use Rattle.jr_model.specs.declared.event.Act.TheVariants.{Probe, ReserveLost}
use Rattle.jr_model.specs.State.{State, EachPresent, IsOccupied}
use Rattle.jr_model.specs.Steps.{Needs}
use Rattle.jr_model.specs.History.{History, by, state, IsLegal, mine, PassView, Did}
use Rattle.jr_model.specs.Refusals.{Sometime, WasTaken, WasOccupied, LostSpace, IsOpenWith, GateHasMoved, Grounds}
use Rattle.jr_model.proofs.Updates.{eq_true}
use Rattle.jr_model.proofs.Histories.{legal_append, state_push}
use Rattle.jr_model.proofs.Stays.{mine_did}

pub prefix_self : {A : Type 0} (xs : List A) → IsPrefix xs xs
prefix_self xs = ([], append-nil xs)

pub prefix_trans : {A : Type 0} (xs ys zs : List A) → IsPrefix xs ys → IsPrefix ys zs → IsPrefix xs zs
prefix_trans xs ys zs p q = (p.0 ++ q.0, sym (append_assoc xs p.0 q.0) ∙ (ap (λ l. l ++ q.0) p.1 ∙ q.1))

-- what is so at the end was so at some moment
pub sometime_last : {P : State → Type 0} {old new : History} → IsPrefix old new → P (state new) → Sometime P old new
sometime_last {new} p m = record { moment = new; from = p; to = prefix_self new; met = m }

-- a call that begins earlier and ends later has the moment too
pub sometime_wider : {P : State → Type 0} {first old new end : History} → IsPrefix first old → IsPrefix new end
    → Sometime P old new → Sometime P first end
sometime_wider {first} {old} {new} {end} p q m = record {
  moment = m.moment;
  from = prefix_trans first old m.moment p m.from;
  to = prefix_trans m.moment new end m.to q;
  met = m.met;
}

same_event : (e : Event) (t : ℕ) (a : Act) → e.thread ≡ t → e.act ≡ a → e ≡ by t a
same_event e t a p q = ap (λ u. by u e.act) p ∙ ap (λ b. by t b) q

-- the first of the acts of t, among the events
pub record FirstAct (t : ℕ) (a : Act) (acts : List Act) (es : History) : Type 0 where
  pub before : History
  pub since : History
  pub parts : es ≡ before ++ by t a ∷ since
  pub none : mine before t ≡ []
  pub rest : mine since t ≡ acts

pub first_act : (t : ℕ) (a : Act) (acts : List Act) (es : History) → mine es t ≡ a ∷ acts → FirstAct t a acts es
first_act t a acts [] is = absurd cc
first_act t a acts (e ∷ es) is = go (e.thread == t) refl is (λ m. first_act t a acts es m)
  where
    go : (b : Bool) → (e.thread == t) ≡ b → cond b (e.act ∷ mine es t) (mine es t) ≡ a ∷ acts
        → (mine es t ≡ a ∷ acts → FirstAct t a acts es) → FirstAct t a acts (e ∷ es)
    go true same is later = record {
      before = [];
      since = es;
      parts = ap (λ f. f ∷ es) (same_event e t a (eq_true e.thread t same) cc);
      none = refl;
      rest = cc;
    }
    go false same is later =
        let r = later is in
        record {
          before = e ∷ r.before;
          since = r.since;
          parts = ap (λ l. e ∷ l) r.parts;
          none = rw same r.none;
          rest = r.rest;
        }

-- the first act that was done, and the state in which it was taken
pub record OneAct (old new : PassView) (a : Act) : Type 0 where
  pub before : History
  pub since : History
  pub parts : new.seen ≡ before ++ by old.thread a ∷ since
  pub from : IsPrefix old.seen before
  pub legal : IsLegal old.config old.last before
  pub needs : Needs old.config old.last (state before) (by old.thread a)

pub first_done : {old new : PassView} (a : Act) (acts : List Act) → Did old new (a ∷ acts) → OneAct old new a
first_done {old} {new} a acts d =
    let own = mine_did (a ∷ acts) d in
    let f = first_act old.thread a acts d.begins.0 own in
    let parts : new.seen ≡ (old.seen ++ f.before) ++ by old.thread a ∷ f.since
    = sym d.begins.1
    ∙ (ap (λ l. old.seen ++ l) f.parts ∙ sym (append_assoc old.seen f.before (by old.thread a ∷ f.since))) in
    let both = (legal_append old.config old.last (old.seen ++ f.before) (by old.thread a ∷ f.since)).0
    (subst (IsLegal old.config old.last) parts d.legal) in
    record {
      before = old.seen ++ f.before;
      since = f.since;
      parts = parts;
      from = (f.before, refl);
      legal = both.0;
      needs = both.1.0;
    }

pub one_act : {old new : PassView} (a : Act) → Did old new (a ∷ []) → OneAct old new a
one_act a d = first_done a [] d

pub before_new : {old new : PassView} {a : Act} (o : OneAct old new a) → IsPrefix o.before new.seen
before_new {old} {a} o = (by old.thread a ∷ o.since, sym o.parts)

-- what an act needs, of the thread and the room as they are named later
needs_of : {c d : Config} {l m t u : ℕ} (s : State) (a : Act) → d ≡ c → m ≡ l → u ≡ t → Needs c l s (by t a)
    → Needs d m s (by u a)
needs_of {c} {d} {l} {m} {t} {u} s a p q r n = subst (λ z. Needs z m s (by u a)) (sym p)
    (subst (λ z. Needs c z s (by u a)) (sym q) (subst (λ z. Needs c l s (by z a)) (sym r) n))

-- one of the acts that were done was taken
pub taken : {old new : PassView} (a : Act) {acts : List Act} → Did old new acts → OneAct old new a
    → WasTaken old.seen new a
taken {new} a d o = record {
  before = o.before;
  since = o.since;
  taken = subst (λ t. new.seen ≡ o.before ++ by t a ∷ o.since) (sym d.thread) o.parts;
  from = o.from;
  needs = needs_of (state o.before) a d.config d.last d.thread o.needs;
}

pub took_one : {old new : PassView} (a : Act) → Did old new (a ∷ []) → WasTaken old.seen new a
took_one a d = taken a d (one_act a d)

-- a probe changes nothing
probed_state : (before : History) (t i : ℕ) (found : Bool) → state (before ++ by t (Probe i found) ∷ []) ≡ state before
probed_state before t i found = state_push before (by t (Probe i found))

-- behind an act there is all that was seen
pub behind_act : {seen : History} (before since : History) (e : Event) → seen ≡ before ++ e ∷ since
    → IsPrefix (before ++ e ∷ []) seen
behind_act before since e is = (since, append_assoc before (e ∷ []) since ∙ sym is)

-- a probe that found the index occupied
pub probed_occupied : {old new : PassView} (i : ℕ) → Did old new (Probe i true ∷ []) → WasOccupied old.seen new i
probed_occupied {new} i d =
    let w = took_one (Probe i true) d in
    let here = w.before ++ by new.thread (Probe i true) ∷ [] in
    record {
      found = true;
      probed = w;
      occupied = record {
        moment = here;
        from = prefix_self here;
        to = behind_act w.before w.since (by new.thread (Probe i true)) w.taken;
        met = subst (λ s. IsOccupied new.last s i) (sym (probed_state w.before new.thread i true))
            (w.needs.1.1.0 refl);
      };
    }

-- a lost reservation, after a moment of the call at which so many words were used
pub raced : (old : History) {mid new : PassView} (n looked found : ℕ) → Sometime (λ s. s.used ≡ looked) old mid.seen
    → Did mid new (ReserveLost n looked found ∷ []) → looked + n ≤ new.config.words → LostSpace n old new looked found
raced old {mid} {new} n looked found m d room =
    let w = took_one (ReserveLost n looked found) d in
    record {
      room = room;
      lost = record {
        before = w.before;
        since = w.since;
        taken = w.taken;
        from = prefix_trans old mid.seen w.before (prefix_trans old m.moment mid.seen m.from m.to) w.from;
        needs = w.needs;
      };
      looked_at = sometime_wider (prefix_self old) w.from m;
    }

-- an act that was taken in a part of a call was taken in the call
pub took_wider : {begun first : History} {r s : PassView} (a : Act) (acts : List Act) → Did r s acts
    → IsPrefix first begun → WasTaken begun r a → WasTaken first s a
took_wider {begun} {first} {r} {s} a acts d earlier w = record {
  before = w.before;
  since = w.since ++ d.begins.0;
  taken = subst (λ t. s.seen ≡ w.before ++ by t a ∷ (w.since ++ d.begins.0)) (sym d.thread)
      (sym d.begins.1
      ∙ (ap (λ z. z ++ d.begins.0) w.taken ∙ append_assoc w.before (by r.thread a ∷ w.since) d.begins.0));
  from = prefix_trans first begun w.before earlier w.from;
  needs = needs_of (state w.before) a d.config d.last d.thread w.needs;
}

module _ {begun first : History} (earlier : IsPrefix first begun) {r s : PassView} (acts : List Act)
    (d : Did r s acts) where
  -- an index that was probed and occupied in a part of a call was so in the call
  pub occupied_wider : (i : ℕ) → WasOccupied begun r i → WasOccupied first s i
  unfolding took_wider
  occupied_wider i w = record {
    found = w.found;
    probed = took_wider (Probe i w.found) acts d earlier w.probed;
    occupied =
        subst (λ t. Sometime (λ z. IsOccupied s.last z i) (w.probed.before ++ by t (Probe i w.found) ∷ []) s.seen)
        (sym d.thread)
        (subst (λ n. Sometime (λ z. IsOccupied n z i) (w.probed.before ++ by r.thread (Probe i w.found) ∷ []) s.seen)
        (sym d.last) (sometime_wider (prefix_self _) d.begins w.occupied));
  }

  objects_wider : Sometime (EachPresent r.config) begun r.seen → Sometime (EachPresent s.config) first s.seen
  objects_wider w = subst (λ (c : Config). Sometime (EachPresent c) first s.seen) (sym d.config)
      (sometime_wider earlier d.begins w)

  lost_wider : (n l f : ℕ) → LostSpace n begun r l f → LostSpace n first s l f
  unfolding took_wider
  lost_wider n l f w = record {
    room = subst (λ (c : Config). l + n ≤ c.words) (sym d.config) w.room;
    lost = took_wider (ReserveLost n l f) acts d earlier w.lost;
    looked_at = sometime_wider earlier (prefix_self w.lost.before) w.looked_at;
  }

  moved_wider : (l f : ℕ) → GateHasMoved begun r l f → GateHasMoved first s l f
  moved_wider l f w = record {
    other = w.other;
    looked_at = record {
      moment = w.looked_at.moment;
      from = prefix_trans first begun w.looked_at.moment earlier w.looked_at.from;
      to = prefix_trans w.looked_at.moment r.seen s.seen w.looked_at.to d.begins;
      met = subst (λ (c : Config). IsOpenWith c l (state w.looked_at.moment)) (sym d.config) w.looked_at.met;
    };
    later = subst (λ (c : Config). Sometime (IsOpenWith c f) w.looked_at.moment s.seen) (sym d.config)
        (sometime_wider (prefix_self w.looked_at.moment) d.begins w.later);
  }

-- an index that was occupied at some moment after the call had probed it
pub probed_then : {old mid new : PassView} (i : ℕ) (found : Bool) (acts : List Act) → Did old mid (Probe i found ∷ [])
    → Did mid new acts → Sometime (λ s. IsOccupied mid.last s i) mid.seen new.seen → WasOccupied old.seen new i
unfolding took_wider took_one
probed_then {old} {mid} {new} i found acts d e m =
    let w = took_one (Probe i found) d in
    let here = w.before ++ by mid.thread (Probe i found) ∷ [] in
    let later = sometime_wider (behind_act w.before w.since (by mid.thread (Probe i found)) w.taken)
    (prefix_self new.seen) m in
    record {
      found = found;
      probed = took_wider (Probe i found) acts e (prefix_self old.seen) w;
      occupied = subst (λ t. Sometime (λ s. IsOccupied new.last s i) (w.before ++ by t (Probe i found) ∷ []) new.seen)
          (sym e.thread) (subst (λ n. Sometime (λ s. IsOccupied n s i) here new.seen) (sym e.last) later);
    }

module _ (begun first : History) (earlier : IsPrefix first begun) {r s : PassView} (acts : List Act)
    (d : Did r s acts) where
  -- the grounds of a part of a call are grounds of the call
  grounds_wider : (e : Fault) → Grounds begun r e → Grounds first s e
  grounds_wider RowFull g =
      λ i l. occupied_wider earlier acts d i (g i (subst (λ (c : Config). i < c.slots) d.config l))
  grounds_wider ObjectsFull g = objects_wider earlier acts d g
  grounds_wider (SpaceFull u) g = g
  grounds_wider (Raced l f) g = (g.0, lost_wider earlier acts d g.0 l f g.1)
  grounds_wider (Moved l f) g = moved_wider earlier acts d l f g
  grounds_wider _ g = tt

  pub answer_wider : {A : Type 0} (answer : Result A Fault) → IfErr answer (Grounds begun r)
      → IfErr answer (Grounds first s)
  answer_wider (Ok x) g = tt
  answer_wider (Err e) g = grounds_wider e g
