-- What a collector may rely on from step to step: nobody else changes the tables.
use Rattle.std.proofs.Common.{◌≡◌, ◌<◌, ◌≤◌, ℕ, [], ◌∷◌, ◌++◌, sym, ap, subst, ◌∙◌, append_assoc}
use Rattle.std.proofs.lemmas.List.{append-nil}
use Rattle.jr_word.specs.declared.config.Config.{Config}
use Rattle.jr_model.specs.declared.event.Act.{Act}
use Rattle.jr_model.specs.declared.event.Role.TheVariants.{Collecting}
use Rattle.jr_model.specs.State.{State, HaveSameTables}
use Rattle.jr_model.specs.Steps.{act_after}
use Rattle.jr_model.specs.History.{by, state, IsLegal, mine, role_of}
use Rattle.jr_model.proofs.Gates.{apart_state}
use Rattle.jr_model.proofs.Histories.{legal_append, legal_push, mine_append, state_append, state_push}
use Rattle.jr_model.proofs.Stays.{same_along}
use Rattle.jr_steps.specs.declared.known.Known.{Known}
use Rattle.jr_word.specs.declared.header.HeaderParts.{HeaderParts}
use Rattle.jr_steps.specs.Collecting.{IsThere}
use Rattle.jr_steps.specs.Holdings.{HasDone}
use Rattle.jr_steps.specs.Says.{element_spot}
use Rattle.jr_steps.specs.Knowing.{view, state_of, KnowsHeader, IsSettled, Goes, Sees}
use Rattle.jr_steps.proofs.Spots.{at_left}
use Rattle.jr_steps.proofs.StepFacts.{none_mine}

-- a step without an act
pub goes_sees : {k k' : Known} → Goes k [] k' → Sees k k'
goes_sees {k} g = record {
  config = g.config;
  last = g.last;
  thread = g.thread;
  between = g.between;
  seen = g.seen ∙ append-nil (k.seen ++ g.between);
  others = g.others;
  legal = g.legal;
}

-- steps without an act of one's own leave them
pub tables_seen : {k k' : Known} → Sees k k' → role_of (view k) ≡ Collecting → HaveSameTables (state_of k) (state_of k')
tables_seen {k} {k'} g collects =
    let both = (legal_append k.config k.last k.seen g.between).0 (subst (IsLegal k.config k.last) g.seen g.legal) in
    let same = same_along k.config k.last k.thread (state k.seen) g.between (apart_state k.config k.last k.seen both.0)
    collects (none_mine g.between k.thread g.others) both.1 in
    subst (HaveSameTables (state k.seen)) (sym (ap state g.seen ∙ state_append k.seen g.between)) same

pub same_tables : {k k' : Known} → Goes k [] k' → role_of (view k) ≡ Collecting
    → HaveSameTables (state_of k) (state_of k')
same_tables g collects = tables_seen (goes_sees g) collects

-- and one step more
pub sees_more : {k k' k'' : Known} → Sees k k' → Goes k' [] k'' → Sees k k''
sees_more {k} {k'} {k''} a b = record {
  config = b.config ∙ a.config;
  last = b.last ∙ a.last;
  thread = b.thread ∙ a.thread;
  between = a.between ++ b.between;
  seen = b.seen ∙ (append-nil (k'.seen ++ b.between)
      ∙ (ap (λ es. es ++ b.between) a.seen ∙ append_assoc k.seen a.between b.between));
  others = mine_append a.between b.between k.thread
      ∙ (ap (λ l. l ++ mine b.between k.thread) a.others ∙ subst (λ t. mine b.between t ≡ []) a.thread b.others);
  legal = subst (λ (z : Config × ℕ). IsLegal z.0 z.1 k''.seen) (λ i. (a.config i, a.last i)) b.legal;
}

-- an act of one's own is taken of the same tables
pub goes_act : {k k' : Known} {a : Act} → Goes k (a ∷ []) k' → role_of (view k) ≡ Collecting
    → (s : State) × HaveSameTables (state_of k) s × (state_of k' ≡ act_after s k.thread a)
goes_act {k} {k'} {a} g collects =
    let before = k.seen ++ g.between in
    let legal =
    (legal_push k.config k.last before (by k.thread a)).0 (subst (IsLegal k.config k.last) g.seen g.legal) in
    let both = (legal_append k.config k.last k.seen g.between).0 legal.0 in
    let same = same_along k.config k.last k.thread (state k.seen) g.between (apart_state k.config k.last k.seen both.0)
    collects (none_mine g.between k.thread g.others) both.1 in (
      state before,
      subst (HaveSameTables (state k.seen)) (sym (state_append k.seen g.between)) same,
      ap state g.seen ∙ state_push before (by k.thread a),
    )

-- where no move is unfinished each element stands at its header's place
pub there_settled : (o i : ℕ) (h : HeaderParts) (k : Known) → KnowsHeader o h k → i < h.length → IsSettled k
    → IsThere o h i k
there_settled o i h k known l settled = (known, l, ap (λ m. element_spot m o h.place i) settled)

-- and while one is moved, those that are not yet done
pub there_left : (o i place n : ℕ) (h : HeaderParts) (k : Known) → KnowsHeader o h k → i < h.length
    → HasDone k.holdings.moving o place n → n ≤ i → IsThere o h i k
there_left o i place n h k known l done more = (known, l, at_left k.holdings.moving o place n done h.place i more)
