-- A collection, from the shut of the gate to its reopening, is the model's.
use Rattle.std.proofs.Common.{◌≡◌, ◌≤◌, ◌+◌, ℕ, Bool, Option, IsSome, List, [], ◌∷◌}
use Rattle.std.proofs.Common.{◌++◌, map, Result, Ok, Err, IfOk, refl, sym, ap, subst, ◌∙◌, append_assoc, arith}
use Rattle.std.proofs.lemmas.List.{append-nil}
use mathlib.Core.Logic.{∥∥₁_map}
use Rattle.jr_word.specs.declared.config.Config.{Config}
use Rattle.jr_word.specs.declared.fault.Fault.{Fault}
use Rattle.jr_model.specs.declared.event.Act.{Act}
use Rattle.jr_model.specs.declared.event.Event.{Event}
use Rattle.jr_model.specs.declared.event.Role.TheVariants.{Outside, Collecting}
use Rattle.jr_model.specs.declared.event.Found.{Found}
use Rattle.jr_model.specs.declared.event.Act.TheVariants.{Gate, Clear, Drop, Settle}
use Rattle.jr_model.specs.declared.event.GateAct.TheVariants.{Shut, Reopen}
use Rattle.jr_model.specs.State.{Handle, Contents, State, HaveSameTables}
use Rattle.jr_model.specs.History.{History, by, state, mine, Did, IsLegal}
use Rattle.jr_model.proofs.Lengths.{lengths_fit}
use Rattle.jr_model.specs.CollectionCalls.{IsWhole, collection_acts, sweeping_acts, CollectionIn}
use Rattle.jr_model.specs.Windows.{IsWindow}
use Rattle.jr_model.proofs.Histories.{mine_append, state_push}
use Rattle.jr_model.proofs.Stays.{did_added, did_then, mine_did}
use Rattle.jr_model.proofs.Windows.{window_stay, stepped_last}
use Rattle.jr_steps.specs.declared.known.Known.{Known}
use Rattle.jr_steps.specs.declared.known.Holdings.{Holdings}
use Rattle.jr_steps.specs.Knowing.{AreOf, Facts, Goes, MayKnow, Sees, Took, CanReopen}
use Rattle.jr_steps.specs.Knowing.{IsClosedNow, anything, lets_go, standing_after, state_of, view}
use Rattle.jr_steps.proofs.CollectorFacts.{tables_seen}
use Rattle.jr_steps.proofs.StepFacts.{goes_stepped}
use Rattle.jr_gate.specs.Acting.{ActedTo}
use Rattle.jr_compact.specs.Compacting.{AreCompacted}
use Rattle.jr_compact.specs.Counting.{SawWithin, TakesWithin}
use Rattle.jr_weak.specs.Counting.{clearing_steps, collection_steps, dropping_steps, marking_steps, sweeping_steps}
use Rattle.jr_weak.specs.Marking.{IsMarkedNow}
use Rattle.jr_weak.specs.Sweeping.{AreCleared, AreDropped, ClearsUnreached}
use Rattle.jr_weak.specs.Sweeping.{DropsUnreached, IsExactlyToClear, IsExactlyToDrop}
use Rattle.jr_weak.specs.declared.collecting.Collected.{Collected}
use Rattle.jr_weak.specs.Collecting.{CollectsFrom, CollectsMarking, Finishes, MakesCollection, MakesListing}
use Rattle.jr_weak.proofs.Kept.{exactly_same}
use Rattle.jr_weak.proofs.Leading.{closed_on, reached_on}

pub sees_did : {k k' : Known} → Sees k k' → Did (view k) (view k') []
sees_did {k} {k'} s =
    did_added s.between [] s.config s.last s.thread (s.seen ∙ sym (append-nil (k.seen ++ s.between))) s.others s.legal

-- the gate may be opened, once all arrays stand together
can_reopen : (marks : List Bool) (used : ℕ) (k k' : Known) → AreDropped marks k → AreCompacted used k k' → CanReopen k'
can_reopen marks used k k' d c =
    (closed_on (record (state_of k) { used = used }) (state_of k') c.tables d.can.0, c.settled)

-- events one after the other, as one list
joined : (before more after : History) (s r : Event)
    → (((before ++ s ∷ []) ++ more) ++ after) ++ r ∷ [] ≡ before ++ s ∷ (more ++ after) ++ r ∷ []
joined before more after s r =
    ap (λ l. l ++ r ∷ []) (append_assoc (before ++ s ∷ []) more after ∙ append_assoc before (s ∷ []) (more ++ after))

-- where the collection lies
place_of : {k k1 k5 k6 : Known} (cleared : List Handle) (dropped : List ℕ) (used : ℕ) → Goes k (Gate Shut ∷ []) k1
    → Did (view k1) (view k5) (sweeping_acts cleared dropped used) → Goes k5 (Gate Reopen ∷ []) k6
    → CollectionIn (view k) (view k6) cleared dropped used
place_of {k} {k1} {k5} {k6} cleared dropped used g d h =
    let more : History = d.begins.0 in
    let five : k5.seen ≡ ((k.seen ++ g.between) ++ by k.thread (Gate Shut) ∷ []) ++ more =
    sym d.begins.1 ∙ ap (λ l. l ++ more) g.seen in
    let thread : k5.thread ≡ k.thread = d.thread ∙ g.thread in
    let swept : mine more k.thread ≡ sweeping_acts cleared dropped used =
    ap (mine more) (sym g.thread) ∙ mine_did (sweeping_acts cleared dropped used) d in
    let none : mine h.between k.thread ≡ [] = ap (mine h.between) (sym thread) ∙ h.others in
    record {
      before = k.seen ++ g.between;
      inside = more ++ h.between;
      rest = [];
      from = (g.between, refl);
      parts = h.seen
          ∙ (ap (λ l. (l ++ h.between) ++ by k5.thread (Gate Reopen) ∷ []) five
          ∙ (ap (λ t. ((((k.seen ++ g.between) ++ by k.thread (Gate Shut) ∷ []) ++ more) ++ h.between)
          ++ by t (Gate Reopen) ∷ []) thread
          ∙ joined (k.seen ++ g.between) more h.between (by k.thread (Gate Shut)) (by k.thread (Gate Reopen))));
      own = mine_append more h.between k.thread
          ∙ (ap (λ l. l ++ mine h.between k.thread) swept
          ∙ (ap (λ l. sweeping_acts cleared dropped used ++ l) none ∙ append-nil (sweeping_acts cleared dropped used)));
    }

-- the step that shuts the gate leaves the tables
pub shut_tables : {k k1 : Known} (g : Goes k (Gate Shut ∷ []) k1)
    → HaveSameTables (state (k.seen ++ g.between)) (state_of k1)
shut_tables {k} g =
    let is = ap state g.seen ∙ state_push (k.seen ++ g.between) (by k.thread (Gate Shut)) in
    record {
      refs = ap (λ (s : State). s.refs) is;
      given = ap (λ (s : State). s.given) is;
      locals = ap (λ (s : State). s.locals) is;
      objects = ap (λ (s : State). s.objects) is;
      used = ap (λ (s : State). s.used) is;
    }

-- numbers of steps, added up
within_two : (a b c n : ℕ) → b ≡ a + 1 → c ≤ b + (n + 1) → c ≤ a + (n + 2)
within_two a b c n first rest = omega arith

within_sum : (t1 t2 t3 t4 t5 t6 mark clear drop objects words used room : ℕ) → room ≡ objects → used ≤ words
    → t2 ≤ t1 + mark → t3 ≤ t2 + clear → t4 ≤ t3 + drop → t5 ≤ t4 + (room + (used + used + used) + 1) → t6 ≡ t5 + 1
    → t6 ≤ t1 + (mark + clear + drop + (objects + (words + words + words) + 1) + 1)
within_sum t1 t2 t3 t4 t5 t6 mark clear drop objects words used room fits less a b c d e = omega arith

pub same_back : {s t : State} → HaveSameTables s t → HaveSameTables t s
same_back a =
    record { refs = sym a.refs; given = sym a.given; locals = sym a.locals; objects = sym a.objects; used = sym a.used }

-- nothing that was to be cleared or dropped at the shut is left out
whole_of : (marks : List Bool) (s : State) (k k' : Known) (cleared : List Handle) (dropped : List ℕ)
    → HaveSameTables s (state_of k) → IsMarkedNow marks k → AreCleared marks k'
    → (state_of k').objects ≡ (state_of k).objects
    → IsExactlyToClear (state_of k) cleared → IsExactlyToDrop (state_of k') dropped → IsWhole s cleared dropped
whole_of marks s k k' cleared dropped same marked cleared' objects c d = record {
  clears = λ h z. c.all
      h (z.0, z.1, ap (λ (f : Handle → Found). f h) same.refs ∙ z.2, λ r. z.3 (reached_on (same_back same) z.1 r));
  drops = λ o z. d.all o (
    subst (λ (f : ℕ → Option Contents). IsSome (f o)) (sym (objects ∙ same.objects)) z.0,
    λ r. z.1 (reached_on (same_back same) o ((marked.0 o).0 ((cleared'.marked.0 o).1 r))),
  );
}

-- nothing is left out of the state before a step that leaves the tables, either
whole_before : {s t : State} (cleared : List Handle) (dropped : List ℕ) → HaveSameTables s t → IsWhole t cleared dropped
    → IsWhole s cleared dropped
whole_before cleared dropped same w = record {
  clears = λ h z. w.clears
      h (z.0, z.1, ap (λ (f : Handle → Found). f h) same.refs ∙ z.2, λ r. z.3 (reached_on (same_back same) z.1 r));
  drops = λ o z. w.drops o (
    subst (λ (f : ℕ → Option Contents). IsSome (f o)) (sym same.objects) z.0,
    λ r. z.1 (reached_on (same_back same) o r),
  );
}

-- THE STEPS OF ALL, by the sizes of one room
within_all : (k1 k2 k3 k4 k5 k6 : Known) (used room : ℕ) → room ≡ k1.config.objects → IsLegal k5.config k5.last k5.seen
    → AreCompacted used k4 k5 → k2.config ≡ k1.config → k3.config ≡ k2.config → k4.config ≡ k3.config
    → k5.config ≡ k4.config
    → TakesWithin (marking_steps k1.config) k1 k2 → TakesWithin (clearing_steps k2.config) k2 k3
    → TakesWithin (dropping_steps k3.config) k3 k4 → TakesWithin (room + (used + used + used) + 1) k4 k5
    → k6.taken ≡ k5.taken + 1 → TakesWithin (sweeping_steps k1.config + 1) k1 k6
within_all k1 k2 k3 k4 k5 k6 used room fits legal compacted c2 c3 c4 c5 marked cleared dropped moved opened =
    let clear : k3.taken ≤ k2.taken + clearing_steps k1.config =
    subst (λ (c : Config). k3.taken ≤ k2.taken + clearing_steps c) c2 cleared in
    let drop : k4.taken ≤ k3.taken + dropping_steps k1.config =
    subst (λ (c : Config). k4.taken ≤ k3.taken + dropping_steps c) (c3 ∙ c2) dropped in
    let fit = lengths_fit k5.config k5.last k5.seen legal in
    let low = fit.0 in
    let high = fit.1 in
    let sum = compacted.sum in
    let words : k5.config.words ≡ k1.config.words = ap (λ (c : Config). c.words) (c5 ∙ (c4 ∙ (c3 ∙ c2))) in
    let less : used ≤ k1.config.words = omega arith in
    within_sum k1.taken k2.taken k3.taken k4.taken k5.taken k6.taken (marking_steps k1.config)
    (clearing_steps k1.config) (dropping_steps k1.config) k1.config.objects k1.config.words used room fits less marked
    clear drop moved opened

-- what may be known while it goes on
module _ {S : Type 0} (facts : S → Facts) (a b : S) (marks : List Bool) where
  pub may_clear : MayKnow facts a CanReopen
      → SawWithin facts (λ j. marking_steps j.config) a b CanReopen (λ j k. IsMarkedNow marks k)
      → MayKnow facts b (IsMarkedNow marks)
  may_clear may p = ∥∥₁_map may (λ k. let x = p.leads k.0 k.1 k.2 in (x.0, x.1, x.3))

  pub may_drop : {n : ℕ} → MayKnow facts a (IsMarkedNow marks) → ClearsUnreached facts marks a b n
      → MayKnow facts b (AreCleared marks)
  may_drop may p = ∥∥₁_map may (λ k. let x = p.went.leads k.0 k.1 k.2 in (x.0, x.1, x.3.2))

  pub may_move : {n : ℕ} → MayKnow facts a (AreCleared marks) → DropsUnreached facts marks a b n
      → MayKnow facts b (AreDropped marks)
  may_move may p = ∥∥₁_map may (λ k. let x = p.went.leads k.0 k.1 k.2 in (x.0, x.1, x.3.1))

  pub may_reopen : {used : ℕ} (room : ℕ) → MayKnow facts a (AreDropped marks) → ActedTo facts a b (Settle used ∷ [])
      (AreDropped marks) (λ j k. AreCompacted used j k × TakesWithin (room + (used + used + used) + 1) j k)
      → MayKnow facts b CanReopen
  may_reopen {used} room may p =
      ∥∥₁_map may (λ k. let x = p.leads k.0 k.1 k.2 in (x.0, x.1, can_reopen marks used k.0 x.0 k.2 x.3.0.0))

module _ {S : Type 0} (facts : S → Facts) (fits : AreOf facts) (marks : List Bool) {b c d e f z : S}
    {cleared_count dropped_count used room : ℕ} {tells : List Handle → List ℕ → Type 0}
    (collecting : (facts b).stands.role ≡ Collecting)
    (fitting : room ≡ (facts b).stands.config.objects)
    (marked : SawWithin facts (λ j. marking_steps j.config) b c CanReopen (λ j k. IsMarkedNow marks k))
    (clear : ClearsUnreached facts marks c d cleared_count) (drop : DropsUnreached facts marks d e dropped_count)
    (told : tells clear.cleared drop.dropped)
    (moved : ActedTo facts e f (Settle used ∷ []) (AreDropped marks)
    (λ j k. AreCompacted used j k × TakesWithin (room + (used + used + used) + 1) j k))
    (opened : Took facts f z (Gate Reopen ∷ []) CanReopen lets_go) where
  -- THE REST OF A COLLECTION WAS MADE
  pub finishes : Finishes facts b z marks tells cleared_count dropped_count used
  finishes = record {
    cleared = clear.cleared;
    dropped = drop.dropped;
    clears = clear.counted;
    drops = drop.counted;
    told = told;
    went = record {
      stands_is = opened.stands_is ∙ ap (λ s. standing_after s (Gate Reopen ∷ [])) (moved.stands_is ∙ ap
          (λ s. standing_after s (Settle used ∷ [])) (drop.went.stands_is ∙ (clear.went.stands_is ∙ marked.stands_is)));
      hint_is = opened.hint_is ∙ (moved.hint_is ∙ (drop.went.hint_is ∙ (clear.went.hint_is ∙ marked.hint_is)));
      leads = λ k1 s m.
          let k2 = marked.leads k1 s m in
          let k3 = clear.went.leads k2.0 k2.1 k2.3 in
          let k4 = drop.went.leads k3.0 k3.1 k3.3.2 in
          let k5 = moved.leads k4.0 k4.1 k4.3.1 in
          let k6 = opened.goes k5.0 k5.1 (can_reopen marks used k4.0 k5.0 k4.3.1 k5.3.0.0) in
          let same = tables_seen (k2.2).sees ((fits b k1 s).role ∙ collecting) in (
            k6.0,
            k6.1,
            record {
              opening = k5.0;
              swept = did_then [] (sweeping_acts clear.cleared drop.dropped used) (sees_did (k2.2).sees)
                  (did_then (map Clear clear.cleared ++ map Drop drop.dropped) (Settle used ∷ [])
                  (did_then (map Clear clear.cleared) (map Drop drop.dropped) k3.2.0 k4.2.0) k5.2);
              opened = k6.2;
              whole = whole_of marks (state_of k1) k2.0 k3.0 clear.cleared drop.dropped same k2.3 k3.3.2 k3.3.1 k3.3.0
                  k4.3.0;
              marked = exactly_same marks (state_of k2.0) (state_of k1) (same_back same) k2.3.0;
              taken = within_all k1 k2.0 k3.0 k4.0 k5.0 k6.0 used room
                  (fitting ∙ ap (λ (c : Config). c.objects) (sym (fits b k1 s).config)) (fits f k5.0 k5.1).legal
                  k5.3.0.0 ((k2.2).sees).config k3.2.0.config k4.2.0.config k5.2.config (k2.2).within k3.2.1 k4.2.1
                  k5.3.0.1 (k6.2).taken;
            },
            k6.3,
          );
    };
  }

-- and the step that shut the gate
pub within_since : {k k1 : Known} {acts : List Act} (k6 : Known) → Goes k acts k1
    → TakesWithin (sweeping_steps k1.config + 1) k1 k6 → TakesWithin (collection_steps k.config) k k6
within_since {k} {k1} k6 g rest =
    let one = g.taken in
    let some : k6.taken ≤ k1.taken + (sweeping_steps k.config + 1) =
    subst (λ (c : Config). k6.taken ≤ k1.taken + (sweeping_steps c + 1)) g.config rest in
    within_two k.taken k1.taken k6.taken (sweeping_steps k.config) one some

-- from the shut on
pub record CollectsSince (marks : List Bool) (k k' : Known) (cleared : List Handle) (dropped : List ℕ) (used : ℕ)
    : Type 0 where
  pub does : CollectsMarking marks (view k) (view k') cleared dropped used
  pub begun : History
  pub window : IsWindow (view k) (view k') (collection_acts cleared dropped used) begun

pub collects_since : {k k1 k6 : Known} (marks : List Bool) (cleared : List Handle) (dropped : List ℕ) (used : ℕ)
    → Goes k (Gate Shut ∷ []) k1 → CollectsFrom marks k1 k6 cleared dropped used
    → CollectsSince marks k k6 cleared dropped used
unfolding place_of
collects_since {k} {k1} {k6} marks cleared dropped used g rest =
    let acts = sweeping_acts cleared dropped used in
    let first = goes_stepped g in
    let last = goes_stepped rest.opened in
    let did : Did (view k) (view k6) (Gate Shut ∷ acts ++ Gate Reopen ∷ []) = did_then (Gate Shut ∷ [])
    (acts ++ Gate Reopen ∷ []) first.did (did_then acts (Gate Reopen ∷ []) rest.swept last.did) in
    record {
      does = record {
        collects = record {
          did = did;
          place = place_of cleared dropped used g rest.swept rest.opened;
          whole = whole_before cleared dropped (shut_tables g) rest.whole;
        };
        marked = exactly_same marks (state_of k1) (state (k.seen ++ g.between)) (same_back (shut_tables g)) rest.marked;
      };
      begun = k1.seen;
      window = window_stay (Gate Shut) acts (Gate Reopen) first (λ out. first.behind) rest.swept last (λ out.
          stepped_last last);
    }

module _ {S : Type 0} (facts : S → Facts) {a b z : S} {marks : List Bool} {tells : List Handle → List ℕ → Type 0}
    {cleared_count dropped_count used : ℕ} (outside : (facts a).stands.role ≡ Outside)
    (shut : Took facts a b (Gate Shut ∷ []) anything (λ j k. IsClosedNow k × lets_go j k))
    (rest : Finishes facts b z marks tells cleared_count dropped_count used) where
  -- A COLLECTION WAS MADE
  pub makes : MakesListing facts a z marks tells cleared_count dropped_count used
  makes = (
    record {
      cleared = rest.cleared;
      dropped = rest.dropped;
      clears = rest.clears;
      drops = rest.drops;
      went = record {
        stands_is = rest.went.stands_is ∙ (ap (λ s. standing_after s (Gate Reopen ∷ [])) shut.stands_is
            ∙ ap (λ r. record ((facts a).stands) { role = r }) (sym outside));
        hint_is = rest.went.hint_is ∙ shut.hint_is;
        leads = λ k s m.
            let k1 = shut.goes k s tt in
            let k6 = rest.went.leads k1.0 k1.1 (k1.3.0, ap (λ (g : Holdings). g.moving) k1.3.1) in
            let since = collects_since marks rest.cleared rest.dropped used k1.2 k6.2 in
            (k6.0, k6.1, since.does, (k6.3, (since.begun, since.window), within_since k6.0 k1.2 (k6.2).taken));
      };
    },
    rest.told,
  )

-- whatever is told of it
pub made_plain : {S : Type 0} (facts : S → Facts) (a z : S) (marks : List Bool) (tells : List Handle → List ℕ → Type 0)
    (r : Result Collected Fault) → IfOk r (λ c. MakesListing facts a z marks tells c.cleared c.dropped c.used)
    → IfOk r (λ c. MakesCollection facts a z c.cleared c.dropped c.used)
made_plain facts a z marks tells (Ok c) made =
    let all = made.0 in
    record {
      cleared = all.cleared;
      dropped = all.dropped;
      clears = all.clears;
      drops = all.drops;
      went = record {
        stands_is = all.went.stands_is;
        hint_is = all.went.hint_is;
        leads = λ k s m. let y = all.went.leads k s m in (y.0, y.1, y.2.collects, y.3);
      };
    }
made_plain facts a z marks tells (Err e) made = tt
