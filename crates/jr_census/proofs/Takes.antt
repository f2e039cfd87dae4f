-- A census, from the shut of the gate to its reopening.
use Rattle.std.proofs.Common.{◌≡◌, ◌≤◌, ◌+◌, ◌*◌, ℕ, Bool, Option, List, [], ◌∷◌, ◌++◌, refl, sym}
use Rattle.std.proofs.Common.{ap, subst, ◌∙◌, append_assoc, arith, ◌<◌, Some, None, slice_index_or}
use Rattle.jr_word.specs.declared.config.Config.{Config}
use Rattle.jr_word.specs.declared.header.HeaderParts.{HeaderParts}
use Rattle.jr_word.specs.declared.local.LocalParts.{LocalParts}
use Rattle.jr_word.specs.declared.slot.SlotParts.TheVariants as slot
use Rattle.jr_word.specs.declared.slot.SlotParts.{SlotParts}
use Rattle.jr_model.specs.declared.event.Found.{Found}
use Rattle.jr_model.specs.declared.event.Role.TheVariants.{Outside, Collecting}
use Rattle.jr_model.specs.declared.event.Act.{Act}
use Rattle.jr_model.specs.declared.event.Act.TheVariants.{Gate}
use Rattle.jr_model.specs.declared.event.GateAct.TheVariants.{Shut, Reopen}
use Rattle.jr_model.specs.State.{Handle, Contents, State, HaveSameTables}
use Rattle.jr_model.specs.History.{History, by, state, Did}
use Rattle.jr_model.specs.Windows.{IsWindow}
use Rattle.jr_model.proofs.Stays.{did_then}
use Rattle.jr_model.proofs.Windows.{window_stay, stepped_last}
use Rattle.jr_steps.specs.Says.{SaysOfSlot}
use Rattle.jr_steps.specs.declared.known.Known.{Known}
use Rattle.jr_steps.specs.declared.known.Holdings.{Holdings}
use Rattle.jr_steps.specs.Knowing.{AreOf, Facts, Goes, Took, CanReopen, IsClosedNow, ShowsUsed}
use Rattle.jr_steps.specs.Knowing.{anything, lets_go, standing_after, state_of, view}
use Rattle.jr_steps.proofs.CollectorFacts.{tables_seen}
use Rattle.jr_steps.proofs.StepFacts.{goes_did, goes_stepped}
use Rattle.jr_compact.specs.Counting.{SawWithin, TakesWithin}
use Rattle.jr_weak.specs.Counting.{marking_steps}
use Rattle.jr_weak.specs.Marking.{IsMarkedNow}
use Rattle.jr_weak.specs.Marks.{IsExactly}
use Rattle.jr_weak.specs.Waiting.{ShutsActByAct, ShutsAnnounced}
use Rattle.jr_weak.proofs.AnnouncedCollects.{EndsWithin, ShutFor, act_by_act, does_announced}
use Rattle.jr_weak.proofs.Collects.{same_back, sees_did, shut_tables}
use Rattle.jr_census.specs.Dumps.{HasObjects, HasPlaces, HasPlacesOf, HasSlots, KeepsNumber}
use Rattle.jr_census.specs.declared.taking.Census.{Census}
use Rattle.jr_census.specs.declared.slots.Slots.{Slots}
use Rattle.jr_census.specs.declared.objects.Objects.{Objects as ObjectCounts}
use Rattle.jr_census.specs.declared.words.WordCounts.{WordCounts}
use Rattle.jr_census.specs.Counts.{AreLocals, AreObjects, AreSlots, HaveWords, unmarked}
use Rattle.jr_census.specs.Taking.{CountsOnce, IsCensusOf, IsDumpOf, IsTold, NotesOnce, ShutIn}
use Rattle.jr_census.specs.Taking.{TakesTold, TakesToldAnnounced, TellsOnce, ToldFrom, counting_steps, noting_steps}
use Rattle.jr_census.specs.Telling.{LoadsTell}
use Rattle.jr_census.proofs.SlotsCounted.{slots_on}
use Rattle.jr_census.proofs.Turns.{told_then}
use Rattle.jr_census.proofs.WordsCounted.{exactly_on, words_from, words_on}

-- the same is told of the same tables
pub census_on : (c : Config) (last : ℕ) (x : Census) {s t : State} → HaveSameTables s t → IsCensusOf c last t x
    → IsCensusOf c last s x
census_on c last x {s} {t} same told = record {
  slots = slots_on c.slots last x.slots (same_back same) told.slots;
  locals = subst (λ (f : ℕ → ℕ → Option ℕ). AreLocals c.locals f x.locals) same.locals told.locals;
  objects = subst (λ (f : ℕ → Option Contents). AreObjects c.objects f x.objects) same.objects told.objects;
  unreached = let u = told.unreached in (
    u.0,
    exactly_on u.0 (same_back same) u.1,
    subst (λ (f : ℕ → Option Contents). AreObjects c.objects (unmarked u.0 f) x.unreached) same.objects u.2,
  );
  words = words_on c x.words (same_back same) told.words;
}

-- where the gate was shut
shut_in : {k k1 : Known} (k6 : Known) (acts : List Act) → Goes k (Gate Shut ∷ []) k1 → Did (view k1) (view k6) acts
    → ShutIn (view k) (view k6)
shut_in {k} k6 acts g d = record {
  before = k.seen ++ g.between;
  rest = d.begins.0;
  from = (g.between, refl);
  parts = sym d.begins.1 ∙ (ap (λ l. l ++ d.begins.0) g.seen
      ∙ append_assoc (k.seen ++ g.between) (by k.thread (Gate Shut) ∷ []) d.begins.0);
}

-- WHAT IS KNOWN from the shut on
pub record ToldSince (most : Config → ℕ) (tells : Config → ℕ → State → Type 0) (k k' : Known) : Type 0 where
  pub told : IsTold (view k) (view k') tells
  pub begun : History
  pub window : IsWindow (view k) (view k') (Gate Shut ∷ Gate Reopen ∷ []) begun
  pub within : TakesWithin (most k.config + 2) k k'

within_all : (a b d e most : ℕ) → b ≡ a + 1 → d ≤ b + most → e ≡ d + 1 → e ≤ a + (most + 2)
within_all a b d e most first rest last = omega arith

-- what is told of tables is told of the same ones
abbrev pub IsOfTables : (Config → ℕ → State → Type 0) → Type 0
IsOfTables tells = (c : Config) (last : ℕ) (s t : State) → HaveSameTables s t → tells c last t → tells c last s

pub told_since : {k k1 k6 : Known} (most : Config → ℕ) (tells : Config → ℕ → State → Type 0) → IsOfTables tells
    → Goes k (Gate Shut ∷ []) k1 → ToldFrom most tells k1 k6 → ToldSince most tells k k6
unfolding shut_in
told_since {k} {k1} {k6} most tells on g rest =
    let first = goes_stepped g in
    let last = goes_stepped rest.opened in
    let swept = sees_did rest.seen.sees in
    let after' : Did (view k1) (view k6) (Gate Reopen ∷ []) = did_then [] (Gate Reopen ∷ []) swept last.did in
    let did : Did (view k) (view k6) (Gate Shut ∷ Gate Reopen ∷ []) =
    did_then (Gate Shut ∷ []) (Gate Reopen ∷ []) first.did after' in
    let some : (rest.opening).taken ≤ k1.taken + most k.config =
    subst (λ (c : Config). (rest.opening).taken ≤ k1.taken + most c) g.config rest.seen.within in
    record {
      told = record {
        did = did;
        shut = shut_in k6 (Gate Reopen ∷ []) g after';
        told = subst (λ (z : Config × ℕ). tells z.0 z.1 (state (k.seen ++ g.between))) (λ j. (g.config j, g.last j))
            (on k1.config k1.last (state (k.seen ++ g.between)) (state_of k1) (shut_tables g) rest.told);
      };
      begun = k1.seen;
      window =
          window_stay (Gate Shut) [] (Gate Reopen) first (λ out. first.behind) swept last (λ out. stepped_last last);
      within =
          within_all k.taken k1.taken (rest.opening).taken k6.taken (most k.config) g.taken some (rest.opened).taken;
    }

-- IT WAS TOLD, and the gate opened
pub tells_once : {S : Type 0} {facts : S → Facts} (fits : AreOf facts) {b f z : S} (most : Config → ℕ)
    (tells : Config → ℕ → State → Type 0) → IsOfTables tells → (facts b).stands.role ≡ Collecting
    → LoadsTell facts (λ j. most j.config) b f (λ k. tells k.config k.last (state_of k))
    → Took facts f z (Gate Reopen ∷ []) CanReopen lets_go → TellsOnce facts most tells b z
tells_once {facts = facts} fits {b} most tells on collecting told opened = record {
  stands_is = opened.stands_is ∙ ap (λ s. standing_after s (Gate Reopen ∷ [])) told.stands_is;
  hint_is = opened.hint_is ∙ told.hint_is;
  leads = λ k s can.
      let z = told.leads k s can in
      let o = opened.goes z.0 z.1 z.3.0 in
      let sees = (z.2).sees in
      let same = tables_seen sees ((fits b k s).role ∙ collecting) in (
        o.0,
        o.1,
        record {
          opening = z.0;
          seen = z.2;
          told = subst (λ (w : Config × ℕ). tells w.0 w.1 (state_of k)) (λ j. (sees.config j, sees.last j))
              (on (z.0).config (z.0).last (state_of k) (state_of z.0) same z.3.1);
          opened = o.2;
        },
        o.3,
      );
}

-- what is so once the objects are marked, once the slots are counted,
-- too, once the objects are, and once the local references are
abbrev pub Marked : List Bool → Known → Type 0
Marked marks k = IsExactly marks (state_of k)

abbrev pub WithSlots : List Bool → Slots → Known → Type 0
WithSlots marks slots k = Marked marks k × AreSlots k.config.slots k.last (state_of k) slots

abbrev pub WithObjects : List Bool → Slots → ObjectCounts → ObjectCounts → Known → Type 0
WithObjects marks slots x y k = WithSlots marks slots k × AreObjects k.config.objects (state_of k).objects x
    × AreObjects k.config.objects (unmarked marks (state_of k).objects) y

abbrev pub WithLocals : List Bool → Slots → ObjectCounts → ObjectCounts → List ℕ → Known → Type 0
WithLocals marks slots x y locals k =
    WithObjects marks slots x y k × AreLocals k.config.locals (state_of k).locals locals

pub marks_told : {S : Type 0} {facts : S → Facts} {b c : S} (marks : List Bool)
    → SawWithin facts (λ j. marking_steps j.config) b c CanReopen (λ j k. IsMarkedNow marks k)
    → LoadsTell facts (λ j. marking_steps j.config) b c (Marked marks)
marks_told marks marked = record {
  stands_is = marked.stands_is;
  hint_is = marked.hint_is;
  leads = λ k s can. let z = marked.leads k s can in (z.0, z.1, z.2, (z.3.1, z.3.0));
}

-- more loads, by the sizes of one room
more_loads : (f g : Config → ℕ) (k k' : Known) → k'.config ≡ k.config
    → f k.config + g k'.config ≤ f k.config + g k.config
more_loads f g k k' config = let same = ap g config in omega arith

module _ {S : Type 0} {facts : S → Facts} (fits : AreOf facts) (marks : List Bool) (slots : Slots) (x y : ObjectCounts)
    (locals : List ℕ) {b c d e f : S} (collecting : (facts b).stands.role ≡ Collecting)
    (marked : SawWithin facts (λ j. marking_steps j.config) b c CanReopen (λ j k. IsMarkedNow marks k))
    (slots_told : LoadsTell facts (λ j. j.config.slots) c d (λ k. AreSlots k.config.slots k.last (state_of k) slots))
    (objects_told : LoadsTell facts (λ j. j.config.objects) d e (λ k. AreObjects k.config.objects (state_of k).objects x
    × AreObjects k.config.objects (unmarked marks (state_of k).objects) y))
    (locals_told : LoadsTell facts (λ j. j.config.threads * j.config.locals) e f (λ k.
    AreLocals k.config.locals (state_of k).locals locals)) where
  with_slots : LoadsTell facts (λ j. marking_steps j.config + j.config.slots) b d (WithSlots marks slots)
  with_slots = told_then fits (λ j. marking_steps j.config + j.config.slots) collecting (marks_told marks marked)
      slots_told (λ k k' same config. more_loads marking_steps (λ c. c.slots) k k' config)
      (λ k k' s same config last was is. (exactly_on marks same was, is))

  with_objects : LoadsTell facts (λ j. marking_steps j.config + j.config.slots + j.config.objects) b e
      (WithObjects marks slots x y)
  with_objects = told_then fits (λ j. marking_steps j.config + j.config.slots + j.config.objects) collecting with_slots
      objects_told (λ k k' same config. more_loads (λ c. marking_steps c + c.slots) (λ c. c.objects) k k' config)
      (λ k k' s same config last was is. (
        (
          exactly_on marks same was.0,
          subst (λ (z : Config × ℕ). AreSlots (z.0).slots z.1 (state_of k') slots) (λ j. (sym config j, sym last j))
              (slots_on k.config.slots k.last slots same was.1),
        ),
        is.0,
        is.1,
      ))

  pub with_locals : LoadsTell facts
      (λ j. marking_steps j.config + (j.config.slots + j.config.objects + j.config.threads * j.config.locals)) b f
      (WithLocals marks slots x y locals)
  with_locals = told_then fits (λ j.
      marking_steps j.config + (j.config.slots + j.config.objects + j.config.threads * j.config.locals)) collecting
      with_objects locals_told (λ k k' same config. let z = more_loads (λ c. marking_steps c + c.slots + c.objects)
      (λ c. c.threads * c.locals) k k' config in omega (arith, z)) (λ k k' s same config last was is. (
        (
          (
            exactly_on marks same was.0.0,
            subst (λ (z : Config × ℕ). AreSlots (z.0).slots z.1 (state_of k') slots) (λ j. (sym config j, sym last j))
                (slots_on k.config.slots k.last slots same was.0.1),
          ),
          subst (λ (z : Config × (ℕ → Option Contents)). AreObjects (z.0).objects z.1 x)
              (λ j. (sym config j, sym same.objects j)) was.1,
          subst (λ (z : Config × (ℕ → Option Contents)). AreObjects (z.0).objects (unmarked marks z.1) y)
              (λ j. (sym config j, sym same.objects j)) was.2,
        ),
        is,
      ))

  -- all counts are of one state
  pub all_told : {v : S} (words : WordCounts)
      → LoadsTell facts (λ j. 1) f v (λ k. HaveWords x.words y.words words × ShowsUsed words.used k)
      → LoadsTell facts (λ j. counting_steps j.config) b v (λ k. IsCensusOf k.config k.last (state_of k)
      (record { slots = slots; locals = locals; objects = x; unreached = y; words = words }))
  all_told words top_told = told_then fits (λ j. counting_steps j.config) collecting with_locals top_told
      (λ k k' same config. omega arith) (λ k k' s same config last was is.
      let exactly = exactly_on marks same was.0.0.0 in
      let present = subst (λ (z : Config × (ℕ → Option Contents)). AreObjects (z.0).objects z.1 x)
      (λ j. (sym config j, sym same.objects j)) was.0.1 in
      let unreached = subst (λ (z : Config × (ℕ → Option Contents)). AreObjects (z.0).objects (unmarked marks z.1) y)
      (λ j. (sym config j, sym same.objects j)) was.0.2 in
      record {
        slots = subst (λ (z : Config × ℕ). AreSlots (z.0).slots z.1 (state_of k') slots)
            (λ j. (sym config j, sym last j)) (slots_on k.config.slots k.last slots same was.0.0.1);
        locals = subst (λ (z : Config × (ℕ → ℕ → Option ℕ)). AreLocals (z.0).locals z.1 locals)
            (λ j. (sym config j, sym same.locals j)) was.1;
        objects = present;
        unreached = (marks, exactly, unreached);
        words = words_from k'.config (state_of k') marks x y words exactly present unreached is.0 (sym is.1);
      })

  -- THE STATE WAS COUNTED, and the gate opened
  pub counts : {v z : S} (words : WordCounts)
      → LoadsTell facts (λ j. 1) f v (λ k. HaveWords x.words y.words words × ShowsUsed words.used k)
      → Took facts v z (Gate Reopen ∷ []) CanReopen lets_go
      → CountsOnce facts b z (record { slots = slots; locals = locals; objects = x; unreached = y; words = words })
  counts words top_told opened =
      let census : Census = record { slots = slots; locals = locals; objects = x; unreached = y; words = words } in
      tells_once fits counting_steps (λ c last s. IsCensusOf c last s census)
      (λ c last s t same told. census_on c last census same told) collecting (all_told words top_told) opened

module _ {S : Type 0} (facts : S → Facts) {a b z : S} (most : Config → ℕ) (tells : Config → ℕ → State → Type 0)
    (on : IsOfTables tells) (outside : (facts a).stands.role ≡ Outside)
    (shut : Took facts a b (Gate Shut ∷ []) anything (λ j k. IsClosedNow k × lets_go j k))
    (rest : TellsOnce facts most tells b z) where
  -- IT WAS TOLD BY A CALL
  pub takes : TakesTold facts most tells a z
  takes = record {
    stands_is = rest.stands_is ∙ (ap (λ s. standing_after s (Gate Reopen ∷ [])) shut.stands_is
        ∙ ap (λ r. record ((facts a).stands) { role = r }) (sym outside));
    hint_is = rest.hint_is ∙ shut.hint_is;
    leads = λ k s m.
        let k1 = shut.goes k s tt in
        let k6 = rest.leads k1.0 k1.1 (k1.3.0, ap (λ (g : Holdings). g.moving) k1.3.1) in
        let since = told_since most tells on k1.2 k6.2 in
        (k6.0, k6.1, since.told, (k6.3, (since.begun, since.window), since.within));
  }

-- IT WAS TOLD BY AN ANNOUNCED CALL
told_for : (most : Config → ℕ) (tells : Config → ℕ → State → Type 0) → IsOfTables tells
    → (k k1 k' : Known) → Goes k (Gate Shut ∷ []) k1 → ToldFrom most tells k1 k'
    → ShutFor [] (most k.config + 2) (λ p q. IsTold p q tells) k k1 k'
told_for most tells on k k1 k' g rest =
    let since = told_since most tells on g rest in
    record {
      opening = rest.opening;
      swept = sees_did rest.seen.sees;
      opened = rest.opened;
      did = since.told.did;
      done = since.told;
      within = since.within;
    }

pub takes_announced : {S : Type 0} (facts : S → Facts) {a d z : S} {tries : ℕ} (most : Config → ℕ)
    (tells : Config → ℕ → State → Type 0) → IsOfTables tells → (facts a).stands.role ≡ Outside
    → ShutsAnnounced facts a d tries → TellsOnce facts most tells d z → TakesToldAnnounced facts most tells tries a z
takes_announced facts most tells on outside sh rest = record {
  refused = sh.after.refused;
  few = sh.after.few;
  done = does_announced facts [] (λ c. most c + 2) (λ p q. IsTold p q tells) (λ j k. ToldFrom most tells j k) outside tt
      tt (told_for most tells on) sh rest;
}

-- up to the shut each operation is an act, and then come the loads and one that opens the gate
one_more : (j k l most : ℕ) → k ≤ j + most → l ≡ k + 1 → l ≤ j + (most + 1)
one_more j k l most a b = omega arith

told_ends : (most : Config → ℕ) (tells : Config → ℕ → State → Type 0) (j k : Known) → ToldFrom most tells j k
    → EndsWithin (λ c. most c + 1) j k
told_ends most tells j k rest = (
  ([], did_then [] (Gate Reopen ∷ []) (sees_did rest.seen.sees) (goes_did rest.opened)),
  one_more j.taken (rest.opening).taken k.taken (most j.config) rest.seen.within (rest.opened).taken,
)

pub takes_act_by_act : {S : Type 0} (facts : S → Facts) {a d z : S} {tries : ℕ} (most : Config → ℕ)
    (tells : Config → ℕ → State → Type 0) → ShutsAnnounced facts a d tries → TellsOnce facts most tells d z
    → ShutsActByAct facts a z tries (λ c. most c + 1)
takes_act_by_act facts most tells sh rest =
    act_by_act facts (λ c. most c + 1) (λ j k. ToldFrom most tells j k) (told_ends most tells) sh rest

-- what is kept of tables is kept of the same ones
pub dump_on : (noted : List SlotParts) (locals : List LocalParts) (headers : List (Option HeaderParts)) (words : List ℕ)
    → IsOfTables (λ c last s. IsDumpOf c last s noted locals headers words)
dump_on noted locals headers words c last s t same told = record {
  slots = λ i l. subst (λ (z : (Handle → Found) × (Handle → Bool)). SaysOfSlot last z.0 z.1 i
      (slice_index_or noted i (slot.Free 0))) (λ j. (same.refs j, same.given j)) (told.slots i l);
  locals = λ t l.
      subst (λ (f : ℕ → ℕ → Option ℕ). HasPlacesOf (t * c.locals) c.locals (f t) locals) same.locals (told.locals t l);
  objects = λ j l. number_on (j + 1) (slice_index_or headers j None) (told.objects j l);
}
  where
    number_on : (o : ℕ) (h : Option HeaderParts) → KeepsNumber t o h words → KeepsNumber s o h words
    number_on o None k = ap (λ (f : ℕ → Option Contents). f o) (sym same.objects) ∙ k
    number_on o (Some h) k = (k.0, ap (λ (f : ℕ → Option Contents). f o) (sym same.objects) ∙ k.1, k.2)

-- what is so once the slots are kept, and once the local places are, too
abbrev pub SlotsNoted : List SlotParts → Known → Type 0
SlotsNoted noted k = HasSlots k.config.slots k.last (state_of k) noted

abbrev pub PlacesNoted : List LocalParts → Known → Type 0
PlacesNoted locals k = HasPlaces k.config.threads k.config.locals (state_of k) locals

-- the slots are kept still
slots_noted : (noted : List SlotParts) (k k' : Known) → HaveSameTables (state_of k) (state_of k') → k'.config ≡ k.config
    → k'.last ≡ k.last → SlotsNoted noted k → SlotsNoted noted k'
slots_noted noted k k' same config last was = subst (λ (z : Config × ℕ × (Handle → Found) × (Handle → Bool)). (i : ℕ)
    → i < (z.0).slots → SaysOfSlot z.1 z.2 z.3 i (slice_index_or noted i (slot.Free 0)))
    (λ j. (sym config j, sym last j, sym same.refs j, sym same.given j)) was

-- and so are the local places
places_noted : (locals : List LocalParts) (k k' : Known) → HaveSameTables (state_of k) (state_of k')
    → k'.config ≡ k.config → PlacesNoted locals k → PlacesNoted locals k'
places_noted locals k k' same config was = subst (λ (z : Config × (ℕ → ℕ → Option ℕ)). (t : ℕ) → t < (z.0).threads
    → HasPlacesOf (t * (z.0).locals) (z.0).locals (z.1 t) locals) (λ j. (sym config j, sym same.locals j)) was

module _ {S : Type 0} {facts : S → Facts} (fits : AreOf facts) where
  -- THE STATE WAS NOTED, and the gate opened
  pub notes : {b c d e z : S} (noted : List SlotParts) (locals : List LocalParts) (headers : List (Option HeaderParts))
      (words : List ℕ) → (facts b).stands.role ≡ Collecting
      → LoadsTell facts (λ j. j.config.slots) b c (SlotsNoted noted)
      → LoadsTell facts (λ j. j.config.threads * j.config.locals) c d (PlacesNoted locals)
      → LoadsTell facts (λ j. j.config.objects + j.config.words) d e
      (λ k. HasObjects k.config.objects (state_of k) headers words)
      → Took facts e z (Gate Reopen ∷ []) CanReopen lets_go → NotesOnce facts b z noted locals headers words
  notes {b} {d = d} noted locals headers words collecting slots places objects opened = tells_once fits noting_steps
      (λ c last s. IsDumpOf c last s noted locals headers words) (dump_on noted locals headers words) collecting
      (told_then fits (λ j. noting_steps j.config) collecting references objects (λ k k' same config.
      more_loads (λ c. c.slots + c.threads * c.locals) (λ c. c.objects + c.words) k k' config)
      (λ k k' s same config last was is. record {
        slots = slots_noted noted k k' same config last was.0;
        locals = places_noted locals k k' same config was.1;
        objects = is;
      })) opened
    where
      references : LoadsTell facts (λ j. j.config.slots + j.config.threads * j.config.locals) b d (λ k.
          SlotsNoted noted k × PlacesNoted locals k)
      references = told_then fits (λ j. j.config.slots + j.config.threads * j.config.locals) collecting slots places
          (λ k k' same config. more_loads (λ c. c.slots) (λ c. c.threads * c.locals) k k' config)
          (λ k k' s same config last was is. (slots_noted noted k k' same config last was, is))
