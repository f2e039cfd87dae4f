-- Space is reserved and filled for a new array or string, which is then published and referred to.
use Rattle.std.proofs.Common.{◌≡◌, ◌≢◌, ◌<◌, ◌≤◌, ◌+◌, ◌-◌, ◌^◌, ℕ, zero, suc, Bool, true}
use Rattle.std.proofs.Common.{List, [], ◌∷◌, ◌++◌, Option, Some, None, Result, Ok, Err}
use Rattle.std.proofs.Common.{length, replicate, inl, inr, refl, sym, ap, subst, ◌∙◌, arith}
use Rattle.std.proofs.lemmas.List.{length-replicate}
use Rattle.std.specs.List.{AllByRecursion}
use Rattle.std.specs.Result.{IsErrAnd}
use mathlib.Core.Logic.{∥∥₁_map}
use Rattle.jr_word.specs.declared.kind.Kind.{Kind}
use Rattle.jr_word.specs.Kind.{word_limit}
use Rattle.jr_word.specs.declared.kind.Kind.TheVariants.{Plain, Boolean, Byte, Char, Short, Int, Long, Objects, Text}
use Rattle.jr_word.specs.declared.fault.Fault.{Fault}
use Rattle.jr_word.specs.declared.fault.Fault.TheVariants.{LocalsFull, SpaceFull, Raced}
use Rattle.jr_model.specs.declared.event.Role.TheVariants.{Within}
use Rattle.jr_model.specs.declared.event.Act.{Act}
use Rattle.jr_model.specs.declared.event.Act.TheVariants.{Gate, Reserve, ReserveFull, ReserveLost}
use Rattle.jr_model.specs.declared.event.GateAct.TheVariants.{Leave}
use Rattle.jr_model.specs.State.{Handle, AreWords}
use Rattle.jr_model.specs.History.{History, Did}
use Rattle.jr_model.specs.Windows.{IsWindow}
use Rattle.jr_model.specs.Frames.{Frames, free_places}
use Rattle.jr_model.specs.Calls.{Call, Ran, ◌>>=◌}
use Rattle.jr_model.specs.Parts.{publish, reserve}
use Rattle.jr_model.specs.Checks.{element_word}
use Rattle.jr_model.specs.References.{added, made}
use Rattle.jr_model.proofs.Agreement.{spares_places}
use Rattle.jr_model.proofs.Stays.{role_did}
use Rattle.jr_model.proofs.Runs.{ran_then, ran_err, ran_behind}
use Rattle.jr_steps.specs.declared.known.Known.{Known}
use Rattle.jr_steps.specs.Knowing.{AreOf, Facts, Standing, view, state_of, anything, keeps}
use Rattle.jr_steps.specs.Knowing.{HasOptional, Holds, MayKnow, IsWordNow, fresh_after, fresh_from}
use Rattle.jr_frames.specs.Table.{Table, IsNext}
use Rattle.jr_frames.specs.Ready.{StandsReady}
use Rattle.jr_frames.specs.OverSteps.{Calls, FoundPresent, Resolves}
use Rattle.jr_frames.proofs.RoomFor.{room_at}
use Rattle.jr_gate.specs.Performing.{ThreadState, Performed, hint_after, hint_from, thread_state}
use Rattle.jr_gate.proofs.HandedOn.{handed_on}
use Rattle.jr_gate.proofs.SameRoom.{as_before, but_fresh, still_before}
use Rattle.jr_gate.proofs.Spending.{Spending, made_of, spending, spend_acts, spend_last, spend_more, spend_then}
use Rattle.jr_frames.proofs.FramesAgree.{holds_did}
use Rattle.jr_heap.specs.Heap.{Called, by_steps, reserve_steps, refused_steps, Gains}
use Rattle.jr_heap.specs.Heap.{Fills, FillsWith, IsOwn, IsReady, no_act, own_words}
use Rattle.jr_heap.proofs.Reserving.{own_range}
use Rattle.jr_heap.proofs.StayFacts.{word_later}
use Rattle.jr_heap.proofs.Filling.{among}
use Rattle.jr_env.specs.Requests.{making_steps}
use Rattle.jr_env.specs.Works.{LearnsMade, MakesArray, Refers, object_made}
use Rattle.jr_env.proofs.NewObject.{roomy, makes_nothing}

-- a kind of which zero is a word is of objects that have elements
pub has_elements : (kind : Kind) → 0 < word_limit kind → kind ≢ Plain
has_elements kind low e = let none : 0 < 0 = subst (λ (k : Kind). 0 < word_limit k) e low in absurd (omega arith)

-- the acts of a reservation of so many steps:
-- at most one step has none, and none stores a local word, makes a reference or leaves
record AreReservations (steps : ℕ) (acts : List Act) : Type 0 where
  pub few : length acts ≤ steps
  pub most : steps ≤ length acts + 1
  pub fresh : (b : Bool) → fresh_from b acts ≡ b
  pub hint : (slots i : ℕ) → hint_from slots i acts ≡ i
  pub spares : AllByRecursion (λ a. spares_places a ≡ true) acts
  pub stays : AllByRecursion (λ a. a ≢ Gate Leave) acts

reservations_none : AreReservations 0 []
reservations_none = record {
  few = let e : 0 ≤ 0 = omega arith in e;
  most = let e : 0 ≤ 1 = omega arith in e;
  fresh = λ b. refl;
  hint = λ slots i. refl;
  spares = tt;
  stays = tt;
}

reservations_one : (steps : ℕ) (a : Act) → 1 ≤ steps → steps ≤ 1 + 1 → ((b : Bool) → fresh_after b a ≡ b)
    → ((slots i : ℕ) → hint_after slots i a ≡ i) → spares_places a ≡ true → a ≢ Gate Leave
    → AreReservations steps (a ∷ [])
reservations_one steps a few most fresh hint spares stays =
    record { few = few; most = most; fresh = fresh; hint = hint; spares = (spares, tt); stays = (stays, tt) }

reservations_won : (n : ℕ) → AreReservations 2 (Reserve n ∷ [])
reservations_won n = reservations_one 2 (Reserve n) (omega arith) (omega arith) (λ b. refl) (λ slots i. refl) refl
    (λ e. cc)

reservations_full : (n u : ℕ) → AreReservations 1 (ReserveFull n u ∷ [])
reservations_full n u =
    reservations_one 1 (ReserveFull n u) (omega arith) (omega arith) (λ b. refl) (λ slots i. refl) refl (λ e. cc)

reservations_lost : (n l u : ℕ) → AreReservations 2 (ReserveLost n l u ∷ [])
reservations_lost n l u =
    reservations_one 2 (ReserveLost n l u) (omega arith) (omega arith) (λ b. refl) (λ slots i. refl) refl (λ e. cc)

reserved_acts : (n : ℕ) (f : Frames) (acts : List Act) → reserve n f acts (Ok tt) f
    → AreReservations (reserve_steps n) acts
reserved_acts zero f acts r = subst (AreReservations 0) (sym r.0) reservations_none
reserved_acts (suc n) f acts (inl r) = subst (AreReservations 2) (sym r.0) (reservations_won (suc n))
reserved_acts (suc n) f acts (inr (inl (inl r))) = absurd (let bad = r.6.1 in cc)
reserved_acts (suc n) f acts (inr (inl (inr r))) = absurd (let bad = r.1 in cc)
reserved_acts (suc n) f acts (inr (inr (inl r))) = absurd (let bad = r.6.1 in cc)
reserved_acts (suc n) f acts (inr (inr (inr r))) = absurd (let bad = r.1 in cc)

refused_acts : (n : ℕ) (e : Fault) (f : Frames) (acts : List Act) → reserve n f acts (Err e) f
    → AreReservations (refused_steps e) acts
refused_acts zero e f acts r = absurd (let bad = r.1 in cc)
refused_acts (suc n) e f acts (inl r) = absurd (let bad = r.1 in cc)
refused_acts (suc n) e f acts (inr (inl (inl r))) =
    let first : acts ≡ ReserveFull (suc n) r.5.0 ∷ [] =
    r.4 ∙ (ap (λ xs. xs ++ r.3) r.5.1 ∙ ap (λ xs. ReserveFull (suc n) r.5.0 ∷ xs) r.6.0) in
    let why : SpaceFull r.0 ≡ e = (let same = r.6.1 in cc) in
    subst (AreReservations (refused_steps e)) (sym first) (subst
    (λ z. AreReservations (refused_steps z) (ReserveFull (suc n) r.5.0 ∷ [])) why (reservations_full (suc n) r.5.0))
refused_acts (suc n) e f acts (inr (inl (inr r))) = absurd (let bad = r.2.2 in cc)
refused_acts (suc n) e f acts (inr (inr (inl r))) =
    let first : acts ≡ ReserveLost (suc n) r.5.0.0 r.5.0.1 ∷ [] =
    r.4 ∙ (ap (λ xs. xs ++ r.3) r.5.1 ∙ ap (λ xs. ReserveLost (suc n) r.5.0.0 r.5.0.1 ∷ xs) r.6.0) in
    let why : Raced r.0.0 r.0.1 ≡ e = (let same = r.6.1 in cc) in
    subst (AreReservations (refused_steps e)) (sym first) (subst (λ z. AreReservations (refused_steps z)
    (ReserveLost (suc n) r.5.0.0 r.5.0.1 ∷ [])) why (reservations_lost (suc n) r.5.0.0 r.5.0.1))
refused_acts (suc n) e f acts (inr (inr (inr r))) = absurd (let bad = r.2.2 in cc)

gained_own : (n place : ℕ) (j k : Known) → Gains n place j k → IsOwn place n k
gained_own zero place j k g = refl
gained_own (suc n) place j k g = own_range place (suc n) j k g.0 g.1 g.2

-- 0 is a word of each kind of array
pub zero_word : (kind : Kind) (k : Known) → kind ≢ Plain → IsWordNow kind 0 k
zero_word Plain k ne = absurd (ne refl)
zero_word Boolean k ne = let e : 0 < 2 = omega arith in e
zero_word Byte k ne = let e : 0 < 2 ^ 8 = omega arith in e
zero_word Char k ne = let e : 0 < 2 ^ 16 = omega arith in e
zero_word Short k ne = let e : 0 < 2 ^ 16 = omega arith in e
zero_word Int k ne = let e : 0 < 2 ^ 32 = omega arith in e
zero_word Long k ne = let e : 0 < 2 ^ 64 = omega arith in e
zero_word Objects k ne = inl refl
zero_word Text k ne = let e : 0 < 2 ^ 16 = omega arith in e

-- an array all of whose elements are one word
pub all_words : (kind : Kind) (n v : ℕ) (k : Known) → IsWordNow kind v k → AreWords (state_of k) kind (replicate n v)
all_words kind n v k w i u there = subst (λ z. IsWordNow kind z k) (sym (among n v i u there)) w

-- so much is taken at the most, and so no more than this
spend_up : {p q : ThreadState} (m n : ℕ) → m ≤ n → Spending m p q → Spending n p q
spend_up m n l s =
    let few = s.spent.most in
    record {
      acts = s.acts;
      did = s.did;
      spent = record {
        without = s.spent.without;
        most = omega arith;
        taken = s.spent.taken;
        fresh = s.spent.fresh;
        hint = s.spent.hint;
      };
    }

-- words were reserved and filled
record IsReadied {S : Type 0} (facts : S → Facts) (a c : S) (kind : Kind) (place : ℕ) (ws : List ℕ) (f : Frames)
    (k : Known) : Type 0 where
  pub mid : Known
  pub now : Known
  pub known : (facts c).knows now
  pub ran : Ran (view k) (view mid) f f (reserve (length ws)) (Ok tt)
  pub quiet : Did (view mid) (view now) []
  pub begun : History
  pub window : IsWindow (view mid) (view now) [] begun
  pub spends : Spending (1 + length ws) (thread_state (facts a) k f) (thread_state (facts c) now f)
  pub holds : Holds f k → Holds f now
  pub ready : AreWords (state_of k) kind ws → IsReady kind place (length ws) now
  pub has : own_words place (length ws) now ≡ ws

module _ {S : Type 0} {facts : S → Facts} {a b c : S} {place : ℕ} {ws : List ℕ} (fits : AreOf facts)
    (within : (facts a).stands.role ≡ Within) (kind : Kind) (sb : (facts b).stands ≡ (facts a).stands)
    (sc : (facts c).stands ≡ (facts b).stands)
    (won : Called facts a b anything (λ j k. reserve (length ws)) (Ok tt)
    (by_steps (reserve_steps (length ws)) (Gains (length ws) place)))
    (filled : Called facts b c (IsOwn place (length ws)) (λ j k. no_act) (Ok tt)
    (by_steps (length ws) (FillsWith place ws))) where
  readied : (f : Frames) (k : Known) → (facts a).knows k → IsReadied facts a c kind place ws f k
  readied f k s =
      let x = won.ran k s tt in
      let r = x.2 f in
      let acts = reserved_acts (length ws) f r.acts r.is in
      let y = filled.ran x.0 x.1 (gained_own (length ws) place k x.0 x.3.0) in
      let q = y.2 f in
      let quiet : Did (view x.0) (view y.0) [] = subst (Did (view x.0) (view y.0)) q.is.0 q.did in
      let long : length (own_words place (length ws) y.0) ≡ length ws = ap (λ us. length us) y.3.0.words in
      let few = acts.few in
      let most = acts.most in
      let first = x.3.1 in
      let second = y.3.1 in
      let role = (fits a k s).role ∙ within in
      let later = role_did r.acts r.did in record {
        mid = x.0;
        now = y.0;
        known = y.1;
        ran = r;
        quiet = quiet;
        begun = q.begun;
        window = subst (λ xs. IsWindow (view x.0) (view y.0) xs q.begun) q.is.0 q.window;
        spends = let t1 : Spending (reserve_steps (length ws) - length r.acts) (thread_state (facts a) k f)
            (thread_state (facts b) x.0 f) = spend_acts f f (reserve_steps (length ws) - length r.acts) r.acts
            (reserve_steps (length ws) - length r.acts) (omega arith) r.did (omega arith)
            (ap (λ (z : Standing). z.fresh) sb ∙ sym (acts.fresh (facts a).stands.fresh)) (won.hint_is
            ∙ sym (acts.hint k.config.slots (facts a).hint)) in
            let t2 : Spending (length ws) (thread_state (facts b) x.0 f) (thread_state (facts c) y.0 f) =
            spend_acts f f (length ws) [] (length ws) (omega arith) quiet (omega arith)
            (ap (λ (z : Standing). z.fresh) sc) filled.hint_is in
            spend_up ((reserve_steps (length ws) - length r.acts) + length ws) (1 + length ws) (omega arith)
            (spend_then t1 t2);
        holds = λ m. holds_did x.0 y.0 f [] quiet tt (holds_did k x.0 f r.acts r.did acts.spares m);
        ready = λ m. record {
          long = long;
          words = subst (AreWords (state_of y.0) kind) (sym y.3.0.words) (λ i v there.
              word_later x.0 y.0 [] quiet ((fits b x.0 x.1).role ∙ (ap (λ (z : Standing). z.role) sb ∙ within)) tt kind
              v (word_later k x.0 r.acts r.did role acts.stays kind v (m i v there)));
        };
        has = y.3.0.words;
      }

  pub may_refer : MayKnow facts a (λ k. AreWords (state_of k) kind ws)
      → MayKnow facts c (IsReady kind place (length ws))
  may_refer may =
      ∥∥₁_map may (λ k. let x = readied (record { frames = []; given = [] }) k.0 k.1 in (x.now, x.known, x.ready k.2))

  may_agree : (f : Frames) → MayKnow facts a (Holds f) → MayKnow facts c (Holds f)
  may_agree f may = ∥∥₁_map may (λ k. let x = readied f k.0 k.1 in (x.now, x.known, x.holds k.2))

  pub still_ready : {t : Table} → StandsReady facts Within a t → StandsReady facts Within c t
  still_ready {t} r =
      let same = sc ∙ sb in
      record {
        role_is = ap (λ (z : Standing). z.role) same ∙ r.role_is;
        spent = ap (λ (z : Standing). z.fresh) same ∙ r.spent;
        own = record {
          owner = r.own.owner ∙ sym (ap (λ (z : Standing). z.thread) same);
          last = r.own.last ∙ sym (ap (λ (z : Standing). z.last) same);
          places = r.own.places ∙ sym (ap (λ (z : Standing). z.config.locals) same);
          agrees = may_agree t.frames r.own.agrees;
        };
      }

  pub makes_array : {d : S} {t : Table} {g : Frames} {h : Handle} {answer : Result Handle Fault}
      → StandsReady facts Within a t → IsNext t h → Refers facts c d t.frames g kind place (length ws) ws answer
      → MakesArray facts a d t.frames g kind ws (λ k. AreWords (state_of k) kind ws) answer
  makes_array {d} {t} {g} {h} {answer} r next u =
      let z = (facts a).stands in
      let same = sc ∙ sb in
      let q = subst (λ (y : Standing). Performed facts c d t.frames g y.config.objects
      (λ k. Holds t.frames k × IsReady kind place (length ws) k × (own_words place (length ws) k ≡ ws))
      (λ s. publish kind ws >>= added y.config y.last y.thread) answer
      (λ j k. LearnsMade kind place (length ws) (object_made g answer) j k × Holds g k)) same u in
      record {
        stands_is = still_before (as_before _ same) q.stands_is;
        ran = λ k s m.
            let x = readied t.frames k s in
            let y = q.ran x.now x.known (x.holds m.0, x.ready m.1, x.has) in (
              y.0,
              y.1,
              made_of (spend_up ((1 + length ws) + z.config.objects) (making_steps (length ws) z.config) (omega arith)
                  (spend_then x.spends (spending y.2)))
                  (roomy z.config z.last z.thread t.frames kind ws (room_at h r next) (ran_then {next = λ e.
                  publish kind ws >>= added z.config z.last z.thread} tt x.ran (ran_behind x.quiet x.window y.2.ran))),
              (tt, y.3.1),
            );
      }

module _ {S : Type 0} {facts : S → Facts} where
  -- the words don't fit, or another thread was faster
  pub makes_no_array : {a b : S} {t : Table} {h : Handle} {e : Fault} (kind : Kind) (ws : List ℕ)
      (answer : Result Handle Fault) → IsErrAnd answer (λ y. y ≡ e) → StandsReady facts Within a t → IsNext t h
      → (facts b).stands ≡ (facts a).stands
      → Called facts a b anything (λ j k. reserve (length ws)) (Err e) (by_steps (refused_steps e) keeps)
      → MakesArray facts a b t.frames t.frames kind ws (λ k. AreWords (state_of k) kind ws) answer
  makes_no_array {a} {b} {t} {h} {e} kind ws answer given r next same lost =
      let z = (facts a).stands in
      handed_on answer given (record {
        stands_is = as_before _ same;
        ran = λ k s m.
            let x = lost.ran k s tt in
            let y = x.2 t.frames in
            let acts = refused_acts (length ws) e t.frames y.acts y.is in
            let few = acts.few in
            let most = acts.most in
            let takes = x.3.1 in (
              x.0,
              x.1,
              made_of (spend_acts t.frames t.frames (making_steps (length ws) z.config) y.acts
                  (refused_steps e - length y.acts) (omega arith) y.did (omega arith)
                  (ap (λ (u : Standing). u.fresh) same ∙ sym (acts.fresh z.fresh)) (lost.hint_is
                  ∙ sym (acts.hint k.config.slots (facts a).hint)))
                  (roomy z.config z.last z.thread t.frames kind ws (room_at h r next)
                  (ran_err (λ e. publish kind ws >>= added z.config z.last z.thread) e y)),
              (tt, holds_did k x.0 t.frames y.acts y.did acts.spares m.0),
            );
      })

  -- no place is free
  pub makes_no_reference : {a : S} {t : Table} (fits : AreOf facts) (kind : Kind) (ws : List ℕ) (met : Known → Type 0)
      → StandsReady facts Within a t → free_places t.last t.frames ≡ 0
      → MakesArray facts a a t.frames t.frames kind ws met (Err LocalsFull)
  makes_no_reference {a} {t} fits kind ws met r none =
      let p = makes_nothing fits (making_steps (length ws) (facts a).stands.config) (λ j k. Unit {0}) (λ j k e. tt) kind
      ws r none in
      record { stands_is = p.stands_is; ran = λ k s m. p.ran k s m.0 }

  -- of what may be met before
  pub makes_met : {a b : S} {f g : Frames} {kind : Kind} {ws : List ℕ} {answer : Result Handle Fault}
      (met met' : Known → Type 0) → ((k : Known) → met' k → met k) → MakesArray facts a b f g kind ws met answer
      → MakesArray facts a b f g kind ws met' answer
  makes_met met met' weaker p = record { stands_is = p.stands_is; ran = λ k s m. p.ran k s (m.0, weaker k m.1) }

module _ {S : Type 0} (facts : S → Facts) (a b : S) {n : ℕ} (ws : List ℕ) (long : length ws ≡ n) where
  -- reservations of as many words as there are
  pub won_long : (place size : ℕ)
      → (size ≡ n) × Called facts a b anything (λ j k. reserve n) (Ok tt) (by_steps (reserve_steps n) (Gains n place))
      → Called facts a b anything (λ j k. reserve (length ws)) (Ok tt) (by_steps (reserve_steps (length ws))
      (Gains (length ws) place))
  won_long place size r =
      subst (λ m. Called facts a b anything (λ j k. reserve m) (Ok tt) (by_steps (reserve_steps m) (Gains m place)))
      (sym long) r.1

  pub lost_long : (e : Fault) → Called facts a b anything (λ j k. reserve n) (Err e) (by_steps (refused_steps e) keeps)
      → Called facts a b anything (λ j k. reserve (length ws)) (Err e) (by_steps (refused_steps e) keeps)
  lost_long e r =
      subst (λ m. Called facts a b anything (λ j k. reserve m) (Err e) (by_steps (refused_steps e) keeps)) (sym long) r

  -- and their ranges filled
  pub filled_long : (place size : ℕ) → size ≡ n
      → Called facts a b (IsOwn place size) (λ j k. no_act) (Ok tt) (by_steps size (FillsWith place ws))
      → Called facts a b (IsOwn place (length ws)) (λ j k. no_act) (Ok tt) (by_steps (length ws) (FillsWith place ws))
  filled_long place size is r =
      subst (λ m. Called facts a b (IsOwn place m) (λ j k. no_act) (Ok tt) (by_steps m (FillsWith place ws)))
      (is ∙ sym long) r

-- the same with one word
pub filled_each : {S : Type 0} (facts : S → Facts) (a b : S) (n v place size : ℕ) → size ≡ n
    → Called facts a b (IsOwn place size) (λ j k. no_act) (Ok tt) (by_steps size (Fills place size v))
    → Called facts a b (IsOwn place (length (replicate n v))) (λ j k. no_act) (Ok tt) (by_steps (length (replicate n v))
    (FillsWith place (replicate n v)))
filled_each facts a b n v place size is r = filled_long facts a b (replicate n v) (length-replicate n v) place n refl
    (subst (λ m. Called facts a b (IsOwn place m) (λ j k. no_act) (Ok tt) (by_steps m (Fills place m v))) is r)

module _ {S : Type 0} {facts : S → Facts} {a b : S} {f g : Frames} {kind : Kind} {ws : List ℕ}
    {answer : Result Handle Fault} (n : ℕ) (long : length ws ≡ n) (met : Known → Type 0) where
  -- as a whole work, where what has to be met always is
  pub works_array : ((k : Known) → met k) → MakesArray facts a b f g kind ws met answer
      → Performed facts a b f g (making_steps n (facts a).stands.config) (Holds f) (λ s. made (facts a).stands.config
      (facts a).stands.last (facts a).stands.thread kind ws) answer (λ j k. Unit {0} × Holds g k)
  works_array always p = subst (λ m. Performed facts a b f g (making_steps m (facts a).stands.config) (Holds f)
      (λ s. made (facts a).stands.config (facts a).stands.last (facts a).stands.thread kind ws) answer
      (λ j k. Unit {0} × Holds g k)) long
      (record { stands_is = p.stands_is; ran = λ k s m. p.ran k s (m, always k) })

-- the word of what was found is an element of an object array
named_word : (z : Option ℕ) (k : Known) → HasOptional z k → IsWordNow Objects (element_word z) k
named_word None k p = inl refl
named_word (Some o) k p = inr p

found_word : (z : Option ℕ) (k : Known) → FoundPresent (Ok z) k → IsWordNow Objects (element_word z) k
found_word None k p = inl refl
found_word (Some o) k p = inr p

pub may_name : {S : Type 0} (facts : S → Facts) (a : S) (z : Option ℕ) (w : ℕ) → w ≡ element_word z
    → MayKnow facts a (HasOptional z) → MayKnow facts a (IsWordNow Objects w)
may_name facts a z w is may =
    subst (λ v. MayKnow facts a (IsWordNow Objects v)) (sym is) (∥∥₁_map may (λ k. (k.0, k.1, named_word z k.0 k.2)))

module _ {S : Type 0} {facts : S → Facts} where
  -- a call that takes nothing beside its acts, as a work that may take more
  pub calls_more : {A : Type 0} {a b : S} {f g : Frames} {call : Call A} {answer : Result A Fault} (silent : ℕ)
      → Calls facts a b f g call answer
      → Performed facts a b f g silent (Holds f) (λ s. call) answer (λ j k. Unit {0} × Holds g k)
  calls_more silent p = record {
    stands_is = p.stands_is;
    ran = λ k s m. let x = p.ran k s m in (x.0, x.1, made_of (spend_more silent (spending x.2)) x.2.ran, (tt, x.3.1));
  }

  -- what was resolved, and an array of it
  pub makes_resolved : {a b d : S} {f g : Frames} {z : Option ℕ} {w : ℕ} {first : Call (Option ℕ)}
      {answer : Result Handle Fault} (n : ℕ) → Resolves facts a b f first (Ok z) → w ≡ element_word z
      → MakesArray facts b d f g Objects (replicate n w) (IsWordNow Objects w) answer
      → Performed facts a d f g (making_steps n (facts a).stands.config) (Holds f) (λ s. first >>= (λ x. made
      (facts a).stands.config (facts a).stands.last (facts a).stands.thread Objects (replicate n (element_word x))))
      answer (λ j k. Unit {0} × Holds g k)
  makes_resolved {a} {b} {d} {f} {g} {z} {w} {first} {answer} n p is u =
      let s = (facts a).stands in
      let v = subst (λ y. MakesArray facts b d f g Objects (replicate n y) (IsWordNow Objects y) answer) is u in
      let q =
      subst (λ (y : Standing). Performed facts b d f g (making_steps (length (replicate n (element_word z))) y.config)
      (λ k. Holds f k × IsWordNow Objects (element_word z) k) (λ e. made y.config y.last y.thread Objects
      (replicate n (element_word z))) answer (λ j k. Unit {0} × Holds g k)) (but_fresh p.stands_is) v in
      let long = length-replicate n (element_word z) in
      record {
        stands_is = still_before p.stands_is q.stands_is;
        ran = λ k t m.
            let x = p.ran k t m in
            let y = q.ran x.0 x.1 (x.3.1, found_word z x.0 x.3.2) in (
              y.0,
              y.1,
              made_of (spend_up (making_steps (length (replicate n (element_word z))) s.config)
                  (making_steps n s.config) (omega arith) (spend_last (spending x.2) (spending y.2)))
                  (ran_then {next = λ e. made s.config s.last s.thread Objects (replicate n (element_word e))} z x.2.ran
                  y.2.ran),
              y.3,
            );
      }
