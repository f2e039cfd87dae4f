-- What one look tells, as what a word is, is told by a call of an env.
use Rattle.std.proofs.Common.{◌≡◌, ◌||◌, ℕ, Bool, true, false, cond, [], ◌∷◌, ◌++◌, map, Result}
use Rattle.std.proofs.Common.{Ok, Err, IfOk, refl, sym, ap, subst, ◌∙◌}
use Rattle.std.specs.Result.{IsErrAnd}
use mathlib.Core.List.{IsPrefix}
use Rattle.jr_word.specs.declared.config.Config.{Config}
use Rattle.jr_word.specs.declared.fault.Fault.{Fault}
use Rattle.jr_word.specs.declared.fault.Fault.TheVariants.{Barred}
use Rattle.jr_model.specs.declared.event.Role.TheVariants.{Outside, Within}
use Rattle.jr_model.specs.declared.event.Found.{Found}
use Rattle.jr_model.specs.declared.event.Act.TheVariants.{Gate, Look}
use Rattle.jr_model.specs.declared.event.GateAct.TheVariants.{Enter, Knock, Leave, Withdraw}
use Rattle.jr_model.specs.State.{Handle, State}
use Rattle.jr_model.specs.History.{History, PassView, by, state}
use Rattle.jr_model.specs.Frames.{Frames}
use Rattle.jr_model.specs.Calls.{Ran, done, entered}
use Rattle.jr_model.specs.Checks.{Word, Nothing, Malformed, Parts, is_local, is_out_of_bounds}
use Rattle.jr_model.specs.OpenStays.{NoneLeaves}
use Rattle.jr_model.proofs.Moments.{prefix_self, prefix_trans}
use Rattle.jr_model.proofs.EachCall.{Stays}
use Rattle.jr_model.proofs.Runs.{ran_entered}
use Rattle.jr_steps.specs.declared.known.Known.{Known}
use Rattle.jr_steps.specs.declared.steps.Steps.{Ghosts}
use Rattle.jr_steps.specs.Knowing.{AreOf, Facts, Standing, Took, Holds, anything, keeps, lets_go, view}
use Rattle.jr_steps.proofs.StepFacts.{goes_did, goes_stepped}
use Rattle.jr_gate.specs.Acting.{ActedTo, LetsGoInTwo}
use Rattle.jr_gate.specs.Performing.{Performed, ThreadState}
use Rattle.jr_gate.proofs.Spending.{made_of, spend_first, spend_last, spend_step, spending}
use Rattle.jr_frames.specs.declared.explaining.Explanation.{Explanation}
use Rattle.jr_frames.specs.Explaining.{WasSeen, glance, look_acts}
use Rattle.jr_frames.specs.declared.held.Held.{Held}
use Rattle.jr_frames.specs.Reading.{IsReadAs}
use Rattle.jr_frames.specs.Ready.{StandsReady}
use Rattle.jr_frames.specs.Table.{Table}
use Rattle.jr_frames.proofs.FramesAgree.{holds_did}
use Rattle.jr_frames.proofs.StillReady.{ready_after, ready_left, same_owner}
use Rattle.jr_frames.proofs.WholeCalls.{left_before}
use Rattle.jr_env.specs.Deeds.{DoesDeed, DoesOutside}
use Rattle.jr_env.specs.declared.env.Env.{Env}
use Rattle.jr_env.specs.LentStays.{DoesInside}
use Rattle.jr_env.specs.OpenStays.{StaysOn}
use Rattle.jr_env.specs.Seeing.{SeesSo, Telling, WasSeenSo, seen_by_call, seen_in_stay}
use Rattle.jr_env.specs.Words.{explained_in_stay, explaining}
use Rattle.jr_env.specs.Works.{EndsStay}
use Rattle.jr_env.proofs.Carrying.{own_call}
use Rattle.jr_env.proofs.EnvCalls.{does_call_by, does_more}
use Rattle.jr_env.proofs.InsideGate.{completes_barred, completes_from, completes_more}
use Rattle.jr_env.proofs.OpenStays.{performs_on}

-- what was seen in a part of what is seen now, by the same thread of the same room
seen_within : {c d : Config} (a : Word) {P Q : State → Type 0} (old mid later new : PassView) → c ≡ d
    → mid.thread ≡ old.thread → IsPrefix old.seen mid.seen → IsPrefix later.seen new.seen
    → ((s : State) → P s → Q s) → WasSeen c a P mid later → WasSeen d a Q old new
seen_within {c} {d} a {P} {Q} old mid later new sizes threads front back so n =
    let same : n.before ++ map (by mid.thread) (look_acts c a n.found)
    ≡ n.before ++ map (by old.thread) (look_acts d a n.found) =
    ap (λ t. n.before ++ map (by t) (look_acts c a n.found)) threads
    ∙ ap (λ e. n.before ++ map (by old.thread) (look_acts e a n.found)) sizes in
    record {
      found = n.found;
      before = n.before;
      from = prefix_trans old.seen mid.seen n.before front n.from;
      to = subst (λ (es : History). IsPrefix es new.seen) same (prefix_trans _ later.seen new.seen n.to back);
      met = subst (λ (es : History). Q (state es)) same (so _ n.met);
    }

-- what is so for the same thread of the same room
same_so : {A : Type 0} (so : Telling A) {c d : Config} {t u : ℕ} (f : Frames) (x : A) → c ≡ d → t ≡ u → (s : State)
    → so c t f s x → so d u f s x
same_so so {c} {d} {t} {u} f x sizes threads s is =
    subst (λ y. so d y f s x) threads (subst (λ y. so y t f s x) sizes is)

-- it was so at the one look
abbrev told_at : {S A : Type 0} → (S → Facts) → Telling A → S → Frames → Word → A → Known → Known → Type 0
told_at facts so a f w x j k = WasSeen (facts a).stands.config w
    (λ s. so (facts a).stands.config (facts a).stands.thread f s x) (view j) (view k)

module _ {S A : Type 0} {facts : S → Facts} (fits : AreOf facts) (so : Telling A) where
  -- WHAT IS TOLD between an entry and its exit
  pub seen_whole : {a b c d : S} (f : Frames) (w : Word) (e : A) → (facts a).stands.role ≡ Outside
      → Took facts a b (Gate Enter ∷ []) anything keeps → SeesSo facts so b c f w e
      → Took facts c d (Gate Leave ∷ []) anything lets_go → DoesDeed facts a d f f (seen_by_call so w) (Ok e)
  seen_whole {a} {b} {c} {d} f w e out enters p leaves = record {
    stands_is = left_before out enters.stands_is p.stands_is leaves.stands_is;
    did = λ k s m.
        let x = enters.goes k s tt in
        let y = p.ran x.0 x.1 (holds_did k x.0 f (Gate Enter ∷ []) (goes_did x.2) (refl, tt) m) in
        let z = leaves.goes y.0 y.1 tt in
        let count = spend_first (spend_last (spend_step enters (λ n i. refl) k s tt f f) (spending y.2))
        (spend_step leaves (λ n i. refl) y.0 y.1 tt f f) in
        let sizes : (facts b).stands.config ≡ k.config =
        ap (λ (q : Standing). q.config) enters.stands_is ∙ sym (fits a k s).config in
        let threads : (facts b).stands.thread ≡ k.thread =
        ap (λ (q : Standing). q.thread) enters.stands_is ∙ sym (fits a k s).thread in
        let within = subst (λ (r : Config). Ran (view x.0) (view y.0) f f (glance r w) (Ok e))
        (ap (λ (q : Standing). q.config) enters.stands_is) y.2.ran in
        let run = ran_entered (goes_stepped x.2) within (goes_stepped z.2) in (
          z.0,
          z.1,
          holds_did y.0 z.0 f (Gate Leave ∷ []) (goes_did z.2) (refl, tt) y.3.1,
          (
            (own_call facts fits (λ r. 1) (λ r last t s. entered (glance r w)) k z.0 s (made_of count run), z.3),
            seen_within w (view k) (view x.0) (view y.0) (view z.0) sizes (x.2.thread) (goes_did x.2).begins
                (goes_did z.2).begins (same_so so f e sizes threads) y.3.0,
          ),
        );
  }

  -- the thread stands ready in its stay, as before
  pub ready_seen : {b c : S} {t : Table} {w : Word} {e : A} → StandsReady facts Within b t
      → SeesSo facts so b c t.frames w e → StandsReady facts Within c t
  ready_seen {b} {t = t} {w = w} {e = e} r p =
      ready_after {so = told_at facts so b t.frames w e} r (same_owner t) p

  -- and outside, once it has left
  pub ready_behind : {b c d : S} {t : Table} {w : Word} {e : A} → StandsReady facts Within b t
      → SeesSo facts so b c t.frames w e → Took facts c d (Gate Leave ∷ []) anything lets_go
      → StandsReady facts Outside d t
  ready_behind {c = c} {d = d} {t = t} r p leaves = ready_left (ready_seen r p) leaves

  -- an entry that found the gate shut, once a stay that was left has been ended
  pub seen_barred : {o a b : S} {r t : Table} {e : Fault} (w : Word) (answer : Result A Fault)
      → EndsStay facts o a r t → IsErrAnd answer (λ y. y ≡ e)
      → (e ≡ Barred) × ActedTo facts a b (Gate Knock ∷ Gate Withdraw ∷ []) anything LetsGoInTwo
      → DoesOutside facts o b r.frames t.frames (seen_by_call so w) answer
  seen_barred {e = e} w answer ended given why = does_more (λ p q x. (x, none answer given p q))
      (does_call_by fits (λ c. 1) (λ c last thread s. entered (glance c w))
      (completes_from (λ c last thread s. glance c w) (λ c. 1) ended (completes_more 1
      (completes_barred (λ c last thread s. glance c w) ended.ready answer given why))))
    where
      none : (y : Result A Fault) → IsErrAnd y (λ z. z ≡ e) → (p q : ThreadState)
          → IfOk y (λ x. WasSeenSo so w p x q)
      none (Ok x) is p q = absurd is
      none (Err d) is p q = tt

module _ {S : Type 0} {facts : S → Facts} (fits : AreOf facts) where
  -- the thread stands ready outside where its entry was refused
  pub ready_barred : {a b : S} {t : Table} {e : Fault} → StandsReady facts Outside a t
      → (e ≡ Barred) × ActedTo facts a b (Gate Knock ∷ Gate Withdraw ∷ []) anything LetsGoInTwo
      → StandsReady facts Outside b t
  ready_barred r why = (completes_barred {A = Unit {0}} (λ c last thread s. done tt) r (Err Barred) refl
      (refl, why.1)).ready

-- the one look is no exit
glance_stays : {A : Type 0} (w : Word) (c : Config) → Stays (glance {A = A} c w)
glance_stays w c f g acts answer is = subst NoneLeaves (sym is.2) (go w is.0)
  where
    looking : (b : Bool) (h : Handle) (r : Found) → NoneLeaves (cond b [] (Look h r ∷ []))
    looking true h r = tt
    looking false h r = ((λ e. cc), tt)

    go : (a : Word) (r : Found) → NoneLeaves (look_acts c a r)
    go Nothing r = tt
    go Malformed r = tt
    go (Parts h) r = looking (is_out_of_bounds c (Parts h) || is_local h) h r

module _ {S A : Type 0} {G : Ghosts S} (fits : AreOf G.facts) (so : Telling A) where
  -- the stay goes on
  pub sees_on : (old new : Held S G) (w : Word) (e : A) → new.frames ≡ old.frames
      → SeesSo G.facts so old.steps new.steps old.frames.frames w e → StaysOn old new
  sees_on old new w e same p =
      let told = told_at G.facts so old.steps old.frames.frames w e in
      performs_on fits old new 1 told (λ c last t s. glance c w) (λ c last t s. glance_stays w c) (subst (λ (t : Table).
      Performed G.facts old.steps new.steps old.frames.frames t.frames 1 (Holds old.frames.frames)
      (λ s. glance (G.facts old.steps).stands.config w) (Ok e) (λ j k. told j k × Holds t.frames k)) (sym same) p)

  -- WHAT IS TOLD IN A STAY
  pub seen_inside : (old new : Env S G) (w : Word) (e : A) → new.held.frames ≡ old.held.frames
      → SeesSo G.facts so old.held.steps new.held.steps old.held.frames.frames w e → StaysOn old.held new.held
      → DoesInside old new (seen_in_stay so w) (Ok e)
  seen_inside old new w e same p on = record {
    did = subst (λ (t : Table). DoesDeed G.facts old.held.steps new.held.steps old.held.frames.frames t.frames
        (seen_in_stay so w) (Ok e)) (sym same) (record {
          stands_is = p.stands_is;
          did = λ k s m.
              let x = p.ran k s m in
              let i = fits old.held.steps k s in (
                x.0,
                x.1,
                x.3.1,
                (
                  own_call G.facts fits (λ r. 1) (λ r last t s. glance r w) k x.0 s x.2,
                  seen_within w (view k) (view k) (view x.0) (view x.0) (sym i.config) refl (prefix_self k.seen)
                      (prefix_self x.0.seen) (same_so so old.held.frames.frames e (sym i.config) (sym i.thread)) x.3.0,
                ),
              );
        });
    on = on;
  }

-- of a word that was read
pub reads_inside : {S : Type 0} {G : Ghosts S} (old new : Env S G) (n : ℕ) (w : Word) (e : Explanation) → IsReadAs n w
    → DoesInside old new (explained_in_stay w) (Ok e) → DoesInside old new (explaining n) (Ok e)
reads_inside old new n w e reads d = record {
  did = record {
    stands_is = d.did.stands_is;
    did = λ k s m. let x = d.did.did k s m in (x.0, x.1, x.2, (w, reads, x.3));
  };
  on = d.on;
}
