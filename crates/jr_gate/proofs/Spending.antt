-- What a call takes from its pass, from what its steps take.
use Rattle.std.proofs.Common.{◌≡◌, ◌≤◌, ◌+◌, ℕ, Bool, List, [], ◌∷◌, ◌++◌}
use Rattle.std.proofs.Common.{length, Result, refl, sym, ap, subst, ◌∙◌, arith}
use Rattle.std.proofs.lemmas.List.{length-append}
use Rattle.jr_word.specs.declared.config.Config.{Config}
use Rattle.jr_word.specs.declared.fault.Fault.{Fault}
use Rattle.jr_model.specs.declared.event.Act.{Act}
use Rattle.jr_model.specs.declared.event.Act.TheVariants.{Gate}
use Rattle.jr_model.specs.declared.event.GateAct.TheVariants.{Knock, Withdraw}
use Rattle.jr_model.specs.History.{PassView, IsLegal, mine, Did}
use Rattle.jr_model.specs.Frames.{Frames}
use Rattle.jr_model.specs.Calls.{Call, Ran}
use Rattle.jr_model.proofs.Stays.{append_cancel, did_nothing, did_then}
use Rattle.jr_steps.specs.declared.known.Known.{Known}
use Rattle.jr_steps.specs.Knowing.{Facts, Standing, view, fresh_after, fresh_from, anything, Takes, Took}
use Rattle.jr_steps.proofs.StepFacts.{goes_did}
use Rattle.jr_gate.specs.Acting.{ActedTo, LetsGoInTwo}
use Rattle.jr_gate.specs.Performing.{ThreadState, hint_after, hint_from}
use Rattle.jr_gate.specs.Performing.{thread_state, thread_state_with, Spends, IsMade}

-- between two moments a thread's acts are one list
acts_once : {p q : PassView} (xs ys : List Act) → Did p q xs → Did p q ys → xs ≡ ys
acts_once {p} xs ys d e = append_cancel (mine p.seen p.thread) xs ys (sym d.own ∙ e.own)

fresh_append : (f : Bool) (xs ys : List Act) → fresh_from f (xs ++ ys) ≡ fresh_from (fresh_from f xs) ys
fresh_append f [] ys = refl
fresh_append f (x ∷ xs) ys = fresh_append (fresh_after f x) xs ys

hint_append : (slots hint : ℕ) (xs ys : List Act)
    → hint_from slots hint (xs ++ ys) ≡ hint_from slots (hint_from slots hint xs) ys
hint_append slots hint [] ys = refl
hint_append slots hint (x ∷ xs) ys = hint_append slots (hint_after slots hint x) xs ys

-- the act makes no reference, so that the next search begins where it began
abbrev pub KeepsHint : Act → Type 0
KeepsHint a = (slots hint : ℕ) → hint_after slots hint a ≡ hint

-- the acts between two moments, and what they take
pub record Spending (silent : ℕ) (old new : ThreadState) : Type 0 where
  pub acts : List Act
  pub did : Did old.pass new.pass acts
  pub spent : Spends silent old new acts

-- a call that did all that was done
pub made_of : {A : Type 0} {silent : ℕ} {p q : ThreadState} {call : Call A} {answer : Result A Fault}
    → Spending silent p q → Ran p.pass q.pass p.frames q.frames call answer → IsMade silent p q call answer
made_of {silent = silent} {p = p} {q = q} s r =
    record { ran = r; spent = subst (Spends silent p q) (acts_once s.acts r.acts s.did r.did) s.spent }

pub spending : {A : Type 0} {silent : ℕ} {p q : ThreadState} {call : Call A} {answer : Result A Fault}
    → IsMade silent p q call answer → Spending silent p q
spending m = record { acts = m.ran.acts; did = m.ran.did; spent = m.spent }

pub spend_then : {n m : ℕ} {p q r : ThreadState} → Spending n p q → Spending m q r → Spending (n + m) p r
spend_then {n} {m} {p} {q} {r} s t =
    let long : length (s.acts ++ t.acts) ≡ length s.acts + length t.acts = length-append s.acts t.acts in
    let first = s.spent.taken in
    let second = t.spent.taken in
    let low = s.spent.most in
    let high = t.spent.most in
    record {
      acts = s.acts ++ t.acts;
      did = did_then s.acts t.acts s.did t.did;
      spent = record {
        without = s.spent.without + t.spent.without;
        most = omega arith;
        taken = omega arith;
        fresh =
            t.spent.fresh ∙ (ap (λ b. fresh_from b t.acts) s.spent.fresh ∙ sym (fresh_append p.fresh s.acts t.acts));
        hint = t.spent.hint
            ∙ (ap (λ (c : Config). hint_from c.slots q.hint t.acts) s.did.config
            ∙ (ap (λ i. hint_from p.pass.config.slots i t.acts) s.spent.hint
            ∙ sym (hint_append p.pass.config.slots p.hint s.acts t.acts)));
      };
    }

-- where one of the two takes nothing beside its acts
pub spend_first : {n : ℕ} {p q r : ThreadState} → Spending n p q → Spending 0 q r → Spending n p r
spend_first {n} {p} {q} {r} s t = subst (λ m. Spending m p r) (let e : n + 0 ≡ n = omega arith in e) (spend_then s t)

pub spend_last : {n : ℕ} {p q r : ThreadState} → Spending 0 p q → Spending n q r → Spending n p r
spend_last {n} {p} {q} {r} s t = subst (λ m. Spending m p r) (let e : 0 + n ≡ n = omega arith in e) (spend_then s t)

-- more may be taken beside the acts
pub spend_more : {p q : ThreadState} (n : ℕ) → Spending 0 p q → Spending n p q
spend_more n s =
    let none = s.spent.most in
    record {
      acts = s.acts;
      did = s.did;
      spent = record {
        without = s.spent.without;
        most = omega arith;
        taken = s.spent.taken;
        fresh = s.spent.fresh;
        hint = s.spent.hint;
      };
    }

-- no step
pub spend_none : (s : Facts) (k : Known) (f g : Frames) → IsLegal k.config k.last k.seen
    → Spending 0 (thread_state s k f) (thread_state s k g)
spend_none s k f g l = record {
  acts = [];
  did = did_nothing (view k) l;
  spent =
      record { without = 0; most = let e : 0 ≤ 0 = omega arith in e; taken = omega arith; fresh = refl; hint = refl };
}

-- so many operations, with these acts
pub spend_acts : {k k' : Known} {a b : Bool} {h i : ℕ} (f g : Frames) (silent : ℕ) (acts : List Act) (without : ℕ)
    → without ≤ silent → Did (view k) (view k') acts → Takes (length acts + without) k k' → b ≡ fresh_from a acts
    → i ≡ hint_from k.config.slots h acts → Spending silent (thread_state_with a h k f) (thread_state_with b i k' g)
spend_acts f g silent acts without most did taken fresh hint = record {
  acts = acts;
  did = did;
  spent = record { without = without; most = most; taken = taken; fresh = fresh; hint = hint };
}

module _ {S : Type 0} {facts : S → Facts} where
  -- one step with an act that makes no reference
  pub spend_step : {a b : S} {x : Act} {met : Known → Type 0} {shows : Known → Known → Type 0}
      (t : Took facts a b (x ∷ []) met shows) → KeepsHint x
      → (k : Known) (s : (facts a).knows k) (m : met k) (f g : Frames)
      → Spending 0 (thread_state (facts a) k f) (thread_state (facts b) (t.goes k s m).0 g)
  spend_step {a} {b} {x} t keeps k s m f g =
      let y = t.goes k s m in
      let one = y.2.taken in
      spend_acts f g 0 (x ∷ []) 0 (omega arith) (goes_did y.2) (omega arith)
      (ap (λ (z : Standing). z.fresh) t.stands_is) (t.hint_is ∙ sym (keeps k.config.slots (facts a).hint))

  -- a knock and its withdrawal
  pub spend_barred : {a b : S} (t : ActedTo facts a b (Gate Knock ∷ Gate Withdraw ∷ []) anything LetsGoInTwo)
      (k : Known) (s : (facts a).knows k) (f g : Frames)
      → Spending 0 (thread_state (facts a) k f) (thread_state (facts b) (t.leads k s tt).0 g)
  spend_barred {a} {b} t k s f g =
      let y = t.leads k s tt in
      let two = y.3.0.1 in
      spend_acts f g 0 (Gate Knock ∷ Gate Withdraw ∷ []) 0 (omega arith) y.2 (omega arith)
      (ap (λ (z : Standing). z.fresh) t.stands_is) t.hint_is
