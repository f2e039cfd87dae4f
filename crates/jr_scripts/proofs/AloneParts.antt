-- What the deeds of a thread that is alone are put together from.
use Rattle.std.proofs.Common.{◌≡◌, inl, inr, ℕ, zero, suc, true, Result, Ok, Err, IfErr, refl, sym, subst, ◌∙◌, ap}
use Rattle.jr_word.specs.declared.config.Config.{Config}
use Rattle.jr_word.specs.declared.fault.Fault.{Fault}
use Rattle.jr_word.specs.declared.fault.Fault.TheVariants.{Raced, Barred, Moved, Turns}
use Rattle.jr_model.specs.History.{PassView}
use Rattle.jr_model.specs.Programs.{AnswerKind}
use Rattle.jr_model.specs.AllCalls.{CallOf, enters, means}
use Rattle.jr_model.proofs.EachCall.{lawful}
use Rattle.jr_model.proofs.Moments.{prefix_self, prefix_trans}
use Rattle.jr_gate.specs.Performing.{ThreadState}
use Rattle.jr_elements.specs.Copies.{answer_in}
use Rattle.jr_env.specs.Deeds.{Deed, call_by, decided, done, answered_by, whole, ◌>>=◌}
use Rattle.jr_env.specs.Requests.{Request, asks, gives, named, on_word, on_words, told_by}
use Rattle.jr_env.specs.Tries.{is_tried_again}
use Rattle.jr_scripts.specs.Tries.{Tried, answered, again, gave_up}
use Rattle.jr_scripts.specs.Commands.{tried}
use Rattle.jr_scripts.specs.AloneAnswers.{IsAloneFault}
use Rattle.jr_scripts.proofs.AloneCalls.{IsAlone, LedAlone, LeadsAlone, made_alone}

-- what is alone now was before
pub was_alone : {A : Type 0} {old new : PassView} {answer : Result A Fault} → LedAlone old new answer → IsAlone new
    → IsAlone old
was_alone led a =
    record { one = ap (λ c. c.threads) (sym led.config) ∙ a.one; first = sym led.thread ∙ a.first }

-- nothing happened
stayed : {A : Type 0} (p : PassView) (answer : Result A Fault) → IfErr answer (IsAloneFault p) → LedAlone p p answer
stayed p answer fault =
    record { config = refl; thread = refl; begins = prefix_self p.seen; none_lost = λ m. m; fault = fault }

-- no event, and a refusal that is a lone thread's
pub decided_alone : {A : Type 0} (r : Result A Fault) → ((p : PassView) → IfErr r (IsAloneFault p))
    → LeadsAlone (decided r)
decided_alone r fault = record {
  led = λ old new answer alone d. subst (λ (m : ThreadState). LedAlone old.pass m.pass answer) (sym d.1)
      (subst (LedAlone old.pass old.pass) (sym d.0) (stayed old.pass r (fault old.pass)));
}

pub done_alone : {A : Type 0} (x : A) → LeadsAlone (done x)
done_alone x = decided_alone (Ok x) (λ p. tt)

-- one deed, and another from there
pub bind_alone : {A B : Type 0} {first : Deed A} {next : A → Deed B} → LeadsAlone first
    → ((x : A) → LeadsAlone (next x)) → LeadsAlone (first >>= next)
bind_alone {A} {B} {first} {next} p q = record { led = led }
  where
    led : (old new : ThreadState) (answer : Result B Fault) → IsAlone new.pass → (first >>= next) old answer new
        → LedAlone old.pass new.pass answer
    led old new answer alone (inl r) =
        let y = (q r.0).led r.1 new answer alone r.3 in
        let x = p.led old r.1 (Ok r.0) (was_alone y alone) r.2 in
        record {
          config = y.config ∙ x.config;
          thread = y.thread ∙ x.thread;
          begins = prefix_trans old.pass.seen r.1.pass.seen new.pass.seen x.begins y.begins;
          none_lost = λ m. y.none_lost (x.none_lost m);
          fault = y.fault;
        }
    led old new answer alone (inr r) =
        let x = p.led old new (Err r.0) alone r.2 in
        record {
          config = x.config;
          thread = x.thread;
          begins = x.begins;
          none_lost = x.none_lost;
          fault = subst (λ (z : Result B Fault). IfErr z (IsAloneFault new.pass)) (sym r.1) x.fault;
        }

pub answered_alone : {A B : Type 0} (form : A → B) {one : Deed A} → LeadsAlone one → LeadsAlone (answered_by form one)
answered_alone form p = bind_alone p (λ x. done_alone (form x))

-- an answer that is kept in another form
told_alone : {A B : Type 0} {p q : PassView} (form : A → B) (answer : Result A Fault)
    → LedAlone p q (answer_in form answer) → LedAlone p q answer
told_alone {A} {q = q} form answer x = record {
  config = x.config;
  thread = x.thread;
  begins = x.begins;
  none_lost = x.none_lost;
  fault = go answer x.fault;
}
  where
    go : (answer : Result A Fault) → IfErr (answer_in form answer) (IsAloneFault q) → IfErr answer (IsAloneFault q)
    go (Ok y) fault = tt
    go (Err e) fault = fault

-- NO CALL OF A LONE THREAD IS MADE AGAIN

pub once_alone : {A : Type 0} (p : PassView) (r : Result A Fault) → is_tried_again r ≡ true → IfErr r (IsAloneFault p)
    → ⊥
once_alone p (Err (Raced looked found)) m h = h
once_alone p (Err Barred) m h = h
once_alone p (Err (Moved looked found)) m h = h
once_alone p _ m h = cc

pub tries_alone : {A : Type 0} {one : Deed A} → LeadsAlone one → (n : ℕ) (old new : ThreadState)
    (answer : Result A Fault) → IsAlone new.pass → Tried one n old answer new → LedAlone old.pass new.pass answer
tries_alone p (suc n) old new answer alone (answered d final) = p.led old new answer alone d
tries_alone p (suc n) old new answer alone (again {mid = mid} {once = once} d more rest) =
    let y = tries_alone p n mid new answer alone rest in
    let x = p.led old mid once (was_alone y alone) d in
    absurd (once_alone mid.pass once more x.fault)
tries_alone p zero old new answer alone gave_up = stayed old.pass (Err Turns) tt

pub tried_alone : {A : Type 0} {turns : ℕ} {one : Deed A} → LeadsAlone one → LeadsAlone (tried turns one)
tried_alone {turns = turns} p =
    record { led = λ old new answer alone d. tries_alone p turns old new answer alone d }

-- EACH WHOLE CALL, whatever it requests

pub call_alone : {a : AnswerKind} (silent : Config → ℕ) (x : CallOf a)
    → LeadsAlone (call_by silent (λ c last t s. means c last t s x))
call_alone silent x = record {
  led = λ old new answer alone d.
      (made_alone silent (λ c last t s. lawful c last t s x) refl).led old new answer alone d.0;
}

pub whole_alone : {A : Type 0} (r : Request A) → LeadsAlone (whole r)
whole_alone (asks silent words p) = call_alone silent (enters words p)
whole_alone (on_word w next) =
    record { led = λ old new answer alone d. (whole_alone (next d.0)).led old new answer alone d.2 }
whole_alone (on_words v w next) =
    record { led = λ old new answer alone d. (whole_alone (next d.0 d.1)).led old new answer alone d.4 }
whole_alone (gives form first) = answered_alone form (whole_alone first)
whole_alone (told_by form first) = record {
  led = λ old new answer alone d.
      told_alone form answer ((whole_alone first).led old new (answer_in form answer) alone d);
}
whole_alone (named name first) = whole_alone first
