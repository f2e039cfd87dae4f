-- Deeds that are done, put in sequence and in other forms, for whatever was known.
use Rattle.std.proofs.Common.{◌≡◌, ℕ, Result, Ok, Err, inl, inr, refl, sym, ap, subst, ◌∙◌}
use Rattle.std.specs.Result.{IsErrAnd}
use Rattle.std.proofs.lemmas.Result.{err_from_is_err_and}
use Rattle.jr_word.specs.declared.config.Config.{Config}
use Rattle.jr_word.specs.declared.fault.Fault.{Fault}
use Rattle.jr_model.specs.declared.event.Role.{Role}
use Rattle.jr_model.specs.State.{State}
use Rattle.jr_model.specs.Frames.{Frames}
use Rattle.jr_model.specs.Calls.{Call}
use Rattle.jr_steps.specs.declared.known.Known.{Known}
use Rattle.jr_steps.specs.Knowing.{AreOf, Facts, Standing, state_of}
use Rattle.jr_gate.specs.Performing.{IsAsBefore, IsMade, Performed, ThreadState, thread_state}
use Rattle.jr_env.specs.Deeds.{CarriedOut, Deed, DoesDeed, answered_by, decided, ◌>>=◌, within_by}

-- one and then the other
pub role_then : (s t u : Standing) (q r : Role) → IsAsBefore (record s { role = q }) t
    → IsAsBefore (record t { role = r }) u → IsAsBefore (record s { role = r }) u
role_then s t u q r a b = record {
  room = b.room ∙ a.room;
  config = b.config ∙ a.config;
  last = b.last ∙ a.last;
  thread = b.thread ∙ a.thread;
  role = b.role;
}

-- nothing changed
pub role_kept : {s : Standing} (r : Role) → s.role ≡ r → IsAsBefore (record s { role = r }) s
role_kept r is = record { room = refl; config = refl; last = refl; thread = refl; role = is }

module _ {S : Type 0} {facts : S → Facts} where
  -- a deed that leads on to another
  pub did_more : {A B : Type 0} {a b : S} {f g : Frames} {r : Role} {met shown : Known → Type 0} {one : Deed A}
      {two : Deed B} {once : Result A Fault} {answer : Result B Fault}
      → ((p q : ThreadState) → one p once q → two p answer q) → CarriedOut facts a b f g r met shown one once
      → CarriedOut facts a b f g r met shown two answer
  did_more w d = record { stands_is = d.stands_is; did = λ k s m. let x = d.did k s m in (x.0, x.1, x.2, w _ _ x.3) }

  -- no deed leads nowhere
  pub did_nowhere : {A : Type 0} {a : S} {f : Frames} {r : Role} {met shown : Known → Type 0} {deed : Deed A}
      {answer : Result A Fault}
      → (facts a).stands.role ≡ r → ((k : Known) → met k → shown k) → ((p : ThreadState) → deed p answer p)
      → CarriedOut facts a a f f r met shown deed answer
  did_nowhere {r = r} is on w = record { stands_is = role_kept r is; did = λ k s m. (k, s, on k m, w _) }

  -- ONE DEED AND THEN ANOTHER, which together are a third
  pub did_both : {A B C : Type 0} {a b c : S} {f g h : Frames} {q r : Role} {met mid shown : Known → Type 0}
      {one : Deed A} {two : Deed B} {both : Deed C} {once : Result A Fault} {next : Result B Fault}
      {answer : Result C Fault}
      → ((p m n : ThreadState) → one p once m → two m next n → both p answer n)
      → CarriedOut facts a b f g q met mid one once → CarriedOut facts b c g h r mid shown two next
      → CarriedOut facts a c f h r met shown both answer
  did_both {a = a} {b = b} {c = c} {q = q} {r = r} w first more = record {
    stands_is = role_then (facts a).stands (facts b).stands (facts c).stands q r first.stands_is more.stands_is;
    did = λ k s m. let x = first.did k s m in let y = more.did x.0 x.1 x.2 in (y.0, y.1, y.2, w _ _ _ x.3 y.3);
  }

  -- one deed was answered, and the next was done
  pub did_then : {A B : Type 0} {a b c : S} {f g h : Frames} {q r : Role} {met mid shown : Known → Type 0}
      {one : Deed A} {x : A} (next : A → Deed B) {answer : Result B Fault}
      → CarriedOut facts a b f g q met mid one (Ok x) → CarriedOut facts b c g h r mid shown (next x) answer
      → CarriedOut facts a c f h r met shown (one >>= next) answer
  did_then {x = x} next = did_both (λ p m n d e. inl (x, m, d, e))

  -- the role is the same one
  pub did_in_role : {A : Type 0} {a b : S} {f g : Frames} {q r : Role} {met shown : Known → Type 0} {deed : Deed A}
      {answer : Result A Fault} → q ≡ r → CarriedOut facts a b f g q met shown deed answer
      → CarriedOut facts a b f g r met shown deed answer
  did_in_role {a = a} {b = b} {f = f} {g = g} {met = met} {shown = shown} {deed = deed} {answer = answer} is =
      subst (λ r. CarriedOut facts a b f g r met shown deed answer) is

  -- ONE DEED AND THEN ANOTHER, where each leaves the thread its role
  pub does_both : {A B C : Type 0} {a b c : S} {f g h : Frames} {one : Deed A} {two : Deed B} {both : Deed C}
      {once : Result A Fault} {next : Result B Fault} {answer : Result C Fault}
      → ((p m n : ThreadState) → one p once m → two m next n → both p answer n) → DoesDeed facts a b f g one once
      → DoesDeed facts b c g h two next → DoesDeed facts a c f h both answer
  does_both w first more = did_in_role first.stands_is.role (did_both w first more)

  pub does_then : {A B : Type 0} {a b c : S} {f g h : Frames} {one : Deed A} {x : A} (next : A → Deed B)
      {answer : Result B Fault} → DoesDeed facts a b f g one (Ok x) → DoesDeed facts b c g h (next x) answer
      → DoesDeed facts a c f h (one >>= next) answer
  does_then {x = x} next = does_both (λ p m n d e. inl (x, m, d, e))

  -- no deed, where the thread keeps its role
  pub does_nothing : {A : Type 0} {a : S} {f : Frames} {deed : Deed A} {answer : Result A Fault}
      → ((p : ThreadState) → deed p answer p) → DoesDeed facts a a f f deed answer
  does_nothing = did_nowhere refl (λ k m. m)

  -- a deed was refused, and the next was not done
  pub did_refused : {A B : Type 0} {a b : S} {f g : Frames} {r : Role} {met shown : Known → Type 0} {one : Deed A}
      (next : A → Deed B) (e : Fault) → CarriedOut facts a b f g r met shown one (Err e)
      → CarriedOut facts a b f g r met shown (one >>= next) (Err e)
  did_refused next e = did_more (λ p q d. inr (e, refl, d))

  -- a deed was answered, and nothing more is done
  pub did_reply : {A B : Type 0} {a b : S} {f g : Frames} {r : Role} {met shown : Known → Type 0} {one : Deed A}
      (form : A → B) (x : A) → CarriedOut facts a b f g r met shown one (Ok x)
      → CarriedOut facts a b f g r met shown (answered_by form one) (Ok (form x))
  did_reply form x = did_more (λ p q d. inl (x, q, d, (refl, refl)))

  -- the answer in another form, and a refusal behind it
  pub did_answer : {A B : Type 0} {a b : S} {f g : Frames} {r : Role} {met shown : Known → Type 0} {deed : Deed A}
      {x : A} {y : B} (form : A → B) → y ≡ form x → CarriedOut facts a b f g r met shown deed (Ok x)
      → CarriedOut facts a b f g r met shown (answered_by form deed) (Ok y)
  did_answer {x = x} form is = did_more (λ p q d. inl (x, q, d, (ap (λ v. Ok v) is, refl)))

  pub did_refuse : {A B : Type 0} {a b : S} {f g : Frames} {r : Role} {met shown : Known → Type 0} {deed : Deed A}
      {e : Fault} (form : A → B) (answer : Result B Fault) → IsErrAnd answer (λ y. y ≡ e)
      → CarriedOut facts a b f g r met shown deed (Err e)
      → CarriedOut facts a b f g r met shown (answered_by form deed) answer
  did_refuse {e = e} form answer given = let why = err_from_is_err_and answer given in
      did_more (λ p q d. inr (e, why.1 ∙ ap (λ (v : Fault). Err v) why.2, d))

  -- what was decided before a deed
  pub did_decided : {A B : Type 0} {a b : S} {f g : Frames} {role : Role} {met shown : Known → Type 0}
      {r : Result A Fault} {x : A} (next : A → Deed B) {answer : Result B Fault}
      → r ≡ Ok x → CarriedOut facts a b f g role met shown (next x) answer
      → CarriedOut facts a b f g role met shown (decided r >>= next) answer
  did_decided {x = x} next is = did_more (λ p q d. inl (x, p, (sym is, refl), d))

  -- a refusal that was decided before a deed
  pub did_decline : {A B : Type 0} {a : S} {f : Frames} {role : Role} {met shown : Known → Type 0} {r : Result A Fault}
      {e : Fault} (next : A → Deed B)
      → (facts a).stands.role ≡ role → ((k : Known) → met k → shown k) → r ≡ Err e
      → CarriedOut facts a a f f role met shown (decided r >>= next) (Err e)
  did_decline {e = e} next role on is = did_nowhere role on (λ p. inr (e, refl, (sym is, refl)))

  -- a refusal at the exit of a `?`
  pub did_residual : {A : Type 0} {a b : S} {f g : Frames} {role : Role} {met shown : Known → Type 0} {deed : Deed A}
      (e : Fault) (answer : Result A Fault) → IsErrAnd answer (λ y. y ≡ e)
      → CarriedOut facts a b f g role met shown deed (Err e) → CarriedOut facts a b f g role met shown deed answer
  did_residual {a = a} {b = b} {f = f} {g = g} {role = role} {met = met} {shown = shown} {deed = deed} e answer given
      d =
      let why = err_from_is_err_and answer given in
      subst (λ r. CarriedOut facts a b f g role met shown deed r) (sym (why.1 ∙ ap (λ (v : Fault). Err v) why.2)) d

module _ {S : Type 0} (facts : S → Facts) (fits : AreOf facts) {A : Type 0} {a b : S} {f g : Frames}
    {answer : Result A Fault} (silent : Config → ℕ) (call : Config → ℕ → ℕ → State → Call A) where
  -- a call by the sizes and the thread of the steps is one by those of whatever is known
  pub own_call : (k k' : Known) → (facts a).knows k
      → IsMade (silent (facts a).stands.config) (thread_state (facts a) k f) (thread_state (facts b) k' g)
      (call (facts a).stands.config (facts a).stands.last (facts a).stands.thread (state_of k')) answer
      → within_by silent call (thread_state (facts a) k f) answer (thread_state (facts b) k' g)
  own_call k k' s m =
      let of = fits a k s in
      let p = thread_state (facts a) k f in
      let q = thread_state (facts b) k' g in
      subst (λ c. IsMade (silent c) p q (call c k.last k.thread (state_of k')) answer) (sym of.config)
      (subst (λ l. IsMade (silent (facts a).stands.config) p q (call (facts a).stands.config l k.thread (state_of k'))
      answer) (sym of.last)
      (subst (λ t. IsMade (silent (facts a).stands.config) p q
      (call (facts a).stands.config (facts a).stands.last t (state_of k')) answer) (sym of.thread) m))

  -- what a call over steps did, as a deed
  pub did_call : {met shown : Known → Type 0} {shows : Known → Known → Type 0} → ((j k : Known) → shows j k → shown k)
      → Performed facts a b f g (silent (facts a).stands.config) met
      (call (facts a).stands.config (facts a).stands.last (facts a).stands.thread) answer shows
      → CarriedOut facts a b f g (facts a).stands.role met shown (within_by silent call) answer
  did_call on p = record {
    stands_is = p.stands_is;
    did = λ k s m. let x = p.ran k s m in (x.0, x.1, on k x.0 x.3, own_call k x.0 s x.2);
  }
