-- What a reference names is found, and calls are put together from that and what follows.
use Rattle.std.proofs.Common.{◌≡◌, ℕ, ◌+◌, Option, Some, None, List, [], ◌++◌, length, Result}
use Rattle.std.proofs.Common.{Ok, Err, inl, inr, refl, sym, ap, subst, ◌∙◌, arith, append_assoc}
use Rattle.std.specs.Result.{IsErrAnd}
use mathlib.Core.Logic.{∥∥₁_map}
use Rattle.jr_word.specs.declared.config.Config.{Config}
use Rattle.jr_word.specs.declared.fault.Fault.{Fault}
use Rattle.jr_word.specs.declared.fault.Fault.TheVariants.{Null}
use Rattle.jr_word.specs.declared.header.HeaderParts.{HeaderParts}
use Rattle.jr_word.specs.declared.kind.Kind.{Kind}
use Rattle.jr_model.specs.declared.event.Act.{Act}
use Rattle.jr_model.specs.State.{State}
use Rattle.jr_model.specs.History.{PassView, Did}
use Rattle.jr_model.specs.Frames.{Frames}
use Rattle.jr_model.specs.Calls.{Call, Ran, done, for_object, ◌>>=◌}
use Rattle.jr_model.specs.Checks.{Word}
use Rattle.jr_model.specs.Parts.{header, not_null}
use Rattle.jr_model.specs.References.{resolved}
use Rattle.jr_model.proofs.Moments.{answer_wider}
use Rattle.jr_model.proofs.Runs.{did_legal, ran_done, ran_err, ran_refuse, ran_then}
use Rattle.jr_model.proofs.Stays.{did_nothing, did_then}
use Rattle.jr_model.proofs.Windows.{window_then}
use Rattle.jr_steps.specs.declared.known.Known.{Known}
use Rattle.jr_steps.specs.declared.known.Holdings.{Holdings}
use Rattle.jr_steps.specs.Holdings.{header_in, with_header}
use Rattle.jr_steps.specs.Knowing.{Facts, Standing, keeps, view, state_of, HasObject, Holds, MayKnow, ShowsObject}
use Rattle.jr_gate.specs.Performing.{Performed, thread_state}
use Rattle.jr_gate.proofs.HandedOn.{handed_on}
use Rattle.jr_gate.proofs.SameRoom.{as_before, still_before}
use Rattle.jr_gate.proofs.Spending.{Spending, made_of, spending, spend_acts, spend_last, spend_more, spend_then}
use Rattle.jr_heap.specs.Heap.{Called, HoldsHeader, Learns, by_steps}
use Rattle.jr_heap.proofs.Headers.{learnt}
use Rattle.jr_frames.specs.OverSteps.{Resolves}
use Rattle.jr_frames.proofs.FramesAgree.{holds_did}
use Rattle.jr_frames.specs.Finding.{Finds, FindsBeside, finding}

-- what a call does at the object that a reference names
abbrev pub at_named : {A : Type 0} → Config → ℕ → ℕ → Word → (ℕ → Call A) → Call A
at_named c last t w next = resolved c last t w >>= (λ x. not_null x >>= next)

abbrev value_of : Result ℕ Fault → ℕ
value_of (Ok x) = x
value_of (Err e) = 0

abbrev number_of : Result (ℕ × Kind × ℕ) Fault → ℕ
number_of (Ok x) = x.0
number_of (Err e) = 0

abbrev with_number : ℕ → Result (Kind × ℕ) Fault → Result (ℕ × Kind × ℕ) Fault
with_number o (Ok x) = Ok (o, x.0, x.1)
with_number o (Err e) = Err e

abbrev fault_of : {A : Type 0} → Fault → Result A Fault → Fault
fault_of e (Ok x) = e
fault_of e (Err d) = d

-- the object with its kind and its length
abbrev pub named : State → ℕ → Call (ℕ × Kind × ℕ)
named s o = for_object s o (λ k n. done {A = ℕ × Kind × ℕ} (o, k, n))

-- what follows for the object that was found
then_named : {A : Type 0} (z : Option ℕ) (s : State) (o n : ℕ) (kind : Kind) (next : ℕ → Call A) (f m g : Frames)
    (front rest : List Act) (answer : Result A Fault)
    → (not_null z >>= named s) f front (Ok (o, kind, n)) m → next o m rest answer g
    → (not_null z >>= next) f (front ++ rest) answer g
then_named None s o n kind next f m g front rest answer (inl y) q = absurd (let e = y.5.1 in cc)
then_named None s o n kind next f m g front rest answer (inr y) q = absurd (let e = y.1 in cc)
then_named (Some p) s o n kind next f m g front rest answer (inr y) q = absurd (let e = y.1 in cc)
then_named (Some p) s o n kind next f m g front rest answer (inl y) q =
    let found = y.6 in
    let none : front ≡ [] = y.4 ∙ (ap (λ l. l ++ y.3) y.5.0 ∙ found.2.0) in
    let same : o ≡ y.0 = ap number_of found.2.1 in
    let given : y.0 ≡ p = ap value_of y.5.1 in
    let still : m ≡ f = found.2.2 ∙ y.5.2 in
    inl (
      p,
      f,
      [],
      front ++ rest,
      refl,
      (refl, refl, refl),
      subst (λ l. next p f (l ++ rest) answer g) (sym none)
          (subst (λ h. next p h rest answer g) still (subst (λ r. next r m rest answer g) (same ∙ given) q)),
    )

refused_named : {A : Type 0} (z : Option ℕ) (s : State) (e : Fault) (next : ℕ → Call A) (f m : Frames) (acts : List Act)
    → (not_null z >>= named s) f acts (Err e) m → (not_null z >>= next) f acts (Err e) m
refused_named None s e next f m acts (inl y) = absurd (let d = y.5.1 in cc)
refused_named None s e next f m acts (inr y) = inr (y.0, ap (λ d. Err d) (ap (fault_of e) y.1), y.2)
refused_named (Some p) s e next f m acts (inl y) = absurd (let d = y.6.2.1 in cc)
refused_named (Some p) s e next f m acts (inr y) = absurd (let d = y.2.1 in cc)

module _ (c : Config) (last t : ℕ) (w : Word) where
  then_found : {A : Type 0} (s : State) (o n : ℕ) (kind : Kind) (next : ℕ → Call A) (f m g : Frames)
      (front rest : List Act) (answer : Result A Fault)
      → finding c last t s w f front (Ok (o, kind, n)) m → next o m rest answer g
      → at_named c last t w next f (front ++ rest) answer g
  then_found s o n kind next f m g front rest answer (inr y) q = absurd (let e = y.1 in cc)
  then_found s o n kind next f m g front rest answer (inl y) q = inl (
    y.0,
    y.1,
    y.2,
    y.3 ++ rest,
    ap (λ l. l ++ rest) y.4 ∙ append_assoc y.2 y.3 rest,
    y.5,
    then_named y.0 s o n kind next y.1 m g y.3 rest answer y.6 q,
  )

  refused_found : {A : Type 0} (s : State) (e : Fault) (next : ℕ → Call A) (f m : Frames) (acts : List Act)
      → finding c last t s w f acts (Err e) m → at_named c last t w next f acts (Err e) m
  refused_found s e next f m acts (inl y) = inl (y.0, y.1, y.2, y.3, y.4, y.5, refused_named y.0 s e next y.1 m y.3 y.6)
  refused_found s e next f m acts (inr y) = inr (y.0, ap (λ d. Err d) (ap (fault_of e) y.1), y.2)

  -- an object was found, and what follows was done
  pub ran_found : {A : Type 0} {p q r : PassView} {f m g : Frames} (s : State) (o n : ℕ) (kind : Kind)
      (next : ℕ → Call A) {answer : Result A Fault}
      → Ran p q f m (finding c last t s w) (Ok (o, kind, n)) → Ran q r m g (next o) answer
      → Ran p r f g (at_named c last t w next) answer
  ran_found {r = r} {f = f} {m = m} {g = g} s o n kind next {answer} a b =
      let v = window_then a.acts b.acts a.did b.did a.window b.window in
      record {
        acts = a.acts ++ b.acts;
        did = did_then a.acts b.acts a.did b.did;
        is = then_found s o n kind next f m g a.acts b.acts answer a.is b.is;
        begun = v.begun;
        window = v.window;
        grounds = answer_wider b.begun v.begun v.later [] (did_nothing r (did_legal b.acts b.did)) answer b.grounds;
      }

  -- none was found
  pub ran_not_found : {A : Type 0} {p q : PassView} {f m : Frames} (s : State) (e : Fault) (next : ℕ → Call A)
      → Ran p q f m (finding c last t s w) (Err e) → Ran p q f m (at_named c last t w next) (Err e)
  ran_not_found {f = f} {m = m} s e next a = record {
    acts = a.acts;
    did = a.did;
    is = refused_found s e next f m a.acts a.is;
    begun = a.begun;
    window = a.window;
    grounds = a.grounds;
  }

-- what follows a call of two parts follows the second
pub grouped : {A B C : Type 0} (first : Call A) (next : A → Call B) (last : B → Call C) (f g : Frames) (acts : List Act)
    (answer : Result C Fault) → (first >>= (λ x. next x >>= last)) f acts answer g
    → ((first >>= next) >>= last) f acts answer g
grouped first next last f g acts answer (inl y) = go y.6
  where
    go : (next y.0 >>= last) y.1 y.3 answer g → ((first >>= next) >>= last) f acts answer g
    go (inl z) = inl (
      z.0,
      z.1,
      y.2 ++ z.2,
      z.3,
      y.4 ∙ (ap (λ l. y.2 ++ l) z.4 ∙ sym (append_assoc y.2 z.2 z.3)),
      inl (y.0, y.1, y.2, z.2, refl, y.5, z.5),
      z.6,
    )
    go (inr z) = inr (z.0, z.1, inl (y.0, y.1, y.2, y.3, y.4, y.5, z.2))
grouped first next last f g acts answer (inr y) = inr (y.0, y.1, inr (y.0, refl, y.2))

-- the look at the header, by the number of the object too
ran_header : {p q : PassView} {f : Frames} (s : State) (o : ℕ) (h : HeaderParts)
    → Ran {A = Kind × ℕ} p q f f (header s o) (Ok (h.kind, h.length))
    → Ran p q f f (named s o) (Ok (o, h.kind, h.length))
ran_header s o h a = record {
  acts = a.acts;
  did = a.did;
  is = (a.is.0, a.is.1, (a.is.2.0, ap (with_number o) a.is.2.1, a.is.2.2));
  begun = a.begun;
  window = a.window;
  grounds = tt;
}

module _ {S : Type 0} {facts : S → Facts} {b c : S} {h : HeaderParts} {o : ℕ} where
  -- the look at a header takes one step, without an act
  pub spend_look : (f : Frames) → (facts c).stands ≡ (facts b).stands
      → (q : Called facts b c (HasObject o) (λ j k. header (state_of k) o) (Ok (h.kind, h.length))
      (by_steps 1 (Learns o h))) (k : Known) (s : (facts b).knows k) (m : HasObject o k)
      → Spending 1 (thread_state (facts b) k f) (thread_state (facts c) (q.ran k s m).0 f)
  spend_look f same q k s m =
      let y = q.ran k s m in
      let r = y.2 f in
      spend_acts f f 1 [] 1 (omega arith) (subst (λ l. Did (view k) (view y.0) l) r.is.2.0 r.did) y.3.1
      (ap (λ (z : Standing). z.fresh) same) q.hint_is

-- a call for the kind and the length of an object that is shown by its header
pub ran_for : {A : Type 0} {p q : PassView} {f g : Frames} (k : Known) (o : ℕ) (h : HeaderParts)
    (next : Kind → ℕ → Call A) {answer : Result A Fault} → ShowsObject o h k → Ran p q f g (next h.kind h.length) answer
    → Ran p q f g (for_object (state_of k) o next) answer
ran_for {f = f} {g = g} k o h next {answer} x r =
    record {
      acts = r.acts;
      did = r.did;
      is = (
        x.contents,
        x.is,
        subst (λ n. next n (length x.contents.words) f r.acts answer g) (sym x.says.kind)
            (subst (λ n. next h.kind n f r.acts answer g) (sym x.says.long) r.is),
      );
      begun = r.begun;
      window = r.window;
      grounds = r.grounds;
    }

-- the resolution of a reference
abbrev pub resolving : {S : Type 0} → (S → Facts) → S → Word → Call (Option ℕ)
resolving facts a w = resolved (facts a).stands.config (facts a).stands.last (facts a).stands.thread w

-- what a work does at the object that a reference names
abbrev pub work_at : {S A : Type 0} → (S → Facts) → S → Word → (State → ℕ → Call A) → State → Call A
work_at facts a w next s = at_named (facts a).stands.config (facts a).stands.last (facts a).stands.thread w (next s)

-- a header that was learned after steps that left what the pass held
pub learns_since : (o : ℕ) (h : HeaderParts) (j m k : Known) → keeps j m → Learns o h m k → Learns o h j k
learns_since o h j m k same l = (
  l.0,
  l.1 ∙ ap (λ (g : Holdings). with_header g o h) same,
  λ g e. l.2 g (ap (λ (z : Holdings). header_in o z.headers) same ∙ e),
)

module _ {S : Type 0} {facts : S → Facts} {a b : S} {f : Frames} (w : Word) where
  -- what was found is known, and what the pass held beside it need not be told
  pub finds : (answer : Result (ℕ × HeaderParts) Fault) → FindsBeside facts a b f w answer → Finds facts a b f w answer
  finds (Ok y) p = record {
    stands_is = p.stands_is;
    ran = λ k s m. let x = p.ran k s m in (x.0, x.1, x.2, (learnt y.0 y.1 k x.0 x.3.0, x.3.1));
  }
  finds (Err e) p =
      record { stands_is = p.stands_is; ran = λ k s m. let x = p.ran k s m in (x.0, x.1, x.2, (tt, x.3.1)) }

  -- the reference was refused
  pub finds_no_reference : {e : Fault} (answer : Result (ℕ × HeaderParts) Fault) → IsErrAnd answer (λ y. y ≡ e)
      → Resolves facts a b f (resolving facts a w) (Err e) → FindsBeside facts a b f w answer
  finds_no_reference (Ok x) given p = absurd given
  finds_no_reference {e} (Err d) given p = subst (λ y. FindsBeside facts a b f w (Err y)) (sym given) (record {
    stands_is = p.stands_is;
    ran = λ k s m. let x = p.ran k s m in (
      x.0,
      x.1,
      made_of (spend_more 1 (spending x.2)) (ran_err (λ z. not_null z >>= named (state_of x.0)) e x.2.ran),
      (x.3.0, x.3.1),
    );
  })

  -- the object that was found may be looked at
  pub may_look : {z : Option ℕ} {o : ℕ} → z ≡ Some o → Resolves facts a b f (resolving facts a w) (Ok z)
      → MayKnow facts a (Holds f) → MayKnow facts b (HasObject o)
  may_look is r some = let p = subst (λ y. Resolves facts a b f (resolving facts a w) (Ok y)) is r in
      ∥∥₁_map some (λ k. let x = p.ran k.0 k.1 k.2 in (x.0, x.1, x.3.2))

  -- it names no object
  pub finds_null : {z : Option ℕ} → z ≡ None → Resolves facts a b f (resolving facts a w) (Ok z)
      → FindsBeside facts a b f w (Err Null)
  finds_null is r = let p = subst (λ y. Resolves facts a b f (resolving facts a w) (Ok y)) is r in record {
    stands_is = p.stands_is;
    ran = λ k s m. let x = p.ran k s m in
        let l = did_legal x.2.ran.acts x.2.ran.did in (
          x.0,
          x.1,
          made_of (spend_more 1 (spending x.2)) (ran_then {next = λ z. not_null z >>= named (state_of x.0)} None x.2.ran
              (ran_err (named (state_of x.0)) Null (ran_refuse (view x.0) f Null tt l))),
          (x.3.0, x.3.1),
        );
  }

  pub finds_object : {c : S} {z : Option ℕ} {o : ℕ} {h : HeaderParts} → z ≡ Some o
      → Resolves facts a b f (resolving facts a w) (Ok z) → (facts c).stands ≡ (facts b).stands
      → Called facts b c (HasObject o) (λ j k. header (state_of k) o) (Ok (h.kind, h.length)) (by_steps 1 (Learns o h))
      → FindsBeside facts a c f w (Ok (o, h))
  finds_object {c} {z} {o} {h} is r same q =
      let p = subst (λ y. Resolves facts a b f (resolving facts a w) (Ok y)) is r in record {
        stands_is = still_before p.stands_is (as_before _ same);
        ran = λ k s m.
            let x = p.ran k s m in
            let y = q.ran x.0 x.1 x.3.2 in
            let look = y.2 f in
            let l = did_legal x.2.ran.acts x.2.ran.did in
            let d : Did (view x.0) (view y.0) [] = subst (λ l. Did (view x.0) (view y.0) l) look.is.2.0 look.did in (
              y.0,
              y.1,
              made_of (spend_last (spending x.2) (spend_look f same q x.0 x.1 x.3.2))
                  (ran_then {next = λ z. not_null z >>= named (state_of y.0)} (Some o) x.2.ran (ran_then
                  {next = named (state_of y.0)} o (ran_done (view x.0) f o l) (ran_header (state_of y.0) o h look))),
              (learns_since o h k x.0 y.0 x.3.0 y.3.0, holds_did x.0 y.0 f [] d tt x.3.1),
            );
      }

  -- WHAT WAS NOT FOUND REFUSES THE WORK, whatever follows
  pub finds_refused : {A : Type 0} {e : Fault} (next : State → ℕ → Call A) (answer : Result A Fault)
      → IsErrAnd answer (λ y. y ≡ e) → Finds facts a b f w (Err e)
      → Performed facts a b f f 1 (Holds f) (work_at facts a w next) answer (λ j k. Unit {0} × Holds f k)
  finds_refused {e = e} next answer given p = handed_on answer given (record {
    stands_is = p.stands_is;
    ran = λ k s m. let x = p.ran k s m in (
      x.0,
      x.1,
      made_of (spending x.2) (ran_not_found (facts a).stands.config (facts a).stands.last (facts a).stands.thread w
          (state_of x.0) e (next (state_of x.0)) x.2.ran),
      (tt, x.3.1),
    );
  })

  -- WHAT WAS FOUND, AND THE REST OF THE WORK, which may name the state that it leaves
  pub finds_next : {A : Type 0} {c : S} {g : Frames} {o : ℕ} {h : HeaderParts} {so : Known → Known → Type 0} (n : ℕ)
      (next : State → ℕ → Call A) {answer : Result A Fault} → Finds facts a b f w (Ok (o, h))
      → Performed facts b c f g n (λ k. HoldsHeader o h k × Holds f k) (λ s. next s o) answer (λ j k. so j k
      × Holds g k)
      → Performed facts a c f g (1 + n) (Holds f) (work_at facts a w next) answer (λ j k. Unit {0} × Holds g k)
  finds_next {o = o} {h = h} n next p q = record {
    stands_is = still_before p.stands_is q.stands_is;
    ran = λ k s m.
        let x = p.ran k s m in
        let y = q.ran x.0 x.1 x.3 in (
          y.0,
          y.1,
          made_of (spend_then (spending x.2) (spending y.2)) (ran_found (facts a).stands.config (facts a).stands.last
              (facts a).stands.thread w (state_of x.0) o h.length h.kind (next (state_of y.0)) x.2.ran y.2.ran),
          (tt, y.3.1),
        );
  }
