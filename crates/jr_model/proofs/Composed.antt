-- How calls are composed: what holds of the parts of a call holds of the call, whatever it is that holds.
use Rattle.std.proofs.Common.{◌≡◌, ⊎_elim, inl, inr, ℕ, zero, suc, Bool, true, false, cond, Some, List}
use Rattle.std.proofs.Common.{[], ◌∷◌, ◌++◌, length, Result, Ok, Err, refl, sym, ap, subst, ◌∙◌}
use Rattle.jr_word.specs.declared.kind.Kind.{Kind}
use Rattle.jr_word.specs.declared.fault.Fault.{Fault}
use Rattle.jr_word.specs.declared.fault.Fault.TheVariants.{Barred, Memory}
use Rattle.jr_model.specs.declared.event.Act.{Act}
use Rattle.jr_model.specs.declared.event.Act.TheVariants.{Gate}
use Rattle.jr_model.specs.declared.event.GateAct.TheVariants.{Enter, Knock, Leave, Withdraw}
use Rattle.jr_model.specs.State.{Contents, State}
use Rattle.jr_model.specs.Frames.{Frames}
use Rattle.jr_model.specs.Calls.{Call, ◌>>=◌, ◌>>◌, act, at_most, done, entered, for_object}
use Rattle.jr_model.specs.Calls.{one_of, opened, refuse, refuse_if, some_act, unless_memory_for}

-- what may hold between the frames before, the acts, and the frames after of a call that goes on
abbrev pub Going : Type 1
Going = Frames → List Act → Frames → Type 0

-- and of a call that is refused
abbrev pub Refusing : Type 1
Refusing = Frames → List Act → Fault → Frames → Type 0

-- WHAT A CALL GIVES: where it goes on, the one holds, and where it is refused, the other
pub record Gives (Good : Going) (Bad : Refusing) {A : Type 0} (call : Call A) : Type 0 where
  pub goes : (old new : Frames) (acts : List Act) (x : A) → call old acts (Ok x) new → Good old acts new
  pub fails : (old new : Frames) (acts : List Act) (e : Fault) → call old acts (Err e) new → Bad old acts e new

-- what two calls give is, where one comes after the other, what both give together;
-- the second may be refused for other reasons
pub record Composes (First : Going) (Bad : Refusing) (Second : Going) (Worse : Refusing) (Both : Going) : Type 0 where
  pub joins : (f g h : Frames) (xs ys : List Act) → First f xs g → Second g ys h → Both f (xs ++ ys) h
  pub behind : (f g h : Frames) (xs ys : List Act) (e : Fault) → First f xs g → Worse g ys e h → Bad f (xs ++ ys) e h

-- no call gives this
abbrev pub Never : Refusing
Never old acts e new = ⊥

pub same_fault : {A : Type 0} (e e' : Fault) → ◌≡◌ {A = Result A Fault} (Err e) (Err e') → e' ≡ e
same_fault e e' is = cc

-- what holds of these acts and frames
placed : (P : List Act → Frames → Type 0) {acts xs : List Act} {new old : Frames} → acts ≡ xs → new ≡ old → P xs old
    → P acts new
placed P {xs = xs} {new = new} is same p = subst (λ l. P l new) (sym is) (subst (P xs) (sym same) p)

module _ {Good : Going} {Bad : Refusing} where
  pub done_gives : {A : Type 0} (x : A) → ((f : Frames) → Good f [] f) → Gives Good Bad (done x)
  done_gives x good = record {
    goes = λ old new acts y r. placed (Good old) r.0 r.2 (good old);
    fails = λ old new acts e r. absurd (let bad = r.1 in cc);
  }

  pub refuse_gives : {A : Type 0} (e : Fault) → ((f : Frames) → Bad f [] e f) → Gives Good Bad (refuse {A = A} e)
  refuse_gives {A} e bad = record {
    goes = λ old new acts y r. absurd (let never = r.1 in cc);
    fails = λ old new acts x r.
        subst (λ z. Bad old acts z new) (same_fault {A = A} x e r.1) (placed (λ l g. Bad old l e g) r.0 r.2 (bad old));
  }

  -- a test, which is known to hold where it refuses
  pub refuse_if_gives : (b : Bool) (e : Fault) → ((f : Frames) → Good f [] f) → (b ≡ true → (f : Frames) → Bad f [] e f)
      → Gives Good Bad (refuse_if b e)
  refuse_if_gives true e good bad = refuse_gives e (bad refl)
  refuse_if_gives false e good bad = done_gives tt good

  pub act_gives : (a : Act) → ((f : Frames) → Good f (a ∷ []) f) → Gives Good Bad (act a)
  act_gives a good = record {
    goes = λ old new acts x r. placed (Good old) r.0 r.2 (good old);
    fails = λ old new acts e r. absurd (let bad = r.1 in cc);
  }

  pub some_act_gives : {X : Type 0} (a : X → Act) → ((x : X) (f : Frames) → Good f (a x ∷ []) f)
      → Gives Good Bad (some_act a)
  some_act_gives a good = record {
    goes = λ old new acts x r. placed (Good old) r.1 r.3 (good r.0 old);
    fails = λ old new acts e r. absurd (let bad = r.2 in cc);
  }

  pub either_gives : {A : Type 0} {p q : Call A} → Gives Good Bad p → Gives Good Bad q → Gives Good Bad (one_of p q)
  either_gives {A} {p} {q} a b = record { goes = goes; fails = fails }
    where
      goes : (old new : Frames) (acts : List Act) (x : A) → one_of p q old acts (Ok x) new → Good old acts new
      goes old new acts x (inl r) = a.goes old new acts x r
      goes old new acts x (inr r) = b.goes old new acts x r

      fails : (old new : Frames) (acts : List Act) (e : Fault) → one_of p q old acts (Err e) new → Bad old acts e new
      fails old new acts e (inl r) = a.fails old new acts e r
      fails old new acts e (inr r) = b.fails old new acts e r

  pub cond_gives : {A : Type 0} (b : Bool) {p q : Call A} → Gives Good Bad p → Gives Good Bad q
      → Gives Good Bad (cond b p q)
  cond_gives true p q = p
  cond_gives false p q = q

  -- a call that asks the frames
  pub framed_gives : {A : Type 0} (call : Frames → Call A) → ((f : Frames) → Gives Good Bad (call f))
      → Gives Good Bad (λ old. call old old)
  framed_gives call q = record {
    goes = λ old new acts x r. (q old).goes old new acts x r;
    fails = λ old new acts e r. (q old).fails old new acts e r;
  }

  -- work at an object, of which it is known that it is there
  pub object_so : {A : Type 0} (s : State) (o : ℕ) (next : Kind → ℕ → Call A)
      → ((x : Contents) → s.objects o ≡ Some x → Gives Good Bad (next x.kind (length x.words)))
      → Gives Good Bad (for_object s o next)
  object_so s o next q = record {
    goes = λ old new acts x r. (q r.0 r.1).goes old new acts x r.2;
    fails = λ old new acts e r. (q r.0 r.1).fails old new acts e r.2;
  }

  pub object_gives : {A : Type 0} (s : State) (o : ℕ) {next : Kind → ℕ → Call A}
      → ((k : Kind) (n : ℕ) → Gives Good Bad (next k n)) → Gives Good Bad (for_object s o next)
  object_gives s o {next} q = object_so s o next (λ x is. q x.kind (length x.words))

  pub memory_gives : {A : Type 0} {work : Call A} (n : ℕ) → ((f : Frames) → Bad f [] Memory f) → Gives Good Bad work
      → Gives Good Bad (unless_memory_for n work)
  memory_gives zero bad p = p
  memory_gives (suc n) bad p = either_gives p (refuse_gives Memory bad)

  pub at_most_gives : {A : Type 0} {work : Call A} (most : ℕ) → Gives Good Bad work → Gives Good Bad (at_most most work)
  at_most_gives most p = record {
    goes = λ old new acts x r. p.goes old new acts x r.1;
    fails = λ old new acts e r. p.fails old new acts e r.1;
  }

-- what gives more gives this
pub weaker_gives : {Good Less : Going} {Bad Worse : Refusing} {A : Type 0} {call : Call A}
    → ((f g : Frames) (xs : List Act) → Good f xs g → Less f xs g)
    → ((f g : Frames) (xs : List Act) (e : Fault) → Bad f xs e g → Worse f xs e g) → Gives Good Bad call
    → Gives Less Worse call
weaker_gives good bad p = record {
  goes = λ old new acts x r. good old new acts (p.goes old new acts x r);
  fails = λ old new acts e r. bad old new acts e (p.fails old new acts e r);
}

-- ONE CALL AND THEN ANOTHER, which may rest on what the one did
pub bind_so : {A B : Type 0} {First Second Both : Going} {Bad Worse : Refusing} {first : Call A} {next : A → Call B}
    → Composes First Bad Second Worse Both → Gives First Bad first
    → ((old mid : Frames) (acts : List Act) (x : A) → first old acts (Ok x) mid → Gives Second Worse (next x))
    → Gives Both Bad (first >>= next)
bind_so {A} {B} {Both = Both} {Bad = Bad} {first = first} {next = next} c p q = record { goes = goes; fails = fails }
  where
    goes : (old new : Frames) (acts : List Act) (y : B) → (first >>= next) old acts (Ok y) new → Both old acts new
    goes old new acts y (inl r) = subst (λ l. Both old l new) (sym r.4)
        (c.joins old r.1 new r.2 r.3 (p.goes old r.1 r.2 r.0 r.5) ((q old r.1 r.2 r.0 r.5).goes r.1 new r.3 y r.6))
    goes old new acts y (inr r) = absurd (let bad = r.1 in cc)

    fails : (old new : Frames) (acts : List Act) (e : Fault) → (first >>= next) old acts (Err e) new
        → Bad old acts e new
    fails old new acts e (inl r) = subst (λ l. Bad old l e new) (sym r.4)
        (c.behind old r.1 new r.2 r.3 e (p.goes old r.1 r.2 r.0 r.5) ((q old r.1 r.2 r.0 r.5).fails r.1 new r.3 e r.6))
    fails old new acts e (inr r) =
        subst (λ z. Bad old acts z new) (same_fault {A = B} e r.0 r.1) (p.fails old new acts r.0 r.2)

-- the same, whatever the one did
pub bind_gives : {A B : Type 0} {First Second Both : Going} {Bad Worse : Refusing} {first : Call A} {next : A → Call B}
    → Composes First Bad Second Worse Both → Gives First Bad first → ((x : A) → Gives Second Worse (next x))
    → Gives Both Bad (first >>= next)
bind_gives c p q = bind_so c p (λ old mid acts x r. q x)

-- an act and then a call, which is known to come behind it
pub act_then : {A : Type 0} {Good : Going} {Bad : Refusing} (a : Act) {next : Call A}
    → Gives (λ f xs g. Good f (a ∷ xs) g) (λ f xs e g. Bad f (a ∷ xs) e g) next → Gives Good Bad (act a >> next)
act_then {A} {Good} {Bad} a {next} q = record { goes = goes; fails = fails }
  where
    goes : (old new : Frames) (acts : List Act) (y : A) → (act a >> next) old acts (Ok y) new → Good old acts new
    goes old new acts y (inl r) = subst (λ f. Good f acts new) r.5.2
        (subst (λ l. Good r.1 l new) (sym (r.4 ∙ ap (λ l. l ++ r.3) r.5.0)) (q.goes r.1 new r.3 y r.6))
    goes old new acts y (inr r) = absurd (let bad = r.1 in cc)

    fails : (old new : Frames) (acts : List Act) (e : Fault) → (act a >> next) old acts (Err e) new → Bad old acts e new
    fails old new acts e (inl r) = subst (λ f. Bad f acts e new) r.5.2
        (subst (λ l. Bad r.1 l e new) (sym (r.4 ∙ ap (λ l. l ++ r.3) r.5.0)) (q.fails r.1 new r.3 e r.6))
    fails old new acts e (inr r) = absurd (let bad = r.2.1 in cc)

pub some_act_then : {X A : Type 0} {Good : Going} {Bad : Refusing} (a : X → Act) {next : X → Call A}
    → ((x : X) → Gives (λ f xs g. Good f (a x ∷ xs) g) (λ f xs e g. Bad f (a x ∷ xs) e g) (next x))
    → Gives Good Bad (some_act a >>= next)
some_act_then {X} {A} {Good} {Bad} a {next} q = record { goes = goes; fails = fails }
  where
    whole : (acts front rest : List Act) (x y : X) → acts ≡ front ++ rest → front ≡ a y ∷ []
        → ◌≡◌ {A = Result X Fault} (Ok x) (Ok y) → acts ≡ a x ∷ rest
    whole acts front rest x y is here same =
        is ∙ (ap (λ l. l ++ rest) here ∙ ap (λ z. a z ∷ rest) (let both = same in cc))

    goes : (old new : Frames) (acts : List Act) (y : A) → (some_act a >>= next) old acts (Ok y) new → Good old acts new
    goes old new acts y (inl r) = subst (λ f. Good f acts new) r.5.3 (subst (λ l. Good r.1 l new)
        (sym (whole acts r.2 r.3 r.0 r.5.0 r.4 r.5.1 r.5.2)) ((q r.0).goes r.1 new r.3 y r.6))
    goes old new acts y (inr r) = absurd (let bad = r.1 in cc)

    fails : (old new : Frames) (acts : List Act) (e : Fault) → (some_act a >>= next) old acts (Err e) new
        → Bad old acts e new
    fails old new acts e (inl r) = subst (λ f. Bad f acts e new) r.5.3 (subst (λ l. Bad r.1 l e new)
        (sym (whole acts r.2 r.3 r.0 r.5.0 r.4 r.5.1 r.5.2)) ((q r.0).fails r.1 new r.3 e r.6))
    fails old new acts e (inr r) = absurd (let bad = r.2.2 in cc)

-- work in a stay of its own
pub entered_gives : {A : Type 0} {Good Whole : Going} {Bad Worse : Refusing} {work : Call A}
    → ((f g : Frames) (xs : List Act) → Good f xs g → Whole f (Gate Enter ∷ xs ++ Gate Leave ∷ []) g)
    → ((f g : Frames) (xs : List Act) (e : Fault) → Bad f xs e g → Worse f (Gate Enter ∷ xs ++ Gate Leave ∷ []) e g)
    → ((f : Frames) → Worse f (Gate Knock ∷ Gate Withdraw ∷ []) Barred f) → Gives Good Bad work
    → Gives Whole Worse (entered work)
entered_gives {A} {Whole = Whole} {Worse = Worse} {work = work} good bad barred p =
    record { goes = goes; fails = fails }
  where
    goes : (old new : Frames) (acts : List Act) (x : A) → entered work old acts (Ok x) new → Whole old acts new
    goes old new acts x (inl r) = absurd (let never = r.1 in cc)
    goes old new acts x (inr r) = subst (λ l. Whole old l new) (sym r.1) (good old new r.0 (p.goes old new r.0 x r.2))

    fails : (old new : Frames) (acts : List Act) (e : Fault) → entered work old acts (Err e) new → Worse old acts e new
    fails old new acts e (inl r) = subst (λ z. Worse old acts z new) (same_fault {A = A} e Barred r.1)
        (placed (λ l g. Worse old l Barred g) r.0 r.2 (barred old))
    fails old new acts e (inr r) =
        subst (λ l. Worse old l e new) (sym r.1) (bad old new r.0 e (p.fails old new r.0 e r.2))

-- work in a stay that goes on where it is not refused; where it is, it is work in a stay of its own
pub opened_gives : {A : Type 0} {Good Whole : Going} {Bad Worse : Refusing} {work : Call A}
    → ((f g : Frames) (xs : List Act) → Good f xs g → Whole f (Gate Enter ∷ xs) g)
    → ((f g : Frames) (xs : List Act) (e : Fault) → Bad f xs e g → Worse f (Gate Enter ∷ xs ++ Gate Leave ∷ []) e g)
    → ((f : Frames) → Worse f (Gate Knock ∷ Gate Withdraw ∷ []) Barred f) → Gives Good Bad work
    → Gives Whole Worse (opened work)
opened_gives {A} {Whole = Whole} {Worse = Worse} {work = work} good bad barred p = record { goes = goes; fails = fails }
  where
    goes : (old new : Frames) (acts : List Act) (x : A) → opened work old acts (Ok x) new → Whole old acts new
    goes old new acts x (inl r) = absurd (let never = r.1 in cc)
    goes old new acts x (inr r) =
        subst (λ l. Whole old l new) (sym r.1.0) (good old new r.0 (p.goes old new r.0 x r.1.1))

    fails : (old new : Frames) (acts : List Act) (e : Fault) → opened work old acts (Err e) new → Worse old acts e new
    fails old new acts e r =
        (entered_gives {Whole = λ f xs g. Unit {0}} {Worse = Worse} (λ f g xs q. tt) bad barred p).fails old new acts e
        (⊎_elim (λ x. inl x) (λ x. inr (x.0, x.1.0, x.1.1)) r)
