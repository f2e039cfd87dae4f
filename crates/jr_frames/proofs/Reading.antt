-- Tests and looks, for one thing that was known.
use Rattle.std.proofs.Common.{◌≡◌, ℕ, Bool, true, false, ◌||◌, cond, Option, Some, None, List}
use Rattle.std.proofs.Common.{[], ◌∷◌, Result, Ok, Err, IfErr, inl, inr, refl, sym, subst}
use Rattle.jr_word.specs.declared.fault.Fault.{Fault}
use Rattle.jr_word.specs.declared.fault.Fault.TheVariants as fault
use Rattle.jr_model.specs.declared.event.Found.{Found}
use Rattle.jr_model.specs.declared.event.Found.TheVariants.{Object, Cleared, Stale}
use Rattle.jr_model.specs.declared.event.Act.{Act}
use Rattle.jr_model.specs.declared.event.Act.TheVariants.{Look}
use Rattle.jr_model.specs.State.{Handle}
use Rattle.jr_model.specs.History.{PassView, IsLegal, Did}
use Rattle.jr_model.specs.Frames.{Frames, object_of}
use Rattle.jr_model.specs.Refusals.{Grounds}
use Rattle.jr_model.specs.Calls.{Call, Ran, refuse_if, done, some_act, ◌>>=◌}
use Rattle.jr_model.specs.Checks.{is_local, type_found, type_local, Parts}
use Rattle.jr_model.specs.Parts.{looked_at, local_answer, local_object, found_answer, found_object, type_at}
use Rattle.jr_model.proofs.Stays.{did_nothing}
use Rattle.jr_model.proofs.Windows.{window_nothing}
use Rattle.jr_model.proofs.Runs.{ran_some_act, ran_refuse, ran_done, ran_then, ran_give, did_legal}

-- a test that refuses, and one that is passed
pub ran_refused : {B : Type 0} (p : PassView) (f : Frames) (b : Bool) (e : Fault) (next : Unit {0} → Call B) → b ≡ true
    → Grounds p.seen p e → IsLegal p.config p.last p.seen → Ran p p f f (refuse_if b e >>= next) (Err e)
ran_refused p f true e next is g l = record {
  acts = [];
  did = did_nothing p l;
  is = inr (e, refl, (refl, refl, refl));
  begun = p.seen;
  window = window_nothing p;
  grounds = g;
}
ran_refused p f false e next is g l = absurd cc

pub ran_passed : {B : Type 0} {p q : PassView} {f g : Frames} {answer : Result B Fault} (b : Bool) (e : Fault)
    (next : Unit {0} → Call B) → b ≡ false → Ran p q f g (next tt) answer → Ran p q f g (refuse_if b e >>= next) answer
ran_passed {f} false e next is r = record {
  acts = r.acts;
  did = r.did;
  is = inl (tt, f, [], r.acts, refl, (refl, refl, refl), r.is);
  begun = r.begun;
  window = r.window;
  grounds = r.grounds;
}
ran_passed true e next is r = absurd cc

-- what was done is also another call's, where each way through the one is a way through the other
pub ran_at : {A : Type 0} {p q : PassView} {f g : Frames} {call : Call A} {answer : Result A Fault} (other : Call A)
    → ((acts : List Act) → call f acts answer g → other f acts answer g) → Ran p q f g call answer
    → Ran p q f g other answer
ran_at other same r = record {
  acts = r.acts;
  did = r.did;
  is = same r.acts r.is;
  begun = r.begun;
  window = r.window;
  grounds = r.grounds;
}

-- one of two tests holds, or neither
pub either_first : (b d : Bool) → b ≡ true → (b || d) ≡ true
either_first true d e = refl
either_first false d e = absurd cc

pub either_second : (b d : Bool) → d ≡ true → (b || d) ≡ true
either_second true d e = refl
either_second false d e = e

pub neither : (b d : Bool) → b ≡ false → d ≡ false → (b || d) ≡ false
neither false d e e' = e'
neither true d e e' = absurd cc

pub not_first : (b d : Bool) → (b || d) ≡ false → b ≡ false
not_first false d e = refl
not_first true d e = absurd cc

pub not_second : (b d : Bool) → (b || d) ≡ false → d ≡ false
not_second false d e = e
not_second true d e = absurd cc

-- two tests with one refusal
pub ran_either : {B : Type 0} (p : PassView) (f : Frames) (b d : Bool) (e : Fault) (next : Unit {0} → Call B)
    → (b || d) ≡ true → Grounds p.seen p e → IsLegal p.config p.last p.seen
    → Ran p p f f (refuse_if b e >>= (λ u. refuse_if d e >>= next)) (Err e)
ran_either p f true d e next is g l = ran_refused p f true e _ refl g l
ran_either p f false d e next is g l = ran_passed false e _ refl (ran_refused p f d e next is g l)

pub ran_neither : {B : Type 0} {p q : PassView} {f g : Frames} {answer : Result B Fault} (b d : Bool) (e : Fault)
    (next : Unit {0} → Call B) → (b || d) ≡ false → Ran p q f g (next tt) answer
    → Ran p q f g (refuse_if b e >>= (λ u. refuse_if d e >>= next)) answer
ran_neither false d e next is r = ran_passed false e _ refl (ran_passed d e next is r)
ran_neither true d e next is r = absurd cc

found_ran : (p : PassView) (f : Frames) (r : Found) → IsLegal p.config p.last p.seen
    → Ran p p f f (found_object r) (found_answer r)
found_ran p f (Object o) l = ran_done p f (Some o) l
found_ran p f Cleared l = ran_done p f None l
found_ran p f Stale l = ran_refuse p f fault.Stale tt l

local_is : (z : Option ℕ) (f : Frames) → local_object z f [] (local_answer z) f
local_is (Some o) f = (refl, refl, refl)
local_is None f = (refl, refl, refl)

local_grounds : (p : PassView) (z : Option ℕ) → IfErr (local_answer z) (Grounds p.seen p)
local_grounds p (Some o) = tt
local_grounds p None = tt

-- a look at a local reference takes no step
pub ran_local : (p : PassView) (f : Frames) (h : Handle) → is_local h ≡ true → IsLegal p.config p.last p.seen
    → Ran p p f f (looked_at h) (local_answer (object_of f h))
ran_local p f h b l =
    subst (λ c. Ran p p f f (cond c (λ old. local_object (object_of old h) old) (some_act (Look h) >>= found_object))
    (local_answer (object_of f h))) (sym b)
    (record {
      acts = [];
      did = did_nothing p l;
      is = local_is (object_of f h) f;
      begun = p.seen;
      window = window_nothing p;
      grounds = local_grounds p (object_of f h);
    })

pub ran_remote : {p q : PassView} (f : Frames) (h : Handle) (r : Found) → is_local h ≡ false → Did p q (Look h r ∷ [])
    → Ran p q f f (looked_at h) (found_answer r)
ran_remote {p} {q} f h r b d = subst (λ c. Ran p q f f
    (cond c (λ old. local_object (object_of old h) old) (some_act (Look h) >>= found_object)) (found_answer r)) (sym b)
    (ran_then r (ran_some_act f (Look h) r tt tt d) (found_ran q f r (did_legal (Look h r ∷ []) d)))

-- the type of a reference that is not local
pub ran_remote_type : {p q : PassView} (f : Frames) (h : Handle) (r : Found) → is_local h ≡ false
    → Did p q (Look h r ∷ []) → Ran p q f f (type_at (Parts h)) (Ok (type_found h.kind r))
ran_remote_type {p} {q} f h r b d = subst (λ y. Ran p q f f (cond y (λ old. done (type_local (object_of old h)) old)
    (some_act (Look h) >>= (λ x. done (type_found h.kind x)))) (Ok (type_found h.kind r))) (sym b)
    (ran_give (type_found h.kind) r (ran_some_act f (Look h) r tt tt d))
