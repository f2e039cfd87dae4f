-- What tests refuse, and what follows where they refuse nothing.
use Rattle.std.proofs.Common.{◌≡◌, true, false, List, [], ◌∷◌, Result, Ok, Err, inl, inr, refl, sym}
use Rattle.jr_word.specs.declared.fault.Fault.{Fault}
use Rattle.jr_word.specs.declared.fault.Fault.TheVariants.{Barred, Busy, Moved, ObjectsFull, Raced, RowFull, SpaceFull}
use Rattle.jr_model.specs.declared.event.Act.{Act}
use Rattle.jr_model.specs.History.{History, IsLegal, PassView}
use Rattle.jr_model.specs.Frames.{Frames}
use Rattle.jr_model.specs.Refusals.{Grounds}
use Rattle.jr_model.specs.Calls.{Call, Ran}
use Rattle.jr_model.specs.Tests.{AreSilent, Tests, is_silent, refused_by, tested}
use Rattle.jr_model.proofs.Stays.{did_nothing}
use Rattle.jr_model.proofs.Windows.{window_nothing}

-- WHERE THEY REFUSE, nothing follows

pub tests_refuse : {A : Type 0} (ts : Tests) {e : Fault} (next : Call A) (f : Frames) → refused_by ts ≡ Err e
    → tested ts next f [] (Err e) f
tests_refuse [] next f is = absurd cc
tests_refuse ((true, d) ∷ ts) {e} next f is = inr (e, refl, (refl, sym is, refl))
tests_refuse ((false, d) ∷ ts) next f is = inl (tt, f, [], [], refl, (refl, refl, refl), tests_refuse ts next f is)

-- the refusal is that of a test
refusal_silent : (ts : Tests) {e : Fault} → AreSilent ts → refused_by ts ≡ Err e → is_silent e ≡ true
refusal_silent [] are is = absurd cc
refusal_silent ((true, d) ∷ ts) {e} are is = let same : d ≡ e = cc in let silent = are.0 in cc
refusal_silent ((false, d) ∷ ts) are is = refusal_silent ts are.1 is

-- who says nothing of the room needs no grounds there
silent_grounds : (e : Fault) → is_silent e ≡ true → (begun : History) (p : PassView) → Grounds begun p e
silent_grounds RowFull silent begun p = absurd cc
silent_grounds ObjectsFull silent begun p = absurd cc
silent_grounds (SpaceFull used) silent begun p = absurd cc
silent_grounds (Raced looked found) silent begun p = absurd cc
silent_grounds Barred silent begun p = absurd cc
silent_grounds (Busy n) silent begun p = absurd cc
silent_grounds (Moved looked found) silent begun p = absurd cc
silent_grounds _ silent begun p = tt

pub ran_stopped : {A : Type 0} (p : PassView) (f : Frames) (ts : Tests) {e : Fault} (next : Call A) → AreSilent ts
    → refused_by ts ≡ Err e → IsLegal p.config p.last p.seen → Ran p p f f (tested ts next) (Err e)
ran_stopped p f ts {e} next are is legal = record {
  acts = [];
  did = did_nothing p legal;
  is = tests_refuse ts next f is;
  begun = p.seen;
  window = window_nothing p;
  grounds = silent_grounds e (refusal_silent ts are is) p.seen p;
}

-- WHERE THEY REFUSE NOTHING, the rest follows

pub tests_pass : {A : Type 0} (ts : Tests) (next : Call A) (f g : Frames) (acts : List Act) (answer : Result A Fault)
    → refused_by ts ≡ Ok tt → next f acts answer g → tested ts next f acts answer g
tests_pass [] next f g acts answer is r = r
tests_pass ((true, d) ∷ ts) next f g acts answer is r = absurd cc
tests_pass ((false, d) ∷ ts) next f g acts answer is r =
    inl (tt, f, [], acts, refl, (refl, refl, refl), tests_pass ts next f g acts answer is r)

pub ran_tested : {A : Type 0} {p q : PassView} {f g : Frames} {answer : Result A Fault} (ts : Tests) (next : Call A)
    → refused_by ts ≡ Ok tt → Ran p q f g next answer → Ran p q f g (tested ts next) answer
ran_tested {f = f} {g = g} {answer = answer} ts next is r = record {
  acts = r.acts;
  did = r.did;
  is = tests_pass ts next f g r.acts answer is r.is;
  begun = r.begun;
  window = r.window;
  grounds = r.grounds;
}
