-- Room for one local reference more.
use Rattle.std.proofs.Common.{◌≡◌, ◌≢◌, ◌<◌, ℕ, false, nat_lt, IsTrue, [], Ok, Err}
use Rattle.std.proofs.Common.{Result, length, inl, refl, sym, ap, subst, arith}
use Rattle.std.proofs.lemmas.Bool.Decides.{nat_tests}
use Rattle.jr_word.specs.declared.config.Config.{Config}
use Rattle.jr_word.specs.declared.fault.Fault.{Fault}
use Rattle.jr_word.specs.declared.fault.Fault.TheVariants.{LocalsFull}
use Rattle.jr_model.specs.declared.event.Role.TheVariants.{Within}
use Rattle.jr_model.specs.State.{Handle}
use Rattle.jr_model.specs.History.{PassView, IsLegal}
use Rattle.jr_model.specs.Frames.{Frames, free_places, is_free}
use Rattle.jr_model.specs.Calls.{Call, Ran, refuse_if, ◌>>=◌}
use Rattle.jr_model.specs.References.{room_for}
use Rattle.jr_model.proofs.Counts.{count_none}
use Rattle.jr_steps.specs.Knowing.{Facts}
use Rattle.jr_frames.specs.Table.{Table, IsNext}
use Rattle.jr_frames.specs.Ready.{StandsReady}
use Rattle.jr_frames.proofs.Reading.{ran_refused, ran_at}

below_one : (n : ℕ) → n ≢ 0 → nat_lt n 1 ≡ false
below_one n ne = grind (arith, nat_tests)

-- where a place is free, there is room for one
free_room : (last : ℕ) (f : Frames) (p : ℕ) → p < length f.given → IsTrue (is_free last f p)
    → nat_lt (free_places last f) 1 ≡ false
free_room last f p l free =
    below_one (free_places last f) (λ e. let no = count_none (length f.given) (is_free last f) e p l in cc)

module _ (c : Config) (last t : ℕ) where
  -- what follows the test for room
  pub room_ran : {B : Type 0} {p q : PassView} (f : Frames) {g : Frames} {next : Unit {0} → Call B}
      {answer : Result B Fault} → nat_lt (free_places last f) 1 ≡ false → Ran p q f g (next tt) answer
      → Ran p q f g (room_for c last t 1 >>= next) answer
  room_ran f room r = record {
    acts = r.acts;
    did = r.did;
    is = inl (
      tt,
      f,
      [],
      r.acts,
      refl,
      subst (λ b. refuse_if b LocalsFull f [] (Ok tt) f) (sym room) (refl, refl, refl),
      r.is,
    );
    begun = r.begun;
    window = r.window;
    grounds = r.grounds;
  }

  -- no place is free
  pub full_ran : {p : PassView} {f : Frames} {B : Type 0} (next : Unit {0} → Call B) → free_places last f ≡ 0
      → IsLegal p.config p.last p.seen → Ran p p f f (room_for c last t 1 >>= next) (Err LocalsFull)
  full_ran {p} {f} next none l =
      ran_at (room_for c last t 1 >>= next) (λ acts is. is)
      (ran_refused p f (nat_lt (free_places last f) 1) LocalsFull next (ap (λ n. nat_lt n 1) none) tt l)

module _ {S : Type 0} {facts : S → Facts} where
  pub room_at : {a : S} {t : Table} (h : Handle) → StandsReady facts Within a t → IsNext t h
      → nat_lt (free_places (facts a).stands.last t.frames) 1 ≡ false
  room_at {t = t} h r next = subst (λ n. nat_lt (free_places n t.frames) 1 ≡ false) r.own.last
      (free_room t.last t.frames h.index next.place next.free)
