-- What the refusals of calls say of the shared room was so.
use Rattle.std.proofs.Common.{◌≡◌, ℕ, Option, Some, List, [], ◌∷◌, ◌++◌, refl, subst}
use mathlib.Core.List.{IsPrefix}
use Rattle.jr_word.specs.declared.fault.Fault.{Fault}
use Rattle.jr_word.specs.declared.fault.Fault.TheVariants.{RowFull, ObjectsFull, SpaceFull, Raced, Barred, Busy}
use Rattle.jr_model.specs.declared.event.Act.{Act}
use Rattle.jr_model.specs.declared.event.Act.TheVariants.{Gate, ShutBusy, ReserveFull, ReserveLost}
use Rattle.jr_model.specs.declared.event.GateAct.TheVariants.{Knock}
use Rattle.jr_model.specs.History.{History, by, PassView, Did}
use Rattle.jr_model.specs.Refusals.{WasTaken, LostSpace, Grounds, WasSo}
use Rattle.jr_model.specs.Calls.{Call}
use Rattle.jr_model.specs.TrueRefusals.{RefusesTruly}
use Rattle.jr_model.proofs.Moments.{prefix_trans, taken}
use Rattle.jr_model.proofs.OwnActs.{IsAmong, act_among, seen_among}
use Rattle.jr_model.proofs.ShownRefusals.{LosesOnly, LoseOnly, IsShown, Purpose}
use Rattle.jr_model.proofs.Lawful.{IsLawful}

-- WHAT A CALL SHOWS WAS SO

lose_among : (lost : Option ℕ) (a : Act) (acts front rest : List Act) → acts ≡ front ++ a ∷ rest → LoseOnly lost acts
    → LosesOnly lost a
lose_among lost a acts [] rest is l = (subst (LoseOnly lost) is l).0
lose_among lost a acts (b ∷ front) rest is l =
    lose_among lost a (front ++ a ∷ rest) front rest refl (subst (LoseOnly lost) is l).1

module _ (asked : Purpose) (old new : PassView) (begun : History) (acts : List Act) (d : Did old new acts)
    (from : IsPrefix old.seen begun) where
  -- the reservation that was lost is the one that was asked for
  lost_so : (looked found : ℕ) → ((n : ℕ) × LostSpace n begun new looked found) → LoseOnly (Some asked.words) acts
      → LostSpace asked.words begun new looked found
  lost_so looked found w only =
      let l = w.1.lost in
      let to : IsPrefix old.seen l.before = prefix_trans old.seen begun l.before from l.from in
      let seen = subst (λ t. new.seen ≡ l.before ++ by t (ReserveLost w.0 looked found) ∷ l.since) d.thread l.taken in
      let among = seen_among (ReserveLost w.0 looked found) l.before l.since to seen acts d in
      let it : Some asked.words ≡ Some w.0 =
      lose_among (Some asked.words) (ReserveLost w.0 looked found) acts among.0 among.1 among.2 only in
      subst (λ n. LostSpace n begun new looked found) (let same : w.0 ≡ asked.words = cc in same) w.1

  at_act : (a : Act) → IsAmong a acts → WasTaken old.seen new a
  at_act a among = taken a d (act_among a acts among d)

  was_so : (e : Fault) → Grounds begun new e → IsShown asked e acts → WasSo asked.words begun old new e
  was_so RowFull g s = g
  was_so ObjectsFull g s = g
  was_so (SpaceFull used) g s = at_act (ReserveFull asked.words used) s.0
  was_so (Raced looked found) g s = lost_so looked found g s.1
  was_so Barred g s = at_act (Gate Knock) s.0
  was_so (Busy n) g s = at_act (ShutBusy n) s.0
  was_so _ g s = g

-- a lawful call refuses truly
pub truly : {asked : Purpose} {last thread : ℕ} {A : Type 0} {call : Call A} → IsLawful asked last thread call
    → RefusesTruly asked.words call
truly {asked} p old new f g e r =
    was_so asked old new r.begun r.acts r.did r.window.from e r.grounds (p.fails f g r.acts e r.is).shown
