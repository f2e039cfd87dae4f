-- A room that its last owner closes, once he has collected.
use Rattle.std.proofs.Common.{inl, inr, ℕ, Result, Ok, Err, IfOk, IfErr, sym, subst}
use mathlib.Core.Logic.{dite}
use native.Mathlib.Decide.{ℕ_discrete}
use Rattle.jr_model.specs.declared.summary.Summary.{Summary}
use Rattle.jr_steps.specs.declared.known.Known.{Known}
use Rattle.jr_steps.specs.Knowing.{view}
use Rattle.jr_rule.specs.declared.closing.Left.{Left}
use Rattle.jr_rule.specs.declared.pass.Pass.{Pass}
use Rattle.jr_rule.specs.declared.room.Room.{Room}
use Rattle.jr_rule.specs.Passes.{Closes, holder_of, known_of}
use Rattle.jr_rule.specs.Rooms.{IsLeft}
use Rattle.jr_threads.specs.Closing.{ClosesCollected, HasNoGarbage, HasSweptAll}
use Rattle.jr_owned.specs.Owners.{IsLeftCollecting}
use Rattle.jr_threads.proofs.Closed.{same_end}

closes_so : (k swept : Known) (s : Summary) → HasSweptAll (view k) (view swept) → Closes swept s → ClosesCollected k s
closes_so k swept s h closes = record {
  swept = swept;
  collects = h;
  closes = closes;
  nothing = λ done. subst (HasNoGarbage swept.config) (sym (same_end swept closes.met closes.ends.whole closes.goes
      closes.ends.begins closes.ends.own closes.ends.legal (λ t l. dite (ℕ_discrete swept.thread t)
      (λ e. inl e) (λ ne. inr (done t l (λ e. ne (sym e))))))) h.nothing;
}

pub collected_closes : {L : Type 0} (k swept : Known) → HasSweptAll (view k) (view swept) → (r : Result Summary L)
    → IfOk r (Closes swept) → IfOk r (ClosesCollected k)
collected_closes k swept h (Ok s) c = closes_so k swept s h c
collected_closes k swept h (Err l) c = tt

pub collected_left : (fits : ℕ) (room : Room 4294967295) (p swept : Pass)
    → HasSweptAll (view (known_of p)) (view (known_of swept)) → (r : Result Summary (Left 4294967295))
    → IfErr r (IsLeft room swept) → IfErr r (IsLeftCollecting fits room (holder_of p))
collected_left fits room p swept h (Ok s) l = tt
collected_left fits room p swept h (Err left) l = record {
  same = l.same;
  of_room = l.of_room;
  why = inr (
    holder_of swept,
    h,
    record {
      count = l.count;
      fault = l.fault;
      some = l.some;
      is = l.is;
      same = l.same;
      of_room = l.of_room;
      took = l.took;
    },
  );
}
