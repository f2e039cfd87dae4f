-- The refusals that a stress may make are those of the machine.
use Rattle.std.proofs.Common.{◌≤◌, ◌<◌, ◌+◌, ℕ, zero, suc, Option, Some, None, IsSome, List, [], ◌∷◌, ◌++◌}
use Rattle.std.proofs.Common.{length, replicate, Ok, Err, inl, inr, refl, sym, ap, subst, arith, le-ltb}
use Rattle.std.proofs.lemmas.List.{length-replicate}
use Rattle.jr_word.specs.declared.config.Config.{Config}
use Rattle.jr_word.specs.declared.fault.Fault.{Fault}
use Rattle.jr_word.specs.declared.fault.Fault.TheVariants as fault
use Rattle.jr_word.specs.declared.handle.RefKind.{RefKind}
use Rattle.jr_word.specs.declared.kind.Kind.{Kind}
use Rattle.jr_model.specs.declared.event.Act.{Act}
use Rattle.jr_model.specs.declared.event.Act.TheVariants.{Reserve, ReserveFull, ReserveLost}
use Rattle.jr_model.specs.Calls.{refuse_if}
use Rattle.jr_model.specs.Frames.{Frames, free_places}
use Rattle.jr_model.specs.Parts.{created, reserve}
use Rattle.jr_model.specs.Checks.{Word}
use Rattle.jr_model.specs.Programs.{AnswerKind, Ending, Which, creates, ended, filled_with, fills, makes}
use Rattle.jr_model.specs.Programs.{gives_kind, gives_number, gives_object, compares, types, refers, deletes}
use Rattle.jr_model.specs.Programs.{deletes_local, asks_room, pushes, pops_to, frees, reads, reads_from, copies}
use Rattle.jr_model.specs.Programs.{writes, writes_to, writes_from}
use Rattle.jr_model.specs.References.{made, room_for}
use Rattle.jr_env.specs.declared.demand.Demand.TheVariants.{Object}
use Rattle.jr_env.specs.Demands.{demand_of}
use Rattle.jr_stressed.specs.Laws.{ListsTheMachines}
use Rattle.jr_stressed.specs.Refusals.{IsWant}

-- E8: a creation that probed nothing
created_refused : (slots : ℕ) (k : RefKind) (x : Option ℕ) (old : Frames) → IsSome x
    → created slots k x old [] (Err fault.RowFull) old
created_refused slots k (Some o) old is =
    inr (
      fault.RowFull,
      refl,
      (
        omega arith,
        inl (
          tt,
          old,
          [],
          [],
          refl,
          ([], refl, refl, refl),
          inr (refl, refl, refl),
        ),
      ),
    )
created_refused slots k None old is = absurd (let bad = is in cc)

room : (c : Config) (last thread : ℕ) (old : Frames) → 1 ≤ free_places last old
    → room_for c last thread 1 old [] (Ok tt) old
room c last thread old h = subst (λ b. refuse_if b fault.LocalsFull old [] (Ok tt) old)
    (sym (le-ltb (free_places last old) 1 h)) (refl, refl, refl)

-- the words are reserved
reserved : (n : ℕ) (old : Frames) → (acts : List Act) × reserve n old acts (Ok tt) old
reserved zero old = ([], (refl, refl, refl))
reserved (suc n) old = (Reserve (suc n) ∷ [], inl (refl, refl, refl))

-- E10 and E12: they are not
no_space : (c : Config) (n used : ℕ) (old : Frames) → used ≤ c.words → c.words < used + n
    → reserve n old (ReserveFull n used ∷ []) (Err (fault.SpaceFull used)) old
no_space c (suc n) used old fits lacks = inr (inl (inl (
  used,
  old,
  ReserveFull (suc n) used ∷ [],
  [],
  refl,
  (used, refl, refl, refl),
  (refl, refl, refl),
)))
no_space c zero used old fits lacks = absurd (omega arith)

was_raced : (n looked found : ℕ) (old : Frames) → 1 ≤ n
    → reserve n old (ReserveLost n looked found ∷ []) (Err (fault.Raced looked found)) old
was_raced (suc n) looked found old some = inr (inr (inl (
  (looked, found),
  old,
  ReserveLost (suc n) looked found ∷ [],
  [],
  refl,
  ((looked, found), refl, refl, refl),
  (refl, refl, refl),
)))
was_raced zero looked found old some = absurd (omega arith)

-- an object is not made, for want of what it asks for
not_made : (c : Config) (last thread : ℕ) (k : Kind) (ws : List ℕ) (old : Frames) (f : Fault)
    → 1 ≤ free_places last old → IsWant c (Object (length ws)) f
    → (acts : List Act) × made c last thread k ws old acts (Err f) old
not_made c last thread k ws old f free (inl is) =
    let first = reserved (length ws) old in (
      first.0 ++ [],
      inl (
        tt,
        old,
        [],
        first.0 ++ [],
        refl,
        room c last thread old free,
        inl (tt, old, first.0, [], refl, first.1, inr (f, refl, inr (refl, ap Err is, refl))),
      ),
    )
not_made c last thread k ws old f free (inr (inl h)) = (
  ReserveFull (length ws) h.0 ∷ [],
  inl (
    tt,
    old,
    [],
    _,
    refl,
    room c last thread old free,
    inr (
      f,
      refl,
      subst (λ e. reserve (length ws) old (ReserveFull (length ws) h.0 ∷ []) (Err e) old) (sym h.1)
          (no_space c (length ws) h.0 old h.2 h.3),
    ),
  ),
)
not_made c last thread k ws old f free (inr (inr h)) = (
  ReserveLost (length ws) h.0 h.1 ∷ [],
  inl (
    tt,
    old,
    [],
    _,
    refl,
    room c last thread old free,
    inr (
      f,
      refl,
      subst (λ e. reserve (length ws) old (ReserveLost (length ws) h.0 h.1 ∷ []) (Err e) old) (sym h.2)
          (was_raced (length ws) h.0 h.1 old h.3),
    ),
  ),
)

-- an ending is refused for want of what it asks for
not_ended : (c : Config) (last thread : ℕ) (words : Which → Word) {n : ℕ} {a : AnswerKind} (e : Ending n a)
    (known : Which → Option ℕ) (o : ℕ) (old : Frames) (f : Fault) → 1 ≤ free_places last old
    → ((w : Which) → IsSome (known w)) → IsWant c (demand_of e) f
    → (acts : List Act) × ended c last thread words e known o old acts (Err f) old
not_ended c last thread words (creates k w) known o old f free some want = (
  [],
  subst (λ e. created c.slots k (known w) old [] (Err e) old) (sym want)
      (created_refused c.slots k (known w) old (some w)),
)
not_ended c last thread words (makes k ws) known o old f free some want = not_made c last thread k ws old f free want
not_ended c last thread words (fills k n w) known o old f free some want =
    let all = replicate n (filled_with known w) in
    not_made c last thread k all old f free
    (subst (λ m. IsWant c (Object m) f) (sym (length-replicate n (filled_with known w))) want)
not_ended c last thread words (gives_kind k) known o old f free some want = absurd want
not_ended c last thread words (gives_number m) known o old f free some want = absurd want
not_ended c last thread words gives_object known o old f free some want = absurd want
not_ended c last thread words compares known o old f free some want = absurd want
not_ended c last thread words (types w) known o old f free some want = absurd want
not_ended c last thread words (refers w) known o old f free some want = absurd want
not_ended c last thread words (deletes k w) known o old f free some want = absurd want
not_ended c last thread words (deletes_local w) known o old f free some want = absurd want
not_ended c last thread words (asks_room m) known o old f free some want = absurd want
not_ended c last thread words (pushes m) known o old f free some want = absurd want
not_ended c last thread words (pops_to w) known o old f free some want = absurd want
not_ended c last thread words frees known o old f free some want = absurd want
not_ended c last thread words (reads i) known o old f free some want = absurd want
not_ended c last thread words (reads_from start m) known o old f free some want = absurd want
not_ended c last thread words (copies m) known o old f free some want = absurd want
not_ended c last thread words (writes i v) known o old f free some want = absurd want
not_ended c last thread words (writes_to i w) known o old f free some want = absurd want
not_ended c last thread words (writes_from start vs) known o old f free some want = absurd want

pub lists_the_machines : (c : Config) → ListsTheMachines c
lists_the_machines c = record {
  barred = λ last thread s words p old. inl (refl, refl, refl);
  ending = not_ended c;
}
