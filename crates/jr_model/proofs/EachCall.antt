-- Each call, by the laws over all calls: it moves the frames, its refusals change nothing, and they are true.
use Rattle.std.proofs.Common.{◌≡◌, ◌≢◌, ℕ, zero, suc, ◌<◌, ◌+◌, ◌||◌, Bool, true, false, not, nat_le, Option}
use Rattle.std.proofs.Common.{Some, None, List, [], ◌∷◌, ◌++◌, length, map, replicate, Result, refl, sym, ap}
use Rattle.std.proofs.Common.{subst, ◌∙◌}
use Rattle.std.proofs.lemmas.List.{append-nil, length-replicate}
use Rattle.std.specs.List.{AllByRecursion}
use Rattle.jr_word.specs.declared.fault.Fault.{Fault}
use Rattle.jr_word.specs.declared.fault.Fault.TheVariants.{Barred, Busy, NotArray, Range, Value}
use Rattle.jr_word.specs.declared.fault.Fault.TheVariants as fault
use Rattle.jr_word.specs.declared.config.Config.{Config}
use Rattle.jr_word.specs.declared.handle.RefKind.{RefKind}
use Rattle.jr_word.specs.declared.kind.Kind.{Kind}
use Rattle.jr_model.specs.declared.event.Act.{Act}
use Rattle.jr_model.specs.declared.event.Act.TheVariants.{Clear, Delete, DeleteStale, Drop, Gate, New, Read, Reserve}
use Rattle.jr_model.specs.declared.event.Act.TheVariants.{ReserveFull, ReserveLost, Settle, ShutBusy, Write}
use Rattle.jr_model.specs.declared.event.GateAct.TheVariants.{Cancel, Enter, Knock, Leave, Reopen, Withdraw}
use Rattle.jr_model.specs.declared.event.Found.{Found}
use Rattle.jr_model.specs.declared.event.Found.TheVariants.{Object, Cleared, Stale}
use Rattle.jr_model.specs.State.{Handle, State}
use Rattle.jr_model.specs.Frames.{Frames, stays}
use Rattle.jr_model.specs.Calls.{Call, ◌>>=◌, ◌>>◌, act, one_of, refuse, some_act}
use Rattle.jr_model.specs.Checks.{Word, Nothing, Malformed, Parts, is_plain, is_text, is_value}
use Rattle.jr_model.specs.Parts.{collect, collect_announced, collected, create, created}
use Rattle.jr_model.specs.Parts.{delete, delete_at, delete_found, delete_local_at, enter}
use Rattle.jr_model.specs.Parts.{publish, read, read_acts, region_release, reserve, write, write_acts}
use Rattle.jr_model.specs.References.{delete_local, made}
use Rattle.jr_model.specs.CollectionCalls.{collection_acts}
use Rattle.jr_model.specs.Programs.{AnswerKind, Which, one, other, at_both, handed_none, none_known, set_known}
use Rattle.jr_model.specs.Programs.{Ending, Program, ends, names, names_both, wants, looks, tests}
use Rattle.jr_model.specs.Programs.{finds, gives_kind, gives_number, gives_object, compares, types}
use Rattle.jr_model.specs.Programs.{creates, refers, deletes, deletes_local, asks_room, pushes, pops_to, frees, makes}
use Rattle.jr_model.specs.Programs.{fills, reads, reads_from, copies, writes, writes_to, writes_from, ended}
use Rattle.jr_model.specs.Programs.{call_of}
use Rattle.jr_model.specs.Tests.{AreSilent, Tests, tested}
use Rattle.jr_model.specs.AllCalls.{CallOf, enters, stays_out, opens, nests, keeps, aborts, PartOf, means}
use Rattle.jr_model.specs.AllCalls.{part_means, words_asked, words_asked_by_part}
use Rattle.jr_model.specs.Moves.{CallsMoveFrames, MovesFrames}
use Rattle.jr_model.specs.RefusedCalls.{RefusalsChangeNothing, RefusedPartsChangeNothing}
use Rattle.jr_model.specs.TrueRefusals.{CallsRefuseTruly, PartsRefuseTruly}
use Rattle.jr_model.proofs.Exactly.{all_map, append_all}
use Rattle.jr_model.proofs.Composed.{Gives, Refusing, act_gives, act_then, at_most_gives}
use Rattle.jr_model.proofs.Composed.{bind_gives, cond_gives, done_gives, either_gives, object_gives}
use Rattle.jr_model.proofs.Composed.{refuse_gives, some_act_gives, some_act_then, weaker_gives}
use Rattle.jr_model.proofs.ShownRefusals.{LosesOnly, LoseOnly, Purpose, silent_unshown, words_alone}
use Rattle.jr_model.proofs.Lawful.{IsInside, IsLawful, IsPrelude, IsWork, Moved, NoLeave, Precede, Refused, answered}
use Rattle.jr_model.proofs.Lawful.{before, bind_prelude, in_memory, in_region, in_stay, leads_then, moved}
use Rattle.jr_model.proofs.Lawful.{moves, one_act, outside, prelude, safe, same_leads, some_act_of, sure, surely}
use Rattle.jr_model.proofs.Lawful.{work_stays}
use Rattle.jr_model.proofs.Preludes.{act_prelude, announce_prelude, both_prelude, check, closed_prelude, done_prelude}
use Rattle.jr_model.proofs.Preludes.{look_prelude, looked_at_prelude, not_null_prelude, probes_prelude, refuse_prelude}
use Rattle.jr_model.proofs.Preludes.{resolved_prelude, room_prelude, shuts_prelude, some_act_prelude, type_prelude}
use Rattle.jr_model.proofs.TrueRefusals.{truly}
use Rattle.jr_model.proofs.Moves.{added_sure, drop_sure, freeing_sure, new_local_work}
use Rattle.jr_model.proofs.Moves.{popping_work, pushing_work, resolved_popping}

reads_inside : (o start : ℕ) (vs : List ℕ) → AllByRecursion IsInside (read_acts o start vs)
reads_inside o start [] = tt
reads_inside o start (v ∷ vs) = (tt, reads_inside o (start + 1) vs)

writes_inside : (o start : ℕ) (vs : List ℕ) → AllByRecursion IsInside (write_acts o start vs)
writes_inside o start [] = tt
writes_inside o start (v ∷ vs) = (tt, writes_inside o (start + 1) vs)

sweeps_inside : (cleared : List Handle) (dropped : List ℕ) (used : ℕ)
    → AllByRecursion IsInside (collection_acts cleared dropped used)
sweeps_inside cleared dropped used = (
  tt,
  append_all IsInside (map Clear cleared ++ map Drop dropped ++ Settle used ∷ []) (Gate Reopen ∷ [])
      (append_all IsInside (map Clear cleared ++ map Drop dropped) (Settle used ∷ [])
      (append_all IsInside (map Clear cleared) (map Drop dropped) (all_map IsInside Clear cleared
      (λ h. tt)) (all_map IsInside Drop dropped (λ o. tt))) (tt, tt)) (tt, tt),
)

module _ {asked : Purpose} where
  -- the last of the shuts is refused too
  cancelled_prelude : IsPrelude asked (some_act ShutBusy
      >>= (λ n. act (Gate Cancel) >> refuse {A = ℕ × ℕ × ℕ} (Busy n)))
  cancelled_prelude = some_act_then ShutBusy (λ n. act_then (Gate Cancel) (refuse_gives (Busy n) (λ f. record {
    same = refl;
    before = (refl, (refl, tt));
    shown = (([], Gate Cancel ∷ [], refl), (tt, (tt, tt)), tt);
    are = ((λ e. cc), ((λ e. cc), tt));
  })))

module _ {asked : Purpose} {last thread : ℕ} where
  -- SLOTS AND OBJECTS

  create_work : (slots : ℕ) (k : RefKind) (o : ℕ) → IsWork asked last thread (create slots k o)
  create_work slots k o = at_most_gives (slots + slots) (before probes_prelude (λ x. either_gives
      (record {
        goes = λ old new acts h r. moved (tt, tt) r.2 (same_leads r.4);
        fails = λ old new acts e r. absurd (let bad = r.3 in cc);
      })
      (prelude (refuse_prelude _ refl))))

  created_work : (slots : ℕ) (k : RefKind) (o : Option ℕ) → IsWork asked last thread (created slots k o)
  created_work slots k None = prelude (done_prelude None)
  created_work slots k (Some o) = answered (create_work slots k o) Some

  found_deleted : (h : Handle)
      → IsWork asked last thread (one_of (act (Delete h)) (act (DeleteStale h) >> refuse fault.Stale))
  found_deleted h = either_gives (one_act (Delete h) tt)
      (prelude (bind_prelude (act_prelude (DeleteStale h) refl tt) (λ x. refuse_prelude _ refl)))

  delete_found_work : (h : Handle) (r : Found) → IsWork asked last thread (delete_found h r)
  delete_found_work h Stale = prelude (refuse_prelude _ refl)
  delete_found_work h (Object o) = found_deleted h
  delete_found_work h Cleared = found_deleted h

  delete_work : (h : Handle) → IsWork asked last thread (delete h)
  delete_work h = before (look_prelude h) (delete_found_work h)

  delete_at_work : (a : Word) → IsWork asked last thread (delete_at a)
  delete_at_work Nothing = prelude (done_prelude tt)
  delete_at_work Malformed = prelude (done_prelude tt)
  delete_at_work (Parts h) = delete_work h

  read_work : (o start n : ℕ) → IsWork asked last thread (read o start n)
  read_work o start n = record {
    goes = λ old new acts x r. moved (reads_inside o start r.0) r.2 (same_leads r.4);
    fails = λ old new acts e r. absurd (let bad = r.3 in cc);
  }

  write_work : (o start : ℕ) (vs : List ℕ) → IsWork asked last thread (write o start vs)
  write_work o start vs = record {
    goes = λ old new acts x r. moved (writes_inside o start vs) r.0 (same_leads r.2);
    fails = λ old new acts e r. absurd (let bad = r.1 in cc);
  }

  -- LOCAL REFERENCES

  delete_local_at_work : (a : Word) → IsWork asked last thread (delete_local_at a)
  delete_local_at_work Nothing = prelude (done_prelude tt)
  delete_local_at_work Malformed = prelude (done_prelude tt)
  delete_local_at_work (Parts h) = before (looked_at_prelude h) (λ x. sure (drop_sure h))

  -- THE ROOM AS A WHOLE

  collected_work : IsWork asked last thread collected
  collected_work = record {
    goes = λ old new acts x r. moved (sweeps_inside r.0 r.1 r.2) r.3 (same_leads r.5);
    fails = λ old new acts e r. absurd (let bad = r.4 in cc);
  }

  collect_work : IsWork asked last thread collect
  collect_work = either_gives collected_work (prelude closed_prelude)

  collect_announced_work : asked.announces ≡ true → (tries : ℕ) → IsWork asked last thread (collect_announced tries)
  collect_announced_work announces tries =
      before (announce_prelude announces) (λ x.
      either_gives (before (shuts_prelude (λ n. n < tries)) (λ y. collected_work))
      (before (shuts_prelude (λ n. n + 1 ≡ tries)) (λ y. prelude cancelled_prelude)))

  enter_work : IsWork asked last thread enter
  enter_work = either_gives (one_act (Gate Enter) tt)
      (prelude (act_then (Gate Knock) (act_then (Gate Withdraw) (refuse_gives Barred (λ f. record {
        same = refl;
        before = (refl, (refl, tt));
        shown = (([], Gate Withdraw ∷ [], refl), (tt, (tt, tt)), tt);
        are = ((λ e. cc), ((λ e. cc), tt));
      })))))

  leave_lawful : IsLawful asked last thread (act (Gate Leave))
  leave_lawful = act_gives (Gate Leave) (λ f. record { leads = stays; lose = (tt, tt); are = tt })

  released_lawful : (levels : ℕ) → IsLawful asked last thread (region_release levels)
  released_lawful zero = outside (prelude (done_prelude tt))
  released_lawful (suc zero) = leave_lawful
  released_lawful (suc (suc n)) = outside (prelude (done_prelude tt))

-- where space was reserved, and nothing else was done
record Reserved (old : Frames) (acts : List Act) (new : Frames) : Type 0 where
  same : new ≡ old
  before : Precede fault.ObjectsFull acts
  lose : LoseOnly None acts
  stays : NoLeave acts

-- space for n words, which the call asks for
reserved : (n : ℕ) → Gives Reserved (Refused NoLeave (words_alone n)) (reserve n)
reserved zero = done_gives tt (λ f. record { same = refl; before = tt; lose = tt; stays = tt })
reserved (suc n) = either_gives (act_gives (Reserve (suc n))
    (λ f. record { same = refl; before = (refl, tt); lose = (tt, tt); stays = ((λ e. cc), tt) })) (either_gives
    (some_act_then (ReserveFull (suc n)) (λ u. refuse_gives (fault.SpaceFull u) (λ f.
    record { same = refl; before = (refl, tt); shown = (([], [], refl), (tt, tt), tt); are = ((λ e. cc), tt) })))
    (some_act_then {X = ℕ × ℕ} (λ l. ReserveLost (suc n) l.0 l.1) (λ l. refuse_gives (fault.Raced l.0 l.1) (λ f.
    record { same = refl; before = (refl, tt); shown = (tt, (refl, tt), tt); are = ((λ e. cc), tt) }))))

reserve_work : {last thread : ℕ} (n : ℕ) → IsWork (words_alone n) last thread (reserve n)
reserve_work n = weaker_gives (λ f g xs r. record { leads = same_leads r.same; lose = r.lose; are = r.stays })
    (λ f g xs e r. r) (reserved n)

-- no number was left for an object
abbrev Numberless : Refusing
Numberless old acts e new = (acts ≡ []) × (e ≡ fault.ObjectsFull) × (new ≡ old)

module _ {last thread : ℕ} where
  publish_gives : (k : Kind) (ws : List ℕ) → Gives (Moved NoLeave last thread) Numberless (publish k ws)
  publish_gives k ws = either_gives (some_act_gives (λ o. New o k ws) (λ o f. moved (tt, tt) refl stays))
      (refuse_gives fault.ObjectsFull (λ f. (refl, refl, refl)))

module _ {asked : Purpose} {last thread : ℕ} where
  publish_work : (k : Kind) (ws : List ℕ) → IsWork asked last thread (publish k ws)
  publish_work k ws = either_gives (some_act_of (λ o. New o k ws) (λ o. tt)) (prelude (refuse_prelude _ refl))

module _ {asked : Purpose} (c : Config) (last thread : ℕ) where
  delete_local_work : (a : Word) → IsWork asked last thread (delete_local c thread a)
  delete_local_work a = before (check _ _ refl) (λ x. before (check _ _ refl) (λ y. delete_local_at_work a))

-- an object of these words, for which the call asks: where no number is left, the space stays reserved
made_work : (c : Config) (last thread : ℕ) (k : Kind) (ws : List ℕ)
    → IsWork (words_alone (length ws)) last thread (made c last thread k ws)
made_work c last thread k ws =
    before (room_prelude c last thread 1) (λ x. bind_gives (record { joins = joins; behind = behind })
    (reserved (length ws)) (λ y. surely (publish_gives k ws) (λ o. added_sure c o)))
  where
    asked : Purpose
    asked = words_alone (length ws)

    joins : (f g h : Frames) (xs ys : List Act) → Reserved f xs g → Moved NoLeave last thread g ys h
        → Moved NoLeave last thread f (xs ++ ys) h
    joins f g h xs ys p q = record {
      leads = leads_then (same_leads p.same) q.leads;
      lose = append_all (LosesOnly None) xs ys p.lose q.lose;
      are = append_all (λ a. a ≢ Gate Leave) xs ys p.stays q.are;
    }

    behind : (f g h : Frames) (xs ys : List Act) (e : Fault) → Reserved f xs g → Numberless g ys e h
        → Refused NoLeave asked f (xs ++ ys) e h
    behind f g h xs ys e p q =
        subst (λ l. Refused NoLeave asked f l e h) (sym (ap (λ l. xs ++ l) q.0 ∙ append-nil xs))
        (subst (λ z. Refused NoLeave asked f xs z h) (sym q.1)
        (record { same = q.2 ∙ p.same; before = p.before; shown = (tt, p.lose, tt); are = p.stays }))

-- n equal elements
pub alike_work : (c : Config) (last thread : ℕ) (k : Kind) (n v : ℕ)
    → IsWork (words_alone n) last thread (made c last thread k (replicate n v))
alike_work c last thread k n v = subst (λ m. IsWork (words_alone m) last thread (made c last thread k (replicate n v)))
    (length-replicate n v) (made_work c last thread k (replicate n v))

-- a call that never leaves the gate
abbrev pub Stays : {A : Type 0} → Call A → Type 0
Stays {A} call = (f g : Frames) (acts : List Act) (answer : Result A Fault) → call f acts answer g → NoLeave acts

-- EACH PROGRAM

module _ {asked : Purpose} {last thread : ℕ} where
  tested_work : {A : Type 0} (ts : Tests) {next : Call A} → AreSilent ts → IsWork asked last thread next
      → IsWork asked last thread (tested ts next)
  tested_work [] are work = work
  tested_work ((b, e) ∷ ts) are work = before (check b e (silent_unshown e are.0)) (λ x. tested_work ts are.1 work)

module _ (c : Config) (last thread : ℕ) (words : Which → Word) where
  ended_work : {n : ℕ} {a : AnswerKind} (e : Ending n a) (known : Which → Option ℕ) (o : ℕ)
      → IsWork (words_alone n) last thread (ended c last thread words e known o)
  ended_work (gives_kind k) known o = prelude (done_prelude k)
  ended_work (gives_number n) known o = prelude (done_prelude n)
  ended_work gives_object known o = prelude (done_prelude o)
  ended_work compares known o = prelude (done_prelude _)
  ended_work (types w) known o = prelude (cond_gives _ (done_prelude 0) (type_prelude (words w)))
  ended_work (creates k w) known o = created_work c.slots k (known w)
  ended_work (refers w) known o = new_local_work c last thread (known w)
  ended_work (deletes k w) known o = before (check _ _ refl) (λ x.
      before (check _ _ refl) (λ y. before (check _ _ refl) (λ z. delete_at_work (words w))))
  ended_work (deletes_local w) known o = before (check _ _ refl) (λ x.
      before (check _ _ refl) (λ y. delete_local_work c last thread (words w)))
  ended_work (asks_room n) known o = prelude (room_prelude c last thread n)
  ended_work (pushes n) known o = pushing_work c last thread n
  ended_work (pops_to w) known o = resolved_popping c last thread (words w)
  ended_work frees known o = sure freeing_sure
  ended_work (makes k ws) known o = made_work c last thread k ws
  ended_work (fills k n w) known o = alike_work c last thread k n _
  ended_work (reads i) known o = some_act_of (Read o i) (λ v. tt)
  ended_work (reads_from start n) known o = read_work o start n
  ended_work (copies n) known o = in_memory n (read_work o 0 n)
  ended_work (writes i v) known o = one_act (Write o i v) tt
  ended_work (writes_to i w) known o = one_act (Write o i _) tt
  ended_work (writes_from start vs) known o = write_work o start vs

module _ (c : Config) (last thread : ℕ) (s : State) (words : Which → Word) where
  program_work : {n : ℕ} {a : AnswerKind} (p : Program n a) (known : Which → Option ℕ) (o : ℕ)
      → IsWork (words_alone n) last thread (call_of c last thread s words p known o)
  program_work (ends e) known o = ended_work c last thread words e known o
  program_work (names w p) known o = before (resolved_prelude c last thread (words w)) (λ x.
      program_work p (set_known known w x) o)
  program_work (names_both p) known o = before (both_prelude c last thread (words one) (words other)) (λ x.
      program_work p (at_both x.0 x.1) o)
  program_work (wants w p) known o = before (not_null_prelude (known w)) (λ q. program_work p known q)
  program_work (looks next) known o = object_gives s o (λ k n. program_work (next k n) known o)
  program_work (tests ts silent p) known o = tested_work ts silent (program_work p known o)
  program_work (finds i p) known o = before (some_act_prelude (Read o i) (λ v. refl) (λ v. tt)) (λ v.
      program_work p (set_known known one _) o)

  -- no program leaves the gate
  pub program_stays : {n : ℕ} {a : AnswerKind} (p : Program n a) (known : Which → Option ℕ) (o : ℕ)
      → Stays (call_of c last thread s words p known o)
  program_stays p known o = work_stays (program_work p known o)

  -- each moves the frames as a thread may
  pub program_moves : {n : ℕ} {a : AnswerKind} (p : Program n a) (known : Which → Option ℕ) (o : ℕ)
      → MovesFrames last thread (call_of c last thread s words p known o)
  program_moves p known o = moves (outside (program_work p known o))

-- whether a call announces a collection
abbrev announces : {a : AnswerKind} → PartOf a → Bool
announces PartOf.announce = true
announces (PartOf.collect_announced tries) = true
announces _ = false

module _ (c : Config) (last thread : ℕ) (s : State) where
  -- EACH CALL OF AN ENV
  pub lawful : {a : AnswerKind} (x : CallOf a)
      → IsLawful (words_alone (words_asked x)) last thread (means c last thread s x)
  lawful (enters words p) = in_stay (program_work c last thread s words p none_known 0)
  lawful (stays_out p) = outside (program_work c last thread s handed_none p none_known 0)
  lawful (opens words p) = in_region (program_work c last thread s words p none_known 0)
  lawful (nests levels words p) = outside
      (answered (program_work c last thread s words p none_known 0) (λ o. (length levels, levels ++ o ∷ [])))
  lawful (keeps elements words p) = answered (in_stay (program_work c last thread s words p none_known 0))
      (λ x. elements)
  lawful aborts = outside (prelude (done_prelude None))

  -- EACH OTHER CALL
  pub part_lawful : {a : AnswerKind} (x : PartOf a)
      → IsLawful (record { words = words_asked_by_part x; announces = announces x }) last thread
      (part_means c last thread s x)
  part_lawful PartOf.enter = outside (enter_work)
  part_lawful PartOf.leave = leave_lawful
  part_lawful PartOf.shut = outside (either_gives (one_act _ tt) (prelude closed_prelude))
  part_lawful PartOf.reopen = outside (one_act _ tt)
  part_lawful (PartOf.create slots k o) = outside (create_work slots k o)
  part_lawful (PartOf.look h) = outside (prelude (look_prelude h))
  part_lawful (PartOf.delete h) = outside (delete_work h)
  part_lawful (PartOf.reserve n) = outside (reserve_work n)
  part_lawful (PartOf.publish k ws) = outside (publish_work k ws)
  part_lawful (PartOf.header o) = outside (object_gives s o (λ k n. prelude (done_prelude (k, n))))
  part_lawful (PartOf.read_element o i) = outside (object_gives s o (λ k n. before (check (is_plain k) NotArray refl)
      (λ x. before (check (nat_le n i) Range refl) (λ y. some_act_of (Read o i) (λ v. tt)))))
  part_lawful (PartOf.write_element o i v) = outside (object_gives s o (λ k n.
      before (check (is_plain k || is_text k) NotArray refl) (λ x. before (check (nat_le n i) Range refl) (λ y.
      before (check (not (is_value k v)) Value refl) (λ z. one_act (Write o i v) tt)))))
  part_lawful (PartOf.resolved a) = outside (prelude (resolved_prelude c last thread a))
  part_lawful (PartOf.new_local o) = outside (new_local_work c last thread o)
  part_lawful (PartOf.delete_local a) = outside (delete_local_work c last thread a)
  part_lawful (PartOf.pop_frame o) = outside (popping_work c last thread o)
  part_lawful PartOf.freeing = outside (sure freeing_sure)
  part_lawful (PartOf.at_level o p) = outside (program_work c last thread s handed_none p none_known o)
  part_lawful (PartOf.region_release levels) = released_lawful levels
  part_lawful (PartOf.elements_get buffer i) =
      outside (before (check (nat_le (length buffer) i) Range refl) (λ x. prelude (done_prelude _)))
  part_lawful (PartOf.elements_set buffer i v) =
      outside (before (check (nat_le (length buffer) i) Range refl) (λ x. prelude (done_prelude _)))
  part_lawful (PartOf.elements_length buffer) = outside (prelude (done_prelude _))
  part_lawful PartOf.collect = outside collect_work
  part_lawful PartOf.announce = outside (prelude (announce_prelude refl))
  part_lawful (PartOf.collect_announced tries) = outside (collect_announced_work refl tries)
  part_lawful PartOf.meet = outside (one_act _ tt)

  -- THE LAWS

  pub calls_move_frames : CallsMoveFrames c last thread s
  calls_move_frames a x = moves (lawful x)

  pub refusals_change_nothing : RefusalsChangeNothing c last thread s
  refusals_change_nothing a x = safe (lawful x)

  pub refused_parts_change_nothing : RefusedPartsChangeNothing c last thread s
  refused_parts_change_nothing a x = safe (part_lawful x)

  pub calls_refuse_truly : CallsRefuseTruly c last thread s
  calls_refuse_truly a x = truly (lawful x)

  pub parts_refuse_truly : PartsRefuseTruly c last thread s
  parts_refuse_truly a x = truly (part_lawful x)
