-- A COLLECTION KEEPS THE FRAMES of its thread, by whatever it ends.
use Rattle.std.proofs.Common.{◌≡◌, inl, inr, ℕ, ◌<◌, ◌+◌, List, Result, Ok, Err, ◌∙◌}
use Rattle.jr_word.specs.declared.fault.Fault.{Fault}
use Rattle.jr_word.specs.declared.fault.Fault.TheVariants.{Busy}
use Rattle.jr_model.specs.declared.event.Act.{Act}
use Rattle.jr_model.specs.declared.event.Act.TheVariants.{Gate, Meet, ShutBusy}
use Rattle.jr_model.specs.declared.event.GateAct.TheVariants.{Announce, Cancel}
use Rattle.jr_model.specs.Frames.{Frames}
use Rattle.jr_model.specs.Calls.{Call, ◌>>=◌, ◌>>◌, act, one_of, refuse, some_act}
use Rattle.jr_model.specs.Parts as parts
use Rattle.jr_weak.specs.declared.collecting.Collected.{Collected}

abbrev KeepsFrames : {A : Type 0} → Call A → Type 0
KeepsFrames {A} call = (f g : Frames) (acts : List Act) (answer : Result A Fault) → call f acts answer g → g ≡ f

keep_both : {A B : Type 0} (first : Call A) (next : A → Call B) → KeepsFrames first → ((x : A) → KeepsFrames (next x))
    → KeepsFrames (first >>= next)
keep_both first next a b f g acts answer (inl d) = b d.0 d.1 g d.3 answer d.6 ∙ a f d.1 d.2 (Ok d.0) d.5
keep_both first next a b f g acts answer (inr d) = a f g acts (Err d.0) d.2

keep_either : {A : Type 0} (p q : Call A) → KeepsFrames p → KeepsFrames q → KeepsFrames (one_of p q)
keep_either p q a b f g acts answer (inl d) = a f g acts answer d
keep_either p q a b f g acts answer (inr d) = b f g acts answer d

act_keeps : (a : Act) → KeepsFrames (act a)
act_keeps a f g acts answer d = d.2

refuse_keeps : {A : Type 0} (e : Fault) → KeepsFrames (refuse {A = A} e)
refuse_keeps e f g acts answer d = d.2

busy_keeps : KeepsFrames (some_act ShutBusy)
busy_keeps f g acts answer d = d.3

closed_keeps : {A : Type 0} → KeepsFrames (parts.found_closed {A = A})
closed_keeps {A} = keep_both (some_act ShutBusy) (λ n. refuse {A = A} (Busy n)) busy_keeps
    (λ n. refuse_keeps {A = A} (Busy n))

collected_keeps : KeepsFrames parts.collected
collected_keeps f g acts answer d = d.5

moved_keeps : KeepsFrames parts.found_moved
moved_keeps f g acts answer d = d.2.2

shuts_keep : (many : ℕ → Type 0) → KeepsFrames (parts.refused_shuts many)
shuts_keep many f g acts answer d = d.4

abbrev announcing : Call (Unit {0})
announcing = one_of (act (Gate Announce)) (one_of parts.found_closed (act Meet >> parts.found_moved))

announce_keeps : KeepsFrames parts.announce
announce_keeps = keep_either parts.found_closed (act Meet >> announcing) closed_keeps
    (keep_both (act Meet) (λ u. announcing) (act_keeps Meet)
    (λ u. keep_either (act (Gate Announce)) (one_of parts.found_closed (act Meet >> parts.found_moved))
    (act_keeps (Gate Announce)) (keep_either parts.found_closed (act Meet >> parts.found_moved) closed_keeps
    (keep_both (act Meet) (λ v. parts.found_moved) (act_keeps Meet) (λ v. moved_keeps)))))

pub announced_keeps : (tries : ℕ) → KeepsFrames (parts.collect_announced tries)
announced_keeps tries = keep_both parts.announce (λ u. one_of begun kept_out) announce_keeps
    (λ u. keep_either begun kept_out
    (keep_both (parts.refused_shuts (λ n. n < tries)) (λ v. parts.collected) (shuts_keep (λ n. n < tries))
    (λ v. collected_keeps))
    (keep_both (parts.refused_shuts (λ n. n + 1 ≡ tries)) (λ v. taken_back) (shuts_keep (λ n. n + 1 ≡ tries))
    (λ v. keep_both (some_act ShutBusy) cancelled busy_keeps
    (λ n. keep_both (act (Gate Cancel)) (λ t. refuse (Busy n)) (act_keeps (Gate Cancel))
    (λ t. refuse_keeps (Busy n))))))
  where
    cancelled : ℕ → Call (ℕ × ℕ × ℕ)
    cancelled n = act (Gate Cancel) >> refuse (Busy n)

    taken_back : Call (ℕ × ℕ × ℕ)
    taken_back = some_act ShutBusy >>= cancelled

    begun : Call (ℕ × ℕ × ℕ)
    begun = parts.refused_shuts (λ n. n < tries) >> parts.collected

    kept_out : Call (ℕ × ℕ × ℕ)
    kept_out = parts.refused_shuts (λ n. n + 1 ≡ tries) >> taken_back

-- one collection is another with the same numbers
pub same_collected : (a b : Collected) → a.cleared ≡ b.cleared → a.dropped ≡ b.dropped → a.used ≡ b.used → a ≡ b
same_collected a b x y z = λ i. record { cleared = x i; dropped = y i; used = z i }
