-- A collection and a dump over steps, as what their thread knows says.
use Rattle.std.proofs.Common.{◌≡◌, ⊎_elim, ◌≤◌, ℕ, Option, List, [], ◌∷◌, Result, Ok, Err}
use Rattle.std.proofs.Common.{IfOk, IfErr}
use Rattle.std.proofs.Common.{refl, sym, subst, ◌∙◌}
use mathlib.Core.List.{IsPrefix}
use Rattle.jr_word.specs.declared.header.HeaderParts.{HeaderParts}
use Rattle.jr_word.specs.declared.local.LocalParts.{LocalParts}
use Rattle.jr_word.specs.declared.slot.SlotParts.{SlotParts}
use Rattle.jr_word.specs.declared.fault.Fault.{Fault}
use Rattle.jr_model.specs.declared.event.Act.TheVariants.{ShutBusy}
use Rattle.jr_model.specs.declared.summary.Summary.{Summary}
use Rattle.jr_model.proofs.Moments.{prefix_self, prefix_trans}
use Rattle.jr_steps.specs.declared.known.Known.{Known}
use Rattle.jr_steps.specs.Knowing.{Facts, Took, anything, keeps, view}
use Rattle.jr_steps.proofs.StepFacts.{goes_did}
use Rattle.jr_weak.specs.Collecting.{MakesCollection}
use Rattle.jr_census.specs.Taking.{TakesDump}
use Rattle.jr_rule.specs.Passes.{ClosesAll, HasEachPass}
use Rattle.jr_alive.specs.declared.dump.Dump.{Dump}
use Rattle.jr_alive.specs.Graph.{HasRoomFor}
use Rattle.jr_threads.specs.Closing.{HasSweptAll, WasKeptOut}
use Rattle.jr_threads.specs.Listing.{ClosesListing, CollectsAndDumps, LearnsAndDumps, TakesThis, TookDump, TookNoDump}
use Rattle.jr_threads.proofs.Closed.{all_later, none_inside, not_kept_out}
use Rattle.jr_threads.proofs.Listed.{closes_listing}
use Rattle.jr_threads.proofs.Swept.{swept_made}

-- a dump whose lists were lent is the one that was taken
pub takes_lent : {S : Type 0} {facts : S → Facts} {old new : S} {a a' : List SlotParts} {b b' : List LocalParts}
    {c c' : List (Option HeaderParts)} {d d' : List ℕ} → a' ≡ a → b' ≡ b → c' ≡ c → d' ≡ d
    → TakesDump facts old new a b c d → TakesDump facts old new a' b' c' d'
takes_lent {facts = facts} {old = old} {new = new} {a} {a'} {b} {b'} {c} {c'} {d} {d'} p q r s taken =
    subst (λ (z : (List SlotParts × List LocalParts) × (List (Option HeaderParts) × List ℕ)).
    TakesDump facts old new z.0.0 z.0.1 z.1.0 z.1.1) (λ i. ((sym p i, sym q i), (sym r i, sym s i))) taken

module _ {S : Type 0} (facts : S → Facts) (just : S → Known)
    (only : (s : S) (k : Known) → (facts s).knows k → k ≡ just s) where
  -- behind a collection just that is known
  known_behind : (a b : S) → (facts a).knows (just a) → {cleared dropped used : ℕ}
      → MakesCollection facts a b cleared dropped used → (facts b).knows (just b)
  known_behind a b knows made =
      let x = made.went.leads (just a) knows tt in subst (facts b).knows (only b x.0 x.1) x.1

  -- a dump was taken
  pub took_dump : (a b : S) (d : Dump) → (facts a).knows (just a) → HasRoomFor (just a).config d
      → TakesThis facts a b d → TookDump (view (just a)) (view (just b)) d
  took_dump a b d knows room taken =
      let x = taken.leads (just a) knows tt in
      subst (λ k. TookDump (view (just a)) (view k) d) (only b x.0 x.1) (record { room = room; told = x.2 })

  -- both were done
  pub dumped_behind : ((s : S) → (facts s).stands.config ≡ (just s).config) → (a b : S) (d : Dump)
      → (facts a).knows (just a) → CollectsAndDumps facts a b d
      → (swept : Known) × HasSweptAll (view (just a)) (view swept) × TookDump (view swept) (view (just b)) d
  dumped_behind sizes a b d knows z = (
    just z.between,
    swept_made facts just a z.between (only z.between) knows z.collects,
    took_dump z.between b d (known_behind a z.between knows z.collects)
        (subst (λ c. HasRoomFor c d) (sizes z.between) z.room) z.dumps,
  )

  -- a thread was kept out at its one act
  was_kept_out : (a b : S) (n : ℕ) → (facts a).knows (just a) → 1 ≤ n
      → Took facts a b (ShutBusy n ∷ []) anything keeps → WasKeptOut (just a) (just b)
  was_kept_out a b n knows some took =
      let x = took.goes (just a) knows tt in
      subst (λ k. WasKeptOut (just a) k) (only b x.0 x.1) (record { count = n; some = some; goes = x.2 })

  -- at one of the two shuts
  pub kept_out_behind : (a b : S) (e : Fault) → (facts a).knows (just a) → TookNoDump facts a b e
      → (j : Known) × (j.thread ≡ (just a).thread) × IsPrefix (just a).seen j.seen × WasKeptOut j (just b)
  kept_out_behind a b e knows z = ⊎_elim
      (λ (same : z.between ≡ a). (
        just a,
        refl,
        prefix_self (just a).seen,
        was_kept_out a b z.count knows z.some
            (subst (λ s. Took facts s b (ShutBusy z.count ∷ []) anything keeps) same z.took),
      ))
      (λ (made : (cleared : ℕ) × (dropped : ℕ) × (used : ℕ) × MakesCollection facts a z.between cleared dropped used).
      let swept = swept_made facts just a z.between (only z.between) knows made.3 in (
        just z.between,
        swept.did.thread,
        swept.did.begins,
        was_kept_out z.between b z.count (known_behind a z.between knows made.3) z.some z.took,
      ))
      z.behind

  -- one or the other
  pub dumped_or : ((s : S) → (facts s).stands.config ≡ (just s).config) → (a b : S) → (facts a).knows (just a)
      → (r : Result Dump Fault) → IfOk r (CollectsAndDumps facts a b) → IfErr r (TookNoDump facts a b)
      → IfOk r (λ d. (swept : Known) × HasSweptAll (view (just a)) (view swept)
      × TookDump (view swept) (view (just b)) d)
      × IfErr r (λ e. (j : Known) × (j.thread ≡ (just a).thread) × IsPrefix (just a).seen j.seen
      × WasKeptOut j (just b))
  dumped_or sizes a b knows (Ok d) done kept = (dumped_behind sizes a b d knows done, tt)
  dumped_or sizes a b knows (Err e) done kept = (tt, kept_out_behind a b e knows kept)

-- it is one thread
pub dumped_thread : (k j : Known) (ks : List Known) (r : Result Dump Fault) → LearnsAndDumps k j ks r
    → j.thread ≡ k.thread
dumped_thread k j ks (Ok d) z = let x = z.done in x.2.told.did.thread ∙ (x.1.did.thread ∙ z.learns.thread)
dumped_thread k j ks (Err e) z = let x = z.kept_out in x.3.goes.thread ∙ (x.1 ∙ z.learns.thread)

module _ (k j : Known) (ks : List Known) (s : Summary) (closes : ClosesAll j ks s)
    (each : HasEachPass j.config (j ∷ ks)) where
  -- where the room is closed, nobody was there to keep the thread out
  pub not_refused : (e : Fault) → LearnsAndDumps k j ks (Err e) → ⊥
  not_refused e z =
      let x = z.kept_out in
      let later = prefix_trans (z.learned).seen (x.0).seen j.seen x.2 (goes_did x.3.goes).begins in
      not_kept_out x.0 j x.3 (none_inside j ks s closes each (all_later (z.learned).seen j.seen ks later z.learns.all))

  -- and it closes behind a dump
  pub closes_dumped : (d : Dump) → LearnsAndDumps k j ks (Ok d) → ClosesListing k ks s d
  closes_dumped d z =
      let x = z.done in closes_listing k z.learned x.0 j ks d s z.learns x.1 x.2 closes each
