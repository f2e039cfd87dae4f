-- A PROGRAM FOLLOWS: whatever its luck, and whatever others do at their ends, it answers as in the row, or spoils the
-- text.
use Rattle.std.proofs.Common.{◌≡◌, ◌⊎◌, inl, inr, ℕ, Bool, true, false, Result, Err, refl, ap, subst, sym, ◌∙◌}
use Rattle.jr_word.specs.declared.fault.Fault.{Fault}
use Rattle.jr_word.specs.declared.fault.Fault.TheVariants as fault
use Rattle.jr_world.specs.Doing.{Doing, Shared, run_alone, whatever}
use Rattle.jr_world.specs.Doing.Doing.{ended, steps}
use Rattle.jr_env.specs.Tries.{is_tried_again}
use Rattle.jr_scripts.proofs.OneRow.Alike.{Alike, Kept, Tidy, alike_all, alike_itself, kept_itself, kept_through}

-- E16 and E20
abbrev pub IsSpoilt : {A : Type 0} → Result A Fault → Type 0
IsSpoilt r = (r ≡ Err fault.Memory) ⊎ (r ≡ Err fault.Turns)

-- which threads may be at their ends meanwhile: none but this, or none at all
abbrev pub Gone : Type 1
Gone = (ℕ → Bool) → Type 0

abbrev pub but : ℕ → Gone
but u gone = gone u ≡ false

abbrev pub nobody : Gone
nobody gone = (t : ℕ) → gone t ≡ false

-- behind luck that counted: without it E16, and else no reason to try again
abbrev pub Settled : {A : Type 0} → Bool → Result A Fault → Type 0
Settled true r = is_tried_again r ≡ false
Settled false r = r ≡ Err fault.Memory

abbrev pub Also : {A : Type 0} → Bool → (Result A Fault → Shared → Type 0) → Result A Fault → Shared → Type 0
Also luck K r z = K r z × Settled luck r

-- an end is that of a run with this luck, and of any other luck where luck counts for nothing; without luck it is E16
pub record RunsSo {A : Type 0} (u : ℕ) (once : Bool) (d : Doing A) (z : Shared) (r : Result A Fault) (y : Shared)
    : Type 0 where
  pub luck : Bool
  pub is : (other : Bool) → (once ≡ true → other ≡ luck)
      → ◌≡◌ {A = Result A Fault × Shared} (run_alone u other d z) (r, y)
  pub spoilt : luck ≡ false → r ≡ Err fault.Memory

module _ (P : Gone) (u : ℕ) where
  -- with this luck, and from whatever is alike, a step does as this would
  abbrev pub SameStep : {A : Type 0} → (ℕ → Bool → Shared → Doing A) → (ℕ → Bool → Shared → Shared) → Shared → Bool
      → Doing A → Shared → Type 0
  SameStep more leaves z luck d y = (gone : ℕ → Bool) (s : Shared) → P gone → Alike gone s z
      → (more u luck s ≡ d) × Alike gone (leaves u luck s) y × Kept u s (leaves u luck s)

  -- WHERE A PROGRAM LEADS from there: with luck and without to the same, or each way to ends of which this holds
  abbrev pub LeadsTo : {A : Type 0} → (Result A Fault → Shared → Type 0) → Doing A → Shared → Type 0
  LeadsTo K (ended r) z = K r z
  LeadsTo K (steps more leaves) z =
      (((luck : Bool) → SameStep more leaves z luck (more u true z) (leaves u true z))
      × LeadsTo K (more u true z) (leaves u true z))
      ⊎ ((luck : Bool) → SameStep more leaves z luck (more u luck z) (leaves u luck z)
      × LeadsTo K (more u luck z) (leaves u luck z))

  -- the answer, and what stands then, are these, or it is spoilt
  abbrev pub Outcome : {A : Type 0} → Result A Fault → Shared → Result A Fault → Shared → Type 0
  Outcome r z q y = ((q ≡ r) × (y ≡ z)) ⊎ IsSpoilt q

  -- A PROGRAM FOLLOWS
  abbrev pub Follows : {A : Type 0} → Doing A → Shared → Type 0
  Follows d z = LeadsTo (Outcome (run_alone u true d z).0 (run_alone u true d z).1) d z

  -- .. AND WHERE LUCK COUNTS FOR NOTHING, or once: only where it may
  abbrev pub LeadsOnce : {A : Type 0} → Bool → (Result A Fault → Shared → Type 0) → Doing A → Shared → Type 0
  LeadsOnce once K (ended r) z = K r z
  LeadsOnce once K (steps more leaves) z =
      (((luck : Bool) → SameStep more leaves z luck (more u true z) (leaves u true z))
      × LeadsOnce once K (more u true z) (leaves u true z))
      ⊎ ((once ≡ true) × ((luck : Bool) → SameStep more leaves z luck (more u luck z) (leaves u luck z)
      × LeadsOnce false (Also luck K) (more u luck z) (leaves u luck z)))

  -- less is said
  pub leads_less : {A : Type 0} (K L : Result A Fault → Shared → Type 0)
      → ((r : Result A Fault) (z : Shared) → K r z → L r z) → (d : Doing A) (z : Shared) → LeadsTo K d z → LeadsTo L d z
  leads_less K L less (ended r) z leads = less r z leads
  leads_less K L less (steps more leaves) z (inl both) =
      inl (both.0, leads_less K L less (more u true z) (leaves u true z) both.1)
  leads_less K L less (steps more leaves) z (inr both) =
      inr (λ luck. ((both luck).0, leads_less K L less (more u luck z) (leaves u luck z) (both luck).1))

  pub once_less : {A : Type 0} (first once : Bool) → (first ≡ true → once ≡ true)
      → (K L : Result A Fault → Shared → Type 0) → ((r : Result A Fault) (z : Shared) → K r z → L r z) → (d : Doing A)
      (z : Shared) → LeadsOnce first K d z → LeadsOnce once L d z
  once_less first once may K L less (ended r) z leads = less r z leads
  once_less first once may K L less (steps more leaves) z (inl both) =
      inl (both.0, once_less first once may K L less (more u true z) (leaves u true z) both.1)
  once_less first once may K L less (steps more leaves) z (inr counts) = inr (
    may counts.0,
    λ luck. (
      (counts.1 luck).0,
      once_less false false (λ is. is) (Also luck K) (Also luck L) (λ r y so. (less r y so.0, so.1)) (more u luck z)
          (leaves u luck z) (counts.1 luck).1,
    ),
  )

  -- ONE AND THEN THE OTHER
  same_then : {A B : Type 0} (more : ℕ → Bool → Shared → Doing A) (leaves : ℕ → Bool → Shared → Shared) (z : Shared)
      (luck : Bool) (d : Doing A) (y : Shared) (next : Result A Fault → Doing B) → SameStep more leaves z luck d y
      → SameStep (λ t b s. whatever (more t b s) next) leaves z luck (whatever d next) y
  same_then more leaves z luck d y next same gone s may alike =
      let one = same gone s may alike in (ap (λ d. whatever d next) one.0, one.1, one.2)

  pub leads_then : {A B : Type 0} (K : Result A Fault → Shared → Type 0) (L : Result B Fault → Shared → Type 0)
      (d : Doing A) (next : Result A Fault → Doing B) (z : Shared) → LeadsTo K d z
      → ((r : Result A Fault) (y : Shared) → K r y → LeadsTo L (next r) y) → LeadsTo L (whatever d next) z
  leads_then K L (ended r) next z leads after = after r z leads
  leads_then K L (steps more leaves) next z (inl both) after = inl (
    λ luck. same_then more leaves z luck (more u true z) (leaves u true z) next (both.0 luck),
    leads_then K L (more u true z) next (leaves u true z) both.1 after,
  )
  leads_then K L (steps more leaves) next z (inr both) after = inr (λ luck. (
    same_then more leaves z luck (more u luck z) (leaves u luck z) next (both luck).0,
    leads_then K L (more u luck z) next (leaves u luck z) (both luck).1 after,
  ))

  -- .. luck may count in the other; or in the one, and then the other keeps what was settled
  pub once_then : {A B : Type 0} (first once : Bool) → (first ≡ true → once ≡ true)
      → (K : Result A Fault → Shared → Type 0) (L : Result B Fault → Shared → Type 0) (d : Doing A)
      (next : Result A Fault → Doing B) (z : Shared) → LeadsOnce first K d z
      → ((r : Result A Fault) (y : Shared) → K r y → LeadsOnce once L (next r) y)
      → (first ≡ true → (luck : Bool) (r : Result A Fault) (y : Shared) → Also luck K r y
      → LeadsOnce false (Also luck L) (next r) y) → LeadsOnce once L (whatever d next) z
  once_then first once may K L (ended r) next z leads rest last = rest r z leads
  once_then first once may K L (steps more leaves) next z (inl both) rest last = inl (
    λ luck. same_then more leaves z luck (more u true z) (leaves u true z) next (both.0 luck),
    once_then first once may K L (more u true z) next (leaves u true z) both.1 rest last,
  )
  once_then first once may K L (steps more leaves) next z (inr counts) rest last = inr (
    may counts.0,
    λ luck. (
      same_then more leaves z luck (more u luck z) (leaves u luck z) next (counts.1 luck).0,
      once_then false false (λ is. is) (Also luck K) (Also luck L) (more u luck z) next (leaves u luck z)
          (counts.1 luck).1 (last counts.0 luck) (λ bad. absurd cc),
    ),
  )

  pub run_then : {A B : Type 0} (d : Doing A) (next : Result A Fault → Doing B) (z : Shared)
      → run_alone u true (whatever d next) z ≡ run_alone u true (next (run_alone u true d z).0) (run_alone u true d z).1
  run_then (ended r) next z = refl
  run_then (steps more leaves) next z = run_then (more u true z) next (leaves u true z)

  -- a step with luck
  lucky : {A : Type 0} (K : Result A Fault → Shared → Type 0) (more : ℕ → Bool → Shared → Doing A)
      (leaves : ℕ → Bool → Shared → Shared) (z : Shared) → LeadsTo K (steps more leaves) z
      → SameStep more leaves z true (more u true z) (leaves u true z)
      × LeadsTo K (more u true z) (leaves u true z)
  lucky K more leaves z (inl both) = (both.0 true, both.1)
  lucky K more leaves z (inr both) = both true

  -- from what is alike it leads to what is alike, with the same answer, where nobody else takes steps, with luck
  pub led : {A : Type 0} (K : Result A Fault → Shared → Type 0) (d : Doing A) (z : Shared) → LeadsTo K d z
      → (gone : ℕ → Bool) → P gone → (s : Shared) → Alike gone s z
      → ((run_alone u true d s).0 ≡ (run_alone u true d z).0)
      × Alike gone (run_alone u true d s).1 (run_alone u true d z).1 × Kept u s (run_alone u true d s).1
  led K (ended r) z leads gone may s alike = (refl, alike, kept_itself u s)
  led K (steps more leaves) z leads gone may s alike =
      let x = lucky K more leaves z leads in
      let one = x.0 gone s may alike in
      let rest = led K (more u true z) (leaves u true z) x.1 gone may (leaves u true s) one.1 in
      let q = run_alone u true (more u true z) (leaves u true z) in
      let p = run_alone u true (more u true z) (leaves u true s) in
      subst (λ d. ((run_alone u true d (leaves u true s)).0 ≡ q.0)
      × Alike gone (run_alone u true d (leaves u true s)).1 q.1
      × Kept u s (run_alone u true d (leaves u true s)).1)
      (sym one.0) (rest.0, rest.1, kept_through u s (leaves u true s) p.1 one.2 rest.2)

  module _ (may : P (λ t. false)) where
    -- from there itself
    same_there : {A : Type 0} (more : ℕ → Bool → Shared → Doing A) (leaves : ℕ → Bool → Shared → Shared) (z : Shared)
        → Tidy z → ((luck : Bool) → SameStep more leaves z luck (more u true z) (leaves u true z)) → (luck : Bool)
        → ◌≡◌ {A = Doing A × Shared} (more u luck z, leaves u luck z) (more u true z, leaves u true z)
    same_there more leaves z tidy same luck =
        let one = same luck (λ t. false) z may (alike_itself z tidy) in
        let lucky = same true (λ t. false) z may (alike_itself z tidy) in
        let left = alike_all (leaves u luck z) (leaves u true z) one.1
        ∙ ap (λ b. record (leaves u true z) { board = b }) (one.2.board ∙ sym lucky.2.board) in
        λ i. (one.0 i, left i)

    -- with any luck it leads there, and leaves what is tidy
    pub with_luck : {A : Type 0} (K : Result A Fault → Shared → Type 0) (more : ℕ → Bool → Shared → Doing A)
        (leaves : ℕ → Bool → Shared → Shared) (z : Shared) → Tidy z → LeadsTo K (steps more leaves) z → (luck : Bool)
        → LeadsTo K (more u luck z) (leaves u luck z) × Tidy (leaves u luck z) × Kept u z (leaves u luck z)
    with_luck K more leaves z tidy (inl both) luck =
        let one = both.0 luck (λ t. false) z may (alike_itself z tidy) in (
          subst (λ x. LeadsTo K x.0 x.1) (sym (same_there more leaves z tidy both.0 luck)) both.1,
          one.1.tidy,
          one.2,
        )
    with_luck K more leaves z tidy (inr both) luck =
        let one = (both luck).0 (λ t. false) z may (alike_itself z tidy) in ((both luck).1, one.1.tidy, one.2)

    -- where luck counts once at the most, each end is that of a run
    pub once_runs : {A : Type 0} (once : Bool) (K : Result A Fault → Shared → Type 0) (d : Doing A) (z : Shared)
        → Tidy z → LeadsOnce once K d z → LeadsTo (λ r y. K r y × RunsSo u once d z r y) d z
    once_runs once K (ended r) z tidy leads =
        (leads, record { luck = true; is = λ other which. refl; spoilt = λ bad. absurd cc })
    once_runs {A} once K (steps more leaves) z tidy (inl both) = inl (
      both.0,
      leads_less (λ r y. K r y × RunsSo u once (more u true z) (leaves u true z) r y)
          (λ r y. K r y × RunsSo u once (steps more leaves) z r y) (λ r y so. (
            so.0,
            record {
              luck = so.1.luck;
              is = λ other which. ap (λ (x : Doing A × Shared). run_alone u other x.0 x.1)
                  (same_there more leaves z tidy both.0 other) ∙ so.1.is other which;
              spoilt = so.1.spoilt;
            },
          )) (more u true z) (leaves u true z) (once_runs once K (more u true z) (leaves u true z)
          (both.0 true (λ t. false) z may (alike_itself z tidy)).1.tidy both.1),
    )
    once_runs once K (steps more leaves) z tidy (inr counts) = inr (λ luck. (
      (counts.1 luck).0,
      leads_less (λ r y. Also luck K r y × RunsSo u false (more u luck z) (leaves u luck z) r y)
          (λ r y. K r y × RunsSo u once (steps more leaves) z r y) (λ r y so. (
            so.0.0,
            record {
              luck = luck;
              is = λ other which. ap (λ b. run_alone u b (steps more leaves) z) (which counts.0)
                  ∙ so.1.is luck (λ bad. absurd cc);
              spoilt = λ is. subst (λ b. Settled b r) is so.0.1;
            },
          )) (more u luck z) (leaves u luck z) (once_runs false (Also luck K) (more u luck z) (leaves u luck z)
          ((counts.1 luck).0 (λ t. false) z may (alike_itself z tidy)).1.tidy (counts.1 luck).1),
    ))

    -- .. so it follows
    pub once_follows : {A : Type 0} (once : Bool) (K : Result A Fault → Shared → Type 0) (d : Doing A) (z : Shared)
        → Tidy z → LeadsOnce once K d z → Follows d z
    once_follows {A} once K d z tidy leads = leads_less (λ r y. K r y × RunsSo u once d z r y)
        (Outcome (run_alone u true d z).0 (run_alone u true d z).1) (λ r y so. go r y so.1 so.1.luck refl) d z
        (once_runs once K d z tidy leads)
      where
        go : (r : Result A Fault) (y : Shared) → (runs : RunsSo u once d z r y) → (b : Bool) → runs.luck ≡ b
            → Outcome (run_alone u true d z).0 (run_alone u true d z).1 r y
        go r y runs true lucky =
            let same = runs.is true (λ may. sym lucky) in inl (λ i. (sym same i).0, λ i. (sym same i).1)
        go r y runs false none = inr (inl (runs.spoilt none))
