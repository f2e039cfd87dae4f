-- THERE IS ROOM for what a thread asks for, among others and alone; and single steps that make something.
use Rattle.std.proofs.Common.{◌≡◌, ◌⊎◌, inl, inr, ◌≤◌, ◌+◌, ℕ, zero, suc, Bool, true, false, cond, List, [], ◌∷◌}
use Rattle.std.proofs.Common.{length, Option, Some, None, Result, Ok, Err, slice_index_or, slice_set, refl, sym, ap}
use Rattle.std.proofs.Common.{subst, ◌∙◌, arith}
use Rattle.std.proofs.lemmas.List.{take_all}
use Rattle.std.specs.List.{filter}
use Rattle.jr_word.specs.declared.config.Config.{Config}
use Rattle.jr_word.specs.declared.fault.Fault.{Fault}
use Rattle.jr_word.specs.declared.fault.Fault.TheVariants.{Barred}
use Rattle.jr_word.specs.declared.handle.RefKind.{RefKind}
use Rattle.jr_word.specs.declared.handle.RefKind.TheVariants.{Local, Global, Weak}
use Rattle.jr_model.specs.declared.event.Role.{Role}
use Rattle.jr_model.specs.declared.event.Role.TheVariants.{Outside, Within, Knocking}
use Rattle.jr_model.specs.State.{is_barring, same_kind}
use Rattle.jr_world.specs.World.{Ref, how_many, is_ref_of, standing_at}
use Rattle.jr_world.specs.Doing.{Act, Doing, Noted, Shared, decided, entered_in_steps, go_in, go_out, has_no_owner}
use Rattle.jr_world.specs.Doing.{in_role, in_row, inside, noted, of_others, run_alone, step, then_out}
use Rattle.jr_world.specs.Doing.Doing.{ended}
use Rattle.jr_world.proofs.GatePlays.{none_of_others}
use Rattle.jr_env.specs.Tries.{is_tried_again}
use Rattle.jr_scripts.specs.Together.{tried_in_steps}
use Rattle.jr_scripts.proofs.OneRow.Alike.{IsLocal, Tidy, owner_of}
use Rattle.jr_scripts.proofs.OneRow.Follows.{IsSpoilt, nobody, run_then}
use Rattle.jr_scripts.proofs.Apart.Grown.{role_leaps}
use Rattle.jr_scripts.proofs.Apart.Leads.{Ends, Leaps, LeadsTo, Outcome, ResultFor, WasNoted, leads_then}
use Rattle.jr_scripts.proofs.Apart.Mirrors.{Asks, AtLeast, Fits, IsAlone, Mirrors, made_slots}
use Rattle.jr_scripts.proofs.Apart.Numbers.{Extends, Numbers, Of, extends_itself, extends_through}

-- a reference in a slot; and an object of so many words
abbrev pub one_slot : Asks
one_slot = record { slots = 1; objects = 0; words = 0 }

abbrev pub one_object : ℕ → Asks
one_object n = record { slots = 0; objects = 1; words = n }

-- a reference with an owner is neither global nor weak
abbrev InSlot : Option ℕ → Option Ref → Type 0
InSlot None r = Unit {0}
InSlot (Some u) r = (is_ref_of Global r ≡ false) × (is_ref_of Weak r ≡ false)

pub went_in : (u : ℕ) (luck : Bool) (s : Shared) → of_others is_barring u s.roles ≡ false
    → ◌≡◌ {A = Result Noted Fault × Shared} (go_in u luck s) (Ok (noted s), in_role Within u s)
went_in u luck s free = ap (λ b. cond {A = Result Noted Fault × Shared} b (Err Barred, in_role Knocking u s)
    (Ok (noted s), in_role Within u s)) free

pub alone_in : (k : Numbers) (z : Shared) → IsAlone k z
    → ◌≡◌ {A = Result Noted Fault × Shared} (go_in 0 true z) (Ok (noted z), in_role Within 0 z)
alone_in k z alone = went_in 0 true z (ap (of_others is_barring 0) alone.roles)

pub entered_run : {A : Type 0} (work : Noted → Doing A) (k : Numbers) (z : Shared) → IsAlone k z
    → ◌≡◌ {A = Result A Fault × Shared} (run_alone 0 true (entered_in_steps work) z) (
      (run_alone 0 true (work (noted z)) (in_role Within 0 z)).0,
      in_role Outside 0 (run_alone 0 true (work (noted z)) (in_role Within 0 z)).1,
    )
entered_run {A} work k z alone =
    ap (λ (x : Result Noted Fault × Shared). run_alone 0 true (inside (λ from. then_out (work from)) x.0) x.1)
    (alone_in k z alone)
    ∙ run_then nobody 0 (work (noted z)) (λ r. step go_out (λ out. ended r)) (in_role Within 0 z)

-- how many stand in slots
pub row_fits : (s : Shared) → Tidy s → in_row s ≤ made_slots s
row_fits s tidy = counted s.refs s.owners tidy.owned
    (λ n. slots_at (owner_of s n) (standing_at s.refs n) (λ u is. tidy.local n u is))
  where
    slots_at : (o : Option ℕ) (r : Option Ref) → ((u : ℕ) → o ≡ Some u → IsLocal r) → InSlot o r
    slots_at None r local = tt
    slots_at (Some u) None local = (refl, refl)
    slots_at (Some u) (Some r) local = let is = local u refl in
        (ap (same_kind Global) is, ap (same_kind Weak) is)

    counted : (rs : List (Option Ref)) (os : List (Option ℕ)) → length os ≡ length rs
        → ((n : ℕ) → InSlot (slice_index_or os n None) (standing_at rs n))
        → how_many (is_ref_of Global) rs + how_many (is_ref_of Weak) rs ≤ how_many has_no_owner os
    counted [] [] long so = omega arith
    counted [] (o ∷ os) long so = absurd (omega arith)
    counted (r ∷ rs) [] long so = absurd (omega arith)
    counted (r ∷ rs) (o ∷ os) long so = one r o (so 0) (counted rs os (omega arith) (λ n. so (suc n)))
      where
        one : (r : Option Ref) (o : Option ℕ) → InSlot o r
            → how_many (is_ref_of Global) rs + how_many (is_ref_of Weak) rs ≤ how_many has_no_owner os
            → how_many (is_ref_of Global) (r ∷ rs) + how_many (is_ref_of Weak) (r ∷ rs)
            ≤ how_many has_no_owner (o ∷ os)
        one None None at less = omega arith
        one None (Some u) at less = less
        one (Some x) None at less = go x.kind less
          where
            go : (k : RefKind) → how_many (is_ref_of Global) rs + how_many (is_ref_of Weak) rs
                ≤ how_many has_no_owner os
                → length (cond (same_kind Global k) (Some x ∷ filter (is_ref_of Global) rs)
                (filter (is_ref_of Global) rs))
                + length (cond (same_kind Weak k) (Some x ∷ filter (is_ref_of Weak) rs) (filter (is_ref_of Weak) rs))
                ≤ suc (how_many has_no_owner os)
            go Local less = omega arith
            go Global less = omega arith
            go Weak less = omega arith
        one (Some x) (Some u) at less = subst (λ b. length (cond b (Some x ∷ filter (is_ref_of Global) rs)
            (filter (is_ref_of Global) rs)) + length (cond (same_kind Weak x.kind)
            (Some x ∷ filter (is_ref_of Weak) rs) (filter (is_ref_of Weak) rs)) ≤ how_many has_no_owner os)
            (sym at.0) (subst (λ b. how_many (is_ref_of Global) rs
            + length (cond b (Some x ∷ filter (is_ref_of Weak) rs) (filter (is_ref_of Weak) rs))
            ≤ how_many has_no_owner os) (sym at.1) less)

noted_was : (r : Role) (u : ℕ) (s : Shared) → Tidy s → WasNoted (Some (noted s)) (in_role r u s)
noted_was r u s tidy = (
  let owned = tidy.owned in omega arith,
  subst (λ (l : List (Option ℕ)). in_row s ≤ how_many has_no_owner l)
      (sym (take_all (length s.refs) s.owners (let owned = tidy.owned in omega arith))) (row_fits s tidy),
)

-- before a call and behind it
abbrev pub behind : Shared → Shared
behind z = in_role Outside 0 (in_role Within 0 z)

-- from behind a call it does the same
entered_again : {A : Type 0} (alone : Noted → Doing A) (k : Numbers) (z : Shared) → IsAlone k z
    → run_alone 0 true (entered_in_steps alone) (behind z) ≡ run_alone 0 true (entered_in_steps alone) z
entered_again alone k z lone =
    ap (λ (x : Result Noted Fault × Shared). run_alone 0 true (inside (λ from. then_out (alone from)) x.0) x.1) same
  where
    same : ◌≡◌ {A = Result Noted Fault × Shared} (go_in 0 true (behind z)) (go_in 0 true z)
    same = went_in 0 true (behind z)
        (ap (λ (rs : List Role). of_others is_barring 0 (slice_set (slice_set rs 0 Within) 0 Outside)) lone.roles)
        ∙ (ap (λ (rs : List Role). (Ok (noted z), record z { roles = rs }))
        (ap (λ (rs : List Role). slice_set (slice_set (slice_set rs 0 Within) 0 Outside) 0 Within) lone.roles
        ∙ sym (ap (λ (rs : List Role). slice_set rs 0 Within) lone.roles)) ∙ sym (alone_in k z lone))

not_again : {A : Type 0} (Q : A → A → Type 0) (a r : Result A Fault) → ResultFor Q a r
    → is_tried_again r ≡ false → is_tried_again a ≡ false
not_again Q (Ok x) (Ok y) for is = refl
not_again Q (Ok x) (Err f) for is = absurd for
not_again Q (Err e) (Ok y) for is = absurd for
not_again {A} Q (Err e) (Err f) for is = ap (λ (x : Fault). is_tried_again {A = A} (Err x)) for ∙ is

spoilt_not : {A : Type 0} (a : Result A Fault) → IsSpoilt a → is_tried_again a ≡ false
spoilt_not a (inl is) = ap is_tried_again is
spoilt_not a (inr is) = ap is_tried_again is

-- ONE CALL: it ends as alone, or it is to be made again, from what stood before
abbrev pub Once : {A : Type 0} → Of A → Result A Fault × Shared → Shared → Asks → Asks → Ends A
Once Q w back e asked since k i a y =
    Outcome None Q w e since k i a y ⊎ ((is_tried_again a ≡ true) × (y ≡ back) × AtLeast i asked)

module _ (c : Config) (t : ℕ) where
  -- where a step leads that does this
  abbrev pub To : {A B : Type 0} → Ends A → (Result B Fault → Doing A) → Numbers → Asks → Shared → Shared
      → Result B Fault × Shared → Type 0
  To K more k q s z x = (j : Numbers) × (p : Asks) × (y : Shared) × (since : Option Noted)
      × Leaps c t k q s z x.1 j p y × WasNoted since x.1 × LeadsTo c t since K (more x.0) j p y

  pub step_leads : {A B : Type 0} (noted : Option Noted) (K : Ends A) (act : Act B) (more : Result B Fault → Doing A)
      (k : Numbers) (q : Asks) (z : Shared) → ((luck : Bool) (s : Shared) → Mirrors t k s z → Fits c q s
      → WasNoted noted s → (x : Result B Fault × Shared) × (act t luck s ≡ x) × To K more k q s z x)
      → LeadsTo c t noted K (step act more) k q z
  step_leads noted K act more k q z so = λ luck s mirrors fits was.
      let to = so luck s mirrors fits was in subst (To K more k q s z) (sym to.1) to.2

  -- out at the gate
  out_leads : {A : Type 0} (Q : Of A) (w : Result A Fault × Shared) (back : Shared) (e asked : Asks)
      (since : Option Noted) (j : Numbers) (i : Asks) (a : Result A Fault) (y : Shared)
      → Once Q w back e asked since j i a y
      → LeadsTo c t since (Once Q (w.0, in_role Outside 0 w.1) (in_role Outside 0 back) e asked)
      (step go_out (λ out. ended a)) j i y
  out_leads Q w back e asked since j i a y so = λ luck s mirrors fits was. (
    j,
    i,
    in_role Outside 0 y,
    None,
    role_leaps mirrors Outside refl,
    tt,
    go so,
  )
    where
      go : Once Q w back e asked since j i a y
          → Once Q (w.0, in_role Outside 0 w.1) (in_role Outside 0 back) e asked None j i a (in_role Outside 0 y)
      go (inl (inl (still, for, is, least))) = inl (inl (tt, for, ap (in_role Outside 0) is, least))
      go (inl (inr spoilt)) = inl (inr spoilt)
      go (inr (again, is, least)) = inr (again, ap (in_role Outside 0) is, least)

  pub entered_leads : {A : Type 0} (Q : Of A) (work alone : Noted → Doing A) (e asked : Asks)
      (noted_so : Option Noted) (k : Numbers) (q : Asks) (z : Shared) → IsAlone k z
      → ((from : Noted) → IsAlone k (in_role Within 0 z) → LeadsTo c t (Some from)
      (Once Q (run_alone 0 true (alone (noted z)) (in_role Within 0 z)) (in_role Within 0 z) e asked) (work from) k q
      (in_role Within 0 z))
      → LeadsTo c t noted_so (Once Q (run_alone 0 true (entered_in_steps alone) z) (behind z) e asked)
      (entered_in_steps work) k q z
  entered_leads {A} Q work alone e asked noted_so k q z lone inner = subst
      (λ (w : Result A Fault
      × Shared). LeadsTo c t noted_so (Once Q w (behind z) e asked) (entered_in_steps work) k q z)
      (sym (entered_run alone k z lone))
      (step_leads noted_so _ go_in (inside (λ from. then_out (work from))) k q z (λ luck s mirrors fits was. (
        (Ok (noted s), in_role Within t s),
        went_in t luck s (none_of_others is_barring t s.roles mirrors.unbarred),
        (
          k,
          q,
          in_role Within 0 z,
          Some (noted s),
          went s mirrors,
          noted_was Within t s mirrors.tidy,
          leads_then c t (Some (noted s)) _ _ (work (noted s)) (λ r. step go_out (λ out. ended r)) k q
              (in_role Within 0 z) (went s mirrors).mirrors.alone
              (inner (noted s) (went s mirrors).mirrors.alone)
              (λ since j p r y more there so. out_leads Q (run_alone 0 true (alone (noted z)) (in_role Within 0 z))
              (in_role Within 0 z) e asked since j p r y so),
        ),
      )))
    where
      went : (s : Shared) → Mirrors t k s z → Leaps c t k q s z (in_role Within t s) k q (in_role Within 0 z)
      went s mirrors = role_leaps mirrors Within refl

  -- A CALL THAT IS MADE AGAIN where it is to be
  module _ {A : Type 0} (Q : Of A) (call : Doing A) (alone : Noted → Doing A) (e asked : Asks)
      (first : Numbers) (settled : (k : Numbers) (z : Shared) → IsAlone k z
      → is_tried_again (run_alone 0 true (entered_in_steps alone) z).0 ≡ false)
      (once : (noted : Option Noted) (k : Numbers) (q : Asks) (z : Shared) → Extends first k → AtLeast q asked
      → IsAlone k z → LeadsTo c t noted
      (Once Q (run_alone 0 true (entered_in_steps alone) z) (behind z) e asked) call k q z) where
    again_leads : (n : ℕ) (noted : Option Noted) (k : Numbers) (q : Asks) (z : Shared) (w : Result A Fault × Shared)
        → run_alone 0 true (entered_in_steps alone) z ≡ w → Extends first k → AtLeast q asked → IsAlone k z
        → LeadsTo c t noted (Outcome None Q w e) (tried_in_steps n call) k q z
    again_leads zero noted k q z w is more least lone = inr (inr refl)
    again_leads (suc n) noted k q z w is more least lone = leads_then c t noted
        (Once Q (run_alone 0 true (entered_in_steps alone) z) (behind z) e asked) (Outcome None Q w e) call
        next k q z lone (once noted k q z more least lone)
        (λ since j p a y on there. go since j p a y
        (λ at enough. again_leads n since j p y w (ap (run_alone 0 true (entered_in_steps alone)) at
        ∙ (entered_again alone k z lone ∙ is)) (extends_through more on) enough there))
      where
        next : Result A Fault → Doing A
        next a = cond (is_tried_again a) (tried_in_steps n call) (decided a)

        this : Result A Fault × Shared
        this = run_alone 0 true (entered_in_steps alone) z

        ends : (since : Option Noted) (j : Numbers) (p : Asks) (a : Result A Fault) (y : Shared)
            → is_tried_again a ≡ false → Outcome None Q w e since j p a y
            → LeadsTo c t since (Outcome None Q w e) (next a) j p y
        ends since j p a y not_so so = subst (λ b. LeadsTo c t since (Outcome None Q w e)
            (cond b (tried_in_steps n call) (decided a)) j p y) (sym not_so) so

        go : (since : Option Noted) (j : Numbers) (p : Asks) (a : Result A Fault) (y : Shared)
            → (y ≡ behind z → AtLeast p asked
            → LeadsTo c t since (Outcome None Q w e) (tried_in_steps n call) j p y)
            → Once Q this (behind z) e asked since j p a y
            → LeadsTo c t since (Outcome None Q w e) (next a) j p y
        go since j p a y anew (inl (inl (still, for, at, enough))) = ends since j p a y
            (not_again (Q j) a this.0 for (settled k z lone))
            (subst (λ (x : Result A Fault × Shared). Outcome None Q x e since j p a y) is
            (inl (tt, for, at, enough)))
        go since j p a y anew (inl (inr spoilt)) = ends since j p a y (spoilt_not a spoilt) (inr spoilt)
        go since j p a y anew (inr (again, at, enough)) =
            subst (λ b. LeadsTo c t since (Outcome None Q w e)
            (cond b (tried_in_steps n call) (decided a)) j p y) (sym again) (anew at enough)

    -- .. alone it is made once
    pub tried_leads : (turns : ℕ) (noted : Option Noted) (q : Asks) (z : Shared) → AtLeast q asked → IsAlone first z
        → LeadsTo c t noted (Outcome None Q
        (run_alone 0 true (tried_in_steps turns (entered_in_steps alone)) z) e) (tried_in_steps turns call) first q z
    tried_leads zero noted q z least lone = inr (inr refl)
    tried_leads (suc n) noted q z least lone = again_leads (suc n) noted first q z
        (run_alone 0 true (tried_in_steps (suc n) (entered_in_steps alone)) z)
        (sym (run_then nobody 0 (entered_in_steps alone) (λ a. cond (is_tried_again a)
        (tried_in_steps n (entered_in_steps alone)) (decided a)) z
        ∙ ap (λ b. run_alone 0 true (cond b (tried_in_steps n (entered_in_steps alone))
        (decided (run_alone 0 true (entered_in_steps alone) z).0)) (run_alone 0 true (entered_in_steps alone) z).1)
        (settled first z lone))) (extends_itself first) least lone
