-- A room that its last owner closes, once he has collected and taken a dump.
use Rattle.std.proofs.Common.{◌≡◌, ◌≢◌, ◌⊎◌, inl, inr, ⊎_elim, ℕ, ap, refl, subst, ◌∷◌, []}
use Rattle.jr_word.specs.declared.fault.Fault.{Fault}
use Rattle.jr_word.specs.declared.fault.Fault.TheVariants.{Size}
use Rattle.jr_model.specs.declared.event.Act.TheVariants.{ShutBusy}
use Rattle.jr_steps.specs.Knowing.{Took, anything, keeps}
use Rattle.jr_weak.specs.Collecting.{MakesCollection}
use Rattle.jr_rule.specs.declared.closing.Left.{Left}
use Rattle.jr_rule.specs.declared.pass.Pass.{Pass}
use Rattle.jr_rule.specs.declared.room.Room.{Room}
use Rattle.jr_rule.specs.Passes.{Holder, facts_of, holder_of, known_of, IsAt}
use Rattle.jr_rule.specs.Rooms.{IsLeft}
use Rattle.jr_rule.specs.Rule.{stepping_pass}
use Rattle.jr_alive.specs.declared.dump.Dump.{Dump}
use Rattle.jr_threads.specs.Listing.{TookNoDump}
use Rattle.jr_threads.proofs.Swept.{swept_made}
use Rattle.jr_owned.specs.Listing.{HasDumped, IsLeftListing, IsNotDumped}

module _ {S : Type 0} (holder : S → Holder) where
  -- at one act a thread was kept out
  kept_out : (a b : S) (n : ℕ) → Took (λ s. facts_of (holder s)) a b (ShutBusy n ∷ []) anything keeps
      → Took facts_of (holder a) (holder b) (ShutBusy n ∷ []) anything keeps
  kept_out a b n t = record { stands_is = t.stands_is; hint_is = t.hint_is; goes = t.goes }

  -- no dump was taken
  pub not_dumped : (fits objects : ℕ) (a b : S) (e : Fault)
      → (facts_of (holder a)).knows (stepping_pass (holder a).seat.me)
      → ((e ≡ Size) × (fits ≢ objects) × (b ≡ a)) ⊎ TookNoDump (λ s. facts_of (holder s)) a b e
      → IsNotDumped fits objects (holder a) (holder b) e
  not_dumped fits objects a b e knows = ⊎_elim
      (λ (x : (e ≡ Size) × (fits ≢ objects) × (b ≡ a)). inr (inl (inl (x.0, x.1, ap holder x.2))))
      (λ (z : TookNoDump (λ s. facts_of (holder s)) a b e). ⊎_elim
      (λ (same : z.between ≡ a). inr (inl (inr (
        z.count,
        z.is,
        z.some,
        kept_out a b z.count
            (subst (λ s. Took (λ x. facts_of (holder x)) s b (ShutBusy z.count ∷ []) anything keeps) same z.took),
      ))))
      (λ (made : (cleared : ℕ) × (dropped : ℕ) × (used : ℕ)
      × MakesCollection (λ s. facts_of (holder s)) a z.between cleared dropped used).
      inr (inr (
        holder z.between,
        swept_made (λ s. facts_of (holder s)) (λ s. stepping_pass (holder s).seat.me) a
            z.between (λ k n. n.0) knows made.3,
        z.count,
        z.is,
        z.some,
        kept_out z.between b z.count z.took,
      )))
      z.behind)

pub dumped_left : (fits : ℕ) (room : Room 4294967295) (p q : Pass) (d : Dump) (l : Left 4294967295)
    → HasDumped (known_of p) (known_of q) d → IsLeft room q l → IsLeftListing fits room (holder_of p) l
dumped_left fits room p q d left h l = record {
  same = l.same;
  of_room = l.of_room;
  why = inr (
    holder_of q,
    d,
    h,
    record {
      count = l.count;
      fault = l.fault;
      some = l.some;
      is = l.is;
      same = l.same;
      of_room = l.of_room;
      took = l.took;
    },
  );
}

-- what a close answers, behind a dump
pub dumped_not : (fits : ℕ) (room : Room 4294967295) (p q : Pass) (e : Fault) → IsAt room.row q
    → IsNotDumped fits room.row.config.objects (holder_of p) (holder_of q) e
    → IsLeftListing fits room (holder_of p) (record { room = room; pass = q; fault = e })
dumped_not fits room p q e at why = record { same = refl; of_room = at; why = inl why }
