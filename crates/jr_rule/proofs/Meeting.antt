-- Two passes at one seat, while they meet.
use Rattle.std.proofs.Common.{◌≡◌, ◌+◌, ℕ, List, [], ◌∷◌, sym, ap, subst, ◌∙◌, arith}
use mathlib.Core.List.{IsPrefix}
use Rattle.jr_model.specs.declared.event.Act.{Act}
use Rattle.jr_steps.specs.declared.known.Known.{Known}
use Rattle.jr_steps.specs.Holdings.{InSpace}
use Rattle.jr_rule.specs.Rule.{counting, joints_at, view_at, AreBeginnings, EachFits, SeatState, stepping_pass}
use Rattle.jr_rule.specs.Rule.{note_again, noted_pass, once_more, others_of, Tells, IsAlone, IsNote, IsSeated}
use Rattle.jr_rule.specs.Rule.{first_alone, together}
use Rattle.jr_rule.proofs.Seats.{joined_is}

module _ (a b m : SeatState) (alone : IsAlone a) (other : IsAlone b) (joined : m ≡ (together a.0 b.0, a.1)) where
  -- the seat that was joined has both passes
  pub both : m ≡ (view_at (joints_at a + joints_at b + 1) (stepping_pass a ∷ stepping_pass b ∷ []) [], [])
  both = joined_is m a b (stepping_pass a) (stepping_pass b) alone other joined

  pub acting_both : stepping_pass m ≡ stepping_pass a
  acting_both = ap stepping_pass both

  pub others_both : others_of m.0.passes ≡ stepping_pass b ∷ []
  others_both = ap (λ (z : SeatState). others_of z.0.passes) both

  pub seated_both : IsSeated m
  seated_both = both ∙ (λ i. (view_at (ap joints_at (sym both) i) (sym acting_both i ∷ sym others_both i) [], []))

  module _ {told : Known → ℕ → List Act → Known → Type 0} (n : ℕ) (m' : SeatState) (s : Tells told m n m')
      (first : SeatState) (parted : first ≡ (first_alone m'.0, m'.1)) where
    -- after the look the first pass sits alone again, and was told what the look told
    pub first_is : first ≡ (view_at (joints_at m + 1) (s.new ∷ []) [], [])
    first_is = parted ∙ (ap (λ (z : SeatState). (first_alone z.0, z.1)) s.is
        ∙ ap (λ (z : SeatState). (view_at (joints_at m + 1) (s.new ∷ []) [], z.1)) both)

    -- it has what both counted, and the join and the parting
    pub met_twice : joints_at first ≡ joints_at a + joints_at b + 2
    met_twice = let n = ap joints_at first_is in let j = ap joints_at both in omega arith

    -- as if it had looked alone
    pub told_alone : Tells told (counting (joints_at first) a) n first
    told_alone = record {
      acts = s.acts;
      new = s.new;
      is = first_is ∙ (λ i. (
        view_at (ap joints_at (sym first_is) i)
            (s.new ∷ ap (λ (z : SeatState). others_of z.0.passes) (sym alone) i) [],
        ap (λ (z : SeatState). z.1) (sym alone) i,
      ));
      goes = subst (λ k. Rattle.jr_steps.specs.Knowing.Goes k s.acts s.new) acting_both s.goes;
      says = subst (λ k. told k n s.acts s.new) acting_both s.says;
      space = subst (λ (k : Known). InSpace k.config (s.new).holdings) acting_both s.space;
      held = s.held;
      others = subst (λ ks. EachFits (stepping_pass a).config (stepping_pass a).last (s.new).seen s.held ks)
          (sym (ap (λ (z : SeatState). others_of z.0.passes) alone)) tt;
      noted = subst (λ ns. AreBeginnings (stepping_pass a).config (s.new).seen ns)
          (sym (ap (λ (z : SeatState). z.0.notes) alone)) tt;
    }

-- A pass and a note at one seat
module _ (a b m : SeatState) (alone : IsAlone a) (note : IsNote b) (joined : m ≡ (together a.0 b.0, a.1)) where
  counted_note : b ≡ (view_at (joints_at b) [] (noted_pass b ∷ []), [])
  counted_note = note ∙ (λ i. (view_at (ap joints_at (sym note) i) [] (noted_pass b ∷ []), []))

  -- the seat that was joined has both, with what both counted, and the join
  pub with_note : m ≡ (view_at (joints_at a + joints_at b + 1) (stepping_pass a ∷ []) (noted_pass b ∷ []), [])
  with_note =
      joined ∙ ap (λ (z : SeatState × SeatState). (together z.0.0 z.1.0, z.0.1)) (λ i. (alone i, counted_note i))

  -- and once the note has left it again, with the parting
  pub past_note : (m' : SeatState) → m' ≡ (once_more m.0, m.1)
      → m' ≡ (view_at (joints_at a + joints_at b + 1 + 1) (stepping_pass a ∷ []) (noted_pass b ∷ []), [])
  past_note m' e = e ∙ ap (λ (z : SeatState). (once_more z.0, z.1)) with_note

-- A pass that learns what a note says, while its seat knows it
module _ (a b m : SeatState) {j : ℕ} (alone : IsAlone a)
    (here : m ≡ (view_at j (stepping_pass a ∷ []) (noted_pass b ∷ []), [])) where
  acting_noted : stepping_pass m ≡ stepping_pass a
  acting_noted = ap stepping_pass here

  module _ {told : Known → ℕ → List Act → Known → Type 0} (n : ℕ) (m' : SeatState) (s : Tells told m n m') where
    -- and it has seen all that the note says
    pub learned : IsPrefix (noted_pass b).seen (stepping_pass m').seen
    learned = subst (λ (k : Known). IsPrefix (noted_pass b).seen k.seen) (sym (ap stepping_pass s.is))
        (subst (λ ns. AreBeginnings (stepping_pass m).config (s.new).seen ns)
        (ap (λ (z : SeatState). z.0.notes) here) s.noted).0.1

    -- its count stays
    pub looked_once : joints_at m' ≡ j
    looked_once = ap joints_at s.is ∙ ap joints_at here

    -- as if it had looked alone
    pub told_noted : Tells told (counting (joints_at m') a) n m'
    told_noted = record {
      acts = s.acts;
      new = s.new;
      is = s.is ∙ (λ i. (
        view_at (ap joints_at (sym s.is) i)
            (s.new ∷ (ap (λ (z : SeatState). others_of z.0.passes) here
            ∙ ap (λ (z : SeatState). others_of z.0.passes) (sym alone)) i) [],
        (ap (λ (z : SeatState). z.1) here ∙ ap (λ (z : SeatState). z.1) (sym alone)) i,
      ));
      goes = subst (λ k. Rattle.jr_steps.specs.Knowing.Goes k s.acts s.new) acting_noted s.goes;
      says = subst (λ k. told k n s.acts s.new) acting_noted s.says;
      space = subst (λ (k : Known). InSpace k.config (s.new).holdings) acting_noted s.space;
      held = s.held;
      others = subst (λ ks. EachFits (stepping_pass a).config (stepping_pass a).last (s.new).seen s.held ks)
          (sym (ap (λ (z : SeatState). others_of z.0.passes) alone)) tt;
      noted = subst (λ ns. AreBeginnings (stepping_pass a).config (s.new).seen ns)
          (sym (ap (λ (z : SeatState). z.0.notes) alone)) tt;
    }
