-- One operation on a room's words: what it tells of the seat is what it makes of what the thread knows.
use Rattle.std.proofs.Common.{◌≡◌, ◌<◌, ℕ, true, Some, List, [], ◌∷◌, refl, sym, ap, subst, ◌∙◌}
use mathlib.Core.Logic.{∥∥₁_map}
use Rattle.std.proofs.Math.Logic.{∥∥₁_elim}
use Rattle.std.proofs.Props.{props}
use Rattle.atomic_table.specs.Seated.{TableId}
use Rattle.jr_word.specs.declared.config.Config.{Config}
use Rattle.jr_word.specs.Config.{row_words}
use Rattle.jr_model.specs.declared.event.Act.{Act}
use Rattle.jr_model.specs.declared.event.Role.TheVariants.{Outside}
use Rattle.jr_steps.specs.declared.known.Known.{Known}
use Rattle.jr_steps.specs.Holdings.{InSpace}
use Rattle.jr_steps.specs.Knowing.{Goes}
use Rattle.jr_rule.specs.Cells.{IsOwed, HasStepped, May, WentBy}
use Rattle.jr_rule.specs.Sights.{sight_of_seat, IsSeatOf}
use Rattle.jr_rule.specs.Rule.{SeatState, IsSeated, IsAlone, IsSized, Owes, Tells, counting, joints_at, stepping_pass}
use Rattle.jr_rule.specs.Rule.{others_of, view_at}

-- who sits alone is seated
pub seated : (m : SeatState) → IsAlone m → IsSeated m
seated m alone =
    alone ∙ (λ i. (
      view_at (joints_at m) (stepping_pass m ∷ others_of (sym (ap (λ (z : SeatState). z.0) alone) i).passes) [],
      [],
    ))

-- with another count it sits there as before
pub counted_seat : {row id : TableId} {c : Config} {last thread n : ℕ} {m : SeatState}
    → IsSeatOf row c last id m thread → IsSeatOf row c last id (counting n m) thread
counted_seat {n = n} s = record {
  table = s.table;
  config = s.config;
  last = s.last;
  alone = ap (counting n) s.alone;
  thread_is = s.thread_is;
  sized = s.sized;
  below = s.below;
  space = s.space;
}

-- a place of the words is one of the row's
pub place_here : {row id : TableId} {c : Config} {last thread : ℕ} {m : SeatState} → IsSeatOf row c last id m thread
    → row.words ≡ row_words c → {met : Known → Type 0} {i : ℕ} {f : ℕ → ℕ}
    {told : Known → ℕ → List Act → Known → Type 0} → IsOwed (sight_of_seat id m) met i f told → i < row.words
place_here s words {i = i} o = subst (λ n. i < n) (ap row_words s.config ∙ sym words) o.place

-- what the pass owes
pub owes_here : (m : SeatState) {id : TableId} {met : Known → Type 0} {i : ℕ} {f : ℕ → ℕ}
    {told : Known → ℕ → List Act → Known → Type 0} → IsOwed (sight_of_seat id m) met i f told
    → Owes (stepping_pass m) i f (told (stepping_pass m))
owes_here m {met = met} o = o.owes (stepping_pass m) (record { is = refl; config = refl; last = refl; thread = refl })
    (∥∥₁_map o.may (λ k. subst met (k.1).is k.2))

module _ {told : Known → ℕ → List Act → Known → Type 0} {m m' : SeatState} {n : ℕ} (t : Tells told m n m') where
  new_is : t.new ≡ stepping_pass m'
  new_is = sym (ap stepping_pass t.is)

  -- a step neither joins nor cuts
  pub same_joints : joints_at m ≡ joints_at m'
  same_joints = sym (ap joints_at t.is)

  same_config : (stepping_pass m').config ≡ (stepping_pass m).config
  same_config = ap (λ (k : Known). k.config) (sym new_is) ∙ t.goes.config

  same_last : (stepping_pass m').last ≡ (stepping_pass m).last
  same_last = ap (λ (k : Known). k.last) (sym new_is) ∙ t.goes.last

  same_thread : (stepping_pass m').thread ≡ (stepping_pass m).thread
  same_thread = ap (λ (k : Known). k.thread) (sym new_is) ∙ t.goes.thread

  -- the seat is one of the row's own still
  pub seat_next : {row id id' : TableId} {c : Config} {last thread : ℕ} → id' ≡ id → IsSeatOf row c last id m thread
      → IsSeatOf row c last id' m' thread
  seat_next e s = record {
    table = e ∙ s.table;
    config = same_config ∙ s.config;
    last = same_last ∙ s.last;
    alone = t.is ∙ (λ i. (
      view_at (same_joints i) (new_is i ∷ ap (λ (z : SeatState). others_of z.0.passes) s.alone i) [],
      ap (λ (z : SeatState). z.1) s.alone i,
    ));
    thread_is = same_thread ∙ s.thread_is;
    sized = subst (λ (z : Config × ℕ). IsSized z.0 z.1) (λ i. (sym same_config i, sym same_last i)) s.sized;
    below = subst (λ (z : Config × ℕ). z.1 < (z.0).threads) (λ i. (sym same_config i, sym same_thread i)) s.below;
    space = subst (λ (k : Known). InSpace k.config k.holdings) new_is
        (subst (λ (c : Config). InSpace c (t.new).holdings) (sym t.goes.config) t.space);
  }

  -- and the step was taken
  pub seat_stepped : {id id' : TableId} {met : Known → Type 0} → id' ≡ id
      → HasStepped (sight_of_seat id m) (sight_of_seat id' m') met told n
  seat_stepped e = record {
    first = λ i. record {
      room = Some (e i);
      config = same_config i;
      last = same_last i;
      thread = same_thread i;
      role = Outside;
      fresh = true;
    };
    makes = λ k h q.
        let g = t.goes in record {
          new = t.new;
          acts = t.acts;
          is = record {
            is = new_is;
            config = ap (λ (z : Known). z.config) new_is;
            last = ap (λ (z : Known). z.last) new_is;
            thread = ap (λ (z : Known). z.thread) new_is;
          };
          goes = subst (λ z. Goes z t.acts t.new) (sym h.is) g;
          says = subst (λ z. told z n t.acts t.new) (sym h.is) t.says;
        };
  }

  -- and it went by the acts of which it tells
  pub seat_went : {id : TableId} {met : Known → Type 0} → May (sight_of_seat id m) met
      → WentBy (λ acts. Goes (stepping_pass m) acts (stepping_pass m')) (sight_of_seat id m) met told n
  seat_went {met = met} may acts its =
      let here : told (stepping_pass m) n t.acts (stepping_pass m') =
      subst (λ z. told (stepping_pass m) n t.acts z) new_is t.says in
      let is : t.acts ≡ acts = ∥∥₁_elim may (hlevel props) (λ k. its (stepping_pass m) (stepping_pass m') t.acts
      (record { is = refl; config = refl; last = refl; thread = refl }) (subst met (k.1).is k.2) here) in
      subst (λ (z : List Act × Known). Goes (stepping_pass m) z.0 z.1) (λ i. (is i, new_is i)) t.goes
