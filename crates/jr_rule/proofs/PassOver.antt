-- The steps of a pass stand as it does, and a pass that is handed out as they do; and it stays in its room.
use Rattle.std.proofs.Common.{◌≡◌, ◌<◌, ℕ, Bool, Some, List, [], ◌∷◌, refl, sym, ap, subst, ◌∙◌, arith}
use Rattle.std.proofs.Math.Logic.{∥∥₁_elim}
use Rattle.std.proofs.Props.{props}
use mathlib.Core.Logic.{∥∥₁_map}
use Rattle.atomic_table.specs.Seated.{TableId}
use Rattle.jr_word.specs.declared.config.Config.{Config}
use Rattle.jr_model.specs.declared.event.Role.{Role}
use Rattle.jr_model.specs.declared.event.Act.{Act}
use Rattle.jr_model.specs.History.{IsLegal, role_of}
use Rattle.jr_steps.specs.declared.known.Known.{Known}
use Rattle.jr_steps.specs.Knowing.{HasStoredNone, Standing, Took, view}
use Rattle.jr_rule.specs.Cells.{IsStanding}
use Rattle.jr_rule.specs.Sights.{sight_of_seat, IsSeatOf}
use Rattle.jr_rule.specs.declared.pass.Pass.{Pass}
use Rattle.jr_rule.specs.declared.row.Row.{Row}
use Rattle.jr_rule.specs.Passes.{Holder, facts_of, holder_of, known_of, standing_of, IsAt, IsOpened}
use Rattle.jr_rule.specs.Rule.{SeatState, IsHeld, stepping_pass, view_of}

pub standing_of_held : {id : TableId} {m : SeatState} {thread : ℕ} {role : Role} {fresh : Bool} {hint : ℕ}
    → IsHeld m thread role fresh hint → IsStanding (sight_of_seat id m) role fresh hint
standing_of_held {m = m} h = record {
  some = ∥∥₁_map h.legal (λ l. (
    stepping_pass m,
    (
      refl,
      record {
        config = refl;
        last = refl;
        thread = refl;
        role = h.role_is;
        legal = l;
        unused = h.unused;
      },
    ),
  ));
  below = h.below;
}

pub held_of_standing : {row id : TableId} {c : Config} {last : ℕ} {m : SeatState} {thread : ℕ} {role : Role}
    {fresh : Bool} {hint : ℕ} → IsSeatOf row c last id m thread → IsStanding (sight_of_seat id m) role fresh hint
    → IsHeld m thread role fresh hint
held_of_standing {m = m} {thread} {role} {fresh} {hint} a s =
    let below : thread < (stepping_pass m).config.threads =
    subst (λ t. t < (stepping_pass m).config.threads) a.thread_is a.below in
    let most = a.sized.limited.threads.1 in record {
      alone = a.alone;
      thread_is = a.thread_is;
      role_is = ∥∥₁_elim s.some (hlevel props) (λ k. subst (λ z. role_of (view z) ≡ role) (k.1).0 (k.1).1.role);
      legal = ∥∥₁_map s.some (λ k. subst (λ (z : Known). IsLegal z.config z.last z.seen) (k.1).0 (k.1).1.legal);
      sized = a.sized;
      row = below;
      few = omega arith;
      unused = λ f p. ∥∥₁_elim s.some (hlevel props) (λ k. subst HasStoredNone (k.1).0 ((k.1).1.unused f) p);
      space = a.space;
      below = s.below;
    }

-- who sits at a seat whose first pass is as it was stands as before, however often the seat was joined and cut
pub standing_same : {id id' : TableId} (m m' : SeatState) {role : Role} {fresh : Bool} {hint : ℕ} → id' ≡ id
    → stepping_pass m' ≡ stepping_pass m → IsStanding (sight_of_seat id m) role fresh hint
    → IsStanding (sight_of_seat id' m') role fresh hint
standing_same m m' {role} {fresh} {hint} table same =
    subst (λ (x : TableId × Known). IsStanding (sight_of_seat x.0 (view_of (x.1 ∷ []), [])) role fresh hint)
    (λ i. (sym table i, sym same i))

-- a pass that stands in the same room is one of the row's own
pub still_of : (r : Row) (p q : Pass) → (standing_of q).room ≡ (standing_of p).room
    → (standing_of q).config ≡ (standing_of p).config → (standing_of q).last ≡ (standing_of p).last → IsAt r p
    → IsAt r q
still_of r p q e c l h = record { row = table e ∙ h.row; config = c ∙ h.config; last = l ∙ h.last } where
  table : Some q.seat.table_id ≡ Some p.seat.table_id → q.seat.table_id ≡ p.seat.table_id
  table e = cc

-- a step that was taken over what a pass is made of is one of the pass
pub took_there : {S : Type 0} (holder : S → Holder) {a b : S} {h h' : Holder} {acts : List Act} {met : Known → Type 0}
    {shows : Known → Known → Type 0} → holder a ≡ h → holder b ≡ h' → Took (λ s. facts_of (holder s)) a b acts met shows
    → Took facts_of h h' acts met shows
took_there holder {a} {b} {acts = acts} {met} {shows} first last t =
    let there : Took facts_of (holder a) (holder b) acts met shows =
    record { stands_is = t.stands_is; hint_is = t.hint_is; goes = t.goes } in
    subst (λ (z : Holder × Holder). Took facts_of z.0 z.1 acts met shows) (λ i. (first i, last i)) there

-- and a pass of whose room the steps were is of that room then
pub stays_of : (r : Row) (p q : Pass) {acts : List Act} {met : Known → Type 0} {shows : Known → Known → Type 0}
    → Took facts_of (holder_of p) (holder_of q) acts met shows → IsAt r p → IsAt r q
stays_of r p q t at = still_of r p q (ap (λ (s : Standing). s.room) t.stands_is)
    (ap (λ (s : Standing). s.config) t.stands_is) (ap (λ (s : Standing). s.last) t.stands_is) at

-- a pass that was opened knows what it shows
pub opened_knows : (r : Row) (p : Pass) → IsOpened r p → (facts_of (holder_of p)).knows (known_of p)
opened_knows r p o = (
  refl,
  record {
    config = refl;
    last = refl;
    thread = refl;
    role = p.held.role_is;
    legal = subst (λ (k : Known). IsLegal k.config k.last k.seen) (sym o.knows) tt;
    unused = p.held.unused;
  },
)
