use Rattle.std.proofs.Common.{rules, ap, sym, ◌∙◌, [], ◌∷◌, ◌++◌, ◌≡◌, ◌+◌, ◌<◌, ℕ, List, map, subst, arith, get_or}
use Rattle.std.specs.List.{All}
use Rattle.std.proofs.lemmas.List.Elements.{All-append}
use mathlib.Core.List.{map-append}
use Rattle.std.proofs.Math.Numerals.{add-one}
use Rattle.jr_steps.specs.declared.known.Known.{Known}
use Rattle.jr_rule.specs.declared.pass.Pass.{Pass}
use Rattle.jr_steps.specs.Holdings.{empty}
use Rattle.jr_rule.specs.Rule.{known, view_of, others_of, SeatState}
use Rattle.jr_rule.specs.Passes.{IsOpened, numbers_below}
use Rattle.jr_rule.proofs.Seats.{next_newcomer}
use Rattle.jr_rule.proofs.row.Row.deal_all.Goals as goal

more_numbers : (items : List Pass) (p : Pass) (t : ℕ) → map (λ (q : Pass). q.thread) items ≡ numbers_below t
    → p.thread ≡ t → map (λ (q : Pass). q.thread) (items ++ p ∷ []) ≡ numbers_below (t + 1)
more_numbers items p t old new = map-append (λ (q : Pass). q.thread) items (p ∷ [])
    ∙ (ap (λ (z : List ℕ × ℕ). z.0 ++ z.1 ∷ []) (λ i. (old i, new i)) ∙ ap numbers_below (sym (add-one t)))

all_more : (P : Pass → Type 0) (items : List Pass) (p : Pass) → All P items → P p → All P (items ++ p ∷ [])
all_more P items p old new = All-append P items (p ∷ []) old
    (λ k d h. let first : k ≡ 0 = below_one k h in subst (λ (z : ℕ). P (get_or (p ∷ []) z d)) (sym first) new)
  where
    below_one : (k : ℕ) → k < 1 → k ≡ 0
    below_one k h = omega arith

pub deal-requires : goal.deal-requires
deal-requires c =
    let e = next_newcomer c.args.self.now.config c.args.self.now.last c.loop-thread.seat.me c.loop-thread.thread
    c.loop-thread-test.true c.loop-thread.invariant.left in
    let first = e ∙ ap (λ (ks : List Known).
    (view_of (known c.args.self.now.config c.args.self.now.last c.loop-thread.thread [] empty 0 ∷ ks), [])) (sym
    (ap (λ (z : SeatState). others_of z.0.passes) e)) in
    record { room = search rules; thread = search rules; first = first }

pub loop-thread-preserved : goal.loop-thread-preserved
loop-thread-preserved c =
    let t = c.loop-thread.thread in
    let e = next_newcomer c.args.self.now.config c.args.self.now.last c.loop-thread.seat.me t c.loop-thread-test.true
    c.loop-thread.invariant.left in
    let d = c.deal.ensures in record {
      seat = search rules;
      left = d.seat.1 ∙ ap (λ (z : SeatState). (view_of (others_of z.0.passes), [])) e;
      threads = ap (map (λ (q : Pass). q.thread)) c.in_ok-push.ensures.items
          ∙ more_numbers c.loop-thread.passes.items c.deal.result t c.loop-thread.invariant.threads d.pass.1;
      each = subst (All (λ p. IsOpened c.args.self.now p)) (sym c.in_ok-push.ensures.items)
          (all_more (λ p. IsOpened c.args.self.now p) c.loop-thread.passes.items c.deal.result
          c.loop-thread.invariant.each d.pass.0);
    }
