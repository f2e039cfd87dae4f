-- Reads and writes at their moments.
use Rattle.std.proofs.Common.{◌≡◌, ◌<◌, ◌++◌, ℕ, zero, suc, Some, List, [], ◌∷◌, length}
use Rattle.std.proofs.Common.{slice_get, slice_set, refl, sym, ap, ◌∙◌, append_assoc, arith}
use Rattle.jr_model.specs.declared.event.Act.TheVariants.{Read, Write}
use Rattle.jr_model.specs.State.{State}
use Rattle.jr_model.specs.Steps.{written}
use Rattle.jr_model.specs.History.{by, state}
use Rattle.jr_model.proofs.Updates.{at_number_self}
use Rattle.jr_model.proofs.Histories.{state_push}
use Rattle.jr_model.proofs.Moments.{one_act, before_new, prefix_trans}
use Rattle.jr_heap.specs.Laws.{HeadersHold, ReadsElement, WritesElement}
use Rattle.jr_heap.proofs.StayFacts.{object_later}

pub headers_hold : HeadersHold
headers_hold k k' acts o h d w q known x = record { known = known; shown = object_later k k' acts d w q o h x.shown }

pub reads_element : ReadsElement
reads_element old new o i v d =
    let a = one_act (Read o i v) d in
    let n = a.needs.1 in
    record { moment = a.before; from = a.from; to = before_new a; met = (n.1, n.2, n.3) }

set_here : (ws : List ℕ) (i v : ℕ) → i < length ws → slice_get (slice_set ws i v) i ≡ Some v
set_here [] i v l = absurd (omega arith)
set_here (w ∷ ws) zero v l = refl
set_here (w ∷ ws) (suc i) v l = set_here ws i v (shorter i (length ws) l)
  where
    shorter : (i n : ℕ) → suc i < suc n → i < n
    shorter i n l = omega arith

pub writes_element : WritesElement
writes_element old new o i v d =
    let a = one_act (Write o i v) d in
    let n = a.needs.1 in
    let e = by old.thread (Write o i v) in
    let there : (state (a.before ++ e ∷ [])).objects o
    ≡ Some (record { kind = n.1.kind; words = slice_set n.1.words i v })
    = ap (λ (s : State). s.objects o) (state_push a.before e)
    ∙ (at_number_self (state a.before).objects o (written ((state a.before).objects o) i v)
    ∙ ap (λ z. written z i v) n.2) in
    record {
      moment = a.before ++ e ∷ [];
      from = prefix_trans old.seen a.before (a.before ++ e ∷ []) a.from (e ∷ [], refl);
      to = (a.since, append_assoc a.before (e ∷ []) a.since ∙ sym a.parts);
      met = (record { kind = n.1.kind; words = slice_set n.1.words i v }, there, set_here n.1.words i v n.4);
    }
