use Rattle.std.proofs.Common.{◌≡◌, ◌-◌, [], map}
use Rattle.std.specs.List.{All}
use Rattle.jr_rule.specs.declared.pass.Pass.{Pass}
use Rattle.jr_rule.specs.Rule.{view_of, newcomers}
use Rattle.jr_rule.specs.Passes.{IsOpened, numbers_below}
use Rattle.jr_rule.proofs.row.Row.deal_all.Given as goal

abbrev pub invariant-loop-thread : goal.invariant-loop-thread
invariant-loop-thread l = record {
  seat : l.seat.table_id ≡ l.self.table.shared.table_id;
  left : l.seat.me ≡ (view_of (newcomers l.self.config l.self.last (l.self.config.threads - l.thread) l.thread), []);
  threads : map (λ (p : Pass). p.thread) l.passes.items ≡ numbers_below l.thread;
  each : All (λ p. IsOpened l.self p) l.passes.items;
}
