use Rattle.std.proofs.Common.{◌≡◌, ◌≤◌, ◌+◌, ℕ, Some, length, sym, ◌∙◌, subst, arith}
use Rattle.jr_alive.specs.declared.search.Search.{Search}
use Rattle.jr_alive.proofs.Elements.{ElementsTo, elements_all, elements_skip, elements_take}
use Rattle.jr_alive.proofs.search.Search.reach_elements.Goals as goal
use Rattle.jr_alive.proofs.search.Search.reach_elements.Goals.{in-Some-object_of+in_ok-reach, in_default-object_of}

pub loop-index-preserved : goal.loop-index-preserved
loop-index-preserved c =
    let d = c.args.dump.now in
    let old = c.args.self.now in
    let n = c.loop-index.index in
    let is = sym c.header.ensures ∙ c.in-Some.is in
    let long = d.headers.ok.0 in
    let most = d.few in
    let few : length d.headers.items ≤ 65535 = omega arith in
    let named : ℕ → Type 0 = λ word. 1 ≤ word → word ≤ 65535 → c.object_of.result ≡ Some word in
    elim c.match-object_of.branch [
      | in-Some-object_of+in_ok-reach w ↦
          subst (λ (s : Search). ElementsTo d c.args.without c.args.array (n + 1) (c.args.depth + 1) old.entries.items
          old.queue.items s.entries.items s.queue.items) (sym w.self-is)
          (elements_take c.loop-index.invariant c.in-Some.header is w.in-Some-object_of.object
          (w.in-Some-object_of.ensures.sound ∙ c.word.ensures) w.reach.new.self.entries.items
          w.reach.new.self.queue.items w.in_ok-reach.ensures.stands w.in_ok-reach.ensures.farthest
          w.in_ok-reach.ensures.grows w.in_ok-reach.ensures.found)
      | in_default-object_of w ↦
          subst (λ (s : Search). ElementsTo d c.args.without c.args.array (n + 1) (c.args.depth + 1) old.entries.items
          old.queue.items s.entries.items s.queue.items) (sym w.self-is)
          (elements_skip c.loop-index.invariant c.in-Some.header is few c.object_of.result
          (subst named c.word.ensures c.object_of.ensures.complete)
          w.in_default-object_of.is)
    ]

pub returns-clause-found : goal.returns-clause-found
returns-clause-found c =
    elements_all c.loop-index.invariant c.in-Some.header (sym c.header.ensures ∙ c.in-Some.is) c.loop-index-test.false
