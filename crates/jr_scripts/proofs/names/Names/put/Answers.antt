use Rattle.std.proofs.Common.{◌∙◌, None, ap, sym, w64}
use Rattle.std.proofs.lemmas.Int.{to_z-of_z}
use Rattle.std.specs.FinMap.{from_entries}
use Rattle.jr_elements.specs.Copies.{answer_in}
use Rattle.jr_scripts.specs.Names.{Names, names_put, putting}
use Rattle.jr_scripts.specs.declared.names.Names.TheInside.{Inside}
use Rattle.jr_scripts.proofs.NameMaps.{stands_as, now_put, answer_put}
use Rattle.jr_scripts.proofs.names.Names.put.Goals.{in-Some, in-None}
use Rattle.jr_scripts.proofs.names.Names.put.Goals as goal

abbrev viewed : Inside → Names
viewed x = from_entries x.bindings.entries

pub returns-clause-answer : goal.returns-clause-answer
returns-clause-answer c =
    elim c.match-get_mut.branch [
      | in-Some w ↦ (w.result-is ∙ answer_put c.self.inside.bindings.entries c.args.self.now c.args.name.now
          c.self.view_is (c.get_mut.follows.lender w.put.new.self).entries w.in-Some.binding.now w.put.new.self
          (sym w.in-Some.ensures.value) (λ set. ((c.get_mut.follows.holds w.put.new.self).3 set).0) c.args.index _
          c.args.number w.put.result (to_z-of_z w64 c.args.number c.ranges.number) w.put.ensures.ok w.put.ensures.err)
      | in-None w ↦ (w.result-is ∙ ap (λ s. answer_in (λ _. tt) (putting c.args.index c.args.number s)) (sym
          (stands_as c.self.inside.bindings.entries c.args.self.now c.args.name.now c.self.view_is None
          (sym w.in-None.ensures.value))))
    ]

pub returns-clause-names : goal.returns-clause-names
returns-clause-names c =
    elim c.match-get_mut.branch [
      | in-Some w ↦ (ap viewed w.self-inside-is ∙ now_put c.self.inside.bindings.entries c.args.self.now c.args.name.now
          c.self.view_is (c.get_mut.follows.lender w.put.new.self).entries w.in-Some.binding.now w.put.new.self
          (sym w.in-Some.ensures.value) (λ set. ((c.get_mut.follows.holds w.put.new.self).3 set).0) c.args.index _
          c.args.number w.put.result (to_z-of_z w64 c.args.number c.ranges.number) w.put.ensures.ok w.put.ensures.err)
      | in-None w ↦ (ap viewed (w.self-inside-is ∙ ap (λ m. record { bindings = m }) c.get_mut.follows.holds-at-none)
          ∙ (c.self.view_is ∙ ap (λ s. names_put c.args.self.now c.args.name.now (putting c.args.index c.args.number s))
          (sym (stands_as c.self.inside.bindings.entries c.args.self.now c.args.name.now c.self.view_is None
          (sym w.in-None.ensures.value)))))
    ]
