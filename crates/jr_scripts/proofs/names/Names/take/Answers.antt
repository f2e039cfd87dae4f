use Rattle.std.proofs.Common.{◌∙◌, Some, None, ap, refl, sym}
use Rattle.std.specs.FinMap.{from_entries}
use Rattle.jr_scripts.specs.Names.{Names, with_name}
use Rattle.jr_scripts.specs.declared.names.Names.TheInside.{Inside}
use Rattle.jr_scripts.proofs.NameMaps.{stands_as, kept_as, now_named, not_set}
use Rattle.jr_scripts.proofs.names.Names.take.Goals.{in-Some, in-None}
use Rattle.jr_scripts.proofs.names.Names.take.Goals as goal

abbrev viewed : Inside → Names
viewed x = from_entries x.bindings.entries

pub returns-clause-old : goal.returns-clause-old
returns-clause-old c =
    elim c.match-get_mut.branch [
      | in-Some w ↦ (w.result-is ∙ (w.replace.ensures.value ∙ sym (stands_as c.self.inside.bindings.entries
          c.args.self.now c.args.name.now c.self.view_is (Some w.in-Some.binding.now) (sym w.in-Some.ensures.value))))
      | in-None w ↦ (w.result-is ∙ sym (stands_as c.self.inside.bindings.entries c.args.self.now c.args.name.now
          c.self.view_is None (sym w.in-None.ensures.value)))
    ]

pub returns-clause-new : goal.returns-clause-new
returns-clause-new c =
    elim c.match-get_mut.branch [
      | in-Some w ↦
          (λ set. ap viewed w.self-inside-is ∙ (now_named c.self.inside.bindings.entries c.args.self.now c.args.name.now
          c.self.view_is (c.get_mut.follows.lender w.replace.new.dest).entries w.in-Some.binding.now w.replace.new.dest
          (sym w.in-Some.ensures.value) (λ set. ((c.get_mut.follows.holds w.replace.new.dest).3 set).0)
          ∙ ap (with_name c.args.self.now c.args.name.now) w.replace.ensures.after))
      | in-None w ↦ (λ set. absurd (not_set c.args.self.now c.args.name.now (kept_as c.self.inside.bindings.entries
          c.args.self.now c.args.name.now c.self.view_is None (sym w.in-None.ensures.value)) set))
    ]

pub returns-clause-unset : goal.returns-clause-unset
returns-clause-unset c =
    elim c.match-get_mut.branch [
      | in-Some w ↦ (λ unset. absurd (unset (let there = kept_as c.self.inside.bindings.entries c.args.self.now
          c.args.name.now c.self.view_is (Some w.in-Some.binding.now) (sym w.in-Some.ensures.value) in rw there refl)))
      | in-None w ↦
          (λ unset. ap viewed (w.self-inside-is ∙ ap (λ m. record { bindings = m }) c.get_mut.follows.holds-at-none)
          ∙ c.self.view_is)
    ]
