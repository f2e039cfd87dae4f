use Rattle.std.proofs.Common.{◌≡◌, ◌+◌, false, refl, sym, ap, ◌∙◌}
use Rattle.std.proofs.Math.Logic.{∥∥₁_elim}
use Rattle.std.proofs.Props.{props}
use Rattle.jr_model.specs.declared.event.Role.TheVariants.{Within}
use Rattle.jr_rule.specs.Image.{element_at}
use Rattle.jr_rule.proofs.FromMayKnow.{known_few}
use Rattle.jr_rule.proofs.HeapOwed.{sees_element}
use Rattle.jr_rule.proofs.Told.{plainly, SawElement}
use Rattle.jr_rule.proofs.StepTaken.{load_at, element_in, may_in, owed, leaves, leads_next}
use Rattle.jr_rule.proofs.parts.see_one.Goals as goal

pub load-requires-clause-owed : goal.load-requires-clause-owed
load-requires-clause-owed g c =
    let s = c.args.cells.now in
    let z = g.C.Cells.sight s in
    let x = c.args.header.place + c.args.index in
    let may = may_in z refl c.requires.known in
    let few = known_few (g.met.C.Cells.sound s c.args.place c.requires.there) may c.args.object c.args.header
    c.args.index (λ k h. h) c.requires.index in
    owed (element_in z.first.config x c.requires.at few) may (λ k among role m.
    let at : element_at k.config x ≡ c.args.at = ap (λ y. element_at y x) (among.config) ∙ sym c.requires.at in
    load_at k (SawElement c.args.object c.args.index k) at (sees_element k role c.args.object c.args.header
    (∥∥₁_elim m (hlevel props) (λ q. q)) c.args.index c.requires.index))

pub returns-clause-step : goal.returns-clause-step
returns-clause-step g c =
    let t = c.load.ensures.step in
    let reads = plainly (λ k k' done t. t) in record {
      stands_is = λ i. record (t.first i) { role = Within; fresh = false };
      hint_is = refl;
      goes = leads_next t (leaves reads (λ k. refl) (λ k. refl)) refl reads;
    }
