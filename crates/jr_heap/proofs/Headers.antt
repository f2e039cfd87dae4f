-- Headers of present objects are read.
use Rattle.std.proofs.Common.{length, ◌≡◌, ◌≢◌, ◌≤◌, ℕ, Option, Some, None}
use Rattle.std.proofs.Common.{IsSome, [], Ok, refl, sym, ap, subst, ◌∙◌, cond}
use Rattle.std.proofs.Math.Bridge.{le_prop}
use Rattle.std.proofs.Math.Logic.{∥∥₁_elim, ∥∥₁_map}
use Rattle.std.proofs.Props.{props}
use Rattle.jr_word.specs.declared.config.Config.{Config}
use Rattle.jr_word.specs.declared.header.HeaderParts.{HeaderParts}
use Rattle.jr_word.specs.declared.kind.Kind.{Kind}
use Rattle.jr_model.specs.declared.event.Role.TheVariants.{Within}
use Rattle.jr_model.specs.State.{Contents}
use Rattle.jr_model.specs.Parts.{header}
use Rattle.jr_model.proofs.Updates.{eq_self}
use Rattle.jr_model.proofs.Windows.{window_within}
use Rattle.jr_steps.specs.declared.known.Known.{Known}
use Rattle.jr_steps.specs.declared.known.Holdings.{Holdings}
use Rattle.jr_steps.specs.Holdings.{header_in}
use Rattle.jr_steps.specs.Knowing.{AreOf, Facts, MayKnow, anything, state_of, HasObject, ShowsHeader, Took}
use Rattle.jr_steps.proofs.StepFacts.{goes_did, present_stays}
use Rattle.jr_model.proofs.InRoom.{in_room}
use Rattle.jr_heap.specs.Heap.{Called, by_steps, HoldsHeader, Learns}
use Rattle.jr_heap.proofs.Calling.{called_by}

pub learnt : (o : ℕ) (h : HeaderParts) (j k : Known) → Learns o h j k → HoldsHeader o h k
learnt o h j k l = record {
  known = ap (λ (g : Holdings). header_in o g.headers) l.1
      ∙ ap (λ b. cond b (Some h) (header_in o j.holdings.headers)) (eq_self o);
  shown = l.0;
}

none_absent : (x : Option Contents) → x ≡ None → IsSome x → ⊥
none_absent None e p = absurd cc
none_absent (Some x) e p = absurd cc

some_is : (r : Option HeaderParts) → r ≢ None → IsSome r
some_is None n = absurd (n refl)
some_is (Some h) n = refl

-- who is present has a number of the room
pub is_number : {S : Type 0} (facts : S → Facts) → AreOf facts → (a : S) (o : ℕ) → MayKnow facts a (HasObject o)
    → (1 ≤ o) × (o ≤ (facts a).stands.config.objects)
is_number facts fits a o may =
    let both : ((k : Known) × (facts a).knows k × HasObject o k) → (1 ≤ o) × (o ≤ (facts a).stands.config.objects) =
    λ k. let is = fits a k.0 k.1 in let l = (in_room k.0.config k.0.last k.0.seen is.legal).objects o k.2 in
    (l.0, subst (λ (c : Config). o ≤ c.objects) is.config l.1) in
    (∥∥₁_elim may le_prop (λ k. (both k).0), ∥∥₁_elim may le_prop (λ k. (both k).1))

module _ {S : Type 0} {facts : S → Facts} (fits : AreOf facts) (a : S) (o : ℕ) where
  module _ {b : S} (r : Option HeaderParts) (t : Took facts a b [] anything (ShowsHeader o r)) where
    not_none : (facts a).stands.role ≡ Within → MayKnow facts a (HasObject o) → r ≢ None
    not_none w may e = ∥∥₁_elim may (hlevel props) (λ k.
        let g = (subst (λ x. Took facts a b [] anything (ShowsHeader o x)) e t).goes k.0 k.1 tt in
        none_absent ((state_of g.0).objects o) g.3.0
        (present_stays k.0 g.0 [] o (goes_did g.2) ((fits a k.0 k.1).role ∙ w) tt k.2))

    pub is_there : (facts a).stands.role ≡ Within → MayKnow facts a (HasObject o) → IsSome r
    is_there w may = some_is r (not_none w may)

    module _ (h : HeaderParts) (is : r ≡ Some h) where
      found : Took facts a b [] anything (ShowsHeader o (Some h))
      found = subst (λ x. Took facts a b [] anything (ShowsHeader o x)) is t

      pub called_header : (facts a).stands.role ≡ Within
          → Called facts a b (HasObject o) (λ j k. header (state_of k) o) (Ok (h.kind, h.length)) (by_steps 1
          (Learns o h))
      called_header w = called_by t.hint_is (λ k s m.
          let g = found.goes k s tt in
          let x = g.3.0 in
          let d = goes_did g.2 in (
            g.0,
            g.1,
            [],
            record {
              did = d;
              window = window_within [] d ((fits a k s).role ∙ w) tt;
              is = λ f. (
                x.contents,
                x.is,
                (
                  refl,
                  ap (λ n. Ok (h.kind, n)) (sym x.says.long)
                      ∙ ap (λ (q : Kind). Ok (q, length x.contents.words)) (sym x.says.kind),
                  refl,
                ),
              );
              grounds = tt;
              shows = (g.3, g.2.taken);
            },
          ))

      pub may_hold : MayKnow facts a (HasObject o) → MayKnow facts b (HoldsHeader o h)
      may_hold may = ∥∥₁_map may (λ k. let g = found.goes k.0 k.1 tt in (g.0, g.1, learnt o h k.0 g.0 g.3))
