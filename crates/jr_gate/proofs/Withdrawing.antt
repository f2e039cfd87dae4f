-- A knock at the shut gate, and the exit after it.
use Rattle.std.proofs.Common.{List, [], ◌∷◌, ap, subst, ◌∙◌, arith}
use Rattle.jr_model.specs.declared.event.Role.{Role}
use Rattle.jr_model.specs.declared.event.Act.{Act}
use Rattle.jr_model.specs.declared.event.Act.TheVariants.{Gate}
use Rattle.jr_model.specs.declared.event.GateAct.TheVariants.{Knock, Withdraw}
use Rattle.jr_model.proofs.Stays.{did_then, did_nothing}
use Rattle.jr_model.proofs.Runs.{did_legal}
use Rattle.jr_model.proofs.Windows.{window_stay, stepped_last}
use Rattle.jr_steps.specs.declared.known.Known.{Known}
use Rattle.jr_steps.specs.Acts.{act_of_exit}
use Rattle.jr_steps.specs.Knowing.{Facts, Standing, view, standing_after, anything, lets_go, Goes, Took, Takes}
use Rattle.jr_steps.proofs.StepFacts.{goes_stepped}
use Rattle.jr_gate.specs.Acting.{ActedTo, LetsGoInTwo}

-- one step and one more are two
pub two : {j k l : Known} {xs ys : List Act} → Goes j xs k → Goes k ys l → Takes 2 j l
two g h = let a = g.taken in let b = h.taken in omega arith

module _ {S : Type 0} {facts : S → Facts} {a b c : S} {shows : Known → Known → Type 0} where
  withdraws : Took facts a b (Gate Knock ∷ []) anything shows → Took facts b c (Gate Withdraw ∷ []) anything lets_go
      → ActedTo facts a c (Gate Knock ∷ Gate Withdraw ∷ []) anything LetsGoInTwo
  withdraws p q = record {
    stands_is = q.stands_is ∙ ap (λ s. standing_after s (Gate Withdraw ∷ [])) p.stands_is;
    hint_is = q.hint_is ∙ p.hint_is;
    leads = λ k s m.
        let g = p.goes k s m in
        let h = q.goes g.0 g.1 tt in
        let first = goes_stepped g.2 in
        let last = goes_stepped h.2 in
        let none = did_nothing (view g.0) (did_legal (Gate Knock ∷ []) first.did) in (
          h.0,
          h.1,
          did_then (Gate Knock ∷ []) (Gate Withdraw ∷ []) first.did last.did,
          (
            (h.3, two g.2 h.2),
            g.0.seen,
            window_stay (Gate Knock) [] (Gate Withdraw) first (λ out. first.behind) none last (λ out.
                stepped_last last),
          ),
        );
  }

  -- who leaves after a knock withdraws it
  pub withdrawn : Took facts a b (Gate Knock ∷ []) anything shows
      → Took facts b c (act_of_exit (facts b).stands.role ∷ []) anything lets_go
      → ActedTo facts a c (Gate Knock ∷ Gate Withdraw ∷ []) anything LetsGoInTwo
  withdrawn p q = withdraws p (subst (λ (r : Role). Took facts b c (act_of_exit r ∷ []) anything lets_go)
      (ap (λ (s : Standing). s.role) p.stands_is) q)
