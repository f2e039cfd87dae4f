-- What native code did, call by call, with notes made and learned between them.
use Rattle.std.proofs.Common.{◌≡◌, ◌∙◌, ℕ, Bool, [], Result, Ok, ap, sym, subst, refl, arith}
use Rattle.jr_word.specs.declared.config.Config.{Config}
use Rattle.jr_word.specs.declared.fault.Fault.{Fault}
use Rattle.jr_model.specs.declared.event.Role.TheVariants.{Outside}
use Rattle.jr_model.specs.Frames.{Frames}
use Rattle.jr_model.specs.History.{History}
use Rattle.jr_model.proofs.Agreement.{agree_spared}
use Rattle.jr_steps.specs.Knowing.{AreOf, Facts, Holds, Standing, Took, anything, keeps}
use Rattle.jr_steps.proofs.StepFacts.{goes_did}
use Rattle.jr_gate.specs.Performing.{IsAsBefore, thread_state, thread_state_with}
use Rattle.jr_rule.specs.declared.note.Note.{Note}
use Rattle.jr_rule.specs.Notes.{HasSeen, IsUnchanged}
use Rattle.jr_rule.specs.Rooms.{seen_by_note}
use Rattle.jr_env.specs.Deeds.{Deed, DoesDeed, DoesOutside, answered_by, ◌>>=◌}
use Rattle.jr_env.proofs.Carrying.{did_answer, does_then}
use Rattle.jr_threads.specs.Starting.{takes_over}

module _ {S : Type 0} {facts : S → Facts} where
  -- a deed that was done from where the thread stood outside
  pub outside_did : {A : Type 0} {a b : S} {f g : Frames} {deed : Deed A} {r : Result A Fault}
      → (facts a).stands.role ≡ Outside → DoesDeed facts a b f g deed r → DoesOutside facts a b f g deed r
  outside_did out d =
      record { does = λ o. d; left = λ no. absurd (no out); outside = d.stands_is.role ∙ out }

  -- one call and then others
  pub call_then : {A B : Type 0} {a b c : S} {f g h : Frames} {one : Deed A} {x : A} (next : A → Deed B)
      {r : Result B Fault}
      → (facts a).stands.role ≡ Outside → DoesOutside facts a b f g one (Ok x) → DoesOutside facts b c g h (next x) r
      → DoesOutside facts a c f h (one >>= next) r
  call_then next out d e = outside_did out (does_then next (d.does out) (e.does d.outside))

  -- the last call, and what is told of it
  pub call_told : {A B : Type 0} {a b : S} {f g : Frames} {one : Deed A} (form : A → B) (x : A) {y : B} → y ≡ form x
      → (facts a).stands.role ≡ Outside → DoesOutside facts a b f g one (Ok x)
      → DoesOutside facts a b f g (answered_by form one) (Ok y)
  call_told form x is out d = outside_did out (did_answer form is (d.does out))

  -- calls behind the making of a note are calls before it
  pub behind_note : {A : Type 0} {a b c : S} {f f' g : Frames} {deed : Deed A} {r : Result A Fault}
      → (facts a).stands.role ≡ Outside → IsUnchanged facts a b → f' ≡ f → DoesOutside facts b c f' g deed r
      → DoesOutside facts a c f g deed r
  behind_note {b = b} {c = c} {g = g} {deed = deed} {r = r} out same frames d =
      let role = ap (λ (z : Standing). z.role) same.stands_is in
      let x = d.does (role ∙ out) in
      outside_did out (record {
        stands_is = subst (λ (z : Standing). IsAsBefore z (facts c).stands) same.stands_is x.stands_is;
        did = λ k s n.
            let y = x.did k ((same.same k).0 s) (subst (λ h. Holds h k) (sym frames) n) in (
              y.0,
              y.1,
              y.2,
              subst (λ (z : Bool × ℕ × Frames). deed (thread_state_with z.0 z.1 k z.2) r (thread_state (facts c) y.0 g))
                  (λ i. ((same.stands_is i).fresh, same.hint_is i, frames i)) y.3,
            );
      })

  -- A MESSAGE WAS TAKEN, and its note was learned
  pub took_over : AreOf facts → {A : Type 0} (says : A → Config → History → Type 0) (sizes : Config) (a b : S)
      (f f' : Frames) (x : A) (n : Note) → (facts a).stands.role ≡ Outside → (facts a).stands.config ≡ sizes
      → Took facts a b [] anything keeps → HasSeen facts b (seen_by_note n) → f' ≡ f
      → ∥ says x sizes (seen_by_note n) ∥₁
      → DoesOutside facts a b f f' (takes_over says) (Ok x)
  took_over fits says sizes a b f f' x n out room took learned same said =
      let stands = took.stands_is in
      outside_did out (record {
        stands_is = record {
          room = ap (λ (z : Standing). z.room) stands;
          config = ap (λ (z : Standing). z.config) stands;
          last = ap (λ (z : Standing). z.last) stands;
          thread = ap (λ (z : Standing). z.thread) stands;
          role = ap (λ (z : Standing). z.role) stands;
        };
        did = λ k s holds.
            let y = took.goes k s tt in
            let d = goes_did y.2 in
            let config : k.config ≡ sizes = (fits a k s).config ∙ room in (
              y.0,
              y.1,
              subst (λ h. Holds h y.0) (sym same) (agree_spared f [] d tt holds),
              (
                x,
                refl,
                seen_by_note n,
                subst (λ c. ∥ says x c (seen_by_note n) ∥₁) (sym config) said,
                learned y.0 y.1,
                record {
                  did = d;
                  frames = same;
                  held = y.3;
                  fresh = ap (λ (z : Standing). z.fresh) stands;
                  hint = took.hint_is;
                  without = 1;
                  most = omega arith;
                  taken = (y.2).taken;
                },
              ),
            );
      })
