-- The exit, and a stay that was left, which is ended before a call.
use Rattle.std.proofs.Common.{◌≡◌, [], ◌∷◌, refl, sym, ap, subst, ◌∙◌}
use Rattle.jr_model.specs.declared.event.Role.{Role}
use Rattle.jr_model.specs.declared.event.Role.TheVariants.{Outside, Within}
use Rattle.jr_model.specs.declared.event.Act.TheVariants.{Gate}
use Rattle.jr_model.specs.declared.event.GateAct.TheVariants.{Leave}
use Rattle.jr_model.specs.Frames.{Frames}
use Rattle.jr_steps.specs.Acts.{act_of_exit}
use Rattle.jr_steps.specs.Knowing.{Facts, Standing, anything, lets_go, Took}
use Rattle.jr_gate.proofs.SameRoom.{as_before}
use Rattle.jr_frames.specs.Table.{Table}
use Rattle.jr_frames.specs.Ready.{AreOwn, StandsReady}
use Rattle.jr_frames.proofs.StillReady.{exit_made, ready_left}
use Rattle.jr_env.specs.Calling.{CanCall}
use Rattle.jr_env.specs.OpenStays.{Leaves}
use Rattle.jr_env.specs.Works.{EndsStay}

-- the exit, as a call of the machine
module _ {S : Type 0} (facts : S → Facts) (a b : S) (f : Frames) where
  pub leaves : Took facts a b (Gate Leave ∷ []) anything lets_go → Leaves facts a b f
  leaves took = record {
    stands_is = as_before (record ((facts a).stands) { role = Outside }) took.stands_is;
    ran = exit_made f (λ k m. m) took;
  }

module _ {S : Type 0} {facts : S → Facts} where
  -- a thread that stands ready outside can make a call
  pub can_call : {a : S} {t : Table} → StandsReady facts Outside a t → CanCall (facts a).stands
  can_call r = record {
    spent = r.spent;
    not_knocking = λ e. let out = r.role_is in cc;
    not_announcing = λ e. let out = r.role_is in cc;
    not_collecting = λ e. let out = r.role_is in cc;
  }

  -- the thread was within, and left
  pub ends_stay : {a b : S} {t : Table} → CanCall (facts a).stands → (facts a).stands.role ≡ Within → AreOwn facts a t
      → Took facts a b (act_of_exit (facts a).stands.role ∷ []) anything lets_go → EndsStay facts a b t t
  ends_stay {a} {b} can within own e =
      let l : Took facts a b (Gate Leave ∷ []) anything lets_go =
      subst (λ (r : Role). Took facts a b (act_of_exit r ∷ []) anything lets_go) within e in
      record {
        same = λ out. absurd (let no_more = sym within ∙ out in cc);
        left = λ inside. l;
        frames = refl;
        ready = ready_left {role = Within} (record { role_is = within; spent = can.spent; own = own }) l;
        thread = ap (λ (s : Standing). s.thread) l.stands_is;
        config = ap (λ (s : Standing). s.config) l.stands_is;
      }
