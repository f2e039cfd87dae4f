-- What the threads of a room gave back, and the close behind them.
use Rattle.std.proofs.Common.{◌∷◌, ◌∙◌, ℕ, Bool, List, map, refl, subst, sym}
use Rattle.jr_word.specs.declared.config.Config.{Config}
use Rattle.jr_model.specs.declared.event.Act.{Act}
use Rattle.jr_model.specs.declared.summary.Summary.{Summary}
use Rattle.jr_model.specs.History.{state}
use Rattle.jr_model.specs.State.{Handle}
use Rattle.jr_rule.specs.declared.pass.Pass.{Pass}
use Rattle.jr_rule.specs.declared.row.Row.{Row}
use Rattle.jr_rule.specs.Passes.{AreOpened, known_of}
use Rattle.jr_alive.specs.declared.dump.Dump.{Dump}
use Rattle.jr_env.specs.Deeds.{Deed}
use Rattle.jr_threads.specs.declared.running.Returned.{Returned}
use Rattle.jr_threads.specs.Closing.{ClosesBy, ClosesSwept, HasNoGarbage}
use Rattle.jr_threads.specs.Listing.{ClosesListing, TellsLeft}
use Rattle.jr_threads.specs.Parts.{RanListing, RanTogether}
use Rattle.jr_threads.specs.Sites.{HasRunEach, IsClosedBehind}
use Rattle.jr_threads.proofs.OneHistory.{have_run, have_run_so}
use Rattle.jr_threads.proofs.Passes.{AreBack, backs_of, each_has, first_at}
use Rattle.jr_threads.proofs.Swept.{same_each}

module _ {A : Type 0} (tells : A → Bool) (deed : ℕ → Deed A) (r : Row) (ps : List Pass) (x : Returned A)
    (opened : AreOpened r.config r.last r ps) (run : HasRunEach tells deed r ps x) where
  -- the passes came back
  pub back : AreBack r ps (x.first ∷ x.others.items)
  back = subst (AreBack r ps) (sym run.passes) (backs_of tells deed r ps run.ended run.ran)

  -- the room is closed with them
  pub closed_behind : {acts : List Handle → List ℕ → ℕ → List Act} (s : Summary)
      → ClosesBy acts (known_of x.first) (map known_of x.others.items) s → IsClosedBehind r.config r.last s
  closed_behind s closes =
      let at = first_at r ps x.first x.others.items back in
      let ks = map known_of x.others.items in
      let sizes = closes.did.config ∙ at.config in
      record {
        first = closes.swept;
        others = ks;
        sizes = sizes;
        serials = closes.did.last ∙ at.last;
        each = same_each r.config (known_of x.first) closes.swept ks ks closes.did.thread refl
            (each_has r ps x.first x.others.items opened back);
        closes = closes.closes;
        nothing = subst (λ c. HasNoGarbage c (state closes.closes.ends.whole)) sizes closes.nothing;
      }

  pub ran_together : (s : Summary) → ClosesSwept (known_of x.first) (map known_of x.others.items) s
      → RanTogether tells deed r.config r.last x.answers.items s
  ran_together s closes = subst (λ l. RanTogether tells deed r.config r.last l s) (sym run.answers)
      (have_run tells deed r ps run.ended x.first x.others.items s opened run.ran run.passes closes)

  -- behind a dump
  pub ran_listing : (s : Summary) (d : Dump) → ClosesListing (known_of x.first) (map known_of x.others.items) s d
      → RanListing tells deed r.config r.last x.answers.items s d
  ran_listing s d z =
      let at = first_at r ps x.first x.others.items back in
      let sizes = z.closes.did.config ∙ at.config in
      let serial = z.closes.did.last ∙ at.last in
      let left : TellsLeft r.config r.last (state z.closes.closes.ends.whole) d =
      subst (λ (y : Config × ℕ). TellsLeft y.0 y.1 (state z.closes.closes.ends.whole) d)
      (λ i. (sizes i, serial i)) z.left in
      let all = have_run_so (λ es. TellsLeft r.config r.last (state es) d) tells deed r ps run.ended x.first
      x.others.items s opened run.ran run.passes (z.closes, left) in
      subst (λ l. RanListing tells deed r.config r.last l s d) (sym run.answers)
      (record { ran = all.0; left = all.1 })
