-- A region is opened in a stay, or refused.
use Rattle.std.proofs.Common.{◌≡◌, ℕ, List, [], ◌∷◌, length, map, slice_index_or}
use Rattle.std.proofs.Common.{Result, Ok, Err, sym, ap, subst, ◌∙◌, arith}
use mathlib.Core.Logic.{∥∥₁_map}
use Rattle.jr_word.specs.declared.fault.Fault.{Fault}
use Rattle.jr_model.specs.declared.event.Role.TheVariants.{Within}
use Rattle.jr_model.specs.Calls.{Ran}
use Rattle.jr_model.specs.Checks.{Word}
use Rattle.jr_steps.specs.declared.known.Known.{Known}
use Rattle.jr_steps.specs.Knowing.{Facts, view, state_of, Holds}
use Rattle.jr_gate.specs.declared.inside.Inside.{Inside}
use Rattle.jr_gate.specs.Performing.{Performed}
use Rattle.jr_gate.specs.Stays.{IsOwnStay}
use Rattle.jr_gate.proofs.Spending.{made_of, spending}
use Rattle.jr_heap.proofs.Headers.{learnt}
use Rattle.jr_frames.specs.Ready.{StandsReady}
use Rattle.jr_frames.specs.Table.{Table}
use Rattle.jr_frames.proofs.StillReady.{ready_after, same_owner}
use Rattle.jr_critical.specs.declared.level.Level.{Level}
use Rattle.jr_critical.specs.declared.level.Wanted.{Wanted}
use Rattle.jr_critical.specs.declared.levels.Levels.{Levels}
use Rattle.jr_critical.specs.Finding.{level_work, FindsLevel, LearnsLevel}
use Rattle.jr_critical.specs.Levels.{AreKnown, KnowsLevels, Stand, object_opened, objects_of}
use Rattle.jr_critical.proofs.KnownLevels.{blank}

module _ {S : Type 0} {facts : S → Facts} (wanted : Wanted) (w : Word) {a b : S} {t : Table}
    (r : StandsReady facts Within a t) where
  pub ready_still : (answer : Result Level Fault) → FindsLevel facts a b t.frames wanted 0 w answer
      → StandsReady facts Within b t
  ready_still answer p = ready_after {so = λ j k. LearnsLevel answer j k} r (same_owner t) p

  -- what was named was refused
  module _ {e : Fault} (p : FindsLevel facts a b t.frames wanted 0 w (Err e)) where
    pub refuses_within : Performed facts a b t.frames t.frames 1 (Holds t.frames) (λ s. level_work wanted
        (facts a).stands.config (facts a).stands.last (facts a).stands.thread s 0 w) (Err e) (λ j k. Holds t.frames k)
    refuses_within = record { stands_is = p.stands_is; ran = λ k s m. let x = p.ran k s m in (x.0, x.1, x.2, x.3.1) }

    pub own_refused : (i : Inside) → IsOwnStay i (facts a).stands → IsOwnStay i (facts b).stands
    own_refused i own = (own.0 ∙ sym p.stands_is.thread, p.stands_is.role ∙ own.1)

  -- it was found
  module _ {l : Level} (p : FindsLevel facts a b t.frames wanted 0 w (Ok l)) (v : Levels)
      (items : v.levels.items ≡ l ∷ []) where
    known : (k x : Known) → LearnsLevel (Ok l) k x → AreKnown v.levels.items x
    known k x learns = subst (λ ls. AreKnown ls x) (sym items) (learnt l.object l.header k x learns, tt)

    pub opens_within : Performed facts a b t.frames t.frames 1 (Holds t.frames)
        (λ s. level_work wanted (facts a).stands.config (facts a).stands.last (facts a).stands.thread s 0 w)
        (object_opened (Ok v)) (λ j k. KnowsLevels v t.frames k)
    opens_within = record {
      stands_is = p.stands_is;
      ran = λ k s m.
          let x = p.ran k s m in
          let answer : ◌≡◌ {A = Result ℕ Fault} (Ok l.object) (object_opened (Ok v)) =
          ap (λ (ls : List Level). Ok (slice_index_or ls 0 blank).object) (sym items) in
          let run = subst (λ (z : Result ℕ Fault). Ran (view k) (view x.0) t.frames t.frames (level_work wanted
          (facts a).stands.config (facts a).stands.last (facts a).stands.thread (state_of x.0) 0 w) z) answer x.2.ran in
          (x.0, x.1, made_of (spending x.2) run, (known k x.0 x.3.0, x.3.1));
    }

    pub one_within : length (objects_of v) ≡ 1
    one_within = ap (λ (ls : List Level). length (map (λ (x : Level). x.object) ls)) items

    pub stands_within : (i : Inside) → IsOwnStay i (facts a).stands → v.inside ≡ i → Stand facts v b t
    stands_within i own same = record {
      stay = (ap (λ (j : Inside). j.thread) same ∙ (own.0 ∙ sym p.stands_is.thread), p.stands_is.role ∙ own.1);
      ready = ready_still (Ok l) p;
      some = let e = one_within in omega arith;
      known = ∥∥₁_map r.own.agrees (λ k. let x = p.ran k.0 k.1 k.2 in (x.0, x.1, (known k.0 x.0 x.3.0, x.3.1)));
    }
