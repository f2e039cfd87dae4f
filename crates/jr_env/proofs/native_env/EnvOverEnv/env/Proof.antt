-- `env` hands back the reference that it was handed.
use mathlib.Core.Path.{◌≡◌, refl}
use Prim.Native.Nat.{ℕ}
use mathlib.Core.List.{[], ◌∷◌}
use seplogic.Ra.Ura.{Ura}
use mir.Syntax.{Args, Dict, Fn, named, a_type, dcons, dnil}
use mir.MapTy.{inst_fn}
use mir.Val.{Val, vptr}
use base.Logic.{SProp, ent, emp, wand}
use base.Fml.{Fml, Lft, GName, Share, ftrue, flft, fsep, feq, fauth, fres, fex}
use prog.Memory.{Memory}
use prog.Routine.{Routine}
use prog.Wp.{Calls, Loops, WpFn, Tables}
use types.Logic.{Logic, sem}
use contract.BorrowLft.{◌⊑◌}
use contract.Lifetimes.{AllOutlive}
use contract.Monad.{Fun, fact, fact_i}
use contract.Running.{tables, tables_of}
use sound.WpLaws.{WpFn-mono}
use types.Kit.{‵, ◌⊛◌, raw, given, ◌$◌, ◌∵◌, !, qed, by, move, keep, drop, split, join, fsplit, fjoin}
use types.Kit.{fpack, feq_i, each, assume, use0, use1, suffices, frame, done}
use types.Run.{stop, addr, returns, enter}
use types.ByLocal.{alloc_all, pass_all, free_all, look_at, through, sets}
use denote.Builtin.{RefMutOf}
use denote.Exit.{no}
use denote.Follow.{follows}
use denote.Param.{bounded}
use denote.RattleType.{RattleType, owns}
use denote.Ref.{MutBor, MutRef, mut_vals, mut_Tells}
use denote.Signature.{plain}
use denote.Steps.{nothing}
use denote.Triple.Clauses.{Clauses, Ended, closing}
use denote.Triple.Entry.{on_entry}
use denote.Triple.Spec.{Meets, triple_of}
use denote.Triple.Table.{entered}
use denote.Triple.Walked.{Stays, stay_dropped, walk_of, ends_at, walked, Goes-spent_ref, walk_Meets}
use Rattle.jr_steps.specs.declared.steps.Steps.{Ghosts}
use Rattle.jr_env.specs.contracts.env.Env.{the_row}
use Rattle.jr_env.specs.contracts.native_env.EnvOverEnv.env as F
use Rattle.jr_env.specs.contracts.native_env.EnvOverEnv.env.Key.{name as #self}
use Rattle.jr_env.proofs.native_env.EnvOverEnv.env.Statement as stated
use Rattle.jr_env.proofs.native_env.EnvOverEnv.env.Code as code

module _ {M : Type 1} {𝓤 : Ura M} (𝓛 : Logic 𝓤) (R : RattleType) (γ : GName) where
  open 𝓛 use {A}

  follows_same : ent 𝓤 (sem 𝓛 ftrue) (sem 𝓛 (follows R R γ γ (λ w. w)))
  follows_same =
      let From : R.Denot → R.Denot → Fml = λ z w. fsep (feq R.Denot z w) (fauth γ (R.coded.code w)) in
      let said = qed 𝓛 (‵ ftrue ∷ []) ∵ each ! (λ (w : R.Denot). wand 𝓤 (A.res γ (R.coded.code w))
      (A.res γ (R.coded.code w))) (λ w. assume ! (‵ (fres γ (R.coded.code w))) $ keep ! (0 ∷ []) $ done !) in
      let back = qed 𝓛 (‵ ftrue ∷ []) ∵ each ! (λ (z : R.Denot). wand 𝓤 (A.auth γ (R.coded.code z))
      (sem 𝓛 (fex R.Denot (From z)))) (λ z. assume ! (‵ (fauth γ (R.coded.code z))) $
      keep ! (0 ∷ []) $ feq_i ! R.Denot z z refl $ fjoin ! $ fpack ! R.Denot (From z) z $ done !) in
      record { apply = λ a p. (said.apply a p, back.apply a p) }

module _ (X : RattleType) (G : Ghosts X.Denot) (d : Dict) where
  abbrev args : Args
  args = bounded (a_type ∷ []) (X, tt) (dcons d dnil)

  abbrev function : Fn
  function = inst_fn args code.function

  abbrev R : RattleType
  R = the_row (F.S-row X) G

  abbrev ended : Ended
  ended = F.ended X G d

  abbrev stayed : Stays ended.signature.params ended.kept
  stayed = (stay_dropped (RefMutOf (0 ∷ []) tt (plain (λ _. R)) (λ _. tt)) no, tt)

module _ (X : RattleType) (G : Ghosts X.Denot) (d : Dict) {M : Type 1} {𝓤 : Ura M} (𝓛 : Logic 𝓤)
    (at_mem : Memory → SProp 𝓤) (run : Routine → Fun 𝓤) where
  open 𝓛 use {H}

  abbrev clauses : Clauses 𝓤 (ended X G d)
  clauses = F.clauses X G d 𝓛 at_mem run

  module _ (C : Calls 𝓤 H) (Λ : Loops 𝓤 H) (κ κT : Lft) (q qT : Share)
      (bd : AllOutlive 2 (ended X G d).signature.outlives (κ, (κT, tt))) (b o : ℕ) (γ : GName)
      (x : (R X G d).Denot) where
    abbrev self : MutBor (R X G d).Denot
    self = record { ref_ptr = (b, o); ghost_name = γ; now = x }

    abbrev bound : (walk_of 𝓛 (ended X G d) (stayed X G d) clauses).Ghost
    bound = (((κ, (κT, tt)), (q, (qT, tt)), bd, (self, tt), (mut_vals self, tt)), tt)

    abbrev Post : Val → SProp 𝓤
    Post = (walk_of 𝓛 (ended X G d) (stayed X G d) clauses).post bound

    walk : ent 𝓤 (on_entry 𝓛 (ended X G d).signature (κ, (κT, tt)) (q, (qT, tt)) (self, tt) (mut_vals self, tt))
        (WpFn 𝓤 H C Λ (function X G d) (vptr b o ∷ []) Post)
    walk =
        qed 𝓛 ((‵ (flft κ q) ⊛ ‵ (flft κT qT) ⊛ ‵ ftrue) ∷ ‵ (owns (MutRef (named 0) κ (R X G d) ∷ [])
        (self, tt) (mut_vals self, tt)) ∷ []) ∵ enter ! C Λ (function X G d) (vptr b o ∷ []) _ $
        alloc_all ! (λ l. pass_all ! refl ((tt, tt), tt) $
        sets ! (addr ! (through ! refl (stop !))) refl (tt, tt) $
        split ! $ move ! (2 ∷ []) $ fsplit ! $ move ! (1 ∷ 0 ∷ 2 ∷ []) $
        use1 𝓛 (‵ (follows (R X G d) (R X G d) γ γ (λ w. w))) (follows_same 𝓛 (R X G d) γ) $ move ! (1 ∷ 2 ∷ 0 ∷ []) $
        returns ! (look_at ! 0 refl) $ free_all ! refl $
        suffices ! _ (ends_at 𝓛 (ended X G d) (stayed X G d) clauses bound (vptr b o) self (tt, tt) (tt, tt)) $
        nothing ! $ nothing ! $ fjoin ! $ join ! $ move ! (1 ∷ 3 ∷ []) $ join ! $ join ! $ frame ! $
        use0 𝓛 (raw (fact 𝓤 (x ≡ x))) (fact_i 𝓤 (x ≡ x) (emp 𝓤) refl) $ move ! (1 ∷ []) $ join ! $ done !)

  meets : (𝓣 : Tables 𝓤 H) → Meets 𝓛 (ended X G d).signature (WpFn 𝓤 H 𝓣.C 𝓣.Λ (function X G d))
      (closing 𝓛 (ended X G d) clauses)
  meets 𝓣 =
      walk_Meets 𝓛 (ended X G d) (stayed X G d) (Goes-spent_ref 𝓛 2 (0 ∷ []) tt (plain (λ _. R X G d)), tt)
      clauses (WpFn 𝓤 H 𝓣.C 𝓣.Λ (function X G d)) (WpFn-mono 𝓤 H 𝓛.laws 𝓣 (function X G d))
      (walked 𝓛 (ended X G d) (stayed X G d) clauses (WpFn 𝓤 H 𝓣.C 𝓣.Λ (function X G d)) (λ κs. (mut_vals, tt))
      (λ κs. (mut_Tells (named 0) κs.0 (R X G d), tt))
      (λ κs qs bounds a g are.
      qed 𝓛 (raw (on_entry 𝓛 (ended X G d).signature κs qs a (mut_vals a.0, tt)) ∷
      (given (κs.1.0 ⊑ X.lives) (‵ ftrue) ⊛ ‵ ftrue) ∷ []) ∵
      move ! (1 ∷ []) $ drop ! $ by ! (walk 𝓣.C 𝓣.Λ κs.0 κs.1.0 qs.0 qs.1.0 bounds a.0.ref_ptr.0 a.0.ref_ptr.1
      a.0.ghost_name a.0.now)))

pub env_spec : {M : Type 1} → stated.statement M
unfolding tables_of
env_spec 𝓤 𝓛 𝓜 𝓡 wired X L G d met =
    let A = 𝓛.A in
    let 𝓣 : Tables 𝓤 𝓛.H = tables_of 𝓤 𝓛.H 𝓜 (tables 𝓤 𝓛.H 𝓜 𝓡 𝓡.env) in
    entered 𝓤 𝓛.H (triple_of 𝓛 (ended X G d).signature (F.spec X G d 𝓛 𝓜.mem 𝓡.returns)) 𝓣.C 𝓣.Λ
    (#self (args X G d)) (function X G d) (code.unfolded 𝓤 𝓛.H 𝓜 𝓡 wired (X, tt) d)
    (meets X G d 𝓛 𝓜.mem 𝓡.returns 𝓣)
