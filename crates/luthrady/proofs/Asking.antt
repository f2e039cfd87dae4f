-- The walk of a function that asks whether a handle's pointer is NULL, whatever the types of handle and value.
use Rattle.std.proofs.Common.{◌≡◌, List, [], ◌∷◌, refl, sym, lit<}
use Rattle.std.proofs.raw_atomic.Walks.{proved}
use base.Fraction.{full_share}
use base.Logic.{emp, ent, guard, guard_i, snd∗, via}
use base.Fml.{Fml, ftrue, flft}
use contract.Monad.{fact, fact_use}
use contract.Running.{Running, MachineTables, tables}
use denote.Builtin.{bool}
use denote.Exit.{yes}
use denote.Laws.{shows}
use denote.Memory.{lone, cell_at, pointee}
use denote.RattleType.{RattleType}
use denote.RawPtr.{Ptr, block_ptr, null_ptr, ptr_val, Testable, tests_null}
use denote.Ref.{MutRef, mut_vals, mut_Tells}
use denote.Signature.{Signature, plain, mut_ref_to}
use denote.Steps.{nothing, opens, closes, peeks}
use denote.Struct.Laws.{RawPtr-laws}
use denote.Struct.Owning.{Owning, row}
use denote.Struct.OwningLaws.{Tells-lowered}
use denote.Triple.Clauses.{Ended, Clauses, closing}
use denote.Triple.Spec.{Meets}
use denote.Triple.Walked.{Stays, walk_of, stay_ref, Goes-ref, ends_at, says}
use lib.Dec.{T}
use mir.Raw.{raw as bare}
use mir.Syntax.{ty_ptr, ty_ref, ty_bool, Fn, Callee, local, value_local, named, mut, place, deref, field, ptr_eq, op2}
use mir.Syntax.{seq, assign, return, rv_opd, copy, int, w64}
use mir.Val.{Val, vbool, vnull, op2_val, has_ty, WT}
use prog.Model.{Model}
use prog.Wp.{Closed}
use Rattle.std.proofs.alloc.Global.TheLaws as heap
use Rattle.std.proofs.GlobalToken.{dealloc_token-Testable}
use Rattle.std.specs.Box.Ownership.{box_owns}
use Rattle.std.specs.Ptr.{if_non_null, points_to}
use Rattle.std.specs.contracts.impls.GlobalAllocator.TheImpl.{ghosts}
use Rattle.std.specs.declared.alloc.Global.{Global}
use Rattle.luthrady.proofs.Pointers.{Handle}
use Rattle.luthrady.specs.Places.{is_null}
use seplogic.Ra.Ura.{Ura}
use types.ByLocal.{alloc_all, pass_all, free_all, look_at, get, is, through, sets}
use types.Kit.{‵, ◌⊛◌, given, ◌$◌, ◌∵◌, !, qed, done, move, keep, use1, split, join}
use types.Kit.{fsplit, fsplit3, fjoin, feq_i, learn, rewrite, suffices, group, frame}
use types.Logic.{Logic, sem}
use types.Part.{whole, sub, look_in}
use types.Run.{bin, enter, lit, of_opd, load, stop, fld, returns}

-- a pointer as the machine has it
typed : (p : Ptr) → T (has_ty ty_ptr (ptr_val p)) × WT (ptr_val p)
typed (block_ptr b o) = (tt, tt)
typed null_ptr = (tt, record { fits = lit< tt })

-- what the machine answers
answer : (p : Ptr) → op2_val ptr_eq (ptr_val p) vnull ≡ vbool (is_null p)
answer (block_ptr b o) = refl
answer null_ptr = refl

-- T, I, at, alloc and value are as `Handle` has them
module _ (T : Owning) (I : RattleType) (at : T.D → Ptr) (alloc : T.D → Global) (value : T.D → I.Denot) where
  abbrev asked : Owning
  asked = Handle T I at alloc value

  abbrev R : RattleType
  R = row asked

  -- the function's code
  abbrev asking : Fn
  asking = record {
    lifetimes = 1;
    outlives = [];
    ty_params = [];
    givens = 0;
    params = 1;
    locals = local ty_bool value_local ∷ local (ty_ref (named 0) mut (pointee R.written)) value_local
        ∷ local ty_ptr value_local ∷ [];
    body = seq (assign (place 2 []) (rv_opd (copy (place 1 (deref (lone R.mir) ∷ field 0 ∷ [])))))
        (seq (assign (place 0 []) (op2 ptr_eq (copy (place 2 [])) (int w64 0))) return);
  }

  -- its contract
  abbrev signature : Signature
  signature = record {
    lifetimes = 1;
    outlives = [];
    params = mut_ref_to (0 ∷ []) tt (plain (λ κs. R)) ∷ [];
    result = plain (λ κs. bool);
  }

  abbrev ended : Ended
  ended = record { signature = signature; kept = (yes, tt) }

  abbrev stayed : Stays signature.params ended.kept
  stayed = (stay_ref (0 ∷ []) tt (plain (λ _. R)), tt)

  module _ {M : Type 1} {𝓤 : Ura M} (𝓛 : Logic 𝓤) where
    abbrev clauses : Clauses 𝓤 ended
    clauses = λ κs args. record {
      ghost = Unit {0};
      requires = λ _. emp 𝓤;
      ensures = λ _ res end. fact 𝓤 ((res ≡ is_null (at args.0.now)) × (end.0.now ≡ args.0.now));
    }

    -- what a handle owns behind its pointer p
    abbrev Heap : T.D → Ptr → Fml
    Heap h p = if_non_null p (box_owns (ghosts.dealloc_token (alloc h)) I p (value h))

    -- the pointer may be compared with NULL: it is NULL, or begins a block that may be freed
    tested : (h : T.D) (p : Ptr) → ent 𝓤 (sem 𝓛 (Heap h p)) (guard 𝓤 (Testable p) (sem 𝓛 (Heap h p)))
    tested h null_ptr = guard_i 𝓤 (Testable null_ptr) (sem 𝓛 (Heap h null_ptr)) (lit< tt)
    tested h (block_ptr b o) =
        let p = block_ptr b o in let τ = bare (lone I.mir) in
        fact_use 𝓤 (Testable p) (via 𝓤 _ (snd∗ 𝓤 (sem 𝓛 (points_to I p (value h)))
        (sem 𝓛 (ghosts.dealloc_token (alloc h) τ p))) (dealloc_token-Testable 𝓛 (alloc h) τ p))
        (guard_i 𝓤 (Testable p) (sem 𝓛 (Heap h p)))

    module _ (𝓜 : Model 𝓤 𝓛.H) (𝓡 : Running 𝓤 𝓛.H 𝓜) where
      abbrev 𝓣 : MachineTables 𝓤 𝓛.H 𝓜
      𝓣 = tables 𝓤 𝓛.H 𝓜 𝓡 𝓡.env

      pub asks : (key : Callee) → Closed 𝓤 𝓛.H 𝓣.C 𝓣.Λ key asking
          → Meets 𝓛 signature (𝓣.C key) (closing 𝓛 ended clauses)
      asks key unfolded = let c = clauses in let W = walk_of 𝓛 ended stayed c in
          proved 𝓛 ended stayed c 𝓜 𝓡 (Goes-ref 𝓛 1 0 tt (plain (λ _. R)), tt) key asking unfolded
          (λ κs. (mut_vals, tt)) (λ κs. (mut_Tells (named 0) κs.0 R, tt)) (λ κs qs bounds a _ are.
          let b = a.0.ref_ptr.0 in let o = a.0.ref_ptr.1 in let h = a.0.now in let vs = mut_vals a.0 in
          let y : W.Ghost = ((κs, qs, bounds, a, (vs, tt)), tt) in let p = at h in
          qed 𝓛 (((‵ (flft κs.0 qs.0) ⊛ ‵ ftrue) ⊛ ‵ ((MutRef (named 0) κs.0 R).own_val a.0 vs) ⊛ ‵ ftrue)
          ∷ ‵ ftrue ∷ []) ∵
          split ! $ split ! $ move ! (2 ∷ []) $ split ! $ keep ! (0 ∷ 2 ∷ []) $
          enter ! _ _ _ _ _ $ alloc_all ! (λ l. pass_all ! refl ((tt, tt), tt) $
          fsplit3 ! $ move ! (1 ∷ 2 ∷ 3 ∷ []) $ opens ! tt R b o (λ us.
          move ! (1 ∷ []) $ peeks ! R _ (shows 𝓛 R) h us (λ lies. fsplit ! $ move ! (1 ∷ []) $
          use1 𝓛 (given (Testable p) (‵ (Heap h p))) (tested h p) $ learn ! (λ may.
          -- [the value behind the pointer; what the fields own; the handle's cell; the open borrow, in three entries]
          let word = Tells-lowered asked (RawPtr-laws, (heap.the_field_laws, tt)) h us lies in
          let Cell = λ (ws : List Val). ‵ (cell_at full_share R.mir ws b o) in
          rewrite ! 2 Cell word refl $
          sets ! (of_opd ! (load ! (through ! refl (fld ! refl (stop !))) (look_in ! 2 (sub ! 0 refl (whole !)))))
          refl (typed p) $
          sets ! (is ! (bin ! (get ! refl) (lit ! tt) (tests_null p may)) (answer p)) refl (tt, tt) $
          rewrite ! 2 Cell (sym word) refl $
          move ! (1 ∷ 0 ∷ []) $ fjoin ! $ move ! (1 ∷ []) $ closes ! tt R h us b o $
          -- [two parts of the handle; the token; its first part]
          returns ! (look_at ! 0 refl) $ free_all ! refl $ move ! (3 ∷ []) $
          suffices ! _ (ends_at 𝓛 ended stayed c y (vbool (is_null p)) (is_null p) (h, tt) (tt, tt)) $
          says ! (refl, refl) $
          group ! 3 $ nothing ! $ move ! (1 ∷ 0 ∷ []) $ join ! $ nothing ! $ move ! (2 ∷ 0 ∷ []) $ join ! $
          frame ! $ frame ! $ feq_i ! _ (vbool (is_null p) ∷ []) _ refl $ done !)))))
