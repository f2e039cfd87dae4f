-- The walk of a function that lends what stands behind a handle's pointer, whatever the types of handle and value:
-- its code and its contract are made of the two.
use Rattle.std.proofs.Common.{false, ◌≡◌, ℕ, List, [], ◌∷◌, refl, sym, ap, ◌∙◌}
use Rattle.std.proofs.raw_atomic.Walks.{proved}
use base.Fraction.{full_share}
use base.Logic.{ent, sep, id⊢}
use base.Fml.{Fml, GName, ftrue, fsep, flft}
use contract.Monad.{fact}
use contract.Running.{Running, MachineTables, tables}
use denote.Exit.{no}
use denote.Follow.{follows, Part, lends_Part}
use denote.Laws.{shows}
use denote.Memory.{lone, cell_at, part_at, part_of, pointee, mem}
use denote.RattleType.{RattleType}
use denote.RawPtr.{Ptr, block_ptr, ptr_val}
use denote.Ref.{MutRef, mut_vals, mut_Tells}
use denote.Signature.{Signature, plain, mut_ref_to}
use denote.Steps.{heard, nothing, opens, peeks}
use denote.Struct.Laws.{RawPtr-laws}
use denote.Struct.Owning.{Owning, row, shape, to}
use denote.Struct.OwningLaws.{Tells-lowered}
use denote.Struct.Struct.{Struct}
use denote.Struct.Values.{intos}
use denote.Triple.Clauses.{Ended, Clauses, closing}
use denote.Triple.Spec.{Meets}
use denote.Triple.Walked.{Stays, walk_of, stay_dropped, Goes-spent_ref, ends_at, says}
use mir.Raw.{raw as bare}
use mir.Syntax.{ty_ptr, ty_ref, Fn, Callee, local, value_local, named, erased, mut, place, deref, field}
use mir.Syntax.{seq, block, assign, return, rv_opd, addr_of, copy}
use mir.Val.{Val, vptr, vstruct, vcons, vnil}
use prog.Model.{Model}
use prog.Wp.{Closed}
use Rattle.std.proofs.VecSteps.Shapes.{after}
use Rattle.std.proofs.alloc.Global.TheLaws as heap
use Rattle.std.specs.Box.Ownership.{box_owns}
use Rattle.std.specs.Ptr.{if_non_null}
use Rattle.std.specs.contracts.impls.GlobalAllocator.TheImpl.{ghosts}
use Rattle.std.specs.declared.alloc.Global.{Global}
use Rattle.luthrady.proofs.Pointers.{Handle, at_a_block}
use Rattle.luthrady.specs.Places.{is_null}
use seplogic.Ra.Ura.{Ura}
use types.ByLocal.{alloc_all, pass_all, free_all, look_at, get, through, sets, sets_last, env}
use types.Kit.{‵, raw, ◌⊛◌, some, later, at_ret, ◌$◌, ◌∵◌, !, qed, done, move, keep, use1, split, split3, join}
use types.Kit.{fsplit, fsplit3, fjoin, fpack, pick, await, rewrite, suffices, group, frame}
use types.Logic.{Logic, sem}
use types.Part.{whole, sub, look_in}
use types.Run.{enter, of_opd, addr, load, stop, fld, first, blocks, exec, returns}

-- T, I, at, alloc and value are as `Handle` has them, and `over h w` is the handle h over the value w
module _ (T : Owning) (I : RattleType) (at : T.D → Ptr) (alloc : T.D → Global) (value : T.D → I.Denot)
    (over : T.D → I.Denot → T.D) (same : (h : T.D) (w : I.Denot) → ◌≡◌ {A = Ptr × (Global × I.Denot)}
    (at (over h w), (alloc (over h w), value (over h w))) (at h, (alloc h, w))) where
  abbrev lender : Owning
  lender = Handle T I at alloc value

  abbrev R : RattleType
  R = row lender

  -- the function's code
  abbrev lending : Fn
  lending = record {
    lifetimes = 1;
    outlives = [];
    ty_params = [];
    givens = 0;
    params = 1;
    locals = local (ty_ref (named 0) mut (pointee I.written)) value_local
        ∷ local (ty_ref (named 0) mut (pointee R.written)) value_local
        ∷ local (ty_ref erased mut (pointee I.written)) value_local
        ∷ local ty_ptr value_local ∷ local ty_ptr value_local ∷ [];
    body = seq (block (seq (assign (place 3 []) (rv_opd (copy (place 1 (deref (lone R.mir) ∷ field 0 ∷ [])))))
        (seq (assign (place 4 []) (rv_opd (copy (place 3 []))))
        (assign (place 2 []) (addr_of (place 4 (deref (lone I.mir) ∷ [])))))))
        (seq (assign (place 0 []) (rv_opd (copy (place 2 [])))) return);
  }

  -- its contract
  abbrev signature : Signature
  signature = record {
    lifetimes = 1;
    outlives = [];
    params = mut_ref_to (0 ∷ []) tt (plain (λ κs. R)) ∷ [];
    result = mut_ref_to (0 ∷ []) tt (plain (λ κs. I));
  }

  abbrev ended : Ended
  ended = record { signature = signature; kept = (no, tt) }

  abbrev stayed : Stays signature.params ended.kept
  stayed = (stay_dropped (mut_ref_to (0 ∷ []) tt (plain (λ _. R))) no, tt)

  module _ {M : Type 1} {𝓤 : Ura M} (𝓛 : Logic 𝓤) where
    abbrev clauses : Clauses 𝓤 ended
    clauses = λ κs args. record {
      ghost = Unit {0};
      requires = λ _. fact 𝓤 (is_null (at args.0.now) ≡ false);
      ensures = λ _ res end. sep 𝓤 (sem 𝓛 (follows R I args.0.ghost_name res.ghost_name (over args.0.now)))
          (fact 𝓤 (res.now ≡ value args.0.now));
    }

    -- what a handle owns beside the value behind its pointer, which lies at b' and o'; and the handle over another one
    module _ (h : T.D) (us : List Val) (b o b' o' : ℕ) where
      abbrev Rest : Fml
      Rest = fsep ((ghosts.dealloc_token (alloc h)) (bare (lone I.mir)) (block_ptr b' o'))
          (fsep ((Struct (shape lender)).own_val (to lender h) us) (cell_at full_share R.mir us b o))

      back : at h ≡ block_ptr b' o' → (w : I.Denot)
          → ent 𝓤 (sep 𝓤 (sem 𝓛 ((mem I).own_at w b' o')) (sem 𝓛 Rest)) (sem 𝓛 ((mem R).own_at (over h w) b o))
      unfolding part_of
      back e w =
          let Heap = λ (z : Ptr × (Global × I.Denot)).
          ‵ (if_non_null z.0 (box_owns (ghosts.dealloc_token z.1.0) I z.0 z.1.1)) in
          let Fields = λ (z : Ptr × (Global × I.Denot)).
          ‵ ((Struct (shape lender)).own_val (intos lender.parts (z.0, (z.1.0, tt))) us) in
          qed 𝓛 (‵ (part_at I full_share w b' o') ∷ ‵ Rest ∷ []) ∵
          move ! (1 ∷ []) $ fsplit ! $ move ! (2 ∷ 0 ∷ []) $ fjoin ! $
          rewrite ! 0 (λ (p : Ptr). Heap (p, (alloc h, w))) (sym e) refl $ rewrite ! 0 Heap (sym (same h w)) refl $
          move ! (1 ∷ []) $ fsplit ! $ rewrite ! 0 Fields (sym (same h w)) refl $
          move ! (0 ∷ 2 ∷ []) $ fjoin ! $ move ! (1 ∷ 0 ∷ []) $ fjoin ! $
          fpack ! (List Val) (λ (vs : List Val). fsep (cell_at full_share R.mir vs b o) (R.own_val (over h w) vs)) us
          $ done !

    module _ (𝓜 : Model 𝓤 𝓛.H) (𝓡 : Running 𝓤 𝓛.H 𝓜) where
      abbrev 𝓣 : MachineTables 𝓤 𝓛.H 𝓜
      𝓣 = tables 𝓤 𝓛.H 𝓜 𝓡 𝓡.env

      pub lends : (key : Callee) → Closed 𝓤 𝓛.H 𝓣.C 𝓣.Λ key lending
          → Meets 𝓛 signature (𝓣.C key) (closing 𝓛 ended clauses)
      lends key unfolded = let c = clauses in let W = walk_of 𝓛 ended stayed c in
          proved 𝓛 ended stayed c 𝓜 𝓡 (Goes-spent_ref 𝓛 1 (0 ∷ []) tt (plain (λ _. R)), tt) key lending unfolded
          (λ κs. (mut_vals, tt)) (λ κs. (mut_Tells (named 0) κs.0 R, tt)) (λ κs qs bounds a _ are.
          let b = a.0.ref_ptr.0 in let o = a.0.ref_ptr.1 in let h = a.0.now in let vs = mut_vals a.0 in
          let y : W.Ghost = ((κs, qs, bounds, a, (vs, tt)), tt) in
          qed 𝓛 (((‵ (flft κs.0 qs.0) ⊛ ‵ ftrue) ⊛ ‵ ((MutRef (named 0) κs.0 R).own_val a.0 vs) ⊛ ‵ ftrue)
          ∷ raw (fact 𝓤 (is_null (at h) ≡ false)) ∷ []) ∵
          move ! (1 ∷ []) $ heard ! (is_null (at h) ≡ false) (λ there.
          split ! $ split ! $ move ! (2 ∷ []) $ split ! $ keep ! (0 ∷ 2 ∷ []) $
          enter ! _ _ _ _ _ $ alloc_all ! (λ l. pass_all ! refl ((tt, tt), tt) $
          fsplit3 ! $ move ! (1 ∷ 2 ∷ 3 ∷ []) $ opens ! tt R b o (λ us.
          move ! (1 ∷ []) $ peeks ! R _ (shows 𝓛 R) h us (λ is. fsplit ! $ move ! (1 ∷ []) $
          at_a_block ! (at h) (λ p. if_non_null p (box_owns (ghosts.dealloc_token (alloc h)) I p (value h)))
          there (λ b' o' e.
          fsplit ! $
          -- [the value; the right to free its block; what the fields own; the handle's cell;
          -- the open borrow, in three entries]
          let word = Tells-lowered lender (RawPtr-laws, (heap.the_field_laws, tt)) h us is
          ∙ ap (λ (p : Ptr). vstruct (vcons (ptr_val p) (vcons (heap.lowered (alloc h)) vnil)) ∷ []) e in
          let Cell = λ (ws : List Val). ‵ (cell_at full_share R.mir ws b o) in
          rewrite ! 3 Cell word refl $
          first ! $ blocks ! $
          sets ! (of_opd ! (load ! (through ! refl (fld ! refl (stop !))) (look_in ! 3 (sub ! 0 refl (whole !)))))
          refl (tt, tt) $
          sets ! (of_opd ! (get ! refl)) refl (tt, tt) $
          sets_last ! (addr ! (through ! refl (stop !))) refl (tt, tt) $
          exec ! 𝓣.C 𝓣.Λ (env lending.locals l) (after 1 lending.body) (at_ret _ (W.post y)) $
          sets ! (of_opd ! (get ! refl)) refl (tt, tt) $
          rewrite ! 3 Cell (sym word) refl $
          move ! (2 ∷ 3 ∷ []) $ fjoin ! $ move ! (2 ∷ 0 ∷ []) $ fjoin ! $ move ! (2 ∷ 3 ∷ 4 ∷ 1 ∷ 0 ∷ []) $ group ! 5 $
          let F = over h in let u = R.coded.code h in let behind = back h us b o b' o' e in
          use1 𝓛 (later (some (λ (γ' : GName). raw (Part 𝓛 R I F (named 0) κs.0 qs.0 b o b' o' a.0.ghost_name
          (sem 𝓛 (Rest h us b o b' o')) behind (value h) γ'))))
          (lends_Part 𝓛 R I F (named 0) κs.0 qs.0 b o b' o' a.0.ghost_name (sem 𝓛 (Rest h us b o b' o'))
          behind u u (value h)) $ await ! tt $ pick ! (λ γ'.
          let Lent = (MutRef (named 0) κs.0 I).own_val (record { ref_ptr = (b', o'); ghost_name = γ'; now = value h })
          (vptr b' o' ∷ []) in
          use1 𝓛 (‵ Lent ⊛ ‵ (flft κs.0 qs.0) ⊛ ‵ (follows R I a.0.ghost_name γ' F)) (id⊢ 𝓤 _) $ split3 ! $
          returns ! (look_at ! 0 refl) $ free_all ! refl $ keep ! (0 ∷ 1 ∷ 2 ∷ []) $
          suffices ! _ (ends_at 𝓛 ended stayed c y (vptr b' o')
          (record { ref_ptr = (b', o'); ghost_name = γ'; now = value h }) (tt, tt) (tt, tt)) $
          nothing ! $ nothing ! $ fjoin ! $ join ! $ nothing ! $ move ! (2 ∷ 0 ∷ []) $ join ! $ join ! $ frame ! $
          says ! refl $ done !)))))))
