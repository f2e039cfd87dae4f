-- The walks of two functions over a handle, whatever the types of handle and value: their code and their contract are
-- made of the two. One makes a box's parts of a handle whose pointer isn't NULL: it moves two fields, and what they own
-- goes with them. The other puts NULL and an allocator together, and owns nothing behind the pointer.
use Rattle.std.proofs.Common.{◌≡◌, List, [], ◌∷◌, ◌++◌, true, false, refl, sym, subst, lit<}
use Rattle.std.proofs.BoxSteps.Form.{Bx, D, B, word, box_typed}
use Rattle.std.proofs.BoxSteps.Steps.{box_out, box_in}
use Rattle.std.proofs.alloc.Global.TheLaws as heap_laws
use Rattle.std.proofs.raw_atomic.Walks.{proved_at, leaves}
use Rattle.std.proofs.cell.Inside.{Good, one}
use Rattle.std.proofs.ResultValues.{and_tt}
use Rattle.std.specs.Box.Ownership.{box_owns}
use Rattle.std.specs.Ptr.{if_non_null}
use Rattle.std.specs.contracts.alloc.Global as heap
use Rattle.std.specs.contracts.impls.GlobalAllocator.TheImpl.{ghosts, dict}
use Rattle.std.specs.declared.alloc.Global.{Global}
use Rattle.luthrady.proofs.Pointers.{Handle, at_a_block, both}
use Rattle.luthrady.specs.Places.{is_null}
use Rattle.luthrady.specs.contracts.parts.Parts as parts
use base.Fml.{ftrue, fsep}
use base.Logic.{SProp, emp, ent, id⊢}
use contract.Monad.{fact, fact_i}
use contract.Running.{Running, MachineTables, tables}
use denote.Exit.{yes}
use denote.Param.Laws.{Laws}
use denote.Builtin.{RawPtr}
use denote.Memory.{lone, pointee}
use denote.Param.{layout}
use denote.Ref.{shr_Lawful}
use denote.RattleType.{RattleType, owns, Valss}
use denote.RawPtr.{Ptr, null_ptr}
use denote.Signature.{Signature, Slot, types_at, plain, shr_ref_to}
use denote.Steps.{heard, nothing}
use denote.Struct.Declared.{Declared, row as struct_row}
use denote.Struct.Owning.{Owning, row, shape}
use denote.Struct.Struct.{Struct, within}
use denote.Struct.Values.{intos}
use denote.Triple.Entry.{alive}
use denote.Triple.Clauses.{Ended, Clauses, closing}
use denote.Triple.Spec.{Meets}
use denote.Triple.Walked.{says, Stays, stay_dropped, walk_of, ends_at, Goes-dropped}
use mir.Syntax.{impl, tnil, dnil, ty_ptr, ty_ref, Fn, Callee, local, value_local, named, imm, place, field, int, w64}
use mir.Syntax.{seq, assign, return, rv_opd, copy, aggregate}
use mir.Val.{Val, vnull}
use prog.Model.{Model}
use prog.Wp.{WpFn, Closed}
use seplogic.Ra.Ura.{Ura}
use types.ByLocal.{alloc_all, pass_all, free_all, look_at, get, get_in, sets}
use types.Kit.{Item, ‵, raw, ◌⊛◌, ◌$◌, ◌∵◌, !, qed, by, move, drop, use1, join, split, fsplit, fjoin, rewrite}
use types.Kit.{suffices, done, keep, fsplit3, fpack, feq_i, use0}
use types.Logic.{Logic}
use types.Part.{whole, sub, agg}
use types.Run.{stop, fld, lit, no_more, and_then, of_opd, returns, enter}

-- T, at, alloc and value are as `Handle` has them, and J is the struct behind the pointer
module _ (T : Owning) (J : Declared) (laws : Laws (struct_row J)) (at : T.D → Ptr) (alloc : T.D → Global)
    (value : T.D → J.D) where
  abbrev I : RattleType
  I = struct_row J

  abbrev R : RattleType
  R = row (Handle T I at alloc value)

  abbrev To : RattleType
  To = parts.the_row I heap.the_row ghosts

  abbrev E : Bx
  E = record {
    row = I;
    laws = laws;
    al = record
        { row = heap.the_row; laws = heap_laws.the_row_laws; g = ghosts; d = dict; drops = impl [] tnil dnil };
  }

  -- the function's code
  abbrev parting : Fn
  parting = record {
    lifetimes = 0;
    outlives = [];
    ty_params = [];
    givens = 0;
    params = 1;
    locals = local (lone To.mir) value_local ∷ local (lone R.mir) value_local ∷ local ty_ptr value_local
        ∷ local (lone heap.the_row.mir) value_local ∷ local ty_ptr value_local ∷ [];
    body = seq (assign (place 2 []) (rv_opd (copy (place 1 (field 0 ∷ [])))))
        (seq (assign (place 3 []) (rv_opd (copy (place 1 (field 1 ∷ [])))))
        (seq (assign (place 4 []) (rv_opd (copy (place 2 []))))
        (seq (assign (place 0 []) (aggregate (copy (place 4 []) ∷ copy (place 3 []) ∷ []))) return)));
  }

  -- its contract
  abbrev signature : Signature
  signature = record
      { lifetimes = 0; outlives = []; params = plain (λ κs. R) ∷ []; result = plain (λ κs. To) }

  abbrev ended : Ended
  ended = record { signature = signature; kept = (yes, tt) }

  abbrev stayed : Stays signature.params ended.kept
  stayed = (stay_dropped (plain (λ _. R)) yes, tt)

  module _ {M : Type 1} {𝓤 : Ura M} (𝓛 : Logic 𝓤) where
    abbrev clauses : Clauses 𝓤 ended
    clauses = λ κs args. record {
      ghost = Unit {0};
      requires = λ _. fact 𝓤 (is_null (at args.0) ≡ false);
      ensures = λ _ res end. fact 𝓤 (res.value ≡ value args.0);
    }

    module _ (𝓜 : Model 𝓤 𝓛.H) (𝓡 : Running 𝓤 𝓛.H 𝓜) where
      abbrev 𝓣 : MachineTables 𝓤 𝓛.H 𝓜
      𝓣 = tables 𝓤 𝓛.H 𝓜 𝓡 𝓡.env

      pub parts_made : (key : Callee) → Closed 𝓤 𝓛.H 𝓣.C 𝓣.Λ key parting
          → Meets 𝓛 signature (𝓣.C key) (closing 𝓛 ended clauses)
      parts_made key unfolded = proved_at 𝓛 ended stayed clauses 𝓜 𝓡
          (Goes-dropped 𝓛 0 (plain (λ _. R)) yes (λ κs x f. refl), tt) key parting unfolded (λ z are.
          let Post = (walk_of 𝓛 ended stayed clauses).post z in
          let h = z.0.3.0 in
          let v : D E = record { ptr = at h; alloc = alloc h; value = value h } in
          let made : To.Denot = record { ptr = at h; alloc = alloc h; value = value h } in
          qed 𝓛 ((‵ ftrue ⊛ ‵ (fsep (R.own_val h z.0.4.0) ftrue)) ∷ raw (fact 𝓤 (is_null (at h) ≡ false)) ∷ []) ∵
          move ! (1 ∷ []) $ heard ! (is_null (at h) ≡ false) (λ there. split ! $ drop ! $ fsplit ! $ fsplit ! $
          move ! (1 ∷ []) $
          at_a_block ! (at h) (λ p. if_non_null p (box_owns (ghosts.dealloc_token (alloc h)) I p (value h)))
          there (λ b₀ o₀ e₀. rewrite ! 0
          (λ (p : Ptr). ‵ (box_owns (ghosts.dealloc_token (alloc h)) I p (value h))) (sym e₀) refl $
          move ! (1 ∷ 0 ∷ []) $ fjoin ! $ use1 𝓛 (‵ ((B E).own_val v z.0.4.0)) (id⊢ 𝓤 _) $
          box_out E ! v z.0.4.0 (λ b o hv e ws fa. box_in E ! v b o v.value e refl $ use1 𝓛
          (‵ (To.own_val made (word E hv b o ∷ []))) (id⊢ 𝓤 _) $ move ! (1 ∷ []) $ drop ! $
          let w = word E hv b o in
          let Γ : List (Item 𝓤) = ‵ (To.own_val made (w ∷ [])) ∷ [] in
          by ! (subst (λ (us : List Val). ent 𝓤 (types.Kit.⋆ 𝓛 Γ) (WpFn 𝓤 𝓛.H 𝓣.C 𝓣.Λ parting (us ++ []) Post))
          (sym ws)
          (qed 𝓛 Γ ∵ enter ! 𝓣.C 𝓣.Λ parting (w ∷ []) _ $ alloc_all !
          (λ ls. pass_all ! refl (box_typed E hv b o fa, tt) $
          sets ! (of_opd ! (get_in ! (fld ! refl (stop !)) (sub ! 0 refl (whole !)))) refl (tt, tt) $ sets !
          (of_opd ! (get_in ! (fld ! refl (stop !)) (sub ! 1 refl (whole !)))) refl fa $
          sets ! (of_opd ! (get ! refl)) refl (tt, tt) $
          sets ! (agg ! (and_then ! (get ! refl) (and_then ! (get ! refl) (no_more !)))) refl
          (box_typed E hv b o fa) $ returns ! (look_at ! 0 refl) $ free_all ! refl $
          suffices ! _ (ends_at 𝓛 ended stayed clauses z w made (tt, tt) (tt, tt)) $ says ! refl $
          nothing ! $ nothing ! $ fjoin ! $ join ! $ nothing ! $ join ! $ done !)))))))

-- and `null a v` is the handle that holds NULL and the allocator a, over the value v
module _ (T : Owning) (I : RattleType) (at : T.D → Ptr) (alloc : T.D → Global) (value : T.D → I.Denot)
    (null : Global → I.Denot → T.D) (same : (a : Global) (v : I.Denot) → ◌≡◌ {A = Ptr × (Global × I.Denot)}
    (at (null a v), (alloc (null a v), value (null a v))) (null_ptr, (a, v))) where
  abbrev nulled : Owning
  nulled = Handle T I at alloc value

  abbrev N : RattleType
  N = row nulled

  abbrev Z : RattleType
  Z = heap.the_row

  abbrev Like : Slot 1
  Like = shr_ref_to (0 ∷ []) tt (plain (λ _. N))

  -- the function's code
  abbrev nulling : Fn
  nulling = record {
    lifetimes = 1;
    outlives = [];
    ty_params = [];
    givens = 0;
    params = 2;
    locals = local (lone N.mir) value_local ∷ local (lone Z.mir) value_local
        ∷ local (ty_ref (named 0) imm (pointee N.written)) value_local ∷ [];
    body = seq (assign (place 0 []) (aggregate (int w64 0 ∷ copy (place 1 []) ∷ []))) return;
  }

  -- its contract
  abbrev none_signature : Signature
  none_signature = record
      { lifetimes = 1; outlives = []; params = plain (λ _. Z) ∷ Like ∷ []; result = plain (λ _. N) }

  abbrev none_ended : Ended
  none_ended = record { signature = none_signature; kept = (yes, (yes, tt)) }

  abbrev none_stayed : Stays none_signature.params none_ended.kept
  none_stayed = (stay_dropped (plain (λ _. Z)) yes, (stay_dropped Like yes, tt))

  module _ {M : Type 1} {𝓤 : Ura M} (𝓛 : Logic 𝓤) where
    abbrev none_clauses : Clauses 𝓤 none_ended
    none_clauses = λ κs args. record
        { ghost = Unit {0}; requires = λ _. emp 𝓤; ensures = λ _ res end. fact 𝓤 (is_null (at res) ≡ true) }

    module _ (𝓜 : Model 𝓤 𝓛.H) (𝓡 : Running 𝓤 𝓛.H 𝓜) where
      abbrev 𝓢 : MachineTables 𝓤 𝓛.H 𝓜
      𝓢 = tables 𝓤 𝓛.H 𝓜 𝓡 𝓡.env

      pub null_made : (key : Callee) → Closed 𝓤 𝓛.H 𝓢.C 𝓢.Λ key nulling
          → Meets 𝓛 none_signature (𝓢.C key) (closing 𝓛 none_ended none_clauses)
      null_made key unfolded = let c = none_clauses in
          proved_at 𝓛 none_ended none_stayed c 𝓜 𝓡 (
            Goes-dropped 𝓛 1 (plain (λ _. Z)) yes (λ κs x f. refl),
            (Goes-dropped 𝓛 1 Like yes (λ κs x f. refl), tt),
          ) key nulling unfolded (λ z are.
          let κs = z.0.0 in let qs = z.0.1 in
          let Post = (walk_of 𝓛 none_ended none_stayed c).post z in
          let Run : List Val → SProp 𝓤 = λ ws. WpFn 𝓤 𝓛.H 𝓢.C 𝓢.Λ nulling ws Post in
          let a = z.0.3.0 in let like = z.0.3.1.0 in let S : RattleType = Like.row κs in
          let h = one (layout Z) z.0.4.0 ((heap_laws.the_row_laws.lawful 𝓛).typed a z.0.4.0 are.0) in
          let r = one (layout S) z.0.4.1.0 ((shr_Lawful 𝓛 (named 0) κs.0 N).typed like z.0.4.1.0 are.1.0) in
          let w : Val = both vnull h.0 in
          let v = value like.now in
          let d = null a v in
          let good : Good (layout N) w = (and_tt _ h.2.0, (record { fits = lit< tt }, (h.2.1, tt))) in
          let Fields = λ (x : Ptr × (Global × I.Denot)).
          ‵ ((Struct (shape nulled)).own_val (intos nulled.parts (x.0, (x.1.0, tt))) (w ∷ [])) in
          let Heap = λ (x : Ptr × (Global × I.Denot)).
          ‵ (if_non_null x.0 (box_owns (ghosts.dealloc_token x.1.0) I x.0 x.1.1)) in
          qed 𝓛 ((raw (alive 𝓛 none_signature κs qs) ⊛ ‵ (owns (types_at none_signature.params κs) z.0.3 z.0.4)) ∷ raw
          ((c κs z.0.3).requires z.1) ∷ []) ∵
          split ! $ move ! (1 ∷ []) $ fsplit3 ! $
          rewrite ! 0 (λ (us : List Val). ‵ (Z.own_val a us)) h.1 refl $
          nothing ! $ move ! (1 ∷ 0 ∷ []) $ fjoin ! $ feq_i ! (List Val) (vnull ∷ []) (vnull ∷ []) refl $ fjoin ! $
          feq_i ! (List Val) (w ∷ []) (w ∷ []) refl $ fjoin ! $
          fpack ! (Valss (RawPtr ∷ Z ∷ [])) (within (shape nulled) (intos nulled.parts (null_ptr, (a, tt))) (w ∷ []))
          (vnull ∷ [], (h.0 ∷ [], tt)) $
          rewrite ! 0 Fields (sym (same a v)) refl $ nothing ! $ rewrite ! 0 Heap (sym (same a v)) refl $
          move ! (1 ∷ 0 ∷ []) $ fjoin ! $
          suffices ! (Run (h.0 ∷ r.0 ∷ [])) (subst (λ (us : List Val). ent 𝓤 (Run (h.0 ∷ r.0 ∷ [])) (Run us))
          (sym (λ i. h.1 i ++ (r.1 i ++ []))) (id⊢ 𝓤 (Run (h.0 ∷ r.0 ∷ [])))) $
          enter ! 𝓢.C 𝓢.Λ nulling (h.0 ∷ r.0 ∷ []) Post $ alloc_all ! (λ l. pass_all ! refl (h.2, (r.2, tt)) $
          sets ! (agg ! (and_then ! (lit ! tt) (and_then ! (get ! refl) (no_more !)))) refl good $
          use0 𝓛 (raw (fact 𝓤 (is_null (at d) ≡ true)))
          (fact_i 𝓤 (is_null (at d) ≡ true) (emp 𝓤) (λ i. is_null (same a v i).0)) $
          nothing ! $ nothing ! $ fjoin ! $ nothing ! $ fjoin ! $
          returns ! (look_at ! 0 refl) $ free_all ! refl $ keep ! (5 ∷ 0 ∷ 2 ∷ 1 ∷ []) $ by !
          (leaves 𝓛 none_ended none_stayed c z w d (tt, (tt, tt)) (tt, (tt, tt)))))
