-- A read finds what was last written.
use Rattle.std.proofs.Common.{◌≡◌, ⊎_elim, ℕ, ◌==◌, ◌&&◌, Bool, true, false, Some, None, [], ◌∷◌}
use Rattle.std.proofs.Common.{◌++◌, slice_get, slice_set, refl, sym, ap, subst, ◌∙◌, append_assoc}
use Rattle.jr_word.specs.declared.config.Config.{Config}
use Rattle.jr_model.specs.declared.event.Event.{Event}
use Rattle.jr_model.specs.declared.event.Act.{Act}
use Rattle.jr_model.specs.declared.event.Act.TheVariants.{New, Read, Write, Drop}
use Rattle.jr_model.specs.State.{Contents, State}
use Rattle.jr_model.specs.Steps.{ActNeeds, act_after, written}
use Rattle.jr_model.specs.History.{History, by, state, IsLegal, makes_object, writes, IsLastWord, from_new, from_write}
use Rattle.jr_model.specs.Laws.{ReadsLastWord}
use Rattle.jr_model.proofs.Updates.{at_number, eq_other}
use Rattle.jr_model.proofs.Histories.{legal_append, legal_induction, state_push, all_push}
use Rattle.jr_model.proofs.Presence.{slice_get_set}

and_false_left : (a b : Bool) → a ≡ false → (a && b) ≡ false
and_false_left a b e = rw e refl

and_false_right : (a b : Bool) → b ≡ false → (a && b) ≡ false
and_false_right true b e = e
and_false_right false b e = refl

-- an event that does not touch the element
later : (o i v : ℕ) (es : History) (e : Event) → makes_object o e.act ≡ false → writes o i e.act ≡ false
    → IsLastWord o i v es → IsLastWord o i v (es ++ e ∷ [])
later o i v es e m w (from_new before since t k ws parts at ms ws') =
    from_new before (since ++ e ∷ []) t k ws (ap (λ l. l ++ e ∷ []) parts
    ∙ append_assoc before (by t (New o k ws) ∷ since) (e ∷ [])) at (all_push _ since e ms m) (all_push _ since e ws' w)
later o i v es e m w (from_write before since t parts ms ws') =
    from_write before (since ++ e ∷ []) t (ap (λ l. l ++ e ∷ []) parts
    ∙ append_assoc before (by t (Write o i v) ∷ since) (e ∷ [])) (all_push _ since e ms m) (all_push _ since e ws' w)

abbrev IsTold : History → State → Type 0
IsTold es s = (o i v : ℕ) (x : Contents) → s.objects o ≡ Some x → slice_get x.words i ≡ Some v → IsLastWord o i v es

module _ (c : Config) (last : ℕ) where
  told_act : (es : History) (s : State) (t : ℕ) (a : Act) → IsTold es s → ActNeeds c last s t a
      → IsTold (es ++ by t a ∷ []) (act_after s t a)
  told_act es s t (New p k ws) i n o j v x =
      at_number (λ z. z ≡ Some x → slice_get x.words j ≡ Some v → IsLastWord o j v (es ++ by t (New p k ws) ∷ []))
      s.objects p o (Some (record { kind = k; words = ws }))
      (λ e q at.
      let same : record { kind = k; words = ws } ≡ x = cc in
      from_new es [] t k ws (ap (λ r. es ++ by t (New r k ws) ∷ []) e)
      (ap (λ (z : Contents). slice_get z.words j) same ∙ at) tt tt)
      (λ ne q at. later o j v es (by t (New p k ws)) (eq_other p o ne) refl (i o j v x q at))
  told_act es s t (Write p l w) i n o j v x =
      at_number (λ z. z ≡ Some x → slice_get x.words j ≡ Some v → IsLastWord o j v (es ++ by t (Write p l w) ∷ []))
      s.objects p o (written (s.objects p) l w)
      (λ e q at.
      let same : record { kind = n.1.kind; words = slice_set n.1.words l w } ≡ x =
      let r : written (Some n.1) l w ≡ Some x = ap (λ z. written z l w) (sym n.2) ∙ q in cc in
      ⊎_elim
      (λ h. from_write es [] t (ap (λ r. es ++ by t r ∷ []) (let a = h.0 in let b = h.1 in cc)) tt tt)
      (λ h. later o j v es (by t (Write p l w)) refl (and_false_right (p == o) (l == j) (eq_other l j h.0))
      (i o j v n.1 (sym (ap s.objects e) ∙ n.2) h.1))
      (slice_get_set n.1.words l j w v (ap (λ (z : Contents). slice_get z.words j) same ∙ at)))
      (λ ne q at.
      later o j v es (by t (Write p l w)) refl (and_false_left (p == o) (l == j) (eq_other p o ne)) (i o j v x q at))
  told_act es s t (Drop p) i n o j v x =
      at_number (λ z. z ≡ Some x → slice_get x.words j ≡ Some v → IsLastWord o j v (es ++ by t (Drop p) ∷ [])) s.objects
      p o None
      (λ e q at. absurd cc)
      (λ ne q at. later o j v es (by t (Drop p)) refl refl (i o j v x q at))
  told_act es s t a i n o j v x = λ q at. later o j v es (by t a) refl refl (i o j v x q at)

  told_state : (es : History) → IsLegal c last es → IsTold es (state es)
  told_state = legal_induction c last (λ es. IsTold es (state es)) (λ o i v x e at. absurd cc)
      (λ es e l i n.
      subst (IsTold (es ++ e ∷ [])) (sym (state_push es e)) (told_act es (state es) e.thread e.act i n.1))

  pub reads_last_word : ReadsLastWord c last
  reads_last_word before rest t o i v l =
      let p = (legal_append c last before (by t (Read o i v) ∷ rest)).0 l in
      let n = p.1.0.1 in
      told_state before p.0 o i v n.1 n.2 n.3
