-- What the acts of a release leave.
use Rattle.std.proofs.Common.{◌≡◌, ℕ, ◌+◌, Option, Some, List, [], ◌∷◌, ◌++◌}
use Rattle.std.proofs.Common.{map, length, sym, ap, ◌∙◌, arith, append_assoc}
use Rattle.std.proofs.lemmas.List.{length-append}
use Rattle.std.proofs.Math.Seq.{set-append_seam}
use Rattle.jr_word.specs.declared.kind.Kind.{Kind}
use Rattle.jr_model.specs.declared.frames.Mode.TheVariants.{Copy, Commit, Abort}
use Rattle.jr_model.specs.declared.event.Act.TheVariants.{Write}
use Rattle.jr_model.specs.State.{Contents, State}
use Rattle.jr_model.specs.Steps.{act_after, written}
use Rattle.jr_model.specs.History.{by, state_from}
use Rattle.jr_model.specs.Parts.{write_acts}
use Rattle.jr_model.specs.Laws.{ReleaseLeaves}
use Rattle.jr_model.proofs.Updates.{at_number_self}

abbrev contents_of : Kind → List ℕ → Option Contents
contents_of k ws = Some (record { kind = k; words = ws })

-- writes behind a front of an object's words put theirs in the place of as many
pub writes_leave : (s : State) (t o : ℕ) (k : Kind) (front back ws : List ℕ)
    → s.objects o ≡ contents_of k (front ++ back) → length ws ≡ length back
    → (state_from s (map (by t) (write_acts o (length front) ws))).objects o ≡ contents_of k (front ++ ws)
writes_leave s t o k front [] [] is l = is
writes_leave s t o k front (b ∷ back) [] is l = absurd (omega arith)
writes_leave s t o k front [] (w ∷ ws) is l = absurd (omega arith)
writes_leave s t o k front (b ∷ back) (w ∷ ws) is l =
    let s' : State = act_after s t (Write o (length front) w) in
    let next : s'.objects o ≡ contents_of k ((front ++ w ∷ []) ++ back) =
    at_number_self s.objects o (written (s.objects o) (length front) w)
    ∙ (ap (λ x. written x (length front) w) is
    ∙ ap (contents_of k) (set-append_seam front b back w ∙ sym (append_assoc front (w ∷ []) back))) in
    let place : length (front ++ w ∷ []) ≡ length front + 1 = length-append front (w ∷ []) in
    ap (λ i. (state_from s' (map (by t) (write_acts o i ws))).objects o) (sym place)
    ∙ (writes_leave s' t o k (front ++ w ∷ []) back ws next (omega arith)
    ∙ ap (contents_of k) (append_assoc front (w ∷ []) ws))

pub release_leaves : ReleaseLeaves
release_leaves s t o x buffer Copy is l = writes_leave s t o x.kind [] x.words buffer is l
release_leaves s t o x buffer Commit is l = writes_leave s t o x.kind [] x.words buffer is l
release_leaves s t o x buffer Abort is l = is
