-- How a step finds the row: what its pass had seen, later.
use Rattle.std.proofs.Common.{◌≡◌, ◌≢◌, ℕ, Option, List, [], ◌∷◌, ◌++◌, refl, sym}
use Rattle.std.proofs.Common.{ap, subst, ◌∙◌, inl, inr, ⊎_elim, append_assoc}
use Rattle.std.proofs.lemmas.List.{append-nil}
use Rattle.std.proofs.Math.Logic.{∥∥₁_elim}
use Rattle.std.proofs.Props.{props}
use Rattle.std.specs.List.{AllByRecursion}
use mathlib.Core.Logic.{dite}
use native.Mathlib.Decide.{ℕ_discrete}
use Rattle.jr_model.specs.declared.event.Role.TheVariants.{Outside, Within, Collecting}
use Rattle.jr_model.specs.declared.event.Found.{Found}
use Rattle.jr_model.specs.declared.event.Act.TheVariants.{Gate, Look}
use Rattle.jr_model.specs.declared.event.GateAct.TheVariants.{Leave}
use Rattle.jr_model.specs.State.{Handle, Contents, State, IsPresent, IsClosed, HaveSameTables}
use Rattle.jr_model.specs.History.{History, by, state, IsLegal, mine, role_of, role_from, Did}
use Rattle.jr_model.proofs.Histories.{legal_append, state_append, mine_append}
use Rattle.jr_model.proofs.Gates.{apart_state}
use Rattle.jr_model.proofs.Stays.{append_cancel, role_of_state, same_along}
use Rattle.jr_steps.specs.declared.known.Known.{Known}
use Rattle.jr_steps.specs.Knowing.{view, HasObject, HasLooked, IsClosedNow}
use Rattle.jr_steps.specs.declared.known.Holdings.{Holdings}
use Rattle.jr_rule.specs.Image.{MayHold}
use Rattle.jr_rule.specs.Rule.{known, IsFound}
use Rattle.jr_steps.proofs.StepFacts.{none_mine, present_stays}

-- a closed heap is one without a choice: an element is 0, or else an object's number
closed_is : (s : State) → ∥ IsClosed s ∥₁ → IsClosed s
closed_is s closed o x at kind i v there = dite (ℕ_discrete v 0)
    (λ none. inl none)
    (λ some.
    inr (∥∥₁_elim closed (hlevel props) (λ c. ⊎_elim (λ none. absurd (some none)) (λ p. p) (c o x at kind i v there))))

module _ (k : Known) (log : History) (words : List ℕ) (held : ℕ → Holdings) (f : IsFound k log words held) where
  abbrev t : ℕ
  t = k.thread

  -- what the pass would know of the longest history
  abbrev pub now : Known
  now = known k.config k.last k.thread log k.holdings k.taken

  abbrev between : History
  between = f.fits.begins.0

  quiet : mine between t ≡ []
  quiet = append_cancel (mine k.seen t) (mine between t) [] (sym (mine_append k.seen between t)
      ∙ (ap (λ l. mine l t) f.fits.begins.1 ∙ (f.fits.own ∙ sym (append-nil (mine k.seen t)))))

  pub role_at : (state log).role t ≡ role_of (view k)
  role_at = role_of_state log t ∙ (ap (role_from Outside) f.fits.own ∙ sym (role_of_state k.seen t))

  pub did_wait : Did (view k) (view now) []
  did_wait = record {
    config = refl;
    last = refl;
    thread = refl;
    legal = f.legal;
    begins = f.fits.begins;
    own = f.fits.own ∙ sym (append-nil (mine k.seen t));
  }

  -- while a thread is inside, what was present is
  pub present_now : (o : ℕ) → role_of (view k) ≡ Within → HasObject o k → IsPresent (state log) o
  present_now o within h = present_stays k now [] o did_wait within tt h

  -- the move that is unfinished while a thread collects is its own
  pub moves_as_known : role_of (view k) ≡ Collecting → f.image.moving ≡ k.holdings.moving
  moves_as_known collects =
      let mine' = subst (λ r. MayHold f.image.moving r (held t)) (role_at ∙ collects) (f.image.held_by_role.each t) in
      sym mine'.0 ∙ ap (λ (g : Holdings). g.moving) f.fits.holdings

  -- a look in this stay is one
  pub looked_later : (h : Handle) (r : Found) → HasLooked h r k → HasLooked h r now
  looked_later h r q = record {
    before = q.before;
    since = q.since ++ between;
    is =
        sym f.fits.begins.1 ∙ (ap (λ l. l ++ between) q.is ∙ append_assoc q.before (by t (Look h r) ∷ q.since) between);
    stays = subst (AllByRecursion (λ a. a ≢ Gate Leave)) (sym
        (mine_append q.since between t ∙ (ap (λ l. mine q.since t ++ l) quiet ∙ append-nil (mine q.since t)))) q.stays;
  }

  -- while a thread collects, nobody else changes references, locals, objects or used words
  pub tables_now : role_of (view k) ≡ Collecting → HaveSameTables (state k.seen) (state log)
  tables_now collecting =
      let both =
      (legal_append k.config k.last k.seen between).0 (subst (IsLegal k.config k.last) (sym f.fits.begins.1) f.legal) in
      let same = same_along k.config k.last t (state k.seen) between (apart_state k.config k.last k.seen both.0)
      collecting (none_mine between t quiet) both.1 in
      subst (HaveSameTables (state k.seen)) (sym (ap state (sym f.fits.begins.1) ∙ state_append k.seen between)) same

  -- while a thread collects, no array names an absent object that did not before
  pub closed_now : role_of (view k) ≡ Collecting → ∥ IsClosedNow k ∥₁ → IsClosed (state log)
  closed_now collecting closed =
      let both =
      (legal_append k.config k.last k.seen between).0 (subst (IsLegal k.config k.last) (sym f.fits.begins.1) f.legal) in
      let same = same_along k.config k.last t (state k.seen) between (apart_state k.config k.last k.seen both.0)
      collecting (none_mine between t quiet) both.1 in
      let end : (state log).objects ≡ (state k.seen).objects = ap (λ es. (state es).objects) (sym f.fits.begins.1)
      ∙ (ap (λ (s : State). s.objects) (state_append k.seen between) ∙ same.objects) in
      subst (λ (x : ℕ → Option Contents). IsClosed (record (state log) { objects = x })) (sym end)
      (closed_is (state k.seen) closed)
