-- Legal steps at local words and headers, over any words and any history.
use Rattle.std.proofs.Common.{◌≡◌, ◌⊎◌, ⊎_elim, ◌+◌, ◌<◌, ◌≤◌, ℕ, Option, Some, None, List, []}
use Rattle.std.proofs.Common.{◌∷◌, length, get_or, slice_set, nat_eq, refl, sym, subst, ◌^◌}
use Rattle.jr_word.specs.Local.{IsLocalPlace, local_word}
use Rattle.jr_word.specs.declared.config.Config.{Config}
use Rattle.jr_word.specs.declared.header.HeaderParts.{HeaderParts}
use Rattle.jr_word.specs.Header.{header_word, IsHeader}
use Rattle.jr_model.specs.declared.event.Role.{Role}
use Rattle.jr_model.specs.declared.event.Role.TheVariants.{Outside, Within, Knocking, Announcing, Collecting}
use Rattle.jr_model.specs.declared.event.Act.TheVariants.{LocalPut, LocalDrop, New}
use Rattle.jr_model.specs.Maps.{update}
use Rattle.jr_model.specs.State.{State, IsPresent, AreWords, present_words}
use Rattle.jr_model.specs.History.{History, state, IsLegal}
use Rattle.jr_steps.specs.Acts.{act_of_put}
use Rattle.jr_steps.specs.declared.known.Holdings.{Holdings}
use Rattle.jr_steps.specs.declared.known.Move.{Move}
use Rattle.jr_steps.specs.Holdings.{with_header, hold}
use Rattle.jr_steps.specs.Says.{local_parts}
use Rattle.jr_rule.specs.Image.{local_at, header_at, MayHold, AreHeld, IsIn, IsKnown, IsImage, IsSpace}
use Rattle.jr_rule.proofs.Headers.{header_none}
use Rattle.jr_rule.proofs.HeapSpaces.{space_known}
use Rattle.jr_rule.proofs.LegalSteps.{LegalStep, one_legal, none_legal}
use Rattle.jr_rule.proofs.Images.{held_by_role_held, local_set, header_set, with_space}

-- the parts of an object's local word are those that a place can have
pub place_fits : (o : Option ℕ) → ((x : ℕ) → o ≡ Some x → (0 < x) × (x < 2 ^ 16)) → IsLocalPlace (local_parts o)
place_fits None h = tt
place_fits (Some o) h = h o refl

-- who may know headers may know one more
may_know : (moving : Option Move) (r : Role) (g : Holdings) (o : ℕ) (h : HeaderParts) → (r ≡ Within) ⊎ (r ≡ Collecting)
    → MayHold moving r g → MayHold moving r (with_header g o h)
may_know moving Within g o h inside may = may
may_know moving Collecting g o h inside may = may
may_know moving Outside g o h inside may = ⊎_elim (λ e. absurd cc) (λ e. absurd cc) inside
may_know moving Knocking g o h inside may = ⊎_elim (λ e. absurd cc) (λ e. absurd cc) inside
may_know moving Announcing g o h inside may = ⊎_elim (λ e. absurd cc) (λ e. absurd cc) inside

-- a load of a header that stands, by a thread within or one that collects: it is known from now on
pub knows_header : (c : Config) (last : ℕ) (log : History) (t : ℕ) (words : List ℕ) → IsLegal c last log
    → (held : ℕ → Holdings) → IsImage c last words (state log) held
    → ((state log).role t ≡ Within) ⊎ ((state log).role t ≡ Collecting) → (g : Holdings) → held t ≡ g
    → (o : ℕ) (h : HeaderParts) → IsKnown c words o h
    → LegalStep c last log t [] words (hold held t (with_header g o h))
knows_header c last log t words legal held image inside g is o h known =
    let s : State = state log in
    subst (λ (z : Holdings). LegalStep c last log t [] words (hold held t (with_header z o h))) is
    (none_legal c last log t words (hold held t (with_header (held t) o h)) legal
    (with_space c last words s held image image.moving (hold held t (with_header (held t) o h))
    (held_by_role_held s.role image.moving held t (with_header (held t) o h)
    (may_know image.moving (s.role t) (held t) o h inside (image.held_by_role.each t)) image.held_by_role)
    (space_known c words s.objects (IsIn s.used) image.moving held image.space t o h known)))

module _ (c : Config) (last : ℕ) (log : History) (t : ℕ) (words : List ℕ) (legal : IsLegal c last log)
    (held : ℕ → Holdings) (image : IsImage c last words (state log) held) (row : t < c.threads)
    (within : (state log).role t ≡ Within) where
  -- a store in one's own local word
  pub puts : (p : ℕ) (o : Option ℕ) → p < c.locals → ((x : ℕ) → o ≡ Some x → IsPresent (state log) x) → LegalStep c last
      log t (act_of_put p o ∷ []) (slice_set words (local_at c t p) (local_word (local_parts o))) held
  puts p None l present =
      one_legal c last log t (slice_set words (local_at c t p) 0) held legal (LocalDrop p) (row, (within, l))
      (local_set c last words (state log) held image 0 t p None row l refl)
  puts p (Some o) l present = one_legal c last log t (slice_set words (local_at c t p) o) held legal (LocalPut p o)
      (row, (within, l, present o refl))
      (local_set c last words (state log) held image o t p (Some o) row l refl)

  -- a header for an object that is not present, with elements that stand already
  pub publishes : (o : ℕ) (parts : HeaderParts) (ws : List ℕ) (moving : Option Move) (held' : ℕ → Holdings)
      → AreHeld (state log).role moving held' → 1 ≤ o → o ≤ c.objects → IsHeader parts → parts.length ≡ length ws
      → AreWords (state log) parts.kind ws → present_words c (state log) + length ws ≤ (state log).used
      → get_or words (header_at c o) 0 ≡ 0
      → IsSpace c (slice_set words (header_at c o) (header_word parts)) (update nat_eq (state log).objects o
      (Some (record { kind = parts.kind; words = ws }))) (IsIn (state log).used) moving held'
      → LegalStep c last log t (New o parts.kind ws ∷ []) (slice_set words (header_at c o) (header_word parts)) held'
  publishes o parts ws moving held' held_by_role low high fits long good room found space =
      let s : State = state log in
      let none = header_none (s.objects o) (get_or words (header_at c o) 0) (image.header o low high) found in
      one_legal c last log t (slice_set words (header_at c o) (header_word parts)) held' legal (New o parts.kind ws)
      (row, (within, low, high, none, good, room))
      (header_set c last words s held image (header_word parts) o (Some (record { kind = parts.kind; words = ws }))
      moving held' held_by_role low high
      (record { parts = parts; fits = fits; word = refl; says = record { kind = refl; long = sym long } }) space)
