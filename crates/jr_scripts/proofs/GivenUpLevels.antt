-- An element of a level is read, and the last level is given up.
use Rattle.std.proofs.Common.{◌≡◌, ◌≤◌, ◌+◌, ℕ, zero, suc, ℤ, List, [], ◌∷◌, length}
use Rattle.std.proofs.Common.{Some, None, Ok, Err, sym, ap, subst, ◌∙◌, arith}
use Rattle.std.proofs.lemmas.List.{length-append, length-map}
use Rattle.jr_word.specs.declared.fault.Fault.{Fault}
use Rattle.jr_word.specs.declared.kind.Kind.{Kind}
use Rattle.jr_model.specs.declared.event.Role.TheVariants.{Outside, Within}
use Rattle.jr_model.specs.Frames.{Frames}
use Rattle.jr_model.specs.Programs.{at_object}
use Rattle.jr_model.specs.CallPrograms.{region_get}
use Rattle.jr_steps.specs.Holdings.{empty}
use Rattle.jr_steps.specs.Knowing.{AreOf, Facts, Holds}
use Rattle.jr_gate.specs.Performing.{ThreadState}
use Rattle.jr_frames.specs.Table.{Table}
use Rattle.jr_critical.specs.declared.level.Level.{Level}
use Rattle.jr_critical.specs.declared.levels.Levels.{Levels}
use Rattle.jr_critical.specs.Levels.{GivesUpAll, GivesUpLast, KnowsLevels, LeavesBefore, Reaches, Stand, objects_of}
use Rattle.jr_env.specs.Deeds.{CarriedOut, done}
use Rattle.jr_env.proofs.Carrying.{did_refused, did_reply}
use Rattle.jr_scripts.specs.declared.reply.Reply.TheVariants as replies
use Rattle.jr_scripts.specs.Numbers.{number_of_word}
use Rattle.jr_scripts.specs.RegionCommands.{HoldsAfter, giving_up, giving_up_all, reading_as}
use Rattle.jr_scripts.proofs.Within.{did_reach}

held_after : (n : ℕ) (m : ThreadState) → m.held ≡ empty → HoldsAfter n m
held_after zero m e = tt
held_after (suc zero) m e = e
held_after (suc (suc n)) m e = tt

held_more : (n : ℕ) (m : ThreadState) → 2 ≤ n → HoldsAfter n m
held_more zero m few = absurd (omega arith)
held_more (suc zero) m few = absurd (omega arith)
held_more (suc (suc n)) m few = tt

two_levels : (v w : Levels) → LeavesBefore v (Some w) → 1 ≤ length (objects_of w) → 2 ≤ length (objects_of v)
two_levels v w before some =
    let longer : length v.levels.items ≡ length w.levels.items + 1 =
    ap length before.1 ∙ length-append w.levels.items (before.0 ∷ []) in
    let left : 1 ≤ length w.levels.items =
    subst (λ n. 1 ≤ n) (length-map w.levels.items (λ (l : Level). l.object)) some in
    subst (λ n. 2 ≤ n) (sym (length-map v.levels.items (λ (l : Level). l.object))) (omega arith)

module _ {S : Type 0} (facts : S → Facts) (a b : S) (f g : Frames) (v : Levels) (same : g ≡ f) where
  pub did_end_last : GivesUpLast facts a b f v None
      → CarriedOut facts a b f g Outside (KnowsLevels v f) (Holds g) (giving_up (length (objects_of v))) (Ok tt)
  did_end_last u = subst (λ h. CarriedOut facts a b f h Outside (KnowsLevels v f) (Holds h)
      (giving_up (length (objects_of v))) (Ok tt)) (sym same) (record {
        stands_is = u.stands_is;
        did = λ k s m. let x = u.ran k s m in (x.0, x.1, x.3.1, (x.2, held_after (length (objects_of v)) _ x.3.0));
      })

  pub did_end_all : 1 ≤ length (objects_of v) → GivesUpAll facts a b f v
      → CarriedOut facts a b f g Outside (KnowsLevels v f) (Holds g) (giving_up_all (objects_of v)) (Ok tt)
  did_end_all some u = subst (λ h. CarriedOut facts a b f h Outside (KnowsLevels v f) (Holds h)
      (giving_up_all (objects_of v)) (Ok tt)) (sym same) (go (objects_of v) some)
    where
      go : (os : List ℕ) → 1 ≤ length os
          → CarriedOut facts a b f f Outside (KnowsLevels v f) (Holds f) (giving_up_all os) (Ok tt)
      go [] few = absurd (omega arith)
      go (o ∷ os) few = record {
        stands_is = u.stands_is;
        did = λ k s m. let x = u.ran k s m in (x.0, x.1, x.3.1, (x.2, x.3.0));
      }

  pub did_give_back : (w : Levels) → LeavesBefore v (Some w) → 1 ≤ length (objects_of w)
      → GivesUpLast facts a b f v (Some w)
      → CarriedOut facts a b f g Within (KnowsLevels v f) (KnowsLevels w g) (giving_up (length (objects_of v))) (Ok tt)
  did_give_back w before some u = subst (λ h. CarriedOut facts a b f h Within (KnowsLevels v f) (KnowsLevels w h)
      (giving_up (length (objects_of v))) (Ok tt)) (sym same) (record {
        stands_is = u.stands_is;
        did = λ k s m. let x = u.ran k s m in
            (x.0, x.1, (x.3.0.0, x.3.1), (x.2, held_more (length (objects_of v)) _ (two_levels v w before some)));
      })

  module _ (fits : AreOf facts) (t : Table) (stand : Stand facts v a t) (k : Kind) (o i : ℕ) where
    pub did_load : (word : ℕ) (n : ℤ) → n ≡ number_of_word k word
        → Reaches facts a b f v (λ c last u s. at_object c last u s o (region_get k i)) (Ok word)
        → CarriedOut facts a b f g Within (KnowsLevels v f) (KnowsLevels v g) (reading_as o i k) (Ok (replies.Value n))
    did_load word n is r =
        subst (λ (m : ℤ). CarriedOut facts a b f g Within (KnowsLevels v f) (KnowsLevels v g) (reading_as o i k)
        (Ok (replies.Value m))) (sym is)
        (did_reply (λ x. replies.Value (number_of_word k x)) word
        (did_reach facts fits (λ c last u s. at_object c last u s o (region_get k i)) stand same r))

    pub did_load_not : (e : Fault) → Reaches facts a b f v (λ c last u s. at_object c last u s o (region_get k i))
        (Err e)
        → CarriedOut facts a b f g Within (KnowsLevels v f) (KnowsLevels v g) (reading_as o i k) (Err e)
    did_load_not e r = did_refused (λ x. done (replies.Value (number_of_word k x))) e
        (did_reach facts fits (λ c last u s. at_object c last u s o (region_get k i)) stand same r)
