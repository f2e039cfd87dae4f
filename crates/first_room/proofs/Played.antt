-- What the calls of each thread come to, over any steps.
use Rattle.std.proofs.Common.{◌≡◌, ◌≢◌, ◌<◌, ◌∙◌, ℕ, zero, suc, ℤ, true, Option, Some, None, Result, Ok, Err}
use Rattle.std.proofs.Common.{IfOk, length, inl, refl, sym, ap, subst, arith}
use Rattle.std.specs.Int.{w32}
use Rattle.std.specs.Prelude.{unwrap_or}
use Rattle.jr_word.specs.declared.fault.Fault.{Fault}
use Rattle.jr_word.specs.declared.fault.Fault.TheVariants.{Busy}
use Rattle.jr_word.specs.declared.handle.Handle.{Handle}
use Rattle.jr_word.specs.declared.kind.Kind.TheVariants.{Int}
use Rattle.jr_word.specs.Elem.{signed_word}
use Rattle.jr_model.specs.declared.event.Role.TheVariants.{Outside}
use Rattle.jr_model.specs.Frames.{Frames}
use Rattle.jr_model.specs.Programs.{at_object}
use Rattle.jr_model.specs.CallPrograms.{get_array_critical, region_get}
use Rattle.jr_steps.specs.Knowing.{AreOf, Facts}
use Rattle.jr_gate.specs.Performing.{thread_state}
use Rattle.jr_frames.specs.Table.{Table}
use Rattle.jr_critical.specs.declared.levels.Levels.{Levels}
use Rattle.jr_critical.specs.Levels.{GivesUpAll, Opens, Reaches, in_words, level_object, objects_of, opened_by}
use Rattle.jr_weak.specs.declared.collecting.Collected.{Collected}
use Rattle.jr_env.specs.Collections.{collection}
use Rattle.jr_env.specs.Deeds.{DoesDeed, DoesOutside}
use Rattle.jr_env.specs.Remedies.{collection_in_turn}
use Rattle.jr_env.proofs.Carrying.{did_more, own_call}
use Rattle.jr_threads.proofs.Coming.{does_replied}
use Rattle.jr_threads.proofs.Stories.{outside_did}
use Rattle.first_room.specs.declared.TheConstants.{TRIES}
use Rattle.first_room.specs.declared.message.Found.{Found}
use Rattle.first_room.specs.Calls.{collecting_in_turn, has_found, is_kept_out, reading_within, sharing}
use Rattle.first_room.specs.Calls.{story_of, visiting, word_made}

module _ {S : Type 0} {facts : S → Facts} where
  -- the second thread's reading in a region, from its entry to its exit
  region_read : AreOf facts → (a b c d : S) (f f1 f2 g : Frames) (word : ℕ) (v : Levels) (x : ℕ)
      → (facts a).stands.role ≡ Outside → Opens facts a b f word (opened_by (get_array_critical 0)) (Ok v)
      → f1 ≡ f → f2 ≡ f → g ≡ f
      → Reaches facts b c f1 v (λ c last t s. at_object c last t s (level_object v 0) (region_get Int 1)) (Ok x)
      → GivesUpAll facts c d f2 v → DoesDeed facts a d f g (reading_within word) (Ok x)
  region_read fits a b c d f f1 f2 g word v x out opened same same' same'' was_reached was_ended =
      let reached =
      subst (λ h. Reaches facts b c h v (λ c last t s. at_object c last t s (level_object v 0) (region_get Int 1))
      (Ok x)) same was_reached in
      let ended = subst (λ h. GivesUpAll facts c d h v) same' was_ended in
      let o = opened.2.stands_is in
      let r = reached.stands_is in
      let e = ended.stands_is in
      subst (λ h. DoesDeed facts a d f h (reading_within word) (Ok x)) (sym same'')
      (record {
        stands_is = record {
          room = e.room ∙ (r.room ∙ o.room);
          config = e.config ∙ (r.config ∙ o.config);
          last = e.last ∙ (r.last ∙ o.last);
          thread = e.thread ∙ (r.thread ∙ o.thread);
          role = e.role ∙ sym out;
        };
        did = λ k s n.
            let x1 = opened.2.ran k s n in
            let x2 = reached.ran x1.0 x1.1 (x1.3.0.0, x1.3.1) in
            let x3 = ended.ran x2.0 x2.1 x2.3.1 in (
              x3.0,
              x3.1,
              x3.3.1,
              inl (
                level_object v 0,
                thread_state (facts b) x1.0 f,
                (
                  opened.0,
                  opened.1,
                  own_call facts fits (λ c. 1) (λ c last t s. opened_by (get_array_critical 0) c last t s opened.0) k
                      x1.0 s x1.2,
                ),
                inl (
                  x,
                  thread_state (facts c) x2.0 f,
                  own_call facts fits (λ c. 0) (λ c last t s. at_object c last t s (level_object v 0)
                      (region_get Int 1)) x1.0 x2.0 x1.1 x2.2,
                  inl (tt, thread_state (facts d) x3.0 f, x3.2, (refl, refl)),
                ),
              ),
            );
      })

  -- so that it did, whatever it was answered
  pub reads_within : AreOf facts → (a b c d : S) (f f1 f2 g : Table) (word : ℕ) (v w : Levels) (r : Result ℤ Fault)
      → (facts a).stands.role ≡ Outside → Opens facts a b f.frames word (opened_by (get_array_critical 0)) (Ok v)
      → length (objects_of v) ≡ 1 → f1 ≡ f → f2 ≡ f1 → g ≡ f2 → w ≡ v
      → (0 < length (objects_of v) → Reaches facts b c f1.frames v (λ c last t s.
      at_object c last t s (level_object v 0) (region_get Int 1)) (in_words (signed_word w32) r))
      → GivesUpAll facts c d f2.frames w → (facts d).stands.role ≡ Outside
      → IfOk r (λ x. DoesOutside facts a d f.frames g.frames (reading_within word) (Ok (signed_word w32 x)))
  reads_within fits a b c d f f1 f2 g word v w (Ok x) out opened one same1 same2 same left reached ended done =
      outside_did out (region_read fits a b c d f.frames f1.frames f2.frames g.frames word v (signed_word w32 x) out
      opened (ap (λ (t : Table). t.frames) same1) (ap (λ (t : Table). t.frames) (same2 ∙ same1))
      (ap (λ (t : Table). t.frames) (same ∙ (same2 ∙ same1))) (reached (omega arith))
      (subst (λ u. GivesUpAll facts c d f2.frames u) left ended))
  reads_within fits a b c d f f1 f2 g word v w (Err e) out opened one same1 same2 same left reached ended done = tt

  module _ {a b : S} {f g : Frames} (out : (facts a).stands.role ≡ Outside) where
    -- a refused collection
    pub kept_out : (e : Fault) (i : ℕ) → e ≡ Busy i → DoesOutside facts a b f g collection (Err e)
        → DoesOutside facts a b f g is_kept_out (Ok i)
    kept_out e i is d =
        let kept = subst (λ z. DoesOutside facts a b f g collection (Err z)) is d in
        outside_did out (did_more (λ p q x. (i, refl, x)) (kept.does out))

    -- and one that got its turn
    pub in_turn : (more : ℕ) (c : Collected) → DoesOutside facts a b f g (collection_in_turn TRIES more) (Ok c)
        → DoesOutside facts a b f g collecting_in_turn (Ok c)
    in_turn more c d = outside_did out (did_more (λ p q x. (more, x)) (d.does out))

  module _ {a b : S} {f g : Frames} where
    -- a thread's story, where no call was refused
    pub first_told : (t : ℕ) (r : Result Found Fault) → t ≡ 0
        → IfOk r (λ x. DoesOutside facts a b f g sharing (Ok x)) → has_found r ≡ true
        → DoesOutside facts a b f g (story_of t) (Ok r)
    first_told zero (Ok x) is d told = does_replied d
    first_told zero (Err e) is d told = absurd cc
    first_told (suc t) r is d told = absurd (omega arith)

    pub other_told : (t : ℕ) (r : Result Found Fault) → t ≢ 0
        → IfOk r (λ x. DoesOutside facts a b f g visiting (Ok x)) → has_found r ≡ true
        → DoesOutside facts a b f g (story_of t) (Ok r)
    other_told zero r ne d told = absurd (ne refl)
    other_told (suc t) (Ok x) ne d told = does_replied d
    other_told (suc t) (Err e) ne d told = absurd cc

-- the word that stands for a reference, or NULL
pub word_or_null : (o : Option Handle) (h : Handle) → h ≡ unwrap_or o (record { 0 = 0 }) → h.0 ≡ word_made o
word_or_null None h e = ap (λ (z : Handle). z.0) e
word_or_null (Some w) h e = ap (λ (z : Handle). z.0) e
