-- What stands behind an act that leaves references and roles.
use Rattle.std.proofs.Common.{◌≡◌, ℕ, Bool, true, Option, List, [], ◌∷◌, ◌++◌, map, slice_index_or, slice_set, refl}
use Rattle.std.proofs.Common.{sym, ap, subst, ◌∙◌, arith}
use Rattle.std.proofs.lemmas.List.{set-get_or, length-set}
use Rattle.jr_word.specs.declared.config.Config.{Config}
use Rattle.jr_model.specs.declared.event.Role.{Role}
use Rattle.jr_model.specs.declared.event.Act.{Act}
use Rattle.jr_model.specs.State.{Contents, State}
use Rattle.jr_model.specs.Steps.{act_after}
use Rattle.jr_model.specs.Frames.{Agree, Frames, stored_at}
use Rattle.jr_model.specs.History.{History, by, mine, state}
use Rattle.jr_model.proofs.Agreement.{spares_places, stored_append, stored_spared}
use Rattle.jr_model.proofs.Histories.{mine_push, state_push}
use Rattle.jr_world.specs.Births.{Births, births, born_by, no_births}
use Rattle.jr_world.specs.Doing.{Shared, as_left, as_seen}
use Rattle.jr_world.specs.Plays.{AreFrames, LeavesOthers, InStands, owner_of_handle}
use Rattle.jr_world.proofs.Births.BornLists.{births_append}
use Rattle.jr_world.proofs.Standing.{both_long, no_more_owners}
use Rattle.jr_world.proofs.WordsPosted.{posted_later}

-- AN ACT THAT LEAVES REFERENCES AND ROLES
module _ (c : Config) (t : ℕ) (now : History) (f : Frames) (a : Act) where
  -- what is born by it, and the state behind it
  pub born_next : births (now ++ by t a ∷ []) ≡ born_by (births now) t a
  born_next = births_append no_births now (by t a ∷ [])

  pub state_next : state (now ++ by t a ∷ []) ≡ act_after (state now) t a
  state_next = state_push now (by t a)

  -- the frames agree with what has happened then
  pub agree_next : spares_places a ≡ true → (act_after (state now) t a).locals ≡ (state now).locals → Agree t f now
      → Agree t f (now ++ by t a ∷ [])
  agree_next spared same agree = record {
    locals = λ p. ap (λ (s : State). s.locals t p) state_next ∙ ap (λ (l : ℕ → ℕ → Option ℕ). l t p) same
        ∙ agree.locals p;
    given = λ p.
        let was = agree.given p in
        let all = ap (stored_at p) (mine_push now t a) ∙ stored_append p (mine now t) (a ∷ []) in
        let none = stored_spared p (a ∷ []) (spared, tt) in
        omega arith;
  }

  -- such objects and so many used words stand behind it, where they are so
  pub next_stands : (luck : Bool) (s : Shared) (objects : List (Option Contents)) (used : ℕ) → InStands c t now f s
      → spares_places a ≡ true → (act_after (state now) t a).locals ≡ (state now).locals
      → (act_after (state now) t a).role ≡ (state now).role → (born_by (births now) t a).refs ≡ (births now).refs
      → objects ≡ map (λ e. e.1) (born_by (births now) t a).objects → used ≡ (born_by (births now) t a).used
      → InStands c t (now ++ by t a ∷ []) f
      (as_left t s (record (as_seen t s) { objects = objects; used = used }))
  next_stands luck s objects used st spared locals role refs so_objects so_used =
      let same : (births (now ++ by t a ∷ [])).refs ≡ (births now).refs =
      ap (λ (b : Births). b.refs) born_next ∙ refs in
      record {
        objects = so_objects ∙ ap (λ (b : Births). map (λ e. e.1) b.objects) (sym born_next);
        refs = st.refs ∙ ap (map (λ e. e.1)) (sym same);
        owners = no_more_owners c t now f s s.refs (both_long c t now f s st) ∙ st.owners
            ∙ ap (map (λ e. owner_of_handle e.0)) (sym same);
        used = so_used ∙ ap (λ (b : Births). b.used) (sym born_next);
        many = st.many;
        roles = λ u. st.roles u ∙ ap (λ (r : ℕ → Role). r u) (sym role)
            ∙ ap (λ (z : State). z.role u) (sym state_next);
        lists = length-set s.frames t (slice_index_or s.frames t []) ∙ st.lists;
        frames = subst (λ r. AreFrames t r (slice_index_or (slice_set s.frames t (slice_index_or s.frames t [])) t [])
            f.frames) (sym same)
            (subst (λ l. AreFrames t (births now).refs (slice_index_or l t []) f.frames)
            (sym (set-get_or s.frames t [])) st.frames);
        posted = posted_later now (by t a ∷ []) s.board st.posted;
        places = st.places;
        agreed = agree_next spared locals st.agreed;
        sound = st.sound;
      }

  -- nothing changes but the moment
  pub same_stands : (s : Shared) → InStands c t now f s → spares_places a ≡ true
      → act_after (state now) t a ≡ state now → born_by (births now) t a ≡ births now
      → InStands c t (now ++ by t a ∷ []) f s
  same_stands s st spared state_same births_same =
      let same = born_next ∙ births_same in
      record {
        objects = st.objects ∙ ap (λ (b : Births). map (λ e. e.1) b.objects) (sym same);
        refs = st.refs ∙ ap (λ (b : Births). map (λ e. e.1) b.refs) (sym same);
        owners = st.owners ∙ ap (λ (b : Births). map (λ e. owner_of_handle e.0) b.refs) (sym same);
        used = st.used ∙ ap (λ (b : Births). b.used) (sym same);
        many = st.many;
        roles = λ u. st.roles u ∙ ap (λ (z : State). z.role u) (sym (state_next ∙ state_same));
        lists = st.lists;
        frames = subst (λ (b : Births). AreFrames t b.refs (slice_index_or s.frames t []) f.frames) (sym same)
            st.frames;
        posted = posted_later now (by t a ∷ []) s.board st.posted;
        places = st.places;
        agreed = agree_next spared (ap (λ (z : State). z.locals) state_same) st.agreed;
        sound = st.sound;
      }

pub next_keeps : (t : ℕ) (luck : Bool) (s : Shared) (objects : List (Option Contents)) (used : ℕ)
    → LeavesOthers t s (as_left t s (record (as_seen t s) { objects = objects; used = used }))
next_keeps t luck s objects used =
    record { frames = λ u ne. ap (λ l. slice_index_or l u []) (set-get_or s.frames t []); board = refl }
