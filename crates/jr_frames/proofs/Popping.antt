-- A whole pop, one reference after the other.
use Rattle.std.proofs.Common.{◌≡◌, Some, List, [], ◌∷◌, ◌++◌, suc, length, refl, sym, ap, ◌∙◌}
use Rattle.std.proofs.lemmas.List.{append_assoc, append-nil, length-map}
use Rattle.jr_model.specs.declared.event.Act.TheVariants.{LocalDrop}
use Rattle.jr_model.specs.declared.frames.LocalRef.{LocalRef}
use Rattle.jr_model.specs.State.{Handle}
use Rattle.jr_model.specs.Frames.{drop_all, last_frame}
use Rattle.jr_frames.specs.Table.{oldest_handle, without_oldest}
use Rattle.jr_frames.proofs.Changing.{frames_same}
use Rattle.jr_frames.specs.Popping.{PopBegins, PopGoesOn, PopEnds}

-- the acts of a list whose oldest has this handle
pub drop_oldest : (h : Handle) (rs : List LocalRef) → oldest_handle rs ≡ Some h
    → drop_all rs ≡ LocalDrop h.index ∷ drop_all (without_oldest rs)
drop_oldest h [] e = absurd cc
drop_oldest h (r ∷ rs) e = let same : r.handle ≡ h = cc in ap (λ (k : Handle). LocalDrop k.index ∷ drop_all rs) same

one_fewer : (h : Handle) (rs : List LocalRef) → oldest_handle rs ≡ Some h → length rs ≡ suc (length (without_oldest rs))
one_fewer h [] e = absurd cc
one_fewer h (r ∷ rs) e = refl

pub pop_begins : PopBegins
pop_begins f = record { taken = refl; before = refl; depth = refl; given = refl }

pub pop_goes_on : PopGoesOn
pop_goes_on f now acts h pop oldest takes = (
  record {
    taken =
        pop.taken
        ∙ (ap (λ l. acts ++ l) (drop_oldest h (last_frame now.frames) oldest
        ∙ ap (λ rs. LocalDrop h.index ∷ drop_all rs) (sym takes.rest))
        ∙ sym (append_assoc acts (LocalDrop h.index ∷ []) _));
    before = takes.before ∙ pop.before;
    depth = length-map now.frames _ ∙ pop.depth;
    given = pop.given;
  },
  one_fewer h (last_frame now.frames) oldest ∙ ap (λ rs. suc (length rs)) (sym takes.rest),
)

pub pop_ends : PopEnds
pop_ends f now acts pop empty = (
  sym (pop.taken ∙ (ap (λ rs. acts ++ drop_all rs) empty ∙ append-nil acts)),
  refl,
  frames_same _ _ _ _ pop.before pop.given,
)
