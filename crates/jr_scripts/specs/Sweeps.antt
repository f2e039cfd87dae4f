-- WHAT A COLLECTION LEAVES of a world: what no global or local reference reaches is gone
use Rattle.std.specs.Prelude.{◌-◌, ◌==◌, ℕ, zero, suc, Bool, false, cond, not}
use Rattle.std.specs.Prelude.{Option, Some, None, is_some, List, [], ◌∷◌, ◌++◌, map, length}
use Rattle.std.specs.List.{flat_map, list_any, sum_by}
use Rattle.jr_word.specs.declared.handle.RefKind.TheVariants.{Weak}
use Rattle.jr_model.specs.State.{Contents, same_kind, length_of}
use Rattle.jr_model.specs.Checks.{is_objects}
use Rattle.jr_world.specs.World.{Ref, World, how_many, named_by, standing, standing_at}
use Rattle.jr_weak.specs.declared.collecting.Collected.{Collected}

abbrev pub listed : Option ℕ → List ℕ
listed None = []
listed (Some o) = o ∷ []

-- what a global or local reference names
abbrev pub rooted : Option Ref → List ℕ
rooted None = []
rooted (Some r) = cond (same_kind Weak r.kind) [] (listed r.object)

-- what the elements of an array of objects name
abbrev pub elements_of : Option Contents → List ℕ
elements_of None = []
elements_of (Some x) = cond (is_objects x.kind) (flat_map (λ word. listed (named_by word)) x.words) []

-- what is reached from these by so many elements at the most
abbrev pub reached_by : World → ℕ → List ℕ → List ℕ
reached_by w zero os = os
reached_by w (suc k) os = os ++ reached_by w k (flat_map (λ o. elements_of (standing_at w.objects o)) os)

abbrev pub is_found_reached : World → ℕ → Bool
is_found_reached w o = list_any (λ p. p == o) (reached_by w (length w.objects) (flat_map rooted w.refs))

-- an object that is not reached is gone, and a weak reference to it is cleared
abbrev pub kept_object : (ℕ → Bool) → Option ℕ → Option ℕ
kept_object reached None = None
kept_object reached (Some o) = cond (reached o) (Some o) None

abbrev pub kept_ref : (ℕ → Bool) → Option Ref → Option Ref
kept_ref reached None = None
kept_ref reached (Some r) = Some (record r { object = kept_object reached r.object })

abbrev pub kept_objects : (ℕ → Bool) → ℕ → List (Option Contents) → List (Option Contents)
kept_objects reached n [] = []
kept_objects reached n (x ∷ xs) = cond (reached n) x None ∷ kept_objects reached (suc n) xs

abbrev pub was_cleared : Option Ref → Bool
was_cleared None = false
was_cleared (Some r) = not (is_some r.object)

-- the world after a collection, where this is reached: all arrays are moved together
abbrev pub swept : (ℕ → Bool) → World → World
swept reached w = record w {
  objects = kept_objects reached 0 w.objects;
  refs = map (kept_ref reached) w.refs;
  used = sum_by length_of (kept_objects reached 0 w.objects);
}

-- A COLLECTION: how many weak references it clears and objects it drops, and how many words are used then
abbrev pub told_of : World → World → Collected
told_of old new = record {
  cleared = how_many was_cleared new.refs - how_many was_cleared old.refs;
  dropped = standing old.objects - standing new.objects;
  used = new.used;
}
