-- A frame is added to the table, or taken away.
use Rattle.std.proofs.Common.{◌≡◌, ◌<◌, ◌≤◌, ℕ, List, [], ◌∷◌, ◌++◌, map, length, refl, sym, ap, ◌∙◌, arith}
use Rattle.std.proofs.lemmas.List.{length-append, map-append}
use Rattle.linked_lists.specs.Lists.{last_list, lists_before, times, with_lists}
use Rattle.linked_lists.proofs.LastList.{length_before, times_parts}
use Rattle.linked_lists.proofs.Stacking.{concat_push}
use Rattle.jr_model.specs.declared.frames.LocalRef.{LocalRef}
use Rattle.jr_model.specs.declared.frames.TheConstants.{FRAMES}
use Rattle.jr_model.specs.Frames.{pushed, popped, last_frame}
use Rattle.jr_frames.specs.declared.frames.Frames.TheInside.{Inside as Fields}
use Rattle.jr_frames.specs.Table.{Table, with_frames}
use Rattle.jr_frames.specs.Places.{ref_at}
use Rattle.jr_frames.specs.Arrangements.{table, IsTable}
use Rattle.jr_frames.proofs.Showing.{map_before, map_last}
use Rattle.jr_frames.proofs.Changing.{changed}

map_empty : (show : ℕ → LocalRef) (xs : List ℕ) → map show xs ≡ [] → xs ≡ []
map_empty show [] e = refl
map_empty show (x ∷ xs) e = absurd cc

-- the newest frame is empty where its list is
pub empty_last : (a : Fields) → last_frame (table a).frames.frames ≡ [] → last_list a.order.lists ≡ []
empty_last a e = map_empty (ref_at a.thread a.places.items) (last_list a.order.lists)
    (sym (map_last (ref_at a.thread a.places.items) a.order.lists) ∙ e)

module _ (a : Fields) (is : IsTable a) where
  abbrev with_lists_of : List (List LocalRef) → Table
  with_lists_of fs = record {
    frames = record { frames = fs; given = (table a).frames.given };
    thread = a.thread;
    last = a.last;
  }

  pub pushed_shows : length a.order.lists < FRAMES
      → IsTable (changed a a.free a.places (with_lists a.order (a.order.lists ++ [] ∷ [])))
  pushed_shows room =
      let frames = length-append a.order.lists ([] ∷ []) in
      record {
        few = is.few;
        last_fits = is.last_fits;
        given = is.given;
        within = is.within;
        numbers = is.numbers;
        some_frame = omega arith;
        few_frames = omega arith;
        once = λ p. ap (times p) (concat_push a.order.lists) ∙ is.once p;
        idle = is.idle;
        count = is.count;
      }

  pub is_pushed : table (changed a a.free a.places (with_lists a.order (a.order.lists ++ [] ∷ [])))
      ≡ with_frames (table a) (pushed (table a).frames)
  is_pushed = ap with_lists_of (map-append (map (ref_at a.thread a.places.items)) a.order.lists ([] ∷ []))

  pub popped_shows : 2 ≤ length a.order.lists → last_list a.order.lists ≡ []
      → IsTable (changed a a.free a.places (with_lists a.order (lists_before a.order.lists)))
  popped_shows above empty =
      let most = is.few_frames in
      let frames = length_before a.order.lists (omega arith) in
      record {
        few = is.few;
        last_fits = is.last_fits;
        given = is.given;
        within = is.within;
        numbers = is.numbers;
        some_frame = omega arith;
        few_frames = omega arith;
        once = λ p. omega (arith, times_parts p a.order.lists, ap (times p) empty, is.once p);
        idle = is.idle;
        count = is.count;
      }

  pub is_popped : table (changed a a.free a.places (with_lists a.order (lists_before a.order.lists)))
      ≡ with_frames (table a) (popped (table a).frames)
  is_popped = ap with_lists_of (sym (map_before (ref_at a.thread a.places.items) a.order.lists))
