-- That the programs of calls are apt for the page of several threads: what they end with is what their tests let pass.
use Rattle.std.proofs.Common.{◌≡◌, ◌≢◌, ℕ, suc, true, false, List, refl, arith}
use Rattle.std.proofs.lemmas.Bool.{not-false}
use Rattle.jr_word.specs.declared.handle.RefKind.{RefKind}
use Rattle.jr_word.specs.declared.handle.RefKind.TheVariants.{Local}
use Rattle.jr_word.specs.declared.kind.Kind.{Kind}
use Rattle.jr_word.specs.declared.kind.Kind.TheVariants.{Boolean, Byte, Char, Int, Long, Objects, Short, Text}
use Rattle.jr_model.specs.Frames.{Frames}
use Rattle.jr_model.specs.Checks.{Word, is_objects, is_of_kind, is_read_as, is_text, same_element}
use Rattle.jr_model.specs.Programs.{Which, one}
use Rattle.jr_model.specs.CallPrograms.{delete_local_ref, delete_reference, ensure_local_capacity, get_array_elements}
use Rattle.jr_model.specs.CallPrograms.{get_array_length, get_array_region, get_object_array_element}
use Rattle.jr_model.specs.CallPrograms.{get_object_ref_type, get_string_chars, get_string_length, is_same_object}
use Rattle.jr_model.specs.CallPrograms.{kind_of, new_array, new_local_ref, new_object_array, new_plain, new_reference}
use Rattle.jr_model.specs.CallPrograms.{new_string, pop_local_frame, push_local_frame, region_get, region_set}
use Rattle.jr_model.specs.CallPrograms.{release_array_elements, set_array_region, set_object_array_element}
use Rattle.jr_world.specs.Playing.{AllHaveSerials, FreeHaveSerials, IsApt}
use Rattle.jr_syntax.specs.declared.verb.OpenLevel.{OpenLevel}
use Rattle.jr_syntax.specs.declared.verb.OpenLevel.TheVariants as at
use Rattle.jr_scripts.specs.Commands.{get_critical}
use Rattle.jr_scripts.proofs.TogetherRun.Moments.{HasLeft}

element_plain : (k l : Kind) → same_element k l ≡ true → is_objects l ≡ false
element_plain k Objects is = absurd (none k is)
  where
    none : (k : Kind) → same_element k Objects ≡ true → ⊥
    none Boolean is = cc
    none Byte is = cc
    none Char is = cc
    none Short is = cc
    none Int is = cc
    none Long is = cc
    none _ is = cc
element_plain k _ is = refl

-- elements that are read as of a kind are no objects
read_plain : (k l : Kind) → is_read_as k l ≡ true → is_objects l ≡ false
read_plain Char Text is = refl
read_plain k l is = element_plain k l is

text_plain : (l : Kind) → is_text l ≡ true → is_objects l ≡ false
text_plain Text is = refl
text_plain _ is = absurd cc

-- WHAT IS LEFT OF SERIALS is enough for a reference more, and for one that is given up
pub free_left : (last k : ℕ) (f : Frames) → HasLeft last k f → FreeHaveSerials last f
free_left last k f left p free = let most = left.free p free in omega arith

pub all_left : (last k : ℕ) (f : Frames) → HasLeft last (suc k) f → AllHaveSerials last f
all_left last k f left p = let most = left.all p in omega arith

module _ (last : ℕ) (f : Frames) (words : Which → Word) where
  -- REFERENCES AND FRAMES
  pub reference_apt : (k : RefKind) → IsApt last f words (new_reference k)
  reference_apt k kind = tt

  pub local_apt : FreeHaveSerials last f → IsApt last f words new_local_ref
  local_apt free kind = free

  pub deletion_apt : (k : RefKind) → k ≢ Local → is_of_kind k (words one) ≡ true
      → IsApt last f words (delete_reference k)
  deletion_apt k shared is kind = (shared, is)

  pub local_deletion_apt : is_of_kind Local (words one) ≡ true → IsApt last f words delete_local_ref
  local_deletion_apt is kind = is

  pub same_apt : IsApt last f words is_same_object
  same_apt kind = tt

  pub type_apt : IsApt last f words get_object_ref_type
  type_apt kind = tt

  pub room_apt : (n : ℕ) → FreeHaveSerials last f → IsApt last f words (ensure_local_capacity n)
  room_apt n free kind = free

  pub push_apt : (n : ℕ) → FreeHaveSerials last f → IsApt last f words (push_local_frame n)
  push_apt n free kind = free

  pub pop_apt : AllHaveSerials last f → IsApt last f words pop_local_frame
  pop_apt all kind = all

  -- NEW OBJECTS
  pub plain_apt : FreeHaveSerials last f → IsApt last f words new_plain
  plain_apt free kind = (free, refl)

  pub array_apt : FreeHaveSerials last f → (k : Kind) (n : ℕ) → IsApt last f words (new_array k n)
  array_apt free k n kind = free

  pub objects_apt : FreeHaveSerials last f → (n : ℕ) → IsApt last f words (new_object_array n)
  objects_apt free n kind = (free, refl)

  pub string_apt : FreeHaveSerials last f → (units : List ℕ) → IsApt last f words (new_string units)
  string_apt free units kind = (free, refl)

  -- OBJECTS
  pub kind_apt : IsApt last f words kind_of
  kind_apt kind k n = tt

  pub length_apt : IsApt last f words get_array_length
  length_apt kind k n tested = tt

  pub string_length_apt : IsApt last f words get_string_length
  string_length_apt kind k n tested = tt

  -- an element that is found is of an array of objects
  pub element_apt : FreeHaveSerials last f → (i : ℕ) → IsApt last f words (get_object_array_element i)
  element_apt free i kind k n tested = (not-false (is_objects k) tested.1.0, free)

  pub set_apt : (i : ℕ) → IsApt last f words (set_object_array_element i)
  set_apt i kind k n tested = not-false (is_objects k) tested.1.0

  -- an array of a kind of numbers
  pub part_apt : (t : Kind) (start m : ℕ) → IsApt last f words (get_array_region t start m)
  part_apt t start m kind k n tested = element_plain t k (not-false (same_element t k) tested.1.0)

  pub write_apt : (t : Kind) (start : ℕ) (vs : List ℕ) → IsApt last f words (set_array_region t start vs)
  write_apt t start vs kind k n tested = element_plain t k (not-false (same_element t k) tested.1.0)

  pub elements_apt : (t : Kind) → IsApt last f words (get_array_elements t)
  elements_apt t kind k n tested = element_plain t k (not-false (same_element t k) tested.1.0)

  pub units_apt : IsApt last f words get_string_chars
  units_apt kind k n tested = text_plain k (not-false (is_text k) tested.0)

  pub release_apt : (t : Kind) (vs : List ℕ) → IsApt last f words (release_array_elements t vs)
  release_apt t vs kind k n tested = element_plain t k (not-false (same_element t k) tested.1.0)

  -- REGIONS
  pub critical_apt : (v : OpenLevel) (levels : ℕ) → IsApt last f words (get_critical v levels)
  critical_apt at.Array levels = λ kind k n tested. tt
  critical_apt at.Text levels = λ kind k n tested. tt

  pub get_apt : (t : Kind) (i : ℕ) → IsApt last f words (region_get t i)
  get_apt t i kind n tested = read_plain t kind (not-false (is_read_as t kind) tested.0)

  pub put_apt : (t : Kind) (i v : ℕ) → IsApt last f words (region_set t i v)
  put_apt t i v kind n tested = read_plain t kind (not-false (is_read_as t kind) tested.1.0)
