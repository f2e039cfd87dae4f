-- Maps by name, as a tree keeps them.
use Rattle.std.proofs.Common.{◌≡◌, ◌∙◌, ℕ, ℤ, Bool, true, false, Option, Some, None}
use Rattle.std.proofs.Common.{List, [], ◌∷◌, Result, Ok, Err, cond, ap, sym, refl}
use Rattle.std.specs.Prelude.{OnOk, OnErr, IfErr, IsSome, is_some}
use Rattle.std.specs.FinMap.{find, from_entries, get, insert, get-from_entries, get-insert}
use Rattle.std.specs.FinMap.{same_map, slice_cmp-IsAntisymmetric, nat_cmp-IsAntisymmetric}
use Rattle.std.specs.declared.cmp.Ordering.{Ordering}
use Rattle.std.specs.declared.cmp.Ordering.TheVariants.{Less, Equal, Greater}
use Rattle.std.specs.Ordering.{is_eq}
use Rattle.std.specs.BTreeMap.{is_at}
use Rattle.std.specs.Map.{lookup}
use Rattle.std.specs.Cmp.{eq_by_cmp_equiv}
use Rattle.std.specs.Cmp.Lexicographic.{nat_list_cmp_total}
use Rattle.std.specs.declared.alloc.AllocError.{AllocError}
use Rattle.jr_word.specs.declared.fault.Fault.{Fault}
use Rattle.jr_elements.specs.Copies.{answer_in}
use Rattle.jr_model.specs.declared.frames.Mode.{Mode}
use Rattle.jr_syntax.specs.declared.name.Reference.{Reference}
use Rattle.jr_syntax.specs.declared.command.Command.TheVariants as commands
use Rattle.jr_syntax.specs.declared.verb.Release.TheVariants as release
use Rattle.jr_scripts.specs.Buffers.{Copied}
use Rattle.jr_scripts.specs.declared.reply.Reply.{Reply}
use Rattle.jr_scripts.specs.declared.binding.Binding.{Binding}
use Rattle.jr_scripts.specs.declared.binding.Binding.TheVariants.{Nothing, Buffer, Reference as Refers}
use Rattle.jr_scripts.specs.Text.{buffers_after, left_by}
use Rattle.jr_scripts.specs.Names.{IsSet, Names, buffer_in, name_order, names_put}
use Rattle.jr_scripts.specs.Names.{or_nothing, putting, binding, with_name}

-- what entries have at a name
abbrev pub named_in : List (List ℕ × Binding) → List ℕ → Option Binding
named_in entries n = lookup (is_at (name_order n)) entries

find_name : (entries : List (List ℕ × Binding)) (n : List ℕ) → find name_order n entries ≡ named_in entries n
find_name [] n = refl
find_name (e ∷ es) n = ap (cond (is_at (name_order n) e.0) (Some e.1)) (find_name es n)

-- what the map that the entries make has at a name
pub get_name : (entries : List (List ℕ × Binding)) (n : List ℕ)
    → get (from_entries {R = name_order} entries) n ≡ named_in entries n
get_name entries n = get-from_entries nat_list_cmp_total entries n ∙ find_name entries n

-- entries that differ at one name make maps that differ there
pub one_named : (old new : List (List ℕ × Binding)) (n : List ℕ) (s : Binding)
    → ((m : List ℕ) → named_in new m ≡ cond (is_at (name_order n) m) (Some s) (named_in old m))
    → from_entries {R = name_order} new ≡ insert (from_entries old) n s
one_named old new n s differ = same_map nat_list_cmp_total (slice_cmp-IsAntisymmetric nat_cmp-IsAntisymmetric) _ _ (λ m.
    get_name new m ∙ differ m
    ∙ ap (λ b. cond b (Some s) (named_in old m)) ((eq_by_cmp_equiv nat_list_cmp_total).symm n m)
    ∙ sym (get-insert nat_list_cmp_total (from_entries old) n s m
    ∙ ap (cond (is_at (name_order m) n) (Some s)) (get_name old m)))

-- a name that is set to what it stands for stands for that as before
pub set_to_same : (names : Names) (n : List ℕ) (s : Binding) → get names n ≡ Some s → with_name names n s ≡ names
set_to_same names n s there = same_map nat_list_cmp_total (slice_cmp-IsAntisymmetric nat_cmp-IsAntisymmetric) _ _ (λ m.
    get-insert nat_list_cmp_total names n s m ∙ at m (name_order m n) refl)
  where
    at : (m : List ℕ) (o : Ordering) → name_order m n ≡ o → cond (is_eq o) (Some s) (get names m) ≡ get names m
    at m Less tie = refl
    at m Equal tie = sym (ap (get names) (slice_cmp-IsAntisymmetric nat_cmp-IsAntisymmetric m n tie) ∙ there)
    at m Greater tie = refl

same_name : (n : List ℕ) → is_eq (name_order n n) ≡ true
same_name n = (eq_by_cmp_equiv nat_list_cmp_total).refl n

get_set : (names : Names) (n : List ℕ) (s : Binding) → get (with_name names n s) n ≡ Some s
get_set names n s = get-insert nat_list_cmp_total names n s n ∙ ap (λ b. cond b (Some s) (get names n)) (same_name n)

-- the last of what a name is set to stays
set_twice : (names : Names) (n : List ℕ) (s t : Binding) → with_name (with_name names n s) n t ≡ with_name names n t
set_twice names n s t = same_map nat_list_cmp_total (slice_cmp-IsAntisymmetric nat_cmp-IsAntisymmetric) _ _ (λ m.
    get-insert nat_list_cmp_total (with_name names n s) n t m
    ∙ (at m (is_eq (name_order m n)) refl ∙ sym (get-insert nat_list_cmp_total names n t m)))
  where
    at : (m : List ℕ) (b : Bool) → is_eq (name_order m n) ≡ b
        → cond b (Some t) (get (with_name names n s) m) ≡ cond b (Some t) (get names m)
    at m true tie = refl
    at m false tie = get-insert nat_list_cmp_total names n s m ∙ ap (λ b. cond b (Some s) (get names m)) tie

-- a name that stands for a buffer was set to it
pub buffer_stands : (s : Binding) (b : Copied) → buffer_in s ≡ Ok b → s ≡ Buffer b
buffer_stands Nothing b is = absurd cc
buffer_stands (Refers h) b is = absurd cc
buffer_stands (Buffer c) b is = let same : c ≡ b = cc in ap (λ (x : Copied). Buffer x) same

buffer_set : (names : Names) (n : List ℕ) (b : Copied) (o : Option Binding) → get names n ≡ o
    → buffer_in (or_nothing o) ≡ Ok b → o ≡ Some (Buffer b)
buffer_set names n b None there is = absurd cc
buffer_set names n b (Some s) there is = ap (λ (x : Binding). Some x) (buffer_stands s b is)

-- the names once a buffer was taken out, released, and what was left of it put back
module _ (names taken after : Names) (n : List ℕ) (r : Reference) (mode : Mode) (answer : Result Reply Fault)
    (b : Copied) (s left : Binding) where
  put_back : buffer_in (binding names n) ≡ Ok b → (IsSet names n → taken ≡ with_name names n Nothing)
      → s ≡ binding names n → left ≡ left_by mode answer s → after ≡ with_name taken n left
      → after ≡ buffers_after (commands.Release release.Elements n r mode) answer names
  put_back is took old is_left now =
      let there : get names n ≡ Some (Buffer b) = buffer_set names n b (get names n) refl is in
      let all : after ≡ with_name names n (left_by mode answer (binding names n)) =
      now ∙ (ap (λ m. with_name m n left) (took (set_there there))
      ∙ (set_twice names n Nothing left ∙ ap (with_name names n) (is_left ∙ ap (left_by mode answer) old))) in
      go answer all there
    where
      set_there : get names n ≡ Some (Buffer b) → IsSet names n
      set_there there = rw there refl

      go : (a : Result Reply Fault) → after ≡ with_name names n (left_by mode a (binding names n))
          → get names n ≡ Some (Buffer b) → after ≡ buffers_after (commands.Release release.Elements n r mode) a names
      go (Ok reply) all there = all
      go (Err e) all there = all
          ∙ set_to_same names n (binding names n) (there ∙ ap (λ (o : Option Binding). Some (or_nothing o)) (sym there))

  pub released_names : (done : Result (Unit {0}) AllocError) → buffer_in (binding names n) ≡ Ok b
      → (IsSet names n → taken ≡ with_name names n Nothing) → s ≡ binding names n → left ≡ left_by mode answer s
      → OnOk done (after ≡ with_name taken n left) → OnErr done (¬ (IsSet taken n))
      → after ≡ buffers_after (commands.Release release.Elements n r mode) answer names
  released_names (Ok u) is took old is_left now absent = put_back is took old is_left now
  released_names (Err e) is took old is_left now absent =
      let there : get names n ≡ Some (Buffer b) = buffer_set names n b (get names n) refl is in
      absurd (absent (is_set (took (rw there refl))))
    where
      is_set : taken ≡ with_name names n Nothing → IsSet taken n
      is_set e = let at : get taken n ≡ Some Nothing = ap (λ m. get m n) e ∙ get_set names n Nothing in rw at refl

-- what names that are kept so stand for
module _ (entries : List (List ℕ × Binding)) (names : Names) (n : List ℕ)
    (view : from_entries {R = name_order} entries ≡ names) where
  pub kept_as : (o : Option Binding) → named_in entries n ≡ o → get names n ≡ o
  kept_as o is = ap (λ m. get m n) (sym view) ∙ (get_name entries n ∙ is)

  pub stands_as : (o : Option Binding) → named_in entries n ≡ o → binding names n ≡ or_nothing o
  stands_as o is = ap or_nothing (kept_as o is)

  -- entries that differ at the name alone
  module _ (new : List (List ℕ × Binding)) (s t : Binding) (there : named_in entries n ≡ Some s)
      (differ : IsSome (named_in entries n) → (m : List ℕ)
      → named_in new m ≡ cond (is_at (name_order n) m) (Some t) (named_in entries m)) where
    pub now_named : from_entries {R = name_order} new ≡ with_name names n t
    now_named = one_named entries new n t (differ (ap is_some there)) ∙ ap (λ m. with_name m n t) view

    -- a buffer was changed, or that was refused
    pub now_put : (i : ℕ) (written number : ℤ) (r : Result (Unit {0}) Fault) → written ≡ number
        → OnOk r (putting i written s ≡ Ok t) → IfErr r (λ e. (putting i written s ≡ Err e) × (t ≡ s))
        → from_entries {R = name_order} new ≡ names_put names n (putting i number (binding names n))
    now_put i written number (Ok u) same ok err =
        now_named ∙ ap (names_put names n) (sym ok
        ∙ (ap (λ z. putting i z s) same ∙ ap (putting i number) (sym (stands_as (Some s) there))))
    now_put i written number (Err e) same ok err =
        now_named ∙ (ap (with_name names n) err.1 ∙ (set_to_same names n s (kept_as (Some s) there)
        ∙ ap (names_put names n) (sym err.0
        ∙ (ap (λ z. putting i z s) same ∙ ap (putting i number) (sym (stands_as (Some s) there))))))

    pub answer_put : (i : ℕ) (written number : ℤ) (r : Result (Unit {0}) Fault) → written ≡ number
        → OnOk r (putting i written s ≡ Ok t) → IfErr r (λ e. (putting i written s ≡ Err e) × (t ≡ s))
        → r ≡ answer_in (λ _. tt) (putting i number (binding names n))
    answer_put i written number (Ok u) same ok err = ap (answer_in (λ _. tt)) (sym ok
        ∙ (ap (λ z. putting i z s) same ∙ ap (putting i number) (sym (stands_as (Some s) there))))
    answer_put i written number (Err e) same ok err = ap (answer_in (λ _. tt)) (sym err.0
        ∙ (ap (λ z. putting i z s) same ∙ ap (putting i number) (sym (stands_as (Some s) there))))

-- a name that was never set is not set
pub not_set : (names : Names) (n : List ℕ) → get names n ≡ None → IsSet names n → ⊥
not_set names n none set = let bad = rw none at set in cc

-- whatever holds, holds on a refusal
pub whatever_err : {A E P : Type 0} (r : Result A E) → P → OnErr r P
whatever_err (Ok x) p = tt
whatever_err (Err e) p = p
