-- A THREAD AT ITS END changes nothing that others see.
use Rattle.std.proofs.Common.{◌≡◌, ◌≢◌, ◌++◌, ◌==◌, ℕ, zero, suc, Bool, true, false, cond, not, Option, Some, None}
use Rattle.std.proofs.Common.{Result, Ok, Err, List, [], ◌∷◌, map, length, drop, slice_index_or, slice_set, refl, sym}
use Rattle.std.proofs.Common.{ap, subst, ◌∙◌, append-nil, arith}
use Rattle.std.specs.List.{AllByRecursion, filter, flat_map}
use Rattle.std.proofs.lemmas.List.{drop_all, get_or-set_other, length-set}
use Rattle.jr_word.specs.declared.config.Config.{Config}
use Rattle.jr_word.specs.declared.fault.Fault.{Fault}
use Rattle.jr_word.specs.declared.fault.Fault.TheVariants as fault
use Rattle.jr_model.specs.declared.event.Role.{Role}
use Rattle.jr_model.specs.declared.event.Role.TheVariants.{Knocking, Outside, Within}
use Rattle.jr_model.specs.State.{is_barring}
use Rattle.jr_model.proofs.Exactly.{append_all}
use Rattle.jr_world.specs.World.{Ref, change, removed, standing_at}
use Rattle.jr_world.specs.Doing.{Doing, Noted, Shared, as_left, as_seen, atom, by_step, entered_in_steps}
use Rattle.jr_world.specs.Doing.{freed_in_steps, given_up_in_steps, go_out, in_role, inside, noted, of_others, owner_if}
use Rattle.jr_world.specs.Doing.{step, then_out, unless_refused, whatever}
use Rattle.jr_world.specs.Doing.Doing.{ended, steps}
use Rattle.jr_env.specs.Tries.{is_tried_again}
use Rattle.jr_scripts.specs.Names.{Names}
use Rattle.jr_scripts.specs.Posting.{ThreadWords}
use Rattle.jr_scripts.specs.Together.{ends_thread, tried_in_steps}
use Rattle.jr_scripts.proofs.OneRow.Alike.{Alike, Begin, IsLocal, Kept, begin_through, frames_of, is_of, owner_of}
use Rattle.jr_scripts.proofs.OneRow.Blind.{each_filter, kept_left}
use Rattle.jr_scripts.proofs.OneRow.Programs.{in_role_kept, role_tidy}

-- THREAD t IS AT ITS END, or behind it, with this text: where these owners are the first, its steps leave what is alike
abbrev pub IsEnding : ℕ → List ℕ → List (Option ℕ) → Doing (List ℕ) → Type 0
IsEnding t text owners (ended r) = r ≡ Ok text
IsEnding t text owners (steps more leaves) = (luck : Bool) (gone : ℕ → Bool) (s z : Shared) → gone t ≡ true
    → Begin owners s.owners → Alike gone s z
    → Alike gone (leaves t luck s) z × Kept t s (leaves t luck s) × IsEnding t text s.owners (more t luck s)

-- LISTS

-- what holds of an element that is set, and of all, holds of all then
at_set : {X : Type 0} (P : ℕ → X → Type 0) (d : X) (xs : List X) (i : ℕ) (x : X) → P i x
    → ((j : ℕ) → P j (slice_index_or xs j d)) → (j : ℕ) → P j (slice_index_or (slice_set xs i x) j d)
at_set P d [] i x here all j = all j
at_set P d (y ∷ ys) zero x here all zero = here
at_set P d (y ∷ ys) zero x here all (suc j) = all (suc j)
at_set P d (y ∷ ys) (suc i) x here all zero = all zero
at_set P d (y ∷ ys) (suc i) x here all (suc j) = at_set (λ k. P (suc k)) d ys i x here (λ k. all (suc k)) j

pub all_flat : {X : Type 0} (P : X → Type 0) (xss : List (List X)) → AllByRecursion (AllByRecursion P) xss
    → AllByRecursion P (flat_map (λ f. f) xss)
all_flat P [] all = tt
all_flat P (xs ∷ xss) all = append_all P xs (flat_map (λ f. f) xss) all.0 (all_flat P xss all.1)

-- OWNERS

-- a reference is this thread's, by these owners
abbrev IsOwned : ℕ → List (Option ℕ) → ℕ → Type 0
IsOwned t owners n = slice_index_or owners n None ≡ Some t

owned_behind : (t n : ℕ) (xs more : List (Option ℕ)) → IsOwned t xs n → IsOwned t (xs ++ more) n
owned_behind t n [] more own = absurd cc
owned_behind t zero (x ∷ xs) more own = own
owned_behind t (suc n) (x ∷ xs) more own = owned_behind t n xs more own

owned_on : (t : ℕ) (xs ys : List (Option ℕ)) (ns : List ℕ) → Begin xs ys → AllByRecursion (IsOwned t xs) ns
    → AllByRecursion (IsOwned t ys) ns
owned_on t xs ys [] begins all = tt
owned_on t xs ys (n ∷ ns) begins all = (
  subst (λ l. IsOwned t l n) begins.1 (owned_behind t n xs begins.0 all.0),
  owned_on t xs ys ns begins all.1,
)

-- ONE STEP
module _ (t : ℕ) (gone : ℕ → Bool) (s z : Shared) (is : gone t ≡ true) (alike : Alike gone s z) where
  abbrev Leaves : Shared → Type 0
  Leaves s' = Alike gone s' z × Kept t s s'

  not_other : (u : ℕ) → gone u ≡ false → u ≡ t → ⊥
  not_other u here same = let bad = sym is ∙ (ap gone (sym same) ∙ here) in absurd cc

  -- another role
  role_leaves : (r : Role) → is_barring r ≡ false → Leaves (in_role r t s)
  role_leaves r open_to = (
    record {
      objects = alike.objects;
      used = alike.used;
      owners = alike.owners;
      as_many_refs = alike.as_many_refs;
      refs = alike.refs;
      as_many_frames = alike.as_many_frames;
      frames = alike.frames;
      as_many_roles = length-set s.roles t r ∙ alike.as_many_roles;
      roles = λ u here. get_or-set_other s.roles t u r Outside (not_other u here) ∙ alike.roles u here;
      unbarred = λ u there. (
        at_set (λ v (q : Role). gone v ≡ true → is_barring q ≡ false) Outside s.roles t r (λ at. open_to)
            (λ v at. (alike.unbarred v at).0) u there,
        (alike.unbarred u there).1,
      );
      tidy = role_tidy r t s alike.tidy;
      tidy_too = alike.tidy_too;
    },
    in_role_kept r t s,
  )

  -- other frames of its own, and other references
  world_leaves : (refs : List (Option Ref)) (frames : List (List ℕ)) → length refs ≡ length s.refs
      → ((n : ℕ) → is_of gone (owner_of z n) ≡ false → standing_at refs n ≡ standing_at z.refs n)
      → ((n u : ℕ) → owner_of s n ≡ Some u → IsLocal (standing_at refs n))
      → AllByRecursion (AllByRecursion (IsOwned t s.owners)) frames
      → Leaves (as_left t s (record (as_seen t s) { refs = refs; frames = frames }))
  world_leaves refs frames long same local framed = (
    subst (λ x. Alike gone x z)
        (λ i. record s { refs = refs; owners = sym owners i; frames = slice_set s.frames t frames }) (record {
          objects = alike.objects;
          used = alike.used;
          owners = alike.owners;
          as_many_refs = long ∙ alike.as_many_refs;
          refs = same;
          as_many_frames = length-set s.frames t frames ∙ alike.as_many_frames;
          frames = λ u here. get_or-set_other s.frames t u frames [] (not_other u here) ∙ alike.frames u here;
          as_many_roles = alike.as_many_roles;
          roles = alike.roles;
          unbarred = alike.unbarred;
          tidy = record {
            owned = alike.tidy.owned ∙ sym long;
            local = local;
            framed = at_set (λ u. AllByRecursion (AllByRecursion (IsOwned u s.owners))) [] s.frames t frames framed
                alike.tidy.framed;
          };
          tidy_too = alike.tidy_too;
        }),
    kept_left t s (record (as_seen t s) { refs = refs; frames = frames }),
  )
    where
      owners : s.owners ++ map (owner_if t) (drop (length s.owners) refs) ≡ s.owners
      owners = ap (λ l. s.owners ++ map (owner_if t) l)
          (drop_all (length s.owners) refs (let owned = alike.tidy.owned in omega arith)) ∙ append-nil s.owners

  -- other frames
  frames_leave : (frames : List (List ℕ)) → AllByRecursion (AllByRecursion (IsOwned t s.owners)) frames
      → Leaves (as_left t s (record (as_seen t s) { frames = frames }))
  frames_leave frames framed = world_leaves s.refs frames refl alike.refs alike.tidy.local framed

  -- a reference of its own is given up
  removed_leaves : (n : ℕ) → IsOwned t s.owners n → Leaves (as_left t s (removed n (as_seen t s)))
  removed_leaves n own = world_leaves (slice_set s.refs n None) (map (filter (λ m. not (m == n))) (frames_of s t))
      (length-set s.refs n None)
      (λ m shown. get_or-set_other s.refs n m None None (other m shown) ∙ alike.refs m shown)
      (λ m u owned. at_set (λ k r. owner_of s k ≡ Some u → IsLocal r) None s.refs n None (λ o. tt)
      (λ k o. alike.tidy.local k u o) m owned)
      (each_filter (IsOwned t s.owners) (λ m. not (m == n)) (frames_of s t) (alike.tidy.framed t))
    where
      hidden : is_of gone (owner_of z n) ≡ true
      hidden = ap (λ l. is_of gone (slice_index_or l n None)) (sym alike.owners) ∙ (ap (is_of gone) own ∙ is)

      other : (m : ℕ) → is_of gone (owner_of z m) ≡ false → m ≢ n
      other m shown same = let bad = sym hidden ∙ (ap (λ k. is_of gone (owner_of z k)) (sym same) ∙ shown) in absurd cc

-- PROGRAMS
module _ (t : ℕ) where
  -- the same of any answer: this holds of it, and of the owners then
  abbrev IsQuiet : {A : Type 0} → (List (Option ℕ) → Result A Fault → Type 0) → List (Option ℕ) → Doing A → Type 0
  IsQuiet K owners (ended r) = K owners r
  IsQuiet K owners (steps more leaves) = (luck : Bool) (gone : ℕ → Bool) (s z : Shared) → gone t ≡ true
      → Begin owners s.owners → Alike gone s z
      → Alike gone (leaves t luck s) z × Kept t s (leaves t luck s) × IsQuiet K s.owners (more t luck s)

  abbrev Quiet : {A : Type 0} → Doing A → Type 0
  Quiet d = (owners : List (Option ℕ)) → IsQuiet (λ o r. Unit {0}) owners d

  -- ONE AND THEN THE OTHER
  quiet_then : {A B : Type 0} (K : List (Option ℕ) → Result A Fault → Type 0)
      (L : List (Option ℕ) → Result B Fault → Type 0) (d : Doing A) (next : Result A Fault → Doing B)
      (owners : List (Option ℕ)) → IsQuiet K owners d
      → ((o : List (Option ℕ)) (r : Result A Fault) → K o r → IsQuiet L o (next r))
      → IsQuiet L owners (whatever d next)
  quiet_then K L (ended r) next owners quiet rest = rest owners r quiet
  quiet_then K L (steps more leaves) next owners quiet rest = λ luck gone s z is begins alike.
      let x = quiet luck gone s z is begins alike in
      (x.0, x.1, quiet_then K L (more t luck s) next s.owners x.2 rest)

  quiet_whatever : {A B : Type 0} (d : Doing A) (next : Result A Fault → Doing B) → Quiet d
      → ((r : Result A Fault) → Quiet (next r)) → Quiet (whatever d next)
  quiet_whatever d next quiet rest = λ owners.
      quiet_then (λ o r. Unit {0}) (λ o r. Unit {0}) d next owners (quiet owners) (λ o r u. rest r o)

  -- the text is what it ends with
  quiet_ends : {A : Type 0} (text : List ℕ) (d : Doing A) (owners : List (Option ℕ))
      → IsQuiet (λ o r. Unit {0}) owners d → IsEnding t text owners (whatever d (λ answer. ended (Ok text)))
  quiet_ends text (ended r) owners quiet = refl
  quiet_ends text (steps more leaves) owners quiet = λ luck gone s z is begins alike.
      let x = quiet luck gone s z is begins alike in
      (x.0, x.1, quiet_ends text (more t luck s) s.owners x.2)

  -- its role
  quiet_out : {A : Type 0} (next : Result (Unit {0}) Fault → Doing A) → ((r : Result (Unit {0}) Fault) → Quiet (next r))
      → Quiet (step go_out next)
  quiet_out next rest owners = λ luck gone s z is begins alike.
      let x = role_leaves t gone s z is alike Outside refl in (x.0, x.1, rest (Ok tt) s.owners)

  -- its references
  gives_up : (owners : List (Option ℕ)) (ns : List ℕ) → AllByRecursion (IsOwned t owners) ns
      → IsQuiet (λ o r. Unit {0}) owners (given_up_in_steps ns)
  gives_up owners [] own = tt
  gives_up owners (n ∷ ns) own = λ luck gone s z is begins alike.
      let on = owned_on t owners s.owners (n ∷ ns) begins own in
      let x = removed_leaves t gone s z is alike n on.0 in
      (x.0, x.1, gives_up s.owners ns on.1)

  -- all of them
  frees_all : Quiet freed_in_steps
  frees_all owners = λ luck gone s z is begins alike.
      let x = frames_leave t gone s z is alike (frames_of s t) (alike.tidy.framed t) in (
        x.0,
        x.1,
        quiet_then (λ o r. Unit {0}) (λ o r. Unit {0}) (given_up_in_steps (flat_map (λ f. f) (frames_of s t)))
            (unless_refused (λ u. atom (change (λ w. record w { frames = [] ∷ [] })))) s.owners
            (gives_up s.owners (flat_map (λ f. f) (frames_of s t))
            (all_flat (IsOwned t s.owners) (frames_of s t) (alike.tidy.framed t))) (λ o r u. at_last r o),
      )
    where
      at_last : (r : Result (Unit {0}) Fault)
          → Quiet (unless_refused (λ (u : Unit {0}). atom (change (λ w. record w { frames = [] ∷ [] }))) r)
      at_last (Ok u) owners = λ luck gone s z is begins alike.
          let x = frames_leave t gone s z is alike ([] ∷ []) (tt, tt) in (x.0, x.1, tt)
      at_last (Err e) owners = tt

  -- A CALL
  quiet_entry : {A : Type 0} (work : Noted → Doing A) → ((from : Noted) → Quiet (work from))
      → Quiet (entered_in_steps work)
  quiet_entry {A} work quiet owners =
      λ luck gone s z is begins alike. go gone s z is alike (of_others is_barring t s.roles)
    where
      its : Noted → Doing A
      its from = then_out (work from)

      go : (gone : ℕ → Bool) (s z : Shared) → gone t ≡ true → Alike gone s z → (b : Bool)
          → (let x : Result Noted Fault × Shared
          = cond b (Err fault.Barred, in_role Knocking t s) (Ok (noted s), in_role Within t s) in
          Alike gone x.1 z × Kept t s x.1 × IsQuiet (λ o r. Unit {0}) s.owners (inside its x.0))
      go gone s z is alike true = let x = role_leaves t gone s z is alike Knocking refl in
          (x.0, x.1, quiet_out {A = A} (λ u. ended (Err fault.Barred)) (λ r o. tt) s.owners)
      go gone s z is alike false = let x = role_leaves t gone s z is alike Within refl in (
        x.0,
        x.1,
        quiet_whatever (work (noted s)) (λ r. step go_out (λ u. ended r)) (quiet (noted s))
            (λ r. quiet_out (λ u. ended r) (λ q o. tt)) s.owners,
      )

  -- .. made again
  quiet_tried : {A : Type 0} (n : ℕ) (call : Doing A) → Quiet call → Quiet (tried_in_steps n call)
  quiet_tried zero call quiet = λ owners. tt
  quiet_tried {A} (suc n) call quiet = quiet_whatever call
      (λ answer. cond (is_tried_again answer) (tried_in_steps n call) (ended answer)) quiet
      (λ r. go (is_tried_again r) r (quiet_tried n call quiet))
    where
      go : (b : Bool) (r : Result A Fault) → Quiet (tried_in_steps n call)
          → Quiet (cond b (tried_in_steps n call) (ended r))
      go true r again = again
      go false r again = λ owners. tt

  -- THE END
  quiet_freed : (turns : ℕ) → Quiet (tried_in_steps turns (entered_in_steps (λ from. freed_in_steps)))
  quiet_freed turns = quiet_tried turns (entered_in_steps (λ from. freed_in_steps))
      (quiet_entry (λ from. freed_in_steps) (λ from. frees_all))

  quiet_end : (c : Config) (turns : ℕ) (names : Names) (words : ThreadWords) (objects : List ℕ)
      → Quiet (ends_thread c turns names words objects)
  quiet_end c turns names words [] = quiet_freed turns
  quiet_end c turns names words (o ∷ os) = quiet_whatever (by_step go_out)
      (unless_refused (λ u. ends_thread c turns names words [])) (quiet_out (λ r. ended r) (λ r o. tt)) go
    where
      go : (r : Result (Unit {0}) Fault)
          → Quiet (unless_refused (λ (u : Unit {0}). ends_thread c turns names words []) r)
      go (Ok u) = quiet_freed turns
      go (Err e) = λ owners. tt

pub ends_so : (c : Config) (turns : ℕ) (names : Names) (words : ThreadWords) (objects : List ℕ) (t : ℕ) (text : List ℕ)
    (owners : List (Option ℕ))
    → IsEnding t text owners (whatever (ends_thread c turns names words objects) (λ answer. ended (Ok text)))
ends_so c turns names words objects t text owners = quiet_ends t text (ends_thread c turns names words objects) owners
    (quiet_end t c turns names words objects owners)

-- more owners are known
pub ending_on : (t : ℕ) (text : List ℕ) (owners more : List (Option ℕ)) (d : Doing (List ℕ)) → Begin owners more
    → IsEnding t text owners d → IsEnding t text more d
ending_on t text owners more (ended r) begins ends = ends
ending_on t text owners more (steps next leaves) begins ends = λ luck gone s z is on alike.
    ends luck gone s z is (begin_through owners more s.owners begins on) alike
