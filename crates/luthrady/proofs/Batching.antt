-- Calls of a batch that are made one after the other.
use Rattle.std.proofs.Common.{◌≡◌, ◌<◌, ◌+◌, ◌++◌, ◌∙◌, ℕ, true, List, [], ◌∷◌, Option, None, Some, Result, Err}
use Rattle.std.proofs.Common.{ap, refl, subst, sym, drop, get_or, length, length-set, set, take}
use Rattle.std.proofs.lemmas.List.{append_assoc, append-nil, drop_more, drop-set, take_more_set}
use Rattle.std.proofs.Math.Seq.{drop-length, take-length}
use Rattle.std.specs.Box.{with_value}
use Rattle.std.specs.Global.{Box}
use Rattle.jr_word.specs.declared.fault.Fault.{Fault}
use Rattle.jr_steps.specs.declared.steps.Steps.{Ghosts}
use Rattle.jr_env.specs.declared.stay.Stay.{Stay}
use Rattle.luthrady.specs.declared.batches.BatchCall.{BatchCall}
use Rattle.luthrady.specs.declared.handles.EnvHandle.{EnvHandle}
use Rattle.luthrady.specs.declared.held.EnvPlace.{EnvPlace}
use Rattle.luthrady.specs.declared.held.Native.{Native}
use Rattle.luthrady.specs.declared.held.Presence.{Presence}
use Rattle.luthrady.specs.declared.held.Presence.TheVariants.{Ready}
use Rattle.luthrady.specs.declared.reply.Reply.{Reply}
use Rattle.luthrady.specs.Behind.{with_env_of}
use Rattle.luthrady.specs.Places.{absence_in, is_env, native_behind, ready_in}
use Rattle.luthrady.specs.Batches.{AreMade, ByThreadInStay, WasMadeInStay, WasStayed}
use Rattle.luthrady.proofs.ThroughPointers.{absent, as_it_was, empty, stands, stood}

-- the call with this answer
abbrev pub told : BatchCall → Reply → BatchCall
told c r = record c { reply = r }

module _ {S : Type 0} {G : Ghosts S} where
  -- those before an index were made: with what is done of the rest, all are
  pub record AreMadeTo (first now : Stay S G) (calls after : List BatchCall) (i : ℕ) : Type 0 where
    pub size : length after ≡ length calls
    pub left : drop i after ≡ drop i calls
    pub made : (last : Stay S G) (rest : List BatchCall) → AreMade now last (drop i calls) rest
        → AreMade first last calls (take i after ++ rest)

  -- none was made yet
  pub none_made : (first : Stay S G) (calls : List BatchCall) → AreMadeTo first first calls calls 0
  none_made first calls = record { size = refl; left = refl; made = λ last rest m. m }

  -- one more was made
  pub one_made : (first now next : Stay S G) (calls after : List BatchCall) (i : ℕ) (r : Reply) (d : BatchCall)
      → i < length after → AreMadeTo first now calls after i → WasMadeInStay now next (get_or after i d) r
      → AreMadeTo first next calls (set after i (told (get_or after i d) r)) (i + 1)
  one_made first now next calls after i r d less to is =
      let c = told (get_or after i d) r in
      let there = subst (λ n. i < n) to.size less in
      let both = sym (drop_more after i d less) ∙ to.left ∙ drop_more calls i d there in
      let tails : drop (i + 1) after ≡ drop (i + 1) calls = ap (drop 1) both in
      let begins : drop i calls ≡ get_or after i d ∷ drop (i + 1) calls =
      sym to.left ∙ drop_more after i d less ∙ ap (λ l. get_or after i d ∷ l) tails in
      let still = subst (λ n. i < n) (sym (length-set after i c)) less in
      let behind : drop (i + 1) (set after i c) ≡ drop (i + 1) after =
      ap (drop 1) (sym (drop_more (set after i c) i d still) ∙ drop-set after i c less) in
      record {
        size = length-set after i c ∙ to.size;
        left = behind ∙ tails;
        made = λ last rest m.
            let all = to.made last (c ∷ rest)
            (subst (λ l. AreMade now last l (c ∷ rest)) (sym begins) (next, r, rest, refl, is, m)) in
            let seam : take i after ++ (c ∷ rest) ≡ take (i + 1) (set after i c) ++ rest =
            sym (append_assoc (take i after) (c ∷ []) rest)
            ∙ ap (λ l. l ++ rest) (sym (take_more_set after i c less)) in
            subst (λ l. AreMade first last calls l) seam all;
      }

  -- all were made
  pub all_made : (first last : Stay S G) (calls after : List BatchCall) (i : ℕ) → i ≡ length calls
      → AreMadeTo first last calls after i → AreMade first last calls after
  all_made first last calls after i end to =
      let none : drop i calls ≡ [] = subst (λ n. drop n calls ≡ []) (sym end) (drop-length calls) in
      let all = to.made last [] (subst (λ l. AreMade last last l []) (sym none) (refl, refl)) in
      let whole : take i after ≡ after =
      subst (λ n. take n after ≡ after) (sym (end ∙ sym to.size)) (take-length after) in
      subst (λ l. AreMade first last calls l) (append-nil (take i after) ∙ whole) all

-- what the env did in one stay that stood behind the pointer is the thread's
pub by_thread_in_stay : (cs calls : List BatchCall) (answer : Result (Unit {0}) Fault) (old new : EnvHandle)
    (o : Option (Box Native)) (n m : Box Native) (k : Native)
    → o ≡ Some n → native_behind new ≡ Some m → k ≡ n.value → WasStayed k.env m.value.env cs calls answer
    → m.value.marker ≡ k.marker → ByThreadInStay old new o cs calls answer
by_thread_in_stay cs calls answer old new o n m k is left same stayed marker =
    let there = subst (λ (x : Native). WasStayed x.env m.value.env cs calls answer × (m.value.marker ≡ x.marker)) same
    (stayed, marker) in
    subst (λ (x : Option (Box Native)). ByThreadInStay old new x cs calls answer) (sym is)
    (m, left, there.0, there.1)

-- so of an env that is ready behind a handle, and was asked
pub by_ready_in_stay : (cs calls : List BatchCall) (answer : Result (Unit {0}) Fault) (h h' : EnvHandle) (a : EnvPlace)
    (n : Box Native) (k v : Native) → is_env h ≡ true → h' ≡ h → a ≡ h'.value → a.presence ≡ Ready n → k ≡ n.value
    → WasStayed k.env v.env cs calls answer → v.marker ≡ k.marker
    → (h'.at ≡ h.at) × ByThreadInStay h (with_env_of h' (record { mark = a.mark; presence = Ready (with_value n v) }))
    (native_behind h) cs calls answer
by_ready_in_stay cs calls answer h h' a n k v is same lent there at stayed marker = (
  ap (λ (x : EnvHandle). x.at) same,
  by_thread_in_stay cs calls answer h (with_env_of h' (record { mark = a.mark; presence = Ready (with_value n v) }))
      (native_behind h) n (with_value n v) k (stood h h' a n is same lent (ap ready_in there))
      (stands h h' a (Some (with_value n v)) is same lent) at stayed marker,
)

-- where no env is ready, the batch is refused, and nothing has changed
pub batches_nobody : (cs : List BatchCall) (h h' : EnvHandle) (a : EnvPlace) (p : Presence) → is_env h ≡ true → h' ≡ h
    → a ≡ h'.value → a.presence ≡ p → ready_in p ≡ None
    → (h'.at ≡ h.at) × ByThreadInStay h (with_env_of h' a) (native_behind h) cs cs (Err (absence_in p))
batches_nobody cs h h' a p is same lent there none = (
  ap (λ (x : EnvHandle). x.at) same,
  subst (λ (o : Option (Box Native)). ByThreadInStay h (with_env_of h' a) o cs cs (Err (absence_in p)))
      (sym (empty h h' a p is same lent there none))
      (ap (λ (e : Fault). Err e) (absent h h' a p is same lent there), as_it_was h h' a same lent, refl),
)
