-- THE PARTS OF CALLS go as alone: references that are handed in and given up, and frames.
use Rattle.std.proofs.Common.{◌≡◌, ◌<◌, ◌+◌, ◌==◌, ◌++◌, ◌&&◌, ℕ, zero, suc, false, true, Bool, cond, Option, Some}
use Rattle.std.proofs.Common.{None, is_some, Result, Ok, Err, List, [], ◌∷◌, length, map, nat_lt, refl, sym, ap, subst}
use Rattle.std.proofs.Common.{◌∙◌, arith}
use Rattle.std.specs.List.{AllByRecursion, flat_map}
use Rattle.std.proofs.lemmas.List.{length-map, map-append}
use Rattle.one_order.proofs.Lists.{all_weaker}
use Rattle.jr_word.specs.declared.config.Config.{Config}
use Rattle.jr_word.specs.declared.fault.Fault.{Fault}
use Rattle.jr_word.specs.declared.fault.Fault.TheVariants.{Foreign, LocalsFull, NoFrame, Stale}
use Rattle.jr_word.specs.declared.handle.Handle.{Handle}
use Rattle.jr_word.specs.declared.handle.RefKind.TheVariants.{Local}
use Rattle.jr_model.specs.Programs.{handle, perhaps}
use Rattle.jr_world.specs.World.{Ref, World, added, all_but_last, ask, delete, refuse_where, held, Meaning, change}
use Rattle.jr_world.specs.World.{goes_on, new_local, newest_frame, object, object_in, push, refused_if, removed}
use Rattle.jr_world.specs.World.{room_for, standing_at, type_meant}
use Rattle.jr_world.specs.Doing.{Act, Shared, as_left, as_seen, atom, by_step, deleted_in_steps, freed_in_steps}
use Rattle.jr_world.specs.Doing.{given_up_in_steps, is_foreign_to, named, named_both, over_world, own_or_shared}
use Rattle.jr_world.specs.Doing.{popped_in_steps, typed}
use Rattle.jr_scripts.proofs.OneRow.Alike.{frames_of}
use Rattle.jr_scripts.proofs.OneRow.Blind.{frames_blind}
use Rattle.jr_scripts.proofs.OneRow.Ends.{all_flat}
use Rattle.jr_scripts.proofs.Apart.Goes.{Goes, act_goes, anywhere, ended_goes, goes_bind, look_goes, step_goes}
use Rattle.jr_scripts.proofs.Apart.Grown.{added_leaps, frame_stays, framed_within, looks_on, new_word, ref_to}
use Rattle.jr_scripts.proofs.Apart.Grown.{still_leaps, with_ref}
use Rattle.jr_scripts.proofs.Apart.Leads.{Leaps, ResultFor, result_same}
use Rattle.jr_scripts.proofs.Apart.Mirrors.{Asks, HasObject, Mirrors}
use Rattle.jr_scripts.proofs.Apart.Numbers.{HasKnown, HasWord, IsFor, KnownFor, Numbers, Of, WordFor, extends_through}
use Rattle.jr_scripts.proofs.Apart.Numbers.{known_later, known_of, number_stays, object_of, ref_in, ref_of, same}
use Rattle.jr_scripts.proofs.Apart.Numbers.{word_later, word_of}
use Rattle.jr_scripts.proofs.Apart.Places.{AllIn, delete_steps, framed_steps, held_is, own_is, push_steps}
use Rattle.jr_scripts.proofs.Apart.Places.{removed_steps, type_steps}

abbrev pub BothFor : Of (Option ℕ × Option ℕ)
BothFor k x y = KnownFor k x.0 y.0 × KnownFor k x.1 y.1

module _ {c : Config} {t : ℕ} where
  -- a step at a word that is handed in
  by_word : {A : Type 0} {Q : Of A} {k : Numbers} (act : ℕ → Act A) (h w : ℕ) → WordFor k h w
      → ((luck : Bool) (j : Numbers) (q : Asks) (s z : Shared) → Mirrors t j s z → HasWord j w
      → Leaps c t j q s z (act (word_of j w) t luck s).1 j q (act w 0 true z).1
      × ResultFor (Q j) (act (word_of j w) t luck s).0 (act w 0 true z).0)
      → Goes c t anywhere Q k (by_step (act h)) (by_step (act w))
  by_word {Q = Q} act h w for so = step_goes (act h) (act w) (λ luck j q s z more m at.
      let it = word_later more h w for in
      subst (λ g. (i : Numbers) × Leaps c t j q s z (act g t luck s).1 i q (act w 0 true z).1
      × ResultFor (Q i) (act g t luck s).0 (act w 0 true z).0) (sym it.0)
      (j, (so luck j q s z m it.1).0, (so luck j q s z m it.1).1))

  -- WHOSE IT IS
  own_goes : {k : Numbers} (h w : ℕ) → WordFor k h w → Goes c t anywhere same k (own_or_shared h) (own_or_shared w)
  own_goes h w for = by_word (λ n u luck s. (cond (is_foreign_to u s n) (Err Foreign) (Ok tt), s)) h w for
      (λ luck j q s z m has. let own = own_is m w has in
      (still_leaps m, result_same (ap (λ b. cond b (Err Foreign) (Ok tt)) (own.0 ∙ sym own.1))))

  -- the object of a reference
  object_goes : {k : Numbers} (h w : ℕ) → WordFor k h w
      → Goes c t anywhere KnownFor k (atom (object h)) (atom (object w))
  object_goes h w for = by_word (λ n. over_world (object n)) h w for (λ luck j q s z m has. go w j q s z m has)
    where
      known : (j : Numbers) (x y : Option Ref) → x ≡ ref_in j y → HasObject j y
          → ResultFor (KnownFor j) (object_in x) (object_in y)
      known j x None is has = subst (λ x. ResultFor (KnownFor j) (object_in x) (Err Stale)) (sym is) refl
      known j x (Some r) is has =
          subst (λ x. ResultFor (KnownFor j) (object_in x) (Ok r.object)) (sym is) (refl, has)

      go : (w : ℕ) (j : Numbers) (q : Asks) (s z : Shared) → Mirrors t j s z → HasWord j w
          → Leaps c t j q s z (over_world (object (word_of j w)) t true s).1 j q (over_world (object w) 0 true z).1
          × ResultFor (KnownFor j) (object (word_of j w) (as_seen t s)).0 (object w (as_seen 0 z)).0
      go zero j q s z m has = (looks_on m, (refl, tt))
      go (suc n) j q s z m has = (
        looks_on m,
        known j (standing_at s.refs (ref_of j n)) (standing_at z.refs n) (m.refs n (omega arith))
            (m.alone.have_objects n),
      )

  pub named_goes : {k : Numbers} (h w : ℕ) → WordFor k h w → Goes c t anywhere KnownFor k (named h) (named w)
  named_goes h w for = goes_bind (own_goes h w for) (λ j more x y is. object_goes h w (word_later more h w for))

  pub both_goes : {k : Numbers} (h g w v : ℕ) → WordFor k h w → WordFor k g v
      → Goes c t anywhere BothFor k (named_both h g) (named_both w v)
  both_goes h g w v one other = goes_bind (own_goes h w one)
      (λ i a x y is. goes_bind (own_goes g v (word_later a g v other))
      (λ j b x y is. let ab = extends_through a b in goes_bind (object_goes h w (word_later ab h w one))
      (λ l d x y first. goes_bind (object_goes g v (word_later (extends_through ab d) g v other))
      (λ i e o u second. ended_goes (Ok (x, o)) (Ok (y, u)) (λ j f.
      (known_later (extends_through e f) x y first, known_later f o u second))))))

  pub typed_goes : {k : Numbers} (h w : ℕ) → WordFor k h w
      → Goes c t anywhere same k (by_step (typed h)) (by_step (typed w))
  typed_goes h w for = by_word typed h w for (λ luck j q s z m has.
      go luck j q s z m has (is_foreign_to t s (word_of j w)) (is_foreign_to 0 z w) (own_is m w has))
    where
      go : (luck : Bool) (j : Numbers) (q : Asks) (s z : Shared) → Mirrors t j s z → HasWord j w → (b d : Bool)
          → (b ≡ false) × (d ≡ false)
          → (let x : Result ℕ Fault × Shared = cond b (Ok 0, s) (over_world (type_meant (word_of j w)) t luck s) in
          let y : Result ℕ Fault × Shared = cond d (Ok 0, z) (over_world (type_meant w) 0 true z) in
          Leaps c t j q s z x.1 j q y.1 × ResultFor (λ x y. x ≡ y) x.0 y.0)
      go luck j q s z m has false false own = type_steps c q m w has
      go luck j q s z m has true d own = let bad = own.0 in absurd cc
      go luck j q s z m has false true own = let bad = own.1 in absurd cc

  pub deleted_goes : {k : Numbers} (h w : ℕ) → WordFor k h w
      → Goes c t anywhere same k (deleted_in_steps h) (deleted_in_steps w)
  deleted_goes h w for = goes_bind (own_goes h w for) (λ i more x y is.
      by_word (λ n. over_world (delete n)) h w (word_later more h w for)
      (λ luck j q s z m has. delete_steps c q m w has))

  -- what is refused alike
  refuses_go : {k : Numbers} (f g : World → Bool) (e : Fault)
      → ((j : Numbers) (s z : Shared) → Mirrors t j s z → f (as_seen t s) ≡ g (as_seen 0 z))
      → Goes c t anywhere same k (atom (refuse_where f e)) (atom (refuse_where g e))
  refuses_go f g e so = look_goes (λ w. refused_if (f w) e) (λ w. refused_if (g w) e)
      (λ j s z more m at. result_same (ap (λ b. refused_if b e) (so j s z m)))

  pub room_goes : {k : Numbers} (n : ℕ) → Goes c t anywhere same k (atom (room_for c n)) (atom (room_for c n))
  room_goes n = refuses_go (λ w. nat_lt c.locals (held w + n)) (λ w. nat_lt c.locals (held w + n)) LocalsFull
      (λ j s z m. ap (λ h. nat_lt c.locals (h + n)) (held_is m))

  pub push_goes : {k : Numbers} (n : ℕ) → Goes c t anywhere same k (atom (push c n)) (atom (push c n))
  push_goes n = act_goes (push c n) (push c n) (λ j q s z more m at. push_steps c q m n)

  -- A LOCAL REFERENCE, none to nothing
  pub local_goes : {k : Numbers} (x y : Option ℕ) → KnownFor k x y
      → Goes c t anywhere (λ j. IsFor j (perhaps handle)) k (atom (new_local c x)) (atom (new_local c y))
  local_goes x y for = step_goes (over_world (new_local c x)) (over_world (new_local c y))
      (λ luck j q s z more m at. let it = known_later more x y for in
      subst (λ v. New j q s z (new_local c v (as_seen t s)) (new_local c y (as_seen 0 z))) (sym it.0)
      (go j q s z m y it.1))
    where
      New : Numbers → Asks → Shared → Shared → Result (Option Handle) Fault × World
          → Result (Option Handle) Fault × World → Type 0
      New j q s z x y = (i : Numbers) × Leaps c t j q s z (as_left t s x.1) i q (as_left 0 z y.1)
          × ResultFor (IsFor i (perhaps handle)) x.0 y.0

      next : ℕ → Unit {0} → Meaning (Option Handle)
      next o v w = (Ok (Some (record { 0 = length (w.refs ++ ref_to Local o ∷ []) })), (added o w).1)

      fits : (j : Numbers) (q : Asks) (s z : Shared) → Mirrors t j s z → (o : ℕ) → o < length j.objects
          → (b d : Bool) → b ≡ d → New j q s z (goes_on (next (object_of j o)) (refused_if b LocalsFull, as_seen t s))
          (goes_on (next o) (refused_if d LocalsFull, as_seen 0 z))
      fits j q s z m o there true true is = (j, looks_on m, refl)
      fits j q s z m o there false false is = (
        with_ref j s,
        added_leaps m o there (omega arith) (omega arith) (omega arith),
        new_word m (ref_to Local (object_of j o)) (ref_to Local o),
      )
      fits j q s z m o there true false is = absurd cc
      fits j q s z m o there false true is = absurd cc

      go : (j : Numbers) (q : Asks) (s z : Shared) → Mirrors t j s z → (y : Option ℕ) → HasKnown j y
          → New j q s z (new_local c (known_of j y) (as_seen t s)) (new_local c y (as_seen 0 z))
      go j q s z m None has = (j, looks_on m, tt)
      go j q s z m (Some o) has = fits j q s z m o has (nat_lt c.locals (held (as_seen t s) + 1))
          (nat_lt c.locals (held (as_seen 0 z) + 1)) (ap (λ h. nat_lt c.locals (h + 1)) (held_is m))

-- numbers of references
abbrev NumbersFor : Of (List ℕ)
NumbersFor k x y = (x ≡ map (ref_of k) y) × AllByRecursion (λ n. n < length k.refs) y

newest_alike : (f : ℕ → ℕ) (fs : List (List ℕ)) → newest_frame (map (map f) fs) ≡ map f (newest_frame fs)
newest_alike f [] = refl
newest_alike f (g ∷ []) = refl
newest_alike f (g ∷ h ∷ fs) = newest_alike f (h ∷ fs)

flat_alike : (f : ℕ → ℕ) (fs : List (List ℕ)) → flat_map (λ x. x) (map (map f) fs) ≡ map f (flat_map (λ x. x) fs)
flat_alike f [] = refl
flat_alike f (g ∷ gs) = ap (λ l. map f g ++ l) (flat_alike f gs) ∙ sym (map-append f g (flat_map (λ x. x) gs))

newest_all : (P : ℕ → Type 0) (fs : List (List ℕ)) → AllIn P fs → AllByRecursion P (newest_frame fs)
newest_all P [] all = tt
newest_all P (g ∷ []) all = all.0
newest_all P (g ∷ h ∷ fs) all = newest_all P (h ∷ fs) all.1

but_last_alike : (f : ℕ → ℕ) (fs : List (List ℕ)) → all_but_last (map (map f) fs) ≡ map (map f) (all_but_last fs)
but_last_alike f [] = refl
but_last_alike f (g ∷ []) = refl
but_last_alike f (g ∷ h ∷ fs) = ap (λ l. map f g ∷ l) (but_last_alike f (h ∷ fs))

module _ {c : Config} {t : ℕ} where
  given_goes : {k : Numbers} (ns : List ℕ) → AllByRecursion (λ n. n < length k.refs) ns
      → Goes c t anywhere same k (given_up_in_steps (map (ref_of k) ns)) (given_up_in_steps ns)
  given_goes [] all = ended_goes (Ok tt) (Ok tt) (λ j more. refl)
  given_goes {k} (n ∷ ns) all = goes_bind {P = same} (act_goes (change (removed (ref_of k n))) (change (removed n))
      (λ j q s z more m at. let it = number_stays more n all.0 in (
        subst (λ l. Leaps c t j q s z (as_left t s (removed l (as_seen t s))) j q
            (as_left 0 z (removed n (as_seen 0 z)))) it.0 (removed_steps m n it.1),
        refl,
      )))
      (λ j more x y is. subst (λ l. Goes c t anywhere same j (given_up_in_steps l) (given_up_in_steps ns))
      (frame_stays more ns all.1)
      (given_goes ns (all_weaker (λ n less. (number_stays more n less).1) ns all.1)))

  -- numbers that frames tell are given up
  told_goes : {k : Numbers} (x y : List ℕ) → NumbersFor k x y
      → Goes c t anywhere same k (given_up_in_steps x) (given_up_in_steps y)
  told_goes {k} x y is = subst (λ l. Goes c t anywhere same k (given_up_in_steps l) (given_up_in_steps y)) (sym is.0)
      (given_goes y is.1)

  -- the references that frames have
  frames_told : {k : Numbers} (f : List (List ℕ) → List ℕ)
      → ((g : ℕ → ℕ) (fs : List (List ℕ)) → f (map (map g) fs) ≡ map g (f fs))
      → ((P : ℕ → Type 0) (fs : List (List ℕ)) → AllIn P fs → AllByRecursion P (f fs))
      → Goes c t anywhere NumbersFor k (atom (ask (λ w. f w.frames))) (atom (ask (λ w. f w.frames)))
  frames_told f alike all = look_goes (λ w. Ok (f w.frames)) (λ w. Ok (f w.frames)) (λ j s z more m at. (
    ap f m.frames ∙ alike (ref_of j) (frames_of z 0),
    all (λ n. n < length j.refs) (frames_of z 0) (framed_within m.alone),
  ))

  -- frames change alike
  frames_go : {k : Numbers} (f : List (List ℕ) → List (List ℕ))
      → ((g : ℕ → ℕ) (fs : List (List ℕ)) → f (map (map g) fs) ≡ map (map g) (f fs))
      → ((Q : ℕ → Type 0) (fs : List (List ℕ)) → AllIn Q fs → AllIn Q (f fs)) → Goes c t anywhere same k
      (atom (change (λ w. record w { frames = f w.frames }))) (atom (change (λ w. record w { frames = f w.frames })))
  frames_go f alike fewer = act_goes (change (λ w. record w { frames = f w.frames }))
      (change (λ w. record w { frames = f w.frames })) (λ j q s z more m at. (
        framed_steps m (f (frames_of s t)) (f (frames_of z 0)) (ap f m.frames ∙ alike (ref_of j) (frames_of z 0))
            ((frames_blind f fewer).lays (as_seen t s)) ((frames_blind f fewer).lays (as_seen 0 z)),
        refl,
      ))

  -- frames go, and all
  pub popped_goes : {k : Numbers} (h w : ℕ) → WordFor k h w
      → Goes c t anywhere (λ j. IsFor j (perhaps handle)) k (popped_in_steps c h) (popped_in_steps c w)
  popped_goes h w for = goes_bind (refuses_go deep deep NoFrame (λ j s z m. ap (λ l. nat_lt l 2) (as_many m)))
      (λ i a u v so. goes_bind (named_goes h w (word_later a h w for))
      (λ j b x y known. goes_bind (refuses_go (full x) (full y) LocalsFull
      (λ l s z m e. some x y j known e && (held_is m e == newest_is m e + c.locals)))
      (λ d e u v so. goes_bind (frames_told newest_frame newest_alike newest_all)
      (λ f g ns os told. goes_bind (told_goes ns os told)
      (λ l n u v so. goes_bind (frames_go all_but_last but_last_alike fewer)
      (λ o r u v so. local_goes x y
      (known_later (extends_through (extends_through (extends_through e g) n) r) x y known)))))))
    where
      deep : World → Bool
      deep w = nat_lt (length w.frames) 2

      full : Option ℕ → World → Bool
      full o w = is_some o && (held w == length (newest_frame w.frames) + c.locals)

      as_many : {k : Numbers} {s z : Shared} → Mirrors t k s z → length (frames_of s t) ≡ length (frames_of z 0)
      as_many {k} {s} {z} m = ap length m.frames ∙ length-map (frames_of z 0) (map (ref_of k))

      newest_is : {k : Numbers} {s z : Shared} → Mirrors t k s z
          → length (newest_frame (frames_of s t)) ≡ length (newest_frame (frames_of z 0))
      newest_is {k} {s} {z} m = ap (λ fs. length (newest_frame fs)) m.frames
          ∙ (ap length (newest_alike (ref_of k) (frames_of z 0)) ∙ length-map (newest_frame (frames_of z 0)) (ref_of k))

      some : (x y : Option ℕ) (j : Numbers) → KnownFor j x y → is_some x ≡ is_some y
      some x None j known = ap is_some known.0
      some x (Some o) j known = ap is_some known.0

      fewer : (Q : ℕ → Type 0) (fs : List (List ℕ)) → AllIn Q fs → AllIn Q (all_but_last fs)
      fewer Q [] all = tt
      fewer Q (f ∷ []) all = tt
      fewer Q (f ∷ g ∷ fs) all = (all.0, fewer Q (g ∷ fs) all.1)

  pub freed_goes : {k : Numbers} → Goes c t anywhere same k freed_in_steps freed_in_steps
  freed_goes = goes_bind (frames_told (flat_map (λ f. f)) flat_alike all_flat)
      (λ j more x y is. goes_bind (told_goes x y is)
      (λ i after u v so. frames_go (λ fs. [] ∷ []) (λ g fs. refl) (λ Q fs all. (tt, tt))))
