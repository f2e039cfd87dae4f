-- All elements of an object are copied, one after the other.
use Rattle.std.proofs.Common.{◌≡◌, ◌≢◌, ℕ, zero, suc, Result, List, [], map, Ok, Err, inl, inr, refl, sym, subst}
use Rattle.jr_word.specs.declared.fault.Fault.TheVariants.{Memory}
use Rattle.jr_word.specs.declared.header.HeaderParts.{HeaderParts}
use Rattle.jr_word.specs.declared.fault.Fault.{Fault}
use Rattle.jr_model.specs.declared.event.Act.{Act}
use Rattle.jr_model.specs.Frames.{Frames}
use Rattle.jr_model.specs.Calls.{unless_memory_for}
use Rattle.jr_model.specs.Parts.{read}
use Rattle.jr_model.proofs.Stays.{did_nothing}
use Rattle.jr_model.proofs.Windows.{window_nothing}
use Rattle.jr_steps.specs.Knowing.{AreOf, Facts, view}
use Rattle.jr_heap.specs.Heap.{Called, HoldsHeader, LeavesObject, by_steps}
use Rattle.jr_heap.proofs.Calling.{no_step}

-- all elements were read
is_read : (o n : ℕ) (f g : Frames) (acts : List Act) (answer : Result (List ℕ) Fault) → read o 0 n f acts answer g
    → unless_memory_for n (read o 0 n) f acts answer g
is_read o zero f g acts answer r = r
is_read o (suc n) f g acts answer r = inl r

-- no memory for one element at least
is_short : (o n : ℕ) (f : Frames) → n ≢ 0 → unless_memory_for n (read o 0 n) f [] (Err Memory) f
is_short o zero f some = absurd (some refl)
is_short o (suc n) f some = inr (refl, refl, refl)

module _ {S : Type 0} {facts : S → Facts} (fits : AreOf facts) (o : ℕ) (h : HeaderParts) where
  -- no memory for one element at least, and so no step
  pub copies_nothing : (n : ℕ) (a : S) → n ≢ 0
      → Called facts a a (HoldsHeader o h) (λ j k. unless_memory_for n (read o 0 n)) (Err Memory) (by_steps 0
      (LeavesObject o h))
  copies_nothing n a some = record {
    hint_is = refl;
    ran = λ k s m. (
      k,
      s,
      λ f. record {
        acts = [];
        did = did_nothing (view k) (fits a k s).legal;
        is = is_short o n f some;
        begun = k.seen;
        window = window_nothing (view k);
        grounds = tt;
      },
      ((m.shown, refl), no_step k),
    );
  }

  -- all of them
  pub copies_read : {E : Type 0} (f : E → ℕ) (n m : ℕ) (xs es : List E) (a b : S) → m ≡ n → xs ≡ es
      → Called facts a b (HoldsHeader o h) (λ j k. read o 0 m) (Ok (map f es)) (by_steps m (LeavesObject o h))
      → Called facts a b (HoldsHeader o h) (λ j k. unless_memory_for n (read o 0 n)) (Ok (map f xs)) (by_steps n
      (LeavesObject o h))
  copies_read f n m xs es a b many same q =
      let all = subst (λ (y : ℕ).
      Called facts a b (HoldsHeader o h) (λ j k. read o 0 y) (Ok (map f es)) (by_steps y (LeavesObject o h))) many q in
      let read : Called facts a b (HoldsHeader o h) (λ j k. read o 0 n) (Ok (map f xs))
      (by_steps n (LeavesObject o h)) = subst (λ (ys : List _). Called facts a b (HoldsHeader o h) (λ j k. read o 0 n)
      (Ok (map f ys)) (by_steps n (LeavesObject o h))) (sym same) all in
      record {
        hint_is = read.hint_is;
        ran = λ k s m.
            let x = read.ran k s m in (
              x.0,
              x.1,
              λ g. (let r = x.2 g in record {
                acts = r.acts;
                did = r.did;
                is = is_read o n g _ r.acts _ r.is;
                begun = r.begun;
                window = r.window;
                grounds = r.grounds;
              }),
              x.3,
            );
      }
