-- The last level is given up.
use Rattle.std.proofs.Common.{◌≡◌, ◌==◌, ◌≤◌, ◌++◌, ◌+◌, ◌-◌, ℕ, zero, suc, true, false, Some, None}
use Rattle.std.proofs.Common.{List, [], ◌∷◌, length, take, Ok, refl, sym, ap, subst, ◌∙◌, arith}
use Rattle.std.proofs.lemmas.Bool.Decides.{nat_tests}
use Rattle.std.proofs.lemmas.List.{length-append, length-map}
use mathlib.Core.Logic.{∥∥₁_map}
use Rattle.jr_model.specs.declared.event.Role.TheVariants.{Outside}
use Rattle.jr_model.specs.declared.event.Act.TheVariants.{Gate}
use Rattle.jr_model.specs.declared.event.GateAct.TheVariants.{Leave}
use Rattle.jr_model.specs.Calls.{Ran}
use Rattle.jr_model.specs.Frames.{Frames}
use Rattle.jr_model.specs.History.{PassView, IsLegal}
use Rattle.jr_model.specs.Parts.{region_release}
use Rattle.jr_model.proofs.Runs.{ran_done}
use Rattle.jr_steps.specs.declared.known.Known.{Known}
use Rattle.jr_steps.specs.Knowing.{AreOf, Facts, Holds, Leads, anything, view, lets_go, Took}
use Rattle.jr_gate.specs.Stays.{IsOwnStay}
use Rattle.jr_gate.specs.Performing.{IsMade, thread_state}
use Rattle.jr_gate.proofs.SameRoom.{as_before}
use Rattle.jr_gate.proofs.Spending.{made_of, spend_none}
use Rattle.jr_frames.specs.Table.{Table}
use Rattle.jr_frames.proofs.StillReady.{exit_made}
use Rattle.jr_critical.specs.declared.level.Level.{Level}
use Rattle.jr_critical.specs.declared.levels.Levels.{Levels}
use Rattle.jr_critical.specs.Levels.{AreKnown, GivesUpAll, GivesUpLast, KnowsLevels, Stand, objects_of}
use Rattle.jr_critical.proofs.KnownLevels.{known_before}

-- a list with an element more
pub record Longer (xs ys : List Level) : Type 0 where
  pub last : Level
  pub is : xs ≡ ys ++ last ∷ []

-- the levels before the last
pub last_of : (xs ys : List Level) → 1 ≤ length xs → ys ≡ take (length xs - 1) xs → Longer xs ys
last_of [] ys some e = absurd (omega arith)
last_of (x ∷ []) ys some e = record { last = x; is = ap (λ l. l ++ x ∷ []) (sym e) }
last_of (x ∷ y ∷ xs) ys some e =
    let inner : length xs ≡ suc (length xs) - 1 = omega arith in
    let outer : suc (suc (length xs)) - 1 ≡ suc (length xs) = omega arith in
    let z = last_of (y ∷ xs) (take (length xs) (y ∷ xs)) (omega arith) (ap (λ n. take n (y ∷ xs)) inner) in
    record {
      last = z.last;
      is = ap (λ l. x ∷ l) z.is ∙ ap (λ l. l ++ z.last ∷ []) (sym (e ∙ ap (λ n. take n (x ∷ y ∷ xs)) outer));
    }

one_more : {xs ys : List Level} → Longer xs ys → length xs ≡ length ys + 1
one_more {xs} {ys} z = ap length z.is ∙ length-append ys (z.last ∷ [])

is_none : (n : ℕ) → (n == 0) ≡ true → n ≡ 0
is_none n e = grind (arith, nat_tests)

is_some : (n : ℕ) → (n == 0) ≡ false → 1 ≤ n
is_some n e = grind (arith, nat_tests)

-- there are as many objects as levels
pub count : (v : Levels) → length (objects_of v) ≡ length v.levels.items
count v = length-map v.levels.items (λ (l : Level). l.object)

some_levels : (v : Levels) → 1 ≤ length (objects_of v) → 1 ≤ length v.levels.items
some_levels v some = subst (λ n. 1 ≤ n) (count v) some

-- with a level left, a release is nothing
more_left : (p : PassView) (f : Frames) (n : ℕ) → 2 ≤ n → IsLegal p.config p.last p.seen
    → Ran p p f f (region_release n) (Ok tt)
more_left p f zero few l = absurd (omega arith)
more_left p f (suc zero) few l = absurd (omega arith)
more_left p f (suc (suc n)) few l = ran_done p f tt l

module _ {S : Type 0} {facts : S → Facts} {a : S} {t : Table} {v : Levels} (stand : Stand facts v a t) (ys : List Level)
    (rest : ys ≡ take (length v.levels.items - 1) v.levels.items) where
  abbrev longer : Longer v.levels.items ys
  longer = last_of v.levels.items ys (some_levels v stand.some) rest

  module _ {b : S} (empty : (length ys == 0) ≡ true) (took : Took facts a b (Gate Leave ∷ []) anything lets_go) where
    one_level : length (objects_of v) ≡ 1
    one_level = let e = one_more longer in let z = is_none (length ys) empty in count v ∙ (omega arith)

    pub closes_first : GivesUpLast facts a b t.frames v None
    closes_first = record {
      stands_is = as_before (record ((facts a).stands) { role = Outside }) took.stands_is;
      ran = subst (λ n. Leads facts a b (KnowsLevels v t.frames) (λ k k'. IsMade 0 (thread_state (facts a) k t.frames)
          (thread_state (facts b) k' t.frames) (region_release n) (Ok tt)) (λ j k. lets_go j k × Holds t.frames k))
          (sym one_level) (exit_made t.frames (λ k m. m.1) took);
    }

  module _ (left : (length ys == 0) ≡ false) (w : Levels) (same : w.levels.items ≡ ys) where
    known_left : (k : Known) → AreKnown v.levels.items k → AreKnown w.levels.items k
    known_left k known =
        subst (λ l. AreKnown l k) (sym same) (known_before ys longer.last k (subst (λ l. AreKnown l k) longer.is known))

    two_levels : 2 ≤ length (objects_of v)
    two_levels = let e = one_more longer in let z = is_some (length ys) left in
        subst (λ n. 2 ≤ n) (sym (count v)) (omega arith)

    pub closes_last : (fits : AreOf facts) → GivesUpLast facts a a t.frames v (Some w)
    closes_last fits = record {
      stands_is = record { room = refl; config = refl; last = refl; thread = refl; role = stand.ready.role_is };
      ran = λ k s m.
          let l = (fits a k s).legal in (
            k,
            s,
            made_of (spend_none (facts a) k t.frames t.frames l)
                (more_left (view k) t.frames (length (objects_of v)) two_levels l),
            ((known_left k m.0, refl), m.1),
          );
    }

    pub stand_left : w.inside ≡ v.inside → Stand facts w a t
    stand_left stay = record {
      stay = subst (λ i. IsOwnStay i (facts a).stands) (sym stay) stand.stay;
      ready = stand.ready;
      some = let z = is_some (length ys) left in subst (λ n. 1 ≤ n) (sym (count w ∙ ap length same)) z;
      known = ∥∥₁_map stand.known (λ k. (k.0, k.1, (known_left k.0 k.2.0, k.2.1)));
    }

-- all levels are given up
pub closes_all : {S : Type 0} {facts : S → Facts} {a b : S} {f : Frames} {v : Levels}
    → Took facts a b (Gate Leave ∷ []) anything lets_go → GivesUpAll facts a b f v
closes_all {facts = facts} {a = a} {f = f} took = record {
  stands_is = as_before (record ((facts a).stands) { role = Outside }) took.stands_is;
  ran = exit_made f (λ k m. m.1) took;
}
