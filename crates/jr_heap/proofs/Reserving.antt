-- Space is reserved by one look and one exchange.
use Rattle.std.proofs.Common.{arith, ◌≡◌, ◌≢◌, ◌≤◌, ◌<◌, ◌+◌, ◌-◌, ◌==◌, ℕ, zero, suc, false, cond, None}
use Rattle.std.proofs.Common.{List, [], ◌∷◌, ◌++◌, length, Ok, Err, inl, inr, refl, sym, ap, subst, ◌∙◌}
use mathlib.Core.Logic.{∥∥₁_map}
use Rattle.std.proofs.Math.Logic.{∥∥₁_elim}
use Rattle.std.proofs.lemmas.List.{append-nil}
use Rattle.std.proofs.lemmas.Bool.{lt-ltb, le-ltb}
use Rattle.std.proofs.lemmas.Bool.Decides.{nat_tests}
use Rattle.jr_word.specs.declared.config.Config.{Config}
use Rattle.jr_word.specs.declared.fault.Fault.TheVariants.{SpaceFull, Raced}
use Rattle.jr_model.specs.declared.event.Role.TheVariants.{Within}
use Rattle.jr_model.specs.declared.event.Act.TheVariants.{Reserve, ReserveFull, ReserveLost}
use Rattle.jr_model.specs.State.{State}
use Rattle.jr_model.specs.History.{History, by, state, IsLegal, Did}
use Rattle.jr_model.specs.Frames.{Frames}
use Rattle.jr_model.specs.Parts.{reserve}
use Rattle.jr_model.proofs.Updates.{eq_self}
use Rattle.jr_model.proofs.Histories.{legal_push}
use Rattle.jr_model.proofs.Moments.{raced, sometime_last}
use Rattle.jr_model.proofs.Stays.{did_then, role_did}
use Rattle.jr_model.proofs.Windows.{window_act}
use Rattle.jr_steps.specs.declared.known.Known.{Known}
use Rattle.jr_steps.specs.declared.known.Holdings.{Holdings}
use Rattle.jr_steps.specs.declared.loads.TopLoad.TheVariants as top
use Rattle.jr_steps.specs.Acts.{acts_of_top_load}
use Rattle.jr_steps.specs.Holdings.{words_at, with_range}
use Rattle.jr_steps.specs.Knowing.{AreLone, AreOf, Facts, Standing, MayKnow, view, anything}
use Rattle.jr_steps.specs.Knowing.{keeps, ShowsUsed, WasUsed, ShowsRange, Took, Takes}
use Rattle.jr_steps.proofs.StepFacts.{goes_did, none_between, used_now, may_then}
use Rattle.jr_heap.specs.Heap.{Called, by_steps, reserve_steps, IsOwn, Gains}
use Rattle.jr_heap.proofs.Calling.{no_step, called_by, called_none}

reserved : (n : ℕ) → n ≢ 0 → (f : Frames) → reserve n f (Reserve n ∷ []) (Ok tt) f
reserved zero some f = absurd (some refl)
reserved (suc n) some f = inl (refl, refl, refl)

full : (n u : ℕ) → n ≢ 0 → (f : Frames) → reserve n f (ReserveFull n u ∷ []) (Err (SpaceFull u)) f
full zero u some f = absurd (some refl)
full (suc n) u some f =
    inr (inl (inl (u, f, ReserveFull (suc n) u ∷ [], [], refl, (u, refl, refl, refl), (refl, refl, refl))))

lost : (n l u : ℕ) → n ≢ 0 → (f : Frames) → reserve n f (ReserveLost n l u ∷ []) (Err (Raced l u)) f
lost zero l u some f = absurd (some refl)
lost (suc n) l u some f =
    inr (inr (inl ((l, u), f, ReserveLost (suc n) l u ∷ [], [], refl, ((l, u), refl, refl, refl), (refl, refl, refl))))

gains : (n place : ℕ) (j k : Known) → n ≢ 0 → (ws : List ℕ) → length ws ≡ n
    → k.holdings ≡ with_range j.holdings place ws → words_at place j.holdings.ranges ≡ [] → ShowsUsed (place + n) k
    → Gains n place j k
gains zero place j k some ws long g none used = absurd (some refl)
gains (suc n) place j k some ws long g none used = (ws, long, g, none, used)

two_steps : (k j l : Known) → Takes 1 k j → Takes 1 j l → Takes 2 k l
two_steps k j l a b = omega arith

reserved_steps : (n : ℕ) (k l : Known) → n ≢ 0 → Takes 2 k l → Takes (reserve_steps n) k l
reserved_steps zero k l some t = absurd (some refl)
reserved_steps (suc n) k l some t = t

-- more words than are free do not fit beside those that are used, where none are free too
pub over : (u : ℕ) {n w z free wide : ℕ} → wide ≡ free → free ≡ z - u → z ≡ w → wide < n → w < u + n
over u p q r l = omega arith

-- some words that are no more than are free do
pub within : (u : ℕ) {n w z free wide : ℕ} → wide ≡ free → free ≡ z - u → z ≡ w → n ≢ 0 → n ≤ wide → u + n ≤ w
within u p q r some l = omega arith

-- the look does not fit, or it does
named_full : (words n u : ℕ) → words < u + n → acts_of_top_load words (top.Full n) u ≡ ReserveFull n u ∷ []
named_full words n u l = ap (λ b. cond b (ReserveFull n u ∷ []) []) (lt-ltb words (u + n) l)

named_look : (words n u : ℕ) → u + n ≤ words → acts_of_top_load words (top.Full n) u ≡ []
named_look words n u l = ap (λ b. cond b (ReserveFull n u ∷ []) []) (le-ltb words (u + n) l)

suc_not_zero : (n : ℕ) → (suc n == 0) ≡ false
suc_not_zero n = grind (arith, nat_tests)

-- the words of a range that was just reserved
pub own_range : (place n : ℕ) (j k : Known) (ws : List ℕ) → length ws ≡ n → k.holdings ≡ with_range j.holdings place ws
    → IsOwn place n k
own_range place zero j k ws long e = refl
own_range place (suc n) j k ws long e = ap (λ b. length (cond b [] (words_at place k.holdings.ranges))) (suc_not_zero n)
    ∙ (ap (λ (h : Holdings). length (words_at place h.ranges)) e
    ∙ (ap (λ b. length (cond b ws (words_at place j.holdings.ranges))) (eq_self place) ∙ long))

module _ {S : Type 0} {facts : S → Facts} {a b : S} (fits : AreOf facts) (inside : (facts a).stands.role ≡ Within)
    (n u words : ℕ) (some : n ≢ 0)
    (looked : Took facts a b (acts_of_top_load words (top.Full n) u) anything (λ j k. ShowsUsed u k × keeps j k)) where
  pub reserve_full : words < u + n → Called facts a b anything (λ j k. reserve n) (Err (SpaceFull u)) (by_steps 1 keeps)
  reserve_full l = called_by looked.hint_is (λ k s m.
      let g = looked.goes k s tt in
      let d : Did (view k) (view g.0) (ReserveFull n u ∷ []) =
      subst (λ xs. Did (view k) (view g.0) xs) (named_full words n u l) (goes_did g.2) in (
        g.0,
        g.1,
        ReserveFull n u ∷ [],
        record {
          did = d;
          is = full n u some;
          window = window_act (ReserveFull n u) d tt tt;
          grounds = (n, tt);
          shows = (g.3.1, g.2.taken);
        },
      ))

  module _ (room : u + n ≤ words) where
    first : (k : Known) → (facts a).knows k
        → (j : Known) × (facts b).knows j × Did (view k) (view j) [] × ShowsUsed u j × keeps k j × Takes 1 k j
    first k s = let g = looked.goes k s tt in (
      g.0,
      g.1,
      subst (λ xs. Did (view k) (view g.0) xs) (named_look words n u room) (goes_did g.2),
      g.3.0,
      g.3.1,
      g.2.taken,
    )

    -- what was looked at was used in this stay
    was_used : (k : Known) (s : (facts a).knows k) → WasUsed u (first k s).0
    was_used k s = let j = first k s in used_now u j.0 (role_did [] j.2 ∙ ((fits a k s).role ∙ inside)) j.3

    pub may_reserve : MayKnow facts a anything → MayKnow facts b (WasUsed u)
    may_reserve some = ∥∥₁_map some (λ k. let j = first k.0 k.1 in (j.0, j.1, was_used k.0 k.1))

    pub reserve_won : {c : S} → Took facts b c (Reserve n ∷ []) (WasUsed u) (ShowsRange u n (Ok tt))
        → Called facts a c anything (λ j k. reserve n) (Ok tt) (by_steps (reserve_steps n) (Gains n u))
    reserve_won t = called_by (t.hint_is ∙ looked.hint_is) (λ k s m.
        let j = first k s in
        let g = t.goes j.0 j.1 (was_used k s) in
        let e : g.0.holdings ≡ with_range k.holdings u g.3.0 = g.3.2 ∙ ap (λ h. with_range h u g.3.0) j.4 in
        let d = did_then [] (Reserve n ∷ []) j.2 (goes_did g.2) in (
          g.0,
          g.1,
          Reserve n ∷ [],
          record {
            did = d;
            is = reserved n some;
            window = window_act (Reserve n) d tt tt;
            grounds = tt;
            shows = (
              gains n u k g.0 some g.3.0 g.3.1 e (subst (λ (h : Holdings). words_at u h.ranges ≡ []) j.4 g.3.3) g.3.4,
              reserved_steps n k g.0 some (two_steps k j.0 g.0 j.5 g.2.taken),
            );
          },
        ))

    pub reserve_lost : {c : S} (found : ℕ) → ((k : Known) → (facts a).knows k → k.config.words ≡ words)
        → Took facts b c (ReserveLost n u found ∷ []) (WasUsed u) (ShowsRange u n (Err found))
        → Called facts a c anything (λ j k. reserve n) (Err (Raced u found)) (by_steps 2 keeps)
    reserve_lost found same t = called_by (t.hint_is ∙ looked.hint_is) (λ k s m.
        let j = first k s in
        let g = t.goes j.0 j.1 (was_used k s) in
        let d = did_then [] (ReserveLost n u found ∷ []) j.2 (goes_did g.2) in
        let room_here : u + n ≤ g.0.config.words =
        subst (λ z. u + n ≤ z) (sym (ap (λ (c : Config). c.words) d.config ∙ same k s)) room in
        let e : g.0.holdings ≡ k.holdings = g.3 ∙ j.4 in (
          g.0,
          g.1,
          ReserveLost n u found ∷ [],
          record {
            did = d;
            is = lost n u found some;
            window = window_act (ReserveLost n u found) d tt tt;
            grounds = (n, raced k.seen n u found (sometime_last j.2.begins j.3) (goes_did g.2) room_here);
            shows = (e, two_steps k j.0 g.0 j.5 g.2.taken);
          },
        ))

    -- where nobody else does anything, the reservation is not lost
    pub never_lost : AreLone facts → {c : S} (found : ℕ) → (facts a).stands.room ≡ None → MayKnow facts a anything
        → Took facts b c (ReserveLost n u found ∷ []) (WasUsed u) (ShowsRange u n (Err found)) → ⊥
    never_lost own {c} found none some t =
        let each : ((k : Known) × (facts a).knows k × anything k) → ⊥ = λ k.
        let j = first k.0 k.1 in
        let g = t.goes j.0 j.1 (was_used k.0 k.1) in
        let nobody : g.2.between ≡ [] = none_between g.2 (own c g.0
        (ap (λ (z : Standing). z.room) t.stands_is ∙ (ap (λ (z : Standing). z.room) looked.stands_is ∙ none)) g.1) in
        let before : History = j.0.seen ++ g.2.between in
        let needs = ((legal_push j.0.config j.0.last before (by j.0.thread (ReserveLost n u found))).0
        (subst (IsLegal j.0.config j.0.last) g.2.seen g.2.legal)).1.1 in
        let same : state before ≡ state j.0.seen = ap state (ap (λ l. j.0.seen ++ l) nobody ∙ append-nil j.0.seen) in
        needs.2 (needs.1 ∙ (ap (λ (s : State). s.used) same ∙ j.3)) in
        ∥∥₁_elim some (λ x y. absurd x) each

module _ {S : Type 0} {facts : S → Facts} {b c : S} where
  pub reserve_owned : (n u : ℕ) → MayKnow facts b (WasUsed u)
      → Took facts b c (Reserve n ∷ []) (WasUsed u) (ShowsRange u n (Ok tt)) → MayKnow facts c (IsOwn u n)
  reserve_owned n u may t = may_then t (λ k s m. m) may (λ j k s m g x. own_range u n j k x.0 x.1 x.2)

module _ {S : Type 0} {facts : S → Facts} (fits : AreOf facts) where
  -- no words are reserved by no step
  pub reserve_none : (a : S) (n place : ℕ) → n ≡ 0
      → Called facts a a anything (λ j k. reserve n) (Ok tt) (by_steps (reserve_steps n) (Gains n place))
  reserve_none a n place e =
      subst (λ m. Called facts a a anything (λ j k. reserve m) (Ok tt) (by_steps (reserve_steps m) (Gains m place)))
      (sym e) (called_none fits (λ k s m f. (refl, refl, refl)) (λ k. tt) (λ k. (refl, no_step k)))
