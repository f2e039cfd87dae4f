-- What the first thread learned of the others and collected, as its passes say.
use Rattle.std.proofs.Common.{◌≡◌, ◌⊎◌, inl, inr, ◌≤◌, ℕ, Bool, true, false, IsTrue, List, [], ◌∷◌, ◌++◌}
use Rattle.std.proofs.Common.{Result, Ok, Err}
use Rattle.std.proofs.Common.{IfOk, IfErr, map, refl, sym, ap, subst, ◌∙◌}
use Rattle.std.proofs.Math.Logic.{∥∥₁_elim}
use Rattle.std.proofs.Props.{props}
use Rattle.std.proofs.lemmas.List.{append-nil}
use Rattle.std.specs.List.{AllByRecursion}
use mathlib.Core.List.{IsPrefix, map-append}
use mathlib.Core.Logic.{∥∥₁_map}
use Rattle.atomic_table.specs.Seated.{TableId}
use Rattle.jr_word.specs.declared.config.Config.{Config}
use Rattle.jr_word.specs.declared.fault.Fault.{Fault}
use Rattle.jr_word.specs.declared.fault.Fault.TheVariants.{Busy}
use Rattle.jr_model.specs.declared.event.Act.{Act}
use Rattle.jr_model.specs.declared.event.Act.TheVariants.{ShutBusy}
use Rattle.jr_model.specs.declared.event.Role.{Role}
use Rattle.jr_model.specs.declared.event.Role.TheVariants.{Outside}
use Rattle.jr_model.specs.declared.summary.Summary.{Summary}
use Rattle.jr_model.specs.Decided.{is_legal}
use Rattle.jr_model.specs.History.{Did, History, IsLegal, mine, role_of}
use Rattle.jr_model.proofs.Deciding.{legal_is}
use Rattle.jr_model.proofs.Exactly.{append_all}
use Rattle.jr_model.proofs.Moments.{prefix_trans}
use Rattle.jr_steps.specs.declared.known.Known.{Known}
use Rattle.jr_steps.specs.Knowing.{Facts, Goes, HasStoredNone, Took, anything, keeps, view}
use Rattle.jr_steps.proofs.StepFacts.{goes_did}
use Rattle.jr_rule.specs.declared.pass.Pass.{Pass}
use Rattle.jr_rule.specs.Cells.{IsStanding, facts_at}
use Rattle.jr_rule.specs.Passes.{ClosesAll, HasEachPass, HasPass, PassStands, known_of, stands_of}
use Rattle.jr_rule.specs.Rule.{SeatState, stepping_pass}
use Rattle.jr_rule.specs.Sights.{sight_of_seat}
use Rattle.jr_weak.specs.declared.collecting.Collected.{Collected}
use Rattle.jr_weak.specs.Collecting.{MakesCollection}
use Rattle.jr_threads.specs.Closing.{ClosesSwept, HasSweptAll, LearnsAll, LearnsAndSweeps, WasKeptOut}
use Rattle.jr_threads.specs.Closing.{HasNoGarbage}
use Rattle.jr_threads.proofs.Closed.{all_later, end_state, none_inside, not_kept_out}
use Rattle.jr_threads.proofs.Garbage.{leaves_nothing}

-- LEARNING

-- one pass more of which all was learned
pub learns_more : (k j m : Known) (xs ys : List Pass) (p : Pass) → xs ≡ ys ++ p ∷ [] → Goes k [] j
    → IsPrefix (known_of p).seen j.seen → LearnsAll j m (map known_of ys) → LearnsAll k m (map known_of xs)
learns_more k j m xs ys p is goes first rest =
    let d = goes_did goes in record {
      config = rest.config ∙ d.config;
      last = rest.last ∙ d.last;
      thread = rest.thread ∙ d.thread;
      begins = prefix_trans k.seen j.seen m.seen d.begins rest.begins;
      own = subst (λ t. mine m.seen t ≡ mine j.seen t) d.thread rest.own ∙ (d.own ∙ append-nil (mine k.seen k.thread));
      all = subst (AllByRecursion (λ (z : Known). IsPrefix z.seen m.seen))
          (sym (ap (map known_of) is ∙ map-append known_of ys (p ∷ [])))
          (append_all (λ (z : Known). IsPrefix z.seen m.seen) (map known_of ys) (known_of p ∷ []) rest.all
          (prefix_trans (known_of p).seen j.seen m.seen first rest.begins, tt));
    }

-- what was done behind the learning was done
pub learned_did : (k m k' : Known) (ks : List Known) (acts : List Act) → LearnsAll k m ks → Did (view m) (view k') acts
    → Did (view k) (view k') acts
learned_did k m k' ks acts l d = record {
  config = d.config ∙ l.config;
  last = d.last ∙ l.last;
  thread = d.thread ∙ l.thread;
  legal = subst (λ (z : Config × ℕ). IsLegal z.0 z.1 k'.seen) (λ i. (l.config i, l.last i)) d.legal;
  begins = prefix_trans k.seen m.seen k'.seen l.begins d.begins;
  own = subst (λ t. mine k'.seen t ≡ mine m.seen t ++ acts) l.thread d.own ∙ ap (λ xs. xs ++ acts) l.own;
}

-- COLLECTING

-- a history that is legal is so, whatever shows it
legal_so : (c : Config) (last : ℕ) (es : History) → ∥ IsLegal c last es ∥₁ → IsLegal c last es
legal_so c last es l = go (is_legal c last es) refl where
  go : (b : Bool) → is_legal c last es ≡ b → IsLegal c last es
  go true e = (legal_is c last es).0 (subst (λ z. IsTrue z) (sym e) refl)
  go false e = absurd (∥∥₁_elim l (hlevel props) (λ z.
      let yes = (legal_is c last es).1 z in let no = subst (λ y. IsTrue y) e yes in cc))

-- who sits at a seat knows what it shows
pub knows_own : (id : TableId) (m : SeatState) {role : Role} {fresh : Bool} {hint : ℕ}
    → IsStanding (sight_of_seat id m) role fresh hint
    → (facts_at (sight_of_seat id m) role fresh hint).knows (stepping_pass m)
knows_own id m {role = role} s = (
  refl,
  record {
    config = refl;
    last = refl;
    thread = refl;
    role = ∥∥₁_elim s.some (hlevel props) (λ k. subst (λ z. role_of (view z) ≡ role) (k.1).0 (k.1).1.role);
    legal = legal_so (stepping_pass m).config (stepping_pass m).last (stepping_pass m).seen
        (∥∥₁_map s.some (λ k. subst (λ (z : Known). IsLegal z.config z.last z.seen) (k.1).0 (k.1).1.legal));
    unused = λ f p. ∥∥₁_elim s.some (hlevel props) (λ k. subst HasStoredNone (k.1).0 ((k.1).1.unused f) p);
  },
)

-- a collection that was made left nothing
pub swept_made : {S : Type 0} (facts : S → Facts) (just : S → Known) (a b : S)
    → ((k : Known) → (facts b).knows k → k ≡ just b) → (facts a).knows (just a) → {cleared dropped used : ℕ}
    → MakesCollection facts a b cleared dropped used → HasSweptAll (view (just a)) (view (just b))
swept_made facts just a b only knows {used = used} made =
    let x = made.went.leads (just a) knows tt in
    subst (λ k. HasSweptAll (view (just a)) (view k)) (only x.0 x.1) (record {
      cleared = made.cleared;
      dropped = made.dropped;
      used = used;
      did = x.2.did;
      nothing = leaves_nothing (view (just a)) (view x.0) made.cleared made.dropped used x.2 x.3.1.0 x.3.1.1;
    })

-- a collection was made, or refused
pub swept_or : {S : Type 0} (facts : S → Facts) (just : S → Known) (a b : S) (r : Result Collected Fault)
    → ((k : Known) → (facts b).knows k → k ≡ just b) → (facts a).knows (just a)
    → IfOk r (λ c. MakesCollection facts a b c.cleared c.dropped c.used)
    → IfErr r (λ e. (n : ℕ) × (e ≡ Busy n) × (1 ≤ n) × Took facts a b (ShutBusy n ∷ []) anything keeps)
    → HasSweptAll (view (just a)) (view (just b)) ⊎ WasKeptOut (just a) (just b)
swept_or facts just a b (Ok c) only knows made none = inl (swept_made facts just a b only knows made)
swept_or facts just a b (Err e) only knows none kept =
    let x = kept.3.goes (just a) knows tt in
    inr (subst (λ k. WasKeptOut (just a) k) (only x.0 x.1) (record { count = kept.0; some = kept.2; goes = x.2 }))

-- PASSES THAT STAND AS THEY DID

pub same_known : (xs ys : List Pass) → map stands_of ys ≡ map stands_of xs → map known_of ys ≡ map known_of xs
same_known [] [] e = refl
same_known [] (y ∷ ys) e = absurd cc
same_known (x ∷ xs) [] e = absurd cc
same_known (x ∷ xs) (y ∷ ys) e =
    let first : stands_of y ≡ stands_of x = cc in
    let rest : map stands_of ys ≡ map stands_of xs = cc in
    λ i. (first i).knows ∷ same_known xs ys rest i

pub same_outside : (xs ys : List Pass) → map stands_of ys ≡ map stands_of xs
    → AllByRecursion (λ (p : Pass). p.role ≡ Outside) xs → AllByRecursion (λ (p : Pass). p.role ≡ Outside) ys
same_outside [] [] e o = tt
same_outside [] (y ∷ ys) e o = absurd cc
same_outside (x ∷ xs) [] e o = absurd cc
same_outside (x ∷ xs) (y ∷ ys) e o =
    let first : stands_of y ≡ stands_of x = cc in
    let rest : map stands_of ys ≡ map stands_of xs = cc in
    (ap (λ (z : PassStands). z.role) first ∙ o.0, same_outside xs ys rest o.1)

-- the first is of the thread that it was of, so each thread has its pass
pub same_each : (c : Config) (k k' : Known) (ks ks' : List Known) → k'.thread ≡ k.thread → ks' ≡ ks
    → HasEachPass c (k ∷ ks) → HasEachPass c (k' ∷ ks')
same_each c k k' ks ks' one same each t l = subst (λ (z : ℕ × List Known). (z.0 ≡ t) ⊎ HasPass z.1 t)
    (λ i. (sym one i, sym same i)) (each t l)

module _ (k k' : Known) (ks : List Known) (w : LearnsAndSweeps k k' ks) where
  pub swept_thread : k'.thread ≡ k.thread
  swept_thread = go w.then where
    go : HasSweptAll (view w.learned) (view k') ⊎ WasKeptOut w.learned k' → k'.thread ≡ k.thread
    go (inl h) = h.did.thread ∙ w.learns.thread
    go (inr b) = b.goes.thread ∙ w.learns.thread

  -- A ROOM THAT IS CLOSED SO is closed behind a collection: nobody was there to keep it out
  pub closes_swept : (s : Summary) → ClosesAll k' ks s → HasEachPass k'.config (k' ∷ ks) → ClosesSwept k ks s
  closes_swept s closes each = go w.then where
    go : HasSweptAll (view w.learned) (view k') ⊎ WasKeptOut w.learned k' → ClosesSwept k ks s
    go (inl h) =
        let all = all_later (w.learned).seen k'.seen ks h.did.begins w.learns.all in record {
          cleared = h.cleared;
          dropped = h.dropped;
          used = h.used;
          swept = k';
          did = learned_did k w.learned k' ks _ w.learns h.did;
          closes = closes;
          nothing = subst (HasNoGarbage k'.config) (sym (end_state k' ks s closes each all)) h.nothing;
        }
    go (inr b) =
        let all = all_later (w.learned).seen k'.seen ks (goes_did b.goes).begins w.learns.all in
        absurd (not_kept_out w.learned k' b (none_inside k' ks s closes each all))
