-- A room that was closed with the passes of all its threads, whose first had learned what the others had seen.
use Rattle.std.proofs.Common.{◌≡◌, ◌⊎◌, inl, inr, ⊎_elim, ◌<◌, ℕ, List, [], ◌∷◌, ◌++◌}
use Rattle.std.proofs.Common.{refl, sym, ap, subst, ◌∙◌, arith, append_assoc}
use Rattle.std.proofs.lemmas.List.{append-nil}
use Rattle.std.specs.List.{AllByRecursion}
use mathlib.Core.List.{IsPrefix}
use Rattle.jr_word.specs.declared.config.Config.{Config}
use Rattle.jr_model.specs.declared.event.Act.TheVariants.{Meet, ShutBusy}
use Rattle.jr_model.specs.declared.summary.Summary.{Summary}
use Rattle.jr_model.specs.State.{State, not_outside}
use Rattle.jr_model.specs.History.{History, by, mine, state, IsLegal}
use Rattle.jr_model.proofs.Histories.{legal_append, legal_push, mine_append, state_push}
use Rattle.jr_model.proofs.Moments.{prefix_self, prefix_trans}
use Rattle.jr_model.proofs.Stays.{append_cancel}
use Rattle.jr_steps.specs.declared.known.Known.{Known}
use Rattle.jr_steps.specs.Knowing.{state_of, Goes}
use Rattle.jr_steps.proofs.StepFacts.{goes_did}
use Rattle.jr_rule.specs.Passes.{ClosesAll, HasEachPass, HasPass, IsSeenIn}
use Rattle.jr_rule.proofs.Gathered.{nobody_acted}
use Rattle.jr_threads.specs.Closing.{WasKeptOut}

nil_front : {A : Type 0} (xs ys : List A) → xs ++ ys ≡ [] → xs ≡ []
nil_front [] ys e = refl
nil_front (x ∷ xs) ys e = absurd cc

-- a thread that did nothing since a moment did nothing since a later one
pub done_later : (xs ys zs : History) (t : ℕ) → IsPrefix xs ys → IsPrefix ys zs → mine zs t ≡ mine xs t
    → mine zs t ≡ mine ys t
done_later xs ys zs t p q done =
    let a : mine ys t ≡ mine xs t ++ mine p.0 t = ap (λ es. mine es t) (sym p.1) ∙ mine_append xs p.0 t in
    let b : mine zs t ≡ mine ys t ++ mine q.0 t = ap (λ es. mine es t) (sym q.1) ∙ mine_append ys q.0 t in
    let all = append_cancel (mine xs t) (mine p.0 t ++ mine q.0 t) []
    (sym (append_assoc (mine xs t) (mine p.0 t) (mine q.0 t))
    ∙ (ap (λ l. l ++ mine q.0 t) (sym a) ∙ (sym b ∙ (done ∙ sym (append-nil (mine xs t)))))) in
    let none = nil_front (mine p.0 t) (mine q.0 t) all in
    done ∙ (sym (append-nil (mine xs t)) ∙ (ap (λ l. mine xs t ++ l) (sym none) ∙ sym a))

-- where no thread of the room did anything since, nothing happened since
no_more : (c : Config) (last : ℕ) (xs ys : History) → IsLegal c last ys → IsPrefix xs ys
    → ((t : ℕ) → t < c.threads → mine ys t ≡ mine xs t) → ys ≡ xs
no_more c last xs ys legal p done =
    let none = nobody_acted c last (state xs) p.0
    ((legal_append c last xs p.0).0 (subst (IsLegal c last) (sym p.1) legal)).1
    (λ t l. append_cancel (mine xs t) (mine p.0 t) [] (sym (mine_append xs p.0 t)
    ∙ (ap (λ es. mine es t) p.1 ∙ (done t l ∙ sym (append-nil (mine xs t)))))) in
    sym p.1 ∙ (ap (λ l. xs ++ l) none ∙ append-nil xs)

-- others, of whom all was seen, did nothing since
pub others_done : (whole seen later : History) (t : ℕ) (ks : List Known) → IsPrefix seen later → IsPrefix later whole
    → AllByRecursion (IsSeenIn whole) ks → AllByRecursion (λ (j : Known). IsPrefix j.seen seen) ks → HasPass ks t
    → mine whole t ≡ mine later t
others_done whole seen later t [] p q s a h = absurd h
others_done whole seen later t (k ∷ ks) p q s a h = ⊎_elim
    (λ (e : k.thread ≡ t). subst (λ u. mine whole u ≡ mine later u) e
    (done_later k.seen later whole k.thread (prefix_trans k.seen seen later a.0 p) q (s.0).own))
    (λ (o : HasPass ks t). others_done whole seen later t ks p q s.1 a.1 o)
    h

-- what was seen earlier was seen later
pub all_later : (seen later : History) (ks : List Known) → IsPrefix seen later
    → AllByRecursion (λ (j : Known). IsPrefix j.seen seen) ks → AllByRecursion (λ (j : Known). IsPrefix j.seen later) ks
all_later seen later [] p a = tt
all_later seen later (k ∷ ks) p a = (prefix_trans k.seen seen later a.0 p, all_later seen later ks p a.1)

-- A ROOM IS CLOSED, and each other thread had done nothing since
module _ (k met : Known) (whole : History) (goes : Goes k (Meet ∷ []) met) (begins : IsPrefix met.seen whole)
    (own : mine whole met.thread ≡ mine met.seen met.thread) (legal : IsLegal met.config met.last whole)
    (still : (t : ℕ) → t < k.config.threads → (k.thread ≡ t) ⊎ (mine whole t ≡ mine k.seen t)) where
  abbrev between : History
  between = goes.between

  front_to : IsPrefix (k.seen ++ between) met.seen
  front_to = (by k.thread Meet ∷ [], sym goes.seen)

  seen_to : IsPrefix k.seen met.seen
  seen_to = prefix_trans k.seen (k.seen ++ between) met.seen (between, refl) front_to

  whole_is_met : whole ≡ met.seen
  whole_is_met = no_more k.config k.last met.seen whole
      (subst (λ (z : Config × ℕ). IsLegal z.0 z.1 whole) (λ i. (goes.config i, goes.last i)) legal) begins
      (λ t l. ⊎_elim
      (λ (e : k.thread ≡ t). subst (λ u. mine whole u ≡ mine met.seen u) (goes.thread ∙ e) own)
      (λ (d : mine whole t ≡ mine k.seen t). done_later k.seen met.seen whole t seen_to begins d)
      (still t l))

  none_between : k.seen ++ between ≡ k.seen
  none_between = no_more k.config k.last k.seen (k.seen ++ between)
      ((legal_push k.config k.last (k.seen ++ between) (by k.thread Meet)).0
      (subst (IsLegal k.config k.last) goes.seen goes.legal)).0 (between, refl) (λ t l. ⊎_elim
      (λ (e : k.thread ≡ t). subst (λ u. mine (k.seen ++ between) u ≡ mine k.seen u) e
      (mine_append k.seen between k.thread
      ∙ (ap (λ l. mine k.seen k.thread ++ l) goes.others ∙ append-nil (mine k.seen k.thread))))
      (λ (d : mine whole t ≡ mine k.seen t). sym (done_later k.seen (k.seen ++ between) whole t (between, refl)
      (prefix_trans (k.seen ++ between) met.seen whole front_to begins) d) ∙ d)
      (still t l))

  pub met_state : state_of met ≡ state_of k
  met_state = ap state goes.seen ∙ (state_push (k.seen ++ between) (by k.thread Meet) ∙ ap state none_between)

  -- what stands at the end is what stood behind all that this one did
  pub same_end : state whole ≡ state_of k
  same_end = ap state whole_is_met ∙ met_state

-- so it is where each other thread's pass is handed in, of which all was seen
module _ (k : Known) (others : List Known) (s : Summary) (closes : ClosesAll k others s)
    (each : HasEachPass k.config (k ∷ others))
    (all : AllByRecursion (λ (j : Known). IsPrefix j.seen k.seen) others) where
  abbrev whole : History
  whole = closes.ends.whole

  to_whole : IsPrefix k.seen whole
  to_whole = prefix_trans k.seen (closes.met).seen whole (goes_did closes.goes).begins closes.ends.first.begins

  still : (t : ℕ) → t < k.config.threads → (k.thread ≡ t) ⊎ (mine whole t ≡ mine k.seen t)
  still t l = ⊎_elim
      (λ (e : k.thread ≡ t). inl e)
      (λ (o : HasPass others t).
      inr (others_done whole k.seen k.seen t others (prefix_self k.seen) to_whole closes.ends.others all o))
      (each t l)

  pub end_state : state whole ≡ state_of k
  end_state = same_end k closes.met whole closes.goes closes.ends.first.begins closes.ends.first.own closes.ends.legal
      still

  -- and nobody was inside there
  pub none_inside : not_outside k.config (state_of k) ≡ 0
  none_inside = subst (λ (z : State). not_outside k.config z ≡ 0) (met_state k closes.met whole closes.goes
      closes.ends.first.begins closes.ends.first.own closes.ends.legal still) closes.nobody

-- whom nobody was there to keep out was not kept out
pub not_kept_out : (k k' : Known) → WasKeptOut k k' → not_outside k'.config (state_of k') ≡ 0 → ⊥
not_kept_out k k' w none =
    let g = w.goes in
    let t = k.thread in
    let front = k.seen ++ g.between in
    let needs = ((legal_push k.config k.last front (by t (ShutBusy w.count))).0
    (subst (IsLegal k.config k.last) g.seen g.legal)).1 in
    let same : state_of k' ≡ state front = ap state g.seen ∙ state_push front (by t (ShutBusy w.count)) in
    let zero : not_outside k.config (state front) ≡ 0 =
    subst (λ (z : Config × State). not_outside z.0 z.1 ≡ 0) (λ i. (g.config i, same i)) none in
    let is = needs.1.1 in
    let some = w.some in omega arith
