-- The one history of a row that keeps its rule.
use Rattle.std.proofs.Common.{◌≡◌, ◌⊎◌, ⊎_elim, inl, inr, ◌+◌, ◌<◌, ◌≤◌, ℕ, zero, suc, ◌==◌, Bool, true, false}
use Rattle.std.proofs.Common.{cond, List, [], ◌∷◌, ◌++◌, refl, sym, ap, subst, ◌∙◌, arith}
use Rattle.std.specs.List.{AllByRecursion}
use Rattle.std.proofs.lemmas.List.{append-nil}
use mathlib.Core.List.{IsPrefix}
use mathlib.Core.Option.{some, some-injective, some-ne-none}
use lib.ListN.{get_elem?}
use Rattle.jr_word.specs.declared.config.Config.{Config}
use Rattle.jr_model.specs.declared.event.Event.{Event}
use Rattle.jr_model.specs.State.{State}
use Rattle.jr_model.specs.History.{History, state, IsLegal, IsLegalFrom, mine}
use Rattle.jr_model.proofs.Histories.{legal_append, mine_append}
use Rattle.jr_model.proofs.KeptLaws.{lawful}
use Rattle.jr_model.proofs.Moments.{prefix_trans}
use Rattle.jr_model.proofs.Stays.{append_cancel}
use Rattle.jr_model.proofs.Updates.{eq_self, eq_true}
use Rattle.jr_steps.specs.declared.known.Known.{Known}
use Rattle.jr_rule.specs.declared.rule.View.{View}
use Rattle.jr_rule.specs.Passes.{IsSeenIn}
use Rattle.jr_rule.specs.Rule.{Row, Kept, AreBeginnings, total, is_of, passes_of}
use Rattle.jr_rule.specs.History.{IsSeenAt, IsHistoryAt}
use Rattle.jr_rule.proofs.Ended.{seen_in}
use Rattle.jr_rule.proofs.Gathered.{nobody_acted}

-- PASSES AT A ROW

-- the pass is one of these
abbrev pub IsIn : Known → List Known → Type 0
IsIn k [] = ⊥
IsIn k (x ∷ xs) = (x ≡ k) ⊎ IsIn k xs

-- it is one of those at a seat of the row
pub record IsPassAt (r : Row) (k : Known) : Type 0 where
  pub seat : ℕ
  pub v : View
  pub there : get_elem? r.views seat ≡ some v
  pub among : IsIn k v.passes

all_at : {A : Type 0} (P : A → Type 0) (xs : List A) (i : ℕ) (x : A) → AllByRecursion P xs
    → get_elem? xs i ≡ some x → P x
all_at P [] i x all e = absurd (some-ne-none x (sym e))
all_at P (y ∷ ys) zero x all e = subst P (some-injective y x e) all.0
all_at P (y ∷ ys) (suc i) x all e = all_at P ys i x all.1 e

all_of : {A : Type 0} (P : A → Type 0) (xs : List A) → ((i : ℕ) (x : A) → get_elem? xs i ≡ some x → P x)
    → AllByRecursion P xs
all_of P [] each = tt
all_of P (x ∷ xs) each = (each 0 x refl, all_of P xs (λ i y e. each (suc i) y e))

all_in : (P : Known → Type 0) (k : Known) (ks : List Known) → AllByRecursion P ks → IsIn k ks → P k
all_in P k [] all i = absurd i
all_in P k (x ∷ ks) all i = ⊎_elim (λ (e : x ≡ k). subst P e all.0) (λ (h : IsIn k ks). all_in P k ks all.1 h) i

in_all : (P : Known → Type 0) (ks : List Known) → ((k : Known) → IsIn k ks → P k) → AllByRecursion P ks
in_all P [] each = tt
in_all P (k ∷ ks) each = (each k (inl refl), in_all P ks (λ x i. each x (inr i)))

noted_in : (c : Config) (log : History) (ns : List Known) → AreBeginnings c log ns
    → AllByRecursion (λ n. IsPrefix n.seen log) ns
noted_in c log [] noted = tt
noted_in c log (n ∷ ns) noted = (noted.0.1, noted_in c log ns noted.1)

pub seen_of : (log : History) (r : Row) → AllByRecursion (IsSeenAt log) r.views → (k : Known) → IsPassAt r k
    → IsSeenIn log k
seen_of log r all k p =
    all_in (IsSeenIn log) k (p.v).passes (all_at (IsSeenAt log) r.views p.seat p.v all p.there).0 p.among

one_pass : (t : ℕ) (k : Known) (ks : List Known) (b : Bool) → (k.thread == t) ≡ b → 1 ≤ is_of t k + total (is_of t) ks
    → (1 ≤ total (is_of t) ks → (x : Known) × (x.thread ≡ t) × IsIn x ks)
    → (x : Known) × (x.thread ≡ t) × IsIn x (k ∷ ks)
one_pass t k ks true e h later = (k, eq_true k.thread t e, inl refl)
one_pass t k ks false e h later =
    let none : is_of t k ≡ 0 = ap (λ b. cond b 1 0) e in
    let rest = later (omega arith) in (rest.0, rest.1, inr rest.2)

find_pass : (t : ℕ) (ks : List Known) → 1 ≤ total (is_of t) ks → (k : Known) × (k.thread ≡ t) × IsIn k ks
find_pass t [] h = absurd (omega arith)
find_pass t (k ∷ ks) h = one_pass t k ks (k.thread == t) refl h (find_pass t ks)

one_view : (t : ℕ) (v : View) (vs : List View) (n : ℕ) → passes_of t v ≡ n → 1 ≤ passes_of t v + total (passes_of t) vs
    → (1 ≤ total (passes_of t) vs → (i : ℕ) × (w : View) × (get_elem? vs i ≡ some w) × (1 ≤ passes_of t w))
    → (i : ℕ) × (w : View) × (get_elem? (v ∷ vs) i ≡ some w) × (1 ≤ passes_of t w)
one_view t v vs zero e h later = let rest = later (omega arith) in (suc rest.0, rest.1, rest.2, rest.3)
one_view t v vs (suc n) e h later = (0, v, refl, omega arith)

find_view : (t : ℕ) (vs : List View) → 1 ≤ total (passes_of t) vs
    → (i : ℕ) × (v : View) × (get_elem? vs i ≡ some v) × (1 ≤ passes_of t v)
find_view t [] h = absurd (omega arith)
find_view t (v ∷ vs) h = one_view t v vs (passes_of t v) refl h (find_view t vs)

-- each thread of the room has its pass at the row
pub pass_of : (c : Config) (last : ℕ) (r : Row) → Kept last c r → (t : ℕ) → t < c.threads
    → (k : Known) × (k.thread ≡ t) × IsPassAt r k
pass_of c last r kept t h =
    let one = kept.once t h in
    let at = find_view t r.views (omega arith) in
    let found = find_pass t (at.1).passes at.3 in
    (found.0, found.1, record { seat = at.0; v = at.1; there = at.2; among = found.2 })

-- WHAT A BEGINNING LACKS

nil_left : {A : Type 0} (xs ys : List A) → xs ++ ys ≡ [] → ys ≡ []
nil_left [] ys e = e
nil_left (x ∷ xs) ys e = absurd cc

-- a rest without an event of the last one's thread is empty
rest_none : (p more es : History) (e : Event) → p ++ more ≡ es ++ e ∷ [] → mine more e.thread ≡ [] → more ≡ []
rest_none [] more es e is none =
    let own : mine (e ∷ []) e.thread ≡ e.act ∷ [] = ap (λ b. cond b (e.act ∷ []) []) (eq_self e.thread) in
    let all : mine more e.thread ≡ mine es e.thread ++ e.act ∷ [] =
    ap (λ l. mine l e.thread) is ∙ (mine_append es (e ∷ []) e.thread ∙ ap (λ l. mine es e.thread ++ l) own) in
    let no = nil_left (mine es e.thread) (e.act ∷ []) (sym all ∙ none) in absurd cc
rest_none (x ∷ p) more [] e is none = let rest : p ++ more ≡ [] = cc in nil_left p more rest
rest_none (x ∷ p) more (y ∷ es) e is none = let rest : p ++ more ≡ es ++ e ∷ [] = cc in rest_none p more es e rest none

-- whoever took the last event has seen the whole
pub seen_whole : (es : History) (e : Event) (k : Known) → IsSeenIn (es ++ e ∷ []) k → k.thread ≡ e.thread
    → k.seen ≡ es ++ e ∷ []
seen_whole es e k s same =
    let log : History = es ++ e ∷ [] in
    let more : History = s.begins.0 in
    let none : mine more k.thread ≡ [] = append_cancel (mine k.seen k.thread) (mine more k.thread) []
    (sym (mine_append k.seen more k.thread) ∙ (ap (λ l. mine l k.thread) s.begins.1
    ∙ (s.own ∙ sym (append-nil (mine k.seen k.thread))))) in
    let gone = rest_none k.seen more es e s.begins.1 (subst (λ t. mine more t ≡ []) same none) in
    sym (append-nil k.seen) ∙ (ap (λ l. k.seen ++ l) (sym gone) ∙ s.begins.1)

at_end : (es : History) → (es ≡ []) ⊎ ((before : History) × (e : Event) × (es ≡ before ++ e ∷ []))
at_end [] = inl refl
at_end (x ∷ es) = ⊎_elim
    (λ (h : es ≡ []). inr ([], x, ap (λ l. x ∷ l) h))
    (λ (h : (before : History) × (e : Event) × (es ≡ before ++ e ∷ [])). inr (x ∷ h.0, h.1, ap (λ l. x ∷ l) h.2))
    (at_end es)

-- A PASS GOES ON from one row to another, where its thread adds these events of its own
pub record GoesOn (r r' : Row) (es : History) (t : ℕ) : Type 0 where
  pub k : Known
  pub k' : Known
  pub is : k.thread ≡ t
  pub is' : k'.thread ≡ t
  pub old : IsPassAt r k
  pub new : IsPassAt r' k'
  pub begins : IsPrefix k.seen k'.seen
  pub own : mine k'.seen t ≡ mine k.seen t ++ mine es t

module _ (c : Config) (last : ℕ) (r r' : Row) (log log' es : History) (legal : IsLegal c last log)
    (legal' : IsLegal c last log') (seen : AllByRecursion (IsSeenAt log) r.views)
    (seen' : AllByRecursion (IsSeenAt log') r'.views) (goes : (t : ℕ) → t < c.threads → GoesOn r r' es t) where
  -- the old history is what one of the passes has seen, and so begins the new one
  later : IsPrefix log log'
  later = ⊎_elim
      (λ (h : log ≡ []). (log', ap (λ l. l ++ log') h))
      (λ (h : (before : History) × (e : Event) × (log ≡ before ++ e ∷ [])).
      let e = h.1 in
      let parts = (legal_append c last h.0 (e ∷ [])).0 (subst (IsLegal c last) h.2 legal) in
      let g = goes e.thread parts.1.0.0 in
      let whole = seen_whole h.0 e g.k (subst (λ l. IsSeenIn l g.k) h.2 (seen_of log r seen g.k g.old)) g.is in
      subst (λ l. IsPrefix l log') (whole ∙ sym h.2) (prefix_trans (g.k).seen (g.k').seen log' g.begins
      (seen_of log' r' seen' g.k' g.new).begins))
      (at_end log)

  -- and what comes behind it are these events, thread by thread
  rest_is : (t : ℕ) → t < c.threads → mine later.0 t ≡ mine es t
  rest_is t h =
      let g = goes t h in
      let was : mine log t ≡ mine (g.k).seen t =
      subst (λ u. mine log u ≡ mine (g.k).seen u) g.is (seen_of log r seen g.k g.old).own in
      let is : mine log' t ≡ mine (g.k').seen t =
      subst (λ u. mine log' u ≡ mine (g.k').seen u) g.is' (seen_of log' r' seen' g.k' g.new).own in
      append_cancel (mine log t) (mine later.0 t) (mine es t) (sym (mine_append log later.0 t)
      ∙ (ap (λ l. mine l t) later.1 ∙ (is ∙ (g.own ∙ ap (λ l. l ++ mine es t) (sym was)))))

  legal_rest : IsLegalFrom c last (state log) later.0
  legal_rest = ((legal_append c last log later.0).0 (subst (IsLegal c last) (sym later.1) legal')).1

  pub grows : ((s : State) (rest : History) → IsLegalFrom c last s rest
      → ((t : ℕ) → t < c.threads → mine rest t ≡ mine es t) → rest ≡ es) → log' ≡ log ++ es
  grows same = sym later.1 ∙ ap (λ l. log ++ l) (same (state log) later.0 legal_rest rest_is)

stays : (r : Row) (t : ℕ) (k : Known) → k.thread ≡ t → IsPassAt r k → GoesOn r r [] t
stays r t k is at = record {
  k = k;
  k' = k;
  is = is;
  is' = is;
  old = at;
  new = at;
  begins = ([], append-nil k.seen);
  own = sym (append-nil (mine k.seen t));
}

-- THE RULE GIVES ITS HISTORY, and there is no other
pub history_at : (c : Config) (last : ℕ) (r : Row) (kept : Kept last c r) → IsHistoryAt c last r kept.log
history_at c last r kept = record {
  legal = kept.legal;
  lawful = lawful c last kept.log kept.legal;
  seen = seen;
  only = λ es legal all.
      let is = grows c last r r es kept.log [] legal kept.legal all seen
      (λ t h. let p = pass_of c last r kept t h in stays r t p.0 p.1 p.2)
      (λ s rest l none. nobody_acted c last s rest l none) in
      sym (is ∙ append-nil es);
}
  where
    seen : AllByRecursion (IsSeenAt kept.log) r.views
    seen = all_of (IsSeenAt kept.log) r.views (λ j v there. (
      seen_in c last kept.log kept.held v.passes (kept.each j v there),
      noted_in c kept.log v.notes (kept.noted j v there),
    ))

-- who took the last event has seen the whole, at each seat
abbrev HasSeen : History → Event → Known → Type 0
HasSeen es e k = k.thread ≡ e.thread → k.seen ≡ es ++ e ∷ []

pub behind : (c : Config) (last : ℕ) (r : Row) (es : History) (e : Event) → IsHistoryAt c last r (es ++ e ∷ [])
    → AllByRecursion (λ v. AllByRecursion (HasSeen es e) v.passes) r.views
behind c last r es e h = all_of (λ v. AllByRecursion (HasSeen es e) v.passes) r.views (λ j v there.
    in_all (HasSeen es e) v.passes (λ k among same. seen_whole es e k (seen_of (es ++ e ∷ []) r h.seen k
    (record { seat = j; v = v; there = there; among = among })) same))

-- where no pass has seen anything nothing has happened
pub nothing : (c : Config) (last : ℕ) (r : Row) → Kept last c r → ((k : Known) → IsPassAt r k → k.seen ≡ [])
    → IsHistoryAt c last r []
nothing c last r kept none = subst (IsHistoryAt c last r) (⊎_elim
    (λ (h : kept.log ≡ []). h)
    (λ (h : (before : History) × (e : Event) × (kept.log ≡ before ++ e ∷ [])).
    let e = h.1 in
    let parts = (legal_append c last h.0 (e ∷ [])).0 (subst (IsLegal c last) h.2 kept.legal) in
    let p = pass_of c last r kept e.thread parts.1.0.0 in
    let whole = seen_whole h.0 e p.0 (subst (λ l. IsSeenIn l p.0) h.2
    (seen_of kept.log r (history_at c last r kept).seen p.0 p.2)) p.1 in
    h.2 ∙ (sym whole ∙ none p.0 p.2))
    (at_end kept.log)) (history_at c last r kept)
