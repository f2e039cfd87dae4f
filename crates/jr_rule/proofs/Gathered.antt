-- The end of a room whose passes are handed in, where the first has seen all that the others did.
use Rattle.std.proofs.Common.{◌≡◌, ◌<◌, ℕ, cond, List, [], ◌∷◌, ◌++◌, refl, sym, ap, subst, ◌∙◌, ⊎_elim, append_assoc}
use Rattle.std.specs.List.{AllByRecursion}
use Rattle.std.proofs.lemmas.List.{append-nil}
use mathlib.Core.List.{IsPrefix}
use Rattle.jr_word.specs.declared.config.Config.{Config}
use Rattle.jr_model.specs.declared.event.Act.TheVariants.{Meet}
use Rattle.jr_model.specs.declared.summary.Summary.{Summary}
use Rattle.jr_model.specs.State.{State, summary}
use Rattle.jr_model.specs.Steps.{after}
use Rattle.jr_model.specs.History.{History, by, state, mine, IsLegal, IsLegalFrom}
use Rattle.jr_model.proofs.Histories.{legal_append, mine_append, state_push}
use Rattle.jr_model.proofs.Updates.{eq_self}
use Rattle.jr_model.proofs.Stays.{append_cancel}
use Rattle.jr_steps.specs.declared.known.Known.{Known}
use Rattle.jr_steps.specs.Knowing.{state_of}
use Rattle.jr_rule.specs.Passes.{IsSeenIn, ClosesAll, IsSeenOf, HasSeenAll}

nil_left : {A : Type 0} (xs ys : List A) → xs ++ ys ≡ [] → xs ≡ []
nil_left [] ys e = refl
nil_left (x ∷ xs) ys e = absurd cc

nil_right : {A : Type 0} (xs ys : List A) → xs ++ ys ≡ [] → ys ≡ []
nil_right [] ys e = e
nil_right (x ∷ xs) ys e = absurd cc

seen_all : (log : History) (k : Known) (t : ℕ) (p : Known) → IsPrefix k.seen log
    → mine log p.thread ≡ mine p.seen p.thread → p.thread ≡ t → IsPrefix p.seen k.seen → mine log t ≡ mine k.seen t
seen_all log k t p later own is earlier =
    let a : mine log t ≡ mine p.seen t = subst (λ z. mine log z ≡ mine p.seen z) is own in
    let b : mine k.seen t ≡ mine p.seen t ++ mine earlier.0 t =
    ap (λ es. mine es t) (sym earlier.1) ∙ mine_append p.seen earlier.0 t in
    let d : mine log t ≡ mine k.seen t ++ mine later.0 t =
    ap (λ es. mine es t) (sym later.1) ∙ mine_append k.seen later.0 t in
    let e = append_cancel (mine p.seen t) (mine earlier.0 t ++ mine later.0 t) []
    (sym (append_assoc (mine p.seen t) (mine earlier.0 t) (mine later.0 t))
    ∙ (ap (λ l. l ++ mine later.0 t) (sym b) ∙ (sym d ∙ (a ∙ sym (append-nil (mine p.seen t)))))) in
    let none = nil_left (mine earlier.0 t) (mine later.0 t) e in
    a ∙ (sym (append-nil (mine p.seen t)) ∙ (ap (λ l. mine p.seen t ++ l) (sym none) ∙ sym b))

own_of : (log : History) (k : Known) (t : ℕ) (ps : List Known) → IsPrefix k.seen log → AllByRecursion (IsSeenIn log) ps
    → IsSeenOf k t ps → mine log t ≡ mine k.seen t
own_of log k t [] later o s = absurd s
own_of log k t (p ∷ ps) later o s = ⊎_elim
    (λ (h : (p.thread ≡ t) × IsPrefix p.seen k.seen). seen_all log k t p later (o.0).own h.0 h.1)
    (λ (h : IsSeenOf k t ps). own_of log k t ps later o.1 h)
    s

-- where no thread of the room acted, nothing happened
pub nobody_acted : (c : Config) (last : ℕ) (s : State) (es : History) → IsLegalFrom c last s es
    → ((t : ℕ) → t < c.threads → mine es t ≡ []) → es ≡ []
nobody_acted c last s [] legal none = refl
nobody_acted c last s (e ∷ es) legal none =
    let here : mine (e ∷ es) e.thread ≡ e.act ∷ mine es e.thread =
    ap (λ b. cond b (e.act ∷ mine es e.thread) (mine es e.thread)) (eq_self e.thread) in
    absurd (let z = sym here ∙ none e.thread (legal.0).0 in cc)

module _ (k : Known) (others : List Known) (s : Summary) (closes : ClosesAll k others s)
    (all : HasSeenAll k others) where
  abbrev met : Known
  met = closes.met

  abbrev between : History
  between = closes.goes.between

  abbrev whole : History
  whole = closes.ends.whole

  abbrev rest : History
  rest = closes.ends.first.begins.0

  abbrev look : History
  look = by k.thread Meet ∷ []

  parts : whole ≡ ((k.seen ++ between) ++ look) ++ rest
  parts = sym closes.ends.first.begins.1 ∙ ap (λ es. es ++ rest) closes.goes.seen

  -- what thread t did
  did : (t : ℕ) → mine whole t ≡ mine k.seen t ++ (mine between t ++ (mine look t ++ mine rest t))
  did t =
      ap (λ es. mine es t) parts
      ∙ (mine_append ((k.seen ++ between) ++ look) rest t
      ∙ (ap (λ l. l ++ mine rest t) (mine_append (k.seen ++ between) look t
      ∙ ap (λ l. l ++ mine look t) (mine_append k.seen between t))
      ∙ (append_assoc (mine k.seen t ++ mine between t) (mine look t) (mine rest t)
      ∙ append_assoc (mine k.seen t) (mine between t) (mine look t ++ mine rest t))))

  quiet : (t : ℕ) → t < k.config.threads → (mine between t ≡ []) × (mine rest t ≡ [])
  quiet t h = ⊎_elim
      (λ (e : t ≡ k.thread).
      subst (λ u. (mine between u ≡ []) × (mine rest u ≡ [])) (sym e) (closes.goes.others, mine_rest))
      (λ (o : IsSeenOf k t others).
      let same = own_of whole k t others (
        between ++ (look ++ rest),
        sym (parts ∙ (append_assoc (k.seen ++ between) look rest ∙ append_assoc k.seen between (look ++ rest))),
      ) closes.ends.others o in
      let none = append_cancel (mine k.seen t) (mine between t ++ (mine look t ++ mine rest t)) [] (sym (did t)
      ∙ (same ∙ sym (append-nil (mine k.seen t)))) in (
        nil_left (mine between t) (mine look t ++ mine rest t) none,
        nil_right (mine look t) (mine rest t) (nil_right (mine between t) (mine look t ++ mine rest t) none),
      ))
      (all t h)
    where
      mine_rest : mine rest k.thread ≡ []
      mine_rest =
          let own : mine whole k.thread ≡ mine met.seen k.thread =
          subst (λ u. mine whole u ≡ mine met.seen u) closes.goes.thread closes.ends.first.own in
          append_cancel (mine met.seen k.thread) (mine rest k.thread) [] (sym (mine_append met.seen rest k.thread) ∙ (ap
          (λ es. mine es k.thread) closes.ends.first.begins.1 ∙ (own ∙ sym (append-nil (mine met.seen k.thread)))))

  legal_whole : IsLegal k.config k.last (((k.seen ++ between) ++ look) ++ rest)
  legal_whole = subst (IsLegal k.config k.last) parts (subst (λ (z : Config × ℕ). IsLegal z.0 z.1 whole)
      (λ i. (closes.goes.config i, closes.goes.last i)) closes.ends.legal)

  front : IsLegal k.config k.last (k.seen ++ between)
      × IsLegalFrom k.config k.last (state (k.seen ++ between)) (look ++ rest)
  front = (legal_append k.config k.last (k.seen ++ between) (look ++ rest)).0
      (subst (IsLegal k.config k.last) (append_assoc (k.seen ++ between) look rest) legal_whole)

  between_none : between ≡ []
  between_none = nobody_acted k.config k.last (state k.seen) between
      ((legal_append k.config k.last k.seen between).0 front.0).1 (λ t h. (quiet t h).0)

  rest_none : rest ≡ []
  rest_none = nobody_acted k.config k.last (after (state (k.seen ++ between)) (by k.thread Meet)) rest front.1.1 (λ t h.
      (quiet t h).1)

  whole_is : whole ≡ k.seen ++ look
  whole_is =
      parts ∙ (ap (λ (z : History × History). ((k.seen ++ z.0) ++ look) ++ z.1) (λ i. (between_none i, rest_none i))
      ∙ (append-nil ((k.seen ++ []) ++ look) ∙ ap (λ es. es ++ look) (append-nil k.seen)))

  state_same : state whole ≡ state_of k
  state_same = ap state whole_is ∙ state_push k.seen (by k.thread Meet)

  -- nothing happened since
  pub exactly : s ≡ summary k.config k.last (state_of k)
  exactly = closes.ends.is ∙ (λ i. summary (closes.goes.config i) (closes.goes.last i) (state_same i))
