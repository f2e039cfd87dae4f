-- What an operation on a row adds to its one history.
use Rattle.std.proofs.Common.{◌≡◌, ◌≢◌, ◌⊎◌, ⊎_elim, inl, inr, ◌<◌, ℕ, zero, suc, ◌==◌, Bool, true, false}
use Rattle.std.proofs.Common.{cond, List, [], ◌∷◌, ◌++◌, map, slice_set, refl, sym, ap, subst, ◌∙◌, append_assoc}
use Rattle.std.proofs.Common.{eq-eqb}
use Rattle.std.specs.List.{AllByRecursion}
use Rattle.std.proofs.lemmas.List.{append-nil}
use mathlib.Core.Logic.{dite}
use mathlib.Core.Option.{some, some-injective, some-ne-none}
use native.Mathlib.Decide.{ℕ_discrete}
use lib.ListN.{get_elem?}
use Rattle.jr_rule.specs.declared.cells.StepKind.{Ghosts}
use Rattle.jr_model.specs.declared.event.Act.TheVariants.{Meet}
use Rattle.atomic_table.specs.Table.{opening}
use Rattle.atomic_table.proofs.Lists.{at_set, at_snoc, at_longer}
use Rattle.jr_word.specs.declared.config.Config.{Config}
use Rattle.jr_model.specs.declared.event.Act.{Act}
use Rattle.jr_model.specs.State.{State}
use Rattle.jr_model.specs.Steps.{after}
use Rattle.jr_model.specs.History.{History, by, IsLegalFrom, mine}
use Rattle.jr_model.proofs.Histories.{mine_append}
use Rattle.jr_model.proofs.Updates.{eq_self}
use Rattle.jr_steps.specs.declared.known.Known.{Known}
use Rattle.jr_steps.specs.Knowing.{Goes}
use Rattle.jr_rule.specs.declared.room.Room.{Room}
use Rattle.jr_rule.specs.declared.rule.Sizes.{Sizes}
use Rattle.jr_rule.specs.declared.rule.View.{View}
use Rattle.jr_rule.specs.Rule.{Row, Kept, EachFits, SeatState, Tells, LookedBy, CountedBy, view_of, newcomers}
use Rattle.jr_rule.specs.Rule.{first_of, others_of}
use Rattle.jr_rule.specs.History.{IsMoment, IsHistory, IsHistoryAt, Becomes, steps, cuts, joins, enters, Run, begins}
use Rattle.jr_rule.specs.History.{goes_on, HaveOneHistory, OpensWithNothing, GoesByOperations, StandsBehindAll}
use Rattle.jr_rule.specs.History.{TellsOfOperations, AllTellOfOperations}
use Rattle.jr_rule.proofs.Gathered.{nobody_acted}
use Rattle.jr_rule.proofs.RuleKept.OneHistory.{IsIn, IsPassAt, GoesOn, pass_of, grows, history_at, nothing, behind}
use Rattle.jr_rule.proofs.RuleKept.{mine_none}

-- at a moment of a room its rule is kept
pub at_room : (last : ℕ) (room : Room last) (r : Row) → IsMoment room r → Kept last room.row.config r
at_room last room r moment = subst (λ n. Kept n room.row.config r) room.last
    (subst (λ (z : Sizes). Kept z.last z.config r) room.row.key moment)

pub one : HaveOneHistory
one last room r moment = let kept = at_room last room r moment in (kept.log, history_at room.row.config last r kept)

-- WHAT COMES OF THE EVENTS OF A REST

none_behind : (b : Bool) (a : Act) (acts : List Act) → cond b (a ∷ acts) acts ≡ [] → acts ≡ []
none_behind true a acts e = absurd cc
none_behind false a acts e = e

-- events of no other thread's are all this one's
all_own : (c : Config) (last : ℕ) (t : ℕ) (s : State) (rest : History) → IsLegalFrom c last s rest
    → ((u : ℕ) → u < c.threads → u ≢ t → mine rest u ≡ []) → AllByRecursion (λ e. e.thread ≡ t) rest
all_own c last t s [] legal none = tt
all_own c last t s (e ∷ rest) legal none = (
  dite (ℕ_discrete e.thread t)
      (λ (is : e.thread ≡ t). is)
      (λ (other : e.thread ≢ t).
      let first : mine (e ∷ rest) e.thread ≡ e.act ∷ mine rest e.thread =
      ap (λ x. cond x (e.act ∷ mine rest e.thread) (mine rest e.thread)) (eq_self e.thread) in
      let no = sym first ∙ none e.thread legal.0.0 other in absurd cc),
  all_own c last t (after s e) rest legal.1 (λ u far other.
      none_behind (e.thread == u) e.act (mine rest u) (none u far other)),
)

mine_all : (t : ℕ) (acts : List Act) → mine (map (by t) acts) t ≡ acts
mine_all t [] = refl
mine_all t (a ∷ acts) = ap (λ x. cond x (a ∷ mine (map (by t) acts) t) (mine (map (by t) acts) t)) (eq_self t)
    ∙ ap (λ l. a ∷ l) (mine_all t acts)

own_events : (t : ℕ) (es : History) → AllByRecursion (λ e. e.thread ≡ t) es → es ≡ map (by t) (mine es t)
own_events t [] all = refl
own_events t (e ∷ es) all = (λ i. by (all.0 i) e.act ∷ own_events t es all.1 i)
    ∙ sym (ap (λ b. map (by t) (cond b (e.act ∷ mine es t) (mine es t))) (eq-eqb e.thread t all.0))

-- events of one thread's acts
same_acts : (c : Config) (last t : ℕ) → t < c.threads → (acts : List Act) (s : State) (rest : History)
    → IsLegalFrom c last s rest → ((u : ℕ) → u < c.threads → mine rest u ≡ mine (map (by t) acts) u)
    → rest ≡ map (by t) acts
same_acts c last t h acts s rest legal same =
    let own = all_own c last t s rest legal (λ u far other. same u far ∙ mine_none t u acts (λ e. other (sym e))) in
    own_events t rest own ∙ ap (λ l. map (by t) l) (same t h ∙ mine_all t acts)

-- HOW THE PASSES GO ON AT AN OPERATION

in_either : (k : Known) (xs ys : List Known) → IsIn k xs ⊎ IsIn k ys → IsIn k (xs ++ ys)
in_either k [] ys (inl i) = absurd i
in_either k [] ys (inr i) = i
in_either k (x ∷ xs) ys (inl (inl e)) = inl e
in_either k (x ∷ xs) ys (inl (inr i)) = inr (in_either k xs ys (inl i))
in_either k (x ∷ xs) ys (inr i) = inr (in_either k xs ys (inr i))

either_in : (k : Known) (xs ys : List Known) → IsIn k (xs ++ ys) → IsIn k xs ⊎ IsIn k ys
either_in k [] ys i = inr i
either_in k (x ∷ xs) ys (inl e) = inl (inl e)
either_in k (x ∷ xs) ys (inr i) =
    ⊎_elim (λ (h : IsIn k xs). inl (inr h)) (λ (h : IsIn k ys). inr h) (either_in k xs ys i)

set_here : {A : Type 0} (l : List A) (i : ℕ) (a b : A) → get_elem? l i ≡ some a → get_elem? (slice_set l i b) i ≡ some b
set_here [] i a b e = absurd (some-ne-none a (sym e))
set_here (x ∷ xs) zero a b e = refl
set_here (x ∷ xs) (suc i) a b e = set_here xs i a b e

-- a pass that is at both rows
stays : (r r' : Row) (t : ℕ) (k : Known) (es : History) → k.thread ≡ t → IsPassAt r k → IsPassAt r' k → mine es t ≡ []
    → GoesOn r r' es t
stays r r' t k es is old new none = record {
  k = k;
  k' = k;
  is = is;
  is' = is;
  old = old;
  new = new;
  begins = ([], append-nil k.seen);
  own = sym (append-nil (mine k.seen t)) ∙ ap (λ l. mine k.seen t ++ l) (sym none);
}

at : (r : Row) (k : Known) (j : ℕ) (v : View) → get_elem? r.views j ≡ some v → IsIn k v.passes → IsPassAt r k
at r k j v there among = record { seat = j; v = v; there = there; among = among }

module _ (c : Config) (last : ℕ) (r : Row) (kept : Kept last c r) where
  -- the first pass of a seat steps
  steps_on : (r' : Row) → Kept last c r' → (id : ℕ) (v w : View) (k k' : Known) (ks : List Known) (acts : List Act)
      → get_elem? r.views id ≡ some v → v.passes ≡ k ∷ ks → w.passes ≡ k' ∷ ks → Goes k acts k'
      → r'.views ≡ slice_set r.views id w
      → (t : ℕ) → t < c.threads → GoesOn r r' (map (by k.thread) acts) t
  steps_on r' kept' id v w k k' ks acts there is_v is_w g views t h = dite (ℕ_discrete k.thread t)
      (λ (is : k.thread ≡ t). record {
        k = k;
        k' = k';
        is = is;
        is' = g.thread ∙ is;
        old = at r k id v there (subst (λ l. IsIn k l) (sym is_v) (inl refl));
        new = at r' k' id w (ap (λ l. get_elem? l id) views ∙ set_here r.views id v w there)
            (subst (λ l. IsIn k' l) (sym is_w) (inl refl));
        begins = (
          g.between ++ map (by k.thread) acts,
          sym (append_assoc k.seen g.between (map (by k.thread) acts))
              ∙ sym g.seen,
        );
        own = subst (λ u. mine k'.seen u ≡ mine k.seen u ++ mine (map (by k.thread) acts) u) is own;
      })
      (λ (other : k.thread ≢ t).
      let p = pass_of c last r' kept' t h in
      let q = p.2 in
      let was : IsPassAt r p.0 = ⊎_elim
      (λ (z : (q.seat ≡ id) × (w ≡ q.v)).
      let among : IsIn p.0 (k' ∷ ks) =
      subst (λ l. IsIn p.0 l) is_w (subst (λ (x : View). IsIn p.0 x.passes) (sym z.1) q.among) in
      at r p.0 id v there (subst (λ l. IsIn p.0 l) (sym is_v) (⊎_elim
      (λ (e : k' ≡ p.0). absurd (other (sym g.thread ∙ (ap (λ (x : Known). x.thread) e ∙ p.1))))
      (λ (i : IsIn p.0 ks). inr i) among)))
      (λ (z : (q.seat ≢ id) × (get_elem? r.views q.seat ≡ some q.v)). at r p.0 q.seat q.v z.1 q.among)
      (at_set r.views id q.seat w q.v (ap (λ l. get_elem? l q.seat) (sym views) ∙ q.there)) in
      stays r r' t p.0 (map (by k.thread) acts) p.1 was q (mine_none k.thread t acts other))
    where
      own : mine k'.seen k.thread ≡ mine k.seen k.thread ++ mine (map (by k.thread) acts) k.thread
      own = ap (λ l. mine l k.thread) g.seen ∙ (mine_append (k.seen ++ g.between) (map (by k.thread) acts) k.thread
          ∙ ap (λ l. l ++ mine (map (by k.thread) acts) k.thread) (mine_append k.seen g.between k.thread
          ∙ (ap (λ l. mine k.seen k.thread ++ l) g.others ∙ append-nil (mine k.seen k.thread))))

  -- each pass of the new row is one of the old
  same_passes : (r' : Row) → Kept last c r' → ((k : Known) → IsPassAt r' k → IsPassAt r k) → (t : ℕ) → t < c.threads
      → GoesOn r r' [] t
  same_passes r' kept' back t h =
      let p = pass_of c last r' kept' t h in stays r r' t p.0 [] p.1 (back p.0 p.2) p.2 refl

  cut_back : (r' : Row) (id : ℕ) (v left right : View) → get_elem? r.views id ≡ some v
      → (left.passes ++ right.passes ≡ v.passes) ⊎ (right.passes ++ left.passes ≡ v.passes)
      → r'.views ≡ slice_set r.views id left ++ right ∷ [] → (k : Known) → IsPassAt r' k → IsPassAt r k
  cut_back r' id v left right there parts views k p =
      let of_left : IsIn k left.passes → IsIn k v.passes = λ i. ⊎_elim
      (λ (e : left.passes ++ right.passes ≡ v.passes).
      subst (λ l. IsIn k l) e (in_either k left.passes right.passes (inl i)))
      (λ (e : right.passes ++ left.passes ≡ v.passes).
      subst (λ l. IsIn k l) e (in_either k right.passes left.passes (inr i))) parts in
      let of_right : IsIn k right.passes → IsIn k v.passes = λ i. ⊎_elim
      (λ (e : left.passes ++ right.passes ≡ v.passes).
      subst (λ l. IsIn k l) e (in_either k left.passes right.passes (inr i)))
      (λ (e : right.passes ++ left.passes ≡ v.passes).
      subst (λ l. IsIn k l) e (in_either k right.passes left.passes (inl i))) parts in
      ⊎_elim
      (λ (front : get_elem? (slice_set r.views id left) p.seat ≡ some p.v). ⊎_elim
      (λ (q : (p.seat ≡ id) × (left ≡ p.v)).
      at r k id v there (of_left (subst (λ (z : View). IsIn k z.passes) (sym q.1) p.among)))
      (λ (q : (p.seat ≢ id) × (get_elem? r.views p.seat ≡ some p.v)). at r k p.seat p.v q.1 p.among)
      (at_set r.views id p.seat left p.v front))
      (λ (e : right ≡ p.v). at r k id v there (of_right (subst (λ (z : View). IsIn k z.passes) (sym e) p.among)))
      (at_snoc (slice_set r.views id left) right p.v p.seat (ap (λ l. get_elem? l p.seat) (sym views) ∙ p.there))

  join_back : (r' : Row) (id other : ℕ) (v w both none : View) → get_elem? r.views id ≡ some v
      → get_elem? (slice_set r.views id both) other ≡ some w → both.passes ≡ v.passes ++ w.passes → none.passes ≡ []
      → r'.views ≡ slice_set (slice_set r.views id both) other none → (k : Known) → IsPassAt r' k → IsPassAt r k
  join_back r' id other v w both none there there' sum nobody views k p = ⊎_elim
      (λ (q : (p.seat ≡ other) × (none ≡ p.v)).
      absurd (subst (λ l. IsIn k l) nobody (subst (λ (z : View). IsIn k z.passes) (sym q.1) p.among)))
      (λ (q : (p.seat ≢ other) × (get_elem? (slice_set r.views id both) p.seat ≡ some p.v)).
      seated p.seat p.v q.0 q.1 p.among)
      (at_set (slice_set r.views id both) other p.seat none p.v (ap (λ l. get_elem? l p.seat) (sym views) ∙ p.there))
    where
      seated : (j : ℕ) (u : View) → j ≢ other → get_elem? (slice_set r.views id both) j ≡ some u → IsIn k u.passes
          → IsPassAt r k
      seated j u far e among = ⊎_elim
          (λ (q : (j ≡ id) × (both ≡ u)). ⊎_elim
          (λ (i : IsIn k v.passes). at r k id v there i)
          (λ (i : IsIn k w.passes). ⊎_elim
          (λ (z : (other ≡ id) × (both ≡ w)). absurd (far (q.0 ∙ sym z.0)))
          (λ (z : (other ≢ id) × (get_elem? r.views other ≡ some w)). at r k other w z.1 i)
          (at_set r.views id other both w there'))
          (either_in k v.passes w.passes
          (subst (λ l. IsIn k l) sum (subst (λ (z : View). IsIn k z.passes) (sym q.1) among))))
          (λ (q : (j ≢ id) × (get_elem? r.views j ≡ some u)). at r k j u q.1 among)
          (at_set r.views id j both u e)

  -- each pass of the old row is one of the new
  enter_on : (r' : Row) (w : View) → r'.views ≡ r.views ++ w ∷ [] → (t : ℕ) → t < c.threads → GoesOn r r' [] t
  enter_on r' w views t h =
      let p = pass_of c last r kept t h in
      let q = p.2 in
      stays r r' t p.0 [] p.1 q
      (at r' p.0 q.seat q.v
      (ap (λ l. get_elem? l q.seat) views ∙ at_longer r.views (w ∷ []) q.seat q.v q.there) q.among)
      refl

-- AN OPERATION ADDS ITS EVENTS
added : (c : Config) (last : ℕ) (r r' : Row) → Kept last c r → Kept last c r' → (log es : History)
    → IsHistoryAt c last r log → ((t : ℕ) → t < c.threads → GoesOn r r' es t)
    → ((s : State) (rest : History) → IsLegalFrom c last s rest → ((t : ℕ) → t < c.threads → mine rest t ≡ mine es t)
    → rest ≡ es) → IsHistoryAt c last r' (log ++ es)
added c last r r' kept kept' log es h goes same =
    let h' = history_at c last r' kept' in
    subst (IsHistoryAt c last r')
    (grows c last r r' log kept'.log es h.legal kept'.legal h.seen h'.seen goes same) h'

adds : (c : Config) (last : ℕ) (r r' : Row) → Kept last c r → Kept last c r' → (log es : History)
    → IsHistoryAt c last r log → Becomes r es r' → IsHistoryAt c last r' (log ++ es)
adds c last r r' kept kept' log es h (steps i n id taken a v w k k' ks acts there is is' g) =
    added c last r r' kept kept' log (map (by k.thread) acts) h
    (steps_on c last r kept r' kept' id v w k k' ks acts there is is' g refl)
    (same_acts c last k.thread (subst (EachFits c last kept.log kept.held) is (kept.each id v there)).0.row acts)
adds c last r r' kept kept' log es h (cuts id v left right there parts) =
    added c last r r' kept kept' log [] h
    (same_passes c last r kept r' kept' (cut_back c last r kept r' id v left right there parts refl))
    (nobody_acted c last)
adds c last r r' kept kept' log es h (joins id other v w both none there there' sum nobody) =
    added c last r r' kept kept' log [] h (same_passes c last r kept r' kept'
    (join_back c last r kept r' id other v w both none there there' sum nobody refl))
    (nobody_acted c last)
adds c last r r' kept kept' log es h (enters words homes w) =
    added c last r r' kept kept' log [] h (enter_on c last r kept r' w refl) (nobody_acted c last)

ends : (last : ℕ) (room : Room last) (r s : Row) (es : History) → Run last room r es s → IsMoment room s
ends last room r s es (begins m) = m
ends last room r s es (goes_on fs gs q q' run b m) = m

pub along : GoesByOperations
along last room r s es log (begins m) h = subst (IsHistory room r) (sym (append-nil log)) h
along last room r s es log (goes_on fs gs q q' run b m) h = subst (IsHistory room s) (append_assoc log fs gs)
    (adds room.row.config last q s (at_room last room q (ends last room r q fs run)) (at_room last room s m)
    (log ++ fs) gs (along last room r q fs log run h) b)

unseen : (c : Config) (last n t : ℕ) (k : Known) → IsIn k (newcomers c last n t) → k.seen ≡ []
unseen c last zero t k i = absurd i
unseen c last (suc n) t k (inl e) = ap (λ (z : Known). z.seen) (sym e)
unseen c last (suc n) t k (inr i) = unseen c last n (suc t) k i

pub opened : OpensWithNothing
opened last room words m =
    let key : Sizes = room.row.table.shared.key in
    let first : View = view_of (newcomers key.config key.last key.config.threads 0) in
    nothing room.row.config last (opening words [] first) (at_room last room (opening words [] first) m)
    (λ k p. alone first k p.seat p.v p.there p.among (λ i. unseen key.config key.last key.config.threads 0 k i))
  where
    alone : (first : View) (k : Known) (j : ℕ) (v : View) → get_elem? (first ∷ []) j ≡ some v → IsIn k v.passes
        → (IsIn k first.passes → k.seen ≡ []) → k.seen ≡ []
    alone first k zero v there among none =
        none (subst (λ (z : View). IsIn k z.passes) (sym (some-injective first v there)) among)
    alone first k (suc j) v there among none = absurd (some-ne-none v (sym there))

pub stands_behind : StandsBehindAll
stands_behind last room r es e h = behind room.row.config last r es e h

-- what is told of a step is what it makes of the row
tells : (told : Known → ℕ → List Act → Known → Type 0) → TellsOfOperations (λ s m n m'. Tells told m n m')
tells told r s n id found a m m' k ks there is t = (
  t.acts,
  steps s.word n id m.1 a m.0 m'.0 k t.new ks t.acts there is
      (ap (λ (z : SeatState). z.0.passes) t.is ∙ ap (λ l. t.new ∷ others_of l) is)
      (subst (λ (x : Known). Goes x t.acts t.new) (ap (λ l. first_of l) is) t.goes),
)

pub all_tell : {T : Type 0} (kind : Ghosts T) → AllTellOfOperations kind
all_tell kind = (tells kind.told, tells (LookedBy (Meet ∷ [])), tells (LookedBy []), tells CountedBy)
