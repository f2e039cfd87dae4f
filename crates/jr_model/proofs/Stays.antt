-- What a thread may rely on while it is within, and while it collects.
use Rattle.std.proofs.Common.{◌≡◌, ◌≢◌, ℕ, ◌≤◌, ◌==◌, Bool, true, false, cond, Some, List, [], ◌∷◌, ◌++◌}
use Rattle.std.proofs.Common.{map, length, slice_set, refl, sym, ap, subst, ◌∙◌, arith, append_assoc, eq-eqb}
use Rattle.std.proofs.lemmas.List.{length-set, append-nil}
use Rattle.std.specs.List.{AllByRecursion}
use Rattle.jr_word.specs.declared.config.Config.{Config}
use Rattle.jr_model.specs.declared.event.Role.{Role}
use Rattle.jr_model.specs.declared.event.Role.TheVariants.{Outside, Within, Collecting}
use Rattle.jr_model.specs.declared.event.Event.{Event}
use Rattle.jr_model.specs.declared.event.Act.{Act}
use Rattle.jr_model.specs.declared.event.Act.TheVariants.{Gate, ShutBusy, Clear, Reserve}
use Rattle.jr_model.specs.declared.event.Act.TheVariants.{New, Write, Drop, Settle, Meet}
use Rattle.jr_model.specs.declared.event.GateAct.TheVariants.{Leave}
use Rattle.jr_model.specs.State.{Contents, State, opening, HaveSameTables}
use Rattle.jr_model.specs.Steps.{ActNeeds, act_after, after, written}
use Rattle.jr_model.specs.History.{History, by, state_from, state, IsLegalFrom, IsLegal}
use Rattle.jr_model.specs.History.{mine, PassView, role_of, role_after, role_from, Did}
use Rattle.jr_model.specs.Laws.{SeesItsOwnActs}
use Rattle.jr_model.proofs.Updates.{at_number, eq_false}
use Rattle.jr_model.proofs.Histories.{legal_append, state_append, mine_append, mine_all}
use Rattle.jr_model.proofs.Gates.{IsApart, apart_after, apart_state, stay_act, collection_act}

pub append_cancel : {A : Type 0} (xs ys zs : List A) → xs ++ ys ≡ xs ++ zs → ys ≡ zs
append_cancel [] ys zs e = e
append_cancel (x ∷ xs) ys zs e = append_cancel xs ys zs cc

pub cond_same : {X : Type 0} (b : Bool) (x : X) → x ≡ cond b x x
cond_same true x = refl
cond_same false x = refl

pub role_step : (s : State) (u : ℕ) (a : Act) (t : ℕ)
    → (act_after s u a).role t ≡ cond (u == t) (role_after (s.role t) a) (s.role t)
role_step s u (Gate a) t = refl
role_step s u _ t = cond_same (u == t) (s.role t)

role_split : (s : State) (e : Event) (t : ℕ) (acts : List Act) (b : Bool)
    → role_from (cond b (role_after (s.role t) e.act) (s.role t)) acts
    ≡ role_from (s.role t) (cond b (e.act ∷ acts) acts)
role_split s e t acts true = refl
role_split s e t acts false = refl

-- the role of a thread follows from its own acts
pub role_is_own : (s : State) (es : History) (t : ℕ) → (state_from s es).role t ≡ role_from (s.role t) (mine es t)
role_is_own s [] t = refl
role_is_own s (e ∷ es) t =
    role_is_own (after s e) es t
    ∙ (ap (λ r. role_from r (mine es t)) (role_step s e.thread e.act t)
    ∙ role_split s e t (mine es t) (e.thread == t))

pub role_of_state : (es : History) (t : ℕ) → (state es).role t ≡ role_from Outside (mine es t)
role_of_state es t = role_is_own opening es t

-- events among which t never does x
pub never : (x : Act) (es : History) (t : ℕ) → AllByRecursion (λ a. a ≢ x) (mine es t)
    → AllByRecursion (λ e. e ≢ by t x) es
never x [] t h = tt
never x (e ∷ es) t h = go (e.thread == t) refl h (never x es t)
  where
    go : (b : Bool) → (e.thread == t) ≡ b → AllByRecursion (λ a. a ≢ x) (cond b (e.act ∷ mine es t) (mine es t))
        → (AllByRecursion (λ a. a ≢ x) (mine es t) → AllByRecursion (λ f. f ≢ by t x) es)
        → AllByRecursion (λ f. f ≢ by t x) (e ∷ es)
    go true is h rest = (λ p. h.0 (ap (λ (f : Event). f.act) p), rest h.1)
    go false is h rest = (λ p. eq_false e.thread t is (ap (λ (f : Event). f.thread) p), rest h)

-- each present object stays, with its kind and length, and no space is given back
pub record IsStill (s s' : State) : Type 0 where
  pub objects : (o : ℕ) (x : Contents) → s.objects o ≡ Some x
      → (y : Contents) × (s'.objects o ≡ Some y) × (y.kind ≡ x.kind) × (length y.words ≡ length x.words)
  pub used : s.used ≤ s'.used

pub still_self : (s : State) → IsStill s s
still_self s = record { objects = λ o x e. (x, e, refl, refl); used = omega arith }

pub still_trans : (r s t : State) → IsStill r s → IsStill s t → IsStill r t
still_trans r s t p q = record {
  objects = λ o x e.
      let y = p.objects o x e in
      let z = q.objects o y.0 y.1 in
      (z.0, z.1, z.2 ∙ y.2, z.3 ∙ y.3);
  used = let a = p.used in let b = q.used in omega arith;
}

module _ (c : Config) (last : ℕ) where
  still_act : (t : ℕ) (s : State) (u : ℕ) (a : Act) → IsApart s.role → s.role t ≡ Within → ActNeeds c last s u a
      → IsStill s (act_after s u a)
  still_act t s u (Drop o) i w n = absurd (i.apart u t n.0 w)
  still_act t s u (Settle m) i w n = absurd (i.apart u t n.0 w)
  still_act t s u (Reserve m) i w n = record { objects = λ o x e. (x, e, refl, refl); used = omega arith }
  still_act t s u (New p k ws) i w n = record {
    objects = λ o x e. (
      x,
      at_number (λ y. y ≡ Some x) s.objects p o (Some (record { kind = k; words = ws }))
          (λ f. let none = n.3 in absurd (let here = ap s.objects f in cc)) (λ ne. e),
      refl,
      refl,
    );
    used = omega arith;
  }
  still_act t s u (Write p l v) i w n = record {
    objects =
        λ o x e. at_number (λ z. (y : Contents) × (z ≡ Some y) × (y.kind ≡ x.kind) × (length y.words ≡ length x.words))
        s.objects p o (written (s.objects p) l v)
        (λ f. (
          record { kind = x.kind; words = slice_set x.words l v },
          ap (λ z. written z l v) (ap s.objects f ∙ e),
          refl,
          length-set x.words l v,
        ))
        (λ ne. (x, e, refl, refl));
    used = omega arith;
  }
  still_act t s u _ i w n = record { objects = λ o x e. (x, e, refl, refl); used = omega arith }

  pub still_along : (t : ℕ) (s : State) (es : History) → IsApart s.role → s.role t ≡ Within
      → AllByRecursion (λ e. e ≢ by t (Gate Leave)) es → IsLegalFrom c last s es → IsStill s (state_from s es)
  still_along t s [] i w q l = still_self s
  still_along t s (e ∷ es) i w q l =
      let r = stay_act c last t s e.thread e.act i w q.0 l.0.1 in
      still_trans s (after s e) (state_from (after s e) es)
      (still_act t s e.thread e.act i w l.0.1)
      (still_along t (after s e) es (apart_after c last s e i l.0) r.0 q.1 l.1)

  same_act : (t : ℕ) (s : State) (u : ℕ) (a : Act) → IsApart s.role → s.role t ≡ Collecting → u ≢ t
      → ActNeeds c last s u a → HaveSameTables s (act_after s u a)
  same_act t s u (Gate a) i w ne n = record { refs = refl; given = refl; locals = refl; objects = refl; used = refl }
  same_act t s u (ShutBusy m) i w ne n =
      record { refs = refl; given = refl; locals = refl; objects = refl; used = refl }
  same_act t s u Meet i w ne n = record { refs = refl; given = refl; locals = refl; objects = refl; used = refl }
  same_act t s u (Clear h) i w ne n = absurd (ne (i.alone u t n.0 w))
  same_act t s u (Drop o) i w ne n = absurd (ne (i.alone u t n.0 w))
  same_act t s u (Settle m) i w ne n = absurd (ne (i.alone u t n.0 w))
  same_act t s u _ i w ne n = absurd (i.apart t u w n.0)

  -- in a collection of t the events of others leave the tables as they are
  pub same_along : (t : ℕ) (s : State) (es : History) → IsApart s.role → s.role t ≡ Collecting
      → AllByRecursion (λ e. e.thread ≢ t) es → IsLegalFrom c last s es → HaveSameTables s (state_from s es)
  same_along t s [] i w q l = record { refs = refl; given = refl; locals = refl; objects = refl; used = refl }
  same_along t s (e ∷ es) i w q l =
      let r = collection_act c last t s e.thread e.act i w (λ p. q.0 (ap (λ (f : Event). f.thread) p)) l.0.1 in
      let here = same_act t s e.thread e.act i w q.0 l.0.1 in
      let rest = same_along t (after s e) es (apart_after c last s e i l.0) r.0 q.1 l.1 in
      record {
        refs = rest.refs ∙ here.refs;
        given = rest.given ∙ here.given;
        locals = rest.locals ∙ here.locals;
        objects = rest.objects ∙ here.objects;
        used = rest.used ∙ here.used;
      }

pub did_nothing : (p : PassView) → IsLegal p.config p.last p.seen → Did p p []
did_nothing p l = record {
  config = refl;
  last = refl;
  thread = refl;
  legal = l;
  begins = ([], append-nil p.seen);
  own = sym (append-nil (mine p.seen p.thread));
}

-- what others did, and then these acts of the thread, added at the end of what was seen
pub did_added : {old new : PassView} (between : History) (acts : List Act) → new.config ≡ old.config
    → new.last ≡ old.last → new.thread ≡ old.thread
    → new.seen ≡ (old.seen ++ between) ++ map (by old.thread) acts → mine between old.thread ≡ []
    → IsLegal old.config old.last new.seen → Did old new acts
did_added {old} {new} between acts c l t seen others legal =
    let mine_acts = map (by old.thread) acts in
    record {
      config = c;
      last = l;
      thread = t;
      legal = legal;
      begins = (between ++ mine_acts, sym (append_assoc old.seen between mine_acts) ∙ sym seen);
      own = ap (λ es. mine es old.thread) seen
          ∙ (mine_append (old.seen ++ between) mine_acts old.thread
          ∙ (ap (λ xs. xs ++ mine mine_acts old.thread) (mine_append old.seen between old.thread
          ∙ (ap (λ xs. mine old.seen old.thread ++ xs) others ∙ append-nil (mine old.seen old.thread)))
          ∙ ap (λ xs. mine old.seen old.thread ++ xs) (mine_all old.thread acts)));
    }

-- what was done first and then makes what was done
pub did_then : {old mid new : PassView} (xs ys : List Act) → Did old mid xs → Did mid new ys → Did old new (xs ++ ys)
did_then {old} {mid} {new} xs ys p q = record {
  config = q.config ∙ p.config;
  last = q.last ∙ p.last;
  thread = q.thread ∙ p.thread;
  legal = subst (λ c. IsLegal c old.last new.seen) p.config (subst (λ l. IsLegal mid.config l new.seen) p.last q.legal);
  begins = (
    p.begins.0 ++ q.begins.0,
    sym (append_assoc old.seen p.begins.0 q.begins.0) ∙ (ap (λ l. l ++ q.begins.0) p.begins.1 ∙ q.begins.1),
  );
  own = subst (λ t. mine new.seen t ≡ mine mid.seen t ++ ys) p.thread q.own
      ∙ (ap (λ l. l ++ ys) p.own ∙ append_assoc (mine old.seen old.thread) xs ys);
}

pub role_from_append : (r : Role) (xs ys : List Act) → role_from r (xs ++ ys) ≡ role_from (role_from r xs) ys
role_from_append r [] ys = refl
role_from_append r (x ∷ xs) ys = role_from_append (role_after r x) xs ys

-- the role of the thread after what it did
pub role_did : {old new : PassView} (acts : List Act) → Did old new acts → role_of new ≡ role_from (role_of old) acts
role_did {old} {new} acts d =
    ap (λ t. (state new.seen).role t) d.thread
    ∙ (role_of_state new.seen old.thread
    ∙ (ap (role_from Outside) d.own
    ∙ (role_from_append Outside (mine old.seen old.thread) acts
    ∙ ap (λ r. role_from r acts) (sym (role_of_state old.seen old.thread)))))

-- the thread's own acts among what was seen since
pub mine_did : {old new : PassView} (acts : List Act) (d : Did old new acts) → mine d.begins.0 old.thread ≡ acts
mine_did {old} {new} acts d =
    append_cancel (mine old.seen old.thread) (mine d.begins.0 old.thread) acts
    (sym (mine_append old.seen d.begins.0 old.thread) ∙ (ap (λ l. mine l old.thread) d.begins.1 ∙ d.own))

-- events of one thread behind others are its acts
own_behind : (t : ℕ) (xs ys : History) → AllByRecursion (λ e. e.thread ≡ t) (xs ++ ys) → ys ≡ map (by t) (mine ys t)
own_behind t [] [] all = refl
own_behind t [] (e ∷ ys) all = (λ i. by (all.0 i) e.act ∷ own_behind t [] ys all.1 i)
    ∙ sym (ap (λ b. map (by t) (cond b (e.act ∷ mine ys t) (mine ys t))) (eq-eqb e.thread t all.0))
own_behind t (x ∷ xs) ys all = own_behind t xs ys all.1

pub sees_its_own_acts : SeesItsOwnActs
sees_its_own_acts old new acts d all =
    let more : History = d.begins.0 in
    let t = new.thread in
    let own : mine more t ≡ acts = ap (mine more) d.thread ∙ mine_did acts d in
    sym d.begins.1 ∙ ap (λ l. old.seen ++ l)
    (own_behind t old.seen more (subst (AllByRecursion (λ e. e.thread ≡ t)) (sym d.begins.1) all) ∙ ap (map (by t)) own)

-- from within, what is present stays until the thread leaves
pub still_did : {old new : PassView} (acts : List Act) → Did old new acts → role_of old ≡ Within
    → AllByRecursion (λ a. a ≢ Gate Leave) acts → IsStill (state old.seen) (state new.seen)
still_did {old} {new} acts d w q =
    let rest = d.begins.0 in
    let both =
    (legal_append old.config old.last old.seen rest).0 (subst (IsLegal old.config old.last) (sym d.begins.1) d.legal) in
    let own : mine rest old.thread ≡ acts = mine_did acts d in
    let still =
    still_along old.config old.last old.thread (state old.seen) rest (apart_state old.config old.last old.seen both.0) w
    (never (Gate Leave) rest old.thread (subst (AllByRecursion (λ a. a ≢ Gate Leave)) (sym own) q)) both.1 in
    subst (IsStill (state old.seen)) (sym (state_append old.seen rest) ∙ ap state d.begins.1) still
