-- What a step owes at a place and with words that are named
-- otherwise, and what it told makes of the thread that took it.
pub mod AtPlaces
use Rattle.std.proofs.Common.{◌≡◌, ◌<◌, ◌≤◌, ◌+◌, ℕ, List, sym, subst, eqb, arith, Bool}
use Rattle.std.proofs.Common.{false, ◌++◌, map, refl, ap, ◌∙◌, true, [], ◌∷◌}
use prog.Atomic.{either}
use Rattle.jr_word.specs.declared.config.Config.{Config}
use Rattle.jr_word.specs.Config.{row_words}
use Rattle.jr_model.specs.declared.event.Act.{Act}
use Rattle.jr_steps.specs.declared.known.Known.{Known}
use Rattle.jr_rule.specs.Image.{local_at, header_at, element_at}
use Rattle.jr_rule.specs.Rule.{Owes}
use Rattle.jr_rule.proofs.Images.{local_below}
use Rattle.jr_rule.proofs.HoldingsInSpace.{element_in_row}
use Rattle.std.proofs.Math.Logic.{∥∥₁_elim}
use Rattle.std.proofs.Props.{props}
use mathlib.Core.Logic.{∥∥₁_map}
use Rattle.jr_model.specs.declared.event.Role.{Role}
use Rattle.jr_model.specs.History.{by, IsLegal, role_of, role_from, state}
use Rattle.jr_model.proofs.Stays.{role_did}
use Rattle.jr_word.specs.declared.header.HeaderParts.{HeaderParts}
use Rattle.jr_model.specs.declared.event.Role.TheVariants.{Within}
use Rattle.jr_steps.specs.Knowing.{Took, TookWith, Goes, view, anything, fresh_from, HasStoredNone, IsOf, Standing}
use Rattle.jr_steps.specs.Knowing.{KnowsHeader, MayKnow, ReadsInTurn, SawPart}
use Rattle.jr_steps.proofs.StepFacts.{goes_did}
use Rattle.jr_rule.specs.declared.cells.Cells.{Ghosts}
use Rattle.jr_rule.specs.declared.over.StepsOver.{StepsOver}
use Rattle.jr_rule.specs.Cells.{Sight, IsAmong, AreItsActs, May, IsOwed, HasStepped, InRole, IsStanding, stands_at}
use Rattle.jr_rule.specs.CellLaws.{among_of}
use Rattle.jr_rule.specs.Over.{facts_over as facts}
use Rattle.jr_rule.specs.Parts.{facts_within}
use Rattle.std.specs.List.{AllByRecursion}
use Rattle.jr_model.specs.declared.event.Act.TheVariants.{LocalPut, LocalDrop, Read}
use Rattle.jr_model.proofs.Agreement.{spares_places, stored_did, stored_spared}

-- who is fresh afterwards was so, and has stored no local
fresh_spares : (f : Bool) (acts : List Act) → fresh_from f acts ≡ true
    → (f ≡ true) × AllByRecursion (λ a. spares_places a ≡ true) acts
fresh_spares f [] e = (e, tt)
fresh_spares f (LocalPut p o ∷ acts) e = let r = (fresh_spares _ acts e).0 in absurd cc
fresh_spares f (LocalDrop p ∷ acts) e = let r = (fresh_spares _ acts e).0 in absurd cc
fresh_spares f (_ ∷ acts) e = let r = fresh_spares f acts e in (r.0, (refl, r.1))

pub none_stored_next : (k k' : Known) (acts : List Act) (f : Bool) → Goes k acts k' → fresh_from f acts ≡ true
    → (f ≡ true → HasStoredNone k) → HasStoredNone k'
none_stored_next k k' acts f g e none p =
    let r = fresh_spares f acts e in
    let is = stored_did p acts (goes_did g) in
    let more = stored_spared p acts r.1 in
    let was = none r.0 p in
    omega arith

module _ (k : Known) (told : ℕ → List Act → Known → Type 0) {i j : ℕ} (at : i ≡ j) where
  pub load_at : Owes k i (λ n. n) told → Owes k j (λ n. n) told
  load_at = subst (λ z. Owes k z (λ n. n) told) at

  pub store_at : {v w : ℕ} → v ≡ w → Owes k i (λ n. v) (λ n. told v) → Owes k j (λ n. w) (λ n. told w)
  store_at e = subst (λ (z : ℕ × ℕ). Owes k z.0 (λ n. z.1) (λ n. told z.1)) (λ x. (at x, e x))

  pub exchange_at : {old old' new new' : ℕ} → old ≡ old' → new ≡ new' → Owes k i (λ n. either (eqb n old) new n) told
      → Owes k j (λ n. either (eqb n old') new' n) told
  exchange_at a b = subst (λ (z : ℕ × ℕ × ℕ). Owes k z.0 (λ n. either (eqb n z.1) z.2 n) told) (λ x. (at x, a x, b x))

-- a place of the row lies in it
pub local_in : (c : Config) (t p : ℕ) {at : ℕ} → at ≡ local_at c t p → t < c.threads → p < c.locals → at < row_words c
local_in c t p is row l = let below = local_below c t p row l in omega arith

pub element_in : (c : Config) (x : ℕ) {at : ℕ} → at ≡ element_at c x → x < c.words → at < row_words c
element_in c x is l = subst (λ n. n < row_words c) (sym is) (element_in_row c x l)

pub header_in : (c : Config) (o : ℕ) {at : ℕ} → at ≡ header_at c o → 1 ≤ o → o ≤ c.objects → at < row_words c
header_in c o is low high = omega arith

-- what is told of the number found says that these acts were done, and shows this
pub record Reads (z : Sight) (r : Role) (met : Known → Type 0) (told : Known → ℕ → List Act → Known → Type 0) (n : ℕ)
    (acts : Known → List Act) (shows : Known → Known → Type 0) : Type 0 where
  pub read : (k k' : Known) (done : List Act) → IsAmong z k → role_of (view k) ≡ r → met k → told k n done k'
      → (done ≡ acts k) × shows k k'

-- what may be known of the thread is seen, in its role
pub may_in : (z : Sight) {role r : Role} {fresh : Bool} → role ≡ r → {met : Known → Type 0}
    → ∥ ((k : Known) × (z.knows k × IsOf (stands_at z role fresh) k) × met k) ∥₁ → May z (InRole r met)
may_in z {role} {r} {fresh} e may = ∥∥₁_map may (λ k. (k.0, among_of z role fresh k.0 k.1, ((k.1).1.role ∙ e, k.2)))

pub may_any : (z : Sight) {role r : Role} {fresh : Bool} {hint : ℕ} → role ≡ r → IsStanding z role fresh hint
    → May z (InRole r anything)
may_any z {role} {r} {fresh} e s = ∥∥₁_map s.some (λ k. (k.0, among_of z role fresh k.0 k.1, ((k.1).1.role ∙ e, tt)))

-- a step is owed by what is known of it in the thread's role
pub owed : {z : Sight} {r : Role} {met : Known → Type 0} {i : ℕ} {f : ℕ → ℕ}
    {told : Known → ℕ → List Act → Known → Type 0} → i < row_words z.first.config → May z (InRole r met)
    → ((k : Known) → IsAmong z k → role_of (view k) ≡ r → ∥ met k ∥₁ → Owes k i f (told k))
    → IsOwed z (InRole r met) i f told
owed place may owes = record {
  place = place;
  may = may;
  owes = λ k among m. owes k among (∥∥₁_elim m (hlevel props) (λ q. q.0)) (∥∥₁_map m (λ q. q.1));
}

-- what is told says that the acts leave the thread in this role, and so fresh
pub record Leaves (z : Sight) (r : Role) (met : Known → Type 0) (told : Known → ℕ → List Act → Known → Type 0) (n : ℕ)
    (role role' : Role) (fresh fresh' : Bool) : Type 0 where
  pub left : (k k' : Known) (done : List Act) → IsAmong z k → role_of (view k) ≡ r → met k → told k n done k'
      → (role' ≡ role_from role done) × (fresh' ≡ fresh_from fresh done)

pub leaves : {z : Sight} {r : Role} {met : Known → Type 0} {told : Known → ℕ → List Act → Known → Type 0} {n : ℕ}
    {acts : Known → List Act} {shows : Known → Known → Type 0} → Reads z r met told n acts shows
    → {role role' : Role} {fresh fresh' : Bool}
    → ((k : Known) → role' ≡ role_from role (acts k)) → ((k : Known) → fresh' ≡ fresh_from fresh (acts k))
    → Leaves z r met told n role role' fresh fresh'
leaves reads {role} {role'} {fresh} {fresh'} role_is fresh_is = record {
  left = λ k k' done h e m s.
      let a = sym (reads.read k k' done h e m s).0 in
      (role_is k ∙ ap (role_from role) a, fresh_is k ∙ ap (fresh_from fresh) a);
}

module _ {z z' : Sight} {r : Role} {met : Known → Type 0} {told : Known → ℕ → List Act → Known → Type 0} {n : ℕ}
    {role role' : Role} {fresh fresh' : Bool}
    (t : HasStepped z z' (InRole r met) told n) (left : Leaves z r met told n role role' fresh fresh')
    (is : role ≡ r) where
  -- something is known of the new
  known_next : (k : Known) (h : z.knows k × IsOf (stands_at z role fresh) k) (m : met k)
      → z'.knows (t.makes k (among_of z role fresh k h) (h.1.role ∙ is, m)).new
      × IsOf (stands_at z' role' fresh') (t.makes k (among_of z role fresh k h) (h.1.role ∙ is, m)).new
  known_next k h m =
      let e = h.1.role ∙ is in
      let s = among_of z role fresh k h in
      let u = t.makes k s (e, m) in
      let leaves = left.left k u.new u.acts s e m u.says in (
        u.is.is,
        record {
          config = u.is.config;
          last = u.is.last;
          thread = u.is.thread;
          role = role_did u.acts (goes_did u.goes)
              ∙ (ap (λ x. role_from x u.acts) h.1.role ∙ sym leaves.0);
          legal = subst (λ (y : Config × ℕ). IsLegal y.0 y.1 (u.new).seen)
              (λ i. (sym u.goes.config i, sym u.goes.last i)) u.goes.legal;
          unused = λ f. none_stored_next k u.new u.acts fresh u.goes (sym leaves.1 ∙ f) h.1.unused;
        },
      )

  -- and was made of it by these acts, and shows this
  pub leads_next : {acts : Known → List Act} {shows : Known → Known → Type 0} → Reads z r met told n acts shows
      → (k : Known) → z.knows k × IsOf (stands_at z role fresh) k → met k
      → (k' : Known) × (z'.knows k' × IsOf (stands_at z' role' fresh') k') × Goes k (acts k) k' × shows k k'
  leads_next {acts} reads k h m =
      let e = h.1.role ∙ is in
      let s = among_of z role fresh k h in
      let u = t.makes k s (e, m) in
      let read = reads.read k u.new u.acts s e m u.says in
      let g = u.goes in
      let here : Goes k (acts k) u.new = record {
        config = g.config;
        last = g.last;
        thread = g.thread;
        between = g.between;
        seen = g.seen ∙ ap (λ l. (k.seen ++ g.between) ++ map (by k.thread) l) read.0;
        others = g.others;
        legal = g.legal;
        taken = g.taken;
      } in
      (u.new, known_next k h m, here, read.1)

  -- SO THE THREAD STANDS as it must
  pub standing_next : {hint : ℕ} → IsStanding z role fresh hint
      → ∥ ((k : Known) × (z.knows k × IsOf (stands_at z role fresh) k) × met k) ∥₁ → IsStanding z' role' fresh' hint
  standing_next {hint} s may = record {
    some = ∥∥₁_map may (λ k.
        ((t.makes k.0 (among_of z role fresh k.0 k.1) (k.1.1.role ∙ is, k.2)).new, known_next k.0 k.1 k.2));
    below = subst (λ (c : Config). hint < c.slots) (ap (λ (x : Standing). x.config) (sym t.first)) s.below;
  }

-- steps over words know something
pub known_any : {C P : Type 0} {G : Ghosts C P} (s : StepsOver C P G) → MayKnow facts s anything
known_any s = ∥∥₁_map s.stands.some (λ k. (k.0, k.1, tt))

-- A STEP OF STEPS OVER WORDS, in a role, where something that may be known meets the condition
module _ {C P : Type 0} {G : Ghosts C P} (s : StepsOver C P G) {r : Role} {met : Known → Type 0} (is : s.role ≡ r)
    (may : MayKnow facts s met) where
  pub known_in : May (G.sight s.cells) (InRole r met)
  known_in = may_in (G.sight s.cells) is may

  module _ {told : Known → ℕ → List Act → Known → Type 0} where
    -- is owed by what is known of it
    pub owing : {i : ℕ} {f : ℕ → ℕ} → i < row_words (G.sight s.cells).first.config
        → ((k : Known) → IsAmong (G.sight s.cells) k → role_of (view k) ≡ r → ∥ met k ∥₁ → Owes k i f (told k))
        → IsOwed (G.sight s.cells) (InRole r met) i f told
    owing place owes = owed place known_in owes

    -- and leaves them at words where they are, standing as they must
    pub stood : {x : C} {n : ℕ} {role : Role} {fresh : Bool} → G.are_at x s.place
        → HasStepped (G.sight s.cells) (G.sight x) (InRole r met) told n
        → Leaves (G.sight s.cells) r met told n s.role role s.fresh fresh
        → record { at : G.are_at x s.place; stands : IsStanding (G.sight x) role fresh s.hint }
    stood there step left = record { at = there; stands = standing_next step left is s.stands may }

module _ {C P : Type 0} {G : Ghosts C P} (old new : StepsOver C P G) {r : Role} {met : Known → Type 0}
    {told : Known → ℕ → List Act → Known → Type 0} {n : ℕ} {shows : Known → Known → Type 0}
    (t : HasStepped (G.sight old.cells) (G.sight new.cells) (InRole r met) told n) (hint_is : new.hint ≡ old.hint)
    (is : old.role ≡ r) where
  -- AND THE STEP WAS TAKEN, with acts that may depend on what was known
  pub took_with : {acts : Known → List Act} {role : Role} {fresh : Bool}
      → Reads (G.sight old.cells) r met told n acts shows → new.role ≡ role → new.fresh ≡ fresh
      → ((k : Known) → role ≡ role_from old.role (acts k)) → ((k : Known) → fresh ≡ fresh_from old.fresh (acts k))
      → TookWith facts old new acts (record (facts old).stands { role = role; fresh = fresh }) met shows
  unfolding leads_next
  took_with {acts} {role} {fresh} reads role_is fresh_is role_next fresh_next =
      let left : Leaves (G.sight old.cells) r met told n old.role new.role old.fresh new.fresh =
      leaves reads (λ k. role_is ∙ role_next k) (λ k. fresh_is ∙ fresh_next k) in record {
        stands_is = λ i. record (t.first i) { role = role_is i; fresh = fresh_is i };
        hint_is = hint_is;
        goes = leads_next t left is reads;
      }

  -- with acts that are the same whatever was known
  pub took : (acts : List Act) → Reads (G.sight old.cells) r met told n (λ k. acts) shows
      → new.role ≡ role_from old.role acts → new.fresh ≡ fresh_from old.fresh acts → Took facts old new acts met shows
  took acts reads role_is fresh_is = took_with reads role_is fresh_is (λ k. refl) (λ k. refl)

-- what may be known of a fresh pass may be known once it is spent
pub standing_spent : {z : Sight} {role : Role} {fresh : Bool} {hint : ℕ} → IsStanding z role fresh hint
    → IsStanding z role false hint
standing_spent s = record {
  some = ∥∥₁_map s.some (λ k. (
    k.0,
    (
      k.1.0,
      record {
        config = k.1.1.config;
        last = k.1.1.last;
        thread = k.1.1.thread;
        role = k.1.1.role;
        legal = k.1.1.legal;
        unused = λ f. absurd cc;
      },
    ),
  ));
  below = s.below;
}

-- the acts of which an operation tells are those that are read from it
pub its_acts : {z : Sight} {r : Role} {met : Known → Type 0} {told : Known → ℕ → List Act → Known → Type 0} {n : ℕ}
    {acts : List Act} {shows : Known → Known → Type 0} → Reads z r met told n (λ k. acts) shows
    → AreItsActs z (InRole r met) told n acts
its_acts reads k k' done h m t = (reads.read k k' done h m.0 m.1 t).0

-- WHAT A THREAD WITHIN KNOWS of the words it knows of them, whether it is fresh or not
stands_so : (z : Sight) {r r' : Role} {f f' : Bool} → r ≡ r' → (k : Known) → IsOf (stands_at z r f) k
    → (f' ≡ true → HasStoredNone k) → IsOf (stands_at z r' f') k
stands_so z same k is none = record {
  config = is.config;
  last = is.last;
  thread = is.thread;
  role = is.role ∙ same;
  legal = is.legal;
  unused = none;
}

pub known_within : (z : Sight) {role : Role} {fresh : Bool} {met : Known → Type 0} → role ≡ Within
    → ∥ ((k : Known) × (z.knows k × IsOf (stands_at z role fresh) k) × met k) ∥₁
    → ∥ ((k : Known) × (z.knows k × IsOf (stands_at z Within false) k) × met k) ∥₁
known_within z is may = ∥∥₁_map may (λ k. (k.0, (k.1.0, stands_so z is k.0 k.1.1 (λ f. absurd cc)), k.2))

-- who has stored no local reference has stored none behind elements that were read
none_read : (o i : ℕ) (vs : List ℕ) (k k' : Known) → ReadsInTurn o i vs k k' → HasStoredNone k → HasStoredNone k'
none_read o i [] k k' r none = subst HasStoredNone (sym r) none
none_read o i (v ∷ vs) k k' r none =
    none_read o (i + 1) vs r.0 k' r.3 (none_stored_next k r.0 (Read o i v ∷ []) true r.1 refl (λ e. none))

-- A PART THAT WAS READ of the words was read by the steps over them
module _ {C P : Type 0} {G : Ghosts C P} {V : Type 0} (old new : StepsOver C P G) (is : old.role ≡ Within)
    {o start : ℕ} {h : HeaderParts} {taken : ℕ → V} {values : List V}
    (t : SawPart (facts_within G.sight) old.cells new.cells o h start taken values) where
  pub part_over : new.role ≡ old.role → new.fresh ≡ old.fresh → new.hint ≡ old.hint
      → SawPart facts old new o h start taken values
  part_over role_is fresh_is hint_is = record {
    words = t.words;
    are = t.are;
    stands_is = λ i. record (t.stands_is i) { role = role_is i; fresh = fresh_is i };
    hint_is = hint_is;
    leads = λ k s m.
        let x = t.leads k (s.0, stands_so (G.sight old.cells) is k s.1 (λ f. absurd cc)) m in
        let none = λ (f : new.fresh ≡ true).
        none_read o start t.words k x.0 x.2 (s.1.unused (sym fresh_is ∙ f)) in
        (x.0, (x.1.0, stands_so (G.sight new.cells) (sym is ∙ sym role_is) x.0 x.1.1 none), x.2, x.3);
  }

-- and the thread stands as it must
pub part_standing : {C V : Type 0} (sight : C → Sight) {a b : C} {o start : ℕ} {h : HeaderParts} {taken : ℕ → V}
    {values : List V} → SawPart (facts_within sight) a b o h start taken values
    → {role : Role} {fresh : Bool} {hint : ℕ} → role ≡ Within → IsStanding (sight a) role fresh hint
    → ∥ ((k : Known) × ((sight a).knows k × IsOf (stands_at (sight a) role fresh) k) × KnowsHeader o h k) ∥₁
    → IsStanding (sight b) role fresh hint
part_standing sight {a} {b} {o} {start} t {role} {fresh} {hint} is s may = record {
  some = ∥∥₁_map may (λ k.
      let x = t.leads k.0 (k.1.0, stands_so (sight a) is k.0 k.1.1 (λ f. absurd cc)) k.2 in
      let none = λ (f : fresh ≡ true). none_read o start t.words k.0 x.0 x.2 (k.1.1.unused f) in
      (x.0, (x.1.0, stands_so (sight b) (sym is) x.0 x.1.1 none)));
  below = subst (λ (c : Config). hint < c.slots) (ap (λ (x : Standing). x.config) (sym t.stands_is)) s.below;
}
