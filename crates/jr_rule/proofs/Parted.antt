-- Passes that close their room together: their seats come together, look at the gate, and part.
use Rattle.std.proofs.Common.{◌≡◌, ◌+◌, ◌≤◌, ◌<◌, ⊎_elim, ℕ, not, Option, Some, IfSome, option_to_list}
use Rattle.std.proofs.Common.{List, [], ◌∷◌, ◌++◌, map, sym, ap, subst, ◌∙◌, arith, append_assoc}
use Rattle.std.proofs.lemmas.List.{append-nil}
use Rattle.std.specs.List.{All, AllByRecursion}
use Rattle.std.proofs.lemmas.List.Elements.{All-nil, All-cons, All-head, All-pop, All-tail}
use mathlib.Core.List.{map-append}
use Rattle.jr_word.specs.declared.config.Config.{Config}
use Rattle.jr_word.specs.declared.gate.GateParts.{GateParts}
use Rattle.jr_word.specs.Gate.{gate_word, IsGate}
use Rattle.jr_model.specs.declared.event.Act.{Act}
use Rattle.jr_model.specs.declared.event.Act.TheVariants.{Meet}
use Rattle.jr_model.specs.declared.event.Role.TheVariants.{Outside}
use Rattle.jr_model.specs.State.{not_outside, is_outside}
use Rattle.jr_model.specs.History.{History, state, role_from}
use Rattle.jr_model.proofs.Counts.{count_all_false}
use Rattle.jr_model.proofs.Stays.{role_did, role_of_state}
use Rattle.jr_steps.specs.declared.known.Known.{Known}
use Rattle.jr_steps.specs.Acts.{all_counted}
use Rattle.jr_steps.specs.Knowing.{Goes, state_of}
use Rattle.jr_steps.proofs.StepFacts.{goes_did}
use Rattle.jr_rule.specs.declared.pass.Pass.{Pass}
use Rattle.jr_rule.specs.declared.row.Row.{Row}
use Rattle.jr_rule.specs.Passes.{gathered, joints_of, known_of, stands_of, HasEachPass, HasPass, IsAt, IsSeenIn}
use Rattle.jr_rule.specs.Passes.{PassStands}
use Rattle.jr_rule.specs.Sights.{IsSeatOf}
use Rattle.jr_rule.specs.Rule.{counting, crowd_of, first_alone, joints_at, others_of, stepping_pass, together}
use Rattle.jr_rule.specs.Parting.{no_seat}
use Rattle.jr_rule.specs.Rule.{view_at, without_first, AreBeginnings}
use Rattle.jr_rule.specs.Rule.{CountedBy, HasCounted, EachFits, IsAlone, IsCrowd, IsSeated, LookedBy, SeatState, Tells}
use Rattle.jr_rule.proofs.Ended.{seen_in}
use Rattle.jr_rule.proofs.GateSteps.{counted_after}
use Rattle.jr_rule.proofs.RuleKept.{total_append}

-- A PASS AND A CROWD AT ONE SEAT

pub beside_is : (a b m : SeatState) → IsAlone a → IsCrowd b → m ≡ (together a.0 b.0, a.1) → m ≡ crowd_of 0 a [] b
beside_is a b m alone crowd e =
    let n : joints_at a + joints_at b + 1 ≡ joints_at a + (0 + joints_at b) + 1 = omega arith in
    e ∙ (ap (λ (z : SeatState × SeatState). (together z.0.0 z.1.0, z.0.1)) (λ i. (alone i, crowd i))
    ∙ (λ i. (view_at (n i) (stepping_pass a ∷ b.0.passes) [], [])))

-- a pass that others come to, of whose seat an empty one was cut
pub crowd_cut : (m a b : SeatState) (n : ℕ) (ks : List Known) → IsAlone m → a ≡ (first_alone m.0, m.1)
    → b ≡ (without_first m.0, []) → crowd_of n a ks b ≡ crowd_of (n + 1) m ks no_seat
crowd_cut m a b n ks alone first none =
    let count : joints_at m + 1 + (n + 0) + 1 ≡ joints_at m + (n + 1 + 0) + 1 = omega arith in
    ap (λ (z : SeatState × SeatState). crowd_of n z.0 ks z.1) (λ i. (first i, none i)) ∙ (λ i. (
      view_at (count i) (stepping_pass m ∷ (ks ++ ap (λ (z : SeatState). others_of z.0.passes) alone i)) [],
      [],
    ))

-- the seat of one pass more
module _ (p : Pass) (s rest : SeatState) (joined : s ≡ (together p.seat.me.0 rest.0, p.seat.me.1)) where
  pub passes_more : s.0.passes ≡ known_of p ∷ rest.0.passes
  passes_more =
      ap (λ (z : SeatState). z.0.passes) joined ∙ ap (λ (z : SeatState). z.0.passes ++ rest.0.passes) p.held.alone

  joints_more : joints_at s ≡ joints_of p + joints_at rest + 1
  joints_more = ap joints_at joined

  pub crowd_more : IsCrowd rest → s ≡ (view_at (joints_of p + joints_at rest + 1) (known_of p ∷ rest.0.passes) [], [])
  crowd_more crowd =
      joined ∙ ap (λ (z : SeatState × SeatState). (together z.0.0 z.1.0, z.0.1)) (λ i. (p.held.alone i, crowd i))

  pub still_crowd : IsCrowd rest → IsCrowd s
  still_crowd crowd = crowd_more crowd ∙ (λ i. (view_at (sym joints_more i) (sym passes_more i) [], []))

  gathered_more : (xs init : List Pass) → xs ≡ init ++ p ∷ []
      → gathered init + joints_at s ≡ gathered xs + joints_at rest
  gathered_more xs init is =
      let sum : gathered xs ≡ gathered init + (joints_of p + 1 + 0) =
      ap gathered is ∙ total_append (λ (q : Pass). joints_of q + 1) init (p ∷ []) in
      let j : joints_at s ≡ joints_of p + joints_at rest + 1 = joints_more in omega arith

  pub same_crowd : (first : SeatState) (xs init : List Pass) → xs ≡ init ++ p ∷ [] → crowd_of (gathered init) first
      (map known_of init) s ≡ crowd_of (gathered xs) first (map known_of xs) rest
  same_crowd first xs init is = ap
      (λ (z : ℕ × List Known). (view_at (joints_at first + z.0 + 1) (stepping_pass first ∷ z.1) [], []))
      (λ i. (gathered_more xs init is i, same_passes i))
    where
      same_passes : map known_of init ++ s.0.passes ≡ map known_of xs ++ rest.0.passes
      same_passes = ap (λ l. map known_of init ++ l) passes_more
          ∙ (sym (append_assoc (map known_of init) (known_of p ∷ []) rest.0.passes)
          ∙ (ap (λ l. l ++ rest.0.passes) (sym (map-append known_of init (p ∷ [])))
          ∙ ap (λ l. map known_of l ++ rest.0.passes) (sym is)))

pub more_stand : (xs ys zs : List Pass) (p q : Pass) → xs ≡ ys ++ p ∷ [] → map stands_of zs ≡ map stands_of ys
    → stands_of q ≡ stands_of p → map stands_of (zs ++ q ∷ []) ≡ map stands_of xs
more_stand xs ys zs p q is same one = map-append stands_of zs (q ∷ [])
    ∙ (ap (λ (z : List PassStands × PassStands). z.0 ++ z.1 ∷ []) (λ i. (same i, one i))
    ∙ (sym (map-append stands_of ys (p ∷ [])) ∙ ap (map stands_of) (sym is)))

-- the last of several passes, and those before it
pub at_last : (r : Row) (xs ys : List Pass) (o : Option Pass) (p : Pass) → xs ≡ ys ++ option_to_list o → o ≡ Some p
    → All (λ q. IsAt r q) xs → All (λ q. IsAt r q) ys × IsAt r p
at_last r xs ys o p e is all =
    let both = All-pop (λ q. IsAt r q) xs ys o e all in
    (both.0, subst (λ (z : Option Pass). IfSome z (λ q. IsAt r q)) is both.1)

-- WHAT THE LOOK COUNTS

pub counts_so : (m c m' : SeatState) (n count : ℕ) (q : GateParts) → m ≡ c → Tells CountedBy m n m'
    → ((p : GateParts) → IsGate p → n ≡ gate_word p → q ≡ p) → count ≡ all_counted q → HasCounted c m' count
counts_so m c m' n count q e t same is =
    let s = t.says in
    let new : t.new ≡ stepping_pass m' = sym (ap stepping_pass t.is) in record {
      found = n;
      tells = subst (λ z. Tells CountedBy z n m') e t;
      is = is ∙ (ap all_counted (same s.0 s.1 s.2)
          ∙ (counted_after s.0 t.goes s.4 ∙ ap (λ (k : Known). not_outside k.config (state_of k)) new));
    }

module _ (brought : ℕ) (first rest m' : SeatState) (ks : List Known) (count : ℕ)
    (c : HasCounted (crowd_of brought first ks rest) m' count) where
  -- what they count together
  abbrev all_joints : ℕ
  all_joints = joints_at first + (brought + joints_at rest) + 1

  pub counted_is : m' ≡ (view_at all_joints ((c.tells).new ∷ (ks ++ rest.0.passes)) [], [])
  counted_is = c.tells.is

  -- what the first pass knows then
  pub met_is : (c.tells).new ≡ stepping_pass m'
  met_is = sym (ap stepping_pass counted_is)

  pub met_goes : Goes (stepping_pass first) (Meet ∷ []) (stepping_pass m')
  met_goes = subst (λ (z : List Act × Known). Goes (stepping_pass first) z.0 z.1) (λ i. (c.tells.says.3 i, met_is i))
      c.tells.goes

  pub counted_seated : IsSeated m'
  counted_seated =
      counted_is
      ∙ sym (ap (λ (z : SeatState). (view_at (joints_at z) (stepping_pass z ∷ others_of z.0.passes) [], [])) counted_is)

  pub others_are : others_of m'.0.passes ≡ ks ++ rest.0.passes
  others_are = ap (λ (z : SeatState). others_of z.0.passes) counted_is

  parted_is : (a : SeatState) → a ≡ (first_alone m'.0, m'.1)
      → a ≡ (view_at (all_joints + 1) ((c.tells).new ∷ []) [], [])
  parted_is a parted = parted ∙ ap (λ (z : SeatState). (first_alone z.0, z.1)) counted_is

  -- and it has the count of all, with the parting
  pub parted_joints : (a : SeatState) → a ≡ (first_alone m'.0, m'.1) → joints_at a ≡ all_joints + 1
  parted_joints a parted = ap joints_at (parted_is a parted)

  -- alone again, the first pass has looked
  pub looked_alone : IsAlone first → (a : SeatState) → a ≡ (first_alone m'.0, m'.1)
      → Tells (LookedBy (Meet ∷ [])) (counting (joints_at a) first) c.found a
  looked_alone alone a parted =
      let t = c.tells in
      let is = parted_is a parted in record {
        acts = t.acts;
        new = t.new;
        is = is ∙ (λ i. (
          view_at (ap joints_at (sym is) i) (t.new ∷ ap (λ (z : SeatState). others_of z.0.passes) (sym alone) i) [],
          ap (λ (z : SeatState). z.1) (sym alone) i,
        ));
        goes = t.goes;
        says = (t.says.3, t.says.5);
        space = t.space;
        held = t.held;
        others = subst (λ ls. EachFits (stepping_pass first).config (stepping_pass first).last (t.new).seen t.held ls)
            (sym (ap (λ (z : SeatState). others_of z.0.passes) alone)) tt;
        noted = subst (λ ns. AreBeginnings (stepping_pass first).config (t.new).seen ns)
            (sym (ap (λ (z : SeatState). z.0.notes) alone)) tt;
      }

  -- what the look saw begins with all that the others have seen, and has no more of their events
  pub all_seen : rest.0.passes ≡ [] → AllByRecursion (IsSeenIn (stepping_pass m').seen) ks
  all_seen none =
      let t = c.tells in
      subst (λ (k : Known). AllByRecursion (IsSeenIn k.seen) ks) met_is
      (seen_in (stepping_pass first).config (stepping_pass first).last (t.new).seen t.held ks
      (subst (λ ls. EachFits (stepping_pass first).config (stepping_pass first).last (t.new).seen t.held ls)
      (ap (λ l. ks ++ l) none ∙ append-nil ks) t.others))

-- WHERE ALL ARE OUTSIDE NOBODY IS COUNTED

outside_in : (whole : History) (t : ℕ) (ps : List Pass) → AllByRecursion (IsSeenIn whole) (map known_of ps)
    → AllByRecursion (λ p. p.role ≡ Outside) ps → HasPass (map known_of ps) t → (state whole).role t ≡ Outside
outside_in whole t [] seen out has = absurd has
outside_in whole t (p ∷ ps) seen out has = ⊎_elim
    (λ (e : (known_of p).thread ≡ t). subst (λ u. (state whole).role u ≡ Outside) e
    (role_of_state whole (known_of p).thread ∙ (ap (role_from Outside) (seen.0).own
    ∙ (sym (role_of_state (known_of p).seen (known_of p).thread) ∙ (p.held.role_is ∙ out.0)))))
    (λ (h : HasPass (map known_of ps) t). outside_in whole t ps seen.1 out.1 h)
    has

pub nobody_counted : (c : Config) (p : Pass) (ps : List Pass) (met : Known) → Goes (known_of p) (Meet ∷ []) met
    → AllByRecursion (IsSeenIn met.seen) (map known_of ps) → HasEachPass c (map known_of (p ∷ ps))
    → AllByRecursion (λ q. q.role ≡ Outside) (p ∷ ps) → not_outside c (state_of met) ≡ 0
nobody_counted c p ps met goes seen each out = count_all_false c.threads
    (λ t. not (is_outside ((state met.seen).role t))) (λ t l. ap (λ r. not (is_outside r)) (one t (each t l)))
  where
    own : (state met.seen).role (known_of p).thread ≡ Outside
    own = ap (λ u. (state met.seen).role u) (sym goes.thread)
        ∙ (role_did (Meet ∷ []) (goes_did goes) ∙ (p.held.role_is ∙ out.0))

    one : (t : ℕ) → HasPass (map known_of (p ∷ ps)) t → (state met.seen).role t ≡ Outside
    one t has = ⊎_elim
        (λ (e : (known_of p).thread ≡ t). subst (λ u. (state met.seen).role u ≡ Outside) e own)
        (λ (h : HasPass (map known_of ps) t). outside_in met.seen t ps seen out.1 h)
        has

-- passes that stand as others do are of the same room
at_one : (r : Row) (p q : Pass) → stands_of q ≡ stands_of p → IsAt r p → IsAt r q
at_one r p q e at = record {
  row = ap (λ (z : PassStands). z.room) e ∙ at.row;
  config = ap (λ (z : PassStands). (z.knows).config) e ∙ at.config;
  last = ap (λ (z : PassStands). (z.knows).last) e ∙ at.last;
}

pub all_at : (r : Row) (xs ys : List Pass) → map stands_of ys ≡ map stands_of xs → All (λ p. IsAt r p) xs
    → All (λ p. IsAt r p) ys
all_at r [] [] e all = all
all_at r [] (y ∷ ys) e all = absurd cc
all_at r (x ∷ xs) [] e all = All-nil (λ p. IsAt r p)
all_at r (x ∷ xs) (y ∷ ys) e all = All-cons (λ p. IsAt r p) y ys (at_one r x y (cc) (All-head (λ p. IsAt r p) x xs all))
    (all_at r xs ys (cc) (All-tail (λ p. IsAt r p) x xs all))

-- a pass of the row has its seat there
pub seat_of : (r : Row) (p : Pass) → IsAt r p
    → IsSeatOf r.table.shared.table_id r.config r.last p.seat.table_id p.seat.me p.thread
seat_of r p at = record {
  table = at.row;
  config = at.config;
  last = at.last;
  alone = p.held.alone;
  thread_is = p.held.thread_is;
  sized = p.held.sized;
  below = subst (λ t. t < (known_of p).config.threads) (sym p.held.thread_is) p.held.row;
  space = p.held.space;
}

pub some_not_none : (n : ℕ) → 1 ≤ n → n ≡ 0 → ⊥
some_not_none n some none = absurd (omega arith)

-- the two partings and the join of all that come together
pub and_three : (a b n : ℕ) → b ≡ a + (n + 1 + 0) + 1 + 1 → b ≡ a + n + 3
and_three a b n e = omega arith
