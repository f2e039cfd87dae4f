-- What the machine's tests decide: whether an event may come, and whether a history is legal.
use Rattle.std.proofs.Common.{◌≡◌, ◌≢◌, ◌⊎◌, ◌↔◌, inl, inr, ℕ, ◌+◌, ◌<◌, ◌≤◌, ◌==◌, ◌^◌, min, Bool, true, false}
use Rattle.std.proofs.Common.{IsTrue, not, cond, if◌then◌else◌, ◌&&◌, ◌||◌, Option, Some, None, is_some, List}
use Rattle.std.proofs.Common.{[], ◌∷◌, length, slice_get, refl, sym, ap, subst, ◌∙◌, arith, nat_le, Decides}
use Rattle.std.proofs.Math.Nat.{min-eq_left, min_comm}
use Rattle.std.specs.List.{list_any, list_all}
use Rattle.std.proofs.lemmas.Bool.{cases_lt, le-leb, leb-true}
use Rattle.std.proofs.lemmas.Bool.Decides.{Decides-like, Decides-and, Decides-or, Decides-not, Decides-eqb, Decides-ltb}
use Rattle.jr_word.specs.declared.config.Config.{Config}
use Rattle.jr_word.specs.declared.handle.RefKind.TheVariants.{Local, Weak}
use Rattle.jr_word.specs.declared.kind.Kind.{Kind}
use Rattle.jr_word.specs.declared.kind.Kind.TheVariants.{Plain, Boolean, Byte, Char, Short, Int, Long, Objects, Text}
use Rattle.jr_model.specs.declared.event.Role.{Role}
use Rattle.jr_model.specs.declared.event.Role.TheVariants.{Outside, Within, Knocking, Announcing, Collecting}
use Rattle.jr_model.specs.declared.event.Found.{Found}
use Rattle.jr_model.specs.declared.event.Found.TheVariants.{Object, Cleared, Stale}
use Rattle.jr_model.specs.declared.event.Event.{Event}
use Rattle.jr_model.specs.declared.event.Act.{Act}
use Rattle.jr_model.specs.declared.event.Act.TheVariants.{Gate, ShutBusy, Create, Look, Probe, Delete, DeleteStale}
use Rattle.jr_model.specs.declared.event.Act.TheVariants.{Clear, LocalPut, LocalDrop, Reserve, ReserveFull}
use Rattle.jr_model.specs.declared.event.Act.TheVariants.{ReserveLost, New, Read, Write, Drop, Settle, Meet}
use Rattle.jr_model.specs.declared.event.GateAct.{GateAct}
use Rattle.jr_model.specs.declared.event.GateAct.TheVariants.{Enter, Knock, Leave, Withdraw}
use Rattle.jr_model.specs.declared.event.GateAct.TheVariants.{Announce, Cancel, Shut, Reopen}
use Rattle.jr_model.specs.State.{Handle, same_kind, same_handle, Contents, State, opening, NobodyCloses}
use Rattle.jr_model.specs.State.{SomebodyCloses, is_barring, is_outside, is_there, not_outside}
use Rattle.jr_model.specs.State.{present_words, IsWord, AreWords, IsClosed, IsReached, IsOccupied}
use Rattle.jr_model.specs.Steps.{MayShut, IsInRow, FromRole, GateNeeds, ActNeeds, Needs, act_after, after}
use Rattle.jr_model.specs.History.{History, state, state_from, IsLegal, IsLegalFrom}
use Rattle.jr_model.specs.Checks.{is_objects, is_text}
use Rattle.jr_model.specs.Decided.{below, same_role, same_answer, is_word, may_shut, from_role}
use Rattle.jr_model.specs.Decided.{somebody_closes, is_closed_at, gate_may, is_in_row, is_given, is_standing}
use Rattle.jr_model.specs.Decided.{is_index_taken, has_word, takes_word, is_lost, is_weak_to, act_may, may}
use Rattle.jr_model.specs.Decided.{given_after, given_from, may_from, LegalIsDecided, EventIsDecided}
use Rattle.jr_model.proofs.Counts.{beyond_after, not_true}
use Rattle.jr_model.proofs.InRoom.{in_room_act, in_room_opening}
use Rattle.jr_model.proofs.Updates.{at_handle, handle_true}
use Rattle.jr_model.proofs.Listed.{implies, unless, three, four, itself, any_of}
use Rattle.jr_model.proofs.Listed.{all_at, some_of, any_below, all_below, hits_are_few}
use Rattle.jr_model.proofs.Reaching.{IsWithin, same_kind_is, same_handle_is, same_found_is}
use Rattle.jr_model.proofs.Reaching.{word_there_is, is_objects_is, listed, reached_is}

leb_is : (a b : ℕ) → Decides (nat_le a b) (a ≤ b)
leb_is a b = (leb-true a b, le-leb a b)

role_is : (r q : Role) → Decides (same_role r q) (r ≡ q)
role_is Outside Outside = (λ e. refl, λ e. refl)
role_is Within Within = (λ e. refl, λ e. refl)
role_is Knocking Knocking = (λ e. refl, λ e. refl)
role_is Announcing Announcing = (λ e. refl, λ e. refl)
role_is Collecting Collecting = (λ e. refl, λ e. refl)
role_is _ _ = (λ e. absurd cc, λ e. absurd cc)

outside_is : (r : Role) → Decides (is_outside r) (r ≡ Outside)
outside_is Outside = (λ e. refl, λ e. refl)
outside_is _ = (λ e. absurd cc, λ e. absurd cc)

there_is : (f : Found) → Decides (is_there f) (f ≢ Stale)
there_is Stale = (λ e. absurd cc, λ ne. absurd (ne refl))
there_is _ = (λ e e'. absurd cc, λ ne. refl)

stale_is : (f : Found) → Decides (not (is_there f)) (f ≡ Stale)
stale_is Stale = (λ e. refl, λ e. refl)
stale_is _ = (λ e. absurd cc, λ e. absurd cc)

none_is : {A : Type 0} (m : Option A) → Decides (not (is_some m)) (m ≡ None)
none_is None = (λ e. refl, λ e. refl)
none_is (Some x) = (λ e. absurd cc, λ e. absurd cc)

string_is : (k : Kind) → Decides (is_text k) (k ≡ Text)
string_is Text = (λ e. refl, λ e. refl)
string_is _ = (λ e. absurd cc, λ e. absurd cc)

answer_is : {P : Type 0} (b x : Bool) → Decides x P → Decides (same_answer b x) (IsTrue b ↔ P)
answer_is true x d = (λ e. (λ t. d.0 e, λ p. refl), λ h. d.1 (h.0 refl))
answer_is false true d = (λ e. absurd cc, λ h. absurd (let never = h.1 (d.0 refl) in cc))
answer_is false false d = (λ e. (λ t. absurd cc, λ p. absurd (let never = d.1 p in cc)), λ h. refl)

module _ (s : State) where
  word_is : (k : Kind) (v : ℕ) → Decides (is_word s k v) (IsWord s k v)
  word_is Plain v = (λ e. absurd cc, λ never. absurd never)
  word_is Boolean v = Decides-ltb v 2
  word_is Byte v = Decides-ltb v (2 ^ 8)
  word_is Char v = Decides-ltb v (2 ^ 16)
  word_is Short v = Decides-ltb v (2 ^ 16)
  word_is Int v = Decides-ltb v (2 ^ 32)
  word_is Long v = Decides-ltb v (2 ^ 64)
  word_is Objects v = Decides-or _ _ (Decides-eqb v 0) (itself (is_some (s.objects v)))
  word_is Text v = Decides-ltb v (2 ^ 16)

  words_are : (k : Kind) (ws : List ℕ) → Decides (list_all (is_word s k) ws) (AreWords s k ws)
  words_are k ws = all_at {P = IsWord s k} (is_word s k) (word_is k) ws

  closed_at_is : (m : Option Contents)
      → Decides (is_closed_at s m) ((x : Contents) → m ≡ Some x → x.kind ≡ Objects → AreWords s Objects x.words)
  closed_at_is None = (λ t x e. absurd cc, λ f. refl)
  closed_at_is (Some y) = Decides-like _
      (λ h x e. let is : y ≡ x = cc in subst (λ (x : Contents). x.kind ≡ Objects → AreWords s Objects x.words) is h)
      (λ f. f y refl)
      (implies (is_objects y.kind) (list_all (is_word s Objects) y.words) (is_objects_is y.kind)
      (words_are Objects y.words))

  word_at_is : (i v : ℕ) (m : Option Contents)
      → Decides (has_word m i v) ((x : Contents) × (m ≡ Some x) × (slice_get x.words i ≡ Some v))
  word_at_is i v = some_of {Q = λ (x : Contents). slice_get x.words i ≡ Some v} (λ m. has_word m i v) refl
      (λ x. word_there_is (slice_get x.words i) v)

  abbrev Takes : ℕ → ℕ → Contents → Type 0
  Takes i v x = (x.kind ≢ Text) × (i < length x.words) × IsWord s x.kind v

  takes_is : (i v : ℕ) (m : Option Contents)
      → Decides (takes_word s m i v) ((x : Contents) × (m ≡ Some x) × Takes i v x)
  takes_is i v = some_of {Q = Takes i v} (λ m. takes_word s m i v) refl
      (λ x. three _ _ _ (Decides-not (is_text x.kind) (string_is x.kind)) (Decides-ltb i (length x.words))
      (word_is x.kind v))

row_is : (c : Config) (last : ℕ) (h : Handle) → Decides (is_in_row c last h) (IsInRow c last h)
row_is c last h = four _ _ _ _
    (Decides-not (same_kind h.kind Local) (same_kind_is h.kind Local)) (Decides-eqb h.owner 0)
    (Decides-ltb h.index c.slots) (leb_is h.serial last)

module _ (c : Config) (given : List Handle) (s : State) (within : IsWithin c given s) where
  closes_is : Decides (somebody_closes c s) (SomebodyCloses s)
  closes_is = Decides-like _ (λ h. (h.0, h.2)) (λ h. (h.0, small h.0 h.1 (cases_lt h.0 c.threads), h.1))
      (any_below {P = λ t. is_barring (s.role t) ≡ true} (λ t. is_barring (s.role t)) (λ t. itself _) c.threads)
    where
      small : (t : ℕ) → is_barring (s.role t) ≡ true → (t < c.threads) ⊎ (c.threads ≤ t) → t < c.threads
      small t b (inl l) = l
      small t b (inr l) = absurd (let out = ap is_barring (within.roles t l) in cc)

  nobody_is : Decides (not (somebody_closes c s)) (NobodyCloses s)
  nobody_is = Decides-like _ (λ n t. not_true _ (λ b. n (t, b))) (λ f h. let never = f h.0 in let is = h.1 in cc)
      (Decides-not _ closes_is)

  others_out : (t : ℕ) → Decides (gate_may c s t Shut) (GateNeeds s t Shut)
  others_out t = Decides-like _ (λ f u ne. far u (cases_lt u c.threads) (λ l. f u l ne)) (λ f u l ne. f u ne)
      (all_below {P = λ u. u ≢ t → s.role u ≡ Outside} (λ u. (u == t) || is_outside (s.role u))
      (λ u. unless (u == t) (is_outside (s.role u)) (Decides-eqb u t) (outside_is (s.role u))) c.threads)
    where
      far : (u : ℕ) → (u < c.threads) ⊎ (c.threads ≤ u) → (u < c.threads → s.role u ≡ Outside) → s.role u ≡ Outside
      far u (inl l) f = f l
      far u (inr l) f = within.roles u l

  closed_is : (t : ℕ) → Decides (gate_may c s t Reopen) (IsClosed s)
  closed_is t =
      Decides-like _ (λ f o x e. f o (let l = within.room.objects o (ap is_some e) in omega arith) x e) (λ f o l. f o)
      (all_below {P = λ o. (x : Contents) → s.objects o ≡ Some x → x.kind ≡ Objects → AreWords s Objects x.words}
      (λ o. is_closed_at s (s.objects o)) (λ o. closed_at_is s (s.objects o)) (c.objects + 1))

  may_shut_is : (r : Role) → Decides (may_shut r) (MayShut r)
  may_shut_is r = Decides-or _ _ (role_is r Outside) (role_is r Announcing)

  from_role_is : (a : GateAct) (r : Role) → Decides (from_role a r) (FromRole a r)
  from_role_is Enter r = role_is r Outside
  from_role_is Knock r = role_is r Outside
  from_role_is Leave r = role_is r Within
  from_role_is Withdraw r = role_is r Knocking
  from_role_is Announce r = role_is r Outside
  from_role_is Cancel r = role_is r Announcing
  from_role_is Shut r = may_shut_is r
  from_role_is Reopen r = role_is r Collecting

  gate_is : (t : ℕ) (a : GateAct) → Decides (gate_may c s t a) (GateNeeds s t a)
  gate_is t Enter = nobody_is
  gate_is t Knock = closes_is
  gate_is t Announce = nobody_is
  gate_is t Shut = others_out t
  gate_is t Reopen = closed_is t
  gate_is t _ = (λ e. tt, λ u. refl)

  standing_is : (i : ℕ) → Decides (is_standing given s i) ((h : Handle) × (h.index ≡ i) × (s.refs h ≢ Stale))
  standing_is i = Decides-like _ (λ h. (h.0, h.2.0, h.2.1)) (λ h. (h.0, listed c given s within h.0 h.2, (h.1, h.2)))
      (any_of same_handle same_handle_is {P = λ h. (h.index ≡ i) × (s.refs h ≢ Stale)}
      (λ (h : Handle). (h.index == i) && is_there (s.refs h))
      (λ h. Decides-and _ _ (Decides-eqb h.index i) (there_is (s.refs h))) given)

  given_is : (i n : ℕ)
      → Decides (is_given given i n) ((h : Handle) × (h.index ≡ i) × (h.serial ≡ n) × (s.given h ≡ true))
  given_is i n = Decides-like _ (λ h. (h.0, h.2.0, h.2.1, within.known h.0 ∙ h.1))
      (λ h. (h.0, sym (within.known h.0) ∙ h.3, (h.1, h.2)))
      (any_of same_handle same_handle_is {P = λ h. (h.index ≡ i) × (h.serial ≡ n)}
      (λ (h : Handle). (h.index == i) && (h.serial == n))
      (λ h. Decides-and _ _ (Decides-eqb h.index i) (Decides-eqb h.serial n)) given)

  index_free : (i : ℕ) → Decides (not (is_standing given s i)) ((g : Handle) → g.index ≡ i → s.refs g ≡ Stale)
  index_free i = Decides-like _
      (λ n g e. (stale_is (s.refs g)).0 (ap not (not_true _ (λ there. n (g, e, (there_is (s.refs g)).0 there)))))
      (λ f h. h.2 (f h.0 h.1)) (Decides-not _ (standing_is i))

  serial_free : (i n : ℕ)
      → Decides (not (is_given given i n)) ((g : Handle) → g.index ≡ i → g.serial ≡ n → s.given g ≡ false)
  serial_free i n = Decides-like _ (λ no' g e e'. not_true _ (λ was. no' (g, e, e', was)))
      (λ f h. let never = f h.0 h.1 h.2 in let is = h.3 in cc) (Decides-not _ (given_is i n))

  abbrev Given : ℕ → ℕ → Type 0
  Given i n = (h : Handle) × (h.index ≡ i) × (h.serial ≡ n) × (s.given h ≡ true)

  -- of more serials than handles that were given one was not
  all_given : (last i : ℕ)
      → Decides (list_all (is_given given i) (below (min (last + 1) (length given + 1)))) ((n : ℕ) → n ≤ last
      → (h : Handle) × (h.index ≡ i) × (h.serial ≡ n) × (s.given h ≡ true))
  all_given last i = go (cases_lt (last + 1) (length given + 1))
    where
      upto : (m : ℕ) → Decides (list_all (is_given given i) (below m)) ((n : ℕ) → n < m → Given i n)
      upto = all_below {P = Given i} (is_given given i) (given_is i)

      go : (last + 1 < length given + 1) ⊎ (length given + 1 ≤ last + 1)
          → Decides (list_all (is_given given i) (below (min (last + 1) (length given + 1)))) ((n : ℕ) → n ≤ last
          → Given i n)
      go (inl l) = let is : min (last + 1) (length given + 1) ≡ last + 1 = min-eq_left (omega arith) in
          rw is (Decides-like _ (λ f n l. f n (omega arith)) (λ f n l. f n (omega arith)) (upto (last + 1)))
      go (inr l) =
          let least : min (length given + 1) (last + 1) ≡ length given + 1 = min-eq_left (omega arith) in
          let is : min (last + 1) (length given + 1) ≡ length given + 1 =
          min_comm (last + 1) (length given + 1) ∙ least in
          rw is (Decides-like _ (λ f. absurd (full f)) (λ f n l. f n (omega arith)) (upto (length given + 1)))
        where
          full : ((n : ℕ) → n < length given + 1 → Given i n) → ⊥
          full f =
              let few = hits_are_few (λ (h : Handle). h.index == i) (λ (h : Handle). h.serial) given (length given + 1)
              (λ n l. (given_is i n).1 (f n l)) in
              omega arith

  occupied_is : (last i : ℕ) → Decides (is_index_taken last given s i) (IsOccupied last s i)
  occupied_is last i = Decides-or _ _ (standing_is i) (all_given last i)

  lost_is : (f : Found) → Decides (is_lost c given s f) ((o : ℕ) × (f ≡ Object o) × ¬ (IsReached s o))
  lost_is (Object o) = Decides-like _ (λ n. (o, refl, n))
      (λ h. let is : h.0 ≡ o = let e = h.1 in cc in subst (λ p. ¬ (IsReached s p)) is h.2)
      (Decides-not _ (reached_is c given s within o))
  lost_is Cleared = (λ e. absurd cc, λ h. absurd (let never = h.1 in cc))
  lost_is Stale = (λ e. absurd cc, λ h. absurd (let never = h.1 in cc))

  no_weak_is : (o : ℕ)
      → Decides (not (list_any (is_weak_to s o) given)) ((h : Handle) → h.kind ≡ Weak → s.refs h ≢ Object o)
  no_weak_is o = Decides-like _ (λ n h k r. n (h, k, r)) (λ f h. f h.0 h.1 h.2)
      (Decides-not {P = (h : Handle) × (h.kind ≡ Weak) × (s.refs h ≡ Object o)} (list_any (is_weak_to s o) given)
      (Decides-like _ (λ h. (h.0, h.2.0, h.2.1))
      (λ h. (h.0, listed c given s within h.0 (λ e. let is = h.2 in cc), (h.1, h.2)))
      (any_of same_handle same_handle_is {P = λ h. (h.kind ≡ Weak) × (s.refs h ≡ Object o)} (is_weak_to s o)
      (λ h. Decides-and _ _ (same_kind_is h.kind Weak) (same_found_is (s.refs h) (Object o))) given)))

  act_is : (last t : ℕ) (a : Act) → Decides (act_may c last given s t a) (ActNeeds c last s t a)
  act_is last t (Gate a) = Decides-and _ _ (from_role_is a (s.role t)) (gate_is t a)
  act_is last t (ShutBusy n) = three _ _ _ (may_shut_is (s.role t))
      (Decides-eqb (not_outside c s) (n + (if is_outside (s.role t) then 0 else 1))) (leb_is 1 n)
  act_is last t (Create h o) =
      Decides-like _ (λ h. (h.0.0, h.0.1, h.0.2, h.0.3, h.1)) (λ h. ((h.0, h.1, h.2, h.3), h.4))
      (Decides-and _ _
      (four _ _ _ _ (role_is (s.role t) Within) (itself (is_some (s.objects o))) (row_is c last h) (index_free h.index))
      (serial_free h.index h.serial))
  act_is last t (Look h r) = Decides-and _ _ (role_is (s.role t) Within) (same_found_is (s.refs h) r)
  act_is last t (Probe i b) =
      Decides-and _ _ (role_is (s.role t) Within) (answer_is b (is_index_taken last given s i) (occupied_is last i))
  act_is last t (Delete h) = Decides-and _ _ (role_is (s.role t) Within) (there_is (s.refs h))
  act_is last t (DeleteStale h) = Decides-and _ _ (role_is (s.role t) Within) (stale_is (s.refs h))
  act_is last t (Clear h) = Decides-like _ (λ h. (h.0, h.1, h.2.0, h.2.1, h.2.2)) (λ h. (h.0, h.1, (h.2, h.3, h.4)))
      (three _ _ _ (role_is (s.role t) Collecting) (same_kind_is h.kind Weak) (lost_is (s.refs h)))
  act_is last t (LocalPut p o) =
      three _ _ _ (role_is (s.role t) Within) (Decides-ltb p c.locals) (itself (is_some (s.objects o)))
  act_is last t (LocalDrop p) = Decides-and _ _ (role_is (s.role t) Within) (Decides-ltb p c.locals)
  act_is last t (Reserve n) = Decides-and _ _ (role_is (s.role t) Within) (leb_is (s.used + n) c.words)
  act_is last t (ReserveFull n u) =
      three _ _ _ (role_is (s.role t) Within) (Decides-eqb u s.used) (Decides-ltb c.words (u + n))
  act_is last t (ReserveLost n l f) =
      three _ _ _ (role_is (s.role t) Within) (Decides-eqb f s.used) (Decides-not (f == l) (Decides-eqb f l))
  act_is last t (New o k ws) = Decides-like _
      (λ h. (h.0.0, h.0.1, h.0.2, h.0.3, h.1.0, h.1.1)) (λ h. ((h.0, h.1, h.2, h.3), (h.4, h.5)))
      (Decides-and _ _
      (four _ _ _ _ (role_is (s.role t) Within) (leb_is 1 o) (leb_is o c.objects) (none_is (s.objects o)))
      (Decides-and _ _ (words_are s k ws) (leb_is (present_words c s + length ws) s.used)))
  act_is last t (Read o i v) = Decides-like _ (λ h. (h.0, h.1.0, h.1.1, h.1.2)) (λ h. (h.0, (h.1, h.2, h.3)))
      (Decides-and _ _ (role_is (s.role t) Within) (word_at_is s i v (s.objects o)))
  act_is last t (Write o i v) = Decides-like _
      (λ h. (h.0, h.1.0, h.1.1, h.1.2.0, h.1.2.1, h.1.2.2)) (λ h. (h.0, (h.1, h.2, (h.3, h.4, h.5))))
      (Decides-and _ _ (role_is (s.role t) Within) (takes_is s i v (s.objects o)))
  act_is last t (Drop o) = four _ _ _ _ (role_is (s.role t) Collecting) (itself (is_some (s.objects o)))
      (Decides-not _ (reached_is c given s within o)) (no_weak_is o)
  act_is last t (Settle u) = Decides-and _ _ (role_is (s.role t) Collecting) (Decides-eqb u (present_words c s))
  act_is last t Meet = (λ e. tt, λ u. refl)

  -- an event may come where it has what it needs
  pub may_is : (last : ℕ) (e : Event) → Decides (may c last given s e) (Needs c last s e)
  may_is last e = Decides-and _ _ (Decides-ltb e.thread c.threads) (act_is last e.thread e.act)

opening_within : (c : Config) → IsWithin c [] opening
opening_within c =
    record { room = in_room_opening c 0; roles = λ t l. refl; known = λ h. refl; standing = λ h ne. absurd (ne refl) }

module _ (c : Config) (last : ℕ) where
  -- the given handles are these
  abbrev AreGiven : List Handle → State → Type 0
  AreGiven given s = (h : Handle) → s.given h ≡ list_any (same_handle h) given

  -- each reference that stands was given
  abbrev StandGiven : State → Type 0
  StandGiven s = (h : Handle) → s.refs h ≢ Stale → s.given h ≡ true

  known_after : (given : List Handle) (s : State) (t : ℕ) (a : Act) → AreGiven given s
      → AreGiven (given_after given a) (act_after s t a)
  known_after given s t (Create g o) known h =
      at_handle (λ b. b ≡ (same_handle h g || list_any (same_handle h) given)) s.given g h true
      (λ e. let is : same_handle h g ≡ true = (same_handle_is h g).1 (sym e) in rw is refl)
      (λ ne. let apart : same_handle h g ≡ false = not_true _ (λ is. ne (sym (handle_true h g is))) in
      rw apart (known h))
  known_after given s t _ known h = known h

  standing_after : (s : State) (t : ℕ) (a : Act) → StandGiven s → ActNeeds c last s t a → StandGiven (act_after s t a)
  standing_after s t (Create g o) standing n h = go (same_handle g h)
    where
      go : (b : Bool) → cond b (Object o) (s.refs h) ≢ Stale → cond b true (s.given h) ≡ true
      go true ne = refl
      go false ne = standing h ne
  standing_after s t (Delete g) standing n h = go (same_handle g h)
    where
      go : (b : Bool) → cond b Stale (s.refs h) ≢ Stale → s.given h ≡ true
      go true ne = absurd (ne refl)
      go false ne = standing h ne
  standing_after s t (Clear g) standing n h = at_handle (λ f. f ≢ Stale → s.given h ≡ true) s.refs g h Cleared
      (λ e ne. standing h (λ stale.
      let names = n.3 in let same : s.refs g ≡ Stale = subst (λ k. s.refs k ≡ Stale) (sym e) stale in cc))
      (λ apart ne. standing h ne)
  standing_after s t _ standing n h = standing h

  within_after : (given : List Handle) (s : State) (e : Event) → IsWithin c given s → Needs c last s e
      → IsWithin c (given_after given e.act) (after s e)
  within_after given s e w n = record {
    room = in_room_act c last s e.thread e.act n.0 w.room n.1;
    roles = beyond_after c last s e w.roles n;
    known = known_after given s e.thread e.act w.known;
    standing = standing_after s e.thread e.act w.standing n.1;
  }

  from_is : (given : List Handle) (s : State) (es : History) → IsWithin c given s
      → Decides (may_from c last given s es) (IsLegalFrom c last s es)
  from_is given s [] w = (λ e. tt, λ u. refl)
  from_is given s (e ∷ es) w =
      go (may c last given s e) (may_is c given s w last e)
      (λ n. from_is (given_after given e.act) (after s e) es (within_after given s e w n))
    where
      go : (b : Bool) → Decides b (Needs c last s e) → (Needs c last s e
          → Decides (may_from c last (given_after given e.act) (after s e) es) (IsLegalFrom c last (after s e) es))
          → Decides (b && may_from c last (given_after given e.act) (after s e) es) (Needs c last s e
          × IsLegalFrom c last (after s e) es)
      go true d more = let n = d.0 refl in let r = more n in (λ e. (n, r.0 e), λ h. r.1 h.1)
      go false d more = (λ e. absurd cc, λ h. absurd (let never = d.1 h.0 in cc))

  within_from : (given : List Handle) (s : State) (es : History) → IsWithin c given s → IsLegalFrom c last s es
      → IsWithin c (given_from given es) (state_from s es)
  within_from given s [] w l = w
  within_from given s (e ∷ es) w l =
      within_from (given_after given e.act) (after s e) es (within_after given s e w l.0) l.1

  -- what stands after a legal history lies in the room
  pub within : (es : History) → IsLegal c last es → IsWithin c (given_from [] es) (state es)
  within es l = within_from [] opening es (opening_within c) l

  pub legal_is : LegalIsDecided c last
  legal_is es = from_is [] opening es (opening_within c)

  pub event_is : EventIsDecided c last
  event_is es e l = may_is c (given_from [] es) (state es) (within es l) last e

  -- where no given handle stands, none does
  pub standing_none : (es : History) → IsLegal c last es
      → not (list_any (λ h. is_there ((state es).refs h)) (given_from [] es)) ≡ true → (h : Handle)
      → is_there ((state es).refs h) ≡ false
  standing_none es l none h = not_true _ (λ there.
      let ne = (there_is ((state es).refs h)).0 there in
      (Decides-not _ (any_of same_handle same_handle_is {P = λ h. (state es).refs h ≢ Stale}
      (λ h. is_there ((state es).refs h)) (λ h. there_is ((state es).refs h)) (given_from [] es))).0 none
      (h, listed c (given_from [] es) (state es) (within es l) h ne, ne))
