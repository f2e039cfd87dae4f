-- Each program is played in its stay, by one induction.
use Rattle.std.proofs.Common.{◌≡◌, inl, inr, ℕ, zero, suc, true, false, Option, Some, None}
use Rattle.std.proofs.Common.{Result, Ok, Err, List, [], ◌∷◌, ◌++◌, map, length, slice_get, slice_index_or}
use Rattle.std.proofs.Common.{refl, sym, ap, subst, ◌∙◌, append-nil}
use mathlib.Core.List.{IsPrefix}
use Rattle.jr_word.specs.declared.fault.Fault.{Fault}
use Rattle.jr_word.specs.declared.fault.Fault.TheVariants.{Moved, Null, Raced}
use Rattle.jr_word.specs.declared.kind.Kind.{Kind}
use Rattle.jr_model.specs.declared.event.Act.{Act}
use Rattle.jr_model.specs.State.{Contents, State}
use Rattle.jr_model.specs.Frames.{Frames}
use Rattle.jr_model.specs.History.{History}
use Rattle.jr_model.specs.declared.event.Act.TheVariants.{Read}
use Rattle.jr_model.specs.Checks.{Word, is_objects, object_of_word}
use Rattle.jr_model.specs.Tests.{AreSilent, Tests, refused_by, tested}
use Rattle.jr_model.specs.Calls.{Call, some_act}
use Rattle.jr_model.specs.References.{resolved, resolved_both}
use Rattle.jr_model.specs.Programs.{AnswerKind, AnswerOf, Which, at_both, call_of, set_known, Ending, Program}
use Rattle.jr_model.specs.Programs.Which.{one, other}
use Rattle.jr_model.specs.Programs.Program.{ends, names, names_both, wants, looks, tests, finds}
use Rattle.jr_world.specs.World.{MeantOf, contents, contents_in, named_by, standing_at}
use Rattle.jr_world.specs.Births.{births}
use Rattle.jr_world.specs.Doing.{Doing, Shared, as_seen, decided, program_steps, unless_refused, whatever, ◌>>◌, ◌>>=◌}
use Rattle.jr_world.specs.Doing.Doing.{ended}
use Rattle.jr_world.specs.Doing as doing
use Rattle.jr_world.specs.Plays.{Plays, InStands}
use Rattle.jr_world.specs.Plays.Plays.{has_ended}
use Rattle.jr_world.specs.Playing.{AptAt, BothAre, HavePassed, ObjectIs, SameFault, WordIs}
use Rattle.jr_world.proofs.Births.BornLists.{some_same}
use Rattle.jr_world.proofs.InStay.{EndingPlays, HandIs, IsAt, KnownAre, MayRefuse, Scene, StaysOn, Then, at_now}
use Rattle.jr_world.proofs.InStay.{at_within, object_now, word_now}
use Rattle.jr_world.proofs.Joining.{joined_later}
use Rattle.jr_world.proofs.Standing.{stays_between}
use Rattle.jr_world.proofs.OpenParts.{looks_in}
use Rattle.one_order.specs.Orders.{Item}
use Rattle.one_order.specs.Orders.Item.{does as acting}

pub same_fault : (e : Fault) → SameFault e e
same_fault (Raced looked found) = tt
same_fault (Moved looked found) = tt
same_fault _ = refl

pub map_append : {X Y : Type 0} (h : X → Y) (xs ys : List X) → map h (xs ++ ys) ≡ map h xs ++ map h ys
map_append h [] ys = refl
map_append h (x ∷ xs) ys = ap (λ l. h x ∷ l) (map_append h xs ys)

at_map : {X Y : Type 0} (h : X → Y) (xs : List X) (i : ℕ) (x : X) (y : Y) → slice_get xs i ≡ Some x
    → slice_index_or (map h xs) i y ≡ h x
at_map h [] i x y is = absurd cc
at_map h (z ∷ xs) zero x y is = ap h (some_same z x is)
at_map h (z ∷ xs) (suc i) x y is = at_map h xs i x y is

module _ (k : Scene) where
  -- a refusal that ends the call at once
  pub refused_plays : (a : AnswerKind) (e : Fault) (past : History) (g : Frames) (behind : List (Item Act))
      → IsAt k past []
      → Plays k.config k.whole k.thread (Then k a (Err e)) g behind (ended (Err e)) past g []
  refused_plays a e past g behind at = has_ended (Err e) (at.stays, at.begins, same_fault e)

  -- tests, and what follows where none refuses
  pub tests_play : (a : AnswerKind) (ts : Tests) (call : Call (AnswerOf a)) (d : Doing (MeantOf a)) (past : History)
      (f g : Frames) (acts : List Act) (answer : Result (AnswerOf a) Fault) (behind : List (Item Act))
      → IsAt k past acts
      → (HavePassed ts → call f acts answer g
      → Plays k.config k.whole k.thread (Then k a answer) g behind d past f (map acting acts))
      → tested ts call f acts answer g
      → Plays k.config k.whole k.thread (Then k a answer) g behind (decided (refused_by ts) >> d) past f
      (map acting acts)
  tests_play a [] call d past f g acts answer behind at plays ran = plays tt ran
  tests_play a ((true, e) ∷ ts) call d past f g acts answer behind at plays
      (inl (x, mid, front, rest, all, first, next)) =
      absurd (let bad = first.1 in cc)
  tests_play a ((true, e) ∷ ts) call d past f g acts answer behind at plays (inr (fault, is, first)) = go
    where
      none : acts ≡ []
      none = first.0

      same : fault ≡ e
      same = let it = first.1 in cc

      go : Plays k.config k.whole k.thread (Then k a answer) g behind (ended (Err e)) past f (map acting acts)
      go = subst (λ l. Plays k.config k.whole k.thread (Then k a answer) g behind (ended (Err e)) past f (map acting l))
          (sym none)
          (subst (λ h. Plays k.config k.whole k.thread (Then k a answer) g behind (ended (Err e)) past h []) first.2
          (subst (λ r. Plays k.config k.whole k.thread (Then k a r) g behind (ended (Err e)) past g [])
          (sym (is ∙ ap (λ z. Err z) same))
          (refused_plays a e past g behind (subst (IsAt k past) none at))))
  tests_play a ((false, e) ∷ ts) call d past f g acts answer behind at plays (inr (fault, is, first)) =
      absurd (let bad = first.1 in cc)
  tests_play a ((false, e) ∷ ts) call d past f g acts answer behind at plays
      (inl (x, mid, front, rest, all, first, next)) = tests_play a ts call d past f g acts answer behind at
      (λ passed. plays (refl, passed))
      (subst (λ h. tested ts call h acts answer g) first.2
      (subst (λ l. tested ts call mid l answer g) (sym (all ∙ ap (λ l. l ++ rest) first.0)) next))

  -- what is known goes on being known
  known_now : (past now : History) (known known' : Which → Option ℕ) → KnownAre k past known known'
      → ((o j : ℕ) → ObjectIs past o j → ObjectIs now o j) → KnownAre k now known known'
  known_now past now known known' are stays p = go (known p) (known' p) (are p)
    where
      go : (x y : Option ℕ) → BothAre (ObjectIs past) x y → BothAre (ObjectIs now) x y
      go None None so = tt
      go (Some o) (Some j) so = stays o j so
      go None (Some j) so = absurd so
      go (Some o) None so = absurd so

  set_known_are : (past : History) (known known' : Which → Option ℕ) (w : Which) (x y : Option ℕ)
      → KnownAre k past known known' → BothAre (ObjectIs past) x y
      → KnownAre k past (set_known known w x) (set_known known' w y)
  set_known_are past known known' one x y are so one = so
  set_known_are past known known' one x y are so other = are other
  set_known_are past known known' other x y are so one = are one
  set_known_are past known known' other x y are so other = so

  both_known_are : (past : History) (x x' y y' : Option ℕ) → BothAre (ObjectIs past) x x' → BothAre (ObjectIs past) y y'
      → KnownAre k past (at_both x y) (at_both x' y')
  both_known_are past x x' y y' first second one = first
  both_known_are past x x' y y' first second other = second

  -- what was found of a reference: the object, none, or the refusal
  abbrev pub FoundAs : History → Result (Option ℕ) Fault → Result (Option ℕ) Fault → Type 0
  FoundAs later (Ok x) (Ok y) = BothAre (ObjectIs later) x y
  FoundAs later (Err e) (Err d) = d ≡ e
  FoundAs later _ _ = ⊥

  -- the call goes on with these acts, and so much was found
  abbrev pub GoesOnWith : List Act → Result (Option ℕ) Fault → History → Result (Option ℕ) Fault → Type 0
  GoesOnWith rest x later r = IsAt k later rest × FoundAs later x r

  -- .. of two references, and of an element that names an object
  abbrev pub FoundBoth : History → Result (Option ℕ × Option ℕ) Fault → Result (Option ℕ × Option ℕ) Fault → Type 0
  FoundBoth later (Ok x) (Ok y) = BothAre (ObjectIs later) x.0 y.0 × BothAre (ObjectIs later) x.1 y.1
  FoundBoth later (Err e) (Err d) = d ≡ e
  FoundBoth later _ _ = ⊥

  abbrev pub GoesOnWithBoth : List Act → Result (Option ℕ × Option ℕ) Fault → History
      → Result (Option ℕ × Option ℕ) Fault → Type 0
  GoesOnWithBoth rest x later r = IsAt k later rest × FoundBoth later x r

  abbrev pub FoundElement : History → Result ℕ Fault → Result ℕ Fault → Type 0
  FoundElement later (Ok v) (Ok w) = BothAre (ObjectIs later) (object_of_word v) (named_by w)
  FoundElement later _ _ = ⊥

  abbrev pub GoesOnWithElement : List Act → Result ℕ Fault → History → Result ℕ Fault → Type 0
  GoesOnWithElement rest x later r = IsAt k later rest × FoundElement later x r

  -- what must be played besides: references that are named, elements that name objects, and endings
  pub record PartsPlay (z : State) : Type 0 where
    pub name : (w : Word) (n : ℕ) (past : History) (f g : Frames) (acts rest : List Act)
        (x : Result (Option ℕ) Fault) (behind : List (Item Act)) → IsAt k past (acts ++ rest) → WordIs past w n
        → resolved k.config k.last k.thread w f acts x g
        → (g ≡ f) × Plays k.config k.whole k.thread (GoesOnWith rest x) f behind (doing.named n) past f
        (map acting acts)
    pub both : (v w : Word) (m n : ℕ) (past : History) (f g : Frames) (acts rest : List Act)
        (x : Result (Option ℕ × Option ℕ) Fault) (behind : List (Item Act)) → IsAt k past (acts ++ rest)
        → WordIs past v m
        → WordIs past w n → resolved_both k.config k.last k.thread v w f acts x g
        → (g ≡ f) × Plays k.config k.whole k.thread (GoesOnWithBoth rest x) f behind (doing.named_both m n) past f
        (map acting acts)
    pub find : (i : ℕ) (kind : Kind) (o o' : ℕ) (past : History) (f g : Frames) (acts rest : List Act)
        (x : Result ℕ Fault) (behind : List (Item Act)) → IsAt k past (acts ++ rest) → HandIs k past kind o o'
        → is_objects kind ≡ true → some_act (Read o i) f acts x g
        → (g ≡ f) × Plays k.config k.whole k.thread (GoesOnWithElement rest x) f behind (doing.element_read o' i) past f
        (map acting acts)
    pub header : (past : History) (acts : List Act) (kind : Kind) (o o' : ℕ) (x : Contents) → IsAt k past acts
        → HandIs k past kind o o' → z.objects o ≡ Some x
        → (y : Contents) × (slice_get (births past).objects o' ≡ Some (o, Some y)) × (kind ≡ x.kind) × (y.kind ≡ x.kind)
        × (length y.words ≡ length x.words)
    pub ending : {n : ℕ} {a : AnswerKind} (e : Ending n a) → EndingPlays k e

  null_only : (e : Fault) → ◌≡◌ {A = Result ℕ Fault} (Err e) (Err Null) → e ≡ Null
  null_only e is = cc

  module _ (z : State) (parts : PartsPlay z) (words : Which → Word) (numbers : Which → ℕ) where
    abbrev pub Called : (a : AnswerKind) → Result (AnswerOf a) Fault → Frames → List (Item Act) → Doing (MeantOf a)
        → History → Frames → List Act → Type 0
    Called a answer g behind d past f acts =
        Plays k.config k.whole k.thread (Then k a answer) g behind d past f (map acting acts)

    -- THE INDUCTION: what a program is at this place of its call
    abbrev pub ProgramPlays : {n : ℕ} {a : AnswerKind} → Program n a → Type 0
    ProgramPlays {n} {a} p = (known known' : Which → Option ℕ) (kind : Kind) (o o' : ℕ) (past : History)
        (f g : Frames) (acts : List Act) (answer : Result (AnswerOf a) Fault) (behind : List (Item Act))
        → IsAt k past acts
        → ((w : Which) → WordIs past (words w) (numbers w)) → KnownAre k past known known' → HandIs k past kind o o'
        → AptAt k.last f words kind p → MayRefuse k behind answer
        → call_of k.config k.last k.thread z words p known o f acts answer g
        → Called a answer g behind (program_steps k.config k.noted numbers p known' o') past f acts

    wants_plays : {n : ℕ} {a : AnswerKind} (w : Which) (next : Program n a) → ProgramPlays next
        → ProgramPlays (wants w next)
    wants_plays {n} {a} w next plays known known' kind o o' past f g acts answer behind at words_are are hand apt may
        ran =
        go (known w) (known' w) (are w) ran
      where
        go : (x y : Option ℕ) → BothAre (ObjectIs past) x y
            → (Rattle.jr_model.specs.Calls.◌>>=◌ (Rattle.jr_model.specs.Parts.not_null x) (λ q.
            call_of k.config k.last k.thread z words next known q)) f acts answer g
            → Called a answer g behind (decided (Rattle.jr_world.specs.World.not_null y)
            >>= (λ q. program_steps k.config k.noted numbers next known' q)) past f acts
        go None None so (inl (x, mid, front, rest, all, first, behind')) = absurd (let bad = first.1 in cc)
        go None None so (inr (e, is, first)) =
            subst (λ l. Called a answer g behind (ended (Err Null)) past f l) (sym first.0)
            (subst (λ h. Called a answer g behind (ended (Err Null)) past h []) first.2
            (subst (λ r. Called a r g behind (ended (Err Null)) past g [])
            (sym (is ∙ ap (λ (d : Fault). Err d) (null_only e first.1)))
            (refused_plays a Null past g behind (subst (IsAt k past) first.0 at))))
        go (Some q) (Some j) so (inr (e, is, first)) = absurd (let bad = first.1 in cc)
        go (Some q) (Some j) so (inl (x, mid, front, rest, all, first, ran')) =
            plays known known' so.0.kind q j past f g acts answer behind at words_are are
            (inr (so.0, so.1, refl)) (apt so.0.kind) may
            (subst (λ u. call_of k.config k.last k.thread z words next known u f acts answer g) (let it = first.1 in cc)
            (subst (λ h. call_of k.config k.last k.thread z words next known x h acts answer g) first.2
            (subst (λ l. call_of k.config k.last k.thread z words next known x mid l answer g)
            (sym (all ∙ ap (λ l. l ++ rest) first.0)) ran')))
        go None (Some j) so ran = absurd so
        go (Some q) None so ran = absurd so

    tests_go_on : {n : ℕ} {a : AnswerKind} (ts : Tests) (silent : AreSilent ts) (next : Program n a) → ProgramPlays next
        → ProgramPlays (tests ts silent next)
    tests_go_on {n} {a} ts silent next plays known known' kind o o' past f g acts answer behind at words_are are hand
        apt
        may ran = tests_play a ts (call_of k.config k.last k.thread z words next known o)
        (program_steps k.config k.noted numbers next known' o') past f g acts answer behind at
        (λ passed ran'. plays known known' kind o o' past f g acts answer behind at words_are are hand (apt passed) may
        ran') ran

    ends_play : {n : ℕ} {a : AnswerKind} (e : Ending n a) → ProgramPlays (ends e)
    ends_play e known known' kind o o' past f g acts answer behind at words_are are hand apt may ran =
        parts.ending e words numbers known known' kind o o' past f g acts answer behind at words_are are hand apt may
        ran

    -- what is known stays known from one moment of the call to a later one
    stays_later : (past later : History) (acts rest : List Act) → IsAt k past acts → IsAt k later rest
        → IsPrefix past later → StaysOn k past later
    stays_later past later acts rest at at' begins =
        stays_between k.config k.last k.whole k.thread k.legal k.entry past later at.stays at'.stays begins

    objects_later : (past later : History) (acts rest : List Act) → IsAt k past acts → IsAt k later rest
        → IsPrefix past later → (o j : ℕ) → ObjectIs past o j → ObjectIs later o j
    objects_later past later acts rest at at' begins o j so =
        let it = object_now k past later (stays_later past later acts rest at at' begins) at'.begins o j so.0 so.1 in
        (it.0, it.1)

    hand_later : (past later : History) (acts rest : List Act) → IsAt k past acts → IsAt k later rest
        → IsPrefix past later → (kind : Kind) (o o' : ℕ) → HandIs k past kind o o' → HandIs k later kind o o'
    hand_later past later acts rest at at' begins kind o o' (inl none) = inl none
    hand_later past later acts rest at at' begins kind o o' (inr (x, is, of_kind)) =
        let it = object_now k past later (stays_later past later acts rest at at' begins) at'.begins o o' x is in
        inr (it.0, it.1, it.2 ∙ of_kind)

    -- a refusal of a first part ends the program
    refused_first : {X : Type 0} (a : AnswerKind) (V : History → Result X Fault → Type 0) (d : Doing X)
        (next : X → Doing (MeantOf a)) (e : Fault) (past : History) (f g : Frames) (acts : List Act)
        (answer : Result (AnswerOf a) Fault) (behind : List (Item Act)) → answer ≡ Err e → g ≡ f
        → ((later : History) (r : Result X Fault) → V later r → IsAt k later [] × (r ≡ Err e))
        → Plays k.config k.whole k.thread V f behind d past f (map acting acts)
        → Called a answer g behind (d >>= next) past f acts
    refused_first {X} a V d next e past f g acts answer behind is same so plays =
        subst (λ l. Plays k.config k.whole k.thread (Then k a answer) g behind (d >>= next) past f l)
        (append-nil (map acting acts))
        (joined_later k.config k.whole k.thread V (Then k a answer) f g (unless_refused next) [] behind d past f
        (map acting acts) plays
        (λ later r begins v.
        let it = so later r v in
        subst (λ (z : Result X Fault). Plays k.config k.whole k.thread (Then k a answer) g behind
        (unless_refused next z)
        later f []) (sym it.1)
        (subst (λ h. Plays k.config k.whole k.thread (Then k a answer) h behind (ended (Err e)) later f []) (sym same)
        (subst (λ r. Plays k.config k.whole k.thread (Then k a r) f behind (ended (Err e)) later f []) (sym is)
        (refused_plays a e later f behind it.0)))))

    -- an answer of a first part goes on
    answered_first : {X : Type 0} (a : AnswerKind) (V : History → Result X Fault → Type 0) (d : Doing X)
        (next : X → Doing (MeantOf a)) (past : History) (f mid g : Frames) (acts front rest : List Act)
        (answer : Result (AnswerOf a) Fault) (behind : List (Item Act)) → acts ≡ front ++ rest → mid ≡ f
        → ((later : History) (r : Result X Fault) → IsPrefix past later → V later r
        → (y : X) × (r ≡ Ok y) × Called a answer g behind (next y) later f rest)
        → Plays k.config k.whole k.thread V f (map acting rest ++ behind) d past f (map acting front)
        → Called a answer g behind (d >>= next) past f acts
    answered_first {X} a V d next past f mid g acts front rest answer behind all same follows plays =
        subst (λ l. Plays k.config k.whole k.thread (Then k a answer) g behind (d >>= next) past f l)
        (sym (ap (map acting) all ∙ map_append acting front rest))
        (joined_later k.config k.whole k.thread V (Then k a answer) f g (unless_refused next) (map acting rest) behind d
        past f (map acting front) plays
        (λ later r begins v.
        let it = follows later r begins v in
        subst (λ (z : Result X Fault). Plays k.config k.whole k.thread (Then k a answer) g behind
        (unless_refused next z)
        later f (map acting rest)) (sym it.1) it.2))

    name_goes_on : {n : ℕ} {a : AnswerKind} (w : Which) (next : Program n a) → ProgramPlays next
        → ProgramPlays (names w next)
    name_goes_on {n} {a} w next plays known known' kind o o' past f g acts answer behind at words_are are hand apt may
        (inl (x, mid, front, rest, all, first, ran)) =
        let here = subst (IsAt k past) all at in
        let named = parts.name (words w) (numbers w) past f mid front rest (Ok x) (map acting rest ++ behind) here
        (words_are w) first in
        answered_first a (GoesOnWith rest (Ok x)) (doing.named (numbers w))
        (λ y. program_steps k.config k.noted numbers next (set_known known' w y) o') past f mid g acts front rest answer
        behind all named.0
        (λ later r begins (at', found). go later r begins at' found
        (subst (λ h. call_of k.config k.last k.thread z words next (set_known known w x) o h rest answer g) named.0 ran)
        here) named.1
      where
        go : (later : History) (r : Result (Option ℕ) Fault) → IsPrefix past later → IsAt k later rest
            → FoundAs later (Ok x) r
            → call_of k.config k.last k.thread z words next (set_known known w x) o f rest answer g
            → IsAt k past (front ++ rest)
            → (y : Option ℕ) × (r ≡ Ok y)
            × Called a answer g behind (program_steps k.config k.noted numbers next (set_known known' w y) o') later f
            rest
        go later (Err e) begins at' found ran' here = absurd found
        go later (Ok y) begins at' found ran' here = (
          y,
          refl,
          plays (set_known known w x) (set_known known' w y) kind o o' later f g rest answer behind at'
              (λ v. word_now k past later begins (words v) (numbers v) (words_are v))
              (set_known_are later known known' w x y (known_now past later known known' are
              (objects_later past later (front ++ rest) rest here at' begins)) found)
              (hand_later past later (front ++ rest) rest here at' begins kind o o' hand) apt may ran',
        )
    name_goes_on {n} {a} w next plays known known' kind o o' past f g acts answer behind at words_are are hand apt may
        (inr (e, is, first)) =
        let named = parts.name (words w) (numbers w) past f g acts [] (Err e) behind
        (subst (IsAt k past) (sym (append-nil acts)) at) (words_are w) first in
        refused_first a (GoesOnWith [] (Err e)) (doing.named (numbers w))
        (λ y. program_steps k.config k.noted numbers next (set_known known' w y) o') e past f g acts answer behind is
        named.0 (λ later r (at', found). (at', refused later r found)) named.1
      where
        refused : (later : History) (r : Result (Option ℕ) Fault) → FoundAs later (Err e) r → r ≡ Err e
        refused later (Ok y) found = absurd found
        refused later (Err d) found = ap (λ (z : Fault). Err z) found

    both_go_on : {n : ℕ} {a : AnswerKind} (next : Program n a) → ProgramPlays next → ProgramPlays (names_both next)
    both_go_on {n} {a} next plays known known' kind o o' past f g acts answer behind at words_are are hand apt may
        (inl (x, mid, front, rest, all, first, ran)) =
        let here = subst (IsAt k past) all at in
        let named = parts.both (words one) (words other) (numbers one) (numbers other) past f mid front rest (Ok x)
        (map acting rest ++ behind) here (words_are one) (words_are other) first in
        answered_first a (GoesOnWithBoth rest (Ok x)) (doing.named_both (numbers one) (numbers other))
        (λ y. program_steps k.config k.noted numbers next (at_both y.0 y.1) o') past f mid g acts front rest answer
        behind all named.0
        (λ later r begins (at', found). go later r begins at' found
        (subst (λ h. call_of k.config k.last k.thread z words next (at_both x.0 x.1) o h rest answer g) named.0 ran)
        here) named.1
      where
        go : (later : History) (r : Result (Option ℕ × Option ℕ) Fault) → IsPrefix past later → IsAt k later rest
            → FoundBoth later (Ok x) r
            → call_of k.config k.last k.thread z words next (at_both x.0 x.1) o f rest answer g
            → IsAt k past (front ++ rest)
            → (y : Option ℕ × Option ℕ) × (r ≡ Ok y)
            × Called a answer g behind (program_steps k.config k.noted numbers next (at_both y.0 y.1) o') later f rest
        go later (Err e) begins at' found ran' here = absurd found
        go later (Ok y) begins at' found ran' here = (
          y,
          refl,
          plays (at_both x.0 x.1) (at_both y.0 y.1) kind o o' later f g rest answer behind at'
              (λ v. word_now k past later begins (words v) (numbers v) (words_are v))
              (both_known_are later x.0 y.0 x.1 y.1 found.0 found.1)
              (hand_later past later (front ++ rest) rest here at' begins kind o o' hand) apt may ran',
        )
    both_go_on {n} {a} next plays known known' kind o o' past f g acts answer behind at words_are are hand apt may
        (inr (e, is, first)) =
        let named = parts.both (words one) (words other) (numbers one) (numbers other) past f g acts [] (Err e) behind
        (subst (IsAt k past) (sym (append-nil acts)) at) (words_are one) (words_are other) first in
        refused_first a (GoesOnWithBoth [] (Err e)) (doing.named_both (numbers one) (numbers other))
        (λ y. program_steps k.config k.noted numbers next (at_both y.0 y.1) o') e past f g acts answer behind is named.0
        (λ later r (at', found). (at', refused later r found)) named.1
      where
        refused : (later : History) (r : Result (Option ℕ × Option ℕ) Fault) → FoundBoth later (Err e) r → r ≡ Err e
        refused later (Ok y) found = absurd found
        refused later (Err d) found = ap (λ (z : Fault). Err z) found

    finding_goes_on : {n : ℕ} {a : AnswerKind} (i : ℕ) (next : Program n a) → ProgramPlays next
        → ProgramPlays (finds i next)
    finding_goes_on {n} {a} i next plays known known' kind o o' past f g acts answer behind at words_are are hand apt
        may
        (inl (x, mid, front, rest, all, first, ran)) =
        let here = subst (IsAt k past) all at in
        let found = parts.find i kind o o' past f mid front rest (Ok x) (map acting rest ++ behind) here hand apt.0
        first in
        answered_first a (GoesOnWithElement rest (Ok x)) (doing.element_read o' i)
        (λ v. program_steps k.config k.noted numbers next (set_known known' one (named_by v)) o') past f mid g acts
        front
        rest answer behind all found.0
        (λ later r begins (at', is). go later r begins at' is
        (subst (λ h. call_of k.config k.last k.thread z words next (set_known known one (object_of_word x)) o h rest
        answer g) found.0 ran) here) found.1
      where
        go : (later : History) (r : Result ℕ Fault) → IsPrefix past later → IsAt k later rest
            → FoundElement later (Ok x) r
            → call_of k.config k.last k.thread z words next (set_known known one (object_of_word x)) o f rest answer g
            → IsAt k past (front ++ rest)
            → (y : ℕ) × (r ≡ Ok y)
            × Called a answer g behind (program_steps k.config k.noted numbers next (set_known known' one (named_by y))
            o') later f rest
        go later (Err e) begins at' is ran' here = absurd is
        go later (Ok y) begins at' is ran' here = (
          y,
          refl,
          plays (set_known known one (object_of_word x)) (set_known known' one (named_by y)) kind o o' later f g rest
              answer behind at' (λ v. word_now k past later begins (words v) (numbers v) (words_are v))
              (set_known_are later known known' one (object_of_word x) (named_by y)
              (known_now past later known known' are
              (objects_later past later (front ++ rest) rest here at' begins)) is)
              (hand_later past later (front ++ rest) rest here at' begins kind o o' hand) apt.1 may ran',
        )
    finding_goes_on {n} {a} i next plays known known' kind o o' past f g acts answer behind at words_are are hand apt
        may
        (inr (e, is, first)) = absurd (let bad = first.2 in cc)

    -- what stands in the world is what was born
    contents_there : (now : History) (f' : Frames) (s : Shared) (o o' : ℕ) (y : Contents)
        → InStands k.config k.thread now f' s → slice_get (births now).objects o' ≡ Some (o, Some y)
        → contents (as_seen k.thread s) o' ≡ y
    contents_there now f' s o o' y st is = ap (λ l. contents_in (standing_at l o')) st.objects
        ∙ ap contents_in (at_map (λ (e : ℕ × Option Contents). e.1) (births now).objects o' (o, Some y) None is)

    looks_go_on : {n : ℕ} {a : AnswerKind} (next : Kind → ℕ → Program n a)
        → ((kind : Kind) (long : ℕ) → ProgramPlays (next kind long)) → ProgramPlays (looks next)
    looks_go_on {n} {a} next plays known known' kind o o' past f g acts answer behind at words_are are hand apt may
        (x, there, ran) =
        looks_in k.config k.last k.whole k.thread k.legal (at_within k past acts at) (λ w. Ok (contents w o'))
        (unless_refused (λ y. program_steps k.config k.noted numbers (next y.kind (length y.words)) known' o'))
        (λ now s goes st.
        let here = at_now k past now acts at goes in
        let begins : IsPrefix past now = (goes.since, sym goes.is) in
        let hand' = hand_later past now acts acts at here begins kind o o' hand in
        let head = parts.header now acts kind o o' x here hand' there in
        let is = contents_there now f s o o' head.0 st head.1 in
        subst (λ y. Called a answer g behind
        (program_steps k.config k.noted numbers (next y.kind (length y.words)) known'
        o') now f acts) (sym is)
        (subst (λ l. Called a answer g behind (program_steps k.config k.noted numbers (next head.0.kind l) known' o')
        now
        f acts) (sym head.4)
        (subst (λ j. Called a answer g behind
        (program_steps k.config k.noted numbers (next j (length x.words)) known' o')
        now f acts) (sym head.3)
        (plays x.kind (length x.words) known known' kind o o' now f g acts answer behind here
        (λ v. word_now k past now begins (words v) (numbers v) (words_are v))
        (known_now past now known known' are (objects_later past now acts acts at here begins)) hand'
        (subst (λ j. AptAt k.last f words kind (next j (length x.words))) head.2 (apt (length x.words))) may ran))))

    -- EACH PROGRAM IS PLAYED
    pub program_plays : {n : ℕ} {a : AnswerKind} (p : Program n a) → ProgramPlays p
    program_plays (ends e) = ends_play e
    program_plays (names w next) = name_goes_on w next (program_plays next)
    program_plays (names_both next) = both_go_on next (program_plays next)
    program_plays (wants w next) = wants_plays w next (program_plays next)
    program_plays (looks next) = looks_go_on next (λ kind long. program_plays (next kind long))
    program_plays (tests ts silent next) = tests_go_on ts silent next (program_plays next)
    program_plays (finds i next) = finding_goes_on i next (program_plays next)
