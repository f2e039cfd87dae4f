-- PROGRAMS OF CALLS go as alone, but for those that make objects or references in slots.
use Rattle.std.proofs.Common.{◌≡◌, ◌==◌, ◌∙◌, ℕ, zero, suc, Bool, true, false, Option, Some, None, Result, Ok, Err}
use Rattle.std.proofs.Common.{List, length, refl, sym, ap, subst, arith}
use Rattle.std.proofs.lemmas.List.{length-map}
use Rattle.jr_word.specs.declared.config.Config.{Config}
use Rattle.jr_word.specs.declared.fault.Fault.{Fault}
use Rattle.jr_word.specs.declared.kind.Kind.{Kind}
use Rattle.jr_model.specs.declared.event.Role.TheVariants.{Outside, Within}
use Rattle.jr_model.specs.State.{Contents, is_barring}
use Rattle.jr_model.specs.Checks.{is_objects, same_object}
use Rattle.jr_model.specs.Tests.{refused_by}
use Rattle.jr_model.specs.Programs.{AnswerKind, Ending, Program, Which, at_both, none_known, set_known}
use Rattle.jr_model.specs.Programs.Which.{one, other}
use Rattle.jr_model.specs.Programs.Program.{ends, names, names_both, wants, looks, tests, finds}
use Rattle.jr_model.specs.Programs.Ending.{gives_kind, gives_number, gives_object, compares, types, creates, refers}
use Rattle.jr_model.specs.Programs.Ending.{deletes, deletes_local, asks_room, pushes, pops_to, frees, makes, fills}
use Rattle.jr_model.specs.Programs.Ending.{reads, reads_from, copies, writes, writes_to, writes_from}
use Rattle.jr_model.proofs.Updates.{eq_self, eq_true}
use Rattle.jr_world.specs.World.{contents, contents_in, named_by, not_null, object, standing_at}
use Rattle.jr_world.specs.Doing.{Doing, Noted, Shared, as_seen, atom, by_step, ending_steps, entered_in_steps, go_in}
use Rattle.jr_world.specs.Doing.{go_out, in_role, inside, named, named_both, noted, opened_in_steps, out_after}
use Rattle.jr_world.specs.Doing.{out_if_refused, own_or_shared, program_steps, run_alone, step, then_out}
use Rattle.jr_world.specs.Doing.{unless_refused, ◌>>=◌}
use Rattle.jr_world.specs.Doing.Doing.{ended}
use Rattle.jr_world.proofs.GatePlays.{none_of_others}
use Rattle.jr_scripts.proofs.OneRow.Alike.{Tidy, begin_itself}
use Rattle.jr_scripts.proofs.OneRow.Follows.{but, run_then}
use Rattle.jr_scripts.proofs.OneRow.Goes.{seen_is}
use Rattle.jr_scripts.proofs.OneRow.Parts.{object_is}
use Rattle.jr_scripts.proofs.Apart.Elements.{copied_goes, element_goes, found_goes, read_goes, rewritten_goes, set_goes}
use Rattle.jr_scripts.proofs.Apart.Elements.{written_goes}
use Rattle.jr_scripts.proofs.Apart.Parts.{BothFor, both_goes, deleted_goes, freed_goes, local_goes, named_goes}
use Rattle.jr_scripts.proofs.Apart.Parts.{popped_goes, push_goes, room_goes, typed_goes}
use Rattle.jr_scripts.proofs.Apart.Goes.{Goes, KeepsSpoilt, anywhere, bind_at, ended_goes, ended_so, goes_at, goes_bind}
use Rattle.jr_scripts.proofs.Apart.Goes.{goes_then, look_goes, not_spoilt, result_stays, spoilt_so, step_goes, was_on}
use Rattle.jr_scripts.proofs.Apart.Grown.{role_leaps}
use Rattle.jr_scripts.proofs.Apart.Leads.{Leaps, ResultFor}
use Rattle.jr_scripts.proofs.Apart.Mirrors.{Mirrors}
use Rattle.jr_scripts.proofs.Apart.Numbers.{ElementFor, Extends, HasKnown, IsFor, KnownFor, Numbers, ObjectFor, Of}
use Rattle.jr_scripts.proofs.Apart.Numbers.{Stays, WordFor, contents_as, element_of, known_later, known_of}
use Rattle.jr_scripts.proofs.Apart.Numbers.{object_later, object_of, same, word_later}
use Rattle.jr_scripts.proofs.Apart.Rooms.{alone_in, went_in}
use Rattle.jr_scripts.proofs.Apart.Writes.{OfObjects, contents_are, whole_as}

-- WHAT IS AT HAND: no object yet, one, or one of this kind
pub data AtHand : Type 0 where
  nothing_yet : AtHand
  an_object : AtHand
  of_kind : Kind → AtHand

-- it has objects as its elements, or has not
abbrev pub IsKind : AtHand → Bool → Type 0
IsKind (of_kind l) b = is_objects l ≡ b
IsKind at b = ⊥

abbrev pub IsThere : AtHand → Type 0
IsThere nothing_yet = ⊥
IsThere at = Unit {0}

-- WHAT A PROGRAM MAY END WITH where this is at hand: it makes nothing that others might leave no room for, and reads
-- and writes numbers where there are numbers, and objects where there are objects
abbrev pub Suits : {n : ℕ} {a : AnswerKind} → AtHand → Ending n a → Type 0
Suits at (creates k p) = ⊥
Suits at (makes k ws) = ⊥
Suits at (fills k n p) = ⊥
Suits at gives_object = IsThere at
Suits at (reads i) = IsKind at false
Suits at (reads_from i n) = IsKind at false
Suits at (copies n) = IsKind at false
Suits at (writes i v) = IsKind at false
Suits at (writes_from i vs) = IsKind at false
Suits at (writes_to i p) = IsKind at true
Suits at _ = Unit {0}

abbrev pub EachSuits : {n : ℕ} {a : AnswerKind} → AtHand → Program n a → Type 0
EachSuits at (ends e) = Suits at e
EachSuits at (names p next) = EachSuits at next
EachSuits at (names_both next) = EachSuits at next
EachSuits at (wants p next) = EachSuits an_object next
EachSuits at (looks next) = IsThere at × ((kind : Kind) (long : ℕ) → EachSuits (of_kind kind) (next kind long))
EachSuits at (tests ts silent next) = refused_by ts ≡ Ok tt → EachSuits at next
EachSuits at (finds i next) = IsKind at true × EachSuits at next

-- an object for the object at hand, and what is known of that
abbrev pub HandFor : Numbers → AtHand → ℕ → ℕ → Type 0
HandFor k nothing_yet o u = Unit {0}
HandFor k at o u = ObjectFor k o u

abbrev pub IsOfKind : AtHand → ℕ → Shared → Type 0
IsOfKind (of_kind l) u z = (contents (as_seen 0 z) u).kind ≡ l
IsOfKind at u z = Unit {0}

-- what is at hand stays so where more was made
hand_for_later : {j k : Numbers} → Extends j k → (at : AtHand) (o u : ℕ) → HandFor j at o u → HandFor k at o u
hand_for_later more nothing_yet o u is = tt
hand_for_later more an_object o u is = object_later more o u is
hand_for_later more (of_kind l) o u is = object_later more o u is

there : (k : Numbers) (at : AtHand) (o u : ℕ) → IsThere at → HandFor k at o u → ObjectFor k o u
there k nothing_yet o u bad is = absurd bad
there k an_object o u so is = is
there k (of_kind l) o u so is = is

kind_there : (at : AtHand) (b : Bool) → IsKind at b → IsThere at
kind_there nothing_yet b bad = absurd bad
kind_there an_object b bad = absurd bad
kind_there (of_kind l) b kind = tt

of_objects : (at : AtHand) (b : Bool) (u : ℕ) (z : Shared) → IsKind at b → IsOfKind at u z → OfObjects b u z
of_objects nothing_yet b u z bad is = absurd bad
of_objects an_object b u z bad is = absurd bad
of_objects (of_kind l) b u z kind is = ap is_objects is ∙ kind

-- WHERE A PROGRAM IS, among others and alone: what was noted, the words that are handed in, what is known of the
-- places, and the object at hand
record Hand (k : Numbers) : Type 0 where
  from : Noted
  since : Noted
  handed : Which → ℕ
  words : Which → ℕ
  known : Which → Option ℕ
  alone : Which → Option ℕ
  at : AtHand
  o : ℕ
  u : ℕ
  are : (p : Which) → WordFor k (handed p) (words p)
  has : (p : Which) → KnownFor k (known p) (alone p)
  is : HandFor k at o u

abbrev hand_later : {j k : Numbers} → Extends j k → Hand j → Hand k
hand_later more h = record {
  from = h.from;
  since = h.since;
  handed = h.handed;
  words = h.words;
  known = h.known;
  alone = h.alone;
  at = h.at;
  o = h.o;
  u = h.u;
  are = λ p. word_later more (h.handed p) (h.words p) (h.are p);
  has = λ p. known_later more (h.known p) (h.alone p) (h.has p);
  is = hand_for_later more h.at h.o h.u h.is;
}

set_for : (k : Numbers) (known alone : Which → Option ℕ) → ((p : Which) → KnownFor k (known p) (alone p)) → (p : Which)
    (x y : Option ℕ) → KnownFor k x y → (v : Which) → KnownFor k (set_known known p x v) (set_known alone p y v)
set_for k known alone are one x y is one = is
set_for k known alone are one x y is other = are other
set_for k known alone are other x y is one = are one
set_for k known alone are other x y is other = is

-- .. with this known of a place
abbrev hand_with : {k : Numbers} → Hand k → (p : Which) (x y : Option ℕ) → KnownFor k x y → Hand k
hand_with {k} h p x y is = record h {
  known = set_known h.known p x;
  alone = set_known h.alone p y;
  has = set_for k h.known h.alone h.has p x y is;
}

none_for : (k : Numbers) (p : Which) → KnownFor k (none_known p) (none_known p)
none_for k one = (refl, tt)
none_for k other = (refl, tt)

both_known : (k : Numbers) (x y : Option ℕ × Option ℕ) → BothFor k x y
    → (v : Which) → KnownFor k (at_both x.0 x.1 v) (at_both y.0 y.1 v)
both_known k x y is one = is.0
both_known k x y is other = is.1

named_for : (k : Numbers) (x y : ℕ) → ElementFor k x y → KnownFor k (named_by x) (named_by y)
named_for k x zero is = (ap named_by is.0, tt)
named_for k x (suc o) is = let has = is.1 in (ap named_by is.0, omega arith)

-- WHAT IS ALONE STAYS as it is by looks
abbrev Looks : {A : Type 0} → Doing A → Shared → Type 0
Looks d z = (run_alone 0 true d z).1 ≡ z

looks_then : {A B : Type 0} (d : Doing A) (next : A → Doing B) (z : Shared) → Looks d z
    → ((x : A) → Looks (next x) z) → Looks (d >>= next) z
looks_then {A} {B} d next z first rest = ap (λ x. x.1) (run_then (but 0) 0 d (unless_refused next) z)
    ∙ (ap (λ y. (run_alone 0 true (unless_refused next (run_alone 0 true d z).0) y).1) first
    ∙ go (run_alone 0 true d z).0)
  where
    go : (r : Result A Fault) → (run_alone 0 true (unless_refused next r) z).1 ≡ z
    go (Ok x) = rest x
    go (Err e) = refl

pub looks_named : (n : ℕ) (z : Shared) → Tidy z → Looks (named n) z
looks_named n z tidy = looks_then (own_or_shared n) _ z refl (λ x. object_is 0 n true z tidy)

looks_both : (m n : ℕ) (z : Shared) → Tidy z → Looks (named_both m n) z
looks_both m n z tidy = looks_then (own_or_shared m) _ z refl (λ v. looks_then (own_or_shared n) _ z refl
    (λ u. looks_then (atom (object m)) _ z (object_is 0 m true z tidy)
    (λ x. looks_then (atom (object n)) _ z (object_is 0 n true z tidy) (λ y. refl))))

-- one object or two: alone as among others
same_for : {t : ℕ} {k : Numbers} {s z : Shared} → Mirrors t k s z → (x y : Option ℕ) → HasKnown k x → HasKnown k y
    → same_object (known_of k x) (known_of k y) ≡ same_object x y
same_for m None None has has_too = refl
same_for m None (Some p) has has_too = refl
same_for m (Some o) None has has_too = refl
same_for {k = k} m (Some o) (Some p) has has_too = go (object_of k o == object_of k p) (o == p) refl refl
  where
    go : (a b : Bool) → (object_of k o == object_of k p) ≡ a → (o == p) ≡ b → a ≡ b
    go true true is so = refl
    go false false is so = refl
    go true false is so = sym (eq_self o) ∙ (ap (λ n. o == n)
        (m.objects_differ o p has has_too (eq_true (object_of k o) (object_of k p) is)) ∙ so)
    go false true is so = sym is ∙ (ap (λ n. object_of k o == object_of k n) (sym (eq_true o p so))
        ∙ eq_self (object_of k o))

as_long : (k : Numbers) (b : Bool) (words : List ℕ) → length (contents_as k b words) ≡ length words
as_long k true words = length-map words (element_of k)
as_long k false words = refl

wanted : (k : Numbers) (x y : Option ℕ) → KnownFor k x y → ResultFor (ObjectFor k) (not_null x) (not_null y)
wanted k x y is = subst (λ v. ResultFor (ObjectFor k) (not_null v) (not_null y)) (sym is.0) (go y is.1)
  where
    go : (y : Option ℕ) → HasKnown k y → ResultFor (ObjectFor k) (not_null (known_of k y)) (not_null y)
    go None has = refl
    go (Some o) has = (refl, has)

-- what is noted at an entry counts for nothing
abbrev any : Of Noted
any k x y = Unit {0}

module _ {c : Config} {t : ℕ} where
  plain : {A : Type 0} {At : Shared → Type 0} {Q : Of A} {k : Numbers} {d alone : Doing A}
      → Goes c t anywhere Q k d alone → Goes c t At Q k d alone
  plain goes = goes_at (λ z at. tt) goes

  -- OUT AT THE GATE, with any answer
  out_with : {A : Type 0} {Q : Of A} {k : Numbers} → Stays Q → (r x : Result A Fault) → ResultFor (Q k) r x
      → Goes c t anywhere Q k (step go_out (λ _. ended r)) (step go_out (λ _. ended x))
  out_with {Q = Q} {k = k} stays r x is = step_goes (λ v luck s. (r, in_role Outside v s))
      (λ v luck s. (x, in_role Outside v s))
      (λ luck j q s z more m at. (j, role_leaps m Outside refl, result_stays Q stays k j more r x is))

  -- what is spoilt stays so on its way out
  out_spoilt : {A : Type 0} → KeepsSpoilt {A = A} c t (λ r. step go_out (λ _. ended r))
  out_spoilt r spoilt since j q y = λ luck s m fits was. (
    j,
    q,
    in_role Outside 0 y,
    since,
    role_leaps m Outside refl,
    was_on since s (in_role Outside t s) (begin_itself s.owners) was,
    spoilt,
  )

  -- its exit, and that of a stay that goes on where it isn't refused
  then_out_goes : {A : Type 0} {Q : Of A} {k : Numbers} {d alone : Doing A} → Stays Q → Goes c t anywhere Q k d alone
      → Goes c t anywhere Q k (then_out d) (then_out alone)
  then_out_goes stays goes = goes_then (λ r. step go_out (λ _. ended r)) (λ r. step go_out (λ _. ended r)) out_spoilt
      goes (λ j more z is at. tt) (λ j more r x is. out_with stays r x is)

  out_if_refused_goes : {A : Type 0} {Q : Of A} {k : Numbers} {d alone : Doing A} → Stays Q
      → Goes c t anywhere Q k d alone → Goes c t anywhere Q k (out_if_refused d) (out_if_refused alone)
  out_if_refused_goes {A} {Q} stays goes =
      goes_then out_after out_after keeps goes (λ j more z is at. tt) (λ j more r x is. after j r x is)
    where
      keeps : KeepsSpoilt {A = A} c t out_after
      keeps (Ok x) spoilt since j q y = spoilt
      keeps (Err e) spoilt since j q y = out_spoilt (Err e) spoilt since j q y

      after : (j : Numbers) (r x : Result A Fault) → ResultFor (Q j) r x
          → Goes c t anywhere Q j (out_after r) (out_after x)
      after j (Ok r) (Ok x) is = ended_so stays (Ok r) (Ok x) is
      after j (Ok r) (Err f) bad = absurd bad
      after j (Err e) (Ok x) bad = absurd bad
      after j (Err e) (Err f) is = out_with stays (Err e) (Err f) is

  -- IN AT THE GATE: it never is closed
  go_in_goes : {k : Numbers} → Goes c t anywhere any k (by_step go_in) (by_step go_in)
  go_in_goes = step_goes go_in go_in (λ luck j q s z more m at.
      subst (λ x. (i : Numbers) × Leaps c t j q s z x.1 i q (go_in 0 true z).1
      × ResultFor (any i) x.0 (go_in 0 true z).0)
      (sym (went_in t luck s (none_of_others is_barring t s.roles m.unbarred)))
      (subst (λ y. (i : Numbers) × Leaps c t j q s z (in_role Within t s) i q y.1
      × ResultFor (any i) (Ok (noted s)) y.0)
      (sym (alone_in j z m.alone)) (j, role_leaps m Within refl, tt)))

  entry_goes : {A : Type 0} {Q : Of A} {k : Numbers} (work alone : Noted → Doing A) → Stays Q
      → ((from since : Noted) (j : Numbers) → Extends k j → Goes c t anywhere Q j (work from) (alone since))
      → Goes c t anywhere Q k (step go_in (inside work)) (step go_in (inside alone))
  entry_goes {A} {Q} {k} work alone stays goes = goes_then (inside work) (inside alone) keeps go_in_goes
      (λ j more z is at. tt) after
    where
      keeps : KeepsSpoilt c t (inside work)
      keeps (Ok x) bad since j q y = absurd (not_spoilt bad)
      keeps (Err e) spoilt since j q y = out_spoilt (Err e) (spoilt_so e spoilt) since j q y

      after : (j : Numbers) → Extends k j → (r x : Result Noted Fault) → ResultFor (any j) r x
          → Goes c t anywhere Q j (inside work r) (inside alone x)
      after j more (Ok from) (Ok since) is = goes from since j more
      after j more (Ok from) (Err f) bad = absurd bad
      after j more (Err e) (Ok since) bad = absurd bad
      after j more (Err e) (Err f) is = out_with stays (Err e) (Err f) is

  -- A CALL: between an entry and an exit, or in a stay that goes on
  pub entered_goes : {A : Type 0} {Q : Of A} {k : Numbers} (work alone : Noted → Doing A) → Stays Q
      → ((from since : Noted) (j : Numbers) → Extends k j → Goes c t anywhere Q j (work from) (alone since))
      → Goes c t anywhere Q k (entered_in_steps work) (entered_in_steps alone)
  entered_goes work alone stays goes = entry_goes (λ from. then_out (work from)) (λ since. then_out (alone since))
      stays (λ from since j more. then_out_goes stays (goes from since j more))

  pub opened_goes : {A : Type 0} {Q : Of A} {k : Numbers} (work alone : Noted → Doing A) → Stays Q
      → ((from since : Noted) (j : Numbers) → Extends k j → Goes c t anywhere Q j (work from) (alone since))
      → Goes c t anywhere Q k (opened_in_steps work) (opened_in_steps alone)
  opened_goes work alone stays goes = entry_goes (λ from. out_if_refused (work from))
      (λ since. out_if_refused (alone since)) stays
      (λ from since j more. out_if_refused_goes stays (goes from since j more))

  pub out_goes : {k : Numbers} → Goes c t anywhere same k (by_step go_out) (by_step go_out)
  out_goes = out_with (λ j k more x y is. is) (Ok tt) (Ok tt) refl

  -- WHERE AN OBJECT IS AT HAND, of objects or not
  by_kind : {A : Type 0} {Q : Of A} {k : Numbers} {d alone : Doing A} (b : Bool) (h : Hand k) → IsKind h.at b
      → (ObjectFor k h.o h.u → Goes c t (OfObjects b h.u) Q k d alone) → Goes c t (IsOfKind h.at h.u) Q k d alone
  by_kind {k = k} b h kind goes = goes_at (λ z. of_objects h.at b h.u z kind)
      (goes (there k h.at h.o h.u (kind_there h.at b kind) h.is))

  ending_goes : {k : Numbers} (h : Hand k) {n : ℕ} {a : AnswerKind} (e : Ending n a) → Suits h.at e
      → Goes c t (IsOfKind h.at h.u) (λ j. IsFor j a) k
      (ending_steps c h.from h.handed e h.known h.o) (ending_steps c h.since h.words e h.alone h.u)
  ending_goes h (gives_kind l) so = look_goes (λ w. Ok l) (λ w. Ok l) (λ j s z more m kind. refl)
  ending_goes h (gives_number n) so = look_goes (λ w. Ok n) (λ w. Ok n) (λ j s z more m kind. refl)
  ending_goes {k} h gives_object so = look_goes (λ w. Ok h.o) (λ w. Ok h.u)
      (λ j s z more m kind. object_later more h.o h.u (there k h.at h.o h.u so h.is))
  ending_goes h compares so = look_goes (λ w. Ok (same_object (h.known one) (h.known other)))
      (λ w. Ok (same_object (h.alone one) (h.alone other))) (λ j s z more m kind.
      let a = known_later more (h.known one) (h.alone one) (h.has one) in
      let b = known_later more (h.known other) (h.alone other) (h.has other) in
      (λ i. same_object (a.0 i) (b.0 i)) ∙ same_for m (h.alone one) (h.alone other) a.1 b.1)
  ending_goes h (types p) so = plain (typed_goes (h.handed p) (h.words p) (h.are p))
  ending_goes h (creates l p) so = absurd so
  ending_goes h (refers p) so = plain (local_goes (h.known p) (h.alone p) (h.has p))
  ending_goes h (deletes l p) so = plain (deleted_goes (h.handed p) (h.words p) (h.are p))
  ending_goes h (deletes_local p) so = plain (deleted_goes (h.handed p) (h.words p) (h.are p))
  ending_goes h (asks_room n) so = plain (room_goes n)
  ending_goes h (pushes n) so = plain (push_goes n)
  ending_goes h (pops_to p) so = plain (popped_goes (h.handed p) (h.words p) (h.are p))
  ending_goes h frees so = plain freed_goes
  ending_goes h (makes l ws) so = absurd so
  ending_goes h (fills l n p) so = absurd so
  ending_goes h (reads i) so = by_kind false h so (λ for. element_goes h.o h.u i for)
  ending_goes h (reads_from i n) so = by_kind false h so (λ for. read_goes h.o h.u i n for)
  ending_goes h (copies n) so = by_kind false h so (λ for. copied_goes h.o h.u n for)
  ending_goes h (writes i v) so = by_kind false h so (λ for. rewritten_goes h.o h.u i v for)
  ending_goes h (writes_to i p) so =
      by_kind true h so (λ for. set_goes h.o h.u i (h.known p) (h.alone p) for (h.has p))
  ending_goes h (writes_from i vs) so = by_kind false h so (λ for. written_goes h.o h.u i vs for)

  -- by induction, from whatever numbers stand
  program_from : {k : Numbers} (h : Hand k) {n : ℕ} {a : AnswerKind} (p : Program n a) → EachSuits h.at p
      → Goes c t (IsOfKind h.at h.u) (λ j. IsFor j a) k
      (program_steps c h.from h.handed p h.known h.o) (program_steps c h.since h.words p h.alone h.u)
  program_from h (ends e) so = ending_goes h e so
  program_from h (names p next) so = bind_at (plain (named_goes (h.handed p) (h.words p) (h.are p)))
      (λ j more z lone kind. subst (IsOfKind h.at h.u) (sym (looks_named (h.words p) z lone.tidy)) kind)
      (λ j more x y both. program_from (hand_with (hand_later more h) p x y both) next so)
  program_from h (names_both next) so = bind_at
      (plain (both_goes (h.handed one) (h.handed other) (h.words one) (h.words other) (h.are one) (h.are other)))
      (λ j more z lone kind. subst (IsOfKind h.at h.u)
      (sym (looks_both (h.words one) (h.words other) z lone.tidy)) kind)
      (λ j more x y both. let g = hand_later more h in program_from (record g {
        known = at_both x.0 x.1;
        alone = at_both y.0 y.1;
        has = both_known j x y both;
      }) next so)
  program_from h (wants p next) so = goes_bind {P = ObjectFor} (ended_goes (not_null (h.known p)) (not_null (h.alone p))
      (λ j more. wanted j (h.known p) (h.alone p) (known_later more (h.known p) (h.alone p) (h.has p))))
      (λ j more x y both. let g = hand_later more h in
      goes_at (λ z at. tt) (program_from (record g { at = an_object; o = x; u = y; is = both }) next so))
  program_from {k} h {n} {a} (looks next) so = record {
    so = λ i later noted q z lone kind. (bind_at {At = λ y. y ≡ z} {Then = λ y. y ≡ z} {P = Seen z}
        (look_goes (λ w. Ok (contents w h.o)) (λ w. Ok (contents w h.u)) (λ j s y more m e.
        let it = object_later more h.o h.u here in (
          ap (λ v. contents (as_seen t s) v) it.0
              ∙ (ap contents_in (m.objects h.u it.1) ∙ contents_are j (standing_at y.objects h.u)),
          ap (λ v. contents (as_seen 0 v) h.u) e,
        )))
        (λ j more y lone e. seen_is 0 y lone.tidy ∙ e)
        (λ j more x y both. let g = hand_later more h in rest z j x y both (program_from
        (record g { at = of_kind y.kind; is = object_later more h.o h.u here }) (next y.kind (length y.words))
        (so.1 y.kind (length y.words))))).so i later noted q z lone refl;
  }
    where
      here : ObjectFor k h.o h.u
      here = there k h.at h.o h.u so.0 h.is

      Seen : Shared → Of Contents
      Seen z j x y = (x ≡ whole_as j y) × (y ≡ contents (as_seen 0 z) h.u)

      rest : (z : Shared) (j : Numbers) (x y : Contents) → Seen z j x y
          → Goes c t (IsOfKind (of_kind y.kind) h.u) (λ i. IsFor i a) j
          (program_steps c h.from h.handed (next y.kind (length y.words)) h.known h.o)
          (program_steps c h.since h.words (next y.kind (length y.words)) h.alone h.u)
          → Goes c t (λ v. v ≡ z) (λ i. IsFor i a) j
          (program_steps c h.from h.handed (next x.kind (length x.words)) h.known h.o)
          (program_steps c h.since h.words (next y.kind (length y.words)) h.alone h.u)
      rest z j x y both goes = subst (λ p. Goes c t (λ v. v ≡ z) (λ i. IsFor i a) j
          (program_steps c h.from h.handed p h.known h.o)
          (program_steps c h.since h.words (next y.kind (length y.words)) h.alone h.u))
          (λ i. next (sym (ap (λ v. v.kind) both.0) i) (sym long i))
          (goes_at (λ v e. ap (λ w. (contents (as_seen 0 w) h.u).kind) e ∙ ap (λ w. w.kind) (sym both.1)) goes)
        where
          long : length x.words ≡ length y.words
          long = ap (λ v. length v.words) both.0 ∙ as_long j (is_objects y.kind) y.words
  program_from {k} h {n} {a} (tests ts silent next) so =
      go (refused_by ts) refl (λ passed. program_from h next (so passed))
    where
      go : (r : Result (Unit {0}) Fault) → refused_by ts ≡ r
          → (refused_by ts ≡ Ok tt → Goes c t (IsOfKind h.at h.u) (λ j. IsFor j a) k
          (program_steps c h.from h.handed next h.known h.o) (program_steps c h.since h.words next h.alone h.u))
          → Goes c t (IsOfKind h.at h.u) (λ j. IsFor j a) k
          (unless_refused (λ _. program_steps c h.from h.handed next h.known h.o) r)
          (unless_refused (λ _. program_steps c h.since h.words next h.alone h.u) r)
      go (Ok x) passed goes = goes passed
      go (Err e) refused goes = ended_goes (Err e) (Err e) (λ j more. refl)
  program_from h (finds i next) so = bind_at (by_kind true h so.0 (λ for. found_goes h.o h.u i for))
      (λ j more z lone kind. subst (IsOfKind h.at h.u) (sym (seen_is 0 z lone.tidy)) kind)
      (λ j more x y both. program_from (hand_with (hand_later more h) one (named_by x) (named_by y)
      (named_for j x y both)) next so.1)

  pub program_goes : {k : Numbers} (from since : Noted) (handed words : Which → ℕ)
      → ((p : Which) → WordFor k (handed p) (words p)) → (at : AtHand) (o u : ℕ) → HandFor k at o u
      → ((z : Shared) → IsOfKind at u z) → {n : ℕ} {a : AnswerKind} (p : Program n a) → EachSuits at p
      → Goes c t anywhere (λ j. IsFor j a) k
      (program_steps c from handed p none_known o) (program_steps c since words p none_known u)
  program_goes {k} from since handed words are at o u is kind p so = goes_at (λ z lone. kind z) (program_from (record {
    from = from;
    since = since;
    handed = handed;
    words = words;
    known = none_known;
    alone = none_known;
    at = at;
    o = o;
    u = u;
    are = are;
    has = none_for k;
    is = is;
  }) p so)
