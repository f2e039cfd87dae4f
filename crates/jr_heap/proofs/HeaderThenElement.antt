-- A header is read, and then something is done at an element.
use Rattle.std.proofs.Common.{arith, ◌≡◌, ◌+◌, ℕ, Option, Some, None, IsSome}
use Rattle.std.proofs.Common.{List, [], Result, Ok, refl, sym, ap, subst, ◌∙◌}
use mathlib.Core.Logic.{∥∥₁_map}
use Rattle.jr_word.specs.declared.fault.Fault.{Fault}
use Rattle.jr_word.specs.declared.header.HeaderParts.{HeaderParts}
use Rattle.jr_word.specs.declared.kind.Kind.{Kind}
use Rattle.jr_word.specs.declared.kind.Kind.TheVariants.{Objects}
use Rattle.jr_model.specs.declared.event.Role.TheVariants.{Within}
use Rattle.jr_model.specs.declared.event.Act.{Act}
use Rattle.jr_model.specs.State.{Contents, State}
use Rattle.jr_model.specs.History.{role_of, Did}
use Rattle.jr_model.specs.Frames.{Frames}
use Rattle.jr_model.specs.Windows.{IsWindow}
use Rattle.jr_model.specs.Calls.{Call, Ran}
use Rattle.jr_model.specs.Parts.{header}
use Rattle.jr_model.proofs.Runs.{ran_behind}
use Rattle.jr_steps.specs.declared.known.Known.{Known}
use Rattle.jr_steps.specs.Knowing.{Facts, MayKnow, view, state_of, HasObject, Takes}
use Rattle.jr_heap.specs.Heap.{Called, by_steps, HoldsHeader, Learns, LeavesObject, Relearns}
use Rattle.jr_heap.specs.Heap.{MayBeNamed, MayBeNamedIn, ReadsOfKind, ShowsElementOf}
use Rattle.jr_heap.proofs.StayFacts.{kind_in, still, word_later, shown_present}

-- the header was read, with no act
read_header : (k j : Known) (o : ℕ) (h : HeaderParts) (f : Frames)
    → Ran (view k) (view j) f f (header (state_of j) o) (Ok (h.kind, h.length)) → Did (view k) (view j) []
read_header k j o h f r = subst (λ (xs : List Act). Did (view k) (view j) xs) r.is.2.0 r.did

-- one step, and so many more
pub counted_more : (n : ℕ) (k j q : Known) → Takes 1 k j → Takes n j q → Takes (1 + n) k q
counted_more n k j q a b = omega arith

-- a header was read, and then a call at an element left the object as the header says
pub relearnt : (o : ℕ) (h : HeaderParts) (k j q : Known) → Learns o h k j → LeavesObject o h j q → Relearns o k q
relearnt o h k j q l s = (h, (s.0, s.1 ∙ l.1, l.2))

-- the same with the element that was read
pub reread : (o : ℕ) (h : HeaderParts) (answer : Result ℕ Fault) (k j q : Known) → Learns o h k j
    → LeavesObject o h j q × ReadsOfKind h.kind answer q → Relearns o k q × ShowsElementOf o answer q
reread o h answer k j q l s = (
  relearnt o h k j q l s.0,
  λ x is.
      let same : h.kind ≡ x.kind = sym s.0.0.says.kind ∙ ap kind_in (sym s.0.0.is ∙ is) in
      subst (λ (kind : Kind). ReadsOfKind kind answer q) same s.1,
)

read_window : (k j : Known) (o : ℕ) (h : HeaderParts) (f : Frames)
    → (r : Ran (view k) (view j) f f (header (state_of j) o) (Ok (h.kind, h.length)))
    → IsWindow (view k) (view j) [] r.begun
read_window k j o h f r = subst (λ (xs : List Act). IsWindow (view k) (view j) xs r.begun) r.is.2.0 r.window

module _ {S : Type 0} {facts : S → Facts} {a b : S} (o : ℕ) (h : HeaderParts) {first : Known → Type 0}
    (t : Called facts a b first (λ j k. header (state_of k) o) (Ok (h.kind, h.length)) (by_steps 1 (Learns o h))) where
  pub called_at : {A : Type 0} {c : S} {met then' : Known → Type 0} {answer : Result A Fault}
      {shows shows' : Known → Known → Type 0} (call : State → Call A)
      → Called facts b c then' (λ j k. call (state_of k)) answer shows
      → ((k : Known) → met k → first k)
      → ((k j : Known) → (facts a).knows k → met k → Did (view k) (view j) [] → Learns o h k j → then' j)
      → ((k j q : Known) → Learns o h k j → Takes 1 k j → shows j q → shows' k q)
      → Called facts a c met (λ j k. call (state_of k)) answer shows'
  called_at call u meets next more = record {
    hint_is = u.hint_is ∙ t.hint_is;
    ran = λ k s m.
        let r = t.ran k s (meets k m) in
        let d = λ (f : Frames). read_header k r.0 o h f (r.2 f) in
        let q = u.ran r.0 r.1 (next k r.0 s m (d (record { frames = []; given = [] })) r.3.0) in (
          q.0,
          q.1,
          λ f. ran_behind (d f) (read_window k r.0 o h f (r.2 f)) (q.2 f),
          more k r.0 q.0 r.3.0 r.3.1 q.3,
        );
  }

  -- what may be known once the header was read
  pub may_at : {met then' : Known → Type 0} → ((k : Known) → met k → first k)
      → ((k j : Known) → (facts a).knows k → met k → Did (view k) (view j) [] → Learns o h k j → then' j)
      → MayKnow facts a met → MayKnow facts b then'
  may_at meets next may = ∥∥₁_map may (λ k.
      let r = t.ran k.0 k.1 (meets k.0 k.2) in (
        r.0,
        r.1,
        next k.0 r.0 k.1 k.2 (read_header k.0 r.0 o h (record { frames = []; given = [] })
            (r.2 (record { frames = []; given = [] }))) r.3.0,
      ))

pub may_present : {S : Type 0} (facts : S → Facts) (a : S) (o : ℕ) (h : HeaderParts) → MayKnow facts a (HoldsHeader o h)
    → MayKnow facts a (HasObject o)
may_present facts a o h may = ∥∥₁_map may (λ k. (k.0, k.1, shown_present o h k.0 k.2.shown))

some_of : (z : Option Contents) → IsSome z → (x : Contents) × (z ≡ Some x)
some_of None p = absurd cc
some_of (Some x) p = (x, refl)

-- a word that may be named in the object may be named in one of its header's kind
pub named_at : (o : ℕ) (h : HeaderParts) (v : ℕ) (k j : Known) → role_of (view k) ≡ Within
    → HasObject o k × MayBeNamedIn o v k → Did (view k) (view j) [] → Learns o h k j → MayBeNamed h.kind v j
named_at o h v k j w m d l e =
    let x = some_of ((state_of k).objects o) m.0 in
    let y = (still k j [] d w tt).objects o x.0 x.1 in
    let same : y.0.kind ≡ l.0.contents.kind = ap kind_in (sym y.1 ∙ l.0.is) in
    let kind : x.0.kind ≡ Objects = sym y.2 ∙ (same ∙ (l.0.says.kind ∙ e)) in
    word_later k j [] d w tt Objects v (m.1 x.0 x.1 kind)
