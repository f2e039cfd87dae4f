-- The objects that are present, by what their headers say.
use Rattle.std.proofs.Common.{◌≡◌, ◌+◌, ◌<◌, ◌≤◌, ◌==◌, ◌^◌, ℕ, Bool, true, false, Option, Some, None, is_some}
use Rattle.std.proofs.Common.{IsSome, length, List, slice_index_or, [], refl, sym, ap, subst, ◌∙◌, arith}
use Rattle.std.proofs.Math.Logic.{∥∥₁_elim}
use Rattle.std.proofs.Props.{props}
use Rattle.jr_word.specs.declared.config.Config.{Config}
use Rattle.jr_word.specs.declared.header.HeaderParts.{HeaderParts}
use Rattle.jr_word.specs.declared.kind.Kind.{Kind}
use Rattle.jr_word.specs.declared.kind.Kind.TheVariants.{Plain, Boolean, Byte, Char, Short, Int, Long, Objects, Text}
use Rattle.jr_word.specs.Kind.{kind_code}
use Rattle.jr_model.specs.declared.event.Role.TheVariants.{Collecting}
use Rattle.jr_model.specs.Maps.{sum_below}
use Rattle.jr_model.specs.State.{Contents, HaveSameTables, length_of}
use Rattle.jr_model.specs.History.{History, state, IsLegal}
use Rattle.jr_model.proofs.Counts.{bit}
use Rattle.jr_model.proofs.InRoom.{in_room}
use Rattle.jr_model.proofs.Lengths.{lengths_fit}
use Rattle.jr_steps.specs.declared.known.Known.{Known}
use Rattle.jr_steps.specs.declared.known.Holdings.{Holdings}
use Rattle.jr_steps.specs.Knowing.{Facts, Standing, AreOf, CanReopen, MayKnow, Took, anything, state_of, ShowsHeader}
use Rattle.jr_compact.proofs.Listed.{sum_more, sum_once}
use Rattle.jr_census.specs.declared.objects.KindCounts.{KindCounts}
use Rattle.jr_census.specs.declared.objects.Objects.{Objects as ObjectCounts}
use Rattle.jr_census.specs.Counts.{AreObjects, IsRoomFor, count_of, is_present_as, unless}
use Rattle.jr_census.specs.Counts.{unmarked, with_object, with_kind, header_words}
use Rattle.jr_census.specs.Telling.{LoadsTell}
use Rattle.jr_census.proofs.SlotsCounted.{sum_zero_below}
use Rattle.jr_census.proofs.Turns.{may_told, told_none, told_so, told_turn}

-- one of a kind more counts for that kind alone
of_one : (x : KindCounts) (kind other : Kind)
    → count_of (with_kind x kind) other ≡ count_of x other + bit (kind_code kind == kind_code other)
of_one x Plain Plain = refl
of_one x Plain _ = omega arith
of_one x Boolean Boolean = refl
of_one x Boolean _ = omega arith
of_one x Byte Byte = refl
of_one x Byte _ = omega arith
of_one x Char Char = refl
of_one x Char _ = omega arith
of_one x Short Short = refl
of_one x Short _ = omega arith
of_one x Int Int = refl
of_one x Int _ = omega arith
of_one x Long Long = refl
of_one x Long _ = omega arith
of_one x Objects Objects = refl
of_one x Objects _ = omega arith
of_one x Text Text = refl
of_one x Text _ = omega arith

bit_least : (b : Bool) → bit b ≤ 1
bit_least true = omega arith
bit_least false = omega arith

-- what a header says of a number's object
abbrev pub SaysOf : Option HeaderParts → Option Contents → Type 0
SaysOf None z = z ≡ None
SaysOf (Some h) z = (x : Contents) × (z ≡ Some x) × (x.kind ≡ h.kind) × (length x.words ≡ h.length)

pub says_of : (o : ℕ) (h : Option HeaderParts) (k k' : Known) → ShowsHeader o h k k'
    → SaysOf h ((state_of k').objects o)
says_of o None k k' shown = shown.0
says_of o (Some h) k k' shown = let x = shown.0 in (x.contents, x.is, x.says.kind, x.says.long)

-- and it leaves a move as it is
pub moves_none : (o : ℕ) (h : Option HeaderParts) (k k' : Known) → ShowsHeader o h k k'
    → k'.holdings.moving ≡ k.holdings.moving
moves_none o None k k' shown = ap (λ (g : Holdings). g.moving) shown.1
moves_none o (Some h) k k' shown = ap (λ (g : Holdings). g.moving) shown.1

-- so are the counts with one number more
pub objects_next : (n : ℕ) (objects : ℕ → Option Contents) (x : ObjectCounts) (h : Option HeaderParts)
    → AreObjects n objects x → SaysOf h (objects (n + 1)) → AreObjects (n + 1) objects (with_object x h)
objects_next n objects x None was e = record {
  kinds = λ kind. let more = sum_more (n + 1) (λ o. bit (is_present_as kind (objects o))) in
      let here = ap (λ z. bit (is_present_as kind z)) e in let w = was.kinds kind in omega arith;
  live = let more = sum_more (n + 1) (λ o. bit (is_some (objects o))) in
      let here = ap (λ (z : Option Contents). bit (is_some z)) e in let w = was.live in omega arith;
  words = let more = sum_more (n + 1) (λ o. length_of (objects o)) in let here = ap length_of e in let w = was.words in
      omega arith;
}
objects_next n objects x (Some h) was s = record {
  kinds = λ kind.
      let more = sum_more (n + 1) (λ o. bit (is_present_as kind (objects o))) in
      let here : bit (is_present_as kind (objects (n + 1))) ≡ bit (kind_code h.kind == kind_code kind) =
      ap (λ z. bit (is_present_as kind z)) s.1 ∙ ap (λ k. bit (kind_code k == kind_code kind)) s.2 in
      let one = of_one x.kinds h.kind kind in
      let w = was.kinds kind in omega arith;
  live = let more = sum_more (n + 1) (λ o. bit (is_some (objects o))) in
      let here = ap (λ (z : Option Contents). bit (is_some z)) s.1 in let w = was.live in omega arith;
  words = let more = sum_more (n + 1) (λ o. length_of (objects o)) in let here = ap length_of s.1 ∙ s.3 in
      let w = was.words in omega arith;
}

-- no count is more than n
pub record FewObjects (n : ℕ) (x : ObjectCounts) : Type 0 where
  pub kinds : (kind : Kind) → count_of x.kinds kind ≤ n
  pub live : x.live ≤ n

pub few_next : (n : ℕ) (x : ObjectCounts) (h : Option HeaderParts) → FewObjects n x
    → FewObjects (n + 1) (with_object x h)
few_next n x None f =
    record { kinds = λ kind. let z = f.kinds kind in omega arith; live = let z = f.live in omega arith }
few_next n x (Some h) f = record {
  kinds = λ kind. let z = f.kinds kind in let one = of_one x.kinds h.kind kind in
      let b = bit_least (kind_code h.kind == kind_code kind) in omega arith;
  live = let z = f.live in omega arith;
}

pub no_zero : (c : Config) (last : ℕ) (log : History) → IsLegal c last log → (state log).objects 0 ≡ None
no_zero c last log legal = go ((state log).objects 0) refl
  where
    go : (z : Option Contents) → (state log).objects 0 ≡ z → z ≡ None
    go None e = refl
    go (Some x) e =
        absurd (let room = ((in_room c last log legal).objects 0 (subst IsSome (sym e) refl)).0 in omega arith)

pub nothing_yet : (f : ℕ → ℕ) → f 0 ≡ 0 → sum_below (0 + 1) f ≡ 0
nothing_yet f none = let more = sum_more 0 f in let z = sum_zero_below f in omega arith

-- nothing is counted
abbrev pub no_counts : KindCounts
no_counts =
    record { plain = 0; booleans = 0; bytes = 0; chars = 0; shorts = 0; ints = 0; longs = 0; objects = 0; strings = 0 }

pub no_kinds : (kind : Kind) → count_of no_counts kind ≡ 0
no_kinds Plain = refl
no_kinds _ = refl

-- there is room for what a header says, too
pub room_for : (n words : ℕ) (x : ObjectCounts) (h : Option HeaderParts) → n ≤ 65535 → words ≤ 1048576 → FewObjects n x
    → (with_object x h).words ≤ words → IsRoomFor h x
room_for n words x h few space f fit = record {
  kinds = λ kind. let z = f.kinds kind in omega arith;
  live = let z = f.live in omega arith;
  words = go h fit;
}
  where
    go : (h : Option HeaderParts) → (with_object x h).words ≤ words → x.words + header_words h < 2 ^ 32
    go None l = omega arith
    go (Some h) l = omega arith

-- what is said of an object is said of it unless it is marked
pub says_unless : (b : Bool) (h : Option HeaderParts) (z : Option Contents) → SaysOf h z
    → SaysOf (unless b h) (unless b z)
says_unless true h z s = refl
says_unless false h z s = s

-- and has no more words
pub words_unless : (b : Bool) (h : Option HeaderParts) (x y : ObjectCounts) → x.words ≤ y.words
    → (with_object x (unless b h)).words ≤ (with_object y h).words
words_unless true None x y l = l
words_unless false None x y l = l
words_unless true (Some h) x y l = omega arith
words_unless false (Some h) x y l = omega arith

-- the counts of the headers of the numbers up to n, and of those that are not marked
pub record HeadersTo (marks : List Bool) (n : ℕ) (x y : ObjectCounts) (k : Known) : Type 0 where
  pub present : AreObjects n (state_of k).objects x
  pub unreached : AreObjects n (unmarked marks (state_of k).objects) y

-- the counts of both are few
pub record FewHeaders (n : ℕ) (x y : ObjectCounts) : Type 0 where
  pub present : FewObjects n x
  pub unreached : FewObjects n y
  pub words : y.words ≤ x.words

pub headers_few : (n : ℕ) (b : Bool) (h : Option HeaderParts) (x y : ObjectCounts) → FewHeaders n x y
    → FewHeaders (n + 1) (with_object x h) (with_object y (unless b h))
headers_few n b h x y f = record {
  present = few_next n x h f.present;
  unreached = few_next n y (unless b h) f.unreached;
  words = words_unless b h y x f.words;
}

-- both are so of the same tables
headers_on : (marks : List Bool) (n : ℕ) (x y : ObjectCounts) (k k' : Known) → HaveSameTables (state_of k) (state_of k')
    → HeadersTo marks n x y k → HeadersTo marks n x y k'
headers_on marks n x y k k' same was = record {
  present = subst (λ (f : ℕ → Option Contents). AreObjects n f x) (sym same.objects) was.present;
  unreached = subst (λ (f : ℕ → Option Contents). AreObjects n (unmarked marks f) y) (sym same.objects) was.unreached;
}

-- nothing is counted of nothing
none_counted : (objects : ℕ → Option Contents) (x : ObjectCounts) → objects 0 ≡ None
    → ((kind : Kind) → count_of x.kinds kind ≡ 0) → x.live ≡ 0 → x.words ≡ 0 → AreObjects 0 objects x
none_counted objects x none kinds live words = record {
  kinds = λ kind. kinds kind
      ∙ sym (nothing_yet (λ o. bit (is_present_as kind (objects o))) (ap (λ z. bit (is_present_as kind z)) none));
  live = live ∙ sym (nothing_yet (λ o. bit (is_some (objects o))) (ap (λ (z : Option Contents). bit (is_some z)) none));
  words = words ∙ sym (nothing_yet (λ o. length_of (objects o)) (ap length_of none));
}

unless_none : (b : Bool) (z : Option Contents) → z ≡ None → unless b z ≡ None
unless_none true z e = refl
unless_none false z e = e

module _ {S : Type 0} {facts : S → Facts} (fits : AreOf facts) (marks : List Bool) where
  pub headers_none : (a : S) (x : ObjectCounts) → ((kind : Kind) → count_of x.kinds kind ≡ 0) → x.live ≡ 0 → x.words ≡ 0
      → LoadsTell facts (λ j. 0) a a (HeadersTo marks 0 x x)
  headers_none a x kinds live words = told_none fits a (λ k s.
      let none = no_zero k.config k.last k.seen (fits a k s).legal in
      record {
        present = none_counted (state_of k).objects x none kinds live words;
        unreached = none_counted (unmarked marks (state_of k).objects) x
            (unless_none (slice_index_or marks 0 false) ((state_of k).objects 0) none) kinds live words;
      })

  pub headers_next : {a b c : S} (n : ℕ) (x x' y y' : ObjectCounts) (h : Option HeaderParts)
      → (facts a).stands.role ≡ Collecting → LoadsTell facts (λ j. n) a b (HeadersTo marks n x y)
      → Took facts b c [] anything (ShowsHeader (n + 1) h)
      → x' ≡ with_object x h → y' ≡ with_object y (unless (slice_index_or marks (n + 1) false) h)
      → LoadsTell facts (λ j. n + 1) a c (HeadersTo marks (n + 1) x' y')
  headers_next {a} {b} {c} n x x' y y' h collects told t is is' =
      subst (λ (z : ObjectCounts × ObjectCounts). LoadsTell facts (λ j. n + 1) a c (HeadersTo marks (n + 1) z.0 z.1))
      (λ j. (sym is j, sym is' j)) (told_turn fits collects told t (λ k can h. tt)
      (λ k k' shown. moves_none (n + 1) h k k' shown) (λ k k' s same last was shown.
      let now : HeadersTo marks n x y k' = headers_on marks n x y k k' same was in
      let says = says_of (n + 1) h k k' shown in
      let marked = slice_index_or marks (n + 1) false in
      record {
        present = objects_next n (state_of k').objects x h now.present says;
        unreached = objects_next n (unmarked marks (state_of k').objects) y (unless marked h) now.unreached
            (says_unless marked h ((state_of k').objects (n + 1)) says);
      }))

  -- the objects' words lie in the space
  pub words_few : {a b : S} {most : Known → ℕ} (n : ℕ) (x y : ObjectCounts) → MayKnow facts a CanReopen
      → LoadsTell facts most a b (HeadersTo marks n x y) → n ≤ (facts b).stands.config.objects
      → x.words ≤ (facts b).stands.config.words
  words_few {b = b} n x y may told l = ∥∥₁_elim (may_told may told) (hlevel props) (λ k.
      let of = fits b k.0 k.1 in
      let fit = lengths_fit (k.0).config (k.0).last (k.0).seen of.legal in
      let low = fit.0 in
      let high = fit.1 in
      let objects = ap (λ (z : Config). z.objects) of.config in
      let words = ap (λ (z : Config). z.words) of.config in
      let less = sum_once (n + 1) ((k.0).config.objects + 1) (λ i. i) (λ o. length_of ((state_of k.0).objects o))
      (λ i m. omega arith) (λ i j l m e. e) in
      let is = (k.2.1).present.words in omega arith)

  pub headers_all : {a b : S} (n : ℕ) (x y : ObjectCounts) → n ≡ (facts a).stands.config.objects
      → LoadsTell facts (λ j. n) a b (HeadersTo marks n x y)
      → LoadsTell facts (λ j. j.config.objects) a b (λ k. AreObjects k.config.objects (state_of k).objects x
      × AreObjects k.config.objects (unmarked marks (state_of k).objects) y)
  headers_all {a} {b} n x y end p = told_so fits (λ j. j.config.objects) (λ k s. let e = end
      ∙ sym (ap (λ (z : Config). z.objects) (fits a k s).config) in omega arith)
      (λ k s was.
      let e : n ≡ k.config.objects = end ∙ (sym (ap (λ (z : Standing). z.config.objects) p.stands_is)
      ∙ sym (ap (λ (z : Config). z.objects) (fits b k s).config)) in (
        subst (λ n. AreObjects n (state_of k).objects x) e was.present,
        subst (λ n. AreObjects n (unmarked marks (state_of k).objects) y) e was.unreached,
      )) p
