-- The headers that a pass knows go on being known.
use Rattle.std.proofs.Common.{◌≡◌, ◌==◌, ℕ, zero, suc, Bool, true, false, cond, Option, Some}
use Rattle.std.proofs.Common.{None, Result, Ok, Err, List, [], eq-eqb, ne_eqb, refl, sym, ap, ◌∙◌}
use mathlib.Core.Logic.{dite}
use native.Mathlib.Decide.{ℕ_discrete}
use Rattle.jr_word.specs.declared.fault.Fault.{Fault}
use Rattle.jr_word.specs.declared.header.HeaderParts.{HeaderParts}
use Rattle.jr_word.specs.declared.kind.Kind.{Kind}
use Rattle.jr_steps.specs.declared.known.Known.{Known}
use Rattle.jr_steps.specs.declared.known.Holdings.{Holdings}
use Rattle.jr_steps.specs.declared.known.KnownHeader.{KnownHeader}
use Rattle.jr_steps.specs.Holdings.{header_in, with_range, with_header}
use Rattle.jr_steps.specs.Knowing.{without_range_of, ShowsHeader, ShowsPublished, ShowsRange}
use Rattle.jr_heap.specs.Heap.{header_of, Gains, Publishes, Learns}
use Rattle.jr_heap.specs.Laws.{GoesOnKnowing, StepsKeepHeaders, CallsKeepHeaders}

-- the headers are the same
by_headers : (j k : Known) → k.holdings.headers ≡ j.holdings.headers → GoesOnKnowing j k
by_headers j k e o h known = ap (λ (hs : List KnownHeader). header_in o hs) e ∙ known

by_holdings : (j k : Known) (g : Holdings) → k.holdings ≡ g → g.headers ≡ j.holdings.headers → GoesOnKnowing j k
by_holdings j k g e same = by_headers j k (ap (λ (z : Holdings). z.headers) e ∙ same)

-- a further header, which is the one of its object that was known, if any was
further : (g : Holdings) (o : ℕ) (h : HeaderParts) → ((z : HeaderParts) → header_in o g.headers ≡ Some z → z ≡ h)
    → (r : ℕ) (k : HeaderParts) → header_in r g.headers ≡ Some k → header_in r (with_header g o h).headers ≡ Some k
further g o h one r k known = dite (ℕ_discrete o r)
    (λ e. ap (λ b. cond b (Some h) (header_in r g.headers)) (eq-eqb o r e)
    ∙ ap (λ z. Some z) (sym (one k (ap (λ n. header_in n g.headers) e ∙ known))))
    (λ ne. ap (λ b. cond b (Some h) (header_in r g.headers)) (ne_eqb o r ne) ∙ known)

by_further : (j k : Known) (g : Holdings) (o : ℕ) (h : HeaderParts) → k.holdings ≡ with_header g o h
    → g.headers ≡ j.holdings.headers → ((z : HeaderParts) → header_in o j.holdings.headers ≡ Some z → z ≡ h)
    → GoesOnKnowing j k
by_further j k g o h e same one r x known =
    ap (λ (z : Holdings). header_in r z.headers) e
    ∙ further g o h (λ z at. one z (ap (λ (hs : List KnownHeader). header_in o hs) (sym same) ∙ at)) r x
    (ap (λ (hs : List KnownHeader). header_in r hs) same ∙ known)

none_known : (x : Option HeaderParts) (z h : HeaderParts) → x ≡ None → x ≡ Some z → z ≡ h
none_known None z h none at = absurd cc
none_known (Some y) z h none at = absurd cc

-- a publication leaves the headers that were known
published_headers : (h : HeaderParts) (g : Holdings) → (without_range_of h g).headers ≡ g.headers
published_headers h g = go (h.length == 0)
  where
    go : (b : Bool) → (cond b g (with_range g h.place [])).headers ≡ g.headers
    go true = refl
    go false = refl

loaded : (j k : Known) (o : ℕ) (found : Option HeaderParts) → ShowsHeader o found j k → GoesOnKnowing j k
loaded j k o None s = by_holdings j k j.holdings s.1 refl
loaded j k o (Some h) s = by_further j k j.holdings o h s.1 refl s.2

stored_header : (j k : Known) (o : ℕ) (h : HeaderParts) (new : Bool) → ShowsPublished o h new j k → GoesOnKnowing j k
stored_header j k o h true s = by_further j k (without_range_of h j.holdings) o h s.1 (published_headers h j.holdings)
    (λ z at. none_known (header_in o j.holdings.headers) z h s.2 at)
stored_header j k o h false s = by_holdings j k j.holdings s.1 refl

reserved_top : (j k : Known) (looked n : ℕ) (answer : Result (Unit {0}) ℕ) → ShowsRange looked n answer j k
    → GoesOnKnowing j k
reserved_top j k looked n (Ok u) s = by_holdings j k (with_range j.holdings looked s.0) s.2 refl
reserved_top j k looked n (Err u) s = by_holdings j k j.holdings s refl

gained : (j k : Known) (n place : ℕ) → Gains n place j k → GoesOnKnowing j k
gained j k zero place s = by_holdings j k j.holdings s refl
gained j k (suc n) place s = by_holdings j k (with_range j.holdings place s.0) s.2 refl

given : (j k : Known) (kind : Kind) (place n : ℕ) (answer : Result ℕ Fault) → Publishes kind place n answer j k
    → GoesOnKnowing j k
given j k kind place n (Ok o) s = by_further j k (without_range_of (header_of kind place n) j.holdings) o
    (header_of kind place n) s.1 (published_headers (header_of kind place n) j.holdings) (λ z at.
    none_known (header_in o j.holdings.headers) z (header_of kind place n) s.2 at)
given j k kind place n (Err e) s = by_holdings j k j.holdings s refl

learned : (j k : Known) (o : ℕ) (h : HeaderParts) → Learns o h j k → GoesOnKnowing j k
learned j k o h s = by_further j k j.holdings o h s.1 refl s.2

pub steps_keep_headers : StepsKeepHeaders
steps_keep_headers = record {
  kept = λ j k e. by_holdings j k j.holdings e refl;
  loaded = loaded;
  published = stored_header;
  reserved = reserved_top;
  stored = λ j k place i v e. by_headers j k (ap (λ (g : Holdings). g.headers) e);
}

pub calls_keep_headers : CallsKeepHeaders
calls_keep_headers = record {
  reserved = gained;
  filled = λ j k place ws s. by_headers j k s.headers;
  published = given;
  learned = learned;
  looked = λ j k o s. learned j k o s.0 s.1;
  left = λ j k o h s. by_holdings j k j.holdings s.1 refl;
}
