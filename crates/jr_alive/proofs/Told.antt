-- What is alive in a dump is what the machine says is reached.
use Rattle.std.proofs.Common.{◌≡◌, ◌↔◌, ◌≤◌, ◌<◌, ◌+◌, ◌-◌, ◌*◌, ◌||◌, ◌==◌, ℕ, zero, suc, false}
use Rattle.std.proofs.Common.{if◌then◌else◌, Option, Some, None, is_some, List, [], ◌∷◌, ◌++◌, length}
use Rattle.std.proofs.Common.{slice_index_or, slice_get, refl, sym, ap, subst, ◌∙◌, mul-le-mul_right, arith}
use Rattle.std.proofs.lemmas.Bool.Decides.{nat_tests}
use Rattle.std.proofs.lemmas.Option.{slice_get_within}
use mathlib.Core.Logic.{dite}
use native.Mathlib.Decide.{dec_lt}
use Rattle.jr_word.specs.declared.config.Config.{Config}
use Rattle.jr_word.specs.declared.handle.RefKind.TheVariants as kind
use Rattle.jr_word.specs.declared.header.HeaderParts.{HeaderParts}
use Rattle.jr_word.specs.declared.kind.Kind.TheVariants.{Objects}
use Rattle.jr_word.specs.declared.local.LocalParts.{LocalParts}
use Rattle.jr_word.specs.declared.local.LocalParts.TheVariants as local
use Rattle.jr_word.specs.declared.slot.SlotParts.{SlotParts}
use Rattle.jr_word.specs.declared.slot.SlotParts.TheVariants as slot
use Rattle.jr_model.specs.declared.event.Found.TheVariants.{Object}
use Rattle.jr_model.specs.State.{Contents, Handle, IsPresent, IsReached, from_global, from_local, from_element}
use Rattle.jr_model.specs.History.{History, IsLegal, state}
use Rattle.jr_model.proofs.InRoom.{in_room}
use Rattle.jr_model.proofs.References.{kept_state}
use Rattle.jr_steps.specs.Acts.{handle_of}
use Rattle.jr_steps.specs.Says.{StandsAs, local_parts}
use Rattle.jr_census.specs.Dumps.{KeepsContents, KeepsNumber}
use Rattle.jr_census.specs.Taking.{IsDumpOf}
use Rattle.jr_weak.proofs.RootMarks.{alone_is}
use Rattle.jr_alive.specs.declared.dump.Dump.{Dump}
use Rattle.jr_alive.specs.declared.paths.Edge.{Edge}
use Rattle.jr_alive.specs.declared.search.Root.{Root}
use Rattle.jr_alive.specs.declared.search.Root.TheVariants as root
use Rattle.jr_alive.specs.Graph.{HasRoomFor, IsAlive, IsEdge, IsInDump, IsRoot, Lead, noted_header, noted_word}
use Rattle.jr_alive.proofs.Found.{is_some_of, some_is, there_inside, unless_none}
use Rattle.jr_alive.proofs.Kept.{lead_snoc}

-- what isn't free stands within the notes
slot_inside : (xs : List SlotParts) (i n o : ℕ) → slice_index_or xs i (slot.Free 0) ≡ slot.Global n o → i < length xs
slot_inside [] i n o e = absurd cc
slot_inside (x ∷ xs) zero n o e = omega arith
slot_inside (x ∷ xs) (suc i) n o e = let l = slot_inside xs i n o e in omega arith

local_inside : (xs : List LocalParts) (i o : ℕ) → slice_index_or xs i local.Free ≡ local.Object o → i < length xs
local_inside [] i o e = absurd cc
local_inside (x ∷ xs) zero o e = omega arith
local_inside (x ∷ xs) (suc i) o e = let l = local_inside xs i o e in omega arith

local_is : (q : Option ℕ) (o : ℕ) → local_parts q ≡ local.Object o → q ≡ Some o
local_is None o e = absurd cc
local_is (Some r) o e = let same : r ≡ o = cc in ap (λ n. Some n) same

-- a place lies in a thread's
below : (t p n m : ℕ) → t * m + p < n * m → t < n
below t p n m l = dite (dec_lt t n) (λ less. less) (λ not.
    let z : n * m ≤ t * m = mul-le-mul_right {m = n} {n = t} m (omega arith) in absurd (omega arith))

-- the header of an object that the dump has
header_is : (d : Dump) (o : ℕ) → IsInDump d 0 o → noted_header d 0 o ≡ slice_index_or d.headers.items (o - 1) None
header_is d o t =
    let v = slice_index_or d.headers.items (o - 1) None in
    let z = unless_none ((o == 0) || (o == 0)) v t in ap (λ b. if b then None else v) z.0

header_from : (d : Dump) (o : ℕ) → 1 ≤ o → noted_header d 0 o ≡ slice_index_or d.headers.items (o - 1) None
header_from d o some =
    let e : ((o == 0) || (o == 0)) ≡ false = grind (arith, nat_tests) in
    ap (λ b. if b then None else slice_index_or d.headers.items (o - 1) None) e

module _ (c : Config) (last : ℕ) (es : History) (d : Dump) (legal : IsLegal c last es) (room : HasRoomFor c d)
    (is : IsDumpOf c last (state es) d.slots.items d.locals.items d.headers.items d.words.items) where
  number : (o : ℕ) → 1 ≤ o → o ≤ c.objects
      → KeepsNumber (state es) o (slice_index_or d.headers.items (o - 1) None) d.words.items
  number o some few = subst (λ n. KeepsNumber (state es) n (slice_index_or d.headers.items (o - 1) None) d.words.items)
      (let e : o - 1 + 1 ≡ o = omega arith in e) (is.objects (o - 1) (omega arith))

  keeps : (o : ℕ) (h : HeaderParts) → noted_header d 0 o ≡ Some h
      → (x : Contents) × ((state es).objects o ≡ Some x) × KeepsContents x h d.words.items
  keeps o h e =
      let t = is_some_of (noted_header d 0 o) h e in
      let z = there_inside d 0 o t in
      let some = z.0 in
      let most = z.1 in
      let long = d.headers.ok.0 in
      let wide = room.headers in
      subst (λ q. KeepsNumber (state es) o q d.words.items) (sym (header_is d o t) ∙ e)
      (number o some (omega arith))

  present : (o : ℕ) → IsInDump d 0 o → IsPresent (state es) o
  present o t =
      let z = some_is (noted_header d 0 o) t in
      let k = keeps o z.0 z.1 in is_some_of ((state es).objects o) k.0 k.1

  noted : (o : ℕ) → IsPresent (state es) o → IsInDump d 0 o
  noted o there = go (slice_index_or d.headers.items (o - 1) None) refl
    where
      go : (q : Option HeaderParts) → slice_index_or d.headers.items (o - 1) None ≡ q → IsInDump d 0 o
      go (Some h) e = let z = (in_room c last es legal).objects o there in
          is_some_of (noted_header d 0 o) h (header_from d o z.0 ∙ e)
      go None e = let z = (in_room c last es legal).objects o there in
          let k = subst (λ q. KeepsNumber (state es) o q d.words.items) e (number o z.0 z.1) in
          absurd (let y = sym there ∙ ap is_some k in cc)

  edge_reached : (a i o : ℕ) → IsReached (state es) a → IsEdge d 0 a i o → IsReached (state es) o
  edge_reached a i o r e =
      let k = keeps a e.header e.array in
      let x = k.0 in
      from_element a i x r k.1 (k.2.kind ∙ e.kind) (k.2.elements i e.inside ∙ ap (λ n. Some n) e.word)
      (present o e.named)

  lead_reached : (edges : List Edge) (a o : ℕ) → IsReached (state es) a → Lead d 0 a edges o → IsReached (state es) o
  lead_reached [] a o r same = subst (IsReached (state es)) same r
  lead_reached (e ∷ edges) a o r lead =
      lead_reached edges e.object o (edge_reached a e.index e.object r lead.0) lead.1

  root_reached : (r : Root) (o : ℕ) → IsRoot d r o → IsInDump d 0 o → IsReached (state es) o
  root_reached (root.Global i n) o root there =
      let l = slot_inside d.slots.items i n o root in
      let long = d.slots.ok.0 in
      let wide = room.slots in
      let says = is.slots i (omega arith) in
      let stands = subst (StandsAs last (state es).refs i says.next) root says.stands in
      from_global (handle_of kind.Global n i) refl stands.found (present o there)
  root_reached (root.Local t p) o root there =
      let l = local_inside d.locals.items (t * d.places + p) o root.1 in
      let long = d.locals.ok.0 in
      let wide = room.locals in
      let same = room.places in
      let at : t * d.places + p ≡ t * c.locals + p = ap (λ n. t * n + p) same in
      let inside : t * c.locals + p < c.threads * c.locals = omega arith in
      let less = below t p c.threads c.locals inside in
      let place = root.0 in
      let told = is.locals t less p (omega arith) in
      from_local t p (local_is ((state es).locals t p) o (told
      ∙ (ap (λ n. slice_index_or d.locals.items n local.Free) (sym at) ∙ root.1))) (present o there)

  slot_alive : (h : Handle) (o : ℕ) → h.kind ≡ kind.Global → (state es).refs h ≡ Object o → IsPresent (state es) o
      → (next : ℕ) (q : SlotParts) → slice_index_or d.slots.items h.index (slot.Free 0) ≡ q
      → StandsAs last (state es).refs h.index next q → IsAlive d 0 o
  slot_alive h o k f there next (slot.Free n) e st = absurd (let y = sym (st.0 h refl) ∙ f in cc)
  slot_alive h o k f there next (slot.Retired n) e st = absurd (let y = sym (st.0 h refl) ∙ f in cc)
  slot_alive h o k f there next (slot.Global n r) e st =
      let same = alone_is st h refl (λ z. let y = sym z ∙ f in cc) in
      let found = st.found in
      let z : Object r ≡ Object o = sym found ∙ (ap (state es).refs (sym same) ∙ f) in
      let object : r ≡ o = cc in (
        root.Global h.index n,
        o,
        [],
        record {
          root = e ∙ ap (λ m. slot.Global n m) object;
          there =
              noted o there;
          lead = refl;
        },
      )
  slot_alive h o k f there next (slot.Weak n r) e st =
      let same = alone_is st h refl (λ z. let y = sym z ∙ f in cc) in
      let kinds = ap (λ (g : Handle). g.kind) same in absurd (let y = sym k ∙ kinds in cc)

  local_alive : (t p o : ℕ) → (state es).locals t p ≡ Some o → IsPresent (state es) o → IsAlive d 0 o
  local_alive t p o f there =
      let in_places = (in_room c last es legal).locals t p o f in
      let less = in_places.1 in
      let same = room.places in
      let told = is.locals t in_places.0 p less in
      let at : t * d.places + p ≡ t * c.locals + p = ap (λ n. t * n + p) same in (
        root.Local t p,
        o,
        [],
        record {
          root = (omega arith, ap (λ n. slice_index_or d.locals.items n local.Free) at ∙ (sym told ∙ ap local_parts f));
          there = noted o there;
          lead = refl;
        },
      )

  element_alive : (o a i : ℕ) (x : Contents) → IsAlive d 0 a → (state es).objects a ≡ Some x → x.kind ≡ Objects
      → slice_get x.words i ≡ Some o → IsPresent (state es) o → IsAlive d 0 o
  element_alive o a i x z f k at there =
      let t = noted a (is_some_of ((state es).objects a) x f) in
      let h = some_is (noted_header d 0 a) t in
      let header = h.0 in
      let kept = keeps a header h.1 in
      let same : kept.0 ≡ x = let y = sym kept.1 ∙ f in cc in
      let contents : KeepsContents x header d.words.items = subst
      (λ y. KeepsContents y header d.words.items) same kept.2 in
      let long = contents.long in
      let less = slice_get_within x.words i o at in
      let inside : i < header.length = omega arith in
      let word : noted_word d header i ≡ o = let y = sym (contents.elements i inside) ∙ at in cc in
      let edge : Edge = record { index = i; object = o } in
      let path = z.3 in (
        z.0,
        z.1,
        z.2 ++ edge ∷ [],
        record {
          root = path.root;
          there = path.there;
          lead = lead_snoc d 0 z.2 z.1 a edge path.lead (record {
            header = header;
            array = h.1;
            kind = sym contents.kind ∙ k;
            inside = inside;
            word = word;
            named = noted o there;
          });
        },
      )

  alive : (o : ℕ) → IsReached (state es) o → IsAlive d 0 o
  alive o (from_global h k f there) =
      let kept = kept_state c last es legal in
      let row = (kept.in_row h (kept.was_given h (λ e. let z = sym e ∙ f in cc))).2 in
      let says = is.slots h.index row in
      slot_alive h o k f there says.next (slice_index_or d.slots.items h.index (slot.Free 0)) refl says.stands
  alive o (from_local t p f there) = local_alive t p o f there
  alive o (from_element a i x r f k at there) = element_alive o a i x (alive a r) f k at there

  pub alive_told : (o : ℕ) → IsAlive d 0 o ↔ IsReached (state es) o
  alive_told o = (
    λ z. lead_reached z.2 z.1 o (root_reached z.0 z.1 z.3.root z.3.there) z.3.lead,
    λ r. alive o r,
  )
