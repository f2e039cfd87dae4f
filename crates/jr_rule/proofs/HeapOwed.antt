-- What the steps of the heap owe, wherever they find the row.
use Rattle.std.proofs.Common.{◌≡◌, ◌≢◌, ◌⊎◌, ⊎_elim, inl, inr, ◌+◌, ◌<◌, ◌≤◌, ◌^◌, ℕ, Bool, true}
use Rattle.std.proofs.Common.{false, cond, nat_lt, Option, Some, None, IsSome, List, [], ◌∷◌}
use Rattle.std.proofs.Common.{length, get_or, slice_set, eqb, refl, sym, ap, subst, ◌∙◌, arith}
use Rattle.std.proofs.lemmas.List.{append-nil}
use Rattle.std.proofs.lemmas.Bool.Decides.{nat_tests}
use Rattle.std.proofs.Math.Logic.{∥∥₁_elim}
use mathlib.Core.Logic.{∥∥₁_map, dite}
use Rattle.std.proofs.Props.{props}
use native.Mathlib.Decide.{ℕ_discrete}
use prog.Atomic.{either}
use Rattle.jr_word.specs.declared.config.Config.{Config}
use Rattle.jr_word.specs.declared.header.HeaderParts.{HeaderParts}
use Rattle.jr_word.specs.declared.kind.Kind.{Kind}
use Rattle.jr_word.specs.declared.kind.Kind.TheVariants.{Objects, Text}
use Rattle.jr_word.specs.Header.{header_word, IsHeader, IsHeaderOrZero}
use Rattle.jr_model.specs.declared.event.Role.TheVariants.{Within, Collecting}
use Rattle.jr_model.specs.declared.event.Act.{Act}
use Rattle.jr_model.specs.declared.event.Act.TheVariants.{New, Reserve, ReserveFull, ReserveLost, Read, Write}
use Rattle.jr_model.specs.State.{Contents, State, IsPresent, IsWord, AreWords}
use Rattle.jr_model.specs.History.{by, state, role_of}
use Rattle.jr_model.proofs.Histories.{state_push}
use Rattle.jr_model.proofs.Lengths.{lengths_fit}
use Rattle.jr_model.proofs.Presence.{word_mono}
use Rattle.jr_model.proofs.Updates.{at_number_self}
use Rattle.jr_steps.specs.declared.known.Known.{Known}
use Rattle.jr_steps.specs.declared.known.Holdings.{Holdings}
use Rattle.jr_steps.specs.declared.loads.TopLoad.{TopLoad}
use Rattle.jr_steps.specs.declared.loads.TopLoad.TheVariants as top
use Rattle.jr_steps.specs.Holdings.{words_at, with_range, with_header, hold}
use Rattle.jr_rule.specs.Image.{top_at, header_at, element_at, IsIn, IsHeaderOf, IsKnown}
use Rattle.jr_steps.specs.Knowing.{view, state_of, KnowsHeader, HasWord, IsWordNow}
use Rattle.jr_steps.specs.Knowing.{IsFilled, words_for, without_range_of}
use Rattle.jr_rule.specs.Rule.{Makes, Owes}
use Rattle.jr_rule.proofs.StillSo.{role_at, present_now}
use Rattle.jr_rule.proofs.HeapImages.{one_header, none_known}
use Rattle.jr_rule.proofs.HeapSteps.{reserves, publishes_own, reads, writes, puts_own as stores_own}
use Rattle.jr_rule.proofs.Headers.{header_some}
use Rattle.jr_rule.proofs.LocalSteps.{knows_header}
use Rattle.jr_rule.proofs.HeapSpaces.{elements_from, elements_length, none_beyond}
use Rattle.jr_rule.proofs.LegalSteps.{gaining, quiet, written as renamed, unwritten}
use Rattle.jr_rule.proofs.LegalSteps.{won, lost, LegalStep, one_legal, none_legal}
use Rattle.jr_rule.proofs.Told.{IsHeaderWord, SawHeader, Published, used_word}
use Rattle.jr_rule.proofs.Told.{SawTop, ClaimedTop, SawElement, PutElement, PutOwn}

-- a word of a kind is one without a choice: an element of an object array is 0, or else an object's number
word_is : (s : State) (kind : Kind) (v : ℕ) → ∥ IsWord s kind v ∥₁ → IsWord s kind v
word_is s Objects v h = dite (ℕ_discrete v 0)
    (λ e. inl e)
    (λ ne. inr (∥∥₁_elim h (hlevel props) (λ z. ⊎_elim (λ e. absurd (ne e)) (λ p. p) z)))
word_is s _ v h = ∥∥₁_elim h (hlevel props) (λ z. z)

module _ (k : Known) where
  -- a load of a header, by a thread within or one that collects
  pub loads_header : (role_of (view k) ≡ Within) ⊎ (role_of (view k) ≡ Collecting) → (o : ℕ) → 1 ≤ o
      → o ≤ k.config.objects → Owes k (header_at k.config o) (λ n. n) (SawHeader o k)
  loads_header inside o low high log words held f = go ((state log).objects o) refl (f.image.header o low high)
    where
      go : (z : Option Contents) → (state log).objects o ≡ z → IsHeaderOf z (get_or words (header_at k.config o) 0)
          → Makes k log (slice_set words (header_at k.config o) (get_or words (header_at k.config o) 0)) held (SawHeader
          o k (get_or words (header_at k.config o) 0))
      go None e w = quiet k log words held f _ (SawHeader o k (get_or words (header_at k.config o) 0)) []
          (unwritten k log words held (header_at k.config o)
          (none_legal k.config k.last log k.thread words held f.legal f.image))
          (None, w, refl, (subst (λ l. (state l).objects o ≡ None) (sym (append-nil log)) e, refl))
      go (Some x) e w =
          let known : IsKnown k.config words o w.parts =
          record { number = (low, high); fits = w.fits; word = w.word } in
          let g = with_header k.holdings o w.parts in
          gaining k log _ held (SawHeader o k (get_or words (header_at k.config o) 0)) [] g
          (unwritten k log words (hold held k.thread g) (header_at k.config o) (knows_header k.config k.last log
          k.thread words f.legal held f.image (⊎_elim (λ e. inl (role_at k log words held f ∙ e))
          (λ e. inr (role_at k log words held f ∙ e)) inside) k.holdings f.fits.holdings o w.parts known)) (
            Some w.parts,
            (w.fits, w.word),
            refl,
            (
              record {
                contents = x;
                is = subst (λ l. (state l).objects o ≡ Some x) (sym (append-nil log)) e;
                says = w.says;
              },
              refl,
              one_header k.config k.last words (state log) held f.image k.thread o k.holdings f.fits.holdings w.parts
                  known,
            ),
          )

module _ (k : Known) (within : role_of (view k) ≡ Within) where
  pub sees_top : (name : TopLoad) → Owes k top_at (λ n. n) (SawTop name k)
  sees_top name log words held f =
      let n : ℕ = get_or words top_at 0 in
      let s : State = state log in
      let room = (lengths_fit k.config k.last log f.legal).1 in
      let most = (f.sized).limited.words in
      go name n f.image.top (omega arith)
    where
      go : (name : TopLoad) (n : ℕ) → n ≡ used_word (state log).used → (state log).used < 2 ^ 24
          → Makes k log (slice_set words top_at (get_or words top_at 0)) held (SawTop name k n)
      go top.Look n is few = quiet k log words held f _ (SawTop top.Look k n) []
          (unwritten k log words held top_at (none_legal k.config k.last log k.thread words held f.legal f.image)) (
            (state log).used,
            few,
            is,
            refl,
            subst (λ l. (state l).used ≡ (state log).used) (sym (append-nil log)) refl,
            refl,
          )
      go (top.Full m) n is few = by_room (nat_lt k.config.words ((state log).used + m)) refl
        where
          by_room : (b : Bool) → nat_lt k.config.words ((state log).used + m) ≡ b
              → Makes k log (slice_set words top_at (get_or words top_at 0)) held (SawTop (top.Full m) k n)
          by_room true e =
              let full : k.config.words < (state log).used + m = grind (arith, nat_tests) in
              let a : Act = ReserveFull m (state log).used in
              quiet k log words held f _ (SawTop (top.Full m) k n) (a ∷ [])
              (unwritten k log words held top_at (one_legal k.config k.last log k.thread words held f.legal
              a (f.fits.row, (role_at k log words held f ∙ within, refl, full)) f.image)) (
                (state log).used,
                few,
                is,
                ap (λ b. cond b (a ∷ []) []) (sym e),
                ap (λ (s : State). s.used) (state_push log (by k.thread a)),
                refl,
              )
          by_room false e = quiet k log words held f _ (SawTop (top.Full m) k n) []
              (unwritten k log words held top_at (none_legal k.config k.last log k.thread words held f.legal f.image)) (
                (state log).used,
                few,
                is,
                ap (λ b. cond b (ReserveFull m (state log).used ∷ []) []) (sym e),
                subst (λ l. (state l).used ≡ (state log).used) (sym (append-nil log)) refl,
                refl,
              )

  pub claims_top : (looked more : ℕ) → looked + more ≤ k.config.words
      → Owes k top_at (λ n. either (eqb n (used_word looked)) (used_word (looked + more)) n) (ClaimedTop looked more k)
  claims_top looked more room log words held f =
      let n : ℕ = get_or words top_at 0 in
      let s : State = state log in
      let old : ℕ = used_word looked in
      let new : ℕ = used_word (looked + more) in
      let inside = role_at k log words held f ∙ within in
      let below = (lengths_fit k.config k.last log f.legal).1 in
      let most = (f.sized).limited.words in
      let is = f.image.top in
      dite (ℕ_discrete n old)
      (λ won_it.
      let same : s.used ≡ looked = omega arith in
      let ws : List ℕ = elements_from k.config words s.used more in
      let nothing : words_at looked k.holdings.ranges ≡ [] =
      subst (λ u. words_at u k.holdings.ranges ≡ []) same (subst (λ (h : Holdings). words_at s.used h.ranges ≡ [])
      f.fits.holdings (none_beyond k.config words s.objects (IsIn s.used) f.image.moving held f.image.space s.used
      k.thread (λ (l : s.used < s.used). absurd (omega arith)))) in
      let g : Holdings = with_range k.holdings looked ws in
      let turn = subst (λ u. LegalStep k.config k.last log k.thread (Reserve more ∷ []) (slice_set words top_at new)
      (hold held k.thread (with_range k.holdings u ws))) same
      (reserves k.config k.last log k.thread words f.legal held f.image f.fits.row inside k.holdings f.fits.holdings
      more new (omega arith) (omega arith)) in
      gaining k log (slice_set words top_at (either (eqb n old) new n)) held (ClaimedTop looked more k n)
      (Reserve more ∷ []) g
      (renamed k log words (hold held k.thread g) top_at new (either (eqb n old) new n) (won old new n won_it) turn) (
        λ e. (
          refl,
          (
            ws,
            elements_length k.config words s.used more,
            refl,
            nothing,
            ap (λ (z : State). z.used) (state_push log (by k.thread (Reserve more))) ∙ ap (λ u. u + more) same,
          ),
        ),
        λ ne. absurd (ne won_it),
      ))
      (λ other. quiet k log words held f (slice_set words top_at (either (eqb n old) new n))
      (ClaimedTop looked more k n) (ReserveLost more looked s.used ∷ [])
      (renamed k log words held top_at n (either (eqb n old) new n) (lost old new n other)
      (unwritten k log words held top_at (one_legal k.config k.last log k.thread words held f.legal
      (ReserveLost more looked s.used) (f.fits.row, (inside, refl, λ e. other (is ∙ ap used_word e))) f.image)))
      (λ e. absurd (other e), λ ne. (s.used, omega arith, is, refl, refl)))

-- what each of several words of a kind is, without a choice
words_are : (s : State) (kind : Kind) (ws : List ℕ) → ∥ AreWords s kind ws ∥₁ → AreWords s kind ws
words_are s kind ws h i v at = word_is s kind v (∥∥₁_map h (λ (z : AreWords s kind ws). z i v at))

module _ (k : Known) (within : role_of (view k) ≡ Within) where
  module _ (o : ℕ) (h : HeaderParts) (knows : KnowsHeader o h k) (i : ℕ) (inside : i < h.length) where
    pub sees_element : Owes k (element_at k.config (h.place + i)) (λ n. n) (SawElement o i k)
    sees_element log words held f =
        let at : ℕ = element_at k.config (h.place + i) in
        let n : ℕ = get_or words at 0 in
        quiet k log words held f _ (SawElement o i k n) (Read o i n ∷ [])
        (unwritten k log words held at (reads k.config k.last log k.thread words f.legal held f.image f.fits.row
        (role_at k log words held f ∙ within) k.holdings f.fits.holdings o h i knows inside)) (refl, refl)

    pub puts_element : (v : ℕ) → h.kind ≢ Text
        → ∥ IsWordNow h.kind v k ∥₁ → Owes k (element_at k.config (h.place + i)) (λ n. v) (λ n. PutElement o i v k v)
    puts_element v no_text word log words held f =
        let here = word_mono (state_of k) (state log) h.kind v (λ r p. present_now k log words held f r within p)
        (word_is (state_of k) h.kind v word) in
        quiet k log words held f _ (PutElement o i v k v) (Write o i v ∷ [])
        (writes k.config k.last log k.thread words f.legal held f.image f.fits.row (role_at k log words held f ∙ within)
        k.holdings f.fits.holdings o h i v knows inside no_text here) (refl, refl)

  pub puts_own : (place i v : ℕ) → HasWord place i k
      → Owes k (element_at k.config (place + i)) (λ n. v) (λ n. PutOwn place i v k v)
  puts_own place i v own log words held f =
      gaining k log _ held (PutOwn place i v k v) []
      (with_range k.holdings place (slice_set (words_at place k.holdings.ranges) i v))
      (stores_own k.config k.last log k.thread words f.legal held f.image f.fits.row
      (role_at k log words held f ∙ within) k.holdings f.fits.holdings place i v own) (refl, refl)

  -- a header that was found 0 is the object's:
  -- one of no elements, or one whose elements are a range of the thread's own
  pub publishes_header : (o : ℕ) (h : HeaderParts) → 1 ≤ o → o ≤ k.config.objects → IsHeader h
      → ∥ IsFilled h k ∥₁ → Owes k (header_at k.config o) (λ n. either (eqb n 0) (header_word h) n) (Published o h k)
  publishes_header o h low high good filled log words held f = dite (ℕ_discrete n 0) wins loses
    where
      c : Config
      c = k.config

      s : State
      s = state log

      n : ℕ
      n = get_or words (header_at c o) 0

      ws : List ℕ
      ws = words_for h k

      word : ℕ
      word = either (eqb n 0) (header_word h) n

      are : AreWords s h.kind ws
      are i v at = word_mono (state_of k) s h.kind v (λ r p. present_now k log words held f r within p)
          (words_are (state_of k) h.kind ws (∥∥₁_map filled (λ (z : IsFilled h k). z.words)) i v at)

      long : length ws ≡ h.length
      long = ∥∥₁_elim filled (hlevel props) (λ (z : IsFilled h k). z.long)

      loses : n ≢ 0 → Makes k log (slice_set words (header_at c o) word) held (Published o h k n)
      loses some = quiet k log words held f (slice_set words (header_at c o) word) (Published o h k n) []
          (renamed k log words held (header_at c o) n word (lost 0 (header_word h) n some)
          (unwritten k log words held (header_at c o) (none_legal c k.last log k.thread words held f.legal f.image))) (
            λ e. absurd (some e),
            λ ne. (refl, refl),
            subst (λ l. IsPresent (state l) o) (sym (append-nil log))
                (header_some (s.objects o) n (f.image.header o low high) some),
          )

      wins : n ≡ 0 → Makes k log (slice_set words (header_at c o) word) held (Published o h k n)
      wins none =
          let turn = publishes_own c k.last log k.thread words f.legal held f.image f.fits.row
          (role_at k log words held f ∙ within) k.holdings f.fits.holdings o h low high good long are none in
          gaining k log (slice_set words (header_at c o) word) held (Published o h k n) (New o h.kind ws ∷ [])
          (with_header (without_range_of h k.holdings) o h)
          (renamed k log words (hold held k.thread (with_header (without_range_of h k.holdings) o h)) (header_at c o)
          (header_word h) word (won 0 (header_word h) n none) turn) (
            λ e. (refl, refl, none_known c k.last words s held f.image k.thread o k.holdings f.fits.holdings none),
            λ ne. absurd (ne none),
            subst (λ z. IsPresent z o) (sym (state_push log (by k.thread (New o h.kind ws))))
                (subst IsSome (sym (at_number_self s.objects o (Some (record { kind = h.kind; words = ws })))) refl),
          )

-- what is read of a word that is known to be a header's, or 0
pub header_or_zero : (r : Option HeaderParts) (n : ℕ) → IsHeaderWord r n → IsHeaderOrZero n
header_or_zero None n is = inl is
header_or_zero (Some h) n is = inr (h, is.0, is.1)
