-- What a part that was read shows: words of the object's kind, and so of the elements that they are taken for.
use Rattle.std.proofs.Common.{◌≡◌, ◌<◌, ◌+◌, ℕ, true, List, [], ◌∷◌, map, length, Ok, refl, sym, ap, subst, ◌∙◌, arith}
use Rattle.std.proofs.lemmas.List.{length-map}
use Rattle.std.specs.List.{AllByRecursion}
use mathlib.Core.Logic.{∥∥₁_map}
use Rattle.jr_word.specs.declared.config.Config.{Config}
use Rattle.jr_word.specs.declared.header.HeaderParts.{HeaderParts}
use Rattle.jr_word.specs.declared.kind.Kind.{Kind}
use Rattle.jr_word.specs.Kind.{word_limit}
use Rattle.jr_model.specs.declared.event.Role.TheVariants.{Within}
use Rattle.jr_model.specs.declared.event.Act.TheVariants.{Read}
use Rattle.jr_model.specs.History.{Did, IsLegal, role_of}
use Rattle.jr_model.specs.Checks.{is_read_as}
use Rattle.jr_model.specs.Parts.{read, read_acts}
use Rattle.jr_model.proofs.Stays.{did_nothing, did_then, role_did}
use Rattle.jr_model.proofs.Windows.{window_within}
use Rattle.jr_steps.specs.declared.known.Known.{Known}
use Rattle.jr_steps.specs.Knowing.{AreOf, Facts, MayKnow, ReadsInTurn, SawPart, view, state_of, Takes}
use Rattle.jr_steps.proofs.StepFacts.{goes_did}
use Rattle.jr_heap.specs.Heap.{Called, by_steps, HoldsHeader, LeavesObject}
use Rattle.jr_heap.proofs.Calling.{no_step, called_by}
use Rattle.jr_heap.proofs.StayFacts.{header_later}
use Rattle.jr_heap.proofs.Elements.{read_word}
use Rattle.jr_heap.proofs.Parts.{left_holds, read_below, read_within}

-- words that are each taken for an element are the words of these elements
taken_back : {E : Type 0} (taken : ℕ → E) (word_of : E → ℕ) (limit : ℕ) → ((v : ℕ) → v < limit → word_of (taken v) ≡ v)
    → (ws : List ℕ) → AllByRecursion (λ v. v < limit) ws → map word_of (map taken ws) ≡ ws
taken_back taken word_of limit back [] all = refl
taken_back taken word_of limit back (v ∷ vs) all =
    let first = back v all.0 in
    let rest = taken_back taken word_of limit back vs all.1 in
    cc

module _ (o : ℕ) (h : HeaderParts) (kind : Kind) (fits_kind : is_read_as kind h.kind ≡ true) where
  -- what the reads did, what they left, and that each word has the bits of the kind
  record PartRead (start : ℕ) (ws : List ℕ) (k k' : Known) : Type 0 where
    did : Did (view k) (view k') (read_acts o start ws)
    left : LeavesObject o h k k'
    took : Takes (length ws) k k'
    below : AllByRecursion (λ v. v < word_limit kind) ws

  part_read_from : (start : ℕ) (ws : List ℕ) (k k' : Known) → ReadsInTurn o start ws k k' → role_of (view k) ≡ Within
      → IsLegal k.config k.last k.seen → HoldsHeader o h k → PartRead start ws k k'
  part_read_from start [] k k' r within legal m = subst (λ z. PartRead start [] k z) (sym r)
      (record { did = did_nothing (view k) legal; left = (m.shown, refl); took = no_step k; below = tt })
  part_read_from start (v ∷ vs) k k' r within legal m =
      let next = r.0 in
      let d = goes_did r.1 in
      let here = header_later k next (Read o start v ∷ []) d within ((λ e. cc), tt) o h r.2 m in
      let legal_next =
      subst (λ (z : Config × ℕ). IsLegal z.0 z.1 next.seen) (λ i. (sym (r.1).config i, sym (r.1).last i)) (r.1).legal in
      let y = part_read_from (start + 1) vs next k' r.3 (role_did (Read o start v ∷ []) d ∙ within) legal_next here in
      record {
        did = did_then (Read o start v ∷ []) (read_acts o (start + 1) vs) d y.did;
        left = (y.left.0, y.left.1 ∙ r.2);
        took = (let a = (r.1).taken in let b = y.took in omega arith);
        below = (read_below (state_of next) kind h.kind v fits_kind (read_word o start v h r.1 here.shown), y.below);
      }

module _ {S : Type 0} {facts : S → Facts} (fits : AreOf facts) (o : ℕ) (h : HeaderParts) (kind : Kind)
    (fits_kind : is_read_as kind h.kind ≡ true) {E : Type 0} (taken : ℕ → E) (word_of : E → ℕ)
    (back : (v : ℕ) → v < word_limit kind → word_of (taken v) ≡ v) (start n : ℕ) (es : List E) where
  pub part_seen : {a b : S} → (facts a).stands.role ≡ Within → length es ≡ n → SawPart facts a b o h start taken es
      → Called facts a b (HoldsHeader o h) (λ j k. read o start n) (Ok (map word_of es)) (by_steps n (LeavesObject o h))
  part_seen {a} w size p = called_by p.hint_is (λ k s m.
      let x = p.leads k s m.known in
      let of_pass = fits a k s in
      let y = part_read_from o h kind fits_kind start p.words k x.0 x.2 (of_pass.role ∙ w) of_pass.legal m in
      let vs = map word_of es in
      let same : vs ≡ p.words =
      ap (map word_of) p.are ∙ taken_back taken word_of (word_limit kind) back p.words y.below in
      let long : length vs ≡ n = length-map es word_of ∙ size in
      let did : Did (view k) (view x.0) (read_acts o start vs) =
      subst (λ ws. Did (view k) (view x.0) (read_acts o start ws)) (sym same) y.did in
      let took : Takes n k x.0 = subst (λ m. Takes m k x.0) (ap length (sym same) ∙ long) y.took in (
        x.0,
        x.1,
        read_acts o start vs,
        record {
          did = did;
          is = λ f. (vs, long, refl, refl, refl);
          window = window_within (read_acts o start vs) did (of_pass.role ∙ w) (read_within o start vs);
          grounds = tt;
          shows = (y.left, took);
        },
      ))

  pub part_seen_may : {a b : S} → (facts a).stands.role ≡ Within → SawPart facts a b o h start taken es
      → MayKnow facts a (HoldsHeader o h) → MayKnow facts b (HoldsHeader o h)
  part_seen_may {a} w p may = ∥∥₁_map may (λ k.
      let x = p.leads k.0 k.1 k.2.known in
      let of_pass = fits a k.0 k.1 in (
        x.0,
        x.1,
        left_holds o h k.0 x.0
            (part_read_from o h kind fits_kind start p.words k.0 x.0 x.2 (of_pass.role ∙ w) of_pass.legal k.2).left k.2,
      ))
