-- Parts of arrays are read and written element by element.
use Rattle.std.proofs.Common.{◌≡◌, ◌≢◌, ◌<◌, ◌+◌, ℕ, suc, true, List, [], ◌∷◌, ◌++◌, take}
use Rattle.std.proofs.Common.{map, length, get_or, Ok, refl, sym, ap, subst, ◌∙◌, arith}
use Rattle.std.proofs.lemmas.List.{map-append, length-map, length-take-le, take_all, take_more}
use mathlib.Core.Logic.{∥∥₁_map}
use Rattle.jr_word.specs.declared.header.HeaderParts.{HeaderParts}
use Rattle.jr_word.specs.declared.kind.Kind.{Kind}
use Rattle.jr_word.specs.declared.kind.Kind.TheVariants.{Boolean, Byte, Char, Short, Int, Long, Text}
use Rattle.jr_word.specs.Kind.{word_limit}
use Rattle.jr_model.specs.declared.event.Role.TheVariants.{Within}
use Rattle.jr_model.specs.declared.event.Act.{Act}
use Rattle.jr_model.specs.declared.event.Act.TheVariants.{Gate, Write}
use Rattle.jr_model.specs.declared.event.GateAct.TheVariants.{Leave}
use Rattle.jr_model.specs.State.{State, IsWord}
use Rattle.jr_model.specs.History.{Did}
use Rattle.jr_model.specs.Checks.{is_read_as, same_element}
use Rattle.jr_model.specs.Parts.{write, read_acts, write_acts}
use Rattle.jr_model.proofs.Stays.{did_then}
use Rattle.jr_model.proofs.Windows.{AreWithin, window_within}
use Rattle.jr_steps.specs.declared.known.Known.{Known}
use Rattle.jr_steps.specs.declared.known.Holdings.{Holdings}
use Rattle.jr_steps.specs.Holdings.{header_in}
use Rattle.jr_steps.specs.Knowing.{AreOf, Facts, Leads, MayKnow, Standing, keeps, view, state_of}
use Rattle.jr_steps.specs.Knowing.{standing_after, KnowsHeader, IsWordNow, Took, Takes}
use Rattle.jr_steps.proofs.StepFacts.{goes_did}
use Rattle.jr_heap.specs.Heap.{Called, by_steps, HoldsHeader, LeavesObject}
use Rattle.jr_heap.proofs.Calling.{called_by}
use Rattle.jr_heap.proofs.StayFacts.{object_later}

-- ACTS, one more at the end

pub write_acts_more : (o start : ℕ) (vs : List ℕ) (v : ℕ)
    → write_acts o start (vs ++ v ∷ []) ≡ write_acts o start vs ++ Write o (start + length vs) v ∷ []
write_acts_more o start [] v = let e : start ≡ start + 0 = omega arith in ap (λ i. Write o i v ∷ []) e
write_acts_more o start (x ∷ vs) v =
    let e : start + 1 + length vs ≡ start + suc (length vs) = omega arith in
    ap (λ acts. Write o start x ∷ acts) (write_acts_more o (start + 1) vs v
    ∙ ap (λ i. write_acts o (start + 1) vs ++ Write o i v ∷ []) e)

-- one more element of a list that was read or is written
module _ {E : Type 0} (f : E → ℕ) (o start i at : ℕ) (es : List E) (x : E) (inside : i < length es)
    (place : at ≡ start + i) where
  long : length (map f (take i es)) ≡ i
  long = length-map (take i es) f ∙ length-take-le i es (omega arith)

  index_is : start + length (map f (take i es)) ≡ at
  index_is = ap (λ n. start + n) long ∙ sym place

  pub write_turn : (v : ℕ) → x ≡ get_or es i x → v ≡ f x
      → write_acts o start (map f (take (i + 1) es)) ≡ write_acts o start (map f (take i es)) ++ Write o at v ∷ []
  write_turn v is word =
      ap (λ xs. write_acts o start (map f xs)) (take_more es i x inside ∙ ap (λ y. take i es ++ y ∷ []) (sym is))
      ∙ (ap (λ vs. write_acts o start vs) (map-append f (take i es) (x ∷ []))
      ∙ (write_acts_more o start (map f (take i es)) (f x)
      ∙ (ap (λ n. write_acts o start (map f (take i es)) ++ Write o n (f x) ∷ []) index_is
      ∙ ap (λ w. write_acts o start (map f (take i es)) ++ Write o at w ∷ []) (sym word))))

whole : {E : Type 0} (f : E → ℕ) (n : ℕ) (es : List E) → length es ≡ n → map f (take n es) ≡ map f es
whole f n es size = ap (λ xs. map f xs) (take_all n es (omega arith))

pub read_within : (o start : ℕ) (vs : List ℕ) → AreWithin (read_acts o start vs)
read_within o start [] = tt
read_within o start (v ∷ vs) = (refl, read_within o (start + 1) vs)

write_within : (o start : ℕ) (vs : List ℕ) → AreWithin (write_acts o start vs)
write_within o start [] = tt
write_within o start (v ∷ vs) = (refl, write_within o (start + 1) vs)

-- KINDS

-- a word of what is read as elements of a kind has its bits
pub read_below : (s : State) (k l : Kind) (v : ℕ) → is_read_as k l ≡ true → IsWord s l v → v < word_limit k
read_below s Boolean Boolean v e w = w
read_below s Byte Byte v e w = w
read_below s Char Char v e w = w
read_below s Short Short v e w = w
read_below s Int Int v e w = w
read_below s Long Long v e w = w
read_below s Char Text v e w = w
read_below s k l v e w = absurd cc

-- a word of an element's kind may be an element of the array
write_below : (s : State) (k l : Kind) (v : ℕ) → same_element k l ≡ true → v < word_limit k → IsWord s l v
write_below s Boolean Boolean v e w = w
write_below s Byte Byte v e w = w
write_below s Char Char v e w = w
write_below s Short Short v e w = w
write_below s Int Int v e w = w
write_below s Long Long v e w = w
write_below s k l v e w = absurd cc

pub stored_word : (k l : Kind) (v w : ℕ) → same_element k l ≡ true → v ≡ w → w < word_limit k → (known : Known)
    → IsWordNow l v known
stored_word k l v w e is below known =
    write_below (state_of known) k l v e (subst (λ z. z < word_limit k) (sym is) below)

-- strings are not among what is written
no_text : (k : Kind) → same_element k Text ≡ true → ⊥
no_text Boolean e = absurd cc
no_text Byte e = absurd cc
no_text _ e = absurd cc

pub same_no_text : (k l : Kind) → same_element k l ≡ true → l ≢ Text
same_no_text k l e t = no_text k (ap (λ z. same_element k z) (sym t) ∙ e)

-- STEPS

-- so many steps at the object's elements: these acts, and the object is as the header says
pub record PartDone {S : Type 0} (facts : S → Facts) (o : ℕ) (h : HeaderParts) (acts : List Act) (n : ℕ)
    (old new : S) : Type 0 where
  pub stands_is : (facts new).stands ≡ (facts old).stands
  pub hint_is : (facts new).hint ≡ (facts old).hint
  pub did : Leads facts old new (HoldsHeader o h) (λ k k'. Did (view k) (view k') acts) (λ k k'. LeavesObject o h k k'
      × Takes n k k')

-- the header is known still
pub left_holds : (o : ℕ) (h : HeaderParts) (j k : Known) → LeavesObject o h j k → HoldsHeader o h j → HoldsHeader o h k
left_holds o h j k l x = record { known = ap (λ (g : Holdings). header_in o g.headers) l.1 ∙ x.known; shown = l.0 }

module _ {S : Type 0} {facts : S → Facts} (fits : AreOf facts) (o : ℕ) (h : HeaderParts) where
  pub part_more : {a b c : S} (acts : List Act) (n : ℕ) (x : Act) {met : Known → Type 0} → x ≢ Gate Leave
      → (facts a).stands.role ≡ Within → standing_after (facts b).stands (x ∷ []) ≡ (facts b).stands
      → ((k : Known) → HoldsHeader o h k → met k)
      → PartDone facts o h acts n a b → Took facts b c (x ∷ []) met keeps
      → PartDone facts o h (acts ++ x ∷ []) (n + 1) a c
  part_more {a} {b} acts n x ne w same meets p t = record {
    stands_is = t.stands_is ∙ (same ∙ p.stands_is);
    hint_is = t.hint_is ∙ p.hint_is;
    did = λ k s m.
        let y = p.did k s m in
        let held = left_holds o h k y.0 y.3.0 m in
        let g = t.goes y.0 y.1 (meets y.0 held) in
        let role = (fits b y.0 y.1).role ∙ (ap (λ (s : Standing). s.role) p.stands_is ∙ w) in
        let shown = object_later y.0 g.0 (x ∷ []) (goes_did g.2) role (ne, tt) o h held.shown in (
          g.0,
          g.1,
          did_then acts (x ∷ []) y.2 (goes_did g.2),
          ((shown, g.3 ∙ y.3.0.1), (let a = y.3.1 in let b = g.2.taken in omega arith)),
        );
  }

  pub part_may : {a b : S} {acts : List Act} {n : ℕ} → MayKnow facts a (HoldsHeader o h) → PartDone facts o h acts n a b
      → MayKnow facts b (HoldsHeader o h)
  part_may may p = ∥∥₁_map may (λ k. let x = p.did k.0 k.1 k.2 in (x.0, x.1, left_holds o h k.0 x.0 x.3.0 k.2))

  module _ {E : Type 0} (f : E → ℕ) (start i at : ℕ) (es : List E) (x : E) (v : ℕ) (inside : i < length es)
      (place : at ≡ start + i) where
    pub part_write_more : {a b c : S} → (facts a).stands.role ≡ Within → x ≡ get_or es i x → v ≡ f x
        → ((k : Known) → IsWordNow h.kind v k) → PartDone facts o h (write_acts o start (map f (take i es))) i a b
        → Took facts b c (Write o at v ∷ []) (λ k. KnowsHeader o h k × IsWordNow h.kind v k) keeps
        → PartDone facts o h (write_acts o start (map f (take (i + 1) es))) (i + 1) a c
    part_write_more {a} {b} {c} w is word named p t = subst (λ acts. PartDone facts o h acts (i + 1) a c)
        (sym (write_turn f o start i at es x inside place v is word))
        (part_more (write_acts o start (map f (take i es))) i (Write o at v) (λ e. cc) w refl
        (λ k m. (m.known, named k)) p t)

  module _ {E : Type 0} (f : E → ℕ) (start i n : ℕ) (es : List E) (end : i ≡ n) (size : length es ≡ n) where
    pub part_written : {a b : S} → (facts a).stands.role ≡ Within
        → PartDone facts o h (write_acts o start (map f (take i es))) i a b
        → Called facts a b (HoldsHeader o h) (λ j k. write o start (map f es)) (Ok tt) (by_steps n (LeavesObject o h))
    part_written {a} {b} w p = called_by p.hint_is (λ k s m.
        let vs = map f es in
        let at_end = subst (λ m. PartDone facts o h (write_acts o start (map f (take m es))) m a b) end p in
        let all : PartDone facts o h (write_acts o start vs) n a b =
        subst (λ xs. PartDone facts o h (write_acts o start xs) n a b) (whole f n es size) at_end in
        let x = all.did k s m in (
          x.0,
          x.1,
          write_acts o start vs,
          record {
            did = x.2;
            is = λ g. (refl, refl, refl);
            window = window_within (write_acts o start vs) x.2 ((fits a k s).role ∙ w) (write_within o start vs);
            grounds = tt;
            shows = x.3;
          },
        ))
