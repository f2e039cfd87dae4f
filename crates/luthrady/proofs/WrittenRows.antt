-- Rows that are written over the front of a buffer.
use Rattle.std.proofs.Common.{◌≡◌, ◌<◌, ◌+◌, ◌++◌, ◌∙◌, ℕ, List, [], ◌∷◌}
use Rattle.std.proofs.Common.{ap, sym, get_or, length, map, slice_set, take, arith}
use Rattle.std.proofs.lemmas.List.{length-map, length-take-le, map-append, take_more}
use Rattle.jr_weak.specs.Listing.{over_front}
use Rattle.jr_weak.proofs.OverFront.{over_more}

-- the row of one note more was written behind the others
pub row_more : {T R : Type 0} (form : T → R) (rows rows' rows'' : List R) (notes : List T) (i : ℕ) (d : T) (row : R)
    → i < length notes → rows' ≡ over_front rows (map form (take i notes)) → row ≡ form (get_or notes i d)
    → rows'' ≡ slice_set rows' i row → rows'' ≡ over_front rows (map form (take (i + 1) notes))
row_more form rows rows' rows'' notes i d row less is of set =
    let before = map form (take i notes) in
    let long : length before ≡ i = length-map (take i notes) form ∙ length-take-le i notes (omega arith) in
    let one_more : map form (take (i + 1) notes) ≡ before ++ row ∷ [] =
    ap (map form) (take_more notes i d less) ∙ map-append form (take i notes) (get_or notes i d ∷ [])
    ∙ ap (λ r. before ++ r ∷ []) (sym of) in
    set ∙ ap (λ l. slice_set l i row) is ∙ ap (λ n. slice_set (over_front rows before) n row) (sym long)
    ∙ sym (over_more rows before row) ∙ ap (over_front rows) (sym one_more)
