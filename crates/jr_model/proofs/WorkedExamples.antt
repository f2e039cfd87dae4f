-- The examples of histories: the machine's tests compute whether each is legal.
use Rattle.std.proofs.Common.{◌≡◌, ℕ, zero, suc, ◌+◌, ◌≤◌, true, false, not, ◌&&◌, is_some}
use Rattle.std.proofs.Common.{Some, [], ◌∷◌, ◌++◌, slice_get, refl, sym, ap, ◌∙◌, arith}
use Rattle.std.specs.List.{list_any}
use Rattle.std.proofs.lemmas.Bool.{and_parts}
use Rattle.jr_word.specs.declared.config.Config.{Config}
use Rattle.jr_word.specs.declared.handle.RefKind.{RefKind}
use Rattle.jr_word.specs.declared.handle.RefKind.TheVariants.{Global, Weak}
use Rattle.jr_word.specs.declared.kind.Kind.TheVariants.{Int}
use Rattle.jr_model.specs.declared.event.Found.TheVariants.{Object}
use Rattle.jr_model.specs.declared.event.Act.TheVariants.{Gate, Create, Look, Probe, Clear, Drop}
use Rattle.jr_model.specs.declared.event.GateAct.TheVariants.{Enter, Announce, Shut}
use Rattle.jr_model.specs.Maps.{sum_below, count_below}
use Rattle.jr_model.specs.State.{Contents, is_there, references, summary}
use Rattle.jr_model.specs.History.{History, by, state, IsLegal}
use Rattle.jr_model.specs.Decided.{reached_within, given_from, is_legal}
use Rattle.jr_model.specs.Examples.{last_serial, counts, reference_dropped, gate_passed, gate_twice_announced}
use Rattle.jr_model.specs.Examples.{space_contended, array_made, array_used, array_collected, two_threads}
use Rattle.jr_model.specs.Examples.{three_threads, one_object, g, w, plain_p, global_g, drop_g, one_thread}
use Rattle.jr_model.specs.Examples.{DropIsLegal, FindingDroppedIsIllegal, CreatingBesideIsIllegal, GateIsLegal}
use Rattle.jr_model.specs.Examples.{WrongCountIsIllegal, ShuttingOverIsIllegal, EnteringBesideIsIllegal}
use Rattle.jr_model.specs.Examples.{KnockingAtOpenIsIllegal, AnnouncingIsLegal, EnteringAnnouncedIsIllegal}
use Rattle.jr_model.specs.Examples.{AnnouncingBesideIsIllegal, CountingTheAnnouncerIsIllegal}
use Rattle.jr_model.specs.Examples.{ShuttingAnnouncedOverIsIllegal, one_slot, serial, thrice, ThriceIsLegal}
use Rattle.jr_model.specs.Examples.{FourthIsIllegal, SpaceIsLegal, RefusingWhatFitsIsIllegal, ReadingAnotherIsIllegal}
use Rattle.jr_model.specs.Examples.{MakingBeyondIsIllegal, CollectionIsLegal, CollectingReachedIsIllegal}
use Rattle.jr_model.proofs.Histories.{legal_append}
use Rattle.jr_model.proofs.Lengths.{sum_same, sum_none}
use Rattle.jr_model.proofs.Counts.{count_all_false}
use Rattle.jr_model.proofs.Deciding.{legal_is, standing_none}

-- what the test says is legal is so, and what it doesn't is not
legal : (c : Config) (last : ℕ) (es : History) → is_legal c last es ≡ true → IsLegal c last es
legal c last es = (legal_is c last es).0

illegal : (c : Config) (last : ℕ) (es : History) → is_legal c last es ≡ false → ¬ (IsLegal c last es)
illegal c last es e l = let is = (legal_is c last es).1 l in cc

-- and where no reference stands, none is counted
emptied : (c : Config) (last : ℕ) (es : History)
    → (is_legal c last es && not (list_any (λ h. is_there ((state es).refs h)) (given_from [] es))) ≡ true
    → IsLegal c last es × (summary c last (state es)
    ≡ counts 0 0 (count_below (c.objects + 1) (λ o. is_some ((state es).objects o))) (state es).used)
emptied c last es e = (l, counted (none Global) (none Weak))
  where
    parts : (is_legal c last es ≡ true) × (not (list_any (λ h. is_there ((state es).refs h)) (given_from [] es)) ≡ true)
    parts = and_parts (is_legal c last es) (not (list_any (λ h. is_there ((state es).refs h)) (given_from [] es))) e

    l : IsLegal c last es
    l = legal c last es parts.0

    none : (k : RefKind) → references c last k (state es) ≡ 0
    none k =
        sum_same c.slots (λ i. 0)
        (λ i. count_below (last + 1)
        (λ n. is_there ((state es).refs (record { kind = k; serial = n; index = i; owner = 0 }))))
        (λ i m. count_all_false (last + 1)
        (λ n. is_there ((state es).refs (record { kind = k; serial = n; index = i; owner = 0 })))
        (λ n m. standing_none c last es l parts.1 (record { kind = k; serial = n; index = i; owner = 0 })))
        ∙ sum_none c.slots

    counted : {a b n u : ℕ} → a ≡ 0 → b ≡ 0 → counts a b n u ≡ counts 0 0 n u
    counted p q = cc

pub drop_is_legal : DropIsLegal
unfolding sum_below reached_within
drop_is_legal = emptied one_thread last_serial reference_dropped refl

pub finding_dropped_is_illegal : FindingDroppedIsIllegal
finding_dropped_is_illegal t o l =
    let found = ((legal_append one_thread last_serial (plain_p ++ global_g ++ drop_g ++ by 0 (Gate Enter) ∷ [])
    (by t (Look g (Object o)) ∷ [])).0 l).1.0.1.1 in
    cc

pub creating_beside_is_illegal : CreatingBesideIsIllegal
creating_beside_is_illegal t o h index l =
    let free = ((legal_append one_thread last_serial (plain_p ++ global_g ++ by 0 (Gate Enter) ∷ [])
    (by t (Create h o) ∷ [])).0 l).1.0.1.3 g (sym index) in
    cc

-- SERIALS

pub thrice_is_legal : ThriceIsLegal
unfolding sum_below reached_within
thrice_is_legal = legal one_slot 2 (thrice ++ by 0 (Probe 0 true) ∷ []) refl

all_given : (n : ℕ) → n ≤ 2 → (state thrice).given (serial n) ≡ true
all_given zero l = refl
all_given (suc zero) l = refl
all_given (suc (suc zero)) l = refl
all_given (suc (suc (suc n))) l = absurd (omega arith)

pub fourth_is_illegal : FourthIsIllegal
fourth_is_illegal t o h l =
    let needs = ((legal_append one_slot 2 thrice (by t (Create h o) ∷ [])).0 l).1.0.1 in
    let index : 0 ≡ h.index = let below = needs.2.2 in omega arith in
    let given = all_given h.serial needs.2.3 in
    let fresh = needs.4 (serial h.serial) index refl in
    cc

-- THE GATE

pub gate_is_legal : GateIsLegal
unfolding sum_below reached_within
gate_is_legal = emptied two_threads last_serial gate_passed refl

pub wrong_count_is_illegal : WrongCountIsIllegal
unfolding sum_below
wrong_count_is_illegal n ne l = let others : 1 ≡ n + 0 = l.1.0.1.1 in ne (omega arith)

pub shutting_over_is_illegal : ShuttingOverIsIllegal
unfolding sum_below reached_within
shutting_over_is_illegal = illegal two_threads last_serial (by 0 (Gate Enter) ∷ by 1 (Gate Shut) ∷ []) refl

pub entering_beside_is_illegal : EnteringBesideIsIllegal
unfolding sum_below reached_within
entering_beside_is_illegal = illegal two_threads last_serial (by 1 (Gate Shut) ∷ by 0 (Gate Enter) ∷ []) refl

pub knocking_at_open_is_illegal : KnockingAtOpenIsIllegal
knocking_at_open_is_illegal t l = let closed = l.0.1.1.1 in absurd cc

-- AN ANNOUNCED CLOSING OF THE GATE

pub announcing_is_legal : AnnouncingIsLegal
unfolding sum_below reached_within
announcing_is_legal = emptied three_threads last_serial gate_twice_announced refl

pub entering_announced_is_illegal : EnteringAnnouncedIsIllegal
unfolding sum_below reached_within
entering_announced_is_illegal = illegal three_threads last_serial (by 1 (Gate Announce) ∷ by 0 (Gate Enter) ∷ []) refl

pub announcing_beside_is_illegal : AnnouncingBesideIsIllegal
unfolding sum_below reached_within
announcing_beside_is_illegal = illegal three_threads last_serial (by 1 (Gate Announce) ∷ by 2 (Gate Announce) ∷ []) refl

pub counting_the_announcer_is_illegal : CountingTheAnnouncerIsIllegal
unfolding sum_below
counting_the_announcer_is_illegal n ne l = let others : 2 ≡ n + 1 = l.1.1.0.1.1 in ne (omega arith)

pub shutting_announced_over_is_illegal : ShuttingAnnouncedOverIsIllegal
unfolding sum_below reached_within
shutting_announced_over_is_illegal =
    illegal three_threads last_serial (by 0 (Gate Enter) ∷ by 1 (Gate Announce) ∷ by 1 (Gate Shut) ∷ []) refl

-- SPACE, READS AND WRITES

pub space_is_legal : SpaceIsLegal
unfolding sum_below reached_within
space_is_legal = emptied two_threads last_serial space_contended refl

pub refusing_what_fits_is_illegal : RefusingWhatFitsIsIllegal
refusing_what_fits_is_illegal t n u few l = let used = l.1.1.0.1.1 in let full = l.1.1.0.1.2 in absurd (omega arith)

pub reading_another_is_illegal : ReadingAnotherIsIllegal
reading_another_is_illegal t v ne l =
    let read = l.1.1.1.1.0.1 in
    let same : record { kind = Int; words = 7 ∷ [] } ≡ read.1 = let is = read.2 in cc in
    let at : slice_get (7 ∷ []) 0 ≡ Some v = ap (λ (x : Contents). slice_get x.words 0) same ∙ read.3 in
    ne cc

pub making_beyond_is_illegal : MakingBeyondIsIllegal
unfolding sum_below
making_beyond_is_illegal t l = let room = l.1.1.0.1.5 in absurd (omega arith)

-- A COLLECTION

pub collection_is_legal : CollectionIsLegal
unfolding sum_below reached_within
collection_is_legal = legal one_object 2 (array_made ++ array_used ++ array_collected) refl

pub collecting_reached_is_illegal : CollectingReachedIsIllegal
unfolding sum_below reached_within
collecting_reached_is_illegal = (
  illegal one_object 2 (array_made ++ by 0 (Gate Shut) ∷ by 0 (Drop 1) ∷ []) refl,
  illegal one_object 2 (array_made ++ by 0 (Gate Shut) ∷ by 0 (Clear w) ∷ []) refl,
)
