-- A stay that stands is one stay of its history, without a step of a collection.
use Rattle.std.proofs.Common.{◌≡◌, ◌≢◌, ℕ, List, [], ◌∷◌, ◌++◌, refl, sym, ap, subst, ◌∙◌, append_assoc}
use Rattle.std.proofs.lemmas.List.{append-nil}
use Rattle.std.specs.List.{AllByRecursion}
use Rattle.jr_model.specs.declared.event.Act.{Act}
use Rattle.jr_model.specs.declared.event.Act.TheVariants.{Gate}
use Rattle.jr_model.specs.declared.event.GateAct.TheVariants.{Enter, Leave}
use Rattle.jr_model.specs.History.{History, by, mine, IsLegal, IsStay, PassView, Did}
use Rattle.jr_model.specs.Windows.{IsLastSeen}
use Rattle.jr_model.specs.OpenStays.{GoesOnWithItsActs, HasStayed, IsOneStay, NoneLeaves}
use Rattle.jr_model.specs.OpenStays.{NoCollectionInOpenStay, NoCollectionUpToExit}
use Rattle.jr_model.proofs.Lawful.{NoLeave}
use Rattle.jr_model.proofs.Exactly.{append_all}
use Rattle.jr_model.proofs.Gates.{no_collection_inside}
use Rattle.jr_model.proofs.Histories.{mine_append, mine_push}
use Rattle.jr_model.proofs.Moments.{FirstAct, first_act}
use Rattle.jr_model.proofs.Stays.{did_then, mine_did, never}
use Rattle.jr_model.proofs.Windows.{stepped_last}

-- WHAT A STAY DID

-- what was seen since the moment before the stay, cut at its entry
abbrev since : {old mid : PassView} (p : HasStayed old mid) → FirstAct old.thread (Gate Enter) p.acts p.did.begins.0
since {old} {mid} p = first_act old.thread (Gate Enter) p.acts p.did.begins.0 (mine_did (Gate Enter ∷ p.acts) p.did)

module _ {old mid : PassView} (p : HasStayed old mid) where
  abbrev front : History
  front = old.seen ++ (since p).before

  front_own : mine front old.thread ≡ mine old.seen old.thread
  front_own = mine_append old.seen (since p).before old.thread
      ∙ (ap (λ l. mine old.seen old.thread ++ l) (since p).none ∙ append-nil (mine old.seen old.thread))

  parts : mid.seen ≡ front ++ by old.thread (Gate Enter) ∷ (since p).since
  parts = sym p.did.begins.1 ∙ (ap (λ l. old.seen ++ l) (since p).parts
      ∙ sym (append_assoc old.seen (since p).before (by old.thread (Gate Enter) ∷ (since p).since)))

  inside_stays : AllByRecursion (λ e. e ≢ by old.thread (Gate Leave)) (since p).since
  inside_stays = never (Gate Leave) (since p).since old.thread (subst NoLeave (sym (since p).rest) p.stays)

-- all that was seen since is one stay
pub one_stay : {old mid : PassView} → HasStayed old mid → IsOneStay old mid []
one_stay {old} {mid} p =
    let stay : IsStay old.thread mid.seen (front p) (since p).since [] = record {
      parts = parts p ∙ sym (append-nil (front p ++ by old.thread (Gate Enter) ∷ (since p).since));
      stays = inside_stays p;
      ends = tt;
    } in
    record {
      before = front p;
      inside = (since p).since;
      stay = stay;
      begins = ((since p).before, refl);
      own = front_own p;
      clear =
          no_collection_inside old.config old.last old.thread mid.seen (front p) (since p).since [] p.did.legal stay;
    }

-- THE EXIT

-- a list that isn't empty has a last element
record Ended {A : Type 0} (xs : List A) : Type 0 where
  front : List A
  last : A
  is : xs ≡ front ++ last ∷ []

ended : {A : Type 0} (x : A) (xs : List A) → Ended (x ∷ xs)
ended x [] = record { front = []; last = x; is = refl }
ended x (y ∷ ys) = let e = ended y ys in record { front = x ∷ e.front; last = e.last; is = ap (λ l. x ∷ l) e.is }

same_last : {A : Type 0} (xs ys : List A) (x y : A) → xs ++ x ∷ [] ≡ ys ++ y ∷ [] → x ≡ y
same_last [] [] x y e = cc
same_last [] (b ∷ []) x y e = absurd cc
same_last [] (b ∷ c ∷ ys) x y e = absurd cc
same_last (a ∷ []) [] x y e = absurd cc
same_last (a ∷ c ∷ xs) [] x y e = absurd cc
same_last (a ∷ xs) (b ∷ ys) x y e = same_last xs ys x y cc

-- events whose only one of the thread is a leave, and which end with it: the others' come before
record LeftLast (t : ℕ) (es : History) : Type 0 where
  others : History
  parts : es ≡ others ++ by t (Gate Leave) ∷ []
  none : mine others t ≡ []

left_last : (t : ℕ) (before es : History) (ends : History) → mine es t ≡ Gate Leave ∷ []
    → before ++ es ≡ ends ++ by t (Gate Leave) ∷ [] → LeftLast t es
left_last t before [] ends own is = absurd cc
left_last t before (e ∷ es) ends own is =
    let z = ended e es in
    let last : z.last ≡ by t (Gate Leave) = same_last (before ++ z.front) ends z.last (by t (Gate Leave))
    (append_assoc before z.front (z.last ∷ []) ∙ (ap (λ l. before ++ l) (sym z.is) ∙ is)) in
    let parts : e ∷ es ≡ z.front ++ by t (Gate Leave) ∷ [] = subst (λ x. e ∷ es ≡ z.front ++ x ∷ []) last z.is in
    record {
      others = z.front;
      parts = parts;
      none = nothing_before (mine z.front t) (Gate Leave) (sym (mine_push z.front t (Gate Leave))
          ∙ (ap (λ l. mine l t) (sym parts) ∙ own));
    }
  where
    nothing_before : (xs : List Act) (a : Act) → xs ++ a ∷ [] ≡ a ∷ [] → xs ≡ []
    nothing_before [] a e = refl
    nothing_before (x ∷ []) a e = absurd cc
    nothing_before (x ∷ y ∷ xs) a e = absurd cc

-- up to the exit all that was seen is one stay
pub one_stay_left : {old mid new : PassView} → HasStayed old mid → Did mid new (Gate Leave ∷ [])
    → IsLastSeen new (Gate Leave) → IsOneStay old new (by old.thread (Gate Leave) ∷ [])
one_stay_left {old} {mid} {new} p d seen =
    let thread : new.thread ≡ old.thread = d.thread ∙ p.did.thread in
    let own : mine d.begins.0 old.thread ≡ Gate Leave ∷ [] =
    subst (λ t. mine d.begins.0 t ≡ Gate Leave ∷ []) p.did.thread (mine_did (Gate Leave ∷ []) d) in
    let left : LeftLast old.thread d.begins.0 = left_last old.thread mid.seen d.begins.0 seen.before own (d.begins.1
    ∙ subst (λ t. new.seen ≡ seen.before ++ by t (Gate Leave) ∷ []) thread seen.is) in
    let inside = (since p).since ++ left.others in
    let legal : IsLegal old.config old.last new.seen =
    (did_then (Gate Enter ∷ p.acts) (Gate Leave ∷ []) p.did d).legal in
    let inner = by old.thread (Gate Enter) ∷ (since p).since in
    let whole : new.seen ≡ front p ++ by old.thread (Gate Enter) ∷ inside ++ by old.thread (Gate Leave) ∷ [] =
    sym d.begins.1 ∙ (ap (λ l. l ++ d.begins.0) (parts p)
    ∙ (ap (λ l. (front p ++ inner) ++ l) left.parts
    ∙ (sym (append_assoc (front p ++ inner) left.others (by old.thread (Gate Leave) ∷ []))
    ∙ ap (λ l. l ++ by old.thread (Gate Leave) ∷ []) (append_assoc (front p) inner left.others)))) in
    let others : AllByRecursion (λ e. e ≢ by old.thread (Gate Leave)) left.others =
    never (Gate Leave) left.others old.thread (subst NoLeave (sym left.none) tt) in
    let stay : IsStay old.thread new.seen (front p) inside (by old.thread (Gate Leave) ∷ []) = record {
      parts = whole;
      stays = append_all (λ e. e ≢ by old.thread (Gate Leave)) (since p).since left.others (inside_stays p) others;
      ends = refl;
    } in
    record {
      before = front p;
      inside = inside;
      stay = stay;
      begins = ((since p).before, refl);
      own = front_own p;
      clear = no_collection_inside old.config old.last old.thread new.seen (front p) inside
          (by old.thread (Gate Leave) ∷ []) legal stay;
    }

-- THE LAWS

-- what goes on without an exit stays
pub stays_more : {old mid new : PassView} → HasStayed old mid → (acts : List Act) → Did mid new acts → NoneLeaves acts
    → HasStayed old new
stays_more p acts did none = record {
  acts = p.acts ++ acts;
  did = did_then (Gate Enter ∷ p.acts) acts p.did did;
  stays = append_all (λ a. a ≢ Gate Leave) p.acts acts p.stays none;
}

pub goes_on_with_its_acts : GoesOnWithItsActs
unfolding stays_more
goes_on_with_its_acts old mid new stayed acts did none = (stays_more stayed acts did none, refl)

pub no_collection_in_open_stay : NoCollectionInOpenStay
no_collection_in_open_stay old new stayed = one_stay stayed

pub no_collection_up_to_exit : NoCollectionUpToExit
no_collection_up_to_exit old mid new stayed step = one_stay_left stayed step.did (stepped_last step)
