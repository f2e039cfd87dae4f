-- A thread's own acts among what was seen.
use Rattle.std.proofs.Common.{◌≡◌, ℕ, List, [], ◌∷◌, ◌++◌, cond, refl, sym, ap, subst, ◌∙◌, append_assoc}
use mathlib.Core.List.{IsPrefix}
use Rattle.jr_word.specs.declared.config.Config.{Config}
use Rattle.jr_model.specs.declared.event.Act.{Act}
use Rattle.jr_model.specs.Steps.{Needs}
use Rattle.jr_model.specs.History.{History, by, state, IsLegal, mine, PassView, Did}
use Rattle.jr_model.proofs.Updates.{eq_self}
use Rattle.jr_model.proofs.Histories.{legal_append, mine_append}
use Rattle.jr_model.proofs.Stays.{append_cancel, mine_did}
use Rattle.jr_model.proofs.Moments.{OneAct, first_act}

-- an act stands among others
abbrev pub IsAmong : Act → List Act → Type 0
IsAmong a acts = (front : List Act) × (rest : List Act) × (acts ≡ front ++ a ∷ rest)

-- an own act stands among events
pub record IsSeen (t : ℕ) (a : Act) (es : History) : Type 0 where
  pub before : History
  pub since : History
  pub parts : es ≡ before ++ by t a ∷ since

seen_own : (t : ℕ) (a : Act) (front rest : List Act) (es : History) → mine es t ≡ front ++ a ∷ rest → IsSeen t a es
seen_own t a [] rest es is = let f = first_act t a rest es is in
    record { before = f.before; since = f.since; parts = f.parts }
seen_own t a (b ∷ front) rest es is =
    let f = first_act t b (front ++ a ∷ rest) es is in
    let later = seen_own t a front rest f.since f.rest in
    record {
      before = f.before ++ by t b ∷ later.before;
      since = later.since;
      parts = f.parts ∙ (ap (λ l. f.before ++ by t b ∷ l) later.parts
          ∙ sym (append_assoc f.before (by t b ∷ later.before) (by t a ∷ later.since)));
    }

-- what an act needs was so where it was taken
pub needed_there : (c : Config) (last : ℕ) (es before since : History) (t : ℕ) (a : Act) → es ≡ before ++ by t a ∷ since
    → IsLegal c last es → IsLegal c last before × Needs c last (state before) (by t a)
needed_there c last es before since t a parts legal =
    let both = (legal_append c last before (by t a ∷ since)).0 (subst (IsLegal c last) parts legal) in
    (both.0, both.1.0)

module _ {old new : PassView} where
  -- one of the acts that were done
  pub act_among : (a : Act) (acts : List Act) → IsAmong a acts → Did old new acts → OneAct old new a
  act_among a acts among d =
      let s = seen_own old.thread a among.0 among.1 d.begins.0 (mine_did acts d ∙ among.2) in
      let before = old.seen ++ s.before in
      let parts : new.seen ≡ before ++ by old.thread a ∷ s.since = sym d.begins.1
      ∙ (ap (λ l. old.seen ++ l) s.parts ∙ sym (append_assoc old.seen s.before (by old.thread a ∷ s.since))) in
      let there = needed_there old.config old.last new.seen before s.since old.thread a parts d.legal in
      record {
        before = before;
        since = s.since;
        parts = parts;
        from = (s.before, refl);
        legal = there.0;
        needs = there.1;
      }

  -- an own act that was seen since is one of those that were done
  pub seen_among : (a : Act) (before since : History) → IsPrefix old.seen before
      → new.seen ≡ before ++ by old.thread a ∷ since → (acts : List Act) → Did old new acts → IsAmong a acts
  seen_among a before since from seen acts d =
      let t = old.thread in
      let event = by t a in
      let cut : new.seen ≡ old.seen ++ (from.0 ++ event ∷ since) =
      seen ∙ (ap (λ es. es ++ event ∷ since) (sym from.1) ∙ append_assoc old.seen from.0 (event ∷ since)) in
      let here : mine (event ∷ since) t ≡ a ∷ mine since t =
      ap (λ b. cond b (a ∷ mine since t) (mine since t)) (eq_self t) in
      let rest : mine (from.0 ++ event ∷ since) t ≡ mine from.0 t ++ a ∷ mine since t =
      mine_append from.0 (event ∷ since) t ∙ ap (λ l. mine from.0 t ++ l) here in
      let both : mine old.seen t ++ acts ≡ mine old.seen t ++ (mine from.0 t ++ a ∷ mine since t)
      = sym d.own ∙ (ap (λ es. mine es t) cut
      ∙ (mine_append old.seen (from.0 ++ event ∷ since) t ∙ ap (λ l. mine old.seen t ++ l) rest)) in
      (mine from.0 t, mine since t, append_cancel (mine old.seen t) acts (mine from.0 t ++ a ∷ mine since t) both)
