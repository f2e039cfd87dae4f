use Rattle.std.proofs.Common.{◌+◌, ◌≤◌, rules, refl, sym, subst, ◌∙◌}
use Rattle.jr_word.specs.declared.config.Config.{Config}
use Rattle.jr_rule.proofs.HeapOwed.{claims_top}
use Rattle.jr_rule.proofs.Told.{reserve_won, reserve_lost, reserve_leaves, top_word_read, ClaimedTop}
use Rattle.jr_rule.proofs.StepTaken.{exchange_at, known_in, owing, stood, took}
use Rattle.jr_rule.proofs.over.StepsOverSteps.claim_top.Goals as goal

pub exchange-found-requires-clause-owed : goal.exchange-found-requires-clause-owed
exchange-found-requires-clause-owed g c =
    let s = c.args.self.now in
    let u = c.args.looked in
    let n = c.args.more in
    owing s c.requires.role c.requires.looked (search rules) (λ k among role m.
    exchange_at k (ClaimedTop u n k) refl (sym c.top_word-old.ensures) (sym c.top_word-new.ensures)
    (claims_top k role u n (subst (λ (x : Config). u + n ≤ x.words) (sym among.config) c.requires.room)))

pub invariant_of-self : goal.invariant_of-self
invariant_of-self g c = let s = c.args.self.now in stood s c.requires.role c.requires.looked
    c.exchange-found.ensures.there c.exchange-found.ensures.step (reserve_leaves c.args.looked c.args.more)

pub unwrap-requires : goal.unwrap-requires
unwrap-requires g c =
    let s = c.args.self.now in
    top_word_read c.exchange-found.ensures.step (known_in s c.requires.role c.requires.looked)
    (λ k k' done t. let u = t.1 (λ e. c.if-found-old.true (e ∙ sym c.top_word-old.ensures)) in (u.0, u.1, u.2))
    c.parts.result c.parts.ensures.complete

pub returns-then-found-old : goal.returns-then-found-old
returns-then-found-old g c =
    let s = c.args.self.now in
    took s _ c.exchange-found.ensures.step refl c.requires.role _ (reserve_lost _ c.parts.ensures.complete _
    c.unwrap.ensures c.args.looked c.args.more (λ e. c.if-found-old.true (e ∙ sym c.top_word-old.ensures))) refl refl

pub returns : goal.returns
returns g c =
    let s = c.args.self.now in
    took s _ c.exchange-found.ensures.step refl c.requires.role _
    (reserve_won c.args.looked c.args.more (c.if-found-old.false ∙ c.top_word-old.ensures)) refl refl
