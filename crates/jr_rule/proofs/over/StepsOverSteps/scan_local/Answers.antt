use Rattle.std.proofs.Common.{◌≡◌, ◌<◌, refl, sym, ap, subst, ◌∙◌}
use Rattle.jr_word.specs.declared.config.Config.{Config}
use Rattle.jr_rule.specs.Image.{local_at}
use Rattle.jr_rule.proofs.CollectOwed.{scans_local}
use Rattle.jr_rule.proofs.Told.{local_scan, local_scan_leaves, word_read, ScannedLocal}
use Rattle.jr_rule.proofs.StepTaken.{known_any, known_in, load_at, local_in, owing, stood, took}
use Rattle.jr_rule.proofs.over.StepsOverSteps.scan_local.Goals as goal

pub load-found-requires-clause-owed : goal.load-found-requires-clause-owed
load-found-requires-clause-owed g c =
    let s = c.args.self.now in
    let z = g.C.Cells.sight s.cells in
    let t = c.args.thread in
    let i = c.args.place in
    let here : c.local_at-at.result ≡ local_at z.first.config t i =
    c.local_at-at.ensures ∙ ap (λ x. local_at x t i) c.config-config.ensures in
    owing s c.requires.role (known_any s) (local_in z.first.config t i here c.requires.thread c.requires.place)
    (λ k among role m.
    let at : local_at k.config t i ≡ c.local_at-at.result = ap (λ x. local_at x t i) (among.config) ∙ sym here in
    load_at k (ScannedLocal t i k) at (scans_local k role t i (subst (λ (x : Config). t < x.threads) (sym among.config)
    c.requires.thread) (subst (λ (x : Config). i < x.locals) (sym among.config) c.requires.place)))

pub invariant_of-self : goal.invariant_of-self
invariant_of-self g c = let s = c.args.self.now in stood s c.requires.role (known_any s)
    c.load-found.ensures.there c.load-found.ensures.step (local_scan_leaves c.args.thread c.args.place)

pub unwrap-requires : goal.unwrap-requires
unwrap-requires g c = let s = c.args.self.now in
    word_read c.load-found.ensures.step (known_in s c.requires.role (known_any s))
    (λ k k' done t. (t.0, t.1, t.2)) c.parts.result c.parts.ensures.complete

pub returns : goal.returns
returns g c = let s = c.args.self.now in took s _ c.load-found.ensures.step refl c.requires.role _
    (local_scan c.args.thread c.args.place _ c.parts.ensures.complete _ c.unwrap.ensures) refl refl
