use Rattle.std.proofs.Common.{rules, refl}
use Rattle.jr_rule.proofs.CollectOwed.{scans_top}
use Rattle.jr_rule.proofs.Told.{top_scan, top_scan_leaves, top_word_read}
use Rattle.jr_rule.proofs.StepTaken.{known_any, known_in, owing, stood, took}
use Rattle.jr_rule.proofs.over.StepsOverSteps.scan_top.Goals as goal

pub load-found-requires-clause-owed : goal.load-found-requires-clause-owed
load-found-requires-clause-owed g c = let s = c.args.self.now in
    owing s c.requires (known_any s) (search rules) (λ k among role m. scans_top k role)

pub invariant_of-self : goal.invariant_of-self
invariant_of-self g c = let s = c.args.self.now in stood s c.requires (known_any s)
    c.load-found.ensures.there c.load-found.ensures.step top_scan_leaves

pub unwrap-requires : goal.unwrap-requires
unwrap-requires g c = let s = c.args.self.now in
    top_word_read c.load-found.ensures.step (known_in s c.requires (known_any s))
    (λ k k' done t. (t.0, t.1, t.2)) c.parts.result c.parts.ensures.complete

pub returns : goal.returns
returns g c = let s = c.args.self.now in took s _ c.load-found.ensures.step refl c.requires _
    (top_scan _ c.parts.ensures.complete _ c.unwrap.ensures) refl refl
