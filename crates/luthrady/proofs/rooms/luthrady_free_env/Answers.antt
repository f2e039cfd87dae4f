use Rattle.std.proofs.Common.{◌∙◌, ap, sym}
use Rattle.luthrady.specs.declared.handles.EnvHandle.{EnvHandle}
use Rattle.luthrady.specs.declared.held.EnvPlace.{EnvPlace}
use Rattle.luthrady.specs.Behind.{is_attached}
use Rattle.luthrady.proofs.Pooling.{kept}
use Rattle.luthrady.proofs.ThroughPointers.{as_it_was}
use Rattle.luthrady.proofs.rooms.luthrady_free_env.Goals as goal

-- src/rooms.rt
pub returns-then-is_attached : goal.returns-then-is_attached
returns-then-is_attached c =
    let is = sym c.is_env.ensures.value ∙ c.if-not-is_env.false in
    let same = c.is_env.ensures.unchanged in
    let lent = c.env_of.ensures.value in
    let there = ap (λ (a : EnvPlace). is_attached a.presence) (lent ∙ ap (λ (h : EnvHandle). h.value) same) in
    kept _ _ _ _ _ is (sym there ∙ sym c.is_attached.ensures ∙ c.if-is_attached.true)
    c.nothing_reply-then-is_attached.ensures (as_it_was _ _ _ same lent)
