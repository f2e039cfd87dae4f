use Rattle.std.proofs.Common.{◌≡◌, [], None, inl, inr, ap, rules, refl, subst, sym, ◌∙◌}
use Rattle.jr_syntax.specs.declared.command.Command.{Command}
use Rattle.jr_syntax.specs.declared.command.Command.TheVariants.{CloseLevel, Make, MakeText, OnBoth, Release}
use Rattle.jr_syntax.specs.declared.verb.Release.TheVariants as releases
use Rattle.jr_syntax.specs.declared.verb.OnBoth.TheVariants.{Same}
use Rattle.jr_scripts.specs.Commands.{loading, storing}
use Rattle.jr_env.proofs.Carrying.{did_decided, does_nothing}
use Rattle.jr_scripts.specs.Advancing.{answer_without_call}
use Rattle.jr_scripts.specs.Places.{levels_after, objects_after}
use Rattle.jr_scripts.specs.Text.{buffers_after}
use Rattle.jr_scripts.proofs.CopyDeeds.{does_get, does_put}
use Rattle.jr_scripts.proofs.CommandDeeds.{only_release, only_same, does_stored_as}
use Rattle.jr_scripts.proofs.Within.{called, posted, waited}
use Rattle.jr_scripts.proofs.perform.perform.Goals as goal

pub returns-in-MakeFrom-clause-did : goal.returns-in-MakeFrom-clause-did
returns-in-MakeFrom-clause-did g c =
    called c.args.command.now _ c.in-MakeFrom.is c.requires.outside refl
    c.requires.follows c.make_of.ensures refl refl refl

pub returns-in-WithCount-clause-did : goal.returns-in-WithCount-clause-did
returns-in-WithCount-clause-did g c =
    called c.args.command.now _ c.in-WithCount.is c.requires.outside refl
    c.requires.follows c.with_count.ensures refl refl refl

pub returns-in-MakeSized-clause-did : goal.returns-in-MakeSized-clause-did
returns-in-MakeSized-clause-did g c =
    called c.args.command.now _ c.in-MakeSized.is c.requires.outside refl
    c.requires.follows c.make_sized.ensures refl refl refl

pub returns-in-MakeFilled-clause-did : goal.returns-in-MakeFilled-clause-did
returns-in-MakeFilled-clause-did g c =
    called c.args.command.now _ c.in-MakeFilled.is c.requires.outside refl
    c.requires.follows c.fill.ensures refl refl refl

pub returns-in-MakeAt-clause-did : goal.returns-in-MakeAt-clause-did
returns-in-MakeAt-clause-did g c =
    called c.args.command.now _ c.in-MakeAt.is c.requires.outside refl
    c.requires.follows c.get_at.ensures refl refl refl

pub returns-in-SetAt-clause-did : goal.returns-in-SetAt-clause-did
returns-in-SetAt-clause-did g c =
    called c.args.command.now _ c.in-SetAt.is c.requires.outside refl
    c.requires.follows c.set_at.ensures refl refl refl

pub returns-in-OfRoom-clause-did : goal.returns-in-OfRoom-clause-did
returns-in-OfRoom-clause-did g c =
    called c.args.command.now _ c.in-OfRoom.is c.requires.outside refl
    c.requires.follows c.collect.ensures.does refl refl refl

pub returns-in-WithTries-clause-did : goal.returns-in-WithTries-clause-did
returns-in-WithTries-clause-did g c =
    called c.args.command.now _ c.in-WithTries.is c.requires.outside refl
    c.requires.follows c.collect_announced.ensures.does refl refl refl

pub returns-in-On-clause-did : goal.returns-in-On-clause-did
returns-in-On-clause-did g c =
    called c.args.command.now _ c.in-On.is c.requires.outside refl
    c.requires.follows c.on.ensures refl refl refl

pub returns-in-OnBoth-clause-did : goal.returns-in-OnBoth-clause-did
returns-in-OnBoth-clause-did g c =
    let only : c.in-OnBoth.verb ≡ Same = only_same c.in-OnBoth.verb in
    called c.args.command.now _ (c.in-OnBoth.is ∙ ap (λ v. OnBoth v c.in-OnBoth.left
    c.in-OnBoth.right) only) c.requires.outside refl c.requires.follows c.same.ensures refl refl refl

pub returns-in-MakeText-clause-did : goal.returns-in-MakeText-clause-did
returns-in-MakeText-clause-did g c =
    called c.args.command.now _ (c.in-MakeText.is ∙ ap (λ units. MakeText c.in-MakeText.verb
    c.in-MakeText.name units) (sym c.as_slice-in-MakeText.ensures.units)) c.requires.outside refl
    c.requires.follows c.ask-in-MakeText.ensures refl refl refl

pub returns-in_ok-wanted-in-OnAt-clause-did : goal.returns-in_ok-wanted-in-OnAt-clause-did
returns-in_ok-wanted-in-OnAt-clause-did g c =
    called c.args.command.now _ c.in-OnAt.is c.requires.outside refl
    c.requires.follows (did_decided (λ w. loading c.args.turns w.0 c.in-OnAt.index) (sym
    c.in_ok-wanted-in-OnAt.ensures) c.load.ensures) refl refl refl

pub returns-in_ok-wanted-in-StoreAt-clause-did : goal.returns-in_ok-wanted-in-StoreAt-clause-did
returns-in_ok-wanted-in-StoreAt-clause-did g c =
    called c.args.command.now _ c.in-StoreAt.is c.requires.outside refl
    c.requires.follows (did_decided (λ w. storing c.args.turns w.0 c.in-StoreAt.index c.in-StoreAt.value) (sym
    c.in_ok-wanted-in-StoreAt.ensures) (does_stored_as c.args.turns c.in_ok-wanted-in-StoreAt.field-0.0
    c.in-StoreAt.index _ c.in-StoreAt.value c.store.ensures (search rules))) refl refl refl

pub returns-in-Release-clause-did : goal.returns-in-Release-clause-did
returns-in-Release-clause-did g c =
    let only : c.in-Release.verb ≡ releases.Elements = only_release c.in-Release.verb in
    called c.args.command.now _ (c.in-Release.is ∙ ap (λ v. Release v c.in-Release.name
    c.in-Release.target c.in-Release.mode) only) c.requires.outside refl c.requires.follows
    c.release.ensures.does refl refl c.release.ensures.names

pub returns-in-Plain-clause-did : goal.returns-in-Plain-clause-did
returns-in-Plain-clause-did g c =
    called c.args.command.now _ (c.in-Make.is ∙ ap (λ v. Make v c.in-Make.name) c.in-Plain.is)
    c.requires.outside refl c.requires.follows c.ask.ensures refl refl refl

pub returns-in-Wait-clause-did : goal.returns-in-Wait-clause-did
returns-in-Wait-clause-did g c =
    waited g.met.S.Steps.fits c.args.command.now None refl c.as_slice.ensures.value c.requires.outside
    (c.in-Make.is ∙ ap (λ v. Make v c.in-Make.name) c.in-Wait.is) c.wait.ensures.frames c.wait.ensures.waited
    c.wait.ensures.follows c.wait.ensures.kept

pub wait-requires-clause-follows : goal.wait-requires-clause-follows
wait-requires-clause-follows g c =
    subst (g.B.Board.follows c.args.board.now) (sym c.as_slice.ensures.value) c.requires.follows

pub post-requires-clause-follows : goal.post-requires-clause-follows
post-requires-clause-follows g c = (c.args.ledger.now.words.items, c.requires.follows)

pub returns-in-OnName-clause-did : goal.returns-in-OnName-clause-did
returns-in-OnName-clause-did g c =
    posted g.met.S.Steps.fits c.args.command.now None refl c.requires.outside c.in-OnName.is
    c.word.ensures c.post.ensures.done c.post.ensures.frames
    (c.post.ensures.posted c.args.ledger.now.words.items c.requires.follows)
    (c.post.ensures.follows c.args.ledger.now.words.items c.requires.follows) c.post.ensures.kept

pub returns-in-OnNameAt-clause-did : goal.returns-in-OnNameAt-clause-did
returns-in-OnNameAt-clause-did g c =
    let names = c.args.ledger.now.names in
    let says = λ (d : Command) (is : c.args.command.now ≡ d). c.without_call.ensures.answer
    ∙ ap (answer_without_call names) is in
    let changed = λ (d : Command) (is : c.args.command.now ≡ d). c.without_call.ensures.names
    ∙ ap (λ e. buffers_after e c.without_call.result names) is in
    elim c.in-OnNameAt.is [
      | inl x ↦ called c.args.command.now _ x.3 c.requires.outside refl
          c.requires.follows (does_get c.args.turns names x.0 x.1 x.2 _ (says _ x.3)) refl refl (changed _ x.3)
      | inr (inl x) ↦ called c.args.command.now _ x.4 c.requires.outside refl
          c.requires.follows (does_put c.args.turns names x.0 x.1 x.2 x.3 _ (says _ x.4)) refl refl (changed _ x.4)
      | inr (inr x) ↦ called c.args.command.now _ x.2 c.requires.outside refl
          c.requires.follows (does_nothing (λ p. (says _ x.2, refl)))
          (sym (ap (λ a. levels_after (CloseLevel x.0 x.1) a []) (says _ x.2)))
          (sym (ap (λ a. objects_after (CloseLevel x.0 x.1) a []) (says _ x.2))) (changed _ x.2)
    ]
