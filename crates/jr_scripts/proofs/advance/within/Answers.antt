use Rattle.std.proofs.Common.{◌≡◌, Some, ap, rules, refl, subst, sym, ◌∙◌, to_z, of_z, w64}
use Rattle.jr_critical.specs.Levels.{objects_of}
use Rattle.jr_env.proofs.Carrying.{did_reply}
use Rattle.jr_syntax.specs.declared.command.Command.TheVariants.{Make}
use Rattle.jr_scripts.specs.declared.reply.Reply.TheVariants.{Done}
use Rattle.jr_scripts.specs.Advancing.{DidWith}
use Rattle.jr_scripts.specs.RegionCommands.{writing_by}
use Rattle.jr_scripts.proofs.Within.{as_told, buffers_kept, inside, is_of_region, posted, refused_inside, waited}
use Rattle.jr_scripts.proofs.advance.within.Goals as goal

pub returns-in-OpenLevel : goal.returns-in-OpenLevel
returns-in-OpenLevel g c =
    as_told c.args.command.now _ _ c.still.ensures.region c.still.ensures.answer (inside c.args.command.now _
    c.in-OpenLevel.is c.args.region c.requires.stand refl c.requires.follows c.nest-answer.ensures.does
    c.nest-answer.ensures.stand c.nest-answer.ensures.levels c.nest-answer.ensures.objects refl)

pub returns-in-OnNameAt : goal.returns-in-OnNameAt
returns-in-OnNameAt g c =
    as_told c.args.command.now _ _ c.still-in-OnNameAt.ensures.region c.still-in-OnNameAt.ensures.answer (inside
    c.args.command.now _ c.in-OnNameAt.is c.args.region c.requires.stand refl c.requires.follows
    c.read_by-answer.ensures.does c.read_by-answer.ensures.stand refl refl refl)

pub returns-in-PutAt : goal.returns-in-PutAt
returns-in-PutAt g c =
    let back : to_z w64 (of_z w64 c.in-PutAt.value) ≡ c.in-PutAt.value = search rules in
    let did = subst (λ z. DidWith c.args.env.now c.write_by-answer.new.env (Some c.args.region) (Some c.args.region)
    (writing_by c.in-PutAt.verb c.args.region.names.items (objects_of c.args.region.levels) c.in-PutAt.name
    c.in-PutAt.index z) c.write_by-answer.result) back c.write_by-answer.ensures.does in
    as_told c.args.command.now _ _ c.still-in-PutAt.ensures.region c.still-in-PutAt.ensures.answer
    (inside c.args.command.now _ c.in-PutAt.is c.args.region c.requires.stand refl c.requires.follows did
    c.write_by-answer.ensures.stand refl refl (buffers_kept c.args.ledger.now.names c.in-PutAt.verb c.in-PutAt.name
    c.in-PutAt.index c.in-PutAt.value c.write_by-answer.result c.write_by-answer.ensures.other))

pub returns-in-CloseLevel : goal.returns-in-CloseLevel
returns-in-CloseLevel g c =
    inside c.args.command.now _ c.in-CloseLevel.is c.args.region c.requires.stand refl c.requires.follows (did_reply
    (λ _. Done) tt c.close.ensures.does) c.close.ensures.stand c.close.ensures.names c.close.ensures.objects refl

pub returns-in-Wait : goal.returns-in-Wait
returns-in-Wait g c =
    as_told c.args.command.now _ _ c.still-in-Wait.ensures.region c.still-in-Wait.ensures.answer
    (waited g.met.S.Steps.fits c.args.command.now (Some c.args.region) refl c.as_slice.ensures.value c.requires.stand
    (c.in-Make.is ∙ ap (λ v. Make v c.in-Make.name) c.in-Wait.is) c.wait.ensures.frames c.wait.ensures.waited
    c.wait.ensures.follows c.wait.ensures.kept)

pub returns-in-Plain : goal.returns-in-Plain
returns-in-Plain g c =
    let is = c.in-Make.is ∙ ap (λ v. Make v c.in-Make.name) c.in-Plain.is in
    as_told c.args.command.now _ _ c.still-in-Plain.ensures.region c.still-in-Plain.ensures.answer (refused_inside
    c.args.command.now c.args.region c.requires.stand c.requires.follows (ap is_of_region is))

pub wait-requires-clause-follows : goal.wait-requires-clause-follows
wait-requires-clause-follows g c =
    subst (g.B.Board.follows c.args.board.now) (sym c.as_slice.ensures.value) c.requires.follows

pub post-requires-clause-follows : goal.post-requires-clause-follows
post-requires-clause-follows g c = (c.args.ledger.now.words.items, c.requires.follows)

pub returns-in-OnName : goal.returns-in-OnName
returns-in-OnName g c =
    as_told c.args.command.now _ _ c.still-in-OnName.ensures.region c.still-in-OnName.ensures.answer
    (posted g.met.S.Steps.fits c.args.command.now (Some c.args.region) refl c.requires.stand c.in-OnName.is
    c.word.ensures c.post.ensures.done c.post.ensures.frames
    (c.post.ensures.posted c.args.ledger.now.words.items c.requires.follows)
    (c.post.ensures.follows c.args.ledger.now.words.items c.requires.follows) c.post.ensures.kept)

pub returns-in_default : goal.returns-in_default
returns-in_default g c =
    as_told c.args.command.now _ _ c.still-in_default.ensures.region c.still-in_default.ensures.answer
    (refused_inside c.args.command.now c.args.region c.requires.stand c.requires.follows (search rules))
