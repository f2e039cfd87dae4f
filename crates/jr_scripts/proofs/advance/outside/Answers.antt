use Rattle.std.proofs.Common.{refl}
use Rattle.jr_scripts.proofs.Within.{as_told, outside}
use Rattle.jr_scripts.proofs.advance.outside.Goals as goal

pub returns-in-OpenLevel-clause-did : goal.returns-in-OpenLevel-clause-did
returns-in-OpenLevel-clause-did g c =
    outside c.args.command.now _ c.in-OpenLevel.is refl c.requires.follows c.open_region.ensures.does
    c.open_region.ensures.stand c.open_region.ensures.levels c.open_region.ensures.objects refl

pub returns-clause-did : goal.returns-clause-did
returns-clause-did g c =
    as_told c.args.command.now _ _ c.in_none.ensures.region c.in_none.ensures.answer c.perform.ensures.did
