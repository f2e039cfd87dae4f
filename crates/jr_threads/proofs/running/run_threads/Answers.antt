use Rattle.std.proofs.Common.{◌≡◌, rules, subst, sym, length}
use denote.Param.Send.{sendable}
use Rattle.jr_threads.specs.declared.native.Place.{Place}
use Rattle.jr_threads.specs.Sites.{PlaceRan, IsWaiting}
use Rattle.jr_threads.proofs.Places.{all_ended}
use Rattle.jr_threads.proofs.running.run_threads.Goals as goal

pub for_each_mut-requires-clause-accepts : goal.for_each_mut-requires-clause-accepts
for_each_mut-requires-clause-accepts g c κs lives i p below is = (
  (subst (IsWaiting c.args.room.now.row) (sym is) (c.requires.wait i p.now below), c.requires.site),
  search sendable,
)

pub returns : goal.returns
returns g c =
    let long : length c.for_each_mut.new.s ≡ length c.args.places.now = search rules in
    all_ended g.N.NativeCode.tells (g.N.NativeCode.deed c.args.native.now) c.args.room.now.row c.args.places.now
    c.for_each_mut.new.s long
    (λ i d l. let j = (c.for_each_mut.ensures i d l).1 in
    subst (λ (z : Place g.row.N-Answer.Denot × Place g.row.N-Answer.Denot). PlaceRan g.N.NativeCode.tells
    (g.N.NativeCode.deed c.args.native.now) c.args.room.now.row z.0 z.1) (λ k. (j.argument_is k, j.left k)) j.call)
