use Rattle.std.proofs.Common.{◌≡◌, ◌++◌, ◌∷◌, [], ℕ, List, map, ap, sym, subst}
use Rattle.std.specs.Vec.Iter.{into_iter_items}
use Rattle.room_spec.specs.Rooms.{RoomSpec}
use Rattle.ruled_room.specs.Parts.{KeeperData, RoomName}
use Rattle.scheduler.specs.Tasks.{AreKept, away}
use Rattle.scheduler.proofs.Ending.{adds_none, adds_one, first_room, specs_more}
use Rattle.scheduler.proofs.rooms.finish_all.Goals as goal

abbrev spec_of : RoomName → RoomSpec
spec_of room = room.spec

pub finish-requires-clause-room : goal.finish-requires-clause-room
finish-requires-clause-room g c =
    (first_room (into_iter_items c.loop-room.rooms) (into_iter_items c.next.new.self) c.in-Some.room (into_iter_items c.loop-room.keepers) (into_iter_items c.next-in-Some.new.self) c.in-Some-next.keeper c.in-Some.ensures.items c.in-Some-next.ensures.items c.loop-room.invariant.kept c.loop-room.invariant.home).own

pub finish-requires-clause-kept : goal.finish-requires-clause-kept
finish-requires-clause-kept g c =
    (first_room (into_iter_items c.loop-room.rooms) (into_iter_items c.next.new.self) c.in-Some.room (into_iter_items c.loop-room.keepers) (into_iter_items c.next-in-Some.new.self) c.in-Some-next.keeper c.in-Some.ensures.items c.in-Some-next.ensures.items c.loop-room.invariant.kept c.loop-room.invariant.home).kept

pub finish-requires-clause-home : goal.finish-requires-clause-home
finish-requires-clause-home g c =
    (first_room (into_iter_items c.loop-room.rooms) (into_iter_items c.next.new.self) c.in-Some.room (into_iter_items c.loop-room.keepers) (into_iter_items c.next-in-Some.new.self) c.in-Some-next.keeper c.in-Some.ensures.items c.in-Some-next.ensures.items c.loop-room.invariant.kept c.loop-room.invariant.home).home

pub loop-room-preserved : goal.loop-room-preserved
loop-room-preserved g c =
    let has = g.A.Gathers.has_gathered in
    let one = first_room (into_iter_items c.loop-room.rooms) (into_iter_items c.next.new.self) c.in-Some.room (into_iter_items c.loop-room.keepers) (into_iter_items c.next-in-Some.new.self) c.in-Some-next.keeper c.in-Some.ensures.items c.in-Some-next.ensures.items c.loop-room.invariant.kept c.loop-room.invariant.home in
    let runs = c.loop-room.invariant.runs in
    record {
      kept = one.others;
      home = one.others_home;
      runs = (
        runs.0 ++ spec_of c.in-Some.room ∷ [],
        specs_more spec_of (map spec_of c.args.stopped.rooms.items) runs.0 (into_iter_items c.loop-room.rooms) (into_iter_items c.next.new.self) c.in-Some.room c.in-Some.ensures.items runs.1,
        adds_one runs.0 (spec_of c.in-Some.room) c.in_ok-finish.field-0 (has c.args.gathered) (has c.loop-room.all) (has c.add.new.self) c.in_ok-finish.ensures c.in_ok-add.ensures runs.2,
      );
    }

pub loop-room-init : goal.loop-room-init
loop-room-init g c = record {
  kept = subst (λ (l : List KeeperData). AreKept (into_iter_items c.into_iter-rooms.result) l) (sym c.into_iter-keepers.ensures.rest) (subst (λ (l : List RoomName). AreKept l c.args.stopped.keepers.items) (sym c.into_iter-rooms.ensures.rest) c.requires.kept);
  home = subst (λ (l : List KeeperData). (k i : ℕ) → away l k i ≡ 0) (sym c.into_iter-keepers.ensures.rest) c.requires.home;
  runs = ([], ap (map spec_of) (sym c.into_iter-rooms.ensures.rest), adds_none (g.A.Gathers.has_gathered c.args.gathered));
}
