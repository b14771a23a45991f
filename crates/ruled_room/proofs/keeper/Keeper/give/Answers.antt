use Rattle.std.proofs.Common.{◌≡◌, ◌<◌, List, Option, Some, None, [], ◌∷◌, map, length, get_or, refl, sym, ap, ◌∙◌, subst}
use Rattle.std.specs.Prelude.{IsSome, slice_set}
use Rattle.std.specs.List.{refill}
use Rattle.std.specs.Option.{option_map}
use Rattle.std.proofs.lemmas.List.{length-set, map-set}
use Rattle.atomic_table.specs.Table.{Me}
use Rattle.room_spec.specs.Rooms.{RoomSpec}
use Rattle.simulator.specs.Minds.{MindState}
use Rattle.simulator.specs.Sweeps.{SweepState}
use Rattle.room_core.proofs.CallerLemmas.{refill-set}
use Rattle.ruled_room.specs.declared.rule.Progress.{Progress}
use Rattle.ruled_room.specs.declared.rule.View.{View}
use Rattle.ruled_room.specs.Parts.{AreSweeps, IsSweepOf, KeeperData, RoomName, minds_of, operations_home, sweep_home}
use Rattle.ruled_room.specs.Views.{alone, done_by, given, mind_of, minds_in, progress_in}
use Rattle.ruled_room.proofs.Running.{alone_so, done_at, done_given, given_spec, has_mind, mind_held}
use Rattle.ruled_room.proofs.Homes.{minds-set, mind_home, are_sweeps_without, held_home, read_home, home_below}
use Rattle.ruled_room.proofs.keeper.Keeper.give.Goals as goal

pub invariant_of-self : goal.invariant_of-self
invariant_of-self c =
    let i = c.self.invariant in
    let s = c.cut-seat.ensures.seat in
    let items = c.self.inside.sweeps.items in
    let n = c.args.i in
    let spec-is : c.cut-seat.new.seat.me.0.spec ≡ c.self.inside.seat.me.0.spec = ap (λ (m : Me (Unit {0}) View). m.0.spec) s.2 in
    let count = ap (λ (q : RoomSpec). q.simulators) (sym spec-is) in
    let sweeps-are : refill (length items) items (slice_set c.deref_mut.result.now n c.take.new.self) ≡ slice_set items n None =
    ap (λ (l : List (Option SweepState)). refill (length items) items (slice_set l n c.take.new.self)) c.deref_mut.ensures.value ∙ refill-set items n c.take.new.self ∙ ap (λ (o : Option SweepState). slice_set items n o) c.take.ensures.after in
    let held = c.self.inside.seat.me.0.held in
    let minds : minds_in c.cut-seat.new.seat.me.0 ≡ minds_of (refill (length items) items (slice_set c.deref_mut.result.now n c.take.new.self)) =
    ap (λ (m : Me (Unit {0}) View). minds_in m.0) s.2 ∙ map-set (option_map mind_of) held n None ∙ ap (λ (l : List (Option MindState)). slice_set l n None) i.0 ∙ sym (minds-set items n None) ∙ ap minds_of (sym sweeps-are) in (
      minds,
      ap (λ (m : Me (Unit {0}) View). m.1) s.2 ∙ i.1,
      ap length sweeps-are ∙ length-set items n None ∙ i.2 ∙ count,
      i.3 ∙ count,
      subst (λ (q : RoomSpec × List (Option SweepState)). AreSweeps q.0 q.1) (λ k. (sym spec-is k, sym sweeps-are k)) (are_sweeps_without c.self.inside.seat.me.0.spec items n i.4),
    )

pub invariant_of-result : goal.invariant_of-result
invariant_of-result c =
    let i = c.self.invariant in
    let s = c.cut-seat.ensures.new in
    let items = c.self.inside.sweeps.items in
    let n = c.args.i in
    let spec = c.self.inside.seat.me.0.spec in
    let sweep = c.in-Some.sweep in
    let below : n < length items = home_below items n (subst (λ (k : KeeperData). IsSome (sweep_home k n)) (sym c.self.view_is) (held_home c.args.self.now n c.requires.holds)) in
    let home : get_or items n None ≡ Some sweep = read_home items c.deref_mut.result.now n c.index-deref_mut-i.result sweep c.deref_mut.ensures.value below c.index-deref_mut-i.is (c.index-deref_mut-i.is ∙ sym c.take.ensures.value ∙ c.in-Some.is) in
    let held = c.self.inside.seat.me.0.held in
    let mind-is : option_map mind_of (progress_in c.self.inside.seat.me.0 n) ≡ Some sweep.mind =
    sym (mind_held held n) ∙ ap (λ (l : List (Option MindState)). get_or l n None) i.0 ∙ mind_home items n ∙ ap (λ (o : Option SweepState). get_or (minds_of (o ∷ [])) 0 None) home in
    let at = has_mind (progress_in c.self.inside.seat.me.0 n) sweep.mind mind-is in
    let view-is : c.cut-seat.result.me.0 ≡ alone spec n at.progress = ap (λ (m : Me (Unit {0}) View). m.0) s.1 ∙ ap (λ (o : Option Progress). given spec n o) at.there in
    let is = i.4 n sweep home in
    (alone_so n c.cut-seat.result.me.0.held at.progress sweep.mind (ap (λ (v : View). v.held) view-is) at.own, ap (λ (m : Me (Unit {0}) View). m.1) s.1, subst (λ (q : RoomSpec). IsSweepOf q n sweep) (ap (λ (v : View). v.spec) (sym view-is)) is)

pub returns-clause-keeper : goal.returns-clause-keeper
returns-clause-keeper c =
    let s = c.cut-seat.ensures.seat in
    let items = c.self.inside.sweeps.items in
    let held = c.self.inside.seat.me.0.held in
    let n = c.args.i in
    let spec-is : c.cut-seat.new.seat.me.0.spec ≡ c.self.inside.seat.me.0.spec = ap (λ (m : Me (Unit {0}) View). m.0.spec) s.2 in
    let sweeps-are : refill (length items) items (slice_set c.deref_mut.result.now n c.take.new.self) ≡ slice_set items n None =
    ap (λ (l : List (Option SweepState)). refill (length items) items (slice_set l n c.take.new.self)) c.deref_mut.ensures.value ∙ refill-set items n c.take.new.self ∙ ap (λ (o : Option SweepState). slice_set items n o) c.take.ensures.after in
    let done : map done_by c.cut-seat.new.seat.me.0.held ≡ slice_set (map done_by held) n [] = ap (λ (m : Me (Unit {0}) View). map done_by m.0.held) s.2 ∙ map-set done_by held n None in
    (λ p. record { room = record { table = s.0 p; spec = spec-is p }; sweeps = sweeps-are p; operations = done p; crashed = c.self.inside.crashed.items })
    ∙ ap (λ (k : KeeperData). record { room = k.room; sweeps = slice_set k.sweeps n None; operations = slice_set k.operations n []; crashed = k.crashed }) c.self.view_is

pub returns-clause-simulator : goal.returns-clause-simulator
returns-clause-simulator c =
    let i = c.self.invariant in
    let s = c.cut-seat.ensures.new in
    let items = c.self.inside.sweeps.items in
    let held = c.self.inside.seat.me.0.held in
    let n = c.args.i in
    let spec = c.self.inside.seat.me.0.spec in
    let sweep = c.in-Some.sweep in
    let below : n < length items = home_below items n (subst (λ (k : KeeperData). IsSome (sweep_home k n)) (sym c.self.view_is) (held_home c.args.self.now n c.requires.holds)) in
    let home : get_or items n None ≡ Some sweep = read_home items c.deref_mut.result.now n c.index-deref_mut-i.result sweep c.deref_mut.ensures.value below c.index-deref_mut-i.is (c.index-deref_mut-i.is ∙ sym c.take.ensures.value ∙ c.in-Some.is) in
    let room : RoomName = record { table = c.self.inside.seat.table_id; spec = spec } in
    let spec-is : c.cut-seat.result.me.0.spec ≡ spec = ap (λ (m : Me (Unit {0}) View). m.0.spec) s.1 ∙ given_spec spec n (progress_in c.self.inside.seat.me.0 n) in
    let room-is : record { table = c.cut-seat.result.table_id; spec = c.cut-seat.result.me.0.spec } ≡ room = λ p. record { table = s.0 p; spec = spec-is p } in
    let done : done_by (progress_in c.cut-seat.result.me.0 n) ≡ operations_home c.args.self.now n =
    ap (λ (m : Me (Unit {0}) View). done_by (progress_in m.0 n)) s.1 ∙ done_given spec n (progress_in c.self.inside.seat.me.0 n) ∙ sym (done_at held n) ∙ ap (λ (k : KeeperData). operations_home k n) c.self.view_is in
    (room-is ∙ ap (λ (k : KeeperData). k.room) c.self.view_is ∙ c.requires.room, refl, sym home ∙ ap (λ (k : KeeperData). sweep_home k n) c.self.view_is, done)
