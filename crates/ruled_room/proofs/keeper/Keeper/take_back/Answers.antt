use Rattle.std.proofs.Common.{◌≡◌, rules, List, Option, Some, None, Bool, true, map, length, get_or, sym, ap, ◌∙◌, subst}
use Rattle.std.specs.Prelude.{slice_set}
use Rattle.std.specs.List.{refill}
use Rattle.std.specs.Option.{option_map}
use Rattle.std.proofs.lemmas.List.{length-set, map-set}
use Rattle.atomic_table.specs.Table.{Me}
use Rattle.room_spec.specs.Rooms.{RoomSpec}
use Rattle.simulator.specs.Minds.{MindState}
use Rattle.simulator.specs.Sweeps.{SweepState}
use Rattle.room_core.proofs.CallerLemmas.{refill-set}
use Rattle.ruled_room.specs.declared.stop.Stop.{Stop}
use Rattle.ruled_room.specs.declared.rule.Progress.{Progress}
use Rattle.ruled_room.specs.declared.rule.View.{View}
use Rattle.ruled_room.specs.Parts.{AreSweeps, IsSweepOf, RoomName, KeeperData, SimulatorData, marked, minds_of}
use Rattle.ruled_room.specs.Views.{done_by, mind_of, minds_in, progress_in}
use Rattle.ruled_room.proofs.Moving.{only-here}
use Rattle.ruled_room.proofs.Homes.{minds-set, are_sweeps_with}
use Rattle.ruled_room.proofs.keeper.Keeper.take_back.Goals as goal

pub mend-requires-clause-other : goal.mend-requires-clause-other
mend-requires-clause-other c = (_, c.simulator.invariant.0, c.simulator.invariant.1)

pub invariant_of-self-in_default : goal.invariant_of-self-in_default
invariant_of-self-in_default c =
    let i = c.self.invariant in
    let j = c.simulator.invariant in
    let n = c.simulator.inside.number in
    let sweep = c.simulator.inside.sweep in
    let items = c.self.inside.sweeps.items in
    let spec-is : c.mend.new.seat.me.0.spec ≡ c.self.inside.seat.me.0.spec = ap (λ (m : Me (Unit {0}) View). m.0.spec) c.mend.ensures.2 in
    let count = ap (λ (q : RoomSpec). q.simulators) (sym spec-is) in
    let room : c.simulator.inside.seat.me.0.spec ≡ c.self.inside.seat.me.0.spec =
    ap (λ (s : SimulatorData). s.room.spec) c.simulator.view_is ∙ ap (λ (r : RoomName). r.spec) c.requires.simulator ∙ ap (λ (r : RoomName). r.spec) (sym c.requires.keeper) ∙ ap (λ (k : KeeperData). k.room.spec) (sym c.self.view_is) in
    let sweeps-are : refill (length items) items (slice_set c.deref_mut.result.now n (Some sweep)) ≡ slice_set items n (Some sweep) =
    ap (λ (l : List (Option SweepState)). refill (length items) items (slice_set l n (Some sweep))) c.deref_mut.ensures.value ∙ refill-set items n (Some sweep) in
    let held = c.self.inside.seat.me.0.held in
    let other = progress_in c.simulator.inside.seat.me.0 n in
    let back : option_map mind_of other ≡ Some sweep.mind = ap (λ (l : List (Option Progress)). option_map mind_of (get_or l n None)) j.0 ∙ ap (option_map mind_of) (only-here n _) in
    let minds : minds_in c.mend.new.seat.me.0 ≡ minds_of (refill (length items) items (slice_set c.deref_mut.result.now n (Some sweep))) =
    ap (λ (m : Me (Unit {0}) View). minds_in m.0) c.mend.ensures.2 ∙ map-set (option_map mind_of) held n other ∙ ap (λ (l : List (Option MindState)). slice_set l n (option_map mind_of other)) i.0
    ∙ ap (λ (o : Option MindState). slice_set (minds_of items) n o) back
    ∙ sym (minds-set items n (Some sweep)) ∙ ap minds_of (sym sweeps-are) in
    let marks = c.self.inside.crashed.items in (
      minds,
      ap (λ (m : Me (Unit {0}) View). m.1) c.mend.ensures.2 ∙ i.1,
      ap length sweeps-are ∙ length-set items n (Some sweep) ∙ i.2 ∙ count,
      i.3 ∙ count,
      subst (λ (q : RoomSpec × List (Option SweepState)). AreSweeps q.0 q.1) (λ k. (sym spec-is k, sym sweeps-are k)) (are_sweeps_with c.self.inside.seat.me.0.spec items n sweep (subst (λ (q : RoomSpec). IsSweepOf q n sweep) room j.2) i.4),
    )

pub invariant_of-self : goal.invariant_of-self
invariant_of-self c =
    let i = c.self.invariant in
    let j = c.simulator.invariant in
    let n = c.simulator.inside.number in
    let sweep = c.simulator.inside.sweep in
    let items = c.self.inside.sweeps.items in
    let spec-is : c.mend.new.seat.me.0.spec ≡ c.self.inside.seat.me.0.spec = ap (λ (m : Me (Unit {0}) View). m.0.spec) c.mend.ensures.2 in
    let count = ap (λ (q : RoomSpec). q.simulators) (sym spec-is) in
    let room : c.simulator.inside.seat.me.0.spec ≡ c.self.inside.seat.me.0.spec =
    ap (λ (s : SimulatorData). s.room.spec) c.simulator.view_is ∙ ap (λ (r : RoomName). r.spec) c.requires.simulator ∙ ap (λ (r : RoomName). r.spec) (sym c.requires.keeper) ∙ ap (λ (k : KeeperData). k.room.spec) (sym c.self.view_is) in
    let sweeps-are : refill (length items) items (slice_set c.deref_mut.result.now n (Some sweep)) ≡ slice_set items n (Some sweep) =
    ap (λ (l : List (Option SweepState)). refill (length items) items (slice_set l n (Some sweep))) c.deref_mut.ensures.value ∙ refill-set items n (Some sweep) in
    let held = c.self.inside.seat.me.0.held in
    let other = progress_in c.simulator.inside.seat.me.0 n in
    let back : option_map mind_of other ≡ Some sweep.mind = ap (λ (l : List (Option Progress)). option_map mind_of (get_or l n None)) j.0 ∙ ap (option_map mind_of) (only-here n _) in
    let minds : minds_in c.mend.new.seat.me.0 ≡ minds_of (refill (length items) items (slice_set c.deref_mut.result.now n (Some sweep))) =
    ap (λ (m : Me (Unit {0}) View). minds_in m.0) c.mend.ensures.2 ∙ map-set (option_map mind_of) held n other ∙ ap (λ (l : List (Option MindState)). slice_set l n (option_map mind_of other)) i.0
    ∙ ap (λ (o : Option MindState). slice_set (minds_of items) n o) back
    ∙ sym (minds-set items n (Some sweep)) ∙ ap minds_of (sym sweeps-are) in
    let marks = c.self.inside.crashed.items in (
      minds,
      ap (λ (m : Me (Unit {0}) View). m.1) c.mend.ensures.2 ∙ i.1,
      ap length sweeps-are ∙ length-set items n (Some sweep) ∙ i.2 ∙ count,
      ap (λ (l : List Bool). length (refill (length marks) marks (slice_set l n true))) c.deref_mut-in-Crashed.ensures.value ∙ ap length (refill-set marks n true) ∙ length-set marks n true ∙ i.3 ∙ count,
      subst (λ (q : RoomSpec × List (Option SweepState)). AreSweeps q.0 q.1) (λ k. (sym spec-is k, sym sweeps-are k)) (are_sweeps_with c.self.inside.seat.me.0.spec items n sweep (subst (λ (q : RoomSpec). IsSweepOf q n sweep) room j.2) i.4),
    )

pub returns-in-Crashed : goal.returns-in-Crashed
returns-in-Crashed c =
    let n = c.simulator.inside.number in
    let sweep = c.simulator.inside.sweep in
    let items = c.self.inside.sweeps.items in
    let marks = c.self.inside.crashed.items in
    let now = c.args.self.now in
    let other = progress_in c.simulator.inside.seat.me.0 n in
    let spec-is : c.mend.new.seat.me.0.spec ≡ c.self.inside.seat.me.0.spec = ap (λ (m : Me (Unit {0}) View). m.0.spec) c.mend.ensures.2 in
    let room-is : record { table = c.mend.new.seat.table_id; spec = c.mend.new.seat.me.0.spec } ≡ now.room = (λ p. record { table = c.mend.ensures.0 p; spec = spec-is p }) ∙ ap (λ (k : KeeperData). k.room) c.self.view_is in
    let sweeps-are : refill (length items) items (slice_set c.deref_mut.result.now n (Some sweep)) ≡ slice_set now.sweeps c.args.simulator.number (Some c.args.simulator.sweep) =
    ap (λ (l : List (Option SweepState)). refill (length items) items (slice_set l n (Some sweep))) c.deref_mut.ensures.value ∙ refill-set items n (Some sweep)
    ∙ ap (λ (k : KeeperData). slice_set k.sweeps n (Some sweep)) c.self.view_is ∙ ap (λ (s : SimulatorData). slice_set now.sweeps s.number (Some s.sweep)) c.simulator.view_is in
    let done : map done_by c.mend.new.seat.me.0.held ≡ slice_set now.operations c.args.simulator.number c.args.simulator.operations =
    ap (λ (m : Me (Unit {0}) View). map done_by m.0.held) c.mend.ensures.2 ∙ map-set done_by c.self.inside.seat.me.0.held n other
    ∙ ap (λ (k : KeeperData). slice_set k.operations n (done_by other)) c.self.view_is ∙ ap (λ (s : SimulatorData). slice_set now.operations s.number s.operations) c.simulator.view_is in
    let marks-are : refill (length marks) marks (slice_set c.deref_mut-in-Crashed.result.now n true) ≡ marked c.args.stop c.args.simulator.number now.crashed =
    ap (λ (l : List Bool). refill (length marks) marks (slice_set l n true)) c.deref_mut-in-Crashed.ensures.value ∙ refill-set marks n true
    ∙ ap (λ (k : KeeperData). slice_set k.crashed n true) c.self.view_is ∙ ap (λ (s : SimulatorData). slice_set now.crashed s.number true) c.simulator.view_is
    ∙ ap (λ (stop : Stop). marked stop c.args.simulator.number now.crashed) (sym c.in-Crashed.is) in
    λ p. record { room = room-is p; sweeps = sweeps-are p; operations = done p; crashed = marks-are p }

pub returns-in_default : goal.returns-in_default
returns-in_default c =
    let n = c.simulator.inside.number in
    let sweep = c.simulator.inside.sweep in
    let items = c.self.inside.sweeps.items in
    let marks = c.self.inside.crashed.items in
    let now = c.args.self.now in
    let other = progress_in c.simulator.inside.seat.me.0 n in
    let spec-is : c.mend.new.seat.me.0.spec ≡ c.self.inside.seat.me.0.spec = ap (λ (m : Me (Unit {0}) View). m.0.spec) c.mend.ensures.2 in
    let room-is : record { table = c.mend.new.seat.table_id; spec = c.mend.new.seat.me.0.spec } ≡ now.room = (λ p. record { table = c.mend.ensures.0 p; spec = spec-is p }) ∙ ap (λ (k : KeeperData). k.room) c.self.view_is in
    let sweeps-are : refill (length items) items (slice_set c.deref_mut.result.now n (Some sweep)) ≡ slice_set now.sweeps c.args.simulator.number (Some c.args.simulator.sweep) =
    ap (λ (l : List (Option SweepState)). refill (length items) items (slice_set l n (Some sweep))) c.deref_mut.ensures.value ∙ refill-set items n (Some sweep)
    ∙ ap (λ (k : KeeperData). slice_set k.sweeps n (Some sweep)) c.self.view_is ∙ ap (λ (s : SimulatorData). slice_set now.sweeps s.number (Some s.sweep)) c.simulator.view_is in
    let done : map done_by c.mend.new.seat.me.0.held ≡ slice_set now.operations c.args.simulator.number c.args.simulator.operations =
    ap (λ (m : Me (Unit {0}) View). map done_by m.0.held) c.mend.ensures.2 ∙ map-set done_by c.self.inside.seat.me.0.held n other
    ∙ ap (λ (k : KeeperData). slice_set k.operations n (done_by other)) c.self.view_is ∙ ap (λ (s : SimulatorData). slice_set now.operations s.number s.operations) c.simulator.view_is in
    let marks-are : marks ≡ marked c.args.stop c.args.simulator.number now.crashed = search rules in
    λ p. record { room = room-is p; sweeps = sweeps-are p; operations = done p; crashed = marks-are p }
