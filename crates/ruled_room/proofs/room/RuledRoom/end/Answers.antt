use Rattle.std.proofs.Common.{◌≡◌, ◌<◌, ℕ, Bool, List, Some, map, take, length, sym, ap, ◌∙◌, subst, arith}
use Rattle.std.specs.Mem.Slots.{slots_items}
use Rattle.std.proofs.lemmas.List.{length-map}
use Rattle.atomic_table.specs.Table.{Final, Seen}
use Rattle.room_spec.specs.Rooms.{RoomSpec, IsWithinLimits}
use Rattle.simulator.specs.Minds.{MindState}
use Rattle.simulator.specs.Sweeps.{SweepState}
use Rattle.room_core.specs.Rooms.{Configuration}
use Rattle.room_core.specs.Calls.{RoomState, configuration_of}
use Rattle.room_core.proofs.CallerLemmas.{is_room}
use Rattle.ruled_room.specs.declared.rule.Operation.{Operation}
use Rattle.ruled_room.specs.declared.rule.View.{View}
use Rattle.ruled_room.specs.Rule.{Kept, word_count}
use Rattle.ruled_room.specs.Runs.{IsInterleavingOf}
use Rattle.ruled_room.specs.Views.{done_by, mind_of, minds_in, operations_of_all}
use Rattle.ruled_room.proofs.Running.{have_minds, whole_done}
use Rattle.ruled_room.specs.Parts.{RoomName, KeeperData, minds_of}
use Rattle.ruled_room.proofs.Ends.{ends}
use Rattle.ruled_room.proofs.Homes.{quiet_at_home, whole_homes}
use Rattle.ruled_room.proofs.room.RuledRoom.end.Goals as goal

-- what closing the table has shown
closed_run : (spec : RoomSpec) → IsWithinLimits spec → (id : ℕ) (v : View) (ws : List ℕ) (xs : List Unit) (sweeps : List SweepState) (crashed : List Bool) (words : List ℕ)
    → Final (Seen (Kept spec) id v) ws xs → minds_in v ≡ minds_of (map Some sweeps) → length sweeps ≡ spec.simulators → length crashed ≡ spec.simulators → words ≡ take (word_count spec) ws
    → IsInterleavingOf (record { spec = spec; words = words; minds = map (λ (s : SweepState). s.mind) sweeps; crashed = crashed }) (map done_by v.held)
closed_run spec limits id v ws xs sweeps crashed words final home long marks read =
    let minds : List MindState = map (λ (s : SweepState). s.mind) sweeps in
    let all = have_minds v.held minds (home ∙ whole_homes sweeps) in
    let any : 0 < spec.simulators = let h = limits.shape.m_range in omega arith in
    let count : length all.simulators ≡ spec.simulators = sym (length-map all.simulators mind_of) ∙ ap length all.own ∙ length-map sweeps (λ (s : SweepState). s.mind) ∙ long in
    let run = ends spec limits id v ws xs all.simulators crashed final all.there count any marks in
    let done : operations_of_all all.simulators ≡ map done_by v.held = sym (whole_done all.simulators) ∙ ap (map done_by) (sym all.there) in
    subst (λ (q : Configuration × List (List Operation)). IsInterleavingOf q.0 q.1) (λ p. (record { spec = spec; words = sym read p; minds = all.own p; crashed = crashed }, done p)) run

pub from_parts-requires-clause-room : goal.from_parts-requires-clause-room
from_parts-requires-clause-room c =
    let f = c.close_with-closed.ensures.values in
    let k = c.keeper.invariant in
    let spec = c.self.inside.spec in
    let words = slots_items c.close_with-closed.result.words in
    let slots = slots_items c.close_with-closed.result.slots in
    let seat = c.keeper.inside.seat in
    let sweeps = c.all.result.items in
    let same : seat.me.0.spec ≡ spec = ap (λ (q : KeeperData). q.room.spec) c.keeper.view_is ∙ ap (λ (q : RoomName). q.spec) c.requires.room ∙ ap (λ (q : RoomName). q.spec) (sym c.self.view_is) in
    let count = ap (λ (s : RoomSpec). s.simulators) same in
    let named : c.args.self.spec ≡ spec = ap (λ (q : RoomName). q.spec) (sym c.self.view_is) in
    let limits : IsWithinLimits spec = subst IsWithinLimits named c.requires.limits in
    let final : Final (Seen (Kept spec) seat.id seat.me.0) words slots = subst (λ (s : RoomSpec). Final (Seen (Kept s) seat.id seat.me.0) words slots) c.self.invariant.0 f.2 in
    let long : length sweeps ≡ spec.simulators = sym (length-map sweeps (λ x. Some x)) ∙ ap length c.all.ensures ∙ k.2 ∙ count in
    let read : c.read.new.words.items ≡ take (word_count spec) words = c.read.ensures ∙ ap (λ (n : ℕ). take n words) (c.requires.words ∙ ap word_count named) in
    is_room _ limits (closed_run spec limits seat.id seat.me.0 words slots sweeps c.keeper.inside.crashed.items c.read.new.words.items final (k.0 ∙ ap minds_of (sym c.all.ensures)) long (k.3 ∙ count) read).one

pub from_parts-requires-clause-quiet : goal.from_parts-requires-clause-quiet
from_parts-requires-clause-quiet c =
    let k = c.keeper.invariant in
    let sweeps = c.all.result.items in
    let seat = c.keeper.inside.seat in
    let spec = c.self.inside.spec in
    let same : seat.me.0.spec ≡ spec = ap (λ (q : KeeperData). q.room.spec) c.keeper.view_is ∙ ap (λ (q : RoomName). q.spec) c.requires.room ∙ ap (λ (q : RoomName). q.spec) (sym c.self.view_is) in
    let long : length sweeps ≡ spec.simulators = sym (length-map sweeps (λ x. Some x)) ∙ ap length c.all.ensures ∙ k.2 ∙ ap (λ (s : RoomSpec). s.simulators) same in
    λ i below. quiet_at_home seat.me.0.spec sweeps c.keeper.inside.sweeps.items c.all.ensures k.4 i (omega arith) _

pub returns : goal.returns
returns c =
    let f = c.close_with-closed.ensures.values in
    let k = c.keeper.invariant in
    let spec = c.self.inside.spec in
    let words = slots_items c.close_with-closed.result.words in
    let slots = slots_items c.close_with-closed.result.slots in
    let seat = c.keeper.inside.seat in
    let sweeps = c.all.result.items in
    let made = c.from_parts.ensures in
    let same : seat.me.0.spec ≡ spec = ap (λ (q : KeeperData). q.room.spec) c.keeper.view_is ∙ ap (λ (q : RoomName). q.spec) c.requires.room ∙ ap (λ (q : RoomName). q.spec) (sym c.self.view_is) in
    let count = ap (λ (s : RoomSpec). s.simulators) same in
    let named : c.args.self.spec ≡ spec = ap (λ (q : RoomName). q.spec) (sym c.self.view_is) in
    let limits : IsWithinLimits spec = subst IsWithinLimits named c.requires.limits in
    let final : Final (Seen (Kept spec) seat.id seat.me.0) words slots = subst (λ (s : RoomSpec). Final (Seen (Kept s) seat.id seat.me.0) words slots) c.self.invariant.0 f.2 in
    let long : length sweeps ≡ spec.simulators = sym (length-map sweeps (λ x. Some x)) ∙ ap length c.all.ensures ∙ k.2 ∙ count in
    let read : c.read.new.words.items ≡ take (word_count spec) words = c.read.ensures ∙ ap (λ (n : ℕ). take n words) (c.requires.words ∙ ap word_count named) in
    let run = closed_run spec limits seat.id seat.me.0 words slots sweeps c.keeper.inside.crashed.items c.read.new.words.items final (k.0 ∙ ap minds_of (sym c.all.ensures)) long (k.3 ∙ count) read in (
      ap (λ (r : RoomState). r.spec) made ∙ sym named,
      ap (λ (r : RoomState). map Some r.sweeps) made ∙ c.all.ensures ∙ ap (λ (q : KeeperData). q.sweeps) c.keeper.view_is,
      ap (λ (r : RoomState). r.crashed) made ∙ ap (λ (q : KeeperData). q.crashed) c.keeper.view_is,
      subst (λ (q : Configuration × List (List Operation)). IsInterleavingOf q.0 q.1) (λ p. (configuration_of (sym made p), (ap (λ (q : KeeperData). q.operations) c.keeper.view_is) p)) run,
    )

pub all-requires-clause-whole : goal.all-requires-clause-whole
all-requires-clause-whole c =
    let k = c.keeper.invariant in
    let count : c.keeper.inside.seat.me.0.spec.simulators ≡ c.args.self.spec.simulators = ap (λ (q : KeeperData). q.room.spec.simulators) c.keeper.view_is ∙ ap (λ (q : RoomName). q.spec.simulators) c.requires.room in
    (c.requires.whole.0, let long = k.2 in let room = c.requires.whole.1 in omega arith)
