use Rattle.std.proofs.Common.{◌≡◌, ◌∙◌, Some, sym, ap, subst}
use Rattle.indexmap.specs.IndexMap.{set_value_at}
use Rattle.indexmap.proofs.CallerLemmas.{updates-with_value_at}
use Rattle.room_spec.specs.Rooms.{RoomSpec}
use Rattle.service_core.specs.Rooms.{Applies, Entries, command_for, room_at}
use Rattle.service_core.proofs.Lookups.{Changes, entry_there, names_equal, own_names, some_spec}
use Rattle.service_core.proofs.Applying.{asks_room}
use Rattle.service_core.proofs.service.Service.ask.Given.{Over}
use Rattle.service_core.proofs.service.Service.ask.Goals as goal

-- the rooms after the call: the one that was asked is changed
changes : (g : Over) (c : goal.After-self-1 g) → Changes c.self.inside.rooms.entries (set_value_at c.self.inside.rooms.entries c.in-Some.index c.answer.new.room) c.args.name.now (Some c.answer.new.room)
changes g c =
    let there = entry_there c.self.inside.rooms.entries c.args.name.now c.in-Some.index c.index_mut.result.now (sym c.in-Some.ensures.index) c.index_mut.ensures.value in
    (updates-with_value_at c.self.inside.rooms c.in-Some.index c.answer.new.room names_equal c.get_index_of.ensures.unique c.args.name.now c.index_mut.result.now there).0

-- the one that was asked
was_there : (g : Over) (c : goal.After-self-1 g) → room_at c.self.inside.rooms.entries c.args.name.now ≡ Some c.index_mut.result.now
was_there g c = sym c.in-Some.ensures.value ∙ c.index_mut.ensures.value

pub invariant_of-self : goal.invariant_of-self
invariant_of-self g c =
    let entries = c.self.inside.rooms.entries in
    let own = ap (λ (spec : RoomSpec). spec.name) c.answer.ensures.spec ∙ c.self.invariant c.args.name.now c.index_mut.result.now (was_there g c) in
    own_names entries (set_value_at entries c.in-Some.index c.answer.new.room) c.args.name.now (Some c.answer.new.room) (changes g c) c.self.invariant
    (λ one is. some_spec c.args.name.now c.answer.new.room one own is)

pub returns-clause-applies : goal.returns-clause-applies
returns-clause-applies g c =
    let entries = c.self.inside.rooms.entries in
    subst (λ (before : Entries). Applies before (command_for c.args.name.now c.args.what) c.answer.result (set_value_at entries c.in-Some.index c.answer.new.room)) c.self.view_is
    (asks_room c.args.name.now c.args.what c.answer.result entries (set_value_at entries c.in-Some.index c.answer.new.room) c.index_mut.result.now c.answer.new.room (was_there g c) (changes g c)
    c.answer.ensures.reply c.answer.ensures.granted c.answer.ensures.no_report c.answer.ensures.refused c.answer.ensures.left c.answer.ensures.taken)
