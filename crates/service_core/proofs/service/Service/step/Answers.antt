use Rattle.std.proofs.Common.{◌≡◌, ◌∙◌, List, ℕ, Some, true, sym, ap, subst, rules}
use Rattle.indexmap.specs.IndexMap.{set_value_at}
use Rattle.indexmap.proofs.CallerLemmas.{updates-with_value_at}
use Rattle.room_spec.specs.Names.{is_name}
use Rattle.room_spec.specs.Rooms.{RoomSpec}
use Rattle.service_core.specs.declared.command.Command.TheVariants as commands
use Rattle.service_core.specs.Replies.{reply_to_steps}
use Rattle.service_core.specs.Rooms.{Applies, Entries, room_at}
use Rattle.service_core.proofs.Lookups.{Changes, entry_there, names_equal, own_names, some_spec}
use Rattle.service_core.proofs.Applying.{steps_room}
use Rattle.service_core.proofs.service.Service.step.Goals as goal

-- the rooms after the call: the one that was asked is changed
changes : (c : goal.After-self-1) → Changes c.self.inside.rooms.entries (set_value_at c.self.inside.rooms.entries c.in-Some.index c.step.new.room) c.args.name.now (Some c.step.new.room)
changes c =
    let there = entry_there c.self.inside.rooms.entries c.args.name.now c.in-Some.index c.index_mut-core.result.now (sym c.in-Some.ensures.index) c.index_mut-core.ensures.value in
    (updates-with_value_at c.self.inside.rooms c.in-Some.index c.step.new.room names_equal c.get_index_of.ensures.unique c.args.name.now c.index_mut-core.result.now there).0

-- the one that was asked
was_there : (c : goal.After-self-1) → room_at c.self.inside.rooms.entries c.args.name.now ≡ Some c.index_mut-core.result.now
was_there c = sym c.in-Some.ensures.value ∙ c.index_mut-core.ensures.value

pub invariant_of-self : goal.invariant_of-self
invariant_of-self c =
    let entries = c.self.inside.rooms.entries in
    let own = ap (λ (spec : RoomSpec). spec.name) c.step.ensures.spec ∙ c.self.invariant c.args.name.now c.index_mut-core.result.now (was_there c) in
    own_names entries (set_value_at entries c.in-Some.index c.step.new.room) c.args.name.now (Some c.step.new.room) (changes c) c.self.invariant
    (λ one is. some_spec c.args.name.now c.step.new.room one own is)

pub returns-clause-reply : goal.returns-clause-reply
returns-clause-reply c =
    let entries = c.self.inside.rooms.entries in
    subst (λ (before : Entries). Applies before (commands.Step c.args.name.now c.args.sim c.args.count) (reply_to_steps c.step.result) (set_value_at entries c.in-Some.index c.step.new.room)) c.self.view_is
    (steps_room c.args.name.now c.args.sim c.args.count (reply_to_steps c.step.result) entries (set_value_at entries c.in-Some.index c.step.new.room) c.index_mut-core.result.now c.step.new.room (was_there c) (changes c)
    c.step.ensures.reply c.step.ensures.granted c.step.ensures.no_report c.step.ensures.refused c.step.ensures.left c.step.ensures.taken)

pub returns-clause-name : goal.returns-clause-name
returns-clause-name c = λ other.
    subst (λ (name : List ℕ). is_name name ≡ true) (c.self.invariant c.args.name.now c.index_mut-core.result.now (was_there c)) (search rules)
