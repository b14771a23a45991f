use Rattle.std.proofs.Common.{◌∙◌, sym, ap}
use Rattle.history_checker.specs.Verdicts.{has_room}
use Rattle.room_files.proofs.SpecLists.{has_room-lookup}
use Rattle.room_files.proofs.spec_list.SpecList.has.Goals as goal

pub returns : goal.returns
returns c = c.contains_key.ensures ∙ sym (has_room-lookup c.args.name.now c.self.inside.specs.entries c.self.invariant) ∙ ap (has_room c.args.name.now) c.self.view_is
