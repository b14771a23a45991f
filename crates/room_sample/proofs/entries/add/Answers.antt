use Rattle.std.proofs.Common.{◌∙◌, sym, ap}
use Rattle.std.specs.Prelude.{is_some}
use Rattle.std.specs.Map.{lookup}
use Rattle.room_sample.specs.Samples.{outcomes_in}
use Rattle.room_sample.proofs.Counting.{again_there, is_key, new_there, none_found}
use Rattle.room_sample.proofs.entries.add.Goals as goal

pub returns-in_default-clause-added : goal.returns-in_default-clause-added
returns-in_default-clause-added c =
    let none = none_found (lookup (is_key c.args.states) c.args.entries.now.entries) (sym c.get_index_of.ensures.found ∙ ap is_some c.in_default.is) in
    ap outcomes_in c.in_ok-insert.ensures.entries ∙ new_there c.args.states c.args.outcome c.args.entries.now.entries none

pub returns-clause-added : goal.returns-clause-added
returns-clause-added c =
    c.come_again.ensures.more ∙ again_there c.args.states c.args.outcome c.args.entries.now.entries c.in-Some.index (sym c.get_index_of.ensures.index ∙ c.in-Some.is)
