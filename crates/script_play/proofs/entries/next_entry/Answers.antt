use Rattle.std.proofs.Common.{arith}
use Rattle.std.proofs.lemmas.Grind.{common_steps}
use Rattle.room_files.proofs.CallerLemmas.{few_behind}
use Rattle.script_play.proofs.entries.next_entry.Goals as goal

pub returns-clause-rest : goal.returns-clause-rest
returns-clause-rest c = grind (arith, common_steps)

pub returns-clause-few : goal.returns-clause-few
returns-clause-few c =
    let few = few_behind c.unwrap_or-later.result.now c.block_extent-extent.result c.block_extent-extent.ensures.within in
    grind (arith, common_steps, few)
