use Rattle.std.proofs.Common.{[], refl}
use Rattle.indexmap.proofs.MapLemmas.{OnOk-map}
use Rattle.room_files.proofs.blocks.RoomsOpens.push.Goals as goal

pub returns-clause-unfed : goal.returns-clause-unfed
returns-clause-unfed c = OnOk-map c.push.result _ _ (λ processed. processed [] refl) c.push.ensures.processed
