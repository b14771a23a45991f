use Rattle.std.proofs.Common.{◌++◌, ◌∙◌, ap, decimal}
use Rattle.indexmap.proofs.MapLemmas.{OnOk-map}
use Rattle.room_files.specs.Blocks.{refused_line}
use Rattle.room_files.proofs.BlockSteps.{taken_code}
use Rattle.room_files.proofs.blocks.TextRefuses.refuse.Goals as goal

pub returns-in-NameTaken : goal.returns-in-NameTaken
returns-in-NameTaken c =
    rw c.in-NameTaken.is
    (OnOk-map c.write_refused_code.result _ _ (λ is. is ∙ ap (λ text. c.args.self.now ++ refused_line c.args.line text) (ap decimal c.code.ensures ∙ taken_code)) c.write_refused_code.ensures)
