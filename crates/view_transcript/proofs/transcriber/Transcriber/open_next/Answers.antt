use Rattle.std.proofs.Common.{◌∙◌, ap, sym}
use Rattle.std.specs.Map.{keys_of}
use Rattle.view_transcript.proofs.Lookups.{changed_here, changed_other, names_after}
use Rattle.view_transcript.proofs.Looking.{opened_here}
use Rattle.view_transcript.proofs.transcriber.Transcriber.open_next.Goals as goal

pub returns : goal.returns
returns c =
    let before = c.args.self.now.rooms.entries in
    let after = c.insert.new.self.entries in
    let name = c.in-Some.name in
    let kept = c.in-Some.kept in
    let changes = c.in_ok-insert.ensures.updates.0 in
    opened_here c.args.self.now.next name kept before after (sym c.in-Some.ensures.value) (record {
      here = changed_here before after name kept changes;
      others = λ other differs. changed_other before after name other kept changes differs;
      names = ap keys_of c.in_ok-insert.ensures.entries ∙ names_after before name kept;
    })
