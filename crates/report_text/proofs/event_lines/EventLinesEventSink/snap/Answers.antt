use Rattle.std.proofs.Common.{rules}
use Rattle.report_text.proofs.Pieces.{snapshot_kept}
use Rattle.report_text.proofs.event_lines.EventLinesEventSink.snap.Goals as goal

pub returns : goal.returns
returns c = λ name taken keeps.
    snapshot_kept c.args.self.now.name c.args.self.now.text _ _ c.args.self.now.count _ name c.args.p c.args.row.now taken c.in_ok-self.ensures (search rules) c.in_ok-write_snapshot.ensures keeps
