use Rattle.std.proofs.Common.{rules}
use Rattle.view_why.proofs.KeptRooms.{lines_put}
use Rattle.view_why.proofs.kept_text.write_disallowed_lines.Goals as goal

pub returns : goal.returns
returns c =
    lines_put c.put-2.result c.args.output.now c.args.reported.now.spec.name c.args.event.now c.args.one.now c.write_disallowed_line.new.output c.write_event_line.new.output c.put.new.self c.write_moment.new.output c.put-2.new.self
    (search rules) c.in_ok-write_event_line.ensures c.in_ok-put.ensures.text c.in_ok-write_moment.ensures c.put-2.ensures.text
