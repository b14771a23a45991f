use Rattle.std.proofs.Common.{◌∙◌, refl, sym, ap, length}
use Rattle.room_spec.specs.Blocks.{body_len}
use Rattle.room_spec.proofs.CallerLemmas.{some_body}
use Rattle.room_files.specs.Kinds.{begins_ordinary}
use Rattle.room_files.proofs.Beginnings.{refused_at_once}
use Rattle.room_files.proofs.kinds.read_ordinary_lines.Goals as goal

pub returns-then-not-begins_ordinary-clause-read : goal.returns-then-not-begins_ordinary-clause-read
returns-then-not-begins_ordinary-clause-read c =
    let block = c.args.block.now in
    let found = some_body block (body_len block) (length block) c.lines.ensures.whole in
    refused_at_once block (body_len block) found.0 refl found.1 (sym (c.if-not-begins_ordinary.ensures ∙ ap begins_ordinary c.text.ensures))
