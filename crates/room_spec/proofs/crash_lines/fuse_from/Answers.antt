use Rattle.std.proofs.Common.{sym, ap, ◌∙◌, min, ◌^◌}
use Rattle.std.specs.Option.{option_map}
use Rattle.room_spec.proofs.Fuses.{more_words}
use Rattle.room_spec.proofs.crash_lines.fuse_from.Goals as goal

pub returns-then-is_some : goal.returns-then-is_some
returns-then-is_some c =
    sym (ap (option_map (λ fuse. (min fuse.0 (2 ^ 32), min fuse.1 (2 ^ 32)))) (more_words c.args.words.now c.cut_near.result.0.now c.cut_near-2.result.0.now c.cut_near-3.result.0.now c.in_ok-rest.field-0.now c.in_ok-rest-2.field-0.now c.cut_near-3.result.1
    (rw c.in_ok-rest.was at c.cut_near.ensures.pieces) (rw c.in_ok-rest-2.was at c.cut_near-2.ensures.pieces) c.cut_near-3.ensures.pieces (sym c.is_some.ensures ∙ c.if-is_some.true)))
