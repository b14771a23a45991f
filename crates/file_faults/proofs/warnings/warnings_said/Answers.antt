use Rattle.std.proofs.Common.{◌∙◌, refl, sym}
use Rattle.file_faults.specs.Warnings.{file_parts, warnings_said}
use Rattle.std.proofs.lemmas.List.{append-nil}
use Rattle.file_faults.proofs.Walking.{none_left, some_left, walk_ends, walk_step, walk_stops}
use Rattle.file_faults.proofs.warnings.warnings_said.Goals as goal

pub walk-preserved : goal.walk-preserved
walk-preserved c =
    let inv = c.walk.invariant in
    let rest = c.walk.rest.now in
    let some = some_left c.is_empty.result rest c.is_empty.ensures c.walk-test.true in
    walk_step (file_parts c.args.json) inv.0 c.walk.left c.walk.number c.next_part-number.result tt tt rest c.part_after-rest.result.now c.walk.output (warnings_said c.args.json c.args.input.now) c.write_first.new.output c.in-Some.fewer
    inv.1 some (c.part_after-rest.ensures.shorter some) c.next_part-number.ensures c.part_after-rest.ensures.text refl
    inv.2 (sym c.in-Some.is ∙ c.in_ok-fewer.ensures.left) c.in_ok-fewer.ensures.text

pub returns-in_default : goal.returns-in_default
returns-in_default c =
    let inv = c.walk.invariant in
    let rest = c.walk.rest.now in
    walk_stops (file_parts c.args.json) inv.0 c.walk.left c.walk.number tt rest c.walk.output (warnings_said c.args.json c.args.input.now) c.write_first.new.output
    inv.1 (some_left c.is_empty.result rest c.is_empty.ensures c.walk-test.true) inv.2 (sym c.in_default.is ∙ c.in_ok-fewer.ensures.left) c.in_ok-fewer.ensures.text

pub returns : goal.returns
returns c =
    let inv = c.walk.invariant in
    sym (append-nil c.walk.output)
    ∙ walk_ends (file_parts c.args.json) inv.0 c.walk.left c.walk.number tt c.walk.rest.now c.walk.output (warnings_said c.args.json c.args.input.now)
    (none_left c.is_empty.result c.walk.rest.now c.is_empty.ensures c.walk-test.false) inv.2
