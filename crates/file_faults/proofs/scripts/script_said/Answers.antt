use Rattle.std.proofs.Common.{◌∙◌, ap₂, sym, arith}
use Rattle.script_play.specs.Script.{text_after}
use Rattle.file_faults.specs.Scripts.{entries, next_number, script_said}
use Rattle.file_faults.proofs.Walking.{none_left, some_left, walk_ends, walk_step, walk_stops}
use Rattle.file_faults.proofs.scripts.script_said.Goals as goal

pub walk-preserved : goal.walk-preserved
walk-preserved c =
    let inv = c.walk.invariant in
    let rest = c.walk.rest.now in
    let some = some_left c.is_empty.result rest c.is_empty.ensures c.walk-test.true in
    let shorter = c.split_line.ensures.shorter some in
    let within = c.text_after-rest.ensures.within in
    walk_step (entries c.args.json c.args.script.now) inv.0 c.walk.left c.walk.number c.next_number-number.result c.walk.known c.write_entry.new.known rest c.text_after-rest.result.now c.walk.output (script_said c.args.json c.args.script.now) c.write_entry.new.output c.in-Some.fewer
    inv.1 some (omega (arith, shorter, within))
    (c.next_number-number.ensures ∙ ap₂ (next_number c.walk.number) c.split_line.ensures.first c.split_line.ensures.later)
    (c.text_after-rest.ensures.text ∙ ap₂ text_after c.split_line.ensures.first c.split_line.ensures.later) c.in_ok-fewer.ensures.known
    inv.2 (sym c.in-Some.is ∙ c.in_ok-fewer.ensures.left) c.in_ok-fewer.ensures.text

pub returns-in_default : goal.returns-in_default
returns-in_default c =
    let inv = c.walk.invariant in
    let rest = c.walk.rest.now in
    walk_stops (entries c.args.json c.args.script.now) inv.0 c.walk.left c.walk.number c.walk.known rest c.walk.output (script_said c.args.json c.args.script.now) c.write_entry.new.output
    inv.1 (some_left c.is_empty.result rest c.is_empty.ensures c.walk-test.true) inv.2 (sym c.in_default.is ∙ c.in_ok-fewer.ensures.left) c.in_ok-fewer.ensures.text

pub returns : goal.returns
returns c =
    let inv = c.walk.invariant in
    c.in_ok-write_end.ensures
    ∙ walk_ends (entries c.args.json c.args.script.now) inv.0 c.walk.left c.walk.number c.walk.known c.walk.rest.now c.walk.output (script_said c.args.json c.args.script.now)
    (none_left c.is_empty.result c.walk.rest.now c.is_empty.ensures c.walk-test.false) inv.2
