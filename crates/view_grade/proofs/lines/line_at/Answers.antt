use Rattle.std.proofs.Common.{◌∙◌, ap₂, sym, arith}
use Rattle.script_play.specs.Script.{text_after}
use Rattle.view_grade.specs.Keeping.{line_from, next_number}
use Rattle.view_grade.proofs.Watching.{line_end, line_more, line_stop, none_left, some_left}
use Rattle.view_grade.proofs.lines.line_at.Goals as goal

pub returns-then-left-eq0 : goal.returns-then-left-eq0
returns-then-left-eq0 c = sym (line_stop c.walk.left c.walk.number c.walk.rest.now c.if-left-eq0.true) ∙ c.walk.invariant

pub walk-preserved : goal.walk-preserved
walk-preserved c =
    let some = some_left c.is_empty.result c.walk.rest.now c.is_empty.ensures c.walk-test.true in
    ap₂ (line_from _) (c.next_number-number.ensures ∙ ap₂ (next_number c.walk.number) c.split_line.ensures.first c.split_line.ensures.later) (c.text_after-rest.ensures.text ∙ ap₂ text_after c.split_line.ensures.first c.split_line.ensures.later)
    ∙ sym (line_more c.walk.left _ c.walk.number c.walk.rest.now (omega (arith, c.if-left-eq0.false)) some) ∙ c.walk.invariant

pub returns : goal.returns
returns c = sym (line_end c.walk.left c.walk.number c.walk.rest.now (none_left c.is_empty.result c.walk.rest.now c.is_empty.ensures c.walk-test.false)) ∙ c.walk.invariant
