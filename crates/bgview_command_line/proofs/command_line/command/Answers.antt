use Rattle.bgview_command_line.proofs.Subcommands.{all_grown, grown}
use Rattle.bgview_command_line.proofs.command_line.command.Goals as goal

pub returns : goal.returns
returns c =
    let why_is = grown _ _ _ c.why_command.result _ c.plain_command.ensures c.why_command.ensures.app c.why_command.ensures.local c.in_ok-with_why.ensures in
    let trace_is = grown _ _ _ c.trace_command.result _ why_is c.trace_command.ensures.app c.trace_command.ensures.local c.in_ok-with_trace.ensures in
    let draw_is = grown _ _ _ c.draw_command.result _ trace_is c.draw_command.ensures.app c.draw_command.ensures.local c.in_ok-with_draw.ensures in
    let page_is = grown _ _ _ c.page_command.result _ draw_is c.page_command.ensures.app c.page_command.ensures.local c.in_ok-with_page.ensures in
    let transcript_is = grown _ _ _ c.transcript_command.result _ page_is c.transcript_command.ensures.app c.transcript_command.ensures.local c.in_ok-with_transcript.ensures in
    let fault_is = grown _ _ _ c.fault_command.result _ transcript_is c.fault_command.ensures.app c.fault_command.ensures.local c.in_ok-with_fault.ensures in
    let sample_is = grown _ _ _ c.sample_command.result _ fault_is c.sample_command.ensures.app c.sample_command.ensures.local c.in_ok-with_sample.ensures in
    let sum_is = grown _ _ _ c.sum_command.result _ sample_is c.sum_command.ensures.app c.sum_command.ensures.local c.in_ok-with_sum.ensures in
    let outcomes_is = grown _ _ _ c.outcomes_command.result _ sum_is c.outcomes_command.ensures.app c.outcomes_command.ensures.local c.in_ok-with_outcomes.ensures in
    let lint_is = grown _ _ _ c.lint_command.result _ outcomes_is c.lint_command.ensures.app c.lint_command.ensures.local c.in_ok-with_lint.ensures in
    let grade_is = grown _ _ _ c.grade_command.result _ lint_is c.grade_command.ensures.app c.grade_command.ensures.local c.in_ok-with_grade.ensures in
    all_grown _ _ _ c.live_command.result _ grade_is c.live_command.ensures.app c.live_command.ensures.local c.with_subcommand-12.ensures
