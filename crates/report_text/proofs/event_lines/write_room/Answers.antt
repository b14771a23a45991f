use Rattle.std.proofs.Common.{◌≡◌, ◌++◌, [], ℕ, List, rules, subst}
use Rattle.report_text.specs.ReportTexts.{report_text}
use Rattle.report_text.proofs.event_lines.write_room.Goals as goal

pub returns : goal.returns
returns c =
    let name = c.name-name.result.now in
    let own : name ≡ c.args.room.now.spec.name = search rules in
    let to = c.in_ok-standing.ensures in (
      to.report,
      to.is_report,
      subst (λ (n : List ℕ). c.write_lines.new.output ≡ c.args.output.now ++ report_text n to.report) own (c.in_ok-write_lines.ensures to.report to.states to.crashed (to.history name [] c.begin.ensures)),
    )
