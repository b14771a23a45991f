use Rattle.ws_history.specs.Readings.{read_of}
use Rattle.ws_history.specs.Reports.{report_of}
use Rattle.ws_history.proofs.TrueReports.{read_report}
use Rattle.ws_history.proofs.reports.report_to.Goals as goal

pub returns : goal.returns
returns g c =
    let room = c.args.room.now in
    record {
      report = report_of room.spec (read_of room);
      is_report = read_report room c.shape_of-shape.ensures.limits;
      states = λ p. record { items = c.states_of.ensures p };
      crashed = λ p. record { items = c.crashed_in.ensures p };
      history = c.in_ok-pass_history.ensures;
    }
