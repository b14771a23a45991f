use Rattle.room_sample.specs.Ways.{way_of}
use Rattle.room_sample.proofs.Schedules.{crashes_on, walks_on}
use Rattle.room_sample.proofs.run.Scheduled.follow.Goals as goal

pub returns-in_ok-steps-in-Steps : goal.returns-in_ok-steps-in-Steps
returns-in_ok-steps-in-Steps c = λ spec crashes so.
    walks_on spec crashes (way_of c.args.self.now) (way_of c.steps.new.self) c.in-Steps.simulator c.in-Steps.count c.in_ok-steps-in-Steps.field-0 so c.in_ok-steps-in-Steps.ensures.short c.in_ok-steps-in-Steps.ensures.walks

pub returns-in_ok-crash-in-Crash : goal.returns-in_ok-crash-in-Crash
returns-in_ok-crash-in-Crash c = λ spec crashes so.
    crashes_on spec crashes (way_of c.args.self.now) (way_of c.crash.new.self) c.in-Crash.simulator c.in_ok-crash-in-Crash.field-0 so c.in_ok-crash-in-Crash.ensures
