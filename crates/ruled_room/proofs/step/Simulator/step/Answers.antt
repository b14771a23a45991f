use Rattle.ruled_room.proofs.Turning.{step_of}
use Rattle.ruled_room.proofs.step.Simulator.step.Goals as goal

pub returns-clause-step : goal.returns-clause-step
returns-clause-step c = step_of c.args.self.now c.run.new.self c.run.result c.run.ensures.steps
