use Rattle.view_grade.proofs.Keeping.{command_graded}
use Rattle.view_grade.proofs.grader.GraderFollows.after.Goals as goal

pub returns : goal.returns
returns c = λ first earlier command is happens.
    command_graded c.args.asked.now (record { last = first.last; moves = first.moves }) (record { last = c.args.self.now.last; moves = c.args.self.now.moves }) (record { last = c.note.new.self.last; moves = c.note.new.self.moves }) earlier c.args.rooms.now command c.args.reply is happens.is_ready.0 happens.is_ready.1
    c.note.ensures.last c.note.ensures.moves
