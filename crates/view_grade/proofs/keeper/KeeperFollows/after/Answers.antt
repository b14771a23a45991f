use Rattle.std.proofs.Common.{◌∙◌}
use Rattle.view_grade.specs.Keeping.{Kept}
use Rattle.view_grade.specs.declared.keeper.Keeper.{Keeper}
use Rattle.view_grade.proofs.Watching.{command_kept, on_both}
use Rattle.view_grade.proofs.keeper.KeeperFollows.after.Goals as goal

abbrev kept_of : Keeper → Kept
kept_of k = record { graded = record { last = k.grader.last; moves = k.grader.moves }; watched = record { entries = k.entries; found = k.broken } }

pub returns : goal.returns
returns c = on_both c.judge.result _ _ _ (λ found entries first earlier command is happens.
    let ready = happens.is_ready in (
      c.judge.ensures.task ∙ ready.0,
      c.judge.ensures.script ∙ ready.1,
      command_kept first.task.now c.args.self.now.task.now first.script.now c.args.self.now.script.now c.args.asked.now (kept_of first) (kept_of c.args.self.now) (kept_of c.judge.new.self) earlier c.args.rooms.now command c.args.reply is
          ready.0 ready.1 ready.2 ready.3 ready.4 ready.5 (c.judge.ensures.last ∙ c.note.ensures.last) (c.judge.ensures.moves ∙ c.note.ensures.moves) entries found,
    )) c.judge.ensures.found c.judge.ensures.entries
