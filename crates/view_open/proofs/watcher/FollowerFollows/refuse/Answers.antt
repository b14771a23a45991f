use Rattle.std.proofs.Common.{◌∙◌, ◌++◌, List, ℕ, ap}
use Rattle.room_files.specs.Blocks.{fault_text, refused_line}
use Rattle.script_play.specs.Play.{Faulty, done_text}
use Rattle.view_open.proofs.Showing.{plain_at}
use Rattle.view_open.proofs.watcher.FollowerFollows.refuse.Goals as goal

pub returns : goal.returns
returns g c =
    plain_at c.show_plainly.result c.args.self.now.watcher c.show_plainly.new.self c.as_bytes.result.now (done_text (Faulty c.args.line c.args.fault))
    (c.as_bytes.ensures ∙ c.in_ok-write_refused.ensures ∙ ap (λ (t : List ℕ). t ++ refused_line c.args.line (fault_text c.args.fault)) c.new-words.ensures) c.show_plainly.ensures
