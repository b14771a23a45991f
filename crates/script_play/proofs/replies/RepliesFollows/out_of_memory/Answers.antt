use Rattle.script_play.proofs.Playing.{out_of_memory_line, where_ok}
use Rattle.script_play.proofs.replies.RepliesFollows.out_of_memory.Goals as goal

pub returns : goal.returns
returns c = where_ok c.write_refused_code.result _ _ (λ text. λ rooms. out_of_memory_line c.args.self.now.output c.write_refused_code.new.output c.args.line c.code.result c.code.ensures text) c.write_refused_code.ensures
