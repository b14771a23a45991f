use Rattle.std.proofs.Common.{◌∙◌, ◌++◌, List, ℕ, ap, arith}
use Rattle.std.specs.Prelude.{decimal}
use Rattle.std.proofs.lemmas.Fmt.{decimal_digit}
use Rattle.room_files.specs.Blocks.{refused_line}
use Rattle.script_play.specs.Play.{Unread, done_text}
use Rattle.view_open.proofs.Showing.{plain_at}
use Rattle.view_open.proofs.watcher.FollowerFollows.out_of_memory.Goals as goal

pub returns : goal.returns
returns g c =
    plain_at c.show_plainly.result c.args.self.now.watcher c.show_plainly.new.self c.as_bytes.result.now (done_text (Unread c.args.line))
    (c.as_bytes.ensures ∙ c.in_ok-write_refused_code.ensures ∙ ap (λ (t : List ℕ). t ++ refused_line c.args.line (decimal c.code.result)) c.new-words.ensures ∙ ap (λ (n : ℕ). refused_line c.args.line (decimal n)) c.code.ensures
    ∙ ap (refused_line c.args.line) (decimal_digit 8 (omega arith))) c.show_plainly.ensures
