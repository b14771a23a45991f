use Rattle.std.proofs.Common.{◌≡◌, ◌++◌, [], ℕ, OnOk, codes, subst}
use Rattle.view_why.specs.Words.{process_words}
use Rattle.view_why.proofs.Behind.{put_behind}
use Rattle.view_why.proofs.kept_text.write_refused.Goals as goal

pub returns : goal.returns
returns c =
    let first = process_words (codes "no line allows that process") c.args.process (codes " decided") in
    subst (λ (v : ℕ). OnOk c.write_of_process-2.result (c.write_of_process-2.new.output ≡ c.args.output.now ++ (first ++ process_words [] v []))) c.from.ensures
    (put_behind c.write_of_process-2.result c.args.output.now c.write_of_process.new.output c.write_of_process-2.new.output first (process_words [] c.from.result []) c.in_ok-write_of_process.ensures c.write_of_process-2.ensures)
