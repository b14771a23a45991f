use Rattle.std.proofs.Common.{sym, ap, ◌∙◌}
use Rattle.room_search.specs.Ends.{ends_by}
use Rattle.room_search.proofs.Enough.{end_said}
use Rattle.room_search.proofs.ends.ends_said.Goals as goal

pub returns-then-says_enough : goal.returns-then-says_enough
returns-then-says_enough c = λ words says.
    let spec = c.args.subject.now.spec.now in
    end_said spec c.args.said.now c.shape-shape.ensures.limits (c.says_enough.ensures c.if-says_enough.true) words says
    ∙ ap (ends_by spec) (sym (c.as_slice-then-says_enough.ensures.value ∙ c.in_ok-words.ensures)) ∙ sym c.ends_by.ensures
