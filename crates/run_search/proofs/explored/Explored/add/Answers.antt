use Rattle.std.proofs.Common.{ℕ, sym, subst, ◌∙◌}
use Rattle.run_search.specs.Limits.{AreListed, IsListed}
use Rattle.run_search.proofs.Limiting.{listed_more}
use Rattle.run_search.proofs.explored.Explored.add.Goals as goal

pub returns-clause-listed : goal.returns-clause-listed
returns-clause-listed c = λ listed.
    let rows = c.list.new.rows.entries in
    let marks = c.marks.result in
    let under = subst (λ r. IsListed rows r (record { index = c.len.result; marks = marks })) c.row.ensures c.in_ok-list.ensures.there in
    subst (AreListed rows) (sym c.in_ok-push.ensures.items)
    (listed_more c.args.self.now.by_row.entries rows c.args.self.now.nodes.items c.args.node listed
    (record {
      marks = marks;
      listed = subst (λ (i : ℕ). IsListed rows c.args.node.row (record { index = i; marks = marks })) (c.len.ensures ∙ c.args.self.now.nodes.ok.0) under;
      has = c.marks.ensures.all;
    })
    c.in_ok-list.ensures.kept)
