use Rattle.std.proofs.Common.{◌≡◌, ◌<◌, ◌≤◌, ℕ, List, Some, get_or, is_some, length, refl, ap, subst, sym, arith, below_more, inl}
use Rattle.std.specs.Prelude.{slice_get}
use Rattle.run_search.specs.Limits.{HasMarks, IsWithoutAfter, no_entry}
use Rattle.run_search.specs.Nodes.{Node}
use Rattle.run_search.specs.declared.explored.Entry.{Entry}
use Rattle.run_search.proofs.Limiting.{from_listed, listed_among, not_listed, unlisted}
use Rattle.run_search.proofs.explored.Explored.has_after.Goals as goal

pub returns-in_default-clause-without : goal.returns-in_default-clause-without
returns-in_default-clause-without c = λ no index other is.
    let rows = c.args.self.now.by_row.entries in
    let after = c.args.after.now in
    let row = after.row.now.items in
    not_listed (IsWithoutAfter c.args.spec.now after.node.now after.process after.new row) rows c.args.self.now.nodes.items row c.requires.listed index other is inl
    (λ marks listed has. absurd (unlisted rows row _ (sym (ap is_some c.in_default.ensures.value)) listed))

pub returns-clause-without : goal.returns-clause-without
returns-clause-without c = λ no index other is.
    let rows = c.args.self.now.by_row.entries in
    let nodes = c.args.self.now.nodes.items in
    let after = c.args.after.now in
    let row = after.row.now.items in
    let entries = c.in-Some.entries.now in
    not_listed (IsWithoutAfter c.args.spec.now after.node.now after.process after.new row) rows nodes row c.requires.listed index other is inl
    (λ marks listed has.
    from_listed (IsWithoutAfter c.args.spec.now after.node.now after.process after.new row) nodes entries.items 0 index marks other
    (subst (λ (items : List Entry). (k : ℕ) → k < length items → (one : Node) → 0 ≤ (get_or items k no_entry).index → slice_get nodes (get_or items k no_entry).index ≡ Some one → HasMarks one (get_or items k no_entry).marks
    → IsWithoutAfter c.args.spec.now after.node.now after.process after.new row one) c.as_slice-entry-items.ensures.value
    (λ k below one past. c.loop-entry.invariant k (omega (arith, below, c.loop-entry-test.false)) one))
    (listed_among rows row _ entries (sym c.in-Some.ensures.value) listed) (omega arith) is has)

pub loop-entry-preserved : goal.loop-entry-preserved
loop-entry-preserved c = below_more _ _ c.loop-entry.invariant (λ one. c.if-has_after_at.ensures.without refl one)
