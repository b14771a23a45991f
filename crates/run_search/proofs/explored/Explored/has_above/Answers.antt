use Rattle.std.proofs.Common.{◌≡◌, ◌<◌, ◌≤◌, ℕ, List, Option, Some, false, get_or, is_some, length, refl, ap, subst, sym, arith, below_more, inl}
use Rattle.std.specs.Prelude.{slice_get}
use Rattle.run_search.specs.Limits.{HasMarks, IsNotBelow, entries_at, no_entry}
use Rattle.run_search.specs.Nodes.{Node}
use Rattle.run_search.specs.declared.explored.Entry.{Entry}
use Rattle.run_search.proofs.Limiting.{from_listed, listed_among, not_listed, unlisted}
use Rattle.run_search.proofs.explored.Explored.has_above.Goals as goal

pub returns-in_default-clause-none : goal.returns-in_default-clause-none
returns-in_default-clause-none c = λ no later other from is.
    let rows = c.args.self.now.by_row.entries in
    let row = c.args.node.now.row in
    not_listed (IsNotBelow c.args.node.now) rows c.args.self.now.nodes.items row c.requires later other is inl
    (λ marks listed has. absurd (unlisted rows row _ (subst (λ (r : List (Option ℕ)). is_some (entries_at rows r) ≡ false) c.row.ensures (sym (ap is_some c.in_default.ensures.value))) listed))

pub returns-clause-none : goal.returns-clause-none
returns-clause-none c = λ no later other from is.
    let rows = c.args.self.now.by_row.entries in
    let nodes = c.args.self.now.nodes.items in
    let row = c.args.node.now.row in
    let entries = c.in-Some.entries.now in
    not_listed (IsNotBelow c.args.node.now) rows nodes row c.requires later other is inl
    (λ marks listed has.
    from_listed (IsNotBelow c.args.node.now) nodes entries.items c.args.from later marks other
    (subst (λ (items : List Entry). (k : ℕ) → k < length items → (one : Node) → c.args.from ≤ (get_or items k no_entry).index → slice_get nodes (get_or items k no_entry).index ≡ Some one → HasMarks one (get_or items k no_entry).marks
    → IsNotBelow c.args.node.now one) c.as_slice-entry-items.ensures.value
    (λ k below. c.loop-entry.invariant k (omega (arith, below, c.loop-entry-test.false))))
    (listed_among rows row _ entries (subst (λ (r : List (Option ℕ)). entries_at rows r ≡ Some entries) c.row.ensures (sym c.in-Some.ensures.value)) listed)
    from is has)

pub loop-entry-preserved : goal.loop-entry-preserved
loop-entry-preserved c = below_more _ _ c.loop-entry.invariant (λ one. c.if-is_above.ensures.none refl one)
