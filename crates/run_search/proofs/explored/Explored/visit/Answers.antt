use Rattle.std.proofs.Common.{ℕ, refl, sym, subst, ◌∙◌, arith, inl, inr}
use Rattle.std.specs.List.{Contains}
use Rattle.std.proofs.lemmas.Bool.{cases_eq}
use Rattle.std.proofs.lemmas.Option.{get_or_from_slice_get}
use Rattle.run_search.specs.Nodes.{HasEdge, IsBelow, Node, set_of}
use Rattle.run_search.proofs.Gathering.{edge_grown, edges_at, node_grown, nodes_on}
use Rattle.run_search.proofs.explored.Explored.visit.Goals as goal

pub returns-then-has_above-clause-edges : goal.returns-then-has_above-clause-edges
returns-then-has_above-clause-edges c = λ node is.
    let later = c.if-has_above.ensures.above refl in
    inr (later.0, later.1, let past = later.2 in omega (arith, past), later.3, subst (λ (n : Node). IsBelow n later.1) (c.index.ensures ∙ get_or_from_slice_get c.args.self.now.nodes.items c.args.cursor node c.index.result.now is) later.4)

pub loop-p-preserved : goal.loop-p-preserved
loop-p-preserved c =
    let first = c.args.self.now.nodes.items in
    let old = c.loop-p.self.nodes.items in
    let new = c.follow_process.new.self.nodes.items in
    record {
      searched = c.in_ok-follow_process.ensures.searched;
      grown = nodes_on first old new c.loop-p.invariant.grown c.in_ok-follow_process.ensures.grown;
      edges = λ node q local is below there. elim (cases_eq q c.loop-p.p) [
        | inl same ↦
            subst (λ (r : ℕ). Contains (set_of node r) local → HasEdge c.args.spec.now new node r local) (sym same)
            (edges_at c.args.spec.now new node c.loop-p.p local (c.in_ok-follow_process.ensures.edges node (node_grown first old c.args.cursor node c.loop-p.invariant.grown is))) there
        | inr other ↦
            edge_grown c.args.spec.now old new node q local c.in_ok-follow_process.ensures.grown (c.loop-p.invariant.edges node q local is (omega (arith, below, other)) there)
      ];
    }

pub returns-clause-edges : goal.returns-clause-edges
returns-clause-edges c = λ node is. inl (λ p local below there. c.loop-p.invariant.edges node p local is (omega (arith, below, c.loop-p-test.false, c.n-p-end.ensures.value)) there)
