use Rattle.std.proofs.Common.{◌≡◌, ◌∙◌, ◌⊎◌, inl, inr, ℕ, List, Some, sym, ap, subst, arith}
use Rattle.std.specs.Prelude.{slice_get}
use Rattle.std.specs.Global.{Vec}
use Rattle.std.specs.List.{Contains}
use Rattle.std.proofs.lemmas.Bool.{cases_eq}
use Rattle.std.proofs.lemmas.Option.{slice_get_within}
use Rattle.std.proofs.lemmas.List.Elements.{Contains-push}
use Rattle.room_core.specs.Calls.{configuration_of}
use Rattle.room_search.specs.Nodes.{Node}
use Rattle.room_search.specs.Taking.{IsTaken}
use Rattle.room_search.proofs.Noting.{taken_grown}
use Rattle.room_search.proofs.Taken.{still_there}
use Rattle.room_search.proofs.search.take_first.Goals as goal
use Rattle.room_search.proofs.search.take_first.Goals.{then-not-branch+in_ok-push, else-not-branch}

pub loop-index-preserved : goal.loop-index-preserved
loop-index-preserved c =
    let spec = c.args.source.now.subject.now.spec.now in
    let start = configuration_of c.args.source.now.subject.now.start.now in
    let explored = c.args.source.now.explored.now in
    let old = c.loop-index.taking.outcomes.items in
    let new = c.take.new.self.outcomes.items in
    let was = c.loop-index.left.items in
    let left = c.if-not-branch.left.items in
    let kept : (k : ℕ) → Contains was k → Contains left k = λ k there. elim c.if-not-branch.branch [
      | then-not-branch+in_ok-push w ↦ subst (λ (v : Vec ℕ). Contains v.items k) (sym w.left-is) (still_there was _ c.loop-index.index k w.in_ok-push.ensures.items there)
      | else-not-branch w ↦ subst (λ (v : Vec ℕ). Contains v.items k) (sym w.left-is) there
    ] in
    let here : (node : Node) → slice_get explored.nodes.items c.loop-index.index ≡ Some node → IsTaken spec start c.args.source.now.crashes explored.moves.table.keys new node ⊎ Contains left c.loop-index.index = λ node there. elim c.if-not-branch.branch [
      | then-not-branch+in_ok-push w ↦ inr (subst (λ (v : Vec ℕ). Contains v.items c.loop-index.index) (sym w.left-is) (subst (λ (l : List ℕ). Contains l c.loop-index.index) (sym w.in_ok-push.ensures.items) (Contains-push was c.loop-index.index)))
      | else-not-branch w ↦ inl (c.in_ok-take.ensures.taken w.if-not-branch.false node there)
    ] in
    record {
      taking = c.in_ok-take.ensures.taking;
      all = λ k node below there. elim (cases_eq k c.loop-index.index) [
        | inl same ↦
            subst (λ (n : ℕ). IsTaken spec start c.args.source.now.crashes explored.moves.table.keys new node ⊎ Contains left n) (sym same) (here node (ap (slice_get explored.nodes.items) (sym same) ∙ there))
        | inr apart ↦ elim (c.loop-index.invariant.all k node (omega (arith, below, apart)) there) [
          | inl taken ↦ inl (taken_grown spec start c.args.source.now.crashes explored.moves.table.keys old new node c.in_ok-take.ensures.grown taken)
          | inr waits ↦ inr (kept k waits)
        ]
      ];
    }

pub returns-clause-all : goal.returns-clause-all
returns-clause-all c = λ index node there.
    let inside = slice_get_within c.args.source.now.explored.now.nodes.items index node there in
    c.loop-index.invariant.all index node (omega (arith, inside, c.loop-index-test.false, c.len-index-end.ensures)) there
