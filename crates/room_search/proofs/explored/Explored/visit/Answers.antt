use Rattle.std.proofs.Common.{◌≡◌, ◌<◌, ℕ, false, refl, subst, sym, ap, ◌∙◌, arith, inl, inr}
use Rattle.std.proofs.lemmas.Bool.{cases_eq}
use Rattle.std.proofs.lemmas.Option.{get_or_from_slice_get}
use Rattle.room_core.specs.Calls.{configuration_of}
use Rattle.room_core.specs.Rooms.{crashed_at}
use Rattle.room_search.specs.Moving.{IsSaidAt}
use Rattle.room_search.specs.Nodes.{LeadsAt, Node}
use Rattle.room_search.proofs.Moving.{said_grown}
use Rattle.room_search.proofs.Searching.{at_grown, further_by, further_on, inside_from, node_at_index, nodes_kept}
use Rattle.room_search.proofs.explored.Explored.visit.Goals as goal

pub loop-i-preserved : goal.loop-i-preserved
loop-i-preserved c =
    let spec = c.args.subject.now.spec.now in
    let first = c.args.self.now in
    let old = c.loop-i.self in
    let new = c.follow_simulator.new.self in
    let further = c.in_ok-follow_simulator.ensures.further in
    let before = c.loop-i.invariant.further in
    record {
      further = further_on spec first old new before further;
      said = λ node is. said_grown old.moves.said.keys new.moves.said.keys c.in_ok-said.said node.said further.moves.said (c.loop-i.invariant.said node is);
      leads = λ node i place below alive is.
          let kept = nodes_kept first.nodes.items old.nodes.items c.args.cursor node before.nodes is in
          elim (cases_eq i c.loop-i.i) [
            | inl same ↦ subst (λ (k : ℕ). LeadsAt spec new.moves.table.keys new.nodes.items new.lost node k place) (sym same) (c.in_ok-follow_simulator.ensures.leads node place (subst (λ (k : ℕ). crashed_at (configuration_of c.args.subject.now.start.now) k ≡ false) same alive) kept)
            | inr apart ↦
                let less : i < c.loop-i.i = omega (arith, below, apart) in
                at_grown spec old.moves.table.keys new.moves.table.keys old.nodes.items new.nodes.items old.lost new.lost node i place (omega (arith, less, c.loop-i-test.true, c.m-i-end.ensures.value)) (before.searched.nodes c.args.cursor node kept)
                further.moves.table further.nodes further.lost (c.loop-i.invariant.leads node i place less alive is)
          ];
    }

pub loop-i-init : goal.loop-i-init
loop-i-init c = record {
  further = further_by c.args.subject.now.spec.now c.args.self.now _ c.in_ok-said.ensures.moves refl (λ none. none) c.requires.searched;
  said = λ node is.
      let here : c.index.result.now ≡ node = c.index.ensures ∙ get_or_from_slice_get c.args.self.now.nodes.items c.args.cursor node c.index.result.now is in
      subst (IsSaidAt c.number_of.new.self.said.keys c.in_ok-said.said) (c.in_ok-words.ensures ∙ c.deref.ensures.value ∙ c.said.ensures ∙ ap (λ (n : Node). n.said) here) c.in_ok-said.ensures.number;
  leads = λ node i place below. absurd (omega (arith, below));
}

pub follow_simulator-requires-clause-said : goal.follow_simulator-requires-clause-said
follow_simulator-requires-clause-said c =
    let before = c.loop-i.invariant in
    let one = node_at_index c.args.self.now.nodes.items c.args.cursor c.requires.there in
    (one.0, nodes_kept c.args.self.now.nodes.items c.loop-i.self.nodes.items c.args.cursor one.0 before.further.nodes one.1, before.said one.0 one.1)

pub returns-clause-leads : goal.returns-clause-leads
returns-clause-leads c = λ node is.
    inside_from c.args.subject.now.spec.now (configuration_of c.args.subject.now.start.now) c.loop-i.self.moves.table.keys c.loop-i.self.nodes.items c.loop-i.self.lost node
    (λ i place below alive. c.loop-i.invariant.leads node i place (omega (arith, below, c.loop-i-test.false, c.m-i-end.ensures.value)) alive is)
