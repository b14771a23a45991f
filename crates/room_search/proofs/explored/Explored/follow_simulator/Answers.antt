use Rattle.std.proofs.Common.{◌≡◌, ◌<◌, ℕ, List, length, get_or, sym, subst, ap, ◌∙◌, arith, inl, inr}
use Rattle.std.specs.Prelude.{slice_get}
use Rattle.std.specs.List.{Contains}
use Rattle.std.proofs.lemmas.Bool.{cases_eq, true≢false}
use Rattle.std.proofs.lemmas.Option.{get_or_from_slice_get, slice_get_within}
use Rattle.room_search.specs.Nodes.{Node, set_of}
use Rattle.room_search.proofs.Growing.{there_before}
use Rattle.room_search.proofs.Moving.{said_grown}
use Rattle.room_search.proofs.Searching.{at_grown, further_not, further_on, nodes_kept}
use Rattle.room_search.proofs.Sets.{at_index, number_at}
use Rattle.room_search.proofs.explored.Explored.follow_simulator.Goals as goal

pub set-count-requires : goal.set-count-requires
set-count-requires c =
    let inside = slice_get_within c.args.self.now.nodes.items c.args.cursor c.requires.said.0 c.requires.said.1 in
    let there = at_index c.args.self.now.nodes.items c.args.cursor c.index.result.now inside c.index.ensures in
    let width = (c.requires.searched.nodes c.args.cursor c.index.result.now there).width in
    omega (arith, width, c.requires.simulator)

pub follow-requires-clause-there : goal.follow-requires-clause-there
follow-requires-clause-there c =
    let given = c.requires.said in
    let node = given.0 in
    let further = c.loop-place.invariant.further in
    let kept = nodes_kept c.args.self.now.nodes.items c.loop-place.self.nodes.items c.args.cursor node further.nodes given.1 in
    let same : c.index-in-loop-place.result.now ≡ node = c.index-in-loop-place.ensures ∙ get_or_from_slice_get c.loop-place.self.nodes.items c.args.cursor node c.index-in-loop-place.result.now kept in
    let set : c.set.result.now ≡ set_of node c.args.i = c.set.ensures ∙ ap (λ (n : Node). set_of n c.args.i) same in
    let here : c.index.result.now ≡ node = c.index.ensures ∙ get_or_from_slice_get c.args.self.now.nodes.items c.args.cursor node c.index.result.now given.1 in
    let long = ap (λ (l : List ℕ). length l) (c.set-count.ensures ∙ ap (λ (n : Node). set_of n c.args.i) here) in
    let below : c.loop-place.place < length (set_of node c.args.i) = omega (arith, long, c.loop-place-test.true) in
    (node, kept, said_grown c.args.self.now.moves.said.keys c.loop-place.self.moves.said.keys c.args.said node.said further.moves.said given.2, subst (λ (l : List ℕ). Contains (set_of node c.args.i) (get_or l c.loop-place.place 0)) (sym set) (number_at (set_of node c.args.i) c.loop-place.place below))

pub loop-place-preserved : goal.loop-place-preserved
loop-place-preserved c =
    let spec = c.args.subject.now.spec.now in
    let first = c.args.self.now in
    let old = c.loop-place.self in
    let new = c.follow.new.self in
    let before = c.loop-place.invariant.further in
    let further = c.in_ok-follow.ensures.further in
    record {
      further = further_on spec first old new before further;
      leads = λ node place below is.
          let kept = nodes_kept first.nodes.items old.nodes.items c.args.cursor node before.nodes is in
          let node_is = before.searched.nodes c.args.cursor node kept in
          elim (cases_eq place c.loop-place.place) [
            | inl same ↦ λ number known at there.
                let here : c.index-in-loop-place.result.now ≡ node = c.index-in-loop-place.ensures ∙ get_or_from_slice_get old.nodes.items c.args.cursor node c.index-in-loop-place.result.now kept in
                let set : c.set.result.now ≡ set_of node c.args.i = c.set.ensures ∙ ap (λ (n : Node). set_of n c.args.i) here in
                let number_is : get_or c.set.result.now c.loop-place.place 0 ≡ number =
                ap (λ (l : List ℕ). get_or l c.loop-place.place 0) set ∙ ap (λ (k : ℕ). get_or (set_of node c.args.i) k 0) (sym same) ∙ get_or_from_slice_get (set_of node c.args.i) place number 0 at in
                let inside = node_is.numbers c.args.i c.requires.simulator number (place, slice_get_within (set_of node c.args.i) place number at, get_or_from_slice_get (set_of node c.args.i) place number number at) in
                let before = there_before old.moves.table.keys new.moves.table.keys number known further.moves.table inside there in
                c.in_ok-follow.ensures.leads node known kept (ap (slice_get old.moves.table.keys) number_is ∙ before)
            | inr apart ↦
                at_grown spec old.moves.table.keys new.moves.table.keys old.nodes.items new.nodes.items old.lost new.lost node c.args.i place c.requires.simulator node_is further.moves.table further.nodes further.lost
                (c.loop-place.invariant.leads node place (omega (arith, below, apart)) is)
          ];
    }

pub returns-clause-leads : goal.returns-clause-leads
returns-clause-leads c = λ node place alive is number known at there.
    let here : c.index.result.now ≡ node = c.index.ensures ∙ get_or_from_slice_get c.args.self.now.nodes.items c.args.cursor node c.index.result.now is in
    let long = ap (λ (l : List ℕ). length l) (c.set-count.ensures ∙ ap (λ (n : Node). set_of n c.args.i) here) in
    let inside = slice_get_within (set_of node c.args.i) place number at in
    c.loop-place.invariant.leads node place (omega (arith, long, inside, c.loop-place-test.false)) is number known at there

pub returns-then-has_crashed-clause-further : goal.returns-then-has_crashed-clause-further
returns-then-has_crashed-clause-further c = further_not c.args.subject.now.spec.now c.args.self.now c.requires.searched

pub returns-then-has_crashed-clause-leads : goal.returns-then-has_crashed-clause-leads
returns-then-has_crashed-clause-leads c = λ node place alive. absurd (true≢false (sym (c.has_crashed.ensures c.if-has_crashed.true) ∙ alive))
