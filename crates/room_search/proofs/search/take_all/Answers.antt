use Rattle.std.proofs.Common.{◌≡◌, ◌<◌, ◌∙◌, inl, inr, ℕ, List, Some, length, get_or, sym, ap, arith}
use Rattle.std.specs.Prelude.{slice_get}
use Rattle.std.proofs.lemmas.Bool.{cases_eq}
use Rattle.std.proofs.lemmas.Option.{get_or_from_slice_get}
use Rattle.room_core.specs.Calls.{configuration_of}
use Rattle.room_search.specs.Beginnings.{begun}
use Rattle.room_search.specs.Nodes.{Node}
use Rattle.room_search.specs.Taking.{IsTaken}
use Rattle.room_search.proofs.Noting.{taken_grown}
use Rattle.room_search.proofs.Taken.{item_there}
use Rattle.room_search.proofs.search.take_all.Goals as goal
use Rattle.room_search.proofs.search.take_all.Goals.{else-not-branch, then-not-branch}

slice_get_at : (list : List ℕ) (place one : ℕ) → place < length list → get_or list place one ≡ one → slice_get list place ≡ Some one
slice_get_at list place one inside is = let there = item_there list place inside in there.1 ∙ ap Some (sym (get_or_from_slice_get list place there.0 one there.1) ∙ is)

pub take_first-requires-clause-taking : goal.take_first-requires-clause-taking
take_first-requires-clause-taking c = c.nothing-taking.ensures c.args.subject.now.spec.now (begun c.args.subject.now.spec.now c.args.subject.now.acts.now) c.args.crashes

pub loop-place-preserved : goal.loop-place-preserved
loop-place-preserved c =
    let spec = c.args.subject.now.spec.now in
    let start = configuration_of c.args.subject.now.start.now in
    let explored = c.args.explored.now in
    let old = c.loop-place.taking.outcomes.items in
    let new = c.take.new.self.outcomes.items in
    let grown : (node : Node) → IsTaken spec start c.args.crashes explored.moves.table.keys old node → IsTaken spec start c.args.crashes explored.moves.table.keys new node =
    λ node taken. taken_grown spec start c.args.crashes explored.moves.table.keys old new node c.in_ok-take.ensures.grown taken in
    let here : c.if-not-branch.missed ≡ 0 → (k : ℕ) (node : Node) → slice_get c.in_ok-left.left.items c.loop-place.place ≡ Some k → slice_get explored.nodes.items k ≡ Some node → IsTaken spec start c.args.crashes explored.moves.table.keys new node
    = λ zero k node at there. elim c.if-not-branch.branch [
      | then-not-branch w ↦ let more = w.saturating_add-missed.ensures in let missed = w.missed-is in absurd (omega (arith, zero, missed, more))
      | else-not-branch w ↦
          let is : c.index.result.now ≡ k = c.index.ensures ∙ get_or_from_slice_get c.in_ok-left.left.items c.loop-place.place k c.index.result.now at in
          c.in_ok-take.ensures.taken w.if-not-branch.false node (ap (slice_get explored.nodes.items) is ∙ there)
    ] in
    let before : c.if-not-branch.missed ≡ 0 → c.loop-place.missed ≡ 0 = λ zero. elim c.if-not-branch.branch [
      | then-not-branch w ↦ let more = w.saturating_add-missed.ensures in let missed = w.missed-is in absurd (omega (arith, zero, missed, more))
      | else-not-branch w ↦ sym w.missed-is ∙ zero
    ] in
    record {
      taking = c.in_ok-take.ensures.taking;
      lost = λ zero. c.loop-place.invariant.lost (before zero);
      first = λ k node there. elim (c.loop-place.invariant.first k node there) [
        | inl taken ↦ inl (grown node taken)
        | inr waits ↦ inr waits
      ];
      rest = λ zero p k node below at there. elim (cases_eq p c.loop-place.place) [
        | inl same ↦ here zero k node (ap (slice_get c.in_ok-left.left.items) (sym same) ∙ at) there
        | inr apart ↦ grown node (c.loop-place.invariant.rest (before zero) p k node (omega (arith, below, apart)) at there)
      ];
    }

pub returns-clause-all : goal.returns-clause-all
returns-clause-all c = λ zero index node there. elim (c.loop-place.invariant.first index node there) [
  | inl taken ↦ taken
  | inr waits ↦ c.loop-place.invariant.rest zero waits.0 index node (let inside = waits.1 in omega (arith, inside, c.loop-place-test.false, c.len-place-end.ensures)) (slice_get_at c.in_ok-left.left.items waits.0 index waits.1 waits.2) there
]
