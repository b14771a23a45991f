use Rattle.std.proofs.Common.{◌≡◌, ◌<◌, ◌≤◌, ◌∷◌, ◌++◌, ◌+◌, ◌-◌, [], ℕ, List, cond, get_or, length}
use Rattle.room_spec.specs.Rooms.{RoomSpec}
use Rattle.run_search.specs.declared.ended.Ended.{Ended}
use Rattle.run_search.specs.Choices.{Each, IsEndAt}
use Rattle.run_search.specs.Nodes.{Node}
use Rattle.run_search.specs.Outcomes.{AreEnds, IsNoted, is_stopped}
use Rattle.run_search.proofs.Choosing.{no_choice}
use Rattle.run_search.proofs.tally.Tally.+note_from.Given as goal

abbrev pub decreases-note_from : goal.decreases-note_from
decreases-note_from l = l.choices.now.count - length l.ends.now.items

abbrev pub invariant-loop-choice : goal.invariant-loop-choice
invariant-loop-choice l = record {
  same : l.ends.items ≡ l.fn.ends.items;
  count : length l.self.witnesses.items ≡ length l.self.ends.keys;
  noted : (i : ℕ) → i < l.choice-index → (get_or l.choices.all.now i no_choice).process ≡ length l.fn.ends.items → cond (is_stopped (get_or l.choices.all.now i no_choice).end) 1 0 ≤ l.left
      → Each (IsNoted l.self.ends.keys l.self.witnesses.items) l.choices.count l.choices.all.now (l.fn.ends.items ++ (get_or l.choices.all.now i no_choice).end ∷ []) (l.events + (get_or l.choices.all.now i no_choice).events) (l.left - cond (is_stopped (get_or l.choices.all.now i no_choice).end) 1 0);
  grown : (one : List Ended) (few : ℕ) → IsNoted l.fn.self.ends.keys l.fn.self.witnesses.items one few → IsNoted l.self.ends.keys l.self.witnesses.items one few;
  ends : (spec : RoomSpec) (nodes : List Node) (crashes : ℕ) → Each (IsEndAt spec nodes crashes l.choices.node) l.choices.count l.choices.all.now l.fn.ends.items l.events l.left
      → AreEnds spec nodes crashes l.fn.self.ends.keys l.fn.self.witnesses.items → AreEnds spec nodes crashes l.self.ends.keys l.self.witnesses.items;
}
