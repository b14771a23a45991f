use Rattle.std.proofs.Common.{ℕ, ◌<◌, ◌++◌, ◌∷◌, [], length, get_or}
use Rattle.transcript.specs.Reductions.{MayHave}
use Rattle.transcript.specs.Runs.{process_of}
use Rattle.history_checker.specs.Reductions.{TracksSome}
use Rattle.history_checker.proofs.reduction.follow_some.Given as goal

abbrev pub invariant-loop-i : goal.invariant-loop-i
invariant-loop-i l = record {
  tracks : TracksSome l.spec l.processes l.before;
  none : (k : ℕ) → k < l.i → k < length l.spec.own → MayHave l.spec (l.before ++ l.event ∷ []) (process_of l.event) (get_or l.spec.own k 0) → ⊥;
}
