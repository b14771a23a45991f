use Rattle.std.proofs.Common.{◌≡◌, ◌<◌, ◌⊎◌, ℕ, get_or}
use Rattle.std.specs.Int.{bit_at}
use Rattle.std.specs.List.{Contains}
use Rattle.run_search.specs.Marks.{mark_of}
use Rattle.run_search.specs.States.{blank}
use Rattle.run_search.specs.declared.local_state.LocalState.{LocalState}
use Rattle.run_search.proofs.mark.with_marks.Given as goal

abbrev pub invariant-loop-local : goal.invariant-loop-local
invariant-loop-local l = record {
  kept : (k : ℕ) → bit_at l.marks k ≡ 1 → bit_at l.all k ≡ 1;
  all : (i : ℕ) → i < l.local-index → bit_at l.all (mark_of l.p (get_or l.set i blank)) ≡ 1;
  each : (k : ℕ) → bit_at l.all k ≡ 1 → (bit_at l.marks k ≡ 1) ⊎ ((local : LocalState) × Contains l.set local × (mark_of l.p local ≡ k));
}
