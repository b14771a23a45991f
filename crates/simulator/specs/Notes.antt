-- What was noted of memory words.
use Rattle.std.specs.Prelude.{◌≡◌, ℕ, false, ◌<◌, ◌≤◌, List, slice_index}
use Rattle.room_spec.specs.Rooms.{RoomSpec, bits_of, processes}
use Rattle.room_spec.specs.Sizes.{Sizes}
use Rattle.sim_memory.specs.Steps.{holder_of, merged_of, step_in}
use Rattle.simulator.specs.Moves.{entry_in, holder_in}

-- the sizes of a room of which these numbers were noted; what memory words show is the same in an ordinary room and in a reduction
abbrev pub noted_sizes : ℕ → ℕ → ℕ → Sizes
noted_sizes n m rounds = record { n = n; m = m; bits = bits_of rounds; rounds = rounds; reduction = false }

-- of each of the n processes the last write that the words show, read by these numbers; of none, where n is 0
abbrev pub IsNote : ℕ → ℕ → ℕ → List ℕ → List ℕ → List ℕ → Type 0
IsNote n m rounds words holders last =
    (p : ℕ) → p < n → (slice_index holders p ≡ holder_of m (step_in (noted_sizes n m rounds) words) p) × (slice_index last p ≡ merged_of m (step_in (noted_sizes n m rounds) words) p) × (slice_index holders p < m) × (slice_index last p ≤ rounds)

-- of each process of the room the last write that the words show
abbrev pub AreLastWrites : RoomSpec → List ℕ → List ℕ → List ℕ → Type 0
AreLastWrites spec words holders rounds =
    (p : ℕ) → p < processes spec → (slice_index holders p ≡ holder_in spec words p) × (slice_index rounds p ≡ entry_in spec words p) × (slice_index holders p < spec.simulators) × (slice_index rounds p ≤ spec.rounds)
