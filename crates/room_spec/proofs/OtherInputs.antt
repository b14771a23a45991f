-- A room whose processes have other inputs.
use Rattle.std.proofs.Common.{◌≡◌, ℕ, true, Bool, List, [], length, refl}
use Rattle.std.specs.List.{list_all}
use Rattle.room_spec.specs.Rooms.{RoomSpec, IsWithinLimits, is_value}
use Rattle.room_spec.specs.Sizes.{memory_words}

pub within_with : (spec : RoomSpec) (inputs own : List ℕ) → IsWithinLimits spec → own ≡ [] → length inputs ≡ length spec.inputs → list_all is_value inputs ≡ true → IsWithinLimits (record spec { inputs = inputs; own = own })
within_with spec inputs own limits ordinary many small = record {
  name = limits.name;
  shape = rw many limits.shape;
  width = rw many limits.width;
  turns = limits.turns;
  task = limits.task;
  fuses = limits.fuses;
  values = small;
  own = rw ordinary tt;
  numerals = limits.numerals;
}

-- there are as many memory words in either kind of room
pub words_with : (n other m bits rounds : ℕ) (reduction ordinary : Bool) → other ≡ n → memory_words (record { n = n; m = m; bits = bits; rounds = rounds; reduction = reduction }) ≡ memory_words (record { n = other; m = m; bits = bits; rounds = rounds; reduction = ordinary })
unfolding memory_words
words_with n other m bits rounds reduction ordinary same = rw same refl
