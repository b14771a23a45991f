-- The inputs of a reduction's processes, as the words say them.
use Rattle.std.proofs.Common.{◌≡◌, ◌∙◌, ℕ, suc, zero, ◌≤◌, Bool, true, List, Some, None, cond, refl, ap, arith}
use Rattle.std.specs.Prelude.{slice_index, unwrap_or, ◌&&◌}
use Rattle.std.specs.List.{list_any, range_with_len}
use Rattle.room_spec.specs.Rooms.{RoomSpec, is_reduction}
use Rattle.room_core.specs.Agreements.{input_at, is_input_known, shown_of}
use Rattle.room_search.specs.Ends.{fields_by}

any_of : (a m : ℕ) → 1 ≤ m → list_any (λ i. true) (range_with_len a m) ≡ true
any_of a zero some = absurd (omega arith)
any_of a (suc m) some = refl

all_known : (spec : RoomSpec) (words : List ℕ) (j : ℕ) → 1 ≤ spec.simulators → is_reduction spec ≡ true → is_input_known spec (fields_by spec words) j ≡ true
all_known spec words j some kind =
    ap (λ (b : Bool). b && list_any (λ i. true) (range_with_len 0 spec.simulators)) kind ∙ any_of 0 spec.simulators some

pub input_by_words : (spec : RoomSpec) (words : List ℕ) (j : ℕ) → 1 ≤ spec.simulators → is_reduction spec ≡ true → input_at spec (fields_by spec words) j ≡ (fields_by spec words).value (shown_of spec (fields_by spec words) j 0) j 0
input_by_words spec words j some kind =
    ap (λ (b : Bool). unwrap_or (cond b (Some ((fields_by spec words).value (shown_of spec (fields_by spec words) j 0) j 0)) None) (slice_index spec.inputs j)) (all_known spec words j some kind)
