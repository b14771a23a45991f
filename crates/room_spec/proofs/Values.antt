-- What a room's protocol makes of inputs up to the greatest value is no greater.
use Rattle.std.proofs.Common.{arith, ◌≡◌, ℕ, zero, suc, ◌<◌, ◌≤◌, true, List, [], ◌∷◌, Option, length, get_or}
use Rattle.std.specs.List.{AllByRecursion, list_all}
use Rattle.std.proofs.lemmas.Bool.{and_parts, leb-true}
use Rattle.protocol_lang.specs.Numbers.{greatest}
use Rattle.protocol_lang.specs.Limits.{IsEntry, action_value}
use Rattle.protocol_lang.specs.Meaning.{first_value, next_action}
use Rattle.protocol_lang.proofs.CallerLemmas.{first_small, next_small}
use Rattle.room_spec.specs.Rooms.{RoomSpec, AreOwn, IsWithinLimits, is_value, processes}
use Rattle.room_spec.specs.declared.version.Version.{Version}

values_small : (values : List ℕ) (j : ℕ) → list_all is_value values ≡ true → get_or values j 0 ≤ greatest
values_small [] j all = omega arith
values_small (value ∷ values) zero all = leb-true value greatest (and_parts (is_value value) (list_all is_value values) all).0
values_small (value ∷ values) (suc j) all = values_small values j (and_parts (is_value value) (list_all is_value values) all).1

pub input_small : (spec : RoomSpec) (j : ℕ) → IsWithinLimits spec → get_or spec.inputs j 0 ≤ greatest
input_small spec j limits = values_small spec.inputs j limits.values

own_small : (own : List ℕ) (version : Version) (inputs : List ℕ) (m i : ℕ) → AreOwn own version inputs m → get_or own i 0 ≤ greatest
own_small [] version inputs m i are = omega arith
own_small (first ∷ others) version inputs m i are = values_small (first ∷ others) i are.3

pub own_input_small : (spec : RoomSpec) (i : ℕ) → IsWithinLimits spec → get_or spec.own i 0 ≤ greatest
own_input_small spec i limits = own_small spec.own spec.version spec.inputs spec.simulators i limits.own

pub first_of_input : (spec : RoomSpec) (input j : ℕ) → IsWithinLimits spec → input ≤ greatest → j < processes spec → first_value spec.protocol input j (processes spec) ≤ greatest
first_of_input spec input j limits small within =
    first_small spec.protocol input j (processes spec) limits.numerals small (omega (arith, limits.shape.n_range.1)) (omega (arith, limits.shape.n_range.1))

pub next_of_input : (spec : RoomSpec) (input j round : ℕ) (view : List (Option ℕ)) → IsWithinLimits spec → input ≤ greatest → j < processes spec → round ≤ spec.rounds → length view ≡ processes spec → AllByRecursion IsEntry view → action_value (next_action spec.protocol input j round view) ≤ greatest
next_of_input spec input j round view limits small within early width entries =
    next_small spec.protocol input j round view limits.numerals small (omega (arith, limits.shape.n_range.1)) (omega (arith, limits.shape.rounds_range.1)) (omega (arith, limits.shape.n_range.1)) entries

pub first_in_room : (spec : RoomSpec) (j : ℕ) → IsWithinLimits spec → j < processes spec → first_value spec.protocol (get_or spec.inputs j 0) j (processes spec) ≤ greatest
first_in_room spec j limits within = first_of_input spec (get_or spec.inputs j 0) j limits (input_small spec j limits) within

pub next_in_room : (spec : RoomSpec) (j round : ℕ) (view : List (Option ℕ)) → IsWithinLimits spec → j < processes spec → round ≤ spec.rounds → length view ≡ processes spec → AllByRecursion IsEntry view → action_value (next_action spec.protocol (get_or spec.inputs j 0) j round view) ≤ greatest
next_in_room spec j round view limits within early width entries = next_of_input spec (get_or spec.inputs j 0) j round view limits (input_small spec j limits) within early width entries
