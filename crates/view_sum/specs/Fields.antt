-- What the members of a value of JSON say.
use Rattle.std.specs.Prelude.{ℕ, suc, ◌^◌, Bool, false, nat_lt, nat_le, List, [], ◌∷◌, Option, Some, None, is_some, option_map, option_and_then, codes, if◌then◌else◌}
use Rattle.std.specs.Str.{bytes_eq}
use Rattle.serde_json.specs.Data.{Data, Items, no_items, item}
use Rattle.serde_json.specs.Find.{as_array, as_bool, as_null, as_number, as_str, as_u64, get}
use Rattle.ws_history.specs.declared.states.ProcessState.{ProcessState}
use Rattle.ws_history.specs.declared.states.ProcessState.TheVariants.{Decided, Spent, Held, Going}
use Rattle.room_sample.specs.Shown.{Shown}
use Rattle.room_sample.specs.declared.stretch.Stretch.{Stretch}
use Rattle.room_sample.specs.declared.stretch.Stretch.TheVariants.{Steps, Crash}

abbrev pub text_at : List ℕ → Data → Option (List ℕ)
text_at key it = option_and_then as_str (get key it)

-- a number below a power of 2
abbrev pub below : ℕ → Option ℕ → Option ℕ
below limit None = None
below limit (Some n) = if nat_lt n limit then Some n else None

abbrev pub number_at : List ℕ → Data → Option ℕ
number_at key it = below (2 ^ 32) (option_and_then as_u64 (option_and_then as_number (get key it)))

abbrev pub flag_at : List ℕ → Data → Option Bool
flag_at key it = option_and_then as_bool (get key it)

abbrev pub is_null_in : Option Data → Bool
is_null_in None = false
is_null_in (Some it) = is_some (as_null it)

abbrev pub is_null_at : List ℕ → Data → Bool
is_null_at key it = is_null_in (get key it)

abbrev pub items_at : List ℕ → Data → Option Items
items_at key it = option_and_then as_array (get key it)

-- ---- an outcome

abbrev pub state_of_word : List ℕ → Data → Option ProcessState
state_of_word word it =
    if bytes_eq word (codes "decided") then option_map Decided (number_at (codes "value") it) else if bytes_eq word (codes "held") then option_map Held (below (2 ^ 8) (number_at (codes "by") it)) else if bytes_eq word (codes "spent") then Some Spent else if bytes_eq word (codes "going") then Some Going else None

abbrev pub state_at : Data → Option ProcessState
state_at it = option_and_then (λ word. state_of_word word it) (text_at (codes "state") it)

-- what each item says, if each says something
abbrev pub each_in : {A : Type 0} → (Data → Option A) → Items → Option (List A)
each_in f no_items = Some []
each_in f (item it items) = option_and_then (λ one. option_map (λ more. one ∷ more) (each_in f items)) (f it)

abbrev pub items_length : Items → ℕ
items_length no_items = 0
items_length (item it items) = suc (items_length items)

-- the states of 16 processes at most
abbrev pub states_among : Items → Option (List ProcessState)
states_among items = if nat_le (items_length items) 16 then each_in state_at items else None

abbrev pub states_at : Data → Option (List ProcessState)
states_at it = option_and_then states_among (items_at (codes "processes") it)

abbrev pub steps_by : Option ℕ → Option ℕ → Option Stretch
steps_by None count = None
steps_by (Some simulator) count = option_map (Steps simulator) count

abbrev pub stretch_at : Data → Option Stretch
stretch_at it =
    if is_some (get (codes "crash") it) then option_map Crash (below (2 ^ 8) (number_at (codes "simulator") it)) else steps_by (below (2 ^ 8) (number_at (codes "simulator") it)) (below (2 ^ 16) (number_at (codes "steps") it))

abbrev pub schedule_in : Option Items → Option (List Stretch)
schedule_in None = Some []
schedule_in (Some items) = each_in stretch_at items

-- the schedule, which is empty if it is left out
abbrev pub schedule_at : Data → Option (List Stretch)
schedule_at it = schedule_in (items_at (codes "schedule") it)

-- what a line may say of an outcome: the room's name, whether the schedule is left out, and the outcome
pub record OutcomeSaid : Type 0 where
  pub name : List ℕ
  pub brief : Bool
  pub one : Shown

abbrev pub outcome_by : Bool → Option (List ℕ) → Option (List ProcessState) → Option ℕ → Option ℕ → Option (List Stretch) → Option OutcomeSaid
outcome_by brief (Some name) (Some states) (Some times) (Some first) (Some schedule) = Some (record { name = name; brief = brief; one = record { states = states; times = times; first = first; schedule = schedule } })
outcome_by brief _ _ _ _ _ = None

abbrev pub outcome_at : Data → Option OutcomeSaid
outcome_at it = outcome_by (is_null_at (codes "schedule") it) (text_at (codes "room") it) (states_at it) (number_at (codes "times") it) (number_at (codes "first") it) (schedule_at it)

-- ---- a room

-- what a line may say of a room that doesn't follow from its outcomes, and how many these are
pub record RoomSaid : Type 0 where
  pub name : List ℕ
  pub crashes : ℕ
  pub seed : ℕ
  pub from : ℕ
  pub grouped : Bool
  pub decided : ℕ
  pub held : ℕ
  pub broken : Option ℕ
  pub count : ℕ

abbrev pub room_by : List ℕ → Option ℕ → Option ℕ → Option ℕ → Option Bool → Option ℕ → Option ℕ → Option ℕ → Option ℕ → Option RoomSaid
room_by name crashes seed from grouped decided held broken count =
    option_and_then
    (λ crashes.
    option_and_then
    (λ seed.
    option_and_then
    (λ from.
    option_and_then
    (λ grouped.
    option_and_then
    (λ decided.
    option_and_then
    (λ held.
    option_map (λ count. record { name = name; crashes = crashes; seed = seed; from = from; grouped = grouped; decided = decided; held = held; broken = broken; count = count }) count)
    held)
    decided)
    grouped)
    from)
    seed)
    crashes

abbrev pub room_of : List ℕ → Data → Option RoomSaid
room_of name it =
    room_by name (number_at (codes "crashes") it) (number_at (codes "seed") it) (number_at (codes "from") it) (flag_at (codes "grouped") it) (number_at (codes "decided_at_most") it) (number_at (codes "held_at_most") it) (number_at (codes "task_broken") it) (number_at (codes "outcomes") it)

abbrev pub room_at : Data → Option RoomSaid
room_at it = option_and_then (λ name. room_of name it) (text_at (codes "room") it)
