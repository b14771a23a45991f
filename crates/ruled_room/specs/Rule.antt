-- The rule of a room's table: what holds between any two operations on it.
use Rattle.std.specs.Prelude.{◌≡◌, ℕ, suc, false, List, ◌⊎◌, length, take, replicate, Some, None, slice_index}
use mathlib.Core.Option.{some}
use lib.ListN.{get_elem?}
use Rattle.atomic_table.specs.Table.{State}
use Rattle.room_spec.specs.Rooms.{RoomSpec}
use Rattle.room_spec.specs.Sizes.{sizes_in}
use Rattle.view_table.specs.Places.{words_of}
use Rattle.room_core.specs.Rooms.{Configuration}
use Rattle.ruled_room.specs.declared.rule.Progress.{Progress}
use Rattle.ruled_room.specs.declared.rule.View.{View}
use Rattle.ruled_room.specs.Runs.{IsInterleavingOf}
use Rattle.ruled_room.specs.Views.{minds_of_all, operations_of_all, progress_in}

-- how many words the room has; the table has one more, which says whether the room has begun
abbrev pub word_count : RoomSpec → ℕ
word_count spec = words_of (sizes_in spec)

-- the room of the table's first words and these simulators' minds, in which no simulator has crashed
abbrev pub room_of : RoomSpec → List ℕ → List Progress → Configuration
room_of spec words simulators = record { spec = spec; words = take (word_count spec) words; minds = minds_of_all simulators; crashed = replicate spec.simulators false }

-- what a seat knows of a simulator's progress is so, and that simulator's owner is this seat and no other
abbrev pub AreHeldBy : (ℕ → ℕ) → List Progress → List View → Type 0
AreHeldBy owner simulators views =
    (seat : ℕ) (view : View) (i : ℕ) (progress : Progress) → get_elem? views seat ≡ some view → progress_in view i ≡ Some progress → (owner i ≡ seat) × (get_elem? simulators i ≡ some progress)

-- before the room has begun no seat holds a mind, and all words are 0
pub record IsBlank (spec : RoomSpec) (words : List ℕ) (views : List View) : Type 0 where
  pub zeros : words ≡ replicate (suc (word_count spec)) 0
  pub nobody : (seat : ℕ) (view : View) (i : ℕ) → get_elem? views seat ≡ some view → progress_in view i ≡ None

-- after it the words and the minds are those of one interleaving of just the operations that the simulators have done
pub record IsRunning (spec : RoomSpec) (words : List ℕ) (views : List View) : Type 0 where
  pub simulators : List Progress
  pub owner : ℕ → ℕ
  pub begun : slice_index words (word_count spec) ≡ 1
  pub long : length words ≡ suc (word_count spec)
  pub run : IsInterleavingOf (room_of spec words simulators) (operations_of_all simulators)
  pub held : AreHeldBy owner simulators views

abbrev pub Kept : {S : Type 0} → RoomSpec → State S View → Type 0
Kept spec table = IsBlank spec table.words table.views ⊎ IsRunning spec table.words table.views
