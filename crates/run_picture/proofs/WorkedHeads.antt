-- The heads of two rooms of two processes: an ordinary room, and a reduction whose simulators have the inputs 7 and 3.
use Rattle.std.proofs.Common.{◌≡◌, [], ◌∷◌, refl}
use Rattle.std.specs.Prelude.{codes}
use Rattle.std.specs.Fmt.{digits}
use Rattle.room_spec.specs.Rooms.{RoomSpec}
use Rattle.run_picture.specs.Heads.{inputs_count, inputs_words, numbers_words, ordinary_words, own_count, own_words, processes_words, reduction_words, room_words, rounds_words}
use Rattle.simulator_lanes.specs.Words.{counted}

ordinary_head : (spec : RoomSpec)
    → room_words (record spec { inputs = 7 ∷ 3 ∷ []; own = []; simulators = 2; rounds = 1 }) ≡ codes "2 processes with inputs 7 3, 2 simulators, 1 round"
unfolding ordinary_words processes_words inputs_count inputs_words numbers_words rounds_words counted digits
ordinary_head spec = refl

-- not agreed on, each input of a process is the first simulator's; the head has the simulators' own
reduction_head : (spec : RoomSpec)
    → room_words (record spec { inputs = 7 ∷ 7 ∷ 7 ∷ []; own = 7 ∷ 3 ∷ []; simulators = 2; rounds = 1 })
    ≡ codes "3 processes, 2 simulators with inputs 7 3, 1 round"
unfolding reduction_words own_words own_count inputs_words rounds_words counted digits
reduction_head spec = refl
