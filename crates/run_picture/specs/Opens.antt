-- The proposals that may still be chosen, in the lane of the process whose snapshot or input they are.
use Rattle.std.specs.Prelude.{ℕ, List, [], ◌∷◌, ◌++◌, Option, Some, None, codes, decimal, if◌then◌else◌}
use Rattle.std.specs.List.{flat_map, range_with_len}
use Rattle.picture_shapes.specs.declared.colour.Colour.TheVariants.{Faint}
use Rattle.picture_shapes.specs.declared.shape.Shape.{Shape}
use Rattle.picture_shapes.specs.declared.shape.Shape.TheVariants.{Hint, Label}
use Rattle.picture_shapes.specs.Places.{frame_at, moved}
use Rattle.run_columns.specs.declared.proposals.Agreement.{Agreement}
use Rattle.run_columns.specs.Proposals.{choice_of, is_open, next_agreement}
use Rattle.simulator_lanes.specs.declared.fonts.TheConstants.{SMALL}
use Rattle.simulator_lanes.specs.declared.layout.TheConstants.{LEFT}
use Rattle.simulator_lanes.specs.Panels.{Panel, events_in}
use Rattle.simulator_lanes.specs.Proposals.{proposal_words, proposer}
use Rattle.simulator_lanes.specs.Words.{clipped, simulator_name}

-- ; simulator 0 proposed 1 .
unfoldable pub proposal_if : Panel → Agreement → ℕ → List ℕ
proposal_if panel agreement simulator =
    if is_open agreement simulator panel.marks (events_in panel.report) then codes "; " ++ (proposer simulator ++ proposal_words panel agreement simulator) else []

unfoldable pub open_proposals : Panel → Agreement → List ℕ
open_proposals panel agreement = flat_map (proposal_if panel agreement) (range_with_len 0 panel.head.spec.simulators)

-- simulator 1's, not readable
unfoldable pub owner_words : ℕ → List ℕ
owner_words simulator = simulator_name simulator ++ codes "'s, not readable"

-- whose proposal is chosen for good, if one is
unfoldable pub chosen_words : ℕ → List ℕ
chosen_words simulator = codes "; chosen: " ++ owner_words simulator

abbrev pub choice_words : Option ℕ → List ℕ
choice_words None = []
choice_words (Some simulator) = chosen_words simulator

-- round 1 is not resolved; chosen: simulator 1's, not readable; simulator 0 proposed 1 .; simulator 1 proposed 1 1
unfoldable pub open_words : Agreement → Option ℕ → List ℕ → List ℕ
open_words agreement choice proposals = codes "round " ++ (decimal agreement.round ++ (codes " is not resolved" ++ (choice_words choice ++ proposals)))

-- a hint has all of them if there isn't space for them
unfoldable pub open_label : ℕ → List ℕ → List Shape
open_label y words =
    Label (moved (record { x = LEFT; y = y }) 0 33) SMALL Faint (clipped 80 words)
    ∷ Hint (frame_at (moved (record { x = LEFT; y = y }) 0 24) 500 12) words
    ∷ []

abbrev pub shapes_of : ℕ → Agreement → Option ℕ → List ℕ → List Shape
shapes_of y agreement choice [] = []
shapes_of y agreement choice (byte ∷ bytes) = open_label y (open_words agreement choice (byte ∷ bytes))

-- what may be chosen in an agreement
abbrev pub open_in : ℕ → Panel → Agreement → List Shape
open_in y panel agreement = shapes_of y agreement (choice_of agreement panel.marks) (open_proposals panel agreement)

-- an agreement in which nothing is proposed isn't mentioned
abbrev pub open_shapes : ℕ → Panel → ℕ → List Shape
open_shapes y panel process =
    open_in y panel (next_agreement process panel.marks (events_in panel.report))
