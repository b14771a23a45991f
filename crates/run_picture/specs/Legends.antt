-- What the letters stand for, below all rooms.
use Rattle.std.specs.Prelude.{ℕ, ◌+◌, ◌*◌, ◌/◌, ◌%◌, nat_le, ◌&&◌, ◌||◌, not, Bool, true, false, List, [], ◌∷◌, ◌++◌, is_some, codes, length, if◌then◌else◌}
use Rattle.std.specs.List.{filter, list_any}
use Rattle.picture_shapes.specs.declared.colour.Colour.TheVariants.{Faint}
use Rattle.picture_shapes.specs.declared.shape.Shape.{Shape}
use Rattle.picture_shapes.specs.declared.shape.Shape.TheVariants.{Label}
use Rattle.run_columns.specs.declared.mark.StepKind.{StepKind}
use Rattle.run_columns.specs.declared.mark.StepKind.TheVariants.{Propose}
use Rattle.run_columns.specs.declared.mark.Mark.{Mark}
use Rattle.run_columns.specs.declared.mark.Mark.TheVariants.{Step, Crash}
use Rattle.run_columns.specs.Columns.{most_columns}
use Rattle.run_columns.specs.Proposals.{proposes_input}
use Rattle.run_columns.specs.StepKinds.{all_kinds, is_same, letter_of, meaning_of}
use Rattle.simulator_lanes.specs.declared.fonts.TheConstants.{LEGEND, WORDS}
use Rattle.simulator_lanes.specs.declared.layout.TheConstants.{MARGIN}
use Rattle.simulator_lanes.specs.Panels.{Panel}
use Rattle.run_picture.specs.declared.picture.Style.{Style}

-- ---- the letters that occur

abbrev pub shows_kind : StepKind → Mark → Bool
shows_kind kind (Step step) = is_same step.kind kind
shows_kind kind (Crash simulator) = false

-- there are letters in the picture of a room if each column is a step
abbrev pub has_letters : Style → Panel → Bool
has_letters style panel = not style.by_turns && nat_le (length panel.marks) most_columns

abbrev pub has_letter : Style → StepKind → Panel → Bool
has_letter style kind panel = has_letters style panel && list_any (shows_kind kind) panel.marks

abbrev pub kinds_in : Style → List Panel → List StepKind
kinds_in style panels = filter (λ kind. list_any (has_letter style kind) panels) all_kinds

unfoldable pub legend_entry : ℕ → StepKind → List Shape
legend_entry index kind =
    Label (record { x = MARGIN + 150 * (index % 4); y = 16 + 18 * (index / 4) }) LEGEND Faint (letter_of kind)
    ∷ Label (record { x = MARGIN + 150 * (index % 4) + 16; y = 16 + 18 * (index / 4) }) WORDS Faint (meaning_of kind)
    ∷ []

-- four in a row
abbrev pub legend_from : ℕ → List StepKind → List Shape
legend_from index [] = []
legend_from index (kind ∷ kinds) = legend_entry index kind ++ legend_from (index + 1) kinds

-- ---- what else is to be explained

-- a step on one of several words has the number of the word
abbrev pub has_word : Mark → Bool
has_word (Step step) = is_some step.word
has_word (Crash simulator) = false

abbrev pub has_words : Style → Panel → Bool
has_words style panel = has_letters style panel && list_any has_word panel.marks

unfoldable pub note : ℕ → List ℕ → List Shape
note y words = Label (record { x = MARGIN; y = y }) WORDS Faint words ∷ []

abbrev pub words_note : List ℕ
words_note = codes "S0, V1, ..: the number of the word, of several that a snapshot takes"

-- a step proposes an input
abbrev pub shows_input : Mark → Bool
shows_input (Step step) = proposes_input step
shows_input (Crash simulator) = false

abbrev pub has_inputs : Style → Panel → Bool
has_inputs style panel = has_letters style panel && list_any shows_input panel.marks

abbrev pub snapshots_note : List ℕ
snapshots_note = codes "below V: how many writes of each process it proposes; framed: chosen"

abbrev pub inputs_note : List ℕ
inputs_note = codes "below W in round 0: the input that it proposes; framed: chosen"

abbrev pub both_note : List ℕ
both_note = codes "proposed below V: how many writes of each process; below W: an input; framed: chosen"

-- what is below the squares, if snapshots are proposed, and inputs
abbrev pub proposals_note : Bool → Bool → List ℕ
proposals_note true true = both_note
proposals_note true false = snapshots_note
proposals_note false inputs = inputs_note

abbrev pub dropped_note : List ℕ
dropped_note = codes "struck through: withdrawn, or another was chosen"

abbrev pub proposals_notes : Bool → Bool → List Shape
proposals_notes snapshots inputs = if snapshots || inputs then note 72 (proposals_note snapshots inputs) ++ note 88 dropped_note else []

abbrev pub notes : Style → List Panel → List Shape
notes style panels =
    proposals_notes (list_any (has_letter style Propose) panels) (list_any (has_inputs style) panels)
    ++ (if list_any (has_words style) panels then note 104 words_note else [])

-- the letters, and what else is to be explained
abbrev pub legend_shapes : Style → List Panel → List Shape
legend_shapes style panels = legend_from 0 (kinds_in style panels) ++ notes style panels
