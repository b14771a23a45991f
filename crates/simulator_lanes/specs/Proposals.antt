-- The proposals of the simulators, each under the step that completes it: one that was chosen is framed, and one that can't be chosen is struck through.
use Rattle.std.specs.Prelude.{ℕ, ◌+◌, ◌*◌, ◌==◌, ◌&&◌, ◌||◌, Bool, List, [], ◌∷◌, ◌++◌, codes, decimal, drop, length, min, if◌then◌else◌}
use Rattle.std.specs.List.{flat_map}
use Rattle.picture_shapes.specs.declared.colour.Colour.{Colour}
use Rattle.picture_shapes.specs.declared.colour.Colour.TheVariants.{Clear, Hue, White}
use Rattle.picture_shapes.specs.declared.shape.Dashes.TheVariants.{Solid}
use Rattle.picture_shapes.specs.declared.shape.Font.{Font}
use Rattle.picture_shapes.specs.declared.shape.Point.{Point}
use Rattle.picture_shapes.specs.declared.shape.Shape.{Shape}
use Rattle.picture_shapes.specs.declared.shape.Shape.TheVariants.{Area, Hint, Label}
use Rattle.picture_shapes.specs.Places.{frame_at, moved}
use Rattle.run_columns.specs.declared.column.Column.{Column}
use Rattle.run_columns.specs.declared.column.Scale.{Scale}
use Rattle.run_columns.specs.declared.column.Scale.TheVariants.{Steps, Turns, Simulators}
use Rattle.run_columns.specs.declared.mark.StepKind.TheVariants.{Propose}
use Rattle.run_columns.specs.declared.mark.Mark.{Mark}
use Rattle.run_columns.specs.declared.mark.Mark.TheVariants.{Step, Crash}
use Rattle.run_columns.specs.declared.mark.Step.{Step as StepMark}
use Rattle.run_columns.specs.declared.proposals.Agreement.{Agreement}
use Rattle.run_columns.specs.declared.proposals.Fate.{Fate}
use Rattle.run_columns.specs.declared.proposals.Fate.TheVariants.{Open, Chosen, Dropped}
use Rattle.run_columns.specs.Columns.{simulator_of}
use Rattle.run_columns.specs.StepKinds.{is_same}
use Rattle.run_columns.specs.Proposals.{fate_of, proposal, proposed_input, proposes_input, word_number}
use Rattle.step_words.specs.Sights.{counts_text}
use Rattle.simulator_lanes.specs.declared.fonts.TheConstants.{DROPPED, PROPOSAL}
use Rattle.simulator_lanes.specs.declared.layout.Grid.{Grid}
use Rattle.simulator_lanes.specs.Layout.{cell}
use Rattle.simulator_lanes.specs.Panels.{Panel, events_in, words_in}
use Rattle.simulator_lanes.specs.Words.{clipped, process_round, simulator_name}

-- ---- words

-- a snapshot in the words of `trace`: for each process how many writes of it the snapshot shows, or `.` for none, after a space
abbrev pub counts_of : Panel → Agreement → ℕ → List ℕ
counts_of panel agreement simulator = counts_text panel.head.spec (proposal agreement simulator panel.marks)

-- an input, after a space
abbrev pub input_of : Panel → Agreement → ℕ → List ℕ
input_of panel agreement simulator = 32 ∷ decimal (proposed_input agreement simulator panel.marks)

-- what a simulator proposes: in round 0 an input, and in a later one a snapshot
unfoldable pub proposal_words : Panel → Agreement → ℕ → List ℕ
proposal_words panel agreement simulator = if agreement.round == 0 then input_of panel agreement simulator else counts_of panel agreement simulator

-- under a step there is space for twelve bytes
unfoldable pub short_words : List ℕ → List ℕ
short_words words = clipped 10 (drop 1 words)

unfoldable pub fate_words : Fate → List ℕ
fate_words Open = codes ", not resolved"
fate_words Chosen = codes ", chosen"
fate_words Dropped = codes ", not chosen"

unfoldable pub proposer : ℕ → List ℕ
proposer simulator = simulator_name simulator ++ codes " proposed"

-- simulator 0 proposed 1 . for process 0, round 1, chosen
unfoldable pub proposal_hint : Agreement → ℕ → List ℕ → Fate → List ℕ
proposal_hint agreement simulator words fate =
    proposer simulator ++ (words ++ (codes " for " ++ (process_round agreement.process agreement.round ++ fate_words fate)))

-- ---- shapes

abbrev pub fate_outline : Fate → ℕ → Colour
fate_outline Open process = Clear
fate_outline Chosen process = Hue process
fate_outline Dropped process = Clear

abbrev pub fate_font : Fate → Font
fate_font Open = PROPOSAL
fate_font Chosen = PROPOSAL
fate_font Dropped = DROPPED

abbrev pub proposal_width : List ℕ → ℕ
proposal_width words = 6 * min (length words) 100 + 4

-- a proposal with these words, in the lane that begins here
unfoldable pub proposal_box : Point → ℕ → List ℕ → List ℕ → Fate → List Shape
proposal_box corner process words hint fate =
    Area (frame_at (moved corner 0 47) (proposal_width words) 11) 2 White (fate_outline fate process) Solid
    ∷ Label (moved corner 3 55) (fate_font fate) (Hue process) words
    ∷ Hint (frame_at (moved corner 0 47) (proposal_width words) 11) hint
    ∷ []

abbrev pub agreement_of : StepMark → Agreement
agreement_of step = record { process = step.process; round = step.round }

abbrev pub proposal_with : Point → StepMark → List ℕ → Fate → List Shape
proposal_with corner step words fate =
    proposal_box corner step.process (short_words words) (proposal_hint (agreement_of step) step.simulator words fate) fate

unfoldable pub proposal_at : Panel → Point → StepMark → List Shape
proposal_at panel corner step =
    proposal_with corner step (proposal_words panel (agreement_of step) step.simulator) (fate_of (agreement_of step) step.simulator panel.marks (events_in panel.report))

-- a step completes a proposal if it stores an input, or the last word of a snapshot
abbrev pub completes : ℕ → StepMark → Bool
completes words step = proposes_input step || (is_same step.kind Propose && (word_number step.word + 1 == words))

abbrev pub proposal_by : Mark → Panel → Point → List Shape
proposal_by (Step step) panel corner = if completes (words_in panel) step then proposal_at panel corner step else []
proposal_by (Crash simulator) panel corner = []

abbrev pub proposal_in : Grid → Panel → Column → List Shape
proposal_in grid panel column = proposal_by column.first panel (cell grid (simulator_of column.first) column.place)

unfoldable pub all_proposals : Grid → Panel → List Column → List Shape
all_proposals grid panel columns = flat_map (proposal_in grid panel) columns

-- there is space for them if each column is a step
abbrev pub proposals_at : Scale → Grid → Panel → List Column → List Shape
proposals_at Steps grid panel columns = all_proposals grid panel columns
proposals_at Turns grid panel columns = []
proposals_at Simulators grid panel columns = []

abbrev pub proposals : Grid → Panel → List Column → List Shape
proposals grid panel columns = proposals_at grid.scale grid panel columns
