-- What simulators propose in an agreement, and which proposal is chosen.
use Rattle.std.specs.Prelude.{ℕ, zero, suc, ◌+◌, ◌==◌, nat_le, nat_lt, ◌&&◌, Bool, true, false, List, length, min, Option, Some, None, fold, position, replicate, slice_index_or, slice_set, take, not, ◌||◌, if◌then◌else◌}
use Rattle.std.specs.List.{filter, list_any}
use Rattle.room_spec.specs.declared.spec.TheConstants.{MAX_MEMORY_WORDS}
use Rattle.transcript.specs.declared.event.Event.{Event}
use Rattle.transcript.specs.declared.event.Event.TheVariants.{Write, Snap, Decide}
use Rattle.run_columns.specs.declared.mark.StepKind.{StepKind}
use Rattle.run_columns.specs.declared.mark.StepKind.TheVariants.{StoreWrite, Propose, Enter, Look, Stand, Withdraw, LoadValue}
use Rattle.run_columns.specs.declared.mark.Mark.{Mark}
use Rattle.run_columns.specs.declared.mark.Mark.TheVariants.{Step, Crash}
use Rattle.run_columns.specs.declared.mark.Step.{Step as StepMark}
use Rattle.run_columns.specs.declared.proposals.Agreement.{Agreement}
use Rattle.run_columns.specs.declared.proposals.Fate.{Fate}
use Rattle.run_columns.specs.declared.proposals.Fate.TheVariants.{Open, Chosen, Dropped}
use Rattle.run_columns.specs.declared.sought.Sought.{Sought}
use Rattle.run_columns.specs.Columns.{simulator_of}
use Rattle.run_columns.specs.Effects.{by_any, chosen}
use Rattle.run_columns.specs.Sought.{is_sought, is_sought_step}
use Rattle.run_columns.specs.StepKinds.{is_same}

-- the steps by which a simulator does this in an agreement
abbrev pub by_one : Agreement → StepKind → ℕ → Sought
by_one agreement kind simulator = record { kind = kind; process = agreement.process; round = agreement.round; simulator = Some simulator; word = None }

abbrev pub has_done : Agreement → StepKind → ℕ → List Mark → Bool
has_done agreement kind simulator marks = list_any (is_sought (by_one agreement kind simulator)) marks

-- ---- what is proposed

-- what a simulator does to propose: in round 0, in which a reduction agrees on the input of a process, it stores a value, and in a later one a snapshot
abbrev pub proposing : ℕ → StepKind
proposing zero = StoreWrite
proposing (suc round) = Propose

abbrev pub has_proposed : Agreement → ℕ → List Mark → Bool
has_proposed agreement simulator marks = has_done agreement (proposing agreement.round) simulator marks

-- whether a step proposes an input
abbrev pub proposes_input : StepMark → Bool
proposes_input step = (step.round == 0) && is_same step.kind StoreWrite

abbrev pub word_number : Option ℕ → ℕ
word_number None = 0
word_number (Some word) = word

-- the number of a word and what a step stores in it; a room has at most four memory words
abbrev pub word_stored : StepMark → Option (ℕ × ℕ)
word_stored step = if nat_lt (word_number step.word) MAX_MEMORY_WORDS then Some (word_number step.word, step.stored) else None

abbrev pub stored_in : Sought → Mark → Option (ℕ × ℕ)
stored_in sought (Step step) = if is_sought_step sought step then word_stored step else None
stored_in sought (Crash simulator) = None

abbrev pub put : List ℕ → Option (ℕ × ℕ) → List ℕ
put words None = words
put words (Some stored) = slice_set words stored.0 stored.1

abbrev pub with_word : Sought → List ℕ → Mark → List ℕ
with_word sought words mark = put words (stored_in sought mark)

-- the memory words of which a step stores one
abbrev pub words_of : StepMark → List ℕ
words_of step = put (replicate MAX_MEMORY_WORDS 0) (word_stored step)

-- the words that a simulator stored as its proposal; 0 for each that it didn't
abbrev pub proposal : Agreement → ℕ → List Mark → List ℕ
proposal agreement simulator marks = fold (with_word (by_one agreement (proposing agreement.round) simulator)) (replicate MAX_MEMORY_WORDS 0) marks

-- a proposed input takes one word
abbrev pub proposed_input : Agreement → ℕ → List Mark → ℕ
proposed_input agreement simulator marks = slice_index_or (proposal agreement simulator marks) 0 0

-- ---- what becomes of it

abbrev pub is_snapshot_of : ℕ → Event → Bool
is_snapshot_of process (Write p v) = false
is_snapshot_of process (Snap p row) = p == process
is_snapshot_of process (Decide p v) = false

abbrev pub snapshots_of : ℕ → List Event → ℕ
snapshots_of process events = length (filter (is_snapshot_of process) events)

abbrev pub has_left : Agreement → ℕ → List Mark → Bool
has_left agreement simulator marks = has_done agreement Stand simulator marks || has_done agreement Withdraw simulator marks

-- by this a simulator did this in the agreement, and it hasn't left
abbrev pub stays_after : Agreement → StepKind → List Mark → Mark → Bool
stays_after agreement kind marks mark = is_sought (by_any kind agreement.process agreement.round) mark && not (has_left agreement (simulator_of mark) marks)

-- whether some simulator did this in the agreement
abbrev pub is_done_by_one : Agreement → StepKind → List Mark → Bool
is_done_by_one agreement kind marks = list_any (is_sought (by_any kind agreement.process agreement.round)) marks

-- The choice can be read: a proposal was kept, and no simulator is inside.
abbrev pub is_readable : Agreement → List Mark → Bool
is_readable agreement marks = is_done_by_one agreement Stand marks && not (list_any (stays_after agreement Enter marks) marks)

-- An agreement on an input is resolved if a simulator has loaded the chosen input, or can load it now.
abbrev pub is_input_resolved : Agreement → List Mark → Bool
is_input_resolved agreement marks = is_done_by_one agreement LoadValue marks || is_readable agreement marks

-- One on a snapshot is resolved if the history has the snapshot.
abbrev pub is_resolved : Agreement → List Mark → List Event → Bool
is_resolved agreement marks events =
    if agreement.round == 0 then is_input_resolved agreement marks else nat_le agreement.round (snapshots_of agreement.process events)

-- the agreement on the input of a process
abbrev pub on_input : ℕ → Agreement
on_input process = record { process = process; round = 0 }

-- an input is proposed in the agreement, which isn't resolved
abbrev pub is_input_open : Agreement → List Mark → Bool
is_input_open agreement marks = is_done_by_one agreement StoreWrite marks && not (is_input_resolved agreement marks)

abbrev pub on_snapshot : ℕ → List Event → Agreement
on_snapshot process events = record { process = process; round = min (snapshots_of process events + 1) 255 }

-- the agreement that a process needs next: on its input, or on the first snapshot that the history doesn't have
abbrev pub next_agreement : ℕ → List Mark → List Event → Agreement
next_agreement process marks events = if is_input_open (on_input process) marks then on_input process else on_snapshot process events

abbrev pub is_that : Option ℕ → ℕ → Bool
is_that None simulator = false
is_that (Some other) simulator = other == simulator

-- A resolved agreement has chosen one proposal. In another one each may still be chosen but those that were withdrawn.
abbrev pub fate_of : Agreement → ℕ → List Mark → List Event → Fate
fate_of agreement simulator marks events =
    if is_resolved agreement marks events then (if is_that (chosen agreement.process agreement.round marks) simulator then Chosen else Dropped)
    else (if has_done agreement Withdraw simulator marks then Dropped else Open)

abbrev pub is_still_open : Fate → Bool
is_still_open Open = true
is_still_open Chosen = false
is_still_open Dropped = false

-- whether a simulator has a proposal in an agreement that may still be chosen
abbrev pub is_open : Agreement → ℕ → List Mark → List Event → Bool
is_open agreement simulator marks events = has_proposed agreement simulator marks && is_still_open (fate_of agreement simulator marks events)

-- ---- when the choice is made

-- what happened up to this place, or all
abbrev pub up_to : Option ℕ → List Mark → List Mark
up_to None marks = marks
up_to (Some place) marks = take place marks

-- what happened before a simulator left the agreement with its proposal kept
abbrev pub before_one_stands : Agreement → List Mark → List Mark
before_one_stands agreement marks = up_to (position (is_sought (by_any Stand agreement.process agreement.round)) marks) marks

-- The proposal that is chosen for good, if one is: a simulator has left the agreement with its proposal kept, and each that looked before that, and so
-- may keep its own, has left. A simulator that looks later sees that a proposal was kept, and withdraws.
abbrev pub choice_of : Agreement → List Mark → Option ℕ
choice_of agreement marks =
    if list_any (stays_after agreement Look marks) (before_one_stands agreement marks) then None else chosen agreement.process agreement.round marks
