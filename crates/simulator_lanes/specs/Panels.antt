-- What is drawn of a room.
use Rattle.std.specs.Prelude.{◌≡◌, ℕ, List, [], Option, Some, None}
use Rattle.transcript.specs.declared.event.Event.{Event}
use Rattle.ws_history.specs.declared.states.ProcessState.{ProcessState}
use Rattle.ws_history.specs.declared.states.Report.{Report}
use Rattle.room_spec.specs.Rooms.{RoomSpec}
use Rattle.room_spec.specs.Sizes.{memory_words, sizes_in}
use Rattle.simulator_lanes.specs.declared.panel.Head.{Head}
use Rattle.run_columns.specs.declared.mark.Mark.{Mark}

-- a room's spec, and the block that says it
pub record IsHeadOf (spec : RoomSpec) (block : List ℕ) (head : Head) : Type 0 where
  pub same_spec : head.spec ≡ spec
  pub same_block : head.block.items ≡ block

-- its spec; what happened in it, in order; and its final state, once that is known
pub record Panel : Type 0 where
  pub head : Head
  pub marks : List Mark
  pub report : Option Report

abbrev pub states_in : Option Report → List ProcessState
states_in None = []
states_in (Some report) = report.states.items

abbrev pub events_in : Option Report → List Event
events_in None = []
events_in (Some report) = report.history

-- of how many words a snapshot is read
abbrev pub words_in : Panel → ℕ
words_in panel = memory_words (sizes_in panel.head.spec)
