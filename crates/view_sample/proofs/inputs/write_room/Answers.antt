use Rattle.std.proofs.Common.{◌≡◌, ◌++◌, List, ℕ}
use Rattle.room_spec.specs.Rooms.{RoomSpec}
use Rattle.view_sample.specs.Inputs.{IsInputsText}
use Rattle.view_sample.proofs.JudgedInputs.{said_room}
use Rattle.view_sample.proofs.RoomTexts.{of_said}
use Rattle.view_sample.proofs.inputs.write_room.Goals as goal

pub returns : goal.returns
returns g c = λ said says.
    let asked = c.args.asked.now in
    let block = c.args.block.now in
    of_said (λ (room : RoomSpec). (text : List ℕ) × IsInputsText asked.plan.now asked.values.now room c.in_ok-well.well text × (c.judge_room.new.output ≡ c.args.output.now ++ text)) block c.in_ok-spec.spec said c.in_ok-spec.ensures.says says
    (said_room asked.plan.now asked.values.now c.in_ok-spec.spec block c.in_ok-well.well c.args.output.now c.judge_room.new.output c.in_ok-spec.ensures.says c.in_ok-well.ensures)
