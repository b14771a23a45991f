use Rattle.std.proofs.Common.{◌≡◌, ◌∙◌, ◌++◌, List, ℕ, refl, sym}
use Rattle.room_spec.specs.Rooms.{RoomSpec}
use Rattle.view_sample.specs.Keeping.{IsBreaksText, breaks_in}
use Rattle.view_sample.proofs.KeptTexts.{none_is}
use Rattle.view_sample.proofs.RoomTexts.{of_said, own_room}
use Rattle.view_sample.proofs.kept.write_room.Goals as goal

pub returns : goal.returns
returns g c = λ said says.
    let own = own_room c.args.block.now c.in-Ok.spec c.in-Ok.field-0-1 (sym c.in_ok-spec.ensures.read ∙ c.in-Ok.is) c.requires in
    let judged = c.args.judged.now in
    of_said (λ (room : RoomSpec). (text : List ℕ) × IsBreaksText judged.task.now judged.plan.now room c.is_none.result text × (c.show_breaks.new.output ≡ c.args.output.now ++ text)) c.args.block.now c.in-Ok.spec said own says (
      breaks_in judged.plan.now c.in-Ok.spec.name c.args.block.now c.in_ok-breaks.breaks,
      record { block = c.args.block.now; says = own; breaks = c.in_ok-breaks.breaks; judged = c.in_ok-breaks.ensures; text_is = refl; kept_is = none_is c.in_ok-breaks.breaks.first c.is_none.result c.is_none.ensures },
      c.in_ok-show_breaks.ensures,
    )
