use Rattle.std.proofs.Common.{◌≡◌, ◌∙◌, ap, sym, length, true}
use Rattle.std.specs.List.{list_all}
use Rattle.room_spec.specs.Rooms.{bits_of, has_own, is_value, processes}
use Rattle.room_spec.proofs.OtherInputs.{within_with, words_with}
use Rattle.room_spec.proofs.spec.Spec.with_inputs.Goals as goal

pub invariant_of-result : goal.invariant_of-result
invariant_of-result c =
    let inside = c.room.inside in
    let many : length c.inputs_in.result.items ≡ length inside.inputs.items = ap length c.inputs_in.ensures.value ∙ c.requires ∙ ap processes (sym (c.room.view_is ∙ c.in_ok-room.ensures.cases)) in
    let small : list_all is_value c.inputs_in.result.items ≡ true = rw c.inputs_in.ensures.value c.inputs_in.ensures.small in (
      within_with _ c.inputs_in.result.items c.new.result.items c.room.invariant.0 c.new.ensures many small,
      c.room.invariant.1 ∙ words_with (length inside.inputs.items) (length c.inputs_in.result.items) inside.simulators (bits_of inside.rounds) inside.rounds (has_own inside.own.items) (has_own c.new.result.items) many,
    )
