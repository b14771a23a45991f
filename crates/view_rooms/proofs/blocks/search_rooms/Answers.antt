use Rattle.std.proofs.Common.{Bool, ◌&&◌, List, ℕ, ap, ◌∙◌, subst}
use Rattle.room_files.specs.Blocks.{Setup}
use Rattle.room_files.specs.Verdicts.{outcome_if}
use Rattle.view_rooms.specs.Blocks.{AreRoomsWritten}
use Rattle.view_rooms.specs.Rooms.{AddsOutcomes}
use Rattle.view_rooms.proofs.blocks.search_rooms.Goals as goal

pub returns : goal.returns
returns g c =
    let same = c.rooms.view_is ∙ c.in_ok-rooms.ensures.read in
    subst (λ (setup : Setup). AreRoomsWritten c.args.plan.now setup c.outcome_if-outcome.result c.write_rooms.new.output) same
    (record {
      well = c.in_ok-is_well.is_well;
      rooms =
          subst (λ (start : List ℕ). AddsOutcomes c.args.plan.now c.rooms.inside.rooms.rooms c.in_ok-is_well.is_well start c.write_rooms.new.output) c.refused_in-output.ensures c.in_ok-is_well.ensures;
      outcome_is = c.outcome_if-outcome.ensures ∙ ap (λ (accepted : Bool). outcome_if (accepted && c.in_ok-is_well.is_well)) c.is_empty-is_accepted.ensures;
    })
