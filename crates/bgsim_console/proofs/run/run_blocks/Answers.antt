use Rattle.std.proofs.Common.{◌≡◌, ◌∙◌, ◌==◌, ap, length, refl, rules}
use Rattle.room_files.specs.Verdicts.{outcome_if}
use Rattle.room_files.specs.Inputs.{all_blocks}
use Rattle.room_files.specs.declared.kinds.Kinds.TheVariants.{Ordinary}
use Rattle.bgsim_console.proofs.RunTexts.{adds_after, is_run_text}
use Rattle.bgsim_console.proofs.run.run_blocks.Goals as goal

pub returns-clause-output : goal.returns-clause-output
returns-clause-output g c =
    let empty : c.is_empty.result ≡ (length c.rooms.inside.refused == 0) = search rules in (
      c.in_ok-reports.ensures.workers,
      is_run_text c.rooms.inside.rooms c.rooms.inside.refused c.rooms.inside.line c.in_ok-rooms.field-0 (all_blocks Ordinary c.args.input.items) c.into_values-specs.result c.rooms.inside.refused
          c.in_ok-both.field-0 c.outcome_if-outcome.result c.rooms.view_is (c.in_ok-rooms.ensures.read ∙ ap (all_blocks Ordinary) c.deref.ensures.value) c.into_values-specs.ensures refl
          (adds_after c.into_values-specs.result c.rooms.inside.refused c.in_ok-reports.reports c.in_ok-both.field-0 c.in_ok-reports.ensures.reports c.in_ok-both.ensures) (c.outcome_if-outcome.ensures ∙ ap outcome_if empty),
    )
