use Rattle.std.proofs.Common.{◌∙◌, ◌++◌, List, Option, length, ap, ℕ}
use Rattle.std.specs.Prelude.{option_map}
use Rattle.room_files.specs.declared.kinds.Kinds.TheVariants.{Ordinary}
use Rattle.room_files.proofs.CallerLemmas.{all_read}
use Rattle.room_sample.specs.Shown.{Shown, shown_of}
use Rattle.room_sample.proofs.CallerLemmas.{sample_came}
use Rattle.view_sample.specs.Inputs.{vector_in}
use Rattle.view_sample.proofs.Coming.{lent_shown}
use Rattle.view_sample.proofs.JudgedInputs.{judged_vector}
use Rattle.view_sample.proofs.inputs.judge_vector.Goals as goal

pub broken_example-requires : goal.broken_example-requires
broken_example-requires g c = sample_came c.in_ok-spec.spec c.args.room.now.plan.now c.args.room.now.plan.now.schedules c.in_ok-outcomes.outcomes c.in_ok-outcomes.ensures.sample

pub returns : goal.returns
returns g c =
    let plan = c.args.room.now.plan.now in
    let spec = c.in_ok-spec.spec in
    let inputs = c.args.inputs.now in
    let outcomes = c.in_ok-outcomes.outcomes in
    let broken = option_map shown_of c.in_ok-broken.broken in
    let before = c.args.output.now in
    judged_vector plan c.args.room.now.spec.now spec c.args.room.now.block.now inputs c.in_ok-spec.block outcomes broken c.has_held.result before c.show_vector.new.output c.in_ok-spec.ensures.room c.in_ok-spec.ensures.block (
      c.in_ok-outcomes.ensures.sample,
      c.in_ok-outcomes.ensures.among,
      c.in_ok-broken.ensures,
      c.shape-shape.ensures.limits,
      all_read Ordinary c.in_ok-spec.block (spec, length c.in_ok-spec.block) c.in_ok-spec.ensures.says,
      c.has_held.ensures,
      c.in_ok-show_vector.ensures ∙ ap (λ (block : List ℕ). before ++ vector_in plan spec block inputs outcomes (option_map (λ one. shown_of one.now) c.as_ref.result)) c.as_bytes.ensures
          ∙ ap (λ (one : Option Shown). before ++ vector_in plan spec c.in_ok-spec.block inputs outcomes one) (lent_shown c.as_ref.result c.in_ok-broken.broken c.as_ref.ensures.value),
    )
