use Rattle.std.proofs.Common.{◌∙◌, ◌++◌, ◌∷◌, [], ℕ, Bool, List, Some, ap, ap₂, bytes_eq, sym, string_bytes}
use Rattle.room_sample.specs.Shown.{shown_of}
use Rattle.room_sample.specs.declared.examples.Example.{Example}
use Rattle.view_sample.specs.Json.{outcome_line}
use Rattle.std.specs.Prelude.{option_map}
use Rattle.view_sum.specs.Reading.{outcome_said}
use Rattle.view_sum.specs.Refusals.{pending_of}
use Rattle.serde_json.specs.View.{view}
use Rattle.view_sum.proofs.LineReading.{says_no_outcome, times_no_room}
use Rattle.view_sum.proofs.ListedReading.{not_written, other_room, outcome_name, outcome_read}
use Rattle.view_sum.proofs.reading.read_outcome.Goals as goal

pub returns-in_default-clause-err : goal.returns-in_default-clause-err
returns-in_default-clause-err c = (
  says_no_outcome (pending_of c.args.listed.now) c.args.line.now (view c.args.value.now) c.requires.says (sym c.in_ok-name.ensures ∙ ap (option_map outcome_said) c.in_default.is),
  times_no_room (pending_of c.args.listed.now) c.args.line.now (view c.args.value.now) c.requires.says c.requires.outcome,
)

pub returns-then-not-is_of_room-clause-err : goal.returns-then-not-is_of_room-clause-err
returns-then-not-is_of_room-clause-err c =
    let it = view c.args.value.now in
    let said = sym c.in_ok-name.ensures ∙ ap (option_map outcome_said) c.in-Some.is in
    other_room c.args.listed.now c.args.line.now it c.as_str.result.now c.is_of_room.result c.requires.says (outcome_name it (outcome_said c.in-Some.field-0) said ∙ ap Some (sym c.as_str.ensures.value)) c.is_of_room.ensures c.if-not-is_of_room.true

pub returns-then-not-branch-clause-err : goal.returns-then-not-branch-clause-err
returns-then-not-branch-clause-err c =
    let it = view c.args.value.now in
    let said = sym c.in_ok-name.ensures ∙ ap (option_map outcome_said) c.in-Some.is in (
      not_written c.args.listed.now c.args.line.now it (outcome_said c.in-Some.field-0) (string_bytes c.begin_if_none.new.listed.name) c.begin_if_none.new.listed.brief c.requires.says said c.begin_if_none.ensures.name c.begin_if_none.ensures.brief
          (sym c.in_ok-is_outcome_line.ensures ∙ c.if-not-branch.true),
      times_no_room (pending_of c.args.listed.now) c.args.line.now it c.requires.says c.requires.outcome,
    )

pub returns-clause-read : goal.returns-clause-read
returns-clause-read c =
    let name = ap string_bytes c.in_ok-add.ensures.name in
    let brief = c.in_ok-add.ensures.brief in
    outcome_read c.args.listed.now c.add.new.self c.in-Some.field-0.one c.args.line.now (string_bytes c.in-Some.field-0.name) c.in-Some.field-0.brief (name ∙ c.begin_if_none.ensures.name) (brief ∙ c.begin_if_none.ensures.brief)
    (c.in_ok-add.ensures.outcomes ∙ ap (λ (items : List Example). items ++ c.in-Some.field-0.one ∷ []) c.begin_if_none.ensures.outcomes)
    (ap₂ (λ (n : List ℕ) (b : Bool). bytes_eq (outcome_line n b (shown_of c.in-Some.field-0.one)) c.args.line.now) name brief ∙ sym c.in_ok-is_outcome_line.ensures ∙ c.if-not-branch.false)
