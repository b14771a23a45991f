use Rattle.std.proofs.Common.{Bool, ◌≡◌, ◌∙◌, ◌≤◌, length, min, OnOk, ap, arith, subst}
use Rattle.std.specs.Prelude.{option_map}
use Rattle.room_sample.specs.Shown.{IsShownIf, shown_of}
use Rattle.view_sample.specs.Tasks.{first_broken}
use Rattle.view_sample.specs.Texts.{shown_count}
use Rattle.view_sample.proofs.Coming.{ordered_came}
use Rattle.view_sample.proofs.RoomTexts.{ended, fewer_listed, made_listed, on_err, whole_listed}
use Rattle.view_sample.proofs.rooms.write_listed.Goals as goal

pub examples_of-examples-requires : goal.examples_of-examples-requires
examples_of-examples-requires c = ordered_came c.args.room.now.plan.now c.args.room.now.spec.now c.args.outcomes c.sort_by_times.new.self c.sort_by_times.ensures.all c.requires.came

pub returns-in_err-write_most-clause-cut : goal.returns-in_err-write_most-clause-cut
returns-in_err-write_most-clause-cut c =
    let spec = c.args.room.now.spec.now in
    let plan = c.args.room.now.plan.now in
    let ordered = c.sort_by_times.new.self in
    let broken_is = subst (λ (scripts : Bool). IsShownIf spec plan.crashes scripts (first_broken spec c.args.outcomes) (option_map shown_of c.in_ok-broken.broken)) c.shows_breaking.ensures c.in_ok-broken.ensures in
    let examples = c.examples_of-examples.result.examples.items in
    let most = c.shown_count-most.ensures.value ∙ ap (shown_count plan.top) c.len.ensures in
    let made = c.examples_of-examples.ensures.few in
    let few : length examples ≤ shown_count plan.top (length ordered) = omega (arith, most, made) in
    let end = ended plan.json plan spec c.args.room.now.block.now c.args.outcomes c.as_ref.result c.in_ok-broken.broken c.new-end.result c.write_end.new.output c.new-end.ensures c.as_ref.ensures.value c.in_ok-write_end.ensures in
    on_err c.from_residual-in_err-write_most.result
    (fewer_listed plan spec c.args.room.now.block.now c.args.outcomes ordered examples (option_map shown_of c.in_ok-broken.broken) c.has_held-held.result c.write_end.new.output c.args.output.now c.write_most.new.output c.requires.limits c.requires.says
    c.sort_by_times.ensures.all c.in_ok-sort_by_times.ensures.sorted c.examples_of-examples.ensures.shown few broken_is c.has_held-held.ensures end
    c.in_err-write_most.ensures.cut)

pub returns-in_err-ending-clause-cut : goal.returns-in_err-ending-clause-cut
returns-in_err-ending-clause-cut c =
    let spec = c.args.room.now.spec.now in
    let plan = c.args.room.now.plan.now in
    let ordered = c.sort_by_times.new.self in
    let broken_is = subst (λ (scripts : Bool). IsShownIf spec plan.crashes scripts (first_broken spec c.args.outcomes) (option_map shown_of c.in_ok-broken.broken)) c.shows_breaking.ensures c.in_ok-broken.ensures in
    let examples = c.examples_of-examples.result.examples.items in
    let most = c.shown_count-most.ensures.value ∙ ap (shown_count plan.top) c.len.ensures in
    let made = c.examples_of-examples.ensures.few in
    let few : length examples ≤ shown_count plan.top (length ordered) = omega (arith, most, made) in
    let end = ended plan.json plan spec c.args.room.now.block.now c.args.outcomes c.as_ref.result c.in_ok-broken.broken c.new-end.result c.write_end.new.output c.new-end.ensures c.as_ref.ensures.value c.in_ok-write_end.ensures in
    on_err c.from_residual-in_err-ending.result
    (made_listed plan spec c.args.room.now.block.now c.args.outcomes ordered examples (option_map shown_of c.in_ok-broken.broken) c.has_held-held.result c.write_end.new.output c.args.output.now c.write_most.new.output c.requires.limits c.requires.says
    c.sort_by_times.ensures.all c.in_ok-sort_by_times.ensures.sorted c.examples_of-examples.ensures.shown few broken_is c.has_held-held.ensures end
    c.in_ok-write_most.ensures.text)

pub returns-clause-whole : goal.returns-clause-whole
returns-clause-whole c =
    let spec = c.args.room.now.spec.now in
    let plan = c.args.room.now.plan.now in
    let ordered = c.sort_by_times.new.self in
    let broken_is = subst (λ (scripts : Bool). IsShownIf spec plan.crashes scripts (first_broken spec c.args.outcomes) (option_map shown_of c.in_ok-broken.broken)) c.shows_breaking.ensures c.in_ok-broken.ensures in
    let examples = c.examples_of-examples.result.examples.items in
    let most = c.shown_count-most.ensures.value ∙ ap (shown_count plan.top) c.len.ensures in
    let made = subst (λ r. OnOk r (length examples ≡ min c.shown_count-most.result (length ordered))) c.in_ok-ending.was c.examples_of-examples.ensures.whole in
    let there = c.shown_count-most.ensures.few in
    let count = c.len.ensures in
    let all : length examples ≡ shown_count plan.top (length ordered) = omega (arith, most, made, there, count) in
    let end = ended plan.json plan spec c.args.room.now.block.now c.args.outcomes c.as_ref.result c.in_ok-broken.broken c.new-end.result c.write_end.new.output c.new-end.ensures c.as_ref.ensures.value c.in_ok-write_end.ensures in
    whole_listed plan spec c.args.room.now.block.now c.args.outcomes ordered examples (option_map shown_of c.in_ok-broken.broken) c.has_held-held.result c.write_end.new.output c.args.output.now c.write_most.new.output c.requires.limits c.requires.says
    c.sort_by_times.ensures.all c.in_ok-sort_by_times.ensures.sorted c.examples_of-examples.ensures.shown all broken_is c.has_held-held.ensures end
    c.in_ok-write_most.ensures.text
