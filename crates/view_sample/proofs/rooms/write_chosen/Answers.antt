use Rattle.std.proofs.Common.{◌∙◌, ◌-◌, length, Bool, Option, ap, rules, subst}
use Rattle.std.specs.Prelude.{option_map, slice_get}
use Rattle.room_sample.specs.Samples.{CameByFirst, Counted, counted_of}
use Rattle.room_sample.specs.Shown.{IsShownIf, shown_of}
use Rattle.view_sample.specs.Rooms.{shows_alone}
use Rattle.view_sample.proofs.Coming.{if_found, lent_there, one_found, ordered_came}
use Rattle.view_sample.proofs.RoomTexts.{alone_reported, chosen}
use Rattle.view_sample.proofs.rooms.write_chosen.Goals as goal

pub example_of-requires : goal.example_of-requires
example_of-requires c =
    if_found (λ one. counted_of (one.0.now, one.1.now)) (CameByFirst c.args.room.now.spec.now c.args.room.now.plan.now) c.get-found.result (slice_get c.sort_by_times.new.self c.saturating_sub.result) c.get-found.ensures
    (one_found (CameByFirst c.args.room.now.spec.now c.args.room.now.plan.now) c.sort_by_times.new.self c.saturating_sub.result (ordered_came c.args.room.now.plan.now c.args.room.now.spec.now c.args.outcomes c.sort_by_times.new.self c.sort_by_times.ensures.all c.requires.came))

pub returns-clause-whole : goal.returns-clause-whole
returns-clause-whole c =
    let spec = c.args.room.now.spec.now in
    let plan = c.args.room.now.plan.now in
    let ordered = c.sort_by_times.new.self in
    let found = c.get-found.ensures ∙ ap (slice_get ordered) c.saturating_sub.ensures in
    let shown = option_map shown_of c.in_ok-shown.shown in
    let is = subst (λ (one : Option Counted). IsShownIf spec plan.crashes (shows_alone plan) one shown) found
    (subst (λ (scripts : Bool). IsShownIf spec plan.crashes scripts (option_map (λ one. counted_of (one.0.now, one.1.now)) c.get-found.result) shown) c.shows_alone-scripts.ensures c.in_ok-shown.ensures) in
    let text = c.write_one.new.output in
    chosen c.args.number plan spec c.args.room.now.block.now c.args.outcomes ordered shown c.is_some-is_there.result c.args.output.now c.put_long.new.self text c.requires.limits c.requires.says c.sort_by_times.ensures.all c.in_ok-sort_by_times.ensures.sorted is
    (c.is_some-is_there.ensures ∙ lent_there (λ one. counted_of (one.0.now, one.1.now)) c.get-found.result (slice_get ordered (c.args.number - 1)) found)
    (alone_reported plan.json plan spec.name c.args.room.now.block.now c.len.result (length ordered) c.args.number c.as_ref.result c.in_ok-shown.shown c.new-text.result text c.new-text.ensures c.len.ensures c.as_ref.ensures.value c.in_ok-write_one.ensures)
    (c.in_ok-put_long.ensures.text ∙ search rules)
