use Rattle.std.proofs.Common.{◌≡◌, ◌∙◌, ◌++◌, ◌∷◌, ◌&&◌, [], ℕ, List, length, ap, subst, sym}
use Rattle.std.specs.List.{flat_map}
use Rattle.std.proofs.lemmas.List.{append_assoc}
use Rattle.history_checker.specs.Verdicts.{fed_to}
use Rattle.history_checker.proofs.CallerLemmas.{after_there, spec_there}
use Rattle.fault_text.specs.Refusals.{refusal_line}
use Rattle.view_why.specs.Why.{refusals_shown}
use Rattle.view_why.specs.Reported.{IsReported, ReportedRoom, specs_of}
use Rattle.view_why.proofs.Explaining.{SoFar, all_said, none_yet, one_more}
use Rattle.view_why.proofs.RoomLists.{all_done, one_done, room_there, spec_in}
use Rattle.view_why.proofs.answer.answer_of.Goals as goal

pub loop-reported-init : goal.loop-reported-init
loop-reported-init c =
    let start = refusals_shown c.args.json c.args.input.now c.args.refusals.now in
    let refused = flat_map refusal_line c.args.refusals.now in
    let specs = specs_of c.args.rooms.now in
    let written : c.write_refusals.new.output ≡ start = c.in_ok-write_refusals.ensures ∙ ap (λ (text : List ℕ). text ++ start) c.new-output.ensures in (
      tt,
      tt,
      [],
      sym (c.into_iter-reported-iterator.ensures.into_iter_gives ∙ c.iter-reported-items.ensures),
      λ fed reported. subst (λ (text : List ℕ). SoFar c.args.json specs start refused fed 0 text c.is_empty-all_well.result) (sym written) (none_yet c.args.json specs start refused fed c.is_empty-all_well.result c.is_empty-all_well.ensures),
    )

pub loop-reported-preserved : goal.loop-reported-preserved
loop-reported-preserved c =
    let start = refusals_shown c.args.json c.args.input.now c.args.refusals.now in
    let refused = flat_map refusal_line c.args.refusals.now in
    let rooms = c.args.rooms.now in
    let specs = specs_of rooms in
    let done = c.loop-reported.invariant.2 in
    let room = c.in-Some.reported.now in
    let rest = c.next.new.self in
    let split : rooms ≡ done ++ room ∷ rest = c.loop-reported.invariant.3 ∙ ap (λ (left : List ReportedRoom). done ++ left) c.in-Some.ensures.steps in
    let there = room_there rooms done rest room split in (
      tt,
      tt,
      done ++ room ∷ [],
      split ∙ sym (append_assoc done (room ∷ []) rest),
      λ fed reported.
          subst (λ (count : ℕ). SoFar c.args.json specs start refused fed count c.write_room.new.output (c.loop-reported.all_well && c.in_ok-all_well.field-0)) (one_done done room)
          (one_more c.args.json specs start refused fed (length done) c.loop-reported.output c.loop-reported.all_well room.spec c.write_room.new.output c.in_ok-all_well.field-0
          (c.loop-reported.invariant.4 fed reported) (spec_there spec_in rooms (length done) room there)
          (c.in_ok-all_well.ensures (fed_to room.spec.name fed) (after_there spec_in IsReported rooms fed (length done) room there reported))),
    )

pub returns : goal.returns
returns c = λ fed reported.
    let rooms = c.args.rooms.now in
    let done = c.loop-reported.invariant.2 in
    all_said c.args.json c.args.input.now c.args.refusals.now (specs_of rooms) fed (length done) c.loop-reported.output c.loop-reported.all_well c.outcome_if.result
    (all_done rooms done (c.loop-reported.invariant.3 ∙ ap (λ (left : List ReportedRoom). done ++ left) c.in-None.ensures.steps.0)) c.outcome_if.ensures (c.loop-reported.invariant.4 fed reported)
