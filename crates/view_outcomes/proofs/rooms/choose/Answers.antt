use Rattle.std.proofs.Common.{List, subst, sym}
use Rattle.view_outcomes.specs.Forms.{is_brief_alone}
use Rattle.view_outcomes.specs.Listing.{AreInOrder}
use Rattle.view_outcomes.specs.declared.listing.Listed.{Listed}
use Rattle.view_outcomes.proofs.Answering.{chosen_reported, unlisted_reported}
use Rattle.view_outcomes.proofs.rooms.choose.Goals as goal

pub returns-in_ok-show_alone-in-Ok : goal.returns-in_ok-show_alone-in-Ok
returns-in_ok-show_alone-in-Ok g c =
    let search = c.args.room.now.search.now in
    let spec = c.args.room.now.spec.now in
    chosen_reported search spec c.args.room.now.block.now c.args.number c.crashes_for-crashes.result c.as_slice-all.result.now c.has_outcome.result c.args.output.now c.show_alone.new.output
    c.crashes_for-crashes.ensures
    (subst (λ (all : List Listed). AreInOrder spec c.crashes_for-crashes.result (is_brief_alone search.form search.brief) all) (sym c.as_slice-all.ensures.value) c.in-Ok.ensures.outcomes)
    c.has_outcome.ensures c.in_ok-show_alone-in-Ok.ensures

pub returns-in_ok-show_unlisted-in-Err-TooManyNodes : goal.returns-in_ok-show_unlisted-in-Err-TooManyNodes
returns-in_ok-show_unlisted-in-Err-TooManyNodes g c =
    unlisted_reported c.args.room.now.search.now c.args.room.now.spec.now c.args.room.now.block.now c.args.number c.crashes_for-crashes.result c.args.output.now c.show_unlisted.new.output
    c.crashes_for-crashes.ensures (c.in-Err-TooManyNodes.ensures.beyond c.in-Err-TooManyNodes.field-0-is) c.in_ok-show_unlisted-in-Err-TooManyNodes.ensures
