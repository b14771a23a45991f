use Rattle.std.proofs.Common.{◌≡◌, ◌∙◌, ◌++◌, ℕ, List, Option, Some, None, ap, rules, subst, sym}
use Rattle.room_core.specs.Calls.{RoomState}
use Rattle.room_files.specs.BlockLists.{whole_block}
use Rattle.service_core.specs.Rooms.{room_at}
use Rattle.transcript.specs.declared.event.Event.{Event}
use Rattle.view_transcript.specs.Transcripts.{HasBlock}
use Rattle.view_transcript.proofs.Looking.{where_ok}
use Rattle.view_transcript.proofs.text.write_block_of.Goals as goal

pub returns : goal.returns
returns c =
    let kept = c.args.kept.now in
    let block = c.in_ok-block.block.items in
    let none : kept.events ≡ None = search rules in
    let there : room_at c.args.service.now c.args.name.now ≡ Some c.in-Some.room.now = search rules in
    let written : c.as_slice.result.now ≡ block = search rules in
    where_ok c.write_block-2.result _ _
    (λ is. (
      block,
      subst (λ (e : Option (List Event)). HasBlock (room_at c.args.service.now c.args.name.now) kept.block e block) (sym none)
          (subst (λ (r : Option RoomState). HasBlock r kept.block None block) (sym there) c.in_ok-block.ensures),
      is ∙ ap (λ (b : List ℕ). c.args.output.now ++ whole_block b) written,
    ))
    c.write_block-2.ensures
