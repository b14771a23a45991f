use Rattle.std.proofs.Common.{◌≡◌, ℕ, List, length, rules, sym, subst}
use Rattle.room_spec.specs.Grammar.{IsBlock}
use Rattle.room_spec.specs.Rooms.{RoomSpec, with_inputs}
use Rattle.run_blocks.proofs.inputs.room_with.Goals as goal

pub read_again-requires : goal.read_again-requires
read_again-requires c =
    let own : c.as_bytes.result.now ≡ c.in_ok-text.text = search rules in
    let want = with_inputs c.args.spec.now c.args.inputs.now in
    (want, subst (λ (t : List ℕ). IsBlock t want (length t)) (sym own) c.in_ok-text.ensures.valid)

pub returns-clause-room : goal.returns-clause-room
returns-clause-room c =
    let own : c.as_bytes.result.now ≡ c.in_ok-text.text = search rules in
    let want = with_inputs c.args.spec.now c.args.inputs.now in
    c.in_ok-room.ensures.exact want (subst (λ (t : List ℕ). IsBlock t want (length t)) (sym own) c.in_ok-text.ensures.valid)

pub returns-clause-valid : goal.returns-clause-valid
returns-clause-valid c =
    let own : c.as_bytes.result.now ≡ c.in_ok-text.text = search rules in
    let want = with_inputs c.args.spec.now c.args.inputs.now in
    let room = c.in_ok-room.ensures.exact want (subst (λ (t : List ℕ). IsBlock t want (length t)) (sym own) c.in_ok-text.ensures.valid) in
    subst (λ (r : RoomSpec). IsBlock c.in_ok-text.text r (length c.in_ok-text.text)) (sym room) c.in_ok-text.ensures.valid
