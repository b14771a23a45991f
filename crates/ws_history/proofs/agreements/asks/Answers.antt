use Rattle.std.proofs.Common.{◌∙◌, ℕ, List, Option, ap}
use Rattle.protocol_lang.specs.Meaning.{next_action}
use Rattle.room_spec.specs.Rooms.{RoomSpec, processes}
use Rattle.room_spec.specs.Sizes.{sizes_in}
use Rattle.sim_memory.specs.Steps.{row_of, step_in}
use Rattle.room_core.specs.Agreements.{input_at, shown_by}
use Rattle.ws_history.specs.Readings.{read_of}
use Rattle.ws_history.proofs.agreements.asks.Goals as goal

pub returns : goal.returns
returns c =
    let room = c.args.room.now in
    let same = c.spec-spec.ensures.value in
    let row = c.row_of-row.ensures.value
    ∙ ap (λ (s : RoomSpec). row_of s.simulators (processes s) (step_in (sizes_in s) c.view_at.result.now)) same
    ∙ c.view_at.ensures.row in
    let view = c.shown_by-view.ensures.value ∙ ap (λ (l : List ℕ). shown_by room.spec (read_of room) l) (c.as_slice.ensures.value ∙ row) in
    c.next.ensures
    ∙ ap (λ q. next_action q c.input_at.result c.args.j c.args.k c.shown_by-view.result.items) (c.protocol.ensures ∙ ap (λ (s : RoomSpec). s.protocol) same)
    ∙ ap (λ (x : ℕ). next_action room.spec.protocol x c.args.j c.args.k c.shown_by-view.result.items) c.input_at.ensures
    ∙ ap (λ (l : List (Option ℕ)). next_action room.spec.protocol (input_at room.spec (read_of room) c.args.j) c.args.j c.args.k l) view
