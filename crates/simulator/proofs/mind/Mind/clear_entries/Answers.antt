use Rattle.std.proofs.Common.{◌∙◌, ℕ, List, [], Option, ap}
use Rattle.room_spec.specs.Rooms.{processes}
use Rattle.simulator.specs.contracts.mind.Mind.{the_view}
use Rattle.simulator.specs.Minds.{MindState}
use Rattle.simulator.specs.Moves.{entry_in}
use Rattle.simulator.specs.Turns.{padded}
use Rattle.simulator.proofs.mind.Mind.clear_entries.Goals as goal

pub returns : goal.returns
returns c =
    let spec = c.args.spec.now in
    let words = c.self.inside.snapshot in
    let items = c.pad.ensures spec words c.shape.ensures.sizes c.last_writes-last.ensures ∙ ap (λ (entries : List (Option ℕ)). padded (entry_in spec words) (processes spec) entries) c.new-self-inside.ensures in
    ap (λ (entries : List (Option ℕ)). record (the_view c.self.inside) { entries = entries }) items
    ∙ ap (λ (mind : MindState). record mind { entries = padded (entry_in spec mind.snapshot) (processes spec) [] }) c.self.view_is
