use Rattle.std.proofs.Common.{◌∙◌, ℕ, List, Option, ap}
use Rattle.protocol_lang.specs.Meaning.{next_action}
use Rattle.room_core.specs.Agreements.{input_at, shown_by}
use Rattle.room_search.specs.Ends.{fields_by}
use Rattle.room_search.proofs.reading.asks.Goals as goal

pub returns : goal.returns
returns c =
    let spec = c.args.subject.now.spec.now in
    let view = c.shown_by-view.ensures.value ∙ ap (λ (l : List ℕ). shown_by spec (fields_by spec c.args.words.now) l) (c.as_slice.ensures.value ∙ c.row_at-row.ensures.value) in
    c.next.ensures
    ∙ ap (λ q. next_action q c.input_by-input.result c.args.j c.args.k c.shown_by-view.result.items) c.protocol.ensures
    ∙ ap (λ (x : ℕ). next_action spec.protocol x c.args.j c.args.k c.shown_by-view.result.items) c.input_by-input.ensures
    ∙ ap (λ (l : List (Option ℕ)). next_action spec.protocol (input_at spec (fields_by spec c.args.words.now) c.args.j) c.args.j c.args.k l) view
