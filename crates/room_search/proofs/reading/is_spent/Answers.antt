use Rattle.std.proofs.Common.{◌≡◌, ◌∙◌, ℕ, true, false, Bool, ap, sym}
use Rattle.std.specs.Prelude.{◌&&◌}
use Rattle.room_spec.specs.Sizes.{sizes_in}
use Rattle.level_cells.specs.Fields.{levels_of}
use Rattle.safe_agreement.specs.Levels as agreement
use Rattle.view_table.specs.Words.{word_at}
use Rattle.view_table.specs.declared.place.Place.TheVariants.{Levels}
use Rattle.room_core.specs.Agreements.{asks, is_resolved}
use Rattle.room_core.specs.Settled.{is_write}
use Rattle.room_search.specs.Ends.{fields_by}
use Rattle.room_search.proofs.reading.is_spent.Goals as goal

pub returns-in-Write : goal.returns-in-Write
returns-in-Write c =
    let spec = c.args.subject.now.spec.now in
    let F = fields_by spec c.args.words.now in
    let word : c.levels_word.result ≡ word_at (sizes_in spec) c.args.words.now (Levels c.args.j c.rounds-last.result) = c.levels_word.ensures in
    let read : agreement.is_resolved (levels_of c.levels_word.result c.m.result) ≡ is_resolved spec F c.args.j c.rounds-last.result =
    ap (λ (w : ℕ). agreement.is_resolved (levels_of w c.m.result)) word ∙ ap (λ (m : ℕ). agreement.is_resolved (levels_of (word_at (sizes_in spec) c.args.words.now (Levels c.args.j c.rounds-last.result)) m)) c.m.ensures.value in
    let resolved : is_resolved spec F c.args.j c.rounds-last.result ≡ true = sym read ∙ sym c.is_resolved.ensures ∙ c.if-is_resolved.true in
    let write : is_write (asks spec F c.args.j c.rounds-last.result) ≡ true = ap is_write (sym c.asks.ensures ∙ c.in-Write.is) in
    sym (sym (ap (λ (last : ℕ). is_resolved spec F c.args.j last && is_write (asks spec F c.args.j last)) c.rounds-last.ensures.value)
    ∙ ap (λ (b : Bool). b && is_write (asks spec F c.args.j c.rounds-last.result)) resolved ∙ write)

pub returns-in_default : goal.returns-in_default
returns-in_default c =
    let spec = c.args.subject.now.spec.now in
    let F = fields_by spec c.args.words.now in
    let word : c.levels_word.result ≡ word_at (sizes_in spec) c.args.words.now (Levels c.args.j c.rounds-last.result) = c.levels_word.ensures in
    let read : agreement.is_resolved (levels_of c.levels_word.result c.m.result) ≡ is_resolved spec F c.args.j c.rounds-last.result =
    ap (λ (w : ℕ). agreement.is_resolved (levels_of w c.m.result)) word ∙ ap (λ (m : ℕ). agreement.is_resolved (levels_of (word_at (sizes_in spec) c.args.words.now (Levels c.args.j c.rounds-last.result)) m)) c.m.ensures.value in
    let resolved : is_resolved spec F c.args.j c.rounds-last.result ≡ true = sym read ∙ sym c.is_resolved.ensures ∙ c.if-is_resolved.true in
    let write : is_write (asks spec F c.args.j c.rounds-last.result) ≡ false = ap is_write (sym c.asks.ensures ∙ c.in_default.is) in
    sym (sym (ap (λ (last : ℕ). is_resolved spec F c.args.j last && is_write (asks spec F c.args.j last)) c.rounds-last.ensures.value)
    ∙ ap (λ (b : Bool). b && is_write (asks spec F c.args.j c.rounds-last.result)) resolved ∙ write)
