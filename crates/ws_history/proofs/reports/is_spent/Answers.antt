use Rattle.std.proofs.Common.{◌≡◌, ◌∙◌, ℕ, true, false, Bool, ap, sym}
use Rattle.std.specs.Prelude.{◌&&◌}
use Rattle.room_core.specs.Agreements.{asks, is_resolved}
use Rattle.ws_history.specs.Readings.{read_of}
use Rattle.room_core.specs.Settled.{is_write}
use Rattle.ws_history.proofs.reports.is_spent.Goals as goal

pub returns-in-Write : goal.returns-in-Write
returns-in-Write c =
    let spec = c.args.room.now.spec in
    let F = read_of c.args.room.now in
    let resolved : is_resolved spec F c.args.j c.round_count-last.result ≡ true = sym c.is_resolved.ensures ∙ c.if-is_resolved.true in
    let write : is_write (asks spec F c.args.j c.round_count-last.result) ≡ true = ap is_write (sym c.asks.ensures ∙ c.in-Write.is) in
    sym (sym (ap (λ (last : ℕ). is_resolved spec F c.args.j last && is_write (asks spec F c.args.j last)) c.round_count-last.ensures.value)
    ∙ ap (λ (b : Bool). b && is_write (asks spec F c.args.j c.round_count-last.result)) resolved ∙ write)

pub returns-in_default : goal.returns-in_default
returns-in_default c =
    let spec = c.args.room.now.spec in
    let F = read_of c.args.room.now in
    let resolved : is_resolved spec F c.args.j c.round_count-last.result ≡ true = sym c.is_resolved.ensures ∙ c.if-is_resolved.true in
    let write : is_write (asks spec F c.args.j c.round_count-last.result) ≡ false = ap is_write (sym c.asks.ensures ∙ c.in_default.is) in
    sym (sym (ap (λ (last : ℕ). is_resolved spec F c.args.j last && is_write (asks spec F c.args.j last)) c.round_count-last.ensures.value)
    ∙ ap (λ (b : Bool). b && is_write (asks spec F c.args.j c.round_count-last.result)) resolved ∙ write)
