use Rattle.std.proofs.Common.{◌≡◌, ℕ, List, Some, get_or, length, refl, ap, ◌∙◌, arith, below_more}
use Rattle.std.specs.Prelude.{slice_get}
use Rattle.std.proofs.lemmas.Option.{get_or_from_slice_get, slice_get-get_or}
use Rattle.room_search.specs.Nodes.{set_of}
use Rattle.room_search.proofs.choice.is_alive_in.Goals as goal

pub loop-number-preserved : goal.loop-number-preserved
loop-number-preserved c = below_more _ _ c.loop-number.invariant (
    λ local there.
    c.if-is_alive_at.ensures refl local (ap (λ (l : List ℕ). slice_get c.args.source.now.explored.now.moves.table.keys (get_or l c.loop-number.number-index 0)) c.set-number-items.ensures ∙ there)
    )

pub returns : goal.returns
returns c = λ no local may.
    let set = set_of c.args.node.now c.args.i in
    let at : get_or set may.there.0 0 ≡ may.number = get_or_from_slice_get set may.there.0 may.number 0 (slice_get-get_or set may.there.0 may.number may.there.1 ∙ ap Some may.there.2) in
    let long = ap (λ (l : List ℕ). length l) c.set-number-items.ensures in
    let inside = may.there.1 in
    c.loop-number.invariant may.there.0 (omega (arith, inside, long, c.loop-number-test.false)) local (ap (slice_get c.args.source.now.explored.now.moves.table.keys) at ∙ may.is)
