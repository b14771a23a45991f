use Rattle.std.proofs.Common.{◌∙◌, ℕ, eqb, sym, arith}
use Rattle.std.proofs.lemmas.List.FromFn.{length-map-range_with_len}
use Rattle.std.proofs.lemmas.List.Quantifiers.{position-Some}
use Rattle.room_core.specs.Fields.{levels_at}
use Rattle.ws_history.specs.Readings.{read_of}
use Rattle.ws_history.proofs.agreements.shown_of.Goals as goal

pub returns-in-Some-clause-below : goal.returns-in-Some-clause-below
returns-in-Some-clause-below c =
    let room = c.args.room.now in
    let levels = levels_at room.spec (read_of room) c.args.j c.args.k in
    let place = position-Some (λ (one : ℕ). eqb one 2) levels c.in-Some.simulator 0 (sym c.least_with.ensures ∙ c.in-Some.is) in
    let long = length-map-range_with_len (λ (i : ℕ). (read_of room).level i c.args.j c.args.k) 0 room.spec.simulators in
    omega (arith, place.0, long)
