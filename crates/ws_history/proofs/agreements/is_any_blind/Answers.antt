use Rattle.std.proofs.Common.{◌≡◌, ◌∙◌, ◌<◌, ℕ, true, Bool, get_or, sym, ap, arith}
use Rattle.std.specs.List.{range_with_len}
use Rattle.std.proofs.lemmas.List.FromFn.{length-range_with_len, get_or-range_with_len}
use Rattle.room_core.specs.Agreements.{has_looked_blind}
use Rattle.ws_history.specs.Readings.{read_of}
use Rattle.ws_history.proofs.Searching.{any_is, any_none}
use Rattle.ws_history.proofs.agreements.is_any_blind.Goals as goal

pub returns-then-has_looked_blind : goal.returns-then-has_looked_blind
returns-then-has_looked_blind c =
    let F = read_of c.args.room.now in
    let m = c.args.room.now.spec.simulators in
    let below : c.loop-i.i < m = omega arith in
    let test : ℕ → Bool = λ i. has_looked_blind F i c.args.j c.args.k in
    let here : test c.loop-i.i ≡ true = sym c.has_looked_blind.ensures ∙ c.if-has_looked_blind.true in
    let at : get_or (range_with_len 0 m) c.loop-i.i 0 ≡ c.loop-i.i = let e = get_or-range_with_len 0 m c.loop-i.i 0 below in omega (arith, e) in
    sym (any_is test (range_with_len 0 m) c.loop-i.i 0 (let long = length-range_with_len 0 m in omega (arith, long, below)) (ap test at ∙ here))

pub returns : goal.returns
returns c =
    let F = read_of c.args.room.now in
    let m = c.args.room.now.spec.simulators in
    let test : ℕ → Bool = λ i. has_looked_blind F i c.args.j c.args.k in
    sym (any_none test (range_with_len 0 m) 0 (λ a less.
    let long = length-range_with_len 0 m in
    let low : a < m = omega (arith, long, less) in
    let at : get_or (range_with_len 0 m) a 0 ≡ a = let e = get_or-range_with_len 0 m a 0 low in omega (arith, e) in
    ap test at ∙ c.loop-i.invariant a (omega arith)))
