use Rattle.std.proofs.Common.{◌≡◌, ◌+◌, ◌∙◌, ◌++◌, ◌∷◌, [], List, suc, cond, map, ap, sym, arith}
use Rattle.std.proofs.lemmas.List.{append_assoc, map-append}
use Rattle.room_core.specs.Agreements.{is_passed}
use Rattle.ws_history.specs.declared.snapshots.Agreed.{Agreed}
use Rattle.ws_history.specs.Histories.{Snapshot}
use Rattle.ws_history.specs.Orders.{passed_of}
use Rattle.ws_history.specs.Placing.{agreed_at}
use Rattle.ws_history.specs.Readings.{read_of}
use Rattle.ws_history.proofs.snapshots.push_rounds.Goals as goal

pub loop-r-preserved : goal.loop-r-preserved
loop-r-preserved c =
    let room = c.args.room.now in
    let passed = is_passed room.spec (read_of room) in
    let old = c.args.agreed.now.items in
    let p = c.args.process in
    let r = c.loop-r.r in
    let new : List Snapshot = cond (passed p (r + 1)) (record { process = p; round = r + 1 } ∷ []) [] in
    let turned : suc r ≡ r + 1 = omega arith in
    c.in_ok-push_passed.ensures
    ∙ ap (λ (l : List Agreed). l ++ map (agreed_at room) new) c.loop-r.invariant
    ∙ append_assoc old (map (agreed_at room) (passed_of passed p r)) (map (agreed_at room) new)
    ∙ ap (λ (l : List Agreed). old ++ l) (sym (map-append (agreed_at room) (passed_of passed p r) new))
    ∙ ap (λ k. old ++ map (agreed_at room) (passed_of passed p k)) turned
