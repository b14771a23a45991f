use Rattle.std.proofs.Common.{◌≡◌, ◌+◌, ◌<◌, ◌∙◌, ◌++◌, ℕ, List, suc, get_or, length, map, ap, sym, arith}
use Rattle.std.proofs.lemmas.List.{map-append}
use Rattle.room_core.specs.Agreements.{is_passed}
use Rattle.sim_memory.proofs.CallerLemmas.{row_at as row_entry, row_length}
use Rattle.room_spec.specs.Rooms.{processes}
use Rattle.ws_history.specs.declared.snapshots.Agreed.{Agreed}
use Rattle.ws_history.specs.Orders.{all_passed, passed_of}
use Rattle.ws_history.specs.Placing.{agreed_at}
use Rattle.ws_history.specs.Readings.{read_of}
use Rattle.ws_history.proofs.snapshots.all_agreed.Goals as goal

pub bounds-greatest-process : goal.bounds-greatest-process
bounds-greatest-process c =
    let room = c.args.room.now in
    let long = ap length c.requires ∙ row_length room.spec.simulators (processes room.spec) (read_of room).step in
    omega (arith, long)

pub push_rounds-requires-clause-greatest : goal.push_rounds-requires-clause-greatest
push_rounds-requires-clause-greatest c =
    let room = c.args.room.now in
    let p = c.loop-process.process in
    let below : p < processes room.spec = omega arith in
    c.from.ensures ∙ ap (λ (l : List ℕ). get_or l p 0) c.requires ∙ row_entry room.spec.simulators (processes room.spec) (read_of room).step p below

pub loop-process-preserved : goal.loop-process-preserved
loop-process-preserved c =
    let room = c.args.room.now in
    let passed = is_passed room.spec (read_of room) in
    let p = c.loop-process.process in
    let turned : suc p ≡ p + 1 = omega arith in
    c.in_ok-push_rounds.ensures
    ∙ ap (λ (l : List Agreed). l ++ map (agreed_at room) (passed_of passed p room.spec.rounds)) c.loop-process.invariant
    ∙ sym (map-append (agreed_at room) (all_passed passed p room.spec.rounds) (passed_of passed p room.spec.rounds))
    ∙ ap (λ (k : ℕ). map (agreed_at room) (all_passed passed k room.spec.rounds)) turned

pub returns : goal.returns
returns c =
    let room = c.args.room.now in
    let all : c.loop-process.process ≡ processes room.spec = omega arith in
    c.loop-process.invariant ∙ ap (λ (n : ℕ). map (agreed_at room) (all_passed (is_passed room.spec (read_of room)) n room.spec.rounds)) all
