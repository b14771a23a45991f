use Rattle.std.proofs.Common.{◌≡◌, ◌<◌, ◌∙◌, ◌∷◌, ◌++◌, [], length, get_or, set, Some, sym, subst, arith}
use Rattle.std.specs.Prelude.{slice_get}
use Rattle.room_spec.specs.Rooms.{processes, with_inputs}
use Rattle.transcript.specs.Reductions.{MayHave}
use Rattle.transcript.specs.Runs.{process_of}
use Rattle.history_checker.proofs.Own.{had, never_again, no_process, own_read, own_there, with_other}
use Rattle.history_checker.proofs.reduction.follow_with.Goals as goal

pub returns-then-p-n : goal.returns-then-p-n
returns-then-p-n c = (c.requires, λ in_list have. no_process c.args.spec.now c.args.before.now c.args.event.now (λ below. absurd (omega (arith, below, c.if-p-n.true, c.n.ensures.value, c.process.ensures, c.from-p.ensures))) _ have)

pub again-requires-clause-some : goal.again-requires-clause-some
again-requires-clause-some c = had c.args.spec.now c.args.processes.now c.args.before.now c.requires c.from-p.result (omega (arith, c.if-p-n.false, c.n.ensures.value))

pub returns-in_default-again : goal.returns-in_default-again
returns-in_default-again c =
    let own : process_of c.args.event.now ≡ c.from-p.result = omega (arith, c.process.ensures, c.from-p.ensures) in
    let read = own_read c.args.spec.now.own c.args.i c.in-Some.input c.in-Some.ensures in
    (c.requires, λ in_list have. never_again c.args.spec.now c.args.before.now c.args.event.now c.from-p.result c.in-Some.input own c.in_default-again.ensures (rw read at have))

pub returns : goal.returns
returns c =
    let own : process_of c.args.event.now ≡ c.from-p.result = omega (arith, c.process.ensures, c.from-p.ensures) in
    let below : c.from-p.result < processes c.args.spec.now = omega (arith, c.if-p-n.false, c.n.ensures.value) in
    let read = own_read c.args.spec.now.own c.args.i c.in-Some.input c.in-Some.ensures in
    rw (c.is_ok.ensures.value, read)
    (with_other c.args.spec.now c.args.processes.now c.follow.new.processes c.args.before.now c.args.event.now c.requires c.from-p.result c.in-Some.input c.args.i below c.in-Some-again.process c.follow.result own (own_there c.args.spec.now.own c.args.i c.in-Some.input c.in-Some.ensures) c.in-Some-again.ensures
    (c.follow.ensures.follows (with_inputs c.args.spec.now (set c.requires.inputs c.from-p.result c.in-Some.input)) (sym c.rounds.ensures.value) (sym c.protocol.ensures)))
