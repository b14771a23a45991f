use Rattle.std.proofs.Common.{◌≡◌, ◌∙◌, ℕ, ap, sym, subst}
use Rattle.room_core.specs.Calls.{RoomState, Crash}
use Rattle.room_core.specs.Fields.{crash_reply_in, fields_after_crash}
use Rattle.room_core.specs.Reading.{AreFieldsOf}
use Rattle.room_core.proofs.CallerLemmasOnSpecs.{same_spec}
use Rattle.service_core.proofs.Answering.{no_crash, crash_answers}
use Rattle.service_core.proofs.room.crash.Goals as goal

pub returns-then-not-has_simulator-clause-reply : goal.returns-then-not-has_simulator-clause-reply
returns-then-not-has_simulator-clause-reply c = λ name state is.
    no_crash c.args.room.now state name c.args.sim is (sym c.has_simulator.ensures ∙ c.if-not-has_simulator.true)

pub returns-clause-reply : goal.returns-clause-reply
returns-clause-reply c = λ name state is.
    let room = c.args.room.now in
    let crashed = subst (λ (i : ℕ). (c.crash.result ≡ crash_reply_in room.spec state.fields i) × AreFieldsOf c.crash.new.self (fields_after_crash room.spec state.fields i)) c.from.ensures (c.crash.ensures.fields state.fields is.fields) in
    let same = ap (λ (r : RoomState). r.spec) c.crash.ensures.room ∙ same_spec room (Crash c.from.result) in
    crash_answers room c.crash.new.self state name c.args.sim c.crash.result is (sym c.has_simulator.ensures ∙ c.if-not-has_simulator.false) same crashed
