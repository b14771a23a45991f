use Rattle.std.proofs.Common.{◌≡◌, ◌∙◌, ℕ, sym, ap, arith, rules}
use Rattle.room_core.specs.Calls.{crash_reply, room_after_crash}
use Rattle.room_sample.specs.declared.stretch.Stretch.TheVariants.{Crash}
use Rattle.room_search.proofs.Scheduling.{goes_on_by, one_crash}
use Rattle.room_search.proofs.running.Scheduled.crash.Goals as goal

pub returns : goal.returns
returns c = λ start crashes way.
    let one = one_crash c.args.simulator in
    let same : c.from.result ≡ c.args.simulator = search rules in
    goes_on_by start crashes c.args.self.now _ (Crash c.args.simulator) way
    (ap (λ (i : ℕ). crash_reply c.args.self.now.room i) (sym same) ∙ sym c.crash.ensures.reply ∙ c.in-Crashed.is) (c.crash.ensures.room ∙ ap (λ (i : ℕ). room_after_crash c.args.self.now.room i) same) c.in_ok-push.ensures.items (omega (arith, one, c.if-self-eq0.false))
