use Rattle.std.proofs.Common.{◌≡◌, ◌∙◌, ◌<◌, ℕ, ap, subst, arith, rules}
use Rattle.room_core.specs.Calls.{room_after_steps, step_reply}
use Rattle.room_core.specs.declared.reply.StepReply.TheVariants.{Stepped}
use Rattle.room_sample.specs.declared.stretch.Stretch.TheVariants.{Steps}
use Rattle.room_search.proofs.Scheduling.{goes_on_by, no_crash}
use Rattle.room_search.proofs.running.Scheduled.step.Goals as goal

pub returns : goal.returns
returns c = λ start crashes way.
    let count = c.steps-count.result in
    let none = no_crash c.args.simulator count in
    let same : c.from.result ≡ c.args.simulator = search rules in
    let most : c.from-2.result ≡ c.args.most = search rules in
    goes_on_by start crashes c.args.self.now _ (Steps c.args.simulator count) way
    (omega (arith, c.if-count-eq0.false), omega (arith, c.steps-count.ensures.most, most), subst (λ (i : ℕ). (k : ℕ) → k < count → step_reply (room_after_steps c.args.self.now.room i k) i ≡ Stepped) same c.steps-count.ensures.taken)
    (c.steps-count.ensures.room ∙ ap (λ (i : ℕ). room_after_steps c.args.self.now.room i count) same) c.in_ok-push.ensures.items (omega (arith, none))
