use Rattle.std.proofs.Common.{◌≡◌, ◌++◌, ◌∷◌, [], ℕ, Some, length, take, subst, sym}
use Rattle.std.proofs.lemmas.List.{take_more, length-take-le}
use Rattle.history_checker.specs.Reasons.{IsLastWrite}
use Rattle.history_checker.proofs.Explaining.{last_write_here, last_write_still}
use Rattle.history_checker.proofs.reason.last_write.Goals as goal
use Rattle.history_checker.proofs.reason.last_write.Goals.{in-Some, in_default}

pub loop-at-preserved : goal.loop-at-preserved
loop-at-preserved c =
    let before = take c.loop-at.at c.args.events.now in
    let here : length before ≡ c.loop-at.at = length-take-le c.loop-at.at c.args.events.now c.loop-at.auto.at-end in
    rw (take_more c.args.events.now c.loop-at.at c.index-events-at.result c.loop-at-test.true, ← c.index-events-at.is)
    (elim c.match-written_by.branch [
      | in-Some w ↦ rw w.last-is (subst (λ (n : ℕ). IsLastWrite (before ++ c.index-events-at.result ∷ []) c.args.process (Some (record { value = w.in-Some.value; at = n }))) here
          (last_write_here before c.index-events-at.result c.args.process w.in-Some.value (sym w.in-Some.ensures)))
      | in_default w ↦ rw w.last-is (last_write_still before c.index-events-at.result c.args.process c.loop-at.last (sym w.in_default.ensures) c.loop-at.invariant)
    ])
