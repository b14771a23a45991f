use Rattle.std.proofs.Common.{◌≡◌, ◌<◌, ◌≤◌, ℕ, rules, ap, subst}
use Rattle.live_script.specs.Answers.{Did, Crowded, most_rooms}
use Rattle.live_script.specs.declared.live.Live.{Live}
use Rattle.live_script.proofs.Answering.{crowded_answered, opened_answered, passes_block, where_ok}
use Rattle.live_script.proofs.live.Live.take_block.Goals as goal

pub returns-then-self-lt-MAX_ROOMS : goal.returns-then-self-lt-MAX_ROOMS
returns-then-self-lt-MAX_ROOMS c =
    let before = c.args.self.now in
    let passed = c.pass-number.new.self in
    let same : passed.opened ≡ before.opened = ap (λ (l : Live). l.opened) c.pass-number.ensures.line in
    let less : passed.opened < most_rooms = search rules in
    where_ok c.open.result _ _
    (λ opened. (
      Did opened.0,
      opened_answered c.args.block.now c.pass-number.result opened.0 before passed c.open.new.self
          (passes_block c.args.block.now c.count_lines.result before passed c.count_lines.ensures.value c.pass-number.ensures.line)
          (subst (λ (n : ℕ). n < most_rooms) same less) c.pass-number.ensures.number opened.1 opened.2,
    ))
    c.open.ensures

pub returns-else-self-lt-MAX_ROOMS : goal.returns-else-self-lt-MAX_ROOMS
returns-else-self-lt-MAX_ROOMS c =
    let before = c.args.self.now in
    let passed = c.pass-number.new.self in
    let same : passed.opened ≡ before.opened = ap (λ (l : Live). l.opened) c.pass-number.ensures.line in
    let full : most_rooms ≤ passed.opened = search rules in
    where_ok c.refuse.result _ _
    (λ refused. (
      Crowded before.line,
      crowded_answered c.args.block.now c.pass-number.result before passed c.refuse.new.self
          (passes_block c.args.block.now c.count_lines.result before passed c.count_lines.ensures.value c.pass-number.ensures.line)
          (subst (λ (n : ℕ). most_rooms ≤ n) same full) c.pass-number.ensures.number refused,
    ))
    c.refuse.ensures
