use Rattle.std.proofs.Common.{◌≡◌, ◌∙◌, ℕ, ap, arith, subst, sym}
use Rattle.room_spec.specs.Sizes.{Sizes, memory_words}
use Rattle.simulator.specs.declared.line.Line.{Line}
use Rattle.simulator.specs.declared.line.Line.TheVariants.{Snap}
use Rattle.simulator.specs.declared.turn.Turn.{Turn}
use Rattle.simulator.specs.Ranges.{at_line}
use Rattle.simulator.specs.Runs.{Runs, Wants}
use Rattle.simulator.specs.Turns.{words_in}
use Rattle.simulator.proofs.mind.Mind.along_collects.Goals as goal

pub loop-self-init : goal.loop-self-init
loop-self-init g c = record { wants = c.requires.wants; more = omega arith; most = λ most. most; continues = λ first start runs. runs }

pub loop-self-preserved : goal.loop-self-preserved
loop-self-preserved g c =
    let spec = c.args.room.now.spec.now in
    let loop = c.loop-self in
    let at = c.is_at.ensures c.loop-self-test.true in
    let row = c.take_collect-row in
    let after = c.add.new.self in
    let all : c.memory_words-words.result ≡ words_in spec = c.memory_words-words.ensures.value ∙ ap (λ (sizes : Sizes). memory_words sizes) c.shape.ensures.sizes in
    record {
      wants = subst (λ (turn : Turn). Wants g.M.Memory.serves c.args.room.now.context.now spec row.new.memory (at_line after.line row.new.self) turn) (sym c.add.ensures.turn)
          (subst (λ (line : Line). Wants g.M.Memory.serves c.args.room.now.context.now spec row.new.memory (at_line line row.new.self) row.result.turn) (sym c.add.ensures.line) row.ensures.wants);
      more = omega (arith, loop.invariant.more, c.add.ensures.count);
      most = λ most. omega (arith, at.0, c.add.ensures.count, row.ensures.count, all);
      continues = λ first start runs.
          let before = subst (λ (line : Line). Runs g.M.Memory.does spec first start loop.run.count loop.memory (at_line line loop.self) loop.run.turn) at.2 (loop.invariant.continues first start runs) in
          let then = row.ensures.continues loop.run.count first start (subst (λ (turn : Turn). Runs g.M.Memory.does spec first start loop.run.count loop.memory (at_line Snap loop.self) turn) at.1 before) in
          let counted = subst (λ (count : ℕ). Runs g.M.Memory.does spec first start count row.new.memory (at_line row.result.line row.new.self) row.result.turn) (sym c.add.ensures.count) then in
          subst (λ (turn : Turn). Runs g.M.Memory.does spec first start after.count row.new.memory (at_line after.line row.new.self) turn) (sym c.add.ensures.turn)
          (subst (λ (line : Line). Runs g.M.Memory.does spec first start after.count row.new.memory (at_line line row.new.self) row.result.turn) (sym c.add.ensures.line) counted);
    }

pub loop-self-smaller : goal.loop-self-smaller
loop-self-smaller g c =
    let at = c.is_at.ensures c.loop-self-test.true in
    let all : c.memory_words-words.result ≡ words_in c.args.room.now.spec.now = c.memory_words-words.ensures.value ∙ ap (λ (sizes : Sizes). memory_words sizes) c.shape.ensures.sizes in
    omega (arith, at.0, c.memory_words-words.ensures.range.0, c.add.ensures.count, c.take_collect-row.ensures.count, all)
