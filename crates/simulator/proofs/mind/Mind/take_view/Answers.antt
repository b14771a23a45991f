use Rattle.std.proofs.Common.{◌≡◌, ◌∙◌, ℕ, ◌+◌, ◌<◌, List, [], ap, arith, refl, subst, sym}
use Rattle.room_spec.specs.Shapes.{sizes_of}
use Rattle.room_spec.specs.Sizes.{Sizes, memory_words}
use Rattle.view_table.specs.Places.{index_of}
use Rattle.view_table.specs.declared.place.Place.TheVariants as places
use Rattle.simulator.specs.declared.operation.Move.TheVariants as moves
use Rattle.simulator.specs.declared.line.Line.{Line}
use Rattle.simulator.specs.declared.line.Line.TheVariants.{GetView}
use Rattle.simulator.specs.declared.turn.Turn.TheVariants.{Still}
use Rattle.simulator.specs.Minds.{MindState}
use Rattle.simulator.specs.Moves.{entry_in}
use Rattle.simulator.specs.Parts.{IsPartOf}
use Rattle.simulator.specs.Ranges.{at_line}
use Rattle.simulator.specs.Runs.{Continues}
use Rattle.simulator.specs.Turns.{TakenOf, counted_by, gathered, goes_on, words_in}
use Rattle.simulator.proofs.Longer.{step_then}
use Rattle.simulator.proofs.Rowed.{at_word, fits_row, none_yet, views_at, view_next, view_last}
use Rattle.simulator.proofs.mind.Mind.take_view.Goals as goal

pub loop-word-init : goal.loop-word-init
loop-word-init g c =
    let all : c.memory_words-words.result ≡ words_in c.args.room.now.spec.now = c.memory_words-words.ensures.value ∙ ap (λ (sizes : Sizes). memory_words sizes) c.part-part.ensures.0 in
    record {
      on = none_yet g.M.Memory.serves g.M.Memory.does c.args.room.now.context.now c.args.room.now.spec.now c.args.memory.now (GetView c.args.chosen) c.args.self.now c.requires.word c.requires.wants;
      less = omega (arith, c.memory_words-words.ensures.range.0);
      all = all;
      part = c.part-part.ensures;
      none = c.requires.word;
    }

pub operate-content-requires : goal.operate-content-requires
operate-content-requires g c =
    let loop = c.loop-word in
    let wants = loop.invariant.on.wants in
    (c.args.room.now.spec.now, at_line (GetView c.args.chosen) (at_word loop.word loop.self), wants.served, wants.is_mind, wants.operation refl, c.get_view.ensures ∙ ap (λ (i : ℕ). moves.Load (index_of (sizes_of c.part-part.result.shape) (places.View i c.part-part.result.process c.part-part.result.round loop.word))) c.from.ensures ∙ views_at c.args.room.now.spec.now loop.self c.part-part.result c.args.chosen loop.word loop.invariant.part)

pub loop-word-preserved : goal.loop-word-preserved
loop-word-preserved g c =
    let spec = c.args.room.now.spec.now in
    let loop = c.loop-word in
    let after : MindState = c.put_word.new.self in
    let less : loop.word + 1 < words_in spec = omega (arith, c.if-word-words.false, loop.invariant.less, loop.invariant.all) in
    let same = ap (λ (m : MindState). goes_on (GetView c.args.chosen) (at_word (loop.word + 1) m)) c.put_word.ensures ∙ view_next spec loop.self loop.word c.operate-content.result c.args.chosen less in
    record {
      on = step_then g.M.Memory.serves g.M.Memory.does g.met.M.Memory.goes_on c.args.room.now.context.now spec loop.word c.args.memory.now loop.memory c.operate-content.new.self (at_line (GetView c.args.chosen) c.args.self.now) (at_word loop.word loop.self) (at_word (loop.word + 1) after) (GetView c.args.chosen) (GetView c.args.chosen) c.get_view.result c.operate-content.result Still loop.invariant.on c.operate-content.ensures (c.get_view.ensures ∙ ap (λ (i : ℕ). moves.Load (index_of (sizes_of c.part-part.result.shape) (places.View i c.part-part.result.process c.part-part.result.round loop.word))) c.from.ensures ∙ views_at c.args.room.now.spec.now loop.self c.part-part.result c.args.chosen loop.word loop.invariant.part) (ap (λ (t : TakenOf (List ℕ)). t.mind) same) (ap (λ (t : TakenOf (List ℕ)). t.turn) same);
      less = omega (arith, less, loop.invariant.all);
      all = loop.invariant.all;
      part = subst (λ (m : MindState). IsPartOf spec m c.part-part.result) (sym c.put_word.ensures) loop.invariant.part;
      none = ap (λ (m : MindState). m.word) c.put_word.ensures ∙ loop.invariant.none;
    }

pub returns-clause-wants : goal.returns-clause-wants
returns-clause-wants g c =
    let spec = c.args.room.now.spec.now in
    let loop = c.loop-word in
    let after : MindState = c.put_word.new.self in
    let all : loop.word + 1 ≡ words_in spec = omega (arith, c.if-word-words.true, loop.invariant.all) in
    let counted : c.count_steps.new.self ≡ counted_by (loop.word + 1) after = c.count_steps.ensures ∙ ap (λ (k : ℕ). counted_by k after) (sym c.if-word-words.true) in
    let same = ap (λ (m : MindState). gathered (entry_in spec m.snapshot) spec [] m) counted ∙ view_last spec loop.self loop.word c.operate-content.result c.args.chosen after all loop.invariant.none c.put_word.ensures in
    let end = c.open_view-turn.new.self in
    let mind_is = ap (λ (line : Line). at_line line end) c.current_line.ensures ∙ c.open_view-turn.ensures.mind ∙ ap (λ (t : TakenOf (List ℕ)). t.mind) same in
    let turn_is = c.open_view-turn.ensures.turn ∙ ap (λ (t : TakenOf (List ℕ)). t.turn) same in
    let on = step_then g.M.Memory.serves g.M.Memory.does g.met.M.Memory.goes_on c.args.room.now.context.now spec loop.word c.args.memory.now loop.memory c.operate-content.new.self (at_line (GetView c.args.chosen) c.args.self.now) (at_word loop.word loop.self) end (GetView c.args.chosen) c.current_line.result c.get_view.result c.operate-content.result c.open_view-turn.result loop.invariant.on c.operate-content.ensures (c.get_view.ensures ∙ ap (λ (i : ℕ). moves.Load (index_of (sizes_of c.part-part.result.shape) (places.View i c.part-part.result.process c.part-part.result.round loop.word))) c.from.ensures ∙ views_at c.args.room.now.spec.now loop.self c.part-part.result c.args.chosen loop.word loop.invariant.part) mind_is turn_is in
    on.wants

pub returns-clause-continues : goal.returns-clause-continues
returns-clause-continues g c =
    let spec = c.args.room.now.spec.now in
    let loop = c.loop-word in
    let after : MindState = c.put_word.new.self in
    let all : loop.word + 1 ≡ words_in spec = omega (arith, c.if-word-words.true, loop.invariant.all) in
    let counted : c.count_steps.new.self ≡ counted_by (loop.word + 1) after = c.count_steps.ensures ∙ ap (λ (k : ℕ). counted_by k after) (sym c.if-word-words.true) in
    let same = ap (λ (m : MindState). gathered (entry_in spec m.snapshot) spec [] m) counted ∙ view_last spec loop.self loop.word c.operate-content.result c.args.chosen after all loop.invariant.none c.put_word.ensures in
    let end = c.open_view-turn.new.self in
    let mind_is = ap (λ (line : Line). at_line line end) c.current_line.ensures ∙ c.open_view-turn.ensures.mind ∙ ap (λ (t : TakenOf (List ℕ)). t.mind) same in
    let turn_is = c.open_view-turn.ensures.turn ∙ ap (λ (t : TakenOf (List ℕ)). t.turn) same in
    let on = step_then g.M.Memory.serves g.M.Memory.does g.met.M.Memory.goes_on c.args.room.now.context.now spec loop.word c.args.memory.now loop.memory c.operate-content.new.self (at_line (GetView c.args.chosen) c.args.self.now) (at_word loop.word loop.self) end (GetView c.args.chosen) c.current_line.result c.get_view.result c.operate-content.result c.open_view-turn.result loop.invariant.on c.operate-content.ensures (c.get_view.ensures ∙ ap (λ (i : ℕ). moves.Load (index_of (sizes_of c.part-part.result.shape) (places.View i c.part-part.result.process c.part-part.result.round loop.word))) c.from.ensures ∙ views_at c.args.room.now.spec.now loop.self c.part-part.result c.args.chosen loop.word loop.invariant.part) mind_is turn_is in
    subst (λ (steps : ℕ). (count : ℕ) → Continues g.M.Memory.does spec count c.args.memory.now (at_line (GetView c.args.chosen) c.args.self.now) Still (count + steps) c.operate-content.new.self (at_line c.current_line.result (end)) c.open_view-turn.result) c.if-word-words.true on.continues

pub count_steps-requires-clause-steps : goal.count_steps-requires-clause-steps
count_steps-requires-clause-steps g c =
    let loop = c.loop-word in
    let few = fits_row c.args.room.now.spec.now (GetView c.args.chosen) loop.self loop.word loop.invariant.on.wants.is_mind in
    omega (arith, few.steps_fit, c.if-word-words.true, ap (λ (m : MindState). m.steps) c.put_word.ensures)

pub count_steps-requires-clause-turn_steps : goal.count_steps-requires-clause-turn_steps
count_steps-requires-clause-turn_steps g c =
    let loop = c.loop-word in
    let few = fits_row c.args.room.now.spec.now (GetView c.args.chosen) loop.self loop.word loop.invariant.on.wants.is_mind in
    omega (arith, few.turn_steps_fit, c.if-word-words.true, ap (λ (m : MindState). m.turn_steps) c.put_word.ensures)
