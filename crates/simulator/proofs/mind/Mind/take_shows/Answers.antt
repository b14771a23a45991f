use Rattle.std.proofs.Common.{◌≡◌, ◌∙◌, ℕ, ◌+◌, ◌<◌, List, ap, arith, refl, subst, sym, slice_index}
use Rattle.room_spec.specs.Shapes.{sizes_of}
use Rattle.room_spec.specs.Sizes.{Sizes, memory_words}
use Rattle.view_table.specs.Places.{index_of}
use Rattle.view_table.specs.declared.place.Place.TheVariants as places
use Rattle.simulator.specs.declared.operation.Move.TheVariants as moves
use Rattle.simulator.specs.declared.line.Line.TheVariants.{Enter, Show}
use Rattle.simulator.specs.declared.turn.Turn.TheVariants.{Still}
use Rattle.simulator.specs.Minds.{MindState}
use Rattle.simulator.specs.Ranges.{at_line}
use Rattle.simulator.specs.Runs.{Continues}
use Rattle.simulator.specs.Turns.{TakenOf, counted_by, goes_on, words_in}
use Rattle.simulator.proofs.Longer.{step_then}
use Rattle.simulator.proofs.Rowed.{at_word, fits_row, none_yet, shows_at, show_next, show_last}
use Rattle.simulator.proofs.mind.Mind.take_shows.Goals as goal

pub loop-word-init : goal.loop-word-init
loop-word-init g c =
    let all : c.memory_words-words.result ≡ words_in c.args.room.now.spec.now = c.memory_words-words.ensures.value ∙ ap (λ (sizes : Sizes). memory_words sizes) c.part-part.ensures.0 in
    record {
      on = none_yet g.M.Memory.serves g.M.Memory.does c.args.room.now.context.now c.args.room.now.spec.now c.args.memory.now Show c.args.self.now c.requires.word c.requires.wants;
      less = omega (arith, c.memory_words-words.ensures.range.0);
      all = all;
    }

pub operate-requires : goal.operate-requires
operate-requires g c =
    let loop = c.loop-word in
    let wants = loop.invariant.on.wants in
    let content_is : c.word.result ≡ slice_index c.args.self.now.snapshot loop.word = c.word.ensures ∙ ap (λ (m : MindState). slice_index m.snapshot loop.word) c.self.view_is in
    (c.args.room.now.spec.now, at_line (Show) (at_word loop.word c.args.self.now), wants.served, wants.is_mind, wants.operation refl, c.show.ensures ∙ ap (λ (content : ℕ). moves.Store (index_of (sizes_of c.part-part.result.shape) (places.View c.part-part.result.simulator c.part-part.result.process c.part-part.result.round loop.word)) content) content_is ∙ shows_at c.args.room.now.spec.now c.args.self.now c.part-part.result loop.word c.part-part.ensures)

pub loop-word-preserved : goal.loop-word-preserved
loop-word-preserved g c =
    let spec = c.args.room.now.spec.now in
    let loop = c.loop-word in
    let after : MindState = c.args.self.now in
    let content_is : c.word.result ≡ slice_index c.args.self.now.snapshot loop.word = c.word.ensures ∙ ap (λ (m : MindState). slice_index m.snapshot loop.word) c.self.view_is in
    let less : loop.word + 1 < words_in spec = omega (arith, c.if-word-words.false, loop.invariant.less, loop.invariant.all) in
    let same = show_next spec c.args.self.now loop.word c.operate.result less in
    record {
      on = step_then g.M.Memory.serves g.M.Memory.does g.met.M.Memory.goes_on c.args.room.now.context.now spec loop.word c.args.memory.now loop.memory c.operate.new.self (at_line (Show) c.args.self.now) (at_word loop.word c.args.self.now) (at_word (loop.word + 1) after) (Show) (Show) c.show.result c.operate.result Still loop.invariant.on c.operate.ensures (c.show.ensures ∙ ap (λ (content : ℕ). moves.Store (index_of (sizes_of c.part-part.result.shape) (places.View c.part-part.result.simulator c.part-part.result.process c.part-part.result.round loop.word)) content) content_is ∙ shows_at c.args.room.now.spec.now c.args.self.now c.part-part.result loop.word c.part-part.ensures) (ap (λ (t : TakenOf (List ℕ)). t.mind) same) (ap (λ (t : TakenOf (List ℕ)). t.turn) same);
      less = omega (arith, less, loop.invariant.all);
      all = loop.invariant.all;
    }

pub returns-clause-wants : goal.returns-clause-wants
returns-clause-wants g c =
    let spec = c.args.room.now.spec.now in
    let loop = c.loop-word in
    let after : MindState = c.args.self.now in
    let content_is : c.word.result ≡ slice_index c.args.self.now.snapshot loop.word = c.word.ensures ∙ ap (λ (m : MindState). slice_index m.snapshot loop.word) c.self.view_is in
    let all : loop.word + 1 ≡ words_in spec = omega (arith, c.if-word-words.true, loop.invariant.all) in
    let counted : c.count_steps.new.self ≡ counted_by (loop.word + 1) after = c.count_steps.ensures ∙ ap (λ (k : ℕ). counted_by k after) (sym c.if-word-words.true) in
    let same = ap (λ (m : MindState). goes_on Enter m) counted ∙ show_last spec c.args.self.now loop.word c.operate.result all c.requires.word in
    let end = c.count_steps.new.self in
    let mind_is = ap (λ (t : TakenOf (List ℕ)). t.mind) same in
    let turn_is = ap (λ (t : TakenOf (List ℕ)). t.turn) same in
    let on = step_then g.M.Memory.serves g.M.Memory.does g.met.M.Memory.goes_on c.args.room.now.context.now spec loop.word c.args.memory.now loop.memory c.operate.new.self (at_line (Show) c.args.self.now) (at_word loop.word c.args.self.now) end (Show) Enter c.show.result c.operate.result Still loop.invariant.on c.operate.ensures (c.show.ensures ∙ ap (λ (content : ℕ). moves.Store (index_of (sizes_of c.part-part.result.shape) (places.View c.part-part.result.simulator c.part-part.result.process c.part-part.result.round loop.word)) content) content_is ∙ shows_at c.args.room.now.spec.now c.args.self.now c.part-part.result loop.word c.part-part.ensures) mind_is turn_is in
    on.wants

pub returns-clause-continues : goal.returns-clause-continues
returns-clause-continues g c =
    let spec = c.args.room.now.spec.now in
    let loop = c.loop-word in
    let after : MindState = c.args.self.now in
    let content_is : c.word.result ≡ slice_index c.args.self.now.snapshot loop.word = c.word.ensures ∙ ap (λ (m : MindState). slice_index m.snapshot loop.word) c.self.view_is in
    let all : loop.word + 1 ≡ words_in spec = omega (arith, c.if-word-words.true, loop.invariant.all) in
    let counted : c.count_steps.new.self ≡ counted_by (loop.word + 1) after = c.count_steps.ensures ∙ ap (λ (k : ℕ). counted_by k after) (sym c.if-word-words.true) in
    let same = ap (λ (m : MindState). goes_on Enter m) counted ∙ show_last spec c.args.self.now loop.word c.operate.result all c.requires.word in
    let end = c.count_steps.new.self in
    let mind_is = ap (λ (t : TakenOf (List ℕ)). t.mind) same in
    let turn_is = ap (λ (t : TakenOf (List ℕ)). t.turn) same in
    let on = step_then g.M.Memory.serves g.M.Memory.does g.met.M.Memory.goes_on c.args.room.now.context.now spec loop.word c.args.memory.now loop.memory c.operate.new.self (at_line (Show) c.args.self.now) (at_word loop.word c.args.self.now) end (Show) Enter c.show.result c.operate.result Still loop.invariant.on c.operate.ensures (c.show.ensures ∙ ap (λ (content : ℕ). moves.Store (index_of (sizes_of c.part-part.result.shape) (places.View c.part-part.result.simulator c.part-part.result.process c.part-part.result.round loop.word)) content) content_is ∙ shows_at c.args.room.now.spec.now c.args.self.now c.part-part.result loop.word c.part-part.ensures) mind_is turn_is in
    subst (λ (steps : ℕ). (count : ℕ) → Continues g.M.Memory.does spec count c.args.memory.now (at_line (Show) c.args.self.now) Still (count + steps) c.operate.new.self (at_line Enter (end)) Still) c.if-word-words.true on.continues

pub count_steps-requires-clause-steps : goal.count_steps-requires-clause-steps
count_steps-requires-clause-steps g c =
    let loop = c.loop-word in
    let few = fits_row c.args.room.now.spec.now (Show) c.args.self.now loop.word loop.invariant.on.wants.is_mind in
    omega (arith, few.steps_fit, c.if-word-words.true)

pub count_steps-requires-clause-turn_steps : goal.count_steps-requires-clause-turn_steps
count_steps-requires-clause-turn_steps g c =
    let loop = c.loop-word in
    let few = fits_row c.args.room.now.spec.now (Show) c.args.self.now loop.word loop.invariant.on.wants.is_mind in
    omega (arith, few.turn_steps_fit, c.if-word-words.true)
