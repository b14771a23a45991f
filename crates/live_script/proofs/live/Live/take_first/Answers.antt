use Rattle.std.proofs.Common.{rules, ◌≡◌, ◌∙◌, ◌+◌, not, ℕ, length, true, Bor, List, ◌∷◌, Option, refl, ap}
use Rattle.std.specs.Option.{option_copied}
use Rattle.room_spec.specs.Texts.{is_line_end, lines_of, pieces_of}
use Rattle.script_play.specs.Script.{is_open}
use Rattle.live_script.specs.Entries.{Block, Line}
use Rattle.live_script.specs.Answers.{Answer}
use Rattle.live_script.specs.Sessions.{IsAnsweredBy}
use Rattle.live_script.proofs.Taking.{block_taken, line_taken, not_so, unfinished_line}
use Rattle.live_script.proofs.live.Live.take_first.Goals as goal

pub returns-in_default-clause-none : goal.returns-in_default-clause-none
returns-in_default-clause-none c = (
  unfinished_line c.args.text.now c.cut.result.0.now
      (c.cut.ensures.pieces ∙ ap (λ (later : Option (Bor (List ℕ))). c.cut.result.0.now ∷ pieces_of is_line_end (option_copied later)) c.in_default.is),
  refl,
)

pub returns-then-ne-clause-some : goal.returns-then-ne-clause-some
returns-then-ne-clause-some c =
    let line = c.cut.result.0.now in
    let later = c.in-Some.later.now in
    let pieces : lines_of c.args.text.now ≡ line ∷ lines_of later =
    c.cut.ensures.pieces ∙ ap (λ (rest : Option (Bor (List ℕ))). line ∷ pieces_of is_line_end (option_copied rest)) c.in-Some.is in
    let long : length line + 1 + length later ≡ length c.args.text.now = rw c.in-Some.is at c.cut.ensures.shorter in
    let differs : not (is_open line) ≡ true = search rules in
    let answered : (answer : Answer) × IsAnsweredBy (Line line) answer c.args.self.now c.take_line.new.self = c.in_ok-take_line.ensures in
    line_taken c.args.text.now line later answered.0 c.args.self.now c.take_line.new.self c.cut.ensures.before pieces long (not_so (is_open line) differs) answered.1

pub returns-clause-some : goal.returns-clause-some
returns-clause-some c =
    let line = c.cut.result.0.now in
    let later = c.in-Some.later.now in
    let block = c.in-Some-whole_block.block.now in
    let pieces : lines_of c.args.text.now ≡ line ∷ lines_of later =
    c.cut.ensures.pieces ∙ ap (λ (rest : Option (Bor (List ℕ))). line ∷ pieces_of is_line_end (option_copied rest)) c.in-Some.is in
    let long : length line + 1 + length later ≡ length c.args.text.now = rw c.in-Some.is at c.cut.ensures.shorter in
    let opens : is_open line ≡ true = search rules in
    let answered : (answer : Answer) × IsAnsweredBy (Block block) answer c.args.self.now c.take_block.new.self = c.in_ok-take_block.ensures in
    block_taken c.args.text.now line later block answered.0 c.args.self.now c.take_block.new.self pieces long opens c.in-Some-whole_block.ensures.whole c.in-Some-whole_block.ensures.front.1 c.in-Some-whole_block.ensures.front.0 answered.1
