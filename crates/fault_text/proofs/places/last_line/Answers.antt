use Rattle.std.proofs.Common.{◌∙◌, ◌∷◌, List, ℕ, Option, Bor, ap}
use Rattle.std.specs.Option.{option_copied}
use Rattle.room_spec.specs.Texts.{is_line_end, pieces_of}
use Rattle.fault_text.proofs.Passing.{last_passed}
use Rattle.fault_text.proofs.places.last_line.Goals as goal

pub loop-later-preserved : goal.loop-later-preserved
loop-later-preserved c =
    last_passed c.cut.result.0.now c.in-Some.later.now c.loop-later.rest.now c.args.text.now
    (c.cut.ensures.pieces ∙ ap (λ (later : Option (Bor (List ℕ))). c.cut.result.0.now ∷ pieces_of is_line_end (option_copied later)) c.in-Some.is)
    c.loop-later.invariant
