use Rattle.std.proofs.Common.{◌≡◌, ◌++◌, ◌∷◌, [], ℕ, List, take, get_or, sym, ap, ◌∙◌, arith}
use Rattle.std.specs.Mem.Slots.{slots_items}
use Rattle.std.proofs.lemmas.List.{length-set, take_more, take_more_set}
use Rattle.ruled_room.proofs.Moving.{there_below, there_read}
use Rattle.ruled_room.proofs.room.read.Goals as goal

pub loop-i-preserved : goal.loop-i-preserved
loop-i-preserved c =
    let inv = c.loop-i.invariant in
    let i = c.loop-i.i in
    let ws = c.loop-i.words.items in
    let xs = slots_items c.args.closed.now.words in
    let below = there_below xs i c.word.result c.word.ensures in
    let here : c.word.result ≡ get_or xs i 0 = sym (there_read xs i c.word.result 0 c.word.ensures) in
    (take_more_set ws i c.word.result (omega arith) ∙ ap (λ (l : List ℕ). l ++ c.word.result ∷ []) inv.0 ∙ ap (λ (w : ℕ). take i xs ++ w ∷ []) here ∙ sym (take_more xs i 0 below), length-set ws i c.word.result ∙ inv.1)
