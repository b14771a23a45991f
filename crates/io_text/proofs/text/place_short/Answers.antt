use Rattle.std.proofs.Common.{arith, take, rules}
use Rattle.std.proofs.lemmas.List.{length-take-le}
use Rattle.io_text.proofs.Numerals.{first_placed}
use Rattle.io_text.proofs.text.place_short.Goals as goal

pub returns-clause-text : goal.returns-clause-text
returns-clause-text c =
    let at = c.args.at in
    let text = take at c.args.bytes.now in
    first_placed text c.place.new.bytes c.args.short.now at c.args.len c.place.result (length-take-le at c.args.bytes.now (omega (arith, c.requires.room))) c.requires.within (search rules) c.place.ensures.text
