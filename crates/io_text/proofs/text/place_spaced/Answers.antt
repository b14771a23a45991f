use Rattle.std.proofs.Common.{rules, ◌≡◌, ◌∙◌, ◌+◌, ◌-◌, ◌++◌, arith, take, drop, ap, refl}
use Rattle.std.specs.Prelude.{slice_range}
use Rattle.std.proofs.lemmas.List.{length-take-le}
use Rattle.io_text.proofs.Numerals.{numeral_placed}
use Rattle.io_text.proofs.text.place_spaced.Goals as goal

pub returns-clause-text : goal.returns-clause-text
returns-clause-text c =
    let at = c.args.at in
    let start = c.args.start in
    let number = c.args.number.now in
    let text = take at c.args.bytes.now in
    let all : (start + 24) - start ≡ 24 = omega arith in
    let ends : c.place-end.result ≡ at + 24 = search rules in
    numeral_placed text c.place-end.new.bytes number (slice_range number start 24) at start c.place-end.result (length-take-le at c.args.bytes.now (omega (arith, c.requires.room))) c.requires.within ends
    (c.place-end.ensures.text ∙ ap (λ n. text ++ take n (drop start number)) all) refl
