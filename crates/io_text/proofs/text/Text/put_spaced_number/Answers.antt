use Rattle.std.proofs.Common.{◌≡◌, ◌∙◌, ◌/◌, ◌<◌, ◌%◌, ◌+◌, ◌++◌, [], ◌∷◌, List, ℕ, decimal, ap, arith}
use Rattle.std.proofs.lemmas.Fmt.{decimal_digit, decimal_step}
use Rattle.io_text.proofs.text.Text.put_spaced_number.Goals as goal

pub returns-then-value-lt10-clause-text : goal.returns-then-value-lt10-clause-text
returns-then-value-lt10-clause-text c = rw (decimal_digit c.args.value c.if-value-lt10.true) c.put.ensures.text

pub returns-then-value-lt100-clause-text : goal.returns-then-value-lt100-clause-text
returns-then-value-lt100-clause-text c =
    let value = c.args.value in
    let most : value < 100 = c.if-value-lt100.true in
    let two : decimal value ≡ (48 + value / 10) ∷ (48 + value % 10) ∷ [] =
    decimal_step value (omega arith) (omega arith) ∙ ap (λ (first : List ℕ). first ++ (48 + value % 10) ∷ []) (decimal_digit (value / 10) (omega arith)) in
    rw two c.put-then-value-lt100.ensures.text
