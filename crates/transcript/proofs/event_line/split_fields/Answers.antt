use Rattle.std.proofs.Common.{◌∷◌, ℕ, List, arith, ap, sym}
use Rattle.std.proofs.lemmas.Result.{err_from_is_err_and}
use Rattle.room_spec.specs.Texts.{fields_of}
use Rattle.transcript.specs.Lines.{word_text}
use Rattle.transcript.proofs.Cutting.{fault_of_process}
use Rattle.transcript.proofs.Events.{number_found}
use Rattle.transcript.proofs.event_line.split_fields.Goals as goal

pub returns-in_err-process-clause-fault : goal.returns-in_err-process-clause-fault
returns-in_err-process-clause-fault c =
    let first = rw c.in-Some-deed.is at c.cut_near.ensures.pieces in
    let p = err_from_is_err_and c.from_residual.result c.from_residual.ensures.1 in
    rw (p.1, p.2, c.in-Some.is, first, c.in-Some-cut_word.ensures)
    (fault_of_process c.cut_near.result.0.now (word_text c.in-Some-cut_word.word) c.in-Some-cut_word.values.now _ (sym c.in_err-process.ensures.value))

pub returns-clause-parts : goal.returns-clause-parts
returns-clause-parts c =
    let first = rw c.in-Some-deed.is at c.cut_near.ensures.pieces in
    let number = number_found 15 c.cut_near.result.0.now c.in_ok-process.process (omega arith) (sym c.in_ok-process.ensures.value) in
    rw (c.in-Some.is, first, c.in-Some-cut_word.ensures)
    (ap (λ (field : List ℕ). field ∷ word_text c.in-Some-cut_word.word ∷ fields_of c.in-Some-cut_word.values.now) number.0)

pub returns-clause-range : goal.returns-clause-range
returns-clause-range c = (number_found 15 c.cut_near.result.0.now c.in_ok-process.process (omega arith) (sym c.in_ok-process.ensures.value)).1
