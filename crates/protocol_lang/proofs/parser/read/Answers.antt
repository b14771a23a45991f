use Rattle.std.proofs.Common.{◌≡◌, ◌∙◌, ◌<◌, ◌≤◌, length, Ok, sym, ap, subst}
use Rattle.std.specs.Prelude.{IfSome}
use Rattle.std.proofs.lemmas.Result.{err_from_is_err_and}
use Rattle.protocol_lang.specs.Trees.{Expression}
use Rattle.protocol_lang.specs.Formulas.{trees}
use Rattle.protocol_lang.specs.Reading.{State, one_token}
use Rattle.protocol_lang.proofs.Onward.{IsAt, at_start, at_next, too_long, fault_read, text_read, end_refused}
use Rattle.protocol_lang.proofs.parser.read.Goals as goal

pub returns-then-text-gt-MAX_TEXT : goal.returns-then-text-gt-MAX_TEXT
returns-then-text-gt-MAX_TEXT c = too_long c.args.text.now c.if-text-gt-MAX_TEXT.true

pub loop-parser-init : goal.loop-parser-init
loop-parser-init c =
    let short = c.if-text-gt-MAX_TEXT.false in
    let P : State Expression → Type 0 = λ s. IsAt c.args.text.now 0 s in
    (subst P (sym c.new-parser.ensures) (at_start c.args.text.now short), short)

pub returns-in_err-end : goal.returns-in_err-end
returns-in_err-end c =
    let p = err_from_is_err_and c.from_residual.result c.from_residual.ensures.1 in
    rw (p.1, p.2) (fault_read c.args.text.now c.loop-parser.from c.loop-parser.parser c.take_next.new.self c.in_err-end.field-0.0 c.loop-parser.invariant.0 c.loop-parser.invariant.1 c.in_err-end.ensures.token)

pub loop-parser-preserved : goal.loop-parser-preserved
loop-parser-preserved c =
    let text = c.args.text.now in
    let from = c.loop-parser.from in
    let end = c.in-Some.end in
    let taken = subst (λ read. one_token trees text from c.loop-parser.parser ≡ Ok (c.take_next.new.self, read)) c.in-Some.is c.in_ok-end.ensures.token in
    let onward = subst (λ read. IfSome read (λ end. (from < end) × (end ≤ length text))) c.in-Some.is c.in_ok-end.ensures.onward in
    (at_next text from end c.loop-parser.parser c.take_next.new.self c.loop-parser.invariant.0 taken onward.0 onward.1, c.loop-parser.invariant.1)

pub returns-in-Ok : goal.returns-in-Ok
returns-in-Ok c =
    let text = c.args.text.now in
    let from = c.loop-parser.from in
    let taken = subst (λ read. one_token trees text from c.loop-parser.parser ≡ Ok (c.take_next.new.self, read)) c.in_default.is c.in_ok-end.ensures.token in
    text_read text from c.loop-parser.parser c.take_next.new.self c.loop-parser.invariant.0 c.loop-parser.invariant.1 taken ∙ ap Ok (sym c.in-Ok.ensures.value)

pub returns-in-Err : goal.returns-in-Err
returns-in-Err c =
    let text = c.args.text.now in
    let from = c.loop-parser.from in
    let taken = subst (λ read. one_token trees text from c.loop-parser.parser ≡ Ok (c.take_next.new.self, read)) c.in_default.is c.in_ok-end.ensures.token in
    rw c.at.ensures (end_refused text from from c.loop-parser.parser c.take_next.new.self c.in-Err.refusal c.loop-parser.invariant.0 c.loop-parser.invariant.1 taken c.in-Err.ensures.err)
