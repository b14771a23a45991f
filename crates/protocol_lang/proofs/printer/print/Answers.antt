use Rattle.std.proofs.Common.{rules, ◌≡◌, ◌≤◌, ℕ, List, length, Ok, sym, subst}
use Rattle.std.specs.Prelude.{IfOk, string_bytes}
use Rattle.std.proofs.lemmas.Result.{IfOk-weaker}
use Rattle.protocol_lang.specs.Grammar.{IsText}
use Rattle.protocol_lang.specs.Reading.{reading}
use Rattle.protocol_lang.specs.Printing.{printed}
use Rattle.protocol_lang.proofs.Only.{only}
use Rattle.protocol_lang.proofs.Printed.{again, no_longer}
use Rattle.protocol_lang.proofs.printer.print.Goals as goal

pub returns-clause-again : goal.returns-clause-again
returns-clause-again c =
    let tree = c.args.protocol.now in
    let exact : IfOk c.spell.result (λ text. string_bytes text ≡ printed tree) = search rules in
    let is = subst (λ t. (text : List ℕ) × IsText text t) c.protocol.view_is c.protocol.invariant in
    IfOk-weaker c.spell.result (λ text. string_bytes text ≡ printed tree) (λ text. IsText (string_bytes text) tree)
    (λ text e. subst (λ bytes. IsText bytes tree) (sym e) (again tree is.0 is.1)) exact

pub returns-clause-round : goal.returns-clause-round
returns-clause-round c =
    let tree = c.args.protocol.now in
    let exact : IfOk c.spell.result (λ text. string_bytes text ≡ printed tree) = search rules in
    let is = subst (λ t. (text : List ℕ) × IsText text t) c.protocol.view_is c.protocol.invariant in
    IfOk-weaker c.spell.result (λ text. string_bytes text ≡ printed tree) (λ text. reading (string_bytes text) ≡ Ok tree)
    (λ text e. subst (λ bytes. reading bytes ≡ Ok tree) (sym e) (only (printed tree) tree (again tree is.0 is.1))) exact

pub returns-clause-shortest : goal.returns-clause-shortest
returns-clause-shortest c =
    let tree = c.args.protocol.now in
    let exact : IfOk c.spell.result (λ text. string_bytes text ≡ printed tree) = search rules in
    IfOk-weaker c.spell.result (λ text. string_bytes text ≡ printed tree) (λ text. (other : List ℕ) → IsText other tree → length (string_bytes text) ≤ length other)
    (λ text e. λ other is. subst (λ bytes. length bytes ≤ length other) (sym e) (no_longer tree other is)) exact
