use Rattle.std.proofs.Common.{ap, ◌∙◌}
use Rattle.protocol_lang.specs.Grammar.{expression_tokens}
use Rattle.protocol_lang.specs.Printing.{shortest, Piece}
use Rattle.protocol_lang.proofs.Pieces.{tokens_made}
use Rattle.protocol_lang.proofs.piece.expression.Goals as goal

pub returns : goal.returns
returns c =
    ap (λ (p : Piece). p.tokens) (c.piece.view_is ∙ c.in_ok-piece.ensures) ∙ tokens_made c.code.result.now ∙ ap (λ e. expression_tokens (shortest e)) c.code.ensures
