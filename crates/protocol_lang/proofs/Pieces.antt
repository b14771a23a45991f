-- The tokens that an expression's parts make are those of its shortest form.
use Rattle.std.proofs.Common.{◌≡◌, true, false, not, Bool, List, ◌∷◌, ◌++◌, refl, sym, ap, ◌∙◌}
use Rattle.protocol_lang.specs.Trees.{Expression, Operating, is_sum}
use Rattle.protocol_lang.specs.Formulas.{trees, made_by}
use Rattle.protocol_lang.specs.Grammar.{Written, is_term, is_factor, operator_symbol, expression_tokens}
use Rattle.protocol_lang.specs.Printing.{grouped_unless, stands_left, stands_right, on_right, shortest, enclosed_unless, Piece, joined, pieces}
use Rattle.protocol_lang.specs.declared.opcode.Opcode.{Opcode}
use Rattle.protocol_lang.specs.declared.token.Token.TheVariants as tokens
use Rattle.protocol_lang.specs.declared.tree.Operator.{Operator}
use Rattle.protocol_lang.proofs.Making.{Carries, made_map}

grouped_tokens : (stands : Bool) (w : Written) → expression_tokens (grouped_unless stands w) ≡ enclosed_unless stands (expression_tokens w)
grouped_tokens true w = refl
grouped_tokens false w = refl

abbrev piece_of : Expression → Piece
piece_of e = record { tokens = expression_tokens (shortest e); is_term = is_term (shortest e); is_factor = is_factor (shortest e) }

operating : (operator : Operator) (left right : Expression) → piece_of (Operating operator left right) ≡ joined operator (piece_of left) (piece_of right)
operating operator left right =
    let l = grouped_tokens (stands_left operator (is_term (shortest left))) (shortest left) in
    let r = grouped_tokens (stands_right operator (is_term (shortest right)) (is_factor (shortest right))) (shortest right) in
    ap (λ all. record { tokens = all ++ tokens.Symbol (operator_symbol operator) ∷ expression_tokens (on_right operator (shortest right)); is_term = not (is_sum operator); is_factor = false }) l
    ∙ ap (λ all. record { tokens = enclosed_unless (stands_left operator (is_term (shortest left))) (expression_tokens (shortest left)) ++ tokens.Symbol (operator_symbol operator) ∷ all; is_term = not (is_sum operator); is_factor = false }) r

carries_piece : Carries trees pieces piece_of
carries_piece = record { number = λ value. refl; named = λ name. refl; calling = λ function x. refl; operating = operating; group = λ x. refl }

pub tokens_made : (code : List Opcode) → (made_by pieces code).tokens ≡ expression_tokens (shortest (made_by trees code))
tokens_made code = ap (λ (p : Piece). p.tokens) (sym (made_map trees pieces piece_of carries_piece code))
