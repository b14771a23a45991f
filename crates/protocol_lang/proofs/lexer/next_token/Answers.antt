use Rattle.std.proofs.Common.{◌≡◌, ℕ, ◌+◌, ◌-◌, List, length, take, drop, Result, refl, ap, ◌∙◌}
use Rattle.std.specs.List.{prefix_len}
use Rattle.std.proofs.lemmas.List.{take_rest}
use Rattle.std.proofs.lemmas.Result.{err_from_is_err_and}
use Rattle.protocol_lang.specs.Tokens.{is_blank}
use Rattle.protocol_lang.specs.Results.{◌>>=◌}
use Rattle.protocol_lang.specs.Reading.{token_and_extent, placed_at, next_token}
use Rattle.protocol_lang.specs.declared.fault.ParseFault.{ParseFault}
use Rattle.protocol_lang.specs.declared.token.Token.{Token}
use Rattle.protocol_lang.proofs.lexer.next_token.Goals as goal

placed : (text : List ℕ) (from blanks : ℕ) (read : Result (Token × ℕ) ParseFault) → blanks ≡ prefix_len is_blank (take (length text - from) (drop from text)) → read ≡ token_and_extent (from + blanks) (take (length text - (from + blanks)) (drop (from + blanks) text)) → (read >>= placed_at (from + blanks)) ≡ next_token text from
unfolding next_token
placed text from blanks read is front =
    let rest = is ∙ ap (prefix_len is_blank) (take_rest text from) in
    let token = front ∙ ap (token_and_extent (from + blanks)) (take_rest text (from + blanks)) in
    rw (token, rest) refl

pub returns-in_err-token-clause-token : goal.returns-in_err-token-clause-token
returns-in_err-token-clause-token c =
    let p = err_from_is_err_and c.from_residual.result c.from_residual.ensures.1 in
    rw (p.1, p.2) (placed c.args.text.now c.args.from c.blanks.result _ c.blanks.ensures.value c.in_err-token.ensures.token)

pub returns-clause-token : goal.returns-clause-token
returns-clause-token c = placed c.args.text.now c.args.from c.blanks.result _ c.blanks.ensures.value c.in_ok-token.ensures.token
