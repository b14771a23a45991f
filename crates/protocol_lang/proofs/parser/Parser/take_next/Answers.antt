use Rattle.std.proofs.Common.{sym}
use Rattle.std.proofs.lemmas.Result.{err_from_is_err_and}
use Rattle.protocol_lang.specs.Formulas.{trees}
use Rattle.protocol_lang.proofs.Locality.{token_refused}
use Rattle.protocol_lang.proofs.parser.Parser.take_next.Goals as goal

pub returns-in_err-placed-clause-token : goal.returns-in_err-placed-clause-token
returns-in_err-placed-clause-token c =
    let p = err_from_is_err_and c.from_residual.result c.from_residual.ensures.1 in
    rw (p.1, p.2) (token_refused trees c.args.text.now c.args.from c.args.self.now c.args.self.now c.in_err-placed.field-0.0 (sym c.in_err-placed.ensures.token))
