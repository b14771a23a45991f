use Rattle.std.proofs.Common.{ℕ}
use Rattle.std.specs.Global.{Vec}
use Rattle.std.specs.Str.{bytes_eq}
use Rattle.view_open.proofs.Noting.{apart, kept_beside, key_test}
use Rattle.view_open.proofs.log.Pasts.take.Goals as goal

pub returns-in-Some-clause-others : goal.returns-in-Some-clause-others
returns-in-Some-clause-others c = λ other differs. kept_beside _ _ _ _ c.in-Some.ensures.updates.3 (λ (key : Vec ℕ). bytes_eq other key.items) (key_test other) (apart c.args.name.now other differs)
