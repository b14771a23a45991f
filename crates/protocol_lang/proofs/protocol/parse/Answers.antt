use Rattle.std.proofs.Common.{rules}
use Rattle.protocol_lang.proofs.protocol.parse.Goals as goal

pub returns-clause-sound : goal.returns-clause-sound
returns-clause-sound c = search rules

pub returns-clause-exact : goal.returns-clause-exact
returns-clause-exact c = search rules

pub returns-clause-local : goal.returns-clause-local
returns-clause-local c = search rules

pub returns-clause-first : goal.returns-clause-first
returns-clause-first c = search rules
