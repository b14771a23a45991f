use Rattle.std.proofs.Common.{refl}
use Rattle.protocol_lang.proofs.Thresholds.{decides_least_of, decides_with, writes_again}
use Rattle.protocol_lang.proofs.laws.waits_for_all_but_some.Goals as goal

pub returns : goal.returns
returns c = record {
  first = λ f input id n. refl;
  writes = λ f input id round value view is. writes_again f input id round view value is;
  waits = λ f input id round value view is enough. decides_with f input id round view enough value is;
  decides = λ f input id round value view is. decides_least_of f input id round view value is;
}
