use Rattle.std.proofs.Common.{◌≡◌, ◌≤◌, length, map, take}
use Rattle.std.specs.Prelude.{All}
use Rattle.io_text.specs.Reading.{most_bytes}
use Rattle.bgview.specs.Sums.{input_of}
use Rattle.bgview.proofs.Summing.{AreRead}
use Rattle.bgview.proofs.read_named.Given as goal

abbrev pub invariant-loop-name : goal.invariant-loop-name
invariant-loop-name g l = record {
  read : AreRead (map (λ name. input_of (g.I.Inputs.standard_bytes l.system.inputs.now) (g.I.Inputs.file_bytes l.system.inputs.now) name.now) (take l.name-index l.names)) (map (λ text. text.items) l.read.items);
  fits : All (λ text. length text.items ≤ most_bytes) l.read.items;
}
