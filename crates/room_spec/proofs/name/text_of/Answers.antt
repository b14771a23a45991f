use Rattle.room_spec.proofs.Names.{IsUtf8-from_name}
use Rattle.room_spec.proofs.name.text_of.Goals as goal

pub unreachable-requires : goal.unreachable-requires
unreachable-requires c = c.in_default.ensures.cases.0 (IsUtf8-from_name c.args.bytes.now c.requires)
