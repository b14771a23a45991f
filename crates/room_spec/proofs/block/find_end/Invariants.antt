use Rattle.std.proofs.Common.{◌≡◌, ◌+◌, ◌-◌, ◌≤◌, suc, length}
use Rattle.std.specs.List.{position}
use Rattle.std.specs.Option.{option_map}
use Rattle.room_spec.specs.Texts.{lines_of}
use Rattle.room_spec.specs.Blocks.{body_len, is_end}
use Rattle.room_spec.proofs.block.find_end.Given as goal

abbrev pub invariant-loop-later : goal.invariant-loop-later
invariant-loop-later l = record {
  within : length l.rest ≤ length l.text;
  few : l.lines + length l.rest ≤ length l.text + 1;
  so_far : option_map (λ n. length l.text - length l.rest + n) (body_len l.rest) ≡ body_len l.text;
  counted : option_map (λ n. l.lines + n) (position is_end (lines_of l.rest)) ≡ option_map suc (position is_end (lines_of l.text));
}

abbrev pub decreases-loop-later : goal.decreases-loop-later
decreases-loop-later l = length l.rest
