use Rattle.std.proofs.Common.{map, refl}
use Rattle.std.proofs.lemmas.List.Sorted.{IsPermutation-map}
use Rattle.room_sample.specs.Shown.{shown_of}
use Rattle.view_sum.proofs.totals.total_of.Goals as goal

pub returns : goal.returns
returns c = record {
  ordered = map shown_of c.sort_by_times.new.outcomes.items;
  all_ordered = IsPermutation-map shown_of c.args.so_far.outcomes.items c.sort_by_times.new.outcomes.items c.sort_by_times.ensures.same;
  most_first = c.in_ok-sort_by_times.ensures.sorted;
  total_is = refl;
}
