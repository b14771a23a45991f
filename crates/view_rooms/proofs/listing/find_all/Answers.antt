use Rattle.view_rooms.proofs.listing.find_all.Goals as goal

pub returns : goal.returns
returns g c = record {
  found = c.in_ok-found.found.outcomes.items;
  reached = record {
    complete = c.in_ok-found.ensures.complete;
    sound = c.in_ok-found.ensures.sound;
    distinct = c.in_ok-found.ensures.distinct;
    among = c.in_ok-found.ensures.among;
  };
  same = c.sort_by_values.ensures.same;
  most_first = c.in_ok-sort_by_values.ensures.sorted;
  nodes = c.in_ok-found.ensures.nodes;
}
