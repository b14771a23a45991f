use Rattle.std.proofs.Common.{List, refl, subst, arith}
use Rattle.std.specs.Global.{Vec}
use Rattle.std.specs.List.{Contains}
use Rattle.room_spec.specs.Rooms.{processes}
use Rattle.run_search.specs.declared.choice.Choice.{Choice}
use Rattle.run_search.specs.Choices.{AreWithin, IsEndAt}
use Rattle.run_search.specs.Outcomes.{IsNoted}
use Rattle.run_search.proofs.Choosing.{all_ends, all_noted, each_back, each_same, each_seen, same_key, seen_more}
use Rattle.run_search.proofs.tally.Listing.take.Goals as goal

pub returns-then-fewest_stops-crashes-clause-noted : goal.returns-then-fewest_stops-crashes-clause-noted
returns-then-fewest_stops-crashes-clause-noted c = λ state covers few. absurd (omega (arith, few, c.fewest_stops.ensures state covers, c.if-fewest_stops-crashes.true))

pub returns-then-has_seen-clause-noted : goal.returns-then-has_seen-clause-noted
returns-then-has_seen-clause-noted c =
    let spec = c.args.spec.now in
    let tally = c.args.self.now.tally in
    let found = subst (λ (l : List Choice). (one : Vec Choice) × Contains c.args.self.now.seen.keys one × AreWithin l one.items) c.as_slice.ensures.value (c.if-has_seen.ensures refl) in
    all_noted spec c.args.crashes c.args.indexed.now.node.now c.in_ok-all.all.items tally.ends.keys tally.witnesses.items c.in_ok-all.ensures
    (each_seen (processes spec) c.args.crashes c.in_ok-all.all.items c.args.self.now.seen.keys tally.ends.keys tally.witnesses.items found c.requires.seen)

pub returns-clause-noted : goal.returns-clause-noted
returns-clause-noted c =
    let spec = c.args.spec.now in
    let new = c.note_from.new.self in
    all_noted spec c.args.crashes c.args.indexed.now.node.now c.in_ok-all.all.items new.ends.keys new.witnesses.items c.in_ok-all.ensures
    (each_same (IsNoted new.ends.keys new.witnesses.items) c.n.result (processes spec) c.as_slice-2.result.now c.in_ok-all.all.items c.new.result.items c.args.crashes c.n.ensures.value c.as_slice-2.ensures.value c.new.ensures c.in_ok-note_from.ensures.noted)

pub returns-clause-seen : goal.returns-clause-seen
returns-clause-seen c =
    let spec = c.args.spec.now in
    let old = c.args.self.now.tally in
    let new = c.note_from.new.self in
    seen_more (processes spec) c.args.crashes same_key c.args.self.now.seen.keys c.insert.new.self.keys c.in_ok-all.all old.ends.keys new.ends.keys old.witnesses.items new.witnesses.items c.in_ok-insert.ensures.keys c.requires.seen c.in_ok-note_from.ensures.grown
    (each_same (IsNoted new.ends.keys new.witnesses.items) c.n.result (processes spec) c.as_slice-2.result.now c.in_ok-all.all.items c.new.result.items c.args.crashes c.n.ensures.value c.as_slice-2.ensures.value c.new.ensures c.in_ok-note_from.ensures.noted)

pub returns-clause-ends : goal.returns-clause-ends
returns-clause-ends c = λ nodes there are.
    let spec = c.args.spec.now in
    c.in_ok-note_from.ensures.ends spec nodes c.args.crashes
    (each_back (IsEndAt spec nodes c.args.crashes c.args.indexed.now.index) c.n.result (processes spec) c.as_slice-2.result.now c.in_ok-all.all.items c.new.result.items c.args.crashes c.n.ensures.value c.as_slice-2.ensures.value c.new.ensures
    (all_ends spec nodes c.args.crashes c.args.indexed.now.index c.args.indexed.now.node.now c.in_ok-all.all.items c.in_ok-all.ensures there))
    are
