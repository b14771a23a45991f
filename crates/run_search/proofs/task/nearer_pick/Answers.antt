use Rattle.std.proofs.Common.{◌<◌, rules, Some, length, sym, subst, ap, ◌∙◌, arith}
use Rattle.std.proofs.lemmas.Option.{get_or_from_slice_get, slice_get-get_or, slice_get_within}
use Rattle.run_search.specs.Breaking.{IsLeastPick}
use Rattle.run_search.specs.States.{State, events_in}
use Rattle.run_search.proofs.Breaking.{next_before, next_fewer, next_first, next_keeps}
use Rattle.run_search.proofs.task.nearer_pick.Goals as goal

pub returns-then-keeps : goal.returns-then-keeps
returns-then-keeps c = next_keeps c.args.spec.now c.args.most c.args.picks.now c.args.index c.args.least c.index-picks-index.result (slice_get-get_or c.args.picks.now c.args.index c.index-picks-index.result c.requires.there ∙ ap Some (sym c.index-picks-index.is)) c.if-keeps.ensures c.requires.least

pub returns-in_default : goal.returns-in_default
returns-in_default c =
    next_first c.args.spec.now c.args.most c.args.picks.now c.args.index c.index-picks-index.result (slice_get-get_or c.args.picks.now c.args.index c.index-picks-index.result c.requires.there ∙ ap Some (sym c.index-picks-index.is)) c.if-keeps.ensures
    (subst (IsLeastPick c.args.spec.now c.args.most c.args.picks.now c.args.index) c.in_default.is c.requires.least)

pub offset_bounds-picks-other : goal.offset_bounds-picks-other
offset_bounds-picks-other c =
    let one = c.requires.least.some c.in-Some.other c.in-Some.is in
    let inside : c.in-Some.other < length c.args.picks.now = slice_get_within c.args.picks.now c.in-Some.other one.0 one.1 in
    search rules

pub bounds-picks-other : goal.bounds-picks-other
bounds-picks-other c = let one = c.requires.least.some c.in-Some.other c.in-Some.is in slice_get_within c.args.picks.now c.in-Some.other one.0 one.1

pub returns-then-events_in : goal.returns-then-events_in
returns-then-events_in c =
    let one = c.requires.least.some c.in-Some.other c.in-Some.is in
    let read = ap (λ (s : State). events_in s.items) (c.index-picks-other.is ∙ get_or_from_slice_get c.args.picks.now c.in-Some.other one.0 c.index-picks-other.result one.1) in
    let here = ap (λ (s : State). events_in s.items) (c.index-picks-index-2.is ∙ get_or_from_slice_get c.args.picks.now c.args.index c.index-picks-index.result c.index-picks-index-2.result (slice_get-get_or c.args.picks.now c.args.index c.index-picks-index.result c.requires.there ∙ ap Some (sym c.index-picks-index.is))) in
    next_before c.args.spec.now c.args.most c.args.picks.now c.args.index c.in-Some.other one.0 c.index-picks-index.result (slice_get-get_or c.args.picks.now c.args.index c.index-picks-index.result c.requires.there ∙ ap Some (sym c.index-picks-index.is)) one.1
    (omega (arith, read, here, c.events_in.ensures, c.events_in-2.ensures, c.if-events_in.true)) (subst (IsLeastPick c.args.spec.now c.args.most c.args.picks.now c.args.index) c.in-Some.is c.requires.least)

pub returns-else-events_in : goal.returns-else-events_in
returns-else-events_in c =
    let one = c.requires.least.some c.in-Some.other c.in-Some.is in
    let read = ap (λ (s : State). events_in s.items) (c.index-picks-other.is ∙ get_or_from_slice_get c.args.picks.now c.in-Some.other one.0 c.index-picks-other.result one.1) in
    let here = ap (λ (s : State). events_in s.items) (c.index-picks-index-2.is ∙ get_or_from_slice_get c.args.picks.now c.args.index c.index-picks-index.result c.index-picks-index-2.result (slice_get-get_or c.args.picks.now c.args.index c.index-picks-index.result c.requires.there ∙ ap Some (sym c.index-picks-index.is))) in
    next_fewer c.args.spec.now c.args.most c.args.picks.now c.args.index c.in-Some.other one.0 c.index-picks-index.result (slice_get-get_or c.args.picks.now c.args.index c.index-picks-index.result c.requires.there ∙ ap Some (sym c.index-picks-index.is)) one.1 c.if-keeps.ensures
    (omega (arith, read, here, c.events_in.ensures, c.events_in-2.ensures, c.if-events_in.false)) (subst (IsLeastPick c.args.spec.now c.args.most c.args.picks.now c.args.index) c.in-Some.is c.requires.least)
