use Rattle.std.proofs.Common.{List, sym, ap, ◌∙◌, arith}
use Rattle.std.specs.Prelude.{slice_get}
use Rattle.std.proofs.lemmas.Option.{get_or_from_slice_get, slice_get_within}
use Rattle.run_search.specs.States.{State, events_in}
use Rattle.run_search.proofs.Answering.{same_sym}
use Rattle.run_search.proofs.Breaking.{pick_there}
use Rattle.run_search.proofs.Picking.{put_kept, put_there}
use Rattle.run_search.proofs.pick.add.Goals as goal

pub returns-then-events_in-clause-there : goal.returns-then-events_in-clause-there
returns-then-events_in-clause-there c =
    let one = c.in-Some.ensures in
    let is = ap (λ (l : List State). slice_get l c.in-Some.index) (sym c.as_slice.ensures.value) ∙ one.1 in
    put_there c.args.spec.now c.args.most c.args.picks.now.items c.in-Some.index c.args.pick (slice_get_within c.args.picks.now.items c.in-Some.index one.0 is)

pub returns-then-events_in-clause-kept : goal.returns-then-events_in-clause-kept
returns-then-events_in-clause-kept c =
    let one = c.in-Some.ensures in
    let is = ap (λ (l : List State). slice_get l c.in-Some.index) (sym c.as_slice.ensures.value) ∙ one.1 in
    let read = ap (λ (s : State). events_in s.items) (c.index.ensures ∙ get_or_from_slice_get c.args.picks.now.items c.in-Some.index one.0 c.index.result.now is) in
    put_kept c.args.spec.now c.args.most c.args.picks.now.items c.in-Some.index one.0 c.args.pick is (same_sym c.args.spec.now c.args.most one.0.items c.args.pick.items one.2)
    (omega (arith, read, c.events_in.ensures, c.events_in-2.ensures, c.if-events_in.true))

pub returns-else-events_in-clause-there : goal.returns-else-events_in-clause-there
returns-else-events_in-clause-there c =
    let one = c.in-Some.ensures in
    let is = ap (λ (l : List State). slice_get l c.in-Some.index) (sym c.as_slice.ensures.value) ∙ one.1 in
    let read = ap (λ (s : State). events_in s.items) (c.index.ensures ∙ get_or_from_slice_get c.args.picks.now.items c.in-Some.index one.0 c.index.result.now is) in
    (one.0, pick_there c.args.picks.now.items c.in-Some.index one.0 is, one.2, omega (arith, read, c.events_in.ensures, c.events_in-2.ensures, c.if-events_in.false))
