use Rattle.std.proofs.Common.{◌≡◌, ℕ, List, length, get_or, sym, subst, ap, ◌∙◌}
use Rattle.std.specs.Prelude.{MatchOption, slice_get}
use Rattle.std.proofs.lemmas.Option.{same_Some}
use Rattle.room_core.specs.Calls.{configuration_of}
use Rattle.room_search.specs.declared.local.Local.{Local}
use Rattle.room_search.specs.Nodes.{set_of}
use Rattle.room_search.specs.Taking.{IsChosen, IsNoChoice}
use Rattle.room_search.proofs.Sets.{never_absent, place_of}
use Rattle.room_search.proofs.Stored.{at_place}
use Rattle.room_search.proofs.choice.Choice.with.Goals as goal

pub unreachable-requires : goal.unreachable-requires
unreachable-requires c =
    let node = c.args.node.now in
    let i = length c.args.self.now.numbers.items in
    let number = get_or c.next_set.result.now c.args.place 0 in
    let there = place_of (set_of node i) c.args.place number c.requires.place (ap (λ (l : List ℕ). get_or l c.args.place 0) c.next_set.ensures ∙ sym (at_place (set_of node i) c.args.place number c.requires.place)) in
    never_absent c.args.source.now.explored.now.moves.table.keys number c.in_default.ensures.key (c.requires.node.numbers i c.requires.few number there)

pub with_local-requires-clause-local : goal.with_local-requires-clause-local
with_local-requires-clause-local c = c.requires.searched.moves.locals (get_or c.next_set.result.now c.args.place 0) c.in-Some.local.now (sym c.in-Some.ensures.key)

pub returns-clause-chosen : goal.returns-clause-chosen
returns-clause-chosen c = λ local is.
    let spec = c.args.source.now.subject.now.spec.now in
    let start = configuration_of c.args.source.now.subject.now.start.now in
    let node = c.args.node.now in
    let self = c.args.self.now in
    let set = set_of node (length self.numbers.items) in
    let number = get_or c.next_set.result.now c.args.place 0 in
    let number_is : number ≡ get_or set c.args.place 0 = ap (λ (l : List ℕ). get_or l c.args.place 0) c.next_set.ensures in
    let one : c.in-Some.local.now ≡ local = same_Some c.in-Some.local.now local (c.in-Some.ensures.key ∙ ap (slice_get c.args.source.now.explored.now.moves.table.keys) number_is ∙ is) in
    subst (λ (l : Local). MatchOption c.in_ok-next.next (IsNoChoice spec start node l self) (IsChosen spec start node l self)) one c.in_ok-next.ensures.chosen
