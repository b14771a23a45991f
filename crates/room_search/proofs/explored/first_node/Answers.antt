use Rattle.std.proofs.Common.{◌≡◌, ℕ, List, map, sym, subst, ap, ◌∙◌, arith}
use Rattle.std.proofs.lemmas.List.{map_push}
use Rattle.room_spec.specs.Rooms.{RoomSpec}
use Rattle.room_core.specs.Calls.{configuration_of}
use Rattle.room_search.specs.Moving.{GoOn}
use Rattle.room_search.specs.Saying.{DoSay, IsOwn}
use Rattle.room_search.specs.Steps.{AreWords}
use Rattle.room_search.proofs.Moving.{goes_on, number_grown, number_within, said_grown, said_once, said_within}
use Rattle.room_search.proofs.Searching.{AreFirstSets, first_in, first_is, first_more}
use Rattle.room_search.proofs.Sets.{longer, one_number, own_number}
use Rattle.room_search.proofs.explored.first_node.Goals as goal

pub set_from-requires-clause-said : goal.set_from-requires-clause-said
set_from-requires-clause-said c =
    let is = c.requires.said in
    let below = said_within c.args.moves.now.said.keys c.args.said is.0 is.1 in
    let first = longer c.args.moves.now.said.keys c.loop-i.moves.said.keys c.loop-i.invariant.on.said in
    let then = longer c.loop-i.moves.said.keys c.number_of_local.new.self.said.keys c.in_ok-number.ensures.moves.said in
    omega (arith, below, first, then)

pub set_from-requires-clause-numbers : goal.set_from-requires-clause-numbers
set_from-requires-clause-numbers c = one_number c.number_of_local.new.self.table.keys c.in_ok-number.number (number_within c.number_of_local.new.self.table.keys c.in_ok-local.local c.in_ok-number.number c.in_ok-number.ensures.number)

pub loop-i-preserved : goal.loop-i-preserved
loop-i-preserved c =
    let spec = c.args.subject.now.spec.now in
    let room = configuration_of c.args.subject.now.start.now in
    let number = c.in_ok-number.number in
    let local = c.in_ok-local.local in
    let old = c.loop-i.moves in
    let mid = c.number_of_local.new.self in
    let new = c.set_from.new.moves in
    let on : GoOn spec old new = goes_on spec old mid new c.in_ok-number.ensures.moves c.in_ok-set.ensures.moves in
    record {
      on = goes_on spec c.args.moves.now old new c.loop-i.invariant.on on;
      sets = first_more room old.table.keys new.table.keys c.loop-i.i (map (λ set. set.items) c.loop-i.sets.items) _ c.in_ok-set.set.items number local
          (ap (map (λ set. set.items)) c.in_ok-push.ensures.items ∙ map_push (λ set. set.items) c.loop-i.sets.items c.in_ok-set.set)
          on.table
          c.in_ok-set.ensures.numbers (c.in_ok-set.ensures.kept number (own_number number)) (number_grown mid.table.keys new.table.keys local number c.in_ok-set.ensures.moves.table c.in_ok-number.ensures.number)
          (record { known_is = c.in_ok-local.ensures.known; own = c.in_ok-local.ensures.says; is_own = subst (λ (s : RoomSpec). IsOwn s c.loop-i.i local.own.items) (sym c.requires.same) c.in_ok-local.ensures.own }) c.loop-i.invariant.sets;
    }

pub returns-clause-node : goal.returns-clause-node
returns-clause-node c =
    let spec = c.args.subject.now.spec.now in
    let room = configuration_of c.args.subject.now.start.now in
    let sets = map (λ set. set.items) c.loop-i.sets.items in
    let all : c.loop-i.i ≡ spec.simulators = omega (arith, c.loop-i-test.false, c.loop-i.auto.i-end, c.m-i-end.ensures.value) in
    let copy = c.in_ok-copy_said.ensures in
    let words : AreWords spec c.in_ok-copy_said.field-0.items = subst (AreWords spec) copy.same (c.loop-i.invariant.on.are.said c.args.said copy.one copy.is) in
    first_is spec room c.loop-i.moves.table.keys c.new.result sets (subst (AreWords spec) (sym c.new.ensures.said) words) c.new.ensures.sets
    (subst (λ (count : ℕ). AreFirstSets room c.loop-i.moves.table.keys count sets) all c.loop-i.invariant.sets)

pub returns-clause-start : goal.returns-clause-start
returns-clause-start c =
    let spec = c.args.subject.now.spec.now in
    let room = configuration_of c.args.subject.now.start.now in
    let sets = map (λ set. set.items) c.loop-i.sets.items in
    let all : c.loop-i.i ≡ spec.simulators = omega (arith, c.loop-i-test.false, c.loop-i.auto.i-end, c.m-i-end.ensures.value) in
    let count : c.loop-i.i ≡ room.spec.simulators = all ∙ ap (λ (s : RoomSpec). s.simulators) (sym c.requires.same) in
    let is = c.requires.said in
    let same = said_once c.loop-i.moves.said.keys c.args.said is.0 c.in_ok-copy_said.field-0.items (said_grown c.args.moves.now.said.keys c.loop-i.moves.said.keys c.args.said is.0 c.loop-i.invariant.on.said is.1) c.in_ok-copy_said.ensures in
    first_in room c.loop-i.moves.table.keys c.new.result sets (subst (λ (l : List ℕ). DoSay l room.words) (same ∙ sym c.new.ensures.said) is.2) c.new.ensures.sets
    (subst (λ (n : ℕ). AreFirstSets room c.loop-i.moves.table.keys n sets) count c.loop-i.invariant.sets)
