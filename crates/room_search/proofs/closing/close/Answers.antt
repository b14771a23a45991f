use Rattle.std.proofs.Common.{arith}
use Rattle.room_search.proofs.Moving.{goes_not, goes_on}
use Rattle.room_search.proofs.Sets.{longer, place_of}
use Rattle.room_search.proofs.closing.close.Goals as goal

pub returns-then-has_crashed-clause-moves : goal.returns-then-has_crashed-clause-moves
returns-then-has_crashed-clause-moves c = goes_not c.args.subject.now.spec.now c.args.moves.now c.requires.moves

pub loop-at-init : goal.loop-at-init
loop-at-init c = record {
  on = goes_not c.args.subject.now.spec.now c.args.moves.now c.requires.moves;
  numbers = c.requires.numbers;
  kept = λ number there. there;
}

pub go_alone-requires-clause-moves : goal.go_alone-requires-clause-moves
go_alone-requires-clause-moves c = c.loop-at.invariant.on.are

pub go_alone-requires-clause-said : goal.go_alone-requires-clause-said
go_alone-requires-clause-said c = let more = longer c.args.moves.now.said.keys c.loop-at.moves.said.keys c.loop-at.invariant.on.said in omega (arith, more, c.requires.said)

pub go_alone-requires-clause-numbers : goal.go_alone-requires-clause-numbers
go_alone-requires-clause-numbers c = c.loop-at.invariant.numbers

pub go_alone-requires-clause-number : goal.go_alone-requires-clause-number
go_alone-requires-clause-number c = c.loop-at.invariant.numbers c.index.result.now (place_of c.loop-at.set.items c.loop-at.at c.index.result.now (omega (arith, c.loop-at-test.true, c.len.ensures)) c.index.ensures)

pub loop-at-preserved : goal.loop-at-preserved
loop-at-preserved c = record {
  on = goes_on c.args.subject.now.spec.now c.args.moves.now c.loop-at.moves c.go_alone.new.moves c.loop-at.invariant.on c.in_ok-go_alone.ensures.moves;
  numbers = c.in_ok-go_alone.ensures.numbers;
  kept = λ number there. c.in_ok-go_alone.ensures.kept number (c.loop-at.invariant.kept number there);
}

pub returns-clause-moves : goal.returns-clause-moves
returns-clause-moves c = c.loop-at.invariant.on

pub returns-clause-numbers : goal.returns-clause-numbers
returns-clause-numbers c = c.loop-at.invariant.numbers

pub returns-clause-kept : goal.returns-clause-kept
returns-clause-kept c = c.loop-at.invariant.kept
