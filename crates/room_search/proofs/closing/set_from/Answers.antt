use Rattle.std.proofs.Common.{ℕ, List, subst, sym}
use Rattle.room_search.specs.Nodes.{AreIn, AreNumbers}
use Rattle.room_search.proofs.Sets.{extended}
use Rattle.room_search.proofs.closing.set_from.Goals as goal

pub close-requires-clause-numbers : goal.close-requires-clause-numbers
close-requires-clause-numbers c =
    subst (AreNumbers c.args.moves.now.table.keys) (sym (extended c.extend_from_slice.new.self.items c.in_ok-set.set.items c.args.numbers.now c.in_ok-extend_from_slice.ensures.items c.in_ok-set.ensures.items)) c.requires.numbers

pub returns-clause-kept : goal.returns-clause-kept
returns-clause-kept c =
    subst (λ (l : List ℕ). AreIn l c.close.new.set.items) (extended c.extend_from_slice.new.self.items c.in_ok-set.set.items c.args.numbers.now c.in_ok-extend_from_slice.ensures.items c.in_ok-set.ensures.items) c.in_ok-close.ensures.kept
