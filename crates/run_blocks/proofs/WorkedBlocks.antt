-- The definitions of blocks with other inputs on what was worked out by hand.
use Rattle.std.proofs.Common.{◌≡◌, [], ◌∷◌, refl}
use Rattle.std.specs.Prelude.{codes}
use Rattle.std.specs.Fmt.{digits}
use Rattle.run_blocks.specs.Blocks.{block_with, run_block}

other_inputs : block_with (codes "bgsim 2\nroom pair\ninputs 4 9\nsimulators 2\nrounds 1\n") (0 ∷ 15 ∷ []) ≡ codes "bgsim 2\nroom pair\ninputs 0 15\nsimulators 2\nrounds 1\n"
unfolding digits
other_inputs = refl

-- two simulators have agreed on the inputs of three processes
run_of_three : run_block (codes "reduction 1\nroom vote\ninputs 7 3\nprocesses 3\nrounds 2\nturns 100\ntask agree 2\nprotocol\nfirst input;\nelse decide min;\nend\n") 2 (3 ∷ 7 ∷ 7 ∷ [])
    ≡ codes "bgsim 2\nroom vote\ninputs 3 7 7\nsimulators 2\nrounds 2\nturns 100\ntask agree 2\nprotocol\nfirst input;\nelse decide min;\nend\n"
unfolding digits
run_of_three = refl

-- every byte after the fourth line stays, and so does a line end that is missing
rest_stays : run_block (codes "reduction 1\nroom one\ninputs 5\nprocesses 1\nrounds 1\nturns 9\nprotocol\nfirst   input ;\n\nelse decide mine;\nend") 1 (5 ∷ []) ≡ codes "bgsim 2\nroom one\ninputs 5\nsimulators 1\nrounds 1\nturns 9\nprotocol\nfirst   input ;\n\nelse decide mine;\nend"
unfolding digits
rest_stays = refl
