-- What the matches of a subcommand give.
use Rattle.std.proofs.Common.{◌≡◌, ◌∙◌, ℕ, List, Option, Some, None, ap}
use Rattle.std.specs.Option.{option_map}
use Rattle.clap.specs.Words.{Row, first_of, first_value}
use Rattle.clap.specs.Walk.{rows_of}
use Rattle.clap.specs.declared.parser.matches.Found.{Found}
use Rattle.clap.proofs.WalkLemmas.{first_value-rows}
use Rattle.bgview_command_line.specs.CommandLine.{value_among}

pub value_found : (name : List ℕ) (found : Option (List ℕ × List Row)) (f : Found) (value : Option (List ℕ)) → value ≡ first_value f name → Some (rows_of f) ≡ option_map (λ sub. sub.1) found → value ≡ value_among name found
value_found name None f value is there = absurd cc
value_found name (Some sub) f value is there =
    let rows : rows_of f ≡ sub.1 = cc in
    is ∙ first_value-rows f name ∙ ap (first_of name) rows
