-- What the matches of a subcommand give.
use Rattle.std.proofs.Common.{◌≡◌, ◌∙◌, ℕ, List, [], Option, Some, None, ap}
use Rattle.std.specs.Prelude.{codes, unwrap_or}
use Rattle.std.specs.Option.{option_map}
use Rattle.clap.specs.Words.{Row, all_of, matched_of, raw_values}
use Rattle.clap.specs.Walk.{rows_of}
use Rattle.clap.specs.declared.parser.matches.Found.{Found}
use Rattle.clap.proofs.WalkLemmas.{raw_values-rows}
use Rattle.bgview_command_line.specs.CommandLine.{codes_among, files_among}

pub codes_found : (found : Option (List ℕ × List Row)) (f : Found) (texts : Option (List (List ℕ))) → texts ≡ option_map raw_values (matched_of f (codes "CODE")) → Some (rows_of f) ≡ option_map (λ sub. sub.1) found
    → unwrap_or texts [] ≡ codes_among found
codes_found None f texts is there = absurd cc
codes_found (Some sub) f texts is there =
    let rows : rows_of f ≡ sub.1 = cc in
    ap (λ (t : Option (List (List ℕ))). unwrap_or t []) (is ∙ raw_values-rows f (codes "CODE") ∙ ap (all_of (codes "CODE")) rows)

pub files_found : (found : Option (List ℕ × List Row)) (f : Found) (texts : Option (List (List ℕ))) → texts ≡ option_map raw_values (matched_of f (codes "FILE")) → Some (rows_of f) ≡ option_map (λ sub. sub.1) found
    → unwrap_or texts [] ≡ files_among found
files_found None f texts is there = absurd cc
files_found (Some sub) f texts is there =
    let rows : rows_of f ≡ sub.1 = cc in
    ap (λ (t : Option (List (List ℕ))). unwrap_or t []) (is ∙ raw_values-rows f (codes "FILE") ∙ ap (all_of (codes "FILE")) rows)
