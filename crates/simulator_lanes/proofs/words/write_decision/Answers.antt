use Rattle.std.proofs.Common.{◌≡◌, ◌∙◌, ℕ, List, ◌++◌, Result, Ok, Err, ap}
use Rattle.std.specs.Prelude.{codes, decimal}
use Rattle.std.specs.Result.{OnOk}
use Rattle.std.proofs.lemmas.List.{append_assoc}
use Rattle.simulator_lanes.specs.Words.{decision_words}
use Rattle.simulator_lanes.proofs.words.write_decision.Goals as goal

in_two : {X E : Type 0} (r : Result X E) (start one other between now : List ℕ) → between ≡ start ++ one → OnOk r (now ≡ between ++ other) → OnOk r (now ≡ start ++ (one ++ other))
in_two (Ok x) start one other between now first second = second ∙ ap (λ (t : List ℕ). t ++ other) first ∙ append_assoc start one other
in_two (Err e) start one other between now first second = tt

pub returns : goal.returns
unfolding decision_words
returns c =
    let second = rw c.from.ensures at c.write_decimal.ensures in
    rw c.in-Some.is (in_two c.write_decimal.result c.args.output.now (codes "; the simulator decides ") (decimal c.in-Some.decision) c.put.new.self c.write_decimal.new.output c.in_ok-put.ensures.text second)
