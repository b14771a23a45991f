use Rattle.std.proofs.Common.{◌≡◌, ℕ, ◌∷◌, ◌++◌, OnOk, codes, decimal, subst}
use Rattle.view_rooms.proofs.text.write_most.Goals as goal

pub returns : goal.returns
returns c =
    subst (λ (most : ℕ). OnOk c.write_number_line.result (c.write_number_line.new.output ≡ c.args.output.now ++ ((codes "\n" ++ c.args.name.now) ++ (codes " decided at most" ++ ((32 ∷ decimal most) ++ codes " values\n")))))
    c.most_values-most.ensures c.write_number_line.ensures
