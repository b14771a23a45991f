use Rattle.std.proofs.Common.{◌∙◌, ◌++◌, ◌∷◌, [], ℕ, List, Option, None, ap}
use Rattle.std.proofs.lemmas.List.{replicate-append-replicate}
use Rattle.history_checker.proofs.row.Row.open.Goals as goal

pub loop-preserved : goal.loop-preserved
loop-preserved c =
    c.in_ok-add_silent.ensures ∙ ap (λ (row : List (Option ℕ)). row ++ None ∷ []) c.loop.invariant ∙ replicate-append-replicate c.loop.counter 1 None
