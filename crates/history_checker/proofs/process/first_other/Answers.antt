use Rattle.std.proofs.Common.{◌≡◌, ◌∙◌, ℕ, ◌<◌, true, eqb, not, List, get_or, take, map, Option, Some, None, sym, ap, arith}
use Rattle.std.specs.Option.{option_eq}
use Rattle.std.proofs.lemmas.Grind.{common_steps}
use Rattle.std.proofs.lemmas.List.{get_or-map, get_or-take, take-map}
use Rattle.transcript.proofs.CallerLemmas.{same}
use Rattle.history_checker.specs.declared.process.Process.{Process}
use Rattle.history_checker.specs.Processes.{lasts}
use Rattle.history_checker.proofs.process.first_other.Goals as goal

so_far : (row : List (Option ℕ)) (all : List Process) (p r : ℕ) → r < p → take p row ≡ map (λ (process : Process). process.last) (take p all) → get_or row r None ≡ get_or (lasts all) r None
so_far row all p r earlier is =
    sym (get_or-take p row r None earlier) ∙ ap (λ (xs : List (Option ℕ)). get_or xs r None) (is ∙ sym (take-map (λ (process : Process). process.last) p all)) ∙ get_or-take p (lasts all) r None earlier

unequal : (a b : Option ℕ) → a ≡ b → true ≡ not (option_eq eqb a b) → ⊥
unequal None None is h = absurd cc
unequal None (Some y) is h = absurd cc
unequal (Some x) None is h = absurd cc
unequal (Some x) (Some y) is h = let e : x ≡ y = cc in absurd (let no = rw (e, same y) at h in cc)

pub returns-then-ne : goal.returns-then-ne
returns-then-ne c = record {
  within = omega arith;
  same_before = λ r earlier. so_far c.args.row.now c.args.processes.now c.loop-p.p r earlier c.loop-p.invariant;
  differs = λ is. unequal _ _ (is ∙ get_or-map (λ (process : Process). process.last) c.args.processes.now c.loop-p.p _ None c.loop-p-test.true) c.if-ne.ensures;
}

pub loop-p-preserved : goal.loop-p-preserved
loop-p-preserved c = grind (arith, common_steps)
