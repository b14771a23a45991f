use Rattle.std.proofs.Common.{◌∙◌, ◌++◌, ◌∷◌, [], List, Option, ℕ, map, ap, sym, arith}
use Rattle.std.specs.List.{range_with_len}
use Rattle.std.proofs.lemmas.List.FromFn.{map-range_with_len_more}
use Rattle.view_grade.specs.Inputs.{input_at}
use Rattle.view_grade.proofs.inputs.inputs_of.Goals as goal

pub loop-process-preserved : goal.loop-process-preserved
loop-process-preserved c =
    let more = map-range_with_len_more (input_at c.args.room.now) 0 c.loop-process.process c.loop-process.process (omega arith) in
    record {
      so_far = c.push.ensures.items ∙ ap (λ (l : List (Option ℕ)). l ++ c.input_at.result ∷ []) c.loop-process.invariant.so_far
          ∙ ap (λ (x : Option ℕ). map (input_at c.args.room.now) (range_with_len 0 c.loop-process.process) ++ x ∷ []) c.input_at.ensures ∙ sym more;
      count = omega arith;
    }
