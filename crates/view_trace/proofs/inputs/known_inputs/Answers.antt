use Rattle.std.proofs.Common.{◌∙◌, ◌++◌, ◌∷◌, [], List, Option, ℕ, map, ap, sym, arith}
use Rattle.std.specs.List.{range_with_len}
use Rattle.std.proofs.lemmas.List.FromFn.{map-range_with_len_more}
use Rattle.room_core.specs.Calls.{input_of}
use Rattle.view_trace.proofs.inputs.known_inputs.Goals as goal

pub loop-process-preserved : goal.loop-process-preserved
loop-process-preserved c =
    let more = map-range_with_len_more (input_of c.args.room.now) 0 c.loop-process.process c.loop-process.process (omega arith) in
    record {
      so_far = c.push.ensures.items ∙ ap (λ (l : List (Option ℕ)). l ++ c.input.result ∷ []) c.loop-process.invariant.so_far
          ∙ ap (λ (x : Option ℕ). map (input_of c.args.room.now) (range_with_len 0 c.loop-process.process) ++ x ∷ []) c.input.ensures.value ∙ sym more;
      count = omega arith;
    }
