use Rattle.std.proofs.Common.{◌∙◌, ◌++◌, ◌∷◌, [], List, map, ap, sym, arith}
use Rattle.std.specs.List.{range_with_len}
use Rattle.std.proofs.lemmas.List.FromFn.{map-range_with_len_more}
use Rattle.ws_history.specs.declared.states.ProcessState.{ProcessState}
use Rattle.ws_history.specs.Readings.{read_of}
use Rattle.ws_history.specs.Reports.{state_of}
use Rattle.ws_history.proofs.reports.states_of.Goals as goal

pub loop-j-preserved : goal.loop-j-preserved
loop-j-preserved c =
    let more = map-range_with_len_more (state_of c.args.room.now.spec (read_of c.args.room.now)) 0 c.loop-j.j c.loop-j.j (omega arith) in
    record {
      so_far = c.push.ensures.items ∙ ap (λ (l : List ProcessState). l ++ c.state_of.result ∷ []) c.loop-j.invariant.so_far
          ∙ ap (λ (x : ProcessState). map (state_of c.args.room.now.spec (read_of c.args.room.now)) (range_with_len 0 c.loop-j.j) ++ x ∷ []) c.state_of.ensures ∙ sym more;
      count = omega arith;
    }
