use Rattle.std.proofs.Common.{◌≡◌, ◌∙◌, ◌++◌, ◌∷◌, [], List, ℕ, map, ap, sym, arith}
use Rattle.std.specs.List.{range_with_len}
use Rattle.std.proofs.lemmas.List.FromFn.{map-range_with_len_more}
use Rattle.room_core.specs.Agreements.{input_at}
use Rattle.ws_history.specs.Readings.{read_of}
use Rattle.room_spec.specs.Rooms.{processes}
use Rattle.ws_history.proofs.RunSpecs.{inputs_run}
use Rattle.ws_history.proofs.inputs.inputs_in.Goals as goal

pub loop-j-preserved : goal.loop-j-preserved
loop-j-preserved c =
    let more = map-range_with_len_more (input_at c.args.room.now.spec (read_of c.args.room.now)) 0 c.loop-j.j c.loop-j.j (omega arith) in
    record {
      so_far = c.push.ensures.items ∙ ap (λ (l : List ℕ). l ++ c.input_at.result ∷ []) c.loop-j.invariant.so_far
          ∙ ap (λ (x : ℕ). map (input_at c.args.room.now.spec (read_of c.args.room.now)) (range_with_len 0 c.loop-j.j) ++ x ∷ []) c.input_at.ensures ∙ sym more;
      count = omega arith;
    }

pub returns : goal.returns
returns c =
    let spec = c.args.room.now.spec in
    let F = read_of c.args.room.now in
    let all : c.loop-j.j ≡ processes spec = omega arith in
    c.loop-j.invariant.so_far ∙ ap (λ (n : ℕ). map (input_at spec F) (range_with_len 0 n)) all ∙ inputs_run spec F
