use Rattle.std.proofs.Common.{◌++◌, ◌∷◌, [], List, map, sym, ap, ◌∙◌, arith}
use Rattle.std.specs.List.{range_with_len}
use Rattle.std.proofs.lemmas.List.FromFn.{map-range_with_len_more}
use Rattle.run_search.specs.declared.ended.Ended.{Ended}
use Rattle.room_search.specs.Ends.{end_by}
use Rattle.room_search.proofs.reading.ends_by.Goals as goal

pub loop-j-preserved : goal.loop-j-preserved
loop-j-preserved c =
    let f = end_by c.args.subject.now.spec.now c.args.words.now in
    let more = map-range_with_len_more f 0 c.loop-j.j c.loop-j.j (omega arith) in
    record {
      so_far = c.push.ensures.items ∙ ap (λ (l : List Ended). l ++ c.end_by.result ∷ []) c.loop-j.invariant.so_far ∙ ap (λ (e : Ended). map f (range_with_len 0 c.loop-j.j) ++ e ∷ []) c.end_by.ensures ∙ sym more;
      count = omega arith;
    }
