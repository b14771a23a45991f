use Rattle.std.proofs.Common.{ℕ, get_or, arith}
use Rattle.std.proofs.lemmas.List.FromFn.{map-range_with_len_more}
use Rattle.room_core.specs.Agreements.{shown}
use Rattle.room_search.specs.Ends.{fields_by}
use Rattle.room_search.proofs.reading.shown_by.Goals as goal

pub loop-p-preserved : goal.loop-p-preserved
loop-p-preserved c =
    let more = map-range_with_len_more (λ (p : ℕ). shown c.args.subject.now.spec.now (fields_by c.args.subject.now.spec.now c.args.words.now) p (get_or c.args.row.now p 0)) 0 c.loop-p.p c.loop-p.p (omega arith) in
    record { so_far = cc; count = omega arith }
