use Rattle.std.proofs.Common.{◌≡◌, ◌∙◌, ◌++◌, ◌∷◌, [], Bool, true, false, cond, ap, arith}
use Rattle.std.proofs.lemmas.List.{append-nil}
use Rattle.std.specs.List.{filter, range_with_len}
use Rattle.arrayvec.specs.ArrayVec.{array_vec_len}
use Rattle.ws_history.specs.Readings.{read_of}
use Rattle.ws_history.proofs.Searching.{filter_more}
use Rattle.ws_history.proofs.reports.crashed_in.Goals as goal
use Rattle.ws_history.proofs.reports.crashed_in.Goals.{then-has_crashed, else-has_crashed}

pub loop-i-preserved : goal.loop-i-preserved
loop-i-preserved c =
    let crashed = (read_of c.args.room.now).crashed in
    let before = filter crashed (range_with_len 0 c.loop-i.i) in
    let more = filter_more crashed c.loop-i.i in
    elim c.if-has_crashed.branch [
      | then-has_crashed w ↦
          let yes_it : crashed c.loop-i.i ≡ true = cc in
          let longer = more ∙ ap (λ (b : Bool). before ++ cond b (c.loop-i.i ∷ []) []) yes_it in
          record { so_far = cc; count = omega (arith, ap array_vec_len w.crashed-is) }
      | else-has_crashed w ↦
          let no_it : crashed c.loop-i.i ≡ false = cc in
          let same = more ∙ ap (λ (b : Bool). before ++ cond b (c.loop-i.i ∷ []) []) no_it ∙ append-nil before in
          record { so_far = cc; count = omega (arith, ap array_vec_len w.crashed-is) }
    ]
