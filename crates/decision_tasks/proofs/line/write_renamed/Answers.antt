use Rattle.std.proofs.Common.{◌≡◌, ◌∙◌, ◌++◌, ℕ, List, true, false, refl, ap, arith}
use Rattle.std.specs.Prelude.{slice_index_or}
use Rattle.protocol_lang.specs.Tokens.{is_letter}
use Rattle.decision_tasks.proofs.Renaming.{letter_written, other_written}
use Rattle.decision_tasks.proofs.line.write_renamed.Goals as goal
use Rattle.decision_tasks.proofs.line.write_renamed.Goals.{then-not-is_letter+in_ok-put+in_ok-put-2, else-not-is_letter}

pub loop-at-preserved : goal.loop-at-preserved
loop-at-preserved c = elim c.if-not-is_letter.branch [
  | then-not-is_letter+in_ok-put+in_ok-put-2 w ↦
      let other : is_letter (slice_index_or c.args.line.now c.loop-at.at 0) ≡ false = cc in
      record {
        within = omega (arith, w.start-is);
        text =
            other_written c.args.line.now c.loop-at.output w.put.new.self c.if-not-is_letter.output _ c.loop-at.start c.loop-at.at c.if-not-is_letter.start (slice_index_or c.args.line.now c.loop-at.at 0) c.loop-at-test.true other
            w.start-is (w.in_ok-put.ensures.text ∙ ap (λ (word : List ℕ). c.loop-at.output ++ word) w.renamed.ensures) (w.output-is ∙ w.in_ok-put-2.ensures.text) refl c.loop-at.invariant.text;
      }
  | else-not-is_letter w ↦
      let letter : is_letter (slice_index_or c.args.line.now c.loop-at.at 0) ≡ true = cc in
      record {
        within = omega (arith, w.start-is, c.loop-at.invariant.within);
        text =
            letter_written c.args.line.now c.loop-at.output c.if-not-is_letter.output _ c.loop-at.start c.loop-at.at c.if-not-is_letter.start c.loop-at.invariant.within c.loop-at-test.true letter w.start-is
            w.output-is c.loop-at.invariant.text;
      }
]
