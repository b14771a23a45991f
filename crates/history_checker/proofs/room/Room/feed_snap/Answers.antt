use Rattle.std.proofs.Common.{◌∷◌, ◌∙◌, ℕ, List, Option, Ok, refl, sym, ap, subst}
use Rattle.arrayvec.specs.ArrayVec.{ArrayVec}
use Rattle.transcript.specs.declared.event.Event.TheVariants.{Snap}
use Rattle.history_checker.specs.Processes.{lasts}
use Rattle.history_checker.specs.Shown.{SaysRow}
use Rattle.history_checker.proofs.SaidLines.{says_snap}
use Rattle.history_checker.proofs.room.Room.feed_snap.Goals as goal

pub returns-then-feed_said-clause-fed : goal.returns-then-feed_said-clause-fed
returns-then-feed_said-clause-fed c =
    let row : ArrayVec (Option ℕ) = record { items = lasts c.args.self.now.processes } in
    let says = subst (λ (values : List ℕ). SaysRow (32 ∷ values) row.items) c.values.ensures (c.if-feed_said.ensures.says refl) in
    record {
      event = Snap c.from.result row;
      said = says_snap c.args.line.now row c.requires says (c.if-feed_said.ensures.few refl) ∙ ap (λ (p : ℕ). Ok (Snap p row)) (sym (c.from.ensures ∙ c.process.ensures));
      processed = c.if-feed_said.ensures.processed refl;
    }
