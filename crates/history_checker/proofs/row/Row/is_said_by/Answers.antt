use Rattle.std.proofs.Common.{◌≡◌, ◌∷◌, ◌∙◌, ℕ, List, sym, subst}
use Rattle.std.proofs.lemmas.Slice.Eq.{bytes_eq-Decides}
use Rattle.history_checker.specs.Shown.{SaysRow}
use Rattle.history_checker.proofs.SaidLines.{first_is_space}
use Rattle.history_checker.proofs.row.Row.is_said_by.Goals as goal

pub returns-in-Some : goal.returns-in-Some
returns-in-Some c = λ same.
    let entries = c.in-Some.entries.now in
    let last = c.self.inside.last.items in
    let text : entries ≡ c.args.text.now = (bytes_eq-Decides entries c.args.text.now).0 (sym c.eq.ensures ∙ same) in
    let spelled = first_is_space c.in-Some.field-0-0.now entries last (sym c.in-Some.ensures.cases.0 ∙ c.as_slice.ensures.value ∙ c.self.invariant.says.text_is) in
    let says : SaysRow (32 ∷ entries) last = record { text_is = spelled; values = c.self.invariant.says.values } in
    subst (SaysRow (32 ∷ c.args.text.now)) c.self.view_is (subst (λ (t : List ℕ). SaysRow (32 ∷ t) last) text says)
