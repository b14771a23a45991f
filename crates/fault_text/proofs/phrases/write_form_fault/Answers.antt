use Rattle.std.proofs.Common.{◌≡◌, ◌∙◌, ◌++◌, ℕ, List, OnOk, ap, drop, map, subst, take}
use Rattle.std.proofs.lemmas.List.{append_assoc}
use Rattle.fault_text.specs.Lines.{indented_all}
use Rattle.fault_text.specs.Phrases.{form_fault, form_notes}
use Rattle.fault_text.specs.Places.{place_notes}
use Rattle.fault_text.proofs.phrases.write_form_fault.Goals as goal

pub returns : goal.returns
unfolding form_fault
returns c =
    let line = c.args.line.now in
    let forms = map (λ form. form.now) c.args.forms.now in
    let said : ℕ → List ℕ = λ at. indented_all (place_notes c.args.remark.now.number c.args.remark.now.sentence.now (take at line) (drop at line)) in
    let notes : ℕ → List ℕ = λ at. form_notes at line forms in
    let at = c.place_in-at.result in
    let whole = ap (λ (text : List ℕ). text ++ notes at) c.in_ok-write_remark_at.ensures
    ∙ append_assoc c.args.output.now (said at) (notes at)
    ∙ ap (λ (at : ℕ). c.args.output.now ++ (said at ++ notes at)) c.place_in-at.ensures.at in
    subst (λ (text : List ℕ). OnOk c.write_form_notes.result (c.write_form_notes.new.output ≡ text)) whole c.write_form_notes.ensures
