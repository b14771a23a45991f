use Rattle.std.proofs.Common.{◌∙◌, Some, set, ap, subst, sym}
use Rattle.std.proofs.lemmas.Result.{IfOk-weaker}
use Rattle.view_draw.specs.Drawn.{IsPlace, is_of, noted}
use Rattle.view_draw.proofs.Changing.{set_changed}
use Rattle.view_draw.proofs.Indexing.{more_marks, noted_nowhere, noted_there, still_indexed}
use Rattle.view_draw.proofs.panels.Panels.note.Goals as goal

pub invariant_of-self : goal.invariant_of-self
invariant_of-self c =
    still_indexed c.note.result c.self.inside.places.entries c.self.inside.panels.items c.args.marks.now c.in-Some.place c.index_mut.result.now c.note.new.self c.self.invariant c.index_mut.ensures.value c.note.ensures.noted c.note.ensures.err

pub returns-in-Some : goal.returns-in-Some
returns-in-Some c = record {
  noted = IfOk-weaker c.note.result _ _ (λ value is.
      ap (set c.self.inside.panels.items c.in-Some.place) is
      ∙ set_changed (more_marks c.args.marks.now) c.self.inside.panels.items c.in-Some.place c.index_mut.result.now c.index_mut.ensures.value
      ∙ sym (noted_there c.args.name.now c.args.marks.now c.self.inside.panels.items c.in-Some.place (subst (IsPlace (Some c.in-Some.place) (is_of c.args.name.now)) (sym c.self.view_is) c.in-Some.ensures.place))
      ∙ ap (noted c.args.name.now c.args.marks.now) c.self.view_is) c.note.ensures.noted;
}

pub returns-in-None : goal.returns-in-None
returns-in-None c = record { noted = sym (noted_nowhere c.args.name.now c.args.marks.now c.args.self.now c.in-None.ensures.place) }
