use Rattle.std.proofs.Common.{◌∙◌, Some, None, set, ap, subst, sym}
use Rattle.view_draw.specs.Drawn.{AreIndexed, IsPlace, changed, is_of, with_report}
use Rattle.view_draw.proofs.Changing.{set_changed}
use Rattle.view_draw.proofs.Indexing.{closed, finished_there}
use Rattle.view_draw.proofs.panels.Panels.finish.Goals as goal

pub invariant_of-self : goal.invariant_of-self
invariant_of-self c =
    subst (AreIndexed c.swap_remove.new.self.entries)
    (sym (ap (set c.self.inside.panels.items c.in-Some.place) c.finish.ensures ∙ set_changed (with_report c.args.report) c.self.inside.panels.items c.in-Some.place c.index_mut.result.now c.index_mut.ensures.value))
    (closed c.self.inside.places.entries c.swap_remove.new.self.entries c.self.inside.panels.items c.args.name.now c.args.report c.in-Some.place c.self.invariant
    (subst (IsPlace (Some c.in-Some.place) (is_of c.args.name.now)) (sym c.self.view_is) c.in-Some.ensures.place) c.swap_remove.ensures.updates.0)

pub returns-in-Some : goal.returns-in-Some
returns-in-Some c =
    ap (set c.self.inside.panels.items c.in-Some.place) c.finish.ensures
    ∙ set_changed (with_report c.args.report) c.self.inside.panels.items c.in-Some.place c.index_mut.result.now c.index_mut.ensures.value
    ∙ ap (changed (with_report c.args.report) (Some c.in-Some.place)) c.self.view_is
    ∙ sym (finished_there c.args.name.now c.args.report c.args.self.now (Some c.in-Some.place) c.in-Some.ensures.place)

pub returns-in-None : goal.returns-in-None
returns-in-None c = sym (finished_there c.args.name.now c.args.report c.args.self.now None c.in-None.ensures.place)
