use Rattle.std.proofs.Common.{◌∙◌, ◌++◌, ◌∷◌, [], List, sym, ap, subst}
use Rattle.room_spec.specs.Rooms.{RoomSpec}
use Rattle.room_files.specs.SpecLists.{AreNamed, specs_in}
use Rattle.room_files.proofs.SpecLists.{AreNamed-push, pushed, specs-push}
use Rattle.room_files.proofs.spec_list.SpecList.push.Goals as goal

pub invariant_of-self-2 : goal.invariant_of-self-2
invariant_of-self-2 c =
    let specs = c.self.inside.specs in
    let after = pushed specs c.insert.new.self.entries c.args.self.now c.in_ok-name.name c.args.spec c.self.invariant c.self.view_is (c.in_ok-name.ensures.cases ∙ c.name.ensures) c.requires c.in_ok-insert.ensures.entries in
    subst AreNamed (sym after) (AreNamed-push specs.entries c.args.spec c.self.invariant)

pub returns-clause-added : goal.returns-clause-added
returns-clause-added c =
    let specs = c.self.inside.specs in
    let after = pushed specs c.insert.new.self.entries c.args.self.now c.in_ok-name.name c.args.spec c.self.invariant c.self.view_is (c.in_ok-name.ensures.cases ∙ c.name.ensures) c.requires c.in_ok-insert.ensures.entries in
    ap specs_in after ∙ specs-push specs.entries c.args.spec.name c.args.spec ∙ ap (λ (list : List RoomSpec). list ++ c.args.spec ∷ []) c.self.view_is
