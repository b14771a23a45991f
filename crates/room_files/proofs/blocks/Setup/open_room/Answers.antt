use Rattle.std.proofs.Common.{◌≡◌, ◌∙◌, ℕ, List, length, false, true, sym, ap}
use Rattle.indexmap.proofs.MapLemmas.{OnOk-map}
use Rattle.history_checker.specs.Verdicts.{has_room}
use Rattle.room_files.specs.Blocks.{Setup, open_room}
use Rattle.room_files.proofs.BlockSteps.{opened_name, refused_name, still_unfed}
use Rattle.room_files.proofs.AllKinds.{all_read}
use Rattle.room_files.proofs.blocks.Setup.open_room.Goals as goal

pub returns-clause-room : goal.returns-clause-room
returns-clause-room g c =
    let rooms = g.R.Opens.specs c.self.inside.rooms in
    let free : has_room c.args.spec.name rooms ≡ false = ap (λ (name : List ℕ). has_room name rooms) (sym c.name.ensures) ∙ sym c.if-has.ensures in
    let setup : Setup = record { rooms = rooms; refused = g.T.Refuses.lines c.self.inside.refused; line = c.self.inside.line } in
    OnOk-map c.push.result _ _ (λ opened. opened_name setup c.args.spec (g.R.Opens.specs c.push.new.self) free opened ∙ ap (λ (s : Setup). open_room s c.args.spec) c.self.view_is) c.push.ensures.opened

pub returns-then-has-clause-room : goal.returns-then-has-clause-room
returns-then-has-clause-room g c =
    let known : has_room c.args.spec.name c.args.self.now.rooms ≡ true = ap (λ (s : Setup). has_room c.args.spec.name s.rooms) (sym c.self.view_is) ∙ ap (λ (name : List ℕ). has_room name (g.R.Opens.specs c.self.inside.rooms)) (sym c.name.ensures) ∙ sym c.if-has.ensures in
    OnOk-map c.refuse.result _ _ (λ refused. refused ∙ refused_name c.args.self.now c.args.spec known) c.refuse.ensures.refused

pub invariant_of-self : goal.invariant_of-self
invariant_of-self g c = still_unfed g.R.Opens.is_unfed c.self.inside.rooms c.push.new.self c.push.result c.push.ensures.unfed c.push.ensures.err c.self.invariant

pub push-requires-clause-block : goal.push-requires-clause-block
push-requires-clause-block g c = all_read c.args.kinds c.args.block.now (c.args.spec, length c.args.block.now) c.requires
