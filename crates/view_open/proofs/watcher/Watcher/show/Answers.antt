use Rattle.std.proofs.Common.{◌∙◌, ◌++◌, refl}
use Rattle.json_lines.specs.Lines.{json_line}
use Rattle.view_open.specs.Json.{open_data}
use Rattle.view_open.specs.Texts.{open_notes}
use Rattle.view_open.specs.Watched.{open_shown}
use Rattle.view_open.specs.declared.watcher.Watcher.{Watcher}
use Rattle.view_open.proofs.Showing.{in_two, json_shown, text_shown, written_as}
use Rattle.view_open.proofs.watcher.Watcher.show.Goals as goal

pub returns-then-self : goal.returns-then-self
returns-then-self c =
    let old = c.args.self.now in
    let spec = c.args.spec.now in
    let words = c.args.words.now in
    let known = c.args.known.now in
    let found = c.args.found.now in
    let new : Watcher = record { alloc = old.alloc; plan = old.plan; pasts = old.pasts; output = c.write_open_object.new.output; well = old.well } in
    written_as c.write_open_object.result old new (json_line (open_data words c.as_str.result.now c.crashes_for.result old.plan.nodes known found)) (open_shown old.plan spec words known found)
    (json_shown old.plan spec words c.as_str.result.now c.crashes_for.result known found c.if-self.true (c.as_str.ensures.text ∙ c.name.ensures) c.crashes_for.ensures) refl refl refl c.write_open_object.ensures

pub returns : goal.returns
returns c =
    let old = c.args.self.now in
    let spec = c.args.spec.now in
    let words = c.args.words.now in
    let known = c.args.known.now in
    let found = c.args.found.now in
    let notes = open_notes old.plan.nodes known found in
    let new : Watcher = record { alloc = old.alloc; plan = old.plan; pasts = old.pasts; output = c.write_open.new.output; well = old.well } in
    written_as c.write_open.result old new (words ++ notes) (open_shown old.plan spec words known found) (text_shown old.plan spec words known found c.if-self.false) refl refl refl
    (in_two c.write_open.result old.output words notes c.put.new.self c.write_open.new.output c.in_ok-put.ensures.text c.write_open.ensures)
