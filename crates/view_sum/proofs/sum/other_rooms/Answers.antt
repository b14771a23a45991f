use Rattle.std.proofs.Common.{◌≡◌, ◌∙◌, ◌<◌, ℕ, List, Option, ap₂, arith, get_or, length, map, min, rules, subst}
use Rattle.std.specs.Prelude.{IfSome}
use Rattle.view_sum.specs.Refusals.{line_by}
use Rattle.view_sum.specs.declared.part.Part.{Part}
use Rattle.view_sum.specs.declared.sum.SampleFile.{SampleFile}
use Rattle.view_sum.proofs.Ordered.{first_slot, has_other_rooms}
use Rattle.view_sum.proofs.sum.other_rooms.Goals as goal

pub returns-then-len-rooms-clause-some : goal.returns-then-len-rooms-clause-some
returns-then-len-rooms-clause-some c =
    let files = c.args.files.now in
    let file = c.file-item.result in
    let less = c.loop-file-test.true in
    let some : 0 < length files = omega (arith, less) in
    let first = get_or files 0 c.index-files-0.result in
    let there = first_slot files c.index-files-0.result some in
    let rooms_are : c.args.rooms ≡ length first.parts.items = subst (λ (o : Option SampleFile). IfSome o (λ f. c.args.rooms ≡ length f.parts.items)) there c.requires in
    let many : c.len.result ≡ length file.parts.items = search rules in
    let other = c.if-len-rooms.true in
    let least : c.min.result ≡ min c.args.rooms (length file.parts.items) = search rules in
    has_other_rooms files c.loop-file.file-index c.args.rooms c.last_line.result file first _ less c.file-item.is there rooms_are (λ same. other (many ∙ same))
    (c.last_line.ensures ∙ ap₂ (λ (n : ℕ) (parts : List Part). line_by n (map (λ (p : Part). p.line) parts)) least c.deref.ensures.value)
