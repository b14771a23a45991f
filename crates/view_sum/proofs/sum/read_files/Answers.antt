use Rattle.std.proofs.Common.{◌∙◌, ◌+◌, ◌∷◌, [], ap, arith, map, take}
use Rattle.std.proofs.lemmas.List.{length-map, length-take-le, map-append, take_more}
use Rattle.view_sum.specs.Files.{placed_of}
use Rattle.view_sum.proofs.Ordered.{read_more}
use Rattle.view_sum.proofs.sum.read_files.Goals as goal

pub loop-index-preserved : goal.loop-index-preserved
loop-index-preserved c =
    let files = c.args.files.now in
    let i = c.loop-index.index in
    let less = c.loop-index-test.true in
    let count = length-map (take i files) (λ file. file.now) ∙ length-take-le i files (omega (arith, less)) in
    read_more (map (λ file. file.now) (take i files)) (map placed_of c.loop-index.read.items) i _ (placed_of c.in_ok-read_one.field-0) (map (λ file. file.now) (take (i + 1) files)) (map placed_of c.push.new.files.items) c.loop-index.invariant count c.in_ok-read_one.ensures.read
    (ap (map (λ file. file.now)) (take_more files i _ less) ∙ map-append (λ file. file.now) (take i files) _)
    (ap (map placed_of) c.in_ok-push.ensures ∙ map-append placed_of c.loop-index.read.items (c.in_ok-read_one.field-0 ∷ []))
