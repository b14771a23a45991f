use Rattle.std.proofs.Common.{◌≡◌, ◌∙◌, ◌+◌, ◌-◌, ◌<◌, ◌≤◌, ℕ, List, Some, ap, arith, get_or, length, map, refl, rules, subst, sym, take}
use Rattle.std.specs.Prelude.{option_and_then, slice_get}
use Rattle.view_sum.specs.Files.{parts_of}
use Rattle.view_sum.specs.Samples.{RoomSample, sample_of}
use Rattle.view_sum.specs.Sums.{so_far_of}
use Rattle.view_sum.specs.declared.sum.SampleFile.{SampleFile}
use Rattle.view_sum.proofs.Ordered.{does_not_follow, there_at}
use Rattle.view_sum.proofs.Summing.{IsSummed, all_summed, first_at, none_known, none_summed, one_summed, taken, taken_all}
use Rattle.view_sum.proofs.sum.sum_room.Goals as goal

pub loop-file-init : goal.loop-file-init
loop-file-init c =
    let files = c.args.files.now in
    let room = c.args.room in
    let file = get_or files 0 c.index-files-0-2.result in
    let within = c.requires.there 0 c.index-files-0-2.result c.requires.some in
    let part_is : c.index.result.now ≡ get_or file.parts.items room c.index.result.now = search rules in
    let there : first_at room (map parts_of files) ≡ Some (sample_of c.index.result.now) =
    ap (option_and_then (λ (parts : List RoomSample). slice_get parts room)) (there_at parts_of files 0 file c.index-files-0-2.result c.requires.some refl) ∙ there_at sample_of file.parts.items room c.index.result.now _ within part_is in (
      none_summed room (map parts_of files) (sample_of c.index.result.now) (so_far_of c.in_ok-so_far.so_far) there c.in_ok-so_far.ensures.none,
      none_known c.in_ok-so_far.so_far.how.grouped c.in_ok-so_far.so_far.outcomes.items c.no_patterns-patterns.result.keys c.in_ok-so_far.ensures.outcomes c.no_patterns-patterns.ensures,
      there_at (λ (f : SampleFile). f.index) files 0 (get_or files 0 c.index-files-0.result) c.index-files-0.result c.requires.some refl,
    )

pub add_part-requires-clause-patterns : goal.add_part-requires-clause-patterns
add_part-requires-clause-patterns c = c.loop-file.invariant.1

pub returns-in-Some-clause-err : goal.returns-in-Some-clause-err
returns-in-Some-clause-err c =
    let files = c.args.files.now in
    let room = c.args.room in
    let i = c.loop-file.file-index in
    let less = c.loop-file-test.true in
    let file = c.file-item.result in
    let within : room < length file.parts.items = subst (λ (f : SampleFile). room < length f.parts.items) (sym c.file-item.is) (c.requires.there i _ less) in
    let part_is : c.index-part.result.now ≡ get_or file.parts.items room c.index-part.result.now = search rules in
    does_not_follow files i room c.loop-file.other file _ c.index-part.result.now _ c.in-Some.reason (so_far_of c.loop-file.so_far) less c.file-item.is within part_is c.loop-file.invariant.2 c.loop-file.invariant.0 c.in-Some.ensures.reason

pub loop-file-preserved : goal.loop-file-preserved
loop-file-preserved c =
    let files = c.args.files.now in
    let room = c.args.room in
    let i = c.loop-file.file-index in
    let less = c.loop-file-test.true in
    let file = c.file-item.result in
    let after = so_far_of c.in_ok-so_far-2.so_far in
    let within : room < length file.parts.items = subst (λ (f : SampleFile). room < length f.parts.items) (sym c.file-item.is) (c.requires.there i _ less) in
    let part_is : c.index-part.result.now ≡ get_or file.parts.items room c.index-part.result.now = search rules in
    let there = there_at sample_of file.parts.items room c.index-part.result.now _ within part_is in
    let back : i ≡ i + 1 - 1 = omega arith in (
      subst (λ (so_far : List (List RoomSample)). IsSummed room (map parts_of files) so_far after) (sym (taken files i file _ less c.file-item.is))
          (one_summed room (map parts_of files) (map parts_of (take i files)) (parts_of file) (so_far_of c.loop-file.so_far) (sample_of c.index-part.result.now) after c.loop-file.invariant.0 there c.in_default.ensures.follows c.in_ok-so_far-2.ensures.sum),
      c.in_ok-so_far-2.ensures.patterns,
      subst (λ (n : ℕ). slice_get (map (λ (f : SampleFile). f.index) files) n ≡ Some file.index) back (there_at (λ (f : SampleFile). f.index) files i file _ less c.file-item.is),
    )

pub returns-clause-sum : goal.returns-clause-sum
returns-clause-sum c =
    let files = c.args.files.now in
    let all : length files ≤ c.loop-file.file-index = omega (arith, c.loop-file-test.false) in
    all_summed c.args.room (map parts_of files) (so_far_of c.loop-file.so_far) (sample_of c.in_ok-total_of.field-0)
    (subst (λ (some : List SampleFile). IsSummed c.args.room (map parts_of files) (map parts_of some) (so_far_of c.loop-file.so_far)) (taken_all files c.loop-file.file-index all) c.loop-file.invariant.0)
    c.in_ok-total_of.ensures
