use Rattle.std.proofs.Common.{◌≡◌, List, length, map, subst, true}
use Rattle.std.proofs.lemmas.Result.{IfOk-weaker}
use Rattle.std.specs.Prelude.{◌==◌}
use Rattle.std.specs.List.{list_all}
use Rattle.view_sum.specs.Files.{parts_of}
use Rattle.view_sum.specs.Sums.{AreTotals}
use Rattle.view_sum.specs.declared.sum.SampleFile.{SampleFile}
use Rattle.view_sum.proofs.Ordered.{err_refused, in_order, other_rooms_bad, sum_is}
use Rattle.view_sum.proofs.sum.sum_samples.Goals as goal

pub returns-in-Some-clause-err : goal.returns-in-Some-clause-err
returns-in-Some-clause-err c =
    let items = c.sort_files.new.files.items in
    let texts = map (λ file. file.now) c.args.files.now in
    other_rooms_bad texts items c.as_slice-2.result.now c.in-Some.bad (in_order texts c.in_ok-read.read.items items c.in_ok-read.ensures.read c.sort_files.ensures.all c.in_ok-sort_files.ensures.rising) c.as_slice-2.ensures.value c.in-Some.ensures.some

pub returns-clause-sum : goal.returns-clause-sum
returns-clause-sum c =
    let items = c.sort_files.new.files.items in
    let texts = map (λ file. file.now) c.args.files.now in
    let order = in_order texts c.in_ok-read.read.items items c.in_ok-read.ensures.read c.sort_files.ensures.all c.in_ok-sort_files.ensures.rising in
    let all = subst (λ (files : List SampleFile). list_all (λ f. length f.parts.items == c.rooms_of-rooms.result) files ≡ true) c.as_slice-2.ensures.value c.in_default.ensures.none in
    IfOk-weaker c.write_sums.result _ _
    (λ answer got. record { totals = got.0; sum = sum_is texts items c.rooms_of-rooms.result got.0 order all got.1 (subst (λ (files : List SampleFile). AreTotals (map parts_of files) got.0) c.as_slice-3.ensures.value got.2); output_is = got.3; outcome_is = got.4 }) c.write_sums.ensures.sum

pub returns-clause-err : goal.returns-clause-err
returns-clause-err c =
    let items = c.sort_files.new.files.items in
    let texts = map (λ file. file.now) c.args.files.now in
    err_refused c.write_sums.result texts items c.as_slice-3.result.now (in_order texts c.in_ok-read.read.items items c.in_ok-read.ensures.read c.sort_files.ensures.all c.in_ok-sort_files.ensures.rising) c.as_slice-3.ensures.value c.write_sums.ensures.err
