use Rattle.std.proofs.Common.{◌≡◌, ◌∙◌, ◌+◌, ℕ, List, Some, length, rules, arith, sym, ap}
use Rattle.std.specs.Prelude.{slice_get}
use Rattle.std.proofs.lemmas.Option.{slice_get_read}
use Rattle.room_spec.specs.Rooms.{processes}
use Rattle.run_search.specs.Agreed.{own_values}
use Rattle.input_vectors.specs.Judged.{one_if}
use Rattle.view_outcomes.specs.Rooms.{IsAgreedText}
use Rattle.input_vectors.specs.Vectors.{entries_of, vectors}
use Rattle.input_vectors.proofs.CallerLemmas.{length_at, one_if_small, one_vector_more, vector_at}
use Rattle.view_outcomes.proofs.rooms.answer_each.Goals as goal

pub answer_vector-requires-clause-inputs : goal.answer_vector-requires-clause-inputs
answer_vector-requires-clause-inputs g c =
    let n = processes c.args.room.now.spec.now in
    let values = own_values c.args.room.now.spec.now in
    let are : entries_of c.in_ok-all.all.items ≡ vectors values n = c.in_ok-all.ensures ∙ ap (vectors c.args.values.now) c.n.ensures.value ∙ ap (λ (values : List ℕ). vectors values n) c.requires.values in
    let size : c.len-index-end.result ≡ length c.in_ok-all.all.items = search rules in
    let at = slice_get_read c.in_ok-all.all.items c.len-index-end.result c.loop-index.index c.index.result.now size c.loop-index-test.true c.index.ensures in
    ap length c.as_slice-inputs.ensures.value ∙ length_at values n c.loop-index.index c.index.result.now.items (vector_at values n c.loop-index.index c.in_ok-all.all.items c.index.result.now are at)

pub loop-index-preserved : goal.loop-index-preserved
loop-index-preserved g c =
    let n = processes c.args.room.now.spec.now in
    let values = own_values c.args.room.now.spec.now in
    let inputs = c.as_slice-inputs.result.now in
    let are : entries_of c.in_ok-all.all.items ≡ vectors values n = c.in_ok-all.ensures ∙ ap (vectors c.args.values.now) c.n.ensures.value ∙ ap (λ (values : List ℕ). vectors values n) c.requires.values in
    let size : c.len-index-end.result ≡ length c.in_ok-all.all.items = search rules in
    let at = slice_get_read c.in_ok-all.all.items c.len-index-end.result c.loop-index.index c.index.result.now size c.loop-index-test.true c.index.ensures in
    let there : slice_get (vectors values n) c.loop-index.index ≡ Some inputs = vector_at values n c.loop-index.index c.in_ok-all.all.items c.index.result.now are at ∙ ap Some (sym c.as_slice-inputs.ensures.value) in
    let one : c.from-kept.result ≡ one_if c.in_ok-one.one = search rules in
    let small = one_if_small c.in_ok-one.one in (
      omega (arith, c.loop-index.invariant.0, one, small),
      one_vector_more (IsAgreedText c.args.room.now.search.now c.args.room.now.spec.now c.args.room.now.block.now) (vectors values n) c.loop-index.index inputs c.loop-index.kept (c.loop-index.kept + c.from-kept.result) c.in_ok-one.one c.args.output.now c.loop-index.output c.answer_vector.new.output
          there (ap (λ (k : ℕ). c.loop-index.kept + k) one) c.loop-index.invariant.1 c.in_ok-one.ensures,
    )
