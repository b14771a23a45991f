use Rattle.std.proofs.Common.{◌≡◌, ℕ, List, sym, ap, ◌∙◌, arith}
use Rattle.std.proofs.lemmas.Bool.{true≢false}
use Rattle.room_spec.specs.Sizes.{sizes_in}
use Rattle.view_table.specs.Places.{index_of}
use Rattle.view_table.proofs.CallerLemmas.{distinct, within}
use Rattle.room_search.specs.Ends.{counts}
use Rattle.room_search.proofs.ends.says_enough.Goals as goal

pub returns : goal.returns
returns c = λ yes place is counted none.
    let spec = c.args.subject.now.spec.now in
    let inside = within (sizes_in spec) place is in
    let no = c.loop-index.invariant (index_of (sizes_in spec) place) (omega (arith, inside, c.requires.said, c.loop-index-test.false)) none in
    let same : no.place ≡ place = distinct (sizes_in spec) no.place place no.is.in_range is no.is.index in
    true≢false (sym counted ∙ ap (λ (w : List ℕ). counts spec w place) (sym c.requires.words) ∙ ap (counts spec c.args.words.now) (sym same) ∙ no.no)
