use Rattle.std.proofs.Common.{◌≡◌, ◌∙◌, List, ℕ, inl, inr, map, refl, sym, ap, subst}
use Rattle.std.specs.Borrow.{Bor}
use Rattle.std.specs.Global.{Vec}
use Rattle.program_io.specs.Named.{Writes}
use Rattle.bgview.specs.Sums.{IsSummed, inputs_of}
use Rattle.bgview.proofs.Summing.{Fits, fits_lent, known_map}
use Rattle.bgview.proofs.sum_named.Goals as goal

pub sum_io-result-requires-clause-fits : goal.sum_io-result-requires-clause-fits
sum_io-result-requires-clause-fits g c =
    subst Fits (sym c.as_slice-2.ensures.value)
    (fits_lent c.in-Ok-lent.texts.items c.in-Ok.read.items (c.in-Ok-lent.ensures ∙ ap (map (λ (t : Vec ℕ). t.items)) c.as_slice.ensures.value) c.in-Ok.ensures.fits)

pub returns : goal.returns
returns g c =
    let now : Bor (List ℕ) → List ℕ = λ t. t.now in
    let items : Vec ℕ → List ℕ = λ t. t.items in
    let names = map now c.args.names.now in
    let writes : Writes = record { before = g.W.Write.contents c.args.writer.now.inner; after = g.W.Write.contents c.sum_io-result.new.writer.inner } in
    let texts : map now c.as_slice-2.result.now ≡ map items c.in-Ok.read.items = ap (map now) c.as_slice-2.ensures.value ∙ c.in-Ok-lent.ensures ∙ ap (map items) c.as_slice.ensures.value in
    inr (
      known_map (inputs_of (g.I.Inputs.standard_bytes c.args.system.now.inputs.now) (g.I.Inputs.file_bytes c.args.system.now.inputs.now) names) (λ given. map items c.in-Ok.read.items ≡ given)
          (λ given. IsSummed c.args.form.now names given c.sum_io-result.result c.sum_io-result.new.notes writes)
          (λ given is. subst (λ (l : List (List ℕ)). IsSummed c.args.form.now names l c.sum_io-result.result c.sum_io-result.new.notes writes) (texts ∙ is) c.sum_io-result.ensures)
          c.in-Ok.ensures.read,
      refl,
    )
