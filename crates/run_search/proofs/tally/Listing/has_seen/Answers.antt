use Rattle.std.proofs.Common.{◌-◌, length, refl, sym, subst, ◌∙◌}
use Rattle.std.proofs.lemmas.Option.{get_or_from_slice_get, slice_get_within}
use Rattle.run_search.specs.Choices.{AreWithin}
use Rattle.run_search.proofs.Choosing.{within_same}
use Rattle.run_search.proofs.tally.Listing.has_seen.Goals as goal

pub returns-then-is_within : goal.returns-then-is_within
returns-then-is_within c = λ yes.
    let keys = c.args.self.now.seen.keys in
    let one = c.in-Some.last.now in
    let is = sym c.in-Some.ensures.key in (
      one,
      (length keys - 1, slice_get_within keys (length keys - 1) one is, get_or_from_slice_get keys (length keys - 1) one one is),
      subst (AreWithin c.args.choices.now) c.as_slice.ensures.value (c.if-is_within.ensures refl),
    )

pub returns : goal.returns
returns c = λ yes. within_same c.args.choices.now c.args.self.now.seen.keys (sym c.contains.ensures ∙ yes)
