-- At most one proposal of an agreement is chosen.
use Rattle.std.proofs.Common.{◌≡◌, ◌∙◌, ℕ, ◌==◌, Bool, true, false, cond, List, Option, Some, None, refl, sym, arith}
use Rattle.transcript.specs.declared.event.Event.{Event}
use Rattle.run_columns.specs.declared.mark.StepKind.TheVariants.{Withdraw}
use Rattle.run_columns.specs.declared.mark.Mark.{Mark}
use Rattle.run_columns.specs.declared.proposals.Agreement.{Agreement}
use Rattle.run_columns.specs.declared.proposals.Fate.{Fate}
use Rattle.run_columns.specs.declared.proposals.Fate.TheVariants.{Open, Chosen, Dropped}
use Rattle.run_columns.specs.Effects.{chosen}
use Rattle.run_columns.specs.Proposals.{fate_of, has_done, is_resolved, is_that}

abbrev fate_by : Bool → Bool → Bool → Fate
fate_by resolved that withdrawn = cond resolved (cond that Chosen Dropped) (cond withdrawn Dropped Open)

resolved_by : (resolved that withdrawn : Bool) → fate_by resolved that withdrawn ≡ Chosen → resolved ≡ true
resolved_by true that withdrawn is = refl
resolved_by false that true is = absurd cc
resolved_by false that false is = absurd cc

that_by : (resolved that withdrawn : Bool) → fate_by resolved that withdrawn ≡ Chosen → that ≡ true
that_by true true withdrawn is = refl
that_by true false withdrawn is = absurd cc
that_by false that true is = absurd cc
that_by false that false is = absurd cc

same_number : (other i : ℕ) → (other == i) ≡ true → other ≡ i
same_number other i is = search arith

one_by : (other : Option ℕ) (i j : ℕ) → is_that other i ≡ true → is_that other j ≡ true → i ≡ j
one_by None i j one two = absurd cc
one_by (Some other) i j one two = sym (same_number other i one) ∙ same_number other j two

pub one_chosen : (agreement : Agreement) (i j : ℕ) (marks : List Mark) (events : List Event)
    → fate_of agreement i marks events ≡ Chosen → fate_of agreement j marks events ≡ Chosen → i ≡ j
one_chosen agreement i j marks events one two =
    let other = chosen agreement.process agreement.round marks in
    let resolved = is_resolved agreement marks events in
    one_by other i j (that_by resolved (is_that other i) (has_done agreement Withdraw i marks) one) (that_by resolved (is_that other j) (has_done agreement Withdraw j marks) two)

pub chosen_when_resolved : (agreement : Agreement) (i : ℕ) (marks : List Mark) (events : List Event) → fate_of agreement i marks events ≡ Chosen → is_resolved agreement marks events ≡ true
chosen_when_resolved agreement i marks events is =
    resolved_by (is_resolved agreement marks events) (is_that (chosen agreement.process agreement.round marks) i) (has_done agreement Withdraw i marks) is
