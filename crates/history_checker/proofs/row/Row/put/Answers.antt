use Rattle.std.proofs.Common.{rules, ℕ, List, Option, length-set, ◌≡◌, ◌+◌, ◌<◌, ◌∙◌, length, slice_index_or, slice_set, take, drop, decimal, Some, suc, ◌++◌, ◌∷◌, arith, ap}
use Rattle.std.proofs.lemmas.Grind.{common_steps}
use Rattle.std.specs.List.{refill}
use Rattle.history_checker.specs.Shown.{before}
use Rattle.history_checker.proofs.Rows.{fits_in, refilled, same_length, shown_with}
use Rattle.history_checker.proofs.row.Row.put.Goals as goal

pub before-start-requires : goal.before-start-requires
before-start-requires c = grind (arith, common_steps)

pub bounds-deref-p : goal.bounds-deref-p
bounds-deref-p c = grind (arith, common_steps)

pub bounds-deref_mut-p : goal.bounds-deref_mut-p
bounds-deref_mut-p c = grind (arith, common_steps)

pub put_digits-requires : goal.put_digits-requires
put_digits-requires c =
    let below : c.args.p < length c.self.inside.last.items = search rules in
    let start : c.before-start.result ≡ before c.self.inside.widths.items c.args.p = search rules in
    let own : c.from.result ≡ slice_index_or c.self.inside.widths.items c.args.p 0 = search rules in
    let within = fits_in c.self.inside.last.items c.self.inside.text.items c.self.inside.widths.items c.args.p 0 c.self.invariant below in
    (omega arith, rw (start, own) within)

pub invariant_of-self-2 : goal.invariant_of-self-2
invariant_of-self-2 c =
    let last = c.self.inside.last.items in
    let widths = c.self.inside.widths.items in
    let text = c.self.inside.text.items in
    let digits = c.as_bytes-digits.result.now in
    let below : c.args.p < length last = search rules in
    let start : c.before-start.result ≡ before widths c.args.p = search rules in
    let own : c.from.result ≡ slice_index_or widths c.args.p 0 = search rules in
    let spelled : digits ≡ decimal c.args.value = c.as_bytes-digits.ensures.value ∙ c.format.ensures.text in
    let next : c.put_digits.new.text.items ≡ take (before widths c.args.p) text ++ 32 ∷ (decimal c.args.value ++ drop (before widths c.args.p + slice_index_or widths c.args.p 0) text) =
    rw (← start, ← own, ← spelled) c.in_ok-put_digits.ensures.put in
    let shown = shown_with last text widths c.put_digits.new.text.items c.args.p c.args.value 0 c.self.invariant below (search rules) next in
    let longer : length digits + 1 ≡ suc (length (decimal c.args.value)) = omega (arith, ap length spelled) in
    let entries : refill (length last) last (slice_set c.deref_mut-2.result.now c.args.p (Some c.args.value)) ≡ slice_set last c.args.p (Some c.args.value) =
    rw c.deref_mut-2.ensures.value (refilled last (slice_set last c.args.p (Some c.args.value)) (same_length last c.args.p c.args.value)) in
    let others : refill (length widths) widths (slice_set c.deref_mut.result.now c.args.p (length digits + 1)) ≡ slice_set widths c.args.p (suc (length (decimal c.args.value))) =
    rw (c.deref_mut.ensures.value, longer) (refilled widths (slice_set widths c.args.p (suc (length (decimal c.args.value)))) (length-set widths c.args.p (suc (length (decimal c.args.value))))) in
    rw (entries, others) shown

pub returns : goal.returns
returns c =
    let last = c.self.inside.last.items in
    rw (c.deref_mut-2.ensures.value) (refilled last (slice_set last c.args.p (Some c.args.value)) (same_length last c.args.p c.args.value)) ∙ ap (λ (row : List (Option ℕ)). slice_set row c.args.p (Some c.args.value)) c.self.view_is
