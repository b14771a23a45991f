use Rattle.std.proofs.Common.{◌∷◌, [], ℕ, List, Option, is_some, sym, subst, ap, ◌∙◌}
use Rattle.std.specs.List.{Contains}
use Rattle.std.proofs.lemmas.List.Elements.{Contains-append_left, Contains-push}
use Rattle.indexmap.specs.IndexMap.{set_value_at}
use Rattle.indexmap.proofs.CallerLemmas.{updates-with_value_at}
use Rattle.run_search.specs.declared.explored.Entry.{Entry}
use Rattle.run_search.proofs.Limiting.{RowChanges, entry_there, listed_among, listed_here, listed_kept, unlisted, views_equivalence}
use Rattle.run_search.proofs.explored.list.Goals as goal

pub returns-in_default-clause-there : goal.returns-in_default-clause-there
returns-in_default-clause-there c =
    let key = subst (λ (items : List (Option ℕ)). RowChanges c.args.rows.now.entries c.insert.new.self.entries (record { items = items }) c.push.new.self) c.copied.ensures c.in_ok-insert.ensures.updates.0 in
    listed_here c.args.rows.now.entries c.insert.new.self.entries c.args.row.now c.push.new.self c.args.entry key
    (subst (λ (l : List Entry). Contains l c.args.entry) (sym c.in_ok-push.ensures.items) (Contains-push c.new-entries.result.items c.args.entry))

pub returns-in_default-clause-kept : goal.returns-in_default-clause-kept
returns-in_default-clause-kept c =
    let key = subst (λ (items : List (Option ℕ)). RowChanges c.args.rows.now.entries c.insert.new.self.entries (record { items = items }) c.push.new.self) c.copied.ensures c.in_ok-insert.ensures.updates.0 in
    listed_kept c.args.rows.now.entries c.insert.new.self.entries c.args.row.now c.push.new.self key
    (λ one listed. absurd (unlisted c.args.rows.now.entries c.args.row.now.items one (sym c.get_index_of.ensures.found ∙ ap is_some c.in_default.is) listed))

pub returns-clause-there : goal.returns-clause-there
returns-clause-there c =
    let old = c.in-Some-get_index_mut.entries.now in
    let there = entry_there c.args.rows.now.entries c.args.row.now c.in-Some.place old (sym c.in-Some.ensures.index) (sym c.in-Some-get_index_mut.ensures.value) in
    let changes = (updates-with_value_at c.args.rows.now c.in-Some.place c.push-2.new.self views_equivalence c.get_index_of.ensures.unique c.args.row.now old there).0 in
    listed_here c.args.rows.now.entries (set_value_at c.args.rows.now.entries c.in-Some.place c.push-2.new.self) c.args.row.now c.push-2.new.self c.args.entry changes
    (subst (λ (l : List Entry). Contains l c.args.entry) (sym c.in_ok-push-2.ensures.items) (Contains-push old.items c.args.entry))

pub returns-clause-kept : goal.returns-clause-kept
returns-clause-kept c =
    let old = c.in-Some-get_index_mut.entries.now in
    let there = entry_there c.args.rows.now.entries c.args.row.now c.in-Some.place old (sym c.in-Some.ensures.index) (sym c.in-Some-get_index_mut.ensures.value) in
    let changes = (updates-with_value_at c.args.rows.now c.in-Some.place c.push-2.new.self views_equivalence c.get_index_of.ensures.unique c.args.row.now old there).0 in
    listed_kept c.args.rows.now.entries (set_value_at c.args.rows.now.entries c.in-Some.place c.push-2.new.self) c.args.row.now c.push-2.new.self changes
    (λ one listed.
    subst (λ (l : List Entry). Contains l one) (sym c.in_ok-push-2.ensures.items)
    (Contains-append_left old.items (c.args.entry ∷ []) one (listed_among c.args.rows.now.entries c.args.row.now.items one old (sym c.in-Some.ensures.value ∙ sym c.in-Some-get_index_mut.ensures.value) listed)))
