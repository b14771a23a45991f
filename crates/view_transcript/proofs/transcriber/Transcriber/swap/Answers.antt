use Rattle.std.proofs.Common.{◌∙◌, Some, is_some, ap, sym}
use Rattle.indexmap.specs.IndexMap.{set_value_at}
use Rattle.indexmap.proofs.CallerLemmas.{keys-with_value_at, updates-with_value_at}
use Rattle.view_transcript.specs.Transcripts.{kept_at}
use Rattle.view_transcript.proofs.Lookups.{Changes, changed_here, changed_other, entry_there, names_equal, no_kept}
use Rattle.view_transcript.proofs.Looking.{swapped_here, swapped_nowhere}
use Rattle.view_transcript.proofs.transcriber.Transcriber.swap.Goals as goal

pub returns-in_default-clause-own : goal.returns-in_default-clause-own
returns-in_default-clause-own c =
    let kept = c.args.self.now.rooms.entries in
    swapped_nowhere c.args.points (kept_at kept c.args.name.now) (no_kept (kept_at kept c.args.name.now) (sym c.get_index_of.ensures.found ∙ ap is_some c.in_default.is))

-- what is kept after the call
changes : (c : goal.After-self-2-1) → Changes c.args.self.now.rooms.entries (set_value_at c.args.self.now.rooms.entries c.in-Some.index c.swap.new.self) c.args.name.now c.swap.new.self
changes c =
    let before = c.args.self.now.rooms.entries in
    let old = c.in-Some-get_index_mut.kept.now in
    let there = entry_there before c.args.name.now c.in-Some.index old (sym c.in-Some.ensures.index) (sym c.in-Some-get_index_mut.ensures.value) in
    (updates-with_value_at c.args.self.now.rooms c.in-Some.index c.swap.new.self names_equal c.get_index_of.ensures.unique c.args.name.now old there).0

pub returns-clause-own : goal.returns-clause-own
returns-clause-own c =
    let before = c.args.self.now.rooms.entries in
    let old = c.in-Some-get_index_mut.kept.now in
    let after = set_value_at before c.in-Some.index c.swap.new.self in
    swapped_here c.args.points (kept_at before c.args.name.now) (kept_at after c.args.name.now) old c.swap.result (sym c.in-Some.ensures.value ∙ sym c.in-Some-get_index_mut.ensures.value)
    (changed_here before after c.args.name.now c.swap.new.self (changes c) ∙ ap Some c.swap.ensures.left) c.swap.ensures.given

pub returns-clause-others : goal.returns-clause-others
returns-clause-others c = λ other differs. changed_other c.args.self.now.rooms.entries (set_value_at c.args.self.now.rooms.entries c.in-Some.index c.swap.new.self) c.args.name.now other c.swap.new.self (changes c) differs

pub returns-clause-names : goal.returns-clause-names
returns-clause-names c = keys-with_value_at c.args.self.now.rooms c.in-Some.index c.swap.new.self
