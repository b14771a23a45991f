use Rattle.std.proofs.Common.{◌∙◌, sym}
use Rattle.indexmap.specs.IndexMap.{set_value_at}
use Rattle.indexmap.proofs.CallerLemmas.{keys-with_value_at, updates-with_value_at}
use Rattle.view_transcript.proofs.Lookups.{Changes, changed_here, changed_other, entry_there, names_equal}
use Rattle.view_transcript.proofs.Looking.{ended_here, where_ok}
use Rattle.view_transcript.specs.Transcripts.{kept_at}
use Rattle.service_core.specs.Rooms.{room_at}
use Rattle.view_transcript.proofs.transcriber.Transcriber.end.Goals as goal

-- what is kept after the call
changes : (c : goal.After-self-2-1) → Changes c.args.self.now.rooms.entries (set_value_at c.args.self.now.rooms.entries c.in-Some-get_index_of.index c.end.new.self) c.args.name.now c.end.new.self
changes c =
    let before = c.args.self.now.rooms.entries in
    let old = c.in-Some-get_index_mut.kept.now in
    let there = entry_there before c.args.name.now c.in-Some-get_index_of.index old (sym c.in-Some-get_index_of.ensures.index) (sym c.in-Some-get_index_mut.ensures.value) in
    (updates-with_value_at c.args.self.now.rooms c.in-Some-get_index_of.index c.end.new.self names_equal c.get_index_of.ensures.unique c.args.name.now old there).0

pub returns-clause-own : goal.returns-clause-own
returns-clause-own c =
    let before = c.args.self.now.rooms.entries in
    let after = set_value_at before c.in-Some-get_index_of.index c.end.new.self in
    let name = c.args.name.now in
    where_ok c.end.result _ _ (λ ended. ended_here (room_at c.args.rooms.now name) (kept_at before name) (kept_at after name) c.in-Some.room.now c.in-Some-get_index_mut.kept.now c.end.new.self
    c.in-Some.ensures (sym c.in-Some-get_index_of.ensures.value ∙ sym c.in-Some-get_index_mut.ensures.value) (changed_here before after name c.end.new.self (changes c)) ended)
    c.end.ensures

pub returns-clause-others : goal.returns-clause-others
returns-clause-others c =
    let before = c.args.self.now.rooms.entries in
    where_ok c.end.result _ _ (λ ended. λ other differs. changed_other before (set_value_at before c.in-Some-get_index_of.index c.end.new.self) c.args.name.now other c.end.new.self (changes c) differs) c.end.ensures

pub returns-clause-names : goal.returns-clause-names
returns-clause-names c = where_ok c.end.result _ _ (λ ended. keys-with_value_at c.args.self.now.rooms c.in-Some-get_index_of.index c.end.new.self) c.end.ensures
