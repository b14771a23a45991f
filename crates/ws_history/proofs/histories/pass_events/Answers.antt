use Rattle.std.proofs.Common.{◌≡◌, ◌∙◌, ◌<◌, ◌≤◌, ◌++◌, [], ℕ, List, length, take, get_or, ap, refl, sym, subst}
use Rattle.std.proofs.lemmas.List.{append-nil, length-map, take_more}
use Rattle.std.proofs.lemmas.List.FromFn.{length-map-range_with_len}
use Rattle.std.specs.Prelude.{replicate}
use Rattle.room_spec.specs.Rooms.{processes}
use Rattle.room_core.specs.Agreements.{row_at, shown_by}
use Rattle.ws_history.specs.declared.snapshots.Agreed.{Agreed}
use Rattle.ws_history.specs.Histories.{Snapshot, block, blocks, by_process, last_writes, new_writes, shown_before}
use Rattle.ws_history.specs.Placing.{agreed_at, shown_with}
use Rattle.ws_history.specs.Readings.{read_of}
use Rattle.ws_history.specs.Running.{IsSnapshotOf, block_on}
use Rattle.ws_history.specs.Sources.{source_of}
use Rattle.ws_history.proofs.Taken.{takes_as, takes_both, takes_none}
use Rattle.ws_history.proofs.Walking.{all_zero, drop_past, is_snapshot, last_is, map_at, running, same_block, same_shown, take_past, walk_on}
use Rattle.ws_history.proofs.histories.pass_events.Goals as goal

abbrev none : Snapshot
none = record { process = 0; round = 0 }

pub loop-snapshot-init : goal.loop-snapshot-init
loop-snapshot-init g c =
    let room = c.args.room.now in
    record {
      so_far = ([], takes_none (g.S.EventSink.has_taken c.args.sink.now), refl);
      shown = c.nothing-counts.ensures ∙ ap (λ (n : ℕ). replicate {A = ℕ} n 0) c.process_count.ensures.value ∙ all_zero 0 (processes room.spec);
      view = c.shown_by-values.ensures.value ∙ ap (shown_by room.spec (read_of room)) c.as_slice.ensures.value;
    }

pub push_block-requires-clause-shown : goal.push_block-requires-clause-shown
push_block-requires-clause-shown g c =
    let room = c.args.room.now in
    let src = source_of room.spec (read_of room) in
    ap length c.loop-snapshot.invariant.shown ∙ length-map-range_with_len (shown_before src (take c.loop-snapshot.snapshot-index src.order)) 0 (processes room.spec)

pub push_block-requires-clause-is : goal.push_block-requires-clause-is
push_block-requires-clause-is g c =
    let room = c.args.room.now in
    let src = source_of room.spec (read_of room) in
    let i = c.loop-snapshot.snapshot-index in
    let items = c.requires.order in
    let less : i < length src.order = subst (λ (n : ℕ). i < n) (ap length items ∙ length-map src.order (agreed_at room)) c.loop-snapshot-test.true in
    let one = c.snapshot-item.result in
    let here = c.snapshot-item.is ∙ ap (λ (l : List Agreed). get_or l i one) items ∙ map_at (agreed_at room) src.order i none one less in
    subst (IsSnapshotOf room) (sym here) (is_snapshot room i none less)

pub loop-snapshot-preserved : goal.loop-snapshot-preserved
loop-snapshot-preserved g c =
    let room = c.args.room.now in
    let src = source_of room.spec (read_of room) in
    let n = processes room.spec in
    let i = c.loop-snapshot.snapshot-index in
    let has = g.S.EventSink.has_taken in
    let old = has c.args.sink.now in
    let new = has c.push_block.new.sink in
    let earlier = take i src.order in
    let s = get_or src.order i none in
    let items = c.requires.order in
    let less : i < length src.order = subst (λ (k : ℕ). i < k) (ap length items ∙ length-map src.order (agreed_at room)) c.loop-snapshot-test.true in
    let one = c.snapshot-item.result in
    let here = c.snapshot-item.is ∙ ap (λ (l : List Agreed). get_or l i one) items ∙ map_at (agreed_at room) src.order i none one less in
    let so_far = c.loop-snapshot.invariant.so_far in
    let own = ap (λ (l : List ℕ). block_on room l one) c.loop-snapshot.invariant.shown
    ∙ ap (λ (a : Agreed). block_on room (running room earlier) a) here
    ∙ same_block room earlier s in
    record {
      so_far = (
        so_far.0 ++ block src n earlier s,
        takes_both old (has c.loop-snapshot.sink) new so_far.0 (block src n earlier s) so_far.1 (takes_as (has c.loop-snapshot.sink) new _ _ own c.in_ok-push_block.ensures.events),
        sym (walk_on room so_far.0 i none less) ∙ so_far.2,
      );
      shown = c.in_ok-push_block.ensures.shown
          ∙ ap (λ (l : List ℕ). shown_with l (row_at room.spec (read_of room) one.process one.round)) c.loop-snapshot.invariant.shown
          ∙ ap (λ (a : Agreed). shown_with (running room earlier) (row_at room.spec (read_of room) a.process a.round)) here
          ∙ same_shown room earlier s
          ∙ ap (λ (l : List Snapshot). running room l) (sym (take_more src.order i none less));
      view = c.in_ok-push_block.ensures.view;
    }

pub returns : goal.returns
returns g c =
    let room = c.args.room.now in
    let src = source_of room.spec (read_of room) in
    let n = processes room.spec in
    let i = c.loop-snapshot.snapshot-index in
    let has = g.S.EventSink.has_taken in
    let middle = has c.loop-snapshot.sink in
    let new = has c.push_writes.new.sink in
    let items = c.requires.order in
    let past : length src.order ≤ i = subst (λ (m : ℕ). m ≤ i) (ap length items ∙ length-map src.order (agreed_at room)) c.loop-snapshot-test.false in
    let all = take_past src.order i past in
    let so_far = c.loop-snapshot.invariant.so_far in
    let done : so_far.0 ≡ blocks src n [] src.order = sym (append-nil so_far.0)
    ∙ ap (λ (l : List Snapshot). so_far.0 ++ blocks src n (take i src.order) l) (sym (drop_past src.order i past))
    ∙ so_far.2 in
    let shown = c.loop-snapshot.invariant.shown ∙ ap (λ (l : List Snapshot). running room l) all in
    let rest = ap (λ (l : List ℕ). by_process (λ (p : ℕ). new_writes src p (get_or l p 0) (get_or c.args.greatest.now p 0)) n) shown
    ∙ last_is room c.args.greatest.now c.requires.greatest in
    takes_both (has c.args.sink.now) middle new (blocks src n [] src.order) (last_writes src n)
    (takes_as (has c.args.sink.now) middle so_far.0 _ done so_far.1) (takes_as middle new _ _ rest c.in_ok-push_writes.ensures.events)
