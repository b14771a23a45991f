use Rattle.std.proofs.Common.{◌≡◌, ◌+◌, [], ℕ, suc, map, false, List, Option, length, sym, ap, ◌∙◌, subst, arith, inl}
use Rattle.std.specs.Prelude.{replicate}
use Rattle.std.specs.List.{range_with_len}
use Rattle.std.proofs.lemmas.List.{length-replicate}
use Rattle.std.proofs.lemmas.List.FromFn.{length-range_with_len}
use Rattle.atomic_table.specs.Table.{Me}
use Rattle.room_spec.specs.Rooms.{RoomSpec}
use Rattle.view_table.specs.Places.{words_of}
use Rattle.simulator.specs.Sweeps.{SweepState}
use Rattle.ruled_room.specs.declared.rule.Operation.{Operation}
use Rattle.ruled_room.specs.declared.rule.View.{View}
use Rattle.ruled_room.specs.Rule.{word_count}
use Rattle.ruled_room.specs.Views.{begun, done_by, minds_in, nobody}
use Rattle.ruled_room.specs.Parts.{AreSweeps, first_sweeps, minds_of}
use Rattle.ruled_room.proofs.Ends.{begins, starts}
use Rattle.ruled_room.proofs.Running.{first_done, first_held}
use Rattle.ruled_room.proofs.Homes.{first_homes, first_count, first_are_sweeps}
use Rattle.ruled_room.proofs.room.RuledRoom.fresh.Goals as goal

pub of_words-requires : goal.of_words-requires
of_words-requires c =
    let count : c.words-count.result ≡ word_count c.args.spec = c.words-count.ensures.value ∙ ap words_of c.shape.ensures.sizes in
    let plus : c.words-count.result + 1 ≡ suc (word_count c.args.spec) = omega arith in
    inl (starts c.args.spec c.as_slice.result.now (c.as_slice.ensures.value ∙ c.in_ok-zero.ensures.items_if_clones_equal (λ y same. same) ∙ ap (λ (n : ℕ). replicate n 0) plus))

pub swap-found-requires : goal.swap-found-requires
swap-found-requires c =
    let t = c.in_ok-table.ensures in
    let count : c.words-count.result ≡ word_count c.args.spec = c.words-count.ensures.value ∙ ap words_of c.shape.ensures.sizes in
    let long : length c.as_slice.result.now ≡ c.words-count.result + 1 = ap length c.as_slice.ensures.value ∙ ap length (c.in_ok-zero.ensures.items_if_clones_equal (λ y same. same)) ∙ length-replicate {A = ℕ} (c.words-count.result + 1) 0 in
    (t.2, omega arith, rw t.5 (begins c.args.spec c.in_ok-table.table.shared.table_id.slots c.in_ok-table.seat.id c.words-count.result c.in_ok-table.seat.me count t.4))

pub invariant_of-keeper : goal.invariant_of-keeper
invariant_of-keeper c =
    let t = c.in_ok-table.ensures in
    let w = c.swap-found.ensures in
    let spec = c.args.spec in
    let limits = c.shape.ensures.limits in
    let me : c.swap-found.new.seat.me ≡ (begun (nobody spec), []) = w.2 c.if-found-ne0.false ∙ ap (λ (m : Me (Unit {0}) View). (begun m.0, m.1)) t.4 in
    let spec-is : c.swap-found.new.seat.me.0.spec ≡ spec = ap (λ (m : Me (Unit {0}) View). m.0.spec) me in
    let first : c.in_ok-sweeps.sweeps.items ≡ first_sweeps spec = c.in_ok-sweeps.ensures in
    let count = ap (λ (q : RoomSpec). q.simulators) (sym spec-is) in
    let minds : minds_in c.swap-found.new.seat.me.0 ≡ minds_of c.in_ok-sweeps.sweeps.items =
    ap (λ (m : Me (Unit {0}) View). minds_in m.0) me ∙ first_held spec (range_with_len 0 spec.simulators) ∙ sym (first_homes spec (range_with_len 0 spec.simulators)) ∙ ap minds_of (sym first) in (
      minds,
      ap (λ (m : Me (Unit {0}) View). m.1) me,
      ap length first ∙ first_count spec ∙ count,
      ap length c.none_crashed.ensures ∙ length-replicate c.m.result _ ∙ c.m.ensures.value ∙ count,
      subst (λ (q : RoomSpec × List (Option SweepState)). AreSweeps q.0 q.1) (λ k. (sym spec-is k, sym first k)) (first_are_sweeps spec limits),
    )

pub returns-clause-keeper : goal.returns-clause-keeper
returns-clause-keeper c =
    let t = c.in_ok-table.ensures in
    let w = c.swap-found.ensures in
    let spec = c.args.spec in
    let m = spec.simulators in
    let me : c.swap-found.new.seat.me ≡ (begun (nobody spec), []) = w.2 c.if-found-ne0.false ∙ ap (λ (m : Me (Unit {0}) View). (begun m.0, m.1)) t.4 in
    let table-is : c.swap-found.new.seat.table_id ≡ c.in_ok-table.table.shared.table_id = w.0 ∙ t.2 in
    let spec-is : c.swap-found.new.seat.me.0.spec ≡ spec = ap (λ (m : Me (Unit {0}) View). m.0.spec) me in
    let first : c.in_ok-sweeps.sweeps.items ≡ first_sweeps spec = c.in_ok-sweeps.ensures in
    let done : map done_by c.swap-found.new.seat.me.0.held ≡ replicate m [] =
    ap (λ (m : Me (Unit {0}) View). map done_by m.0.held) me ∙ first_done spec (range_with_len 0 m) ∙ ap (λ (n : ℕ). replicate {A = List Operation} n []) (length-range_with_len 0 m) in
    let marks : c.none_crashed.result.items ≡ replicate m false = c.none_crashed.ensures ∙ ap (λ (n : ℕ). replicate n false) c.m.ensures.value in
    λ p. record { room = record { table = table-is p; spec = spec-is p }; sweeps = first p; operations = done p; crashed = marks p }
