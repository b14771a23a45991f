use Rattle.std.proofs.Common.{◌≡◌, ◌+◌, ◌-◌, ◌<◌, ◌%◌, ◌^◌, refl, sym, ap, ◌∙◌, subst, suc, arith}
use Rattle.room_spec.specs.Rooms.{RoomSpec}
use Rattle.simulator.specs.Moves.{move_of, IsWithin}
use Rattle.simulator.specs.declared.operation.Move.{Move}
use Rattle.simulator.specs.declared.operation.Move.TheVariants.{Load, Store, Add, Sub}
use Rattle.simulator.proofs.CallerLemmas.{within}
use Rattle.ruled_room.specs.Rule.{word_count}
use Rattle.ruled_room.specs.Parts.{RoomName}
use Rattle.ruled_room.proofs.Moving.{allowed, load_words, changed_words, take-set_any, told}
use Rattle.ruled_room.proofs.step.SeatUnitViewMemoryRuledRoom.operate.Goals as goal

pub load-requires : goal.load-requires
load-requires c =
    let spec = c.requires.0 in
    let mind = c.requires.1 in
    let named : c.args.room.now.spec ≡ spec = c.requires.2.1 in
    let key : c.room.inside.table.shared.key ≡ spec = c.room.invariant.0 ∙ ap (λ (r : RoomName). r.spec) c.room.view_is ∙ named in
    let count : c.room.inside.table.shared.table_id.words ≡ suc (word_count spec) = c.room.invariant.1 ∙ ap (λ (r : RoomName). suc (word_count r.spec)) c.room.view_is ∙ ap (λ (s : RoomSpec). suc (word_count s)) named in
    let move : Load c.in-Load.index ≡ move_of spec mind = sym c.in-Load.is ∙ c.requires.5 in
    let inside : c.in-Load.index < word_count spec = subst (λ (m : Move). IsWithin m (word_count spec)) (sym move) (within spec mind c.requires.3) in (
      c.requires.2.0 ∙ ap (λ (r : RoomName). r.table) (sym c.room.view_is),
      omega arith,
      rw key (allowed spec c.room.inside.table.shared.table_id.slots c.args.self.now.id mind.number c.args.self.now.me (record { mind = mind; operations = c.requires.2.2.0 }) (Load c.in-Load.index) c.in-Load.index (λ n. n) (λ n. n) c.requires.2.2.1 move c.requires.3 c.requires.4 inside (load_words (word_count spec) c.in-Load.index) (λ words. told (word_count spec) c.in-Load.index words inside)),
    )

pub store-requires : goal.store-requires
store-requires c =
    let spec = c.requires.0 in
    let mind = c.requires.1 in
    let named : c.args.room.now.spec ≡ spec = c.requires.2.1 in
    let key : c.room.inside.table.shared.key ≡ spec = c.room.invariant.0 ∙ ap (λ (r : RoomName). r.spec) c.room.view_is ∙ named in
    let count : c.room.inside.table.shared.table_id.words ≡ suc (word_count spec) = c.room.invariant.1 ∙ ap (λ (r : RoomName). suc (word_count r.spec)) c.room.view_is ∙ ap (λ (s : RoomSpec). suc (word_count s)) named in
    let move : Store c.in-Store.index c.in-Store.number ≡ move_of spec mind = sym c.in-Store.is ∙ c.requires.5 in
    let inside : c.in-Store.index < word_count spec = subst (λ (m : Move). IsWithin m (word_count spec)) (sym move) (within spec mind c.requires.3) in (
      c.requires.2.0 ∙ ap (λ (r : RoomName). r.table) (sym c.room.view_is),
      omega arith,
      rw key (allowed spec c.room.inside.table.shared.table_id.slots c.args.self.now.id mind.number c.args.self.now.me (record { mind = mind; operations = c.requires.2.2.0 }) (Store c.in-Store.index c.in-Store.number) c.in-Store.index (λ _. c.in-Store.number) (λ _. c.in-Store.number) c.requires.2.2.1 move c.requires.3 c.requires.4 inside (λ words. take-set_any (word_count spec) words c.in-Store.index c.in-Store.number) (λ words. refl)),
    )

pub fetch_add-requires : goal.fetch_add-requires
fetch_add-requires c =
    let spec = c.requires.0 in
    let mind = c.requires.1 in
    let named : c.args.room.now.spec ≡ spec = c.requires.2.1 in
    let key : c.room.inside.table.shared.key ≡ spec = c.room.invariant.0 ∙ ap (λ (r : RoomName). r.spec) c.room.view_is ∙ named in
    let count : c.room.inside.table.shared.table_id.words ≡ suc (word_count spec) = c.room.invariant.1 ∙ ap (λ (r : RoomName). suc (word_count r.spec)) c.room.view_is ∙ ap (λ (s : RoomSpec). suc (word_count s)) named in
    let move : Add c.in-Add.index c.in-Add.number ≡ move_of spec mind = sym c.in-Add.is ∙ c.requires.5 in
    let inside : c.in-Add.index < word_count spec = subst (λ (m : Move). IsWithin m (word_count spec)) (sym move) (within spec mind c.requires.3) in (
      c.requires.2.0 ∙ ap (λ (r : RoomName). r.table) (sym c.room.view_is),
      omega arith,
      rw key (allowed spec c.room.inside.table.shared.table_id.slots c.args.self.now.id mind.number c.args.self.now.me (record { mind = mind; operations = c.requires.2.2.0 }) (Add c.in-Add.index c.in-Add.number) c.in-Add.index (λ n. (n + c.in-Add.number) % 2 ^ 64) (λ n. n) c.requires.2.2.1 move c.requires.3 c.requires.4 inside (λ words. changed_words (word_count spec) c.in-Add.index (λ n. (n + c.in-Add.number) % 2 ^ 64) words inside) (λ words. told (word_count spec) c.in-Add.index words inside)),
    )

pub fetch_sub-requires : goal.fetch_sub-requires
fetch_sub-requires c =
    let spec = c.requires.0 in
    let mind = c.requires.1 in
    let named : c.args.room.now.spec ≡ spec = c.requires.2.1 in
    let key : c.room.inside.table.shared.key ≡ spec = c.room.invariant.0 ∙ ap (λ (r : RoomName). r.spec) c.room.view_is ∙ named in
    let count : c.room.inside.table.shared.table_id.words ≡ suc (word_count spec) = c.room.invariant.1 ∙ ap (λ (r : RoomName). suc (word_count r.spec)) c.room.view_is ∙ ap (λ (s : RoomSpec). suc (word_count s)) named in
    let move : Sub c.in-Sub.index c.in-Sub.number ≡ move_of spec mind = sym c.in-Sub.is ∙ c.requires.5 in
    let inside : c.in-Sub.index < word_count spec = subst (λ (m : Move). IsWithin m (word_count spec)) (sym move) (within spec mind c.requires.3) in (
      c.requires.2.0 ∙ ap (λ (r : RoomName). r.table) (sym c.room.view_is),
      omega arith,
      rw key (allowed spec c.room.inside.table.shared.table_id.slots c.args.self.now.id mind.number c.args.self.now.me (record { mind = mind; operations = c.requires.2.2.0 }) (Sub c.in-Sub.index c.in-Sub.number) c.in-Sub.index (λ n. (n + (2 ^ 64 - c.in-Sub.number)) % 2 ^ 64) (λ n. n) c.requires.2.2.1 move c.requires.3 c.requires.4 inside (λ words. changed_words (word_count spec) c.in-Sub.index (λ n. (n + (2 ^ 64 - c.in-Sub.number)) % 2 ^ 64) words inside) (λ words. told (word_count spec) c.in-Sub.index words inside)),
    )
