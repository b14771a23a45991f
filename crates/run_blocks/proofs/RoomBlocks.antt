-- The ordinary room with other inputs, by the block of a room of either kind.
use Rattle.std.proofs.Common.{◌≡◌, ◌∙◌, ℕ, Bool, true, false, List, [], length, Result, Ok, sym, ap, subst, inl, inr}
use Rattle.std.specs.Prelude.{codes}
use Rattle.std.specs.Str.{bytes_eq}
use Rattle.std.proofs.lemmas.Slice.Eq.{bytes_eq-Decides}
use Rattle.room_spec.specs.Blocks.{before_end, block_in, body_len, reduction_block_in}
use Rattle.room_spec.specs.Grammar.{IsBlock, IsReductionBlock}
use Rattle.room_spec.specs.Rooms.{RoomSpec, has_own, is_reduction}
use Rattle.room_spec.specs.Texts.{first_line}
use Rattle.room_spec.specs.declared.fault.SpecFault.{SpecFault}
use Rattle.room_files.specs.Kinds.{block_of, room_in_lines}
use Rattle.room_files.specs.declared.kinds.Kinds.TheVariants.{Ordinary, All}
use Rattle.room_files.proofs.CallerLemmas.{all_read}
use Rattle.run_blocks.specs.Blocks.{IsRoomBlock}
use Rattle.run_blocks.proofs.RunBlocks.{first_of_reduction}

-- ---- what a block is read as

same_pair : (one other : RoomSpec × ℕ) → ◌≡◌ {A = Result (RoomSpec × ℕ) SpecFault} (Ok one) (Ok other) → one ≡ other
same_pair one other is = cc

-- a block is read whole, or not at all
whole : (block : List ℕ) (said spec : RoomSpec) (len : ℕ) → block_of All block ≡ Ok (said, length block) → block_of All block ≡ Ok (spec, len) → block_of All block ≡ Ok (spec, length block)
whole block said spec len is read =
    let same : (said, length block) ≡ (spec, len) = same_pair (said, length block) (spec, len) (sym is ∙ read) in
    is ∙ ap (λ (room : RoomSpec). Ok (room, length block)) (ap (λ (p : RoomSpec × ℕ). p.0) same)

long : (block : List ℕ) (said spec : RoomSpec) (len : ℕ) → block_of All block ≡ Ok (said, length block) → block_of All block ≡ Ok (spec, len) → len ≡ length block
long block said spec len is read = sym (ap (λ (p : RoomSpec × ℕ). p.1) (same_pair (said, length block) (spec, len) (sym is ∙ read)))

pub ordinary_is : (block : List ℕ) (said spec : RoomSpec) (len : ℕ) → block_of All block ≡ Ok (said, length block) → block_in block ≡ Ok (spec, len) → IsBlock block spec len
    → (block_of All block ≡ Ok (spec, length block)) × IsRoomBlock block spec
ordinary_is block said spec len is read valid =
    let all : block_of All block ≡ Ok (spec, len) = all_read Ordinary block (spec, len) read in
    (whole block said spec len is all, inl (subst (λ (n : ℕ). IsBlock block spec n) (long block said spec len is all) valid))

pub reduction_is : (block : List ℕ) (said spec : RoomSpec) (len : ℕ) → block_of All block ≡ Ok (said, length block) → reduction_block_in block ≡ Ok (spec, len) → IsReductionBlock block spec len
    → (block_of All block ≡ Ok (spec, length block)) × IsRoomBlock block spec
reduction_is block said spec len is read valid =
    let begins : bytes_eq (first_line block) (codes "reduction 1") ≡ true = (bytes_eq-Decides (first_line block) (codes "reduction 1")).1 (first_of_reduction block spec len valid) in
    let all : block_of All block ≡ Ok (spec, len) = ap (λ (b : Bool). before_end (room_in_lines b) block (body_len block)) begins ∙ read in
    (whole block said spec len is all, inr (subst (λ (n : ℕ). IsReductionBlock block spec n) (long block said spec len is all) valid))

-- ---- the block of the ordinary room

no_own : (own : List ℕ) → own ≡ [] → has_own own ≡ false
no_own own none = ap has_own none

pub says_reduction : (block : List ℕ) (room : RoomSpec) → IsRoomBlock block room → is_reduction room ≡ true → IsReductionBlock block room (length block)
says_reduction block room (inl is) reduction = absurd (let never : true ≡ false = sym reduction ∙ no_own room.own is.ordinary in cc)
says_reduction block room (inr is) reduction = is

pub says_ordinary : (block : List ℕ) (room : RoomSpec) → IsRoomBlock block room → is_reduction room ≡ false → IsBlock block room (length block)
says_ordinary block room (inl is) ordinary = is
says_ordinary block room (inr is) ordinary = absurd (let never : true ≡ false = sym is.reduction ∙ ordinary in cc)
