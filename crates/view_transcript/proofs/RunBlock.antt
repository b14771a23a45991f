-- The block of the run that the events of a room are.
use Rattle.std.proofs.Common.{◌≡◌, ◌∙◌, ℕ, Bool, true, false, List, length, codes, Result, Ok, Err, ap, inl, inr, subst, sym}
use Rattle.std.specs.Result.{IfOk}
use Rattle.std.specs.Str.{bytes_eq}
use Rattle.std.proofs.lemmas.Slice.Eq.{bytes_eq-Decides}
use Rattle.room_spec.specs.Blocks.{OrMemory, before_end, block_in, body_len, out_of_memory, reduction_block_in}
use Rattle.room_spec.specs.Grammar.{IsReductionBlock}
use Rattle.room_spec.specs.Rooms.{RoomSpec, is_reduction, with_inputs}
use Rattle.room_spec.specs.Texts.{first_line}
use Rattle.room_spec.specs.declared.fault.SpecFault.{SpecFault}
use Rattle.room_core.specs.Agreements.{run_spec}
use Rattle.room_core.specs.Calls.{RoomState}
use Rattle.room_core.specs.Fields.{Fields}
use Rattle.room_core.specs.Reading.{AreFieldsOf}
use Rattle.ws_history.proofs.CallerLemmas.{inputs, ordinary_run, reduction_run}
use Rattle.room_files.specs.Kinds.{room_in_lines}
use Rattle.run_blocks.proofs.CallerLemmas.{first_of_reduction, ordinary_read}
use Rattle.script_play.specs.Play.{IsBlockOf}
use Rattle.view_transcript.specs.Transcripts.{IsOrdinaryBlock, IsRunBlock}

-- ---- of an ordinary room it is its own

pub own_block : (room : RoomState) (block : List ℕ) → is_reduction room.spec ≡ false → IsRunBlock room block block
own_block room block ordinary = λ says fields are.
    subst (λ (spec : RoomSpec). IsOrdinaryBlock spec block) (sym (ordinary_run room.spec fields ordinary)) (ordinary_read block room.spec (length block) says ordinary)

-- ---- of a reduction

abbrev Read : Type 0
Read = Result (RoomSpec × ℕ) SpecFault

abbrev read_as : RoomSpec → ℕ → Read
read_as room len = Ok (room, len)

abbrev none_read : Read
none_read = Err out_of_memory

same_room : (room other : RoomSpec) (len count : ℕ) → read_as room len ≡ read_as other count → room ≡ other
same_room room other len count is =
    let same : (room, len) ≡ (other, count) = cc in
    ap (λ (p : RoomSpec × ℕ). p.0) same

read_is : (lacks : Type 0) (room other : RoomSpec) (len count : ℕ) (said : Read) → OrMemory lacks (read_as room len) said → said ≡ read_as other count → room ≡ other
read_is lacks room other len count said read is = elim read [
  | inl same ↦ same_room room other len count (same ∙ is)
  | inr lack ↦ let never : read_as room len ≡ none_read = lack.0 in absurd cc
]

-- what the block says is read as a reduction
read_so : (block : List ℕ) (spec room : RoomSpec) (len : ℕ) → IsReductionBlock block spec len → IsBlockOf room block → reduction_block_in block ≡ read_as room (length block)
read_so block spec room len is says =
    let first : bytes_eq (first_line block) (codes "reduction 1") ≡ true = (bytes_eq-Decides (first_line block) (codes "reduction 1")).1 (first_of_reduction block spec len is) in
    subst (λ (b : Bool). before_end (room_in_lines b) block (body_len block) ≡ read_as room (length block)) first says

pub run_block_is : (room : RoomState) (block text : List ℕ) (spec : RoomSpec) (len : ℕ) (all : List ℕ) (lacks : Type 0) → is_reduction room.spec ≡ true → IsReductionBlock block spec len → OrMemory lacks (Ok (spec, len)) (reduction_block_in block)
    → ((fields : Fields) → AreFieldsOf room fields → all ≡ (run_spec room.spec fields).inputs) → block_in text ≡ Ok (with_inputs spec all, length text) → IsRunBlock room block text
run_block_is room block text spec len all lacks reduction is read agreed says = λ own fields are.
    let same : spec ≡ room.spec = read_is lacks spec room.spec len (length block) (reduction_block_in block) read (read_so block spec room.spec len is own) in
    let run : run_spec room.spec fields ≡ with_inputs room.spec (inputs room.spec fields) = reduction_run room.spec fields reduction in
    let those : all ≡ inputs room.spec fields = agreed fields are ∙ ap (λ (s : RoomSpec). s.inputs) run in
    let whole : with_inputs spec all ≡ run_spec room.spec fields = ap (λ (s : RoomSpec). with_inputs s all) same ∙ ap (with_inputs room.spec) those ∙ sym run in
    subst (λ (s : RoomSpec). IsOrdinaryBlock s text) whole says

pub all_ok : {A E : Type 0} (r : Result A E) (P Q : A → Type 0) → ((a : A) → P a → Q a) → IfOk r P → IfOk r Q
all_ok (Ok a) P Q from is = from a is
all_ok (Err fault) P Q from is = tt
