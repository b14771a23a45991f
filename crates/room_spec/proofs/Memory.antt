-- What holds of a block that was read, or of its fault, where memory may have been refused.
use Rattle.std.proofs.Common.{arith, ◌≡◌, ℕ, zero, suc, ◌+◌, ◌≤◌, Bool, true, false, cond, ltb, min, List, length, take, Option, Some, None, Result, Ok, Err, refl, sym, ap, ◌∙◌, subst, inl, inr}
use Rattle.std.specs.Prelude.{IfOk, IfErr, IsOk}
use Rattle.std.proofs.lemmas.Bool.{ltb-false}
use Rattle.protocol_lang.specs.Reading.{State, at_start, one_token, onward, opening, most_tokens, reading, run, tree_read, IsReading, MayLackMemory}
use Rattle.protocol_lang.specs.Formulas.{trees}
use Rattle.protocol_lang.specs.Trees.{Expression, Tree}
use Rattle.protocol_lang.specs.Limits.{HasSmallNumerals}
use Rattle.protocol_lang.specs.declared.protocol.Protocol.{Protocol}
use Rattle.protocol_lang.specs.declared.fault.ParseFault.{ParseFault}
use Rattle.protocol_lang.specs.declared.fault.ParseFault.TheVariants.{OutOfMemory, TooLong}
use Rattle.protocol_lang.proofs.CallerLemmas.{small_if_read}
use Rattle.room_spec.specs.Rooms.{RoomSpec}
use Rattle.protocol_lang.specs.Results.{◌>>=◌}
use Rattle.room_spec.specs.Blocks.{body_len, protocol_of, before_end, room_in, reduction_in, reduction_text_in, reduction_block_in, room_before, block_in, GivesOrMemory, MayLackAt, MayLackAtBy, OrMemory, UnlessMemory, out_of_memory}
use Rattle.room_spec.specs.Grammar.{IsBlock, IsReductionBlock, IsLocal, IsReductionLocal, IsOfText, IsFirstFault, IsReductionFirstFault}
use Rattle.room_spec.specs.declared.fault.SpecFault.{SpecFault}
use Rattle.room_spec.specs.declared.fault.SpecFault.TheVariants.{BadProtocol}
use Rattle.room_spec.proofs.Heads.{bind_ok}
use Rattle.room_spec.proofs.Readings.{block_found, block_again, protocol_read}
use Rattle.room_spec.proofs.Reductions.{reduction_block_again, reduction_block_found}
use Rattle.room_spec.proofs.Locality.{local_reduction, local_room, block_local, block_of_text}
use Rattle.room_spec.proofs.FirstFaults.{block_first, reduction_first}

abbrev read_as : RoomSpec → ℕ → Result (RoomSpec × ℕ) SpecFault
read_as room len = Ok (room, len)

before_found : (text : List ℕ) (body : Option ℕ) (read : RoomSpec × ℕ) → body ≡ body_len text → room_before text body ≡ Ok read → IsBlock text read.0 read.1
before_found text None read is e = absurd cc
before_found text (Some body) read is e =
    let room = bind_ok (room_in (take body text)) (λ room. Ok (room, min (body + 4) (length text))) read e in
    let same : (room.0, min (body + 4) (length text)) ≡ read = cc in
    subst (λ (r : RoomSpec × ℕ). IsBlock text r.0 r.1) same (block_found text body room.0 is (sym room.1))

unless : (fault : SpecFault) (fact : Type 0) → fact → UnlessMemory fault fact
unless (BadProtocol OutOfMemory) fact holds = tt
unless (BadProtocol fault) fact holds = holds
unless fault fact holds = holds

refused : (fault : SpecFault) (fact : Type 0) → fault ≡ out_of_memory → UnlessMemory fault fact
refused fault fact e = rw e tt

pub found_or : (text : List ℕ) (result : Result (RoomSpec × ℕ) SpecFault) → OrMemory (MayLackAt text) result (block_in text) → IfOk result (λ read. IsBlock text read.0 read.1)
found_or text (Ok read) (inl e) = before_found text (body_len text) read refl (sym e)
found_or text (Ok read) (inr e) = absurd (let never = e.0 in cc)
found_or text (Err fault) e = tt

pub only_or : (text : List ℕ) (result : Result (RoomSpec × ℕ) SpecFault) → OrMemory (MayLackAt text) result (block_in text) → (room : RoomSpec) (len : ℕ) → IsBlock text room len → OrMemory (MayLackAt text) result (read_as room len)
only_or text result (inl e) room len block = inl (e ∙ block_again text room len block)
only_or text result (inr e) room len block = inr e

pub local_or : (text : List ℕ) (result : Result (RoomSpec × ℕ) SpecFault) → OrMemory (MayLackAt text) result (block_in text) → IfErr result (λ fault. UnlessMemory fault (IsLocal text fault))
local_or text (Ok read) e = tt
local_or text (Err fault) (inl e) = unless fault (IsLocal text fault) (block_local room_in local_room text (Err fault) e)
local_or text (Err fault) (inr e) = let same : fault ≡ out_of_memory = (let is = e.0 in cc) in refused fault (IsLocal text fault) same

pub of_text_or : (text : List ℕ) (result : Result (RoomSpec × ℕ) SpecFault) → OrMemory (MayLackAt text) result (block_in text) → IfErr result (λ fault. UnlessMemory fault (IsOfText text fault))
of_text_or text (Ok read) e = tt
of_text_or text (Err fault) (inl e) = unless fault (IsOfText text fault) (block_of_text room_in local_room text (Err fault) e)
of_text_or text (Err fault) (inr e) = let same : fault ≡ out_of_memory = (let is = e.0 in cc) in refused fault (IsOfText text fault) same

pub first_or : (text : List ℕ) (result : Result (RoomSpec × ℕ) SpecFault) → OrMemory (MayLackAt text) result (block_in text) → IfErr result (λ fault. UnlessMemory fault (IsFirstFault text fault))
first_or text (Ok read) e = tt
first_or text (Err fault) (inl e) = unless fault (IsFirstFault text fault) (block_first text (Err fault) e)
first_or text (Err fault) (inr e) = let same : fault ≡ out_of_memory = (let is = e.0 in cc) in refused fault (IsFirstFault text fault) same

-- ---- the same of a reduction

reduction_before : (text : List ℕ) (body : Option ℕ) (read : RoomSpec × ℕ) → body ≡ body_len text → before_end reduction_in text body ≡ Ok read → IsReductionBlock text read.0 read.1
reduction_before text None read is e = absurd cc
reduction_before text (Some body) read is e =
    let room = bind_ok (reduction_in (take body text)) (λ room. Ok (room, min (body + 4) (length text))) read e in
    let same : (room.0, min (body + 4) (length text)) ≡ read = cc in
    subst (λ (r : RoomSpec × ℕ). IsReductionBlock text r.0 r.1) same (reduction_block_found text body room.0 is (sym room.1))

abbrev MayLack : List ℕ → Type 0
MayLack text = MayLackAtBy reduction_text_in text

pub reduction_found_or : (text : List ℕ) (result : Result (RoomSpec × ℕ) SpecFault) → OrMemory (MayLack text) result (reduction_block_in text) → IfOk result (λ read. IsReductionBlock text read.0 read.1)
reduction_found_or text (Ok read) (inl e) = reduction_before text (body_len text) read refl (sym e)
reduction_found_or text (Ok read) (inr e) = absurd (let never = e.0 in cc)
reduction_found_or text (Err fault) e = tt

pub reduction_only_or : (text : List ℕ) (result : Result (RoomSpec × ℕ) SpecFault) → OrMemory (MayLack text) result (reduction_block_in text) → (room : RoomSpec) (len : ℕ) → IsReductionBlock text room len → OrMemory (MayLack text) result (read_as room len)
reduction_only_or text result (inl e) room len block = inl (e ∙ reduction_block_again text room len block)
reduction_only_or text result (inr e) room len block = inr e

pub reduction_local_or : (text : List ℕ) (result : Result (RoomSpec × ℕ) SpecFault) → OrMemory (MayLack text) result (reduction_block_in text) → IfErr result (λ fault. UnlessMemory fault (IsReductionLocal text fault))
reduction_local_or text (Ok read) e = tt
reduction_local_or text (Err fault) (inl e) = unless fault (IsReductionLocal text fault) (block_local reduction_in local_reduction text (Err fault) e)
reduction_local_or text (Err fault) (inr e) = let same : fault ≡ out_of_memory = (let is = e.0 in cc) in refused fault (IsReductionLocal text fault) same

pub reduction_of_text_or : (text : List ℕ) (result : Result (RoomSpec × ℕ) SpecFault) → OrMemory (MayLack text) result (reduction_block_in text) → IfErr result (λ fault. UnlessMemory fault (IsOfText text fault))
reduction_of_text_or text (Ok read) e = tt
reduction_of_text_or text (Err fault) (inl e) = unless fault (IsOfText text fault) (block_of_text reduction_in local_reduction text (Err fault) e)
reduction_of_text_or text (Err fault) (inr e) = let same : fault ≡ out_of_memory = (let is = e.0 in cc) in refused fault (IsOfText text fault) same

pub reduction_first_or : (text : List ℕ) (result : Result (RoomSpec × ℕ) SpecFault) → OrMemory (MayLack text) result (reduction_block_in text) → IfErr result (λ fault. UnlessMemory fault (IsReductionFirstFault text fault))
reduction_first_or text (Ok read) e = tt
reduction_first_or text (Err fault) (inl e) = unless fault (IsReductionFirstFault text fault) (reduction_first text (Err fault) e)
reduction_first_or text (Err fault) (inr e) = let same : fault ≡ out_of_memory = (let is = e.0 in cc) in refused fault (IsReductionFirstFault text fault) same

-- a protocol that was read has small numerals
pub kept_small : {X : Type 0} (view : X → Protocol) (text : List ℕ) (kept : Result X SpecFault) (x : X) → GivesOrMemory (MayLackMemory text) view kept (protocol_of (reading text)) → kept ≡ Ok x → HasSmallNumerals (view x)
kept_small view text (Ok y) x gives e = let same : y ≡ x = cc in subst (λ z. HasSmallNumerals (view z)) same (small_if_read text (view y) (protocol_read (reading text) (view y) gives))
kept_small view text (Err fault) x gives e = absurd cc

-- ---- where memory is refused to a protocol

-- the first token of a text that is read has no fault
first_taken : (most : ℕ) (text : List ℕ) (s end : State Expression) → run trees most text 0 s ≡ Ok end → IsOk (one_token trees text 0 s)
unfolding run
first_taken zero text s end is = absurd cc
first_taken (suc most) text s end is = ok_first (one_token trees text 0 s) (onward (run trees most text)) end is
  where
    ok_first : (token : Result (State Expression × Option ℕ) ParseFault) (next : State Expression × Option ℕ → Result (State Expression) ParseFault) (end : State Expression) → (token >>= next) ≡ Ok end → IsOk token
    ok_first (Ok x) next end is = refl
    ok_first (Err fault) next end is = absurd cc

read_short : (b : Bool) (text : List ℕ) (found : Result (State Expression) ParseFault) (tree : Tree) → b ≡ ltb 4096 (length text) → cond b (Err TooLong) (found >>= λ s. Ok (tree_read trees s)) ≡ Ok tree → (length text ≤ 4096) × ((end : State Expression) × (found ≡ Ok end))
read_short true text found tree long is = absurd cc
read_short false text (Err fault) tree long is = absurd cc
read_short false text (Ok end) tree long is = (omega (arith, ltb-false 4096 (length text) (sym long)), (end, refl))

-- a text that is read may lack memory, so too when it is kept
pub read_may_lack : (text : List ℕ) (tree : Tree) → reading text ≡ Ok tree → MayLackMemory text
unfolding reading
read_may_lack text tree is =
    let read = read_short (ltb 4096 (length text)) text (run trees most_tokens text 0 (opening trees)) tree refl is in
    record { short = read.0; from = 0; state = opening trees; reached = at_start; taken = first_taken most_tokens text (opening trees) read.1.0 read.1.1 }

-- what was read of the protocol's text, or why memory was refused to it
pub parsed_or : (text : List ℕ) (fault : ParseFault) → IsReading text (Err fault) → OrMemory {A = Protocol} (MayLackMemory text) (Err (BadProtocol fault)) (protocol_of (reading text))
parsed_or text OutOfMemory lacks = inr (refl, lacks)
parsed_or text fault is = inl (sym (ap protocol_of is))

-- what was refused to the protocol was refused to its block
pub refused_on : {A B : Type 0} (lacks also : Type 0) (fault : SpecFault) (wanted : Result A SpecFault) (next : A → B) → (lacks → also) → OrMemory {A = A} lacks (Err fault) wanted → OrMemory {A = B} also (Err fault) (wanted >>= λ x. Ok (next x))
refused_on lacks also fault (Ok x) next more (inl is) = absurd cc
refused_on lacks also fault (Err other) next more (inl is) = inl (let same : fault ≡ other = cc in ap Err same)
refused_on lacks also fault wanted next more (inr is) = inr ((let same : fault ≡ out_of_memory = (let e = is.0 in cc) in ap Err same), more is.1)

-- memory that may be refused here may be refused there
pub lacks_also : {A : Type 0} (lacks also : Type 0) (result wanted : Result A SpecFault) → (lacks → also) → OrMemory lacks result wanted → OrMemory also result wanted
lacks_also lacks also result wanted more (inl is) = inl is
lacks_also lacks also result wanted more (inr is) = inr (is.0, more is.1)
