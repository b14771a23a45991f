-- Blocks taken one by one.
use Rattle.std.proofs.Common.{◌≡◌, ◌∙◌, ◌==◌, ℕ, zero, suc, ◌+◌, ◌-◌, ◌<◌, ◌≤◌, Bool, true, false, List, [], ◌∷◌, ◌++◌, min, length, take, drop, decimal, Option, Some, None, Result, Ok, Err, refl, sym, ap, subst, arith, inl, inr}
use Rattle.std.specs.Prelude.{◌⊎◌, IsOk, codes}
use Rattle.std.specs.Option.{option_map}
use Rattle.std.specs.Result.{OnOk, OnErr}
use Rattle.std.specs.declared.alloc.AllocError.{AllocError}
use Rattle.std.specs.Str.{bytes_eq}
use Rattle.std.proofs.lemmas.Fmt.{decimal_digit, decimal_step}
use Rattle.std.proofs.Math.Nat.{min-le_right}
use Rattle.std.proofs.lemmas.List.{drop_all, length-append, length-drop, length-take-le, take_all}
use Rattle.room_spec.specs.Rooms.{RoomSpec}
use Rattle.room_spec.specs.Texts.{first_line}
use Rattle.room_spec.specs.Blocks.{body_len, block_len}
use Rattle.room_spec.specs.Grammar.{EndsAt, text_of}
use Rattle.history_checker.specs.Verdicts.{has_room}
use Rattle.room_files.specs.Blocks.{Setup, refuse, open_room, after_block, block_extent, or_all, IsFaultOr}
use Rattle.room_files.specs.Faults.{FaultAt}
use Rattle.room_files.specs.declared.kinds.Kinds.{Kinds}
use Rattle.room_files.specs.Inputs.{all_blocks_from, blocks_from, later_events, BeginsWithBlock}
use Rattle.room_files.specs.declared.fault.InputFault.{InputFault}
use Rattle.room_files.specs.declared.fault.InputFault.TheVariants.{BadInput, Memory}

pub some_bytes : (text : List ℕ) (len : ℕ) → EndsAt text len → 0 < len
some_bytes text len ends = by ends.bytes (length-append (text_of ends.lines) (codes "end"))
  where
    by : ((len ≡ length (text_of ends.lines ++ codes "end") + 1) × (take len text ≡ (text_of ends.lines ++ codes "end") ++ (10 ∷ []))) ⊎ ((len ≡ length (text_of ends.lines ++ codes "end")) × (text ≡ text_of ends.lines ++ codes "end"))
        → length (text_of ends.lines ++ codes "end") ≡ length (text_of ends.lines) + 3 → 0 < len
    by (inl front) all = let is = front.0 in omega arith
    by (inr front) all = let is = front.0 in omega arith

bounded : (len most : ℕ) (found : Option ℕ) → Some len ≡ option_map (λ body. min (body + 4) most) found → len ≤ most
bounded len most None is = absurd cc
bounded len most (Some body) is = let len_is : len ≡ min (body + 4) most = cc in rw len_is (min-le_right (body + 4) most)

pub within_text : (text : List ℕ) (len : ℕ) → Some len ≡ block_len text → len ≤ length text
within_text text len is = bounded len (length text) (body_len text) is

-- the block at the front of what is left, by bytes that are the same
pub front_as : (rest block bytes : List ℕ) → bytes ≡ block → block_len rest ≡ Some (length block) → block ≡ take (length block) rest → (block_len rest ≡ Some (length bytes)) × (block ≡ take (length bytes) rest)
front_as rest block bytes same found front = (found ∙ ap (λ (b : List ℕ). Some (length b)) (sym same), front ∙ ap (λ (b : List ℕ). take (length b) rest) (sym same))

-- the text behind its first bytes, as a slice of it
pub behind : (text : List ℕ) (n m : ℕ) → m ≡ length text → take (m - n) (drop n text) ≡ drop n text
behind text n m is = take_all (m - n) (drop n text) (rw (length-drop n text, is) (omega arith))

pub shorter_behind : (text : List ℕ) (n m : ℕ) → m ≡ length text → 0 < n → n ≤ length text → length (take (m - n) (drop n text)) < length text
shorter_behind text n m is some within = rw (behind text n m is, length-drop n text) (omega arith)

pub line_bound : (text : List ℕ) (n m line now most : ℕ) → m ≡ length text → n ≤ length text → now ≤ line + length (take n text) → line + length text ≤ most + 1 → now + length (take (m - n) (drop n text)) ≤ most + 1
line_bound text n m line now most is within passed before =
    let taken = length-take-le n text within in
    rw (behind text n m is, length-drop n text) (omega arith)

pub step_blocks : (kinds : Kinds) (most : ℕ) (setup now : Setup) (rest later : List ℕ) (len : ℕ) → length rest ≤ most → 0 < len → len ≤ length rest → bytes_eq (first_line rest) (codes "events") ≡ false → block_len rest ≡ Some len
    → now ≡ after_block kinds setup (take len rest) → later ≡ drop len rest → (fewer : ℕ) × (length later ≤ fewer) × (blocks_from kinds (suc most) setup rest ≡ blocks_from kinds (suc fewer) now later)
unfolding blocks_from
step_blocks kinds zero setup now rest later len most some within other found now_is later_is = absurd (omega arith)
step_blocks kinds (suc fewer) setup now rest later len most some within other found now_is later_is =
    (fewer, rw (later_is, length-drop len rest) (omega arith), rw (other, found, now_is, later_is) refl)

-- a room whose name is taken is refused
pub refused_name : (setup : Setup) (room : RoomSpec) → has_room room.name setup.rooms ≡ true → refuse setup (codes "41") ≡ open_room setup room
refused_name setup room known = rw known refl

-- one whose name is free is opened
pub opened_name : (setup : Setup) (room : RoomSpec) (rooms : List RoomSpec) → has_room room.name setup.rooms ≡ false → rooms ≡ setup.rooms ++ room ∷ []
    → record { rooms = rooms; refused = setup.refused; line = setup.line } ≡ open_room setup room
opened_name setup room rooms free is = rw (free, is) refl

-- the code of a name that is taken, as it is written
pub taken_code : decimal 41 ≡ codes "41"
taken_code = decimal_step 41 (omega arith) (omega arith) ∙ ap (λ digits. digits ++ 49 ∷ []) (decimal_digit 4 (omega arith))

-- rooms of which one was opened, or none, still have no events
pub still_unfed : {R : Type 0} (is_unfed : R → Type 0) (rooms after : R) (result : Result (Unit {0}) AllocError) → OnOk result (is_unfed rooms → is_unfed after) → OnErr result (after ≡ rooms) → is_unfed rooms → is_unfed after
still_unfed is_unfed rooms after (Ok done) unfed same before = unfed before
still_unfed is_unfed rooms after (Err fault) unfed same before = subst is_unfed (sym same) before

-- want of memory comes only behind the beginning of a block
pub begins : (input rest : List ℕ) (len : ℕ) → (rest ≡ input) ⊎ BeginsWithBlock input → bytes_eq (first_line rest) (codes "events") ≡ false → block_len rest ≡ Some len → BeginsWithBlock input
begins input rest len (inl same) other found = subst BeginsWithBlock same (other, rw found refl)
begins input rest len (inr before) other found = before

-- a fault of the blocks is that of the whole input
pub blocks_fault : (input : List ℕ) (read : Result (Setup × List ℕ) FaultAt) (fault : InputFault) → IsFaultOr (BeginsWithBlock input) read fault → IsFaultOr (BeginsWithBlock input ⊎ IsOk (later_events read)) (later_events read) fault
blocks_fault input read (BadInput line fault) bad = rw bad refl
blocks_fault input read Memory bad = inl bad

-- ---- all blocks of an input that has nothing else

positive : (text : List ℕ) (found : Option ℕ) → 0 < length text → 0 < or_all text (option_map (λ body. min (body + 4) (length text)) found)
positive text None some = some
positive text (Some body) some = omega (arith, some)

pub some_extent : (text : List ℕ) → 0 < length text → 0 < block_extent text
some_extent text some = positive text (body_len text) some

pub bytes_left : (n : ℕ) (empty : Bool) → empty ≡ (n == 0) → empty ≡ false → 0 < n
bytes_left zero empty is other = absurd cc
bytes_left (suc n) empty is other = omega arith

pub step_all : (kinds : Kinds) (most : ℕ) (setup now : Setup) (rest later : List ℕ) (extent : ℕ) → length rest ≤ most → 0 < length rest → extent ≡ block_extent rest → 0 < extent → extent ≤ length rest
    → now ≡ after_block kinds setup (take extent rest) → later ≡ drop extent rest → (fewer : ℕ) × (length later ≤ fewer) × (all_blocks_from kinds most setup rest ≡ all_blocks_from kinds fewer now later)
unfolding all_blocks_from
step_all kinds most setup now [] later extent most_is some is positive within now_is later_is = absurd (omega arith)
step_all kinds zero setup now (byte ∷ bytes) later extent most_is some is positive within now_is later_is = absurd (omega arith)
step_all kinds (suc fewer) setup now (byte ∷ bytes) later extent most_is some is positive within now_is later_is =
    (fewer, rw (later_is, length-drop extent (byte ∷ bytes)) (omega arith), rw (now_is, later_is, is) refl)

pub all_taken : (kinds : Kinds) (most : ℕ) (setup : Setup) (rest : List ℕ) → length rest ≡ 0 → all_blocks_from kinds most setup rest ≡ setup
unfolding all_blocks_from
all_taken kinds zero setup rest none = refl
all_taken kinds (suc most) setup [] none = refl
all_taken kinds (suc most) setup (byte ∷ bytes) none = absurd (omega arith)

-- what is left has no line `end`, and is refused whole
pub rest_refused : (kinds : Kinds) (most : ℕ) (setup now : Setup) (rest : List ℕ) → length rest ≤ most → 0 < length rest → block_len rest ≡ None → now ≡ after_block kinds setup rest → all_blocks_from kinds most setup rest ≡ now
rest_refused kinds most setup now rest most_is some none now_is =
    let whole : take (length rest) rest ≡ rest = take_all (length rest) rest (omega arith) in
    let next = step_all kinds most setup now rest [] (length rest) most_is some (sym (ap (or_all rest) none)) some (omega arith) (now_is ∙ ap (after_block kinds setup) (sym whole)) (sym (drop_all (length rest) rest (omega arith))) in
    next.2 ∙ all_taken kinds next.0 now [] refl
