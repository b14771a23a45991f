-- What is read as a reduction is the block of one, and what is one is read.
use Rattle.std.proofs.Common.{◌≡◌, ℕ, zero, suc, ◌+◌, ◌*◌, ◌<◌, ◌≤◌, min, true, List, [], ◌∷◌, ◌++◌, length, take, replicate, get_or, Some, Ok, Err, refl, sym, ap, ◌∙◌, arith}
use Rattle.std.specs.Prelude.{codes, nat_le}
use Rattle.std.specs.List.{list_all}
use Rattle.std.specs.Fmt.{decimal}
use Rattle.std.proofs.lemmas.Bool.{and_parts, and_from, leb-true, le-leb}
use Rattle.std.proofs.lemmas.List.{length-replicate}
use Rattle.protocol_lang.specs.Reading.{reading}
use Rattle.protocol_lang.proofs.CallerLemmas.{small_if_read, found as text_read, only}
use Rattle.room_spec.specs.Names.{is_name}
use Rattle.room_spec.specs.Rooms.{RoomSpec, AreOwn, IsWithinLimits, bits_of, has_own, is_reduction, is_value, most_bits, processes}
use Rattle.room_spec.specs.Blocks.{are_values, body_len, name_line, number_line, own_line, reduction_block_in, reduction_in, reduction_line, IsHeadWithin}
use Rattle.room_spec.specs.Grammar.{are_before_end, lines_from_rounds, reduction_lines, text_of, values_line, width_of, IsHead, IsReductionBlock}
use Rattle.room_spec.specs.declared.fault.SpecFault.TheVariants.{Processes, TooWide}
use Rattle.room_spec.specs.declared.version.Version.{Version}
use Rattle.room_spec.specs.declared.version.Version.TheVariants.{Two}
use Rattle.room_spec.proofs.Lines.{are_lines, first_line-text_of, later_lines-text_of}
use Rattle.room_spec.proofs.Ends.{are_lines-before_end, end_found, line_before}
use Rattle.room_spec.proofs.Heads.{are_all_values, bind_ok, name_found, number_found, own_found, reduction_again, reduction_found, some_inputs_again}
use Rattle.room_spec.proofs.Readings.{cons_some, found_rounds, from_own, from_processes, from_reduction_name, from_rounds, front_again, front_in, inputs_before, inputs_line_is, inputs_some, head_of, inputs_range, most_bits_few, name_line_is, name_text, number_line_is, number_text, rounds_again, rounds_no_end, rounds_too_wide, takes, text_before}

-- ---- the own inputs

own_are : (own : List ℕ) (count : ℕ) → are_values 8 own ≡ true → AreOwn own Two (replicate count (get_or own 0 0)) (length own)
own_are [] count are = tt
own_are (first ∷ others) count are = (refl, ap (λ (k : ℕ). replicate k first) (sym (length-replicate count first)), refl, are_all_values 8 (first ∷ others) are)

pub some_own : (own : List ℕ) → are_values 8 own ≡ true → has_own own ≡ true
some_own [] are = absurd cc
some_own (first ∷ others) are = refl

first_small : (own : List ℕ) → list_all is_value own ≡ true → is_value (get_or own 0 0) ≡ true
first_small [] all = refl
first_small (first ∷ others) all = (and_parts (is_value first) (list_all is_value others) all).0

all_small : (count input : ℕ) → is_value input ≡ true → list_all is_value (replicate count input) ≡ true
all_small zero input is = refl
all_small (suc count) input is = and_from (is_value input) (list_all is_value (replicate count input)) is (all_small count input is)

own_range : (own : List ℕ) → are_values 8 own ≡ true → (1 ≤ length own) × (length own ≤ 8)
own_range own are =
    let tests = and_parts (nat_le 1 (length own)) (nat_le (length own) 8) (and_parts _ (list_all is_value own) are).0 in
    (leb-true 1 (length own) tests.0, leb-true (length own) 8 tests.1)

own_fits : (own own' inputs inputs' : List ℕ) (version version' : Version) (m m' : ℕ) → own' ≡ own → version' ≡ version → Two ≡ version → inputs' ≡ inputs → m' ≡ m → AreOwn own Two inputs m → AreOwn own' version' inputs' m'
own_fits own own' inputs inputs' version version' m m' a b c d e are = rw (a, b, ← c, d, e) are

-- the head of a reduction is within the limits
pub head_within : (version : Version) (name own inputs : List ℕ) (count m : ℕ) → Two ≡ version → is_name name ≡ true → are_values 8 own ≡ true → (1 ≤ count) × (count ≤ 16) → inputs ≡ replicate count (get_or own 0 0) → m ≡ length own → IsHeadWithin (record { version = version; name = name; inputs = inputs; own = own; simulators = m })
head_within version name own inputs count m two named are range same few =
    let long : length inputs ≡ count = ap length same ∙ length-replicate count (get_or own 0 0) in
    let small : list_all is_value inputs ≡ true = rw same (all_small count (get_or own 0 0) (first_small own (are_all_values 8 own are))) in
    let owned = own_range own are in
    record {
      name = named;
      inputs = and_from _ (list_all is_value inputs) (and_from (nat_le 1 (length inputs)) (nat_le (length inputs) 16) (le-leb 1 (length inputs) (omega (arith, long, range.0))) (le-leb (length inputs) 16 (omega (arith, long, range.1)))) small;
      own = own_fits own own (replicate count (get_or own 0 0)) inputs version version (length own) m refl refl two same few (own_are own count are);
      simulators = (omega (arith, few, owned.0), omega (arith, few, owned.1));
    }

-- ---- what is read

-- the lines are those of a reduction's block
pub record AreReduction (lines : List (List ℕ)) (room : RoomSpec) : Type 0 where
  pub limits : IsWithinLimits room
  pub reduction : is_reduction room ≡ true
  pub fuses : list_all (λ fuse. is_value fuse.1) room.fuses ≡ true
  pub more : List (List ℕ)
  pub parts : lines ≡ reduction_lines room ++ more
  pub protocol : reading (text_of more) ≡ Ok room.protocol

made : (lines first second third fourth more : List (List ℕ)) (room : RoomSpec) (title own : List ℕ) (count : ℕ) → lines ≡ codes "reduction 1" ∷ first → first ≡ (codes "room " ++ title) ∷ second → second ≡ values_line own ∷ third → third ≡ (codes "processes " ++ decimal count) ∷ fourth → fourth ≡ lines_from_rounds room ++ more
    → room.name ≡ title → room.own ≡ own → processes room ≡ count → lines ≡ reduction_lines room ++ more
made lines first second third fourth more room title own count a b c d e title_is own_is count_is = rw (title_is, own_is, count_is) (a ∙ ap (λ (l : List (List ℕ)). codes "reduction 1" ∷ l) (b ∙ ap (λ (l : List (List ℕ)). (codes "room " ++ title) ∷ l) (c ∙ ap (λ (l : List (List ℕ)). values_line own ∷ l) (d ∙ ap (λ (l : List (List ℕ)). (codes "processes " ++ decimal count) ∷ l) e))))

pub lines_found : (lines : List (List ℕ)) (room : RoomSpec) → are_lines lines ≡ true → reduction_in (text_of lines) ≡ Ok room → AreReduction lines room
unfolding reduction_in
lines_found lines room all read =
    let version = bind_ok (reduction_line (text_of lines)) (λ version. from_reduction_name version.0 version.1) room read in
    let line = reduction_found (text_of lines) version.0 version.1 in
    let first = takes (text_of lines) lines (codes "reduction 1") version.0.1 refl all (cons_some _ _) line.0 line.2 in
    let name = bind_ok (name_line version.0.1) (λ name. from_own version.0.0 name.0 name.1) room version.2 in
    let named = name_found version.0.1 name.0 name.1 in
    let second = takes version.0.1 first.more (codes "room " ++ name.0.0) name.0.1 first.rest_is first.whole (cons_some _ _) named.0 named.1 in
    let own = bind_ok (own_line name.0.1) (λ own. from_processes version.0.0 name.0.0 own.0 own.1) room name.2 in
    let owned = own_found name.0.1 own.0 own.1 in
    let third = takes name.0.1 second.more (values_line own.0.0) own.0.1 second.rest_is second.whole (inputs_some own.0.0) owned.0 owned.1 in
    let count = bind_ok (number_line 4 (codes "processes ") 16 Processes own.0.1) (λ count. from_rounds version.0.0 name.0.0 (replicate count.0 (get_or own.0.0 0 0)) own.0.0 (length own.0.0) count.1) room own.2 in
    let counted = number_found 4 (codes "processes ") 16 Processes own.0.1 count.0 (omega arith) count.1 in
    let fourth = takes own.0.1 third.more (codes "processes " ++ decimal count.0.0) count.0.1 third.rest_is third.whole (cons_some _ _) counted.line counted.rest_is in
    let few = own_range own.0.0 owned.2 in
    let inputs : List ℕ = replicate count.0.0 (get_or own.0.0 0 0) in
    let both = found_rounds version.0.0 name.0.0 inputs own.0.0 (length own.0.0) count.0.1 fourth.more room few.1 fourth.rest_is fourth.whole count.2 in
    let found = both.0 in
    let many : length inputs ≡ count.0.0 = length-replicate count.0.0 (get_or own.0.0 0 0) in
    let processes_are : processes room ≡ count.0.0 = ap length found.inputs_is ∙ many in
    let small = all_small count.0.0 (get_or own.0.0 0 0) (first_small own.0.0 (are_all_values 8 own.0.0 owned.2)) in
    record {
      limits = record {
        name = rw found.name_is named.2;
        shape = record { n_range = (omega (arith, processes_are, counted.range.0), omega (arith, processes_are, counted.range.1)); m_range = (omega (arith, found.simulators_is, few.0), omega (arith, found.simulators_is, few.1)); rounds_range = both.3; width = refl; memory = most_bits_few room.version (room.simulators * length room.inputs * bits_of room.rounds) both.2 };
        width = both.2;
        turns = both.1.turns;
        task = both.1.task;
        fuses = rw found.simulators_is both.4.fuses;
        values = rw found.inputs_is small;
        own = own_fits own.0.0 room.own inputs room.inputs version.0.0 room.version (length own.0.0) room.simulators found.own_is found.version_is line.1 found.inputs_is found.simulators_is (own_are own.0.0 count.0.0 owned.2);
        numerals = small_if_read (text_of found.more) room.protocol found.protocol;
      };
      reduction = rw found.own_is (some_own own.0.0 owned.2);
      fuses = both.4.values;
      more = found.more;
      parts = made lines first.more second.more third.more fourth.more found.more room name.0.0 own.0.0 count.0.0 first.parts second.parts third.parts fourth.parts found.parts found.name_is found.own_is processes_are;
      protocol = found.protocol;
    }

pub reduction_block_found : (text : List ℕ) (body : ℕ) (room : RoomSpec) → Some body ≡ body_len text → Ok room ≡ reduction_in (take body text) → IsReductionBlock text room (min (body + 4) (length text))
reduction_block_found text body room ends read =
    let end = end_found text body (sym ends) in
    let found = lines_found end.lines room (are_lines-before_end end.lines end.no_end) (sym (read ∙ ap reduction_in (text_before text body end))) in
    let front = front_in text body end (reduction_lines room) found.more found.parts in
    record {
      limits = found.limits;
      reduction = found.reduction;
      fuses = found.fuses;
      lines = found.more;
      no_end = front.0;
      protocol = text_read (text_of found.more) (Ok room.protocol) found.protocol;
      bytes = front.1;
    }

-- ---- and back

-- what a reduction's own inputs determine
record Says (own : List ℕ) (room : RoomSpec) : Type 0 where
  version : Two ≡ room.version
  inputs : replicate (processes room) (get_or own 0 0) ≡ room.inputs
  simulators : length own ≡ room.simulators
  values : list_all is_value own ≡ true

own_says : (own : List ℕ) (room : RoomSpec) → AreOwn own room.version room.inputs room.simulators → has_own own ≡ true → Says own room
own_says [] room are some = absurd cc
own_says (first ∷ others) room are some = record { version = sym are.0; inputs = sym are.1; simulators = are.2; values = are.3 }

own_values : (own : List ℕ) → (1 ≤ length own) × (length own ≤ 8) → list_all is_value own ≡ true → are_values 8 own ≡ true
own_values own range all = and_from _ (list_all is_value own) (and_from (nat_le 1 (length own)) (nat_le (length own) 8) (le-leb 1 (length own) range.0) (le-leb (length own) 8 range.1)) all

own_text : (own : List ℕ) (more : List (List ℕ)) → are_values 8 own ≡ true → own_line (text_of (values_line own ∷ more)) ≡ Ok (own, text_of more)
own_text own more are =
    let is = inputs_line_is (codes "inputs") own refl (are_all_values 8 own are) in
    some_inputs_again 8 (text_of (values_line own ∷ more)) own (first_line-text_of (values_line own) more is) are
    ∙ ap (λ (rest : List ℕ). Ok (own, rest)) (later_lines-text_of (values_line own) more is)

reduction_text_again : (more : List (List ℕ)) → reduction_line (text_of (codes "reduction 1" ∷ more)) ≡ Ok (Two, text_of more)
reduction_text_again more = reduction_again (text_of (codes "reduction 1" ∷ more)) (first_line-text_of (codes "reduction 1") more refl) ∙ ap (λ (rest : List ℕ). Ok (Two, rest)) (later_lines-text_of (codes "reduction 1") more refl)

-- the lines after the first
abbrev processes_on : RoomSpec → List (List ℕ)
processes_on room = (codes "processes " ++ decimal (processes room)) ∷ lines_from_rounds room

abbrev own_on : RoomSpec → List (List ℕ)
own_on room = values_line room.own ∷ processes_on room

abbrev name_on : RoomSpec → List (List ℕ)
name_on room = (codes "room " ++ room.name) ∷ own_on room

steps : (room : RoomSpec) (count : ℕ) (a b c d e : List ℕ) → reduction_line a ≡ Ok (Two, b) → name_line b ≡ Ok (room.name, c) → own_line c ≡ Ok (room.own, d) → number_line 4 (codes "processes ") 16 Processes d ≡ Ok (count, e) → reduction_in a ≡ from_rounds Two room.name (replicate count (get_or room.own 0 0)) room.own (length room.own) e
unfolding reduction_in
steps room count a b c d e ab bc cd de = rw (ab, bc, cd, de) refl

from_same : (name own inputs inputs' : List ℕ) (version version' : Version) (m m' : ℕ) (text : List ℕ) → version ≡ version' → inputs ≡ inputs' → m ≡ m' → from_rounds version name inputs own m text ≡ from_rounds version' name inputs' own m' text
from_same name own inputs inputs' version version' m m' text a b c =
    ap (λ (v : Version). from_rounds v name inputs own m text) a ∙ ap (λ (i : List ℕ). from_rounds version' name i own m text) b ∙ ap (λ (k : ℕ). from_rounds version' name inputs' own k text) c

pub lines_again : (room : RoomSpec) (more : List (List ℕ)) → IsWithinLimits room → is_reduction room ≡ true → list_all (λ fuse. is_value fuse.1) room.fuses ≡ true → reading (text_of more) ≡ Ok room.protocol → reduction_in (text_of (reduction_lines room ++ more)) ≡ Ok room
lines_again room more limits reduction fuses protocol =
    let says = own_says room.own room limits.own reduction in
    let own : are_values 8 room.own ≡ true = own_values room.own (omega (arith, says.simulators, limits.shape.m_range.0), omega (arith, says.simulators, limits.shape.m_range.1)) says.values in
    steps room (processes room) (text_of (reduction_lines room ++ more)) (text_of (name_on room ++ more)) (text_of (own_on room ++ more)) (text_of (processes_on room ++ more)) (text_of (lines_from_rounds room ++ more))
    (reduction_text_again (name_on room ++ more))
    (name_text room.name (own_on room ++ more) limits.name)
    (own_text room.own (processes_on room ++ more) own)
    (number_text 4 (codes "processes ") 16 Processes (processes room) (lines_from_rounds room ++ more) refl (omega arith) limits.shape.n_range)
    ∙ from_same room.name room.own (replicate (processes room) (get_or room.own 0 0)) room.inputs Two room.version (length room.own) room.simulators (text_of (lines_from_rounds room ++ more)) says.version says.inputs says.simulators
    ∙ rounds_again room more limits fuses protocol

-- the limits of the own inputs, of a reduction's head
head_says : (room : RoomSpec) → IsHead room → is_reduction room ≡ true → Says room.own room × (are_values 8 room.own ≡ true)
head_says room head reduction =
    let says = own_says room.own room head.own reduction in
    (says, own_values room.own (omega (arith, says.simulators, head.simulators.0), omega (arith, says.simulators, head.simulators.1)) says.values)

pub reduction_too_wide : (room : RoomSpec) (more : List (List ℕ)) → IsHead room → is_reduction room ≡ true → most_bits room.version < width_of room room.rounds → reduction_in (text_of (reduction_lines room ++ more)) ≡ Err TooWide
reduction_too_wide room more head reduction wide =
    let own = head_says room head reduction in
    steps room (processes room) (text_of (reduction_lines room ++ more)) (text_of (name_on room ++ more)) (text_of (own_on room ++ more)) (text_of (processes_on room ++ more)) (text_of (lines_from_rounds room ++ more))
    (reduction_text_again (name_on room ++ more))
    (name_text room.name (own_on room ++ more) head.name)
    (own_text room.own (processes_on room ++ more) own.1)
    (number_text 4 (codes "processes ") 16 Processes (processes room) (lines_from_rounds room ++ more) refl (omega arith) (inputs_range room.inputs head.inputs))
    ∙ from_same room.name room.own (replicate (processes room) (get_or room.own 0 0)) room.inputs Two room.version (length room.own) room.simulators (text_of (lines_from_rounds room ++ more)) own.0.version own.0.inputs own.0.simulators
    ∙ rounds_too_wide room more head wide

pub reduction_no_end : (room : RoomSpec) (more : List (List ℕ)) → IsHead room → is_reduction room ≡ true → are_before_end more ≡ true → are_before_end (reduction_lines room ++ more) ≡ true
reduction_no_end room more head reduction all =
    let says = own_says room.own room head.own reduction in
    line_before (codes "reduction 1") (name_on room ++ more) refl refl
    (line_before (codes "room " ++ room.name) (own_on room ++ more) (name_line_is room.name head.name) refl
    (inputs_before room.own (processes_on room ++ more) says.values
    (line_before (codes "processes " ++ decimal (processes room)) (lines_from_rounds room ++ more) (number_line_is (codes "processes ") (processes room) refl (omega (arith, (inputs_range room.inputs head.inputs).1))) refl
    (rounds_no_end room more head.rounds.1 head.turns.1 head.task head.simulators.1 head.fuses head.values all))))

pub reduction_block_again : (text : List ℕ) (room : RoomSpec) (len : ℕ) → IsReductionBlock text room len → reduction_block_in text ≡ Ok (room, len)
reduction_block_again text room len block =
    front_again reduction_in text (reduction_lines room) block.lines room len block.bytes (reduction_no_end room block.lines (head_of room block.limits block.fuses) block.reduction block.no_end) (lines_again room block.lines block.limits block.reduction block.fuses (only (text_of block.lines) room.protocol block.protocol))
