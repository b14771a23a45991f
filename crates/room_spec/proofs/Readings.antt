-- What is read is a block, and what is a block is read.
use Rattle.std.proofs.Common.{◌≡◌, ◌≢◌, ℕ, ◌+◌, ◌*◌, ◌^◌, ◌<◌, ◌≤◌, min, true, false, not, zero, suc, List, [], ◌∷◌, ◌++◌, length, take, map, Option, Some, None, Result, Ok, Err, refl, sym, ap, ◌∙◌, subst, arith}
use Rattle.std.specs.Prelude.{codes, nat_le, nat_lt, replicate, slice_index}
use Rattle.std.specs.List.{join_with_byte, list_all}
use Rattle.std.specs.Fmt.{decimal}
use Rattle.std.proofs.lemmas.Bool.{and_parts, and_from, leb-true, le-leb, lt-leb, ltb-true}
use Rattle.std.proofs.lemmas.Bool.Decides.{nat_tests}
use Rattle.std.proofs.lemmas.List.{take_at, append_assoc, append-nil, length-append}
use Rattle.std.proofs.lemmas.List.Concat.{flat_map-append}
use Rattle.std.proofs.lemmas.List.Folds.{list_all-append}
use Rattle.protocol_lang.specs.Numbers.{greatest}
use Rattle.protocol_lang.specs.Reading.{reading}
use Rattle.protocol_lang.specs.declared.protocol.Protocol.{Protocol}
use Rattle.protocol_lang.specs.declared.fault.ParseFault.{ParseFault}
use Rattle.protocol_lang.proofs.CallerLemmas.{small_if_read, found as text_read, only}
use Rattle.room_spec.specs.Names.{is_name, is_name_byte}
use Rattle.room_spec.specs.Rooms.{RoomSpec, AreFuses, AreOwn, IsShape, IsTaskIn, IsWithinLimits, bits_of, is_value, most_bits}
use Rattle.room_spec.specs.declared.version.Version.{Version}
use Rattle.room_spec.specs.declared.version.Version.TheVariants.{One, Two}
use Rattle.room_spec.specs.Texts.{is_line_end, first_line, later_lines}
use Rattle.protocol_lang.specs.Results.{◌>>=◌}
use Rattle.room_spec.specs.Blocks.{is_end, body_len, before_end, value_after, version_line, name_line, are_inputs, inputs_line, own_line, number_line, fitting, task_of, task_words, task_in, task_line, line_behind_task, onward, said_next, fuses_from, fuse_lines, protocol_of, room_in, block_in}
use Rattle.room_spec.specs.Grammar.{line_end, is_line, text_of, are_before_end, version_text, agree_line, task_lines, crash_line, values_line, head_lines, IsInFront, IsBlock, IsHead, width_of}
use Rattle.room_spec.specs.declared.fault.SpecFault.{SpecFault}
use Rattle.room_spec.specs.declared.fault.SpecFault.TheVariants.{Simulators, Rounds, Turns, TooWide, Processes}
use Rattle.room_spec.proofs.Lines.{are_lines, first_line-text_of, later_lines-text_of}
use Rattle.room_spec.proofs.Ends.{HasEnd, with_line_end, line_before, end_found, end_at, front_from, front_to, are_lines-before_end}
use Rattle.room_spec.proofs.Numerals.{each_passes, decimal_passes, digit_no_line_end}
use Rattle.room_spec.proofs.Fuses.{fuses_few, fuses_apart, fuses_pushed, no_fuses, tells_fuse, tells_protocol, crash_line_found, crash_line_again}
use Rattle.room_spec.proofs.Heads.{small_value, bind_ok, guard_ok, ok_is, version_found, version_again, name_found, name_again, number_found, number_again, inputs_are_values, inputs_found, some_inputs_again, words_begin, task_said, task_again, task_begins}

-- ---- one line after the other

-- the first of the lines, and what stands behind it
pub record Takes (lines : List (List ℕ)) (line rest : List ℕ) : Type 0 where
  pub more : List (List ℕ)
  pub parts : lines ≡ line ∷ more
  pub rest_is : rest ≡ text_of more
  pub whole : are_lines more ≡ true

pub cons_some : (byte : ℕ) (bytes : List ℕ) → byte ∷ bytes ≢ []
cons_some byte bytes = λ e. absurd cc

pub takes : (text : List ℕ) (lines : List (List ℕ)) (line rest : List ℕ) → text ≡ text_of lines → are_lines lines ≡ true → line ≢ [] → first_line text ≡ line → later_lines text ≡ rest → Takes lines line rest
takes text [] line rest is all some first later = absurd (some (sym first ∙ ap first_line is))
takes text (top ∷ lines) line rest is all some first later =
    let parts = and_parts (is_line top) (are_lines lines) all in
    record {
      more = lines;
      parts = ap (λ (l : List ℕ). l ∷ lines) (sym (first_line-text_of top lines parts.0) ∙ ap first_line (sym is) ∙ first);
      rest_is = sym later ∙ ap later_lines is ∙ later_lines-text_of top lines parts.0;
      whole = parts.1;
    }

-- ---- what is read line by line, from a line on

abbrev pub from_text : Version → List ℕ → List ℕ → List ℕ → ℕ → ℕ → ℕ → Option ℕ → List (ℕ × ℕ) → List ℕ → Result RoomSpec SpecFault
from_text version name inputs own simulators rounds turns task fuses text = protocol_of (reading text) >>= λ protocol. Ok (record { version = version; name = name; inputs = inputs; own = own; simulators = simulators; rounds = rounds; turns = turns; task = task; fuses = fuses; protocol = protocol })

abbrev pub from_fuses : Version → List ℕ → List ℕ → List ℕ → ℕ → ℕ → ℕ → Option ℕ → List ℕ → Result RoomSpec SpecFault
from_fuses version name inputs own simulators rounds turns task text = fuse_lines (line_behind_task task) simulators text >>= λ fuses. from_text version name inputs own simulators rounds turns task fuses.0 fuses.1

abbrev pub from_task : Version → List ℕ → List ℕ → List ℕ → ℕ → ℕ → ℕ → List ℕ → Result RoomSpec SpecFault
from_task version name inputs own simulators rounds turns text = task_line version text >>= λ task. from_fuses version name inputs own simulators rounds turns task.0 task.1

abbrev pub from_turns : Version → List ℕ → List ℕ → List ℕ → ℕ → ℕ → List ℕ → Result RoomSpec SpecFault
from_turns version name inputs own simulators rounds text = number_line 6 (codes "turns ") 65535 Turns text >>= λ turns. from_task version name inputs own simulators rounds turns.0 turns.1

abbrev pub from_fitting : Version → List ℕ → List ℕ → List ℕ → ℕ → ℕ → List ℕ → Result RoomSpec SpecFault
from_fitting version name inputs own simulators rounds text = fitting (most_bits version) (simulators * length inputs * bits_of rounds) >>= λ bits. from_turns version name inputs own simulators rounds text

abbrev pub from_rounds : Version → List ℕ → List ℕ → List ℕ → ℕ → List ℕ → Result RoomSpec SpecFault
from_rounds version name inputs own simulators text = number_line 5 (codes "rounds ") 15 Rounds text >>= λ rounds. from_fitting version name inputs own simulators rounds.0 rounds.1

abbrev pub from_simulators : Version → List ℕ → List ℕ → List ℕ → Result RoomSpec SpecFault
from_simulators version name inputs text = number_line 4 (codes "simulators ") 8 Simulators text >>= λ simulators. from_rounds version name inputs [] simulators.0 simulators.1

abbrev pub from_inputs : Version → List ℕ → List ℕ → Result RoomSpec SpecFault
from_inputs version name text = inputs_line text >>= λ inputs. from_simulators version name inputs.0 inputs.1

abbrev pub from_name : Version → List ℕ → Result RoomSpec SpecFault
from_name version text = name_line text >>= λ name. from_inputs version name.0 name.1

-- ---- the same of a reduction

abbrev pub from_processes : Version → List ℕ → List ℕ → List ℕ → Result RoomSpec SpecFault
from_processes version name own text = number_line 4 (codes "processes ") 16 Processes text >>= λ processes. from_rounds version name (replicate processes.0 (slice_index own 0)) own (length own) processes.1

abbrev pub from_own : Version → List ℕ → List ℕ → Result RoomSpec SpecFault
from_own version name text = own_line text >>= λ own. from_processes version name own.0 own.1

abbrev pub from_reduction_name : Version → List ℕ → Result RoomSpec SpecFault
from_reduction_name version text = name_line text >>= λ name. from_own version name.0 name.1

-- ---- what is read

-- the lines are those of a room's block
pub record AreRoom (lines : List (List ℕ)) (room : RoomSpec) : Type 0 where
  pub limits : IsWithinLimits room
  pub ordinary : room.own ≡ []
  pub fuses : list_all (λ fuse. is_value fuse.1) room.fuses ≡ true
  pub more : List (List ℕ)
  pub parts : lines ≡ head_lines room ++ more
  pub protocol : reading (text_of more) ≡ Ok room.protocol

pub protocol_read : (outcome : Result Protocol ParseFault) (protocol : Protocol) → protocol_of outcome ≡ Ok protocol → outcome ≡ Ok protocol
protocol_read (Ok read) protocol e = cc
protocol_read (Err fault) protocol e = absurd cc

fitting_read : (most bits n : ℕ) → fitting most bits ≡ Ok n → bits ≤ most
fitting_read most bits n e = leb-true bits most (guard_ok (nat_le bits most) TooWide bits n e).0

-- what a room was made of, and the lines that say the rest of it
pub record Found (version : Version) (name inputs own : List ℕ) (simulators rounds turns : ℕ) (task : Option ℕ) (lines head : List (List ℕ)) (room : RoomSpec) : Type 0 where
  pub version_is : room.version ≡ version
  pub name_is : room.name ≡ name
  pub inputs_is : room.inputs ≡ inputs
  pub own_is : room.own ≡ own
  pub simulators_is : room.simulators ≡ simulators
  pub rounds_is : room.rounds ≡ rounds
  pub turns_is : room.turns ≡ turns
  pub task_is : room.task ≡ task
  pub more : List (List ℕ)
  pub parts : lines ≡ head ++ more
  pub protocol : reading (text_of more) ≡ Ok room.protocol

-- the crash lines of the new fuses, and the line `protocol` behind them
record SaysFuses (m : ℕ) (fuses : List (ℕ × ℕ)) (lines : List (List ℕ)) (read : List (ℕ × ℕ) × List ℕ) : Type 0 where
  new : List (ℕ × ℕ)
  all : read.0 ≡ fuses ++ new
  more : List (List ℕ)
  parts : lines ≡ map crash_line new ++ codes "protocol" ∷ more
  rest_is : read.1 ≡ text_of more
  whole : are_lines more ≡ true
  are : AreFuses read.0 m
  values : list_all (λ fuse. is_value fuse.1) read.0 ≡ true

protocol_says : (m : ℕ) (fuses : List (ℕ × ℕ)) (lines : List (List ℕ)) (line rest : List ℕ) (read : List (ℕ × ℕ) × List ℕ) → AreFuses fuses m → list_all (λ fuse. is_value fuse.1) fuses ≡ true → Takes lines line rest → line ≡ codes "protocol" → (fuses, rest) ≡ read → SaysFuses m fuses lines read
protocol_says m fuses lines line rest read are values taken is same =
    let says : SaysFuses m fuses lines (fuses, rest) = record {
      new = [];
      all = sym (append-nil fuses);
      more = taken.more;
      parts = taken.parts ∙ ap (λ (l : List ℕ). l ∷ taken.more) is;
      rest_is = taken.rest_is;
      whole = taken.whole;
      are = are;
      values = values;
    } in
    subst (λ (r : List (ℕ × ℕ) × List ℕ). SaysFuses m fuses lines r) same says

fuse_says : (m : ℕ) (fuses : List (ℕ × ℕ)) (fuse : ℕ × ℕ) (lines : List (List ℕ)) (line rest : List ℕ) (read : List (ℕ × ℕ) × List ℕ) → (taken : Takes lines line rest) → line ≡ crash_line fuse → SaysFuses m (fuses ++ fuse ∷ []) taken.more read → SaysFuses m fuses lines read
fuse_says m fuses fuse lines line rest read taken is says = record {
  new = fuse ∷ says.new;
  all = says.all ∙ append_assoc fuses (fuse ∷ []) says.new;
  more = says.more;
  parts = taken.parts ∙ ap (λ (l : List ℕ). l ∷ taken.more) is ∙ ap (λ (l : List (List ℕ)). crash_line fuse ∷ l) says.parts;
  rest_is = says.rest_is;
  whole = says.whole;
  are = says.are;
  values = says.values;
}

told_some : (from m : ℕ) (fuses : List (ℕ × ℕ)) (line : List ℕ) (found : Option (ℕ × ℕ)) → said_next from m fuses line ≡ Ok found → line ≢ []
told_some from m fuses line found said empty = absurd (let h : said_next from m fuses [] ≡ Ok found = sym (ap (said_next from m fuses) empty) ∙ said in cc)

pub fuses_are_values : (fuses : List (ℕ × ℕ)) (fuse : ℕ × ℕ) → list_all (λ f. is_value f.1) fuses ≡ true → is_value fuse.1 ≡ true → list_all (λ f. is_value f.1) (fuses ++ fuse ∷ []) ≡ true
fuses_are_values fuses fuse all is = list_all-append (λ (f : ℕ × ℕ). is_value f.1) fuses (fuse ∷ []) ∙ and_from (list_all (λ f. is_value f.1) fuses) (list_all (λ f. is_value f.1) (fuse ∷ [])) all (and_from (is_value fuse.1) true is refl)

onward_found : (most from m : ℕ) (fuses : List (ℕ × ℕ)) (line rest : List ℕ) (lines : List (List ℕ)) (found : Option (ℕ × ℕ)) (read : List (ℕ × ℕ) × List ℕ) → m ≤ 8 → Takes lines line rest → AreFuses fuses m → list_all (λ fuse. is_value fuse.1) fuses ≡ true → ((fuse : ℕ × ℕ) (more : List (List ℕ)) → rest ≡ text_of more → are_lines more ≡ true → AreFuses (fuses ++ fuse ∷ []) m → list_all (λ f. is_value f.1) (fuses ++ fuse ∷ []) ≡ true → fuses_from most from m (fuses ++ fuse ∷ []) rest ≡ Ok read → SaysFuses m (fuses ++ fuse ∷ []) more read) → said_next from m fuses line ≡ Ok found → onward (fuses_from most from m) fuses rest found ≡ Ok read → SaysFuses m fuses lines read
onward_found most from m fuses line rest lines None read few taken are values later said e = protocol_says m fuses lines line rest read are values taken (tells_protocol from m fuses line said) (ok_is _ read e)
onward_found most from m fuses line rest lines (Some fuse) read few taken are values later said e =
    let tells = tells_fuse from m fuses line fuse said in
    fuse_says m fuses fuse lines line rest read taken (crash_line_found m fuses line fuse few tells)
    (later fuse taken.more taken.rest_is taken.whole (fuses_pushed fuses fuse m are tells.below tells.new) (fuses_are_values fuses fuse values tells.value) e)

fuses_found : (most from m : ℕ) (fuses : List (ℕ × ℕ)) (text : List ℕ) (lines : List (List ℕ)) (read : List (ℕ × ℕ) × List ℕ) → m ≤ 8 → text ≡ text_of lines → are_lines lines ≡ true → AreFuses fuses m → list_all (λ fuse. is_value fuse.1) fuses ≡ true → fuses_from most from m fuses text ≡ Ok read → SaysFuses m fuses lines read
unfolding fuses_from
fuses_found zero from m fuses text lines read few is all are values e = absurd cc
fuses_found (suc most) from m fuses text lines read few is all are values e =
    let step = bind_ok (said_next from m fuses (first_line text)) (onward (fuses_from most from m) fuses (later_lines text)) read e in
    let taken = takes text lines (first_line text) (later_lines text) is all (told_some from m fuses (first_line text) step.0 step.1) refl refl in
    onward_found most from m fuses (first_line text) (later_lines text) lines step.0 read few taken are values (λ fuse more same whole good goods go. fuses_found most from m (fuses ++ fuse ∷ []) (later_lines text) more read few same whole good goods go) step.1 step.2

-- what a room's fuses and turns keep
pub record Keeps (simulators : ℕ) (room : RoomSpec) : Type 0 where
  pub fuses : AreFuses room.fuses simulators
  pub values : list_all (λ fuse. is_value fuse.1) room.fuses ≡ true

found_fuses : (version : Version) (name inputs own : List ℕ) (simulators rounds turns : ℕ) (task : Option ℕ) (text : List ℕ) (lines : List (List ℕ)) (room : RoomSpec) → simulators ≤ 8 → text ≡ text_of lines → are_lines lines ≡ true → from_fuses version name inputs own simulators rounds turns task text ≡ Ok room → Found version name inputs own simulators rounds turns task lines (map crash_line room.fuses ++ codes "protocol" ∷ []) room × Keeps simulators room
found_fuses version name inputs own simulators rounds turns task text lines room few is all read =
    let step = bind_ok (fuse_lines (line_behind_task task) simulators text) (λ fuses. from_text version name inputs own simulators rounds turns task fuses.0 fuses.1) room read in
    let says = fuses_found (suc simulators) (line_behind_task task) simulators [] text lines step.0 few is all (no_fuses simulators) refl step.1 in
    let protocol = bind_ok (protocol_of (reading step.0.1)) (λ protocol. Ok (record { version = version; name = name; inputs = inputs; own = own; simulators = simulators; rounds = rounds; turns = turns; task = task; fuses = step.0.0; protocol = protocol })) room step.2 in
    let made : record { version = version; name = name; inputs = inputs; own = own; simulators = simulators; rounds = rounds; turns = turns; task = task; fuses = step.0.0; protocol = protocol.0 } ≡ room = ok_is _ room protocol.2 in
    subst (λ (r : RoomSpec). Found version name inputs own simulators rounds turns task lines (map crash_line r.fuses ++ codes "protocol" ∷ []) r × Keeps simulators r) made (
      record {
        version_is = refl;
        name_is = refl;
        inputs_is = refl;
        own_is = refl;
        simulators_is = refl;
        rounds_is = refl;
        turns_is = refl;
        task_is = refl;
        more = says.more;
        parts = says.parts ∙ ap (λ (new : List (ℕ × ℕ)). map crash_line new ++ codes "protocol" ∷ says.more) (sym says.all) ∙ sym (append_assoc (map crash_line step.0.0) (codes "protocol" ∷ []) says.more);
        protocol = ap reading (sym says.rest_is) ∙ protocol_read (reading step.0.1) protocol.0 protocol.1;
      },
      record { fuses = says.are; values = says.values },
    )

-- the lines of a room from one on
abbrev fuses_on : RoomSpec → List (List ℕ)
fuses_on room = map crash_line room.fuses ++ codes "protocol" ∷ []

abbrev task_on : RoomSpec → List (List ℕ)
task_on room = task_lines room.task ++ fuses_on room

abbrev turns_on : RoomSpec → List (List ℕ)
turns_on room = (codes "turns " ++ decimal room.turns) ∷ task_on room

abbrev pub rounds_on : RoomSpec → List (List ℕ)
rounds_on room = (codes "rounds " ++ decimal room.rounds) ∷ turns_on room

abbrev simulators_on : RoomSpec → List (List ℕ)
simulators_on room = (codes "simulators " ++ decimal room.simulators) ∷ rounds_on room

abbrev inputs_on : RoomSpec → List (List ℕ)
inputs_on room = join_with_byte 32 (codes "inputs" ∷ map decimal room.inputs) ∷ simulators_on room

abbrev name_on : RoomSpec → List (List ℕ)
name_on room = (codes "room " ++ room.name) ∷ inputs_on room

pub one_more : (lines rest head more : List (List ℕ)) (line said : List ℕ) → lines ≡ line ∷ rest → line ≡ said → rest ≡ head ++ more → lines ≡ (said ∷ head) ++ more
one_more lines rest head more line said top same parts = cc

longer : (version : Version) (name inputs own : List ℕ) (simulators rounds turns : ℕ) (task : Option ℕ) (lines rest head : List (List ℕ)) (line said : List ℕ) (room : RoomSpec) → lines ≡ line ∷ rest → line ≡ said → Found version name inputs own simulators rounds turns task rest head room → Found version name inputs own simulators rounds turns task lines (said ∷ head) room
longer version name inputs own simulators rounds turns task lines rest head line said room top same found = record {
  version_is = found.version_is;
  name_is = found.name_is;
  inputs_is = found.inputs_is;
  own_is = found.own_is;
  simulators_is = found.simulators_is;
  rounds_is = found.rounds_is;
  turns_is = found.turns_is;
  task_is = found.task_is;
  more = found.more;
  parts = one_more lines rest head found.more line said top same found.parts;
  protocol = found.protocol;
}

-- what a room's turns and task keep
pub record KeepsTurns (room : RoomSpec) : Type 0 where
  pub turns : (1 ≤ room.turns) × (room.turns ≤ 65535)
  pub task : IsTaskIn room.version room.task

-- only version 2 has lines of tasks
told_in : (version : Version) (line words : List ℕ) (most : ℕ) → task_words version line ≡ Some words → (1 ≤ most) × (most ≤ 16) → IsTaskIn version (Some most)
told_in One line words most is range = absurd cc
told_in Two line words most is range = range

found_task_by : (version : Version) (name inputs own : List ℕ) (simulators rounds turns : ℕ) (text : List ℕ) (lines : List (List ℕ)) (room : RoomSpec) (words : Option (List ℕ)) → simulators ≤ 8 → text ≡ text_of lines → are_lines lines ≡ true → task_words version (first_line text) ≡ words
    → (task_in text words >>= λ task. from_fuses version name inputs own simulators rounds turns task.0 task.1) ≡ Ok room → Found version name inputs own simulators rounds turns room.task lines (task_on room) room × IsTaskIn room.version room.task × Keeps simulators room
found_task_by version name inputs own simulators rounds turns text lines room None few is all begins read =
    let both = found_fuses version name inputs own simulators rounds turns None text lines room few is all read in
    let found = both.0 in (
      subst (λ (task : Option ℕ). Found version name inputs own simulators rounds turns task lines (task_lines task ++ fuses_on room) room) (sym found.task_is) found,
      subst (λ (task : Option ℕ). IsTaskIn room.version task) (sym found.task_is) tt,
      both.1,
    )
found_task_by version name inputs own simulators rounds turns text lines room (Some words) few is all begins read =
    let line = bind_ok (task_of words >>= λ most. Ok (Some most, later_lines text)) (λ task. from_fuses version name inputs own simulators rounds turns task.0 task.1) room read in
    let told = bind_ok (task_of words) (λ most. Ok (Some most, later_lines text)) line.0 line.1 in
    let same : (Some told.0, later_lines text) ≡ line.0 = ok_is _ line.0 told.2 in
    let says = task_said (first_line text) words told.0 (words_begin version (first_line text) words begins).1 told.1 in
    let taken = takes text lines (agree_line told.0) (later_lines text) is all (cons_some _ _) says.0 refl in
    let both = found_fuses version name inputs own simulators rounds turns (Some told.0) (later_lines text) taken.more room few taken.rest_is taken.whole (subst (λ (t : Option ℕ × List ℕ). from_fuses version name inputs own simulators rounds turns t.0 t.1 ≡ Ok room) (sym same) line.2) in
    let found = both.0 in (
      subst (λ (task : Option ℕ). Found version name inputs own simulators rounds turns task lines (task_lines task ++ fuses_on room) room) (sym found.task_is)
          (longer version name inputs own simulators rounds turns (Some told.0) lines taken.more (fuses_on room) (agree_line told.0) (agree_line told.0) room taken.parts refl found),
      subst (λ (task : Option ℕ). IsTaskIn room.version task) (sym found.task_is) (subst (λ (v : Version). IsTaskIn v (Some told.0)) (sym found.version_is) (told_in version (first_line text) words told.0 begins (says.1, says.2))),
      both.1,
    )

found_turns : (version : Version) (name inputs own : List ℕ) (simulators rounds : ℕ) (text : List ℕ) (lines : List (List ℕ)) (room : RoomSpec) → simulators ≤ 8 → text ≡ text_of lines → are_lines lines ≡ true → from_turns version name inputs own simulators rounds text ≡ Ok room → Found version name inputs own simulators rounds room.turns room.task lines (turns_on room) room × KeepsTurns room × Keeps simulators room
found_turns version name inputs own simulators rounds text lines room few is all read =
    let line = bind_ok (number_line 6 (codes "turns ") 65535 Turns text) (λ turns. from_task version name inputs own simulators rounds turns.0 turns.1) room read in
    let says = number_found 6 (codes "turns ") 65535 Turns text line.0 (omega arith) line.1 in
    let taken = takes text lines (codes "turns " ++ decimal line.0.0) line.0.1 is all (cons_some _ _) says.line says.rest_is in
    let both = found_task_by version name inputs own simulators rounds line.0.0 line.0.1 taken.more room (task_words version (first_line line.0.1)) few taken.rest_is taken.whole refl line.2 in
    let found = both.0 in (
      subst (λ (turns : ℕ). Found version name inputs own simulators rounds turns room.task lines (turns_on room) room) (sym found.turns_is)
          (longer version name inputs own simulators rounds line.0.0 room.task lines taken.more (task_on room) (codes "turns " ++ decimal line.0.0) (codes "turns " ++ decimal room.turns) room taken.parts (ap (λ (n : ℕ). codes "turns " ++ decimal n) (sym found.turns_is)) found),
      record { turns = subst (λ (n : ℕ). (1 ≤ n) × (n ≤ 65535)) (sym found.turns_is) says.range; task = both.1 },
      both.2,
    )

pub found_rounds : (version : Version) (name inputs own : List ℕ) (simulators : ℕ) (text : List ℕ) (lines : List (List ℕ)) (room : RoomSpec) → simulators ≤ 8 → text ≡ text_of lines → are_lines lines ≡ true → from_rounds version name inputs own simulators text ≡ Ok room
    → Found version name inputs own simulators room.rounds room.turns room.task lines (rounds_on room) room × KeepsTurns room × (room.simulators * length room.inputs * bits_of room.rounds ≤ most_bits room.version) × ((1 ≤ room.rounds) × (room.rounds ≤ 15)) × Keeps simulators room
found_rounds version name inputs own simulators text lines room few is all read =
    let line = bind_ok (number_line 5 (codes "rounds ") 15 Rounds text) (λ rounds. from_fitting version name inputs own simulators rounds.0 rounds.1) room read in
    let says = number_found 5 (codes "rounds ") 15 Rounds text line.0 (omega arith) line.1 in
    let taken = takes text lines (codes "rounds " ++ decimal line.0.0) line.0.1 is all (cons_some _ _) says.line says.rest_is in
    let fits = bind_ok (fitting (most_bits version) (simulators * length inputs * bits_of line.0.0)) (λ bits. from_turns version name inputs own simulators line.0.0 line.0.1) room line.2 in
    let both = found_turns version name inputs own simulators line.0.0 line.0.1 taken.more room few taken.rest_is taken.whole fits.2 in
    let found = both.0 in
    let memory : room.simulators * length room.inputs * bits_of room.rounds ≤ most_bits room.version =
    rw (found.version_is, found.simulators_is, found.inputs_is, found.rounds_is) (fitting_read (most_bits version) (simulators * length inputs * bits_of line.0.0) fits.0 fits.1) in (
      subst (λ (rounds : ℕ). Found version name inputs own simulators rounds room.turns room.task lines (rounds_on room) room) (sym found.rounds_is)
          (longer version name inputs own simulators line.0.0 room.turns room.task lines taken.more (turns_on room) (codes "rounds " ++ decimal line.0.0) (codes "rounds " ++ decimal room.rounds) room taken.parts (ap (λ (n : ℕ). codes "rounds " ++ decimal n) (sym found.rounds_is)) found),
      both.1,
      memory,
      subst (λ (n : ℕ). (1 ≤ n) × (n ≤ 15)) (sym found.rounds_is) says.range,
      both.2,
    )

found_simulators : (version : Version) (name inputs : List ℕ) (text : List ℕ) (lines : List (List ℕ)) (room : RoomSpec) → text ≡ text_of lines → are_lines lines ≡ true → from_simulators version name inputs text ≡ Ok room
    → Found version name inputs [] room.simulators room.rounds room.turns room.task lines (simulators_on room) room × KeepsTurns room × (room.simulators * length room.inputs * bits_of room.rounds ≤ most_bits room.version) × ((1 ≤ room.rounds) × (room.rounds ≤ 15)) × ((1 ≤ room.simulators) × (room.simulators ≤ 8)) × Keeps room.simulators room
found_simulators version name inputs text lines room is all read =
    let line = bind_ok (number_line 4 (codes "simulators ") 8 Simulators text) (λ simulators. from_rounds version name inputs [] simulators.0 simulators.1) room read in
    let says = number_found 4 (codes "simulators ") 8 Simulators text line.0 (omega arith) line.1 in
    let taken = takes text lines (codes "simulators " ++ decimal line.0.0) line.0.1 is all (cons_some _ _) says.line says.rest_is in
    let both = found_rounds version name inputs [] line.0.0 line.0.1 taken.more room says.range.1 taken.rest_is taken.whole line.2 in
    let found = both.0 in (
      subst (λ (simulators : ℕ). Found version name inputs [] simulators room.rounds room.turns room.task lines (simulators_on room) room) (sym found.simulators_is)
          (longer version name inputs [] line.0.0 room.rounds room.turns room.task lines taken.more (rounds_on room) (codes "simulators " ++ decimal line.0.0) (codes "simulators " ++ decimal room.simulators) room taken.parts (ap (λ (n : ℕ). codes "simulators " ++ decimal n) (sym found.simulators_is)) found),
      both.1,
      both.2,
      both.3,
      subst (λ (n : ℕ). (1 ≤ n) × (n ≤ 8)) (sym found.simulators_is) says.range,
      subst (λ (n : ℕ). Keeps n room) (sym found.simulators_is) both.4,
    )

pub inputs_some : (values : List ℕ) → join_with_byte 32 (codes "inputs" ∷ map decimal values) ≢ []
inputs_some [] = cons_some _ _
inputs_some (value ∷ values) = cons_some _ _

pub inputs_range : (values : List ℕ) → are_inputs values ≡ true → (1 ≤ length values) × (length values ≤ 16)
inputs_range values are =
    let tests = and_parts (nat_le 1 (length values)) (nat_le (length values) 16) (and_parts _ (list_all is_value values) are).0 in
    (leb-true 1 (length values) tests.0, leb-true (length values) 16 tests.1)

-- no version allows more than four words
pub most_bits_few : (version : Version) (bits : ℕ) → bits ≤ most_bits version → bits ≤ 256
most_bits_few One bits few = omega arith
most_bits_few Two bits few = few

found_inputs : (version : Version) (name : List ℕ) (text : List ℕ) (lines : List (List ℕ)) (room : RoomSpec) → text ≡ text_of lines → are_lines lines ≡ true → from_inputs version name text ≡ Ok room
    → Found version name room.inputs [] room.simulators room.rounds room.turns room.task lines (inputs_on room) room × KeepsTurns room × IsShape (length room.inputs) room.simulators (bits_of room.rounds) room.rounds × (room.simulators * length room.inputs * bits_of room.rounds ≤ most_bits room.version) × (list_all is_value room.inputs ≡ true) × Keeps room.simulators room
found_inputs version name text lines room is all read =
    let line = bind_ok (inputs_line text) (λ inputs. from_simulators version name inputs.0 inputs.1) room read in
    let says = inputs_found text line.0 line.1 in
    let taken = takes text lines (join_with_byte 32 (codes "inputs" ∷ map decimal line.0.0)) line.0.1 is all (inputs_some line.0.0) says.0 says.1 in
    let both = found_simulators version name line.0.0 line.0.1 taken.more room taken.rest_is taken.whole line.2 in
    let found = both.0 in
    let are : are_inputs room.inputs ≡ true = subst (λ (values : List ℕ). are_inputs values ≡ true) (sym found.inputs_is) says.2 in (
      subst (λ (inputs : List ℕ). Found version name inputs [] room.simulators room.rounds room.turns room.task lines (inputs_on room) room) (sym found.inputs_is)
          (longer version name line.0.0 [] room.simulators room.rounds room.turns room.task lines taken.more (simulators_on room) (join_with_byte 32 (codes "inputs" ∷ map decimal line.0.0)) (join_with_byte 32 (codes "inputs" ∷ map decimal room.inputs)) room taken.parts (ap (λ (values : List ℕ). join_with_byte 32 (codes "inputs" ∷ map decimal values)) (sym found.inputs_is)) found),
      both.1,
      record { n_range = inputs_range room.inputs are; m_range = both.4; rounds_range = both.3; width = refl; memory = most_bits_few room.version (room.simulators * length room.inputs * bits_of room.rounds) both.2 },
      both.2,
      inputs_are_values room.inputs are,
      both.5,
    )

-- a room without inputs of its simulators
pub no_own : (room : RoomSpec) → room.own ≡ [] → AreOwn room.own room.version room.inputs room.simulators
no_own room ordinary = subst (λ (own : List ℕ). AreOwn own room.version room.inputs room.simulators) (sym ordinary) tt

found_name : (version : Version) (text : List ℕ) (lines : List (List ℕ)) (room : RoomSpec) → text ≡ text_of lines → are_lines lines ≡ true → from_name version text ≡ Ok room → Found version room.name room.inputs [] room.simulators room.rounds room.turns room.task lines (name_on room) room × IsWithinLimits room × Keeps room.simulators room
found_name version text lines room is all read =
    let line = bind_ok (name_line text) (λ name. from_inputs version name.0 name.1) room read in
    let says = name_found text line.0 line.1 in
    let taken = takes text lines (codes "room " ++ line.0.0) line.0.1 is all (cons_some _ _) says.0 says.1 in
    let both = found_inputs version line.0.0 line.0.1 taken.more room taken.rest_is taken.whole line.2 in
    let found = both.0 in (
      subst (λ (name : List ℕ). Found version name room.inputs [] room.simulators room.rounds room.turns room.task lines (name_on room) room) (sym found.name_is)
          (longer version line.0.0 room.inputs [] room.simulators room.rounds room.turns room.task lines taken.more (inputs_on room) (codes "room " ++ line.0.0) (codes "room " ++ room.name) room taken.parts (ap (λ (name : List ℕ). codes "room " ++ name) (sym found.name_is)) found),
      record { name = subst (λ (name : List ℕ). is_name name ≡ true) (sym found.name_is) says.2; shape = both.2; width = both.3; turns = both.1.turns; task = both.1.task; fuses = both.5.fuses; values = both.4; own = no_own room found.own_is; numerals = small_if_read (text_of found.more) room.protocol found.protocol },
      both.5,
    )

version_some : (version : Version) → version_text version ≢ []
version_some One = cons_some _ _
version_some Two = cons_some _ _

room_found : (lines : List (List ℕ)) (room : RoomSpec) → are_lines lines ≡ true → room_in (text_of lines) ≡ Ok room → AreRoom lines room
unfolding room_in
room_found lines room all read =
    let line = bind_ok (version_line (text_of lines)) (λ version. from_name version.0 version.1) room read in
    let says = version_found (text_of lines) line.0 line.1 in
    let taken = takes (text_of lines) lines (version_text line.0.0) line.0.1 refl all (version_some line.0.0) says.0 says.1 in
    let both = found_name line.0.0 line.0.1 taken.more room taken.rest_is taken.whole line.2 in
    record {
      limits = both.1;
      ordinary = both.0.own_is;
      fuses = both.2.values;
      more = both.0.more;
      parts = one_more lines taken.more (name_on room) both.0.more (version_text line.0.0) (version_text room.version) taken.parts (ap version_text (sym both.0.version_is)) both.0.parts;
      protocol = both.0.protocol;
    }

before_parts : (first more : List (List ℕ)) → are_before_end (first ++ more) ≡ true → are_before_end more ≡ true
before_parts first more all = (and_parts (are_before_end first) (are_before_end more) (sym (list_all-append _ first more) ∙ all)).1

regrouped : (a b c d : List ℕ) → (a ++ b) ++ (c ++ d) ≡ (a ++ (b ++ c)) ++ d
regrouped a b c d = simp append_assoc

-- the text before the line `end`
pub text_before : (text : List ℕ) (body : ℕ) (end : HasEnd text body) → take body text ≡ text_of end.lines
text_before text body end = ap (take body) end.parts ∙ take_at (text_of end.lines) (codes "end" ++ with_line_end end.later) body (sym end.extent)

-- the lines of a head and of a protocol's text, and the line `end`
pub front_in : (text : List ℕ) (body : ℕ) (end : HasEnd text body) (head more : List (List ℕ)) → end.lines ≡ head ++ more → (are_before_end more ≡ true) × IsInFront (text_of head ++ (text_of more ++ codes "end")) text (min (body + 4) (length text))
front_in text body end head more parts =
    let lines : text_of end.lines ≡ text_of head ++ text_of more = ap text_of parts ∙ flat_map-append (λ line. line ++ line_end) head more in
    let whole : text ≡ (text_of head ++ (text_of more ++ codes "end")) ++ with_line_end end.later = end.parts ∙ ap (λ (t : List ℕ). t ++ (codes "end" ++ with_line_end end.later)) lines ∙ regrouped (text_of head) (text_of more) (codes "end") (with_line_end end.later) in
    let len : length (text_of head ++ (text_of more ++ codes "end")) + 1 ≡ body + 4 = omega (arith, end.extent, ap length lines, length-append (text_of head) (text_of more), length-append (text_of head) (text_of more ++ codes "end"), length-append (text_of more) (codes "end")) in (
      before_parts head more (subst (λ (l : List (List ℕ)). are_before_end l ≡ true) parts end.no_end),
      subst (λ n. IsInFront (text_of head ++ (text_of more ++ codes "end")) text (min n (length text))) len (front_from (text_of head ++ (text_of more ++ codes "end")) text end.later whole),
    )

pub block_found : (text : List ℕ) (body : ℕ) (room : RoomSpec) → Some body ≡ body_len text → Ok room ≡ room_in (take body text) → IsBlock text room (min (body + 4) (length text))
block_found text body room ends read =
    let end = end_found text body (sym ends) in
    let found = room_found end.lines room (are_lines-before_end end.lines end.no_end) (sym (read ∙ ap room_in (text_before text body end))) in
    let front = front_in text body end (head_lines room) found.more found.parts in
    record {
      limits = found.limits;
      ordinary = found.ordinary;
      fuses = found.fuses;
      lines = found.more;
      no_end = front.0;
      protocol = text_read (text_of found.more) (Ok room.protocol) found.protocol;
      bytes = front.1;
    }

-- ---- what is written is read

steps_from_rounds : (room : RoomSpec) (e f g t h : List ℕ) → number_line 5 (codes "rounds ") 15 Rounds e ≡ Ok (room.rounds, f) → fitting (most_bits room.version) (room.simulators * length room.inputs * bits_of room.rounds) ≡ Ok (room.simulators * length room.inputs * bits_of room.rounds) → number_line 6 (codes "turns ") 65535 Turns f ≡ Ok (room.turns, g)
    → task_line room.version g ≡ Ok (room.task, t) → fuse_lines (line_behind_task room.task) room.simulators t ≡ Ok (room.fuses, h) → reading h ≡ Ok room.protocol → from_rounds room.version room.name room.inputs room.own room.simulators e ≡ Ok room
steps_from_rounds room e f g t h ef fits fg gt th read = rw (ef, fits, fg, gt, th, read) refl

steps : (room : RoomSpec) (a b c d e : List ℕ) → version_line a ≡ Ok (room.version, b) → name_line b ≡ Ok (room.name, c) → inputs_line c ≡ Ok (room.inputs, d) → number_line 4 (codes "simulators ") 8 Simulators d ≡ Ok (room.simulators, e) → room_in a ≡ from_rounds room.version room.name room.inputs [] room.simulators e
unfolding room_in
steps room a b c d e ab bc cd de = rw (ab, bc, cd, de) refl

name_byte_no_line_end : (byte : ℕ) → is_name_byte byte ≡ true → not (is_line_end byte) ≡ true
name_byte_no_line_end byte is = grind (arith, nat_tests)

-- a word and what stands behind it are a line
word_line : (word value : List ℕ) → is_line word ≡ true → is_line value ≡ true → is_line (word ++ value) ≡ true
word_line word value a b = list_all-append _ word value ∙ and_from (is_line word) (is_line value) a b

pub name_line_is : (name : List ℕ) → is_name name ≡ true → is_line (codes "room " ++ name) ≡ true
name_line_is name is = word_line (codes "room ") name refl (each_passes is_name_byte (λ byte. not (is_line_end byte)) name name_byte_no_line_end (and_parts _ (list_all is_name_byte name) is).1)

pub number_line_is : (word : List ℕ) (number : ℕ) → is_line word ≡ true → number < 2 ^ 64 → is_line (word ++ decimal number) ≡ true
number_line_is word number is small = word_line word (decimal number) is (decimal_passes (λ byte. not (is_line_end byte)) number small digit_no_line_end)

pub inputs_line_is : (piece : List ℕ) (values : List ℕ) → is_line piece ≡ true → list_all is_value values ≡ true → is_line (join_with_byte 32 (piece ∷ map decimal values)) ≡ true
inputs_line_is piece [] is all = is
inputs_line_is piece (value ∷ values) is all =
    let each = and_parts (is_value value) (list_all is_value values) all in
    let value_is : is_line (decimal value) ≡ true = decimal_passes (λ byte. not (is_line_end byte)) value (omega (arith, leb-true value greatest each.0)) digit_no_line_end in
    word_line piece (32 ∷ join_with_byte 32 (decimal value ∷ map decimal values)) is (inputs_line_is (decimal value) values value_is each.1)

version_line_is : (version : Version) → is_line (version_text version) ≡ true
version_line_is One = refl
version_line_is Two = refl

version_again_text : (version : Version) (more : List (List ℕ)) → version_line (text_of (version_text version ∷ more)) ≡ Ok (version, text_of more)
version_again_text version more =
    version_again (text_of (version_text version ∷ more)) version (first_line-text_of (version_text version) more (version_line_is version))
    ∙ ap (λ (rest : List ℕ). Ok (version, rest)) (later_lines-text_of (version_text version) more (version_line_is version))

crash_line_is : (fuse : ℕ × ℕ) (m : ℕ) → m ≤ 8 → nat_lt fuse.0 m ≡ true → is_value fuse.1 ≡ true → is_line (crash_line fuse) ≡ true
crash_line_is fuse m few below value =
    let under : fuse.0 < m = ltb-true fuse.0 m below in
    let first : is_line (decimal fuse.0) ≡ true = decimal_passes (λ byte. not (is_line_end byte)) fuse.0 (omega arith) digit_no_line_end in
    let last : is_line (decimal fuse.1) ≡ true = decimal_passes (λ byte. not (is_line_end byte)) fuse.1 (small_value fuse.1 value) digit_no_line_end in
    word_line (codes "crash ") (decimal fuse.0 ++ (codes " after " ++ decimal fuse.1)) refl (word_line (decimal fuse.0) (codes " after " ++ decimal fuse.1) first (word_line (codes " after ") (decimal fuse.1) refl last))

fuses_step : (most from m : ℕ) (fuses : List (ℕ × ℕ)) (line : List ℕ) (more : List (List ℕ)) (found : Option (ℕ × ℕ)) → is_line line ≡ true → said_next from m fuses line ≡ Ok found → fuses_from (suc most) from m fuses (text_of (line ∷ more)) ≡ onward (fuses_from most from m) fuses (text_of more) found
unfolding fuses_from
fuses_step most from m fuses line more found is said =
    ap (λ (l : List ℕ). said_next from m fuses l >>= onward (fuses_from most from m) fuses (later_lines (text_of (line ∷ more)))) (first_line-text_of line more is)
    ∙ ap (λ (rest : List ℕ). said_next from m fuses line >>= onward (fuses_from most from m) fuses rest) (later_lines-text_of line more is)
    ∙ ap (λ (r : Result (Option (ℕ × ℕ)) SpecFault). r >>= onward (fuses_from most from m) fuses (text_of more)) said

abbrev read_fuses : List (ℕ × ℕ) → List ℕ → Result (List (ℕ × ℕ) × List ℕ) SpecFault
read_fuses fuses rest = Ok (fuses, rest)

fuses_again : (new : List (ℕ × ℕ)) (most from m : ℕ) (fuses : List (ℕ × ℕ)) (more : List (List ℕ)) → m ≤ 8 → AreFuses (fuses ++ new) m → list_all (λ fuse. is_value fuse.1) new ≡ true → length new < most → fuses_from most from m fuses (text_of (map crash_line new ++ codes "protocol" ∷ more)) ≡ Ok (fuses ++ new, text_of more)
fuses_again new zero from m fuses more few are values long = absurd (omega arith)
fuses_again [] (suc most) from m fuses more few are values long =
    fuses_step most from m fuses (codes "protocol") more None refl refl ∙ ap (λ (f : List (ℕ × ℕ)). read_fuses f (text_of more)) (sym (append-nil fuses))
fuses_again (fuse ∷ new) (suc most) from m fuses more few are values long =
    let each = and_parts (is_value fuse.1) (list_all (λ f. is_value f.1) new) values in
    let below = and_parts (list_all (λ f. nat_lt f.0 m) fuses) (list_all (λ f. nat_lt f.0 m) (fuse ∷ new)) (sym (list_all-append (λ (f : ℕ × ℕ). nat_lt f.0 m) fuses (fuse ∷ new)) ∙ are.below) in
    let own = and_parts (nat_lt fuse.0 m) (list_all (λ f. nat_lt f.0 m) new) below.1 in
    let grouped : (fuses ++ fuse ∷ []) ++ new ≡ fuses ++ fuse ∷ new = append_assoc fuses (fuse ∷ []) new in
    fuses_step most from m fuses (crash_line fuse) (map crash_line new ++ codes "protocol" ∷ more) (Some fuse) (crash_line_is fuse m few own.0 each.0) (crash_line_again from m fuses fuse few own.0 each.0 (fuses_apart fuses fuse new are.distinct))
    ∙ fuses_again new most from m (fuses ++ fuse ∷ []) more few (subst (λ (f : List (ℕ × ℕ)). AreFuses f m) (sym grouped) are) each.1 (omega arith)
    ∙ ap (λ (f : List (ℕ × ℕ)). read_fuses f (text_of more)) grouped

fuses_text : (from m : ℕ) (fuses : List (ℕ × ℕ)) (more : List (List ℕ)) → m ≤ 8 → AreFuses fuses m → list_all (λ fuse. is_value fuse.1) fuses ≡ true → fuse_lines from m (text_of ((map crash_line fuses ++ codes "protocol" ∷ []) ++ more)) ≡ Ok (fuses, text_of more)
fuses_text from m fuses more few are values =
    let count : length fuses ≤ m = fuses_few fuses m are in
    ap (λ (lines : List (List ℕ)). fuse_lines from m (text_of lines)) (append_assoc (map crash_line fuses) (codes "protocol" ∷ []) more) ∙ fuses_again fuses (suc m) from m [] more few are values (omega arith)

pub name_text : (name : List ℕ) (more : List (List ℕ)) → is_name name ≡ true → name_line (text_of ((codes "room " ++ name) ∷ more)) ≡ Ok (name, text_of more)
name_text name more is =
    name_again (text_of ((codes "room " ++ name) ∷ more)) name (first_line-text_of (codes "room " ++ name) more (name_line_is name is)) is
    ∙ ap (λ (rest : List ℕ). Ok (name, rest)) (later_lines-text_of (codes "room " ++ name) more (name_line_is name is))

inputs_text : (values : List ℕ) (more : List (List ℕ)) → are_inputs values ≡ true → inputs_line (text_of (join_with_byte 32 (codes "inputs" ∷ map decimal values) ∷ more)) ≡ Ok (values, text_of more)
inputs_text values more are =
    let is = inputs_line_is (codes "inputs") values refl (inputs_are_values values are) in
    some_inputs_again 16 (text_of (join_with_byte 32 (codes "inputs" ∷ map decimal values) ∷ more)) values (first_line-text_of (join_with_byte 32 (codes "inputs" ∷ map decimal values)) more is) are
    ∙ ap (λ (rest : List ℕ). Ok (values, rest)) (later_lines-text_of (join_with_byte 32 (codes "inputs" ∷ map decimal values)) more is)

pub number_text : (line : ℕ) (word : List ℕ) (most : ℕ) (fault : SpecFault) (number : ℕ) (more : List (List ℕ)) → is_line word ≡ true → most < 2 ^ 64 → (1 ≤ number) × (number ≤ most) → number_line line word most fault (text_of ((word ++ decimal number) ∷ more)) ≡ Ok (number, text_of more)
number_text line word most fault number more word_is small range =
    let is = number_line_is word number word_is (omega (arith, range.1)) in
    number_again line word most fault (text_of ((word ++ decimal number) ∷ more)) number small (first_line-text_of (word ++ decimal number) more is) range
    ∙ ap (λ (rest : List ℕ). Ok (number, rest)) (later_lines-text_of (word ++ decimal number) more is)

fitting_again : (most bits : ℕ) → bits ≤ most → fitting most bits ≡ Ok bits
fitting_again most bits fits = rw (le-leb bits most fits) refl

task_line_is : (most : ℕ) → most ≤ 16 → is_line (agree_line most) ≡ true
task_line_is most few = number_line_is (codes "task agree ") most refl (omega (arith, few))

-- neither a crash line nor the line `protocol` is one of a task
no_task : (version : Version) (line : List ℕ) → value_after (codes "task ") line ≡ None → task_words version line ≡ None
no_task One line none = refl
no_task Two line none = none

task_none : (version : Version) (m : ℕ) (fuses : List (ℕ × ℕ)) (more : List (List ℕ)) → m ≤ 8 → list_all (λ fuse. nat_lt fuse.0 m) fuses ≡ true → list_all (λ fuse. is_value fuse.1) fuses ≡ true
    → task_words version (first_line (text_of ((map crash_line fuses ++ codes "protocol" ∷ []) ++ more))) ≡ None
task_none version m [] more few below values = no_task version (first_line (text_of (codes "protocol" ∷ more))) (ap (value_after (codes "task ")) (first_line-text_of (codes "protocol") more refl))
task_none version m (fuse ∷ fuses) more few below values =
    let under = and_parts (nat_lt fuse.0 m) (list_all (λ f. nat_lt f.0 m) fuses) below in
    let each = and_parts (is_value fuse.1) (list_all (λ f. is_value f.1) fuses) values in
    no_task version (first_line (text_of (crash_line fuse ∷ ((map crash_line fuses ++ codes "protocol" ∷ []) ++ more)))) (ap (value_after (codes "task ")) (first_line-text_of (crash_line fuse) ((map crash_line fuses ++ codes "protocol" ∷ []) ++ more) (crash_line_is fuse m few under.0 each.0)))

abbrev read_task : Option ℕ → List ℕ → Result (Option ℕ × List ℕ) SpecFault
read_task task rest = Ok (task, rest)

task_text : (version : Version) (task : Option ℕ) (m : ℕ) (fuses : List (ℕ × ℕ)) (more : List (List ℕ)) → IsTaskIn version task → m ≤ 8 → list_all (λ fuse. nat_lt fuse.0 m) fuses ≡ true → list_all (λ fuse. is_value fuse.1) fuses ≡ true
    → task_line version (text_of ((task_lines task ++ (map crash_line fuses ++ codes "protocol" ∷ [])) ++ more)) ≡ Ok (task, text_of ((map crash_line fuses ++ codes "protocol" ∷ []) ++ more))
task_text version None m fuses more may few below values = ap (task_in (text_of ((map crash_line fuses ++ codes "protocol" ∷ []) ++ more))) (task_none version m fuses more few below values)
task_text One (Some most) m fuses more may few below values = absurd may
task_text Two (Some most) m fuses more may few below values =
    let behind = (map crash_line fuses ++ codes "protocol" ∷ []) ++ more in
    let is = task_line_is most may.1 in
    ap (task_in (text_of (agree_line most ∷ behind))) (ap (value_after (codes "task ")) (first_line-text_of (agree_line most) behind is) ∙ task_begins most)
    ∙ ap (λ (r : Result ℕ SpecFault). r >>= λ read. Ok (Some read, later_lines (text_of (agree_line most ∷ behind)))) (task_again most may.0 may.1)
    ∙ ap (read_task (Some most)) (later_lines-text_of (agree_line most) behind is)

inputs_are : (values : List ℕ) → (1 ≤ length values) × (length values ≤ 16) → list_all is_value values ≡ true → are_inputs values ≡ true
inputs_are values range all = and_from _ (list_all is_value values) (and_from (nat_le 1 (length values)) (nat_le (length values) 16) (le-leb 1 (length values) range.0) (le-leb (length values) 16 range.1)) all

-- the lines of a room from that of the rounds on
pub rounds_again : (room : RoomSpec) (more : List (List ℕ)) → IsWithinLimits room → list_all (λ fuse. is_value fuse.1) room.fuses ≡ true → reading (text_of more) ≡ Ok room.protocol → from_rounds room.version room.name room.inputs room.own room.simulators (text_of (rounds_on room ++ more)) ≡ Ok room
rounds_again room more limits fuses protocol =
    steps_from_rounds room (text_of (rounds_on room ++ more)) (text_of (turns_on room ++ more)) (text_of (task_on room ++ more)) (text_of (fuses_on room ++ more)) (text_of more)
    (number_text 5 (codes "rounds ") 15 Rounds room.rounds (turns_on room ++ more) refl (omega arith) limits.shape.rounds_range)
    (fitting_again (most_bits room.version) (room.simulators * length room.inputs * bits_of room.rounds) limits.width)
    (number_text 6 (codes "turns ") 65535 Turns room.turns (task_on room ++ more) refl (omega arith) limits.turns)
    (task_text room.version room.task room.simulators room.fuses more limits.task limits.shape.m_range.1 limits.fuses.below fuses)
    (fuses_text (line_behind_task room.task) room.simulators room.fuses more limits.shape.m_range.1 limits.fuses fuses)
    protocol

pub room_again : (room : RoomSpec) (more : List (List ℕ)) → IsWithinLimits room → room.own ≡ [] → list_all (λ fuse. is_value fuse.1) room.fuses ≡ true → reading (text_of more) ≡ Ok room.protocol → room_in (text_of (head_lines room ++ more)) ≡ Ok room
room_again room more limits ordinary fuses protocol =
    steps room (text_of (head_lines room ++ more)) (text_of (name_on room ++ more)) (text_of (inputs_on room ++ more)) (text_of (simulators_on room ++ more)) (text_of (rounds_on room ++ more))
    (version_again_text room.version (name_on room ++ more))
    (name_text room.name (inputs_on room ++ more) limits.name)
    (inputs_text room.inputs (simulators_on room ++ more) (inputs_are room.inputs limits.shape.n_range limits.values))
    (number_text 4 (codes "simulators ") 8 Simulators room.simulators (rounds_on room ++ more) refl (omega arith) limits.shape.m_range)
    ∙ ap (λ (own : List ℕ). from_rounds room.version room.name room.inputs own room.simulators (text_of (rounds_on room ++ more))) (sym ordinary)
    ∙ rounds_again room more limits fuses protocol

-- the limits of a room are those of its head
pub head_of : (room : RoomSpec) → IsWithinLimits room → list_all (λ fuse. is_value fuse.1) room.fuses ≡ true → IsHead room
head_of room limits values = record {
  name = limits.name;
  inputs = inputs_are room.inputs limits.shape.n_range limits.values;
  simulators = limits.shape.m_range;
  rounds = limits.shape.rounds_range;
  turns = limits.turns;
  task = limits.task;
  fuses = limits.fuses;
  values = values;
  own = limits.own;
}

steps_to_width : (room : RoomSpec) (a b c d e f : List ℕ) → version_line a ≡ Ok (room.version, b) → name_line b ≡ Ok (room.name, c) → inputs_line c ≡ Ok (room.inputs, d) → number_line 4 (codes "simulators ") 8 Simulators d ≡ Ok (room.simulators, e) → number_line 5 (codes "rounds ") 15 Rounds e ≡ Ok (room.rounds, f) → fitting (most_bits room.version) (room.simulators * length room.inputs * bits_of room.rounds) ≡ Err TooWide → room_in a ≡ Err TooWide
unfolding room_in
steps_to_width room a b c d e f ab bc cd de ef wide = rw (ab, bc, cd, de, ef, wide) refl

fitting_never : (most bits : ℕ) → most < bits → fitting most bits ≡ Err TooWide
fitting_never most bits wide = rw (lt-leb bits most wide) refl

pub room_too_wide : (room : RoomSpec) (more : List (List ℕ)) → IsHead room → most_bits room.version < width_of room room.rounds → room_in (text_of (head_lines room ++ more)) ≡ Err TooWide
room_too_wide room more head wide =
    steps_to_width room (text_of (head_lines room ++ more)) (text_of (name_on room ++ more)) (text_of (inputs_on room ++ more)) (text_of (simulators_on room ++ more)) (text_of (rounds_on room ++ more)) (text_of (turns_on room ++ more))
    (version_again_text room.version (name_on room ++ more))
    (name_text room.name (inputs_on room ++ more) head.name)
    (inputs_text room.inputs (simulators_on room ++ more) head.inputs)
    (number_text 4 (codes "simulators ") 8 Simulators room.simulators (rounds_on room ++ more) refl (omega arith) head.simulators)
    (number_text 5 (codes "rounds ") 15 Rounds room.rounds (turns_on room ++ more) refl (omega arith) head.rounds)
    (fitting_never (most_bits room.version) (width_of room room.rounds) wide)

-- the same from the line of the rounds on
pub rounds_too_wide : (room : RoomSpec) (more : List (List ℕ)) → IsHead room → most_bits room.version < width_of room room.rounds → from_rounds room.version room.name room.inputs room.own room.simulators (text_of (rounds_on room ++ more)) ≡ Err TooWide
rounds_too_wide room more head wide =
    rw (number_text 5 (codes "rounds ") 15 Rounds room.rounds (turns_on room ++ more) refl (omega arith) head.rounds, fitting_never (most_bits room.version) (width_of room room.rounds) wide) refl

inputs_no_end : (values : List ℕ) → is_end (join_with_byte 32 (codes "inputs" ∷ map decimal values)) ≡ false
inputs_no_end [] = refl
inputs_no_end (value ∷ values) = refl

fuses_no_end : (m : ℕ) (fuses : List (ℕ × ℕ)) (more : List (List ℕ)) → m ≤ 8 → list_all (λ fuse. nat_lt fuse.0 m) fuses ≡ true → list_all (λ fuse. is_value fuse.1) fuses ≡ true → are_before_end more ≡ true → are_before_end ((map crash_line fuses ++ codes "protocol" ∷ []) ++ more) ≡ true
fuses_no_end m [] more few below values all = line_before (codes "protocol") more refl refl all
fuses_no_end m (fuse ∷ fuses) more few below values all =
    let under = and_parts (nat_lt fuse.0 m) (list_all (λ f. nat_lt f.0 m) fuses) below in
    let each = and_parts (is_value fuse.1) (list_all (λ f. is_value f.1) fuses) values in
    line_before (crash_line fuse) ((map crash_line fuses ++ codes "protocol" ∷ []) ++ more) (crash_line_is fuse m few under.0 each.0) refl (fuses_no_end m fuses more few under.1 each.1 all)

version_no_end : (version : Version) → is_end (version_text version) ≡ false
version_no_end One = refl
version_no_end Two = refl

task_no_end : (version : Version) (task : Option ℕ) (lines : List (List ℕ)) → IsTaskIn version task → are_before_end lines ≡ true → are_before_end (task_lines task ++ lines) ≡ true
task_no_end version None lines may all = all
task_no_end One (Some most) lines may all = absurd may
task_no_end Two (Some most) lines may all = line_before (agree_line most) lines (task_line_is most may.1) refl all

-- the lines from that of the rounds on
pub rounds_no_end : (room : RoomSpec) (more : List (List ℕ)) → room.rounds ≤ 15 → room.turns ≤ 65535 → IsTaskIn room.version room.task → room.simulators ≤ 8 → AreFuses room.fuses room.simulators → list_all (λ fuse. is_value fuse.1) room.fuses ≡ true → are_before_end more ≡ true → are_before_end (rounds_on room ++ more) ≡ true
rounds_no_end room more rounds turns task few fuses values all =
    line_before (codes "rounds " ++ decimal room.rounds) (turns_on room ++ more) (number_line_is (codes "rounds ") room.rounds refl (omega (arith, rounds))) refl
    (line_before (codes "turns " ++ decimal room.turns) (task_on room ++ more) (number_line_is (codes "turns ") room.turns refl (omega (arith, turns))) refl
    (subst (λ (lines : List (List ℕ)). are_before_end lines ≡ true) (sym (append_assoc (task_lines room.task) (fuses_on room) more))
    (task_no_end room.version room.task (fuses_on room ++ more) task (fuses_no_end room.simulators room.fuses more few fuses.below values all))))

pub inputs_before : (values : List ℕ) (more : List (List ℕ)) → list_all is_value values ≡ true → are_before_end more ≡ true → are_before_end (values_line values ∷ more) ≡ true
inputs_before values more are all = line_before (values_line values) more (inputs_line_is (codes "inputs") values refl are) (inputs_no_end values) all

pub head_no_end : (room : RoomSpec) (more : List (List ℕ)) → IsHead room → are_before_end more ≡ true → are_before_end (head_lines room ++ more) ≡ true
head_no_end room more head all =
    line_before (version_text room.version) (name_on room ++ more) (version_line_is room.version) (version_no_end room.version)
    (line_before (codes "room " ++ room.name) (inputs_on room ++ more) (name_line_is room.name head.name) refl
    (inputs_before room.inputs (simulators_on room ++ more) (inputs_are_values room.inputs head.inputs)
    (line_before (codes "simulators " ++ decimal room.simulators) (rounds_on room ++ more) (number_line_is (codes "simulators ") room.simulators refl (omega (arith, head.simulators.1))) refl
    (rounds_no_end room more head.rounds.1 head.turns.1 head.task head.simulators.1 head.fuses head.values all))))

read_to_end : (reader : List ℕ → Result RoomSpec SpecFault) (text : List ℕ) (lines : List (List ℕ)) (later : Option (List ℕ)) (room : RoomSpec) (len : ℕ) → text ≡ text_of lines ++ (codes "end" ++ with_line_end later) → are_before_end lines ≡ true → reader (text_of lines) ≡ Ok room
    → min (length (text_of lines) + 4) (length text) ≡ len → before_end reader text (body_len text) ≡ Ok (room, len)
read_to_end reader text lines later room len whole no_end read len_is =
    let body : body_len text ≡ Some (length (text_of lines)) = ap body_len whole ∙ end_at lines later no_end in
    let bytes : take (length (text_of lines)) text ≡ text_of lines = ap (take (length (text_of lines))) whole ∙ take_at (text_of lines) (codes "end" ++ with_line_end later) (length (text_of lines)) refl in
    rw (body, bytes, read, len_is) refl

-- the lines of a head and of a protocol's text at the front of a text are read up to the line `end`
pub front_again : (reader : List ℕ → Result RoomSpec SpecFault) (text : List ℕ) (head more : List (List ℕ)) (room : RoomSpec) (len : ℕ) → IsInFront (text_of head ++ (text_of more ++ codes "end")) text len → are_before_end (head ++ more) ≡ true → reader (text_of (head ++ more)) ≡ Ok room → before_end reader text (body_len text) ≡ Ok (room, len)
front_again reader text head more room len bytes no_end read =
    let front = front_to (text_of head ++ (text_of more ++ codes "end")) text len bytes in
    let lines : text_of (head ++ more) ≡ text_of head ++ text_of more = flat_map-append (λ line. line ++ line_end) head more in
    let whole : text ≡ text_of (head ++ more) ++ (codes "end" ++ with_line_end front.0) = front.1 ∙ sym (regrouped (text_of head) (text_of more) (codes "end") (with_line_end front.0)) ∙ ap (λ (t : List ℕ). t ++ (codes "end" ++ with_line_end front.0)) (sym lines) in
    let len_is : min (length (text_of (head ++ more)) + 4) (length text) ≡ len = omega (arith, front.2, ap length lines, length-append (text_of head) (text_of more), length-append (text_of head) (text_of more ++ codes "end"), length-append (text_of more) (codes "end")) in
    read_to_end reader text (head ++ more) front.0 room len whole no_end read len_is

pub block_again : (text : List ℕ) (room : RoomSpec) (len : ℕ) → IsBlock text room len → block_in text ≡ Ok (room, len)
block_again text room len block =
    front_again room_in text (head_lines room) block.lines room len block.bytes (head_no_end room block.lines (head_of room block.limits block.fuses) block.no_end) (room_again room block.lines block.limits block.ordinary block.fuses (only (text_of block.lines) room.protocol block.protocol))
