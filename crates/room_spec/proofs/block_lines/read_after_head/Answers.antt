use Rattle.std.proofs.Common.{◌≡◌, ℕ, ◌*◌, ◌≤◌, true, List, length, Option, Result, inl, Ok, Err, ◌∙◌, sym, arith, refl, rules}
use Rattle.std.specs.Prelude.{codes}
use Rattle.std.proofs.lemmas.Bool.{le-leb}
use Rattle.std.proofs.lemmas.Result.{err_from_is_err_and}
use Rattle.protocol_lang.specs.declared.protocol.Protocol.{Protocol}
use Rattle.protocol_lang.specs.Reading.{MayLackMemory, reading}
use Rattle.room_spec.specs.Rooms.{RoomSpec, IsShape, bits_of, has_own, most_bits}
use Rattle.room_spec.specs.Shapes.{head_of}
use Rattle.protocol_lang.specs.Results.{◌>>=◌}
use Rattle.room_spec.specs.Blocks.{Head, MayLackBy, OrMemory, are_inputs, number_line, fitting, task_line, line_behind_task, fuse_lines, protocol_of, rounds_read, rounds_text}
use Rattle.room_spec.specs.declared.version.Version.{Version}
use Rattle.room_spec.specs.declared.fault.SpecFault.{SpecFault}
use Rattle.room_spec.specs.declared.fault.SpecFault.TheVariants.{Rounds, Turns}
use Rattle.std.specs.Arc.{arc_value}
use Rattle.room_spec.proofs.Heads.{inputs_are_values}
use Rattle.room_spec.proofs.Readings.{inputs_range, most_bits_few}
use Rattle.room_spec.proofs.Memory.{kept_small, refused_on}
use Rattle.room_spec.proofs.block_lines.read_after_head.Goals as goal

-- what reading makes of the lines after `rounds`
abbrev behind : (head : Head) (rounds : ℕ × List ℕ) → Result RoomSpec SpecFault
behind head rounds =
    number_line 6 (codes "turns ") 65535 Turns rounds.1
    >>= λ turns. task_line head.version turns.1
    >>= λ task. fuse_lines (line_behind_task task.0) head.simulators task.1
    >>= λ fuses. protocol_of (reading fuses.1)
    >>= λ protocol. Ok (record { version = head.version; name = head.name; inputs = head.inputs; own = head.own; simulators = head.simulators; rounds = rounds.0; turns = turns.0; task = task.0; fuses = fuses.0; protocol = protocol })

fits_in : (most bits : ℕ) → bits ≤ most → fitting most bits ≡ Ok bits
fits_in most bits few = rw (le-leb bits most few) refl

-- the protocol's text, where the lines before it have no fault
text_is : (head : Head) (text : List ℕ) (rounds turns : ℕ × List ℕ) (task : Option ℕ × List ℕ) (fuses : List (ℕ × ℕ) × List ℕ) → number_line 5 (codes "rounds ") 15 Rounds text ≡ Ok rounds → head.simulators * length head.inputs * bits_of rounds.0 ≤ most_bits head.version
    → number_line 6 (codes "turns ") 65535 Turns rounds.1 ≡ Ok turns → task_line head.version turns.1 ≡ Ok task → fuse_lines (line_behind_task task.0) head.simulators task.1 ≡ Ok fuses → rounds_text head text ≡ Ok fuses.1
unfolding rounds_text
text_is head text rounds turns task fuses r fits t a f = rw (r, fits_in _ _ fits, t, a, f) refl

front_is : (head : Head) (text : List ℕ) (rounds : ℕ × List ℕ) → number_line 5 (codes "rounds ") 15 Rounds text ≡ Ok rounds → head.simulators * length head.inputs * bits_of rounds.0 ≤ most_bits head.version → rounds_read head text ≡ behind head rounds
unfolding rounds_read
front_is head text rounds r fits = rw (r, fits_in _ _ fits) refl

room_is : (head : Head) (rounds turns : ℕ × List ℕ) (task : Option ℕ × List ℕ) (fuses : List (ℕ × ℕ) × List ℕ) (protocol : Protocol) → number_line 6 (codes "turns ") 65535 Turns rounds.1 ≡ Ok turns → task_line head.version turns.1 ≡ Ok task → fuse_lines (line_behind_task task.0) head.simulators task.1 ≡ Ok fuses → protocol_of (reading fuses.1) ≡ Ok protocol
    → Ok (record { version = head.version; name = head.name; inputs = head.inputs; own = head.own; simulators = head.simulators; rounds = rounds.0; turns = turns.0; task = task.0; fuses = fuses.0; protocol = protocol }) ≡ behind head rounds
room_is head rounds turns task fuses protocol t a f p = rw (t, a, f, p) refl

refused_in : (lacks : Type 0) (head : Head) (rounds turns : ℕ × List ℕ) (task : Option ℕ × List ℕ) (fuses : List (ℕ × ℕ) × List ℕ) (fault : SpecFault) → number_line 6 (codes "turns ") 65535 Turns rounds.1 ≡ Ok turns → task_line head.version turns.1 ≡ Ok task → fuse_lines (line_behind_task task.0) head.simulators task.1 ≡ Ok fuses → (MayLackMemory fuses.1 → lacks) → OrMemory {A = Protocol} (MayLackMemory fuses.1) (Err fault) (protocol_of (reading fuses.1))
    → OrMemory {A = RoomSpec} lacks (Err fault) (behind head rounds)
refused_in lacks head rounds turns task fuses fault t a f more refused =
    rw (t, a, f) (refused_on (MayLackMemory fuses.1) lacks fault (protocol_of (reading fuses.1)) (λ protocol. record { version = head.version; name = head.name; inputs = head.inputs; own = head.own; simulators = head.simulators; rounds = rounds.0; turns = turns.0; task = task.0; fuses = fuses.0; protocol = protocol }) more refused)

shape_is : (version : Version) (inputs : List ℕ) (m rounds : ℕ) → are_inputs inputs ≡ true → (1 ≤ m) × (m ≤ 8) → (1 ≤ rounds) × (rounds ≤ 15) → m * length inputs * bits_of rounds ≤ most_bits version → IsShape (length inputs) m (bits_of rounds) rounds
shape_is version inputs m rounds are m_range rounds_range fits = record { n_range = inputs_range inputs are; m_range = m_range; rounds_range = rounds_range; width = refl; memory = most_bits_few version (m * length inputs * bits_of rounds) fits }

pub memory_words-words-requires : goal.memory_words-words-requires
memory_words-words-requires c =
    let fits = rw (c.from.ensures, c.len.ensures.value, c.bits.ensures, c.from-2.ensures, c.most_bits.ensures) at c.if-from-len.false in
    rw (c.from-3.ensures, c.len-2.ensures.value, c.from-4.ensures) (shape_is c.args.head.version c.args.head.inputs.items c.args.head.simulators c.in_ok-rounds.rounds c.requires.inputs c.requires.simulators c.in_ok-rounds.ensures.range fits)

pub invariant_of-result : goal.invariant_of-result
invariant_of-result c =
    let fits = rw (c.from.ensures, c.len.ensures.value, c.bits.ensures, c.from-2.ensures, c.most_bits.ensures) at c.if-from-len.false in (
      record {
        name = c.requires.name;
        shape = shape_is c.args.head.version c.args.head.inputs.items c.args.head.simulators c.in_ok-rounds.rounds c.requires.inputs c.requires.simulators c.in_ok-rounds.ensures.range fits;
        width = fits;
        turns = c.in_ok-turns.ensures.range;
        task = c.in_ok-task.ensures.range;
        fuses = c.in_ok-fuses.ensures.fuses;
        values = inputs_are_values c.args.head.inputs.items c.requires.inputs;
        own = c.requires.own;
        numerals = kept_small arc_value c.in_ok-fuses.text.now c.read.result c.in_ok-protocol.protocol c.read.ensures c.in_ok-protocol.was;
      },
      rw (c.from-3.ensures, c.len-2.ensures.value, c.from-4.ensures) at (c.memory_words-words.ensures (has_own c.args.head.own.items)),
    )

pub overflow_cast-result : goal.overflow_cast-result
overflow_cast-result c = omega (arith, c.requires.simulators)

pub overflow_cast-result-2 : goal.overflow_cast-result-2
overflow_cast-result-2 c = omega (arith, c.in_ok-rounds.ensures.range)

pub read_fuses-requires-clause-simulators : goal.read_fuses-requires-clause-simulators
read_fuses-requires-clause-simulators c = omega (arith, c.requires.simulators)

pub returns-in_err-turns : goal.returns-in_err-turns
returns-in_err-turns c =
    let fits = rw (c.from.ensures, c.len.ensures.value, c.bits.ensures, c.from-2.ensures, c.most_bits.ensures) at c.if-from-len.false in
    let front = front_is (head_of c.args.head) c.args.text.now (c.in_ok-rounds.rounds, c.in_ok-rounds.rest.now) c.in_ok-rounds.ensures.value fits in
    rw (front, c.in_err-turns.ensures.value) (inl (search rules))

pub returns-in_err-task : goal.returns-in_err-task
returns-in_err-task c =
    let fits = rw (c.from.ensures, c.len.ensures.value, c.bits.ensures, c.from-2.ensures, c.most_bits.ensures) at c.if-from-len.false in
    let front = front_is (head_of c.args.head) c.args.text.now (c.in_ok-rounds.rounds, c.in_ok-rounds.rest.now) c.in_ok-rounds.ensures.value fits in
    rw (front, c.in_ok-turns.ensures.value, c.in_err-task.ensures.value) (inl (search rules))

pub returns-in_err-fuses : goal.returns-in_err-fuses
returns-in_err-fuses c =
    let fits = rw (c.from.ensures, c.len.ensures.value, c.bits.ensures, c.from-2.ensures, c.most_bits.ensures) at c.if-from-len.false in
    let front = front_is (head_of c.args.head) c.args.text.now (c.in_ok-rounds.rounds, c.in_ok-rounds.rest.now) c.in_ok-rounds.ensures.value fits in
    rw (front, c.in_ok-turns.ensures.value, c.in_ok-task.ensures.value, rw c.line_behind_task.ensures.value at c.in_err-fuses.ensures.value) (inl (search rules))

pub returns-in_err-protocol : goal.returns-in_err-protocol
returns-in_err-protocol c =
    let fits = rw (c.from.ensures, c.len.ensures.value, c.bits.ensures, c.from-2.ensures, c.most_bits.ensures) at c.if-from-len.false in
    let head = head_of c.args.head in
    let front = front_is head c.args.text.now (c.in_ok-rounds.rounds, c.in_ok-rounds.rest.now) c.in_ok-rounds.ensures.value fits in
    let exit = err_from_is_err_and c.from_residual-in_err-protocol.result c.from_residual-in_err-protocol.ensures.1 in
    let same : exit.0 ≡ c.in_err-protocol.field-0.0 = cc in
    let text = text_is head c.args.text.now (c.in_ok-rounds.rounds, c.in_ok-rounds.rest.now) (c.in_ok-turns.turns, c.in_ok-turns.rest.now) (c.in_ok-task.task, c.in_ok-task.rest.now) (c.in_ok-fuses.fuses.items, c.in_ok-fuses.text.now) c.in_ok-rounds.ensures.value fits c.in_ok-turns.ensures.value c.in_ok-task.ensures.value (rw c.line_behind_task.ensures.value at c.in_ok-fuses.ensures.value) in
    rw (exit.1, same, front) (refused_in (MayLackBy (rounds_text head) c.args.text.now) head (c.in_ok-rounds.rounds, c.in_ok-rounds.rest.now) (c.in_ok-turns.turns, c.in_ok-turns.rest.now) (c.in_ok-task.task, c.in_ok-task.rest.now) (c.in_ok-fuses.fuses.items, c.in_ok-fuses.text.now) c.in_err-protocol.field-0.0 c.in_ok-turns.ensures.value c.in_ok-task.ensures.value (rw c.line_behind_task.ensures.value at c.in_ok-fuses.ensures.value) (λ lacks. record { text = c.in_ok-fuses.text.now; head = text; lacks = lacks }) (rw c.in_err-protocol.was at c.read.ensures))

pub returns : goal.returns
returns c =
    let fits = rw (c.from.ensures, c.len.ensures.value, c.bits.ensures, c.from-2.ensures, c.most_bits.ensures) at c.if-from-len.false in
    let front = front_is (head_of c.args.head) c.args.text.now (c.in_ok-rounds.rounds, c.in_ok-rounds.rest.now) c.in_ok-rounds.ensures.value fits in
    inl (room_is (head_of c.args.head) (c.in_ok-rounds.rounds, c.in_ok-rounds.rest.now) (c.in_ok-turns.turns, c.in_ok-turns.rest.now) (c.in_ok-task.task, c.in_ok-task.rest.now) (c.in_ok-fuses.fuses.items, c.in_ok-fuses.text.now) (arc_value c.in_ok-protocol.protocol) c.in_ok-turns.ensures.value c.in_ok-task.ensures.value (rw c.line_behind_task.ensures.value at c.in_ok-fuses.ensures.value) c.in_ok-protocol.ensures ∙ sym front)
