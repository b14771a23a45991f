-- A fault rests on the lines up to its own, and a protocol's fault on the protocol's text.
use Rattle.std.proofs.Common.{◌≡◌, ◌≢◌, ℕ, All, ◌+◌, ◌-◌, ◌*◌, ◌≤◌, ◌⊎◌, min, Bool, true, false, zero, suc, List, [], ◌∷◌, ◌++◌, length, take, drop, Option, Some, None, Result, Ok, Err, cond, refl, sym, ap, ◌∙◌, subst, arith, inl, inr}
use Rattle.std.specs.Prelude.{codes, nat_le, nat_lt, ◌&&◌, IfSome, IfErr, replicate, slice_index}
use Rattle.std.specs.List.{position_or_len}
use Rattle.std.specs.Option.{option_and_then}
use Rattle.std.specs.Str.{bytes_eq}
use Rattle.std.proofs.lemmas.Bool.{and_parts, cases_Bool, false≢true}
use Rattle.std.proofs.lemmas.List.{append_assoc, length-append, take_at}
use Rattle.std.proofs.lemmas.Option.{same_Some}
use Rattle.std.proofs.lemmas.Slice.Eq.{bytes_eq-Decides}
use Rattle.protocol_lang.specs.Numbers.{number_of}
use Rattle.protocol_lang.specs.Reading.{reading}
use Rattle.protocol_lang.specs.declared.protocol.Protocol.{Protocol}
use Rattle.protocol_lang.specs.declared.fault.ParseFault.{ParseFault}
use Rattle.room_spec.specs.Rooms.{RoomSpec, bits_of, is_value, most_bits}
use Rattle.room_spec.specs.declared.version.Version.{Version}
use Rattle.room_spec.specs.declared.version.Version.TheVariants.{One, Two}
use Rattle.room_spec.specs.Names.{is_name}
use Rattle.room_spec.specs.Texts.{is_line_end, first_line, later_lines, lines_of, fields_of, pieces_of}
use Rattle.protocol_lang.specs.Results.{◌>>=◌}
use Rattle.room_spec.specs.Blocks.{is_end, body_len, value_after, version_of, named, inputs_of, are_values, up_to_values, in_range, reduction_of, up_to, fitting, agreed, task_of, task_words, task_in, line_behind_task, is_protocol, fuse_in, of_simulator, has_fuse, unrepeated, line_behind, said, said_next, onward, fuses_from, protocol_of, room_in, reduction_in, before_end}
use Rattle.room_spec.specs.Grammar.{is_line, text_of, behind_protocol, are_before_end, EndsAt, line_of, IsLocalTo, IsOfText}
use Rattle.room_spec.specs.declared.fault.SpecFault.{SpecFault}
use Rattle.room_spec.specs.declared.fault.SpecFault.TheVariants.{Truncated, BadLine, BadName, BadProtocol, Inputs, Simulators, Rounds, Turns, TooWide, CrashLine, Repeated, TaskLine, Processes}
use Rattle.room_spec.proofs.Lines.{are_lines, first_line-text_of, later_lines-text_of}
use Rattle.room_spec.proofs.Ends.{with_line_end, front_to, lines_to_end, end_at, before_line, block_ends, block_nowhere, are_lines-before_end}
use Rattle.room_spec.proofs.Fuses.{tells_protocol}
use Rattle.room_spec.proofs.Readings.{from_text, from_fuses, from_task, from_turns, from_rounds, from_simulators, from_inputs, from_name, from_processes, from_own, from_reduction_name}

-- ---- steps that may fail

pub err_cases : {A B : Type 0} (r : Result A SpecFault) (next : A → Result B SpecFault) (fault : SpecFault) → (r >>= next) ≡ Err fault → (r ≡ Err fault) ⊎ ((x : A) × (r ≡ Ok x) × (next x ≡ Err fault))
err_cases (Ok x) next fault e = inr (x, refl, e)
err_cases (Err own) next fault e = inl (let same : own ≡ fault = cc in ap Err same)

err_goes : {A : Type 0} (r : Result A SpecFault) (next : A → Result RoomSpec SpecFault) (fault : SpecFault) → r ≡ Err fault → (r >>= next) ≡ Err fault
err_goes r next fault e = rw e refl

ok_goes : {A : Type 0} (r : Result A SpecFault) (next : A → Result RoomSpec SpecFault) (x : A) (fault : SpecFault) → r ≡ Ok x → next x ≡ Err fault → (r >>= next) ≡ Err fault
ok_goes r next x fault e h = rw e h

-- ---- texts whose first lines are the same

abbrev pub Agree : ℕ → List ℕ → List ℕ → Type 0
Agree zero text other = Unit {0}
Agree (suc n) text other = (first_line text ≡ first_line other) × Agree n (later_lines text) (later_lines other)

agree_same : (n : ℕ) (text : List ℕ) → Agree n text text
agree_same zero text = tt
agree_same (suc n) text = (refl, agree_same n (later_lines text))

-- what is read from the line `line` on rests on the lines up to the fault's own, and the protocol's text is that of the lines `behind`
pub record IsLocalFrom (line : ℕ) (behind : List (List ℕ) → List (List ℕ)) (read : List ℕ → Result RoomSpec SpecFault) : Type 0 where
  pub own : (text : List ℕ) (fault : SpecFault) (n : ℕ) → read text ≡ Err fault → line_of fault ≡ Some n → (line ≤ n) × ((other : List ℕ) → Agree (suc n - line) text other → read other ≡ Err fault)
  pub protocol : (lines : List (List ℕ)) (fault : ParseFault) → are_lines lines ≡ true → read (text_of lines) ≡ Err (BadProtocol fault) → reading (text_of (behind lines)) ≡ Err fault
  pub ends : (text : List ℕ) → read text ≡ Err Truncated → ⊥

same_reader : (line : ℕ) (behind : List (List ℕ) → List (List ℕ)) (read same : List ℕ → Result RoomSpec SpecFault) → ((text : List ℕ) → read text ≡ same text) → IsLocalFrom line behind same → IsLocalFrom line behind read
same_reader line behind read same is local = record {
  own = λ text fault n e h. (let so = local.own text fault n (sym (is text) ∙ e) h in (so.0, λ other agree. is other ∙ so.1 other agree));
  protocol = λ lines fault all e. local.protocol lines fault all (sym (is (text_of lines)) ∙ e);
  ends = λ text e. local.ends text (sym (is text) ∙ e);
}

-- one line is judged, and what is behind it is read
abbrev pub by_line : {A : Type 0} → (List ℕ → Result A SpecFault) → (A → List ℕ → Result RoomSpec SpecFault) → List ℕ → Result RoomSpec SpecFault
by_line judge next text = judge (first_line text) >>= λ x. next x (later_lines text)

-- what is read behind a line that says x, and which of the lines behind it are the protocol's
abbrev Later : {A : Type 0} → ℕ → (List (List ℕ) → List (List ℕ)) → (List ℕ → Result A SpecFault) → (A → List ℕ → Result RoomSpec SpecFault) → A → Type 0
Later line behind judge next x =
    (own : List (List ℕ) → List (List ℕ)) × IsLocalFrom (suc line) own (next x) × ((bytes : List ℕ) (lines : List (List ℕ)) → judge bytes ≡ Ok x → behind (bytes ∷ lines) ≡ own lines) × (behind [] ≡ own [])

line_own : {A : Type 0} (line : ℕ) (behind : List (List ℕ) → List (List ℕ)) (judge : List ℕ → Result A SpecFault) (next : A → List ℕ → Result RoomSpec SpecFault) → ((bytes : List ℕ) (fault : SpecFault) → judge bytes ≡ Err fault → line_of fault ≡ Some line) → ((x : A) → Later line behind judge next x) → (text : List ℕ) (fault : SpecFault) (n : ℕ) → by_line judge next text ≡ Err fault → line_of fault ≡ Some n → (line ≤ n) × ((other : List ℕ) → Agree (suc n - line) text other → by_line judge next other ≡ Err fault)
line_own {A} line behind judge next judged later text fault n e h =
    elim (err_cases (judge (first_line text)) (λ x. next x (later_lines text)) fault e) [
      | inl here ↦
          let at : line ≡ n = same_Some line n (sym (judged (first_line text) fault here) ∙ h) in (
            omega arith,
            λ other agree.
                let count : suc n - line ≡ suc (n - line) = omega arith in
                let both = subst (λ (m : ℕ). Agree m text other) count agree in
                err_goes (judge (first_line other)) (λ x. next x (later_lines other)) fault (ap judge (sym both.0) ∙ here),
          )
      | inr (x, judged_ok, there) ↦
          let so = (later x).1.own (later_lines text) fault n there h in (
            omega (arith, so.0),
            λ other agree.
                let count : suc n - line ≡ suc (suc n - suc line) = omega (arith, so.0) in
                let both = subst (λ (m : ℕ). Agree m text other) count agree in
                ok_goes (judge (first_line other)) (λ y. next y (later_lines other)) x fault (ap judge (sym both.0) ∙ judged_ok) (so.1 (later_lines other) both.1),
          )
    ]

line_protocol : {A : Type 0} (line : ℕ) (behind : List (List ℕ) → List (List ℕ)) (judge : List ℕ → Result A SpecFault) (next : A → List ℕ → Result RoomSpec SpecFault) → ((bytes : List ℕ) (fault : SpecFault) → judge bytes ≡ Err fault → line_of fault ≡ Some line) → ((x : A) → Later line behind judge next x) → (lines : List (List ℕ)) (fault : ParseFault) → are_lines lines ≡ true → by_line judge next (text_of lines) ≡ Err (BadProtocol fault) → reading (text_of (behind lines)) ≡ Err fault
line_protocol line behind judge next judged later [] fault all e =
    elim (err_cases (judge (first_line [])) (λ x. next x (later_lines [])) (BadProtocol fault) e) [
      | inl here ↦ absurd (let none : None ≡ Some line = judged (first_line []) (BadProtocol fault) here in cc)
      | inr (x, judged_ok, there) ↦ ap (λ (l : List (List ℕ)). reading (text_of l)) (later x).3 ∙ (later x).1.protocol [] fault refl there
    ]
line_protocol line behind judge next judged later (top ∷ lines) fault all e =
    let parts = and_parts (is_line top) (are_lines lines) all in
    elim (err_cases (judge (first_line (text_of (top ∷ lines)))) (λ x. next x (later_lines (text_of (top ∷ lines)))) (BadProtocol fault) e) [
      | inl here ↦ absurd (let none : None ≡ Some line = judged (first_line (text_of (top ∷ lines))) (BadProtocol fault) here in cc)
      | inr (x, judged_ok, there) ↦
          ap (λ (l : List (List ℕ)). reading (text_of l)) ((later x).2 top lines (ap judge (sym (first_line-text_of top lines parts.0)) ∙ judged_ok))
          ∙ (later x).1.protocol lines fault parts.1 (ap (next x) (sym (later_lines-text_of top lines parts.0)) ∙ there)
    ]

line_ends : {A : Type 0} (line : ℕ) (behind : List (List ℕ) → List (List ℕ)) (judge : List ℕ → Result A SpecFault) (next : A → List ℕ → Result RoomSpec SpecFault) → ((bytes : List ℕ) (fault : SpecFault) → judge bytes ≡ Err fault → line_of fault ≡ Some line) → ((x : A) → Later line behind judge next x) → (text : List ℕ) → by_line judge next text ≡ Err Truncated → ⊥
line_ends line behind judge next judged later text e =
    elim (err_cases (judge (first_line text)) (λ x. next x (later_lines text)) Truncated e) [
      | inl here ↦ absurd (let none : None ≡ Some line = judged (first_line text) Truncated here in cc)
      | inr (x, judged_ok, there) ↦ (later x).1.ends (later_lines text) there
    ]

judged_local : {A : Type 0} (line : ℕ) (behind : List (List ℕ) → List (List ℕ)) (judge : List ℕ → Result A SpecFault) (next : A → List ℕ → Result RoomSpec SpecFault) → ((bytes : List ℕ) (fault : SpecFault) → judge bytes ≡ Err fault → line_of fault ≡ Some line) → ((x : A) → Later line behind judge next x) → IsLocalFrom line behind (by_line judge next)
judged_local line behind judge next judged later = record {
  own = line_own line behind judge next judged later;
  protocol = line_protocol line behind judge next judged later;
  ends = line_ends line behind judge next judged later;
}

-- ---- the lines behind the line `protocol`

behind_itself : (line : List ℕ) (lines : List (List ℕ)) → is_protocol line ≡ true → behind_protocol (line ∷ lines) ≡ lines
behind_itself line lines is = rw is refl

drop_one : (line : List ℕ) (lines : List (List ℕ)) (n : ℕ) → drop (1 + n + 1) (line ∷ lines) ≡ drop (n + 1) lines
drop_one line lines n = let count : 1 + n + 1 ≡ suc (n + 1) = omega arith in ap (λ (k : ℕ). drop k (line ∷ lines)) count

behind_other : (line : List ℕ) (lines : List (List ℕ)) → is_protocol line ≡ false → behind_protocol (line ∷ lines) ≡ behind_protocol lines
behind_other line lines is = rw is (drop_one line lines (position_or_len is_protocol lines))

other_line : {A : Type 0} (judge : List ℕ → Result A SpecFault) (bytes : List ℕ) (x : A) (said : SpecFault) → judge (codes "protocol") ≡ Err said → judge bytes ≡ Ok x → is_protocol bytes ≡ false
other_line judge bytes x said refused is =
    elim (cases_Bool (is_protocol bytes)) [
      | inl same ↦ absurd (let e : judge bytes ≡ Err said = ap judge ((bytes_eq-Decides bytes (codes "protocol")).0 same) ∙ refused in cc)
      | inr other ↦ other
    ]

-- a line of another form
line_local : {A : Type 0} (line : ℕ) (said : SpecFault) (judge : List ℕ → Result A SpecFault) (next : A → List ℕ → Result RoomSpec SpecFault) → judge (codes "protocol") ≡ Err said → ((bytes : List ℕ) (fault : SpecFault) → judge bytes ≡ Err fault → line_of fault ≡ Some line) → ((x : A) → IsLocalFrom (suc line) behind_protocol (next x)) → IsLocalFrom line behind_protocol (by_line judge next)
line_local line said judge next refused judged later =
    judged_local line behind_protocol judge next judged (λ x. (behind_protocol, later x, λ bytes lines is. behind_other bytes lines (other_line judge bytes x said refused is), refl))

-- ---- the judgements of lines

pub version_refusal : (line : List ℕ) (fault : SpecFault) → version_of line ≡ Err fault → BadLine 1 ≡ fault
version_refusal line fault e = by_one (bytes_eq line (codes "bgsim 1")) e
  where
    by_two : (b : Bool) → cond b (Ok Two) (Err (BadLine 1)) ≡ Err fault → BadLine 1 ≡ fault
    by_two true two = absurd cc
    by_two false two = cc

    by_one : (b : Bool) → cond b (Ok One) (cond (bytes_eq line (codes "bgsim 2")) (Ok Two) (Err (BadLine 1))) ≡ Err fault → BadLine 1 ≡ fault
    by_one true one = absurd cc
    by_one false other = by_two (bytes_eq line (codes "bgsim 2")) other

version_fault : (line : List ℕ) (fault : SpecFault) → version_of line ≡ Err fault → line_of fault ≡ Some 1
version_fault line fault e = ap line_of (sym (version_refusal line fault e))

test_fault : {A : Type 0} (line : ℕ) (is : Bool) (x : A) (said fault : SpecFault) → line_of said ≡ Some line → cond is (Ok x) (Err said) ≡ Err fault → line_of fault ≡ Some line
test_fault line true x said fault of e = absurd cc
test_fault line false x said fault of e = let own : said ≡ fault = cc in ap line_of (sym own) ∙ of

name_fault : (value : Option (List ℕ)) (fault : SpecFault) → named value ≡ Err fault → line_of fault ≡ Some 2
name_fault None fault e = let own : BadLine 2 ≡ fault = cc in ap line_of (sym own)
name_fault (Some name) fault e = test_fault 2 (is_name name) name BadName fault refl e

inputs_fault : (most : ℕ) (values : Option (List ℕ)) (fault : SpecFault) → up_to_values most values ≡ Err fault → line_of fault ≡ Some 3
inputs_fault most None fault e = let own : BadLine 3 ≡ fault = cc in ap line_of (sym own)
inputs_fault most (Some values) fault e = test_fault 3 (are_values most values) values Inputs fault refl e

number_fault : (most : ℕ) (said : SpecFault) (line : ℕ) (found : Option ℕ) (fault : SpecFault) → line_of said ≡ Some line → up_to most said line found ≡ Err fault → line_of fault ≡ Some line
number_fault most said line None fault of e = let own : BadLine line ≡ fault = cc in ap line_of (sym own)
number_fault most said line (Some number) fault of e = test_fault line (nat_le 1 number && nat_le number most) number said fault of e

abbrev pub number_judge : ℕ → List ℕ → ℕ → SpecFault → List ℕ → Result ℕ SpecFault
number_judge line word most fault bytes = up_to most fault line (option_and_then number_of (value_after word bytes))

abbrev pub fitting_judge : ℕ → (ℕ → ℕ) → Result ℕ SpecFault → Result ℕ SpecFault
fitting_judge most width rounds = rounds >>= λ n. fitting most (width n) >>= λ bits. Ok n

fitting_no : (n bits : ℕ) (fits : Bool) (fault : SpecFault) → (cond fits (Ok bits) (Err TooWide) >>= λ b. Ok n) ≡ Err fault → line_of fault ≡ Some 5
fitting_no n bits true fault e = absurd cc
fitting_no n bits false fault e = let same : TooWide ≡ fault = cc in ap line_of (sym same)

fitting_fault : (most : ℕ) (width : ℕ → ℕ) (rounds : Result ℕ SpecFault) (fault : SpecFault) → ((own : SpecFault) → rounds ≡ Err own → line_of own ≡ Some 5) → fitting_judge most width rounds ≡ Err fault → line_of fault ≡ Some 5
fitting_fault most width (Err own) fault of e = let same : own ≡ fault = cc in ap line_of (sym same) ∙ of own refl
fitting_fault most width (Ok n) fault of e = fitting_no n (width n) (nat_le (width n) most) fault e

-- ---- line by line

abbrev pub with_rest : {A : Type 0} → Result A SpecFault → List ℕ → Result (A × List ℕ) SpecFault
with_rest r rest = r >>= λ x. Ok (x, rest)

pub regroup : {A : Type 0} (r : Result A SpecFault) (rest : List ℕ) (next : A → List ℕ → Result RoomSpec SpecFault) → (with_rest r rest >>= λ y. next y.0 y.1) ≡ (r >>= λ x. next x rest)
regroup (Ok x) rest next = refl
regroup (Err fault) rest next = refl

regroup_fitting_at : (n bits : ℕ) (fits : Bool) (rest : List ℕ) (next : ℕ → List ℕ → Result RoomSpec SpecFault) → (cond fits (Ok bits) (Err TooWide) >>= λ b. next n rest) ≡ ((cond fits (Ok bits) (Err TooWide) >>= λ b. Ok n) >>= λ x. next x rest)
regroup_fitting_at n bits true rest next = refl
regroup_fitting_at n bits false rest next = refl

pub regroup_fitting : (most : ℕ) (width : ℕ → ℕ) (rounds : Result ℕ SpecFault) (rest : List ℕ) (next : ℕ → List ℕ → Result RoomSpec SpecFault) → (with_rest rounds rest >>= λ y. fitting most (width y.0) >>= λ bits. next y.0 y.1) ≡ (fitting_judge most width rounds >>= λ x. next x rest)
regroup_fitting most width (Ok n) rest next = regroup_fitting_at n (width n) (nat_le (width n) most) rest next
regroup_fitting most width (Err fault) rest next = refl

pub protocol_fault : (outcome : Result Protocol ParseFault) (next : Protocol → Result RoomSpec SpecFault) (fault : SpecFault) → ((protocol : Protocol) → next protocol ≡ Err fault → ⊥) → (protocol_of outcome >>= next) ≡ Err fault → (own : ParseFault) × (outcome ≡ Err own) × (BadProtocol own ≡ fault)
protocol_fault (Ok protocol) next fault never e = absurd (never protocol e)
protocol_fault (Err own) next fault never e = (own, refl, cc)

local_text : (line : ℕ) (version : Version) (name inputs own : List ℕ) (simulators rounds turns : ℕ) (task : Option ℕ) (fuses : List (ℕ × ℕ)) → IsLocalFrom line (λ lines. lines) (from_text version name inputs own simulators rounds turns task fuses)
local_text line version name inputs own simulators rounds turns task fuses = record {
  own = λ text fault n e h. absurd (let is = protocol_fault (reading text) _ fault (λ protocol same. absurd cc) e in let none : None ≡ Some n = ap line_of is.2 ∙ h in cc);
  protocol = λ lines fault all e. (let is = protocol_fault (reading (text_of lines)) _ (BadProtocol fault) (λ protocol same. absurd cc) e in let same : is.0 ≡ fault = cc in is.1 ∙ ap Err same);
  ends = λ text e. (let is = protocol_fault (reading text) _ Truncated (λ protocol same. absurd cc) e in let same : BadProtocol is.0 ≡ Truncated = is.2 in absurd cc);
}

-- the crash lines and the line `protocol`, one by one

abbrev pub on_from : ℕ → ℕ → ℕ → List (ℕ × ℕ) → (List (ℕ × ℕ) → List ℕ → Result RoomSpec SpecFault) → List ℕ → Result RoomSpec SpecFault
on_from most from m fuses next text = fuses_from most from m fuses text >>= λ read. next read.0 read.1

abbrev pub on_told : ℕ → ℕ → ℕ → List (ℕ × ℕ) → (List (ℕ × ℕ) → List ℕ → Result RoomSpec SpecFault) → Option (ℕ × ℕ) → List ℕ → Result RoomSpec SpecFault
on_told most from m fuses next None text = next fuses text
on_told most from m fuses next (Some fuse) text = on_from most from m (fuses ++ fuse ∷ []) next text

regroup_onward : (most from m : ℕ) (fuses : List (ℕ × ℕ)) (next : List (ℕ × ℕ) → List ℕ → Result RoomSpec SpecFault) (found : Result (Option (ℕ × ℕ)) SpecFault) (rest : List ℕ) → ((found >>= onward (fuses_from most from m) fuses rest) >>= λ read. next read.0 read.1) ≡ (found >>= λ x. on_told most from m fuses next x rest)
regroup_onward most from m fuses next (Err fault) rest = refl
regroup_onward most from m fuses next (Ok None) rest = refl
regroup_onward most from m fuses next (Ok (Some fuse)) rest = refl

pub regroup_fuses : (most from m : ℕ) (fuses : List (ℕ × ℕ)) (next : List (ℕ × ℕ) → List ℕ → Result RoomSpec SpecFault) (text : List ℕ) → on_from (suc most) from m fuses next text ≡ by_line (said_next from m fuses) (on_told most from m fuses next) text
unfolding fuses_from
regroup_fuses most from m fuses next text = regroup_onward most from m fuses next (said_next from m fuses (first_line text)) (later_lines text)

of_simulator_fault : (line m : ℕ) (found : Option (ℕ × ℕ)) (fault : SpecFault) → of_simulator line m found ≡ Err fault → line_of fault ≡ Some line
of_simulator_fault line m None fault e = let own : CrashLine line ≡ fault = cc in ap line_of (sym own)
of_simulator_fault line m (Some fuse) fault e = test_fault line (nat_lt fuse.0 m && is_value fuse.1) fuse (CrashLine line) fault refl e

unrepeated_fault : (line : ℕ) (has : Bool) (fuse : Option (ℕ × ℕ)) (fault : SpecFault) → cond has (Err (Repeated line)) (Ok fuse) ≡ Err fault → line_of fault ≡ Some line
unrepeated_fault line true fuse fault e = let own : Repeated line ≡ fault = cc in ap line_of (sym own)
unrepeated_fault line false fuse fault e = absurd cc

told_fault : (from m : ℕ) (fuses : List (ℕ × ℕ)) (line : List ℕ) (found : Option (List ℕ)) (fault : SpecFault) → said from m fuses line found ≡ Err fault → line_of fault ≡ Some (line_behind from fuses)
told_fault from m fuses line None fault e = test_fault {A = Option (ℕ × ℕ)} (line_behind from fuses) (is_protocol line) None (BadLine (line_behind from fuses)) fault refl e
told_fault from m fuses line (Some words) fault e =
    elim (err_cases (of_simulator (line_behind from fuses) m (fuse_in (fields_of words))) (unrepeated (line_behind from fuses) fuses) fault e) [
      | inl here ↦ of_simulator_fault (line_behind from fuses) m (fuse_in (fields_of words)) fault here
      | inr (fuse, found, there) ↦ unrepeated_fault (line_behind from fuses) (has_fuse fuses fuse.0) (Some fuse) fault there
    ]

crash_is_other : (from m : ℕ) (fuses : List (ℕ × ℕ)) (line : List ℕ) (fuse : ℕ × ℕ) → said_next from m fuses line ≡ Ok (Some fuse) → is_protocol line ≡ false
crash_is_other from m fuses line fuse is =
    elim (cases_Bool (is_protocol line)) [
      | inl same ↦ absurd (let e : said_next from m fuses (codes "protocol") ≡ Ok (Some fuse) = ap (said_next from m fuses) (sym ((bytes_eq-Decides line (codes "protocol")).0 same)) ∙ is in cc)
      | inr other ↦ other
    ]

protocol_is_itself : (from m : ℕ) (fuses : List (ℕ × ℕ)) (line : List ℕ) → said_next from m fuses line ≡ Ok None → is_protocol line ≡ true
protocol_is_itself from m fuses line is = (bytes_eq-Decides line (codes "protocol")).1 (tells_protocol from m fuses line is)

local_told : (most from m : ℕ) (fuses : List (ℕ × ℕ)) (next : List (ℕ × ℕ) → List ℕ → Result RoomSpec SpecFault) → IsLocalFrom (suc (line_behind from fuses)) (λ lines. lines) (next fuses) → ((fuse : ℕ × ℕ) → IsLocalFrom (suc (line_behind from fuses)) behind_protocol (on_from most from m (fuses ++ fuse ∷ []) next)) → (x : Option (ℕ × ℕ)) → Later (line_behind from fuses) behind_protocol (said_next from m fuses) (on_told most from m fuses next) x
local_told most from m fuses next text more None = (λ lines. lines, text, λ bytes lines is. behind_itself bytes lines (protocol_is_itself from m fuses bytes is), refl)
local_told most from m fuses next text more (Some fuse) = (behind_protocol, more fuse, λ bytes lines is. behind_other bytes lines (crash_is_other from m fuses bytes fuse is), refl)

no_line_local : (from : ℕ) (fuses : List (ℕ × ℕ)) (read : List ℕ → Result RoomSpec SpecFault) → ((text : List ℕ) → read text ≡ Err (BadLine (line_behind from fuses))) → IsLocalFrom (line_behind from fuses) behind_protocol read
no_line_local from fuses read is = record {
  own = λ text fault n e h. (let same : Err (BadLine (line_behind from fuses)) ≡ Err fault = sym (is text) ∙ e in let own : BadLine (line_behind from fuses) ≡ fault = cc in let at : line_behind from fuses ≡ n = same_Some _ _ (ap line_of own ∙ h) in (omega arith, λ other agree. is other ∙ ap Err own));
  protocol = λ lines fault all e. absurd (let same : Err (BadLine (line_behind from fuses)) ≡ Err (BadProtocol fault) = sym (is (text_of lines)) ∙ e in cc);
  ends = λ text e. (let same : Err (BadLine (line_behind from fuses)) ≡ Err Truncated = sym (is text) ∙ e in absurd cc);
}

longer_line : (from : ℕ) (fuses : List (ℕ × ℕ)) (fuse : ℕ × ℕ) → line_behind from (fuses ++ fuse ∷ []) ≡ suc (line_behind from fuses)
longer_line from fuses fuse = omega (arith, length-append fuses (fuse ∷ []))

local_fuses_from : (most from m : ℕ) (fuses : List (ℕ × ℕ)) (next : List (ℕ × ℕ) → List ℕ → Result RoomSpec SpecFault) → ((line : ℕ) (all : List (ℕ × ℕ)) → IsLocalFrom line (λ lines. lines) (next all)) → IsLocalFrom (line_behind from fuses) behind_protocol (on_from most from m fuses next)
unfolding fuses_from
local_fuses_from zero from m fuses next text = no_line_local from fuses (on_from zero from m fuses next) (λ t. refl)
local_fuses_from (suc most) from m fuses next text =
    same_reader (line_behind from fuses) behind_protocol (on_from (suc most) from m fuses next) (by_line (said_next from m fuses) (on_told most from m fuses next)) (regroup_fuses most from m fuses next)
    (judged_local (line_behind from fuses) behind_protocol (said_next from m fuses) (on_told most from m fuses next) (λ bytes. told_fault from m fuses bytes (value_after (codes "crash ") bytes))
    (local_told most from m fuses next (text (suc (line_behind from fuses)) fuses) (λ fuse. subst (λ (line : ℕ). IsLocalFrom line behind_protocol (on_from most from m (fuses ++ fuse ∷ []) next)) (longer_line from fuses fuse) (local_fuses_from most from m (fuses ++ fuse ∷ []) next text))))

local_fuses : (version : Version) (name inputs own : List ℕ) (simulators rounds turns : ℕ) (task : Option ℕ) → IsLocalFrom (line_behind_task task) behind_protocol (from_fuses version name inputs own simulators rounds turns task)
local_fuses version name inputs own simulators rounds turns task =
    subst (λ (line : ℕ). IsLocalFrom line behind_protocol (from_fuses version name inputs own simulators rounds turns task)) (let none : line_behind (line_behind_task task) [] ≡ line_behind_task task = omega arith in none)
    (local_fuses_from (suc simulators) (line_behind_task task) simulators [] (λ fuses. from_text version name inputs own simulators rounds turns task fuses) (λ line all. local_text line version name inputs own simulators rounds turns task all))

-- ---- the line behind the turns: a task, or what the first line behind the task would tell

abbrev pub seventh_by : ℕ → List ℕ → Option (List ℕ) → Result (ℕ ⊎ Option (ℕ × ℕ)) SpecFault
seventh_by m line None = said_next 7 m [] line >>= λ told. Ok (inr told)
seventh_by m line (Some words) = task_of words >>= λ most. Ok (inl most)

abbrev pub seventh : Version → ℕ → List ℕ → Result (ℕ ⊎ Option (ℕ × ℕ)) SpecFault
seventh version m line = seventh_by m line (task_words version line)

abbrev pub on_seventh : Version → List ℕ → List ℕ → List ℕ → ℕ → ℕ → ℕ → ℕ ⊎ Option (ℕ × ℕ) → List ℕ → Result RoomSpec SpecFault
on_seventh version name inputs own simulators rounds turns (inl most) text = from_fuses version name inputs own simulators rounds turns (Some most) text
on_seventh version name inputs own simulators rounds turns (inr told) text = on_told simulators 7 simulators [] (λ fuses. from_text version name inputs own simulators rounds turns None fuses) told text

regroup_told : (told : Result (Option (ℕ × ℕ)) SpecFault) (next : ℕ ⊎ Option (ℕ × ℕ) → Result RoomSpec SpecFault) → (told >>= λ x. next (inr x)) ≡ ((told >>= λ x. Ok (inr x)) >>= next)
regroup_told (Ok x) next = refl
regroup_told (Err fault) next = refl

regroup_agreed : (most : Result ℕ SpecFault) (rest : List ℕ) (next : Option ℕ → List ℕ → Result RoomSpec SpecFault) (on : ℕ ⊎ Option (ℕ × ℕ) → List ℕ → Result RoomSpec SpecFault) → ((x : ℕ) → next (Some x) rest ≡ on (inl x) rest) → (◌>>=◌ {A = ℕ} {B = Option ℕ × List ℕ} most (λ x. Ok (Some x, rest)) >>= λ y. next y.0 y.1) ≡ (◌>>=◌ {A = ℕ} {B = ℕ ⊎ Option (ℕ × ℕ)} most (λ x. Ok (inl x)) >>= λ x. on x rest)
regroup_agreed (Ok x) rest next on same = same x
regroup_agreed (Err fault) rest next on same = refl

regroup_seventh_by : (version : Version) (name inputs own : List ℕ) (simulators rounds turns : ℕ) (text : List ℕ) (words : Option (List ℕ)) → (task_in text words >>= λ task. from_fuses version name inputs own simulators rounds turns task.0 task.1) ≡ (seventh_by simulators (first_line text) words >>= λ x. on_seventh version name inputs own simulators rounds turns x (later_lines text))
regroup_seventh_by version name inputs own simulators rounds turns text None =
    regroup_fuses simulators 7 simulators [] (λ fuses. from_text version name inputs own simulators rounds turns None fuses) text
    ∙ regroup_told (said_next 7 simulators [] (first_line text)) (λ x. on_seventh version name inputs own simulators rounds turns x (later_lines text))
regroup_seventh_by version name inputs own simulators rounds turns text (Some words) =
    regroup_agreed (task_of words) (later_lines text) (λ task rest. from_fuses version name inputs own simulators rounds turns task rest) (λ x rest. on_seventh version name inputs own simulators rounds turns x rest) (λ x. refl)

pub regroup_seventh : (version : Version) (name inputs own : List ℕ) (simulators rounds turns : ℕ) (text : List ℕ) → from_task version name inputs own simulators rounds turns text ≡ by_line (seventh version simulators) (on_seventh version name inputs own simulators rounds turns) text
regroup_seventh version name inputs own simulators rounds turns text = regroup_seventh_by version name inputs own simulators rounds turns text (task_words version (first_line text))

agreed_fault : (found : Option ℕ) (fault : SpecFault) → agreed found ≡ Err fault → line_of fault ≡ Some 7
agreed_fault None fault e = let own : TaskLine 7 ≡ fault = cc in ap line_of (sym own)
agreed_fault (Some most) fault e = test_fault 7 (nat_le 1 most && nat_le most 16) most (TaskLine 7) fault refl e

seventh_fault : (m : ℕ) (line : List ℕ) (words : Option (List ℕ)) (fault : SpecFault) → seventh_by m line words ≡ Err fault → line_of fault ≡ Some 7
seventh_fault m line None fault e =
    elim (err_cases (said_next 7 m [] line) (λ told. Ok (inr told)) fault e) [
      | inl here ↦ told_fault 7 m [] line (value_after (codes "crash ") line) fault here
      | inr (told, is, there) ↦ absurd cc
    ]
seventh_fault m line (Some words) fault e =
    elim (err_cases (task_of words) (λ most. Ok (inl most)) fault e) [
      | inl here ↦ agreed_fault (option_and_then number_of (value_after (codes "agree ") words)) fault here
      | inr (most, is, there) ↦ absurd cc
    ]

pub told_of : (told : Result (Option (ℕ × ℕ)) SpecFault) (x : Option (ℕ × ℕ)) → ◌≡◌ {A = Result (ℕ ⊎ Option (ℕ × ℕ)) SpecFault} (told >>= λ y. Ok (inr y)) (Ok (inr x)) → told ≡ Ok x
told_of (Ok y) x e = let same : y ≡ x = cc in ap Ok same
told_of (Err fault) x e = absurd cc

pub never_task : (told : Result (Option (ℕ × ℕ)) SpecFault) (most : ℕ) → ◌≡◌ {A = Result (ℕ ⊎ Option (ℕ × ℕ)) SpecFault} (told >>= λ y. Ok (inr y)) (Ok (inl most)) → ⊥
never_task (Ok y) most e = absurd cc
never_task (Err fault) most e = absurd cc

pub never_told : (agrees : Result ℕ SpecFault) (x : Option (ℕ × ℕ)) → ◌≡◌ {A = Result (ℕ ⊎ Option (ℕ × ℕ)) SpecFault} (agrees >>= λ y. Ok (inl y)) (Ok (inr x)) → ⊥
never_told (Ok y) x e = absurd cc
never_told (Err fault) x e = absurd cc

pub seventh_told : (m : ℕ) (line : List ℕ) (words : Option (List ℕ)) (x : Option (ℕ × ℕ)) → seventh_by m line words ≡ Ok (inr x) → said_next 7 m [] line ≡ Ok x
seventh_told m line None x e = told_of (said_next 7 m [] line) x e
seventh_told m line (Some words) x e = absurd (never_told (task_of words) x e)

-- the line `protocol` is none of a task
seventh_protocol : (version : Version) (m most : ℕ) → seventh version m (codes "protocol") ≡ Ok (inl most) → ⊥
seventh_protocol One m most e = never_task (said_next 7 m [] (codes "protocol")) most e
seventh_protocol Two m most e = never_task (said_next 7 m [] (codes "protocol")) most e

task_is_other : (version : Version) (m most : ℕ) (line : List ℕ) → seventh version m line ≡ Ok (inl most) → is_protocol line ≡ false
task_is_other version m most line is =
    elim (cases_Bool (is_protocol line)) [
      | inl same ↦ absurd (seventh_protocol version m most (ap (seventh version m) (sym ((bytes_eq-Decides line (codes "protocol")).0 same)) ∙ is))
      | inr other ↦ other
    ]

later_seventh : (version : Version) (name inputs own : List ℕ) (simulators rounds turns : ℕ) (x : ℕ ⊎ Option (ℕ × ℕ)) → Later 7 behind_protocol (seventh version simulators) (on_seventh version name inputs own simulators rounds turns) x
later_seventh version name inputs own simulators rounds turns (inl most) = (behind_protocol, local_fuses version name inputs own simulators rounds turns (Some most), λ bytes lines is. behind_other bytes lines (task_is_other version simulators most bytes is), refl)
later_seventh version name inputs own simulators rounds turns (inr None) = (λ lines. lines, local_text 8 version name inputs own simulators rounds turns None [], λ bytes lines is. behind_itself bytes lines (protocol_is_itself 7 simulators [] bytes (seventh_told simulators bytes (task_words version bytes) None is)), refl)
later_seventh version name inputs own simulators rounds turns (inr (Some fuse)) = (
  behind_protocol,
  local_fuses_from simulators 7 simulators (fuse ∷ []) (λ fuses. from_text version name inputs own simulators rounds turns None fuses) (λ line all. local_text line version name inputs own simulators rounds turns None all),
  λ bytes lines is. behind_other bytes lines (crash_is_other 7 simulators [] bytes fuse (seventh_told simulators bytes (task_words version bytes) (Some fuse) is)),
  refl,
)

local_task : (version : Version) (name inputs own : List ℕ) (simulators rounds turns : ℕ) → IsLocalFrom 7 behind_protocol (from_task version name inputs own simulators rounds turns)
local_task version name inputs own simulators rounds turns =
    same_reader 7 behind_protocol (from_task version name inputs own simulators rounds turns) _ (regroup_seventh version name inputs own simulators rounds turns)
    (judged_local 7 behind_protocol (seventh version simulators) (on_seventh version name inputs own simulators rounds turns) (λ bytes. seventh_fault simulators bytes (task_words version bytes)) (later_seventh version name inputs own simulators rounds turns))

local_turns : (version : Version) (name inputs own : List ℕ) (simulators rounds : ℕ) → IsLocalFrom 6 behind_protocol (from_turns version name inputs own simulators rounds)
local_turns version name inputs own simulators rounds =
    same_reader 6 behind_protocol (from_turns version name inputs own simulators rounds) _ (λ text. regroup (number_judge 6 (codes "turns ") 65535 Turns (first_line text)) (later_lines text) (λ turns. from_task version name inputs own simulators rounds turns))
    (line_local 6 (BadLine 6) (number_judge 6 (codes "turns ") 65535 Turns) (λ turns. from_task version name inputs own simulators rounds turns) refl (λ bytes fault. number_fault 65535 Turns 6 (option_and_then number_of (value_after (codes "turns ") bytes)) fault refl) (λ turns. local_task version name inputs own simulators rounds turns))

local_rounds : (version : Version) (name inputs own : List ℕ) (simulators : ℕ) → IsLocalFrom 5 behind_protocol (from_rounds version name inputs own simulators)
local_rounds version name inputs own simulators =
    same_reader 5 behind_protocol (from_rounds version name inputs own simulators) _ (λ text. regroup_fitting (most_bits version) (λ n. simulators * length inputs * bits_of n) (number_judge 5 (codes "rounds ") 15 Rounds (first_line text)) (later_lines text) (λ rounds. from_turns version name inputs own simulators rounds))
    (line_local 5 (BadLine 5) (λ bytes. fitting_judge (most_bits version) (λ n. simulators * length inputs * bits_of n) (number_judge 5 (codes "rounds ") 15 Rounds bytes)) (λ rounds. from_turns version name inputs own simulators rounds) refl
    (λ bytes fault. fitting_fault (most_bits version) (λ n. simulators * length inputs * bits_of n) (number_judge 5 (codes "rounds ") 15 Rounds bytes) fault (λ own. number_fault 15 Rounds 5 (option_and_then number_of (value_after (codes "rounds ") bytes)) own refl)) (λ rounds. local_turns version name inputs own simulators rounds))

local_simulators : (version : Version) (name inputs : List ℕ) → IsLocalFrom 4 behind_protocol (from_simulators version name inputs)
local_simulators version name inputs =
    same_reader 4 behind_protocol (from_simulators version name inputs) _ (λ text. regroup (number_judge 4 (codes "simulators ") 8 Simulators (first_line text)) (later_lines text) (λ simulators. from_rounds version name inputs [] simulators))
    (line_local 4 (BadLine 4) (number_judge 4 (codes "simulators ") 8 Simulators) (λ simulators. from_rounds version name inputs [] simulators) refl (λ bytes fault. number_fault 8 Simulators 4 (option_and_then number_of (value_after (codes "simulators ") bytes)) fault refl) (λ simulators. local_rounds version name inputs [] simulators))

local_inputs : (version : Version) (name : List ℕ) → IsLocalFrom 3 behind_protocol (from_inputs version name)
local_inputs version name =
    same_reader 3 behind_protocol (from_inputs version name) _ (λ text. regroup (in_range (inputs_of (fields_of (first_line text)))) (later_lines text) (λ inputs. from_simulators version name inputs))
    (line_local 3 (BadLine 3) (λ bytes. in_range (inputs_of (fields_of bytes))) (λ inputs. from_simulators version name inputs) refl (λ bytes. inputs_fault 16 (inputs_of (fields_of bytes))) (λ inputs. local_simulators version name inputs))

local_name : (version : Version) → IsLocalFrom 2 behind_protocol (from_name version)
local_name version =
    same_reader 2 behind_protocol (from_name version) _ (λ text. regroup (named (value_after (codes "room ") (first_line text))) (later_lines text) (λ name. from_inputs version name))
    (line_local 2 (BadLine 2) (λ bytes. named (value_after (codes "room ") bytes)) (λ name. from_inputs version name) refl (λ bytes. name_fault (value_after (codes "room ") bytes)) (λ name. local_inputs version name))

pub local_room : IsLocalFrom 1 behind_protocol room_in
unfolding room_in
local_room =
    same_reader 1 behind_protocol room_in _ (λ text. regroup (version_of (first_line text)) (later_lines text) from_name)
    (line_local 1 (BadLine 1) version_of from_name refl version_fault local_name)

-- ---- a reduction

local_processes : (version : Version) (name own : List ℕ) → IsLocalFrom 4 behind_protocol (from_processes version name own)
local_processes version name own =
    same_reader 4 behind_protocol (from_processes version name own) _ (λ text. regroup (number_judge 4 (codes "processes ") 16 Processes (first_line text)) (later_lines text) (λ processes. from_rounds version name (replicate processes (slice_index own 0)) own (length own)))
    (line_local 4 (BadLine 4) (number_judge 4 (codes "processes ") 16 Processes) (λ processes. from_rounds version name (replicate processes (slice_index own 0)) own (length own)) refl (λ bytes fault. number_fault 16 Processes 4 (option_and_then number_of (value_after (codes "processes ") bytes)) fault refl) (λ processes. local_rounds version name (replicate processes (slice_index own 0)) own (length own)))

local_own : (version : Version) (name : List ℕ) → IsLocalFrom 3 behind_protocol (from_own version name)
local_own version name =
    same_reader 3 behind_protocol (from_own version name) _ (λ text. regroup (up_to_values 8 (inputs_of (fields_of (first_line text)))) (later_lines text) (λ own. from_processes version name own))
    (line_local 3 (BadLine 3) (λ bytes. up_to_values 8 (inputs_of (fields_of bytes))) (λ own. from_processes version name own) refl (λ bytes. inputs_fault 8 (inputs_of (fields_of bytes))) (λ own. local_processes version name own))

local_reduction_name : (version : Version) → IsLocalFrom 2 behind_protocol (from_reduction_name version)
local_reduction_name version =
    same_reader 2 behind_protocol (from_reduction_name version) _ (λ text. regroup (named (value_after (codes "room ") (first_line text))) (later_lines text) (λ name. from_own version name))
    (line_local 2 (BadLine 2) (λ bytes. named (value_after (codes "room ") bytes)) (λ name. from_own version name) refl (λ bytes. name_fault (value_after (codes "room ") bytes)) (λ name. local_own version name))

reduction_fault : (line : List ℕ) (fault : SpecFault) → reduction_of line ≡ Err fault → line_of fault ≡ Some 1
reduction_fault line fault e = test_fault 1 (bytes_eq line (codes "reduction 1")) Two (BadLine 1) fault refl e

pub local_reduction : IsLocalFrom 1 behind_protocol reduction_in
unfolding reduction_in
local_reduction =
    same_reader 1 behind_protocol reduction_in _ (λ text. regroup (reduction_of (first_line text)) (later_lines text) from_reduction_name)
    (line_local 1 (BadLine 1) reduction_of from_reduction_name refl reduction_fault local_reduction_name)

-- ---- whole blocks

-- the lines before the first `end`, as the text is read
record Ended (text : List ℕ) (lines : List (List ℕ)) : Type 0 where
  body : body_len text ≡ Some (length (text_of lines))
  bytes : take (length (text_of lines)) text ≡ text_of lines
  pieces : List (List ℕ)
  cut : lines_of text ≡ lines ++ codes "end" ∷ pieces

ended : (text : List ℕ) (len : ℕ) (at : EndsAt text len) → Ended text at.lines
ended text len at =
    let front = front_to (text_of at.lines ++ codes "end") text len at.bytes in
    let whole : text ≡ text_of at.lines ++ (codes "end" ++ with_line_end front.0) = front.1 ∙ append_assoc (text_of at.lines) (codes "end") (with_line_end front.0) in
    record {
      body = ap body_len whole ∙ end_at at.lines front.0 at.no_end;
      bytes = ap (take (length (text_of at.lines))) whole ∙ take_at (text_of at.lines) (codes "end" ++ with_line_end front.0) (length (text_of at.lines)) refl;
      pieces = pieces_of is_line_end front.0;
      cut = ap lines_of whole ∙ lines_to_end at.lines front.0 at.no_end;
    }

-- a fault that is not that of the whole block
pub record FaultAt (reader : List ℕ → Result RoomSpec SpecFault) (text : List ℕ) (fault : SpecFault) : Type 0 where
  pub len : ℕ
  pub at : EndsAt text len
  pub read : reader (text_of at.lines) ≡ Err fault

fault_before : (reader : List ℕ → Result RoomSpec SpecFault) (text : List ℕ) (found : Option ℕ) (fault : SpecFault) → before_end reader text found ≡ Err fault → ((fault ≡ Truncated) × (found ≡ None)) ⊎ ((body : ℕ) × (found ≡ Some body) × (reader (take body text) ≡ Err fault))
fault_before reader text None fault e = inl (cc, refl)
fault_before reader text (Some body) fault e =
    elim (err_cases (reader (take body text)) (λ room. Ok (room, min (body + 4) (length text))) fault e) [
      | inl here ↦ inr (body, refl, here)
      | inr (room, read, there) ↦ absurd cc
    ]

pub fault_at : (reader : List ℕ → Result RoomSpec SpecFault) (text : List ℕ) (fault : SpecFault) → before_end reader text (body_len text) ≡ Err fault → ((fault ≡ Truncated) × (body_len text ≡ None)) ⊎ FaultAt reader text fault
fault_at reader text fault e =
    elim (fault_before reader text (body_len text) fault e) [
      | inl whole ↦ inl whole
      | inr (body, found, read) ↦
          let at = block_ends text body (sym found) in
          let end = ended text (min (body + 4) (length text)) at in
          let body_is : length (text_of at.lines) ≡ body = same_Some _ _ (sym end.body ∙ found) in
          inr (record {
            len = min (body + 4) (length text);
            at = at;
            read = ap reader (sym end.bytes ∙ ap (λ (n : ℕ). take n text) body_is) ∙ read;
          })
    ]

same_cons : (line other : List ℕ) (lines others : List (List ℕ)) → line ∷ lines ≡ other ∷ others → (line ≡ other) × (lines ≡ others)
same_cons line other lines others e = (cc, cc)

never_end : (line : List ℕ) → is_end line ≡ false → line ≡ codes "end" → ⊥
never_end line is e = false≢true (sym is ∙ ap is_end e)

pub agree_lines : (n : ℕ) (lines others pieces rest : List (List ℕ)) → are_before_end lines ≡ true → are_before_end others ≡ true → take n (others ++ codes "end" ∷ rest) ≡ take n (lines ++ codes "end" ∷ pieces) → Agree n (text_of lines) (text_of others)
agree_lines zero lines others pieces rest all all_others same = tt
agree_lines (suc n) [] [] pieces rest all all_others same = agree_same (suc n) []
agree_lines (suc n) [] (other ∷ others) pieces rest all all_others same =
    let parts = same_cons other (codes "end") (take n (others ++ codes "end" ∷ rest)) (take n pieces) same in
    absurd (never_end other (before_line other others all_others).1 parts.0)
agree_lines (suc n) (line ∷ lines) [] pieces rest all all_others same =
    let parts = same_cons (codes "end") line (take n rest) (take n (lines ++ codes "end" ∷ pieces)) same in
    absurd (never_end line (before_line line lines all).1 (sym parts.0))
agree_lines (suc n) (line ∷ lines) (other ∷ others) pieces rest all all_others same =
    let parts = same_cons other line (take n (others ++ codes "end" ∷ rest)) (take n (lines ++ codes "end" ∷ pieces)) same in
    let here = before_line line lines all in
    let there = before_line other others all_others in
    let later : Agree n (text_of lines) (text_of others) = agree_lines n lines others pieces rest here.2 there.2 parts.1 in (
      first_line-text_of line lines here.0 ∙ sym parts.0 ∙ sym (first_line-text_of other others there.0),
      subst (λ (t : List ℕ). Agree n t (later_lines (text_of (other ∷ others)))) (sym (later_lines-text_of line lines here.0))
          (subst (λ (t : List ℕ). Agree n (text_of lines) t) (sym (later_lines-text_of other others there.0)) later),
    )

-- ---- the clauses of `read_block`

if_some : {A : Type 0} (found : Option A) (P : A → Type 0) → ((x : A) → found ≡ Some x → P x) → IfSome found P
if_some None P from = tt
if_some (Some x) P from = from x refl

-- a reader of the lines before the line `end`
abbrev pub IsLocalReader : (List ℕ → Result RoomSpec SpecFault) → Type 0
IsLocalReader reader = IsLocalFrom 1 behind_protocol reader

abbrev pub block_of : (List ℕ → Result RoomSpec SpecFault) → List ℕ → Result (RoomSpec × ℕ) SpecFault
block_of reader text = before_end reader text (body_len text)

pub same_fault : (reader : List ℕ → Result RoomSpec SpecFault) → IsLocalReader reader → (text : List ℕ) (fault : SpecFault) (line : ℕ) → line_of fault ≡ Some line → FaultAt reader text fault → (other : List ℕ) (len : ℕ) → EndsAt other len → take line (lines_of other) ≡ take line (lines_of text) → block_of reader other ≡ Err fault
same_fault reader local_reader text fault line is found other len at same =
    let end = ended text found.len found.at in
    let end_other = ended other len at in
    let agree : Agree line (text_of found.at.lines) (text_of at.lines) = agree_lines line found.at.lines at.lines end.pieces end_other.pieces found.at.no_end at.no_end (ap (take line) (sym end_other.cut) ∙ same ∙ ap (take line) end.cut) in
    let local = local_reader.own (text_of found.at.lines) fault line found.read is in
    let count : line ≡ suc line - 1 = omega arith in
    let read : reader (text_of at.lines) ≡ Err fault = local.1 (text_of at.lines) (subst (λ (n : ℕ). Agree n (text_of found.at.lines) (text_of at.lines)) count agree) in
    rw (end_other.body, end_other.bytes, read) refl

fault_local : (reader : List ℕ → Result RoomSpec SpecFault) → IsLocalReader reader → (text : List ℕ) (fault : SpecFault) → block_of reader text ≡ Err fault → IsLocalTo (block_of reader) text fault
fault_local reader local_reader text fault e =
    if_some (line_of fault) _ (λ line is other len at same.
    elim (fault_at reader text fault e) [
      | inl whole ↦ absurd (let none : None ≡ Some line = sym (ap line_of whole.0) ∙ is in cc)
      | inr found ↦ same_fault reader local_reader text fault line is found other len at same
    ])

pub block_local : (reader : List ℕ → Result RoomSpec SpecFault) → IsLocalReader reader → (text : List ℕ) (outcome : Result (RoomSpec × ℕ) SpecFault) → outcome ≡ block_of reader text → IfErr outcome (λ fault. IsLocalTo (block_of reader) text fault)
block_local reader local_reader text (Ok read) e = tt
block_local reader local_reader text (Err fault) e = fault_local reader local_reader text fault (sym e)

whole_fault : (reader : List ℕ → Result RoomSpec SpecFault) → IsLocalReader reader → (text : List ℕ) → ((Truncated ≡ Truncated) × (body_len text ≡ None)) ⊎ FaultAt reader text Truncated → All (λ line. line ≢ codes "end") (lines_of text)
whole_fault reader local_reader text (inl whole) = block_nowhere text (sym whole.1)
whole_fault reader local_reader text (inr found) = absurd (local_reader.ends (text_of found.at.lines) found.read)

protocol_at : (reader : List ℕ → Result RoomSpec SpecFault) → IsLocalReader reader → (text : List ℕ) (fault : ParseFault) → ((BadProtocol fault ≡ Truncated) × (body_len text ≡ None)) ⊎ FaultAt reader text (BadProtocol fault) → IsOfText text (BadProtocol fault)
protocol_at reader local_reader text fault (inl whole) = absurd (let same = whole.0 in cc)
protocol_at reader local_reader text fault (inr found) = (found.len, found.at, local_reader.protocol found.at.lines fault (are_lines-before_end found.at.lines found.at.no_end) found.read)

fault_of_text : (reader : List ℕ → Result RoomSpec SpecFault) → IsLocalReader reader → (text : List ℕ) (fault : SpecFault) → block_of reader text ≡ Err fault → IsOfText text fault
fault_of_text reader local_reader text Truncated e = whole_fault reader local_reader text (fault_at reader text Truncated e)
fault_of_text reader local_reader text (BadProtocol fault) e = protocol_at reader local_reader text fault (fault_at reader text (BadProtocol fault) e)
fault_of_text reader local_reader text fault e = tt

pub block_of_text : (reader : List ℕ → Result RoomSpec SpecFault) → IsLocalReader reader → (text : List ℕ) (outcome : Result (RoomSpec × ℕ) SpecFault) → outcome ≡ block_of reader text → IfErr outcome (λ fault. IsOfText text fault)
block_of_text reader local_reader text (Ok read) e = tt
block_of_text reader local_reader text (Err fault) e = fault_of_text reader local_reader text fault (sym e)
