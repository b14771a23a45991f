-- What a line says, by its parts.
use Rattle.std.proofs.Common.{◌≡◌, ◌≤◌, ◌∙◌, ℕ, Bool, true, false, cond, List, [], ◌∷◌, ◌++◌, Option, Result, Ok, Err, length, map, refl, sym, ap, arith}
use Rattle.std.specs.List.{join_with_byte}
use Rattle.std.proofs.lemmas.List.{append-nil}
use Rattle.arrayvec.specs.ArrayVec.{ArrayVec}
use Rattle.room_spec.specs.Names.{is_name}
use Rattle.transcript.specs.declared.event.Event.{Event}
use Rattle.transcript.specs.declared.event.Event.TheVariants.{Snap, Write}
use Rattle.transcript.specs.declared.word.EventWord.TheVariants as words
use Rattle.room_spec.specs.Texts.{fields_of}
use Rattle.transcript.specs.declared.fault.LineFault.{LineFault}
use Rattle.transcript.specs.declared.fault.LineFault.TheVariants.{BadName}
use Rattle.transcript.specs.Grammar.{entry_text}
use Rattle.protocol_lang.specs.Results.{◌>>=◌}
use Rattle.transcript.specs.Lines.{of_room, event_said, line_said, value_in, LineParts}
use Rattle.transcript.proofs.CallerLemmas.{row_spelled}
use Rattle.history_checker.specs.Shown.{SaysRow, spaced}

-- ---- the name and the event

pub said_named : (line : LineParts) (event : Event) → is_name line.name ≡ true → Ok event ≡ event_said line → line_said line ≡ Ok (line.name, event)
said_named line event named says = rw (named, sym says) refl

pub fault_named : (line : LineParts) (fault : LineFault) → is_name line.name ≡ true → Err fault ≡ event_said line → line_said line ≡ Err fault
fault_named line fault named bad = rw (named, sym bad) refl

name_by : (named : Bool) (name : List ℕ) (said : Result Event LineFault) (read : List ℕ × Event) → cond named (said >>= of_room name) (Err BadName) ≡ Ok read → read.0 ≡ name
name_by true name (Ok event) read is = let same : (name, event) ≡ read = cc in sym (ap (λ (r : List ℕ × Event). r.0) same)
name_by true name (Err fault) read is = absurd cc
name_by false name said read is = absurd cc

pub name_said : (line : LineParts) (read : List ℕ × Event) → line_said line ≡ Ok read → read.0 ≡ line.name
name_said line read is = name_by (is_name line.name) line.name (event_said line) read is

-- ---- snapshots

-- the entries behind a field, as fields and as text
joined : (start : List ℕ) (entries : List (Option ℕ)) → join_with_byte 32 (start ∷ map entry_text entries) ≡ start ++ spaced entries
joined start [] = sym (append-nil start)
joined start (entry ∷ entries) = ap (λ (behind : List ℕ). start ++ 32 ∷ behind) (joined (entry_text entry) entries)

pub first_is_space : (byte : ℕ) (rest : List ℕ) (entries : List (Option ℕ)) → byte ∷ rest ≡ spaced entries → 32 ∷ rest ≡ spaced entries
first_is_space byte rest [] is = absurd cc
first_is_space byte rest (entry ∷ entries) is = let same : rest ≡ entry_text entry ++ spaced entries = cc in ap (λ (r : List ℕ). 32 ∷ r) same

some_entries : (values : List ℕ) (entries : List (Option ℕ)) → 32 ∷ values ≡ spaced entries → 1 ≤ length entries
some_entries values [] is = absurd cc
some_entries values (entry ∷ entries) is = omega arith

behind_space : (values : List ℕ) (entries : List (Option ℕ)) → 32 ∷ values ≡ spaced entries → values ≡ join_with_byte 32 (map entry_text entries)
behind_space values [] is = absurd cc
behind_space values (entry ∷ entries) is = let same : values ≡ entry_text entry ++ spaced entries = cc in same ∙ sym (joined (entry_text entry) entries)

-- a snapshot whose entries, each behind a space, are these
pub says_snap : (line : LineParts) (row : ArrayVec (Option ℕ)) → line.word ≡ words.Snap → SaysRow (32 ∷ line.values) row.items → length row.items ≤ 16 → event_said line ≡ Ok (Snap line.process row)
says_snap line row snap says few =
    let entries = row_spelled line.values row.items (record { some = some_entries line.values row.items says.text_is; few = few; values = says.values }) (behind_space line.values row.items says.text_is) in
    rw (snap, entries) refl

-- ---- writes

pub says_write : (line : LineParts) (v : ℕ) → line.word ≡ words.Write → Ok v ≡ value_in (fields_of line.values) → event_said line ≡ Ok (Write line.process v)
says_write line v write value = rw (write, sym value) refl
