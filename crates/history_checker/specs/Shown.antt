-- Rows as the bytes that say them, and lines that are fed.
use Rattle.std.specs.Prelude.{◌≡◌, ◌≤◌, ⊤, ℕ, true, false, List, [], ◌∷◌, ◌++◌, Option, None, Some, slice_set, Ok, Err, length, map, suc, take}
use Rattle.std.specs.List.{AllByRecursion, flat_map, sum_by}
use Rattle.protocol_lang.specs.Limits.{IsEntry}
use Rattle.protocol_lang.specs.declared.meaning.TheConstants.{MAX_PROCESSES}
use Rattle.room_spec.specs.Rooms.{RoomSpec}
use Rattle.transcript.specs.Grammar.{entry_text}
use Rattle.transcript.specs.Lines.{LineParts, event_said, line_said}
use Rattle.transcript.specs.declared.event.Event.{Event}
use Rattle.transcript.specs.declared.event.Event.TheVariants.{Write, Snap, Decide}
use Rattle.history_checker.specs.Verdicts.{FedEvent, HasProcessed, IsAfter, RoomState, StaysSo, has_room, specs_of}
use Rattle.history_checker.specs.declared.fault.FeedFault.{FeedFault}
use Rattle.history_checker.specs.declared.fault.FeedFault.TheVariants.{BadLine, NoRoom}

-- entries, each after a space
abbrev pub spaced : List (Option ℕ) → List ℕ
spaced entries = flat_map (λ entry. 32 ∷ entry_text entry) entries

-- the text is these entries, which are values or nothing
pub record SaysRow (text : List ℕ) (entries : List (Option ℕ)) : Type 0 where
  pub text_is : text ≡ spaced entries
  pub values : AllByRecursion IsEntry entries

-- how many bytes an entry has after a space
abbrev pub width : Option ℕ → ℕ
width entry = suc (length (entry_text entry))

-- how many bytes are before the entry at a place, by the widths of all
abbrev pub before : List ℕ → ℕ → ℕ
before widths p = sum_by (λ w. w) (take p widths)

-- entries, no more than a room has processes, their text, and how many bytes of it each has
pub record IsShown (entries : List (Option ℕ)) (text widths : List ℕ) : Type 0 where
  pub says : SaysRow text entries
  pub widths_are : widths ≡ map width entries
  pub few : length entries ≤ MAX_PROCESSES

-- a row of these last writes: it shows all of them, or nothing if an allocation failed
abbrev pub ShowsLasts : List (Option ℕ) → List (Option ℕ) → Type 0
ShowsLasts lasts [] = ⊤
ShowsLasts lasts (entry ∷ row) = entry ∷ row ≡ lasts

-- the same of a room's row, if it has one
abbrev pub MayShowLasts : List (Option ℕ) → Option (List (Option ℕ)) → Type 0
MayShowLasts lasts None = ⊤
MayShowLasts lasts (Some row) = ShowsLasts lasts row

-- the last writes after one more event
abbrev pub lasts_after : Event → List (Option ℕ) → List (Option ℕ)
lasts_after (Write p v) lasts = slice_set lasts p (Some v)
lasts_after (Snap p row) lasts = lasts
lasts_after (Decide p v) lasts = lasts

-- the line with these parts and this number says an event that the room has then processed
pub record Feeds (line : LineParts) (number : ℕ) (old new : RoomState) : Type 0 where
  pub event : Event
  pub said : event_said line ≡ Ok event
  pub processed : StaysSo event number (λ fed. IsAfter fed old) (λ fed. IsAfter fed new)

-- the line with these parts and this number says an event of one of the rooms, which they have then processed
pub record HasFed (line : LineParts) (number : ℕ) (old new : List RoomState) : Type 0 where
  pub one : FedEvent
  pub said : line_said line ≡ Ok (one.name, one.event)
  pub known : has_room one.name (specs_of old) ≡ true
  pub numbered : one.line ≡ number
  pub processed : (fed : List FedEvent) → HasProcessed old fed → HasProcessed new (fed ++ one ∷ [])

-- the line with these parts says no event, or one of a room that isn't there
abbrev pub IsUnfed : LineParts → List RoomSpec → FeedFault → Type 0
IsUnfed line rooms (BadLine fault) = line_said line ≡ Err fault
IsUnfed line rooms (NoRoom none) = (read : List ℕ × Event) × (line_said line ≡ Ok read) × (has_room read.0 rooms ≡ false)
