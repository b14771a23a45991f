-- Rows that show the last writes.
use Rattle.std.proofs.Common.{◌≡◌, ◌<◌, ◌∙◌, ℕ, suc, List, [], ◌∷◌, Option, None, length, replicate, refl, ap, ap₂, arith, slice_index_or, false}
use Rattle.std.specs.Prelude.{Result, Ok, Err, OnOk, is_err}
use Rattle.history_checker.specs.declared.process.Process.{Process}
use Rattle.history_checker.specs.Processes.{lasts, Tracks}
use Rattle.history_checker.specs.Shown.{ShowsLasts, SaysRow}
use Rattle.room_spec.specs.Rooms.{RoomSpec, processes}

-- a row that a text says shows something, and so all
pub shown_by : (text : List ℕ) (last row : List (Option ℕ)) → SaysRow (32 ∷ text) row → ShowsLasts last row → row ≡ last
shown_by text last [] says shows = absurd (let none = says.text_is in cc)
shown_by text last (entry ∷ row) says shows = shows

-- ---- results

pub on_ok : {A B X : Type 0} (result : Result A B) → is_err result ≡ false → OnOk result X → X
on_ok (Ok value) accepted holds = holds
on_ok (Err fault) accepted holds = absurd cc

-- ---- before the first event

silent : (all : List Process) → ((p : ℕ) (d : Process) → p < length all → (slice_index_or all p d).last ≡ None) → lasts all ≡ replicate (length all) None
silent [] none = refl
silent (process ∷ all) none = ap₂ (λ (last : Option ℕ) (others : List (Option ℕ)). last ∷ others) (none 0 process (omega arith)) (silent all (λ p d below. none (suc p) d (omega (arith, below))))

pub lasts_silent : (spec : RoomSpec) (all : List Process) → Tracks spec all [] → lasts all ≡ replicate (processes spec) None
lasts_silent spec all tracks = silent all (λ p d below. (tracks.each p d below).last) ∙ ap (λ n. replicate n None) tracks.count
