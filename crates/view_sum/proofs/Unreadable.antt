-- A file that isn't read to its end.
use Rattle.std.proofs.Common.{◌≡◌, ◌≢◌, ◌⊎◌, inl, inr, ◌∙◌, ℕ, ◌+◌, ◌==◌, Bool, false, true≢false, List, [], ◌∷◌, ◌++◌, append-nil, length, map, refl, sym, ap}
use Rattle.room_sample.specs.Shown.{shown_of}
use Rattle.room_sample.specs.declared.examples.Example.{Example}
use Rattle.view_sum.specs.Files.{lines_in}
use Rattle.view_sum.specs.Reading.{read_text}
use Rattle.view_sum.specs.Refusals.{IsUnreadLine, IsUnreadable, WhyStopped, pending_of}
use Rattle.view_sum.specs.Samples.{sample_of}
use Rattle.view_sum.specs.declared.fault.Reason.{Reason}
use Rattle.view_sum.specs.declared.fault.Reason.TheVariants.{Unended}
use Rattle.view_sum.specs.declared.fault.Stop.{Stop}
use Rattle.view_sum.specs.declared.fault.Stop.TheVariants as stops
use Rattle.view_sum.specs.declared.reading.Reading.{Reading}

why_mapped : (P Q : Reason → Type 0) → ((reason : Reason) → P reason → Q reason) → (stop : Stop) → WhyStopped P stop → WhyStopped Q stop
why_mapped P Q f stops.Memory why = tt
why_mapped P Q f (stops.Fault reason) why = f reason why

module _ (file : List ℕ) (reading : Reading) (rest : List ℕ) (number : ℕ) (text : read_text reading ++ rest ≡ file) (number_is : number ≡ lines_in (read_text reading) + 1) where
  -- the next line isn't read
  pub line_unread : (line later : List ℕ) (stop : Stop) → rest ≡ line ++ later → WhyStopped (IsUnreadLine (pending_of reading.listed) line) stop → WhyStopped (λ reason. IsUnreadable file number reason) stop
  line_unread line later stop cut why =
      why_mapped (IsUnreadLine (pending_of reading.listed) line) (λ reason. IsUnreadable file number reason)
      (λ reason unread. record { samples = map sample_of reading.parts.items; pending = pending_of reading.listed; line = line; rest = later; text_is = sym text ∙ ap (λ (t : List ℕ). read_text reading ++ t) cut; number_is = number_is; why = inl unread }) stop why

  -- it has no end, or outcomes are left
  pub not_ended : lines_in rest ≡ 0 → (rest ≢ []) ⊎ (map shown_of reading.listed.outcomes.items ≢ []) → IsUnreadable file number Unended
  not_ended none left = record {
    samples = map sample_of reading.parts.items;
    pending = pending_of reading.listed;
    line = rest;
    rest = [];
    text_is = sym text ∙ ap (λ (t : List ℕ). read_text reading ++ t) (sym (append-nil rest));
    number_is = number_is;
    why = inr (none, refl, left);
  }

pub some_shown : (items : List Example) (b : Bool) → b ≡ (length items == 0) → b ≡ false → map shown_of items ≢ []
some_shown [] b is not = λ none. true≢false (sym is ∙ not)
some_shown (one ∷ items) b is not = λ none. cc

pub some_rest : (rest : List ℕ) (b : Bool) → b ≡ (length rest == 0) → b ≡ false → rest ≢ []
some_rest [] b is not = λ none. true≢false (sym is ∙ not)
some_rest (byte ∷ rest) b is not = λ none. cc
