-- Pages of files.
use Rattle.std.proofs.Common.{◌≡◌, ℕ, List, [], ◌∷◌, ◌++◌, Result, refl, sym, ap, ◌∙◌}
use Rattle.std.specs.declared.alloc.AllocError.{AllocError}
use Rattle.std.proofs.lemmas.List.{append_assoc, append-nil}
use Rattle.room_files.specs.declared.outcome.Outcome.{Outcome}
use Rattle.step_page.specs.Pages.{file_text, page_text}
use Rattle.step_page.specs.declared.parts.TheConstants.{BEGIN, END}
use Rattle.view_page.specs.Pages.{IsFileAnswer, IsPageFor, both, kind_of}

joined : (begin part end none first second third : List ℕ) → none ≡ [] → first ≡ none ++ begin → second ≡ first ++ part → third ≡ second ++ end → third ≡ begin ++ (part ++ end)
joined begin part end none first second third start one two three =
    three ∙ ap (λ (text : List ℕ). text ++ end) (two ∙ ap (λ (text : List ℕ). text ++ part) (one ∙ ap (λ (text : List ℕ). text ++ begin) start)) ∙ append_assoc begin part end

is_page : (part text : List ℕ) → text ≡ BEGIN.now ++ (part ++ END.now) → text ≡ page_text part
unfolding page_text
is_page part text is = is

pub page_of : (part none first second third : List ℕ) → none ≡ [] → first ≡ none ++ BEGIN.now → second ≡ first ++ part → third ≡ second ++ END.now → third ≡ page_text part
page_of part none first second third start one two three = is_page part third (joined BEGIN.now part END.now none first second third start one two three)

-- a file by itself
pub page_of_one : (file : List ℕ) (ending : Result Outcome AllocError) (answer page : List ℕ) → IsFileAnswer (kind_of file) file ending answer → page ≡ page_text (file_text (kind_of file) file answer)
    → IsPageFor (file ∷ []) ending page
page_of_one file ending answer page is page_is = record {
  all = record { file = file; ending = ending; answer = answer } ∷ [];
  each_file = refl;
  answered = (is, tt);
  ending_is = refl;
  page_is = page_is ∙ ap page_text (sym (append-nil (file_text (kind_of file) file answer)));
}

-- two of them
pub two_pages : (file next : List ℕ) (ending later : Result Outcome AllocError) (answer other none first second third fourth : List ℕ)
    → IsFileAnswer (kind_of file) file ending answer → IsFileAnswer (kind_of next) next later other
    → none ≡ [] → first ≡ none ++ BEGIN.now → second ≡ first ++ file_text (kind_of file) file answer → third ≡ second ++ file_text (kind_of next) next other → fourth ≡ third ++ END.now
    → IsPageFor (file ∷ next ∷ []) (both ending later) fourth
two_pages file next ending later answer other none first second third fourth is is' start one two three four =
    let text = file_text (kind_of file) file answer in
    let text' = file_text (kind_of next) next other in
    record {
      all = record { file = file; ending = ending; answer = answer } ∷ record { file = next; ending = later; answer = other } ∷ [];
      each_file = refl;
      answered = (is, (is', tt));
      ending_is = refl;
      page_is =
          page_of (text ++ text') none first third fourth start one (three ∙ ap (λ (t : List ℕ). t ++ text') two ∙ append_assoc first text text') four
          ∙ ap (λ (t : List ℕ). page_text (text ++ t)) (sym (append-nil text'));
    }
