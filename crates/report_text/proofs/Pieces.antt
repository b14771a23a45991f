-- Texts written piece by piece.
use Rattle.std.proofs.Common.{◌≡◌, ◌∙◌, ℕ, ◌+◌, List, [], ◌∷◌, ◌++◌, Option, Some, None, codes, decimal, map, sym, ap, arith}
use Rattle.std.specs.List.{concat, join_with_byte, range_with_len}
use Rattle.std.proofs.lemmas.List.{append-nil, append_assoc, flat_map_more, length-append}
use Rattle.std.proofs.lemmas.List.Folds.{concat-append}
use Rattle.io_text.specs.Numbers.{entries_text}
use Rattle.transcript.specs.Grammar.{entry_text, event_line}
use Rattle.transcript.specs.declared.event.Event.{Event}
use Rattle.transcript.specs.declared.event.Event.TheVariants.{Snap}
use Rattle.report_text.specs.ReportTexts.{KeepsLines}
use Rattle.std.proofs.lemmas.List.FromFn.{map-range_with_len_more}

texts_more : (text : ℕ → List ℕ) (i : ℕ) → concat (map text (range_with_len 0 (i + 1))) ≡ concat (map text (range_with_len 0 i)) ++ text i
texts_more text i =
    ap concat (map-range_with_len_more text 0 i i (omega arith)) ∙ concat-append (map text (range_with_len 0 i)) (text i ∷ []) ∙ ap (λ t. concat (map text (range_with_len 0 i)) ++ t) (append-nil (text i))

-- one text more behind those of the first numbers
pub one_text_more : (text : ℕ → List ℕ) (start before after one : List ℕ) (i : ℕ) → before ≡ start ++ concat (map text (range_with_len 0 i)) → after ≡ before ++ one → one ≡ text i
    → after ≡ start ++ concat (map text (range_with_len 0 (i + 1)))
one_text_more text start before after one i so_far more is =
    more ∙ ap (λ t. before ++ t) is ∙ ap (λ b. b ++ text i) so_far ∙ append_assoc start (concat (map text (range_with_len 0 i))) (text i) ∙ ap (λ t. start ++ t) (sym (texts_more text i))

entries_behind : (text : List ℕ) (entries : List (Option ℕ)) → join_with_byte 32 (text ∷ map entry_text entries) ≡ text ++ entries_text entries
entries_behind text [] = sym (append-nil text)
entries_behind text (None ∷ entries) = ap (λ t. text ++ 32 ∷ t) (entries_behind (codes ".") entries)
entries_behind text (Some value ∷ entries) = ap (λ t. text ++ 32 ∷ t) (entries_behind (decimal value) entries)

-- the line of a snapshot
pub snapshot_line : (name process : List ℕ) (entries : List (Option ℕ)) → name ++ (32 ∷ process ++ (codes " snap" ++ (entries_text entries ++ codes "\n"))) ≡ join_with_byte 32 (name ∷ process ∷ codes "snap" ∷ map entry_text entries) ++ codes "\n"
snapshot_line name process entries = rw (entries_behind (codes "snap") entries) (simp append_assoc)

-- the lines that are kept, with that of one more event after them
pub event_kept : (own text now : List ℕ) (count more : ℕ) (name : List ℕ) (event : Event) (events : List Event) → more ≡ count + 1 → now ≡ text ++ (event_line name event ++ codes "\n") → KeepsLines own text count name events → KeepsLines own now more name (events ++ event ∷ [])
event_kept own text now count more name event events count_is now_is keeps = record {
  own_is = keeps.own_is;
  lines = now_is ∙ ap (λ t. t ++ (event_line name event ++ codes "\n")) keeps.lines ∙ flat_map_more (λ one. event_line name one ++ codes "\n") [] events event;
  count_is = count_is ∙ ap (λ n. n + 1) keeps.count_is ∙ sym (length-append events (event ∷ []));
}

-- the same of a snapshot
pub snapshot_kept : (own text middle now : List ℕ) (count more : ℕ) (name : List ℕ) (p : ℕ) (entries : List (Option ℕ)) (events : List Event) → more ≡ count + 1
    → middle ≡ text ++ own → now ≡ middle ++ (32 ∷ decimal p ++ (codes " snap" ++ (entries_text entries ++ codes "\n")))
    → KeepsLines own text count name events → KeepsLines own now more name (events ++ Snap p (record { items = entries }) ∷ [])
snapshot_kept own text middle now count more name p entries events count_is middle_is now_is keeps =
    let rest = 32 ∷ decimal p ++ (codes " snap" ++ (entries_text entries ++ codes "\n")) in
    let line = now_is ∙ ap (λ t. t ++ rest) middle_is ∙ append_assoc text own rest ∙ ap (λ t. text ++ (t ++ rest)) keeps.own_is ∙ ap (λ t. text ++ t) (snapshot_line name (decimal p) entries) in
    event_kept own text now count more name (Snap p (record { items = entries })) events count_is line keeps
