-- A line in the language, byte by byte.
use Rattle.std.proofs.Common.{◌≡◌, ◌∙◌, ℕ, ◌+◌, ◌-◌, ◌<◌, ◌≤◌, Bool, true, false, List, [], ◌∷◌, ◌++◌, cond, drop, take, get_or, length, suc, sym, ap, arith}
use lib.Seq.{drop-cons}
use Rattle.std.proofs.lemmas.List.{append_assoc, get_or-drop, length-drop, take_more}
use Rattle.protocol_lang.specs.Tokens.{is_letter}
use Rattle.decision_tasks.specs.Lines.{renamed, renamed_after}

next : (line : List ℕ) (at : ℕ) → at < length line → drop at line ≡ get_or line at 0 ∷ drop (at + 1) line
next line at below = let one : suc at ≡ at + 1 = omega arith in drop-cons line at 0 below ∙ ap (λ (n : ℕ). get_or line at 0 ∷ drop n line) one

of_letter : (word : List ℕ) (byte : ℕ) (bytes : List ℕ) → is_letter byte ≡ true → renamed_after word (byte ∷ bytes) ≡ renamed_after (word ++ byte ∷ []) bytes
of_letter word byte bytes is = ap (λ (b : Bool). cond b (renamed_after (word ++ byte ∷ []) bytes) (renamed word ++ (byte ∷ renamed_after [] bytes))) is

of_other : (word : List ℕ) (byte : ℕ) (bytes : List ℕ) → is_letter byte ≡ false → renamed_after word (byte ∷ bytes) ≡ renamed word ++ (byte ∷ renamed_after [] bytes)
of_other word byte bytes is = ap (λ (b : Bool). cond b (renamed_after (word ++ byte ∷ []) bytes) (renamed word ++ (byte ∷ renamed_after [] bytes))) is

-- the word so far has one letter more
longer : (line : List ℕ) (start at : ℕ) → start ≤ at → at < length line → take (at - start) (drop start line) ++ get_or line at 0 ∷ [] ≡ take (at + 1 - start) (drop start line)
longer line start at within below =
    let whole : start + (at - start) ≡ at = omega (arith, within) in
    let more : at - start + 1 ≡ at + 1 - start = omega (arith, within) in
    let here : get_or (drop start line) (at - start) 0 ≡ get_or line at 0 = get_or-drop start line (at - start) 0 ∙ ap (λ (i : ℕ). get_or line i 0) whole in
    let inside : at - start < length (drop start line) = omega (arith, within, below, length-drop start line) in
    ap (λ (b : ℕ). take (at - start) (drop start line) ++ b ∷ []) (sym here) ∙ sym (take_more (drop start line) (at - start) 0 inside) ∙ ap (λ (n : ℕ). take n (drop start line)) more

pub letter_more : (line : List ℕ) (start at : ℕ) → start ≤ at → at < length line → is_letter (get_or line at 0) ≡ true
    → renamed_after (take (at - start) (drop start line)) (drop at line) ≡ renamed_after (take (at + 1 - start) (drop start line)) (drop (at + 1) line)
letter_more line start at within below is =
    ap (renamed_after (take (at - start) (drop start line))) (next line at below)
    ∙ of_letter (take (at - start) (drop start line)) (get_or line at 0) (drop (at + 1) line) is
    ∙ ap (λ (word : List ℕ). renamed_after word (drop (at + 1) line)) (longer line start at within below)

pub other_more : (line : List ℕ) (start at : ℕ) → at < length line → is_letter (get_or line at 0) ≡ false
    → renamed_after (take (at - start) (drop start line)) (drop at line) ≡ renamed (take (at - start) (drop start line)) ++ (get_or line at 0 ∷ renamed_after [] (drop (at + 1) line))
other_more line start at below is =
    ap (renamed_after (take (at - start) (drop start line))) (next line at below) ∙ of_other (take (at - start) (drop start line)) (get_or line at 0) (drop (at + 1) line) is

-- ---- what was written, one byte later

pub letter_written : (line output later whole : List ℕ) (start at next_start : ℕ) → start ≤ at → at < length line → is_letter (get_or line at 0) ≡ true → next_start ≡ start → later ≡ output
    → output ++ renamed_after (take (at - start) (drop start line)) (drop at line) ≡ whole
    → later ++ renamed_after (take (at + 1 - next_start) (drop next_start line)) (drop (at + 1) line) ≡ whole
letter_written line output later whole start at next_start within below is next_is later_is text =
    ap (λ (i : ℕ). later ++ renamed_after (take (at + 1 - i) (drop i line)) (drop (at + 1) line)) next_is
    ∙ ap (λ (l : List ℕ). l ++ renamed_after (take (at + 1 - start) (drop start line)) (drop (at + 1) line)) later_is
    ∙ ap (λ (rest : List ℕ). output ++ rest) (sym (letter_more line start at within below is))
    ∙ text

pub other_written : (line output middle later whole : List ℕ) (start at next_start byte : ℕ) → at < length line → is_letter (get_or line at 0) ≡ false → next_start ≡ at + 1
    → middle ≡ output ++ renamed (take (at - start) (drop start line)) → later ≡ middle ++ byte ∷ [] → byte ≡ get_or line at 0
    → output ++ renamed_after (take (at - start) (drop start line)) (drop at line) ≡ whole
    → later ++ renamed_after (take (at + 1 - next_start) (drop next_start line)) (drop (at + 1) line) ≡ whole
other_written line output middle later whole start at next_start byte below is next_is middle_is later_is byte_is text =
    let word = renamed (take (at - start) (drop start line)) in
    let rest = renamed_after [] (drop (at + 1) line) in
    let none : at + 1 - next_start ≡ 0 = omega (arith, next_is) in
    let empty : take (at + 1 - next_start) (drop next_start line) ≡ [] = ap (λ (n : ℕ). take n (drop next_start line)) none in
    ap (λ (w : List ℕ). later ++ renamed_after w (drop (at + 1) line)) empty
    ∙ ap (λ (l : List ℕ). l ++ rest) (later_is ∙ ap (λ (m : List ℕ). m ++ byte ∷ []) middle_is)
    ∙ append_assoc (output ++ word) (byte ∷ []) rest
    ∙ append_assoc output word (byte ∷ rest)
    ∙ ap (λ (b : ℕ). output ++ (word ++ (b ∷ rest))) byte_is
    ∙ ap (λ (l : List ℕ). output ++ l) (sym (other_more line start at below is))
    ∙ text
