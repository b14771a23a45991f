-- Pieces that are put behind a text.
use Rattle.std.proofs.Common.{◌≡◌, ◌∙◌, ℕ, ◌+◌, ◌-◌, List, [], ◌∷◌, ◌++◌, length, map, max, replicate, sym, ap, append_assoc, arith}
use Rattle.std.specs.List.{concat, range_with_len}
use Rattle.std.proofs.lemmas.List.{append-nil, append_assoc}
use Rattle.std.proofs.lemmas.List.Folds.{concat-append}
use Rattle.std.proofs.lemmas.List.FromFn.{map-range_with_len_more}
use Rattle.std.proofs.lemmas.List.{length-append, map-append}
use Rattle.std.specs.Prelude.{Result, Ok, Err, OnOk}
use Rattle.step_words.specs.Pieces.{padded}

-- two pieces
pub put_behind : {T E : Type 0} (result : Result T E) (start middle whole first second : List ℕ) → middle ≡ start ++ first → OnOk result (whole ≡ middle ++ second) → OnOk result (whole ≡ start ++ (first ++ second))
put_behind (Ok done) start middle whole first second is last = last ∙ ap (λ (xs : List ℕ). xs ++ second) is ∙ append_assoc start first second
put_behind (Err fault) start middle whole first second is last = tt

-- a text, and spaces up to a width, one at least
pub pad_behind : {T E : Type 0} (result : Result T E) (start middle whole text : List ℕ) (width : ℕ) → middle ≡ start ++ text → OnOk result (whole ≡ middle ++ replicate (max (width - (length middle - length start)) 1) 32)
    → OnOk result (whole ≡ start ++ padded width text)
pad_behind (Ok done) start middle whole text width is last =
    let count : length middle ≡ length start + length text = ap length is ∙ length-append start text in
    let missing : length middle - length start ≡ length text = omega (arith, count) in
    last ∙ ap (λ (n : ℕ). middle ++ replicate (max (width - n) 1) 32) missing ∙ ap (λ (xs : List ℕ). xs ++ replicate (max (width - length text) 1) 32) is ∙ append_assoc start text (replicate (max (width - length text) 1) 32)
pad_behind (Err fault) start middle whole text width is last = tt

texts_more : (text : ℕ → List ℕ) (i : ℕ) → concat (map text (range_with_len 0 (i + 1))) ≡ concat (map text (range_with_len 0 i)) ++ text i
texts_more text i =
    ap concat (map-range_with_len_more text 0 i i (omega arith)) ∙ concat-append (map text (range_with_len 0 i)) (text i ∷ []) ∙ ap (λ t. concat (map text (range_with_len 0 i)) ++ t) (append-nil (text i))

-- one value more after those of the first numbers
pub one_value_more : {A B : Type 0} (view : A → B) (of : ℕ → B) (values : List A) (value : A) (i : ℕ) → map view values ≡ map of (range_with_len 0 i) → view value ≡ of i
    → map view (values ++ value ∷ []) ≡ map of (range_with_len 0 (i + 1))
one_value_more view of values value i so_far more =
    map-append view values (value ∷ []) ∙ ap (λ all. all ++ view value ∷ []) so_far ∙ ap (λ one. map of (range_with_len 0 i) ++ one ∷ []) more ∙ sym (map-range_with_len_more of 0 i i (omega arith))

-- one text more behind those of the first numbers
pub one_text_more : (text : ℕ → List ℕ) (start before after : List ℕ) (i : ℕ) → before ≡ start ++ concat (map text (range_with_len 0 i)) → after ≡ before ++ text i
    → after ≡ start ++ concat (map text (range_with_len 0 (i + 1)))
one_text_more text start before after i so_far more =
    more ∙ ap (λ b. b ++ text i) so_far ∙ append_assoc start (concat (map text (range_with_len 0 i))) (text i) ∙ ap (λ t. start ++ t) (sym (texts_more text i))
