-- Where a block ends, line by line.
use Rattle.std.proofs.Common.{◌≡◌, ℕ, ◌+◌, ◌-◌, ◌<◌, ◌≤◌, Bool, true, false, cond, ltb, suc, List, [], ◌∷◌, length, take, Option, Some, None, refl, ap, ◌∙◌, arith}
use Rattle.std.specs.List.{position, position_or_len}
use Rattle.std.specs.Option.{option_map}
use Rattle.std.proofs.lemmas.Bool.{ltb-true, ltb-false, lt-ltb, le-ltb}
use Rattle.std.proofs.lemmas.List.Sums.{sum_by-cons}
use Rattle.room_spec.specs.Texts.{is_line_end, lines_of, pieces_of}
use Rattle.room_spec.specs.Blocks.{is_end, extent_of, body_len}

-- ---- the first place that passes a test

later_at : (n m : ℕ) (b : Bool) → ltb n m ≡ b → cond (ltb (1 + n) (suc m)) (Some (1 + n)) None ≡ option_map suc (cond b (Some n) None)
later_at n m true h = let lt : n < m = ltb-true n m h in rw (lt-ltb (1 + n) (suc m) (omega arith)) (ap Some (omega arith))
later_at n m false h = let le : m ≤ n = ltb-false n m h in rw (le-ltb (1 + n) (suc m) (omega arith)) refl

pub position_first : {A : Type 0} (p : A → Bool) (x : A) (xs : List A) → p x ≡ true → position p (x ∷ xs) ≡ Some 0
position_first p x xs is = rw is (rw (lt-ltb 0 (suc (length xs)) (omega arith)) refl)

pub position_later : {A : Type 0} (p : A → Bool) (x : A) (xs : List A) → p x ≡ false → position p (x ∷ xs) ≡ option_map suc (position p xs)
position_later p x xs is = rw is (later_at (position_or_len p xs) (length xs) _ refl)

-- ---- the lines before the first `end`

-- how many bytes they take
abbrev pub extent_before_end : List (List ℕ) → Option ℕ
extent_before_end lines = option_map (λ before. extent_of (take before lines)) (position is_end lines)

pub ends_here : (line : List ℕ) (lines : List (List ℕ)) → is_end line ≡ true → extent_before_end (line ∷ lines) ≡ Some 0
ends_here line lines is = rw position_first refl

one_more : (line : List ℕ) (lines : List (List ℕ)) (found : Option ℕ) → option_map (λ before. extent_of (take before (line ∷ lines))) (option_map suc found) ≡ option_map (λ n. length line + 1 + n) (option_map (λ before. extent_of (take before lines)) found)
one_more line lines None = refl
one_more line lines (Some before) = ap Some (sum_by-cons (λ (l : List ℕ). length l + 1) line (take before lines))

pub ends_later : (line : List ℕ) (lines : List (List ℕ)) → is_end line ≡ false → extent_before_end (line ∷ lines) ≡ option_map (λ n. length line + 1 + n) (extent_before_end lines)
ends_later line lines is = rw position_later (one_more line lines (position is_end lines))

-- the same of a text, of which the first line and what stands behind it are known
pub body_here : (text line : List ℕ) (later : Option (List ℕ)) → lines_of text ≡ line ∷ pieces_of is_line_end later → is_end line ≡ true → body_len text ≡ Some 0
unfolding body_len
body_here text line later cut is = rw cut (ends_here line (pieces_of is_line_end later) is)

pub body_nowhere : (text line : List ℕ) → lines_of text ≡ line ∷ [] → is_end line ≡ false → body_len text ≡ None
unfolding body_len
body_nowhere text line cut is = rw cut (ends_later line [] is)

pub body_later : (text line rest : List ℕ) → lines_of text ≡ line ∷ lines_of rest → is_end line ≡ false → body_len text ≡ option_map (λ n. length line + 1 + n) (body_len rest)
unfolding body_len
body_later text line rest cut is = rw cut (ends_later line (lines_of rest) is)

-- ---- line by line: `now` is left of a text of `total` bytes, which gives `whole`

pub found_here : (total : ℕ) (now line : List ℕ) (later : Option (List ℕ)) (whole : Option ℕ) → lines_of now ≡ line ∷ pieces_of is_line_end later → is_end line ≡ true → option_map (λ n. total - length now + n) (body_len now) ≡ whole → Some (total - length now) ≡ whole
found_here total now line later whole cut is so_far =
    let here : body_len now ≡ Some 0 = body_here now line later cut is in
    ap Some (omega arith) ∙ (rw here at so_far)

pub found_nowhere : (total : ℕ) (now line : List ℕ) (whole : Option ℕ) → lines_of now ≡ line ∷ [] → is_end line ≡ false → option_map (λ n. total - length now + n) (body_len now) ≡ whole → None ≡ whole
found_nowhere total now line whole cut is so_far =
    let nowhere : body_len now ≡ None = body_nowhere now line cut is in
    rw nowhere at so_far

regrouped : (a b c : ℕ) (found : Option ℕ) → a + b ≡ c → option_map (λ n. c + n) found ≡ option_map (λ n. a + n) (option_map (λ n. b + n) found)
regrouped a b c None e = refl
regrouped a b c (Some n) e = ap Some (omega arith)

pub goes_on : (total : ℕ) (now line rest : List ℕ) (whole : Option ℕ) → lines_of now ≡ line ∷ lines_of rest → is_end line ≡ false → length line + 1 + length rest ≡ length now → length now ≤ total → option_map (λ n. total - length now + n) (body_len now) ≡ whole → option_map (λ n. total - length rest + n) (body_len rest) ≡ whole
goes_on total now line rest whole cut is shorter within so_far =
    let later : body_len now ≡ option_map (λ n. length line + 1 + n) (body_len rest) = body_later now line rest cut is in
    regrouped (total - length now) (length line + 1) (total - length rest) (body_len rest) (omega arith) ∙ (rw later at so_far)

-- ---- the same of the lines up to and with that one, of which `lines` begin no later than `now`

pub counted_here : (lines : ℕ) (now line : List ℕ) (later : Option (List ℕ)) (whole : Option ℕ) → lines_of now ≡ line ∷ pieces_of is_line_end later → is_end line ≡ true → option_map (λ n. lines + n) (position is_end (lines_of now)) ≡ whole → Some lines ≡ whole
counted_here lines now line later whole cut is so_far =
    let here : position is_end (lines_of now) ≡ Some 0 = ap (position is_end) cut ∙ position_first is_end line (pieces_of is_line_end later) is in
    ap Some (omega arith) ∙ (rw here at so_far)

pub counted_nowhere : (lines : ℕ) (now line : List ℕ) (whole : Option ℕ) → lines_of now ≡ line ∷ [] → is_end line ≡ false → option_map (λ n. lines + n) (position is_end (lines_of now)) ≡ whole → None ≡ whole
counted_nowhere lines now line whole cut is so_far =
    let nowhere : position is_end (lines_of now) ≡ None = ap (position is_end) cut ∙ position_later is_end line [] is in
    rw nowhere at so_far

counted_more : (lines : ℕ) (found : Option ℕ) → option_map (λ n. lines + 1 + n) found ≡ option_map (λ n. lines + n) (option_map suc found)
counted_more lines None = refl
counted_more lines (Some n) = ap Some (omega arith)

pub counted_on : (lines : ℕ) (now line rest : List ℕ) (whole : Option ℕ) → lines_of now ≡ line ∷ lines_of rest → is_end line ≡ false → option_map (λ n. lines + n) (position is_end (lines_of now)) ≡ whole → option_map (λ n. lines + 1 + n) (position is_end (lines_of rest)) ≡ whole
counted_on lines now line rest whole cut is so_far =
    let later : position is_end (lines_of now) ≡ option_map suc (position is_end (lines_of rest)) = ap (position is_end) cut ∙ position_later is_end line (lines_of rest) is in
    counted_more lines (position is_end (lines_of rest)) ∙ (rw later at so_far)
