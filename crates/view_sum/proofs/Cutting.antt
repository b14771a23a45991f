-- Lines of a text.
use Rattle.std.proofs.Common.{◌≡◌, ◌∙◌, ℕ, zero, suc, ◌+◌, ◌<◌, ◌==◌, Bool, true, false, cond, get_or, take, List, [], ◌∷◌, ◌++◌, append_assoc, length, Option, Some, None, codes, refl, sym, ap, subst, arith}
use Rattle.std.specs.Prelude.{IfNone}
use Rattle.std.proofs.lemmas.Bool.{eqb-true}
use Rattle.std.proofs.lemmas.List.{take_all, take_more}
use Rattle.std.proofs.lemmas.List.Sums.{sum_by-append, sum_by-cons}
use Rattle.memchr.specs.Find.{IsFirstByte, is_byte}
use Rattle.view_sum.specs.Files.{AreNumbered, lines_in}
use Rattle.view_sum.specs.Refusals.{IsOneLine}
use Rattle.view_sum.specs.Samples.{RoomSample, room_text, sample_text}

abbrev pub one_by : Bool → ℕ
one_by b = cond b 1 0

abbrev pub one_if : ℕ → ℕ
one_if byte = one_by (byte == 10)

pub lines_cons : (byte : ℕ) (text : List ℕ) → lines_in (byte ∷ text) ≡ one_if byte + lines_in text
lines_cons byte text = sum_by-cons {X = ℕ} (λ b. cond (b == 10) 1 0) byte text

pub lines_append : (one other : List ℕ) → lines_in (one ++ other) ≡ lines_in one + lines_in other
lines_append one other = sum_by-append {X = ℕ} (λ b. cond (b == 10) 1 0) one other

not_one : (byte : ℕ) (b : Bool) → (byte == 10) ≡ b → ((byte == 10) ≡ true → ⊥) → one_by b ≡ 0
not_one byte true is not = absurd (not is)
not_one byte false is not = refl

-- no line ends in the first bytes if none of them is an end
none_ends : (text : List ℕ) (n : ℕ) → ((k : ℕ) → k < n → (get_or text k 0 == 10) ≡ true → ⊥) → lines_in (take n text) ≡ 0
none_ends [] zero not = refl
none_ends [] (suc n) not = refl
none_ends (byte ∷ text) zero not = refl
none_ends (byte ∷ text) (suc n) not =
    let first = not_one byte (byte == 10) refl (λ is. not 0 (omega arith) is) in
    let rest = none_ends text n (λ k less is. not (suc k) (omega (arith, less)) is) in
    let all = lines_cons byte (take n text) in
    omega (arith, first, rest, all)

pub none_left : (text : List ℕ) (found : Option ℕ) → IsFirstByte (is_byte 10) text found → found ≡ None → lines_in text ≡ 0
none_left text None is none = ap lines_in (sym (take_all (length text) text (omega arith))) ∙ none_ends text (length text) (λ k less there. is k (omega arith) less there)
none_left text (Some k) is none = absurd (let some : Some k ≡ None = none in cc)

pub one_cut : (text : List ℕ) (found : Option ℕ) (end : ℕ) (line : List ℕ) → IsFirstByte (is_byte 10) text found → found ≡ Some end → line ≡ take (end + 1) text → IsOneLine line
one_cut text None end line is some cut = absurd (let none : None ≡ Some end = some in cc)
one_cut text (Some k) end line is some cut =
    let same : k ≡ end = cc in
    subst (λ (e : ℕ). line ≡ take (e + 1) text → IsOneLine line) same
    (λ here. (take k text, here ∙ take_more text k 0 is.0.high ∙ ap (λ (b : ℕ). take k text ++ b ∷ []) (eqb-true (get_or text k 0) 10 is.1), none_ends text k (λ j less there. is.0.before j (omega arith) less there))) cut

pub one_in : (line : List ℕ) → IsOneLine line → lines_in line ≡ 1
one_in line (content, is, none) =
    let both = lines_append content (codes "\n") in
    let end : lines_in (codes "\n") ≡ 1 = refl in
    let all = ap lines_in is in
    omega (arith, both, end, all, none)

-- ---- the numbers of the rooms' lines

pub one_numbered : (before : List ℕ) (samples : List RoomSample) (lines : List ℕ) (sample : RoomSample) (line : ℕ) → AreNumbered before samples lines → line ≡ lines_in ((before ++ sample_text samples) ++ room_text sample)
    → AreNumbered before (samples ++ sample ∷ []) (lines ++ line ∷ [])
one_numbered before [] [] sample line are is = (is ∙ ap (λ (t : List ℕ). lines_in (t ++ room_text sample)) (append-nil-of before), tt)
  where
    append-nil-of : (text : List ℕ) → text ++ [] ≡ text
    append-nil-of [] = refl
    append-nil-of (byte ∷ text) = ap (λ (t : List ℕ). byte ∷ t) (append-nil-of text)
one_numbered before (first ∷ samples) (number ∷ lines) sample line are is =
    (are.0, one_numbered (before ++ room_text first) samples lines sample line are.1 (is ∙ ap (λ (t : List ℕ). lines_in (t ++ room_text sample)) (sym (append_assoc before (room_text first) (sample_text samples)))))
one_numbered before [] (number ∷ lines) sample line are is = absurd are
one_numbered before (first ∷ samples) [] sample line are is = absurd are

pub if_none : {A : Type 0} (o : Option A) (P : Type 0) → P → IfNone o P
if_none None P holds = holds
if_none (Some x) P holds = tt
