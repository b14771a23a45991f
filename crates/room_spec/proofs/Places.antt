-- The first place of a byte in a text.
use Rattle.std.proofs.Common.{◌≡◌, ℕ, ◌+◌, ◌-◌, ◌<◌, ◌≤◌, false, List, Option, Some, None, length, drop, get_or, refl, sym, ap, subst, ◌∙◌, arith, inl, inr}
use Rattle.std.specs.Prelude.{◌==◌, Bool, cond, nat_lt}
use Rattle.std.specs.List.{position, position_or_len}
use Rattle.std.specs.Option.{option_map}
use Rattle.std.proofs.lemmas.Bool.{cases_lt, eq-eqb, eqb-true, false_from_ne_true, le-ltb, lt-ltb}
use Rattle.std.proofs.lemmas.List.{get_or-drop, length-drop}
use Rattle.std.proofs.lemmas.List.Sums.{position_or_len_is}
use Rattle.memchr.specs.Find.{IsFirstByte, is_byte}

at_place : (text : List ℕ) (byte place : ℕ) → position_or_len (λ b. b == byte) text ≡ place → position (λ b. b == byte) text ≡ cond (nat_lt place (length text)) (Some place) None
at_place text byte place is = ap (λ (n : ℕ). cond (nat_lt n (length text)) (Some n) None) is

pub is_position : (text : List ℕ) (byte : ℕ) (found : Option ℕ) → IsFirstByte (is_byte byte) text found → found ≡ position (λ b. b == byte) text
is_position text byte None nowhere =
    let end : position_or_len (λ b. b == byte) text ≡ length text =
    position_or_len_is (λ b. b == byte) text (length text) 0 (omega arith) (λ k below. false_from_ne_true _ (nowhere k (omega arith) below)) (λ below. absurd (omega (arith, below))) in
    sym (at_place text byte (length text) end ∙ ap (λ (is : Bool). cond is (Some (length text)) None) (le-ltb (length text) (length text) (omega arith)))
is_position text byte (Some place) first =
    let at : position_or_len (λ b. b == byte) text ≡ place =
    position_or_len_is (λ b. b == byte) text place 0 (omega (arith, first.0.high)) (λ k below. false_from_ne_true _ (first.0.before k (omega arith) below)) (λ below. first.1) in
    sym (at_place text byte place at ∙ ap (λ (is : Bool). cond is (Some place) None) (lt-ltb place (length text) first.0.high))

-- the first place, where none stands before it
pub place_here : (text : List ℕ) (byte place : ℕ) → ((k : ℕ) → k < place → (get_or text k 0 == byte) ≡ false) → place < length text → get_or text place 0 ≡ byte → Some place ≡ position (λ b. b == byte) text
place_here text byte place none below here =
    let at : position_or_len (λ b. b == byte) text ≡ place = position_or_len_is (λ b. b == byte) text place 0 (omega (arith, below)) none (λ within. ap (λ (b : ℕ). b == byte) here ∙ eq-eqb byte byte refl) in
    sym (at_place text byte place at ∙ ap (λ (is : Bool). cond is (Some place) None) (lt-ltb place (length text) below))

before_far : (text : List ℕ) (byte near far : ℕ) → ((k : ℕ) → k < near → (get_or text k 0 == byte) ≡ false) → ((k : ℕ) → k < far → (get_or (drop near text) k 0 == byte) ≡ false) → (k : ℕ) → k < near + far → (get_or text k 0 == byte) ≡ false
before_far text byte near far none later k below =
    elim (cases_lt k near) [
      | inl first ↦ none k first
      | inr behind ↦
          let i : near + (k - near) ≡ k = omega (arith, behind) in
          subst (λ (n : ℕ). (get_or text n 0 == byte) ≡ false) i (ap (λ (b : ℕ). b == byte) (sym (get_or-drop near text (k - near) 0)) ∙ later (k - near) (omega (arith, behind, below)))
    ]

pub place_far : (text : List ℕ) (byte near : ℕ) (found : Option ℕ) → near ≤ length text → ((k : ℕ) → k < near → (get_or text k 0 == byte) ≡ false) → IsFirstByte (is_byte byte) (drop near text) found → option_map (λ far. near + far) found ≡ position (λ b. b == byte) text
place_far text byte near None within none nowhere =
    let all = before_far text byte near (length text - near) none (λ k below. false_from_ne_true _ (nowhere k (omega arith) (omega (arith, below, length-drop near text)))) in
    let end : position_or_len (λ b. b == byte) text ≡ length text =
    position_or_len_is (λ b. b == byte) text (length text) 0 (omega arith) (λ k below. all k (omega (arith, below, within))) (λ below. absurd (omega (arith, below))) in
    sym (at_place text byte (length text) end ∙ ap (λ (is : Bool). cond is (Some (length text)) None) (le-ltb (length text) (length text) (omega arith)))
place_far text byte near (Some far) within none first =
    place_here text byte (near + far) (before_far text byte near far none (λ k below. false_from_ne_true _ (first.0.before k (omega arith) below))) (omega (arith, first.0.high, length-drop near text, within)) (sym (get_or-drop near text far 0) ∙ eqb-true (get_or (drop near text) far 0) byte first.1)
