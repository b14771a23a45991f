-- What reads took off a stream and writes put onto one, over several calls.
use Rattle.std.proofs.Common.{◌≡◌, ◌∙◌, ℕ, ◌+◌, ◌<◌, ◌≤◌, ◌-◌, List, [], take, drop, ◌++◌, length, Option, Some, None, refl, sym, ap, arith}
use Rattle.std.specs.Prelude.{IfSome}
use Rattle.std.specs.Io.KnownBytes.{Appends, Consumes, IsAtEnd, Keeps}
use Rattle.std.proofs.lemmas.List.{append_assoc, append-nil, length-append, length-drop, take_all, take-append-drop}

pub Consumes-none : (known : Option (List ℕ)) → Consumes known known []
Consumes-none None = tt
Consumes-none (Some xs) = refl

pub Consumes-then : (a b c : Option (List ℕ)) (xs ys : List ℕ) → Consumes a b xs → Consumes b c ys → Consumes a c (xs ++ ys)
Consumes-then None b c xs ys first later = tt
Consumes-then (Some front) None c xs ys first later = absurd first
Consumes-then (Some front) (Some bs) None xs ys first later = absurd later
Consumes-then (Some front) (Some bs) (Some cs) xs ys first later = first ∙ ap (λ b. xs ++ b) later ∙ sym (append_assoc xs ys cs)

-- all that there was, where none is left
pub all_consumed : (old new : Option (List ℕ)) (xs : List ℕ) → Consumes old new xs → IsAtEnd new → IfSome old (λ input. xs ≡ input)
all_consumed None new xs consumed end = tt
all_consumed (Some input) None xs consumed end = absurd consumed
all_consumed (Some input) (Some rest) xs consumed end = sym (consumed ∙ ap (λ r. xs ++ r) end ∙ append-nil xs)

pub no_less : (old new : Option (List ℕ)) (xs : List ℕ) (most : ℕ) → Consumes old new xs → most < length xs → IfSome old (λ input. most < length input)
no_less None new xs most consumed long = tt
no_less (Some input) None xs most consumed long = absurd consumed
no_less (Some input) (Some rest) xs most consumed long = rw (consumed, length-append xs rest) (omega arith)

pub Appends-none : (known : Option (List ℕ)) → Appends known known []
Appends-none None = tt
Appends-none (Some xs) = sym (append-nil xs)

pub Appends-then : (a b c : Option (List ℕ)) (xs ys : List ℕ) → Appends a b xs → Appends b c ys → Appends a c (xs ++ ys)
Appends-then None b c xs ys first later = tt
Appends-then (Some front) None c xs ys first later = absurd first
Appends-then (Some front) (Some bs) None xs ys first later = absurd later
Appends-then (Some front) (Some bs) (Some cs) xs ys first later = later ∙ ap (λ b. b ++ ys) first ∙ append_assoc front xs ys

pub Appends-kept : (a b c : Option (List ℕ)) (xs : List ℕ) → Appends a b xs → Keeps b c → Appends a c xs
Appends-kept None b c xs first kept = tt
Appends-kept (Some front) None c xs first kept = absurd first
Appends-kept (Some front) (Some bs) None xs first kept = absurd kept
Appends-kept (Some front) (Some bs) (Some cs) xs first kept = kept ∙ first

-- what is left of a text behind its first part and some bytes more
pub part_more : (whole part rest : List ℕ) (n m : ℕ) → whole ≡ part ++ rest → m ≡ length rest → whole ≡ (part ++ take n rest) ++ take (m - n) (drop n rest)
part_more whole part rest n m split m_is =
    let all : take (m - n) (drop n rest) ≡ drop n rest = take_all (m - n) (drop n rest) (rw (length-drop n rest, m_is) (omega arith)) in
    split ∙ ap (λ r. part ++ r) (sym (take-append-drop n rest)) ∙ sym (append_assoc part (take n rest) (drop n rest)) ∙ ap (λ r. (part ++ take n rest) ++ r) (sym all)

-- so many calls, of which all but one gave a byte at least, are one more than all bytes at most
pub calls_within : (old new : Option (List ℕ)) (xs : List ℕ) (before calls : ℕ) → Consumes old new xs → calls ≤ before + length xs + 1 → IfSome old (λ input. calls ≤ before + length input + 1)
calls_within None new xs before calls consumed few = tt
calls_within (Some input) None xs before calls consumed few = absurd consumed
calls_within (Some input) (Some rest) xs before calls consumed few = rw (consumed, length-append xs rest) (omega (arith, few))

pub no_calls : (known : Option (List ℕ)) (calls : ℕ) → IfSome known (λ input. calls ≤ calls + length input + 1)
no_calls known calls = calls_within known known [] calls calls (Consumes-none known) (omega arith)

-- what is left of a text behind its first bytes, as a slice of it, is shorter by these
pub rest_shorter : (text : List ℕ) (n m : ℕ) → m ≡ length text → n ≤ length text → length (take (m - n) (drop n text)) + n ≡ length text
rest_shorter text n m m_is within = rw (take_all (m - n) (drop n text) (rw (length-drop n text, m_is) (omega arith)), length-drop n text) (omega arith)
