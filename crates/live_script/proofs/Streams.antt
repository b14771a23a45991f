-- What reads took off a stream and writes put onto one, over several calls.
use Rattle.std.proofs.Common.{◌∙◌, ℕ, List, [], ◌++◌, Option, Some, None, refl, sym, ap}
use Rattle.std.specs.Io.KnownBytes.{Appends, Consumes}
use Rattle.std.proofs.lemmas.List.{append_assoc, append-nil}

pub none_consumed : (known : Option (List ℕ)) → Consumes known known []
none_consumed None = tt
none_consumed (Some xs) = refl

pub consumed_then : (a b c : Option (List ℕ)) (xs ys : List ℕ) → Consumes a b xs → Consumes b c ys → Consumes a c (xs ++ ys)
consumed_then None b c xs ys first later = tt
consumed_then (Some front) None c xs ys first later = absurd first
consumed_then (Some front) (Some bs) None xs ys first later = absurd later
consumed_then (Some front) (Some bs) (Some cs) xs ys first later = first ∙ ap (λ b. xs ++ b) later ∙ sym (append_assoc xs ys cs)

pub none_appended : (known : Option (List ℕ)) → Appends known known []
none_appended None = tt
none_appended (Some xs) = sym (append-nil xs)

pub appended_then : (a b c : Option (List ℕ)) (xs ys : List ℕ) → Appends a b xs → Appends b c ys → Appends a c (xs ++ ys)
appended_then None b c xs ys first later = tt
appended_then (Some front) None c xs ys first later = absurd first
appended_then (Some front) (Some bs) None xs ys first later = absurd later
appended_then (Some front) (Some bs) (Some cs) xs ys first later = later ∙ ap (λ b. b ++ ys) first ∙ append_assoc front xs ys
