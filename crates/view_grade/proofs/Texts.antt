-- Texts written in two parts.
use Rattle.std.proofs.Common.{◌≡◌, ◌∙◌, ℕ, List, ◌++◌, Result, Ok, Err, ap}
use Rattle.std.specs.Result.{OnOk}
use Rattle.std.proofs.lemmas.List.{append_assoc}

pub in_two : {X E : Type 0} (r : Result X E) (start one other between now : List ℕ) → between ≡ start ++ one → OnOk r (now ≡ between ++ other) → OnOk r (now ≡ start ++ (one ++ other))
in_two (Ok x) start one other between now first second = second ∙ ap (λ (t : List ℕ). t ++ other) first ∙ append_assoc start one other
in_two (Err e) start one other between now first second = tt

pub in_four : {X E : Type 0} (r : Result X E) (start one two three four a b c now : List ℕ) → a ≡ start ++ one → b ≡ a ++ two → c ≡ b ++ three → OnOk r (now ≡ c ++ four) → OnOk r (now ≡ start ++ (one ++ (two ++ (three ++ four))))
in_four (Ok x) start one two three four a b c now a_is b_is c_is now_is =
    now_is ∙ ap (λ (t : List ℕ). t ++ four) (c_is ∙ ap (λ (t : List ℕ). t ++ three) (b_is ∙ ap (λ (t : List ℕ). t ++ two) a_is))
    ∙ append_assoc ((start ++ one) ++ two) three four ∙ append_assoc (start ++ one) two (three ++ four) ∙ append_assoc start one (two ++ (three ++ four))
in_four (Err e) start one two three four a b c now a_is b_is c_is now_is = tt
