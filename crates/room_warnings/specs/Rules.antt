-- Rules that always hold.
use Rattle.std.specs.Prelude.{ℕ, suc, ◌==◌, ◌&&◌, ◌||◌, Bool, not, List, [], ◌∷◌, drop, take, nat_eq, codes, if◌then◌else◌}
use Rattle.std.specs.List.{ends_with, filter, prefix_len, starts_with}
use Rattle.std.specs.Str.{bytes_eq}
use Rattle.room_warnings.specs.Words.{has_word, is_blank}

abbrev pub is_rule : List ℕ → Bool
is_rule text = starts_with nat_eq text (codes "when")

abbrev pub is_action : List ℕ → Bool
is_action text = starts_with nat_eq text (codes "write") || starts_with nat_eq text (codes "decide")

-- how many bytes come before an action, or all if there is none
unfoldable pub condition_len : List ℕ → ℕ
condition_len [] = 0
condition_len (byte ∷ rest) = if is_action (byte ∷ rest) then 0 else suc (condition_len rest)

-- what comes before the action of a rule, and after its word
abbrev pub condition_in : List ℕ → List ℕ
condition_in text = take (condition_len (drop 4 text)) (drop 4 text)

abbrev pub squeezed : List ℕ → List ℕ
squeezed text = filter (λ byte. not (is_blank byte)) text

abbrev pub left_len : List ℕ → ℕ
left_len comparison = prefix_len (λ byte. not (byte == 61)) comparison

-- it says that a value equals itself
abbrev pub has_same_sides : List ℕ → Bool
has_same_sides comparison =
    starts_with nat_eq (drop (left_len comparison) comparison) (codes "==") && bytes_eq (take (left_len comparison) comparison) (drop 2 (drop (left_len comparison) comparison))

-- A condition with no blanks is one comparison, and that holds whatever its values are: some value is at least 0, or 0 at most some value, or a
-- value equals itself.
abbrev pub is_always : List ℕ → Bool
is_always condition =
    not (has_word (codes "and") condition) && (ends_with nat_eq condition (codes ">=0") || (starts_with nat_eq condition (codes "0<=") || has_same_sides condition))

-- the text begins with a rule of one such comparison
abbrev pub holds_always : List ℕ → Bool
holds_always text = is_rule text && is_always (squeezed (condition_in text))
