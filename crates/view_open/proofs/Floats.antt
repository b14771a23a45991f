-- No number in the JSON of what is open has a fraction.
use Rattle.std.proofs.Common.{◌≡◌, ℕ, Bool, true, false, cond, ◌==◌, ◌||◌, List, [], ◌∷◌, ◌++◌, Option, Some, None, refl}
use Rattle.serde_json.specs.Data.{Data, array, null}
use Rattle.serde_json.specs.View.{items_of}
use Rattle.serde_json.specs.Written.{has_float, items_have_float}
use Rattle.room_spec.specs.Texts.{first_line}
use Rattle.json_lines.proofs.CallerLemmas.{both, items_are, text_is}
use Rattle.run_search.specs.Outcomes.{Ends}
use Rattle.run_search.specs.declared.ended.Ended.{Ended}
use Rattle.run_search.specs.declared.ended.Ended.TheVariants.{Decided, Spent, Stopped}
use Rattle.view_open.specs.Json.{closed_data, closed_items, end_data, ends_data, open_data, outcomes_data, reply_data, words_data}
use Rattle.view_open.specs.Texts.{is_closed}
use Rattle.view_open.specs.declared.searching.Found.{Found}

end_is : (ended : Ended) → has_float (end_data ended) ≡ false
end_is (Decided v) = refl
end_is Spent = refl
end_is Stopped = refl

outcome_is : (one : Ends) → has_float (ends_data one.items) ≡ false
outcome_is one = items_are end_data end_is one.items

outcomes_are : (all : List Ends) → has_float (outcomes_data all) ≡ false
outcomes_are all = items_are (λ (one : Ends). ends_data one.items) outcome_is all

closed_more : (b : Bool) (one : Ends) (others : List Data) → items_have_float (items_of others) ≡ false → items_have_float (items_of (cond b (ends_data one.items ∷ []) [] ++ others)) ≡ false
closed_more true one others are = both (has_float (ends_data one.items)) (items_have_float (items_of others)) (outcome_is one) are
closed_more false one others are = are

closed_are : (still known : List Ends) → items_have_float (items_of (closed_items still known)) ≡ false
closed_are still [] = refl
closed_are still (one ∷ known) = closed_more (is_closed still one) one (closed_items still known) (closed_are still known)

closed_by : (b : Bool) (still known : List Ends) → has_float (cond b (array (items_of (closed_items still known))) null) ≡ false
closed_by true still known = closed_are still known
closed_by false still known = refl

pub reply_is : (words : List ℕ) → has_float (reply_data words) ≡ false
reply_is words = both (has_float (words_data words)) false (text_is (first_line words)) refl

pub open_is : (words name : List ℕ) (crashes limit : ℕ) (known : List Ends) (found : Option Found) → has_float (open_data words name crashes limit known found) ≡ false
open_is words name crashes limit known None = both (has_float (words_data words)) (false || false) (text_is (first_line words)) refl
open_is words name crashes limit known (Some found) =
    let still = found.ends.items in
    let words_is = has_float (words_data words) in
    let outcomes = has_float (outcomes_data still) in
    both (has_float (closed_data found.missed known still)) (outcomes || (words_is || false)) (closed_by (found.missed == 0) still known)
    (both outcomes (words_is || false) (outcomes_are still) (both words_is false (text_is (first_line words)) refl))
