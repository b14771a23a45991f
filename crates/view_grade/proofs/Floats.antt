-- No number in the JSON of a grade has a fraction.
use Rattle.std.proofs.Common.{◌≡◌, false, ◌||◌, List, ℕ, Option, Some, None, refl}
use Rattle.serde_json.specs.Written.{has_float}
use Rattle.json_lines.specs.Values.{entry_data, row_data, text_data}
use Rattle.json_lines.proofs.CallerLemmas.{both, items_are, row_is, text_is}
use Rattle.view_grade.specs.Grades.{Graded, claim_data, claim_text, claims_data, grade_data, shown_text}
use Rattle.view_grade.specs.Judging.{ReportedParts}
use Rattle.view_grade.specs.Keeping.{Found, broken_data, found_data, kept_data}
use Rattle.view_grade.specs.declared.goal.Claim.{Claim}

limit_is : (most : Option ℕ) → has_float (entry_data most) ≡ false
limit_is None = refl
limit_is (Some most) = refl

claim_is : (reported : ReportedParts) (claim : Claim) → has_float (claim_data reported claim) ≡ false
claim_is reported claim =
    let shown = has_float (text_data (shown_text reported claim.fact)) || false in
    both (has_float (text_data (claim_text claim))) shown (text_is (claim_text claim)) (both (has_float (text_data (shown_text reported claim.fact))) false (text_is (shown_text reported claim.fact)) refl)

claims_are : (last : Option ReportedParts) (claims : List Claim) → has_float (claims_data last claims) ≡ false
claims_are None claims = refl
claims_are (Some reported) claims = items_are (claim_data reported) (claim_is reported) claims

pub grade_is : (claims : List Claim) (most : Option ℕ) (graded : Graded) → has_float (grade_data claims most graded) ≡ false
grade_is claims most graded =
    let limit = has_float (entry_data most) || false in
    both (has_float (claims_data graded.last claims)) limit (claims_are graded.last claims) (both (has_float (entry_data most)) false (limit_is most) refl)

found_is : (found : Found) → has_float (found_data found) ≡ false
found_is found =
    let room = has_float (text_data found.room) || false in
    both (has_float (row_data found.moment.decisions.items)) room (row_is found.moment.decisions.items) (both (has_float (text_data found.room)) false (text_is found.room) refl)

broken_is : (found : Option Found) → has_float (broken_data found) ≡ false
broken_is None = refl
broken_is (Some found) = found_is found

pub kept_is : (claims : List Claim) (most : Option ℕ) (graded : Graded) (found : Option Found) → has_float (kept_data claims most graded found) ≡ false
kept_is claims most graded found =
    let limit = has_float (entry_data most) || false in
    both (has_float (broken_data found)) (has_float (claims_data graded.last claims) || limit) (broken_is found)
    (both (has_float (claims_data graded.last claims)) limit (claims_are graded.last claims) (both (has_float (entry_data most)) false (limit_is most) refl))
