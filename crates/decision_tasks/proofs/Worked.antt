-- Lines of tasks, read and judged.
use Rattle.std.proofs.Common.{◌≡◌, [], ◌∷◌, Ok, Err, Some, None, true, false, refl}
use Rattle.std.specs.Prelude.{codes}
use Rattle.protocol_lang.specs.Reading.{reading, run, one_token, next_token}
use Rattle.protocol_lang.specs.FirstFaults.{place_of}
use Rattle.protocol_lang.specs.declared.fault.ParseFault.TheVariants.{BadToken, Unexpected}
use Rattle.decision_tasks.specs.Laws.{agreement}
use Rattle.decision_tasks.specs.Lines.{lines_in, place_in, protocol_text, renamed_after}
use Rattle.decision_tasks.specs.Tasks.{is_allowed, task_in}

-- ---- lines

between_semicolons : lines_in (codes "mine == min; ;mine == max;") ≡ codes "mine == min" ∷ codes "mine == max" ∷ []
between_semicolons = refl

own_words : renamed_after [] (codes "given >= 1 and mine<=round") ≡ codes "round >= 1 and mine<=given"
own_words = refl

-- a word that begins or ends as one of these is another
longer_words : renamed_after [] (codes "forgiven rounds") ≡ codes "forgiven rounds"
longer_words = refl

agreement_read : reading (protocol_text (codes "equal(mine) == count and given >= 1")) ≡ Ok agreement
unfolding reading run one_token next_token
agreement_read = refl

-- the line ends too early: the fault is at its end
cut_off : reading (protocol_text (codes "mine <=")) ≡ Err (Unexpected 26)
unfolding reading run one_token next_token
cut_off = refl

cut_off_at : place_in (codes "mine <=") (place_of (Unexpected 26)) ≡ 8
cut_off_at = refl

no_round : reading (protocol_text (codes "round == 1")) ≡ Err (BadToken 18)
unfolding reading run one_token next_token
no_round = refl

no_round_at : place_in (codes "round == 1") (place_of (BadToken 18)) ≡ 1
no_round_at = refl

-- ---- decisions

same_values : is_allowed (agreement ∷ []) (7 ∷ 3 ∷ 3 ∷ []) (Some 3 ∷ None ∷ Some 3 ∷ []) 0 3 ≡ true
same_values = refl

two_values : is_allowed (agreement ∷ []) (7 ∷ 3 ∷ 3 ∷ []) (Some 3 ∷ None ∷ Some 7 ∷ []) 0 3 ≡ false
two_values = refl

no_input : is_allowed (agreement ∷ []) (7 ∷ 3 ∷ 3 ∷ []) (Some 4 ∷ None ∷ Some 4 ∷ []) 0 4 ≡ false
no_input = refl

no_line : is_allowed [] (7 ∷ []) (Some 7 ∷ []) 0 7 ≡ false
no_line = refl

-- ---- tasks

two_lines : task_in (codes "mine <= 1; mine ==") ≡ Err (record { line = 2; at = 9; fault = Unexpected 27 })
unfolding reading run one_token next_token
two_lines = refl
