-- What the program's command makes of the words.
use Rattle.std.proofs.Common.{[], ◌==◌, ◌≡◌, ◌∙◌, ◌||◌, Bool, cond, codes, true, false, refl, sym, ap, subst, List, ◌∷◌, ◌++◌, length, map, Option, Some, None, IfSome, is_some}
use Rattle.std.specs.Prelude.{fold}
use Rattle.std.specs.Str.{bytes_eq}
use Rattle.std.proofs.lemmas.List.{append-nil, append_assoc}
use Rattle.std.proofs.lemmas.Slice.Eq.{bytes_eq-Decides}
use Rattle.clap.specs.Walk.{Names, Row, Rule, Text, Walk, idle, finished, first_of, nothing_held, rows_after, settled, subcommand_met, walk, walked}
use Rattle.clap.specs.Simple.{Shape, built, entered, subcommand_of}
use Rattle.clap.specs.Kinds.{or_else}
use Rattle.clap.specs.Faults.{entered_fault, fault_of, level_fault, check_fault, settle_fault, turn_fault, walk_fault, defaults_fault}
use Rattle.bgsim_command_line.specs.CommandLine.{IsAsked, bgsim_app, file_among, file_named, file_words, mode_among, mode_of, word_of}
use Rattle.bgsim_command_line.specs.declared.words.Mode.{Mode}
use Rattle.bgsim_command_line.specs.declared.words.Mode.TheVariants.{Check, Play, Run}
use Rattle.bgsim_command_line.proofs.FileWords.{first_none, then_none, Asks, OnlyAsk, word_is_value, at, step_dashes, stray_trailing, flag_none, stray_value, help, version, leaf, help_asks, version_asks, file_is}
use Rattle.bgsim_command_line.proofs.RunWords.{run_leaf, run_file}

-- ---- the first word

abbrev top : Shape
top = (built bgsim_app).top

abbrev top_rules : List Rule
top_rules = help ∷ version ∷ []

abbrev top_names : Names
top_names = (word_of Check, []) ∷ (word_of Play, []) ∷ (word_of Run, []) ∷ []

top_asks : OnlyAsk top_rules
top_asks = (λ name. long (bytes_eq (codes "help") name) (bytes_eq (codes "version") name), λ x. short (104 == x) (86 == x))
  where
    long : (is_help is_version : Bool) → IfSome (cond (is_help || false) (Some help) (cond (is_version || false) (Some version) None)) Asks
    long true is_version = help_asks
    long false true = version_asks
    long false false = tt

    short : (is_help is_version : Bool) → IfSome (cond (is_help || false) (Some help) (cond (is_version || false) (Some version) None)) Asks
    short true is_version = help_asks
    short false true = version_asks
    short false false = tt

-- the walk ended at a subcommand
abbrev entered_at : Text → List Text → Walk
entered_at name words = record (at nothing_held 1 false) { stopped = Some (name, words) }

-- the words behind it are kept
words_kept : (rules : List Rule) (names : Names) (name : Text) (words more : List Text) → fold (walked rules names) (entered_at name words) more ≡ entered_at name (words ++ more)
unfolding walked
words_kept rules names name words [] = ap (entered_at name) (sym (append-nil words))
words_kept rules names name words (word ∷ more) =
    words_kept rules names name (words ++ word ∷ []) more ∙ ap (entered_at name) (append_assoc words (word ∷ []) more)

enters : (mode : Mode) → walked top_rules top_names (at nothing_held 1 false) (word_of mode) ≡ entered_at (word_of mode) []
unfolding walked
enters Check = refl
enters Play = refl
enters Run = refl

enters_mode : (mode : Mode) (words : List Text) → walk top_rules top_names nothing_held (word_of mode ∷ words) ≡ entered_at (word_of mode) words
enters_mode mode words = ap (λ w. fold (walked top_rules top_names) w words) (enters mode) ∙ words_kept top_rules top_names (word_of mode) [] words

-- the word is that of no mode
abbrev IsOther : Text → Type 0
IsOther word = (mode : Mode) → bytes_eq (word_of mode) word ≡ false

no_other : (word : Text) → IsOther word → subcommand_met top_names idle word ≡ None
no_other word other = rw (other Check, other Play, other Run) refl

-- without a subcommand there is a fault
abbrev IsFault : List Text → Type 0
IsFault words = fault_of bgsim_app words ≡ [] → ⊥

only_dashes : (word : Text) → IsOther word → bytes_eq word (codes "--") ≡ true → IsFault (word ∷ [])
unfolding defaults_fault
only_dashes word other dashes none =
    let step = step_dashes top_rules top_names nothing_held 1 word (no_other word other) dashes in
    let ended : level_fault top top_names nothing_held (word ∷ []) (is_some (entered (built bgsim_app) (at nothing_held 1 true).stopped)) (entered_fault (built bgsim_app) (at nothing_held 1 true).stopped) ≡ [] =
    subst (λ w. level_fault top top_names nothing_held (word ∷ []) (is_some (entered (built bgsim_app) w.stopped)) (entered_fault (built bgsim_app) w.stopped) ≡ []) step none in
    let behind = then_none (walk_fault top top_names (at nothing_held 1 false) (word ∷ [])) _ ended in
    let no = subst (λ w. or_else (settle_fault top.rules top.args_override_self w.held) (or_else (defaults_fault (settled top.rules w.held).rows top.rules) (check_fault top (finished top.rules w.held) false)) ≡ []) step behind in
    absurd cc

other_word : (is_dashes : Bool) (word : Text) (words : List Text) → IsOther word → bytes_eq word (codes "--") ≡ is_dashes → IsFault (word ∷ words)
unfolding walk_fault
other_word true word [] other dashes none = only_dashes word other dashes none
other_word true word (next ∷ words) other dashes none =
    let step = step_dashes top_rules top_names nothing_held 1 word (no_other word other) dashes in
    let walks : walk_fault top top_names (at nothing_held 1 false) (word ∷ next ∷ words) ≡ [] = first_none _ _ none in
    let rest : walk_fault top top_names (walked top_rules top_names (at nothing_held 1 false) word) (next ∷ words) ≡ [] = then_none (turn_fault top top_names (at nothing_held 1 false) word) _ walks in
    let turn : turn_fault top top_names (at nothing_held 1 true) next ≡ [] = first_none _ (walk_fault top top_names (walked top_rules top_names (at nothing_held 1 true) next) words) (subst (λ w. walk_fault top top_names w (next ∷ words) ≡ []) step rest) in
    absurd (stray_trailing top top_names nothing_held 1 next refl turn)
other_word false word words other dashes none =
    let walks : walk_fault top top_names (at nothing_held 1 false) (word ∷ words) ≡ [] = first_none _ _ none in
    let turn : turn_fault top top_names (at nothing_held 1 false) word ≡ [] = first_none _ (walk_fault top top_names (walked top_rules top_names (at nothing_held 1 false) word) words) walks in
    let flag = flag_none top top_names nothing_held 1 word (no_other word other) dashes turn in
    let is = word_is_value top_rules false top_asks word [] None flag in
    absurd (stray_value top top_names nothing_held 1 word refl (no_other word other) dashes is turn)

-- what was entered has the mode's word, and the rows that its shape makes of the words behind it
abbrev shape_for : Mode → Shape
shape_for Check = leaf (word_of Check)
shape_for Play = leaf (word_of Play)
shape_for Run = run_leaf

entered_is : (mode : Mode) (words : List Text) → entered (built bgsim_app) (Some (word_of mode, words)) ≡ Some (word_of mode, rows_after (shape_for mode).rules [] words)
entered_is Check words = refl
entered_is Play words = refl
entered_is Run words = refl

below_is : (mode : Mode) (words : List Text) → entered_fault (built bgsim_app) (Some (word_of mode, words)) ≡ level_fault (shape_for mode) [] nothing_held words false []
below_is Check words = refl
below_is Play words = refl
below_is Run words = refl

file_asked : (mode : Mode) (words : List Text) → walk_fault (shape_for mode) [] (at nothing_held 1 false) words ≡ [] → first_of (codes "FILE") (rows_after (shape_for mode).rules [] words) ≡ file_named (file_words mode words)
file_asked Check words none = file_is (word_of Check) words none
file_asked Play words none = file_is (word_of Play) words none
file_asked Run words none = run_file words none

mode_is : (mode : Mode) → mode_of (word_of mode) ≡ mode
mode_is Check = refl
mode_is Play = refl
mode_is Run = refl

-- where the words are no fault, the subcommand is the mode's, and the file is the one that they name
mode_asked : (mode : Mode) (words : List Text) (found : Option (Text × List Row)) → fault_of bgsim_app (word_of mode ∷ words) ≡ [] → found ≡ subcommand_of bgsim_app (word_of mode ∷ words)
    → IsAsked (word_of mode ∷ words) (mode_among found) (file_among found)
mode_asked mode words found none is =
    let walk_is = enters_mode mode words in
    let there : found ≡ Some (word_of mode, rows_after (shape_for mode).rules [] words) = is ∙ ap (λ w. entered (built bgsim_app) w.stopped) walk_is ∙ entered_is mode words in
    let ended = subst (λ w. level_fault top top_names nothing_held (word_of mode ∷ words) (is_some (entered (built bgsim_app) w.stopped)) (entered_fault (built bgsim_app) w.stopped) ≡ []) walk_is none in
    let below : entered_fault (built bgsim_app) (Some (word_of mode, words)) ≡ [] = first_none _ _ (then_none (walk_fault top top_names (at nothing_held 1 false) (word_of mode ∷ words)) _ ended) in
    let fine : level_fault (shape_for mode) [] nothing_held words false [] ≡ [] = sym (below_is mode words) ∙ below in
    let named : mode_among found ≡ mode = ap mode_among there ∙ mode_is mode in
    let file : file_among found ≡ file_named (file_words mode words) = ap file_among there ∙ file_asked mode words (first_none _ _ fine) in
    subst (λ (m : Mode). IsAsked (word_of mode ∷ words) m (file_among found)) (sym named) (refl, file)

asked_as : (mode : Mode) (word : Text) (words : List Text) (found : Option (Text × List Row)) → word_of mode ≡ word → fault_of bgsim_app (word ∷ words) ≡ [] → found ≡ subcommand_of bgsim_app (word ∷ words)
    → IsAsked (word ∷ words) (mode_among found) (file_among found)
asked_as mode word words found named none is =
    subst (λ (w : Text). IsAsked (w ∷ words) (mode_among found) (file_among found)) named
    (mode_asked mode words found (subst (λ w. fault_of bgsim_app (w ∷ words) ≡ []) (sym named) none) (is ∙ ap (λ w. subcommand_of bgsim_app (w ∷ words)) (sym named)))

words_asked : (is_check is_play is_run : Bool) (word : Text) (words : List Text) (found : Option (Text × List Row)) → bytes_eq (word_of Check) word ≡ is_check → bytes_eq (word_of Play) word ≡ is_play → bytes_eq (word_of Run) word ≡ is_run
    → fault_of bgsim_app (word ∷ words) ≡ [] → found ≡ subcommand_of bgsim_app (word ∷ words) → IsAsked (word ∷ words) (mode_among found) (file_among found)
words_asked true is_play is_run word words found check play run none is = asked_as Check word words found ((bytes_eq-Decides (word_of Check) word).0 check) none is
words_asked false true is_run word words found check play run none is = asked_as Play word words found ((bytes_eq-Decides (word_of Play) word).0 play) none is
words_asked false false true word words found check play run none is = asked_as Run word words found ((bytes_eq-Decides (word_of Run) word).0 run) none is
words_asked false false false word words found check play run none is = absurd (other_word (bytes_eq word (codes "--")) word words other refl none)
  where
    other : IsOther word
    other Check = check
    other Play = play
    other Run = run

pub is_asked : (words : List Text) (found : Option (Text × List Row)) (mode : Mode) (file : Option Text) → (words ≡ [] → ⊥) → fault_of bgsim_app words ≡ [] → found ≡ subcommand_of bgsim_app words
    → mode ≡ mode_among found → file ≡ file_among found → IsAsked words mode file
is_asked [] found mode file some none is mode_is file_is = absurd (some refl)
is_asked (word ∷ words) found mode file some none is mode_is file_is =
    subst (λ (m : Mode). IsAsked (word ∷ words) m file) (sym mode_is) (subst (λ f. IsAsked (word ∷ words) (mode_among found) f) (sym file_is)
    (words_asked (bytes_eq (word_of Check) word) (bytes_eq (word_of Play) word) (bytes_eq (word_of Run) word) word words found refl refl refl none is))

pub no_words : {X : Type 0} (f : X → Text) (words : List X) → map f words ≡ [] → length words ≡ 0
no_words f [] none = refl
no_words f (word ∷ words) none = absurd cc
