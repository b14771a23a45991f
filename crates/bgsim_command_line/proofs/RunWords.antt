-- What the words behind `run` ask for: a file, and a number of workers.
use Rattle.std.proofs.Common.{[], inl, inr, arith, ap₂, ◌&&◌, ◌+◌, take, drop, ◌==◌, ◌≡◌, ◌∙◌, ◌||◌, ℕ, Bool, cond, codes, true, false, suc, refl, sym, ap, subst, List, ◌∷◌, ◌++◌, Option, Some, None, IfSome, is_some}
use Rattle.std.specs.Prelude.{◌⊎◌, find, fold, option_and_then, slice_get}
use Rattle.std.specs.List.{before_first}
use Rattle.std.specs.Str.{bytes_eq}
use Rattle.std.proofs.lemmas.Bool.{cases_Bool}
use Rattle.std.proofs.lemmas.Bool.Decides.{nat_tests}
use Rattle.std.proofs.lemmas.List.{take-append-drop}
use Rattle.std.proofs.lemmas.Slice.Eq.{bytes_eq-Decides}
use Rattle.clap.specs.Lexer.{long_of, long_of_rest, name_and_value, short_of, strip_byte}
use Rattle.clap.specs.Walk.{Held, option, Row, Rule, Text, Walk, at_row, attached_value, has_row, is_pending, more_values, plain_word, settled_rows, used, values_or_missing, with_default, without, idle, value, arg_by_long, arg_by_short, finished, first_of, long_or_other, nothing_held, rows_after, takes_values, to_positional, walked}
use Rattle.clap.specs.Simple.{Shape, built_leaf, filled, inherited, marked_built, on_top}
use Rattle.clap.specs.Kinds.{Kinds}
use Rattle.clap.specs.Faults.{flag_word_fault, long_fault, option_fault, settle_fault, react_fault, short_fault, word_fault, turn_fault, walk_fault}
use Rattle.clap.specs.declared.error.kind.ErrorKind.TheVariants.{TooManyValues}
use Rattle.clap.specs.declared.parser.matches.ValueSource.TheVariants.{CommandLine}
use Rattle.bgsim_command_line.specs.CommandLine.{behind_workers, bgsim_app, file_named, run_app, workers_rule}
use Rattle.bgsim_command_line.proofs.FileWords.{first_none, then_none, Asks, held, long_asked, short_asked, NoShort, short_is_plain, at, step_dashes, step_trailing, step_value, stray_trailing, flag_none, stray_value, FILE, help, help_asks}

-- ---- the rows of the words behind `run`

abbrev workers : Rule
workers = filled workers_rule

abbrev pub run_leaf : Shape
run_leaf = built_leaf (inherited (on_top marked_built bgsim_app).top run_app.top)

abbrev run_rules : List Rule
run_rules = FILE ∷ workers ∷ help ∷ []

abbrev file_row : List Row → Option Row
file_row rows = find (λ r. bytes_eq r.id (codes "FILE")) rows

abbrev value_in : Option Row → Option Text
value_in row = option_and_then (λ r. slice_get r.values 0) row

not_file : (id : Text) → bytes_eq id (codes "workers") ≡ true → bytes_eq id (codes "FILE") ≡ false
not_file id own = ap (λ name. bytes_eq name (codes "FILE")) ((bytes_eq-Decides id (codes "workers")).0 own)

-- a change of the row of the number of workers leaves that of the file
keeps_file : (change : Row → List Row) (missing rows : List Row) → ((r : Row) (rest : List Row) → bytes_eq r.id (codes "workers") ≡ true → file_row (change r ++ rest) ≡ file_row rest) → file_row missing ≡ None
    → file_row (at_row (codes "workers") change missing rows) ≡ file_row rows
keeps_file change missing [] changes none = none
keeps_file change missing (r ∷ rows) changes none = elim (cases_Bool (bytes_eq r.id (codes "workers"))) [
  | inl own ↦ rw (own, not_file r.id own) (changes r rows own)
  | inr other ↦ rw other (ap (λ found. cond (bytes_eq r.id (codes "FILE")) (Some r) found) (keeps_file change missing rows changes none))
]

workers_keep_file : (values : List Text) (rows : List Row) → file_row (used workers values rows) ≡ file_row rows
workers_keep_file values rows =
    keeps_file (more_values CommandLine (values_or_missing workers values)) _ (without (codes "workers") rows) (λ r rest own. rw (not_file r.id own) refl) refl
    ∙ keeps_file (λ r. []) [] rows (λ r rest own. refl) refl

-- where the file has no row, it gets the missing ones
gets_missing : (change : Row → List Row) (missing rows : List Row) → file_row rows ≡ None → file_row (at_row (codes "FILE") change missing rows) ≡ file_row missing
gets_missing change missing [] none = refl
gets_missing change missing (r ∷ rows) none = elim (cases_Bool (bytes_eq r.id (codes "FILE"))) [
  | inl own ↦ absurd (let found = rw own at none in cc)
  | inr other ↦ rw (other, other) (gets_missing change missing rows (rw other at none))
]

file_used : (word : Text) (rows : List Row) → file_row rows ≡ None → value_in (file_row (used FILE (word ∷ []) rows)) ≡ Some word
file_used word rows none =
    ap value_in (gets_missing (more_values CommandLine (word ∷ [])) _ (without (codes "FILE") rows) (gets_missing (λ r. []) [] rows none))

same_either : {X : Type 0} (b : Bool) (x : X) → cond b x x ≡ x
same_either true x = refl
same_either false x = refl

no_defaults : (rows : List Row) → fold with_default rows run_rules ≡ rows
no_defaults rows =
    ap (λ rs. with_default (with_default rs workers) help) (same_either (has_row (codes "FILE") rows) rows)
    ∙ ap (λ rs. with_default rs help) (same_either (has_row (codes "workers") rows) rows) ∙ same_either (has_row (codes "help") rows) rows

-- ---- the steps over them

-- the number of workers comes next
abbrev awaiting : List Row → ℕ → Bool → Walk
awaiting rows position trailing = record (at (held rows (Some (codes "workers", []))) position trailing) { waiting = option (codes "workers") }

abbrev settled_run : List Row → Option (Text × List Text) → List Row
settled_run rows pending = settled_rows run_rules pending rows

step_option : (rows : List Row) (pending : Option (Text × List Text)) (position : ℕ) → walked run_rules [] (at (held rows pending) position false) (codes "--workers") ≡ awaiting (settled_run rows pending) position false
unfolding walked
step_option rows pending position = refl

step_with_number : (rows : List Row) (pending : Option (Text × List Text)) (position : ℕ) (number : Text)
    → walked run_rules [] (at (held rows pending) position false) (codes "--workers=" ++ number) ≡ at (held (used workers (number ∷ []) (settled_run rows pending)) None) position false
unfolding walked
step_with_number rows pending position number = refl

step_awaited_dashes : (rows : List Row) (position : ℕ) (word : Text) → bytes_eq word (codes "--") ≡ true → walked run_rules [] (awaiting rows position false) word ≡ awaiting rows position true
unfolding walked
step_awaited_dashes rows position word dashes = rw dashes refl

either_fails : (b : Bool) (x y : Kinds) → (x ≡ [] → ⊥) → (y ≡ [] → ⊥) → cond b x y ≡ [] → ⊥
either_fails true x y first second none = first none
either_fails false x y first second none = second none

-- what is pending can't be settled
abbrev Unsettled : List Rule → Bool → Held → Type 0
Unsettled rules again h = settle_fault rules again h ≡ [] → ⊥

option_fails : (rules : List Rule) (again : Bool) (a : Rule) (v : Option Text) (h : Held) → Unsettled rules again h → option_fault rules again a v h ≡ [] → ⊥
option_fails rules again a None h unsettled none = unsettled none
option_fails rules again a (Some v) h unsettled none = unsettled (first_none _ _ none)

short_fails : (rules : List Rule) (again : Bool) (found : Option Rule) (rest : Text) (h : Held) (next : Held → Kinds) → Unsettled rules again h → short_fault rules again found rest h next ≡ [] → ⊥
short_fails rules again None rest h next unsettled none = absurd cc
short_fails rules again (Some a) rest h next unsettled none =
    either_fails (takes_values a) _ _ (option_fails rules again a (attached_value rest) h unsettled) (λ none. unsettled (first_none (settle_fault rules again h) _ (first_none _ _ none))) none

flag_fails : (rules : List Rule) (again : Bool) (a : Rule) (v : Option Text) (h : Held) → Unsettled rules again h → cond (is_some v) (TooManyValues ∷ []) (react_fault rules again a [] h) ≡ [] → ⊥
flag_fails rules again a None h unsettled none = unsettled (first_none (settle_fault rules again h) _ none)
flag_fails rules again a (Some v) h unsettled none = absurd cc

long_fails : (rules : List Rule) (again : Bool) (found : Option Rule) (v : Option Text) (h : Held) → Unsettled rules again h → long_fault rules again found v h ≡ [] → ⊥
long_fails rules again None v h unsettled none = absurd cc
long_fails rules again (Some a) v h unsettled none = either_fails (takes_values a) _ _ (option_fails rules again a v h unsettled) (flag_fails rules again a v h unsettled) none

-- without a number
unsettled_option : (rows : List Row) → Unsettled run_rules false (held rows (Some (codes "workers", [])))
unsettled_option rows none = absurd cc

awaited_is_plain : (word : Text) (rows : List Row) → flag_word_fault run_rules false (long_of word) word (held rows (Some (codes "workers", []))) ≡ []
    → long_or_other run_rules (option (codes "workers")) word (long_of word) (held rows (Some (codes "workers", []))) ≡ plain_word run_rules (option (codes "workers")) word (held rows (Some (codes "workers", [])))
awaited_is_plain word rows = go (long_of word)
  where
    no_short : NoShort run_rules false (held rows (Some (codes "workers", [])))
    no_short x rest next none = short_fails run_rules false (arg_by_short run_rules x) rest (held rows (Some (codes "workers", []))) next (unsettled_option rows) none

    go : (long : Option (Text × Option Text)) → flag_word_fault run_rules false long word (held rows (Some (codes "workers", []))) ≡ []
        → long_or_other run_rules (option (codes "workers")) word long (held rows (Some (codes "workers", []))) ≡ plain_word run_rules (option (codes "workers")) word (held rows (Some (codes "workers", [])))
    go None none = short_is_plain run_rules false (option (codes "workers")) word rows (Some (codes "workers", [])) no_short (short_of word) none
    go (Some p) none = absurd (long_fails run_rules false (arg_by_long run_rules p.0) p.1 (held rows (Some (codes "workers", []))) (unsettled_option rows) none)

step_number : (rows : List Row) (position : ℕ) (word : Text) → bytes_eq word (codes "--") ≡ false → turn_fault run_leaf [] (awaiting rows position false) word ≡ []
    → walked run_rules [] (awaiting rows position false) word ≡ at (held rows (Some (codes "workers", word ∷ []))) position false
unfolding walked
step_number rows position word dashes none =
    let flag : flag_word_fault run_rules false (long_of word) word (held rows (Some (codes "workers", []))) ≡ [] = rw dashes at (first_none (word_fault run_leaf [] false (option (codes "workers")) word (held rows (Some (codes "workers", [])))) _ none) in
    rw (dashes, awaited_is_plain word rows flag) refl

-- ---- the word of the option

strip_is : (c : ℕ) (text rest : Text) → strip_byte c text ≡ Some rest → text ≡ c ∷ rest
strip_is c [] rest is = absurd cc
strip_is c (x ∷ xs) rest is = elim (cases_Bool (x == c)) [
  | inl same ↦ let found : xs ≡ rest = let some = rw same at is in cc in let first : x ≡ c = grind (arith, nat_tests) in ap₂ (λ y ys. y ∷ ys) first found
  | inr other ↦ absurd (let none = rw other at is in cc)
]

long_text : (word : Text) (p : Text × Option Text) → long_of word ≡ Some p → (rest : Text) × (word ≡ 45 ∷ 45 ∷ rest) × (p ≡ name_and_value rest)
long_text word p is = once (strip_byte 45 word) refl is
  where
    twice : (text : Text) (stripped : Option Text) → strip_byte 45 word ≡ Some text → strip_byte 45 text ≡ stripped → option_and_then long_of_rest stripped ≡ Some p → (rest : Text) × (word ≡ 45 ∷ 45 ∷ rest) × (p ≡ name_and_value rest)
    twice text None first second is = absurd cc
    twice text (Some []) first second is = absurd cc
    twice text (Some (x ∷ xs)) first second is = (x ∷ xs, strip_is 45 word text first ∙ ap (λ t. 45 ∷ t) (strip_is 45 text (x ∷ xs) second), let q : Some (name_and_value (x ∷ xs)) ≡ Some p = is in cc)

    once : (stripped : Option Text) → strip_byte 45 word ≡ stripped → option_and_then long_of_rest (option_and_then (strip_byte 45) stripped) ≡ Some p → (rest : Text) × (word ≡ 45 ∷ 45 ∷ rest) × (p ≡ name_and_value rest)
    once None first is = absurd cc
    once (Some text) first is = twice text (strip_byte 45 text) first refl is

abbrev before_equals : Text → Text
before_equals text = before_first (λ x. x == 61) text

abbrev IsCut : Text → Text → Type 0
IsCut text front = (text ≡ front) ⊎ ((rest : Text) × (text ≡ front ++ 61 ∷ rest))

one_longer : (x : ℕ) (text front : Text) → IsCut text front → IsCut (x ∷ text) (x ∷ front)
one_longer x text front (inl same) = inl (ap (λ t. x ∷ t) same)
one_longer x text front (inr cut) = inr (cut.0, ap (λ t. x ∷ t) cut.1)

longer : (n x : ℕ) (xs : Text) → take (1 + n) (x ∷ xs) ≡ x ∷ take n xs
longer n x xs = let same : 1 + n ≡ suc n = omega arith in ap (λ m. take m (x ∷ xs)) same

is_cut : (text : Text) → IsCut text (before_equals text)
is_cut [] = inl refl
is_cut (x ∷ xs) = elim (cases_Bool (x == 61)) [
  | inl same ↦ let first : x ≡ 61 = grind (arith, nat_tests) in rw same (inr (xs, ap (λ y. y ∷ xs) first))
  | inr other ↦ let front : before_equals (x ∷ xs) ≡ x ∷ before_equals xs = rw other (longer _ x xs) in subst (IsCut (x ∷ xs)) (sym front) (one_longer x xs (before_equals xs) (is_cut xs))
]

-- a word that names the option is the option's
names_option : (word : Text) (p : Text × Option Text) → long_of word ≡ Some p → bytes_eq (codes "workers") p.0 ≡ true → bytes_eq word (codes "--workers") ≡ false → bytes_eq (take 10 word) (codes "--workers=") ≡ false → ⊥
names_option word p is own not_alone not_with =
    let text = long_text word p is in
    let front : before_equals text.0 ≡ codes "workers" = sym (ap (λ (q : Text × Option Text). q.0) text.2) ∙ sym ((bytes_eq-Decides (codes "workers") p.0).0 own) in
    elim (subst (IsCut text.0) front (is_cut text.0)) as (λ x. ⊥) [
      | inl same ↦ let word_is : word ≡ codes "--workers" = text.1 ∙ ap (λ t. 45 ∷ 45 ∷ t) same in let found = (bytes_eq-Decides word (codes "--workers")).1 word_is in cc
      | inr cut ↦ let word_is : word ≡ codes "--workers=" ++ cut.0 = text.1 ∙ ap (λ t. 45 ∷ 45 ∷ t) cut.1 in let found : bytes_eq (take 10 word) (codes "--workers=") ≡ true = ap (λ w. bytes_eq (take 10 w) (codes "--workers=")) word_is in cc
    ]

run_long : (name : Text) → bytes_eq (codes "workers") name ≡ false → IfSome (arg_by_long run_rules name) Asks
run_long name other = rw other (long (bytes_eq (codes "help") name))
  where
    long : (is : Bool) → IfSome (cond (is || false) (Some help) None) Asks
    long true = help_asks
    long false = tt

run_short : (x : ℕ) → IfSome (arg_by_short run_rules x) Asks
run_short x = short (104 == x)
  where
    short : (is : Bool) → IfSome (cond (is || false) (Some help) None) Asks
    short true = help_asks
    short false = tt

-- any other word that is no fault is a value
run_value : (word : Text) (rows : List Row) (pending : Option (Text × List Text)) → bytes_eq word (codes "--workers") ≡ false → bytes_eq (take 10 word) (codes "--workers=") ≡ false
    → flag_word_fault run_rules false (long_of word) word (held rows pending) ≡ [] → long_or_other run_rules idle word (long_of word) (held rows pending) ≡ (held rows pending, value)
run_value word rows pending not_alone not_with = go (long_of word) refl
  where
    no_short : NoShort run_rules false (held rows pending)
    no_short x rest next none = short_asked run_rules false (arg_by_short run_rules x) rest (held rows pending) next (run_short x) none

    go : (long : Option (Text × Option Text)) → long_of word ≡ long → flag_word_fault run_rules false long word (held rows pending) ≡ [] → long_or_other run_rules idle word long (held rows pending) ≡ (held rows pending, value)
    go None is none = short_is_plain run_rules false idle word rows pending no_short (short_of word) none
    go (Some p) is none = elim (cases_Bool (bytes_eq (codes "workers") p.0)) [
      | inl own ↦ absurd (names_option word p is own not_alone not_with)
      | inr other ↦ absurd (long_asked run_rules false (arg_by_long run_rules p.0) p.1 (held rows pending) (run_long p.0 other) none)
    ]

-- ---- the file behind `run`

abbrev run_at : (is_next : Bool) → List Row → Option (Text × List Text) → ℕ → Bool → Walk
run_at true rows pending position trailing = awaiting rows position trailing
run_at false rows pending position trailing = at (held rows pending) position trailing

abbrev rows_to : (is_next : Bool) → List Row → Option (Text × List Text) → List Row
rows_to true rows pending = rows
rows_to false rows pending = settled_run rows pending

abbrev file_after : Walk → List Text → Option Text
file_after w words = first_of (codes "FILE") (finished run_rules (fold (walked run_rules []) w words).held)

at_end : (is_next : Bool) (rows : List Row) (pending : Option (Text × List Text)) (position : ℕ) (trailing : Bool) → file_after (run_at is_next rows pending position trailing) [] ≡ value_in (file_row (rows_to is_next rows pending))
at_end true rows pending position trailing = ap (first_of (codes "FILE")) (no_defaults (used workers [] rows)) ∙ ap value_in (workers_keep_file [] rows)
at_end false rows pending position trailing = ap (first_of (codes "FILE")) (no_defaults (settled_run rows pending))

turn_fine : (w : Walk) (word : Text) (words : List Text) → walk_fault run_leaf [] w (word ∷ words) ≡ [] → turn_fault run_leaf [] w word ≡ []
unfolding walk_fault
turn_fine w word words none = first_none _ (walk_fault run_leaf [] (walked run_rules [] w word) words) none

rest_fine : (w later : Walk) (word : Text) (words : List Text) → walked run_rules [] w word ≡ later → walk_fault run_leaf [] w (word ∷ words) ≡ [] → walk_fault run_leaf [] later words ≡ []
unfolding walk_fault
rest_fine w later word words step none = subst (λ v. walk_fault run_leaf [] v words ≡ []) step (then_none (turn_fault run_leaf [] w word) _ none)

no_flag : (rows : List Row) (pending : Option (Text × List Text)) (position : ℕ) (word : Text) (words : List Text) → bytes_eq word (codes "--") ≡ false → walk_fault run_leaf [] (at (held rows pending) position false) (word ∷ words) ≡ []
    → flag_word_fault run_rules false (long_of word) word (held rows pending) ≡ []
no_flag rows pending position word words dashes none = flag_none run_leaf [] (held rows pending) position word refl dashes (turn_fine (at (held rows pending) position false) word words none)

option_is : (rows : List Row) (pending : Option (Text × List Text)) (position : ℕ) (word : Text) → bytes_eq word (codes "--workers") ≡ true → walked run_rules [] (at (held rows pending) position false) word ≡ awaiting (settled_run rows pending) position false
option_is rows pending position word is = ap (walked run_rules [] (at (held rows pending) position false)) ((bytes_eq-Decides word (codes "--workers")).0 is) ∙ step_option rows pending position

with_number_is : (rows : List Row) (pending : Option (Text × List Text)) (position : ℕ) (word : Text) → bytes_eq (take 10 word) (codes "--workers=") ≡ true
    → walked run_rules [] (at (held rows pending) position false) word ≡ at (held (used workers (drop 10 word ∷ []) (settled_run rows pending)) None) position false
with_number_is rows pending position word is =
    let word_is : word ≡ codes "--workers=" ++ drop 10 word = sym (take-append-drop 10 word) ∙ ap (λ front. front ++ drop 10 word) ((bytes_eq-Decides (take 10 word) (codes "--workers=")).0 is) in
    ap (walked run_rules [] (at (held rows pending) position false)) word_is ∙ step_with_number rows pending position (drop 10 word)

-- the file is there, and stays
abbrev StaysThere : List Text → Type 0
StaysThere words = (is_next : Bool) (rows : List Row) (pending : Option (Text × List Text)) (trailing : Bool) (file : Text) → value_in (file_row (rows_to is_next rows pending)) ≡ Some file
    → walk_fault run_leaf [] (run_at is_next rows pending 2 trailing) words ≡ [] → file_after (run_at is_next rows pending 2 trailing) words ≡ Some file

stays_awaiting : (is_dashes : Bool) (word : Text) (words : List Text) (rows : List Row) (file : Text) → bytes_eq word (codes "--") ≡ is_dashes → value_in (file_row rows) ≡ Some file → StaysThere words
    → walk_fault run_leaf [] (awaiting rows 2 false) (word ∷ words) ≡ [] → file_after (awaiting rows 2 false) (word ∷ words) ≡ Some file
stays_awaiting true word words rows file dashes there later none =
    let step = step_awaited_dashes rows 2 word dashes in
    ap (λ w. file_after w words) step ∙ later true rows None true file there (rest_fine (awaiting rows 2 false) (awaiting rows 2 true) word words step none)
stays_awaiting false word words rows file dashes there later none =
    let step = step_number rows 2 word dashes (turn_fine (awaiting rows 2 false) word words none) in
    ap (λ w. file_after w words) step
    ∙ later false rows (Some (codes "workers", word ∷ [])) false file (ap value_in (workers_keep_file (word ∷ []) rows) ∙ there) (rest_fine (awaiting rows 2 false) (at (held rows (Some (codes "workers", word ∷ []))) 2 false) word words step none)

stays_idle : (is_option is_with is_dashes : Bool) (word : Text) (words : List Text) (rows : List Row) (pending : Option (Text × List Text)) (file : Text)
    → bytes_eq word (codes "--workers") ≡ is_option → bytes_eq (take 10 word) (codes "--workers=") ≡ is_with → bytes_eq word (codes "--") ≡ is_dashes → value_in (file_row (settled_run rows pending)) ≡ Some file → StaysThere words
    → walk_fault run_leaf [] (at (held rows pending) 2 false) (word ∷ words) ≡ [] → file_after (at (held rows pending) 2 false) (word ∷ words) ≡ Some file
stays_idle true is_with is_dashes word words rows pending file alone with_number dashes there later none =
    let step = option_is rows pending 2 word alone in
    ap (λ w. file_after w words) step ∙ later true (settled_run rows pending) None false file there (rest_fine (at (held rows pending) 2 false) (awaiting (settled_run rows pending) 2 false) word words step none)
stays_idle false true is_dashes word words rows pending file alone with_number dashes there later none =
    let step = with_number_is rows pending 2 word with_number in
    let now = used workers (drop 10 word ∷ []) (settled_run rows pending) in
    ap (λ w. file_after w words) step
    ∙ later false now None false file (ap value_in (workers_keep_file (drop 10 word ∷ []) (settled_run rows pending)) ∙ there) (rest_fine (at (held rows pending) 2 false) (at (held now None) 2 false) word words step none)
stays_idle false false true word words rows pending file alone with_number dashes there later none =
    let step = step_dashes run_rules [] (held rows pending) 2 word refl dashes in
    ap (λ w. file_after w words) step ∙ later false rows pending true file there (rest_fine (at (held rows pending) 2 false) (at (held rows pending) 2 true) word words step none)
stays_idle false false false word words rows pending file alone with_number dashes there later none =
    let is = run_value word rows pending alone with_number (no_flag rows pending 2 word words dashes none) in
    absurd (stray_value run_leaf [] (held rows pending) 2 word refl refl dashes is (turn_fine (at (held rows pending) 2 false) word words none))

stays_there : (words : List Text) → StaysThere words
stays_there [] is_next rows pending trailing file there none = at_end is_next rows pending 2 trailing ∙ there
stays_there (word ∷ words) true rows pending true file there none = absurd (stray_trailing run_leaf [] (held rows (Some (codes "workers", []))) 2 word refl (turn_fine (awaiting rows 2 true) word words none))
stays_there (word ∷ words) false rows pending true file there none = absurd (stray_trailing run_leaf [] (held rows pending) 2 word refl (turn_fine (at (held rows pending) 2 true) word words none))
stays_there (word ∷ words) true rows pending false file there none = stays_awaiting (bytes_eq word (codes "--")) word words rows file refl there (stays_there words) none
stays_there (word ∷ words) false rows pending false file there none =
    stays_idle (bytes_eq word (codes "--workers")) (bytes_eq (take 10 word) (codes "--workers=")) (bytes_eq word (codes "--")) word words rows pending file refl refl refl there (stays_there words) none

-- the file isn't there yet
abbrev FindsFile : List Text → Type 0
FindsFile words = (is_next : Bool) (rows : List Row) (pending : Option (Text × List Text)) → file_row (rows_to is_next rows pending) ≡ None
    → walk_fault run_leaf [] (run_at is_next rows pending 1 false) words ≡ [] → file_after (run_at is_next rows pending 1 false) words ≡ file_named (behind_workers is_next words)

and_false : (b : Bool) → (b && false) ≡ false
and_false true = refl
and_false false = refl

to_file : (rows : List Row) (pending : Option (Text × List Text)) (word : Text) (trailing : Bool)
    → to_positional run_rules (Some FILE) word (at (held rows pending) 1 trailing) (held rows pending) ≡ at (held (settled_run rows pending) (Some (codes "FILE", word ∷ []))) 2 trailing
to_file rows pending word true = rw (and_false (is_pending FILE pending)) refl
to_file rows pending word false = rw (and_false (is_pending FILE pending)) refl

file_taken : (rows : List Row) (pending : Option (Text × List Text)) (word : Text) (words : List Text) (trailing : Bool) → file_row (settled_run rows pending) ≡ None
    → walked run_rules [] (at (held rows pending) 1 trailing) word ≡ to_positional run_rules (Some FILE) word (at (held rows pending) 1 trailing) (held rows pending)
    → walk_fault run_leaf [] (at (held rows pending) 1 trailing) (word ∷ words) ≡ [] → file_after (at (held rows pending) 1 trailing) (word ∷ words) ≡ Some word
file_taken rows pending word words trailing absent is none =
    let step = is ∙ to_file rows pending word trailing in
    ap (λ w. file_after w words) step
    ∙ stays_there words false (settled_run rows pending) (Some (codes "FILE", word ∷ [])) trailing word (file_used word (settled_run rows pending) absent)
    (rest_fine (at (held rows pending) 1 trailing) (at (held (settled_run rows pending) (Some (codes "FILE", word ∷ []))) 2 trailing) word words step none)

finds_awaiting : (is_dashes : Bool) (word : Text) (words : List Text) (rows : List Row) → bytes_eq word (codes "--") ≡ is_dashes → file_row rows ≡ None → FindsFile words
    → walk_fault run_leaf [] (awaiting rows 1 false) (word ∷ words) ≡ [] → file_after (awaiting rows 1 false) (word ∷ words) ≡ file_named (behind_workers false words)
finds_awaiting true word [] rows dashes absent later none =
    let step = step_awaited_dashes rows 1 word dashes in
    ap (λ w. file_after w []) step ∙ at_end true rows None 1 true ∙ ap value_in absent
finds_awaiting true word (next ∷ words) rows dashes absent later none =
    let rest = rest_fine (awaiting rows 1 false) (awaiting rows 1 true) word (next ∷ words) (step_awaited_dashes rows 1 word dashes) none in
    absurd (unsettled_option rows (turn_fine (awaiting rows 1 true) next words rest))
finds_awaiting false word words rows dashes absent later none =
    let step = step_number rows 1 word dashes (turn_fine (awaiting rows 1 false) word words none) in
    ap (λ w. file_after w words) step
    ∙ later false rows (Some (codes "workers", word ∷ [])) (workers_keep_file (word ∷ []) rows ∙ absent) (rest_fine (awaiting rows 1 false) (at (held rows (Some (codes "workers", word ∷ []))) 1 false) word words step none)

finds_idle : (is_option is_with is_dashes : Bool) (word : Text) (words : List Text) (rows : List Row) (pending : Option (Text × List Text))
    → bytes_eq word (codes "--workers") ≡ is_option → bytes_eq (take 10 word) (codes "--workers=") ≡ is_with → bytes_eq word (codes "--") ≡ is_dashes → file_row (settled_run rows pending) ≡ None → FindsFile words
    → walk_fault run_leaf [] (at (held rows pending) 1 false) (word ∷ words) ≡ [] → file_after (at (held rows pending) 1 false) (word ∷ words) ≡ file_named (behind_workers false (word ∷ words))
finds_idle true is_with is_dashes word words rows pending alone with_number dashes absent later none =
    let step = option_is rows pending 1 word alone in
    rw alone (ap (λ w. file_after w words) step ∙ later true (settled_run rows pending) None absent (rest_fine (at (held rows pending) 1 false) (awaiting (settled_run rows pending) 1 false) word words step none))
finds_idle false true is_dashes word words rows pending alone with_number dashes absent later none =
    let step = with_number_is rows pending 1 word with_number in
    let now = used workers (drop 10 word ∷ []) (settled_run rows pending) in
    rw (alone, with_number) (ap (λ w. file_after w words) step
    ∙ later false now None (workers_keep_file (drop 10 word ∷ []) (settled_run rows pending) ∙ absent) (rest_fine (at (held rows pending) 1 false) (at (held now None) 1 false) word words step none))
finds_idle false false true word [] rows pending alone with_number dashes absent later none =
    let step = step_dashes run_rules [] (held rows pending) 1 word refl dashes in
    rw (alone, with_number, dashes) (ap (λ w. file_after w []) step ∙ at_end false rows pending 1 true ∙ ap value_in absent)
finds_idle false false true word (next ∷ words) rows pending alone with_number dashes absent later none =
    let step = step_dashes run_rules [] (held rows pending) 1 word refl dashes in
    rw (alone, with_number, dashes) (ap (λ w. file_after w (next ∷ words)) step
    ∙ file_taken rows pending next words true absent (step_trailing run_rules [] (held rows pending) 1 next) (rest_fine (at (held rows pending) 1 false) (at (held rows pending) 1 true) word (next ∷ words) step none))
finds_idle false false false word words rows pending alone with_number dashes absent later none =
    let is = run_value word rows pending alone with_number (no_flag rows pending 1 word words dashes none) in
    rw (alone, with_number, dashes) (file_taken rows pending word words false absent (step_value run_rules [] (held rows pending) 1 word refl dashes is) none)

finds_file : (words : List Text) → FindsFile words
finds_file [] true rows pending absent none = at_end true rows pending 1 false ∙ ap value_in absent
finds_file [] false rows pending absent none = at_end false rows pending 1 false ∙ ap value_in absent
finds_file (word ∷ words) true rows pending absent none = finds_awaiting (bytes_eq word (codes "--")) word words rows refl absent (finds_file words) none
finds_file (word ∷ words) false rows pending absent none =
    finds_idle (bytes_eq word (codes "--workers")) (bytes_eq (take 10 word) (codes "--workers=")) (bytes_eq word (codes "--")) word words rows pending refl refl refl absent (finds_file words) none

pub run_file : (words : List Text) → walk_fault run_leaf [] (at nothing_held 1 false) words ≡ [] → first_of (codes "FILE") (rows_after run_rules [] words) ≡ file_named (behind_workers false words)
run_file words none = finds_file words false [] None refl none
