-- What the words behind a subcommand that takes a file ask for.
use Rattle.std.proofs.Common.{[], option_map, ◌==◌, ◌≡◌, ◌∙◌, ◌||◌, ℕ, Bool, cond, codes, true, false, suc, refl, ap, subst, List, ◌∷◌, length, Option, Some, None, IfSome}
use Rattle.std.specs.Prelude.{fold, slice_get}
use Rattle.std.specs.Option.{option_map_or}
use Rattle.std.specs.Str.{bytes_eq, chars}
use Rattle.clap.specs.Lexer.{long_of, short_of}
use Rattle.clap.specs.Matches.{first_value}
use Rattle.clap.specs.declared.parser.matches.Found.{Found}
use Rattle.clap.specs.Walk.{Held, Names, plain, Row, Rule, Text, Waiting, Walk, plain_word, after_flag, bundle_step, idle, value, arg_by_index, arg_by_long, arg_by_short, finished, first_of, long_or_other, nothing_held, rows_after, rows_of, short_or_plain, takes_values, to_positional, subcommand_met, walked, bundle_met}
use Rattle.clap.specs.Simple.{Shape, built_leaf, filled, help_rule, inherited, marked_built, new_rule, on_top, version_rule, with_index}
use Rattle.clap.specs.Kinds.{Kinds, or_else}
use Rattle.clap.specs.Faults.{bundle_fault, bundle_step_fault, flag_word_fault, flags_fault, long_fault, react_fault, short_fault, stray_fault, word_fault, turn_fault, use_fault, walk_fault}
use Rattle.clap.specs.declared.error.kind.ErrorKind.{ErrorKind}
use Rattle.clap.specs.declared.error.kind.ErrorKind.TheVariants.{InvalidSubcommand, UnknownArgument}
use Rattle.clap.proofs.WalkLemmas.{first_value-rows}
use Rattle.bgsim_command_line.specs.CommandLine.{bgsim_app, file_among, file_app, file_named, workers_among}

-- ---- no fault

pub first_none : (a b : Kinds) → or_else a b ≡ [] → a ≡ []
first_none [] b none = refl
first_none (k ∷ ks) b none = absurd cc

pub then_none : (a b : Kinds) → or_else a b ≡ [] → b ≡ []
then_none [] b none = none
then_none (k ∷ ks) b none = absurd cc

never : (a : Kinds) (k : ErrorKind) (ks : Kinds) → or_else a (k ∷ ks) ≡ [] → ⊥
never a k ks none = let no = then_none a (k ∷ ks) none in absurd cc

-- ---- flags that only ask

-- a use of the flag answers with a text, and so is a fault
abbrev pub Asks : Rule → Type 0
Asks a = (takes_values a ≡ false) × ((again : Bool) (rows : List Row) → use_fault again a [] rows ≡ [] → ⊥)

abbrev pub OnlyAsk : List Rule → Type 0
OnlyAsk rules = ((name : Text) → IfSome (arg_by_long rules name) Asks) × ((x : ℕ) → IfSome (arg_by_short rules x) Asks)

abbrev pub held : List Row → Option (Text × List Text) → Held
held rows pending = record { rows = rows; pending = pending; skip = 0 }

asked : (rules : List Rule) (again : Bool) (a : Rule) (h : Held) → Asks a → react_fault rules again a [] h ≡ [] → ⊥
asked rules again a h asks none = asks.1 again _ (then_none _ _ none)

pub long_asked : (rules : List Rule) (again : Bool) (found : Option Rule) (v : Option Text) (h : Held) → IfSome found Asks → long_fault rules again found v h ≡ [] → ⊥
long_asked rules again None v h asks none = absurd cc
long_asked rules again (Some a) None h asks none = asked rules again a h asks (rw asks.0 at none)
long_asked rules again (Some a) (Some text) h asks none = let no = rw asks.0 at none in absurd cc

pub short_asked : (rules : List Rule) (again : Bool) (found : Option Rule) (rest : Text) (h : Held) (next : Held → Kinds) → IfSome found Asks → short_fault rules again found rest h next ≡ [] → ⊥
short_asked rules again None rest h next asks none = absurd cc
short_asked rules again (Some a) rest h next asks none = asked rules again a h asks (first_none _ _ (rw asks.0 at none))

-- each use of a short flag is a fault
abbrev pub NoShort : List Rule → Bool → Held → Type 0
NoShort rules again h = (x : ℕ) (rest : Text) (next : Held → Kinds) → short_fault rules again (arg_by_short rules x) rest h next ≡ [] → ⊥

bundle_plain : (rules : List Rule) (again : Bool) (x : ℕ) (xs : List ℕ) (rows : List Row) (pending : Option (Text × List Text)) → NoShort rules again (held rows pending)
    → flags_fault rules again (suc (length xs)) (x ∷ xs) 0 (held rows pending) ≡ []
    → bundle_met rules (suc (length xs)) (x ∷ xs) 0 plain (held rows pending) ≡ (held rows pending, plain)
unfolding flags_fault bundle_met
bundle_plain rules again x xs rows pending no_short = go (slice_get (chars (x ∷ xs)) 0)
  where
    go : (first : Option ℕ) → bundle_step_fault rules again first (x ∷ xs) 0 (held rows pending) (flags_fault rules again (length xs)) ≡ []
        → bundle_step rules first (x ∷ xs) 0 plain (held rows pending) (bundle_met rules (length xs)) ≡ (held rows pending, plain)
    go None none = refl
    go (Some c) none = absurd (no_short c _ _ none)

-- without a fault, a word that isn't long is plain
pub short_is_plain : (rules : List Rule) (again : Bool) (waiting : Waiting) (word : Text) (rows : List Row) (pending : Option (Text × List Text)) → NoShort rules again (held rows pending)
    → (flags : Option Text) → option_map_or (λ f. bundle_fault rules again f (held rows pending)) flags [] ≡ [] → short_or_plain rules waiting word flags (held rows pending) ≡ plain_word rules waiting word (held rows pending)
unfolding bundle_met
short_is_plain rules again waiting word rows pending no_short None none = refl
short_is_plain rules again waiting word rows pending no_short (Some []) none = refl
short_is_plain rules again waiting word rows pending no_short (Some (x ∷ xs)) none =
    ap (λ met. after_flag rules waiting word met.0 met.1) (bundle_plain rules again x xs rows pending no_short none)

-- a word that is no fault is a value, where no argument but the positionals takes one
pub word_is_value : (rules : List Rule) (again : Bool) → OnlyAsk rules → (word : Text) (rows : List Row) (pending : Option (Text × List Text))
    → flag_word_fault rules again (long_of word) word (held rows pending) ≡ [] → long_or_other rules idle word (long_of word) (held rows pending) ≡ (held rows pending, value)
word_is_value rules again only word rows pending = go (long_of word)
  where
    no_short : NoShort rules again (held rows pending)
    no_short x rest next none = short_asked rules again (arg_by_short rules x) rest (held rows pending) next (only.1 x) none

    go : (long : Option (Text × Option Text)) → flag_word_fault rules again long word (held rows pending) ≡ [] → long_or_other rules idle word long (held rows pending) ≡ (held rows pending, value)
    go None none = short_is_plain rules again idle word rows pending no_short (short_of word) none
    go (Some p) none = absurd (long_asked rules again (arg_by_long rules p.0) p.1 (held rows pending) (only.0 p.0) none)

-- ---- the file in the matches

pub file_found : (found : Option (Text × List Row)) (f : Found) (file : Option Text) → file ≡ first_value f (codes "FILE") → Some (rows_of f) ≡ option_map (λ sub. sub.1) found → file ≡ file_among found
file_found None f file is there = absurd cc
file_found (Some sub) f file is there =
    let rows : rows_of f ≡ sub.1 = cc in
    is ∙ first_value-rows f (codes "FILE") ∙ ap (first_of (codes "FILE")) rows

pub workers_found : (found : Option (Text × List Row)) (f : Found) → Some (rows_of f) ≡ option_map (λ sub. sub.1) found → first_value f (codes "workers") ≡ workers_among found
workers_found None f there = absurd cc
workers_found (Some sub) f there =
    let rows : rows_of f ≡ sub.1 = cc in
    first_value-rows f (codes "workers") ∙ ap (first_of (codes "workers")) rows

-- ---- steps over the words

abbrev pub at : Held → ℕ → Bool → Walk
at h position trailing = record { held = h; waiting = idle; position = position; is_trailing = trailing; stopped = None }

pub step_dashes : (rules : List Rule) (names : Names) (h : Held) (position : ℕ) (word : Text) → subcommand_met names idle word ≡ None → bytes_eq word (codes "--") ≡ true
    → walked rules names (at h position false) word ≡ at h position true
unfolding walked
step_dashes rules names h position word none dashes = rw (none, dashes) refl

pub step_trailing : (rules : List Rule) (names : Names) (h : Held) (position : ℕ) (word : Text)
    → walked rules names (at h position true) word ≡ to_positional rules (arg_by_index rules position) word (at h position true) h
unfolding walked
step_trailing rules names h position word = refl

pub step_value : (rules : List Rule) (names : Names) (h : Held) (position : ℕ) (word : Text) → subcommand_met names idle word ≡ None → bytes_eq word (codes "--") ≡ false
    → long_or_other rules idle word (long_of word) h ≡ (h, value)
    → walked rules names (at h position false) word ≡ to_positional rules (arg_by_index rules position) word (at h position false) h
unfolding walked
step_value rules names h position word none dashes is = rw (none, dashes, is) refl

-- a word that no positional takes is a fault
stray : (s : Shape) → stray_fault s ≡ [] → ⊥
stray s none = go s.is_leaf none
  where
    go : (leaf : Bool) → cond leaf (UnknownArgument ∷ []) (UnknownArgument ∷ InvalidSubcommand ∷ []) ≡ [] → ⊥
    go true none = absurd cc
    go false none = absurd cc

pub stray_trailing : (s : Shape) (names : Names) (h : Held) (position : ℕ) (word : Text) → arg_by_index s.rules position ≡ None → turn_fault s names (at h position true) word ≡ [] → ⊥
stray_trailing s names h position word none_there none = stray s (rw none_there at none)

-- of a word that is no fault, the flag is none
pub flag_none : (s : Shape) (names : Names) (h : Held) (position : ℕ) (word : Text) → subcommand_met names idle word ≡ None → bytes_eq word (codes "--") ≡ false
    → turn_fault s names (at h position false) word ≡ [] → flag_word_fault s.rules s.args_override_self (long_of word) word h ≡ []
flag_none s names h position word no_sub dashes none =
    let first = first_none (word_fault s names false idle word h) _ none in
    rw (no_sub, dashes) at first

pub stray_value : (s : Shape) (names : Names) (h : Held) (position : ℕ) (word : Text) → arg_by_index s.rules position ≡ None → subcommand_met names idle word ≡ None → bytes_eq word (codes "--") ≡ false
    → long_or_other s.rules idle word (long_of word) h ≡ (h, value) → turn_fault s names (at h position false) word ≡ [] → ⊥
stray_value s names h position word none_there no_sub dashes is none =
    let second = then_none (word_fault s names false idle word h) _ none in
    stray s (rw (no_sub, dashes, is, none_there) at second)

-- ---- the words behind a subcommand that takes a file

abbrev pub FILE : Rule
FILE = with_index 1 (filled (new_rule (codes "FILE")))

abbrev pub help : Rule
help = filled help_rule

abbrev pub version : Rule
version = filled version_rule

-- the subcommand of this word, once it is built
abbrev pub leaf : Text → Shape
leaf name = built_leaf (inherited (on_top marked_built bgsim_app).top (file_app name).top)

abbrev leaf_rules : List Rule
leaf_rules = FILE ∷ help ∷ []

pub help_asks : Asks help
help_asks = (refl, λ again rows none. absurd cc)

pub version_asks : Asks version
version_asks = (refl, λ again rows none. absurd cc)

leaf_asks : OnlyAsk leaf_rules
leaf_asks = (λ name. long (bytes_eq (codes "help") name), λ x. short (104 == x))
  where
    long : (is : Bool) → IfSome (cond (is || false) (Some help) None) Asks
    long true = help_asks
    long false = tt

    short : (is : Bool) → IfSome (cond (is || false) (Some help) None) Asks
    short true = help_asks
    short false = tt

-- the file is there, and no further word is taken
abbrev with_file : Text → Held
with_file word = held [] (Some (codes "FILE", word ∷ []))

abbrev TakesNoMore : Text → Bool → Text → List Text → Type 0
TakesNoMore name trailing word words = walk_fault (leaf name) [] (at (with_file word) 2 trailing) words ≡ []
    → (fold (walked leaf_rules []) (at (with_file word) 2 trailing) words).held ≡ with_file word

word_more : (name word next : Text) (words : List Text) → TakesNoMore name true word words → (is : Bool) → bytes_eq next (codes "--") ≡ is → TakesNoMore name false word (next ∷ words)
unfolding walk_fault
word_more name word next words later true dashes none =
    let step = step_dashes leaf_rules [] (with_file word) 2 next refl dashes in
    let rest : walk_fault (leaf name) [] (walked leaf_rules [] (at (with_file word) 2 false) next) words ≡ [] = then_none _ _ none in
    ap (λ w. (fold (walked leaf_rules []) w words).held) step ∙ later (subst (λ w. walk_fault (leaf name) [] w words ≡ []) step rest)
word_more name word next words later false dashes none =
    let turn = first_none _ _ none in
    let flag = flag_none (leaf name) [] (with_file word) 2 next refl dashes turn in
    let is = word_is_value leaf_rules false leaf_asks next [] _ flag in
    absurd (stray_value (leaf name) [] (with_file word) 2 next refl refl dashes is turn)

no_more : (name : Text) (trailing : Bool) (word : Text) (words : List Text) → TakesNoMore name trailing word words
unfolding walk_fault
no_more name trailing word [] none = refl
no_more name true word (next ∷ words) none =
    let turn = first_none (turn_fault (leaf name) [] (at (with_file word) 2 true) next) (walk_fault (leaf name) [] (walked leaf_rules [] (at (with_file word) 2 true) next) words) none in
    absurd (stray_trailing (leaf name) [] (with_file word) 2 next refl turn)
no_more name false word (next ∷ words) none = word_more name word next words (no_more name true word words) (bytes_eq next (codes "--")) refl none

with_file_first : (word : Text) → first_of (codes "FILE") (finished leaf_rules (with_file word)) ≡ Some word
with_file_first word = refl

-- where the words behind the subcommand are no fault, the file is the one that they name
abbrev NamesFile : Text → Text → List Text → Type 0
NamesFile name word words = walk_fault (leaf name) [] (at nothing_held 1 false) (word ∷ words) ≡ [] → first_of (codes "FILE") (rows_after leaf_rules [] (word ∷ words)) ≡ file_named (word ∷ words)

file_behind : (name : Text) (is_first : Bool) (word : Text) (words : List Text) → bytes_eq word (codes "--") ≡ is_first → NamesFile name word words
unfolding walk_fault
file_behind name true word [] dashes none =
    ap (λ w. first_of (codes "FILE") (finished leaf_rules w.held)) (step_dashes leaf_rules [] nothing_held 1 word refl dashes) ∙ (rw dashes refl)
file_behind name true word (next ∷ words) dashes none =
    let step = step_dashes leaf_rules [] nothing_held 1 word refl dashes in
    let step_2 = step_trailing leaf_rules [] nothing_held 1 next in
    let rest : walk_fault (leaf name) [] (walked leaf_rules [] (at nothing_held 1 false) word) (next ∷ words) ≡ [] = then_none (turn_fault (leaf name) [] (at nothing_held 1 false) word) _ none in
    let rest_2 : walk_fault (leaf name) [] (walked leaf_rules [] (at nothing_held 1 true) next) words ≡ [] = then_none (turn_fault (leaf name) [] (at nothing_held 1 true) next) _ (subst (λ w. walk_fault (leaf name) [] w (next ∷ words) ≡ []) step rest) in
    let ends = no_more name true next words (subst (λ w. walk_fault (leaf name) [] w words ≡ []) step_2 rest_2) in
    ap (λ w. first_of (codes "FILE") (finished leaf_rules (fold (walked leaf_rules []) w (next ∷ words)).held)) step
    ∙ ap (λ w. first_of (codes "FILE") (finished leaf_rules (fold (walked leaf_rules []) w words).held)) step_2
    ∙ ap (λ h. first_of (codes "FILE") (finished leaf_rules h)) ends ∙ with_file_first next ∙ (rw dashes refl)
file_behind name false word words dashes none =
    let turn = first_none (turn_fault (leaf name) [] (at nothing_held 1 false) word) (walk_fault (leaf name) [] (walked leaf_rules [] (at nothing_held 1 false) word) words) none in
    let flag = flag_none (leaf name) [] nothing_held 1 word refl dashes turn in
    let is = word_is_value leaf_rules false leaf_asks word [] None flag in
    let step = step_value leaf_rules [] nothing_held 1 word refl dashes is in
    let rest : walk_fault (leaf name) [] (walked leaf_rules [] (at nothing_held 1 false) word) words ≡ [] = then_none (turn_fault (leaf name) [] (at nothing_held 1 false) word) _ none in
    let ends = no_more name false word words (subst (λ w. walk_fault (leaf name) [] w words ≡ []) step rest) in
    ap (λ w. first_of (codes "FILE") (finished leaf_rules (fold (walked leaf_rules []) w words).held)) step
    ∙ ap (λ h. first_of (codes "FILE") (finished leaf_rules h)) ends ∙ with_file_first word ∙ (rw dashes refl)

pub file_is : (name : Text) (words : List Text) → walk_fault (leaf name) [] (at nothing_held 1 false) words ≡ [] → first_of (codes "FILE") (rows_after leaf_rules [] words) ≡ file_named words
file_is name [] none = refl
file_is name (word ∷ words) none = file_behind name (bytes_eq word (codes "--")) word words refl none
