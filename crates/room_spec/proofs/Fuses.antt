-- The crash lines: what each says is what it was written from, and there are no more of them than simulators.
use Rattle.std.proofs.Common.{◌≡◌, ℕ, ◌-◌, ◌^◌, ◌<◌, ◌≤◌, Bool, true, false, ◌&&◌, List, [], ◌∷◌, ◌++◌, suc, length, map, Option, Some, None, Result, Ok, Err, cond, refl, sym, ap, ◌∙◌, subst, arith, inl, inr, Bor}
use Rattle.std.specs.Prelude.{codes, nat_eq, nat_lt}
use Rattle.std.specs.Option.{is_some, option_copied}
use Rattle.std.specs.List.{IsDistinct, AllByRecursion, join_with_byte, list_all, list_any}
use Rattle.std.specs.Str.{bytes_eq}
use Rattle.std.specs.Fmt.{decimal}
use Rattle.std.proofs.Math.Dec.{eqb}
use Rattle.std.proofs.lemmas.Bool.{and_parts, and_from, or_parts, or_cases, ltb-true, eqb-true}
use Rattle.std.proofs.lemmas.List.{length-append, length-map}
use Rattle.std.proofs.lemmas.List.Folds.{list_all-append}
use Rattle.std.proofs.lemmas.List.Splits.{join_with_byte-slice_split, length-slice_split}
use Rattle.std.proofs.lemmas.Cmp.{nat_eq_equiv}
use Rattle.std.proofs.lemmas.Map.Keys.{IsDistinct-head, IsDistinct-tail, IsDistinct-cons}
use Rattle.std.proofs.lemmas.Map.Made.{IsDistinct-from_count}
use Rattle.std.proofs.lemmas.Map.Steps.{length-le_from_distinct_below}
use Rattle.std.proofs.lemmas.Slice.Eq.{bytes_eq-Decides}
use Rattle.protocol_lang.specs.Numbers.{number_of}
use Rattle.room_spec.specs.Rooms.{AreFuses, is_value}
use Rattle.room_spec.specs.Texts.{is_space, first_line, later_lines, fields_of, pieces_of}
use Rattle.protocol_lang.specs.Results.{◌>>=◌}
use Rattle.room_spec.specs.Blocks.{value_after, is_protocol, both, fuse_in, of_simulator, has_fuse, unrepeated, line_behind, said, said_next, onward, fuses_from}
use Rattle.room_spec.specs.Grammar.{crash_line}
use Rattle.room_spec.specs.declared.fault.SpecFault.{SpecFault}
use Rattle.room_spec.specs.declared.fault.SpecFault.TheVariants.{BadLine, CrashLine, Repeated}
use Rattle.room_spec.proofs.Lines.{passes_none}
use Rattle.protocol_lang.proofs.CallerLemmas.{number_to, number_from}
use Rattle.room_spec.proofs.Numerals.{decimal_passes, digit_no_space}
use Rattle.room_spec.proofs.Heads.{bind_ok, guard_ok, small_value, value_found, value_again, pieces_again}

-- ---- fuses of different simulators

abbrev pub simulators_of : List (ℕ × ℕ) → List ℕ
simulators_of fuses = map (λ (fuse : ℕ × ℕ). fuse.0) fuses

below_any : (fuses : List (ℕ × ℕ)) (m q : ℕ) → list_all (λ fuse. nat_lt fuse.0 m) fuses ≡ true → list_any (eqb q) (simulators_of fuses) ≡ true → q < m
below_any [] m q all any = absurd cc
below_any (fuse ∷ fuses) m q all any =
    let parts = and_parts (nat_lt fuse.0 m) (list_all (λ f. nat_lt f.0 m) fuses) all in
    elim (or_cases (eqb q fuse.0) (list_any (eqb q) (simulators_of fuses)) any) [
      | inl is ↦ omega (arith, eqb-true q fuse.0 is, ltb-true fuse.0 m parts.0)
      | inr later ↦ below_any fuses m q parts.1 later
    ]

pub fuses_few : (fuses : List (ℕ × ℕ)) (m : ℕ) → AreFuses fuses m → length fuses ≤ m
fuses_few fuses m are =
    let few : length (simulators_of fuses) ≤ m = length-le_from_distinct_below (simulators_of fuses) m are.distinct (λ q any. below_any fuses m q are.below any) in
    omega (arith, few, length-map fuses (λ (fuse : ℕ × ℕ). fuse.0))

apart_at : (i : ℕ) (fuses : List (ℕ × ℕ)) (fuse : ℕ × ℕ) (more : List (ℕ × ℕ)) → AllByRecursion (λ j. nat_eq i j ≡ false) (simulators_of (fuses ++ fuse ∷ more)) → nat_eq i fuse.0 ≡ false
apart_at i [] fuse more all = all.0
apart_at i (first ∷ fuses) fuse more all = apart_at i fuses fuse more all.1

pub fuses_apart : (fuses : List (ℕ × ℕ)) (fuse : ℕ × ℕ) (more : List (ℕ × ℕ)) → IsDistinct nat_eq (simulators_of (fuses ++ fuse ∷ more)) → has_fuse fuses fuse.0 ≡ false
fuses_apart [] fuse more apart = refl
fuses_apart (first ∷ fuses) fuse more apart =
    rw (apart_at first.0 fuses fuse more (IsDistinct-head nat_eq first.0 (simulators_of (fuses ++ fuse ∷ more)) apart), fuses_apart fuses fuse more (IsDistinct-tail nat_eq first.0 (simulators_of (fuses ++ fuse ∷ more)) apart)) refl

all_pushed : (i : ℕ) (fuses : List (ℕ × ℕ)) (fuse : ℕ × ℕ) → AllByRecursion (λ j. nat_eq i j ≡ false) (simulators_of fuses) → nat_eq i fuse.0 ≡ false → AllByRecursion (λ j. nat_eq i j ≡ false) (simulators_of (fuses ++ fuse ∷ []))
all_pushed i [] fuse all is = (is, tt)
all_pushed i (first ∷ fuses) fuse all is = (all.0, all_pushed i fuses fuse all.1 is)

distinct_pushed : (fuses : List (ℕ × ℕ)) (fuse : ℕ × ℕ) → IsDistinct nat_eq (simulators_of fuses) → has_fuse fuses fuse.0 ≡ false → IsDistinct nat_eq (simulators_of (fuses ++ fuse ∷ []))
distinct_pushed [] fuse apart new = IsDistinct-cons nat_eq fuse.0 [] tt apart
distinct_pushed (first ∷ fuses) fuse apart new =
    let parts = or_parts (nat_eq first.0 fuse.0) (has_fuse fuses fuse.0) new in
    IsDistinct-cons nat_eq first.0 (simulators_of (fuses ++ fuse ∷ [])) (all_pushed first.0 fuses fuse (IsDistinct-head nat_eq first.0 (simulators_of fuses) apart) parts.0) (distinct_pushed fuses fuse (IsDistinct-tail nat_eq first.0 (simulators_of fuses) apart) parts.1)

pub fuses_pushed : (fuses : List (ℕ × ℕ)) (fuse : ℕ × ℕ) (m : ℕ) → AreFuses fuses m → nat_lt fuse.0 m ≡ true → has_fuse fuses fuse.0 ≡ false → AreFuses (fuses ++ fuse ∷ []) m
fuses_pushed fuses fuse m are is new = record {
  below = list_all-append (λ (f : ℕ × ℕ). nat_lt f.0 m) fuses (fuse ∷ []) ∙ and_from (list_all (λ f. nat_lt f.0 m) fuses) (nat_lt fuse.0 m && true) are.below (and_from (nat_lt fuse.0 m) true is refl);
  distinct = distinct_pushed fuses fuse are.distinct new;
}

pub no_fuses : (m : ℕ) → AreFuses [] m
no_fuses m = record { below = refl; distinct = IsDistinct-from_count nat_eq_equiv [] refl }

-- ---- what a crash line says

-- the line behind the crash lines of these fuses tells one more
pub record TellsFuse (m : ℕ) (fuses : List (ℕ × ℕ)) (line : List ℕ) (fuse : ℕ × ℕ) : Type 0 where
  pub words : List ℕ
  pub begins : value_after (codes "crash ") line ≡ Some words
  pub says : fuse_in (fields_of words) ≡ Some fuse
  pub below : nat_lt fuse.0 m ≡ true
  pub value : is_value fuse.1 ≡ true
  pub new : has_fuse fuses fuse.0 ≡ false

pub of_simulator_ok : (line m : ℕ) (found : Option (ℕ × ℕ)) (fuse : ℕ × ℕ) → of_simulator line m found ≡ Ok fuse → (found ≡ Some fuse) × (nat_lt fuse.0 m ≡ true) × (is_value fuse.1 ≡ true)
of_simulator_ok line m None fuse e = absurd cc
of_simulator_ok line m (Some read) fuse e =
    let parts = guard_ok (nat_lt read.0 m && is_value read.1) (CrashLine line) read fuse e in
    let tests = and_parts (nat_lt read.0 m) (is_value read.1) parts.0 in
    (ap Some parts.1, subst (λ (f : ℕ × ℕ). nat_lt f.0 m ≡ true) parts.1 tests.0, subst (λ (f : ℕ × ℕ). is_value f.1 ≡ true) parts.1 tests.1)

unrepeated_ok : (b : Bool) (fault : SpecFault) (read : ℕ × ℕ) (fuse : Option (ℕ × ℕ)) → cond b (Err fault) (Ok (Some read)) ≡ Ok fuse → (b ≡ false) × (fuse ≡ Some read)
unrepeated_ok true fault read fuse e = absurd cc
unrepeated_ok false fault read fuse e = (refl, cc)

some_same : (read fuse : ℕ × ℕ) → Some fuse ≡ Some read → read ≡ fuse
some_same read fuse e = cc

told_some : (from m : ℕ) (fuses : List (ℕ × ℕ)) (line : List ℕ) (found : Option (List ℕ)) (fuse : ℕ × ℕ) → value_after (codes "crash ") line ≡ found → said from m fuses line found ≡ Ok (Some fuse) → TellsFuse m fuses line fuse
told_some from m fuses line None fuse begins e = absurd (let h = (guard_ok (is_protocol line) (BadLine (line_behind from fuses)) None (Some fuse) e).1 in cc)
told_some from m fuses line (Some words) fuse begins e =
    let step = bind_ok (of_simulator (line_behind from fuses) m (fuse_in (fields_of words))) (unrepeated (line_behind from fuses) fuses) (Some fuse) e in
    let own = of_simulator_ok (line_behind from fuses) m (fuse_in (fields_of words)) step.0 step.1 in
    let new = unrepeated_ok (has_fuse fuses step.0.0) (Repeated (line_behind from fuses)) step.0 (Some fuse) step.2 in
    let tells : TellsFuse m fuses line step.0 = record { words = words; begins = begins; says = own.0; below = own.1; value = own.2; new = new.0 } in
    subst (λ (f : ℕ × ℕ). TellsFuse m fuses line f) (some_same step.0 fuse new.1) tells

pub tells_fuse : (from m : ℕ) (fuses : List (ℕ × ℕ)) (line : List ℕ) (fuse : ℕ × ℕ) → said_next from m fuses line ≡ Ok (Some fuse) → TellsFuse m fuses line fuse
tells_fuse from m fuses line fuse e = told_some from m fuses line (value_after (codes "crash ") line) fuse refl e

told_none : (from m : ℕ) (fuses : List (ℕ × ℕ)) (line : List ℕ) (found : Option (List ℕ)) → said from m fuses line found ≡ Ok None → line ≡ codes "protocol"
told_none from m fuses line None e = (bytes_eq-Decides line (codes "protocol")).0 (guard_ok (is_protocol line) (BadLine (line_behind from fuses)) None None e).0
told_none from m fuses line (Some words) e =
    let step = bind_ok (of_simulator (line_behind from fuses) m (fuse_in (fields_of words))) (unrepeated (line_behind from fuses) fuses) None e in
    absurd (let h = (unrepeated_ok (has_fuse fuses step.0.0) (Repeated (line_behind from fuses)) step.0 None step.2).1 in cc)

pub tells_protocol : (from m : ℕ) (fuses : List (ℕ × ℕ)) (line : List ℕ) → said_next from m fuses line ≡ Ok None → line ≡ codes "protocol"
tells_protocol from m fuses line e = told_none from m fuses line (value_after (codes "crash ") line) e

-- ---- its words

both_found : (first second : Option ℕ) (fuse : ℕ × ℕ) → both first second ≡ Some fuse → (first ≡ Some fuse.0) × (second ≡ Some fuse.1)
both_found None second fuse e = absurd cc
both_found (Some number) None fuse e = absurd cc
both_found (Some number) (Some other) fuse e = (let same : Some (number, other) ≡ Some fuse = e in cc, let same : Some (number, other) ≡ Some fuse = e in cc)

test_found : (b : Bool) (found : Option (ℕ × ℕ)) (fuse : ℕ × ℕ) → cond b found None ≡ Some fuse → (b ≡ true) × (found ≡ Some fuse)
test_found true found fuse e = (refl, e)
test_found false found fuse e = absurd cc

words_found : (pieces : List (List ℕ)) (fuse : ℕ × ℕ) → fuse_in pieces ≡ Some fuse → fuse.0 < 2 ^ 64 → fuse.1 < 2 ^ 64 → pieces ≡ decimal fuse.0 ∷ codes "after" ∷ decimal fuse.1 ∷ []
words_found [] fuse e small few = absurd cc
words_found (a ∷ []) fuse e small few = absurd cc
words_found (a ∷ b ∷ []) fuse e small few = absurd cc
words_found (a ∷ b ∷ c ∷ []) fuse e small few =
    let parts = test_found (bytes_eq b (codes "after")) (both (number_of a) (number_of c)) fuse e in
    let numbers = both_found (number_of a) (number_of c) fuse parts.1 in
    let first : a ≡ decimal fuse.0 = number_to a fuse.0 numbers.0 small in
    let word : b ≡ codes "after" = (bytes_eq-Decides b (codes "after")).0 parts.0 in
    let last : c ≡ decimal fuse.1 = number_to c fuse.1 numbers.1 few in
    cc
words_found (a ∷ b ∷ c ∷ d ∷ more) fuse e small few = absurd cc

pub crash_line_found : (m : ℕ) (fuses : List (ℕ × ℕ)) (line : List ℕ) (fuse : ℕ × ℕ) → m ≤ 8 → TellsFuse m fuses line fuse → line ≡ crash_line fuse
crash_line_found m fuses line fuse few tells =
    let below : fuse.0 < m = ltb-true fuse.0 m tells.below in
    let pieces = words_found (fields_of tells.words) fuse tells.says (omega arith) (small_value fuse.1 tells.value) in
    let words : tells.words ≡ join_with_byte 32 (decimal fuse.0 ∷ codes "after" ∷ decimal fuse.1 ∷ []) = sym (join_with_byte-slice_split 32 tells.words) ∙ ap (join_with_byte 32) pieces in
    value_found (codes "crash ") line tells.words tells.begins ∙ ap (λ (w : List ℕ). codes "crash " ++ w) words

told_again : (from m : ℕ) (fuses : List (ℕ × ℕ)) (line words : List ℕ) (fuse : ℕ × ℕ) → fuse_in (fields_of words) ≡ Some fuse → nat_lt fuse.0 m ≡ true → is_value fuse.1 ≡ true → has_fuse fuses fuse.0 ≡ false → said from m fuses line (Some words) ≡ Ok (Some fuse)
told_again from m fuses line words fuse says below value new = rw (says, below, value, new) refl

pub crash_line_again : (from m : ℕ) (fuses : List (ℕ × ℕ)) (fuse : ℕ × ℕ) → m ≤ 8 → nat_lt fuse.0 m ≡ true → is_value fuse.1 ≡ true → has_fuse fuses fuse.0 ≡ false → said_next from m fuses (crash_line fuse) ≡ Ok (Some fuse)
crash_line_again from m fuses fuse few below value new =
    let under : fuse.0 < m = ltb-true fuse.0 m below in
    let small : fuse.0 < 2 ^ 64 = omega arith in
    let begins = value_again (codes "crash ") (crash_line fuse) (decimal fuse.0 ++ (codes " after " ++ decimal fuse.1)) refl in
    let first : passes_none is_space (decimal fuse.0) ≡ true = decimal_passes _ fuse.0 small digit_no_space in
    let last : passes_none is_space (decimal fuse.1) ≡ true = decimal_passes _ fuse.1 (small_value fuse.1 value) digit_no_space in
    let fields : fields_of (decimal fuse.0 ++ (codes " after " ++ decimal fuse.1)) ≡ decimal fuse.0 ∷ codes "after" ∷ decimal fuse.1 ∷ [] = pieces_again is_space 32 (decimal fuse.0) (codes "after" ∷ decimal fuse.1 ∷ []) refl (rw (first, last) refl) in
    ap (said from m fuses (crash_line fuse)) begins ∙ told_again from m fuses (crash_line fuse) (decimal fuse.0 ++ (codes " after " ++ decimal fuse.1)) fuse (ap fuse_in fields ∙ rw (number_from fuse.0 small, number_from fuse.1 (small_value fuse.1 value)) refl) below value new

-- ---- line by line: behind the crash lines of the fuses so far, `now` is left, of which the first line is said and the others stand behind it

first_told : (most from m : ℕ) (fuses : List (ℕ × ℕ)) (now line later : List ℕ) (found : Result (Option (ℕ × ℕ)) SpecFault) → line ≡ first_line now → later ≡ later_lines now → found ≡ said_next from m fuses line → fuses_from (suc most) from m fuses now ≡ (found >>= onward (fuses_from most from m) fuses later)
unfolding fuses_from
first_told most from m fuses now line later found first rest is =
    ap (λ (l : List ℕ). said_next from m fuses l >>= onward (fuses_from most from m) fuses (later_lines now)) (sym first)
    ∙ ap (λ (r : Result (Option (ℕ × ℕ)) SpecFault). r >>= onward (fuses_from most from m) fuses (later_lines now)) (sym is)
    ∙ ap (λ (l : List ℕ). found >>= onward (fuses_from most from m) fuses l) (sym rest)

pub stops_at_fault : (most from m : ℕ) (fuses : List (ℕ × ℕ)) (now line later : List ℕ) (fault : SpecFault) (whole : Result (List (ℕ × ℕ) × List ℕ) SpecFault) → line ≡ first_line now → later ≡ later_lines now → Err fault ≡ said_next from m fuses line → fuses_from (suc most) from m fuses now ≡ whole → whole ≡ Err fault
stops_at_fault most from m fuses now line later fault whole first rest is so_far = sym so_far ∙ first_told most from m fuses now line later (Err fault) first rest is

pub stops_at_protocol : (most from m : ℕ) (fuses : List (ℕ × ℕ)) (now line later : List ℕ) (whole : Result (List (ℕ × ℕ) × List ℕ) SpecFault) → line ≡ first_line now → later ≡ later_lines now → Ok None ≡ said_next from m fuses line → fuses_from (suc most) from m fuses now ≡ whole → whole ≡ Ok (fuses, later)
stops_at_protocol most from m fuses now line later whole first rest is so_far = sym so_far ∙ first_told most from m fuses now line later (Ok None) first rest is

-- one more fuse, of a simulator that had none
pub record GoesOn (from m : ℕ) (fuses : List (ℕ × ℕ)) (later : List ℕ) (whole : Result (List (ℕ × ℕ) × List ℕ) SpecFault) : Type 0 where
  pub few : length fuses ≤ m
  pub are : AreFuses fuses m
  pub so_far : fuses_from (suc (m - length fuses)) from m fuses later ≡ whole

pub fuses_go_on : (from m : ℕ) (fuses : List (ℕ × ℕ)) (now line later : List ℕ) (fuse : ℕ × ℕ) (whole : Result (List (ℕ × ℕ) × List ℕ) SpecFault) → AreFuses fuses m → line ≡ first_line now → later ≡ later_lines now → Ok (Some fuse) ≡ said_next from m fuses line → fuses_from (suc (m - length fuses)) from m fuses now ≡ whole → GoesOn from m (fuses ++ fuse ∷ []) later whole
fuses_go_on from m fuses now line later fuse whole are first rest is so_far =
    let tells = tells_fuse from m fuses line fuse (sym is) in
    let more : AreFuses (fuses ++ fuse ∷ []) m = fuses_pushed fuses fuse m are tells.below tells.new in
    let few : length (fuses ++ fuse ∷ []) ≤ m = fuses_few (fuses ++ fuse ∷ []) m more in
    let count : suc (m - length (fuses ++ fuse ∷ [])) ≡ m - length fuses = omega (arith, few, length-append fuses (fuse ∷ [])) in
    record {
      few = few;
      are = more;
      so_far = ap (λ n. fuses_from n from m (fuses ++ fuse ∷ []) later) count ∙ sym (first_told (m - length fuses) from m fuses now line later (Ok (Some fuse)) first rest is) ∙ so_far;
    }

-- ---- more words than a crash line has

long_words : (a b c : List ℕ) (more : List (List ℕ)) → 1 ≤ length more → fuse_in (a ∷ b ∷ c ∷ more) ≡ None
long_words a b c [] long = absurd (omega arith)
long_words a b c (word ∷ more) long = refl

later_words : (a b c : List ℕ) (later : Option (Bor (List ℕ))) → is_some later ≡ true → fuse_in (a ∷ b ∷ c ∷ pieces_of is_space (option_copied later)) ≡ None
later_words a b c None is = absurd cc
later_words a b c (Some rest) is = long_words a b c (fields_of rest.now) (omega (arith, length-slice_split is_space rest.now))

pub more_words : (words a b c second third : List ℕ) (later : Option (Bor (List ℕ))) → fields_of words ≡ a ∷ fields_of second → fields_of second ≡ b ∷ fields_of third → fields_of third ≡ c ∷ pieces_of is_space (option_copied later) → is_some later ≡ true → fuse_in (fields_of words) ≡ None
more_words words a b c second third later one two three is =
    let all : fields_of words ≡ a ∷ b ∷ c ∷ pieces_of is_space (option_copied later) = cc in
    ap fuse_in all ∙ later_words a b c later is

-- ---- there is a place for one more

pub fuse_fits : (fuses : List (ℕ × ℕ)) (fuse : ℕ × ℕ) (m : ℕ) → length (fuses ++ fuse ∷ []) ≤ m → m ≤ 8 → length fuses < 8
fuse_fits fuses fuse m few most = omega (arith, few, length-append fuses (fuse ∷ []))
