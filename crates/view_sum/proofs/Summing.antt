-- Parts that follow each other, one after the other.
use Rattle.std.proofs.Common.{◌≡◌, ◌∙◌, ℕ, zero, suc, ◌+◌, ◌<◌, ◌≤◌, get_or, take, List, [], ◌∷◌, ◌++◌, append-nil, length, map, Bool, true, false, ◌&&◌, Option, Some, None, refl, sym, ap, ap₂, subst, arith}
use Rattle.std.proofs.lemmas.Grind.{flat_map-append}
use Rattle.std.proofs.lemmas.List.{length-append, map-append, take_more}
use Rattle.std.specs.Prelude.{option_and_then, slice_get}
use Rattle.std.specs.List.{flat_map, fold, list_all}
use Rattle.room_sample.specs.Shown.{shown_of}
use Rattle.room_sample.specs.declared.examples.Example.{Example}
use Rattle.view_sum.specs.Adding.{ArePatterns, with_part}
use Rattle.view_sum.specs.Files.{parts_of}
use Rattle.view_sum.specs.Forms.{has_held, total_text}
use Rattle.view_sum.specs.declared.form.SumForm.{SumForm}
use Rattle.view_sum.specs.Samples.{RoomSample}
use Rattle.view_sum.specs.declared.sum.SampleFile.{SampleFile}
use Rattle.view_sum.proofs.Joining.{Key}
use Rattle.view_sum.specs.Sums.{AreTotals, DoEachFollow, DoesFollow, IsRanked, IsTotal, in_list, none_of, parts_at, sum_of}

one_follows : (so_far : RoomSample) (parts : List RoomSample) (part : RoomSample) → DoEachFollow so_far parts → DoesFollow (fold with_part so_far parts) part → DoEachFollow so_far (parts ++ part ∷ [])
one_follows so_far [] part each follows = (follows, tt)
one_follows so_far (first ∷ parts) part each follows = (each.0, one_follows (with_part so_far first) parts part each.1 follows)

sum_more : (so_far : RoomSample) (parts : List RoomSample) (part : RoomSample) → fold with_part so_far (parts ++ part ∷ []) ≡ with_part (fold with_part so_far parts) part
sum_more so_far [] part = refl
sum_more so_far (first ∷ parts) part = sum_more (with_part so_far first) parts part

-- these parts follow each other, and this is their sum
pub record AreAdded (first : RoomSample) (parts : List RoomSample) (sum : RoomSample) : Type 0 where
  pub follow : DoEachFollow (none_of first) parts
  pub sum_is : sum ≡ sum_of first parts

pub none_added : (first sum : RoomSample) → sum ≡ none_of first → AreAdded first [] sum
none_added first sum is = record { follow = tt; sum_is = is }

pub one_added : (first : RoomSample) (parts : List RoomSample) (sum part after : RoomSample) → AreAdded first parts sum → DoesFollow sum part → after ≡ with_part sum part → AreAdded first (parts ++ part ∷ []) after
one_added first parts sum part after are follows is = record {
  follow = one_follows (none_of first) parts part are.follow (subst (λ (s : RoomSample). DoesFollow s part) are.sum_is follows);
  sum_is = is ∙ ap (λ (s : RoomSample). with_part s part) are.sum_is ∙ sym (sum_more (none_of first) parts part);
}

-- ---- the parts of one room

pub parts_more : (k : ℕ) (files : List (List RoomSample)) (file : List RoomSample) (part : RoomSample) → slice_get file k ≡ Some part → parts_at k (files ++ file ∷ []) ≡ parts_at k files ++ part ∷ []
parts_more k [] file part there = ap (λ (o : Option RoomSample). in_list o ++ []) there
parts_more k (first ∷ files) file part there = by (slice_get first k) (parts_more k files file part there)
  where
    by : (o : Option RoomSample) → parts_at k (files ++ file ∷ []) ≡ parts_at k files ++ part ∷ [] → in_list o ++ parts_at k (files ++ file ∷ []) ≡ (in_list o ++ parts_at k files) ++ part ∷ []
    by None more = more
    by (Some one) more = ap (λ (all : List RoomSample). one ∷ all) more

-- the room of this number in the first file
abbrev pub first_at : ℕ → List (List RoomSample) → Option RoomSample
first_at k files = option_and_then (λ (parts : List RoomSample). slice_get parts k) (slice_get files 0)

pub first_there : (k : ℕ) (files : List (List RoomSample)) (first : RoomSample) → first_at k files ≡ Some first → slice_get (parts_at k files) 0 ≡ Some first
first_there k [] first is = absurd (let none : None ≡ Some first = is in cc)
first_there k (file ∷ files) first is = ap (λ (o : Option RoomSample). slice_get (in_list o ++ parts_at k files) 0) (let here : slice_get file k ≡ Some first = is in here)

-- some part is the first one, and those of these files follow each other
pub record IsSummed (k : ℕ) (all files : List (List RoomSample)) (sum : RoomSample) : Type 0 where
  pub first : RoomSample
  pub first_is : first_at k all ≡ Some first
  pub added : AreAdded first (parts_at k files) sum

pub none_summed : (k : ℕ) (all : List (List RoomSample)) (first sum : RoomSample) → first_at k all ≡ Some first → sum ≡ none_of first → IsSummed k all [] sum
none_summed k all first sum there is = record { first = first; first_is = there; added = none_added first sum is }

pub one_summed : (k : ℕ) (all files : List (List RoomSample)) (file : List RoomSample) (sum part after : RoomSample) → IsSummed k all files sum → slice_get file k ≡ Some part → DoesFollow sum part → after ≡ with_part sum part → IsSummed k all (files ++ file ∷ []) after
one_summed k all files file sum part after are there follows is = record {
  first = are.first;
  first_is = are.first_is;
  added = subst (λ (parts : List RoomSample). AreAdded are.first parts after) (sym (parts_more k files file part there)) (one_added are.first (parts_at k files) sum part after are.added follows is);
}

pub all_summed : (k : ℕ) (files : List (List RoomSample)) (sum total : RoomSample) → IsSummed k files files sum → IsRanked sum total → IsTotal (parts_at k files) total
all_summed k files sum total are ranked = record {
  first = are.first;
  first_is = first_there k files are.first are.first_is;
  follow = are.added.follow;
  ranked = subst (λ (s : RoomSample). IsRanked s total) are.added.sum_is ranked;
}

pub taken : (files : List SampleFile) (i : ℕ) (file d : SampleFile) → i < length files → file ≡ get_or files i d → map parts_of (take (i + 1) files) ≡ map parts_of (take i files) ++ parts_of file ∷ []
taken files i file d less is =
    ap (map parts_of) (take_more files i d less) ∙ map-append parts_of (take i files) (get_or files i d ∷ []) ∙ ap (λ (f : SampleFile). map parts_of (take i files) ++ parts_of f ∷ []) (sym is)

pub taken_all : (files : List SampleFile) (i : ℕ) → length files ≤ i → take i files ≡ files
taken_all [] zero all = refl
taken_all [] (suc i) all = refl
taken_all (file ∷ files) zero all = absurd (omega (arith, all))
taken_all (file ∷ files) (suc i) all = ap (λ (rest : List SampleFile). file ∷ rest) (taken_all files i (omega (arith, all)))

-- no outcome, known by nothing
pub none_known : (grouped : Bool) (examples : List Example) (patterns : List Key) → examples ≡ [] → patterns ≡ [] → ArePatterns grouped (map shown_of examples) patterns
none_known grouped examples patterns none empty =
    subst (λ (e : List Example). ArePatterns grouped (map shown_of e) patterns) (sym none)
    (subst (λ (keys : List Key). ArePatterns grouped [] keys) (sym empty) tt)

-- ---- the rooms of the first numbers

among : (P : ℕ → RoomSample → Type 0) (n : ℕ) (totals : List RoomSample) (total : RoomSample) → ((k : ℕ) (one : RoomSample) → slice_get totals k ≡ Some one → P (n + k) one) → P (n + length totals) total
    → (k : ℕ) (one : RoomSample) → slice_get (totals ++ total ∷ []) k ≡ Some one → P (n + k) one
among P n [] total each last zero one there = subst (λ (x : RoomSample). P (n + 0) x) (same total one there) last
  where
    same : (a b : RoomSample) → Some a ≡ Some b → a ≡ b
    same a b is = cc
among P n [] total each last (suc k) one there = absurd (let none : None ≡ Some one = there in cc)
among P n (first ∷ totals) total each last zero one there = each zero one there
among P n (first ∷ totals) total each last (suc k) one there =
    let step : (j : ℕ) → n + suc j ≡ suc n + j = λ j. omega arith in
    subst (λ (m : ℕ). P m one) (sym (step k))
    (among P (suc n) totals total (λ j x here. subst (λ (m : ℕ). P m x) (step j) (each (suc j) x here)) (subst (λ (m : ℕ). P m total) (step (length totals)) last) k one there)

pub no_totals : (files : List (List RoomSample)) → AreTotals files []
no_totals files = λ k total there. absurd (let none : None ≡ Some total = there in cc)

pub one_total : (files : List (List RoomSample)) (totals : List RoomSample) (total : RoomSample) → AreTotals files totals → IsTotal (parts_at (length totals) files) total → AreTotals files (totals ++ total ∷ [])
one_total files totals total are is = λ k one there. moved k one (among (λ j x. IsTotal (parts_at j files) x) 0 totals total (λ j x here. back j x (are j x here)) (back (length totals) total is) k one there)
  where
    zero_before : (k : ℕ) → 0 + k ≡ k
    zero_before k = omega arith

    moved : (k : ℕ) (one : RoomSample) → IsTotal (parts_at (0 + k) files) one → IsTotal (parts_at k files) one
    moved k one there = subst (λ (n : ℕ). IsTotal (parts_at n files) one) (zero_before k) there

    back : (k : ℕ) (one : RoomSample) → IsTotal (parts_at k files) one → IsTotal (parts_at (0 + k) files) one
    back k one there = subst (λ (n : ℕ). IsTotal (parts_at n files) one) (sym (zero_before k)) there

-- one more room is written
pub one_written : (files : List (List RoomSample)) (form : SumForm) (count : ℕ) (text after : List ℕ) (held one : Bool) (total : RoomSample)
    → ((totals : List RoomSample) × (length totals ≡ count) × AreTotals files totals × (text ≡ flat_map (total_text form) totals) × (held ≡ list_all has_held totals)) → IsTotal (parts_at count files) total → after ≡ text ++ total_text form total → one ≡ has_held total
    → (totals : List RoomSample) × (length totals ≡ count + 1) × AreTotals files totals × (after ≡ flat_map (total_text form) totals) × ((held && one) ≡ list_all has_held totals)
one_written files form count text after held one total (totals, count_is, are, text_is, held_is) is more one_is = (
  totals ++ total ∷ [],
  length-append totals (total ∷ []) ∙ ap (λ (n : ℕ). n + 1) count_is,
  one_total files totals total are (subst (λ (n : ℕ). IsTotal (parts_at n files) total) (sym count_is) is),
  more ∙ ap (λ (t : List ℕ). t ++ total_text form total) text_is ∙ sym (flat_map-append (total_text form) totals (total ∷ []) ∙ ap (λ (t : List ℕ). flat_map (total_text form) totals ++ t) (append-nil (total_text form total))),
  ap₂ (λ (a b : Bool). a && b) held_is one_is ∙ all_and totals,
)
  where
    and_more : (a b d : Bool) → ((a && b) && d) ≡ (a && (b && d))
    and_more true b d = refl
    and_more false b d = refl

    and_true : (b : Bool) → b ≡ (b && true)
    and_true true = refl
    and_true false = refl

    all_and : (xs : List RoomSample) → (list_all has_held xs && has_held total) ≡ list_all has_held (xs ++ total ∷ [])
    all_and [] = and_true (has_held total)
    all_and (x ∷ xs) = and_more (has_held x) (list_all has_held xs) (has_held total) ∙ ap (λ (b : Bool). has_held x && b) (all_and xs)
