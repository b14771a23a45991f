-- Each step has its column.
use Rattle.std.proofs.Common.{◌≡◌, ◌∙◌, ℕ, ◌+◌, ◌-◌, ◌<◌, ◌≤◌, ◌^◌, Bool, true, false, List, [], ◌∷◌, ap, length, map, nat_le, refl, subst, suc, arith, if◌then◌else◌}
use Rattle.std.specs.List.{sum_by}
use Rattle.std.proofs.lemmas.List.{take_all}
use Rattle.std.proofs.lemmas.List.Sums.{sum_by-cons}
use Rattle.run_columns.specs.declared.column.Column.{Column}
use Rattle.run_columns.specs.declared.column.Scale.{Scale}
use Rattle.run_columns.specs.declared.column.Scale.TheVariants.{Steps}
use Rattle.run_columns.specs.declared.mark.Mark.{Mark}
use Rattle.run_columns.specs.declared.mark.Mark.TheVariants.{Step, Crash}
use Rattle.run_columns.specs.Columns.{AreNumbered, column_of, columns_by, columns_from, columns_of, joins, most_columns, next_column, steps_in, widened}

-- ---- one column a mark

apart : (first mark : Mark) → joins Steps first mark ≡ false
apart (Step first) (Step step) = refl
apart (Step first) (Crash simulator) = refl
apart (Crash simulator) mark = refl

firsts_from : (column : Column) (marks : List Mark) → map (λ (c : Column). c.first) (columns_from Steps column marks) ≡ column.first ∷ marks
firsts_from column [] = refl
firsts_from column (mark ∷ marks) = rw (apart column.first mark) (ap (λ (rest : List Mark). column.first ∷ rest) (firsts_from (next_column column mark) marks))

firsts : (marks : List Mark) → map (λ (c : Column). c.first) (columns_by Steps marks) ≡ marks
unfolding columns_by
firsts [] = refl
firsts (mark ∷ marks) = firsts_from (column_of 0 0 mark) marks

as_many_from : (column : Column) (marks : List Mark) → length (columns_from Steps column marks) ≡ suc (length marks)
as_many_from column [] = refl
as_many_from column (mark ∷ marks) = rw (apart column.first mark) (ap (λ (n : ℕ). suc n) (as_many_from (next_column column mark) marks))

as_many : (marks : List Mark) → length (columns_by Steps marks) ≡ length marks
unfolding columns_by
as_many [] = refl
as_many (mark ∷ marks) = as_many_from (column_of 0 0 mark) marks

pub one_each : (marks : List Mark) → length marks ≤ 400 → (columns_of marks).columns ≡ columns_by Steps marks
one_each marks few =
    let is_few : nat_le (length marks) most_columns ≡ true = search arith in
    rw is_few (take_all 400 (columns_by Steps marks) (omega (arith, as_many marks, few)))

pub each_has_one : (marks : List Mark) → length marks ≤ 400 → map (λ (c : Column). c.first) (columns_of marks).columns ≡ marks
each_has_one marks few =
    let is_few : nat_le (length marks) most_columns ≡ true = search arith in
    rw is_few (ap (map (λ (c : Column). c.first)) (take_all 400 (columns_by Steps marks) (omega (arith, as_many marks, few))) ∙ firsts marks)

-- ---- numbers

at_most_one : (mark : Mark) → steps_in mark ≤ 1
at_most_one (Step step) = omega arith
at_most_one (Crash simulator) = omega arith

if_numbered : (joined : Bool) (before : ℕ) (one other : List Column) → AreNumbered before one → AreNumbered before other → AreNumbered before (if joined then one else other)
if_numbered true before one other left right = left
if_numbered false before one other left right = right

numbered_from : (scale : Scale) (column : Column) (marks : List Mark) → column.before + column.count + length marks < 2 ^ 64 - 1 → AreNumbered column.before (columns_from scale column marks)
numbered_from scale column [] small = (refl, tt)
numbered_from scale column (mark ∷ marks) small =
    let one = at_most_one mark in
    let wide : (widened column mark).before + (widened column mark).count + length marks < 2 ^ 64 - 1 = omega (arith, small, one) in
    let next : (next_column column mark).before + (next_column column mark).count + length marks < 2 ^ 64 - 1 = omega (arith, small, one) in
    let same : (next_column column mark).before ≡ column.before + column.count = omega (arith, small) in
    if_numbered (joins scale column.first mark) column.before _ _ (numbered_from scale (widened column mark) marks wide)
    (refl, subst (λ (before : ℕ). AreNumbered before (columns_from scale (next_column column mark) marks)) same (numbered_from scale (next_column column mark) marks next))

pub numbered : (scale : Scale) (marks : List Mark) → length marks < 2 ^ 63 → AreNumbered 0 (columns_by scale marks)
unfolding columns_by
numbered scale [] small = tt
numbered scale (mark ∷ marks) small = numbered_from scale (column_of 0 0 mark) marks (omega (arith, small, at_most_one mark))

if_counted : (joined : Bool) (total : ℕ) (one other : List Column) → sum_by (λ (c : Column). c.count) one ≡ total → sum_by (λ (c : Column). c.count) other ≡ total
    → sum_by (λ (c : Column). c.count) (if joined then one else other) ≡ total
if_counted true total one other left right = left
if_counted false total one other left right = right

counted_from : (scale : Scale) (column : Column) (marks : List Mark) → column.count + length marks < 2 ^ 64 - 1
    → sum_by (λ (c : Column). c.count) (columns_from scale column marks) ≡ column.count + sum_by steps_in marks
counted_from scale column [] small = omega (arith, sum_by-cons (λ (c : Column). c.count) column [])
counted_from scale column (mark ∷ marks) small =
    let one = at_most_one mark in
    let wide : (widened column mark).count + length marks < 2 ^ 64 - 1 = omega (arith, small, one) in
    let next : (next_column column mark).count + length marks < 2 ^ 64 - 1 = omega (arith, small, one) in
    let sum = sum_by-cons steps_in mark marks in
    if_counted (joins scale column.first mark) (column.count + sum_by steps_in (mark ∷ marks)) _ _
    (omega (arith, counted_from scale (widened column mark) marks wide, sum, small, one))
    (omega (arith, sum_by-cons (λ (c : Column). c.count) column (columns_from scale (next_column column mark) marks), counted_from scale (next_column column mark) marks next, sum))

pub counted : (scale : Scale) (marks : List Mark) → length marks < 2 ^ 63 → sum_by (λ (c : Column). c.count) (columns_by scale marks) ≡ sum_by steps_in marks
unfolding columns_by
counted scale [] small = refl
counted scale (mark ∷ marks) small =
    omega (arith, counted_from scale (column_of 0 0 mark) marks (omega (arith, small, at_most_one mark)), sum_by-cons steps_in mark marks)
