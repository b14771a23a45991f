-- Squares are apart, and none is outside.
use Rattle.std.proofs.Common.{◌≡◌, ◌∙◌, ◌⊎◌, inl, inr, ℕ, ◌+◌, ◌-◌, ◌*◌, ◌/◌, ◌%◌, ◌<◌, ◌≤◌, ap, min, subst, sym, arith}
use Rattle.std.proofs.lemmas.Nat.{div-add-mod', mod_below, mul-le}
use Rattle.run_columns.specs.declared.column.Scale.{Scale}
use Rattle.run_columns.specs.declared.column.Scale.TheVariants.{Steps, Turns, Simulators}
use Rattle.simulator_lanes.specs.declared.layout.Grid.{Grid}
use Rattle.simulator_lanes.specs.Layout.{AreApart, IsWithin, across, cell, column_x, in_row, lane_y, right_of, row_height, row_of, row_y, rows}

-- whether one number is below another
order : (a b : ℕ) → (a < b) ⊎ ((a ≡ b) ⊎ (b < a))
order a b = search arith

across_apart : (scale : Scale) (a b : ℕ) → a < b → across scale a + across scale 1 ≤ across scale b
across_apart Steps a b less = omega (arith, less)
across_apart Turns a b less = omega (arith, less)
across_apart Simulators a b less = omega (arith, less)

-- a lane in one row is above each lane in a later row
rows_apart : (grid : Grid) (i j row later : ℕ) → i < grid.simulators → row < later → lane_y grid row i + 58 ≤ lane_y grid later j
unfolding lane_y row_y row_height
rows_apart grid i j row later small less =
    let more : (row + 1) * (58 * grid.simulators + (36 * grid.processes + 50)) ≤ later * (58 * grid.simulators + (36 * grid.processes + 50)) = mul-le (row + 1) _ later _ (omega (arith, less)) (omega arith) in
    omega (arith, more, small)

lanes_apart : (grid : Grid) (i j row : ℕ) → i < j → lane_y grid row i + 58 ≤ lane_y grid row j
unfolding lane_y
lanes_apart grid i j row less = omega (arith, less)

columns_apart : (grid : Grid) (place other : ℕ) → place % in_row grid < other % in_row grid → column_x grid place + across grid.scale 1 ≤ column_x grid other
unfolding column_x
columns_apart grid place other less = omega (arith, across_apart grid.scale (place % in_row grid) (other % in_row grid) less)

-- two columns at one place of one row are the same
same_place : (n place other : ℕ) → place / n ≡ other / n → place % n ≡ other % n → place ≡ other
same_place n place other rows rests = sym (div-add-mod' place n) ∙ ap (λ (r : ℕ). r * n + place % n) rows ∙ ap (λ (k : ℕ). other / n * n + k) rests ∙ div-add-mod' other n

in_one_lane : (grid : Grid) (i place other : ℕ) → row_of grid place ≡ row_of grid other → (place ≡ other → ⊥)
    → (place % in_row grid < other % in_row grid) ⊎ ((place % in_row grid ≡ other % in_row grid) ⊎ (other % in_row grid < place % in_row grid))
    → AreApart (cell grid i place) (cell grid i other) (across grid.scale 1) 58
unfolding cell row_of
in_one_lane grid i place other rows differ (inl less) = inl (inl (columns_apart grid place other less))
in_one_lane grid i place other rows differ (inr (inl same)) = absurd (differ (same_place (in_row grid) place other rows same))
in_one_lane grid i place other rows differ (inr (inr more)) = inl (inr (columns_apart grid other place more))

in_one_row : (grid : Grid) (i j place other : ℕ) → row_of grid place ≡ row_of grid other → (i ≡ j → place ≡ other → ⊥) → (i < j) ⊎ ((i ≡ j) ⊎ (j < i))
    → AreApart (cell grid i place) (cell grid j other) (across grid.scale 1) 58
unfolding cell
in_one_row grid i j place other rows differ (inl less) =
    inr (inl (subst (λ (row : ℕ). lane_y grid (row_of grid place) i + 58 ≤ lane_y grid row j) rows (lanes_apart grid i j (row_of grid place) less)))
in_one_row grid i j place other rows differ (inr (inl same)) =
    subst (λ (k : ℕ). AreApart (cell grid i place) (cell grid k other) (across grid.scale 1) 58) same
    (in_one_lane grid i place other rows (differ same) (order (place % in_row grid) (other % in_row grid)))
in_one_row grid i j place other rows differ (inr (inr more)) =
    inr (inr (subst (λ (row : ℕ). lane_y grid row j + 58 ≤ lane_y grid (row_of grid place) i) rows (lanes_apart grid j i (row_of grid place) more)))

by_rows : (grid : Grid) (i j place other : ℕ) → i < grid.simulators → j < grid.simulators → (i ≡ j → place ≡ other → ⊥)
    → (row_of grid place < row_of grid other) ⊎ ((row_of grid place ≡ row_of grid other) ⊎ (row_of grid other < row_of grid place))
    → AreApart (cell grid i place) (cell grid j other) (across grid.scale 1) 58
unfolding cell
by_rows grid i j place other small_i small_j differ (inl less) = inr (inl (rows_apart grid i j (row_of grid place) (row_of grid other) small_i less))
by_rows grid i j place other small_i small_j differ (inr (inl same)) = in_one_row grid i j place other same differ (order i j)
by_rows grid i j place other small_i small_j differ (inr (inr more)) = inr (inr (rows_apart grid j i (row_of grid other) (row_of grid place) small_j more))

pub squares_apart : (grid : Grid) (i j place other : ℕ) → i < grid.simulators → j < grid.simulators → (i ≡ j → place ≡ other → ⊥)
    → AreApart (cell grid i place) (cell grid j other) (across grid.scale 1) 58
squares_apart grid i j place other small_i small_j differ = by_rows grid i j place other small_i small_j differ (order (row_of grid place) (row_of grid other))

-- ---- inside

never_past : (n place count : ℕ) → 0 < n → place < count → (count + n - 1) / n ≤ place / n → ⊥
never_past n place count some there past =
    let products : (count + n - 1) / n * n ≤ place / n * n = mul-le ((count + n - 1) / n) n (place / n) n past (omega arith) in
    omega (arith, products, div-add-mod' (count + n - 1) n, div-add-mod' place n, mod_below (count + n - 1) n some, there)

below_by : (a b : ℕ) → (b ≤ a → ⊥) → (a < b) ⊎ ((a ≡ b) ⊎ (b < a)) → a < b
below_by a b never (inl less) = less
below_by a b never (inr (inl same)) = absurd (never (omega (arith, same)))
below_by a b never (inr (inr more)) = absurd (never (omega (arith, more)))

row_is_there : (grid : Grid) (place : ℕ) → place < grid.count → row_of grid place < rows grid
unfolding row_of rows
row_is_there grid place there =
    let some : 0 < in_row grid = omega arith in
    let last = (grid.count + in_row grid - 1) / in_row grid in
    let below : place / in_row grid < last = below_by (place / in_row grid) last (never_past (in_row grid) place grid.count some there) (order (place / in_row grid) last) in
    omega (arith, below)

column_within : (grid : Grid) (place : ℕ) → place < grid.count → column_x grid place + across grid.scale 1 ≤ right_of grid
unfolding column_x right_of
column_within grid place there =
    let some : 0 < in_row grid = omega arith in
    let less : place % in_row grid < min grid.count (in_row grid) = omega (arith, mod_below place (in_row grid) some, div-add-mod' place (in_row grid), there) in
    omega (arith, across_apart grid.scale (place % in_row grid) (min grid.count (in_row grid)) less)

lane_within : (grid : Grid) (i place : ℕ) → i < grid.simulators → place < grid.count → lane_y grid (row_of grid place) i + 58 ≤ row_y grid (rows grid)
unfolding lane_y
lane_within grid i place small there = omega (arith, rows_apart grid i 0 (row_of grid place) (rows grid) small (row_is_there grid place there))

pub squares_within : (grid : Grid) (i place : ℕ) → i < grid.simulators → place < grid.count
    → IsWithin (cell grid i place) (across grid.scale 1) 58 (right_of grid) (row_y grid (rows grid))
unfolding cell
squares_within grid i place small there = (column_within grid place there, lane_within grid i place small there)
