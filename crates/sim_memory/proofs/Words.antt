-- Memory words, as maps of step numbers.
use Rattle.std.proofs.Common.{◌≡◌, ◌≢◌, ◌⊎◌, ℕ, zero, suc, ◌+◌, ◌*◌, ◌/◌, ◌%◌, ◌^◌, ◌<◌, ◌≤◌, min, Bool, true, false, cond, ltb, List, length, get_or, set, inl, inr, refl, sym, ap, ◌∙◌, subst, mul_comm, arith}
use mathlib.Core.Logic.{dite}
use native.Mathlib.Decide.{ℕ_discrete}
use Rattle.std.proofs.lemmas.Bool.{cases_order, ltb-true, eq-eqb, ne_eqb}
use Rattle.std.proofs.lemmas.List.{get_or-set_same, get_or-set_other, length-set}
use Rattle.std.proofs.lemmas.List.FromFn.{length-map-range_with_len, get_or-map-range_with_len}
use Rattle.std.proofs.lemmas.Grind.{same_number_lists}
use Rattle.std.proofs.lemmas.Nat.{mul-add-lt, mul-le, div-mul-add, mod-mul-add, same_from_place, div_below, mod_below, div-add-mod', row_fits}
use Rattle.room_spec.specs.Rooms.{bits_of}
use Rattle.room_spec.specs.Sizes.{Sizes, AreSizes, fields_in_word, memory_words}
use Rattle.room_spec.proofs.CallerLemmas.{are_memory_words, by_bits}
use Rattle.level_cells.specs.Fields.{field_of, AreApart}
use Rattle.level_cells.specs.Packing.{FitFields}
use Rattle.level_cells.proofs.CallerLemmas.{added_field, added_others, fits, reads_back, of_same, of_zeros, with_one_more}
use Rattle.sim_memory.specs.Steps.{row_of, IsRowAtMost, AreAtMost, AreSameSteps, IsRaised, AreWithin, AreFieldsAtMost, AreMemory, field_number, word_of, place_of, field_in, step_in, fields_of_word, memory_word, memory_of, with_part}
use Rattle.sim_memory.proofs.Rows.{row_grows}

-- ---- a step number fits its field

round_below : (rounds : ℕ) (a b c : Bool) → ltb rounds 2 ≡ a → ltb rounds 4 ≡ b → ltb rounds 8 ≡ c → rounds ≤ 15 → rounds < 2 ^ cond a 1 (cond b 2 (cond c 3 4))
round_below rounds true b c is is' is'' most = let h = ltb-true _ _ is in omega arith
round_below rounds false true c is is' is'' most = let h = ltb-true _ _ is' in omega arith
round_below rounds false false true is is' is'' most = let h = ltb-true _ _ is'' in omega arith
round_below rounds false false false is is' is'' most = omega arith

pub rounds_fit : (sizes : Sizes) → AreSizes sizes → sizes.rounds < 2 ^ sizes.bits
rounds_fit sizes limits =
    let h : sizes.rounds < 2 ^ bits_of sizes.rounds = round_below sizes.rounds _ _ _ refl refl refl limits.rounds_range.1 in
    subst (λ (bits : ℕ). sizes.rounds < 2 ^ bits) (sym limits.width) h

-- ---- fields

number_below : (sizes : Sizes) (i p : ℕ) → i < sizes.m → p < sizes.n → field_number sizes i p < sizes.m * sizes.n
number_below sizes i p below within = rw (mul_comm sizes.m sizes.n) (mul-add-lt i sizes.n p sizes.m below within)

pub word_below : (sizes : Sizes) (i p : ℕ) → AreSizes sizes → i < sizes.m → p < sizes.n → word_of sizes i p < memory_words sizes
word_below sizes i p limits below within =
    let words = are_memory_words sizes limits in
    div_below (field_number sizes i p) (fields_in_word sizes) (memory_words sizes) words.fields (omega (arith, words.room, number_below sizes i p below within))

pub place_inside : (sizes : Sizes) (i p : ℕ) → AreSizes sizes → place_of sizes i p + sizes.bits ≤ 64
place_inside sizes i p limits =
    let words = are_memory_words sizes limits in
    let less = mod_below (field_number sizes i p) (fields_in_word sizes) words.fields in
    omega (arith, row_fits (field_number sizes i p % fields_in_word sizes) sizes.bits (fields_in_word sizes) sizes.bits less (omega arith), words.bits)

-- where there is one memory word, each field has its own place there
pub one_word : (sizes : Sizes) (i p : ℕ) → AreSizes sizes → memory_words sizes ≡ 1 → i < sizes.m → p < sizes.n → (word_of sizes i p ≡ 0) × (place_of sizes i p ≡ field_number sizes i p * sizes.bits)
one_word sizes i p limits one below within =
    let words = are_memory_words sizes limits in
    let fields = fields_in_word sizes in
    let number = field_number sizes i p in
    let room : memory_words sizes * fields ≡ fields = ap (λ (w : ℕ). w * fields) one ∙ omega arith in
    let less : number < fields = omega (arith, words.room, room, number_below sizes i p below within) in
    let is : number ≡ 0 * fields + number = omega arith in
    (ap (λ x. x / fields) is ∙ div-mul-add 0 fields number less, ap (λ x. x % fields * sizes.bits) is ∙ ap (λ x. x * sizes.bits) (mod-mul-add 0 fields number less))

-- and a simulator's step numbers have their places there
pub one_row : (sizes : Sizes) (i : ℕ) → AreSizes sizes → memory_words sizes ≡ 1 → i < sizes.m → (word_of sizes i 0 ≡ 0) × (place_of sizes i 0 ≡ i * sizes.n * sizes.bits) × (i * sizes.n * sizes.bits + sizes.n * sizes.bits ≤ 64) × (i * sizes.n * sizes.bits < 64)
one_row sizes i limits one below =
    let words = are_memory_words sizes limits in
    let here = one_word sizes i 0 limits one below limits.n_range.0 in
    let room : memory_words sizes * fields_in_word sizes ≡ fields_in_word sizes = ap (λ (w : ℕ). w * fields_in_word sizes) one ∙ omega arith in
    let rows : suc i * sizes.n ≤ sizes.m * sizes.n = mul-le (suc i) sizes.n sizes.m sizes.n below (omega arith) in
    let inside : suc i * sizes.n * sizes.bits ≤ fields_in_word sizes * sizes.bits = mul-le (suc i * sizes.n) sizes.bits (fields_in_word sizes) sizes.bits (omega (arith, rows, words.room, room)) (omega arith) in
    let more : suc i * sizes.n * sizes.bits ≡ i * sizes.n * sizes.bits + sizes.n * sizes.bits = grind arith in
    let first : field_number sizes i 0 ≡ i * sizes.n = omega arith in
    let wide : 1 ≤ sizes.bits = by_bits sizes.rounds sizes.bits (λ bits. 1 ≤ bits) limits.width (omega arith) (omega arith) (omega arith) (omega arith) in
    let some : 1 ≤ sizes.n * sizes.bits = mul-le 1 1 sizes.n sizes.bits limits.n_range.0 wide in
    let narrow : i * sizes.n * sizes.bits + sizes.n * sizes.bits ≤ 64 = omega (arith, inside, more, words.bits) in
    (here.0, here.1 ∙ ap (λ (number : ℕ). number * sizes.bits) first, narrow, omega (arith, narrow, some))

index_apart : (width x y : ℕ) → (x ≡ y) ⊎ ((x < y) ⊎ (y < x)) → x ≢ y → AreApart (x * width) width (y * width) width
index_apart width x y (inl e) other = absurd (other e)
index_apart width x y (inr (inl less)) other = inl (row_fits x width y width less (omega arith))
index_apart width x y (inr (inr more)) other = inr (row_fits y width x width more (omega arith))

-- two fields of one word are apart
pub places_apart : (sizes : Sizes) (i p k q : ℕ) → p < sizes.n → q < sizes.n → word_of sizes i p ≡ word_of sizes k q → ((i ≡ k) × (p ≡ q) → ⊥) → AreApart (place_of sizes i p) sizes.bits (place_of sizes k q) sizes.bits
places_apart sizes i p k q within within' same other =
    let fields = fields_in_word sizes in
    index_apart sizes.bits (field_number sizes i p % fields) (field_number sizes k q % fields) (cases_order _ _) (λ e.
    let numbers : field_number sizes i p ≡ field_number sizes k q =
    sym (div-add-mod' (field_number sizes i p) fields) ∙ ap (λ w. w * fields + field_number sizes i p % fields) same ∙ ap (λ x. word_of sizes k q * fields + x) e ∙ div-add-mod' (field_number sizes k q) fields in
    other (same_from_place i p k q sizes.n within within' numbers))

-- ---- step numbers of words

pub step_below : (sizes : Sizes) (words : List ℕ) (i p : ℕ) → step_in sizes words i p ≤ sizes.rounds
step_below sizes words i p = omega arith

module _ (sizes : Sizes) (words : List ℕ) (i p : ℕ) (limits : AreSizes sizes) (below : i < sizes.m) (within : p < sizes.n) (long : memory_words sizes ≤ length words) (room : field_in sizes words i p < sizes.rounds) where
  more : List ℕ
  more = set words (word_of sizes i p) (get_or words (word_of sizes i p) 0 + 2 ^ place_of sizes i p)

  has_room : field_of (get_or words (word_of sizes i p) 0) (place_of sizes i p) sizes.bits + 1 < 2 ^ sizes.bits
  has_room = let h = rounds_fit sizes limits in omega (arith, h, room)

  here : get_or (set words (word_of sizes i p) (get_or words (word_of sizes i p) 0 + 2 ^ place_of sizes i p)) (word_of sizes i p) 0 ≡ get_or words (word_of sizes i p) 0 + 2 ^ place_of sizes i p
  here = get_or-set_same words (word_of sizes i p) (get_or words (word_of sizes i p) 0 + 2 ^ place_of sizes i p) 0 (omega (arith, word_below sizes i p limits below within, long))

  pub raised_field : step_in sizes (set words (word_of sizes i p) (get_or words (word_of sizes i p) 0 + 2 ^ place_of sizes i p)) i p ≡ step_in sizes words i p + 1
  raised_field =
      let h = added_field (get_or words (word_of sizes i p) 0) (place_of sizes i p) sizes.bits has_room in
      let is = ap (λ w. field_of w (place_of sizes i p) sizes.bits) here in
      omega (arith, h, is, room)

  same_field : (k q : ℕ) → q < sizes.n → ((i ≡ k) × (p ≡ q) → ⊥) → field_in sizes (set words (word_of sizes i p) (get_or words (word_of sizes i p) 0 + 2 ^ place_of sizes i p)) k q ≡ field_in sizes words k q
  same_field k q within' other = dite (ℕ_discrete (word_of sizes k q) (word_of sizes i p))
      (λ (e : word_of sizes k q ≡ word_of sizes i p).
      ap (λ w. field_of (get_or (set words (word_of sizes i p) (get_or words (word_of sizes i p) 0 + 2 ^ place_of sizes i p)) w 0) (place_of sizes k q) sizes.bits) e
      ∙ ap (λ w. field_of w (place_of sizes k q) sizes.bits) here
      ∙ added_others (get_or words (word_of sizes i p) 0) (place_of sizes i p) sizes.bits has_room (place_of sizes k q) sizes.bits (places_apart sizes i p k q within within' (sym e) other)
      ∙ ap (λ w. field_of (get_or words w 0) (place_of sizes k q) sizes.bits) (sym e))
      (λ (n : word_of sizes k q ≢ word_of sizes i p).
      ap (λ w. field_of w (place_of sizes k q) sizes.bits) (get_or-set_other words (word_of sizes i p) (word_of sizes k q) (get_or words (word_of sizes i p) 0 + 2 ^ place_of sizes i p) 0 n))

  pub raised_else : (k q : ℕ) → q < sizes.n → ((i ≡ k) × (p ≡ q) → ⊥) → step_in sizes (set words (word_of sizes i p) (get_or words (word_of sizes i p) 0 + 2 ^ place_of sizes i p)) k q ≡ step_in sizes words k q
  raised_else k q within' other = ap (λ (x : ℕ). min x sizes.rounds) (same_field k q within' other)

  pub raised_word : IsRaised sizes.m sizes.n (step_in sizes words) i p (step_in sizes (set words (word_of sizes i p) (get_or words (word_of sizes i p) 0 + 2 ^ place_of sizes i p)))
  raised_word = record {
    own = raised_field;
    other_simulators = λ k q below within' other. raised_else k q within' (λ same. other (sym same.0));
    other_processes = λ q within' other. raised_else i q within' (λ same. other (sym same.1));
  }

pub later_steps : (sizes : Sizes) (words later : List ℕ) → AreFieldsAtMost sizes words later → AreAtMost sizes.m sizes.n (step_in sizes words) (step_in sizes later)
later_steps sizes words later most i p below within = let h = most i p below within in omega arith

pub later_row : (sizes : Sizes) (words later : List ℕ) → AreFieldsAtMost sizes words later → IsRowAtMost (row_of sizes.m sizes.n (step_in sizes words)) (row_of sizes.m sizes.n (step_in sizes later))
later_row sizes words later most = row_grows sizes.m sizes.n _ _ (later_steps sizes words later most)

-- ---- the words of a map

some_process : (x m n : ℕ) → x < m * n → 0 < n
some_process x m zero below = absurd (omega arith)
some_process x m (suc n) below = omega arith

index_simulator : (sizes : Sizes) (x : ℕ) → x < sizes.m * sizes.n → x / sizes.n < sizes.m
index_simulator sizes x below = div_below x sizes.n sizes.m (some_process x sizes.m sizes.n below) below

index_process : (sizes : Sizes) (x : ℕ) → x < sizes.m * sizes.n → x % sizes.n < sizes.n
index_process sizes x below = mod_below x sizes.n (some_process x sizes.m sizes.n below)

-- what a field of word w says
abbrev number_in : Sizes → (ℕ → ℕ → ℕ) → ℕ → ℕ → ℕ
number_in sizes steps w x = steps ((w * fields_in_word sizes + x) / sizes.n) ((w * fields_in_word sizes + x) % sizes.n)

-- the field of such a number is one of the room's, and stands in that word
record IsFieldAt (sizes : Sizes) (w x : ℕ) : Type 0 where
  pub number : w * fields_in_word sizes + x < sizes.m * sizes.n
  pub simulator : (w * fields_in_word sizes + x) / sizes.n < sizes.m
  pub process : (w * fields_in_word sizes + x) % sizes.n < sizes.n
  pub is : field_number sizes ((w * fields_in_word sizes + x) / sizes.n) ((w * fields_in_word sizes + x) % sizes.n) ≡ w * fields_in_word sizes + x
  pub word : word_of sizes ((w * fields_in_word sizes + x) / sizes.n) ((w * fields_in_word sizes + x) % sizes.n) ≡ w

field_at : (sizes : Sizes) (w x : ℕ) → x < fields_of_word sizes w → IsFieldAt sizes w x
field_at sizes w x below =
    let number : w * fields_in_word sizes + x < sizes.m * sizes.n = omega arith in
    let is = div-add-mod' (w * fields_in_word sizes + x) sizes.n in
    record {
      number = number;
      simulator = index_simulator sizes (w * fields_in_word sizes + x) number;
      process = index_process sizes (w * fields_in_word sizes + x) number;
      is = is;
      word = ap (λ y. y / fields_in_word sizes) is ∙ div-mul-add w (fields_in_word sizes) x (omega arith);
    }

numbers_fit : (sizes : Sizes) (steps : ℕ → ℕ → ℕ) (w : ℕ) → AreSizes sizes → AreWithin sizes steps → FitFields (number_in sizes steps w) sizes.bits (fields_of_word sizes w)
numbers_fit sizes steps w limits within x below =
    let at = field_at sizes w x below in
    let h = within ((w * fields_in_word sizes + x) / sizes.n) ((w * fields_in_word sizes + x) % sizes.n) at.simulator at.process in
    let k = rounds_fit sizes limits in
    omega arith

pub word_fits : (sizes : Sizes) (steps : ℕ → ℕ → ℕ) (w : ℕ) → AreSizes sizes → AreWithin sizes steps → memory_word sizes steps w < 2 ^ 64
word_fits sizes steps w limits within =
    let words = are_memory_words sizes limits in
    let narrow : fields_of_word sizes w * sizes.bits ≤ fields_in_word sizes * sizes.bits = mul-le (fields_of_word sizes w) sizes.bits (fields_in_word sizes) sizes.bits (omega arith) (omega arith) in
    fits (number_in sizes steps w) sizes.bits (fields_of_word sizes w) (numbers_fit sizes steps w limits within) (omega (arith, narrow, words.bits))

-- the number of a field in its word, and back
own_below : (sizes : Sizes) (i p : ℕ) → AreSizes sizes → i < sizes.m → p < sizes.n → field_number sizes i p % fields_in_word sizes < fields_of_word sizes (word_of sizes i p)
own_below sizes i p limits below within =
    let words = are_memory_words sizes limits in
    let less = mod_below (field_number sizes i p) (fields_in_word sizes) words.fields in
    let parts = div-add-mod' (field_number sizes i p) (fields_in_word sizes) in
    omega (arith, less, parts, number_below sizes i p below within)

own_number : (sizes : Sizes) (steps : ℕ → ℕ → ℕ) (i p : ℕ) → p < sizes.n → number_in sizes steps (word_of sizes i p) (field_number sizes i p % fields_in_word sizes) ≡ steps i p
own_number sizes steps i p within =
    let parts = div-add-mod' (field_number sizes i p) (fields_in_word sizes) in
    ap (λ (x : ℕ). steps (x / sizes.n) (x % sizes.n)) parts ∙ ap (λ (x : ℕ). steps x ((i * sizes.n + p) % sizes.n)) (div-mul-add i sizes.n p within) ∙ ap (λ (x : ℕ). steps i x) (mod-mul-add i sizes.n p within)

pub word_field : (sizes : Sizes) (steps : ℕ → ℕ → ℕ) → AreSizes sizes → AreWithin sizes steps → (i p : ℕ) → i < sizes.m → p < sizes.n → field_of (memory_word sizes steps (word_of sizes i p)) (place_of sizes i p) sizes.bits ≡ steps i p
word_field sizes steps limits within i p below inside =
    reads_back (number_in sizes steps (word_of sizes i p)) sizes.bits (fields_of_word sizes (word_of sizes i p)) (field_number sizes i p % fields_in_word sizes) (numbers_fit sizes steps (word_of sizes i p) limits within) (own_below sizes i p limits below inside) ∙ own_number sizes steps i p inside

pub word_steps : (sizes : Sizes) (steps : ℕ → ℕ → ℕ) (words : List ℕ) → AreSizes sizes → AreWithin sizes steps → AreMemory sizes words steps → AreSameSteps sizes.m sizes.n (step_in sizes words) steps
word_steps sizes steps words limits within are i p below inside =
    let is = ap (λ w. field_of w (place_of sizes i p) sizes.bits) (are (word_of sizes i p) (word_below sizes i p limits below inside)) in
    let h = word_field sizes steps limits within i p below inside in
    let most = within i p below inside in
    omega (arith, is, h, most)

-- the fields of a word make it
pub word_part : (sizes : Sizes) (steps others : ℕ → ℕ → ℕ) (w : ℕ) → ((i p : ℕ) → i < sizes.m → p < sizes.n → word_of sizes i p ≡ w → steps i p ≡ others i p) → memory_word sizes steps w ≡ memory_word sizes others w
word_part sizes steps others w same = of_same _ _ sizes.bits (fields_of_word sizes w) (λ x below.
    let at = field_at sizes w x below in
    same ((w * fields_in_word sizes + x) / sizes.n) ((w * fields_in_word sizes + x) % sizes.n) at.simulator at.process at.word)

pub word_zero : (sizes : Sizes) (w : ℕ) → memory_word sizes (λ i p. 0) w ≡ 0
word_zero sizes w = of_zeros _ sizes.bits (fields_of_word sizes w) (λ x below. refl)

pub word_raised : (sizes : Sizes) (steps after : ℕ → ℕ → ℕ) (i p : ℕ) → AreSizes sizes → i < sizes.m → p < sizes.n → IsRaised sizes.m sizes.n steps i p after → memory_word sizes after (word_of sizes i p) ≡ memory_word sizes steps (word_of sizes i p) + 2 ^ place_of sizes i p
word_raised sizes steps after i p limits below inside raised =
    let w = word_of sizes i p in
    let own = field_number sizes i p % fields_in_word sizes in
    with_one_more _ _ sizes.bits (fields_of_word sizes w) own (own_below sizes i p limits below inside) (
      own_number sizes after i p inside ∙ raised.own ∙ ap (λ (x : ℕ). x + 1) (sym (own_number sizes steps i p inside)),
      λ x within other.
          let at = field_at sizes w x within in
          let a = (w * fields_in_word sizes + x) / sizes.n in
          let q = (w * fields_in_word sizes + x) % sizes.n in
          let apart : (a ≡ i) → (q ≡ p) → ⊥ = λ e e'.
          let number : w * fields_in_word sizes + x ≡ field_number sizes i p = sym at.is ∙ ap (λ (k : ℕ). k * sizes.n + q) e ∙ ap (λ (k : ℕ). i * sizes.n + k) e' in
          let parts = div-add-mod' (field_number sizes i p) (fields_in_word sizes) in
          other (omega (arith, number, parts)) in
          dite (ℕ_discrete a i)
          (λ (e : a ≡ i).
          sym (ap (λ (k : ℕ). after k q) e ∙ raised.other_processes q at.process (λ e'. apart e e') ∙ ap (λ (k : ℕ). steps k q) (sym e)))
          (λ (n' : a ≢ i). sym (raised.other_simulators a q at.simulator at.process n')),
    )

pub word_else : (sizes : Sizes) (steps after : ℕ → ℕ → ℕ) (i p w : ℕ) → IsRaised sizes.m sizes.n steps i p after → w ≢ word_of sizes i p → memory_word sizes after w ≡ memory_word sizes steps w
word_else sizes steps after i p w raised other = word_part sizes after steps w (λ a q below within at.
    dite (ℕ_discrete a i)
    (λ (e : a ≡ i).
    let not_p : q ≢ p = λ e'. other (sym at ∙ ap (λ (k : ℕ). word_of sizes k q) e ∙ ap (λ (k : ℕ). word_of sizes i k) e') in
    ap (λ (k : ℕ). after k q) e ∙ raised.other_processes q within not_p ∙ ap (λ (k : ℕ). steps k q) (sym e))
    (λ (n' : a ≢ i). raised.other_simulators a q below within n'))

pub within_raised : (sizes : Sizes) (steps after : ℕ → ℕ → ℕ) (i p : ℕ) → AreWithin sizes steps → IsRaised sizes.m sizes.n steps i p after → steps i p < sizes.rounds → AreWithin sizes after
within_raised sizes steps after i p within raised room k q below inside =
    dite (ℕ_discrete k i)
    (λ (e : k ≡ i).
    dite (ℕ_discrete q p)
    (λ (e' : q ≡ p). let own = raised.own in let same : after k q ≡ after i p = ap (λ (x : ℕ). after x q) e ∙ ap (λ (x : ℕ). after i x) e' in omega arith)
    (λ (n' : q ≢ p). let same : after k q ≡ steps k q = ap (λ (x : ℕ). after x q) e ∙ raised.other_processes q inside n' ∙ ap (λ (x : ℕ). steps x q) (sym e) in let h = within k q below inside in omega arith))
    (λ (n' : k ≢ i). let same = raised.other_simulators k q below inside n' in let h = within k q below inside in omega arith)

-- ---- all words, and one word of them

pub memory_at : (sizes : Sizes) (steps : ℕ → ℕ → ℕ) (w : ℕ) → w < 4 → get_or (memory_of sizes steps) w 0 ≡ memory_word sizes steps w
memory_at sizes steps w below = get_or-map-range_with_len (memory_word sizes steps) 0 4 w w 0 below (omega arith)

pub memory_is : (sizes : Sizes) (steps : ℕ → ℕ → ℕ) → AreSizes sizes → AreMemory sizes (memory_of sizes steps) steps
memory_is sizes steps limits w below = memory_at sizes steps w (let few = (are_memory_words sizes limits).few in omega arith)

pub part_here : (sizes : Sizes) (source into : ℕ → ℕ → ℕ) (w : ℕ) → memory_word sizes (with_part sizes w source into) w ≡ memory_word sizes source w
part_here sizes source into w = word_part sizes (with_part sizes w source into) source w (λ i p below within at. ap (λ (b : Bool). cond b (source i p) (into i p)) (eq-eqb _ _ at))

pub part_else : (sizes : Sizes) (source into : ℕ → ℕ → ℕ) (w other : ℕ) → other ≢ w → memory_word sizes (with_part sizes w source into) other ≡ memory_word sizes into other
part_else sizes source into w other apart = word_part sizes (with_part sizes w source into) into other (λ i p below within at. ap (λ (b : Bool). cond b (source i p) (into i p)) (ne_eqb _ _ (λ e. apart (sym at ∙ e))))

pub part_memory : (sizes : Sizes) (source into : ℕ → ℕ → ℕ) (w : ℕ) → w < 4 → memory_of sizes (with_part sizes w source into) ≡ set (memory_of sizes into) w (memory_word sizes source w)
part_memory sizes source into w below =
    let long : length (memory_of sizes into) ≡ 4 = length-map-range_with_len (memory_word sizes into) 0 4 in
    let long' : length (memory_of sizes (with_part sizes w source into)) ≡ 4 = length-map-range_with_len (memory_word sizes (with_part sizes w source into)) 0 4 in
    same_number_lists (memory_of sizes (with_part sizes w source into)) (set (memory_of sizes into) w (memory_word sizes source w)) (long' ∙ sym (length-set (memory_of sizes into) w (memory_word sizes source w) ∙ long)) (λ k less.
    let few : k < 4 = omega (arith, less, long') in
    memory_at sizes (with_part sizes w source into) k few ∙ dite (ℕ_discrete k w)
    (λ (e : k ≡ w).
    ap (λ (x : ℕ). memory_word sizes (with_part sizes w source into) x) e ∙ part_here sizes source into w
    ∙ sym (ap (λ (x : ℕ). get_or (set (memory_of sizes into) w (memory_word sizes source w)) x 0) e ∙ get_or-set_same (memory_of sizes into) w (memory_word sizes source w) 0 (omega (arith, long, below))))
    (λ (n : k ≢ w).
    part_else sizes source into w k n ∙ sym (get_or-set_other (memory_of sizes into) w k (memory_word sizes source w) 0 n ∙ memory_at sizes into k few)))
