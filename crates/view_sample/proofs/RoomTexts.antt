-- The texts of rooms, one by one.
use Rattle.std.proofs.Common.{Bor, ◌≡◌, ◌⊎◌, ℕ, zero, suc, ◌+◌, ◌-◌, ◌≤◌, ◌&&◌, Bool, true, false, not, List, [], ◌∷◌, ◌++◌, Option, None, Some, Result, Ok, Err, inl, inr, length, map, min, take, refl, sym, ap, ap₂, ◌∙◌, subst, arith}
use Rattle.std.specs.Prelude.{IsPermutation, OnErr, is_some, option_map, slice_get}
use Rattle.std.specs.Option.{option_copied}
use Rattle.std.specs.List.{concat}
use Rattle.std.proofs.lemmas.List.{append-nil, append_assoc, length-take, take-take, take_all}
use Rattle.std.proofs.lemmas.List.Folds.{concat-append}
use Rattle.room_files.specs.Kinds.{block_of}
use Rattle.room_files.specs.declared.kinds.Kinds.TheVariants.{All}
use Rattle.room_spec.specs.Rooms.{IsWithinLimits, RoomSpec}
use Rattle.room_files.specs.BlockLists.{IsBlockAt}
use Rattle.view_sample.specs.Rooms.{AddsCut, AddsFirst, AddsSamples, AreSampleTexts, IsChosen, IsListed, IsSampleText, IsReported, ListsFewer, ShowsNoMore, alone_shown, cut_plan, end_text, shown_text, shows_alone, shows_breaking}
use Rattle.view_sample.specs.Texts.{shown_count}
use Rattle.room_sample.specs.Groups.{grouped_if}
use Rattle.room_sample.specs.Shown.{AreShown, IsShownIf, Shown, shown_of}
use Rattle.room_sample.specs.Samples.{AreAmongAll, AreMostFirst, Counted, IsSample, IsSampleOf}
use Rattle.view_sample.specs.TaskTexts.{has_held}
use Rattle.view_sample.specs.Tasks.{first_broken}
use Rattle.room_sample.specs.declared.examples.Example.{Example}
use Rattle.room_sample.specs.declared.sampling.Plan.{Plan}
use Rattle.view_sample.proofs.Coming.{all_shown, fewer_shown, lent_shown, script_leads, scripts_lead}
use Rattle.view_sample.proofs.Taking.{took}

pub and_right : (b : Bool) → b ≡ (b && true)
and_right true = refl
and_right false = refl

pub and_assoc : (a b c : Bool) → ((a && b) && c) ≡ (a && (b && c))
and_assoc true b c = refl
and_assoc false b c = refl

texts_more : (plan : Plan) (specs : List RoomSpec) (well : Bool) (texts : List (List ℕ)) (spec : RoomSpec) (one : Bool) (text : List ℕ) → AreSampleTexts plan specs well texts → IsSampleText plan spec one text → AreSampleTexts plan (specs ++ spec ∷ []) (well && one) (texts ++ text ∷ [])
texts_more plan [] well [] spec one text are is = (one, true, is, refl, ap (λ (b : Bool). b && one) are ∙ and_right one)
texts_more plan (other ∷ specs) well (first ∷ texts) spec one text are is = (are.0, are.1 && one, are.2, texts_more plan specs are.1 texts spec one text are.3 is, ap (λ (b : Bool). b && one) are.4 ∙ and_assoc are.0 are.1 one)
texts_more plan [] well (first ∷ texts) spec one text are is = absurd are
texts_more plan (other ∷ specs) well [] spec one text are is = absurd are

pub no_samples : (plan : Plan) (before : List ℕ) → AddsSamples plan [] true before before
no_samples plan before = record { texts = []; each_room = refl; after_is = sym (append-nil before) }

pub one_sample_more : (plan : Plan) (specs : List RoomSpec) (i : ℕ) (block : List ℕ) (well one : Bool) (before so_far after : List ℕ) → IsBlockAt specs i block → AddsSamples plan (take i specs) well before so_far
    → ((spec : RoomSpec) → block_of All block ≡ Ok (spec, length block) → (text : List ℕ) × IsSampleText plan spec one text × (after ≡ so_far ++ text)) → AddsSamples plan (take (i + 1) specs) (well && one) before after
one_sample_more plan specs i block well one before so_far after at adds more =
    let said = more at.room at.says in
    let text = said.0 in
    record {
      texts = adds.texts ++ text ∷ [];
      each_room = subst (λ (rooms : List RoomSpec). AreSampleTexts plan rooms (well && one) (adds.texts ++ text ∷ [])) (sym (took specs i at.room at.there)) (texts_more plan (take i specs) well adds.texts at.room one text adds.each_room said.1);
      after_is =
          said.2 ∙ ap (λ (t : List ℕ). t ++ text) adds.after_is ∙ append_assoc before (concat adds.texts) text
          ∙ ap (λ (t : List ℕ). before ++ (concat adds.texts ++ t)) (sym (append-nil text))
          ∙ ap (λ (t : List ℕ). before ++ t) (sym (concat-append adds.texts (text ∷ [])));
    }

pub all_samples : (plan : Plan) (specs : List RoomSpec) (i : ℕ) (well : Bool) (before after : List ℕ) → length specs ≤ i → AddsSamples plan (take i specs) well before after → AddsSamples plan specs well before after
all_samples plan specs i well before after past adds = subst (λ (rooms : List RoomSpec). AddsSamples plan rooms well before after) (take_all i specs (omega (arith, past))) adds

same_read : (block : List ℕ) (one other : RoomSpec × ℕ) → block_of All block ≡ Ok one → block_of All block ≡ Ok other → one ≡ other
same_read block one other read says = cc

-- the room that a block says is no other
pub own_room : (block : List ℕ) (spec : RoomSpec) (len : ℕ) → block_of All block ≡ Ok (spec, len) → (said : RoomSpec) × (block_of All block ≡ Ok (said, length block)) → block_of All block ≡ Ok (spec, length block)
own_room block spec len read says =
    subst (λ (room : RoomSpec). block_of All block ≡ Ok (room, length block)) (ap (λ (one : RoomSpec × ℕ). one.0) (same_read block (says.0, length block) (spec, len) says.1 read)) says.1

pub of_said : (P : RoomSpec → Type 0) (block : List ℕ) (spec said : RoomSpec) → block_of All block ≡ Ok (spec, length block) → block_of All block ≡ Ok (said, length block) → P spec → P said
of_said P block spec said own says is =
    subst P (ap (λ (one : RoomSpec × ℕ). one.0) (same_read block (spec, length block) (said, length block) own says)) is

-- ---- what is reported of a room

-- these outcomes, of which some are shown
module _ (plan : Plan) (top : Option ℕ) (spec : RoomSpec) (block : List ℕ) (limits : IsWithinLimits spec) (own : block_of All block ≡ Ok (spec, length block)) where
  not_false : (b : Bool) → b ≡ false → not b ≡ true
  not_false b is = ap not is

  same_shown : (json : Bool) (ordered : List Counted) (shown : List Shown) → shown_text json plan spec.name block ordered shown ≡ shown_text json (cut_plan plan plan.schedules top) spec.name block ordered shown
  same_shown true ordered shown = refl
  same_shown false ordered shown = refl

  same_end : (json : Bool) (outcomes : List Counted) (broken : Option Shown) → end_text json plan spec block outcomes broken ≡ end_text json (cut_plan plan plan.schedules top) spec block outcomes broken
  same_end true outcomes broken = refl
  same_end false outcomes broken = refl

  pub listed : (outcomes ordered : List Counted) (shown : List Shown) (broken : Option Shown) (well : Bool) (text : List ℕ) → IsPermutation outcomes ordered → AreMostFirst plan.from ordered
      → AreShown spec plan.crashes (not plan.brief) (take (shown_count top (length ordered)) ordered) shown → IsShownIf spec plan.crashes (shows_breaking plan) (first_broken spec outcomes) broken → well ≡ has_held spec outcomes
      → text ≡ shown_text plan.json plan spec.name block ordered shown ++ end_text plan.json plan spec block outcomes broken → IsListed (cut_plan plan plan.schedules top) spec block outcomes well text
  listed outcomes ordered shown broken well text permuted first are broken_is well_is text_is = record {
    ordered = ordered;
    all_ordered = permuted;
    most_first = first;
    shown = shown;
    are_shown = are;
    scripts = λ asked. scripts_lead spec plan.crashes (not plan.brief) block limits own (not_false plan.brief asked) (take (shown_count top (length ordered)) ordered) shown are;
    broken = broken;
    broken_is = broken_is;
    breaking = λ asked. script_leads spec plan.crashes (shows_breaking plan) block limits own asked (first_broken spec outcomes) broken broken_is;
    well_is = well_is;
    text_is = text_is ∙ ap₂ (λ (a b : List ℕ). a ++ b) (same_shown plan.json ordered shown) (same_end plan.json outcomes broken);
  }

pub chosen : (number : ℕ) (plan : Plan) (spec : RoomSpec) (block : List ℕ) (outcomes ordered : List Counted) (shown : Option Shown) (well : Bool) (before after text : List ℕ) → IsWithinLimits spec → block_of All block ≡ Ok (spec, length block) → IsPermutation outcomes ordered
    → AreMostFirst plan.from ordered → IsShownIf spec plan.crashes (shows_alone plan) (slice_get ordered (number - 1)) shown → well ≡ is_some (slice_get ordered (number - 1)) → text ≡ alone_shown plan.json plan spec.name block (length ordered) number shown
    → after ≡ before ++ text → (text : List ℕ) × IsChosen number plan spec block outcomes well text × (after ≡ before ++ text)
chosen number plan spec block outcomes ordered shown well before after text limits own permuted first is well_is text_is after_is = (
  text,
  record {
    ordered = ordered;
    all_ordered = permuted;
    most_first = first;
    shown = shown;
    is_shown = is;
    script = λ asked. script_leads spec plan.crashes (shows_alone plan) block limits own asked (slice_get ordered (number - 1)) shown is;
    well_is = well_is;
    text_is = text_is;
  },
  after_is,
)

-- the text after the outcomes, and the text of one outcome
pub ended : (json : Bool) (plan : Plan) (spec : RoomSpec) (block : List ℕ) (outcomes : List Counted) (lent : Option (Bor Example)) (one : Option Example) (start text : List ℕ) → start ≡ [] → option_copied lent ≡ one
    → text ≡ start ++ end_text json plan spec block outcomes (option_map (λ (r : Bor Example). shown_of r.now) lent) → text ≡ end_text json plan spec block outcomes (option_map shown_of one)
ended json plan spec block outcomes lent one start text start_is lent_is text_is =
    text_is ∙ ap₂ (λ (s : List ℕ) (o : Option Shown). s ++ end_text json plan spec block outcomes o) start_is (lent_shown lent one lent_is)

pub alone_reported : (json : Bool) (plan : Plan) (name block : List ℕ) (count total number : ℕ) (lent : Option (Bor Example)) (one : Option Example) (start text : List ℕ) → start ≡ [] → count ≡ total → option_copied lent ≡ one
    → text ≡ start ++ alone_shown json plan name block count number (option_map (λ (r : Bor Example). shown_of r.now) lent) → text ≡ alone_shown json plan name block total number (option_map shown_of one)
alone_reported json plan name block count total number lent one start text start_is count_is lent_is text_is =
    text_is ∙ ap₂ (λ (s : List ℕ) (o : Option Shown). s ++ alone_shown json plan name block count number o) start_is (lent_shown lent one lent_is) ∙ ap (λ (n : ℕ). alone_shown json plan name block n number (option_map shown_of one)) count_is

-- the outcomes that are reported are those of a sample
pub sample_reported : (alone : Option ℕ) (plan : Plan) (spec : RoomSpec) (block : List ℕ) (outcomes reported : List Counted) (well : Bool) (text : List ℕ) → block_of All block ≡ Ok (spec, length block) → IsSample spec plan outcomes → AreAmongAll spec outcomes
    → reported ≡ grouped_if plan.group outcomes → plan.outcome ≡ alone → IsReported alone plan spec block reported well text → IsSampleText plan spec well text
sample_reported alone plan spec block outcomes reported well text own sample among reported_is alone_is is = record {
  block = block;
  says = own;
  outcomes = outcomes;
  sample = sample;
  among = among;
  reported = subst (λ (o : Option ℕ). IsReported o plan spec block (grouped_if plan.group outcomes) well text) (sym alone_is) (subst (λ (all : List Counted). IsReported alone plan spec block all well text) reported_is is);
}

-- ---- if an allocation fails

pub on_err : {T E P : Type 0} (result : Result T E) → P → OnErr result P
on_err (Ok value) is = tt
on_err (Err error) is = is

pub on_err_weaker : {T E P Q : Type 0} (result : Result T E) → (P → Q) → OnErr result P → OnErr result Q
on_err_weaker (Ok value) more is = tt
on_err_weaker (Err error) more is = more is

-- what a sample is doesn't depend on how many of its outcomes are shown
pub cut_sample : (spec : RoomSpec) (plan : Plan) (schedules : ℕ) (top : Option ℕ) (outcomes : List Counted) → IsSampleOf spec plan schedules outcomes → IsSample spec (cut_plan plan schedules top) outcomes
cut_sample spec plan schedules top outcomes is = record {
  runs = is.runs;
  count = is.count;
  drawn = λ k run there. let drawn = is.drawn k run there in record { number_is = drawn.number_is; drawn = drawn.drawn };
  outcomes_are = is.outcomes_are;
  total = is.total;
}

pub shows_as_many : (top : Option ℕ) → ShowsNoMore top top
shows_as_many top count = omega arith

pub shows_fewer : (top : Option ℕ) (length most : ℕ) → most ≤ shown_count top length → ShowsNoMore (Some most) top
shows_fewer None length most few count = omega arith
shows_fewer (Some top) length most few count = omega (arith, few)

-- half of those that are left are the first ones too
pub half_left : (all shown after : List Example) (half : ℕ) → half ≤ length shown → (most : ℕ) × (most ≤ length all) × (shown ≡ take most all) → after ≡ take half shown → (most : ℕ) × (most ≤ length all) × (after ≡ take most all)
half_left all shown after half less (most, few, is) after_is =
    let long : length shown ≡ min most (length all) = ap (λ (l : List Example). length l) is ∙ length-take most all in
    (half, omega (arith, less, few, long), after_is ∙ ap (take half) is ∙ take-take half most all (omega (arith, less, long)))

first_of : (examples : List Example) (n : ℕ) → map shown_of (take n examples) ≡ take n (map shown_of examples)
first_of examples zero = refl
first_of [] (suc n) = refl
first_of (one ∷ examples) (suc n) = ap (λ (shown : List Shown). shown_of one ∷ shown) (first_of examples n)

-- some of the outcomes were shown, or none
pub fewer_listed : (plan : Plan) (spec : RoomSpec) (block : List ℕ) (outcomes ordered : List Counted) (examples : List Example) (broken : Option Shown) (well : Bool) (end before after : List ℕ) → IsWithinLimits spec → block_of All block ≡ Ok (spec, length block)
    → IsPermutation outcomes ordered → AreMostFirst plan.from ordered → AreShown spec plan.crashes (not plan.brief) (take (length examples) ordered) (map shown_of examples) → length examples ≤ shown_count plan.top (length ordered)
    → IsShownIf spec plan.crashes (shows_breaking plan) (first_broken spec outcomes) broken → well ≡ has_held spec outcomes → end ≡ end_text plan.json plan spec block outcomes broken
    → (after ≡ before) ⊎ ((most : ℕ) × (most ≤ length examples) × (after ≡ before ++ (shown_text plan.json plan spec.name block ordered (map shown_of (take most examples)) ++ end))) → ListsFewer plan spec block outcomes before after
fewer_listed plan spec block outcomes ordered examples broken well end before after limits own permuted first are few broken_is well_is end_is (inl same) = inl same
fewer_listed plan spec block outcomes ordered examples broken well end before after limits own permuted first are few broken_is well_is end_is (inr (most, fewer, after_is)) =
    let shown = map shown_of (take most examples) in
    let those : AreShown spec plan.crashes (not plan.brief) (take (shown_count (Some most) (length ordered)) ordered) shown =
    subst (λ (all : List Shown). AreShown spec plan.crashes (not plan.brief) (take (shown_count (Some most) (length ordered)) ordered) all) (sym (first_of examples most))
    (fewer_shown spec plan.crashes (not plan.brief) ordered (map shown_of examples) (length examples) most fewer are) in
    let text = shown_text plan.json plan spec.name block ordered shown ++ end_text plan.json plan spec block outcomes broken in
    inr (
      Some most,
      well,
      text,
      shows_fewer plan.top (length ordered) most (omega (arith, fewer, few)),
      listed plan (Some most) spec block limits own outcomes ordered shown broken well text permuted first those broken_is well_is refl,
      after_is ∙ ap (λ (e : List ℕ). before ++ (shown_text plan.json plan spec.name block ordered shown ++ e)) end_is,
    )

-- as many as were made, which are fewer than were asked for
pub made_listed : (plan : Plan) (spec : RoomSpec) (block : List ℕ) (outcomes ordered : List Counted) (examples : List Example) (broken : Option Shown) (well : Bool) (end before after : List ℕ) → IsWithinLimits spec → block_of All block ≡ Ok (spec, length block)
    → IsPermutation outcomes ordered → AreMostFirst plan.from ordered → AreShown spec plan.crashes (not plan.brief) (take (length examples) ordered) (map shown_of examples) → length examples ≤ shown_count plan.top (length ordered)
    → IsShownIf spec plan.crashes (shows_breaking plan) (first_broken spec outcomes) broken → well ≡ has_held spec outcomes → end ≡ end_text plan.json plan spec block outcomes broken
    → after ≡ before ++ (shown_text plan.json plan spec.name block ordered (map shown_of examples) ++ end) → ListsFewer plan spec block outcomes before after
made_listed plan spec block outcomes ordered examples broken well end before after limits own permuted first are few broken_is well_is end_is after_is =
    let count = length examples in
    let text = shown_text plan.json plan spec.name block ordered (map shown_of examples) ++ end_text plan.json plan spec block outcomes broken in
    inr (
      Some count,
      well,
      text,
      shows_fewer plan.top (length ordered) count few,
      listed plan (Some count) spec block limits own outcomes ordered (map shown_of examples) broken well text permuted first (all_shown spec plan.crashes (not plan.brief) ordered (map shown_of examples) count are) broken_is well_is refl,
      after_is ∙ ap (λ (e : List ℕ). before ++ (shown_text plan.json plan spec.name block ordered (map shown_of examples) ++ e)) end_is,
    )

-- all that were asked for
pub whole_listed : (plan : Plan) (spec : RoomSpec) (block : List ℕ) (outcomes ordered : List Counted) (examples : List Example) (broken : Option Shown) (well : Bool) (end before after : List ℕ) → IsWithinLimits spec → block_of All block ≡ Ok (spec, length block)
    → IsPermutation outcomes ordered → AreMostFirst plan.from ordered → AreShown spec plan.crashes (not plan.brief) (take (length examples) ordered) (map shown_of examples) → length examples ≡ shown_count plan.top (length ordered)
    → IsShownIf spec plan.crashes (shows_breaking plan) (first_broken spec outcomes) broken → well ≡ has_held spec outcomes → end ≡ end_text plan.json plan spec block outcomes broken
    → after ≡ before ++ (shown_text plan.json plan spec.name block ordered (map shown_of examples) ++ end) → (text : List ℕ) × IsListed plan spec block outcomes well text × (after ≡ before ++ text)
whole_listed plan spec block outcomes ordered examples broken well end before after limits own permuted first are all broken_is well_is end_is after_is =
    let text = shown_text plan.json plan spec.name block ordered (map shown_of examples) ++ end_text plan.json plan spec block outcomes broken in (
      text,
      listed plan plan.top spec block limits own outcomes ordered (map shown_of examples) broken well text permuted first
          (subst (λ (n : ℕ). AreShown spec plan.crashes (not plan.brief) (take n ordered) (map shown_of examples)) all are) broken_is well_is refl,
      after_is ∙ ap (λ (e : List ℕ). before ++ (shown_text plan.json plan spec.name block ordered (map shown_of examples) ++ e)) end_is,
    )

-- and so the sample was written in part
pub fewer_reported : (plan : Plan) (spec : RoomSpec) (block : List ℕ) (outcomes reported : List Counted) (before after : List ℕ) → block_of All block ≡ Ok (spec, length block) → IsSample spec plan outcomes → AreAmongAll spec outcomes
    → reported ≡ grouped_if plan.group outcomes → plan.outcome ≡ None → ListsFewer plan spec block reported before after → AddsCut plan spec before after
fewer_reported plan spec block outcomes reported before after own sample among reported_is alone_is (inl same) = inl same
fewer_reported plan spec block outcomes reported before after own sample among reported_is alone_is (inr (top, well, text, shows, is, after_is)) =
    let cut = cut_plan plan plan.schedules top in
    inr (
      text,
      record {
        schedules = plan.schedules;
        top = top;
        fewer = omega arith;
        shows = shows;
        well = well;
        is_sample = sample_reported None cut spec block outcomes reported well text own (cut_sample spec plan plan.schedules top outcomes sample) among reported_is alone_is is;
      },
      after_is,
    )

-- the sample of fewer schedules is shown whole
pub whole_cut : (plan : Plan) (spec : RoomSpec) (schedules : ℕ) (well : Bool) (before after : List ℕ) → schedules ≤ plan.schedules → (text : List ℕ) × IsSampleText (cut_plan plan schedules plan.top) spec well text × (after ≡ before ++ text) → AddsCut plan spec before after
whole_cut plan spec schedules well before after few (text, shown, after_is) =
    inr (text, record { schedules = schedules; top = plan.top; fewer = few; shows = shows_as_many plan.top; well = well; is_sample = shown }, after_is)

-- or not whole
pub cut_again : (plan : Plan) (spec : RoomSpec) (schedules : ℕ) (before after : List ℕ) → schedules ≤ plan.schedules → AddsCut (cut_plan plan schedules plan.top) spec before after → AddsCut plan spec before after
cut_again plan spec schedules before after few (inl same) = inl same
cut_again plan spec schedules before after few (inr (text, cut, after_is)) =
    inr (text, record { schedules = cut.schedules; top = cut.top; fewer = omega (arith, few, cut.fewer); shows = cut.shows; well = cut.well; is_sample = cut.is_sample }, after_is)

-- all schedules were run
pub all_run : (plan : Plan) (spec : RoomSpec) (schedules : ℕ) (well : Bool) (before after : List ℕ) → schedules ≡ plan.schedules → (text : List ℕ) × IsSampleText (cut_plan plan schedules plan.top) spec well text × (after ≡ before ++ text)
    → (text : List ℕ) × IsSampleText plan spec well text × (after ≡ before ++ text)
all_run plan spec schedules well before after all is =
    subst (λ (n : ℕ). (text : List ℕ) × IsSampleText (cut_plan plan n plan.top) spec well text × (after ≡ before ++ text)) all is

-- the rooms before this one, and what there was memory for of this one
pub cut_here : (plan : Plan) (specs : List RoomSpec) (i : ℕ) (block : List ℕ) (well : Bool) (before so_far after : List ℕ) → IsBlockAt specs i block → AddsSamples plan (take i specs) well before so_far
    → ((spec : RoomSpec) → block_of All block ≡ Ok (spec, length block) → AddsCut plan spec so_far after) → AddsFirst plan specs before after
cut_here plan specs i block well before so_far after at adds rest =
    record { count = i; next = at.room; there = at.there; well = well; reported = so_far; first = adds; rest = rest at.room at.says }
