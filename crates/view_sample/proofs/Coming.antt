-- The scripts of a sample's outcomes.
use Rattle.std.proofs.Common.{All, Bor, ◌≡◌, ℕ, zero, suc, ◌≤◌, Bool, true, false, cond, List, [], ◌∷◌, Option, Some, None, Ok, length, min, take, sym, ap, subst, arith}
use Rattle.std.specs.Prelude.{IfSome, IsPermutation, is_some, option_map, slice_get}
use Rattle.std.specs.List.{find}
use Rattle.std.specs.Option.{option_copied}
use Rattle.std.proofs.lemmas.List.{take_min}
use Rattle.std.proofs.lemmas.List.Elements.{All-cons, All-nil, All-tail}
use Rattle.std.proofs.lemmas.List.Sorted.{All-permutation}
use Rattle.room_files.specs.Kinds.{block_of}
use Rattle.room_files.specs.declared.kinds.Kinds.TheVariants as kinds
use Rattle.room_spec.specs.Rooms.{IsWithinLimits, RoomSpec}
use Rattle.room_sample.specs.Groups.{grouped_if}
use Rattle.room_sample.specs.Samples.{CameByFirst, Counted, IsSample}
use Rattle.room_sample.specs.Shown.{AreShown, IsShownIf, Shown, shown_of}
use Rattle.room_sample.specs.declared.examples.Example.{Example}
use Rattle.room_sample.specs.declared.sampling.Plan.{Plan}
use Rattle.room_sample.proofs.CallerLemmas.{groups_came, sample_came}
use Rattle.view_sample.specs.Leads.{HasScript}
use Rattle.view_sample.proofs.Leading.{leads}

-- ---- the schedule of each outcome's number leads to it

-- these outcomes of a sample, or their groups
pub reported_came : (plan : Plan) (spec : RoomSpec) (outcomes reported : List Counted) → IsSample spec plan outcomes → reported ≡ grouped_if plan.group outcomes → All (CameByFirst spec plan) reported
reported_came plan spec outcomes reported sample is =
    subst (λ (all : List Counted). All (CameByFirst spec plan) all) (sym is) (groups_came spec plan plan.group outcomes (sample_came spec plan plan.schedules outcomes sample))

-- in any order
pub ordered_came : (plan : Plan) (spec : RoomSpec) (outcomes ordered : List Counted) → IsPermutation outcomes ordered → All (CameByFirst spec plan) outcomes → All (CameByFirst spec plan) ordered
ordered_came plan spec outcomes ordered permuted came = All-permutation (CameByFirst spec plan) outcomes ordered permuted came

-- the first one for which a test holds
pub first_found : (P : Counted → Type 0) (test : Counted → Bool) (outcomes : List Counted) → All P outcomes → IfSome (find test outcomes) P
first_found P test [] all = tt
first_found P test (one ∷ others) all = by (test one) (all 0 one (omega arith)) (first_found P test others (All-tail P one others all))
  where
    by : (b : Bool) → P one → IfSome (find test others) P → IfSome (cond b (Some one) (find test others)) P
    by true here later = here
    by false here later = later

-- the one of an index
pub one_found : (P : Counted → Type 0) (outcomes : List Counted) (k : ℕ) → All P outcomes → IfSome (slice_get outcomes k) P
one_found P [] k all = tt
one_found P (one ∷ others) zero all = all 0 one (omega arith)
one_found P (one ∷ others) (suc k) all = one_found P others k (All-tail P one others all)

pub if_found : {X : Type 0} (f : X → Counted) (P : Counted → Type 0) (found : Option X) (one : Option Counted) → option_map f found ≡ one → IfSome one P → IfSome found (λ (x : X). P (f x))
if_found f P None one is holds = tt
if_found f P (Some x) one is holds = subst (λ (o : Option Counted). IfSome o P) (sym is) holds

-- ---- each script leads to its outcome

module _ (spec : RoomSpec) (crashes : ℕ) (scripts : Bool) (block : List ℕ) (limits : IsWithinLimits spec) (says : block_of kinds.All block ≡ Ok (spec, length block)) (asked : scripts ≡ true) where
  pub scripts_lead : (outcomes : List Counted) (shown : List Shown) → AreShown spec crashes scripts outcomes shown → All (HasScript spec.name block) shown
  scripts_lead [] [] are = All-nil (HasScript spec.name block)
  scripts_lead (one ∷ outcomes) (other ∷ shown) are =
      All-cons (HasScript spec.name block) other shown (leads spec crashes block other.schedule other.states limits says (are.0.leads asked)) (scripts_lead outcomes shown are.1)
  scripts_lead [] (other ∷ shown) are = absurd are
  scripts_lead (one ∷ outcomes) [] are = absurd are

  pub script_leads : (found : Option Counted) (shown : Option Shown) → IsShownIf spec crashes scripts found shown → IfSome shown (HasScript spec.name block)
  script_leads None None is = tt
  script_leads (Some one) (Some other) is = leads spec crashes block other.schedule other.states limits says (is.leads asked)
  script_leads None (Some other) is = absurd is
  script_leads (Some one) None is = absurd is

-- ---- fewer are shown

module _ (spec : RoomSpec) (crashes : ℕ) (scripts : Bool) where
  first_shown : (outcomes : List Counted) (shown : List Shown) (n m : ℕ) → m ≤ n → AreShown spec crashes scripts (take n outcomes) shown → AreShown spec crashes scripts (take m outcomes) (take m shown)
  first_shown outcomes shown n zero few are = tt
  first_shown outcomes shown zero (suc m) few are = absurd (omega (arith, few))
  first_shown [] [] (suc n) (suc m) few are = tt
  first_shown [] (other ∷ shown) (suc n) (suc m) few are = absurd are
  first_shown (one ∷ outcomes) [] (suc n) (suc m) few are = absurd are
  first_shown (one ∷ outcomes) (other ∷ shown) (suc n) (suc m) few are = (are.0, first_shown outcomes shown n m (omega (arith, few)) are.1)

  pub fewer_shown : (outcomes : List Counted) (shown : List Shown) (n m : ℕ) → m ≤ n → AreShown spec crashes scripts (take n outcomes) shown → AreShown spec crashes scripts (take (min m (length outcomes)) outcomes) (take m shown)
  fewer_shown outcomes shown n m few are = subst (λ (all : List Counted). AreShown spec crashes scripts all (take m shown)) (sym (take_min m outcomes)) (first_shown outcomes shown n m few are)

  pub all_shown : (outcomes : List Counted) (shown : List Shown) (n : ℕ) → AreShown spec crashes scripts (take n outcomes) shown → AreShown spec crashes scripts (take (min n (length outcomes)) outcomes) shown
  all_shown outcomes shown n are = subst (λ (all : List Counted). AreShown spec crashes scripts all shown) (sym (take_min n outcomes)) are

-- what is lent is shown as what it is lent from
pub lent_shown : (lent : Option (Bor Example)) (one : Option Example) → option_copied lent ≡ one → option_map (λ (r : Bor Example). shown_of r.now) lent ≡ option_map shown_of one
lent_shown None one is = ap (option_map shown_of) is
lent_shown (Some r) one is = ap (option_map shown_of) is

pub lent_there : {X : Type 0} (f : X → Counted) (found : Option X) (one : Option Counted) → option_map f found ≡ one → is_some found ≡ is_some one
lent_there f None one is = ap is_some is
lent_there f (Some x) one is = ap is_some is
