-- What the words of the command line request.
use Rattle.std.specs.Prelude.{◌≡◌, ⊤, ℕ, Bool, true, false, List, [], Option, Some, None, codes, option_map, unwrap_or}
use Rattle.clap.specs.Words.{Row}
use Rattle.room_sample.specs.declared.sampling.Plan.{Plan}
use Rattle.run_picture.specs.declared.picture.Style.{Style}
use Rattle.view_open.specs.declared.plan.OpenPlan.{OpenPlan}
use Rattle.view_outcomes.specs.Forms.{form_if}
use Rattle.view_sum.specs.declared.form.SumForm.{SumForm}
use Rattle.bgview_command_line.specs.CommandLine.{IsNumber, IsNumberIfAny, is_given, json_among, keeps_among, value_among}
use Rattle.bgview_command_line.specs.declared.words.Mode.{Mode}
use Rattle.bgview_command_line.specs.declared.words.Mode.TheVariants as modes
use Rattle.bgview.specs.declared.request.Explaining.{Explaining}
use Rattle.bgview.specs.declared.request.Grading.{Grading}
use Rattle.bgview.specs.declared.request.OfInput.TheVariants.{Live, Whole}
use Rattle.bgview.specs.declared.request.Paging.{Paging}
use Rattle.bgview.specs.declared.request.Request.{Request}
use Rattle.bgview.specs.declared.request.Request.TheVariants.{Why, Trace, Draw, Page, Transcript, Grade, Sample, Outcomes, Open, Lint}
use Rattle.bgview.specs.declared.request.Requested.{Requested}
use Rattle.bgview.specs.declared.request.Requested.TheVariants.{Faults, Input, Sum}
use Rattle.bgview.specs.declared.request.Sampling.{Sampling}
use Rattle.bgview.specs.declared.request.Searching.{Searching}

-- the plan that the values of `sample` say
pub record IsPlanAmong (found : Option (List ℕ × List Row)) (plan : Plan) : Type 0 where
  pub schedules : IsNumber (value_among (codes "schedules") found) 1000 plan.schedules
  pub crashes : IsNumber (value_among (codes "crashes") found) 1 plan.crashes
  pub seed : IsNumber (value_among (codes "seed") found) 1 plan.seed
  pub from : IsNumber (value_among (codes "from") found) 0 plan.from
  pub workers : IsNumber (value_among (codes "workers") found) 1 plan.workers
  pub group : plan.group ≡ is_given (value_among (codes "group") found)
  pub brief : plan.brief ≡ is_given (value_among (codes "brief") found)
  pub json : plan.json ≡ is_given (value_among (codes "json") found)
  pub top : IsNumberIfAny (value_among (codes "top") found) plan.top
  pub outcome : IsNumberIfAny (value_among (codes "outcome") found) plan.outcome

-- the values of which the rooms' inputs are made, and the task by which their histories are judged
pub record IsSamplingAmong (found : Option (List ℕ × List Row)) (sampling : Sampling) : Type 0 where
  pub plan : IsPlanAmong found sampling.plan
  pub values : option_map (λ text. text.now) sampling.values ≡ value_among (codes "inputs") found
  pub keeps : option_map (λ text. text.now) sampling.keeps ≡ keeps_among found

-- how a transcript is explained, as the values of `why` say
pub record IsExplainingAmong (found : Option (List ℕ × List Row)) (explaining : Explaining) : Type 0 where
  pub json : explaining.json ≡ json_among found
  pub keeps : option_map (λ text. text.now) explaining.keeps ≡ keeps_among found

-- the search that the values of `outcomes` say
pub record IsSearchAmong (found : Option (List ℕ × List Row)) (search : Searching) : Type 0 where
  pub rooms : search.rooms ≡ is_given (value_among (codes "rooms") found)
  pub crashes : IsNumberIfAny (value_among (codes "crashes") found) search.crashes
  pub nodes : IsNumber (value_among (codes "nodes") found) 1000000 search.nodes
  pub brief : search.brief ≡ is_given (value_among (codes "brief") found)
  pub form : search.form ≡ form_if (json_among found)
  pub top : IsNumberIfAny (value_among (codes "top") found) search.top
  pub outcome : IsNumberIfAny (value_among (codes "outcome") found) search.outcome
  pub task : search.task ≡ is_given (value_among (codes "task") found)
  pub values : option_map (λ text. text.now) search.values ≡ value_among (codes "inputs") found
  pub keeps : option_map (λ text. text.now) search.keeps ≡ keeps_among found

-- what the values of `grade` say that a script is graded by
pub record IsGradingAmong (found : Option (List ℕ × List Row)) (grading : Grading) : Type 0 where
  pub json : grading.json ≡ json_among found
  pub goal : grading.goal.now ≡ unwrap_or (value_among (codes "goal") found) []
  pub most : IsNumberIfAny (value_among (codes "commands") found) grading.most
  pub keeps : option_map (λ text. text.now) grading.keeps ≡ keeps_among found

-- how rooms are searched for the outcomes that are open, as the values say
pub record IsOpenPlanAmong (found : Option (List ℕ × List Row)) (plan : OpenPlan) : Type 0 where
  pub crashes : IsNumberIfAny (value_among (codes "crashes") found) plan.crashes
  pub nodes : IsNumber (value_among (codes "nodes") found) 1000000 plan.nodes
  pub json : plan.json ≡ json_among found

-- if these outcomes are asked for
abbrev pub IsOpenPlanIf : Bool → Option (List ℕ × List Row) → Option OpenPlan → Type 0
IsOpenPlanIf true found (Some plan) = IsOpenPlanAmong found plan
IsOpenPlanIf true found None = ⊥
IsOpenPlanIf false found plan = plan ≡ None

-- what the values of `page` say that it shows
pub record IsPagingAmong (found : Option (List ℕ × List Row)) (paging : Paging) : Type 0 where
  pub keeps : option_map (λ text. text.now) paging.keeps ≡ keeps_among found
  pub search : IsOpenPlanIf (is_given (value_among (codes "open") found)) found paging.search

-- how rooms are drawn, as the values of `draw` say
pub record IsStyleAmong (found : Option (List ℕ × List Row)) (style : Style) : Type 0 where
  pub percent : IsNumber (value_among (codes "scale") found) 100 style.percent
  pub by_turns : style.by_turns ≡ is_given (value_among (codes "turns") found)

-- how a sum is written, as the values of `sum` say
pub record IsSumFormAmong (found : Option (List ℕ × List Row)) (form : SumForm) : Type 0 where
  pub top : IsNumberIfAny (value_among (codes "top") found) form.top
  pub json : form.json ≡ json_among found
  pub brief : form.brief ≡ is_given (value_among (codes "brief") found)

-- what is requested of an input that is read whole: what the mode is, with what the values of its options say
abbrev pub IsRequestBy : Mode → Option (List ℕ × List Row) → Request → Type 0
IsRequestBy modes.Why found (Why explaining) = IsExplainingAmong found explaining
IsRequestBy modes.Trace found (Trace json) = json ≡ json_among found
IsRequestBy modes.Draw found (Draw style) = IsStyleAmong found style
IsRequestBy modes.Page found (Page paging) = IsPagingAmong found paging
IsRequestBy modes.Transcript found Transcript = ⊤
IsRequestBy modes.Grade found (Grade grading) = IsGradingAmong found grading
IsRequestBy modes.Sample found (Sample sampling) = IsSamplingAmong found sampling
IsRequestBy modes.Outcomes found (Outcomes searching) = (is_given (value_among (codes "open") found) ≡ false) × IsSearchAmong found searching
IsRequestBy modes.Outcomes found (Open searching) = (is_given (value_among (codes "open") found) ≡ true) × IsSearchAmong found searching
IsRequestBy modes.Lint found (Lint json) = json ≡ json_among found
IsRequestBy _ _ _ = ⊥

-- what the words request
abbrev pub IsRequestedBy : Mode → Option (List ℕ × List Row) → Requested → Type 0
IsRequestedBy modes.Fault found Faults = ⊤
IsRequestedBy modes.Sum found (Sum form) = IsSumFormAmong found form
IsRequestedBy modes.Live found (Input Live) = ⊤
IsRequestedBy mode found (Input (Whole request)) = IsRequestBy mode found request
IsRequestedBy _ _ _ = ⊥
