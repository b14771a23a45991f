-- What is answered, whether an allocation failed for a sample or not.
use Rattle.std.proofs.Common.{◌≡◌, ℕ, ◌==◌, ◌&&◌, Bool, List, ◌++◌, length, Result, Ok, Err, ap, sym, subst}
use Rattle.std.specs.Prelude.{IfErr, IfOk, OnErr}
use Rattle.std.specs.declared.alloc.AllocError.{AllocError}
use Rattle.room_files.specs.Blocks.{Setup}
use Rattle.room_files.specs.Verdicts.{outcome_if}
use Rattle.room_files.specs.declared.outcome.Outcome.{Outcome}
use Rattle.room_sample.specs.declared.sampling.Plan.{Plan}
use Rattle.view_sample.specs.Rooms.{AddsFirst, AddsSamples}
use Rattle.view_sample.specs.Sample.{IsSampleOr, head_of, is_for_people, last_of}

pub answered : (plan : Plan) (setup : Setup) (accepted : Bool) (samples : Result Bool AllocError) (ending : Result Outcome AllocError) (before reported output : List ℕ) → before ≡ head_of (is_for_people plan) setup.refused
    → accepted ≡ (length setup.refused == 0) → IfOk samples (λ well. AddsSamples plan setup.rooms well before reported) → OnErr samples (AddsFirst plan setup.rooms before reported)
    → output ≡ reported ++ last_of (is_for_people plan) → IfOk samples (λ well. ending ≡ Ok (outcome_if (accepted && well))) → IfErr samples (λ refused. ending ≡ Err refused) → IsSampleOr plan setup ending output
answered plan setup accepted (Ok well) ending before reported output before_is accepted_is whole cut output_is ok err =
    subst (λ (end : Result Outcome AllocError). IsSampleOr plan setup end output) (sym ok)
    (record {
      reported = reported;
      well = well;
      samples = subst (λ (head : List ℕ). AddsSamples plan setup.rooms well head reported) before_is whole;
      output_is = output_is;
      outcome_is = ap (λ (one : Bool). outcome_if (one && well)) accepted_is;
    })
answered plan setup accepted (Err refused) ending before reported output before_is accepted_is whole cut output_is ok err =
    subst (λ (end : Result Outcome AllocError). IsSampleOr plan setup end output) (sym err)
    (record { reported = reported; samples = subst (λ (head : List ℕ). AddsFirst plan setup.rooms head reported) before_is cut; output_is = output_is })
