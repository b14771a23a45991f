-- What has come of a script's entries, one by one.
use Rattle.std.proofs.Common.{◌≡◌, ◌∙◌, ℕ, ◌||◌, Bool, true, false, cond, List, [], ◌∷◌, ◌++◌, Option, Some, None, is_some, Result, Ok, Err, decimal, refl, sym, ap, ap₂, arith}
use Rattle.std.specs.Prelude.{codes}
use Rattle.std.specs.declared.alloc.AllocError.{AllocError}
use Rattle.std.specs.Result.{OnOk}
use Rattle.std.specs.List.{list_any}
use Rattle.std.proofs.lemmas.Fmt.{decimal_digit}
use Rattle.room_spec.specs.Names.{is_name}
use Rattle.service_core.specs.declared.command.Command.{Command}
use Rattle.service_core.specs.declared.command.Command.TheVariants.{Step}
use Rattle.service_core.specs.declared.reply.Refusal.{Refusal}
use Rattle.service_core.specs.declared.reply.Refusal.TheVariants.{NoRoom, NameTaken, NoSimulator, OutOfMemory}
use Rattle.service_core.specs.declared.reply.Reply.{Reply}
use Rattle.service_core.specs.declared.reply.Reply.TheVariants.{Begun, Steps, Crash, Settled, Report, Closed, Refused}
use Rattle.service_core.specs.Runs.{is_want}
use Rattle.room_files.specs.Blocks.{refused_line}
use Rattle.room_files.specs.declared.outcome.Outcome.{Outcome}
use Rattle.script_play.specs.Script.{Entry, Ask, asked, steps_for}
use Rattle.room_files.specs.declared.kinds.Kinds.{Kinds}
use Rattle.script_play.specs.Play.{AreDone, Done, IsDone, ending_if, ending_of, ending_with, is_memory_refusal, ran_out_of_memory, is_refusal, is_refused, refusal_in}

-- ---- one entry more

or_no : (b : Bool) → b ≡ (b || false)
or_no true = refl
or_no false = refl

any-push : {A : Type 0} (test : A → Bool) (xs : List A) (x : A) → list_any test (xs ++ x ∷ []) ≡ (list_any test xs || test x)
any-push test [] x = sym (or_no (test x))
any-push test (y ∷ xs) x = ap (λ b. test y || b) (any-push test xs x) ∙ or_assoc (test y) (list_any test xs) (test x)
  where
    or_assoc : (a b c : Bool) → (a || (b || c)) ≡ ((a || b) || c)
    or_assoc true b c = refl
    or_assoc false b c = refl

-- the end of a script with one entry more
pub ending-push : (all : List Done) (done : Done) → ending_with (ran_out_of_memory done) (is_refused done) (ending_of all) ≡ ending_of (all ++ done ∷ [])
ending-push all done =
    by (list_any ran_out_of_memory all) (list_any is_refused all) (ran_out_of_memory done) (is_refused done)
    ∙ ap₂ ending_if (sym (any-push ran_out_of_memory all done)) (sym (any-push is_refused all done))
  where
    by : (ran_out refused lacks refuses : Bool) → ending_with lacks refuses (ending_if ran_out refused) ≡ ending_if (ran_out || lacks) (refused || refuses)
    by true refused true refuses = refl
    by false refused true refuses = refl
    by true refused false true = refl
    by true refused false false = refl
    by false true false true = refl
    by false false false true = refl
    by false true false false = refl
    by false false false false = refl

-- the end with one reply more
pub ends_by : (reply : Reply) (refusal : Option Refusal) (ending : Result Outcome AllocError) → refusal ≡ refusal_in reply
    → ending_with (is_memory_refusal refusal) (is_some refusal) ending ≡ ending_with (is_want reply) (is_refusal reply) ending
ends_by reply refusal ending is = ap (λ (r : Option Refusal). ending_with (is_memory_refusal r) (is_some r) ending) is ∙ by reply
  where
    by : (reply : Reply) → ending_with (is_memory_refusal (refusal_in reply)) (is_some (refusal_in reply)) ending ≡ ending_with (is_want reply) (is_refusal reply) ending
    by Begun = refl
    by (Steps taken last) = refl
    by (Crash answer) = refl
    by Settled = refl
    by (Report report) = refl
    by Closed = refl
    by (Refused NoRoom) = refl
    by (Refused NameTaken) = refl
    by (Refused NoSimulator) = refl
    by (Refused OutOfMemory) = refl

pub done-push : (kinds : Kinds) (entries : List Entry) (all : List Done) (entry : Entry) (done : Done) → AreDone kinds entries all → IsDone kinds entry done → AreDone kinds (entries ++ entry ∷ []) (all ++ done ∷ [])
done-push kinds [] [] entry done so_far is = (is, tt)
done-push kinds [] (d ∷ all) entry done so_far is = absurd so_far
done-push kinds (e ∷ entries) [] entry done so_far is = absurd so_far
done-push kinds (e ∷ entries) (d ∷ all) entry done so_far is = (so_far.0, done-push kinds entries all entry done so_far.1 is)

pub where_ok : {X E : Type 0} (r : Result X E) (P Q : Type 0) → (P → Q) → OnOk r P → OnOk r Q
where_ok (Ok x) P Q step holds = step holds
where_ok (Err e) P Q step holds = tt

-- ---- what stands first

-- a line that asks for something is a command
pub found_command : (number : ℕ) (found : Option Command) (entry : Entry) → asked number found ≡ Ok entry → (command : Command) × (found ≡ Some command) × (entry ≡ Ask command)
found_command number None entry is = absurd cc
found_command number (Some command) entry is = (command, refl, cc)

pub steps_asked : (name : List ℕ) (sim count : ℕ) (command : Command) → steps_for name sim count ≡ Some command → (is_name name ≡ true) × (command ≡ Step name sim count)
steps_asked name sim count command e = by (is_name name) e
  where
    by : (b : Bool) → cond b (Some (Step name sim count)) None ≡ Some command → (b ≡ true) × (command ≡ Step name sim count)
    by true is = (refl, cc)
    by false is = absurd cc

-- ---- what is written

-- the line of a block that was not read
pub out_of_memory_line : (output now : List ℕ) (line code : ℕ) → code ≡ 8 → now ≡ output ++ refused_line line (decimal code) → now ≡ output ++ refused_line line (codes "8")
out_of_memory_line output now line code is text = text ∙ ap (λ (t : List ℕ). output ++ refused_line line t) (ap decimal is ∙ decimal_digit 8 (omega arith))
