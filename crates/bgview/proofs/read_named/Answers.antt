use Rattle.std.proofs.Common.{◌≡◌, ◌++◌, ◌∷◌, [], ℕ, ◌+◌, ◌<◌, ◌≤◌, Bool, not, List, Option, length, map, get_or, take, sym, ap, subst, ◌∙◌, arith}
use Rattle.std.specs.Prelude.{if◌then◌else◌}
use Rattle.std.specs.Borrow.{Bor}
use Rattle.std.specs.Global.{Vec}
use Rattle.std.specs.List.{Contains}
use Rattle.std.proofs.lemmas.List.{get_or-map, length-map, map_more, map_push}
use Rattle.std.proofs.lemmas.List.Elements.{All-push}
use Rattle.io_text.specs.Reading.{most_bytes}
use Rattle.bgview.specs.Sums.{input_of}
use Rattle.bgview.proofs.Summing.{AreRead, all_read, not_read, read_more}
use Rattle.bgview.proofs.read_named.Goals as goal

pub loop-name-preserved : goal.loop-name-preserved
loop-name-preserved g c =
    let names = c.args.names.now in
    let i = c.loop-name.name-index in
    let f : Bor (List ℕ) → Option (List ℕ) = λ name. input_of (g.I.Inputs.standard_bytes c.args.system.now.inputs.now) (g.I.Inputs.file_bytes c.args.system.now.inputs.now) name.now in
    let none : Bor (List ℕ) = record { ref_ptr = (0, 0); now = [] } in
    let one = get_or names i none in
    let old = c.loop-name.read.items in
    let text = c.in-Ok.text in
    let items : Vec ℕ → List ℕ = λ t. t.items in
    let new_is : c.push.new.self.items ≡ old ++ text ∷ [] = c.push.ensures.items ∙ ap (λ (b : Bool). if b then (old ++ text ∷ []) else old) (c.is_err.ensures.negation ∙ ap not c.if-is_err.false) in
    let inputs : map f (take (i + 1) names) ≡ map f (take i names) ++ f one ∷ [] = map_more f names i none c.loop-name-test.true in
    let texts : map items c.push.new.self.items ≡ map items old ++ items text ∷ [] = ap (map items) new_is ∙ map_push items old text in
    let more = read_more (map f (take i names)) (map items old) (f one) (items text) c.loop-name.invariant.read c.in-Ok.ensures.read in
    record {
      read = subst (λ (l : List (Option (List ℕ))). AreRead l (map items c.push.new.self.items)) (sym inputs) (subst (λ (l : List (List ℕ)). AreRead (map f (take i names) ++ f one ∷ []) l) (sym texts) more);
      fits = subst (λ (l : List (Vec ℕ)). (k : ℕ) (d : Vec ℕ) → k < length l → length (get_or l k d).items ≤ most_bytes) (sym new_is) (All-push (λ (t : Vec ℕ). length t.items ≤ most_bytes) old text c.loop-name.invariant.fits c.in-Ok.ensures.fits);
    }

pub returns-clause-read : goal.returns-clause-read
returns-clause-read g c =
    all_read (input_of (g.I.Inputs.standard_bytes c.args.system.now.inputs.now) (g.I.Inputs.file_bytes c.args.system.now.inputs.now)) c.args.names.now c.loop-name.name-index (map (λ (t : Vec ℕ). t.items) c.loop-name.read.items)
    c.loop-name-test.false c.loop-name.invariant.read

pub returns-in-Err-clause-err : goal.returns-in-Err-clause-err
returns-in-Err-clause-err g c =
    let names = c.args.names.now in
    let i = c.loop-name.name-index in
    let none : Bor (List ℕ) = record { ref_ptr = (0, 0); now = [] } in
    let now : Bor (List ℕ) → List ℕ = λ name. name.now in
    let there : Contains (map now names) (now (get_or names i none)) =
    (i, let long = length-map names now in omega (arith, long, c.loop-name-test.true), get_or-map now names i none (now (get_or names i none)) c.loop-name-test.true) in
    not_read (map now names) (now (get_or names i none)) c.in-Err.ended there c.in-Err.ensures.err
