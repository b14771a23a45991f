-- Lines read one by one.
use Rattle.std.proofs.Common.{◌≡◌, ◌∙◌, ℕ, ◌+◌, ◌<◌, ◌≤◌, suc, List, [], ◌∷◌, ◌++◌, Result, Ok, Err, drop, get_or, length, map, refl, sym, ap, arith}
use lib.Seq.{drop-cons}
use Rattle.std.proofs.lemmas.List.{drop_all, get_or-map, length-map}
use Rattle.protocol_lang.specs.declared.fault.ParseFault.{ParseFault}
use Rattle.protocol_lang.specs.FirstFaults.{place_of}
use Rattle.protocol_lang.specs.Reading.{reading}
use Rattle.protocol_lang.specs.Trees.{Tree}
use Rattle.decision_tasks.specs.declared.task.LineFault.{LineFault}
use Rattle.decision_tasks.specs.Lines.{place_in, protocol_text}
use Rattle.decision_tasks.specs.Tasks.{in_front, task_from, with_line}

-- the lines that were read, in front of the others
abbrev pub after_lines : List Tree → Result (List Tree) LineFault → Result (List Tree) LineFault
after_lines [] others = others
after_lines (line ∷ lines) others = with_line line (after_lines lines others)

one_more : (lines : List Tree) (line : Tree) (others : Result (List Tree) LineFault) → after_lines (lines ++ line ∷ []) others ≡ after_lines lines (with_line line others)
one_more [] line others = refl
one_more (first ∷ lines) line others = ap (with_line first) (one_more lines line others)

pub all_read : (lines : List Tree) → after_lines lines (Ok []) ≡ Ok lines
all_read [] = refl
all_read (line ∷ lines) = ap (with_line line) (all_read lines)

pub fault_read : (lines : List Tree) (fault : LineFault) → after_lines lines (Err fault) ≡ Err fault
fault_read [] fault = refl
fault_read (line ∷ lines) fault = ap (with_line line) (fault_read lines fault)

next : (lines : List (List ℕ)) (i : ℕ) → i < length lines → task_from i (drop i lines) ≡ in_front i (get_or lines i []) (reading (protocol_text (get_or lines i []))) (task_from (i + 1) (drop (i + 1) lines))
next lines i below = let one : suc i ≡ i + 1 = omega arith in ap (task_from i) (drop-cons lines i [] below ∙ ap (λ (n : ℕ). get_or lines i [] ∷ drop n lines) one)

pub one_line_more : {R : Type 0} (now : R → List ℕ) (raw : List R) (i : ℕ) (d : R) (read longer : List Tree) (tree : Tree) (whole : Result (List Tree) LineFault) → i < length raw → reading (protocol_text (now (get_or raw i d))) ≡ Ok tree
    → whole ≡ after_lines read (task_from i (drop i (map now raw))) → longer ≡ read ++ tree ∷ [] → whole ≡ after_lines longer (task_from (i + 1) (drop (i + 1) (map now raw)))
one_line_more {R} now raw i d read longer tree whole below is so_far longer_is =
    let lines = map now raw in
    let rest = task_from (i + 1) (drop (i + 1) lines) in
    let inside : i < length lines = omega (arith, below, length-map raw now) in
    let here : get_or lines i [] ≡ now (get_or raw i d) = get_or-map now raw i d [] below in
    let read_here : reading (protocol_text (get_or lines i [])) ≡ Ok tree = ap (λ (line : List ℕ). reading (protocol_text line)) here ∙ is in
    so_far
    ∙ ap (after_lines read) (next lines i inside ∙ ap (λ (r : Result Tree ParseFault). in_front i (get_or lines i []) r rest) read_here)
    ∙ sym (one_more read tree rest)
    ∙ ap (λ (l : List Tree). after_lines l rest) (sym longer_is)

pub line_fault : {R : Type 0} (now : R → List ℕ) (raw : List R) (i : ℕ) (d : R) (read : List Tree) (fault : ParseFault) (at : ℕ) (whole : Result (List Tree) LineFault) → i < length raw → reading (protocol_text (now (get_or raw i d))) ≡ Err fault
    → at ≡ place_in (now (get_or raw i d)) (place_of fault) → whole ≡ after_lines read (task_from i (drop i (map now raw))) → Err (record { line = i + 1; at = at; fault = fault }) ≡ whole
line_fault {R} now raw i d read fault at whole below is at_is so_far =
    let lines = map now raw in
    let rest = task_from (i + 1) (drop (i + 1) lines) in
    let inside : i < length lines = omega (arith, below, length-map raw now) in
    let here : get_or lines i [] ≡ now (get_or raw i d) = get_or-map now raw i d [] below in
    let read_here : reading (protocol_text (get_or lines i [])) ≡ Err fault = ap (λ (line : List ℕ). reading (protocol_text line)) here ∙ is in
    let place : place_in (get_or lines i []) (place_of fault) ≡ at = ap (λ (line : List ℕ). place_in line (place_of fault)) here ∙ sym at_is in
    sym
    (
    so_far
    ∙ ap (after_lines read) (next lines i inside ∙ ap (λ (r : Result Tree ParseFault). in_front i (get_or lines i []) r rest) read_here)
    ∙ ap (λ (p : ℕ). after_lines read (Err (record { line = i + 1; at = p; fault = fault }))) place
    ∙ fault_read read (record { line = i + 1; at = at; fault = fault })
    )

pub lines_read : (lines : List (List ℕ)) (i : ℕ) (read : List Tree) (whole : Result (List Tree) LineFault) → length lines ≤ i → whole ≡ after_lines read (task_from i (drop i lines)) → Ok read ≡ whole
lines_read lines i read whole past so_far = sym (so_far ∙ ap (λ (rest : List (List ℕ)). after_lines read (task_from i rest)) (drop_all i lines past) ∙ all_read read)
