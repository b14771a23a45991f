use Rattle.std.proofs.Common.{◌≡◌, ◌∷◌, ◌++◌, [], List, length, sym, subst, ap, ◌∙◌, arith}
use Rattle.std.proofs.lemmas.List.{length_push}
use Rattle.std.proofs.lemmas.Option.{slice_get_within}
use Rattle.run_search.specs.declared.tally.Witness.{Witness}
use Rattle.run_search.specs.Outcomes.{AreEnds, Ends, IsNoted}
use Rattle.run_search.proofs.Ending.{noted_new, noted_old}
use Rattle.run_search.proofs.Tallying.{ends_push, fewer_count, fewer_ends, fewer_grown, fewer_there, noted_last, noted_push}
use Rattle.run_search.proofs.tally.Tally.note.Goals as goal

pub returns-in_default-clause-count : goal.returns-in_default-clause-count
returns-in_default-clause-count c =
    let keys : c.insert.new.self.keys ≡ c.args.self.now.ends.keys ++ c.args.ends.now ∷ [] = noted_new c.args.self.now.ends.keys c.insert.new.self.keys c.args.ends.now c.copied.result c.copied.ensures (sym c.in_default.ensures.found) c.in_ok-insert.ensures.keys in
    let ends = ap (λ (k : List Ends). length k) keys in
    let witnesses = ap (λ (w : List Witness). length w) c.in_ok-push.ensures.items in
    omega (arith, ends, witnesses, length_push c.args.self.now.ends.keys c.args.ends.now, length_push c.args.self.now.witnesses.items c.args.witness, c.requires)

pub returns-in_default-clause-there : goal.returns-in_default-clause-there
returns-in_default-clause-there c =
    let keys : c.insert.new.self.keys ≡ c.args.self.now.ends.keys ++ c.args.ends.now ∷ [] = noted_new c.args.self.now.ends.keys c.insert.new.self.keys c.args.ends.now c.copied.result c.copied.ensures (sym c.in_default.ensures.found) c.in_ok-insert.ensures.keys in
    subst (λ (k : List Ends). IsNoted k c.push.new.self.items c.args.ends.now.items c.args.witness.events) (sym keys)
    (subst (λ (w : List Witness). IsNoted (c.args.self.now.ends.keys ++ c.args.ends.now ∷ []) w c.args.ends.now.items c.args.witness.events) (sym c.in_ok-push.ensures.items)
    (noted_last c.args.self.now.ends.keys c.args.self.now.witnesses.items c.args.ends.now c.args.witness c.requires))

pub returns-in_default-clause-grown : goal.returns-in_default-clause-grown
returns-in_default-clause-grown c = λ one events noted.
    let keys : c.insert.new.self.keys ≡ c.args.self.now.ends.keys ++ c.args.ends.now ∷ [] = noted_new c.args.self.now.ends.keys c.insert.new.self.keys c.args.ends.now c.copied.result c.copied.ensures (sym c.in_default.ensures.found) c.in_ok-insert.ensures.keys in
    subst (λ (k : List Ends). IsNoted k c.push.new.self.items one events) (sym keys)
    (subst (λ (w : List Witness). IsNoted (c.args.self.now.ends.keys ++ c.args.ends.now ∷ []) w one events) (sym c.in_ok-push.ensures.items)
    (noted_push c.args.self.now.ends.keys c.args.self.now.witnesses.items c.args.ends.now c.args.witness one events noted))

pub returns-in_default-clause-ends : goal.returns-in_default-clause-ends
returns-in_default-clause-ends c = λ spec nodes crashes are here.
    let keys : c.insert.new.self.keys ≡ c.args.self.now.ends.keys ++ c.args.ends.now ∷ [] = noted_new c.args.self.now.ends.keys c.insert.new.self.keys c.args.ends.now c.copied.result c.copied.ensures (sym c.in_default.ensures.found) c.in_ok-insert.ensures.keys in
    subst (λ (k : List Ends). AreEnds spec nodes crashes k c.push.new.self.items) (sym keys)
    (subst (λ (w : List Witness). AreEnds spec nodes crashes (c.args.self.now.ends.keys ++ c.args.ends.now ∷ []) w) (sym c.in_ok-push.ensures.items)
    (ends_push spec nodes crashes c.args.self.now.ends.keys c.args.self.now.witnesses.items c.args.ends.now c.args.witness are here))

pub keep_fewer-requires : goal.keep_fewer-requires
keep_fewer-requires c =
    let keys = c.args.self.now.ends.keys in
    let there = noted_old keys c.args.ends.now c.in-Some.index (sym c.in-Some.ensures.index) in
    let inside = slice_get_within keys c.in-Some.index c.args.ends.now there in
    omega (arith, inside, c.requires)

pub returns-clause-there : goal.returns-clause-there
returns-clause-there c =
    let keys = c.args.self.now.ends.keys in
    let there = noted_old keys c.args.ends.now c.in-Some.index (sym c.in-Some.ensures.index) in
    let inside = slice_get_within keys c.in-Some.index c.args.ends.now there in
    fewer_there keys c.args.self.now.witnesses.items c.keep_fewer.new.witnesses.items c.in-Some.index c.args.ends.now c.args.witness there (omega (arith, inside, c.requires)) c.keep_fewer.ensures

pub returns-clause-grown : goal.returns-clause-grown
returns-clause-grown c = λ one events noted.
    let keys = c.args.self.now.ends.keys in
    let there = noted_old keys c.args.ends.now c.in-Some.index (sym c.in-Some.ensures.index) in
    let inside = slice_get_within keys c.in-Some.index c.args.ends.now there in
    fewer_grown keys c.args.self.now.witnesses.items c.keep_fewer.new.witnesses.items c.in-Some.index c.args.witness one events (omega (arith, inside, c.requires)) c.keep_fewer.ensures noted

pub returns-clause-ends : goal.returns-clause-ends
returns-clause-ends c = λ spec nodes crashes are here.
    let keys = c.args.self.now.ends.keys in
    let there = noted_old keys c.args.ends.now c.in-Some.index (sym c.in-Some.ensures.index) in
    fewer_ends spec nodes crashes keys c.args.self.now.witnesses.items c.keep_fewer.new.witnesses.items c.in-Some.index c.args.ends.now c.args.witness there c.keep_fewer.ensures are here

pub returns-clause-count : goal.returns-clause-count
returns-clause-count c = fewer_count c.args.self.now.witnesses.items c.keep_fewer.new.witnesses.items c.in-Some.index c.args.witness c.keep_fewer.ensures ∙ c.requires
