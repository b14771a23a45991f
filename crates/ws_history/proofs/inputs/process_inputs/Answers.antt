use Rattle.std.proofs.Common.{◌≡◌, ◌<◌, ◌∙◌, ◌++◌, ◌∷◌, [], List, Option, None, ℕ, map, get_or, ap, sym, arith}
use Rattle.std.specs.List.{range_with_len}
use Rattle.std.proofs.lemmas.List.FromFn.{get_or-map-range_with_len, map-range_with_len_more}
use Rattle.room_spec.specs.Rooms.{processes}
use Rattle.room_core.specs.Agreements.{agreed_input}
use Rattle.room_core.proofs.CallerLemmas.{rooms_agree}
use Rattle.ws_history.proofs.RunSpecs.{own_agreed}
use Rattle.ws_history.proofs.inputs.process_inputs.Goals as goal

pub loop-j-preserved : goal.loop-j-preserved
loop-j-preserved c =
    let spec = c.args.room.now.spec in
    record {
      so_far = λ fields are.
          let more = map-range_with_len_more (agreed_input spec fields) 0 c.loop-j.j c.loop-j.j (omega arith) in
          let low : c.loop-j.j < processes spec = omega arith in
          c.push.ensures.items ∙ ap (λ (l : List (Option ℕ)). l ++ c.input.result ∷ []) (c.loop-j.invariant.so_far fields are)
          ∙ ap (λ (x : Option ℕ). map (agreed_input spec fields) (range_with_len 0 c.loop-j.j) ++ x ∷ []) (c.input.ensures.agreed fields are low) ∙ sym more;
      count = omega arith;
    }

pub returns-clause-fields : goal.returns-clause-fields
returns-clause-fields c = λ fields are.
    let spec = c.args.room.now.spec in
    let all : c.loop-j.j ≡ processes spec = omega arith in
    c.loop-j.invariant.so_far fields are ∙ ap (λ (n : ℕ). map (agreed_input spec fields) (range_with_len 0 n)) all

pub returns-clause-own : goal.returns-clause-own
returns-clause-own c = λ j input low is.
    let room = c.args.room.now in
    let at = c.shape_of-shape.ensures.fields in
    let there = ap (λ (l : List (Option ℕ)). get_or l j None) (returns-clause-fields c at.0 at.1) ∙ get_or-map-range_with_len (agreed_input room.spec at.0) 0 (processes room.spec) j j None low (omega arith) in
    own_agreed room.spec at.0 (rooms_agree room at.0 c.shape_of-shape.ensures.limits at.1) j input low (sym there ∙ is)
