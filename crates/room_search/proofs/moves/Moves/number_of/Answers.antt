use Rattle.std.proofs.Common.{ℕ, Bool, eqb, sym, ap, ◌∙◌}
use Rattle.std.specs.Prelude.{slice_get}
use Rattle.std.specs.Global.{Vec}
use Rattle.std.specs.Cmp.Lexicographic.{pointwise}
use Rattle.room_search.specs.Steps.{AreWords}
use Rattle.room_search.proofs.Growing.{each_more, more_grows}
use Rattle.room_search.proofs.Moving.{each_grown}
use Rattle.room_search.proofs.Same.{same_words}
use Rattle.room_search.proofs.Sets.{grows_not}
use Rattle.room_search.proofs.moves.Moves.number_of.Goals as goal

abbrev same_items : Vec ℕ → Vec ℕ → Bool
same_items a b = pointwise eqb a.items b.items

pub returns-in-Ok-clause-moves : goal.returns-in-Ok-clause-moves
returns-in-Ok-clause-moves c =
    let spec = c.args.subject.now.spec.now in
    let moves = c.args.self.now in
    let new = c.insert_full.new.self.keys in
    let keys = c.in_ok-index.ensures.keys in
    let grown = more_grows same_items moves.said.keys new c.args.said keys in
    record {
      are = record {
        said = each_more same_items moves.said.keys new c.args.said keys (λ one. AreWords spec one.items) c.requires.said c.requires.moves.said;
        locals = c.requires.moves.locals;
        leads = each_grown spec moves.said.keys new moves.table.keys moves.table.keys grown (grows_not moves.table.keys) moves.leads.entries c.requires.moves.leads;
      };
      table = grows_not moves.table.keys;
      said = grown;
    }

pub returns-in-Ok-clause-number : goal.returns-in-Ok-clause-number
returns-in-Ok-clause-number c =
    let stored = c.in_ok-index.ensures.stored in
    record {
      one = stored.0;
      is = ap (slice_get c.insert_full.new.self.keys) c.in-Ok.ensures.1 ∙ stored.1;
      same = sym (same_words c.args.said.items stored.0.items stored.2);
    }
