use Rattle.room_search.proofs.Stored.{word_said}
use Rattle.room_search.proofs.shown.Said.word.Goals as goal

pub returns-then-shown-gt0 : goal.returns-then-shown-gt0
returns-then-shown-gt0 c = λ words says. word_said c.args.self.now.shown.items words c.args.index c.index-shown.result.now c.index-shown.result.now says.shown c.requires.shown c.if-shown-gt0.true c.index-shown.ensures

pub returns-then-own-gt0 : goal.returns-then-own-gt0
returns-then-own-gt0 c = λ words says. word_said c.args.self.now.own.items words c.args.index c.index-own.result.now c.index-own.result.now says.own c.requires.own c.if-own-gt0.true c.index-own.ensures
