use Rattle.std.proofs.Common.{refl, inl, inr, arith}
use Rattle.room_search.proofs.Stored.{others_stay, stored_both}
use Rattle.room_search.proofs.shown.Said.store.Goals as goal

pub returns-then-writer-eq0-clause-words : goal.returns-then-writer-eq0-clause-words
returns-then-writer-eq0-clause-words c = λ words are says.
    let said = c.requires.said in
    stored_both c.args.subject.now.spec.now c.args.self.now c.put.new.self c.args.index c.after.result 0 c.put.ensures.shown c.put.ensures.own words c.args.word
    (omega (arith, c.requires.within, said.shown)) (omega (arith, c.requires.within, said.own)) (omega (arith, c.requires.within, are)) c.after.ensures (inl refl) says

pub returns-then-writer-eq0-clause-stays : goal.returns-then-writer-eq0-clause-stays
returns-then-writer-eq0-clause-stays c = others_stay c.args.subject.now.spec.now c.args.i c.writer_at-writer.result c.args.index c.writer_at-writer.ensures (inl c.if-writer-eq0.true)

pub returns-then-writer-i-clause-words : goal.returns-then-writer-i-clause-words
returns-then-writer-i-clause-words c = λ words are says.
    let said = c.requires.said in
    stored_both c.args.subject.now.spec.now c.args.self.now c.put-then-writer-i.new.self c.args.index 0 c.after-then-writer-i.result c.put-then-writer-i.ensures.shown c.put-then-writer-i.ensures.own words c.args.word
    (omega (arith, c.requires.within, said.shown)) (omega (arith, c.requires.within, said.own)) (omega (arith, c.requires.within, are)) (inl refl) c.after-then-writer-i.ensures says

pub returns-then-writer-i-clause-stays : goal.returns-then-writer-i-clause-stays
returns-then-writer-i-clause-stays c =
    others_stay c.args.subject.now.spec.now c.args.i c.writer_at-writer.result c.args.index c.writer_at-writer.ensures (inr (omega (arith, c.if-writer-eq0.false, c.if-writer-i.true)))
