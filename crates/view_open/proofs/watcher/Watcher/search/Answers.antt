use Rattle.std.proofs.Common.{◌∙◌, List, ap, refl, sym}
use Rattle.room_search.specs.declared.beginning.Act.{Act}
use Rattle.run_search.specs.Outcomes.{Ends}
use Rattle.view_open.specs.Logs.{acts_after, known_before, known_if}
use Rattle.view_open.specs.declared.watcher.Watcher.{Watcher}
use Rattle.view_open.proofs.Showing.{searched}
use Rattle.view_open.proofs.watcher.Watcher.search.Goals as goal

pub returns : goal.returns
returns g c =
    let old = c.args.self.now in
    let what = c.args.what in
    let judged = c.judge.new.self in
    let taken : Watcher = record { alloc = old.alloc; plan = old.plan; pasts = c.take-past.new.self; output = old.output; well = old.well } in
    let new : Watcher = record { alloc = judged.alloc; plan = judged.plan; pasts = c.put.new.self; output = judged.output; well = judged.well } in
    let known = c.as_slice.result.now in
    searched c.put.result old taken c.show.new.self judged new c.args.written.now.name.now c.args.written.now.words.now what c.args.spec.now c.in_ok-found.found c.add.new.self.acts.items known c.learn.new.self refl refl refl c.take-past.ensures.others
    (c.in_ok-add.ensures.acts ∙ ap (λ (all : List Act). acts_after all what) c.take-past.ensures.acts)
    (c.as_slice.ensures.value ∙ c.in_ok-add.ensures.known ∙ ap (λ (all : List Ends). known_before all what) c.take-past.ensures.known) c.in_ok-found.ensures c.in_ok-show.ensures c.judge.ensures.plan c.judge.ensures.pasts c.judge.ensures.output c.judge.ensures.well
    c.learn.ensures.acts (c.learn.ensures.known ∙ ap (λ (all : List Ends). known_if all c.known_in.result) (sym c.as_slice.ensures.value) ∙ ap (known_if known) c.known_in.ensures) refl refl refl c.put.ensures.own c.put.ensures.others
