use Rattle.std.proofs.Common.{◌≡◌, ◌∙◌, ◌++◌, ◌∷◌, [], sym, ap, subst}
use Rattle.std.specs.Str.{bytes_eq}
use Rattle.indexmap.proofs.CallerLemmas.{insert_entry-new}
use Rattle.history_checker.specs.Verdicts.{has_room}
use Rattle.view_why.specs.Reported.{AreReported, IsKeyed, ReportedRoom, specs_of, rooms_in}
use Rattle.history_checker.proofs.CallerLemmas.{EntriesOf, none_there, IsKeyed-push, specs-push, after-push}
use Rattle.view_why.proofs.RoomLists.{spec_in, unreported}
use Rattle.view_why.specs.Reported.{IsReported}
use Rattle.view_why.proofs.rooms.ReportedRooms.push.Goals as goal

-- the entries after the call: those before it, and the room under its name
pushed : (c : goal.Joined-branch-3) → c.insert.new.self.entries ≡ c.self.inside.rooms.entries ++ (c.of.result.spec.name, c.of.result) ∷ []
pushed c =
    let entries = c.self.inside.rooms.entries in
    let key_is : c.in_ok-name.name ≡ c.of.result.spec.name = c.in_ok-name.ensures.cases ∙ c.name.ensures ∙ sym (ap (λ (reported : ReportedRoom). reported.spec.name) c.of.ensures) in
    let fresh = none_there spec_in c.in_ok-name.name entries c.self.invariant (ap (λ rooms. has_room c.in_ok-name.name (specs_of rooms)) c.self.view_is ∙ ap (λ name. has_room name (specs_of c.args.self.now)) (c.in_ok-name.ensures.cases ∙ c.name.ensures) ∙ c.requires) in
    c.in_ok-insert.ensures.entries ∙ insert_entry-new bytes_eq c.self.inside.rooms c.in_ok-name.name c.of.result fresh
    ∙ ap (λ key. entries ++ (key, c.of.result) ∷ []) key_is

pub invariant_of-self-2 : goal.invariant_of-self-2
invariant_of-self-2 c = subst IsKeyed (sym (pushed c)) (IsKeyed-push spec_in c.self.inside.rooms.entries c.of.result c.self.invariant)

pub returns-clause-added : goal.returns-clause-added
returns-clause-added c =
    let entries = c.self.inside.rooms.entries in
    ap (λ (es : EntriesOf ReportedRoom). specs_of (rooms_in es)) (pushed c)
    ∙ specs-push spec_in entries c.of.result.spec.name c.of.result
    ∙ ap (λ rooms. specs_of rooms ++ c.of.result.spec ∷ []) c.self.view_is
    ∙ ap (λ (reported : ReportedRoom). specs_of c.args.self.now ++ reported.spec ∷ []) c.of.ensures

pub returns-clause-unreported : goal.returns-clause-unreported
returns-clause-unreported c = λ before.
    let room = c.of.result in
    let P : EntriesOf ReportedRoom → Type 0 = λ entries. AreReported (rooms_in entries) [] in
    subst P (sym (pushed c))
    (after-push spec_in IsReported c.self.inside.rooms.entries room.spec.name room [] (subst (λ rooms. AreReported rooms []) (sym c.self.view_is) before) (unreported room c.args.spec c.of.ensures))
