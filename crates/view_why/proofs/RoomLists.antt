-- Reported rooms as rooms under their own names.
use Rattle.std.proofs.Common.{◌≡◌, ℕ, ◌+◌, ◌≤◌, List, [], ◌∷◌, ◌++◌, length, Some, refl, sym, ap, ◌∙◌, subst, arith}
use Rattle.std.specs.Prelude.{slice_get}
use Rattle.std.proofs.lemmas.List.{append-nil, length-append, length-map, map_push}
use Rattle.room_spec.specs.Rooms.{RoomSpec}
use Rattle.transcript.specs.declared.event.Event.{Event}
use Rattle.history_checker.specs.Verdicts.{FedEvent}
use Rattle.view_why.specs.Reported.{ReportedRoom, IsReported, IsReportedOwn, specs_of}

abbrev pub spec_in : ReportedRoom → RoomSpec
spec_in reported = reported.spec

-- a room of which nothing is reported yet
pub unreported : (room : ReportedRoom) (spec : RoomSpec) → room ≡ record { spec = spec; events = []; lines = [] } → IsReportedOwn [] room
unreported room spec is = (ap (λ (reported : ReportedRoom). reported.events) is, ap (λ (reported : ReportedRoom). reported.lines) is)

-- one event more of it
pub reported_more : (old new : ReportedRoom) (fed : List FedEvent) (one : FedEvent) → new ≡ record { spec = old.spec; events = old.events ++ one.event ∷ []; lines = old.lines ++ one.line ∷ [] } → IsReported fed old → IsReported (fed ++ one ∷ []) new
reported_more old new fed one is reported = (
  ap (λ (room : ReportedRoom). room.events) is ∙ ap (λ (events : List Event). events ++ one.event ∷ []) reported.0 ∙ sym (map_push (λ (o : FedEvent). o.event) fed one),
  ap (λ (room : ReportedRoom). room.lines) is ∙ ap (λ (lines : List ℕ). lines ++ one.line ∷ []) reported.1 ∙ sym (map_push (λ (o : FedEvent). o.line) fed one),
)

-- ---- rooms that are gone through one by one

at_end : (done rest : List ReportedRoom) (room : ReportedRoom) → slice_get (done ++ room ∷ rest) (length done) ≡ Some room
at_end [] rest room = refl
at_end (first ∷ done) rest room = at_end done rest room

-- the next room, after those that are done
pub room_there : (rooms done rest : List ReportedRoom) (room : ReportedRoom) → rooms ≡ done ++ room ∷ rest → slice_get rooms (length done) ≡ Some room
room_there rooms done rest room is = subst (λ (all : List ReportedRoom). slice_get all (length done) ≡ Some room) (sym is) (at_end done rest room)

pub one_done : (done : List ReportedRoom) (room : ReportedRoom) → length done + 1 ≡ length (done ++ room ∷ [])
one_done done room = sym (length-append done (room ∷ []))

pub all_done : (rooms done : List ReportedRoom) → rooms ≡ done ++ [] → length (specs_of rooms) ≤ length done
all_done rooms done is =
    let same : length rooms ≡ length done = ap (λ (all : List ReportedRoom). length all) (is ∙ append-nil done) in
    let specs = length-map rooms (λ (room : ReportedRoom). room.spec) in
    omega (arith, same, specs)
