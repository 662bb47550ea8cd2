-- Frames that are sent together: those that share their link go to the end of its direction at once, and of each is noted to
-- whom it goes.
use Rattle.std.proofs.Common.{◌≡◌, ◌∙◌, ◌+◌, ℕ, zero, suc, List, [], ◌∷◌, ◌++◌, map, take, drop, slice_set, slice_get, slice_index_or, option_map, Option, Some, refl, ap, sym}
use Rattle.std.specs.List.{AllByRecursion}
use Rattle.std.proofs.lemmas.List.{append-nil, append_assoc}
use Rattle.std.proofs.lemmas.Option.{none-some, same_Some}
use Rattle.wire_base.specs.declared.conf.RouterConf.{RouterConf}
use Rattle.frame_list.specs.Spans.{Noted, noted_anew, noted_as}
use Rattle.bier_forward.specs.SentFrames.{sent_in}
use Rattle.domain_model.specs.Wires.{wires_in, wires_to}
use Rattle.domain_model.specs.World.{peer_place}
use Rattle.domain_model.specs.declared.step_out.WireFrame.{WireFrame}
use Rattle.frames_in_flight.specs.declared.flight.Flight.{Flight}
use Rattle.frames_in_flight.specs.Flights.{IsOver, flight_as, push_all_sent, push_frames}
use Rattle.frames_in_flight.specs.Framed.{note_over, peer_noted, wire_from}
use Rattle.frames_in_flight.proofs.QueueLaws.{one}

-- ---- frames that share their link

-- the queue of an end with more frames
abbrev row_with : List (List Flight) → ℕ → List Flight → List (List Flight)
row_with row link fs = slice_set row link (slice_index_or row link [] ++ fs)

row_none : (row : List (List Flight)) (link : ℕ) → row_with row link [] ≡ row
row_none [] link = refl
row_none (q ∷ qs) zero = ap (λ (p : List Flight). p ∷ qs) (append-nil q)
row_none (q ∷ qs) (suc link) = ap (λ (ps : List (List Flight)). q ∷ ps) (row_none qs link)

row_twice : (row : List (List Flight)) (link : ℕ) (fs gs : List Flight) → row_with (row_with row link fs) link gs ≡ row_with row link (fs ++ gs)
row_twice [] link fs gs = refl
row_twice (q ∷ qs) zero fs gs = ap (λ (p : List Flight). p ∷ qs) (append_assoc q fs gs)
row_twice (q ∷ qs) (suc link) fs gs = ap (λ (ps : List (List Flight)). q ∷ ps) (row_twice qs link fs gs)

pushed_none : (flights : List (List (List Flight))) (place link : ℕ) → push_frames flights place link [] ≡ flights
pushed_none [] place link = refl
pushed_none (row ∷ rows) zero link = ap (λ (r : List (List Flight)). r ∷ rows) (row_none row link)
pushed_none (row ∷ rows) (suc place) link = ap (λ (rs : List (List (List Flight))). row ∷ rs) (pushed_none rows place link)

pushed_twice : (flights : List (List (List Flight))) (place link : ℕ) (fs gs : List Flight) → push_frames (push_frames flights place link fs) place link gs ≡ push_frames flights place link (fs ++ gs)
pushed_twice [] place link fs gs = refl
pushed_twice (row ∷ rows) zero link fs gs = ap (λ (r : List (List Flight)). r ∷ rows) (row_twice row link fs gs)
pushed_twice (row ∷ rows) (suc place) link fs gs = ap (λ (rs : List (List (List Flight))). row ∷ rs) (pushed_twice rows place link fs gs)

pub all_sent : (confs : List RouterConf) (a : ℕ) (number : Option ℕ) (link : ℕ) (frames : List (Noted ℕ)) (flights : List (List (List Flight))) → AllByRecursion (IsOver link) (sent_in frames)
    → push_frames flights a link (map (flight_as (note_over confs a number link)) frames) ≡ push_all_sent confs a number flights (sent_in frames)
all_sent confs a number link [] flights over = pushed_none flights a link
all_sent confs a number link (f ∷ frames) flights over =
    let first : Flight = flight_as (note_over confs a number link) f in
    sym (pushed_twice flights a link (first ∷ []) (map (flight_as (note_over confs a number link)) frames))
    ∙ all_sent confs a number link frames (push_frames flights a link (first ∷ [])) over.1
    ∙ ap (λ (l : ℕ). push_all_sent confs a number (push_frames flights a l (flight_as (note_over confs a number l) f ∷ [])) (sent_in frames)) (sym over.0)

-- ---- to whom frames go

-- the first ones go to those that are noted, and of the others their link is noted
abbrev pub half_noted : List RouterConf → ℕ → ℕ → List (Noted ℕ) → List (Noted ℕ)
half_noted confs a i frames = map (peer_noted confs a) (take i frames) ++ drop i frames

half_suc : (confs : List RouterConf) (a i link : ℕ) (frames : List (Noted ℕ)) → option_map (λ f. f.note) (slice_get (half_noted confs a i frames) i) ≡ Some link
    → noted_anew (half_noted confs a i frames) i (peer_place confs a link) ≡ half_noted confs a (suc i) frames
half_suc confs a zero link [] is = absurd (none-some link is)
half_suc confs a (suc i) link [] is = absurd (none-some link is)
half_suc confs a zero link (f ∷ frames) is = ap (λ (l : ℕ). noted_as (peer_place confs a l) f ∷ frames) (sym (same_Some f.note link is))
half_suc confs a (suc i) link (f ∷ frames) is = ap (λ (l : List (Noted ℕ)). peer_noted confs a f ∷ l) (half_suc confs a i link frames is)

pub half_more : (confs : List RouterConf) (a i link : ℕ) (frames : List (Noted ℕ)) → option_map (λ f. f.note) (slice_get (half_noted confs a i frames) i) ≡ Some link
    → noted_anew (half_noted confs a i frames) i (peer_place confs a link) ≡ half_noted confs a (i + 1) frames
half_more confs a i link frames is = half_suc confs a i link frames is ∙ ap (λ (n : ℕ). half_noted confs a n frames) (sym (one i))

pub wires_are : (confs : List RouterConf) (a : ℕ) (frames : List (Noted ℕ)) → wires_in a (map (peer_noted confs a) frames) ≡ map (wire_from confs a) (sent_in frames)
wires_are confs a [] = refl
wires_are confs a (f ∷ frames) = ap (λ (l : List _). wire_from confs a (record { link = f.note; octets = f.octets }) ∷ l) (wires_are confs a frames)

-- frames over one link go to one router
pub wires_over : (confs : List RouterConf) (a to link : ℕ) (frames : List (Noted ℕ)) → to ≡ peer_place confs a link → AllByRecursion (IsOver link) (sent_in frames) → wires_to a to frames ≡ map (wire_from confs a) (sent_in frames)
wires_over confs a to link [] leads over = refl
wires_over confs a to link (f ∷ frames) leads over =
    ap (λ (p : ℕ). record { from = a; to = p; octets = f.octets } ∷ wires_to a to frames) (leads ∙ ap (peer_place confs a) (sym over.0))
    ∙ ap (λ (l : List WireFrame). wire_from confs a (record { link = f.note; octets = f.octets }) ∷ l) (wires_over confs a to link frames leads over.1)
