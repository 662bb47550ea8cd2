-- Frames in flight: for each router and each of its interfaces those sent on that interface, the oldest first, each
-- with what its octets do not contain. And the items that they represent.
use Rattle.std.specs.Prelude.{◌≡◌, ℕ, List, [], ◌∷◌, ◌++◌, length, map, slice_index_or, slice_set, sum_by, Option, Some, None, option_map}
use Rattle.std.specs.List.{fold, remove}
use Rattle.wire_base.specs.declared.conf.RouterConf.{RouterConf}
use Rattle.wire_base.specs.declared.effects.Sent.{Sent}
use Rattle.wire_base.specs.model.Item.{Item}
use Rattle.domain_model.specs.World.{carried}
use Rattle.frame_list.specs.Spans.{Noted}
use Rattle.frames_in_flight.specs.declared.flight.Flight.{Flight}
use Rattle.frames_in_flight.specs.declared.flight.Note.{Note}
use Rattle.frames_in_flight.specs.Framed.{note_over}
use Rattle.frames_in_flight.specs.Read.{item_in, item_ids, ids_for, reader_place}

-- ---- the item of a frame

abbrev pub item_seen : List RouterConf → Flight → Item
item_seen confs f = item_in confs f.note f.octets

abbrev pub items_seen : List RouterConf → List (List (List Flight)) → List (List (List Item))
items_seen confs flights = map (λ row. map (λ queue. map (item_seen confs) queue) row) flights

-- the injection that a frame belongs to
abbrev pub number_of : Flight → Option ℕ
number_of f = option_map (λ note. note.number) f.note

-- the index of the router that the packet in a frame is for, if a packet is noted
abbrev pub place_noted : List RouterConf → Option Note → List ℕ → Option ℕ
place_noted confs None octets = None
place_noted confs (Some note) octets = reader_place confs note.to octets

abbrev pub place_seen : List RouterConf → Flight → Option ℕ
place_seen confs f = place_noted confs f.note f.octets

-- the BFR-ids of a frame
abbrev pub ids_seen : List RouterConf → Flight → List ℕ
ids_seen confs f = item_ids (item_seen confs f)

-- the same, as the router parses the frame that its packet is for
abbrev pub ids_read : Option RouterConf → Flight → List ℕ
ids_read reader f = ids_for reader f.note f.octets

-- of one that was received, if one was
abbrev pub ids_taken : Option RouterConf → Option Flight → List ℕ
ids_taken reader None = []
ids_taken reader (Some f) = ids_read reader f

-- ---- how it is stored

-- a frame with that note
abbrev pub flight_with : List ℕ → Option Note → Flight
flight_with octets note = record { octets = octets; note = note }

-- the same of a frame that has another note
abbrev pub flight_as : Option Note → Noted ℕ → Flight
flight_as note f = flight_with f.octets note

-- frames that are stored as a list of frames, each with a note
abbrev pub flights_in : List (Noted (Option Note)) → List Flight
flights_in frames = map (λ f. flight_with f.octets f.note) frames

-- ---- what is in flight

abbrev pub frames_at : List (List (List Flight)) → ℕ → ℕ → List Flight
frames_at flights place link = slice_index_or (slice_index_or flights place []) link []

abbrev pub with_frames : List (List (List Flight)) → ℕ → ℕ → List Flight → List (List (List Flight))
with_frames flights place link queue = slice_set flights place (slice_set (slice_index_or flights place []) link queue)

-- a frame is queued at the end of its direction
abbrev pub push_frame : List (List (List Flight)) → ℕ → ℕ → Flight → List (List (List Flight))
push_frame flights place link f = with_frames flights place link (frames_at flights place link ++ f ∷ [])

-- the same for several frames
abbrev pub push_frames : List (List (List Flight)) → ℕ → ℕ → List Flight → List (List (List Flight))
push_frames flights place link fs = with_frames flights place link (frames_at flights place link ++ fs)

-- and another is removed from there
abbrev pub without_frame : List (List (List Flight)) → ℕ → ℕ → ℕ → List (List (List Flight))
without_frame flights place link i = with_frames flights place link (remove (frames_at flights place link) i)

-- how many there are in all
abbrev pub frame_count : List (List (List Flight)) → ℕ
frame_count flights = sum_by (λ row. sum_by (λ queue. length queue) row) flights

-- how many BFR-ids they have
abbrev pub ids_carried_by : List RouterConf → List (List (List Flight)) → ℕ
ids_carried_by confs flights = sum_by (λ row. sum_by (λ queue. sum_by (λ f. carried (item_seen confs f)) queue) row) flights

-- nothing is in flight
abbrev pub no_frames : List RouterConf → List (List (List Flight))
no_frames confs = map (λ r. map (λ e. []) r.ends) confs

-- ---- what a router sends

-- a frame that the router at index a sends, for that injection or for none
abbrev pub flight_of : List RouterConf → ℕ → Option ℕ → Sent → Flight
flight_of confs a number s = record { octets = s.octets; note = note_over confs a number s.link }

-- what a router sends is queued at the ends of its directions, in order
abbrev pub push_sent : List RouterConf → ℕ → Option ℕ → List (List (List Flight)) → Sent → List (List (List Flight))
push_sent confs a number flights s = push_frame flights a s.link (flight_of confs a number s)

abbrev pub push_all_sent : List RouterConf → ℕ → Option ℕ → List (List (List Flight)) → List Sent → List (List (List Flight))
push_all_sent confs a number flights sent = fold (push_sent confs a number) flights sent

-- the same once the frame that it received, of a direction, is removed; nothing if there is no such frame
abbrev pub push_after : List RouterConf → ℕ → List Sent → List (List (List Flight)) → ℕ → ℕ → ℕ → Option Flight → List (List (List Flight))
push_after confs a sent flights place link i None = flights
push_after confs a sent flights place link i (Some f) = push_all_sent confs a (number_of f) (without_frame flights place link i) sent

-- a frame that is sent on that link
abbrev pub IsOver : ℕ → Sent → Type 0
IsOver link s = s.link ≡ link
