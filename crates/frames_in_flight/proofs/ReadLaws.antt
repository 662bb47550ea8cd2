-- What is reported of a frame as its packet is parsed.
use Rattle.std.proofs.Common.{◌≡◌, ℕ, List, [], map, Option, Some, None, option_map, refl, sym, ap, ◌∙◌}
use Rattle.wire_base.specs.declared.cause.Cause.{Cause}
use Rattle.wire_base.specs.declared.conf.RouterConf.{RouterConf}
use Rattle.wire_base.specs.model.Item.{Outer}
use Rattle.wire_base.specs.model.OnFrame.{Effects, Packet}
use Rattle.domain_model.specs.declared.lines.DropLine.{DropLine}
use Rattle.domain_model.specs.Moves.{item_lost}
use Rattle.domain_model.specs.Truth.{router_at}
use Rattle.frames_in_flight.specs.declared.flight.Note.{Note}
use Rattle.frames_in_flight.specs.Flights.{place_noted}
use Rattle.frames_in_flight.specs.Framed.{wire_from, got_line, drop_line}
use Rattle.frames_in_flight.specs.Read.{outer_in, packet_in, packet_ids, ids_for, copy_read, copy_in, item_in, item_ids}
use Rattle.frames_in_flight.specs.Told.{told, told_lost, told_of}

-- a copy has the number that is noted
pub number_read : (number : ℕ) (outer : Option Outer) (o : Option Packet) → (copy_read number outer o).number ≡ number
number_read number outer None = refl
number_read number outer (Some p) = refl

ids_copied : (number : ℕ) (outer : Option Outer) (o : Option Packet) → (copy_read number outer o).ids ≡ packet_ids o
ids_copied number outer None = refl
ids_copied number outer (Some p) = refl

-- the BFR-ids of a frame are those that the router parses which its packet is for
pub ids_are : (confs : List RouterConf) (note : Option Note) (octets : List ℕ) → item_ids (item_in confs note octets) ≡ ids_for (router_at confs (place_noted confs note octets)) note octets
unfolding item_in
ids_are confs None octets = refl
ids_are confs (Some note) octets = ids_copied note.number (outer_in octets) (packet_in confs note.to octets)

-- a frame that is dropped as a whole
pub lost_is : (os confs : List RouterConf) (a : ℕ) (why : Cause) (note : Option Note) (octets : List ℕ) → told os (item_lost a why (item_in confs note octets)) ≡ told_lost a (option_map (λ n. n.number) note) why (item_ids (item_in confs note octets))
unfolding item_in
lost_is os confs a why None octets = refl
lost_is os confs a why (Some note) octets =
    ap (λ (n : ℕ). told_lost a (Some n) why (copy_in confs note octets).ids) (number_read note.number (outer_in octets) (packet_in confs note.to octets))

-- where nothing is dropped, no BFR-ids are reported
pub none_dropped : (os : List RouterConf) (a : ℕ) (number : Option ℕ) (ids others : List ℕ) (e : Effects) → e.drops ≡ [] → told_of os a number ids e ≡ told_of os a number others e
none_dropped os a number ids others e none =
    ap (λ (l : List DropLine). record { sent = map (wire_from os a) e.sent; got = map (got_line a number) e.got; drops = l })
    (ap (map (drop_line a number ids)) none ∙ ap (map (drop_line a number others)) (sym none))
