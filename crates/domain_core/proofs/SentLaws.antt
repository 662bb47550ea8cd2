-- What a router sends on octets is what is sent in items.
use Rattle.std.proofs.Common.{◌≡◌, ℕ, List, [], ◌∷◌, map, Option, refl, sym, ap, ◌∙◌}
use Rattle.std.specs.List.{AllByRecursion}
use Rattle.wire_base.specs.declared.conf.RouterConf.{RouterConf}
use Rattle.wire_base.specs.declared.effects.Sent.{Sent}
use Rattle.wire_base.specs.model.Item.{Item}
use Rattle.wire_base.specs.model.OnFrame.{Effects}
use Rattle.frames_in_flight.specs.declared.flight.Flight.{Flight}
use Rattle.domain_model.specs.declared.lines.DropLine.{DropLine}
use Rattle.domain_model.specs.declared.lines.GotLine.{GotLine}
use Rattle.domain_model.specs.declared.step_out.WireFrame.{WireFrame}
use Rattle.frames_in_flight.specs.Told.{told, told_of}
use Rattle.frames_in_flight.specs.Flights.{items_seen, flight_of, push_sent, push_all_sent}
use Rattle.frames_in_flight.specs.Framed.{sending_of, wire_of, got_line, drop_line, IsItemFrame, IsFramed}
use Rattle.domain_model.specs.Moves.{Sending, Made}
use Rattle.domain_core.specs.Network.{IsFrameOver, AreFramesOver}
use Rattle.domain_model.specs.Step.{push_all}
use Rattle.domain_core.proofs.SeenLaws.{seen_pushed, frames_pushed}

-- `os` are the routers by their places, and `confs` the same as they are configured now.
module _ (os confs : List RouterConf) (a : ℕ) (number : Option ℕ) where
  pub sent_seen : (sents : List Sent) (flights : List (List (List Flight))) → items_seen confs (push_all_sent os a number flights sents) ≡ push_all (items_seen confs flights) (map (sending_of os confs a number) sents)
  sent_seen [] flights = refl
  sent_seen (s ∷ ss) flights =
      sent_seen ss (push_sent os a number flights s)
      ∙ ap (λ (xs : List (List (List Item))). push_all xs (map (sending_of os confs a number) ss)) (seen_pushed confs flights a s.link (flight_of os a number s))

  pub sent_frames : (sents : List Sent) (flights : List (List (List Flight))) → AllByRecursion (IsItemFrame os confs a number) sents → AreFramesOver os confs flights → AreFramesOver os confs (push_all_sent os a number flights sents)
  sent_frames [] flights all are = are
  sent_frames (s ∷ ss) flights all are = sent_frames ss (push_sent os a number flights s) all.1 (frames_pushed (IsFrameOver os confs) flights a s.link (flight_of os a number s) all.0.is are)

  same_told : (ids : List ℕ) (e : Effects) (m : Made) → IsFramed os confs a number ids e m → told_of os a number ids e ≡ told os m
  same_told ids e m k =
      ap (λ (l : List WireFrame). record { sent = l; got = map (got_line a number) e.got; drops = map (drop_line a number ids) e.drops }) (sym k.wires)
      ∙ ap (λ (l : List GotLine). record { sent = map (wire_of os) m.sent; got = l; drops = map (drop_line a number ids) e.drops }) (sym k.got)
      ∙ ap (λ (l : List DropLine). record { sent = map (wire_of os) m.sent; got = m.got; drops = l }) (sym k.drops)

  -- what was done on octets is what was made of items
  pub record IsCarried (flights : List (List (List Flight))) (ids : List ℕ) (e : Effects) (m : Made) : Type 0 where
    pub seen : items_seen confs (push_all_sent os a number flights e.sent) ≡ push_all (items_seen confs flights) m.sent
    pub frames : AreFramesOver os confs (push_all_sent os a number flights e.sent)
    pub out : told_of os a number ids e ≡ told os m

  pub carried : (flights : List (List (List Flight))) (ids : List ℕ) (e : Effects) (m : Made) → AreFramesOver os confs flights → IsFramed os confs a number ids e m → IsCarried flights ids e m
  carried flights ids e m are k = record {
    seen = sent_seen e.sent flights ∙ ap (λ (l : List Sending). push_all (items_seen confs flights) l) (sym k.sent);
    frames = sent_frames e.sent flights k.frames are;
    out = same_told ids e m k;
  }
