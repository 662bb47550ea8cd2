-- What arrives, is lost or comes again, of the frames that are held.
use Rattle.std.proofs.Common.{◌≡◌, ℕ, Bool, true, false, if◌then◌else◌, List, slice_get, Option, Some, None, refl, sym, ap, subst, ◌∙◌}
use Rattle.wire_base.specs.declared.cause.Cause.{Cause}
use Rattle.wire_base.specs.declared.cause.Cause.TheVariants as cause
use Rattle.wire_base.specs.declared.conf.RouterConf.{RouterConf}
use Rattle.wire_base.specs.model.Control.{Control}
use Rattle.wire_base.specs.model.Item.{Item, ControlItem, PacketItem, DataItem}
use Rattle.wire_base.specs.model.Pdu.{Pdu}
use Rattle.replay_text.specs.declared.event.Event.TheVariants.{Take}
use Rattle.frames_in_flight.specs.declared.flight.Flight.{Flight}
use Rattle.frames_in_flight.specs.declared.flight.Note.{Note}
use Rattle.domain_model.specs.declared.step_out.StepOut.{StepOut}
use Rattle.domain_model.specs.Faults.{is_up_toward}
use Rattle.frames_in_flight.specs.Told.{taken_report}
use Rattle.domain_core.specs.Answers.{outcome, taken_outcome}
use Rattle.frames_in_flight.specs.Flights.{item_seen, items_seen, push_frame, without_frame}
use Rattle.domain_model.specs.Moves.{item_lost}
use Rattle.domain_core.specs.Network.{NetworkState, confs_in, world_of, AreFramesOver, heard_at, heard_of, heard_after}
use Rattle.domain_model.specs.Step.{same_world, makes, taken_off, arrives, comes, takes, takes_over, loses, loses_over, repeats, repeats_over}
use Rattle.domain_model.specs.World.{WorldState, is_up, link_between, frames_between, queue_at, push_item}
use Rattle.domain_core.proofs.SeenLaws.{seen_pushed, seen_removed}

-- ---- a frame is gone, or one more is on the way

pub gone_world : (n : NetworkState) (flights : List (List (List Flight))) (a link i : ℕ) → flights ≡ without_frame n.flights a link i → world_of (record n { flights = flights }) ≡ taken_off (world_of n) a link i
gone_world n flights a link i e = ap (λ (xs : List (List (List Item))). record (world_of n) { flights = xs }) (ap (items_seen (confs_in n)) e ∙ seen_removed (confs_in n) n.flights a link i)

pub more_world : (n : NetworkState) (flights : List (List (List Flight))) (a link : ℕ) (f : Flight) → flights ≡ push_frame n.flights a link f → world_of (record n { flights = flights }) ≡ record (world_of n) { flights = push_item (items_seen (confs_in n) n.flights) a link (item_seen (confs_in n) f) }
more_world n flights a link f e = ap (λ (xs : List (List (List Item))). record (world_of n) { flights = xs }) (ap (items_seen (confs_in n)) e ∙ seen_pushed (confs_in n) n.flights a link f)

-- ---- an item is dropped as a whole

pub lost_world : (w : WorldState) (b : ℕ) (why : Cause) (x : Item) → (makes w (item_lost b why x)).world ≡ w
lost_world w b why (ControlItem p) = refl
lost_world w b why (PacketItem x) = refl

-- ---- what is lost

module _ (w : WorldState) (a b i link : ℕ) (joined : link_between w.domain.routers a b ≡ Some link) where
  pub none_lost : slice_get (queue_at w.flights a link) i ≡ None → loses_over w a b i (link_between w.domain.routers a b) ≡ same_world w
  none_lost none = ap (loses_over w a b i) joined ∙ ap (loses w a link b i) none

  pub some_lost : (x : Item) → slice_get (queue_at w.flights a link) i ≡ Some x → loses_over w a b i (link_between w.domain.routers a b) ≡ makes (taken_off w a link i) (item_lost b cause.Lost x)
  some_lost x some = ap (loses_over w a b i) joined ∙ ap (loses w a link b i) some

  -- ---- what comes again

  pub none_again : slice_get (queue_at w.flights a link) i ≡ None → repeats_over w a i (link_between w.domain.routers a b) ≡ same_world w
  none_again none = ap (repeats_over w a i) joined ∙ ap (repeats w a link) none

  pub packet_again : (x : DataItem) → slice_get (queue_at w.flights a link) i ≡ Some (PacketItem x) → repeats_over w a i (link_between w.domain.routers a b) ≡ same_world w
  packet_again x some = ap (repeats_over w a i) joined ∙ ap (repeats w a link) some

  pub pdu_again : (x : Item) (p : Pdu) → x ≡ ControlItem p → slice_get (queue_at w.flights a link) i ≡ Some x → repeats_over w a i (link_between w.domain.routers a b) ≡ same_world (record w { flights = push_item w.flights a link x })
  pdu_again x p is some =
      ap (repeats_over w a i) joined ∙ ap (repeats w a link) (some ∙ ap (λ (y : Item). Some y) is)
      ∙ ap (λ (y : Item). same_world (record w { flights = push_item w.flights a link y })) (sym is)

-- ---- frames

pub same_frames : (os confs : List RouterConf) (new flights : List (List (List Flight))) → new ≡ flights → AreFramesOver os confs flights → AreFramesOver os confs new
same_frames os confs new flights e are = subst (AreFramesOver os confs) (sym e) are

pub same_flight : (f g : Flight) → f.octets ≡ g.octets → f.note ≡ g.note → f ≡ g
same_flight f g p q = ap (λ (l : List ℕ). record { octets = l; note = f.note }) p ∙ ap (λ (l : Option Note). record { octets = g.octets; note = l }) q

-- ---- what is taken

module _ (w : WorldState) (a b i link : ℕ) (joined : link_between w.domain.routers a b ≡ Some link) where
  pub none_back : link_between w.domain.routers b a ≡ None → takes_over w a b i (link_between w.domain.routers a b) (link_between w.domain.routers b a) ≡ same_world w
  none_back none = ap (λ (l : Option ℕ). takes_over w a b i l (link_between w.domain.routers b a)) joined ∙ ap (takes_over w a b i (Some link)) none

  module _ (back : ℕ) (facing : link_between w.domain.routers b a ≡ Some back) where
    over : takes_over w a b i (link_between w.domain.routers a b) (link_between w.domain.routers b a) ≡ takes w a link b back i (slice_get (queue_at w.flights a link) i) (slice_get w.routers b)
    over = ap (λ (l : Option ℕ). takes_over w a b i l (link_between w.domain.routers b a)) joined ∙ ap (takes_over w a b i (Some link)) facing

    pub none_taken : slice_get (queue_at w.flights a link) i ≡ None → takes_over w a b i (link_between w.domain.routers a b) (link_between w.domain.routers b a) ≡ same_world w
    none_taken none = over ∙ ap (λ (o : Option Item). takes w a link b back i o (slice_get w.routers b)) none

    come : (x : Item) (c : Control) → slice_get (queue_at w.flights a link) i ≡ Some x → slice_get w.routers b ≡ Some c → takes_over w a b i (link_between w.domain.routers a b) (link_between w.domain.routers b a) ≡ comes (taken_off w a link i) b back c x
    come x c some at = over ∙ ap (λ (o : Option Item). takes w a link b back i o (slice_get w.routers b)) some ∙ ap (takes w a link b back i (Some x)) at

    pub down_taken : (x : Item) (c : Control) → slice_get (queue_at w.flights a link) i ≡ Some x → slice_get w.routers b ≡ Some c → is_up c back ≡ false → takes_over w a b i (link_between w.domain.routers a b) (link_between w.domain.routers b a) ≡ makes (taken_off w a link i) (item_lost b cause.Link x)
    down_taken x c some at down = come x c some at ∙ ap (λ (u : Bool). if u then arrives (taken_off w a link i) b back c x else makes (taken_off w a link i) (item_lost b cause.Link x)) down

    pub up_taken : (x : Item) (c : Control) → slice_get (queue_at w.flights a link) i ≡ Some x → slice_get w.routers b ≡ Some c → is_up c back ≡ true → takes_over w a b i (link_between w.domain.routers a b) (link_between w.domain.routers b a) ≡ arrives (taken_off w a link i) b back c x
    up_taken x c some at up = come x c some at ∙ ap (λ (u : Bool). if u then arrives (taken_off w a link i) b back c x else makes (taken_off w a link i) (item_lost b cause.Link x)) up

-- ---- how many frames a router has taken

module _ (w : WorldState) (heard : List ℕ) (a b i : ℕ) where
  pub unheard : is_up_toward w b a ≡ false → heard_after w heard (Take a b i) ≡ heard
  unheard down = ap (λ (u : Bool). heard_of heard b u (slice_get (frames_between w a b) i)) down ∙ by (slice_get (frames_between w a b) i)
    where
      by : (o : Option Item) → heard_of heard b false o ≡ heard
      by None = refl
      by (Some x) = refl

  pub none_heard : slice_get (frames_between w a b) i ≡ None → heard_after w heard (Take a b i) ≡ heard
  none_heard none = ap (heard_of heard b (is_up_toward w b a)) none

  pub one_heard : (x : Item) → is_up_toward w b a ≡ true → slice_get (frames_between w a b) i ≡ Some x → heard_after w heard (Take a b i) ≡ heard_at heard b
  one_heard x up some = ap (λ (u : Bool). heard_of heard b u (slice_get (frames_between w a b) i)) up ∙ ap (heard_of heard b true) some

-- what a delivery reports is what is written there, if there is anything
pub taken_reported : (some : Bool) (made : StepOut) → taken_outcome some made ≡ outcome (taken_report some made)
taken_reported true made = refl
taken_reported false made = refl
