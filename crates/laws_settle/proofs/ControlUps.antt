-- Which interfaces of a router are up: an event at the router changes that only where an interface comes up or goes down.
use Rattle.std.proofs.Common.{◌≡◌, ℕ, Bool, true, false, List, slice_set, refl, ◌∙◌}
use Rattle.wire_base.specs.declared.bsl.Bsl.{Bsl}
use Rattle.wire_base.specs.declared.conf.RouterConf.{RouterConf}
use Rattle.wire_base.specs.declared.entry.Entry.{Entry}
use Rattle.wire_base.specs.model.Control.{Control, Flood}
use Rattle.wire_base.specs.model.Flooding.{end_down, end_up, join, leave, link_down, link_up, mark_all, new_flood, on_pdu, reissue_unless_spent, relabel, restart, send, sent_on, started, tick}
use Rattle.wire_base.specs.model.Membership.{relabelled, left, rejoined}
use Rattle.wire_base.specs.model.Pdu.{Pdu}
use Rattle.laws_settle.proofs.PdusKeep.{known_keep, pdu_keeps, tick_keeps, unless_spent}

pub pdu_ups : (c : Control) (link : ℕ) (p : Pdu) → (on_pdu c link p).control.flood.up ≡ c.flood.up
pdu_ups c link p = pdu_keeps (λ (f : Flood). f.up ≡ c.flood.up) (λ f rows h. h) c link p refl

-- ---- a second, a restart, and what is sent

pub tick_ups : (c : Control) → (tick c).control.flood.up ≡ c.flood.up
tick_ups c = tick_keeps (λ (f : Flood). f.up ≡ c.flood.up) (λ f rows h. h) c refl

pub started_ups : (r : RouterConf) (up : List Bool) → (started r up).flood.up ≡ up
unfolding started new_flood mark_all
started_ups r up = refl

pub restart_ups : (c : Control) → (restart c).control.flood.up ≡ c.flood.up
unfolding restart
restart_ups c = started_ups c.conf c.flood.up

pub send_ups : (c : Control) (link : ℕ) → (send c link).control.flood.up ≡ c.flood.up
unfolding send sent_on
send_ups c link = refl

-- ---- labels and members

unless_ups : (c : Control) → (reissue_unless_spent c).flood.up ≡ c.flood.up
unless_ups c = unless_spent (λ (f : Flood). f.up ≡ c.flood.up) (λ f rows h. h) c refl

pub relabel_ups : (c : Control) (sd : ℕ) (bsl : Bsl) (label : ℕ) → (relabel c sd bsl label).control.flood.up ≡ c.flood.up
unfolding relabel
relabel_ups c sd bsl label = unless_ups (record c { conf = relabelled c.conf sd bsl label })

pub leave_ups : (c : Control) (sd : ℕ) → (leave c sd).control.flood.up ≡ c.flood.up
unfolding leave
leave_ups c sd = unless_ups (record c { conf = left c.conf sd })

pub join_ups : (c : Control) (sd : ℕ) → (join c sd).control.flood.up ≡ c.flood.up
unfolding join
join_ups c sd = unless_ups (record c { conf = rejoined c.conf sd })

-- ---- interfaces

up_ups : (f : Flood) (es : List Entry) (link : ℕ) → (link_up f es link).up ≡ slice_set f.up link true
unfolding link_up
up_ups f es link = known_keep (λ (g : Flood). g.up ≡ slice_set f.up link true) (λ g rows h. h) link es (record f { up = slice_set f.up link true; due = slice_set f.due link true }) refl

down_ups : (f : Flood) (link : ℕ) → (link_down f link).up ≡ slice_set f.up link false
unfolding link_down
down_ups f link = refl

pub end_up_ups : (c : Control) (link : ℕ) → (end_up c link).control.flood.up ≡ slice_set c.flood.up link true
unfolding end_up
end_up_ups c link = unless_ups (record c { flood = link_up c.flood c.entries link }) ∙ up_ups c.flood c.entries link

pub end_down_ups : (c : Control) (link : ℕ) → (end_down c link).control.flood.up ≡ slice_set c.flood.up link false
unfolding end_down
end_down_ups c link = unless_ups (record c { flood = link_down c.flood link }) ∙ down_ups c.flood link
