-- What an event that brings an interface up or down changes, and what it leaves.
use Rattle.std.proofs.Common.{◌≡◌, ℕ, zero, suc, ◌+◌, Bool, true, false, List, [], ◌∷◌, length, slice_get, slice_set, length-set, Option, Some, None, refl, sym, ap, ◌∙◌}
use Rattle.std.proofs.lemmas.Option.{same_Some}
use Rattle.wire_base.specs.model.Control.{Control}
use Rattle.wire_base.specs.model.Flooding.{Reply, end_up, end_down}
use Rattle.domain_model.specs.Step.{changes_end, happens}
use Rattle.domain_model.specs.World.{WorldState, link_between}
use Rattle.laws_settle.specs.Ups.{ups_in, ups_of}
use Rattle.domain_handshake.specs.Following.{widths}
use Rattle.domain_handshake.specs.Lines.{end_event}
use Rattle.laws_settle.proofs.ControlUps.{end_up_ups, end_down_ups}
use Rattle.laws_settle.proofs.WorldUps.{row_at}

-- ---- rows

abbrev pub with_up : List (List Bool) → ℕ → ℕ → Bool → List (List Bool)
with_up ups a link up = slice_set ups a (slice_set (row_at ups a) link up)

-- one of its interfaces changes
set_one : (cs : List Control) (a link : ℕ) (up : Bool) (c next : Control) → slice_get cs a ≡ Some c → next.flood.up ≡ slice_set c.flood.up link up → ups_in (slice_set cs a next) ≡ with_up (ups_in cs) a link up
unfolding ups_in
set_one [] a link up c next at one = refl
set_one (x ∷ xs) zero link up c next at one = ap (λ (row : List Bool). row ∷ ups_in xs) (one ∙ ap (λ (y : Control). slice_set y.flood.up link up) (sym (same_Some x c at)))
set_one (x ∷ xs) (suc a) link up c next at one = ap (λ (rows : List (List Bool)). x.flood.up ∷ rows) (set_one xs a link up c next at one)

-- a router that does not exist
set_none : (cs : List Control) (a link : ℕ) (up : Bool) → slice_get cs a ≡ None → with_up (ups_in cs) a link up ≡ ups_in cs
unfolding ups_in
set_none [] a link up at = refl
set_none (x ∷ xs) zero link up at = absurd cc
set_none (x ∷ xs) (suc a) link up at = ap (λ (rows : List (List Bool)). x.flood.up ∷ rows) (set_none xs a link up at)

-- ---- an interface comes up or goes down

changed_ups : (w : WorldState) (a link : ℕ) (up : Bool) (change : Control → ℕ → Reply) → ((c : Control) → (change c link).control.flood.up ≡ slice_set c.flood.up link up) → (q : Option Control) → slice_get w.routers a ≡ q
    → ups_of (changes_end w a change q (Some link)).world ≡ with_up (ups_of w) a link up
changed_ups w a link up change one None at = sym (set_none w.routers a link up at)
changed_ups w a link up change one (Some c) at = set_one w.routers a link up c _ at (one c)

pub moved_ups : (w : WorldState) (a b link : ℕ) (up : Bool) → link_between w.domain.routers a b ≡ Some link → ups_of (happens w (end_event a b up)).world ≡ with_up (ups_of w) a link up
unfolding happens
moved_ups w a b link true joined = ap (λ (o : Option ℕ). ups_of (changes_end w a end_up (slice_get w.routers a) o).world) joined ∙ changed_ups w a link true end_up (λ c. end_up_ups c link) (slice_get w.routers a) refl
moved_ups w a b link false joined = ap (λ (o : Option ℕ). ups_of (changes_end w a end_down (slice_get w.routers a) o).world) joined ∙ changed_ups w a link false end_down (λ c. end_down_ups c link) (slice_get w.routers a) refl

changed_count : (w : WorldState) (a : ℕ) (change : Control → ℕ → Reply) (q : Option Control) (l : Option ℕ) → (changes_end w a change q l).world.events ≡ w.events
changed_count w a change None l = refl
changed_count w a change (Some c) None = refl
changed_count w a change (Some c) (Some link) = refl

pub moved_count : (w : WorldState) (a b : ℕ) (up : Bool) → (happens w (end_event a b up)).world.events ≡ w.events + 1
unfolding happens
moved_count w a b true = ap (λ (n : ℕ). n + 1) (changed_count w a end_up (slice_get w.routers a) (link_between w.domain.routers a b))
moved_count w a b false = ap (λ (n : ℕ). n + 1) (changed_count w a end_down (slice_get w.routers a) (link_between w.domain.routers a b))

-- ---- the interfaces there are

widths_set : (ups : List (List Bool)) (a : ℕ) (row : List Bool) → length row ≡ length (row_at ups a) → widths (slice_set ups a row) ≡ widths ups
unfolding widths
widths_set [] a row e = refl
widths_set (r ∷ rs) zero row e = ap (λ (n : ℕ). n ∷ widths rs) e
widths_set (r ∷ rs) (suc a) row e = ap (λ (l : List ℕ). length r ∷ l) (widths_set rs a row e)

pub with_widths : (ups : List (List Bool)) (a link : ℕ) (up : Bool) → widths (with_up ups a link up) ≡ widths ups
with_widths ups a link up = widths_set ups a (slice_set (row_at ups a) link up) (length-set (row_at ups a) link up)
