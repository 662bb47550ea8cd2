-- Whether the events of flooding are allowed and gentle, and whether a router has an LSP to send, as tests.
use Rattle.std.proofs.Common.{◌≡◌, ℕ, zero, suc, ◌<◌, ◌&&◌, not, nat_lt, Bool, true, false, List, [], ◌∷◌, length, slice_get, slice_index_or, is_none, Option, Some, None, refl, subst}
use Rattle.std.proofs.lemmas.Bool.{and_parts, cond_both, false≢true, ltb-true}
use Rattle.std.proofs.lemmas.Option.{same_Some}
use Rattle.wire_base.specs.declared.addresses.LspId.{LspId}
use Rattle.wire_base.specs.model.Control.{Control, FlagRow, same_id, srm, srm_in}
use Rattle.replay_text.specs.declared.event.Event.{Event}
use Rattle.replay_text.specs.declared.event.Event.TheVariants.{Take, Lose, Again, Down, Up, Send, Tick, Restart}
use Rattle.domain_model.specs.declared.fault.EventFault.{EventFault}
use Rattle.domain_model.specs.Faults.{event_fault}
use Rattle.domain_model.specs.Step.{happens}
use Rattle.domain_model.specs.Truth.{EventFits}
use Rattle.domain_model.specs.World.{WorldState}
use Rattle.laws_ledger.specs.Runs.{AreAllowed}
use Rattle.laws_settle.specs.Gentle.{AreGentle, IsGentle}

unfoldable pub fits : ℕ → Event → Bool
fits n (Take a b i) = nat_lt a n && nat_lt b n
fits n (Lose a b i) = nat_lt a n && nat_lt b n
fits n (Again a b i) = nat_lt a n && nat_lt b n
fits n (Down a b) = nat_lt a n && nat_lt b n
fits n (Up a b) = nat_lt a n && nat_lt b n
fits n (Send a b) = nat_lt a n && nat_lt b n
fits n (Tick a) = nat_lt a n
fits n (Restart a) = nat_lt a n
fits n other = false

both : (n a b : ℕ) → (nat_lt a n && nat_lt b n) ≡ true → (a < n) × (b < n)
both n a b h = let p = and_parts (nat_lt a n) (nat_lt b n) h in (ltb-true a n p.0, ltb-true b n p.1)

fits_is : (n : ℕ) (e : Event) → fits n e ≡ true → EventFits n e
unfolding fits
fits_is n (Take a b i) h = both n a b h
fits_is n (Lose a b i) h = both n a b h
fits_is n (Again a b i) h = both n a b h
fits_is n (Down a b) h = both n a b h
fits_is n (Up a b) h = both n a b h
fits_is n (Send a b) h = both n a b h
fits_is n (Tick a) h = ltb-true a n h
fits_is n (Restart a) h = ltb-true a n h
fits_is n other h = absurd (false≢true h)

none_is : (o : Option EventFault) → is_none o ≡ true → o ≡ None
none_is None h = refl
none_is (Some reason) h = absurd (false≢true h)

-- each event fits and has no fault
abbrev pub all_allowed : WorldState → List Event → Bool
all_allowed w [] = true
all_allowed w (e ∷ es) = fits (length w.domain.routers) e && (is_none (event_fault w e) && all_allowed (happens w e).world es)

pub allowed_is : (es : List Event) (w : WorldState) → all_allowed w es ≡ true → AreAllowed w es
allowed_is [] w h = tt
allowed_is (e ∷ es) w h =
    let p = and_parts (fits (length w.domain.routers) e) _ h in
    let q = and_parts (is_none (event_fault w e)) _ p.1 in
    (fits_is (length w.domain.routers) e p.0, none_is (event_fault w e) q.0, allowed_is es (happens w e).world q.1)

-- ---- gentle events

-- what is sent and received changes no Remaining Lifetime
unfoldable pub is_calm : Event → Bool
is_calm (Tick a) = false
is_calm (Restart a) = false
is_calm other = true

calm_gentle : (w : WorldState) (e : Event) → is_calm e ≡ true → IsGentle w e
unfolding is_calm
calm_gentle w (Tick a) h = absurd (false≢true h)
calm_gentle w (Restart a) h = absurd (false≢true h)
calm_gentle w other h = tt

abbrev pub all_calm : List Event → Bool
all_calm [] = true
all_calm (e ∷ es) = is_calm e && all_calm es

pub calm_is : (es : List Event) (w : WorldState) → all_calm es ≡ true → AreGentle w es
calm_is [] w h = tt
calm_is (e ∷ es) w h = let p = and_parts (is_calm e) (all_calm es) h in (calm_gentle w e p.0, calm_is es (happens w e).world p.1)

-- ---- LSPs to send

abbrev pub all_off : List Bool → Bool
all_off [] = true
all_off (b ∷ bs) = not b && all_off bs

abbrev pub rows_off : List FlagRow → Bool
rows_off [] = true
rows_off (row ∷ rows) = all_off row.srm && rows_off rows

abbrev pub all_idle : List Control → Bool
all_idle [] = true
all_idle (c ∷ cs) = rows_off c.flood.rows && all_idle cs

off_at : (bs : List Bool) (link : ℕ) → all_off bs ≡ true → slice_index_or bs link false ≡ false
off_at [] link h = refl
off_at (true ∷ bs) link h = absurd (false≢true h)
off_at (false ∷ bs) zero h = refl
off_at (false ∷ bs) (suc link) h = off_at bs link h

none_at : (rows : List FlagRow) (id : LspId) (link : ℕ) → rows_off rows ≡ true → srm_in rows id link ≡ false
none_at [] id link h = refl
none_at (row ∷ rows) id link h =
    let p = and_parts (all_off row.srm) (rows_off rows) h in
    cond_both (same_id row.id id) (slice_index_or row.srm link false) (srm_in rows id link) (λ (b : Bool). b ≡ false) (λ here. off_at row.srm link p.0) (λ later. none_at rows id link p.1)

pub idle_is : (cs : List Control) → all_idle cs ≡ true → (a : ℕ) (c : Control) → slice_get cs a ≡ Some c → (id : LspId) (link : ℕ) → srm c.flood id link ≡ false
idle_is [] h a c at id link = absurd cc
idle_is (x ∷ cs) h zero c at id link = subst (λ (y : Control). srm y.flood id link ≡ false) (same_Some x c at) (none_at x.flood.rows id link (and_parts (rows_off x.flood.rows) (all_idle cs) h).0)
idle_is (x ∷ cs) h (suc a) c at id link = idle_is cs (and_parts (rows_off x.flood.rows) (all_idle cs) h).1 a c at id link
