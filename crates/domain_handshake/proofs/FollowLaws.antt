-- The interfaces of a domain follow the adjacencies of its circuits.
use Rattle.std.proofs.Common.{◌≡◌, ℕ, zero, suc, ◌+◌, ◌<◌, ◌≤◌, ◌⊎◌, inl, inr, not, cond, eqb, nat_lt, nat_le, Bool, true, false, List, [], ◌∷◌, ◌++◌, length, filter, slice_get, slice_set, slice_index_or, is_none, Option, Some, None, option_map, refl, sym, ap, subst, ◌∙◌, arith, append-nil}
use mathlib.Core.Bool.{true≢false}
use Rattle.std.specs.List.{AllByRecursion, fold}
use Rattle.std.proofs.lemmas.Bool.{and_parts, eqb-true, ltb-false, lt-leb}
use Rattle.std.proofs.lemmas.List.{get_or-set_same}
use Rattle.std.proofs.lemmas.List.Sums.{fold-append}
use Rattle.std.proofs.lemmas.Option.{same_Some}
use Rattle.wire_base.specs.declared.conf.RouterConf.{RouterConf}
use Rattle.wire_base.specs.model.Configuration.{DomainConf, IsValid}
use Rattle.isis_hello.specs.declared.event.EndChange.{EndChange}
use Rattle.wire_base.specs.declared.hello_event.HelloEvent.{HelloEvent}
use Rattle.isis_hello.specs.declared.fault.CircuitFault.{CircuitFault}
use Rattle.isis_hello.specs.Changes.{is_at, after_change, up_between, LeadTo, IsJoined, AreChanges}
use Rattle.isis_hello.specs.Circuits.{CircuitsState}
use Rattle.isis_hello.specs.Events as circuits
use Rattle.isis_hello.specs.Events.{circuit_fault}
use Rattle.isis_hello.specs.History.{circuits_after, is_pair}
use Rattle.isis_hello.proofs.ChangeLaws.{changes_after}
use Rattle.isis_hello.proofs.LinkLaws.{only_link}
use Rattle.isis_hello.proofs.QueueLaws.{domain_after, pair_is}
use Rattle.replay_text.specs.declared.event.Event.{Event}
use Rattle.replay_text.specs.declared.event.Line.{Line}
use Rattle.replay_text.specs.declared.event.Line.TheVariants.{Empty, One, Settle}
use Rattle.replay_text.specs.Hand.{is_move, moves}
use Rattle.domain_model.specs.declared.fault.EventFault.{EventFault}
use Rattle.domain_model.specs.declared.fault.EventFault.TheVariants as faults
use Rattle.domain_model.specs.Faults.{first_fault, event_fault, is_up_toward, most_events}
use Rattle.domain_model.specs.Run.{directions, may_send, round_sends, round_takes, round_events, settle_events, line_events, world_after}
use Rattle.domain_model.specs.Step.{happens}
use Rattle.domain_model.specs.World.{WorldState, link_between}
use Rattle.domain_model.proofs.EachLaws.{each_joined}
use Rattle.domain_model.proofs.LinkLaws.{join_of, end_found}
use Rattle.domain_model.proofs.QueueLaws.{got_within, set_read}
use Rattle.domain_replay.specs.Telling.{Told, told, tells, tells_or, tells_unless, reports_on, tells_all, tells_line}
use Rattle.domain_replay.proofs.Stays.{happens_domain}
use Rattle.domain_handshake.specs.Following.{EndsFollow, IsFollowed, history, widths, ends_counts, IsWorldOf, IsRunning}
use Rattle.domain_replay.specs.Parts.{unsaid, if_allowed, allowed_first}
use Rattle.domain_handshake.specs.Handshakes.{HandState, Outcome, writes, joined, goes_on, and_then, one_more, in_turn, nothing, moments_along, world_does, change_does, follows, follows_if, follows_all, moment_after, hello_unless, hello_does}
use Rattle.domain_handshake.specs.Lines.{change_event, changes_text, end_event, fault_of, sent_record}
use Rattle.domain_handshake.proofs.Keeping.{HandPast, Keeps, IsKeeping}
use Rattle.laws_settle.specs.Ups.{ups_of}
use Rattle.laws_settle.proofs.RoundTurns.{sends_are, takes_are}
use Rattle.laws_settle.proofs.WorldUps.{row_at, up_in, toward_is, steady_ups}
use Rattle.domain_handshake.proofs.WorldUps.{with_up, moved_ups, moved_count, with_widths}

-- ---- a row that is written

row_there : (ups : List (List Bool)) (a link : ℕ) → link < length (row_at ups a) → a < length ups
row_there [] a link within = absurd (omega (arith, within))
row_there (row ∷ ups) zero link within = omega arith
row_there (row ∷ ups) (suc a) link within = let more = row_there ups a link within in omega (arith, more)

written : (ups : List (List Bool)) (a link : ℕ) (up : Bool) → link < length (row_at ups a) → up_in (with_up ups a link up) a (Some link) ≡ up
written ups a link up within =
    ap (λ (row : List Bool). slice_index_or row link false) (get_or-set_same ups a (slice_set (row_at ups a) link up) [] (row_there ups a link within))
    ∙ get_or-set_same (row_at ups a) link up false within

width_at : (ups : List (List Bool)) (a : ℕ) → slice_index_or (widths ups) a 0 ≡ length (row_at ups a)
unfolding widths
width_at [] a = refl
width_at (row ∷ ups) zero = refl
width_at (row ∷ ups) (suc a) = width_at ups a

count_at : (confs : List RouterConf) (a : ℕ) (r : RouterConf) → slice_get confs a ≡ Some r → slice_index_or (ends_counts confs) a 0 ≡ length r.ends
unfolding ends_counts
count_at [] a r at = absurd cc
count_at (x ∷ xs) zero r at = ap (λ (c : RouterConf). length c.ends) (same_Some x r at)
count_at (x ∷ xs) (suc a) r at = count_at xs a r at

-- ---- a world of the domain

module _ (d : DomainConf) (valid : IsValid d) where
  link_there : (ups : List (List Bool)) → widths ups ≡ ends_counts d.routers → (a b link : ℕ) → link_between d.routers a b ≡ Some link → link < length (row_at ups a)
  link_there ups are a b link at =
      let j = join_of d.routers a b link at in
      let e = end_found j.near.ends j.far.system link j.toward in
      let within : link < length j.near.ends = got_within j.near.ends link e.at e.there in
      let count : length (row_at ups a) ≡ length j.near.ends = sym (width_at ups a) ∙ ap (λ (l : List ℕ). slice_index_or l a 0) are ∙ count_at d.routers a j.near j.near_at in
      omega (arith, within, count)

  -- ---- one interface comes up or goes down

  moved_read : (ups : List (List Bool)) → widths ups ≡ ends_counts d.routers → (a b link : ℕ) (up : Bool) → link_between d.routers a b ≡ Some link → (x y : ℕ) (test : Bool) → is_pair x y a b ≡ test
      → up_in (with_up ups a link up) x (link_between d.routers x y) ≡ cond test up (up_in ups x (link_between d.routers x y))
  moved_read ups are a b link up at x y true is =
      let both = and_parts (eqb a x) (eqb b y) is in
      let near : a ≡ x = eqb-true a x both.0 in
      let far : b ≡ y = eqb-true b y both.1 in
      subst (λ (n : ℕ). up_in (with_up ups a link up) n (link_between d.routers n y) ≡ up) near
      (subst (λ (n : ℕ). up_in (with_up ups a link up) a (link_between d.routers a n) ≡ up) far
      (ap (up_in (with_up ups a link up) a) at ∙ written ups a link up (link_there ups are a b link at)))
  moved_read ups are a b link up at x y false is = by (link_between d.routers x y) refl
    where
      here : (k : ℕ) → link_between d.routers x y ≡ Some k → a ≡ x → link ≡ k → ⊥
      here k there near same =
          let toward : link_between d.routers a y ≡ Some link = ap (λ (n : ℕ). link_between d.routers n y) near ∙ there ∙ ap (λ (n : ℕ). Some n) (sym same) in
          true≢false (sym (pair_is x y a b near (sym (only_link d valid a b y link at toward))) ∙ is)

      by : (o : Option ℕ) → link_between d.routers x y ≡ o → up_in (with_up ups a link up) x o ≡ up_in ups x o
      by None there = refl
      by (Some k) there =
          elim (set_read ups a x (slice_set (row_at ups a) link up) []) [
            | inl same ↦ ap (λ (row : List Bool). slice_index_or row k false) same
            | inr row ↦
                elim (set_read (row_at ups a) link k up false) [
                  | inl same ↦ ap (λ (r : List Bool). slice_index_or r k false) row.1 ∙ same ∙ ap (λ (n : ℕ). slice_index_or (row_at ups n) k false) row.0
                  | inr it ↦ absurd (here k there row.0 it.0)
                ]
          ]

  module _ (w : WorldState) (is : IsWorldOf d w) (c : EndChange) (link : ℕ) (at : link_between d.routers c.router c.peer ≡ Some link) where
    moved_at : link_between w.domain.routers c.router c.peer ≡ Some link
    moved_at = ap (λ (x : DomainConf). link_between x.routers c.router c.peer) is.domain ∙ at

    moved_is : IsWorldOf d (happens w (change_event c)).world
    moved_is = record {
      domain = happens_domain w (change_event c) ∙ is.domain;
      interfaces = ap widths (moved_ups w c.router c.peer link c.up moved_at) ∙ with_widths (ups_of w) c.router link c.up ∙ is.interfaces;
    }

    moved_toward : (x y : ℕ) → is_up_toward (happens w (change_event c)).world x y ≡ after_change (is_up_toward w) c x y
    moved_toward x y =
        let next = (happens w (change_event c)).world in
        toward_is next x y
        ∙ ap (λ (e : DomainConf). up_in (ups_of next) x (link_between e.routers x y)) moved_is.domain
        ∙ ap (λ (ups : List (List Bool)). up_in ups x (link_between d.routers x y)) (moved_ups w c.router c.peer link c.up moved_at)
        ∙ moved_read (ups_of w) is.interfaces c.router c.peer link c.up at x y (is_pair x y c.router c.peer) refl
        ∙ ap (λ (u : Bool). cond (is_pair x y c.router c.peer) c.up u) (ap (λ (e : DomainConf). up_in (ups_of w) x (link_between e.routers x y)) (sym is.domain) ∙ sym (toward_is w x y))

    -- the domain allows it where the interface is in its other state
    moved_allowed : w.events < most_events → is_up_toward w c.router c.peer ≡ not c.up → event_fault w (change_event c) ≡ None
    unfolding event_fault
    moved_allowed room other = by c.up other
      where
        none_applies : (full other_is : Bool) (o : Option ℕ) → full ≡ false → o ≡ Some link → other_is ≡ false → first_fault full faults.Events (first_fault (is_none o) faults.NoLink (first_fault other_is faults.EndState None)) ≡ None
        none_applies full other_is o f j h = rw (f, j, h) refl

        by : (up : Bool) → is_up_toward w c.router c.peer ≡ not up → event_fault w (end_event c.router c.peer up) ≡ None
        by true down = none_applies (nat_le most_events w.events) (is_up_toward w c.router c.peer) (link_between w.domain.routers c.router c.peer) (lt-leb most_events w.events room) moved_at down
        by false is_up = none_applies (nat_le most_events w.events) (not (is_up_toward w c.router c.peer)) (link_between w.domain.routers c.router c.peer) (lt-leb most_events w.events room) moved_at (ap not is_up)

-- ---- one event of the domain, which is allowed

world_one : (line : ℕ) (s : HandState) (e : Event) → event_fault s.replay.world e ≡ None → ((world_does line s (One e)).refused ≡ None) × ((world_does line s (One e)).next.replay.world ≡ (happens s.replay.world e).world)
unfolding world_does tells_line tells_all reports_on tells
world_one line s e allowed = (ap (λ (o : Option EventFault). (tells_or line (unsaid s.replay) e o).refused) allowed, ap (λ (o : Option EventFault). (tells_or line (unsaid s.replay) e o).telling.world) allowed)

world_circuits : (line : ℕ) (s : HandState) (said : Line) → ((world_does line s said).next.circuits ≡ s.circuits) × ((world_does line s said).hellos ≡ [])
unfolding world_does
world_circuits line s said = (refl, refl)

-- ---- changes, one after the other

-- What came of changes after o: each was executed, and the interfaces are as they should be.
pub record CameOf (d : DomainConf) (new : ℕ → ℕ → Bool) (circuits_are : CircuitsState) (hellos_are : List HelloEvent) (o : Outcome) : Type 0 where
  pub refused : o.refused ≡ None
  pub is : IsWorldOf d o.next.replay.world
  pub circuits_is : o.next.circuits ≡ circuits_are
  pub hellos_is : o.hellos ≡ hellos_are
  pub ends : (a b : ℕ) → is_up_toward o.next.replay.world a b ≡ new a b

goes_so : (o : Outcome) (rest : HandState → Outcome) → o.refused ≡ None → and_then o rest ≡ joined o (rest o.next)
unfolding and_then
goes_so o rest is = ap (goes_on o rest) is

module _ (d : DomainConf) (valid : IsValid d) (line : ℕ) where
  abbrev AreThere : List EndChange → Type 0
  AreThere cs = AllByRecursion (λ (c : EndChange). IsJoined d.routers c.router c.peer) cs

  pub changes_come : (cs : List EndChange) (o : Outcome) (old new : ℕ → ℕ → Bool) → o.refused ≡ None → IsWorldOf d o.next.replay.world → AreThere cs → o.next.replay.world.events + length cs ≤ most_events
      → ((a b : ℕ) → is_up_toward o.next.replay.world a b ≡ old a b) → LeadTo old cs new → CameOf d new o.next.circuits o.hellos (fold (one_more (change_does line)) o cs)
  changes_come [] o old new none is there room ends lead = record { refused = none; is = is; circuits_is = refl; hellos_is = refl; ends = λ a b. ends a b ∙ sym (lead a b) }
  changes_come (c ∷ cs) o old new none is there room ends lead =
      let s = o.next in
      let w = s.replay.world in
      let q = change_does line s c in
      let link = there.0.link in
      let at = there.0.joined in
      let some : w.events < most_events = omega (arith, room) in
      let one = world_one line s (change_event c) (moved_allowed d valid w is c link at some (ends c.router c.peer ∙ lead.0)) in
      let same = world_circuits line s (One (change_event c)) in
      let count : q.next.replay.world.events ≡ w.events + 1 = ap (λ (x : WorldState). x.events) one.1 ∙ moved_count w c.router c.peer c.up in
      let left : q.next.replay.world.events + length cs ≤ most_events = omega (arith, room, count) in
      let more = changes_come cs (joined o q) (after_change old c) new one.0 (subst (IsWorldOf d) (sym one.1) (moved_is d valid w is c link at)) there.1 left
      (λ a b. ap (λ (x : WorldState). is_up_toward x a b) one.1 ∙ moved_toward d valid w is c link at a b ∙ ap (λ (u : Bool). cond (is_at a b c) c.up u) (ends a b)) lead.1 in
      let here : one_more (change_does line) o c ≡ joined o q = goes_so o (λ (next : HandState). change_does line next c) none in
      subst (λ (p : Outcome). CameOf d new o.next.circuits o.hellos (fold (one_more (change_does line)) p cs)) (sym here)
      (record { refused = more.refused; is = more.is; circuits_is = more.circuits_is ∙ same.0; hellos_is = more.hellos_is ∙ ap (λ (l : List HelloEvent). o.hellos ++ l) same.1 ∙ append-nil o.hellos; ends = more.ends })

-- ---- lines that move no interface

abbrev IsSteady : Event → Type 0
IsSteady e = is_move e ≡ false

settle_steady : (rounds : ℕ) (w : WorldState) → AllByRecursion IsSteady (settle_events w rounds)
unfolding settle_events round_events
settle_steady zero w = tt
settle_steady (suc rounds) w =
    each_joined IsSteady (round_events w) (settle_events (world_after w (round_events w)) rounds)
    (each_joined IsSteady (round_sends w) (round_takes (world_after w (round_sends w)) (directions w.domain.routers)) (sends_are IsSteady (λ a b. refl) (filter (may_send w) (directions w.domain.routers))) (takes_are IsSteady (λ a b i. refl) (directions w.domain.routers) (world_after w (round_sends w))))
    (settle_steady rounds (world_after w (round_events w)))

line_steady : (w : WorldState) (said : Line) → moves said ≡ false → AllByRecursion IsSteady (line_events w said)
line_steady w Empty steady = tt
line_steady w (One e) steady = (steady, tt)
line_steady w (Settle rounds) steady = settle_steady rounds w

-- the domain and its interfaces stay as they are
record IsStill (v w : WorldState) : Type 0 where
  domain : w.domain ≡ v.domain
  ups : ups_of w ≡ ups_of v

still_step : (line : ℕ) (t : Told) (e : Event) → IsSteady e → IsStill t.telling.world (reports_on line t e).telling.world
unfolding reports_on tells
still_step line t e steady = by t.refused (event_fault t.telling.world e)
  where
    or : (o : Option EventFault) → IsStill t.telling.world (tells_or line t.telling e o).telling.world
    or None = record { domain = happens_domain t.telling.world e; ups = steady_ups t.telling.world e steady }
    or (Some why) = record { domain = refl; ups = refl }

    by : (q o : Option EventFault) → IsStill t.telling.world (tells_unless line t e q).telling.world
    by None o = or (event_fault t.telling.world e)
    by (Some why) o = record { domain = refl; ups = refl }

still_all : (line : ℕ) (es : List Event) (t : Told) → AllByRecursion IsSteady es → IsStill t.telling.world (fold (reports_on line) t es).telling.world
still_all line [] t all = record { domain = refl; ups = refl }
still_all line (e ∷ es) t all =
    let one = still_step line t e all.0 in
    let more = still_all line es (reports_on line t e) all.1 in
    record { domain = more.domain ∙ one.domain; ups = more.ups ∙ one.ups }

world_still : (line : ℕ) (s : HandState) (said : Line) → moves said ≡ false → IsStill s.replay.world (world_does line s said).next.replay.world
unfolding world_does tells_line tells_all
world_still line s said steady = still_all line (line_events s.replay.world said) (told (unsaid s.replay)) (line_steady s.replay.world said steady)

-- ---- the run

-- After an event that is not allowed the circuits alone are known.
abbrev pub KnownBy : DomainConf → Option EventFault → List HelloEvent → HandState → Type 0
KnownBy d None hs s = IsRunning d hs s
KnownBy d (Some why) hs s = s.circuits ≡ circuits_after d (history hs)

-- And the interfaces followed the adjacencies after each event so far.
abbrev pub StandsBy : DomainConf → Option EventFault → HandPast → HandState → Type 0
StandsBy d why past s = KnownBy d why past.hellos s × AllByRecursion IsFollowed past.moments

history_more : (hs : List HelloEvent) (e : HelloEvent) → history (hs ++ e ∷ []) ≡ e ∷ history hs
history_more hs e = fold-append (λ (past : List HelloEvent) (x : HelloEvent). x ∷ past) [] hs (e ∷ [])

still_follows : (v w : WorldState) (c : CircuitsState) → IsStill v w → EndsFollow v c → EndsFollow w c
still_follows v w c still ends a b =
    toward_is w a b
    ∙ ap (λ (x : DomainConf). up_in (ups_of w) a (link_between x.routers a b)) still.domain
    ∙ ap (λ (ups : List (List Bool)). up_in ups a (link_between v.domain.routers a b)) still.ups
    ∙ sym (toward_is v a b) ∙ ends a b

-- A line that moves no interface.
pub world_follows : (d : DomainConf) (hs : List HelloEvent) (s : HandState) (line : ℕ) (said : Line) → IsRunning d hs s → moves said ≡ false → IsRunning d hs (world_does line s said).next
world_follows d hs s line said is steady =
    let next = (world_does line s said).next in
    let same = world_circuits line s said in
    let still = world_still line s said steady in
    record {
      is = record { domain = still.domain ∙ is.is.domain; interfaces = ap widths still.ups ∙ is.is.interfaces };
      circuits = same.0 ∙ is.circuits;
      ends = λ a b. still_follows s.replay.world next.replay.world s.circuits still is.ends a b ∙ ap (λ (c : CircuitsState). up_between c a b) (sym same.0);
    }

-- It moves none with any of its events.
moments_follow : (c : CircuitsState) (w : WorldState) (es : List Event) → AllByRecursion IsSteady es → EndsFollow w c → AllByRecursion IsFollowed (moments_along c w (allowed_first w es))
unfolding allowed_first moments_along
moments_follow c w [] steady ends = tt
moments_follow c w (e ∷ es) steady ends =
    let next = (happens w e).world in
    let after = still_follows w next c (record { domain = happens_domain w e; ups = steady_ups w e steady.0 }) ends in
    by (event_fault w e) after (moments_follow c next es steady.1 after)
  where
    later : List Event
    later = allowed_first (happens w e).world es

    by : (o : Option EventFault) → EndsFollow (happens w e).world c → AllByRecursion IsFollowed (moments_along c (happens w e).world later) → AllByRecursion IsFollowed (moments_along c w (if_allowed e later o))
    by None after rest = (after, rest)
    by (Some why) after rest = tt

pub world_moments : (d : DomainConf) (hs : List HelloEvent) (s : HandState) (line : ℕ) (said : Line) → IsRunning d hs s → moves said ≡ false → AllByRecursion IsFollowed (world_does line s said).moments
unfolding world_does
world_moments d hs s line said is steady = moments_follow s.circuits s.replay.world (line_events s.replay.world said) (line_steady s.replay.world said steady) is.ends

module _ (d : DomainConf) (valid : IsValid d) where
  known_by : (why : Option EventFault) (hs : List HelloEvent) (s : HandState) → IsRunning d hs s → KnownBy d why hs s
  known_by None hs s is = is
  known_by (Some why) hs s is = is.circuits

  pub world_stands : (line : ℕ) (said : Line) → moves said ≡ false → IsKeeping (StandsBy d) (λ s. world_does line s said)
  unfolding world_does
  world_stands line said steady past s is =
      let o = world_does line s said in (
        subst (λ (l : List HelloEvent). KnownBy d o.refused l o.next) (sym (append-nil past.hellos)) (known_by o.refused past.hellos o.next (world_follows d past.hellos s line said is.0 steady)),
        each_joined IsFollowed past.moments o.moments is.1 (world_moments d past.hellos s line said is.0 steady),
      )

  -- ---- an event of the circuits

  module _ (line : ℕ) (e : HelloEvent) (hs : List HelloEvent) (s : HandState) (is : IsRunning d hs s) where
    abbrev n : circuits.Happened
    n = circuits.happens s.circuits e

    abbrev moved : HandState
    moved = record { replay = s.replay; circuits = n.state }

    circuits_next : n.state ≡ circuits_after d (history (hs ++ e ∷ []))
    unfolding circuits_after
    circuits_next = ap (λ (c : CircuitsState). (circuits.happens c e).state) is.circuits ∙ ap (circuits_after d) (sym (history_more hs e))

    are_changes : AreChanges s.circuits n
    are_changes = subst (λ (c : CircuitsState). AreChanges c (circuits.happens c e)) (sym is.circuits) (changes_after d (history hs) e valid)

    there : AllByRecursion (λ (c : EndChange). IsJoined d.routers c.router c.peer) n.out.changes
    there =
        subst (λ (x : DomainConf). AllByRecursion (λ (c : EndChange). IsJoined x.routers c.router c.peer) n.out.changes)
        (ap (λ (c : CircuitsState). c.domain) is.circuits ∙ domain_after d (history hs)) are_changes.joined

    came : (frames : List ℕ) → nat_lt most_events (s.replay.world.events + length n.out.changes) ≡ false
        → CameOf d (up_between n.state) n.state [] (follows_all line moved frames n.out.changes)
    unfolding in_turn
    came frames room =
        let wrote = writes (changes_text s.replay.world.domain.routers line n.out.changes) frames moved in
        let turns = changes_come d valid line n.out.changes (nothing moved) (up_between s.circuits) (up_between n.state) refl is.is there (ltb-false most_events (s.replay.world.events + length n.out.changes) room) is.ends are_changes.lead in
        subst (CameOf d (up_between n.state) n.state []) (sym (goes_so wrote (λ (next : HandState). in_turn (change_does line) next n.out.changes) refl))
        (record { refused = turns.refused; is = turns.is; circuits_is = turns.circuits_is; hellos_is = turns.hellos_is; ends = turns.ends })

    rejected : (frames : List ℕ) → let o = follows line moved frames n.out.changes in (o.refused ≡ None) ⊎ (o.refused ≡ Some faults.Events)
    unfolding follows
    rejected frames = by (nat_lt most_events (s.replay.world.events + length n.out.changes)) refl
      where
        by : (b : Bool) → nat_lt most_events (s.replay.world.events + length n.out.changes) ≡ b
            → let o = follows_if b (follows_all line moved frames n.out.changes) moved in (o.refused ≡ None) ⊎ (o.refused ≡ Some faults.Events)
        by true full = inr refl
        by false room = inl (came frames room).refused

    came_stands : (o : Outcome) → CameOf d (up_between n.state) n.state [] o → KnownBy d o.refused (hs ++ e ∷ o.hellos) o.next
    came_stands o come =
        subst (λ (why : Option EventFault). KnownBy d why (hs ++ e ∷ o.hellos) o.next) (sym come.refused)
        (subst (λ (l : List HelloEvent). IsRunning d (hs ++ e ∷ l) o.next) (sym come.hellos_is) (record {
          is = come.is;
          circuits = come.circuits_is ∙ circuits_next;
          ends = λ a b. come.ends a b ∙ ap (λ (c : CircuitsState). up_between c a b) (sym come.circuits_is);
        }))

    followed : (frames : List ℕ) → let o = follows line moved frames n.out.changes in KnownBy d o.refused (hs ++ e ∷ o.hellos) o.next
    unfolding follows
    followed frames = by (nat_lt most_events (s.replay.world.events + length n.out.changes)) refl
      where
        by : (b : Bool) → nat_lt most_events (s.replay.world.events + length n.out.changes) ≡ b
            → let o = follows_if b (follows_all line moved frames n.out.changes) moved in KnownBy d o.refused (hs ++ e ∷ o.hellos) o.next
        by true full = circuits_next
        by false room = came_stands (follows_all line moved frames n.out.changes) (came frames room)

  -- The moment after an event that is allowed is that of its state.
  after_follows : (why : Option EventFault) (hs : List HelloEvent) (s : HandState) → KnownBy d why hs s → AllByRecursion IsFollowed (moment_after s why)
  after_follows None hs s is = (is.ends, tt)
  after_follows (Some why) hs s is = tt

  pub hello_stands : (line : ℕ) (e : HelloEvent) → IsKeeping (StandsBy d) (λ s. hello_does line s e)
  unfolding hello_does
  hello_stands line e past s is = by (circuit_fault s.circuits e)
    where
      by : (q : Option CircuitFault) → Keeps (StandsBy d) past (hello_unless line s e q)
      by None =
          let n = circuits.happens s.circuits e in
          let frames = sent_record s.replay.recording s.replay.world.domain.routers line e n.out.sent in
          let o = follows line (record { replay = s.replay; circuits = n.state }) frames n.out.changes in
          let known = followed line e past.hellos s is.0 frames in
          (known, each_joined IsFollowed past.moments (moment_after o.next o.refused) is.1 (after_follows o.refused (past.hellos ++ e ∷ o.hellos) o.next known))
      by (Some why) = (
        subst (λ (l : List HelloEvent). s.circuits ≡ circuits_after d (history l)) (sym (append-nil past.hellos)) is.0.circuits,
        each_joined IsFollowed past.moments [] is.1 tt,
      )

  by_none : (why : Option EventFault) (hs : List HelloEvent) (s : HandState) → why ≡ None → KnownBy d why hs s → IsRunning d hs s
  by_none None hs s none is = is
  by_none (Some why) hs s none is = absurd cc

pub hello_follows : (d : DomainConf) (before : List HelloEvent) (s : HandState) (line : ℕ) (e : HelloEvent) → IsValid d → IsRunning d before s → (hello_does line s e).refused ≡ None
    → IsRunning d (before ++ (hello_does line s e).hellos) (hello_does line s e).next
hello_follows d before s line e valid is none = (let o = hello_does line s e in by_none d valid o.refused (before ++ o.hellos) o.next none (hello_stands d valid line e (record { past = record { report = []; frames = []; events = [] }; hellos = before; moments = [] }) s (is, tt)).0)

-- what follows is never rejected by itself
pub hello_rejected : (d : DomainConf) (before : List HelloEvent) (s : HandState) (line : ℕ) (e : HelloEvent) → IsValid d → IsRunning d before s
    → ((hello_does line s e).refused ≡ option_map fault_of (circuit_fault s.circuits e)) ⊎ ((hello_does line s e).refused ≡ Some faults.Events)
unfolding hello_does
hello_rejected d before s line e valid is = by (circuit_fault s.circuits e)
  where
    by : (q : Option CircuitFault) → ((hello_unless line s e q).refused ≡ option_map fault_of q) ⊎ ((hello_unless line s e q).refused ≡ Some faults.Events)
    by None = rejected d valid line e before s is (sent_record s.replay.recording s.replay.world.domain.routers line e (circuits.happens s.circuits e).out.sent)
    by (Some why) = inl refl
