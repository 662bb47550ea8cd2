-- What the parts of a schedule keep: where it holds of all that happened and of the state before a part, it holds after the part.
use Rattle.std.proofs.Common.{◌≡◌, ℕ, zero, suc, ◌+◌, nat_lt, Bool, true, false, List, [], ◌∷◌, ◌++◌, length, replicate, Option, Some, None, refl, sym, subst, append-nil, append_assoc}
use Rattle.std.specs.List.{AllByRecursion, fold}
use Rattle.isis_hello.specs.declared.event.EndChange.{EndChange}
use Rattle.wire_base.specs.declared.hello_event.HelloEvent.{HelloEvent}
use Rattle.wire_base.specs.declared.hello_event.HelloEvent.TheVariants as hellos
use Rattle.isis_hello.specs.declared.fault.CircuitFault.{CircuitFault}
use Rattle.isis_hello.specs.Circuits.{circuit_between, hellos_between}
use Rattle.isis_hello.specs.Events.{circuit_fault, happens}
use Rattle.replay_text.specs.declared.event.Event.{Event}
use Rattle.replay_text.specs.declared.event.Event.TheVariants.{Tick, Restart}
use Rattle.replay_text.specs.declared.event.Line.{Line}
use Rattle.replay_text.specs.declared.event.Line.TheVariants.{Empty, One, Settle}
use Rattle.domain_model.specs.declared.fault.EventFault.{EventFault}
use Rattle.domain_model.specs.declared.fault.EventFault.TheVariants as faults
use Rattle.domain_model.specs.Faults.{most_events}
use Rattle.domain_model.specs.Run.{Direction, directions}
use Rattle.domain_model.proofs.EachLaws.{each_from}
use Rattle.domain_replay.specs.Parts.{Past, past_and}
use Rattle.domain_handshake.specs.Handshakes.{HandState, Moment, Outcome, joined, nothing, refuses, writes, goes_on, and_then, one_more, in_turn, world_does, change_does, follows, follows_if, follows_all, moment_after, hello_happens, hello_unless, hello_does, hello_if, hello_on, greet_on, greets_on, round_does, rounds_do, event_does, base_does}
use Rattle.domain_handshake.specs.Lines.{changes_text, fault_of, sent_record}

-- What happened so far: the events of the domain and all texts, the events of the circuits, and the moment after each event.
pub record HandPast : Type 0 where
  pub past : Past
  pub hellos : List HelloEvent
  pub moments : List Moment

-- what a part adds to the events of the domain and the texts
abbrev pub part_of : Outcome → Past
part_of o = record { report = o.report; frames = o.frames; events = o.events }

abbrev pub past_with : HandPast → Outcome → HandPast
past_with before o = record { past = past_and before.past (part_of o); hellos = before.hellos ++ o.hellos; moments = before.moments ++ o.moments }

past_nil : (p : HandPast) (s : HandState) → past_with p (nothing s) ≡ p
past_nil p s =
    let report = append-nil p.past.report in
    let frames = append-nil p.past.frames in
    let events = append-nil p.past.events in
    let hs = append-nil p.hellos in
    let ms = append-nil p.moments in
    λ i. record { past = record { report = report i; frames = frames i; events = events i }; hellos = hs i; moments = ms i }

past_joined : (before : HandPast) (o p : Outcome) → past_with (past_with before o) p ≡ past_with before (joined o p)
past_joined before o p =
    let report = append_assoc before.past.report o.report p.report in
    let frames = append_assoc before.past.frames o.frames p.frames in
    let events = append_assoc before.past.events o.events p.events in
    let hs = append_assoc before.hellos o.hellos p.hellos in
    let ms = append_assoc before.moments o.moments p.moments in
    λ i. record { past = record { report = report i; frames = frames i; events = events i }; hellos = hs i; moments = ms i }

-- What holds, of the event that is not allowed, if one is not, of what happened so far, and of the state.
abbrev pub Holding : Type 1
Holding = Option EventFault → HandPast → HandState → Type 0

module _ (Q : Holding) where
  -- after a part, with what happened before it
  abbrev pub Keeps : HandPast → Outcome → Type 0
  Keeps past o = Q o.refused (past_with past o) o.next

  abbrev pub IsKeeping : (HandState → Outcome) → Type 0
  IsKeeping part = (past : HandPast) (s : HandState) → Q None past s → Keeps past (part s)

  -- ---- parts in which nothing happens

  still : (why : Option EventFault) (past : HandPast) (s t : HandState) → Q why past s → Q why (past_with past (nothing t)) s
  still why past s t is = subst (λ (p : HandPast). Q why p s) (sym (past_nil past t)) is

  pub nothing_keeps : IsKeeping nothing
  nothing_keeps past s is = still None past s s is

  pub refuses_keeps : (why : EventFault) (past : HandPast) (s : HandState) → Q (Some why) past s → Keeps past (refuses why s)
  refuses_keeps why past s is = still (Some why) past s s is

  -- ---- one part after the other

  pub then_keeps : (o : Outcome) (rest : HandState → Outcome) → IsKeeping rest → (past : HandPast) → Keeps past o → Keeps past (and_then o rest)
  unfolding and_then
  then_keeps o rest later past first = by o.refused refl
    where
      by : (q : Option EventFault) → o.refused ≡ q → Keeps past (goes_on o rest q)
      by None is =
          let p = rest o.next in
          subst (λ (l : HandPast). Q p.refused l p.next) (past_joined past o p)
          (later (past_with past o) o.next (subst (λ (q : Option EventFault). Q q (past_with past o) o.next) is first))
      by (Some why) is = first

  pub both_keep : (part : HandState → Outcome) (rest : HandState → Outcome) → IsKeeping part → IsKeeping rest → IsKeeping (λ s. and_then (part s) rest)
  both_keep part rest first later past s is = then_keeps (part s) rest later past (first past s is)

  module _ {X : Type 0} (part : HandState → X → Outcome) where
    folded_keeps : (xs : List X) → AllByRecursion (λ x. IsKeeping (λ s. part s x)) xs → (o : Outcome) (past : HandPast) → Keeps past o → Keeps past (fold (one_more part) o xs)
    folded_keeps [] all o past first = first
    folded_keeps (x ∷ xs) all o past first = folded_keeps xs all.1 (one_more part o x) past (then_keeps o (λ (next : HandState). part next x) all.0 past first)

    pub turns_keep : (xs : List X) → AllByRecursion (λ x. IsKeeping (λ s. part s x)) xs → IsKeeping (λ s. in_turn part s xs)
    unfolding in_turn
    turns_keep xs all past s is = folded_keeps xs all (nothing s) past (nothing_keeps past s is)

    pub all_keep : ((x : X) → IsKeeping (λ s. part s x)) → (xs : List X) → IsKeeping (λ s. in_turn part s xs)
    all_keep every xs = turns_keep xs (each_from (λ x. IsKeeping (λ s. part s x)) every xs)

  -- ---- an event of the circuits

  -- What is known of the circuits' part, of what is reported and recorded of it, and of each change as an event of the domain, where
  -- moments don't matter.
  module _ (line : ℕ) (IsFine : EndChange → Type 0)
      (moved : (e : HelloEvent) (past : HandPast) (s : HandState) → Q None past s → Q None (record past { hellos = past.hellos ++ e ∷ [] }) (record { replay = s.replay; circuits = (happens s.circuits e).state }))
      (fine : (e : HelloEvent) (past : HandPast) (s : HandState) → Q None past s → AllByRecursion IsFine (happens s.circuits e).out.changes)
      (stops : (why : EventFault) (past : HandPast) (s : HandState) → Q None past s → Q (Some why) past s)
      (unmarked : (why : Option EventFault) (past : HandPast) (ms : List Moment) (s : HandState) → Q why past s → Q why (record past { moments = ms }) s)
      (wrote : (e : HelloEvent) (sent : Option (List ℕ)) (cs : List EndChange) (past : HandPast) (s : HandState) → Q None past s
      → Keeps past (writes (changes_text s.replay.world.domain.routers line cs) (sent_record s.replay.recording s.replay.world.domain.routers line e sent) s))
      (change : (c : EndChange) → IsFine c → IsKeeping (λ s. change_does line s c)) where
    changes_keep : (cs : List EndChange) → AllByRecursion IsFine cs → AllByRecursion (λ c. IsKeeping (λ s. change_does line s c)) cs
    changes_keep [] all = tt
    changes_keep (c ∷ cs) all = (change c all.0, changes_keep cs all.1)

    follows_keeps : (e : HelloEvent) (sent : Option (List ℕ)) (cs : List EndChange) → AllByRecursion IsFine cs → (past : HandPast) (s : HandState) → Q None past s
        → Keeps past (follows line s (sent_record s.replay.recording s.replay.world.domain.routers line e sent) cs)
    unfolding follows
    follows_keeps e sent cs all past s is = by (nat_lt most_events (s.replay.world.events + length cs))
      where
        by : (b : Bool) → Keeps past (follows_if b (follows_all line s (sent_record s.replay.recording s.replay.world.domain.routers line e sent) cs) s)
        by true = refuses_keeps faults.Events past s (stops faults.Events past s is)
        by false =
            then_keeps (writes (changes_text s.replay.world.domain.routers line cs) (sent_record s.replay.recording s.replay.world.domain.routers line e sent) s) (λ (next : HandState). in_turn (change_does line) next cs)
            (turns_keep (change_does line) cs (changes_keep cs all)) past (wrote e sent cs past s is)

    pub hello_keeps : (e : HelloEvent) → IsKeeping (λ s. hello_does line s e)
    unfolding hello_does
    hello_keeps e past s is = by (circuit_fault s.circuits e)
      where
        by : (q : Option CircuitFault) → Keeps past (hello_unless line s e q)
        by None =
            let n = happens s.circuits e in
            let o = hello_happens line s e n in
            let before = record past { hellos = past.hellos ++ e ∷ [] } in
            let came = follows_keeps e n.out.sent n.out.changes (fine e past s is) before (record { replay = s.replay; circuits = n.state }) (moved e past s is) in
            let ms = past.moments ++ moment_after o.next o.refused in
            subst (λ (l : List HelloEvent). Q o.refused (record { past = past_and past.past (part_of o); hellos = l; moments = ms }) o.next) (append_assoc past.hellos (e ∷ []) o.hellos)
            (unmarked o.refused (past_with before o) ms o.next came)
        by (Some why) = refuses_keeps (fault_of why) past s (stops (fault_of why) past s is)

  -- ---- lines

  -- What is known of the domain's part of those lines that fit, and of the events of the circuits.
  module _ (line : ℕ) (IsFit : Line → Type 0) (round : IsFit (Settle 1)) (world : (said : Line) → IsFit said → IsKeeping (λ s. world_does line s said)) (hello : (e : HelloEvent) → IsKeeping (λ s. hello_does line s e)) where
    hello_on_keeps : (d : Direction) → IsKeeping (λ s. hello_on line s d)
    hello_on_keeps d past s is = by (circuit_between s.circuits d.from d.to).works
      where
        by : (b : Bool) → Keeps past (hello_if b line s d)
        by true = hello (hellos.Hello d.from d.to) past s is
        by false = nothing_keeps past s is

    greet_keeps : (d : Direction) → IsKeeping (λ s. greet_on line s d)
    greet_keeps d = hello (hellos.Greet d.from d.to 0)

    greets_keep : (d : Direction) → IsKeeping (λ s. greets_on line s d)
    greets_keep d past s is = all_keep (greet_on line) greet_keeps (replicate (length (hellos_between s.circuits d.from d.to)) d) past s is

    round_keeps : IsKeeping (λ s. round_does line s)
    unfolding round_does
    round_keeps past s is =
        let all = directions s.replay.world.domain.routers in
        both_keep (λ (x : HandState). and_then (in_turn (hello_on line) x all) (λ (next : HandState). in_turn (greets_on line) next all)) (λ (next : HandState). world_does line next (Settle 1))
        (both_keep (λ (x : HandState). in_turn (hello_on line) x all) (λ (next : HandState). in_turn (greets_on line) next all) (all_keep (hello_on line) hello_on_keeps all) (all_keep (greets_on line) greets_keep all))
        (world (Settle 1) round) past s is

    rounds_keep : (rounds : ℕ) → IsKeeping (λ s. rounds_do line s rounds)
    unfolding rounds_do
    rounds_keep zero past s is = nothing_keeps past s is
    rounds_keep (suc rounds) past s is = then_keeps (round_does line s) (λ (next : HandState). rounds_do line next rounds) (rounds_keep rounds) past (round_keeps past s is)

    event_keeps : (e : Event) → IsFit (One e) → IsKeeping (λ s. event_does line s e)
    unfolding event_does
    event_keeps (Tick a) fit = both_keep (λ (s : HandState). world_does line s (One (Tick a))) (λ (next : HandState). hello_does line next (hellos.Tick a)) (world (One (Tick a)) fit) (hello (hellos.Tick a))
    event_keeps (Restart a) fit = both_keep (λ (s : HandState). hello_does line s (hellos.Restart a)) (λ (next : HandState). world_does line next (One (Restart a))) (hello (hellos.Restart a)) (world (One (Restart a)) fit)
    event_keeps other fit = world (One other) fit

    pub base_keeps : (said : Line) → IsFit said → IsKeeping (λ s. base_does line s said)
    unfolding base_does
    base_keeps Empty fit past s is = nothing_keeps past s is
    base_keeps (One e) fit past s is = event_keeps e fit past s is
    base_keeps (Settle rounds) fit past s is = rounds_keep rounds past s is
