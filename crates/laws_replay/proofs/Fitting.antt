-- The events that a line says are ones that a domain may be asked for.
use Rattle.std.proofs.Common.{◌≡◌, ℕ, zero, suc, ◌^◌, ◌<◌, ◌≤◌, Bool, true, false, cond, ltb, filter, List, [], ◌∷◌, length, map, Option, Some, None, Result, Ok, Err, refl, sym, ap, subst, ◌∙◌, arith, inl, inr}
use Rattle.std.specs.Prelude.{option_map, option_and_then}
use Rattle.std.specs.List.{AllByRecursion, position_or_len}
use Rattle.std.specs.Result.{result_ok}
use Rattle.std.specs.Str.{bytes_eq}
use Rattle.std.proofs.lemmas.Bool.{ltb-true, ltb-false}
use Rattle.hex.specs.Hex.{decode_of}
use Rattle.hex.specs.declared.error.FromHexError.{FromHexError}
use Rattle.wire_base.specs.declared.limits.TheConstants.{MOST_PAYLOAD}
use Rattle.wire_base.specs.declared.conf.RouterConf.{RouterConf}
use Rattle.wire_base.specs.model.Configuration.{DomainConf, IsValid}
use Rattle.wire_base.specs.model.Hop.{distinct}
use Rattle.replay_text.specs.declared.event.Event.{Event}
use Rattle.replay_text.specs.declared.event.Event.TheVariants as event
use Rattle.replay_text.specs.declared.event.Line.{Line}
use Rattle.replay_text.specs.declared.event.Line.TheVariants as line
use Rattle.replay_text.specs.Pieces.{words_of, pieces}
use Rattle.replay_text.specs.Arguments.{place_of, number_to, numbers_to, at_most, listed_ids, payload_of}
use Rattle.replay_text.specs.Tokens.{number_of}
use Rattle.replay_text.specs.Schedule.{schedule_line}
use Rattle.replay_text.specs.ScheduleGrammar.{IsEvent, IsSaid, IsScheduleLine}
use Rattle.replay_text.proofs.PayloadLemmas.{half_as_long}
use Rattle.replay_text.proofs.ScheduleSpelled.{found}
use Rattle.laws_replay.specs.Promises.{LineFits}
use Rattle.domain_model.specs.World.{WorldState, frames_between}
use Rattle.domain_model.specs.Step.{happens}
use Rattle.domain_model.specs.Run.{Direction, directions, may_send, round_sends, taken_now, round_takes, round_events, settle_events, line_events, world_after}
use Rattle.domain_model.specs.Truth.{EventFits}
use Rattle.domain_model.proofs.EachLaws.{each_weaker, each_joined, each_kept, each_mapped, each_repeated}
use Rattle.domain_replay.specs.Replaying.{IsJoining}
use Rattle.domain_replay.specs.Telling.{IsEntered}
use Rattle.domain_replay.proofs.DirectionLaws.{directions_join}
use Rattle.domain_replay.proofs.Stays.{happens_stays}

-- ---- arguments

place_within : (names : List (List ℕ)) (word : List ℕ) (i : ℕ) → place_of names word ≡ Some i → i < length names
place_within names word i is = let at = position_or_len (λ (name : List ℕ). bytes_eq name word) names in within at (ltb at (length names)) refl is
  where
    within : (at : ℕ) (b : Bool) → ltb at (length names) ≡ b → cond b (Some at) None ≡ Some i → i < length names
    within at true less e = let same : at ≡ i = cc in omega (arith, same, ltb-true at (length names) less)
    within at false past e = absurd cc

number_within : (bound : ℕ) (text : List ℕ) (n : ℕ) → number_to bound text ≡ Some n → n ≤ bound
number_within bound text n is = by (number_of text) is
  where
    within : (k : ℕ) (b : Bool) → ltb bound k ≡ b → cond b None (Some k) ≡ Some n → n ≤ bound
    within k true over e = absurd cc
    within k false fits e = let same : k ≡ n = cc in omega (arith, same, ltb-false bound k fits)

    by : (o : Option ℕ) → option_and_then (at_most bound) o ≡ Some n → n ≤ bound
    by None e = absurd cc
    by (Some k) e = within k (ltb bound k) refl e

numbers_within : (bound : ℕ) (texts : List (List ℕ)) (ns : List ℕ) → numbers_to bound texts ≡ Some ns → AllByRecursion (λ n. n ≤ bound) ns
unfolding numbers_to
numbers_within bound [] ns is = let none : [] ≡ ns = cc in subst (AllByRecursion (λ n. n ≤ bound)) none tt
numbers_within bound (text ∷ more) ns is = first (number_to bound text) refl is (λ ks e. numbers_within bound more ks e)
  where
    rest : (n : ℕ) → number_to bound text ≡ Some n → ((ks : List ℕ) → numbers_to bound more ≡ Some ks → AllByRecursion (λ n. n ≤ bound) ks)
        → (o : Option (List ℕ)) → numbers_to bound more ≡ o → option_map (λ (ks : List ℕ). n ∷ ks) o ≡ Some ns → AllByRecursion (λ n. n ≤ bound) ns
    rest n one each None e f = absurd cc
    rest n one each (Some ks) e f = let all : n ∷ ks ≡ ns = cc in subst (AllByRecursion (λ n. n ≤ bound)) all (number_within bound text n one, each ks e)

    first : (o : Option ℕ) → number_to bound text ≡ o → option_and_then (λ n. option_map (λ (ks : List ℕ). n ∷ ks) (numbers_to bound more)) o ≡ Some ns
        → ((ks : List ℕ) → numbers_to bound more ≡ Some ks → AllByRecursion (λ n. n ≤ bound) ks) → AllByRecursion (λ n. n ≤ bound) ns
    first None e f each = absurd cc
    first (Some n) e f each = rest n e each (numbers_to bound more) refl f

each_distinct : (P : ℕ → Type 0) (xs : List ℕ) → AllByRecursion P xs → AllByRecursion P (distinct xs)
each_distinct P [] all = tt
each_distinct P (x ∷ xs) all = (all.0, each_kept P _ (distinct xs) (each_distinct P xs all.1))

ids_within : (word ids : List ℕ) → listed_ids word ≡ Some ids → AllByRecursion (λ k. k < 2 ^ 16) ids
unfolding listed_ids
ids_within word ids is = by (bytes_eq word (45 ∷ [])) is
  where
    some : (o : Option (List ℕ)) → numbers_to 65535 (pieces 44 word) ≡ o → option_map distinct o ≡ Some ids → AllByRecursion (λ k. k < 2 ^ 16) ids
    some None e f = absurd cc
    some (Some ns) e f =
        let all : distinct ns ≡ ids = cc in
        subst (AllByRecursion (λ k. k < 2 ^ 16)) all
        (each_distinct (λ k. k < 2 ^ 16) ns (each_weaker (λ n. n ≤ 65535) (λ k. k < 2 ^ 16) (λ n h. omega (arith, h)) ns (numbers_within 65535 (pieces 44 word) ns e)))

    by : (b : Bool) → cond b (Some []) (option_map distinct (numbers_to 65535 (pieces 44 word))) ≡ Some ids → AllByRecursion (λ k. k < 2 ^ 16) ids
    by true e = let none : [] ≡ ids = cc in subst (AllByRecursion (λ k. k < 2 ^ 16)) none tt
    by false e = some (numbers_to 65535 (pieces 44 word)) refl e

payload_within : (word octets : List ℕ) → payload_of word ≡ Some octets → length octets ≤ MOST_PAYLOAD
unfolding payload_of
payload_within word octets is = by (bytes_eq word (45 ∷ [])) is
  where
    digits : ltb 4000 (length word) ≡ false → (r : Result (List ℕ) FromHexError) → decode_of word ≡ r → result_ok r ≡ Some octets → length octets ≤ MOST_PAYLOAD
    digits few (Err why) e f = absurd cc
    digits few (Ok os) e f = let same : os ≡ octets = cc in omega (arith, ap length same, half_as_long word os e, ltb-false 4000 (length word) few)

    some : (b : Bool) → ltb 4000 (length word) ≡ b → cond b None (result_ok (decode_of word)) ≡ Some octets → length octets ≤ MOST_PAYLOAD
    some true long f = absurd cc
    some false few f = digits few (decode_of word) refl f

    by : (b : Bool) → cond b (Some []) (cond (ltb 4000 (length word)) None (result_ok (decode_of word))) ≡ Some octets → length octets ≤ MOST_PAYLOAD
    by true e = let none : [] ≡ octets = cc in omega (arith, ap length none)
    by false e = some (ltb 4000 (length word)) refl e

-- ---- lines

event_fits : (names words : List (List ℕ)) (e : Event) → IsEvent names words e → EventFits (length names) e
event_fits names words (event.Inject router sd bsl ids ttl entropy payload) is =
    let a = is.are in record {
      place = place_within names a.name router a.named;
      sd_fits = (let most = a.is_subdomain.within in omega (arith, most));
      bfr_ids = ids_within a.list ids a.listed;
      lives = a.is_ttl.above;
      ttl_fits = (let most = a.is_ttl.within in omega (arith, most));
      entropy_fits = (let most = a.is_entropy.within in omega (arith, most));
      short = payload_within a.digits payload a.spelled;
    }
event_fits names words (event.Take from to i) is = let a = is.are in (place_within names a.first from a.first_named, place_within names a.second to a.second_named)
event_fits names words (event.Lose from to i) is = let a = is.are in (place_within names a.first from a.first_named, place_within names a.second to a.second_named)
event_fits names words (event.Again from to i) is = let a = is.are in (place_within names a.first from a.first_named, place_within names a.second to a.second_named)
event_fits names words (event.Down from to) is = let a = is.are in (place_within names a.first from a.first_named, place_within names a.second to a.second_named)
event_fits names words (event.Up from to) is = let a = is.are in (place_within names a.first from a.first_named, place_within names a.second to a.second_named)
event_fits names words (event.Send from to) is = let a = is.are in (place_within names a.first from a.first_named, place_within names a.second to a.second_named)
event_fits names words (event.Tick router) is = let a = is.are in place_within names a.word router a.named
event_fits names words (event.Restart router) is = let a = is.are in place_within names a.word router a.named
event_fits names words (event.Relabel router sd bsl label) is = let a = is.are in record { place = place_within names a.name router a.named; first = a.is_label.above }
event_fits names words (event.Leave router sd) is = let a = is.are in place_within names a.name router a.named
event_fits names words (event.Join router sd) is = let a = is.are in place_within names a.name router a.named

said_fits : (names words : List (List ℕ)) (said : Line) → IsSaid names words said → LineFits (length names) said
said_fits names words line.Empty is = tt
said_fits names words (line.One e) is = event_fits names words e is
said_fits names words (line.Settle rounds) is = tt

pub line_fits : (names : List (List ℕ)) (text : List ℕ) (said : Line) → schedule_line text names ≡ Ok said → LineFits (length names) said
line_fits names text said reads = let is : IsScheduleLine names text said = found (Ok said) text names reads in elim is.says [
  | inl comment ↦ subst (LineFits (length names)) (sym comment.1) tt
  | inr words ↦ said_fits names (words_of text) said words.1
]

-- ---- rounds

-- an event that fits, and that is no injection
abbrev IsOfRound : ℕ → Event → Type 0
IsOfRound count e = EventFits count e × ((m : ℕ) → IsEntered m e)

-- such events change no domain
round_domain : (n : ℕ) (es : List Event) (w : WorldState) → AllByRecursion (IsOfRound n) es → (world_after w es).domain ≡ w.domain
round_domain n [] w all = refl
round_domain n (e ∷ es) w all = let stays = happens_stays w e (all.0.1 (length w.routers)) in round_domain n es (happens w e).world all.1 ∙ stays.domain

takes_fit : (routers : List RouterConf) (w : WorldState) (ds : List Direction) → AllByRecursion (IsJoining routers) ds → AllByRecursion (IsOfRound (length routers)) (round_takes w ds)
takes_fit routers w [] joins = tt
takes_fit routers w (d ∷ ds) joins =
    let joined = joins.0 in
    each_joined (IsOfRound (length routers)) (taken_now w d) (round_takes (world_after w (taken_now w d)) ds)
    (each_repeated (IsOfRound (length routers)) (length (frames_between w d.from d.to)) (event.Take d.from d.to 0) ((joined.from, joined.to), (λ m. tt)))
    (takes_fit routers (world_after w (taken_now w d)) ds joins.1)

sends_fit : (routers : List RouterConf) (w : WorldState) (ds : List Direction) → AllByRecursion (IsJoining routers) ds → AllByRecursion (IsOfRound (length routers)) (map (λ (d : Direction). event.Send d.from d.to) (filter (may_send w) ds))
sends_fit routers w ds joins =
    each_mapped (IsOfRound (length routers)) (λ (d : Direction). event.Send d.from d.to) (filter (may_send w) ds)
    (each_kept (λ (d : Direction). IsOfRound (length routers) (event.Send d.from d.to)) (may_send w) ds (each_weaker (IsJoining routers) (λ (d : Direction). IsOfRound (length routers) (event.Send d.from d.to)) (λ d j. ((j.from, j.to), (λ m. tt))) ds joins))

module _ (d : DomainConf) (valid : IsValid d) where
  abbrev count : ℕ
  count = length d.routers

  round_fits : (w : WorldState) → w.domain ≡ d → AllByRecursion (IsOfRound count) (round_events w)
  unfolding round_events
  round_fits w same =
      let joins : AllByRecursion (IsJoining d.routers) (directions w.domain.routers) = subst (λ (x : DomainConf). AllByRecursion (IsJoining d.routers) (directions x.routers)) (sym same) (directions_join d valid) in
      each_joined (IsOfRound count) (round_sends w) (round_takes (world_after w (round_sends w)) (directions w.domain.routers))
      (sends_fit d.routers w (directions w.domain.routers) joins)
      (takes_fit d.routers (world_after w (round_sends w)) (directions w.domain.routers) joins)

  settle_fits : (rounds : ℕ) (w : WorldState) → w.domain ≡ d → AllByRecursion (IsOfRound count) (settle_events w rounds)
  unfolding settle_events
  settle_fits zero w same = tt
  settle_fits (suc rounds) w same =
      let round = round_fits w same in
      each_joined (IsOfRound count) (round_events w) (settle_events (world_after w (round_events w)) rounds) round
      (settle_fits rounds (world_after w (round_events w)) (round_domain count (round_events w) w round ∙ same))

  -- the events of a line that was read
  pub events_fit : (w : WorldState) → w.domain ≡ d → (said : Line) → LineFits count said → AllByRecursion (EventFits count) (line_events w said)
  events_fit w same line.Empty fits = tt
  events_fit w same (line.One e) fits = (fits, tt)
  events_fit w same (line.Settle rounds) fits = each_weaker (IsOfRound count) (EventFits count) (λ e both. both.0) (settle_events w rounds) (settle_fits rounds w same)
