-- Rounds in which nothing is due and nothing is in flight.
use Rattle.std.proofs.Common.{◌≡◌, ℕ, suc, ◌+◌, ◌<◌, ◌≤◌, Bool, true, false, List, [], ◌∷◌, ◌++◌, length, map, filter, take, replicate, slice_get, slice_index_or, Option, Some, None, refl, sym, ap, subst, ◌∙◌, arith, if◌then◌else◌}
use Rattle.std.specs.Prelude.{IfSome}
use Rattle.std.specs.List.{AllByRecursion}
use Rattle.std.proofs.lemmas.Bool.{lt-leb}
use Rattle.std.proofs.lemmas.List.{take_more}
use Rattle.wire_base.specs.model.Control.{Control}
use Rattle.replay_text.specs.declared.event.Event.{Event}
use Rattle.replay_text.specs.declared.event.Event.TheVariants.{Send, Take}
use Rattle.domain_model.specs.declared.fault.EventFault.TheVariants as faults
use Rattle.domain_model.specs.Faults.{most_events, first_fault, rule_fault, event_fault}
use Rattle.domain_model.specs.Step.{Happened, sends, doing, happens}
use Rattle.domain_model.specs.Run.{Direction, directions, may_send, taken_now, round_sends, round_takes, round_events, world_after}
use Rattle.domain_model.specs.World.{WorldState, frames_between, link_between}
use Rattle.domain_model.proofs.EachLaws.{each_joined}
use Rattle.frames_in_flight.specs.Told as answer
use Rattle.domain_core.specs.Idle.{IsIdleSend}
use Rattle.run_texts.specs.declared.texts.Texts.{Texts}
use Rattle.domain_replay.specs.Telling.{Telling, Told, told, reports_on, tells_all, ReplayState, with_texts}
use Rattle.domain_replay.specs.Replaying.{AreIdle, IsIdleOver, counting, sends_in}
use Rattle.domain_replay.proofs.TellsLaws.{round_left}
use Rattle.domain_replay.proofs.EventTells.{send_untold}

-- ---- a send does the same whatever the number of events

sends_numbered : (w : WorldState) (n a : ℕ) (c : Option Control) (l : Option ℕ) → sends (record w { events = n }) a c l ≡ record { world = record (sends w a c l).world { events = n }; made = (sends w a c l).made }
sends_numbered w n a None l = refl
sends_numbered w n a (Some c) None = refl
sends_numbered w n a (Some c) (Some link) = refl

idle_counted : (w : WorldState) (n a b : ℕ) → IsIdleSend w a b → IsIdleSend (counting w n) a b
idle_counted w n a b idle =
    let same : doing (counting w n) (Send a b) ≡ record { world = record (doing w (Send a b)).world { events = w.events + n }; made = (doing w (Send a b)).made } =
    sends_numbered w (w.events + n) a (slice_get w.routers a) (link_between w.domain.routers a b) in
    record {
      allowed = idle.allowed;
      world = ap (λ (h : Happened). h.world) same ∙ ap (λ (v : WorldState). record v { events = w.events + n }) idle.world;
      answer = idle.answer ∙ ap (λ (h : Happened). answer.told w.domain.routers h.made) (sym same);
    }

all_counted : (w : WorldState) (n : ℕ) (ds : List Direction) → AllByRecursion (IsIdleOver w) ds → AllByRecursion (IsIdleOver (counting w n)) ds
all_counted w n [] all = tt
all_counted w n (d ∷ ds) all = (record { send = λ up. idle_counted w n d.from d.to (all.0.send up); frames = all.0.frames }, all_counted w n ds all.1)

-- what is idle stays so
pub still_idle : (s new : ReplayState) (n : ℕ) (ds : List Direction) (idle : Option ℕ) → IfSome idle (λ m. AreIdle s.world ds m) → new ≡ record s { world = counting s.world n } → IfSome idle (λ m. AreIdle new.world ds m)
still_idle s new n ds None h is = tt
still_idle s new n ds (Some m) h is =
    subst (λ (x : ReplayState). AreIdle x.world ds m) (sym is) (record { each = all_counted s.world n ds h.each; count = h.count })

-- ---- the events of a round

module _ (line : ℕ) (t : Telling) where
  stands : ℕ → Telling
  stands k = record t { world = counting t.world k }

  send_told : (k a b : ℕ) → IsIdleSend t.world a b → t.world.events + k < most_events → reports_on line (told (stands k)) (Send a b) ≡ told (stands (k + 1))
  unfolding stands event_fault happens
  send_told k a b idle few =
      let still = idle_counted t.world k a b idle in
      let one : (t.world.events + k) + 1 ≡ t.world.events + (k + 1) = omega arith in
      send_untold line (stands k) a b (counting t.world (k + 1))
      (ap (λ (x : Bool). first_fault x faults.Events (rule_fault (counting t.world k) (Send a b))) (lt-leb most_events (t.world.events + k) few) ∙ still.allowed)
      (ap (λ (m : ℕ). record t.world { events = m }) (sym one) ∙ ap (λ (v : WorldState). record v { events = v.events + 1 }) (sym still.world))
      still.answer

  sends_told : (ds : List Direction) (k : ℕ) → AllByRecursion (IsIdleOver t.world) ds → t.world.events + (k + length (filter (may_send t.world) ds)) ≤ most_events → tells_all line (told (stands k)) (sends_in t.world ds) ≡ told (stands (k + length (filter (may_send t.world) ds)))
  unfolding tells_all stands
  sends_told [] k all few = let none : k ≡ k + 0 = omega arith in ap (λ (m : ℕ). told (stands m)) none
  sends_told (d ∷ ds) k all few = by (may_send t.world d) refl few (λ m low. sends_told ds m all.1 low)
    where
      by : (b : Bool) → may_send t.world d ≡ b → t.world.events + (k + length (if b then d ∷ filter (may_send t.world) ds else filter (may_send t.world) ds)) ≤ most_events
          → ((m : ℕ) → t.world.events + (m + length (filter (may_send t.world) ds)) ≤ most_events → tells_all line (told (stands m)) (sends_in t.world ds) ≡ told (stands (m + length (filter (may_send t.world) ds))))
          → tells_all line (told (stands k)) (map (λ (e : Direction). Send e.from e.to) (if b then d ∷ filter (may_send t.world) ds else filter (may_send t.world) ds)) ≡ told (stands (k + length (if b then d ∷ filter (may_send t.world) ds else filter (may_send t.world) ds)))
      by true up low more =
          let count : (k + 1) + length (filter (may_send t.world) ds) ≡ k + suc (length (filter (may_send t.world) ds)) = omega arith in
          ap (λ (u : Told). tells_all line u (sends_in t.world ds)) (send_told k d.from d.to (all.0.send up) (omega (arith, low)))
          ∙ more (k + 1) (omega (arith, low))
          ∙ ap (λ (m : ℕ). told (stands m)) count
      by false up low more = more k low

  takes_none : (w : WorldState) (ds : List Direction) → AllByRecursion (IsIdleOver w) ds → round_takes w ds ≡ []
  takes_none w [] all = refl
  takes_none w (d ∷ ds) all =
      let none : taken_now w d ≡ [] = ap (λ xs. replicate (length xs) (Take d.from d.to 0)) all.0.frames in
      ap (λ (es : List Event). es ++ round_takes (world_after w es) ds) none ∙ takes_none w ds all.1

  idle_told : (n : ℕ) → AreIdle t.world (directions t.world.domain.routers) n → t.world.events + n ≤ most_events → tells_all line (told t) (round_events t.world) ≡ told (stands n)
  unfolding tells_all stands
  idle_told n idle few =
      let ds = directions t.world.domain.routers in
      let none : t.world.events ≡ t.world.events + 0 = omega arith in
      let plain : 0 + n ≡ n = omega arith in
      let low : t.world.events + (0 + length (filter (may_send t.world) ds)) ≤ most_events = omega (arith, idle.count, few) in
      let sent : tells_all line (told t) (round_sends t.world) ≡ told (stands n) =
      ap (λ (m : ℕ). tells_all line (told (record t { world = record t.world { events = m } })) (round_sends t.world)) none
      ∙ sends_told ds 0 idle.each low ∙ ap (λ (m : ℕ). told (stands (0 + m))) idle.count ∙ ap (λ (m : ℕ). told (stands m)) plain in
      round_left line t (stands n) sent ∙ ap (λ (es : List Event). tells_all line (told (stands n)) es) (takes_none (counting t.world n) ds (all_counted t.world n ds idle.each))

-- a round in which nothing is due is told by its number of sends
pub round_told : (line : ℕ) (s new : ReplayState) (texts : Texts) (all : List Direction) (n : ℕ) (idle : Option ℕ) → all ≡ directions s.world.domain.routers → IfSome idle (λ m. AreIdle s.world all m) → idle ≡ Some n → s.world.events + n ≤ most_events
    → new ≡ record s { world = counting s.world n } → tells_all line (told (with_texts s texts)) (round_events s.world) ≡ told (with_texts new texts)
unfolding stands
round_told line s new texts all n idle value h is few passed =
    let here : AreIdle s.world all n = subst (λ (o : Option ℕ). IfSome o (λ m. AreIdle s.world all m)) is h in
    idle_told line (with_texts s texts) n (subst (λ (ds : List Direction). AreIdle s.world ds n) value here) few
    ∙ ap (λ (x : ReplayState). told (with_texts x texts)) (sym passed)

-- ---- direction by direction

none_of : {X : Type 0} (xs : List X) → length xs ≤ 0 → xs ≡ []
none_of [] few = refl
none_of (x ∷ xs) few = absurd (omega (arith, few))

pub down_idle : (w : WorldState) (d : Direction) → length (frames_between w d.from d.to) ≤ 0 → may_send w d ≡ false → AreIdle w (d ∷ []) 0
down_idle w d few down = record {
  each = (record { send = λ up. absurd (apart (sym up ∙ down)); frames = none_of (frames_between w d.from d.to) few }, tt);
  count = ap (λ (b : Bool). length (if b then d ∷ [] else [])) down;
}
  where
    apart : true ≡ false → ⊥
    apart h = cc

pub up_idle : (w : WorldState) (d : Direction) → length (frames_between w d.from d.to) ≤ 0 → may_send w d ≡ true → IsIdleSend w d.from d.to → AreIdle w (d ∷ []) 1
up_idle w d few up idle = record {
  each = (record { send = λ again. idle; frames = none_of (frames_between w d.from d.to) few }, tt);
  count = ap (λ (b : Bool). length (if b then d ∷ [] else [])) up;
}

filter_joined : {X : Type 0} (p : X → Bool) (xs ys : List X) → length (filter p (xs ++ ys)) ≡ length (filter p xs) + length (filter p ys)
filter_joined p [] ys = omega arith
filter_joined p (x ∷ xs) ys = by (p x) (filter_joined p xs ys)
  where
    by : (b : Bool) → length (filter p (xs ++ ys)) ≡ length (filter p xs) + length (filter p ys) → length (if b then x ∷ filter p (xs ++ ys) else filter p (xs ++ ys)) ≡ length (if b then x ∷ filter p xs else filter p xs) + length (filter p ys)
    by true h = omega (arith, h)
    by false h = h

pub idle_joined : (w : WorldState) (ds es : List Direction) (n m : ℕ) → AreIdle w ds n → AreIdle w es m → AreIdle w (ds ++ es) (n + m)
idle_joined w ds es n m a b = record {
  each = each_joined (IsIdleOver w) ds es a.each b.each;
  count = filter_joined (may_send w) ds es ∙ omega (arith, a.count, b.count);
}

pub none_idle : (w : WorldState) (all : List Direction) → AreIdle w (take 0 all) 0
none_idle w all = record { each = tt; count = refl }

pub next_idle : (w : WorldState) (all : List Direction) (i : ℕ) (d : Direction) (n m : ℕ) → i < length all → d ≡ slice_index_or all i d → AreIdle w (take i all) n → AreIdle w (d ∷ []) m → AreIdle w (take (i + 1) all) (n + m)
next_idle w all i d n m within is a b =
    let same : take (i + 1) all ≡ take i all ++ d ∷ [] = take_more all i d within ∙ ap (λ (x : Direction). take i all ++ x ∷ []) (sym is) in
    subst (λ (ds : List Direction). AreIdle w ds (n + m)) (sym same) (idle_joined w (take i all) (d ∷ []) n m a b)
