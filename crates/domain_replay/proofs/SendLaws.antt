-- What a round sends, direction by direction.
use Rattle.std.proofs.Common.{◌≡◌, ℕ, zero, suc, Bool, true, false, List, [], ◌∷◌, ◌++◌, map, filter, slice_get, slice_set, slice_index_or, Option, Some, None, Result, Ok, Err, refl, sym, ap, subst, ◌∙◌, if◌then◌else◌}
use Rattle.std.specs.Prelude.{IfOk}
use Rattle.std.specs.List.{AllByRecursion}
use Rattle.std.proofs.lemmas.Option.{same_Some}
use Rattle.wire_base.specs.declared.conf.RouterConf.{RouterConf}
use Rattle.wire_base.specs.model.Configuration.{DomainConf, IsValid}
use Rattle.wire_base.specs.model.Control.{Control}
use Rattle.wire_base.specs.model.Flooding.{send, sent_on}
use Rattle.replay_text.specs.declared.event.Event.{Event}
use Rattle.replay_text.specs.declared.event.Event.TheVariants.{Send}
use Rattle.domain_model.specs.Faults.{up_over}
use Rattle.domain_model.specs.World.{WorldState, link_between}
use Rattle.domain_model.specs.Step.{sends, happens}
use Rattle.domain_model.specs.Run.{Direction, directions, may_send, world_after}
use Rattle.domain_replay.specs.Telling.{Telling, told, reports_on, tells_all}
use Rattle.domain_replay.specs.Replaying.{IsJoining, sends_of, sends_in}
use Rattle.domain_replay.proofs.DirectionLaws.{directions_join}
use Rattle.domain_replay.proofs.InTurn.{IsInTurn}

sends_more : (w : WorldState) (d : Direction) (ds : List Direction) → sends_in w (d ∷ ds) ≡ sends_of w d ++ sends_in w ds
sends_more w d ds = by (may_send w d)
  where
    by : (b : Bool) → map (λ (d : Direction). Send d.from d.to) (if b then d ∷ filter (may_send w) ds else filter (may_send w) ds) ≡ (if b then Send d.from d.to ∷ [] else []) ++ sends_in w ds
    by true = refl
    by false = refl

-- nothing is reported of an end that is down, and a send of one that is up

pub sends_none : (line : ℕ) (t : Telling) (d : Direction) → may_send t.world d ≡ false → tells_all line (told t) (sends_of t.world d) ≡ told t
unfolding tells_all
sends_none line t d down = ap (λ (b : Bool). tells_all line (told t) (if b then Send d.from d.to ∷ [] else [])) down

pub sends_one : (line : ℕ) (t : Telling) (d : Direction) → may_send t.world d ≡ true → tells_all line (told t) (sends_of t.world d) ≡ reports_on line (told t) (Send d.from d.to)
unfolding tells_all
sends_one line t d up = ap (λ (b : Bool). tells_all line (told t) (if b then Send d.from d.to ∷ [] else [])) up

-- ---- a send leaves all ends as they are

set_up : (cs : List Control) (a n link : ℕ) (c next : Control) → slice_get cs a ≡ Some c → next.flood.up ≡ c.flood.up → up_over (slice_get (slice_set cs a next) n) (Some link) ≡ up_over (slice_get cs n) (Some link)
set_up [] a n link c next there same = refl
set_up (x ∷ xs) zero zero link c next there same = ap (λ (up : List Bool). slice_index_or up link false) (same ∙ sym (ap (λ (y : Control). y.flood.up) (same_Some x c there)))
set_up (x ∷ xs) zero (suc n) link c next there same = refl
set_up (x ∷ xs) (suc a) zero link c next there same = refl
set_up (x ∷ xs) (suc a) (suc n) link c next there same = set_up xs a n link c next there same

send_up : (c : Control) (link : ℕ) → (send c link).control.flood.up ≡ c.flood.up
unfolding send sent_on
send_up c link = refl

send_keeps : (w : WorldState) (a b : ℕ) (d : Direction) → may_send (happens w (Send a b)).world d ≡ may_send w d
unfolding happens
send_keeps w a b d = by (slice_get w.routers a) refl (link_between w.domain.routers a b)
  where
    by : (q : Option Control) → slice_get w.routers a ≡ q → (l : Option ℕ) → may_send (sends w a q l).world d ≡ may_send w d
    by None there l = refl
    by (Some c) there None = refl
    by (Some c) there (Some link) = set_up w.routers a d.from d.link c (send c link).control there (send_up c link)

same_sends : (v w : WorldState) → ((d : Direction) → may_send v d ≡ may_send w d) → (ds : List Direction) → sends_in v ds ≡ sends_in w ds
same_sends v w same [] = refl
same_sends v w same (d ∷ ds) =
    sends_more v d ds
    ∙ ap (λ (b : Bool). (if b then Send d.from d.to ∷ [] else []) ++ sends_in v ds) (same d)
    ∙ ap (λ (es : List Event). sends_of w d ++ es) (same_sends v w same ds)
    ∙ sym (sends_more w d ds)

after_sends : (w : WorldState) (d : Direction) (ds : List Direction) → sends_in (world_after w (sends_of w d)) ds ≡ sends_in w ds
after_sends w d ds = by (may_send w d)
  where
    by : (b : Bool) → sends_in (world_after w (if b then Send d.from d.to ∷ [] else [])) ds ≡ sends_in w ds
    by true = same_sends (happens w (Send d.from d.to)).world w (send_keeps w d.from d.to) ds
    by false = refl

-- so what the ends send that are up before the first send is what they send one after the other
pub sends_in_turn : IsInTurn sends_of sends_in
sends_in_turn = record { none = λ w. refl; next = λ w d ds. sends_more w d ds ∙ ap (λ (es : List Event). sends_of w d ++ es) (sym (after_sends w d ds)) }

-- ---- the directions of a valid domain

pub joins_of : (d e : DomainConf) (ds : List Direction) → IsValid d → d ≡ e → ds ≡ directions e.routers → AllByRecursion (IsJoining e.routers) ds
joins_of d e ds valid same is =
    subst (λ (l : List Direction). AllByRecursion (IsJoining e.routers) l) (sym is)
    (subst (λ (x : DomainConf). AllByRecursion (IsJoining x.routers) (directions x.routers)) same (directions_join d valid))

pub joins_ok : {E : Type 0} (d e : DomainConf) (rs : List RouterConf) (r : Result (List Direction) E) → IsValid d → d ≡ e → rs ≡ e.routers → IfOk r (λ all. all ≡ directions rs) →
    IfOk r (λ all. AllByRecursion (IsJoining e.routers) all)
joins_ok d e rs (Err why) valid same routers is = tt
joins_ok d e rs (Ok all) valid same routers is = joins_of d e all valid same (is ∙ ap directions routers)
