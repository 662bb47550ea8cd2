-- What is done direction by direction, each in the world that the ones before it left.
use Rattle.std.proofs.Common.{◌≡◌, ℕ, ◌+◌, ◌<◌, ◌≤◌, length, drop, slice_index_or, add-one, drop-cons, List, [], ◌∷◌, ◌++◌, refl, sym, ap, subst, ◌∙◌}
use Rattle.std.proofs.lemmas.List.{drop_all}
use Rattle.replay_text.specs.declared.event.Event.{Event}
use Rattle.domain_model.specs.World.{WorldState}
use Rattle.domain_model.specs.Run.{Direction, taken_now, round_takes, world_after}
use Rattle.domain_replay.specs.Telling.{Telling, Told, told, tells_all}
use Rattle.domain_replay.specs.Replaying.{StopsIn}
use Rattle.domain_replay.proofs.TellsLaws.{all_joined, world_told}
use Rattle.domain_replay.proofs.StopLaws.{stops_first, stops_on}

-- the events of a direction, and those of some directions
pub record IsInTurn (part : WorldState → Direction → List Event) (all : WorldState → List Direction → List Event) : Type 0 where
  pub none : (w : WorldState) → all w [] ≡ []
  pub next : (w : WorldState) (d : Direction) (ds : List Direction) → all w (d ∷ ds) ≡ part w d ++ all (world_after w (part w d)) ds

pub takes_in_turn : IsInTurn taken_now round_takes
takes_in_turn = record { none = λ w. refl; next = λ w d ds. refl }

module _ (part : WorldState → Direction → List Event) (all : WorldState → List Direction → List Event) (turn : IsInTurn part all) (line : ℕ) (t : Telling) (ds : List Direction) (i : ℕ) where
  -- those from a place on
  from_place : (d : Direction) → i < length ds → d ≡ slice_index_or ds i d → all t.world (drop i ds) ≡ part t.world d ++ all (world_after t.world (part t.world d)) (drop (i + 1) ds)
  from_place d within is = ap (all t.world) (rw add-one (drop-cons ds i d within) ∙ ap (λ (x : Direction). x ∷ drop (i + 1) ds) (sym is)) ∙ turn.next t.world d (drop (i + 1) ds)

  pub turn_split : (d : Direction) → i < length ds → d ≡ slice_index_or ds i d →
      tells_all line (told t) (all t.world (drop i ds)) ≡ tells_all line (tells_all line (told t) (part t.world d)) (all (world_after t.world (part t.world d)) (drop (i + 1) ds))
  turn_split d within is =
      ap (tells_all line (told t)) (from_place d within is) ∙ all_joined line (told t) (part t.world d) (all (world_after t.world (part t.world d)) (drop (i + 1) ds))

  pub turn_done : (now : Telling) (d : Direction) → i < length ds → d ≡ slice_index_or ds i d → tells_all line (told t) (part t.world d) ≡ told now →
      tells_all line (told t) (all t.world (drop i ds)) ≡ tells_all line (told now) (all now.world (drop (i + 1) ds))
  turn_done now d within is h =
      turn_split d within is
      ∙ ap (λ (u : Told). tells_all line u (all (world_after t.world (part t.world d)) (drop (i + 1) ds))) h
      ∙ ap (λ (w : WorldState). tells_all line (told now) (all w (drop (i + 1) ds))) (sym (world_told line (part t.world d) t now h))

  pub turns_over : length ds ≤ i → tells_all line (told t) (all t.world (drop i ds)) ≡ told t
  unfolding tells_all
  turns_over past = ap (λ (l : List Direction). tells_all line (told t) (all t.world l)) (drop_all i ds past) ∙ ap (tells_all line (told t)) (turn.none t.world)

  -- where it stops: in the events of this direction, or behind them
  pub stops_here : (now : Telling) (d : Direction) → i < length ds → d ≡ slice_index_or ds i d → StopsIn line t (part t.world d) now → StopsIn line t (all t.world (drop i ds)) now
  stops_here now d within is s =
      subst (λ (l : List Event). StopsIn line t l now) (sym (from_place d within is)) (stops_first line t now (part t.world d) (all (world_after t.world (part t.world d)) (drop (i + 1) ds)) s)

  pub stops_later : (mid now : Telling) (d : Direction) → i < length ds → d ≡ slice_index_or ds i d → tells_all line (told t) (part t.world d) ≡ told mid →
      StopsIn line mid (all mid.world (drop (i + 1) ds)) now → StopsIn line t (all t.world (drop i ds)) now
  stops_later mid now d within is h s =
      subst (λ (l : List Event). StopsIn line t l now) (sym (from_place d within is)) (stops_on line t mid now (part t.world d) (λ (w : WorldState). all w (drop (i + 1) ds)) h s)
