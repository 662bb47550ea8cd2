-- The BFR-ids of frames in flight are those of their items.
use Rattle.std.proofs.Common.{◌≡◌, ℕ, ◌+◌, List, [], ◌∷◌, map, sum_by, refl, sym, ap, ◌∙◌}
use Rattle.std.proofs.lemmas.List.Sums.{sum_by-cons}
use Rattle.wire_base.specs.declared.conf.RouterConf.{RouterConf}
use Rattle.wire_base.specs.model.Item.{Item}
use Rattle.frames_in_flight.specs.declared.flight.Flight.{Flight}
use Rattle.domain_model.specs.World.{carried, ids_in_flight}
use Rattle.frames_in_flight.specs.Flights.{item_seen, items_seen, ids_carried_by}

mapped_sum : {X Y : Type 0} (f : Y → ℕ) (g : X → Y) (xs : List X) → sum_by f (map g xs) ≡ sum_by (λ x. f (g x)) xs
mapped_sum f g [] = refl
mapped_sum f g (x ∷ xs) =
    sum_by-cons f (g x) (map g xs) ∙ ap (λ (n : ℕ). f (g x) + n) (mapped_sum f g xs) ∙ sym (sum_by-cons (λ y. f (g y)) x xs)

same_sum : {X : Type 0} (f h : X → ℕ) → ((x : X) → f x ≡ h x) → (xs : List X) → sum_by f xs ≡ sum_by h xs
same_sum f h same [] = refl
same_sum f h same (x ∷ xs) =
    sum_by-cons f x xs ∙ ap (λ (n : ℕ). n + sum_by f xs) (same x) ∙ ap (λ (n : ℕ). h x + n) (same_sum f h same xs) ∙ sym (sum_by-cons h x xs)

row_carried : (confs : List RouterConf) (row : List (List Flight)) → sum_by (λ (queue : List Item). sum_by carried queue) (map (λ (queue : List Flight). map (item_seen confs) queue) row) ≡ sum_by (λ (queue : List Flight). sum_by (λ f. carried (item_seen confs f)) queue) row
row_carried confs row =
    mapped_sum (λ (queue : List Item). sum_by carried queue) (λ (queue : List Flight). map (item_seen confs) queue) row
    ∙ same_sum (λ (queue : List Flight). sum_by carried (map (item_seen confs) queue)) (λ (queue : List Flight). sum_by (λ f. carried (item_seen confs f)) queue) (mapped_sum carried (item_seen confs)) row

pub ids_are_carried : (confs : List RouterConf) (flights : List (List (List Flight))) → ids_in_flight (items_seen confs flights) ≡ ids_carried_by confs flights
unfolding ids_in_flight
ids_are_carried confs flights =
    mapped_sum (λ (row : List (List Item)). sum_by (λ queue. sum_by carried queue) row) (λ (row : List (List Flight)). map (λ queue. map (item_seen confs) queue) row) flights
    ∙ same_sum (λ (row : List (List Flight)). sum_by (λ (queue : List Item). sum_by carried queue) (map (λ queue. map (item_seen confs) queue) row)) (λ (row : List (List Flight)). sum_by (λ queue. sum_by (λ f. carried (item_seen confs f)) queue) row) (row_carried confs) flights
