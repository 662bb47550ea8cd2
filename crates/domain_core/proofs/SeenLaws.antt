-- What is done with frames in flight is done with their items.
use Rattle.std.proofs.Common.{◌≡◌, ℕ, zero, suc, List, [], ◌∷◌, ◌++◌, ◌≤◌, length, map, take, drop, sum_by, slice_get, slice_set, slice_index_or, Option, Some, None, option_map, refl, sym, ap, ◌∙◌, arith}
use Rattle.std.specs.List.{AllByRecursion, remove}
use Rattle.std.proofs.Math.ListN.{get_or-map}
use Rattle.std.proofs.lemmas.List.{map-append, map-set, length-map}
use Rattle.std.proofs.lemmas.List.Sums.{sum_by-cons}
use Rattle.std.proofs.lemmas.Option.{slice_get-map}
use Rattle.wire_base.specs.declared.conf.End.{End}
use Rattle.wire_base.specs.declared.conf.RouterConf.{RouterConf}
use Rattle.wire_base.specs.model.Control.{Control}
use Rattle.wire_base.specs.model.Item.{Item}
use Rattle.frames_in_flight.specs.declared.flight.Flight.{Flight}
use Rattle.domain_model.specs.World.{queue_at, with_queue, push_item, without_item, in_flight, no_flights}
use Rattle.frames_in_flight.specs.Flights.{item_seen, items_seen, frames_at, with_frames, push_frame, without_frame, frame_count, no_frames}
use Rattle.frames_in_flight.proofs.FlightLaws.{none_gone}
use Rattle.laws_router.specs.State.{RouterState}
use Rattle.domain_core.specs.Network.{NetworkState, confs_of, confs_in, world_of}
use Rattle.domain_model.proofs.EachLaws.{each_joined, each_left}
use Rattle.domain_model.proofs.QueueLaws.{get_mapped, queue_set}

-- ---- lists

take_mapped : {X Y : Type 0} (f : X → Y) (n : ℕ) (xs : List X) → map f (take n xs) ≡ take n (map f xs)
take_mapped f zero xs = refl
take_mapped f (suc n) [] = refl
take_mapped {X} {Y} f (suc n) (x ∷ xs) = ap (λ (ys : List Y). f x ∷ ys) (take_mapped f n xs)

drop_mapped : {X Y : Type 0} (f : X → Y) (n : ℕ) (xs : List X) → map f (drop n xs) ≡ drop n (map f xs)
drop_mapped f zero xs = refl
drop_mapped f (suc n) [] = refl
drop_mapped f (suc n) (x ∷ xs) = drop_mapped f n xs

remove_mapped : {X Y : Type 0} (f : X → Y) (xs : List X) (i : ℕ) → map f (remove xs i) ≡ remove (map f xs) i
remove_mapped {X} {Y} f xs i =
    map-append f (take i xs) (drop (suc i) xs) ∙ ap (λ (ys : List Y). ys ++ map f (drop (suc i) xs)) (take_mapped f i xs) ∙ ap (λ (ys : List Y). take i (map f xs) ++ ys) (drop_mapped f (suc i) xs)

-- ---- queues

module _ (confs : List RouterConf) where
  abbrev queue_seen : List Flight → List Item
  queue_seen queue = map (item_seen confs) queue

  abbrev row_seen : List (List Flight) → List (List Item)
  row_seen row = map queue_seen row

  pub seen_at : (flights : List (List (List Flight))) (a link : ℕ) → queue_at (items_seen confs flights) a link ≡ map (item_seen confs) (frames_at flights a link)
  seen_at flights a link =
      ap (λ (row : List (List Item)). slice_index_or row link []) (get_or-map row_seen flights a []) ∙ get_or-map queue_seen (slice_index_or flights a []) link []

  seen_with : (flights : List (List (List Flight))) (a link : ℕ) (queue : List Flight) → items_seen confs (with_frames flights a link queue) ≡ with_queue (items_seen confs flights) a link (map (item_seen confs) queue)
  seen_with flights a link queue =
      map-set row_seen flights a (slice_set (slice_index_or flights a []) link queue)
      ∙ ap (slice_set (items_seen confs flights) a) (map-set queue_seen (slice_index_or flights a []) link queue
      ∙ ap (λ (row : List (List Item)). slice_set row link (map (item_seen confs) queue)) (sym (get_or-map row_seen flights a [])))

  pub seen_pushed : (flights : List (List (List Flight))) (a link : ℕ) (f : Flight) → items_seen confs (push_frame flights a link f) ≡ push_item (items_seen confs flights) a link (item_seen confs f)
  seen_pushed flights a link f =
      seen_with flights a link (frames_at flights a link ++ f ∷ [])
      ∙ ap (with_queue (items_seen confs flights) a link) (map-append (item_seen confs) (frames_at flights a link) (f ∷ []) ∙ ap (λ (xs : List Item). xs ++ item_seen confs f ∷ []) (sym (seen_at flights a link)))

  pub seen_removed : (flights : List (List (List Flight))) (a link i : ℕ) → items_seen confs (without_frame flights a link i) ≡ without_item (items_seen confs flights) a link i
  seen_removed flights a link i =
      seen_with flights a link (remove (frames_at flights a link) i)
      ∙ ap (with_queue (items_seen confs flights) a link) (remove_mapped (item_seen confs) (frames_at flights a link) i ∙ ap (λ (xs : List Item). remove xs i) (sym (seen_at flights a link)))

  pub seen_got : (flights : List (List (List Flight))) (a link i : ℕ) → slice_get (queue_at (items_seen confs flights) a link) i ≡ option_map (item_seen confs) (slice_get (frames_at flights a link) i)
  seen_got flights a link i = ap (λ (xs : List Item). slice_get xs i) (seen_at flights a link) ∙ slice_get-map (item_seen confs) (frames_at flights a link) i

  pub seen_length : (flights : List (List (List Flight))) (a link : ℕ) → length (queue_at (items_seen confs flights) a link) ≡ length (frames_at flights a link)
  seen_length flights a link = ap (λ (xs : List Item). length xs) (seen_at flights a link) ∙ length-map (frames_at flights a link) (item_seen confs)

  -- ---- how many there are

  row_count : (row : List (List Flight)) → sum_by (λ (queue : List Item). length queue) (map queue_seen row) ≡ sum_by (λ (queue : List Flight). length queue) row
  row_count [] = refl
  row_count (q ∷ qs) =
      let n = row_count qs in
      let l = length-map q (item_seen confs) in
      let s = sum_by-cons (λ (queue : List Item). length queue) (queue_seen q) (map queue_seen qs) in
      let t = sum_by-cons (λ (queue : List Flight). length queue) q qs in
      omega (arith, n, l, s, t)

  pub seen_count : (flights : List (List (List Flight))) → in_flight (items_seen confs flights) ≡ frame_count flights
  unfolding in_flight
  seen_count [] = refl
  seen_count (r ∷ rs) =
      let n = seen_count rs in
      let l = row_count r in
      let s = sum_by-cons (λ (row : List (List Item)). sum_by (λ queue. length queue) row) (row_seen r) (items_seen confs rs) in
      let t = sum_by-cons (λ (row : List (List Flight)). sum_by (λ queue. length queue) row) r rs in
      omega (arith, n, l, s, t)

-- ---- what holds of each frame

abbrev pub AllFrames : (ℕ → ℕ → Flight → Type 0) → List (List (List Flight)) → Type 0
AllFrames P flights = (a link : ℕ) → AllByRecursion (P a link) (frames_at flights a link)

pub frames_pushed : (P : ℕ → ℕ → Flight → Type 0) (flights : List (List (List Flight))) (a link : ℕ) (f : Flight) → P a link f → AllFrames P flights → AllFrames P (push_frame flights a link f)
frames_pushed P flights a link f h all = queue_set P flights a link (frames_at flights a link ++ f ∷ []) (each_joined (P a link) (frames_at flights a link) (f ∷ []) (all a link) (h, tt)) all

pub frames_left : (P : ℕ → ℕ → Flight → Type 0) (flights : List (List (List Flight))) (a link i : ℕ) → AllFrames P flights → AllFrames P (without_frame flights a link i)
frames_left P flights a link i all = queue_set P flights a link (remove (frames_at flights a link) i) (each_left (P a link) (frames_at flights a link) i (all a link)) all

module _ (confs : List RouterConf) where
  none_seen : (ends : List End) → map (queue_seen confs) (map (λ e. []) ends) ≡ map (λ e. []) ends
  none_seen [] = refl
  none_seen (e ∷ es) = ap (λ (row : List (List Item)). [] ∷ row) (none_seen es)

  pub seen_none : (rs : List RouterConf) → items_seen confs (no_frames rs) ≡ no_flights rs
  seen_none [] = refl
  seen_none (r ∷ rs) = ap (λ (row : List (List Item)). row ∷ items_seen confs (no_frames rs)) (none_seen r.ends) ∙ ap (λ (rows : List (List (List Item))). map (λ e. []) r.ends ∷ rows) (seen_none rs)

  -- ---- what stands at a place

  pub none_seen_at : (flights : List (List (List Flight))) (a link i : ℕ) → None ≡ slice_get (frames_at flights a link) i → slice_get (queue_at (items_seen confs flights) a link) i ≡ None
  none_seen_at flights a link i h = seen_got confs flights a link i ∙ ap (option_map (item_seen confs)) (sym h)

  pub some_seen_at : (flights : List (List (List Flight))) (a link i : ℕ) (f : Flight) → Some f ≡ slice_get (frames_at flights a link) i → slice_get (queue_at (items_seen confs flights) a link) i ≡ Some (item_seen confs f)
  some_seen_at flights a link i f h = seen_got confs flights a link i ∙ ap (option_map (item_seen confs)) (sym h)

-- where no frame is, none goes
pub none_there : (n : NetworkState) (a link i : ℕ) → slice_get (queue_at (world_of n).flights a link) i ≡ None → record n { flights = without_frame n.flights a link i } ≡ n
none_there n a link i is = ap (λ (fs : List (List (List Flight))). record n { flights = fs }) (none_gone n.flights a link i (none_mapped (slice_get (frames_at n.flights a link) i) (sym (seen_got (confs_in n) n.flights a link i) ∙ is)))
  where
    none_mapped : (o : Option Flight) → option_map (item_seen (confs_in n)) o ≡ None → o ≡ None
    none_mapped None h = refl
    none_mapped (Some f) h = cc

-- ---- configurations of now

pub conf_got : (routers : List RouterState) (place : ℕ) (r : RouterState) → slice_get routers place ≡ Some r → slice_get (confs_of routers) place ≡ Some r.control.conf
conf_got routers place r there = get_mapped (λ (c : Control). c.conf) (map (λ (x : RouterState). x.control) routers) place r.control (get_mapped (λ (x : RouterState). x.control) routers place r there)

pub no_conf : (routers : List RouterState) (place : ℕ) → length routers ≤ place → None ≡ slice_get (confs_of routers) place
no_conf [] place h = refl
no_conf (r ∷ rs) zero h = absurd (omega (arith, h))
no_conf (r ∷ rs) (suc place) h = no_conf rs place (omega (arith, h))
