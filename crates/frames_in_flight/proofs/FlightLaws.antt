-- A frame that was last queued, and is taken back.
use Rattle.std.proofs.Common.{◌≡◌, ℕ, zero, suc, ◌+◌, ◌-◌, ◌<◌, ◌≤◌, List, [], ◌∷◌, ◌++◌, length, map, take, sum_by, slice_get, slice_set, slice_index_or, Option, None, refl, sym, ap, subst, ◌∙◌, arith, length-append}
use Rattle.std.specs.List.{remove}
use Rattle.std.proofs.lemmas.List.{append-nil}
use Rattle.std.proofs.lemmas.List.Sums.{sum_by-cons}
use Rattle.std.proofs.lemmas.List.Edits.{remove-append_left, remove-append_right}
use Rattle.wire_base.specs.declared.conf.End.{End}
use Rattle.wire_base.specs.declared.conf.RouterConf.{RouterConf}
use Rattle.wire_base.specs.declared.effects.Sent.{Sent}
use Rattle.frames_in_flight.specs.declared.flight.Flight.{Flight}
use Rattle.frames_in_flight.specs.Flights.{frames_at, push_frame, without_frame, frame_count, no_frames, flight_of, push_sent, push_all_sent}

last_gone : (q : List Flight) (f : Flight) → remove (q ++ f ∷ []) (length (q ++ f ∷ []) - 1) ≡ q
last_gone q f =
    let l = length-append q (f ∷ []) in
    let n : length (q ++ f ∷ []) - 1 ≡ length q = omega (arith, l) in
    let z : length q - length q ≡ 0 = omega arith in
    ap (remove (q ++ f ∷ [])) n ∙ remove-append_right q (f ∷ []) (length q) (length q) refl (omega arith) ∙ ap (λ (k : ℕ). q ++ remove (f ∷ []) k) z ∙ append-nil q

-- the queue of an end with a frame more
abbrev row_with : List (List Flight) → ℕ → Flight → List (List Flight)
row_with row link f = slice_set row link (slice_index_or row link [] ++ f ∷ [])

abbrev row_without : List (List Flight) → ℕ → List (List Flight)
row_without row link = slice_set row link (remove (slice_index_or row link []) (length (slice_index_or row link []) - 1))

row_back : (row : List (List Flight)) (link : ℕ) (f : Flight) → row_without (row_with row link f) link ≡ row
row_back [] link f = refl
row_back (q ∷ qs) zero f = ap (λ (p : List Flight). p ∷ qs) (last_gone q f)
row_back (q ∷ qs) (suc link) f = ap (λ (ps : List (List Flight)). q ∷ ps) (row_back qs link f)

row_same : (row : List (List Flight)) (link : ℕ) (f : Flight) → length (slice_index_or (row_with row link f) link []) ≡ 0 → row_with row link f ≡ row
row_same [] link f h = refl
row_same (q ∷ qs) zero f h = absurd (let l = length-append q (f ∷ []) in omega (arith, l, h))
row_same (q ∷ qs) (suc link) f h = ap (λ (ps : List (List Flight)). q ∷ ps) (row_same qs link f h)

last_back : (before : List (List (List Flight))) (place link : ℕ) (f : Flight) → without_frame (push_frame before place link f) place link (length (frames_at (push_frame before place link f) place link) - 1) ≡ before
last_back [] place link f = refl
last_back (row ∷ rows) zero link f = ap (λ (r : List (List Flight)). r ∷ rows) (row_back row link f)
last_back (row ∷ rows) (suc place) link f = ap (λ (rs : List (List (List Flight))). row ∷ rs) (last_back rows place link f)

last_same : (before : List (List (List Flight))) (place link : ℕ) (f : Flight) → length (frames_at (push_frame before place link f) place link) ≡ 0 → push_frame before place link f ≡ before
last_same [] place link f h = refl
last_same (row ∷ rows) zero link f h = ap (λ (r : List (List Flight)). r ∷ rows) (row_same row link f h)
last_same (row ∷ rows) (suc place) link f h = ap (λ (rs : List (List (List Flight))). row ∷ rs) (last_same rows place link f h)

-- what is left after the last frame of a direction is gone
pub taken_back : (flights before : List (List (List Flight))) (place link : ℕ) (f : Flight) → flights ≡ push_frame before place link f → without_frame flights place link (length (frames_at flights place link) - 1) ≡ before
taken_back flights before place link f is =
    subst (λ (x : List (List (List Flight))). without_frame x place link (length (frames_at x place link) - 1) ≡ before) (sym is) (last_back before place link f)

-- where there is no frame, none was put there
pub none_put : (flights before : List (List (List Flight))) (place link : ℕ) (f : Flight) → flights ≡ push_frame before place link f → length (frames_at flights place link) ≡ 0 → flights ≡ before
none_put flights before place link f is none = is ∙ last_same before place link f (subst (λ (x : List (List (List Flight))). length (frames_at x place link) ≡ 0) is none)

-- ---- a frame that goes as others come

abbrev row_left : List (List Flight) → ℕ → ℕ → List (List Flight)
row_left row link i = slice_set row link (remove (slice_index_or row link []) i)

row_longer : (row : List (List Flight)) (link m : ℕ) (f : Flight) → length (slice_index_or row link []) ≤ length (slice_index_or (row_with row m f) link [])
row_longer [] link m f = omega arith
row_longer (q ∷ qs) zero zero f = let l = length-append q (f ∷ []) in omega (arith, l)
row_longer (q ∷ qs) zero (suc m) f = omega arith
row_longer (q ∷ qs) (suc link) zero f = omega arith
row_longer (q ∷ qs) (suc link) (suc m) f = row_longer qs link m f

row_turned : (row : List (List Flight)) (link i m : ℕ) (f : Flight) → i < length (slice_index_or row link []) → row_left (row_with row m f) link i ≡ row_with (row_left row link i) m f
row_turned [] link i m f h = refl
row_turned (q ∷ qs) zero i zero f h = ap (λ (p : List Flight). p ∷ qs) (remove-append_left q (f ∷ []) i h)
row_turned (q ∷ qs) zero i (suc m) f h = refl
row_turned (q ∷ qs) (suc link) i zero f h = refl
row_turned (q ∷ qs) (suc link) i (suc m) f h = ap (λ (ps : List (List Flight)). q ∷ ps) (row_turned qs link i m f h)

longer : (flights : List (List (List Flight))) (a link b m : ℕ) (f : Flight) → length (frames_at flights a link) ≤ length (frames_at (push_frame flights b m f) a link)
longer [] a link b m f = omega arith
longer (row ∷ rows) zero link zero m f = row_longer row link m f
longer (row ∷ rows) zero link (suc b) m f = omega arith
longer (row ∷ rows) (suc a) link zero m f = omega arith
longer (row ∷ rows) (suc a) link (suc b) m f = longer rows a link b m f

turned : (flights : List (List (List Flight))) (a link i b m : ℕ) (f : Flight) → i < length (frames_at flights a link) → without_frame (push_frame flights b m f) a link i ≡ push_frame (without_frame flights a link i) b m f
turned [] a link i b m f h = refl
turned (row ∷ rows) zero link i zero m f h = ap (λ (r : List (List Flight)). r ∷ rows) (row_turned row link i m f h)
turned (row ∷ rows) zero link i (suc b) m f h = refl
turned (row ∷ rows) (suc a) link i zero m f h = refl
turned (row ∷ rows) (suc a) link i (suc b) m f h = ap (λ (rs : List (List (List Flight))). row ∷ rs) (turned rows a link i b m f h)

-- whether it goes before or after them
pub goes_after : (confs : List RouterConf) (b : ℕ) (number : Option ℕ) (sents : List Sent) (flights : List (List (List Flight))) (a link i : ℕ) → i < length (frames_at flights a link)
    → without_frame (push_all_sent confs b number flights sents) a link i ≡ push_all_sent confs b number (without_frame flights a link i) sents
goes_after confs b number [] flights a link i h = refl
goes_after confs b number (s ∷ ss) flights a link i h =
    let f = flight_of confs b number s in
    goes_after confs b number ss (push_sent confs b number flights s) a link i (omega (arith, h, longer flights a link b s.link f))
    ∙ ap (λ (x : List (List (List Flight))). push_all_sent confs b number x ss) (turned flights a link i b s.link f h)

-- ---- no frame goes where there is none

queue_kept : (q : List Flight) (i : ℕ) → slice_get q i ≡ None → remove q i ≡ q
queue_kept [] zero none = refl
queue_kept [] (suc i) none = refl
queue_kept (f ∷ fs) zero none = cc
queue_kept (f ∷ fs) (suc i) none = ap (λ (gs : List Flight). f ∷ gs) (queue_kept fs i none)

row_kept : (row : List (List Flight)) (link i : ℕ) → slice_get (slice_index_or row link []) i ≡ None → row_left row link i ≡ row
row_kept [] link i none = refl
row_kept (q ∷ qs) zero i none = ap (λ (p : List Flight). p ∷ qs) (queue_kept q i none)
row_kept (q ∷ qs) (suc link) i none = ap (λ (ps : List (List Flight)). q ∷ ps) (row_kept qs link i none)

pub none_gone : (flights : List (List (List Flight))) (a link i : ℕ) → slice_get (frames_at flights a link) i ≡ None → without_frame flights a link i ≡ flights
none_gone [] a link i none = refl
none_gone (row ∷ rows) zero link i none = ap (λ (r : List (List Flight)). r ∷ rows) (row_kept row link i none)
none_gone (row ∷ rows) (suc a) link i none = ap (λ (rs : List (List (List Flight))). row ∷ rs) (none_gone rows a link i none)

-- ---- the beginning

none_queued : (ends : List End) → sum_by (λ (queue : List Flight). length queue) (map (λ e. []) ends) ≡ 0
none_queued [] = refl
none_queued (e ∷ es) =
    let n = none_queued es in
    let s = sum_by-cons (λ (queue : List Flight). length queue) [] (map (λ (e : End). []) es) in
    omega (arith, n, s)

pub none_counted : (confs : List RouterConf) → frame_count (no_frames confs) ≡ 0
none_counted [] = refl
none_counted (r ∷ rs) =
    let n = none_queued r.ends in
    let m = none_counted rs in
    let s = sum_by-cons (λ (row : List (List Flight)). sum_by (λ queue. length queue) row) (map (λ (e : End). []) r.ends) (no_frames rs) in
    omega (arith, n, m, s)

abbrev no_queue : List (List Flight)
no_queue = [] ∷ []

pub one_more_queue : (ends : List End) (n : ℕ) → n < length ends → map (λ e. []) (take (n + 1) ends) ≡ map (λ e. []) (take n ends) ++ no_queue
one_more_queue [] n h = absurd (omega (arith, h))
one_more_queue (e ∷ es) zero h = refl
one_more_queue (e ∷ es) (suc n) h =
    let k : suc n + 1 ≡ suc (n + 1) = omega arith in
    ap (λ (m : ℕ). map (λ (x : End). []) (take m (e ∷ es))) k ∙ ap (λ (qs : List (List Flight)). [] ∷ qs) (one_more_queue es n (omega (arith, h)))
