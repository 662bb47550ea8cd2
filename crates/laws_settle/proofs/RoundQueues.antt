-- Where a frame stands in a queue after frames were put behind it or the first was taken.
use Rattle.std.proofs.Common.{◌≡◌, ◌⊎◌, inl, inr, ℕ, zero, suc, ◌<◌, List, [], ◌∷◌, ◌++◌, drop, length, length-set, map, slice_get, slice_set, slice_index_or, Some, refl, sym, ap, subst, ◌∙◌, arith}
use Rattle.std.specs.List.{remove}
use Rattle.std.proofs.lemmas.Option.{same_Some}
use Rattle.wire_base.specs.declared.conf.RouterConf.{RouterConf}
use Rattle.wire_base.specs.model.Item.{Item}
use Rattle.domain_model.specs.Moves.{Sending}
use Rattle.domain_model.specs.Step.{push_all, push_sending}
use Rattle.domain_model.specs.World.{push_item, queue_at, with_queue}
use Rattle.domain_model.proofs.QueueLaws.{set_read}

-- a queue after another one was set, or the same
pub queue_read : (flights : List (List (List Item))) (a link : ℕ) (queue : List Item) (b m : ℕ)
    → (queue_at (with_queue flights a link queue) b m ≡ queue_at flights b m) ⊎ ((a ≡ b) × (link ≡ m) × (queue_at (with_queue flights a link queue) b m ≡ queue))
queue_read flights a link queue b m = elim (set_read flights a b (slice_set (slice_index_or flights a []) link queue) []) [
  | inl same ↦ inl (ap (λ (row : List (List Item)). slice_index_or row m []) same)
  | inr row ↦ elim (set_read (slice_index_or flights a []) link m queue []) [
    | inl same ↦ inl (ap (λ (r : List (List Item)). slice_index_or r m []) row.1 ∙ same ∙ ap (λ (n : ℕ). queue_at flights n m) row.0)
    | inr at ↦ inr (row.0, at.0, ap (λ (r : List (List Item)). slice_index_or r m []) row.1 ∙ at.1)
  ]
]

pub got_append : {X : Type 0} (xs ys : List X) (i : ℕ) (x : X) → slice_get xs i ≡ Some x → slice_get (xs ++ ys) i ≡ Some x
got_append [] ys i x at = cc
got_append (z ∷ zs) ys zero x at = at
got_append (z ∷ zs) ys (suc i) x at = got_append zs ys i x at

abbrev pub StandsAt : List (List (List Item)) → ℕ → ℕ → ℕ → Item → Type 0
StandsAt flights a link i x = slice_get (queue_at flights a link) i ≡ Some x

pub stays_pushed : (flights : List (List (List Item))) (a link : ℕ) (new : Item) (b m i : ℕ) (x : Item) → StandsAt flights b m i x → StandsAt (push_item flights a link new) b m i x
stays_pushed flights a link new b m i x at = elim (queue_read flights a link (queue_at flights a link ++ new ∷ []) b m) [
  | inl same ↦ ap (λ (q : List Item). slice_get q i) same ∙ at
  | inr here ↦
      let old : slice_get (queue_at flights a link) i ≡ Some x = subst (λ (n : ℕ). slice_get (queue_at flights n link) i ≡ Some x) (sym here.0) (subst (λ (n : ℕ). slice_get (queue_at flights b n) i ≡ Some x) (sym here.1) at) in
      ap (λ (q : List Item). slice_get q i) here.2 ∙ got_append (queue_at flights a link) (new ∷ []) i x old
]

pub stays_sent : (sendings : List Sending) (flights : List (List (List Item))) (b m i : ℕ) (x : Item) → StandsAt flights b m i x → StandsAt (push_all flights sendings) b m i x
stays_sent [] flights b m i x at = at
stays_sent (s ∷ ss) flights b m i x at = stays_sent ss (push_sending flights s) b m i x (stays_pushed flights s.from s.link s.item b m i x at)

-- another queue was set
pub stays_apart : (flights : List (List (List Item))) (a link : ℕ) (queue : List Item) (b m i : ℕ) (x : Item) → (a ≡ b → link ≡ m → ⊥) → StandsAt flights b m i x → StandsAt (with_queue flights a link queue) b m i x
stays_apart flights a link queue b m i x apart at = elim (queue_read flights a link queue b m) [
  | inl same ↦ ap (λ (q : List Item). slice_get q i) same ∙ at
  | inr here ↦ absurd (apart here.0 here.1)
]

-- ---- the first was taken

read_within : {X : Type 0} (xs : List X) (i : ℕ) (d : X) → (slice_index_or xs i d ≡ d → ⊥) → i < length xs
read_within [] i d some = absurd (some refl)
read_within (x ∷ xs) zero d some = omega arith
read_within (x ∷ xs) (suc i) d some = let h = read_within xs i d some in omega (arith, h)

pub set_within : {X : Type 0} (xs : List X) (i : ℕ) (x d : X) → i < length xs → slice_index_or (slice_set xs i x) i d ≡ x
set_within [] i x d within = absurd (omega (arith, within))
set_within (y ∷ ys) zero x d within = refl
set_within (y ∷ ys) (suc i) x d within = set_within ys i x d (omega (arith, within))

pub queue_here : (flights : List (List (List Item))) (a link i : ℕ) (x : Item) (queue : List Item) → StandsAt flights a link i x → queue_at (with_queue flights a link queue) a link ≡ queue
queue_here flights a link i x queue at =
    ap (λ (row : List (List Item)). slice_index_or row link []) (set_within flights a (slice_set (slice_index_or flights a []) link queue) [] row_within)
    ∙ set_within (slice_index_or flights a []) link queue [] place_within
  where
    none : (q : List Item) → q ≡ [] → slice_get q i ≡ Some x → ⊥
    none [] e there = cc
    none (y ∷ ys) e there = cc

    place_within : link < length (slice_index_or flights a [])
    place_within = read_within (slice_index_or flights a []) link [] (λ e. none (queue_at flights a link) e at)

    row_within : a < length flights
    row_within = read_within flights a [] (λ e. none (queue_at flights a link) (ap (λ (row : List (List Item)). slice_index_or row link []) e) at)

left_first : (queue : List Item) (i : ℕ) (x : Item) → slice_get queue (suc i) ≡ Some x → slice_get (remove queue 0) i ≡ Some x
left_first [] i x at = cc
left_first (y ∷ ys) i x at = at

pub steps_forward : (flights : List (List (List Item))) (a link i : ℕ) (x : Item) → StandsAt flights a link (suc i) x → StandsAt (with_queue flights a link (remove (queue_at flights a link) 0)) a link i x
steps_forward flights a link i x at =
    ap (λ (q : List Item). slice_get q i) (queue_here flights a link (suc i) x (remove (queue_at flights a link) 0) at) ∙ left_first (queue_at flights a link) i x at

-- ---- what was sent stands at the end

-- an element of a list
abbrev pub HasOne : {X : Type 0} → (X → Type 0) → List X → Type 0
HasOne P [] = ⊥
HasOne P (x ∷ xs) = P x ⊎ HasOne P xs

pub one_left : {X : Type 0} (P : X → Type 0) (xs ys : List X) → HasOne P xs → HasOne P (xs ++ ys)
one_left P [] ys h = absurd h
one_left P (x ∷ xs) ys (inl h) = inl h
one_left P (x ∷ xs) ys (inr h) = inr (one_left P xs ys h)

pub one_right : {X : Type 0} (P : X → Type 0) (xs ys : List X) → HasOne P ys → HasOne P (xs ++ ys)
one_right P [] ys h = h
one_right P (x ∷ xs) ys h = inr (one_right P xs ys h)

-- there is a queue of that interface
pub record IsPlace (flights : List (List (List Item))) (a link : ℕ) : Type 0 where
  pub row : a < length flights
  pub place : link < length (slice_index_or flights a [])

place_set : (flights : List (List (List Item))) (a link : ℕ) (queue : List Item) (b m : ℕ) → IsPlace flights b m → IsPlace (with_queue flights a link queue) b m
place_set flights a link queue b m p = record { row = (let n = length-set flights a (slice_set (slice_index_or flights a []) link queue) in let r = p.row in omega (arith, n, r)); place = within }
  where
    within : m < length (slice_index_or (with_queue flights a link queue) b [])
    within = elim (set_read flights a b (slice_set (slice_index_or flights a []) link queue) []) [
      | inl same ↦ (let n = ap (λ (row : List (List Item)). length row) same in let r = p.place in omega (arith, n, r))
      | inr row ↦
          let n = ap (λ (r : List (List Item)). length r) row.1 in
          let l = length-set (slice_index_or flights a []) link queue in
          let o = ap (λ (k : ℕ). length (slice_index_or flights k [])) row.0 in
          let r = p.place in
          omega (arith, n, l, o, r)
    ]

push_here : (flights : List (List (List Item))) (a link : ℕ) (x : Item) → IsPlace flights a link → queue_at (push_item flights a link x) a link ≡ queue_at flights a link ++ x ∷ []
push_here flights a link x p =
    ap (λ (row : List (List Item)). slice_index_or row link []) (set_within flights a (slice_set (slice_index_or flights a []) link (queue_at flights a link ++ x ∷ [])) [] p.row)
    ∙ set_within (slice_index_or flights a []) link (queue_at flights a link ++ x ∷ []) [] p.place

last_at : {X : Type 0} (xs : List X) (x : X) → slice_get (xs ++ x ∷ []) (length xs) ≡ Some x
last_at [] x = refl
last_at (y ∷ ys) x = last_at ys x

-- sent on that interface
pub record IsSentOn (a link : ℕ) (x : Item) (s : Sending) : Type 0 where
  pub from : s.from ≡ a
  pub over : s.link ≡ link
  pub item : s.item ≡ x

pub stands_sent : (a link : ℕ) (x : Item) (sendings : List Sending) (flights : List (List (List Item))) → IsPlace flights a link → HasOne (IsSentOn a link x) sendings → (i : ℕ) × StandsAt (push_all flights sendings) a link i x
stands_sent a link x [] flights p h = absurd h
stands_sent a link x (s ∷ ss) flights p (inl is) =
    let n = length (queue_at flights a link) in
    let here : StandsAt (push_item flights a link x) a link n x = ap (λ (q : List Item). slice_get q n) (push_here flights a link x p) ∙ last_at (queue_at flights a link) x in
    let same : push_sending flights s ≡ push_item flights a link x = ap (λ (k : ℕ). push_item flights k s.link s.item) is.from ∙ ap (λ (k : ℕ). push_item flights a k s.item) is.over ∙ ap (push_item flights a link) is.item in
    (n, stays_sent ss (push_sending flights s) a link n x (subst (λ (fs : List (List (List Item))). StandsAt fs a link n x) (sym same) here))
stands_sent a link x (s ∷ ss) flights p (inr h) = stands_sent a link x ss (push_sending flights s) (place_set flights s.from s.link (queue_at flights s.from s.link ++ s.item ∷ []) a link p) h

-- the queues have the shape of the interfaces
pub shape_place : (flights : List (List (List Item))) (routers : List RouterConf) (a link : ℕ) (r : RouterConf) → map (λ qs. length qs) flights ≡ map (λ x. length x.ends) routers → slice_get routers a ≡ Some r → link < length r.ends → IsPlace flights a link
shape_place [] [] a link r shape at within = cc
shape_place [] (x ∷ xs) a link r shape at within = cc
shape_place (q ∷ qs) [] a link r shape at within = cc
shape_place (q ∷ qs) (x ∷ xs) zero link r shape at within =
    let n : length q ≡ length x.ends = ap (λ (l : List ℕ). slice_index_or l 0 0) shape in
    let m = ap (λ (y : RouterConf). length y.ends) (same_Some x r at) in
    record { row = omega arith; place = omega (arith, n, m, within) }
shape_place (q ∷ qs) (x ∷ xs) (suc a) link r shape at within =
    let rest = shape_place qs xs a link r (ap (λ (l : List ℕ). drop 1 l) shape) at within in
    let row = rest.row in
    record { row = omega (arith, row); place = rest.place }
