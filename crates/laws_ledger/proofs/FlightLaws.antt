-- What is added up over all that is on the way, after something was put there or taken off.
use Rattle.std.proofs.Common.{◌≡◌, inl, inr, ℕ, zero, suc, ◌+◌, ◌<◌, ◌≤◌, List, [], ◌∷◌, ◌++◌, length, map, slice_get, slice_set, slice_index_or, sum_by, Some, refl, sym, ap, subst, ◌∙◌, arith}
use Rattle.std.specs.List.{AllByRecursion, remove}
use Rattle.std.proofs.lemmas.List.Sums.{sum_by-cons, sum_by-set, sum_by-remove, sum_by_push}
use Rattle.std.proofs.lemmas.Bool.{cases_lt}
use Rattle.std.proofs.lemmas.Option.{same_Some}
use Rattle.wire_base.specs.model.Item.{Item, ControlItem, PacketItem}
use Rattle.wire_base.specs.model.Pdu.{Pdu}
use Rattle.domain_model.specs.World.{queue_at, with_queue, push_item, without_item}
use Rattle.domain_model.specs.Moves.{Sending}
use Rattle.domain_model.specs.Step.{push_sending, push_all}
use Rattle.domain_model.proofs.QueueLaws.{got_within, shape_kept}
use Rattle.laws_ledger.specs.Ledger.{over_all}
use Rattle.laws_ledger.proofs.ShapeLaws.{IsControlItem, IsControlSending}

-- there is such a queue
abbrev pub HasQueue : List (List (List Item)) → ℕ → ℕ → Type 0
HasQueue flights a link = link < length (slice_index_or flights a [])

row_there : (flights : List (List (List Item))) (a link : ℕ) → HasQueue flights a link → a < length flights
row_there [] a link h = absurd (omega (arith, h))
row_there (row ∷ rows) zero link h = omega arith
row_there (row ∷ rows) (suc a) link h = let k = row_there rows a link h in omega (arith, k)

-- what is read is what is there
pub read_got : {X : Type 0} (xs : List X) (i : ℕ) (x d : X) → slice_get xs i ≡ Some x → slice_index_or xs i d ≡ x
read_got [] i x d e = absurd cc
read_got (y ∷ ys) zero x d e = same_Some y x e
read_got (y ∷ ys) (suc i) x d e = read_got ys i x d e

read_past : {X : Type 0} (xs : List X) (i : ℕ) (d : X) → length xs ≤ i → slice_index_or xs i d ≡ d
read_past [] i d h = refl
read_past (x ∷ xs) zero d h = absurd (omega (arith, h))
read_past (x ∷ xs) (suc i) d h = read_past xs i d (omega (arith, h))

set_past : {X : Type 0} (xs : List X) (i : ℕ) (x : X) → length xs ≤ i → slice_set xs i x ≡ xs
set_past [] i x h = refl
set_past (y ∷ ys) zero x h = absurd (omega (arith, h))
set_past {X} (y ∷ ys) (suc i) x h = ap (λ (l : List X). y ∷ l) (set_past ys i x (omega (arith, h)))

set_same : {X : Type 0} (xs : List X) (i : ℕ) (d : X) → slice_set xs i (slice_index_or xs i d) ≡ xs
set_same [] i d = refl
set_same (y ∷ ys) zero d = refl
set_same {X} (y ∷ ys) (suc i) d = ap (λ (l : List X). y ∷ l) (set_same ys i d)

module _ (f : Item → ℕ) where
  abbrev queue_sum : List Item → ℕ
  queue_sum queue = sum_by f queue

  abbrev row_sum : List (List Item) → ℕ
  row_sum queues = sum_by queue_sum queues

  -- one queue is another
  queue_put : (flights : List (List (List Item))) (a link : ℕ) (queue : List Item) → HasQueue flights a link → over_all f (with_queue flights a link queue) + sum_by f (queue_at flights a link) ≡ over_all f flights + sum_by f queue
  unfolding over_all
  queue_put flights a link queue there =
      let row = slice_index_or flights a [] in
      let rows = sum_by-set row_sum flights a (slice_set row link queue) [] (row_there flights a link there) in
      let queues = sum_by-set queue_sum row link queue [] there in
      omega (arith, rows, queues)

  pub pushed-sum : (flights : List (List (List Item))) (a link : ℕ) (x : Item) → HasQueue flights a link → over_all f (push_item flights a link x) ≡ over_all f flights + f x
  pushed-sum flights a link x there =
      let whole = sum_by_push f (queue_at flights a link) x in
      omega (arith, queue_put flights a link (queue_at flights a link ++ x ∷ []) there, whole)

  -- what counts nothing may go anywhere
  pub pushed-none : (flights : List (List (List Item))) (a link : ℕ) (x : Item) → f x ≡ 0 → over_all f (push_item flights a link x) ≡ over_all f flights
  pushed-none flights a link x none = elim (cases_lt link (length (slice_index_or flights a []))) [
    | inl there ↦ omega (arith, pushed-sum flights a link x there, none)
    | inr past ↦
        let row = slice_index_or flights a [] in
        ap (over_all f) (ap (slice_set flights a) (set_past row link (queue_at flights a link ++ x ∷ []) past) ∙ set_same flights a [])
  ]

  pub taken-sum : (flights : List (List (List Item))) (a link i : ℕ) (x : Item) → slice_get (queue_at flights a link) i ≡ Some x → over_all f (without_item flights a link i) + f x ≡ over_all f flights
  taken-sum flights a link i x at = elim (cases_lt link (length (slice_index_or flights a []))) [
    | inl there ↦
        let queue = queue_at flights a link in
        let left = sum_by-remove f queue i x (got_within queue i x at) in
        let is = ap f (read_got queue i x x at) in
        omega (arith, queue_put flights a link (remove queue i) there, left, is)
    | inr past ↦
        let none : queue_at flights a link ≡ [] = read_past (slice_index_or flights a []) link [] past in
        let z : slice_get [] i ≡ Some x = subst (λ (q : List Item). slice_get q i ≡ Some x) none at in
        absurd cc
  ]

-- ---- all that is sent

-- how many queues each router has
abbrev pub shape : List (List (List Item)) → List ℕ
shape flights = map (λ qs. length qs) flights

read_mapped : (flights : List (List (List Item))) (a : ℕ) → slice_index_or (shape flights) a 0 ≡ length (slice_index_or flights a [])
read_mapped [] a = refl
read_mapped (row ∷ rows) zero = refl
read_mapped (row ∷ rows) (suc a) = read_mapped rows a

-- a copy that is sent finds its queue
abbrev pub LandsAt : List ℕ → ℕ → ℕ → Item → Type 0
LandsAt counts a link (ControlItem p) = Unit {0}
LandsAt counts a link (PacketItem x) = link < slice_index_or counts a 0

abbrev pub Lands : List ℕ → Sending → Type 0
Lands counts s = LandsAt counts s.from s.link s.item

module _ (f : Item → ℕ) (none : (p : Pdu) → f (ControlItem p) ≡ 0) where
  one-sum : (flights : List (List (List Item))) (a link : ℕ) (x : Item) → LandsAt (shape flights) a link x → over_all f (push_item flights a link x) ≡ over_all f flights + f x
  one-sum flights a link (ControlItem p) h = let z = none p in omega (arith, pushed-none f flights a link (ControlItem p) z, z)
  one-sum flights a link (PacketItem x) h = let same = read_mapped flights a in pushed-sum f flights a link (PacketItem x) (omega (arith, h, same))

  pub sent-sum : (sendings : List Sending) (flights : List (List (List Item))) → AllByRecursion (Lands (shape flights)) sendings → over_all f (push_all flights sendings) ≡ over_all f flights + sum_by (λ s. f s.item) sendings
  sent-sum [] flights all = omega arith
  sent-sum (s ∷ ss) flights all =
      let next = push_sending flights s in
      let kept : shape next ≡ shape flights = shape_kept flights s.from s.link (queue_at flights s.from s.link ++ s.item ∷ []) in
      let more = sent-sum ss next (subst (λ (counts : List ℕ). AllByRecursion (Lands counts) ss) (sym kept) all.1) in
      omega (arith, more, one-sum flights s.from s.link s.item all.0, sum_by-cons (λ (s : Sending). f s.item) s ss)

  -- PDUs go anywhere
  pub controls-sum : (sendings : List Sending) (flights : List (List (List Item))) → AllByRecursion IsControlSending sendings → over_all f (push_all flights sendings) ≡ over_all f flights
  controls-sum [] flights all = refl
  controls-sum (s ∷ ss) flights all = controls-sum ss (push_sending flights s) all.1 ∙ by s.item refl all.0
    where
      by : (x : Item) → s.item ≡ x → IsControlSending s → over_all f (push_sending flights s) ≡ over_all f flights
      by (ControlItem p) e h = pushed-none f flights s.from s.link s.item (ap f e ∙ none p)
      by (PacketItem x) e h = absurd (subst (λ (y : Item). IsControlItem y) e h)

pub taken_shape : (flights : List (List (List Item))) (a link i : ℕ) → shape (without_item flights a link i) ≡ shape flights
taken_shape flights a link i = shape_kept flights a link (remove (queue_at flights a link) i)
