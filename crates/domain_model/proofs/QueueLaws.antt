-- What stands on the way after something was put there or taken off.
use Rattle.std.proofs.Common.{◌≡◌, ◌⊎◌, inl, inr, ℕ, zero, suc, ◌<◌, List, [], ◌∷◌, ◌++◌, length, map, slice_get, slice_set, slice_index_or, length-set, Some, refl, sym, ap, subst, ◌∙◌, arith}
use Rattle.std.specs.List.{AllByRecursion, remove}
use Rattle.std.proofs.lemmas.Option.{same_Some}
use Rattle.wire_base.specs.declared.conf.End.{End}
use Rattle.wire_base.specs.declared.conf.RouterConf.{RouterConf}
use Rattle.wire_base.specs.model.Item.{Item}
use Rattle.domain_model.specs.World.{queue_at, with_queue, push_item, without_item}
use Rattle.domain_model.proofs.EachLaws.{each_joined, each_left}

-- ---- lists

pub got_within : {X : Type 0} (xs : List X) (i : ℕ) (x : X) → slice_get xs i ≡ Some x → i < length xs
got_within [] i x e = cc
got_within (y ∷ ys) zero x e = omega arith
got_within (y ∷ ys) (suc i) x e = let h = got_within ys i x e in omega (arith, h)

pub get_mapped : {X Y : Type 0} (f : X → Y) (xs : List X) (i : ℕ) (x : X) → slice_get xs i ≡ Some x → slice_get (map f xs) i ≡ Some (f x)
get_mapped f [] i x e = cc
get_mapped {X} {Y} f (y ∷ ys) zero x e = ap (λ (z : X). Some (f z)) (same_Some y x e)
get_mapped f (y ∷ ys) (suc i) x e = get_mapped f ys i x e

-- an element that is set keeps what a function gives of it
pub map_kept : {X Y : Type 0} (f : X → Y) (xs : List X) (i : ℕ) (x d : X) → f x ≡ f (slice_index_or xs i d) → map f (slice_set xs i x) ≡ map f xs
map_kept f [] i x d e = refl
map_kept {X} {Y} f (y ∷ ys) zero x d e = ap (λ (z : Y). z ∷ map f ys) e
map_kept {X} {Y} f (y ∷ ys) (suc i) x d e = ap (λ (l : List Y). f y ∷ l) (map_kept f ys i x d e)

pub map_set : {X Y : Type 0} (f : X → Y) (xs : List X) (i : ℕ) (x y : X) → slice_get xs i ≡ Some y → f x ≡ f y → map f (slice_set xs i x) ≡ map f xs
map_set f [] i x y h e = refl
map_set {X} {Y} f (z ∷ zs) zero x y h e = ap (λ (w : Y). w ∷ map f zs) (e ∙ sym (ap f (same_Some z y h)))
map_set {X} {Y} f (z ∷ zs) (suc i) x y h e = ap (λ (l : List Y). f z ∷ l) (map_set f zs i x y h e)

-- what is read after a write: what was there, or at that place what was written
pub set_read : {X : Type 0} (xs : List X) (i j : ℕ) (x d : X) → (slice_index_or (slice_set xs i x) j d ≡ slice_index_or xs j d) ⊎ ((i ≡ j) × (slice_index_or (slice_set xs i x) j d ≡ x))
set_read [] i j x d = inl refl
set_read (y ∷ ys) zero zero x d = inr (refl, refl)
set_read (y ∷ ys) zero (suc j) x d = inl refl
set_read (y ∷ ys) (suc i) zero x d = inl refl
set_read (y ∷ ys) (suc i) (suc j) x d = elim (set_read ys i j x d) [
  | inl same ↦ inl same
  | inr new ↦ inr (ap suc new.0, new.1)
]

-- ---- queues

-- what holds of each element of all queues, and of those of the new one, holds after one is replaced
pub queue_set : {X : Type 0} (P : ℕ → ℕ → X → Type 0) (queues : List (List (List X))) (a link : ℕ) (queue : List X) → AllByRecursion (P a link) queue
    → ((b m : ℕ) → AllByRecursion (P b m) (slice_index_or (slice_index_or queues b []) m []))
    → (b m : ℕ) → AllByRecursion (P b m) (slice_index_or (slice_index_or (slice_set queues a (slice_set (slice_index_or queues a []) link queue)) b []) m [])
queue_set {X} P queues a link queue new all b m =
    elim (set_read queues a b (slice_set (slice_index_or queues a []) link queue) []) [
      | inl same ↦ subst (λ (row : List (List X)). AllByRecursion (P b m) (slice_index_or row m [])) (sym same) (all b m)
      | inr row ↦
          let after : List (List (List X)) = slice_set queues a (slice_set (slice_index_or queues a []) link queue) in
          elim (set_read (slice_index_or queues a []) link m queue []) [
            | inl same ↦
                let old : slice_index_or (slice_index_or after b []) m [] ≡ slice_index_or (slice_index_or queues b []) m [] =
                ap (λ (r : List (List X)). slice_index_or r m []) row.1 ∙ same ∙ ap (λ (n : ℕ). slice_index_or (slice_index_or queues n []) m []) row.0 in
                subst (AllByRecursion (P b m)) (sym old) (all b m)
            | inr at ↦
                let put : slice_index_or (slice_index_or after b []) m [] ≡ queue = ap (λ (r : List (List X)). slice_index_or r m []) row.1 ∙ at.1 in
                let here : AllByRecursion (P b m) queue = subst (λ (n : ℕ). AllByRecursion (P n m) queue) row.0 (subst (λ (n : ℕ). AllByRecursion (P a n) queue) at.0 new) in
                subst (AllByRecursion (P b m)) (sym put) here
          ]
    ]

-- at first all queues are empty
pub none_queued : {X : Type 0} (P : ℕ → ℕ → X → Type 0) (rs : List RouterConf) (a link : ℕ) → AllByRecursion (P a link) (slice_index_or (slice_index_or (map (λ (r : RouterConf). map (λ (e : End). []) r.ends) rs) a []) link [])
none_queued {X} P rs a link = row rs a
  where
    queue : (es : List End) (n : ℕ) → AllByRecursion (P a link) (slice_index_or (map (λ (e : End). []) es) n [])
    queue [] n = tt
    queue (e ∷ es) zero = tt
    queue (e ∷ es) (suc n) = queue es n

    row : (qs : List RouterConf) (n : ℕ) → AllByRecursion (P a link) (slice_index_or (slice_index_or (map (λ (r : RouterConf). map (λ (e : End). []) r.ends) qs) n []) link [])
    row [] n = tt
    row (r ∷ qs) zero = queue r.ends link
    row (r ∷ qs) (suc n) = row qs n

abbrev pub AllQueues : (ℕ → ℕ → Item → Type 0) → List (List (List Item)) → Type 0
AllQueues P flights = (a link : ℕ) → AllByRecursion (P a link) (queue_at flights a link)

pub item_pushed : (P : ℕ → ℕ → Item → Type 0) (flights : List (List (List Item))) (a link : ℕ) (x : Item) → P a link x → AllQueues P flights → AllQueues P (push_item flights a link x)
item_pushed P flights a link x h all = queue_set P flights a link (queue_at flights a link ++ x ∷ []) (each_joined (P a link) (queue_at flights a link) (x ∷ []) (all a link) (h, tt)) all

pub item_gone : (P : ℕ → ℕ → Item → Type 0) (flights : List (List (List Item))) (a link i : ℕ) → AllQueues P flights → AllQueues P (without_item flights a link i)
item_gone P flights a link i all = queue_set P flights a link (remove (queue_at flights a link) i) (each_left (P a link) (queue_at flights a link) i (all a link)) all

-- the numbers of queues stay
pub shape_kept : (flights : List (List (List Item))) (a link : ℕ) (queue : List Item) → map (λ qs. length qs) (with_queue flights a link queue) ≡ map (λ qs. length qs) flights
shape_kept flights a link queue = map_kept (λ (qs : List (List Item)). length qs) flights a (slice_set (slice_index_or flights a []) link queue) [] (length-set (slice_index_or flights a []) link queue)
