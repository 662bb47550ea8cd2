-- Parts of a schedule, one after the other.
use Rattle.std.proofs.Common.{◌≡◌, ℕ, zero, suc, ◌+◌, ◌-◌, ◌<◌, List, [], ◌∷◌, ◌++◌, length, take, drop, replicate, slice_index_or, Option, Some, None, Result, Ok, Err, refl, sym, ap, subst, ◌∙◌, arith, append-nil, append_assoc}
use Rattle.std.specs.List.{fold}
use Rattle.run_texts.specs.declared.texts.Texts.{Texts}
use Rattle.domain_model.specs.declared.fault.EventFault.{EventFault}
use Rattle.domain_handshake.specs.Doing.{Did, Does}
use Rattle.domain_handshake.specs.Handshakes.{HandState, Outcome, nothing, refuses, goes_on, joined, and_then, one_more, in_turn}

-- ---- one part

pub nothing_did : (s : HandState) (texts : Texts) → Did (nothing s) s None texts texts
nothing_did s texts = record { report = sym (append-nil texts.report); frames = sym (append-nil texts.frames); refused = refl; next = refl }

pub refuses_did : (why : EventFault) (s : HandState) (texts : Texts) → Did (refuses why s) s (Some why) texts texts
refuses_did why s texts = record { report = sym (append-nil texts.report); frames = sym (append-nil texts.frames); refused = refl; next = refl }

-- ---- two parts

module _ (o : Outcome) (rest : HandState → Outcome) (mid : HandState) (texts between : Texts) (first : Did o mid None texts between) where
  after_first : and_then o rest ≡ joined o (rest mid)
  unfolding and_then
  after_first = ap (goes_on o rest) first.refused ∙ ap (λ (s : HandState). joined o (rest s)) first.next

  pub then_did : (now : HandState) (why : Option EventFault) (texts_now : Texts) → Did (rest mid) now why between texts_now → Did (and_then o rest) now why texts texts_now
  then_did now why texts_now second = subst (λ (p : Outcome). Did p now why texts texts_now) (sym after_first) (record {
    report = second.report ∙ ap (λ (l : List ℕ). l ++ (rest mid).report) first.report ∙ append_assoc texts.report o.report (rest mid).report;
    frames = second.frames ∙ ap (λ (l : List ℕ). l ++ (rest mid).frames) first.frames ∙ append_assoc texts.frames o.frames (rest mid).frames;
    refused = second.refused;
    next = second.next;
  })

  pub then_does : (now : HandState) (texts_now : Texts) (result : Result (Unit {0}) EventFault) → Does (rest mid) now between texts_now result → Does (and_then o rest) now texts texts_now result
  then_does now texts_now (Ok u) second = then_did now None texts_now second
  then_does now texts_now (Err why) second = λ known. then_did now (Some why) texts_now (second known)

-- the first part ends with an event that is not allowed
pub stays_refused : (o : Outcome) (rest : HandState → Outcome) (why : EventFault) → o.refused ≡ Some why → and_then o rest ≡ o
unfolding and_then
stays_refused o rest why is = ap (goes_on o rest) is

pub then_stops : (o : Outcome) (rest : HandState → Outcome) (now : HandState) (texts texts_now : Texts) (why : EventFault) → Does o now texts texts_now (Err why) → Does (and_then o rest) now texts texts_now (Err why)
then_stops o rest now texts texts_now why first = λ known. let did = first known in subst (λ (p : Outcome). Did p now (Some why) texts texts_now) (sym (stays_refused o rest why did.refused)) did

-- ---- one part for each of a list

add_one : (n : ℕ) → n + 1 ≡ suc n
add_one n = omega arith

module _ {X Y : Type 0} (f : Y → X → Y) where
  fold_next : (z : Y) (xs : List X) (i : ℕ) (x : X) → i < length xs → x ≡ slice_index_or xs i x → fold f z (take (suc i) xs) ≡ f (fold f z (take i xs)) x
  fold_next z [] i x within is = absurd (omega (arith, within))
  fold_next z (y ∷ ys) zero x within is = ap (f z) (sym is)
  fold_next z (y ∷ ys) (suc i) x within is = fold_next (f z y) ys i x (omega (arith, within)) is

  fold_split : (z : Y) (xs : List X) (i : ℕ) (x : X) → i < length xs → x ≡ slice_index_or xs i x → fold f z xs ≡ fold f (f (fold f z (take i xs)) x) (drop (suc i) xs)
  fold_split z [] i x within is = absurd (omega (arith, within))
  fold_split z (y ∷ ys) zero x within is = ap (λ (w : X). fold f (f z w) ys) (sym is)
  fold_split z (y ∷ ys) (suc i) x within is = fold_split (f z y) ys i x (omega (arith, within)) is

  fold_times : (z : Y) (x : X) (i : ℕ) → fold f z (replicate (suc i) x) ≡ f (fold f z (replicate i x)) x
  fold_times z x zero = refl
  fold_times z x (suc i) = fold_times (f z x) x i

  fold_times_split : (z : Y) (x : X) (n i : ℕ) → i < n → fold f z (replicate n x) ≡ fold f (f (fold f z (replicate i x)) x) (replicate (n - suc i) x)
  fold_times_split z x zero i within = absurd (omega (arith, within))
  fold_times_split z x (suc n) zero within = let k : n ≡ suc n - 1 = omega arith in ap (λ (m : ℕ). fold f (f z x) (replicate m x)) k
  fold_times_split z x (suc n) (suc i) within =
      let k : n - suc i ≡ suc n - suc (suc i) = omega arith in
      fold_times_split (f z x) x n i (omega (arith, within)) ∙ ap (λ (m : ℕ). fold f (f (fold f (f z x) (replicate i x)) x) (replicate m x)) k

module _ {X : Type 0} (part : HandState → X → Outcome) where
  rest_refused : (o : Outcome) (why : EventFault) → o.refused ≡ Some why → (xs : List X) → fold (one_more part) o xs ≡ o
  rest_refused o why is [] = refl
  rest_refused o why is (x ∷ xs) = ap (λ (p : Outcome). fold (one_more part) p xs) (stays_refused o (λ (next : HandState). part next x) why is) ∙ rest_refused o why is xs

  module _ (s : HandState) (texts : Texts) where
    pub turn_none : Did (in_turn part s []) s None texts texts
    unfolding in_turn
    turn_none = nothing_did s texts

    module _ (cur now : HandState) (between texts_now : Texts) where
      turned_more : (o : Outcome) (x : X) (why : Option EventFault) → Did o cur None texts between → Did (part cur x) now why between texts_now → Did (one_more part o x) now why texts texts_now
      turned_more o x why before more = then_did o (λ (next : HandState). part next x) cur texts between before now why texts_now more

      pub turn_next : (xs : List X) (i : ℕ) (x : X) → i < length xs → x ≡ slice_index_or xs i x → Did (in_turn part s (take i xs)) cur None texts between → Did (part cur x) now None between texts_now
          → Did (in_turn part s (take (i + 1) xs)) now None texts texts_now
      unfolding in_turn
      turn_next xs i x within is before more =
          subst (λ (p : Outcome). Did p now None texts texts_now) (sym (ap (λ (n : ℕ). fold (one_more part) (nothing s) (take n xs)) (add_one i) ∙ fold_next (one_more part) (nothing s) xs i x within is))
          (turned_more (fold (one_more part) (nothing s) (take i xs)) x None before more)

      pub turn_stops : (xs : List X) (i : ℕ) (x : X) (why : EventFault) → i < length xs → x ≡ slice_index_or xs i x → Did (in_turn part s (take i xs)) cur None texts between → Does (part cur x) now between texts_now (Err why)
          → Does (in_turn part s xs) now texts texts_now (Err why)
      unfolding in_turn
      turn_stops xs i x why within is before more known =
          let o = fold (one_more part) (nothing s) (take i xs) in
          let did = turned_more o x (Some why) before (more known) in
          subst (λ (p : Outcome). Did p now (Some why) texts texts_now) (sym (fold_split (one_more part) (nothing s) xs i x within is ∙ rest_refused (one_more part o x) why did.refused (drop (suc i) xs))) did

      pub times_next : (x : X) (i : ℕ) → Did (in_turn part s (replicate i x)) cur None texts between → Did (part cur x) now None between texts_now → Did (in_turn part s (replicate (i + 1) x)) now None texts texts_now
      unfolding in_turn
      times_next x i before more =
          subst (λ (p : Outcome). Did p now None texts texts_now) (sym (ap (λ (n : ℕ). fold (one_more part) (nothing s) (replicate n x)) (add_one i) ∙ fold_times (one_more part) (nothing s) x i))
          (turned_more (fold (one_more part) (nothing s) (replicate i x)) x None before more)

      pub times_stops : (x : X) (n i : ℕ) (why : EventFault) → i < n → Did (in_turn part s (replicate i x)) cur None texts between → Does (part cur x) now between texts_now (Err why)
          → Does (in_turn part s (replicate n x)) now texts texts_now (Err why)
      unfolding in_turn
      times_stops x n i why within before more known =
          let o = fold (one_more part) (nothing s) (replicate i x) in
          let did = turned_more o x (Some why) before (more known) in
          subst (λ (p : Outcome). Did p now (Some why) texts texts_now) (sym (fold_times_split (one_more part) (nothing s) x n i within ∙ rest_refused (one_more part o x) why did.refused (replicate (n - suc i) x))) did
