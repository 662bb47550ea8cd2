-- An LSDB that ages by a second, entry by entry.
use Rattle.std.proofs.Common.{◌≡◌, ◌∙◌, ℕ, zero, suc, ◌+◌, ◌-◌, ◌<◌, ◌≤◌, List, [], ◌∷◌, ◌++◌, length, take, drop, Option, Some, None, IfSome, slice_get, refl, sym, ap, subst, append_assoc, length-append, length-drop, arith}
use Rattle.std.proofs.lemmas.List.{length-take-le, take_all, drop_all, append-nil}
use Rattle.std.proofs.Math.Seq.{drop-append-add, drop-append_seam, take-append-add, take-append_seam}
use Rattle.std.specs.Prelude.{option_to_list}
use Rattle.std.specs.List.{fold, filter_map, cons_option}
use Rattle.wire_base.specs.declared.entry.Aged.{Aged}
use Rattle.wire_base.specs.declared.entry.Aged.TheVariants.{Live, Expired, Held, Removed}
use Rattle.wire_base.specs.declared.entry.Entry.{Entry}
use Rattle.wire_base.specs.model.Control.{Flood, aged, aged_to, after_second}
use Rattle.wire_base.specs.model.Flooding.{flags_aged, flood_aged}
use Rattle.lsp_store.specs.Places.{IsSecondAt}
use Rattle.router_core.specs.Aging.{IsOneAged, IsOlder, count_left}

left_is : (a : Aged) (e : Entry) → count_left a ≡ length (option_to_list (aged_to a e))
left_is Live e = refl
left_is Expired e = refl
left_is Held e = refl
left_is Removed e = refl

-- one entry
pub one_is : (entries new : List Entry) (place next : ℕ) (f new_f : Flood) (answer : Aged) (x : Entry) → slice_get entries place ≡ Some x → IfSome (slice_get entries place) (λ e. IsSecondAt entries place e answer new) → new_f ≡ flags_aged f x.id answer → next ≡ place + count_left answer
    → IfSome (slice_get entries place) (λ e. IsOneAged entries place e f new new_f next)
one_is entries new place next f new_f answer x there second flags after =
    subst (λ (o : Option Entry). IfSome o (λ e. IsOneAged entries place e f new new_f next)) (sym there) (one (subst (λ (o : Option Entry). IfSome o (λ e. IsSecondAt entries place e answer new)) there second))
  where
    one : IsSecondAt entries place x answer new → IsOneAged entries place x f new new_f next
    one s = record {
      flags = flags ∙ ap (λ (a : Aged). flags_aged f x.id a) s.answers;
      stands = s.becomes;
      after = after ∙ ap (λ (a : Aged). place + count_left a) s.answers ∙ ap (λ n. place + n) (left_is (aged x) x);
    }

-- ---- from one to the next

there_is : (entries : List Entry) (n : ℕ) → n < length entries → (e : Entry) × ((slice_get entries n ≡ Some e) × (drop n entries ≡ e ∷ drop (suc n) entries))
there_is [] n lt = absurd (omega (arith, lt))
there_is (x ∷ xs) zero lt = (x, (refl, refl))
there_is (x ∷ xs) (suc n) lt = there_is xs n (omega (arith, lt))

module _ (entries new middle : List Entry) (n : ℕ) (is : new ≡ take n entries ++ (middle ++ drop (suc n) entries)) (lt : n < length entries) where
  so_long : length (take n entries) ≡ n
  so_long = length-take-le n entries (omega (arith, lt))

  next_left : drop (n + length middle) new ≡ drop (suc n) entries
  next_left =
      ap (λ (l : List Entry). drop (n + length middle) l) is
      ∙ ap (λ m. drop (m + length middle) (take n entries ++ (middle ++ drop (suc n) entries))) (sym so_long)
      ∙ drop-append-add (take n entries) (middle ++ drop (suc n) entries) (length middle)
      ∙ drop-append_seam middle (drop (suc n) entries)

  next_done : take (n + length middle) new ≡ take n entries ++ middle
  next_done =
      ap (λ (l : List Entry). take (n + length middle) l) is
      ∙ ap (λ m. take (m + length middle) (take n entries ++ (middle ++ drop (suc n) entries))) (sym so_long)
      ∙ take-append-add (take n entries) (middle ++ drop (suc n) entries) (length middle)
      ∙ ap (λ (l : List Entry). take n entries ++ l) (take-append_seam middle (drop (suc n) entries))

  next_long : length new ≡ n + (length middle + (length entries - suc n))
  next_long =
      ap length is ∙ length-append (take n entries) (middle ++ drop (suc n) entries) ∙ ap (λ m. m + length (middle ++ drop (suc n) entries)) so_long
      ∙ ap (λ m. n + m) (length-append middle (drop (suc n) entries) ∙ ap (λ m. length middle + m) (length-drop (suc n) entries))

consed : (o : Option Entry) (l : List Entry) → option_to_list o ++ l ≡ cons_option o l
consed None l = refl
consed (Some x) l = refl

module _ (entries new : List Entry) (place next : ℕ) (f new_f : Flood) (lt : place < length entries) (one : IfSome (slice_get entries place) (λ e. IsOneAged entries place e f new new_f next)) where
  at_one : (x : Entry) → slice_get entries place ≡ Some x → IsOneAged entries place x f new new_f next
  at_one x there = subst (λ (o : Option Entry). IfSome o (λ e. IsOneAged entries place e f new new_f next)) there one

  pub step_long : length new ≡ next + (length entries - suc place)
  step_long = cases (there_is entries place lt)
    where
      cases : (e : Entry) × ((slice_get entries place ≡ Some e) × (drop place entries ≡ e ∷ drop (suc place) entries)) → length new ≡ next + (length entries - suc place)
      cases (e, (there, split)) = let o = at_one e there in omega (arith, next_long entries new (option_to_list (after_second e)) place o.stands lt, o.after)

  pub older_step : (all : List Entry) (start : Flood) → IsOlder all entries start f place → IsOlder all new start new_f next
  older_step all start h = cases (there_is entries place lt)
    where
      cases : (e : Entry) × ((slice_get entries place ≡ Some e) × (drop place entries ≡ e ∷ drop (suc place) entries)) → IsOlder all new start new_f next
      cases (e, (there, split)) =
          let o = at_one e there in
          let rest : drop next new ≡ drop (suc place) entries = ap (λ n. drop n new) o.after ∙ next_left entries new (option_to_list (after_second e)) place o.stands lt in
          let done : take next new ≡ take place entries ++ option_to_list (after_second e) = ap (λ n. take n new) o.after ∙ next_done entries new (option_to_list (after_second e)) place o.stands lt in
          record {
            flags = ap (λ (l : List Entry). fold flood_aged new_f l) rest ∙ ap (λ (x : Flood). fold flood_aged x (drop (suc place) entries)) o.flags ∙ ap (λ (l : List Entry). fold flood_aged f l) (sym split) ∙ h.flags;
            stands =
                ap (λ (l : List Entry). take next new ++ filter_map after_second l) rest
                ∙ ap (λ (l : List Entry). l ++ filter_map after_second (drop (suc place) entries)) done
                ∙ append_assoc (take place entries) (option_to_list (after_second e)) (filter_map after_second (drop (suc place) entries))
                ∙ ap (λ (l : List Entry). take place entries ++ l) (consed (after_second e) (filter_map after_second (drop (suc place) entries)) ∙ ap (λ (l : List Entry). filter_map after_second l) (sym split))
                ∙ h.stands;
          }

pub older_first : (all : List Entry) (f : Flood) → IsOlder all all f f 0
older_first all f = record { flags = refl; stands = refl }

pub older_last : (all entries : List Entry) (start f : Flood) (place : ℕ) → IsOlder all entries start f place → length entries ≤ place → (f ≡ fold flood_aged start all) × (entries ≡ filter_map after_second all)
older_last all entries start f place h le =
    let none : drop place entries ≡ [] = drop_all place entries le in (
      ap (λ (l : List Entry). fold flood_aged f l) (sym none) ∙ h.flags,
      sym (append-nil entries) ∙ ap (λ (l : List Entry). l ++ []) (sym (take_all place entries le)) ∙ ap (λ (l : List Entry). take place entries ++ filter_map after_second l) (sym none) ∙ h.stands,
    )
