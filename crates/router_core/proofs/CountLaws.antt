-- How many PDUs are due on a link.
use Rattle.std.proofs.Common.{◌≡◌, ◌∙◌, ℕ, zero, suc, ◌+◌, ◌/◌, ◌<◌, ◌≤◌, Bool, true, false, List, [], ◌∷◌, ◌++◌, length, drop, max, map, filter, slice_index_or, if◌then◌else◌, refl, sym, ap, arith, length-append, length-drop}
use Rattle.std.proofs.lemmas.Bool.{false≢true}
use Rattle.std.proofs.lemmas.List.{length-map}
use Rattle.wire_base.specs.declared.limits.TheConstants.{MOST_LISTED}
use Rattle.wire_base.specs.declared.addresses.LspId.{LspId}
use Rattle.wire_base.specs.declared.triple.Summary.{Summary}
use Rattle.wire_base.specs.model.Control.{Control, srm, ssn, summary_of}
use Rattle.wire_base.specs.model.Flooding.{send_of, csnps, due_csnps, due_lsps, due_psnps, is_known, lsp_of, psnp_of, zero_id, id_after, last_listed}
use Rattle.wire_base.specs.model.Lists.{blocks, blocks_within}

-- so many blocks of 90 hold a list
blocks_many : {X : Type 0} (m : ℕ) (xs : List X) → length xs ≤ m → length (blocks_within m MOST_LISTED xs) ≡ (length xs + 89) / 90
blocks_many zero [] h = refl
blocks_many zero (x ∷ xs) h = omega (arith, h)
blocks_many (suc m) [] h = refl
blocks_many (suc m) (x ∷ xs) h =
    let l = length-drop MOST_LISTED (x ∷ xs) in
    let more = blocks_many m (drop MOST_LISTED (x ∷ xs)) (omega (arith, h, l)) in
    omega (arith, more, l)

csnps_many : (c : Control) (start : LspId) (bs : List (List Summary)) → length (csnps c start bs) ≡ max (length bs) 1
csnps_many c start [] = refl
csnps_many c start (b ∷ []) = refl
csnps_many c start (b ∷ n ∷ more) = omega (arith, csnps_many c (id_after (last_listed start b)) (n ∷ more))

due_many : (c : Control) (due : Bool) → length (due_csnps c due) ≡ (if due then max ((length (filter is_known c.entries) + 89) / 90) 1 else 0)
due_many c false = refl
due_many c true =
    csnps_many c zero_id (blocks MOST_LISTED (map summary_of (filter is_known c.entries)))
    ∙ ap (λ n. max n 1) (blocks_many (length (map summary_of (filter is_known c.entries))) (map summary_of (filter is_known c.entries)) (omega arith) ∙ ap (λ n. (n + 89) / 90) (length-map (filter is_known c.entries) summary_of))

pub how_many : (c : Control) (link : ℕ)
    → length (send_of c link) ≡ (if slice_index_or c.flood.due link false then max ((length (filter is_known c.entries) + 89) / 90) 1 else 0) + length (filter (λ e. srm c.flood e.id link) c.entries) + (length (filter (λ e. ssn c.flood e.id link) c.entries) + 89) / 90
unfolding send_of
how_many c link =
    let a = length-append (due_csnps c (slice_index_or c.flood.due link false)) (due_lsps c link ++ due_psnps c link) in
    let b = length-append (due_lsps c link) (due_psnps c link) in
    let d = due_many c (slice_index_or c.flood.due link false) in
    let e = length-map (filter (λ e. srm c.flood e.id link) c.entries) lsp_of in
    let f = length-map (blocks MOST_LISTED (map summary_of (filter (λ e. ssn c.flood e.id link) c.entries))) (psnp_of c) in
    let g = blocks_many (length (map summary_of (filter (λ e. ssn c.flood e.id link) c.entries))) (map summary_of (filter (λ e. ssn c.flood e.id link) c.entries)) (omega arith) in
    let h = length-map (filter (λ e. ssn c.flood e.id link) c.entries) summary_of in
    omega (arith, a, b, d, e, f, ap (λ n. (n + 89) / 90) h, g)

-- a link that is up is one of the links
pub up_within : (up : List Bool) (link : ℕ) → slice_index_or up link false ≡ true → link < length up
up_within [] link h = absurd (false≢true h)
up_within (b ∷ bs) zero h = omega arith
up_within (b ∷ bs) (suc link) h = omega (arith, up_within bs link h)

pub counted_so : (c : Control) (link : ℕ) (due : Bool) (csnps lsps asked psnps : ℕ)
    → due ≡ slice_index_or c.flood.due link false
    → csnps ≡ (if due then max ((length (filter is_known c.entries) + 89) / 90) 1 else 0)
    → lsps ≡ length (filter (λ e. srm c.flood e.id link) c.entries)
    → asked ≡ length (filter (λ e. ssn c.flood e.id link) c.entries)
    → psnps ≡ (asked + 89) / 90
    → csnps + lsps + psnps ≡ length (send_of c link)
counted_so c link due csnps lsps asked psnps d p q r s =
    ap (λ n. n + lsps + psnps) (p ∙ ap (λ (b : Bool). if b then max ((length (filter is_known c.entries) + 89) / 90) 1 else 0) d)
    ∙ ap (λ n. (if slice_index_or c.flood.due link false then max ((length (filter is_known c.entries) + 89) / 90) 1 else 0) + n + psnps) q
    ∙ ap (λ n. (if slice_index_or c.flood.due link false then max ((length (filter is_known c.entries) + 89) / 90) 1 else 0) + length (filter (λ e. srm c.flood e.id link) c.entries) + n) (s ∙ ap (λ n. (n + 89) / 90) r)
    ∙ sym (how_many c link)
