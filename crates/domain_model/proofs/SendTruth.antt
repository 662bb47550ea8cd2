-- What a router sends on a link is true, and sending keeps what its LSDB says true.
use Rattle.std.proofs.Common.{◌≡◌, ℕ, zero, suc, ◌+◌, ◌<◌, ◌≤◌, Bool, true, false, List, [], ◌∷◌, ◌++◌, length, map, filter, drop, slice_index_or, Some, refl, sym, ap, ◌∙◌, arith}
use mathlib.Core.Bool.{false≢true}
use Rattle.std.specs.List.{AllByRecursion}
use Rattle.std.proofs.lemmas.List.{length-take}
use Rattle.byteorder.specs.Endian.{big_bytes, big_number}
use Rattle.wire_base.specs.declared.addresses.LspId.{LspId}
use Rattle.wire_base.specs.declared.conf.RouterConf.{RouterConf}
use Rattle.wire_base.specs.declared.entry.Entry.{Entry}
use Rattle.wire_base.specs.declared.triple.Summary.{Summary}
use Rattle.wire_base.specs.model.Lists.{blocks, blocks_within}
use Rattle.wire_base.specs.model.Configuration.{IsSound}
use Rattle.wire_base.specs.model.Control.{entry_in, seq_of, summary_of, srm, ssn, Control}
use Rattle.wire_base.specs.model.Flooding.{clear_ssn, zero_id, last_id, id_from, id_after, last_listed, csnp_of, csnps, most_listed, is_known, due_csnps, lsp_of, due_lsps, due_psnps, psnp_of, send_of, sent_on, send}
use Rattle.wire_base.specs.model.Tlv.{LspIdFits, lsp_id}
use Rattle.domain_model.specs.Truth.{IsAmong, head_of, IsTrueEntry, IsTrueRow, IsTruePdu}
use Rattle.laws_format.proofs.ContentLaws.{each_taken, each_dropped}
use Rattle.domain_model.proofs.EachLaws.{each_weaker, each_joined, each_mapped, each_kept, each_passing, each_both}
use Rattle.domain_model.proofs.FlagLaws.{each_is_found, mapped_off}
use Rattle.domain_model.proofs.FloodTruth.{IsTrueState, row_true}
use Rattle.domain_model.proofs.ControlTruth.{named_fits, IsTrueReply}

-- ---- rows in blocks

pub record IsTrueBlock (confs : List RouterConf) (rows : List Summary) : Type 0 where
  pub few : length rows ≤ most_listed
  pub each : AllByRecursion (IsTrueRow confs) rows

blocks_true : (confs : List RouterConf) (m : ℕ) (rows : List Summary) → AllByRecursion (IsTrueRow confs) rows → AllByRecursion (IsTrueBlock confs) (blocks_within m most_listed rows)
blocks_true confs zero rows all = tt
blocks_true confs (suc m) [] all = tt
blocks_true confs (suc m) (r ∷ rows) all = (
  record { few = (let l = length-take 90 (r ∷ rows) in omega (arith, l)); each = each_taken (IsTrueRow confs) 90 (r ∷ rows) all },
  blocks_true confs m (drop 90 (r ∷ rows)) (each_dropped (IsTrueRow confs) 90 (r ∷ rows) all),
)

summary_true : (confs : List RouterConf) (e : Entry) → IsTrueEntry confs e → IsTrueRow confs (summary_of e)
summary_true confs e t = row_true confs (head_of e) e.content t

-- the rows of the entries that pass a test
listed_true : (confs : List RouterConf) (p : Entry → Bool) (es : List Entry) → AllByRecursion (IsTrueEntry confs) es → AllByRecursion (IsTrueBlock confs) (blocks most_listed (map summary_of (filter p es)))
listed_true confs p es all =
    let rows = map summary_of (filter p es) in
    blocks_true confs (length rows) rows (each_mapped (IsTrueRow confs) summary_of (filter p es) (each_weaker (IsTrueEntry confs) (λ e. IsTrueRow confs (summary_of e)) (summary_true confs) (filter p es) (each_kept (IsTrueEntry confs) p es all)))

-- ---- identifiers at the ends of a CSNP

zero_fits : LspIdFits zero_id
zero_fits = record { system = refl; pseudonode = omega arith; fragment = omega arith }

last_fits : LspIdFits last_id
last_fits = record { system = refl; pseudonode = omega arith; fragment = omega arith }

from_fits : (n : ℕ) → LspIdFits (id_from (big_bytes 8 n))
from_fits n = record { system = refl; pseudonode = omega arith; fragment = omega arith }

after_fits : (id : LspId) → LspIdFits (id_after id)
unfolding id_after
after_fits id = from_fits (big_number 8 (lsp_id id) + 1)

last_listed_fits : (confs : List RouterConf) → AllByRecursion IsSound confs → (rows : List Summary) (start : LspId) → LspIdFits start → AllByRecursion (IsTrueRow confs) rows → LspIdFits (last_listed start rows)
last_listed_fits confs sound [] start fits all = fits
last_listed_fits confs sound (r ∷ rows) start fits all = last_listed_fits confs sound rows r.id (named_fits confs r.id sound all.0.named) all.1

-- ---- the PDUs

module _ (confs : List RouterConf) (sound : AllByRecursion IsSound confs) (c : Control) (among : IsAmong confs c.conf) (s : IsTrueState confs c.flood c.entries) where
  csnp_true : (start last : LspId) (rows : List Summary) → LspIdFits start → LspIdFits last → IsTrueBlock confs rows → IsTruePdu confs (csnp_of c start last rows)
  csnp_true start last rows a b t =
      record {
        source = record { router = c.conf; among = among; is = refl };
        start_fits = a;
        last_fits = b;
        lists = record { rows = rows; spelled = refl; few = t.few; each = t.each };
      }

  psnp_true : (rows : List Summary) → IsTrueBlock confs rows → IsTruePdu confs (psnp_of c rows)
  psnp_true rows t =
      record {
        source = record { router = c.conf; among = among; is = refl };
        lists = record { rows = rows; spelled = refl; few = t.few; each = t.each };
      }

  csnps_true : (parts : List (List Summary)) (start : LspId) → LspIdFits start → AllByRecursion (IsTrueBlock confs) parts → AllByRecursion (IsTruePdu confs) (csnps c start parts)
  csnps_true [] start fits all = (csnp_true start last_id [] fits last_fits (record { few = omega arith; each = tt }), tt)
  csnps_true (block ∷ []) start fits all = (csnp_true start last_id block fits last_fits all.0, tt)
  csnps_true (block ∷ next ∷ more) start fits all = (
    csnp_true start (last_listed start block) block fits (last_listed_fits confs sound block start fits all.0.each) all.0,
    csnps_true (next ∷ more) (id_after (last_listed start block)) (after_fits (last_listed start block)) all.1,
  )

  due_true : (due : Bool) → AllByRecursion (IsTruePdu confs) (due_csnps c due)
  due_true false = tt
  due_true true = csnps_true (blocks most_listed (map summary_of (filter is_known c.entries))) zero_id zero_fits (listed_true confs is_known c.entries s.entries_true)

  -- what is marked has a sequence number
  marked_some : (link : ℕ) (e : Entry) → entry_in c.entries e.id ≡ Some e → srm c.flood e.id link ≡ true → 0 < e.seq
  marked_some link e found marked = by e.seq refl
    where
      by : (n : ℕ) → e.seq ≡ n → 0 < e.seq
      by zero q = absurd (false≢true (sym (s.unsent e.id link (ap seq_of found ∙ q)) ∙ marked))
      by (suc n) q = omega (arith, q)

  lsps_true : (link : ℕ) → AllByRecursion (IsTruePdu confs) (due_lsps c link)
  lsps_true link =
      let p : Entry → Bool = λ e. srm c.flood e.id link in
      let Found : Entry → Type 0 = λ e. entry_in c.entries e.id ≡ Some e in
      let Marked : Entry → Type 0 = λ e. p e ≡ true in
      let Both : Entry → Type 0 = λ e. IsTrueEntry confs e × Found e in
      let kept : AllByRecursion Both (filter p c.entries) = each_kept Both p c.entries (each_both (IsTrueEntry confs) Found c.entries s.entries_true (each_is_found c.entries s.in_order)) in
      each_mapped (IsTruePdu confs) lsp_of (filter p c.entries)
      (each_weaker (λ e. Both e × Marked e) (λ e. IsTruePdu confs (lsp_of e)) (λ e h. record { says = h.0.0; some = marked_some link e h.0.1 h.1 }) (filter p c.entries)
      (each_both Both Marked (filter p c.entries) kept (each_passing p c.entries)))

  psnps_true : (link : ℕ) → AllByRecursion (IsTruePdu confs) (due_psnps c link)
  psnps_true link =
      let parts = blocks most_listed (map summary_of (filter (λ e. ssn c.flood e.id link) c.entries)) in
      each_mapped (IsTruePdu confs) (psnp_of c) parts (each_weaker (IsTrueBlock confs) (λ rows. IsTruePdu confs (psnp_of c rows)) psnp_true parts (listed_true confs (λ e. ssn c.flood e.id link) c.entries s.entries_true))

  pub send_true : (link : ℕ) → IsTrueReply confs c (send c link)
  unfolding send send_of sent_on
  send_true link =
      record {
        next = record {
          conf = refl;
          state = record { entries_true = s.entries_true; in_order = s.in_order; unsent = λ id at z. mapped_off (clear_ssn link) (λ row. refl) (λ row l h. h) c.flood.rows id at (s.unsent id at z) };
        };
        says = each_joined (IsTruePdu confs) (due_csnps c (slice_index_or c.flood.due link false)) (due_lsps c link ++ due_psnps c link) (due_true (slice_index_or c.flood.due link false))
            (each_joined (IsTruePdu confs) (due_lsps c link) (due_psnps c link) (lsps_true link) (psnps_true link));
        none = refl;
      }
