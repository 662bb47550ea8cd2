-- Changes of a router's configuration while it runs: other labels in a sub-domain, and a sub-domain that is left or joined
-- again (RFC 8401, 6.1 and 6.2; RFC 8279, 6.4).
use Rattle.std.specs.Prelude.{◌≡◌, ℕ, ◌+◌, ◌≤◌, ◌<◌, ◌==◌, not, nat_lt, nat_le, Bool, List, [], ◌∷◌, ◌++◌, length, filter, Option, Some, None, option_and_then, if◌then◌else◌}
use Rattle.std.specs.List.{find, list_any, range_with_len}
use Rattle.wire_base.specs.declared.limits.TheConstants.{LAST_LABEL, MOST_RELABELS}
use Rattle.wire_base.specs.declared.bsl.Bsl.{Bsl}
use Rattle.wire_base.specs.declared.conf.LabelRange.{LabelRange}
use Rattle.wire_base.specs.declared.conf.OwnSub.{OwnSub}
use Rattle.wire_base.specs.declared.conf.PastRange.{PastRange}
use Rattle.wire_base.specs.declared.conf.RouterConf.{RouterConf}
use Rattle.wire_base.specs.model.Place.{code_of, sub_in, is_label_of, known_subs, known_ranges}

-- ---- other labels

-- the range of a BSL
abbrev pub range_for : List LabelRange → Bsl → Option LabelRange
range_for [] bsl = None
range_for (x ∷ xs) bsl = if code_of x.bsl == code_of bsl then Some x else range_for xs bsl

-- a router's range of a BSL in a sub-domain that it is in or left
abbrev pub own_range : RouterConf → ℕ → Bsl → Option LabelRange
own_range r sd bsl = option_and_then (λ s. range_for s.ranges bsl) (sub_in (known_subs r) sd)

-- the range with another first label, and as many labels
abbrev pub moved : LabelRange → ℕ → LabelRange
moved x label = record x { label = label }

abbrev pub ranges_moved : Bsl → ℕ → List LabelRange → List LabelRange
ranges_moved bsl label [] = []
ranges_moved bsl label (x ∷ xs) = if code_of x.bsl == code_of bsl then moved x label ∷ xs else x ∷ ranges_moved bsl label xs

abbrev pub subs_moved : ℕ → Bsl → ℕ → List OwnSub → List OwnSub
subs_moved sd bsl label [] = []
subs_moved sd bsl label (s ∷ subs) = if s.sd == sd then record s { ranges = ranges_moved bsl label s.ranges } ∷ subs else s ∷ subs_moved sd bsl label subs

abbrev pub past_with : List PastRange → ℕ → Option LabelRange → List PastRange
past_with past sd None = past
past_with past sd (Some x) = past ++ record { sd = sd; range = x } ∷ []

-- The range of a BSL in a sub-domain, which the router is in or left, begins at another label. The earlier range keeps its
-- meaning for packets that arrive.
unfoldable pub relabelled : RouterConf → ℕ → Bsl → ℕ → RouterConf
relabelled r sd bsl label =
    record r {
      subs = subs_moved sd bsl label r.subs;
      away = subs_moved sd bsl label r.away;
      past = past_with r.past sd (own_range r sd bsl);
    }

-- ---- sub-domains that are left and joined

abbrev pub subs_without : ℕ → List OwnSub → List OwnSub
subs_without sd subs = filter (λ s. not (s.sd == sd)) subs

abbrev pub subs_with : List OwnSub → Option OwnSub → List OwnSub
subs_with subs None = subs
subs_with subs (Some s) = subs ++ s ∷ []

-- The router leaves a sub-domain: it advertises it no longer, and no packet is delivered to its BFR-id there. It still
-- forwards packets that arrive with its labels.
unfoldable pub left : RouterConf → ℕ → RouterConf
left r sd = record r { subs = subs_without sd r.subs; away = subs_with r.away (sub_in r.subs sd) }

-- it joins a sub-domain that it left, with its BFR-id and its label ranges of now
unfoldable pub rejoined : RouterConf → ℕ → RouterConf
rejoined r sd = record r { subs = subs_with r.subs (sub_in r.away sd); away = subs_without sd r.away }

-- ---- when a range may begin at a label

-- it has no label above the last one
abbrev pub is_too_high : LabelRange → Bool
is_too_high x = nat_lt LAST_LABEL (x.label + x.max_si)

abbrev pub is_used : List PastRange → ℕ → Bool
is_used known label = list_any (λ x. is_label_of label x.range) known

-- the least of its labels that a range of the router already has, of now or earlier
abbrev pub used_label : RouterConf → LabelRange → Option ℕ
used_label r x = find (is_used (known_ranges r)) (range_with_len x.label (x.max_si + 1))

-- no other range can be kept as an earlier one
abbrev pub is_worn : RouterConf → Bool
is_worn r = nat_le MOST_RELABELS (length r.past)

-- A range of a BSL in a sub-domain may begin at that label.
pub record CanRelabel (r : RouterConf) (sd : ℕ) (bsl : Bsl) (label : ℕ) : Type 0 where
  pub range : LabelRange
  pub own : own_range r sd bsl ≡ Some range
  pub first : 16 ≤ label
  pub last : label + range.max_si ≤ LAST_LABEL
  pub free : used_label r (moved range label) ≡ None
  pub room : length r.past < MOST_RELABELS
