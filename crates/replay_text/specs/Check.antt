-- The lines of a schedule that is checked: those of a schedule, and two that are no events. `quiet` asks whether the domain is quiet,
-- and `cover` which BFR-ids of an injection are reached.
use Rattle.std.specs.Prelude.{ℕ, ◌≡◌, ◌<◌, ◌^◌, true, ◌⊎◌, List, [], ◌∷◌, nat_lt, length, Result, Ok, Err, IsOk, codes, if◌then◌else◌}
use Rattle.std.specs.Str.{bytes_eq}
use Rattle.wire_base.specs.declared.bsl.Bsl.{Bsl}
use Rattle.wire_base.specs.declared.limits.TheConstants.{LINE_LIMIT}
use Rattle.wire_base.specs.model.Fields.{◌>>=◌}
use Rattle.replay_text.specs.declared.fault.TextFault.{TextFault}
use Rattle.replay_text.specs.declared.fault.TextFault.TheVariants.{LineLong}
use Rattle.replay_text.specs.declared.check.CheckLine.{CheckLine}
use Rattle.replay_text.specs.declared.check.CheckLine.TheVariants as check
use Rattle.replay_text.specs.declared.event.Line.TheVariants as line
use Rattle.replay_text.specs.Arguments.{counted, name_at, number_at, length_at, ids_at, ttl_at}
use Rattle.replay_text.specs.Events.{LineFits}
use Rattle.replay_text.specs.Keyword.{line_words}
use Rattle.replay_text.specs.Schedule.{TakesMemory, schedule_line}

-- `R SD BSL IDS TTL ENTROPY`, as for an injection
unfoldable pub cover_line : List (List ℕ) → List (List ℕ) → Result CheckLine TextFault
cover_line names args = do
  words ← counted 6 args
  router ← name_at names words
  sd ← number_at 255 router.1
  bsl ← length_at sd.1
  ids ← ids_at bsl.1
  ttl ← ttl_at ids.1
  entropy ← number_at 1048575 ttl.1
  Ok (check.Cover router.0 sd.0 bsl.0 ids.0 ttl.0 entropy.0)

-- the same up to BSL
unfoldable pub cover_front : List (List ℕ) → List (List ℕ) → Result (ℕ × ℕ × Bsl) TextFault
cover_front names args = do
  words ← counted 6 args
  router ← name_at names words
  sd ← number_at 255 router.1
  bsl ← length_at sd.1
  Ok (router.0, sd.0, bsl.0)

-- no words follow
abbrev pub quiet_line : List (List ℕ) → Result CheckLine TextFault
quiet_line args = counted 0 args >>= (λ none. Ok check.Quiet)

-- a line by its words; one with any other keyword is a line of a schedule
abbrev pub check_words : List ℕ → List (List ℕ) → List (List ℕ) → Result CheckLine TextFault
check_words text names [] = Ok (check.Base line.Empty)
check_words text names (word ∷ args) =
    if bytes_eq word (codes "quiet") then quiet_line args else
    if bytes_eq word (codes "cover") then cover_line names args else
    (schedule_line text names >>= (λ said. Ok (check.Base said)))

-- What a line contains in a domain whose routers have those names, in that order, or the first rule that it breaks. The line comes
-- without its line ending.
unfoldable pub check_line : List ℕ → List (List ℕ) → Result CheckLine TextFault
check_line text names =
    if nat_lt LINE_LIMIT (length text) then Err LineLong else check_words text names (line_words text)

-- Reading words allocates for the ids of a `cover` line and for what the lines of a schedule allocate for.
abbrev pub MayAllocate : (names words : List (List ℕ)) → Type 0
MayAllocate names [] = ⊥
MayAllocate names (word ∷ args) = ((bytes_eq word (codes "cover") ≡ true) × IsOk (cover_front names args)) ⊎ TakesMemory names (word ∷ args)

-- the router is in the domain, and the TTL and the entropy are within their ranges (RFC 8296, 2.1.1.2 and 2.1.2)
pub record CoverFits (count router ttl entropy : ℕ) : Type 0 where
  pub within : router < count
  pub ttl_left : 0 < ttl
  pub entropy_fits : entropy < 2 ^ 20

abbrev pub CheckFits : ℕ → CheckLine → Type 0
CheckFits count (check.Base said) = LineFits count said
CheckFits count check.Quiet = Unit {0}
CheckFits count (check.Cover router sd bsl ids ttl entropy) = CoverFits count router ttl entropy
