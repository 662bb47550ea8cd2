-- A hop text, line by line.
use Rattle.std.proofs.Common.{◌≡◌, ◌≢◌, ℕ, ◌+◌, ◌<◌, ◌≤◌, Bool, true, false, List, [], ◌∷◌, ◌++◌, length, take, map, Option, Some, None, Result, Ok, Err, arith, inl, inr, refl, sym, ap, ap₂, ◌∙◌, append_assoc, append-nil}
use Rattle.std.specs.List.{flat_map}
use Rattle.std.proofs.lemmas.Bool.{cases_lt, lt-ltb}
use Rattle.std.proofs.lemmas.List.{length-append, length-take, take_all}
use Rattle.std.proofs.lemmas.Grind.{flat_map-append}
use Rattle.wire_base.specs.declared.limits.TheConstants.{LINE_LIMIT, TEXT_LIMIT}
use Rattle.wire_base.specs.declared.status.Status.{Status}
use Rattle.wire_base.specs.declared.status.Status.TheVariants.{InputRefused, ReadFault}
use Rattle.replay_text.specs.declared.fault.TextFault.{TextFault}
use Rattle.replay_text.specs.declared.fault.TextFault.TheVariants as fault
use Rattle.replay_text.specs.declared.hop.HopState.{HopState}
use Rattle.replay_text.specs.declared.hop.HopLine.{HopLine}
use Rattle.replay_text.specs.declared.hop.HopLine.TheVariants as says
use Rattle.replay_text.specs.Reading as wording
use Rattle.replay_text.specs.Hop.{hop_line}
use Rattle.command_hop.specs.HopText.{ending, after, Packet, packet_in, packets_from, refusal_from, packet_text, refused_text, answer_from, fresh, hop_answer, hop_cut}
use Rattle.replay_text.specs.Fault.{fault_text}
use Rattle.command_drive.specs.Texts.{Close, Longer, Cut, close_of, is_short, lines_within}
use Rattle.command_drive.specs.declared.items.Close as items
use Rattle.command_drive.specs.declared.items.Close.TheVariants as shuts
use Rattle.command_drive.proofs.Inputs.{closes, lines_of_whole, lines_of_front, lines_past_limit}
use Rattle.replay_text.specs.Pieces.{lines_in}
use Rattle.run_texts.specs.declared.texts.Texts.{Texts}
use Rattle.command_drive.specs.Answer.{Verdict, behind}
use Rattle.command_drive.specs.Doing.{Told, Concludes}
use Rattle.command_drive.specs.Reading.{Behind, Closed, Ends, Fails, Reads}
use Rattle.command_drive.specs.Reporting.{alone}
use Rattle.command_drive.specs.Lines.{shown, lines_read}
use Rattle.command_hop.specs.Owed.{Reached, nothing_reached, owed, closing}

pub behind-behind : (a b : List ℕ) (end : Status × List ℕ) → behind (a ++ b) end ≡ behind a (behind b end)
behind-behind a b end = ap (λ (l : List ℕ). (end.0, l)) (append_assoc a b end.1)

-- a line that says something, and the lines after it
one_more : (close : Close) (state : HopState) (n k : ℕ) (line : List ℕ) (more : List (List ℕ)) (said : HopLine) → hop_line line state ≡ Ok said
    → answer_from close state n k (line ∷ more) ≡ behind (flat_map packet_text (packet_in (n + 1) state said)) (answer_from close (after state said) (n + 1) (k + length (packet_in (n + 1) state said)) more)
unfolding packets_from refusal_from
one_more close state n k line more said reads =
    ap (λ (ps : List Packet). behind (flat_map packet_text ps) (ending close (n + length (line ∷ more)) (k + length ps) (refusal_from state n (line ∷ more)))) mine
    ∙ ap (λ (r : Option (ℕ × TextFault)). behind (flat_map packet_text (first ++ rest)) (ending close (n + length (line ∷ more)) (k + length (first ++ rest)) r)) later
    ∙ ap (λ (m : ℕ). behind (flat_map packet_text (first ++ rest)) (ending close m (k + length (first ++ rest)) left)) lines
    ∙ ap (λ (m : ℕ). behind (flat_map packet_text (first ++ rest)) (ending close (n + 1 + length more) m left)) packets
    ∙ ap (λ (l : List ℕ). behind l (ending close (n + 1 + length more) (k + length first + length rest) left)) (flat_map-append packet_text first rest)
    ∙ behind-behind (flat_map packet_text first) (flat_map packet_text rest) (ending close (n + 1 + length more) (k + length first + length rest) left)
  where
    first : List Packet
    first = packet_in (n + 1) state said

    rest : List Packet
    rest = packets_from (after state said) (n + 1) more

    left : Option (ℕ × TextFault)
    left = refusal_from (after state said) (n + 1) more

    mine : packets_from state n (line ∷ more) ≡ first ++ rest
    mine = rw (reads, packets_from) refl

    later : refusal_from state n (line ∷ more) ≡ left
    later = rw (reads, refusal_from) refl

    lines : n + length (line ∷ more) ≡ n + 1 + length more
    lines = omega arith

    packets : k + length (first ++ rest) ≡ k + length first + length rest
    packets = omega (arith, length-append first rest)

-- a fault other than out of memory is the line's
is_fault : (why : TextFault) (read : Result HopLine TextFault) → wording.Fails why read → why ≢ fault.Memory → read ≡ Err why
is_fault fault.Word read is known = is
is_fault fault.Number read is known = is
is_fault fault.Name read is known = is
is_fault fault.Hex read is known = is
is_fault fault.LineLong read is known = is
is_fault fault.Memory read is known = absurd (known refl)

-- a line that is refused ends them
refused_answer : (close : Close) (state : HopState) (n k : ℕ) (line : List ℕ) (more : List (List ℕ)) (why : TextFault) → hop_line line state ≡ Err why
    → answer_from close state n k (line ∷ more) ≡ (InputRefused, refused_text (n + 1) (fault_text why))
unfolding packets_from refusal_from
refused_answer close state n k line more why reads =
    ap (λ (ps : List Packet). behind (flat_map packet_text ps) (ending close (n + length (line ∷ more)) (k + length ps) (refusal_from state n (line ∷ more)))) none
    ∙ ap (λ (r : Option (ℕ × TextFault)). behind [] (ending close (n + length (line ∷ more)) (k + 0) r)) this
  where
    none : packets_from state n (line ∷ more) ≡ []
    none = rw (reads, packets_from) refl

    this : refusal_from state n (line ∷ more) ≡ Some (n + 1, why)
    this = rw (reads, refusal_from) refl

-- a line that is too long
pub long_line : (long : List ℕ) (state : HopState) → LINE_LIMIT < length long → hop_line long state ≡ Err fault.LineLong
unfolding hop_line
long_line long state is = rw (lt-ltb LINE_LIMIT (length long) is) refl

-- at the end of the lines
pub none_left : (close : Close) (state : HopState) (n k : ℕ) → answer_from close state n k [] ≡ ending close n k None
unfolding packets_from refusal_from
none_left close state n k =
    let lines : n + 0 ≡ n = omega arith in
    let packets : k + 0 ≡ k = omega arith in
    ap (λ (m : ℕ). behind [] (ending close m (k + 0) None)) lines ∙ ap (λ (m : ℕ). behind [] (ending close n m None)) packets

pub one_at_most : (n : ℕ) (state : HopState) (said : HopLine) → length (packet_in n state said) ≤ 1
one_at_most n state says.Empty = omega arith
one_at_most n state (says.Length bsl) = omega arith
one_at_most n state (says.Own own) = omega arith
one_at_most n state (says.Row row) = omega arith
one_at_most n state (says.Packet bits) = omega arith

-- a line was done
pub told_line : (before now : Reached) (line : List ℕ) (said : HopLine) (texts texts_now : Texts) → hop_line line before.state ≡ Ok said → now.state ≡ after before.state said → now.lines ≡ before.lines + 1
    → now.packets ≡ before.packets + length (packet_in (before.lines + 1) before.state said) → texts_now.report ≡ texts.report ++ flat_map packet_text (packet_in (before.lines + 1) before.state said) → texts_now.frames ≡ texts.frames
    → Told {T = List ℕ} (λ more behind. owed before (line ∷ more) behind) (owed now) texts texts_now
told_line before now line said texts texts_now reads state_is n_is k_is report frames =
    record {
      report = texts_of;
      frames = [];
      report_is = report;
      frames_is = frames ∙ sym (append-nil texts.frames);
      owed = λ more behind.
          ap alone (one_more (closing behind) before.state before.lines before.packets line more said reads)
          ∙ ap (λ (s : HopState). alone (behind_of (answer_from (closing behind) s (before.lines + 1) (before.packets + length (packet_in (before.lines + 1) before.state said)) more))) (sym state_is)
          ∙ ap₂ (λ (a b : ℕ). alone (behind_of (answer_from (closing behind) now.state a b more))) (sym n_is) (sym k_is);
    }
  where
    texts_of : List ℕ
    texts_of = flat_map packet_text (packet_in (before.lines + 1) before.state said)

    behind_of : Status × List ℕ → Status × List ℕ
    behind_of given = (given.0, texts_of ++ given.1)

-- a line was rejected
pub ends_line : (before : Reached) (line : List ℕ) (why : TextFault) (ended : Status) (texts texts_now : Texts) → wording.Fails why (hop_line line before.state) → why ≢ fault.Memory → ended ≡ InputRefused
    → texts_now.report ≡ texts.report ++ refused_text (before.lines + 1) (fault_text why) → texts_now.frames ≡ texts.frames
    → (ended ≡ InputRefused) × ((more : List (List ℕ)) (behind : Behind) → Concludes ended (owed before (line ∷ more) behind) texts texts_now)
ends_line before line why ended texts texts_now fails known is report frames = (
  is,
  λ more behind.
      let answer : answer_from (closing behind) before.state before.lines before.packets (line ∷ more) ≡ (InputRefused, refused_text (before.lines + 1) (fault_text why)) =
      refused_answer (closing behind) before.state before.lines before.packets line more why (is_fault why (hop_line line before.state) fails known) in
      record {
        status = is ∙ sym (ap (λ (a : Status × List ℕ). a.0) answer);
        report = report ∙ ap (λ (a : Status × List ℕ). texts.report ++ a.1) (sym answer);
        frames = frames ∙ sym (append-nil texts.frames);
      },
)

-- the lines end
pub concludes : (close : Close) (before : Reached) (behind : Behind) (ended : Status) (texts texts_now : Texts) → closing behind ≡ close → ended ≡ (ending close before.lines before.packets None).0
    → texts_now.report ≡ texts.report ++ (ending close before.lines before.packets None).1 → texts_now.frames ≡ texts.frames → Concludes ended (owed before [] behind) texts texts_now
concludes close before behind ended texts texts_now how is report frames =
    let answer : answer_from (closing behind) before.state before.lines before.packets [] ≡ ending close before.lines before.packets None =
    ap (λ (c : Close). answer_from c before.state before.lines before.packets []) how ∙ none_left close before.state before.lines before.packets in
    record {
      status = is ∙ sym (ap (λ (a : Status × List ℕ). a.0) answer);
      report = report ∙ ap (λ (a : Status × List ℕ). texts.report ++ a.1) (sym answer);
      frames = frames ∙ sym (append-nil texts.frames);
    }

pub past_end : (close : items.Close) → close ≢ shuts.Ended → closing (Closed close) ≡ Longer
past_end shuts.Ended other = absurd (other refl)
past_end shuts.TooLong other = refl
past_end (shuts.Broken why) other = refl

-- ---- the lines of a text

-- the front of a line that is too long is too long
same_line : (line : List ℕ) (state : HopState) → hop_line (shown line) state ≡ hop_line line state
unfolding shown
same_line line state = elim (cases_lt LINE_LIMIT (length line)) [
  | inl long ↦ long_line (take (LINE_LIMIT + 1) line) state (omega (arith, long, length-take (LINE_LIMIT + 1) line)) ∙ sym (long_line line state long)
  | inr short ↦ ap (λ (l : List ℕ). hop_line l state) (take_all (LINE_LIMIT + 1) line (omega (arith, short)))
]

same_packets : (state : HopState) (n : ℕ) (lines : List (List ℕ)) → packets_from state n (map shown lines) ≡ packets_from state n lines
unfolding packets_from
same_packets state n [] = refl
same_packets state n (line ∷ more) = go (hop_line line state) refl (λ said. same_packets (after state said) (n + 1) more)
  where
    go : (r : Result HopLine TextFault) → hop_line line state ≡ r → ((said : HopLine) → packets_from (after state said) (n + 1) (map shown more) ≡ packets_from (after state said) (n + 1) more)
        → packets_from state n (map shown (line ∷ more)) ≡ packets_from state n (line ∷ more)
    go (Err why) is rest = rw (same_line line state ∙ is, is, packets_from) refl
    go (Ok said) is rest = rw (same_line line state ∙ is, is, packets_from) (ap (λ (ps : List Packet). packet_in (n + 1) state said ++ ps) (rest said))

same_refusal : (state : HopState) (n : ℕ) (lines : List (List ℕ)) → refusal_from state n (map shown lines) ≡ refusal_from state n lines
unfolding refusal_from
same_refusal state n [] = refl
same_refusal state n (line ∷ more) = go (hop_line line state) refl (λ said. same_refusal (after state said) (n + 1) more)
  where
    go : (r : Result HopLine TextFault) → hop_line line state ≡ r → ((said : HopLine) → refusal_from (after state said) (n + 1) (map shown more) ≡ refusal_from (after state said) (n + 1) more)
        → refusal_from state n (map shown (line ∷ more)) ≡ refusal_from state n (line ∷ more)
    go (Err why) is rest = rw (same_line line state ∙ is, is, refusal_from) refl
    go (Ok said) is rest = rw (same_line line state ∙ is, is, refusal_from) (rest said)

same_count : (lines : List (List ℕ)) → length (map shown lines) ≡ length lines
same_count [] = refl
same_count (line ∷ more) = let rest = same_count more in omega (arith, rest)

-- the fronts of long lines do for them
pub same_answer : (close : Close) (state : HopState) (n k : ℕ) (lines : List (List ℕ)) → answer_from close state n k (map shown lines) ≡ answer_from close state n k lines
same_answer close state n k lines =
    ap (λ (ps : List Packet). behind (flat_map packet_text ps) (ending close (n + length (map shown lines)) (k + length ps) (refusal_from state n (map shown lines)))) (same_packets state n lines)
    ∙ ap₂ (λ (m : ℕ) (r : Option (ℕ × TextFault)). behind (flat_map packet_text (packets_from state n lines)) (ending close (n + m) (k + length (packets_from state n lines)) r)) (same_count lines) (same_refusal state n lines)

-- ---- a whole text

pub whole_answer : (octets : List ℕ) → answer_from (closing (Closed (closes (is_short octets)))) fresh 0 0 (map shown (lines_within octets)) ≡ hop_answer octets
unfolding hop_answer
whole_answer octets = same_answer (closing (Closed (closes (is_short octets)))) fresh 0 0 (lines_within octets) ∙ ap (λ (c : Close). answer_from c fresh 0 0 (lines_within octets)) (same (is_short octets))
  where
    same : (short : Bool) → closing (Closed (closes short)) ≡ close_of short
    same true = refl
    same false = refl

pub means_whole : (octets : List ℕ) → owed nothing_reached (lines_read [] TEXT_LIMIT false Ends octets).items (lines_read [] TEXT_LIMIT false Ends octets).behind ≡ alone (hop_answer octets)
means_whole octets = ap (λ (r : Reads (List ℕ)). owed nothing_reached r.items r.behind) (lines_of_whole octets) ∙ ap alone (whole_answer octets)

-- a text that is too long ends with no read error
longer_status : (n k : ℕ) (o : Option (ℕ × TextFault)) → (ending Longer n k o).0 ≡ InputRefused
longer_status n k (Some refusal) = refl
longer_status n k None = refl

pub means_front : (octets : List ℕ) → (owed nothing_reached (lines_read [] TEXT_LIMIT false Fails octets).items (lines_read [] TEXT_LIMIT false Fails octets).behind).status ≡ ReadFault
    → owed nothing_reached (lines_read [] TEXT_LIMIT false Fails octets).items (lines_read [] TEXT_LIMIT false Fails octets).behind ≡ alone (hop_cut octets)
unfolding hop_cut
means_front octets failed = elim (cases_lt TEXT_LIMIT (length octets)) [
  | inl over ↦
      let lines = lines_in false (take TEXT_LIMIT octets) in
      let long : owed nothing_reached (lines_read [] TEXT_LIMIT false Fails octets).items (lines_read [] TEXT_LIMIT false Fails octets).behind ≡ alone (answer_from Longer fresh 0 0 (map shown lines)) =
      ap (λ (r : Reads (List ℕ)). owed nothing_reached r.items r.behind) (lines_past_limit octets over) in
      absurd (apart (sym (longer_status (0 + length (map shown lines)) (0 + length (packets_from fresh 0 (map shown lines))) (refusal_from fresh 0 (map shown lines))) ∙ sym (ap (λ (v : Verdict). v.status) long) ∙ failed))
  | inr fits ↦ ap (λ (r : Reads (List ℕ)). owed nothing_reached r.items r.behind) (lines_of_front octets fits) ∙ ap alone (same_answer Cut fresh 0 0 (lines_in false octets))
]
  where
    apart : InputRefused ≡ ReadFault → ⊥
    apart e = cc
