use Rattle.std.proofs.Common.{Ok, ap, ◌∙◌, option_map}
use Rattle.pcap_frames.specs.Seen.{record_seen}
use Rattle.pcap_frames.proofs.Drained.{next_shorter}
use Rattle.show_library.proofs.database.database.Goals as goal

pub records-smaller : goal.records-smaller
records-smaller c =
    next_shorter c.records.reader c.next.new.self (record_seen c.in-Ok-Some.record) (c.in-Ok-Some.ensures.exact ∙ ap (λ o. Ok (option_map record_seen o)) c.in-Ok-Some.field-0-is) c.in-Ok-Some.ensures.after
