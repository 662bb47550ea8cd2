use Rattle.std.proofs.Common.{◌+◌, ◌*◌, ◌∙◌, ℕ, take, drop, ap, sym, arith}
use Rattle.byteorder.specs.Numbers.{length-bytes_high_first}
use Rattle.replay_text.specs.declared.block.TheConstants.{LISTED}
use Rattle.replay_text.proofs.Commas.{text_put}
use Rattle.replay_text.proofs.block.put_short.Goals as goal

pub returns-clause-text : goal.returns-clause-text
returns-clause-text c =
    text_put c.args.room.now c.put_word.new.room _ _ c.args.at c.args.number (c.args.at + c.text_len.result) (omega (arith, c.requires.room)) c.requires.small
    (ap (λ (n : ℕ). take 4 (drop (4 * n) LISTED)) (sym c.from.ensures) ∙ c.word_at-text.ensures.octets) (length-bytes_high_first 4 c.word_at-text.result) c.put_word.ensures (ap (λ (n : ℕ). c.args.at + n) c.text_len.ensures.value) (omega (arith, c.text_len.ensures.value, c.text_len.ensures.few))
