use Rattle.std.proofs.Common.{ℕ, take, sym, ap, ◌∙◌, arith}
use Rattle.replay_text.proofs.Longer.{front_of_longer}
use Rattle.replay_text.proofs.block.put_front.Goals as goal

pub returns-clause-text : goal.returns-clause-text
returns-clause-text c =
    front_of_longer c.args.at c.args.len c.put_text.new.room c.args.room.now c.args.text.now (omega (arith, c.requires.short, c.told-text)) (omega (arith, c.told-room, c.requires.room)) (ap (λ (n : ℕ). take n c.put_text.new.room) (sym c.put_text.ensures.at) ∙ c.put_text.ensures.text)
