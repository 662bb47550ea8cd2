use Rattle.std.proofs.Common.{◌++◌, ap, ◌∙◌, List, ℕ, drop}
use Rattle.gre_ip.proofs.Tunnels.{written_again, written_held, written_only, written_fits}
use Rattle.gre_ip.proofs.write.write_tunnel.Goals as goal

pub returns-clause-octets : goal.returns-clause-octets
returns-clause-octets c carried n =
    ap (λ (l : List ℕ). l ++ drop 24 c.args.out.now) (c.copy_from_slice.ensures.after ∙ c.as_slice.ensures.value ∙ c.heads.ensures.items carried n)

pub returns-clause-again : goal.returns-clause-again
returns-clause-again c carried rest n =
    written_again c.args.t.now c.heads.result.items _ (drop 24 c.args.out.now) carried rest c.heads.ensures.len (c.heads.ensures.items carried n)
    (ap (λ (l : List ℕ). l ++ drop 24 c.args.out.now) (c.copy_from_slice.ensures.after ∙ c.as_slice.ensures.value))
    (written_fits c.args.t.now carried c.heads.ensures.src c.heads.ensures.dst c.heads.ensures.ttl c.requires.size n)

pub returns-clause-held : goal.returns-clause-held
returns-clause-held c carried rest from n =
    written_held c.args.t.now c.heads.result.items _ (drop 24 c.args.out.now) carried rest c.heads.ensures.len (c.heads.ensures.items carried n)
    (ap (λ (l : List ℕ). l ++ drop 24 c.args.out.now) (c.copy_from_slice.ensures.after ∙ c.as_slice.ensures.value))
    (written_fits c.args.t.now carried c.heads.ensures.src c.heads.ensures.dst c.heads.ensures.ttl c.requires.size n) from c.requires.ordered n

pub returns-clause-only : goal.returns-clause-only
returns-clause-only c carried other n fits e =
    written_only c.args.t.now c.heads.result.items _ (drop 24 c.args.out.now) carried other c.heads.ensures.len (c.heads.ensures.items carried n)
    (ap (λ (l : List ℕ). l ++ drop 24 c.args.out.now) (c.copy_from_slice.ensures.after ∙ c.as_slice.ensures.value))
    (written_fits c.args.t.now carried c.heads.ensures.src c.heads.ensures.dst c.heads.ensures.ttl c.requires.size n) fits e
