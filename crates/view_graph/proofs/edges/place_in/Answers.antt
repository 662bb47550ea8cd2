use Rattle.std.proofs.Common.{arith}
use Rattle.view_graph.proofs.EdgeLaws.{place_within}
use Rattle.view_graph.proofs.NumberLaws.{above_key, not_above_key, keys_long}
use Rattle.view_graph.proofs.edges.place_in.Goals as goal

pub halves-init : goal.halves-init
halves-init c = record {
  low = λ s is. omega arith;
  high = λ s is. place_within s c.args.claims.now;
  within = omega arith;
}

pub bounds-keys-middle : goal.bounds-keys-middle
bounds-keys-middle c = omega (arith, c.halves.invariant.within, c.halves-test.true, keys_long c.args.keys.now c.args.claims.now c.requires.keys)

pub halves-preserved-then-key-found : goal.halves-preserved-then-key-found
halves-preserved-then-key-found c =
    let inv = c.halves.invariant in
    record {
      low = λ s is.
          let above = above_key c.args.keys.now c.args.claims.now _ c.args.key s c.requires.keys c.requires.order (omega (arith, inv.within, c.halves-test.true)) is c.if-key-found.true in
          omega (arith, above);
      high = inv.high;
      within = inv.within;
    }

pub halves-preserved : goal.halves-preserved
halves-preserved c =
    let inv = c.halves.invariant in
    record {
      low = inv.low;
      high = λ s is. not_above_key c.args.keys.now c.args.claims.now _ c.args.key s c.requires.keys (omega (arith, inv.within, c.halves-test.true)) is c.if-key-found.false;
      within = omega (arith, inv.within, c.halves-test.true);
    }

pub returns : goal.returns
returns c = λ s is.
    let low = c.halves.invariant.low s is in
    let high = c.halves.invariant.high s is in
    omega (arith, low, high, c.halves-test.false)
