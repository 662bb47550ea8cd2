-- Lists of ids, piece by piece.
use Rattle.std.proofs.Common.{◌≡◌, ℕ, List, [], ◌∷◌, Option, Some, None, refl, sym, ap, ◌∙◌}
use Rattle.wire_base.specs.model.BitSet.{with_member}
use Rattle.bier_bits.specs.Any.{any_of, bsl_of, positions_of}
use Rattle.bier_bits.specs.declared.any.AnyBits.{AnyBits}
use Rattle.bier_bits.specs.declared.any.AnyBits.TheVariants.{B64, B128, B256, B512, B1024, B2048, B4096}
use Rattle.replay_text.specs.Pieces.{pieces}
use Rattle.replay_text.specs.Ids.{id_of, ids_after}

pub ids_fail : (bound : ℕ) (set : List ℕ) (text piece : List ℕ) (more : List (List ℕ)) (total : Option (List ℕ)) → pieces 44 text ≡ piece ∷ more → id_of bound piece ≡ None → ids_after bound set (pieces 44 text) ≡ total → total ≡ None
unfolding ids_after
ids_fail bound set text piece more total is bad so_far = sym so_far ∙ ap (ids_after bound set) is ∙ rw bad refl

pub ids_step : (bound id : ℕ) (set new : List ℕ) (text piece : List ℕ) (more : List (List ℕ)) (total : Option (List ℕ)) → new ≡ with_member id set → pieces 44 text ≡ piece ∷ more → id_of bound piece ≡ Some id → ids_after bound set (pieces 44 text) ≡ total → ids_after bound new more ≡ total
unfolding ids_after
ids_step bound id set new text piece more total changed is good so_far =
    let one : ids_after bound set (piece ∷ more) ≡ ids_after bound (with_member id set) more = rw good refl in
    ap (λ (s : List ℕ). ids_after bound s more) changed ∙ sym (ap (ids_after bound set) is ∙ one) ∙ so_far

pub any_itself : (bits : AnyBits) → any_of (bsl_of bits) (positions_of bits) ≡ bits
any_itself (B64 set) = refl
any_itself (B128 set) = refl
any_itself (B256 set) = refl
any_itself (B512 set) = refl
any_itself (B1024 set) = refl
any_itself (B2048 set) = refl
any_itself (B4096 set) = refl

pub ids_done : (bound : ℕ) (set : List ℕ) (total : Option (List ℕ)) → ids_after bound set [] ≡ total → total ≡ Some set
unfolding ids_after
ids_done bound set total so_far = sym so_far
