-- What a router does on octets is reported in the words of items, where each item that is sent is read off its frame again.
use Rattle.std.proofs.Common.{◌≡◌, ℕ, zero, suc, ◌<◌, Bool, true, false, List, [], ◌∷◌, length, map, slice_get, slice_index_or, Option, Some, refl, sym, ap, subst, ◌∙◌, arith}
use mathlib.Core.Bool.{false≢true}
use Rattle.std.specs.List.{AllByRecursion}
use Rattle.wire_base.specs.declared.conf.End.{End}
use Rattle.wire_base.specs.declared.conf.Level.{Level}
use Rattle.wire_base.specs.declared.conf.RouterConf.{RouterConf}
use Rattle.wire_base.specs.model.Item.{Item, frame_of}
use Rattle.wire_base.specs.model.OnFrame.{Effects}
use Rattle.laws_router.specs.Becoming.{HaveBecome}
use Rattle.laws_router.proofs.DomainLaws.{became_from}
use Rattle.domain_model.specs.declared.step_out.WireFrame.{WireFrame}
use Rattle.domain_model.specs.Moves.{Sending, Made}
use Rattle.frames_in_flight.specs.Framed.{frame_on, frame_from, frame_over, sent_of, wire_of, wire_from, sending_of, got_line, drop_line, ends_of, IsItemFrame, IsFramed}
use Rattle.domain_model.proofs.EachLaws.{each_weaker, each_mapped}
use Rattle.domain_model.proofs.QueueLaws.{got_within}

-- ---- words on lists

self_mapped : {X Y : Type 0} (f : X → Y) (g : Y → X) (xs : List X) → AllByRecursion (λ x. g (f x) ≡ x) xs → xs ≡ map g (map f xs)
self_mapped f g [] all = refl
self_mapped {X} f g (x ∷ xs) all = ap (λ (y : X). y ∷ xs) (sym all.0) ∙ ap (λ (l : List X). g (f x) ∷ l) (self_mapped f g xs all.1)

both_mapped : {X Y Z : Type 0} (f : X → Y) (g : Y → Z) (h : X → Z) (xs : List X) → AllByRecursion (λ x. h x ≡ g (f x)) xs → map h xs ≡ map g (map f xs)
both_mapped f g h [] all = refl
both_mapped {X} {Y} {Z} f g h (x ∷ xs) all = ap (λ (z : Z). z ∷ map h xs) all.0 ∙ ap (λ (l : List Z). g (f x) ∷ l) (both_mapped f g h xs all.1)

pub up_within : (up : List Bool) (i : ℕ) → slice_index_or up i false ≡ true → i < length up
up_within [] i h = absurd (false≢true h)
up_within (u ∷ up) zero h = omega arith
up_within (u ∷ up) (suc i) h = let k = up_within up i h in omega (arith, k)

-- ---- routers by their places

-- The router at an index has the level and the interfaces of r. So it is with the configuration of a router as it started,
-- and as it is now.
pub record IsAt (os : List RouterConf) (a : ℕ) (r : RouterConf) : Type 0 where
  pub there : RouterConf
  pub at : slice_get os a ≡ Some there
  pub level : there.level ≡ r.level
  pub ends : there.ends ≡ r.ends

pub at_self : (os : List RouterConf) (a : ℕ) (r : RouterConf) → slice_get os a ≡ Some r → IsAt os a r
at_self os a r at = record { there = r; at = at; level = refl; ends = refl }

pub at_now : (os confs : List RouterConf) (a : ℕ) (r : RouterConf) → HaveBecome os confs → slice_get confs a ≡ Some r → IsAt os a r
at_now os confs a r become at =
    let from = became_from os confs a r become at in
    record { there = from.0; at = from.1; level = sym (ap (λ (x : RouterConf). x.level) from.2.one); ends = sym (ap (λ (x : RouterConf). x.ends) from.2.one) }

-- ---- frames over an end

pub over_at : (os : List RouterConf) (a : ℕ) (r : RouterConf) (link : ℕ) (e : End) (x : Item) → IsAt os a r → slice_get r.ends link ≡ Some e → frame_over os a link x ≡ frame_of r.level e x
over_at os a r link e x here there =
    ap (λ (o : Option RouterConf). frame_from o link x) here.at
    ∙ ap (λ (l : Level). frame_on l (slice_get here.there.ends link) x) here.level
    ∙ ap (λ (es : List End). frame_on r.level (slice_get es link) x) here.ends
    ∙ ap (λ (o : Option End). frame_on r.level o x) there

pub end_within : (os : List RouterConf) (a : ℕ) (r : RouterConf) (link : ℕ) (e : End) → IsAt os a r → slice_get r.ends link ≡ Some e → link < length (ends_of (slice_get os a))
end_within os a r link e here there =
    subst (λ (o : Option RouterConf). link < length (ends_of o)) (sym here.at) (subst (λ (es : List End). link < length es) (sym here.ends) (got_within r.ends link e there))

-- ---- what is read back

-- the frame of what is sent is a frame of the item, which is read off it
pub record IsReadBack (os confs : List RouterConf) (a : ℕ) (number : Option ℕ) (s : Sending) : Type 0 where
  pub frame : IsItemFrame os confs a number (sent_of os s)
  pub is : sending_of os confs a number (sent_of os s) ≡ s

told : (os confs : List RouterConf) (a : ℕ) (number : Option ℕ) (s : Sending) → IsReadBack os confs a number s → wire_of os s ≡ wire_from os a (sent_of os s)
told os confs a number s k = ap one (sym k.is)
  where
    one : Sending → WireFrame
    one z = record { from = z.from; to = z.to; octets = frame_over os s.from s.link s.item }

pub framed_by : (os confs : List RouterConf) (a : ℕ) (number : Option ℕ) (ids : List ℕ) (e : Effects) (m : Made) → e.sent ≡ map (sent_of os) m.sent → AllByRecursion (IsReadBack os confs a number) m.sent → m.got ≡ map (got_line a number) e.got → m.drops ≡ map (drop_line a number ids) e.drops → IsFramed os confs a number ids e m
framed_by os confs a number ids e m sent back got drops =
    record {
      frames = subst (AllByRecursion (IsItemFrame os confs a number)) (sym sent)
          (each_mapped (IsItemFrame os confs a number) (sent_of os) m.sent (each_weaker (IsReadBack os confs a number) (λ s. IsItemFrame os confs a number (sent_of os s)) (λ s k. k.frame) m.sent back));
      sent = self_mapped (sent_of os) (sending_of os confs a number) m.sent (each_weaker (IsReadBack os confs a number) (λ s. sending_of os confs a number (sent_of os s) ≡ s) (λ s k. k.is) m.sent back)
          ∙ ap (map (sending_of os confs a number)) (sym sent);
      wires = both_mapped (sent_of os) (wire_from os a) (wire_of os) m.sent (each_weaker (IsReadBack os confs a number) (λ s. wire_of os s ≡ wire_from os a (sent_of os s)) (told os confs a number) m.sent back)
          ∙ ap (map (wire_from os a)) (sym sent);
      got = got;
      drops = drops;
    }
