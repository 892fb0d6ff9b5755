-- The limits of the hierarchy: what they let through, and which of them refuses a new group.
use Rattle.std.proofs.Common.{◌≡◌, ℕ, ◌-◌, Bool, true, false, cond, not, List, [], ◌∷◌, length, Option, Some, None, refl, ap, subst, ◌∙◌, is_some, ltb}
use Rattle.std.specs.List.{Contains}
use Rattle.std.specs.Option.{option_or}
use Rattle.std.specs.FinMap.{get, len}
use Rattle.flat_model.specs.Path.{Path, parent, at_or_below, strictly_below, upward}
use Rattle.flat_model.specs.State.{State}
use Rattle.flat_model.specs.Counts.{descendant_count, is_group, reaches, asks, first_path}
use Rattle.flat_model.specs.Command.{MakeGroup, Refusal, Exists, NoGroup, Descendants, Depth, NoSlot}
use Rattle.flat_model.specs.Refuse.{refuse}
use Rattle.flat_model.specs.Step.{refusal, limit_met, first_refusal, blocked_make}
use Rattle.flat_model.specs.Limiting.{HasRoomFor, HasRoomBelow, MeetsDescendants, MeetsDepth}
use Rattle.flat_model.proofs.PathMembers.{upward_are}
use Rattle.flat_model.proofs.RefusalTests.{passed, beyond}
use Rattle.flat_model.proofs.Nearest.{first_path_found, first_path_none, first_is_nearest}
use Rattle.flat_model.proofs.Limits.{met_by, room_by, asked_by, asked_no}
use Rattle.flat_model.proofs.Options.{not_some_is_none}

-- ---- the walk upward

-- whether the test refuses at a path
abbrev pub stops : (Path → Option Refusal) → Path → Bool
stops test p = is_some (test p)

-- the first refusal that a walk finds
pub record RefusedAt (test : Path → Option Refusal) (ps : List Path) (r : Refusal) : Type 0 where
  pub at : Path
  pub first : first_path (stops test) ps ≡ Some at
  pub refuses : test at ≡ Some r

pub refused_at : (test : Path → Option Refusal) (ps : List Path) (r : Refusal) → first_refusal test ps ≡ Some r → RefusedAt test ps r
refused_at test [] r e = cc
refused_at test (p ∷ ps) r e =
    elim (test p) as (λ o. test p ≡ o → option_or o (first_refusal test ps) ≡ Some r → RefusedAt test (p ∷ ps) r) [
      | None ↦ λ t is. let f = refused_at test ps r is in
          record { at = f.at; first = ap (λ (o : Option Refusal). cond (is_some o) (Some p) (first_path (stops test) ps)) t ∙ f.first; refuses = f.refuses }
      | Some x ↦ λ t is. record { at = p; first = ap (λ (o : Option Refusal). cond (is_some o) (Some p) (first_path (stops test) ps)) t; refuses = t ∙ is }
    ] refl e

pub stops_nowhere : (test : Path → Option Refusal) (ps : List Path) → first_refusal test ps ≡ None → first_path (stops test) ps ≡ None
stops_nowhere test [] e = refl
stops_nowhere test (p ∷ ps) e =
    elim (test p) as (λ o. test p ≡ o → option_or o (first_refusal test ps) ≡ None → first_path (stops test) (p ∷ ps) ≡ None) [
      | None ↦ λ t is. ap (λ (o : Option Refusal). cond (is_some o) (Some p) (first_path (stops test) ps)) t ∙ stops_nowhere test ps is
      | Some x ↦ λ t is. cc
    ] refl e

pub walk_passes : (test : Path → Option Refusal) (ps : List Path) (a : Path) → first_refusal test ps ≡ None → Contains ps a → test a ≡ None
walk_passes test ps a e h = not_some_is_none (test a) (first_path_none (stops test) ps a (stops_nowhere test ps e) h)

-- ---- what a group lets through

abbrev pub counts : State → Path → Bool
counts s a = asks (λ attr. reaches (descendant_count s a) attr.limits.descendants) (get s.groups a)

abbrev pub deepens : State → Path → Path → Bool
deepens s q a = asks (λ attr. reaches (length q - length a) attr.limits.depth) (get s.groups a)

pub room_for : (s : State) (q a : Path) → limit_met s q a ≡ None → HasRoomFor s q a
room_for s q a e = record {
  count = λ attr m there limit.
      room_by _ attr.limits.descendants m (asked_no (λ attr. reaches (descendant_count s a) attr.limits.descendants) (get s.groups a) attr
      (passed (counts s a) (Descendants a) (refuse (deepens s q a) (Depth a) None) e) there) limit;
  deep = λ attr m there limit.
      room_by _ attr.limits.depth m (asked_no (λ attr. reaches (length q - length a) attr.limits.depth) (get s.groups a) attr
      (passed (deepens s q a) (Depth a) None (beyond (counts s a) (Descendants a) (refuse (deepens s q a) (Depth a) None) e)) there)
      limit;
}

pub room_below : (s : State) (p : Path) → blocked_make s p ≡ None → HasRoomBelow s (parent p)
room_below s p e = λ a h. room_for s (parent p) a (walk_passes (limit_met s (parent p)) (upward (parent p)) a e ((upward_are (parent p) a).1 h))

-- ---- what a limit that refuses says

-- each group below a on the way to q has room
abbrev RoomTo : State → Path → Path → Type 0
RoomTo s q a = (b : Path) → at_or_below q b ≡ true → strictly_below b a ≡ true → HasRoomFor s q b

abbrev MeetsLimit : State → Path → Refusal → Type 0
MeetsLimit s q (Descendants a) = MeetsDescendants s q a
MeetsLimit s q (Depth a) = MeetsDepth s q a
MeetsLimit s q _ = Unit {0}

met_descendants : (s : State) (q a : Path) → at_or_below q a ≡ true → RoomTo s q a → counts s a ≡ true → MeetsDescendants s q a
met_descendants s q a h near e =
    let k = asked_by (λ attr. reaches (descendant_count s a) attr.limits.descendants) (get s.groups a) e in
    let m = met_by (descendant_count s a) k.attr.limits.descendants k.yes in
    record { above = h; attr = k.attr; there = k.there; most = m.most; limit = m.limit; met = m.met; nearest = near }

met_depth : (s : State) (q a : Path) → at_or_below q a ≡ true → RoomTo s q a → counts s a ≡ false → deepens s q a ≡ true → MeetsDepth s q a
met_depth s q a h near free e =
    let k = asked_by (λ attr. reaches (length q - length a) attr.limits.depth) (get s.groups a) e in
    let m = met_by (length q - length a) k.attr.limits.depth k.yes in
    record {
      above = h;
      attr = k.attr;
      there = k.there;
      most = m.most;
      limit = m.limit;
      met = m.met;
      nearest = near;
      room = λ most limit. room_by _ k.attr.limits.descendants most (asked_no (λ attr. reaches (descendant_count s a) attr.limits.descendants) (get s.groups a) k.attr free k.there) limit;
    }

met_of : (s : State) (q a : Path) (b c : Bool) (r : Refusal) → (b ≡ true → MeetsDescendants s q a)
    → (b ≡ false → c ≡ true → MeetsDepth s q a) → refuse b (Descendants a) (refuse c (Depth a) None) ≡ Some r → MeetsLimit s q r
met_of s q a true c r h k e = subst (MeetsLimit s q) (let same : Descendants a ≡ r = cc in same) (h refl)
met_of s q a false true r h k e = subst (MeetsLimit s q) (let same : Depth a ≡ r = cc in same) (k refl refl)
met_of s q a false false r h k e = cc

-- a refusal of the walk names the nearest limit that is met
pub met_limit : (s : State) (p : Path) (r : Refusal) → blocked_make s p ≡ Some r → MeetsLimit s (parent p) r
met_limit s p r e =
    let q = parent p in
    let f = refused_at (limit_met s q) (upward q) r e in
    let found = first_path_found (stops (limit_met s q)) (upward q) f.at f.first in
    let h : at_or_below q f.at ≡ true = (upward_are q f.at).0 (found.place, found.inside, found.there) in
    let near : RoomTo s q f.at = λ b up under. room_for s q b (not_some_is_none (limit_met s q b) (first_is_nearest (stops (limit_met s q)) q f.at b f.first up under)) in
    met_of s q f.at (counts s f.at) (deepens s q f.at) r (met_descendants s q f.at h near) (met_depth s q f.at h near) f.refuses

-- which refusals of a new group come from a limit
abbrev by_limit : Refusal → Bool
by_limit (Descendants a) = true
by_limit (Depth a) = true
by_limit _ = false

from_limit : (a b : Bool) (q : Path) (o : Option Refusal) (d : Bool) (r : Refusal) → by_limit r ≡ true
    → refuse a Exists (refuse b (NoGroup q) (option_or o (refuse d NoSlot None))) ≡ Some r → o ≡ Some r
from_limit true b q o d r l e = let same : Exists ≡ r = cc in let f : false ≡ true = ap by_limit same ∙ l in cc
from_limit false true q o d r l e = let same : NoGroup q ≡ r = cc in let f : false ≡ true = ap by_limit same ∙ l in cc
from_limit false false q None true r l e = let same : NoSlot ≡ r = cc in let f : false ≡ true = ap by_limit same ∙ l in cc
from_limit false false q None false r l e = cc
from_limit false false q (Some x) d r l e = e

pub make_refused : (slots : ℕ) (s : State) (p : Path) (r : Refusal) → by_limit r ≡ true → refusal slots s (MakeGroup p) ≡ Some r → MeetsLimit s (parent p) r
make_refused slots s p r l e = met_limit s p r (from_limit (is_group s p) (not (is_group s (parent p))) (parent p) (blocked_make s p) (ltb slots (len s.groups)) r l e)

make_open : (a b : Bool) (q : Path) (o : Option Refusal) (d : Bool) → refuse a Exists (refuse b (NoGroup q) (option_or o (refuse d NoSlot None))) ≡ None → o ≡ None
make_open true b q o d e = cc
make_open false true q o d e = cc
make_open false false q None d e = refl
make_open false false q (Some r) d e = cc

-- a new group that is accepted has room under every group above it
pub make_fits : (slots : ℕ) (s : State) (p : Path) → refusal slots s (MakeGroup p) ≡ None → HasRoomBelow s (parent p)
make_fits slots s p e = room_below s p (make_open (is_group s p) (not (is_group s (parent p))) (parent p) (blocked_make s p) (ltb slots (len s.groups)) e)
