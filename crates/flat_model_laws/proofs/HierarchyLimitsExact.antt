-- Where the hierarchy has room for a new group, and which limit it meets, exactly as the walk upward says.
use Rattle.std.proofs.Common.{◌≡◌, ℕ, ◌-◌, ◌<◌, ◌≤◌, Bool, true, false, ◌↔◌, List, length, Option, Some, None, refl, sym, ap, ◌∙◌, arith, is_some}
use Rattle.std.proofs.lemmas.Bool.Decides.{nat_tests}
use Rattle.std.specs.FinMap.{get}
use Rattle.flat_model.specs.Path.{Path, parent, at_or_below, strictly_below, upward}
use Rattle.flat_model.specs.State.{State, Attr, Limit, Unlimited, At}
use Rattle.flat_model.specs.Counts.{descendant_count, reaches, asks, first_path}
use Rattle.flat_model.specs.Command.{Refusal, Descendants, Depth}
use Rattle.flat_model.specs.Refuse.{refuse}
use Rattle.flat_model.specs.Step.{limit_met, first_refusal, blocked_make}
use Rattle.flat_model.specs.Limiting.{HasRoomFor, HasRoomBelow, MeetsDescendants, MeetsDepth}
use Rattle.flat_model.proofs.PathMembers.{upward_are}
use Rattle.flat_model.proofs.Nearest.{first_path_found}
use Rattle.flat_model_laws.proofs.HierarchyLimits.{stops, counts, deepens, refused_at, stops_nowhere, room_for, room_below, met_limit}
use Rattle.flat_model_laws.proofs.NearestLaws.{asks_not, nearest_found}

reaches_not : (n : ℕ) (l : Limit) → ((m : ℕ) → l ≡ At m → n < m) → reaches n l ≡ false
reaches_not n Unlimited h = refl
reaches_not n (At m) h = let l : n < m = h m refl in grind (arith, nat_tests)

reaches_is : (n m : ℕ) → m ≤ n → reaches n (At m) ≡ true
reaches_is n m h = grind (arith, nat_tests)

free_of : (b c : Bool) (a : Path) → b ≡ false → c ≡ false → refuse b (Descendants a) (refuse c (Depth a) None) ≡ None
free_of false false a h k = refl
free_of true c a h k = cc
free_of false true a h k = cc

-- ---- where there is room

room_at : (s : State) (q a : Path) → HasRoomFor s q a → limit_met s q a ≡ None
room_at s q a h =
    free_of (counts s a) (deepens s q a) a
    (asks_not (λ attr. reaches (descendant_count s a) attr.limits.descendants) (get s.groups a)
    (λ attr there. reaches_not (descendant_count s a) attr.limits.descendants (λ m limit. h.count attr m there limit)))
    (asks_not (λ attr. reaches (length q - length a) attr.limits.depth) (get s.groups a) (λ attr there. reaches_not (length q - length a) attr.limits.depth (λ m limit. h.deep attr m there limit)))

pub room_is : (s : State) (q a : Path) → HasRoomFor s q a ↔ (limit_met s q a ≡ None)
room_is s q a = (room_at s q a, room_for s q a)

no_refusal : (o : Option Refusal) (r : Refusal) → o ≡ Some r → o ≡ None → None ≡ Some r
no_refusal o r e n = sym n ∙ e

has_room : (s : State) (p : Path) → HasRoomBelow s (parent p) → blocked_make s p ≡ None
has_room s p h =
    let q = parent p in
    elim (blocked_make s p) as (λ o. blocked_make s p ≡ o → o ≡ None) [
      | None ↦ λ e. refl
      | Some r ↦ λ e.
          let f = refused_at (limit_met s q) (upward q) r e in
          let found = first_path_found (stops (limit_met s q)) (upward q) f.at f.first in
          let above : at_or_below q f.at ≡ true = (upward_are q f.at).0 (found.place, found.inside, found.there) in
          let no = no_refusal (limit_met s q f.at) r f.refuses (room_at s q f.at (h f.at above)) in cc
    ] refl

pub free_is : (s : State) (p : Path) → HasRoomBelow s (parent p) ↔ (blocked_make s p ≡ None)
free_is s p = (has_room s p, room_below s p)

-- ---- the limit that is met

-- the refusal of the walk is that of the first path where the test refuses
first_refuses : (test : Path → Option Refusal) (ps : List Path) (a : Path) (r : Refusal) → first_path (stops test) ps ≡ Some a → test a ≡ Some r → first_refusal test ps ≡ Some r
first_refuses test ps a r first is =
    elim (first_refusal test ps) as (λ o. first_refusal test ps ≡ o → o ≡ Some r) [
      | None ↦ λ e. let n : None ≡ Some a = sym (stops_nowhere test ps e) ∙ first in cc
      | Some x ↦ λ e.
          let f = refused_at test ps x e in
          let some : Some f.at ≡ Some a = sym f.first ∙ first in
          let same : f.at ≡ a = cc in
          sym f.refuses ∙ ap test same ∙ is
    ] refl

-- a group that refuses, with none below it on the walk that does
refuses_at : (s : State) (p a : Path) (r : Refusal) → at_or_below (parent p) a ≡ true → limit_met s (parent p) a ≡ Some r
    → ((b : Path) → at_or_below (parent p) b ≡ true → strictly_below b a ≡ true → HasRoomFor s (parent p) b) → blocked_make s p ≡ Some r
refuses_at s p a r above is near =
    let q = parent p in
    first_refuses (limit_met s q) (upward q) a r
    (nearest_found (stops (limit_met s q)) q a above (ap is_some is) (λ b up under. ap is_some (room_at s q b (near b up under)))) is

asks_is : (test : Attr → Bool) (o : Option Attr) (attr : Attr) → o ≡ Some attr → test attr ≡ true → asks test o ≡ true
asks_is test o attr there holds = ap (asks test) there ∙ holds

meets_descendants : (s : State) (p a : Path) → MeetsDescendants s (parent p) a → blocked_make s p ≡ Some (Descendants a)
meets_descendants s p a m =
    let q = parent p in
    let full : counts s a ≡ true =
    asks_is (λ attr. reaches (descendant_count s a) attr.limits.descendants) (get s.groups a) m.attr m.there
    (ap (reaches (descendant_count s a)) m.limit ∙ reaches_is (descendant_count s a) m.most m.met) in
    refuses_at s p a (Descendants a) m.above (ap (λ b. refuse b (Descendants a) (refuse (deepens s q a) (Depth a) None)) full) m.nearest

meets_depth : (s : State) (p a : Path) → MeetsDepth s (parent p) a → blocked_make s p ≡ Some (Depth a)
meets_depth s p a m =
    let q = parent p in
    let own : (attr : Attr) → get s.groups a ≡ Some attr → m.attr ≡ attr = λ attr there. let e : Some m.attr ≡ Some attr = sym m.there ∙ there in cc in
    let free : counts s a ≡ false = ap (asks (λ attr. reaches (descendant_count s a) attr.limits.descendants)) m.there ∙ reaches_not (descendant_count s a) m.attr.limits.descendants m.room in
    let deep : deepens s q a ≡ true =
    asks_is (λ attr. reaches (length q - length a) attr.limits.depth) (get s.groups a) m.attr m.there
    (ap (reaches (length q - length a)) m.limit ∙ reaches_is (length q - length a) m.most m.met) in
    refuses_at s p a (Depth a) m.above (ap (λ b. refuse b (Descendants a) (refuse (deepens s q a) (Depth a) None)) free ∙ ap (λ b. refuse b (Depth a) None) deep) m.nearest

pub descendants_is : (s : State) (p a : Path) → MeetsDescendants s (parent p) a ↔ (blocked_make s p ≡ Some (Descendants a))
descendants_is s p a = (meets_descendants s p a, met_limit s p (Descendants a))

pub depth_is : (s : State) (p a : Path) → MeetsDepth s (parent p) a ↔ (blocked_make s p ≡ Some (Depth a))
depth_is s p a = (meets_depth s p a, met_limit s p (Depth a))
