-- A chain that has room is pushed with no allocation.
use Rattle.std.proofs.Common.{◌≡◌, ℕ, ◌+◌, Bool, true, false, ◌∷◌, length, Result, Ok, Err, ap, refl, ◌∙◌, arith}
use Rattle.smallvec.specs.SmallVec.{SmallVec, small_vec_len, HasRoomFor}
use Rattle.flat_model.specs.Path.{Name, Path}
use Rattle.group_tree.specs.Node.{PushesInPlace}

-- nothing is pushed
pub pushes_nothing : {E : Type 0} (v : SmallVec ℕ) (n : ℕ) (b : Bool) → PushesInPlace {E = E} v v n (Ok b)
pushes_nothing v n b = record { len = omega arith; room = λ h. (refl, refl) }

one_name : (names : Path) (n : Name) (p : Path) → names ≡ n ∷ p → length names ≡ length p + 1
one_name names n p e = let l : length names ≡ length (n ∷ p) = ap length e in omega arith

-- what the child pushed, seen from one name above
pub pushes_below : {E : Type 0} (old mid : SmallVec ℕ) (names : Path) (n : Name) (p : Path) (b c : Bool) → names ≡ n ∷ p
    → PushesInPlace {E = E} old mid (length p) (Ok b) → PushesInPlace {E = E} old mid (length names) (Ok c)
pushes_below old mid names n p b c e h =
    let l = one_name names n p e in
    let k = h.len in
    record { len = omega arith; room = λ r. (refl, (h.room (omega arith)).1) }

not_ok : false ≡ true → ⊥
not_ok h = cc

-- a refused allocation: there was no room
pub refused_below : {E F : Type 0} (old mid : SmallVec ℕ) (names : Path) (n : Name) (p : Path) (x : E) (r : Result Bool F) → names ≡ n ∷ p
    → PushesInPlace {E = E} old mid (length p) (Err x) → PushesInPlace {E = F} old mid (length names) r
refused_below old mid names n p x r e h =
    let l = one_name names n p e in
    let k = h.len in
    record { len = omega arith; room = λ q. absurd (not_ok (h.room (omega arith)).0) }

-- one slot more
pub pushes_one : {E : Type 0} (old mid new : SmallVec ℕ) (names : Path) (n : Name) (p : Path) (b c : Bool) → names ≡ n ∷ p
    → PushesInPlace {E = E} old mid (length p) (Ok b) → small_vec_len new ≡ small_vec_len mid + 1
    → (HasRoomFor mid 1 → new.capacity ≡ mid.capacity) → PushesInPlace {E = E} old new (length names) (Ok c)
pushes_one old mid new names n p b c e h more kept =
    let l = one_name names n p e in
    let k = h.len in
    record {
      len = omega arith;
      room = λ r.
          let same = (h.room (omega arith)).1 in
          let again = kept (omega arith) in
          (refl, again ∙ same);
    }

pub push_refused : {F : Type 0} (old mid new : SmallVec ℕ) (names : Path) (n : Name) (p : Path) (b : Bool) (r : Result Bool F)
    → names ≡ n ∷ p → PushesInPlace {E = F} old mid (length p) (Ok b) → new ≡ mid → (HasRoomFor mid 1 → false ≡ true)
    → PushesInPlace {E = F} old new (length names) r
push_refused old mid new names n p b r e h same succeeds =
    let l = one_name names n p e in
    let k = h.len in
    let long : small_vec_len new ≡ small_vec_len mid = ap small_vec_len same in
    record { len = omega arith; room = λ q. let cap = (h.room (omega arith)).1 in absurd (not_ok (succeeds (omega arith))) }
