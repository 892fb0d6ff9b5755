-- What is found first on the walk upward is exactly the nearest that passes.
use Rattle.std.proofs.Common.{◌≡◌, Bool, true, false, Option, Some, None, refl, sym, ap, inl, inr}
use Rattle.flat_model.specs.Path.{Path, at_or_below, strictly_below, same_path, upward}
use Rattle.flat_model.specs.State.{Attr}
use Rattle.flat_model.specs.Counts.{first_path, asks}
use Rattle.flat_model.proofs.PathLaws.{at_or_below_either, strictly_below_is, same_path_is}
use Rattle.flat_model.proofs.PathMembers.{upward_are}
use Rattle.flat_model.proofs.Nearest.{first_path_found, first_path_none, first_is_nearest}
use Rattle.flat_model.proofs.Booleans.{apart}

-- of two groups, one is strictly below the other or they are one
strictly : (b a : Path) → at_or_below b a ≡ true → same_path b a ≡ false → strictly_below b a ≡ true
strictly b a h n = (strictly_below_is b a).1 (h, n)

-- a group that passes, with none below it on the walk that does, is what the walk finds
pub nearest_found : (test : Path → Bool) (g a : Path) → at_or_below g a ≡ true → test a ≡ true
    → ((b : Path) → at_or_below g b ≡ true → strictly_below b a ≡ true → test b ≡ false) → first_path test (upward g) ≡ Some a
nearest_found test g a above passes near =
    elim (first_path test (upward g)) as (λ o. first_path test (upward g) ≡ o → o ≡ Some a) [
      | None ↦ λ e. absurd (apart (test a) passes (first_path_none test (upward g) a e ((upward_are g a).1 above)))
      | Some b ↦ λ e. found b e
    ] refl
  where
    found : (b : Path) → first_path test (upward g) ≡ Some b → Some b ≡ Some a
    found b e =
        let f = first_path_found test (upward g) b e in
        let over : at_or_below g b ≡ true = (upward_are g b).0 (f.place, f.inside, f.there) in
        elim (same_path b a) as (λ t. same_path b a ≡ t → Some b ≡ Some a) [
          | true ↦ λ s. ap Some ((same_path_is b a).0 s)
          | false ↦ λ s. elim (at_or_below_either g b a over above) as (λ _. Some b ≡ Some a) [
            | inl h ↦ absurd (apart (test b) f.passes (near b over (strictly b a h s)))
            | inr h ↦ elim (same_path a b) as (λ t. same_path a b ≡ t → Some b ≡ Some a) [
              | true ↦ λ r. ap Some (sym ((same_path_is a b).0 r))
              | false ↦ λ r. absurd (apart (test a) passes (first_is_nearest test g b a e above (strictly a b h r)))
            ] refl
          ]
        ] refl

-- a test that no attributes pass is not passed
pub asks_not : (test : Attr → Bool) (o : Option Attr) → ((attr : Attr) → o ≡ Some attr → test attr ≡ false) → asks test o ≡ false
asks_not test None h = refl
asks_not test (Some attr) h = h attr refl
