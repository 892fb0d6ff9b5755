-- A search for a cluster of flags, word by word.
use Rattle.std.proofs.Common.{◌≡◌, ◌∙◌, ℕ, ◌+◌, ◌<◌, ◌≤◌, true, false, List, ◌∷◌, length, get_or, drop, map, ap, sym}
use Rattle.std.proofs.lemmas.List.{at_drop_all, at_drop_more}
use Rattle.clap.specs.Words.{Text}
use Rattle.program_io.specs.Clusters.{asks_text, cluster_first, is_cluster}

-- a word that asks for a text, and a cluster, end the search; it passes by any other word
asks_now : (word : Text) (words : List Text) → asks_text word ≡ true → cluster_first (word ∷ words) ≡ false
asks_now word words a = rw a

clusters_now : (word : Text) (words : List Text) → asks_text word ≡ false → is_cluster word ≡ true → cluster_first (word ∷ words) ≡ true
clusters_now word words a k = rw (a, k)

passes_by : (word : Text) (words : List Text) → asks_text word ≡ false → is_cluster word ≡ false → cluster_first (word ∷ words) ≡ cluster_first words
passes_by word words a k = rw (a, k)

-- x, with this text, is at i in the list
module _ (X : Type 0) (text : X → Text) (xs : List X) (i : ℕ) (x : X) (word : Text) (below : i < length xs) (at : x ≡ get_or xs i x) (is : word ≡ text x) where
  rest : List Text
  rest = map text (drop (i + 1) xs)

  front : cluster_first (map text (drop i xs)) ≡ cluster_first (word ∷ rest)
  unfolding rest
  front = at_drop_more (λ ys. cluster_first (map text ys)) xs i x below ∙ ap (λ t. cluster_first (t ∷ map text (drop (i + 1) xs))) (sym (is ∙ ap text at))

  pub asks_at : asks_text word ≡ true → cluster_first (map text (drop i xs)) ≡ false
  asks_at a = front ∙ asks_now word rest a

  pub clusters_at : asks_text word ≡ false → is_cluster word ≡ true → cluster_first (map text (drop i xs)) ≡ true
  clusters_at a k = front ∙ clusters_now word rest a k

  pub passes_at : asks_text word ≡ false → is_cluster word ≡ false → cluster_first (map text (drop i xs)) ≡ cluster_first (map text (drop (i + 1) xs))
  unfolding rest
  passes_at a k = front ∙ passes_by word rest a k

-- no word is left
pub none_at : (X : Type 0) (text : X → Text) (xs : List X) (i : ℕ) → length xs ≤ i → cluster_first (map text (drop i xs)) ≡ false
none_at X text xs i past = at_drop_all (λ ys. cluster_first (map text ys)) xs i past
