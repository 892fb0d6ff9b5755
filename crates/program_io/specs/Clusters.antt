-- Clusters of flags among the words of a command line.
use Rattle.std.specs.Prelude.{◌&&◌, ◌||◌, Bool, true, false, not, nat_eq, if◌then◌else◌, List, [], ◌∷◌, codes}
use Rattle.std.specs.Str.{bytes_eq}
use Rattle.clap.specs.Words.{Text}

-- the word asks for the help text or the version
abbrev pub asks_text : Text → Bool
asks_text word = bytes_eq word (codes "-h") || bytes_eq word (codes "-V") || bytes_eq word (codes "--help") || bytes_eq word (codes "--version")

-- a cluster of flags, as `-hV`: one dash (45), and more than one byte after it
abbrev pub is_cluster : Text → Bool
is_cluster [] = false
is_cluster (a ∷ []) = false
is_cluster (a ∷ b ∷ []) = false
is_cluster (a ∷ b ∷ c ∷ rest) = nat_eq a 45 && not (nat_eq b 45)

-- a cluster comes before every word that asks for a text
abbrev pub cluster_first : List Text → Bool
cluster_first [] = false
cluster_first (word ∷ words) = if asks_text word then false else (if is_cluster word then true else cluster_first words)
