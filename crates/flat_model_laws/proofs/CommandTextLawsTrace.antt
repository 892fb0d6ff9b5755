-- The texts of commands, each on a line of its own, are a trace of these commands.
use Rattle.std.proofs.Common.{◌≡◌, ℕ, Bool, true, cond, not, ◌&&◌, List, [], ◌∷◌, ◌++◌, map, append_assoc, refl, ap, ◌∙◌, arith}
use Rattle.std.specs.Prelude.{flat_map}
use Rattle.std.specs.List.{AllByRecursion, join_with_byte, slice_split, onto_first}
use Rattle.std.proofs.lemmas.Bool.{and_parts, and_from, not-true}
use Rattle.std.proofs.lemmas.Bool.Decides.{nat_tests}
use Rattle.flat_model.specs.FileText.{line}
use Rattle.flat_model.specs.Values.{is_space}
use Rattle.flat_model.specs.Command.{Command}
use Rattle.flat_model.specs.CommandText.{command_words, command_text, IsSayable}
use Rattle.flat_model.specs.Trace.{Word, Run, is_line_feed, without_empty_end, lines_in, read_line, read_trace}
use Rattle.flat_model.proofs.LineEnds.{without_empty_end-push}
use Rattle.flat_model_laws.proofs.WordLaws.{is_plain, is_word, are_words}
use Rattle.flat_model_laws.proofs.CommandTextLawsWords.{words_are}
use Rattle.flat_model_laws.proofs.CommandTextLaws.{read_line-command_text}

-- no byte is a line feed
abbrev is_one_line : List ℕ → Bool
is_one_line [] = true
is_one_line (b ∷ bytes) = not (is_line_feed b) && is_one_line bytes

one_line_more : (b : ℕ) (bytes : List ℕ) → not (is_line_feed b) ≡ true → is_one_line bytes ≡ true → is_one_line (b ∷ bytes) ≡ true
one_line_more b bytes h k = and_from (not (is_line_feed b)) (is_one_line bytes) h k

one_line_append : (xs ys : List ℕ) → is_one_line xs ≡ true → is_one_line ys ≡ true → is_one_line (xs ++ ys) ≡ true
one_line_append [] ys h k = k
one_line_append (b ∷ xs) ys h k =
    let p = and_parts (not (is_line_feed b)) (is_one_line xs) h in
    one_line_more b (xs ++ ys) p.0 (one_line_append xs ys p.1 k)

no_feed : (b : ℕ) → not (is_space b) ≡ true → not (is_line_feed b) ≡ true
no_feed b h = grind (arith, nat_tests)

plain_one_line : (w : Word) → is_plain w ≡ true → is_one_line w ≡ true
plain_one_line [] h = refl
plain_one_line (b ∷ w) h =
    let p = and_parts (not (is_space b)) (is_plain w) h in
    one_line_more b w (no_feed b p.0) (plain_one_line w p.1)

word_one_line : (w : Word) → is_word w ≡ true → is_one_line w ≡ true
word_one_line [] h = refl
word_one_line (b ∷ w) h = plain_one_line (b ∷ w) h

joined_one_line : (ws : List Word) → are_words ws ≡ true → is_one_line (join_with_byte 0x20 ws) ≡ true
joined_one_line [] h = refl
joined_one_line (w ∷ []) h = word_one_line w (and_parts (is_word w) true h).0
joined_one_line (w ∷ v ∷ ws) h =
    let p = and_parts (is_word w) (are_words (v ∷ ws)) h in
    let rest = join_with_byte 0x20 (v ∷ ws) in
    one_line_append w (0x20 ∷ rest) (word_one_line w p.0) (one_line_more 0x20 rest refl (joined_one_line (v ∷ ws) p.1))

-- ---- lines

split_line : (t rest : List ℕ) → is_one_line t ≡ true → slice_split is_line_feed (t ++ 0x0A ∷ rest) ≡ t ∷ slice_split is_line_feed rest
split_line [] rest h = refl
split_line (b ∷ t) rest h =
    let p = and_parts (not (is_line_feed b)) (is_one_line t) h in
    let parts = slice_split is_line_feed (t ++ 0x0A ∷ rest) in
    ap (λ f. cond f ([] ∷ parts) (onto_first b parts)) (not-true (is_line_feed b) p.0)
    ∙ ap (onto_first b) (split_line t rest p.1)

abbrev written : List Command → List ℕ
written cs = flat_map (λ c. line (command_text c)) cs

split_written : (cs : List Command) → AllByRecursion IsSayable cs → slice_split is_line_feed (written cs) ≡ map command_text cs ++ [] ∷ []
split_written [] h = refl
split_written (c ∷ cs) h =
    ap (slice_split is_line_feed) (append_assoc (command_text c) (0x0A ∷ []) (written cs))
    ∙ split_line (command_text c) (written cs) (joined_one_line (command_words c) (words_are c h.0))
    ∙ ap (λ (ts : List (List ℕ)). command_text c ∷ ts) (split_written cs h.1)

lines_in-written : (cs : List Command) → AllByRecursion IsSayable cs → lines_in (written cs) ≡ map command_text cs
lines_in-written cs h = ap without_empty_end (split_written cs h) ∙ without_empty_end-push (map command_text cs)

read_texts : (cs : List Command) → AllByRecursion IsSayable cs → map read_line (map command_text cs) ≡ map Run cs
read_texts [] h = refl
read_texts (c ∷ cs) h = λ i. read_line-command_text c h.0 i ∷ read_texts cs h.1 i

pub read_trace-written : (cs : List Command) → AllByRecursion IsSayable cs → read_trace (flat_map (λ c. line (command_text c)) cs) ≡ map Run cs
read_trace-written cs h = ap (map read_line) (lines_in-written cs h) ∙ read_texts cs h
