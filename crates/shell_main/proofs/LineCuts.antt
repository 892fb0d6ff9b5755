-- A trace cut after a line feed: its lines come in two parts.
use Rattle.std.proofs.Common.{◌≡◌, ◌∙◌, ℕ, ◌≤◌, Bool, true, false, cond, List, [], ◌∷◌, ◌++◌, map, length, ◌==◌, append_assoc, refl, sym, ap, subst}
use Rattle.std.specs.List.{All, slice_split, onto_first}
use Rattle.std.proofs.lemmas.List.{map-append}
use Rattle.std.proofs.lemmas.List.Elements.{All-append, All-cons, All-nil}
use Rattle.std.proofs.lemmas.List.Splits.{slice_split_at, slice_split_none}
use Rattle.flat_model.specs.Trace.{is_line_feed, lines_in, read_line, read_trace, trace_max, without_empty_end}
use Rattle.flat_model.proofs.LineEnds.{without_empty_end-cons, without_empty_end-push}
use Rattle.shell_main.specs.WholeLines.{HasNoFeed, HasShortLines, ends_line}

-- ---- two texts, of which the first ends with a line

-- a text of whole lines is cut into pieces of which the last is empty, and whatever comes after it is cut alone
record Pieces (text rest : List ℕ) : Type 0 where
  first : List ℕ
  more : List (List ℕ)
  here : slice_split is_line_feed text ≡ first ∷ (more ++ [] ∷ [])
  joined : slice_split is_line_feed (text ++ rest) ≡ first ∷ (more ++ slice_split is_line_feed rest)

pieces_one : (b : ℕ) (rest : List ℕ) → is_line_feed b ≡ true → Pieces (b ∷ []) rest
pieces_one b rest e = record {
  first = [];
  more = [];
  here = ap (λ t. cond t ([] ∷ [] ∷ []) (onto_first b ([] ∷ []))) e;
  joined = ap (λ t. cond t ([] ∷ slice_split is_line_feed rest) (onto_first b (slice_split is_line_feed rest))) e;
}

pieces_more : (b c : ℕ) (text rest : List ℕ) (t : Bool) → is_line_feed b ≡ t → Pieces (c ∷ text) rest → Pieces (b ∷ c ∷ text) rest
pieces_more b c text rest true e p = record {
  first = [];
  more = p.first ∷ p.more;
  here = ap (λ t. cond t ([] ∷ slice_split is_line_feed (c ∷ text)) (onto_first b (slice_split is_line_feed (c ∷ text)))) e ∙ ap (λ (x : List (List ℕ)). [] ∷ x) p.here;
  joined = ap (λ t. cond t ([] ∷ slice_split is_line_feed (c ∷ text ++ rest)) (onto_first b (slice_split is_line_feed (c ∷ text ++ rest)))) e ∙ ap (λ (x : List (List ℕ)). [] ∷ x) p.joined;
}
pieces_more b c text rest false e p = record {
  first = b ∷ p.first;
  more = p.more;
  here = ap (λ t. cond t ([] ∷ slice_split is_line_feed (c ∷ text)) (onto_first b (slice_split is_line_feed (c ∷ text)))) e ∙ ap (onto_first b) p.here;
  joined = ap (λ t. cond t ([] ∷ slice_split is_line_feed (c ∷ text ++ rest)) (onto_first b (slice_split is_line_feed (c ∷ text ++ rest)))) e ∙ ap (onto_first b) p.joined;
}

pieces : (b : ℕ) (text rest : List ℕ) → ends_line (b ∷ text) ≡ true → Pieces (b ∷ text) rest
pieces b [] rest e = pieces_one b rest e
pieces b (c ∷ text) rest e = pieces_more b c text rest (is_line_feed b) refl (pieces c text rest e)

all_kept : (first : List ℕ) (more : List (List ℕ)) (rest : List ℕ) → without_empty_end (first ∷ (more ++ slice_split is_line_feed rest)) ≡ first ∷ (more ++ lines_in rest)
all_kept first [] rest = without_empty_end-cons first rest
all_kept first (x ∷ more) rest = ap (λ (xs : List (List ℕ)). first ∷ xs) (all_kept x more rest)

pub lines_cut : (text rest : List ℕ) → ends_line text ≡ true → lines_in (text ++ rest) ≡ lines_in text ++ lines_in rest
lines_cut [] rest e = refl
lines_cut (b ∷ text) rest e =
    let p = pieces b text rest e in
    ap without_empty_end p.joined ∙ all_kept p.first p.more rest
    ∙ sym (ap (λ ls. ls ++ lines_in rest) (ap without_empty_end p.here ∙ without_empty_end-push (p.first ∷ p.more)))

pub trace_cut : (text rest : List ℕ) → ends_line text ≡ true → read_trace (text ++ rest) ≡ read_trace text ++ read_trace rest
trace_cut text rest e = ap (map read_line) (lines_cut text rest e) ∙ map-append read_line (lines_in text) (lines_in rest)

-- ---- a line alone

-- a line with its line feed is one line
one_line : (line : List ℕ) → HasNoFeed line → lines_in (line ++ 0x0A ∷ []) ≡ line ∷ []
one_line line h = ap without_empty_end (slice_split_at is_line_feed line 0x0A [] h refl)

-- and so is a last line without one
last_line : (line : List ℕ) → HasNoFeed line → (length line == 0) ≡ false → lines_in line ≡ line ∷ []
last_line line h some = ap without_empty_end (slice_split_none is_line_feed line h) ∙ ap (λ t. cond t [] (line ∷ [])) some

ended : (text : List ℕ) → ends_line (text ++ 0x0A ∷ []) ≡ true
ended [] = refl
ended (b ∷ []) = refl
ended (b ∷ c ∷ text) = ended (c ∷ text)

-- ---- one line more, with its line feed or without

-- this text has one line more than these whole lines
pub record HasOneMore (lines line text : List ℕ) : Type 0 where
  pub reads : read_trace text ≡ read_trace lines ++ read_line line ∷ []
  pub short : HasShortLines lines → length line ≤ trace_max → HasShortLines text

one_more : (lines line text : List ℕ) → ends_line lines ≡ true → lines_in text ≡ line ∷ [] → HasOneMore lines line (lines ++ text)
one_more lines line text e h =
    let both : lines_in (lines ++ text) ≡ lines_in lines ++ line ∷ [] = lines_cut lines text e ∙ ap (λ ls. lines_in lines ++ ls) h in
    let P : List ℕ → Type 0 = λ l. length l ≤ trace_max in
    record {
      reads = ap (map read_line) both ∙ map-append read_line (lines_in lines) (line ∷ []);
      short = λ s m. subst (All P) (sym both) (All-append P (lines_in lines) (line ∷ []) s (All-cons P line [] m (All-nil P)));
    }

pub with_feed : (lines line : List ℕ) → ends_line lines ≡ true → HasNoFeed line → HasOneMore lines line (lines ++ (line ++ 0x0A ∷ []))
with_feed lines line e h = one_more lines line (line ++ 0x0A ∷ []) e (one_line line h)

pub without_feed : (lines line : List ℕ) → ends_line lines ≡ true → HasNoFeed line → (length line == 0) ≡ false → HasOneMore lines line (lines ++ line)
without_feed lines line e h some = one_more lines line line e (last_line line h some)

pub ends_more : (lines line : List ℕ) → ends_line (lines ++ (line ++ 0x0A ∷ [])) ≡ true
ends_more lines line = ap ends_line (sym (append_assoc lines line (0x0A ∷ []))) ∙ ended (lines ++ line)
